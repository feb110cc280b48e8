use Rattle.std.proofs.Common.{◌≡◌, ◌∷◌, ◌++◌, [], ℕ, List, true, All, Any, map, refl, sym, subst, ◌∙◌, rules}
use Rattle.std.proofs.lemmas.List.{append-nil}
use Rattle.std.proofs.lemmas.Map.Iter.{rest_all, rest_more, rest_so_far}
use Rattle.std.specs.Map.Iter.{deref}
use Rattle.pc_may_send.proofs.Walking.{all_of_last, all_with_last, map_with_last}
use Rattle.pc_world.specs.Send.Settling.{WasResolved}
use Rattle.pc_may_send.proofs.settling.are_own_resolved.Goals as goal

pub returns-then-not-is_lock_resolved : goal.returns-then-not-is_lock_resolved
returns-then-not-is_lock_resolved c k keeps = (
  λ h. absurd cc,
  λ (all : All (λ key. Any (WasResolved c.args.id key) k.heard) c.args.locks.now).
      let P : List ℕ → Type 0 = (λ key. Any (WasResolved c.args.id key) k.heard) in
      let front : List (List ℕ) = map deref c.loop-lock.yielded in
      let split : c.args.locks.now ≡ front ++ c.in-Some.lock.now ∷ c.next.new.self = search (rules, rest_so_far, rest_more) in
      let on : c.is_lock_resolved.result ≡ true = (c.is_lock_resolved.ensures k keeps).1 (all_of_last P front c.in-Some.lock.now c.next.new.self (subst (All P) split all)) in
      let off = c.if-not-is_lock_resolved.true in
      absurd (cc (on, off)),
)

pub loop-lock-preserved : goal.loop-lock-preserved
loop-lock-preserved c k keeps =
    let P : List ℕ → Type 0 = (λ key. Any (WasResolved c.args.id key) k.heard) in
    subst (All P) (map_with_last deref c.loop-lock.yielded c.in-Some.lock)
    (all_with_last P (map deref c.loop-lock.yielded) c.in-Some.lock.now (c.loop-lock.invariant k keeps) ((c.is_lock_resolved.ensures k keeps).0 c.if-not-is_lock_resolved.false))

pub returns : goal.returns
returns c k keeps =
    let P : List ℕ → Type 0 = (λ key. Any (WasResolved c.args.id key) k.heard) in
    let front : List (List ℕ) = map deref c.loop-lock.yielded in
    let whole : c.args.locks.now ≡ front ++ [] = search (rules, rest_so_far, rest_all) in
    (λ h. subst (All P) (sym (append-nil front) ∙ sym whole) (c.loop-lock.invariant k keeps), λ h. refl)
