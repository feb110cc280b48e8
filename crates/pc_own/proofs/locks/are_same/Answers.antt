use Rattle.std.proofs.Common.{◌≡◌, ◌∷◌, ◌++◌, ℕ, List, map, refl, sym, ◌∙◌, rules}
use Rattle.std.proofs.lemmas.Map.Iter.{rest_more, rest_so_far}
use Rattle.std.specs.Map.Iter.{deref}
use Rattle.pc_own.proofs.Walking.{rests_same, walked_more}
use Rattle.pc_own.proofs.locks.are_same.Goals as goal

pub returns-in_default : goal.returns-in_default
returns-in_default c = (
  λ h. absurd cc,
  λ same.
      let front : List (List ℕ) = map deref c.loop-lock.yielded in
      let all : c.args.locks.now.keys ≡ front ++ c.in-Some.lock.now ∷ c.next.new.self = search (rules, rest_so_far, rest_more) in
      let rest : c.loop-lock.rest.now ≡ c.in-Some.lock.now ∷ c.next.new.self = rests_same front c.loop-lock.rest.now (c.in-Some.lock.now ∷ c.next.new.self) (sym c.loop-lock.invariant ∙ same ∙ all) in
      let some = c.after.ensures.none c.next.new.self rest in
      absurd (search rules),
)

pub loop-lock-preserved : goal.loop-lock-preserved
loop-lock-preserved c =
    let first : c.loop-lock.rest.now ≡ c.in-Some.lock.now ∷ c.in-Some-after.later.now = c.in-Some-after.ensures.some c.in-Some-after.later.now refl in
    walked_more deref c.loop-lock.yielded c.in-Some.lock c.args.keys.now c.loop-lock.rest.now c.in-Some-after.later.now c.loop-lock.invariant first
