use Rattle.std.proofs.Common.{◌≡◌, ◌≤◌, ℕ, List, true, All, Any, length, refl, sym, subst}
use Rattle.std.proofs.lemmas.List.{take_all}
use Rattle.std.proofs.lemmas.List.Elements.{All-more}
use Rattle.pc_world.specs.Send.Settling.{WasResolved}
use Rattle.pc_may_send.proofs.settling.all_resolved.Goals as goal

pub returns-then-not-was_resolved : goal.returns-then-not-was_resolved
returns-then-not-was_resolved c k keeps = (
  λ h. absurd cc,
  λ (all : All (λ key. Any (WasResolved c.args.id key) k.heard) c.args.keys.now).
      let P : List ℕ → Type 0 = (λ key. Any (WasResolved c.args.id key) k.heard) in
      let on : c.was_resolved.result ≡ true = (c.was_resolved.ensures k keeps).1 (subst P (sym c.key-item.is) (all c.loop-key.key-index c.key-item.result c.loop-key-test.true)) in
      let off = c.if-not-was_resolved.true in
      absurd (cc (on, off)),
)

pub loop-key-preserved : goal.loop-key-preserved
loop-key-preserved c k keeps =
    let P : List ℕ → Type 0 = (λ key. Any (WasResolved c.args.id key) k.heard) in
    All-more P c.args.keys.now c.loop-key.key-index c.key-item.result c.loop-key-test.true (c.loop-key.invariant k keeps)
    (subst P c.key-item.is ((c.was_resolved.ensures k keeps).0 c.if-not-was_resolved.false))

pub returns : goal.returns
returns c k keeps =
    let P : List ℕ → Type 0 = (λ key. Any (WasResolved c.args.id key) k.heard) in
    let end : length c.args.keys.now ≤ c.loop-key.key-index = c.loop-key-test.false in
    (λ h. subst (All P) (take_all c.loop-key.key-index c.args.keys.now end) (c.loop-key.invariant k keeps), λ h. refl)
