use Rattle.std.proofs.Common.{◌≡◌, ◌≤◌, ℕ, List, true, All, Any, length, refl, sym, subst}
use Rattle.std.proofs.lemmas.List.{take_all}
use Rattle.std.proofs.lemmas.List.Elements.{All-more}
use Rattle.pc_world.specs.Send.Recovery.{WasFound}
use Rattle.pc_may_send.proofs.recovery.all_found.Goals as goal

pub returns-then-not-some_found : goal.returns-then-not-some_found
returns-then-not-some_found c = (
  λ h. absurd cc,
  λ (all : All (λ w. Any (WasFound c.args.id c.args.epoch c.args.ts w) c.args.heard.now) c.args.writes.now).
      let P : List ℕ × ℕ → Type 0 = (λ w. Any (WasFound c.args.id c.args.epoch c.args.ts w) c.args.heard.now) in
      let on : c.some_found.result ≡ true = c.some_found.ensures.1 (subst P (sym c.write-item.is) (all c.loop-write.write-index c.write-item.result c.loop-write-test.true)) in
      let off = c.if-not-some_found.true in
      absurd (cc (on, off)),
)

pub loop-write-preserved : goal.loop-write-preserved
loop-write-preserved c =
    let P : List ℕ × ℕ → Type 0 = (λ w. Any (WasFound c.args.id c.args.epoch c.args.ts w) c.args.heard.now) in
    All-more P c.args.writes.now c.loop-write.write-index c.write-item.result c.loop-write-test.true c.loop-write.invariant
    (subst P c.write-item.is (c.some_found.ensures.0 c.if-not-some_found.false))

pub returns : goal.returns
returns c =
    let P : List ℕ × ℕ → Type 0 = (λ w. Any (WasFound c.args.id c.args.epoch c.args.ts w) c.args.heard.now) in
    let end : length c.args.writes.now ≤ c.loop-write.write-index = c.loop-write-test.false in
    (λ h. subst (All P) (take_all c.loop-write.write-index c.args.writes.now end) c.loop-write.invariant, λ h. refl)
