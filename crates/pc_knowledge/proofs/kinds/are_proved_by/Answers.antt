use Rattle.std.proofs.Common.{◌≡◌, ◌≤◌, true, All, length, refl, sym, subst}
use Rattle.std.proofs.lemmas.List.{take_all}
use Rattle.std.proofs.lemmas.List.Elements.{All-more}
use Rattle.pc_world.specs.Known.Writes.{IsProvedBy, Write}
use Rattle.pc_knowledge.proofs.kinds.are_proved_by.Goals as goal

pub returns-then-not-is_proved_by : goal.returns-then-not-is_proved_by
returns-then-not-is_proved_by c = (
  λ h. absurd cc,
  λ (all : All (IsProvedBy c.args.ts) c.args.writes.now).
      let P : Write → Type 0 = (IsProvedBy c.args.ts) in
      let on : c.is_proved_by.result ≡ true = c.is_proved_by.ensures.1 (subst P (sym c.write-item.is) (all c.loop-write.write-index c.write-item.result c.loop-write-test.true)) in
      let off = c.if-not-is_proved_by.true in
      absurd (cc (on, off)),
)

pub loop-write-preserved : goal.loop-write-preserved
loop-write-preserved c =
    let P : Write → Type 0 = (IsProvedBy c.args.ts) in
    All-more P c.args.writes.now c.loop-write.write-index c.write-item.result c.loop-write-test.true c.loop-write.invariant
    (subst P c.write-item.is (c.is_proved_by.ensures.0 c.if-not-is_proved_by.false))

pub returns : goal.returns
returns c =
    let P : Write → Type 0 = (IsProvedBy c.args.ts) in
    let end : length c.args.writes.now ≤ c.loop-write.write-index = c.loop-write-test.false in
    (λ h. subst (All P) (take_all c.loop-write.write-index c.args.writes.now end) c.loop-write.invariant, λ h. refl)
