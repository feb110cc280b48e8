use Rattle.std.proofs.Common.{◌≡◌, ◌∷◌, ℕ, All, true, ap, refl, sym, subst}
use Rattle.std.proofs.lemmas.List.{take_all}
use Rattle.std.proofs.lemmas.List.Elements.{All-contains, All-more}
use Rattle.pc_base.specs.declared.span.Span.{Span}
use Rattle.pc_known.specs.Parts.{part_span}
use Rattle.pc_may_tell.proofs.Scans.{GoesOn, first_piece, only_later}
use Rattle.pc_may_tell.proofs.rows.+are_rows_now.Goals as goal
use Rattle.pc_may_tell.specs.Scanned.{AreRowsNow}
use Rattle.pc_world.specs.Known.Traffic.{Heard}

pub returns-then-are_rows_now : goal.returns-then-are_rows_now
returns-then-are_rows_now t c =
    let span = part_span c.piece.inside.part in
    let cut : c.args.cut.now ≡ c.in-Some.piece.now ∷ c.in-Some.others.now = c.in-Some.ensures.cases.0 in
    let same : c.in-Some.piece.now.1 ≡ span = ap (λ (p : ℕ × Span). p.1) (sym c.piece.view_is) in
    let later = c.in-Some-after_reply.later.now in
    let goes : GoesOn c.args.sends.now c.args.heard.now span c.in-Some.others.now c.args.rows.now c.hearing-item.result =
    (later, (c.in-Some-after_reply.ensures later).0 refl, c.are_rows_now.ensures.0 c.if-are_rows_now.true) in (
      λ ok. (first_piece c.args.sends.now c.args.heard.now c.args.cut.now c.in-Some.others.now c.in-Some.piece.now span c.args.rows.now cut same).1
          (c.loop-hearing.hearing-index, c.hearing-item.result, c.loop-hearing-test.true, sym c.hearing-item.is, goes),
      λ m. refl,
    )

pub returns-after-loop-hearing : goal.returns-after-loop-hearing
returns-after-loop-hearing t c =
    let span = part_span c.piece.inside.part in
    let cut : c.args.cut.now ≡ c.in-Some.piece.now ∷ c.in-Some.others.now = c.in-Some.ensures.cases.0 in
    let same : c.in-Some.piece.now.1 ≡ span = ap (λ (p : ℕ × Span). p.1) (sym c.piece.view_is) in
    let P : Heard → Type 0 = λ h. GoesOn c.args.sends.now c.args.heard.now span c.in-Some.others.now c.args.rows.now h → ⊥ in
    let none : All P c.args.heard.now = subst (All P) (take_all c.loop-hearing.hearing-index c.args.heard.now c.loop-hearing-test.false) c.loop-hearing.invariant in (
      λ h. absurd cc,
      λ m.
          let a = (first_piece c.args.sends.now c.args.heard.now c.args.cut.now c.in-Some.others.now c.in-Some.piece.now span c.args.rows.now cut same).0 m in
          absurd (All-contains P c.args.heard.now a.1 none (a.0, a.2, a.3) a.4),
    )

pub loop-hearing-preserved-in-None-after_reply : goal.loop-hearing-preserved-in-None-after_reply
loop-hearing-preserved-in-None-after_reply t c =
    let span = part_span c.piece.inside.part in
    let P : Heard → Type 0 = λ h. GoesOn c.args.sends.now c.args.heard.now span c.in-Some.others.now c.args.rows.now h → ⊥ in
    let here : P c.hearing-item.result = λ g. let found = (c.in-None-after_reply.ensures g.0).1 g.1 in cc found in
    All-more P c.args.heard.now c.loop-hearing.hearing-index c.hearing-item.result c.loop-hearing-test.true c.loop-hearing.invariant (subst P c.hearing-item.is here)

pub loop-hearing-preserved : goal.loop-hearing-preserved
loop-hearing-preserved t c =
    let span = part_span c.piece.inside.part in
    let P : Heard → Type 0 = λ h. GoesOn c.args.sends.now c.args.heard.now span c.in-Some.others.now c.args.rows.now h → ⊥ in
    let here : P c.hearing-item.result =
    λ g.
    let same = only_later c.in-Some-after_reply.later.now g.0 ((c.in-Some-after_reply.ensures g.0).1 g.1) in
    let on : c.are_rows_now.result ≡ true = c.are_rows_now.ensures.1 (subst (AreRowsNow c.args.sends.now c.args.heard.now c.in-Some.others.now) (sym same) g.2) in
    let off = c.if-are_rows_now.false in
    cc (on, off) in
    All-more P c.args.heard.now c.loop-hearing.hearing-index c.hearing-item.result c.loop-hearing-test.true c.loop-hearing.invariant (subst P c.hearing-item.is here)
