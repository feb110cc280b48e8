-- The rows heard to the pieces of a scan, as is kept and as is known.
use Rattle.std.proofs.Common.{◌≡◌, ◌↔◌, ℕ, Any, List, [], ◌∷◌, Some, sym, subst, ◌∙◌}
use Rattle.pc_base.specs.declared.span.Span.{Span}
use Rattle.pc_known.proofs.Marked.{number_now}
use Rattle.pc_known.specs.declared.sends.Sends.{Sends}
use Rattle.pc_known.specs.Sends.{KeepsSends}
use Rattle.pc_may_tell.proofs.Telling.{Row}
use Rattle.pc_may_tell.specs.Scanned.{AreRowsNow, GoOnAfter}
use Rattle.pc_proto.specs.declared.call.Call.TheVariants as calls
use Rattle.pc_world.specs.Known.{Known}
use Rattle.pc_world.specs.Known.Statements.{Statement}
use Rattle.pc_world.specs.Known.Traffic.{Heard}
use Rattle.pc_world.specs.RangeOf.{pieces}
use Rattle.pc_world.specs.Tell.Data.{AreRowsOfAll, MayTellRows}

-- The rows go on after this reply with those heard to the other pieces.
abbrev pub GoesOn : Sends → List Heard → Span → List (ℕ × Span) → List Row → Heard → Type 0
GoesOn x heard span others rows h = (later : List Row) × GoOnAfter x span rows later h × AreRowsNow x heard others later

pub only_later : (one two : List Row) → Some one ≡ Some two → one ≡ two
only_later one two e = cc

-- The first piece is that of this span.
pub first_piece : (x : Sends) (heard : List Heard) (cut others : List (ℕ × Span)) (p : ℕ × Span) (span : Span) (rows : List Row) → cut ≡ p ∷ others → p.1 ≡ span
    → AreRowsNow x heard cut rows ↔ Any (GoesOn x heard span others rows) heard
first_piece x heard cut others p span rows is same = (
  λ a. subst (λ z. Any (GoesOn x heard z others rows) heard) same (subst (λ ps. AreRowsNow x heard ps rows) is a),
  λ a. subst (λ ps. AreRowsNow x heard ps rows) (sym is) (subst (λ z. Any (GoesOn x heard z others rows) heard) (sym same) a),
)

module _ (k : Known) (x : Sends) (stands : KeepsSends k x) where
  there : (ps : List (ℕ × Span)) (rows : List Row) → AreRowsNow x k.heard_now ps rows → AreRowsOfAll k ps rows
  there [] rows h = h
  there (p ∷ ps) rows a =
      let e = a.4 in
      (e.1.1.0, e.0, (a.0, a.1, a.2, a.3, (sym (number_now k x a.1.number stands) ∙ e.1.0, e.1.1.1)), e.1.1.2, there ps e.0 e.2)

  back : (ps : List (ℕ × Span)) (rows : List Row) → AreRowsOfAll k ps rows → AreRowsNow x k.heard_now ps rows
  back [] rows h = h
  back (p ∷ ps) rows h =
      let a = h.2 in
      (a.0, a.1, a.2, a.3, (h.1, (number_now k x a.1.number stands ∙ a.4.0, (h.0, a.4.1, h.3)), back ps h.1 h.4))

  pub rows_told : (splits : List (List ℕ)) (s : Statement) (span : Span) (rows : List Row) → s.call ≡ calls.Scan span
      → AreRowsNow x k.heard_now (pieces splits span) rows ↔ MayTellRows splits k s rows
  rows_told splits s span rows is = (
    λ h. record { span = span; asked = is; heard = there (pieces splits span) rows h },
    λ (m : MayTellRows splits k s rows).
        let same : m.span ≡ span = scan-is m.span span (sym m.asked ∙ is) in
        back (pieces splits span) rows (subst (λ z. AreRowsOfAll k (pieces splits z) rows) same m.heard),
  )
    where
      scan-is : (one other : Span) → calls.Scan one ≡ calls.Scan other → one ≡ other
      scan-is one other e = cc
