-- The rows that were heard in the open call to the pieces of a scan, as is kept.
use Rattle.std.specs.Prelude.{◌≡◌, ℕ, Bool, true, false, ◌++◌, List, [], ◌∷◌, map, Any, IsTrue}
use Rattle.pc_base.specs.declared.span.Span.{Span}
use Rattle.pc_known.specs.declared.sends.Sends.{Sends}
use Rattle.pc_known.specs.Sends.{is_number_now}
use Rattle.pc_proto.specs.declared.answer.Answer.{Answer}
use Rattle.pc_proto.specs.declared.answer.Answer.TheVariants as answers
use Rattle.pc_proto.specs.declared.reply.Origin.{Origin}
use Rattle.pc_world.specs.Known.Traffic.{Heard}
use Rattle.pc_world.specs.Tell.Data.{AreRowsOf, told_row}

-- The reply is to this piece, which was sent in the open call, and has rows with which these begin and others go on.
abbrev pub GoOnAfter : Sends → Span → List (List ℕ × Origin × List ℕ) → List (List ℕ × Origin × List ℕ) → Heard → Type 0
GoOnAfter x span rows later h =
    IsTrue (is_number_now x h.number)
    × ((found : List (List ℕ × Origin × List ℕ)) × AreRowsOf span found h.request h.reply × (rows ≡ map told_row found ++ later))

-- The rows are those that were heard to each piece in turn.
abbrev pub AreRowsNow : Sends → List Heard → List (ℕ × Span) → List (List ℕ × Origin × List ℕ) → Type 0
AreRowsNow x heard [] rows = rows ≡ []
AreRowsNow x heard (p ∷ ps) rows =
    Any (λ h. (later : List (List ℕ × Origin × List ℕ)) × GoOnAfter x p.1 rows later h × AreRowsNow x heard ps later) heard

-- The answer tells rows.
abbrev pub is_rows : Answer → Bool
is_rows (answers.Rows rows) = true
is_rows _ = false
