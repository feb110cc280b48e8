-- Which rule a text of a workload breaks: one that stands for a key, a value, a span or a transaction.
use Rattle.std.specs.Prelude.{ℕ, Bool, true, false, ◌&&◌, ◌||◌, List, [], ◌∷◌, Option, Some, is_some}
use Rattle.serde_json.specs.Data.{Data}
use Rattle.serde_json.specs.Find.{as_str}
use Rattle.pc_base.specs.Span.{key_below}
use Rattle.pc_work.specs.Reading.{◌>>=◌}
use Rattle.pc_work.specs.Learn.{learnt_in}
use Rattle.pc_work.specs.Lists.{pair_of}
use Rattle.pc_work.specs.Refusal.{judged, unless}
use Rattle.pc_work.specs.Texts.{spells_key, spells_value}
use Rattle.pc_work.specs.declared.refusal.TheConstants.{WRONG_TEXT}

-- A text that is to spell a key.
abbrev pub key_refusal : Data → Option ℕ
key_refusal value = judged (λ text. unless (spells_key text) WRONG_TEXT) (as_str value)

-- A text that is to spell a value.
abbrev pub value_refusal : Data → Option ℕ
value_refusal value = judged (λ text. unless (spells_value text) WRONG_TEXT) (as_str value)

-- The text is empty.
abbrev pub is_empty_text : List ℕ → Bool
is_empty_text [] = true
is_empty_text (byte ∷ bytes) = false

-- The text spells the end of a span: an open one or a key.
abbrev pub spells_end : List ℕ → Bool
spells_end text = is_empty_text text || spells_key text

-- The two texts spell the ends of a span: where both are stated, the first key stands before the second.
abbrev pub spells_span : List ℕ → List ℕ → Bool
spells_span from to = spells_end from && spells_end to && (is_empty_text from || is_empty_text to || key_below from to)

-- The two texts of a list of exactly two.
unfoldable pub two_texts : Data → Option (List ℕ × List ℕ)
two_texts value = do
  both ← pair_of value
  from ← as_str both.0
  to ← as_str both.1
  Some (from, to)

-- Two texts that are to spell a span.
abbrev pub span_refusal : Data → Option ℕ
span_refusal value = judged (λ ends. unless (spells_span ends.0 ends.1) WRONG_TEXT) (two_texts value)

-- A text that is to name a transaction.
abbrev pub learn_refusal : Data → Option ℕ
learn_refusal value = judged (λ text. unless (is_some (learnt_in text)) WRONG_TEXT) (as_str value)
