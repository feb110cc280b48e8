-- Plain searches of a range's intents, at most one under each key.
use Rattle.std.specs.Prelude.{ℕ, max, nat_le, nat_lt, Bool, ◌&&◌, not, if◌then◌else◌, Option, None, Some, List, [], ◌∷◌, ◌++◌, filter, fold}
use Rattle.std.specs.Option.{option_map}
use Rattle.pc_base.specs.declared.span.Span.{Span}
use Rattle.pc_base.specs.declared.transaction.TxnId.{TxnId}
use Rattle.pc_base.specs.Keyed.{at}
use Rattle.pc_base.specs.Span.{contains, key_below, same_key}
use Rattle.pc_base.specs.Transaction.{same_txn}
use Rattle.pc_proto.specs.declared.meta.TxnMeta.{TxnMeta}
use Rattle.pc_proto.specs.declared.record.Intent.{Intent}

-- The value, where it passes the test.
abbrev pub kept_if : {A : Type 0} → (A → Bool) → Option A → Option A
kept_if test None = None
kept_if test (Some x) = if test x then Some x else None

-- The intent at a key.
abbrev pub intent_at : List ℕ → List (List ℕ × Intent) → Option Intent
intent_at key intents = at same_key key intents

-- The transaction's own intent at a key.
abbrev pub own_at : TxnId → List ℕ → List (List ℕ × Intent) → Option Intent
own_at id key intents = kept_if (λ i. same_txn i.meta.id id) (intent_at key intents)

-- Another transaction's intent at a key.
abbrev pub other_at : TxnId → List ℕ → List (List ℕ × Intent) → Option Intent
other_at id key intents = kept_if (λ i. not (same_txn i.meta.id id)) (intent_at key intents)

-- The entry of the lesser key.
abbrev pub lesser_key : Option (List ℕ × Intent) → List ℕ × Intent → Option (List ℕ × Intent)
lesser_key None e = Some e
lesser_key (Some best) e = if key_below e.0 best.0 then Some e else Some best

-- Another transaction's intent in a span, at or below a timestamp, of least key.
abbrev pub first_other : Span → ℕ → TxnId → List (List ℕ × Intent) → Option (List ℕ × Intent)
first_other span ts id intents =
    fold lesser_key None (filter (λ e. contains span e.0 && (nat_le e.1.ts ts && not (same_txn e.1.meta.id id))) intents)

-- The greatest sequence that the intent has.
abbrev pub last_seq : Intent → ℕ
last_seq i = fold (λ most w. max most w.0) 0 i.history

-- The write of the greater sequence, the later one where they are equal.
abbrev pub later_write : Option (ℕ × Option (List ℕ)) → ℕ × Option (List ℕ) → Option (ℕ × Option (List ℕ))
later_write None w = Some w
later_write (Some best) w = if nat_lt w.0 best.0 then Some best else Some w

-- What the intent's write of the greatest sequence says.
abbrev pub last_value : Intent → Option (Option (List ℕ))
last_value i = option_map (λ w. w.1) (fold later_write None i.history)

-- What the intent's write of the greatest sequence that is not above this one says.
abbrev pub value_by : ℕ → Intent → Option (Option (List ℕ))
value_by seq i = option_map (λ w. w.1) (fold later_write None (filter (λ w. nat_le w.0 seq) i.history))

-- The intent with one more write, at this timestamp.
abbrev pub grown : ℕ → ℕ → Option (List ℕ) → Intent → Intent
grown seq ts value i = record i { ts = ts; history = i.history ++ (seq, value) ∷ [] }

-- A new intent of one write.
abbrev pub fresh : TxnMeta → ℕ → ℕ → Option (List ℕ) → Intent
fresh meta seq ts value = record { meta = meta; ts = ts; history = (seq, value) ∷ [] }
