-- What a put comes to, by the intent that stands at its key once a fresh one was laid where none stood.
use Rattle.std.proofs.Common.{◌≡◌, ℕ, Bool, true, false, max, if◌then◌else◌, List, Option, None, Some, ◌&&◌, refl, sym, ap, ◌∙◌, arith}
use Rattle.std.proofs.lemmas.Grind.{common_steps}
use Rattle.std.proofs.lemmas.Map.Steps.{set_value_same}
use Rattle.std.specs.BTreeMap.{insert_entry, is_at}
use Rattle.std.specs.Cmp.Lexicographic.{slice_cmp}
use Rattle.std.specs.List.Sorted.{IsStrictlySortedBy}
use Rattle.std.specs.Map.{keys_of, lookup}
use Rattle.std.specs.Option.{UnwrapsOrElse}
use Rattle.std.specs.Ordering.{nat_cmp}
use Rattle.pc_base.proofs.KeyTables.{key_lookup, key_written}
use Rattle.pc_base.specs.Transaction.{same_txn}
use Rattle.pc_proto.specs.declared.meta.TxnMeta.{TxnMeta}
use Rattle.pc_proto.specs.declared.record.Intent.{Intent}
use Rattle.pc_proto.specs.Intents.{fresh, intent_at}
use Rattle.pc_intent.specs.Coming.{comes_to, intent_then, stands_already}
use Rattle.pc_world.specs.Evaluation.IntentChange.{intents_with}
use Rattle.pc_world.specs.Evaluation.Put.{PutOutcome, Meets, Stands, Lands, is_overtaken_by, laid, put_change, put_reply}

fresh-stands-already : (meta : TxnMeta) (seq ts : ℕ) (value : Option (List ℕ)) → stands_already meta seq (fresh meta seq ts value) ≡ true
fresh-stands-already meta seq ts value = grind (arith, common_steps)

fresh-stands : (meta : TxnMeta) (seq ts : ℕ) (value : Option (List ℕ)) → comes_to meta seq ts value (Some (fresh meta seq ts value)) ≡ Stands ts
fresh-stands meta seq ts value = both (same_txn meta.id meta.id) (is_overtaken_by meta seq (fresh meta seq ts value)) (fresh-stands-already meta seq ts value)
  where
    both : (same past : Bool) → (same && past) ≡ true → (if same then (if past then Stands ts else Lands (laid meta seq (max ts ts) value (Some (fresh meta seq ts value)))) else Meets (fresh meta seq ts value)) ≡ Stands ts
    both true true h = refl
    both true false h = absurd cc
    both false past h = absurd cc

module _ (meta : TxnMeta) (seq ts : ℕ) (key : List ℕ) (value : Option (List ℕ)) (es : List (List ℕ × Intent)) (i new : Intent) (sorted : IsStrictlySortedBy (slice_cmp nat_cmp) (keys_of es))
    (stands : UnwrapsOrElse (lookup (is_at (slice_cmp nat_cmp key)) es) (λ (j : Intent). j ≡ fresh meta seq ts value) i) where
  -- What the put comes to.
  abbrev coming : PutOutcome
  coming = comes_to meta seq ts value (intent_at key es)

  same-there : lookup (is_at (slice_cmp nat_cmp key)) es ≡ Some i → insert_entry (slice_cmp nat_cmp) es key i ≡ es
  same-there found = sym (key_written key es i i sorted found) ∙ set_value_same (is_at (slice_cmp nat_cmp key)) es i found

  there-comes : lookup (is_at (slice_cmp nat_cmp key)) es ≡ Some i → comes_to meta seq ts value (Some i) ≡ coming
  there-comes found = ap (comes_to meta seq ts value) (sym found ∙ key_lookup key es)

  none-comes : lookup (is_at (slice_cmp nat_cmp key)) es ≡ None → Lands (fresh meta seq ts value) ≡ coming
  none-comes absent = ap (comes_to meta seq ts value) (sym absent ∙ key_lookup key es)

  fresh-comes : i ≡ fresh meta seq ts value → comes_to meta seq ts value (Some i) ≡ Stands ts
  fresh-comes is = ap (λ (j : Intent). comes_to meta seq ts value (Some j)) is ∙ fresh-stands meta seq ts value

  -- The intent stood there, or none did and it is the fresh one.
  by-lookup : (Q : Type 0) → (lookup (is_at (slice_cmp nat_cmp key)) es ≡ Some i → Q) → (lookup (is_at (slice_cmp nat_cmp key)) es ≡ None → i ≡ fresh meta seq ts value → Q) → Q
  by-lookup Q there none = by (lookup (is_at (slice_cmp nat_cmp key)) es) refl stands
    where
      by : (o : Option Intent) → lookup (is_at (slice_cmp nat_cmp key)) es ≡ o → UnwrapsOrElse o (λ (j : Intent). j ≡ fresh meta seq ts value) i → Q
      by None is h = none is h
      by (Some j) is h = there (is ∙ ap Some (sym h))

  pub answered : put_reply key (comes_to meta seq ts value (Some i)) ≡ put_reply key coming
  answered = by-lookup (put_reply key (comes_to meta seq ts value (Some i)) ≡ put_reply key coming)
      (λ found. ap (put_reply key) (there-comes found))
      (λ absent is. ap (put_reply key) (fresh-comes is) ∙ ap (put_reply key) (none-comes absent))

  changed : (outcome : PutOutcome) → lookup (is_at (slice_cmp nat_cmp key)) es ≡ Some i → intent_then (put_change outcome) i ≡ new → insert_entry (slice_cmp nat_cmp) es key new ≡ intents_with key (put_change outcome) es
  changed (Meets j) found is = ap (insert_entry (slice_cmp nat_cmp) es key) (sym is) ∙ same-there found
  changed (Stands at) found is = ap (insert_entry (slice_cmp nat_cmp) es key) (sym is) ∙ same-there found
  changed (Lands j) found is = ap (insert_entry (slice_cmp nat_cmp) es key) (sym is)

  pub laid_there_or_first : new ≡ intent_then (put_change (comes_to meta seq ts value (Some i))) i → insert_entry (slice_cmp nat_cmp) es key new ≡ intents_with key (put_change coming) es
  laid_there_or_first made = by-lookup (insert_entry (slice_cmp nat_cmp) es key new ≡ intents_with key (put_change coming) es)
      (λ found. changed (comes_to meta seq ts value (Some i)) found (sym made) ∙ ap (λ o. intents_with key (put_change o) es) (there-comes found))
      (λ absent is.
      let same : new ≡ fresh meta seq ts value = made ∙ (ap (λ o. intent_then (put_change o) i) (fresh-comes is) ∙ is) in
      ap (insert_entry (slice_cmp nat_cmp) es key) same ∙ ap (λ o. intents_with key (put_change o) es) (none-comes absent))

  pub left_there : new ≡ i → stands_already meta seq i ≡ false → insert_entry (slice_cmp nat_cmp) es key new ≡ es
  left_there same not = by-lookup (insert_entry (slice_cmp nat_cmp) es key new ≡ es)
      (λ found. ap (insert_entry (slice_cmp nat_cmp) es key) same ∙ same-there found)
      (λ absent is. let yes : stands_already meta seq i ≡ true = ap (stands_already meta seq) is ∙ fresh-stands-already meta seq ts value in absurd (let clash = sym yes ∙ not in cc))
