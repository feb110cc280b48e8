-- What a transaction's own intent at a key is after a request: as it was, laid, moved or gone.
use Rattle.std.proofs.Common.{◌≡◌, ℕ, max, Bool, true, false, cond, not, ◌==◌, List, Option, None, Some, refl, sym, ap, subst, ◌∙◌, arith}
use Rattle.std.proofs.lemmas.Cmp.{nat_list_cmp_total}
use Rattle.std.specs.BTreeMap.{insert_entry}
use Rattle.std.specs.Cmp.Lexicographic.{slice_cmp}
use Rattle.std.specs.Option.{option_map_or}
use Rattle.std.specs.Ordering.{nat_cmp}
use Rattle.pc_base.proofs.Entries.{at_inserted, at_left}
use Rattle.pc_base.specs.declared.transaction.TxnId.{TxnId}
use Rattle.pc_base.specs.Keyed.{at, without}
use Rattle.pc_base.specs.Span.{same_key}
use Rattle.pc_base.specs.Transaction.{same_txn}
use Rattle.pc_lists.proofs.Same.{same_key-equal, same_key-is, same_txn-differs, same_txn-is, same_txn-self}
use Rattle.pc_proto.specs.declared.fate.Fate.{Fate}
use Rattle.pc_proto.specs.declared.fate.Fate.TheVariants as fates
use Rattle.pc_proto.specs.declared.meta.TxnMeta.{TxnMeta}
use Rattle.pc_proto.specs.declared.record.Intent.{Intent}
use Rattle.pc_proto.specs.declared.reply.Reply.TheVariants as replies
use Rattle.pc_proto.specs.declared.request.Request.{Request}
use Rattle.pc_proto.specs.declared.request.Request.TheVariants as requests
use Rattle.pc_proto.specs.Intents.{fresh, grown, kept_if, other_at, own_at}
use Rattle.pc_world.specs.Evaluation.{intents_after, reply}
use Rattle.pc_world.specs.Evaluation.IntentChange.{IntentChange, Leave, Lay, Drop, intents_with}
use Rattle.pc_world.specs.Evaluation.Put.{PutOutcome, Stands, Lands, first_outcome, is_overtaken_by, laid, outcome_of_put, overtaken, own_outcome, put_change, put_reply, write_ts}
use Rattle.pc_world.specs.Evaluation.Resolve.{change_for, resolve_change}
use Rattle.pc_world.specs.RangeState.{RangeState}

at-set : (key k : List ℕ) (i : Intent) (xs : List (List ℕ × Intent)) → at same_key k (insert_entry (slice_cmp nat_cmp) xs key i) ≡ cond (same_key key k) (Some i) (at same_key k xs)
at-set key k i xs = at_inserted nat_list_cmp_total same_key (λ a b. refl) key k i xs

at-without : (key k : List ℕ) (xs : List (List ℕ × Intent)) → at same_key k (without same_key key xs) ≡ cond (same_key key k) None (at same_key k xs)
at-without key k xs = at_left nat_list_cmp_total same_key (λ a b. refl) key k xs

-- what is another's is not the transaction's own
not-own : (one id : TxnId) (o : Option Intent) (i : Intent) → same_txn one id ≡ false → kept_if (λ i. same_txn i.meta.id one) o ≡ Some i → kept_if (λ i. same_txn i.meta.id id) o ≡ None
not-own one id None i apart h = refl
not-own one id (Some j) i apart h = grind (arith, same_txn-differs j.meta.id one id)

-- the own intent is the transaction's
pub own_is : (one : TxnId) (o : Option Intent) (i : Intent) → kept_if (λ i. same_txn i.meta.id one) o ≡ Some i → same_txn i.meta.id one ≡ true
own_is one None i h = absurd cc
own_is one (Some j) i h = by (same_txn j.meta.id one) refl h
  where
    by : (b : Bool) → same_txn j.meta.id one ≡ b → cond b (Some j) None ≡ Some i → same_txn i.meta.id one ≡ true
    by true e h = let same : j ≡ i = cc in subst (λ x. same_txn x.meta.id one ≡ true) same e
    by false e h = absurd cc

not-own-free : (one id : TxnId) (o : Option Intent) → same_txn one id ≡ false → kept_if (λ i. not (same_txn i.meta.id one)) o ≡ None → kept_if (λ i. same_txn i.meta.id id) o ≡ None
not-own-free one id None apart h = refl
not-own-free one id (Some j) apart h = grind (arith, same_txn-differs j.meta.id one id)

module _ (id : TxnId) (k : List ℕ) (key : List ℕ) (xs : List (List ℕ × Intent)) where
  lays-other : (i : Intent) → same_key key k ≡ false → own_at id k (insert_entry (slice_cmp nat_cmp) xs key i) ≡ own_at id k xs
  lays-other i apart = ap (kept_if (λ i. same_txn i.meta.id id)) (at-set key k i xs ∙ ap (λ b. cond b (Some i) (at same_key k xs)) apart)

  drops-other : same_key key k ≡ false → own_at id k (without same_key key xs) ≡ own_at id k xs
  drops-other apart = ap (kept_if (λ i. same_txn i.meta.id id)) (at-without key k xs ∙ ap (λ b. cond b None (at same_key k xs)) apart)

  lays : (i : Intent) → same_txn i.meta.id id ≡ false → own_at id key xs ≡ None → own_at id k (insert_entry (slice_cmp nat_cmp) xs key i) ≡ own_at id k xs
  lays i apart none = ap (kept_if (λ i. same_txn i.meta.id id)) (at-set key k i xs) ∙ by (same_key key k) refl
    where
      by : (b : Bool) → same_key key k ≡ b → kept_if (λ i. same_txn i.meta.id id) (cond b (Some i) (at same_key k xs)) ≡ own_at id k xs
      by true e =
          ap (λ b. cond b (Some i) None) apart
          ∙ sym (subst (λ x. own_at id x xs ≡ None) (same_key-is key k e) none)
      by false e = refl

  drops : own_at id key xs ≡ None → own_at id k (without same_key key xs) ≡ own_at id k xs
  drops none = ap (kept_if (λ i. same_txn i.meta.id id)) (at-without key k xs) ∙ by (same_key key k) refl
    where
      by : (b : Bool) → same_key key k ≡ b → kept_if (λ i. same_txn i.meta.id id) (cond b None (at same_key k xs)) ≡ own_at id k xs
      by true e = sym (subst (λ x. own_at id x xs ≡ None) (same_key-is key k e) none)
      by false e = refl

module _ (id : TxnId) (key : List ℕ) (xs : List (List ℕ × Intent)) where
  lays-own : (i : Intent) → same_txn i.meta.id id ≡ true → own_at id key (insert_entry (slice_cmp nat_cmp) xs key i) ≡ Some i
  lays-own i is =
      ap (kept_if (λ i. same_txn i.meta.id id)) (at-set key key i xs ∙ ap (λ b. cond b (Some i) (at same_key key xs)) (same_key-equal key key refl))
      ∙ ap (λ b. cond b (Some i) None) is

  drops-own : own_at id key (without same_key key xs) ≡ None
  drops-own = ap (kept_if (λ i. same_txn i.meta.id id)) (at-without key key xs ∙ ap (λ b. cond b None (at same_key key xs)) (same_key-equal key key refl))

-- The fate takes the intent away.
abbrev pub Ends : Fate → Type 0
Ends (fates.Committed epoch ts) = Unit {0}
Ends fates.Aborted = Unit {0}
Ends (fates.Pending ts) = ⊥

-- What becomes of the transaction's own intent at the key, which is this after the request.
pub data OwnChange (id : TxnId) (key : List ℕ) (request : Request) (s : RangeState) (later : Option Intent) : Type 0 where
  AsBefore : later ≡ own_at id key s.intents → OwnChange id key request s later
  IsLaid : (meta : TxnMeta) (seq ts : ℕ) (value : Option (List ℕ)) → request ≡ requests.Put meta seq ts key value → meta.id ≡ id
      → overtaken meta seq (own_at id key s.intents) ≡ false
      → later ≡ Some (laid meta seq (write_ts meta ts key (own_at id key s.intents) s) value (own_at id key s.intents))
      → OwnChange id key request s later
  IsMoved : (ts : ℕ) (i : Intent) → request ≡ requests.Resolve id key (fates.Pending ts) → own_at id key s.intents ≡ Some i
      → later ≡ Some (record i { ts = max i.ts ts }) → OwnChange id key request s later
  IsGone : (fate : Fate) (i : Intent) → request ≡ requests.Resolve id key fate → Ends fate → own_at id key s.intents ≡ Some i
      → later ≡ None → OwnChange id key request s later

-- How a put of the transaction at the key was written: it stood already in the own intent, or was laid.
pub data PutWritten (id : TxnId) (meta : TxnMeta) (seq ts : ℕ) (key : List ℕ) (value : Option (List ℕ)) (s : RangeState) (at : ℕ) (later : Option Intent) : Type 0 where
  StoodThere : (i : Intent) → own_at id key s.intents ≡ Some i → is_overtaken_by meta seq i ≡ true → i.ts ≡ at → later ≡ Some i
      → PutWritten id meta seq ts key value s at later
  LaidNow : overtaken meta seq (own_at id key s.intents) ≡ false
      → later ≡ Some (laid meta seq at value (own_at id key s.intents))
      → PutWritten id meta seq ts key value s at later

module _ (id : TxnId) (k : List ℕ) where
  laid-apart : (meta : TxnMeta) (seq ts : ℕ) (value : Option (List ℕ)) (own : Option Intent) → same_txn meta.id id ≡ false → ((i : Intent) → own ≡ Some i → same_txn i.meta.id id ≡ false) → same_txn (laid meta seq ts value own).meta.id id ≡ false
  laid-apart meta seq ts value None apart of = apart
  laid-apart meta seq ts value (Some i) apart of = grind (arith, of i refl)

  -- a put of another transaction leaves it alone
  pub put-stays : (meta : TxnMeta) (seq ts : ℕ) (key : List ℕ) (value : Option (List ℕ)) (s : RangeState) → same_txn meta.id id ≡ false → own_at id k (intents_with key (put_change (outcome_of_put meta seq ts key value s)) s.intents) ≡ own_at id k s.intents
  put-stays meta seq ts key value s apart = by-other (other_at meta.id key s.intents) refl
    where
      by-over : (own : Option Intent) → own_at meta.id key s.intents ≡ own → own_at id key s.intents ≡ None → (b : Bool) → own_at id k (intents_with key (put_change (cond b (Stands 0) (Lands (laid meta seq (write_ts meta ts key own s) value own)))) s.intents) ≡ own_at id k s.intents
      by-over own e none true = refl
      by-over own e none false =
          lays id k key s.intents (laid meta seq (write_ts meta ts key own s) value own)
          (laid-apart meta seq (write_ts meta ts key own s) value own apart (λ i is. same_txn-differs i.meta.id meta.id id (own_is meta.id (at same_key key s.intents) i (e ∙ is)) apart))
          none

      by-own : (own : Option Intent) → own_at meta.id key s.intents ≡ own → own_at id key s.intents ≡ None → (b : Bool) → overtaken meta seq own ≡ b → own_at id k (intents_with key (put_change (own_outcome meta seq ts key value own s)) s.intents) ≡ own_at id k s.intents
      by-own own e none true t = ap (λ b. own_at id k (intents_with key (put_change (cond b (Stands (option_map_or (λ i. i.ts) own 0)) (Lands (laid meta seq (write_ts meta ts key own s) value own)))) s.intents)) t
      by-own own e none false t = ap (λ b. own_at id k (intents_with key (put_change (cond b (Stands (option_map_or (λ i. i.ts) own 0)) (Lands (laid meta seq (write_ts meta ts key own s) value own)))) s.intents)) t ∙ by-over own e none false

      by-other : (o : Option Intent) → other_at meta.id key s.intents ≡ o → own_at id k (intents_with key (put_change (first_outcome o (own_outcome meta seq ts key value (own_at meta.id key s.intents) s))) s.intents) ≡ own_at id k s.intents
      by-other (Some i) e = refl
      by-other None e =
          by-own (own_at meta.id key s.intents) refl (not-own-free meta.id id (at same_key key s.intents) apart e)
          (overtaken meta seq (own_at meta.id key s.intents)) refl

  -- so does a resolve of another
  pub resolve-stays : (one : TxnId) (key : List ℕ) (fate : Fate) (s : RangeState) → same_txn one id ≡ false → own_at id k (intents_with key (resolve_change one key fate s) s.intents) ≡ own_at id k s.intents
  resolve-stays one key fate s apart = by-own (own_at one key s.intents) refl fate
    where
      by-own : (own : Option Intent) → own_at one key s.intents ≡ own → (fate : Fate) → own_at id k (intents_with key (change_for fate own) s.intents) ≡ own_at id k s.intents
      by-own None e fate = refl
      by-own (Some i) e (fates.Committed epoch ts) = drops id k key s.intents (not-own one id (at same_key key s.intents) i apart e)
      by-own (Some i) e fates.Aborted = drops id k key s.intents (not-own one id (at same_key key s.intents) i apart e)
      by-own (Some i) e (fates.Pending ts) =
          lays id k key s.intents _ (same_txn-differs i.meta.id one id (own_is one (at same_key key s.intents) i e) apart) (not-own one id (at same_key key s.intents) i apart e)

  change-elsewhere : (key : List ℕ) (c : IntentChange) (xs : List (List ℕ × Intent)) → same_key key k ≡ false → own_at id k (intents_with key c xs) ≡ own_at id k xs
  change-elsewhere key Leave xs apart = refl
  change-elsewhere key (Lay i) xs apart = lays-other id k key xs i apart
  change-elsewhere key Drop xs apart = drops-other id k key xs apart

  laid-own : (meta : TxnMeta) (seq ts : ℕ) (value : Option (List ℕ)) (own : Option Intent) → same_txn meta.id id ≡ true → ((i : Intent) → own ≡ Some i → same_txn i.meta.id id ≡ true) → same_txn (laid meta seq ts value own).meta.id id ≡ true
  laid-own meta seq ts value None is of = is
  laid-own meta seq ts value (Some i) is of = grind (arith, of i refl)

  laid-whose : (meta : TxnMeta) (seq ts : ℕ) (value : Option (List ℕ)) (s : RangeState) → meta.id ≡ id → same_txn (laid meta seq ts value (own_at id k s.intents)).meta.id id ≡ true
  laid-whose meta seq ts value s same = laid-own meta seq ts value (own_at id k s.intents) (ap (λ i. same_txn i id) same ∙ same_txn-self id) (λ j is. own_is id (at same_key k s.intents) j is)

  -- The own intent after a put of the transaction at the key that came to this.
  abbrev own-after : RangeState → PutOutcome → Option Intent
  own-after s outcome = own_at id k (intents_with k (put_change outcome) s.intents)

  -- What a put of the transaction at the key comes to.
  abbrev outcome-at : TxnMeta → ℕ → ℕ → Option (List ℕ) → RangeState → PutOutcome
  outcome-at meta seq ts value s = first_outcome (other_at meta.id k s.intents) (own_outcome meta seq ts k value (own_at id k s.intents) s)

  put-lays : (meta : TxnMeta) (seq ts : ℕ) (value : Option (List ℕ)) (s : RangeState) → meta.id ≡ id → OwnChange id k (requests.Put meta seq ts k value) s (own-after s (outcome-at meta seq ts value s))
  put-lays meta seq ts value s same = by-other (other_at meta.id k s.intents)
    where
      by-over : (b : Bool) → overtaken meta seq (own_at id k s.intents) ≡ b
          → OwnChange id k (requests.Put meta seq ts k value) s
          (own-after s (cond b (Stands (option_map_or (λ i. i.ts) (own_at id k s.intents) 0)) (Lands (laid meta seq (write_ts meta ts k (own_at id k s.intents) s) value (own_at id k s.intents)))))
      by-over true t = AsBefore refl
      by-over false t =
          IsLaid meta seq ts value refl same t
          (lays-own id k s.intents (laid meta seq (write_ts meta ts k (own_at id k s.intents) s) value (own_at id k s.intents)) (laid-whose meta seq (write_ts meta ts k (own_at id k s.intents) s) value s same))

      by-other : (o : Option Intent) → OwnChange id k (requests.Put meta seq ts k value) s (own-after s (first_outcome o (own_outcome meta seq ts k value (own_at id k s.intents) s)))
      by-other (Some i) = AsBefore refl
      by-other None = by-over (overtaken meta seq (own_at id k s.intents)) refl

  put-changes : (meta : TxnMeta) (seq ts : ℕ) (key : List ℕ) (value : Option (List ℕ)) (s : RangeState)
      → OwnChange id k (requests.Put meta seq ts key value) s (own_at id k (intents_after (requests.Put meta seq ts key value) s))
  put-changes meta seq ts key value s = by-id (same_txn meta.id id) refl
    where
      by-key : meta.id ≡ id → (b : Bool) → same_key key k ≡ b → OwnChange id k (requests.Put meta seq ts key value) s (own_at id k (intents_after (requests.Put meta seq ts key value) s))
      by-key same true e =
          subst (λ x. OwnChange id k (requests.Put meta seq ts x value) s (own_at id k (intents_after (requests.Put meta seq ts x value) s))) (sym (same_key-is key k e))
          (subst (λ i. OwnChange id k (requests.Put meta seq ts k value) s (own-after s (first_outcome (other_at meta.id k s.intents) (own_outcome meta seq ts k value (own_at i k s.intents) s))))
          (sym same) (put-lays meta seq ts value s same))
      by-key same false e = AsBefore (change-elsewhere key (put_change (outcome_of_put meta seq ts key value s)) s.intents e)

      by-id : (b : Bool) → same_txn meta.id id ≡ b → OwnChange id k (requests.Put meta seq ts key value) s (own_at id k (intents_after (requests.Put meta seq ts key value) s))
      by-id true e = by-key (same_txn-is meta.id id e) (same_key key k) refl
      by-id false e = AsBefore (put-stays meta seq ts key value s e)

  settles : (fate : Fate) (s : RangeState) (own : Option Intent) → own_at id k s.intents ≡ own
      → OwnChange id k (requests.Resolve id k fate) s (own_at id k (intents_with k (change_for fate own) s.intents))
  settles fate s None e = AsBefore refl
  settles (fates.Committed epoch ts) s (Some i) e = IsGone (fates.Committed epoch ts) i refl tt e (drops-own id k s.intents)
  settles fates.Aborted s (Some i) e = IsGone fates.Aborted i refl tt e (drops-own id k s.intents)
  settles (fates.Pending ts) s (Some i) e =
      IsMoved ts i refl e (lays-own id k s.intents (record i { ts = max i.ts ts }) (own_is id (at same_key k s.intents) i e))

  resolve-changes : (one : TxnId) (key : List ℕ) (fate : Fate) (s : RangeState)
      → OwnChange id k (requests.Resolve one key fate) s (own_at id k (intents_after (requests.Resolve one key fate) s))
  resolve-changes one key fate s = by-id (same_txn one id) refl
    where
      by-key : one ≡ id → (b : Bool) → same_key key k ≡ b → OwnChange id k (requests.Resolve one key fate) s (own_at id k (intents_after (requests.Resolve one key fate) s))
      by-key same true e =
          subst (λ x. OwnChange id k (requests.Resolve one x fate) s (own_at id k (intents_after (requests.Resolve one x fate) s))) (sym (same_key-is key k e))
          (subst (λ i. OwnChange id k (requests.Resolve i k fate) s (own_at id k (intents_after (requests.Resolve i k fate) s))) (sym same)
          (settles fate s (own_at id k s.intents) refl))
      by-key same false e = AsBefore (change-elsewhere key (resolve_change one key fate s) s.intents e)

      by-id : (b : Bool) → same_txn one id ≡ b → OwnChange id k (requests.Resolve one key fate) s (own_at id k (intents_after (requests.Resolve one key fate) s))
      by-id true e = by-key (same_txn-is one id e) (same_key key k) refl
      by-id false e = AsBefore (resolve-stays one key fate s e)

  -- what becomes of the own intent at a key over a request
  pub own_changes : (request : Request) (s : RangeState) → OwnChange id k request s (own_at id k (intents_after request s))
  own_changes (requests.Put meta seq ts key value) s = put-changes meta seq ts key value s
  own_changes (requests.Resolve one key fate) s = resolve-changes one key fate s
  own_changes request s = AsBefore refl

  pub laid_time : (meta : TxnMeta) (seq ts : ℕ) (value : Option (List ℕ)) (own : Option Intent) → (laid meta seq ts value own).ts ≡ ts
  laid_time meta seq ts value None = refl
  laid_time meta seq ts value (Some i) = by (i.meta.epoch == meta.epoch)
    where
      by : (b : Bool) → (cond b (grown seq ts value i) (fresh meta seq ts value)).ts ≡ ts
      by true = refl
      by false = refl

  written-own : (meta : TxnMeta) (seq ts : ℕ) (value : Option (List ℕ)) (s : RangeState) (at : ℕ) → meta.id ≡ id → put_reply k (outcome-at meta seq ts value s) ≡ replies.Written at
      → PutWritten id meta seq ts k value s at (own-after s (outcome-at meta seq ts value s))
  written-own meta seq ts value s at same told = by-other (other_at meta.id k s.intents) told
    where
      stood : (own : Option Intent) → own_at id k s.intents ≡ own → overtaken meta seq own ≡ true → option_map_or (λ i. i.ts) own 0 ≡ at → PutWritten id meta seq ts k value s at (own_at id k s.intents)
      stood None e t is = absurd cc
      stood (Some i) e t is = StoodThere i e t is e

      by-over : (b : Bool) → overtaken meta seq (own_at id k s.intents) ≡ b
          → put_reply k (cond b (Stands (option_map_or (λ i. i.ts) (own_at id k s.intents) 0)) (Lands (laid meta seq (write_ts meta ts k (own_at id k s.intents) s) value (own_at id k s.intents)))) ≡ replies.Written at
          → PutWritten id meta seq ts k value s at
          (own-after s (cond b (Stands (option_map_or (λ i. i.ts) (own_at id k s.intents) 0)) (Lands (laid meta seq (write_ts meta ts k (own_at id k s.intents) s) value (own_at id k s.intents)))))
      by-over true t told =
          let is : option_map_or (λ i. i.ts) (own_at id k s.intents) 0 ≡ at = cc told in
          stood (own_at id k s.intents) refl t is
      by-over false t told =
          let low = write_ts meta ts k (own_at id k s.intents) s in
          let is : (laid meta seq low value (own_at id k s.intents)).ts ≡ at = cc told in
          let same_ts : low ≡ at = sym (laid_time meta seq low value (own_at id k s.intents)) ∙ is in
          LaidNow t
          (lays-own id k s.intents (laid meta seq low value (own_at id k s.intents)) (laid-whose meta seq low value s same)
          ∙ ap (λ n. Some (laid meta seq n value (own_at id k s.intents))) same_ts)

      by-other : (o : Option Intent) → put_reply k (first_outcome o (own_outcome meta seq ts k value (own_at id k s.intents) s)) ≡ replies.Written at
          → PutWritten id meta seq ts k value s at (own-after s (first_outcome o (own_outcome meta seq ts k value (own_at id k s.intents) s)))
      by-other (Some i) told = absurd cc
      by-other None told = by-over (overtaken meta seq (own_at id k s.intents)) refl told

  -- how a put that was answered written stands
  pub put_written : (meta : TxnMeta) (seq ts : ℕ) (value : Option (List ℕ)) (s : RangeState) (at : ℕ) → meta.id ≡ id → reply (requests.Put meta seq ts k value) s ≡ replies.Written at
      → PutWritten id meta seq ts k value s at (own_at id k (intents_after (requests.Put meta seq ts k value) s))
  put_written meta seq ts value s at same told =
      subst (λ i. PutWritten id meta seq ts k value s at (own-after s (first_outcome (other_at meta.id k s.intents) (own_outcome meta seq ts k value (own_at i k s.intents) s)))) (sym same)
      (written-own meta seq ts value s at same
      (subst (λ i. put_reply k (first_outcome (other_at meta.id k s.intents) (own_outcome meta seq ts k value (own_at i k s.intents) s)) ≡ replies.Written at) same told))
