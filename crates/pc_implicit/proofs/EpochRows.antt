-- The epochs that a range has of transactions: where each epoch that a request brings is one that its transaction's session has reached, so is
-- each that the range has after evaluation, and each that the reply names.
use Rattle.std.proofs.Common.{◌≡◌, ℕ, max, nat_le, Bool, true, false, ◌&&◌, not, if◌then◌else◌, List, [], ◌∷◌, Option, None, Some, IfSome, refl, sym, ap, subst, ◌∙◌, arith, cond, find}
use Rattle.std.proofs.lemmas.Bool.{leb-false, leb-true}
use Rattle.std.specs.declared.cmp.Ordering.{Ordering}
use Rattle.std.specs.declared.cmp.Ordering.TheVariants.{Less, Equal, Greater}
use Rattle.std.specs.List.{AllByRecursion as Each}
use Rattle.std.specs.BTreeMap.{insert_entry}
use Rattle.std.specs.Option.{option_map}
use Rattle.std.specs.Ordering.{is_eq, match_ordering}
use Rattle.std.specs.Prelude.{⊤}
use Rattle.pc_base.proofs.TxnOrder.{txn_equal}
use Rattle.pc_base.specs.declared.transaction.TxnId.{TxnId}
use Rattle.pc_base.specs.declared.transaction.Who.{Who}
use Rattle.pc_base.specs.Keyed.{at}
use Rattle.pc_base.specs.Transaction.{same_txn, txn_cmp}
use Rattle.pc_implicit.proofs.IntentMetas.{AreInReply, get-names, intents-have, meta_named, push-has, put-names, refresh-has, reply-either, scan-names}
use Rattle.pc_lists.proofs.Each.{each-filter}
use Rattle.pc_lists.proofs.Same.{same_txn-is}
use Rattle.pc_proto.specs.declared.fate.Finding.{Finding}
use Rattle.pc_proto.specs.declared.fate.Goal.{Goal}
use Rattle.pc_proto.specs.declared.fate.Goal.TheVariants as goals
use Rattle.pc_proto.specs.declared.meta.TxnMeta.{TxnMeta}
use Rattle.pc_proto.specs.declared.record.Record.{Record}
use Rattle.pc_proto.specs.declared.record.Standing.TheVariants as standings
use Rattle.pc_proto.specs.declared.record.Status.{Status}
use Rattle.pc_proto.specs.declared.reply.Reply.TheVariants as replies
use Rattle.pc_proto.specs.declared.request.Request.{Request}
use Rattle.pc_proto.specs.declared.request.Request.TheVariants as requests
use Rattle.pc_proto.specs.Place.{Place, Nothing, Kept, Marked, Change, Stay, Become, Finish, after, is_decided, is_final, view_of}
use Rattle.pc_proto.specs.RecordRows.{place_change, push_reply, table_for}
use Rattle.pc_proto.specs.RecordRows.Abort.{abort}
use Rattle.pc_proto.specs.RecordRows.Beat.{beat}
use Rattle.pc_proto.specs.RecordRows.Commit.{commit}
use Rattle.pc_proto.specs.RecordRows.Push.{Verdict, There, Refuse, Doubt, Do, on_verdict, push, push_verdict, pushed}
use Rattle.pc_proto.specs.RecordRows.Reached.{activity_of, alive_at, epoch_from, is_reached, is_staged_at, status_of}
use Rattle.pc_proto.specs.RecordRows.Records.{listed_metas}
use Rattle.pc_proto.specs.RecordRows.Recover.{decided, recover}
use Rattle.pc_proto.specs.RecordRows.Remove.{remove}
use Rattle.pc_proto.specs.RecordRows.Stage.{stage}
use Rattle.pc_proto.specs.Requests.{subject}
use Rattle.pc_proto.specs.Table.{Table, place_of, record_or_mark, records_after}
use Rattle.pc_world.specs.Evaluation.{reply, state_after}
use Rattle.pc_world.specs.Evaluation.Query.{write_stands}
use Rattle.pc_world.specs.Evaluation.Refresh.{refuter_in}
use Rattle.pc_world.specs.RangeState.{RangeState}

-- The meta's epoch is one that its transaction has reached.
abbrev pub IsMetaReached : (TxnId → ℕ → Type 0) → TxnMeta → Type 0
IsMetaReached Reached meta = Reached meta.id meta.epoch

-- The record is this transaction's, and its epoch is one that the transaction has reached.
abbrev pub IsRecordReached : (TxnId → ℕ → Type 0) → TxnId → Record → Type 0
IsRecordReached Reached id r = (r.meta.id ≡ id) × Reached id r.status.epoch

-- So is each epoch of an intent and of a record in the range.
pub record AreReached (Reached : TxnId → ℕ → Type 0) (s : RangeState) : Type 0 where
  pub intents : Each (λ e. IsMetaReached Reached e.1.meta) s.intents
  pub records : Each (λ e. IsRecordReached Reached e.0 e.1) s.table.records

module _ (Reached : TxnId → ℕ → Type 0) where
  -- The record there is so.
  abbrev pub PlaceReached : TxnId → Place → Type 0
  PlaceReached id (Kept r) = IsRecordReached Reached id r
  PlaceReached id Nothing = ⊤
  PlaceReached id (Marked s) = ⊤

  -- The record that a change makes is so.
  abbrev Makes : TxnId → Change → Type 0
  Makes id (Become r) = IsRecordReached Reached id r
  Makes id Stay = ⊤
  Makes id (Finish s) = ⊤

  makes-either : (id : TxnId) (b : Bool) (c d : Change) → Makes id c → Makes id d → Makes id (if b then c else d)
  makes-either id true c d x y = x
  makes-either id false c d x y = y

  max-reached : (id : TxnId) (a b : ℕ) → Reached id a → Reached id b → Reached id (max a b)
  max-reached id a b x y = by (nat_le a b) refl
    where
      by : (low : Bool) → nat_le a b ≡ low → Reached id (max a b)
      by true is = let low = leb-true a b is in subst (Reached id) (omega (arith, low)) y
      by false is = let high = leb-false a b is in subst (Reached id) (omega (arith, high)) x

  from-reached : (id : TxnId) (epoch : ℕ) (p : Place) → Reached id epoch → PlaceReached id p → Reached id (epoch_from p epoch)
  from-reached id epoch (Kept r) h a = max-reached id r.status.epoch epoch a.1 h
  from-reached id epoch Nothing h a = h
  from-reached id epoch (Marked s) h a = h

  beat-makes : (meta : TxnMeta) (ts now : ℕ) (p : Place) → IsMetaReached Reached meta → PlaceReached meta.id p → Makes meta.id (beat meta ts now p)
  beat-makes meta ts now Nothing h a = (refl, h)
  beat-makes meta ts now (Kept r) h a = a
  beat-makes meta ts now (Marked s) h a = tt

  push-makes : (holder : TxnMeta) (by : Who) (goal : Goal) (v : Verdict) (p : Place) → IsMetaReached Reached holder → PlaceReached holder.id p → Makes holder.id (on_verdict v (pushed holder by goal p))
  push-makes holder by goal There p h a = tt
  push-makes holder by goal Refuse p h a = tt
  push-makes holder by goal Doubt p h a = tt
  push-makes holder by goals.Abort Do p h a = (refl, from-reached holder.id holder.epoch p h a)
  push-makes holder by (goals.Move target) Do p h a = (refl, from-reached holder.id holder.epoch p h a)

  decided-makes : (id : TxnId) (finding : Finding) (p : Place) → PlaceReached id p → Makes id (decided finding p)
  decided-makes id finding Nothing a = tt
  decided-makes id finding (Kept r) a = a
  decided-makes id finding (Marked s) a = tt

  remove-makes : (id : TxnId) (p : Place) → Makes id (remove p)
  remove-makes id Nothing = tt
  remove-makes id (Kept r) = makes-either id (is_final r.status.standing) (Finish r.status) Stay tt tt
  remove-makes id (Marked s) = tt

  named : (meta : TxnMeta) (id : TxnId) (change : Change) → ◌≡◌ {A = Option TxnId} (Some meta.id) (Some id) → Makes meta.id change → Makes id change
  named meta id change is h = let same : meta.id ≡ id = cc in subst (λ i. Makes i change) same h

  there : (meta : TxnMeta) (id : TxnId) (p : Place) → ◌≡◌ {A = Option TxnId} (Some meta.id) (Some id) → PlaceReached id p → PlaceReached meta.id p
  there meta id p is a = let same : id ≡ meta.id = cc in subst (λ i. PlaceReached i p) same a

  change-makes : (request : Request) (id : TxnId) (p : Place) → subject request ≡ Some id → IfSome (meta_named request) (IsMetaReached Reached) → PlaceReached id p → Makes id (place_change request p)
  change-makes (requests.Beat meta ts now) id p is h a =
      makes-either id (is_decided p) Stay (beat meta ts now p) tt (named meta id (beat meta ts now p) is (beat-makes meta ts now p h (there meta id p is a)))
  change-makes (requests.Stage meta ts now writes locks) id p is h a =
      let r : Record = record { meta = meta; status = status_of standings.Staging meta.epoch ts; activity = alive_at p now; writes = writes; locks = locks } in
      makes-either id (is_decided p) Stay (stage meta ts now writes locks p) tt
      (makes-either id (is_reached p meta.epoch ts && not (is_staged_at p meta.epoch ts)) (Become r) Stay (named meta id (Become r) is (refl, h)) tt)
  change-makes (requests.Commit meta ts locks) id p is h a =
      let r : Record = record { meta = meta; status = status_of standings.Committed meta.epoch ts; activity = activity_of p meta.born; writes = []; locks = locks } in
      makes-either id (is_decided p) Stay (commit meta ts locks p) tt (makes-either id (is_reached p meta.epoch ts) (Become r) Stay (named meta id (Become r) is (refl, h)) tt)
  change-makes (requests.Abort meta why locks) id p is h a =
      makes-either id (is_decided p) Stay (abort meta why locks p) tt (named meta id (abort meta why locks p) is (refl, from-reached meta.id meta.epoch p h (there meta id p is a)))
  change-makes (requests.Push holder by level now goal) id p is h a =
      makes-either id (is_decided p) Stay (push holder by level now goal p) tt
      (named holder id (push holder by level now goal p) is (push-makes holder by goal (push_verdict holder level now goal p) p h (there holder id p is a)))
  change-makes (requests.Recover other epoch ts anchor finding) id p is h a =
      makes-either id (is_decided p) Stay (recover epoch ts finding p) tt (makes-either id (is_staged_at p epoch ts) (decided finding p) Stay (decided-makes id finding p a) tt)
  change-makes (requests.Remove other anchor) id p is h a = remove-makes id p
  change-makes request id p is h a = absurd cc

  record-at : (id : TxnId) (records : List (TxnId × Record)) → Each (λ e. IsRecordReached Reached e.0 e.1) records → IfSome (at same_txn id records) (IsRecordReached Reached id)
  record-at id [] a = tt
  record-at id (e ∷ es) a = by (same_txn e.0 id) refl (record-at id es a.1)
    where
      by : (b : Bool) → same_txn e.0 id ≡ b → IfSome (at same_txn id es) (IsRecordReached Reached id)
          → IfSome (option_map (λ (e : TxnId × Record). e.1) (cond b (Some e) (find (λ e. same_txn e.0 id) es))) (IsRecordReached Reached id)
      by true is rest = subst (λ i. IsRecordReached Reached i e.1) (same_txn-is e.0 id is) a.0
      by false is rest = rest

  place-at : (id : TxnId) (o : Option Record) (mark : Option Status) → IfSome o (IsRecordReached Reached id) → PlaceReached id (record_or_mark o mark)
  place-at id (Some r) mark a = a
  place-at id None (Some s) a = tt
  place-at id None None a = tt

  pub place_reached : (id : TxnId) (t : Table) → Each (λ e. IsRecordReached Reached e.0 e.1) t.records → PlaceReached id (place_of id t)
  place_reached id t a = place-at id (at same_txn id t.records) (at same_txn id t.marks) (record-at id t.records a)

  with-record : (id : TxnId) (r : Record) (records : List (TxnId × Record)) → IsRecordReached Reached id r → Each (λ e. IsRecordReached Reached e.0 e.1) records
      → Each (λ e. IsRecordReached Reached e.0 e.1) (insert_entry txn_cmp records id r)
  with-record id r [] h a = (h, tt)
  with-record id r (e ∷ es) h a = by (txn_cmp id e.0) refl (with-record id r es h a.1)
    where
      by : (o : Ordering) → txn_cmp id e.0 ≡ o → Each (λ e. IsRecordReached Reached e.0 e.1) (insert_entry txn_cmp es id r)
          → Each (λ e. IsRecordReached Reached e.0 e.1) (match_ordering o ((id, r) ∷ e ∷ es) ((e.0, r) ∷ es) (e ∷ insert_entry txn_cmp es id r))
      by Less is rest = (h, a)
      by Equal is rest = (subst (λ i. IsRecordReached Reached i r) (same_txn-is id e.0 (sym (txn_equal id e.0) ∙ ap is_eq is)) h, a.1)
      by Greater is rest = (a.0, rest)

  records-with : (id : TxnId) (c : Change) (records : List (TxnId × Record)) → Makes id c → Each (λ e. IsRecordReached Reached e.0 e.1) records → Each (λ e. IsRecordReached Reached e.0 e.1) (records_after id c records)
  records-with id Stay records h a = a
  records-with id (Become r) records h a = with-record id r records h a
  records-with id (Finish s) records h a = each-filter (λ e. IsRecordReached Reached e.0 e.1) (λ e. not (same_txn e.0 id)) records a

  records-for : (one : Option TxnId) (request : Request) (t : Table) → subject request ≡ one → IfSome (meta_named request) (IsMetaReached Reached) → Each (λ e. IsRecordReached Reached e.0 e.1) t.records
      → Each (λ e. IsRecordReached Reached e.0 e.1) (table_for one request t).records
  records-for None request t is h a = a
  records-for (Some id) request t is h a = records-with id (place_change request (place_of id t)) t.records (change-makes request id (place_of id t) is h (place_reached id t a)) a

  -- over evaluation
  pub state_reached : (request : Request) (s : RangeState) → IfSome (meta_named request) (IsMetaReached Reached) → AreReached Reached s → AreReached Reached (state_after request s)
  state_reached request s h a =
      record { intents = intents-have (IsMetaReached Reached) request s h a.intents; records = records-for (subject request) request s.table refl h a.records }

  listed-reached : (records : List (TxnId × Record)) → Each (λ e. IsRecordReached Reached e.0 e.1) records → Each (IsMetaReached Reached) (listed_metas records)
  listed-reached [] a = tt
  listed-reached (e ∷ es) a = (subst (λ i. Reached i e.1.status.epoch) (sym a.0.0) a.0.1, listed-reached es a.1)

  -- and in the reply
  pub reply_reached : (request : Request) (s : RangeState) → AreReached Reached s → AreInReply (IsMetaReached Reached) (reply request s)
  reply_reached (requests.Get id epoch seq ts key) s a = get-names (IsMetaReached Reached) id epoch seq ts key s a.intents
  reply_reached (requests.Scan id epoch seq ts span) s a = scan-names (IsMetaReached Reached) id epoch seq ts span s a.intents
  reply_reached (requests.Put meta seq ts key value) s a = put-names (IsMetaReached Reached) meta seq ts key value s a.intents
  reply_reached (requests.Refresh id from to span) s a = refresh-has (IsMetaReached Reached) (refuter_in id from to span s)
  reply_reached (requests.Query id epoch seq ts key by) s a = reply-either (IsMetaReached Reached) (write_stands id epoch seq ts key s) replies.Found replies.Missing tt tt
  reply_reached (requests.Push holder by level now goal) s a =
      let p = place_of holder.id s.table in
      reply-either (IsMetaReached Reached) (is_decided p) (replies.Status (view_of p)) (push_reply (push_verdict holder level now goal p) p (after p (push holder by level now goal p))) tt
      (push-has (IsMetaReached Reached) (push_verdict holder level now goal p) p (after p (push holder by level now goal p)))
  reply_reached (requests.Remove id anchor) s a =
      let p = place_of id s.table in reply-either (IsMetaReached Reached) (is_decided p) replies.Removed (replies.Status (view_of p)) tt tt
  reply_reached requests.Records s a = listed-reached s.table.records a.records
  reply_reached request s a = tt
