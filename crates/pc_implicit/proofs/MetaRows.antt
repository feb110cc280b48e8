-- What is so of the transaction and anchor of each meta in a range and in a request stays so over evaluation, and is so in the reply.
use Rattle.std.proofs.Common.{if◌then◌else◌, ℕ, Bool, true, false, ◌&&◌, not, List, [], ◌∷◌, Option, None, Some, IfSome}
use Rattle.std.specs.List.{AllByRecursion as Each}
use Rattle.std.specs.Prelude.{⊤}
use Rattle.pc_base.specs.declared.transaction.TxnId.{TxnId}
use Rattle.pc_base.specs.declared.transaction.Who.{Who}
use Rattle.pc_base.specs.Keyed.{at}
use Rattle.pc_base.specs.Transaction.{same_txn, txn_cmp}
use Rattle.pc_lists.proofs.Each.{each-at, each-insert, each-without}
use Rattle.pc_proto.specs.declared.fate.Finding.{Finding}
use Rattle.pc_proto.specs.declared.fate.Goal.{Goal}
use Rattle.pc_proto.specs.declared.fate.Goal.TheVariants as goals
use Rattle.pc_proto.specs.declared.meta.TxnMeta.{TxnMeta}
use Rattle.pc_proto.specs.declared.record.Record.{Record}
use Rattle.pc_proto.specs.declared.record.Standing.TheVariants as standings
use Rattle.pc_proto.specs.declared.record.Status.{Status}
use Rattle.pc_proto.specs.declared.reply.Reply.{Reply}
use Rattle.pc_proto.specs.declared.reply.Reply.TheVariants as replies
use Rattle.pc_proto.specs.declared.request.Request.{Request}
use Rattle.pc_proto.specs.declared.request.Request.TheVariants as requests
use Rattle.pc_proto.specs.Place.{Place, Nothing, Kept, Marked, Change, Stay, Become, Finish, after, is_decided, is_final, view_of}
use Rattle.pc_proto.specs.RecordRows.{place_change, push_reply, table_for}
use Rattle.pc_proto.specs.RecordRows.Abort.{abort}
use Rattle.pc_proto.specs.RecordRows.Beat.{beat}
use Rattle.pc_proto.specs.RecordRows.Commit.{commit}
use Rattle.pc_proto.specs.RecordRows.Push.{Verdict, There, Refuse, Doubt, Do, on_verdict, push, push_verdict, pushed}
use Rattle.pc_proto.specs.RecordRows.Reached.{activity_of, alive_at, is_reached, is_staged_at, status_of}
use Rattle.pc_proto.specs.RecordRows.Records.{listed_metas}
use Rattle.pc_proto.specs.RecordRows.Recover.{decided, recover}
use Rattle.pc_proto.specs.RecordRows.Remove.{remove}
use Rattle.pc_proto.specs.RecordRows.Stage.{stage}
use Rattle.pc_proto.specs.Requests.{subject}
use Rattle.pc_proto.specs.Table.{Table, place_of, record_or_mark, records_after}
use Rattle.pc_world.specs.Evaluation.{reply, state_after}
use Rattle.pc_world.specs.Evaluation.Query.{write_stands}
use Rattle.pc_world.specs.Evaluation.Refresh.{refuter_in}
use Rattle.pc_world.specs.RangeState.{RangeState}
use Rattle.pc_implicit.proofs.IntentMetas.{AreInReply, get-names, intents-have, meta_named, push-has, put-names, refresh-has, reply-either, scan-names}

-- The transaction and the anchor that a request names.
abbrev pub anchor_named : Request → Option (TxnId × List ℕ)
anchor_named (requests.Put meta seq ts key value) = Some (meta.id, meta.anchor)
anchor_named (requests.Beat meta ts now) = Some (meta.id, meta.anchor)
anchor_named (requests.Stage meta ts now writes locks) = Some (meta.id, meta.anchor)
anchor_named (requests.Commit meta ts locks) = Some (meta.id, meta.anchor)
anchor_named (requests.Abort meta why locks) = Some (meta.id, meta.anchor)
anchor_named (requests.Push holder by level now goal) = Some (holder.id, holder.anchor)
anchor_named (requests.Recover id epoch ts anchor finding) = Some (id, anchor)
anchor_named (requests.Remove id anchor) = Some (id, anchor)
anchor_named _ = None

-- The meta's transaction has its anchor.
abbrev pub MetaHas : (TxnId → List ℕ → Type 0) → TxnMeta → Type 0
MetaHas Has meta = Has meta.id meta.anchor

-- So has the transaction that the request names.
abbrev pub RequestHas : (TxnId → List ℕ → Type 0) → Request → Type 0
RequestHas Has request = IfSome (anchor_named request) (λ n. Has n.0 n.1)

-- So has each holder, and each transaction that is listed.
abbrev pub ReplyHas : (TxnId → List ℕ → Type 0) → Reply → Type 0
ReplyHas Has reply = AreInReply (MetaHas Has) reply

-- So has the transaction of each intent and record.
pub record StateHas (Has : TxnId → List ℕ → Type 0) (s : RangeState) : Type 0 where
  pub intents : Each (λ e. MetaHas Has e.1.meta) s.intents
  pub records : Each (λ e. MetaHas Has e.1.meta) s.table.records

-- A meta whose transaction and anchor the request names has its anchor.
pub brings : (Has : TxnId → List ℕ → Type 0) (request : Request) → RequestHas Has request → IfSome (meta_named request) (MetaHas Has)
brings Has (requests.Put meta seq ts key value) h = h
brings Has (requests.Beat meta ts now) h = h
brings Has (requests.Stage meta ts now writes locks) h = h
brings Has (requests.Commit meta ts locks) h = h
brings Has (requests.Abort meta why locks) h = h
brings Has (requests.Push holder by level now goal) h = h
brings Has request h = tt

module _ (Has : TxnId → List ℕ → Type 0) where
  -- The meta of the record there is so.
  PlaceHas : Place → Type 0
  PlaceHas (Kept r) = MetaHas Has r.meta
  PlaceHas Nothing = ⊤
  PlaceHas (Marked s) = ⊤

  -- The meta of the record that a change makes is so.
  Makes : Change → Type 0
  Makes (Become r) = MetaHas Has r.meta
  Makes Stay = ⊤
  Makes (Finish s) = ⊤

  makes-either : (b : Bool) (c d : Change) → Makes c → Makes d → Makes (if b then c else d)
  makes-either true c d x y = x
  makes-either false c d x y = y

  beat-makes : (meta : TxnMeta) (ts now : ℕ) (p : Place) → MetaHas Has meta → PlaceHas p → Makes (beat meta ts now p)
  unfolding Makes PlaceHas
  beat-makes meta ts now Nothing h a = h
  beat-makes meta ts now (Kept r) h a = a
  beat-makes meta ts now (Marked s) h a = tt

  push-makes : (holder : TxnMeta) (by : Who) (goal : Goal) (v : Verdict) (p : Place) → MetaHas Has holder → Makes (on_verdict v (pushed holder by goal p))
  unfolding Makes
  push-makes holder by goal There p h = tt
  push-makes holder by goal Refuse p h = tt
  push-makes holder by goal Doubt p h = tt
  push-makes holder by goals.Abort Do p h = h
  push-makes holder by (goals.Move target) Do p h = h

  decided-makes : (finding : Finding) (p : Place) → PlaceHas p → Makes (decided finding p)
  unfolding Makes PlaceHas
  decided-makes finding Nothing a = tt
  decided-makes finding (Kept r) a = a
  decided-makes finding (Marked s) a = tt

  remove-makes : (p : Place) → Makes (remove p)
  unfolding Makes
  remove-makes Nothing = tt
  remove-makes (Kept r) = makes-either (is_final r.status.standing) (Finish r.status) Stay tt tt
  remove-makes (Marked s) = tt

  change-makes : (request : Request) (p : Place) → RequestHas Has request → PlaceHas p → Makes (place_change request p)
  unfolding Makes
  change-makes (requests.Beat meta ts now) p h a = makes-either (is_decided p) Stay (beat meta ts now p) tt (beat-makes meta ts now p h a)
  change-makes (requests.Stage meta ts now writes locks) p h a =
      makes-either (is_decided p) Stay (stage meta ts now writes locks p) tt
      (makes-either (is_reached p meta.epoch ts && not (is_staged_at p meta.epoch ts))
      (Become (record { meta = meta; status = status_of standings.Staging meta.epoch ts; activity = alive_at p now; writes = writes; locks = locks })) Stay h tt)
  change-makes (requests.Commit meta ts locks) p h a =
      makes-either (is_decided p) Stay (commit meta ts locks p) tt
      (makes-either (is_reached p meta.epoch ts)
      (Become (record { meta = meta; status = status_of standings.Committed meta.epoch ts; activity = activity_of p meta.born; writes = []; locks = locks })) Stay h tt)
  change-makes (requests.Abort meta why locks) p h a = makes-either (is_decided p) Stay (abort meta why locks p) tt h
  change-makes (requests.Push holder by level now goal) p h a =
      makes-either (is_decided p) Stay (push holder by level now goal p) tt (push-makes holder by goal (push_verdict holder level now goal p) p h)
  change-makes (requests.Recover id epoch ts anchor finding) p h a =
      makes-either (is_decided p) Stay (recover epoch ts finding p) tt (makes-either (is_staged_at p epoch ts) (decided finding p) Stay (decided-makes finding p a) tt)
  change-makes (requests.Remove id anchor) p h a = remove-makes p
  change-makes request p h a = tt

  OwnRecord : Record → Type 0
  OwnRecord r = Has r.meta.id r.meta.anchor

  place-has : (o : Option Record) (mark : Option Status) → IfSome o OwnRecord → PlaceHas (record_or_mark o mark)
  unfolding PlaceHas OwnRecord
  place-has (Some r) mark a = a
  place-has None (Some s) a = tt
  place-has None None a = tt

  records-with : (id : TxnId) (c : Change) (records : List (TxnId × Record)) → Makes c → Each (λ e. MetaHas Has e.1.meta) records → Each (λ e. MetaHas Has e.1.meta) (records_after id c records)
  unfolding Makes OwnRecord
  records-with id Stay records h a = a
  records-with id (Become r) records h a = each-insert OwnRecord txn_cmp id r records h a
  records-with id (Finish s) records h a = each-without OwnRecord same_txn id records a

  records-for : (one : Option TxnId) (request : Request) (t : Table) → RequestHas Has request → Each (λ e. MetaHas Has e.1.meta) t.records → Each (λ e. MetaHas Has e.1.meta) (table_for one request t).records
  unfolding OwnRecord
  records-for None request t h a = a
  records-for (Some id) request t h a =
      records-with id (place_change request (place_of id t)) t.records
      (change-makes request (place_of id t) h (place-has (at same_txn id t.records) (at same_txn id t.marks) (each-at OwnRecord same_txn id t.records a))) a

  -- over evaluation
  pub state_has : (request : Request) (s : RangeState) → RequestHas Has request → StateHas Has s → StateHas Has (state_after request s)
  state_has request s h a = record { intents = intents-have (MetaHas Has) request s (brings Has request h) a.intents; records = records-for (subject request) request s.table h a.records }

  listed-has : (records : List (TxnId × Record)) → Each (λ e. MetaHas Has e.1.meta) records → Each (MetaHas Has) (listed_metas records)
  listed-has [] a = tt
  listed-has (e ∷ es) a = (a.0, listed-has es a.1)

  -- and in the reply
  pub reply_has : (request : Request) (s : RangeState) → StateHas Has s → ReplyHas Has (reply request s)
  reply_has (requests.Get id epoch seq ts key) s a = get-names (MetaHas Has) id epoch seq ts key s a.intents
  reply_has (requests.Scan id epoch seq ts span) s a = scan-names (MetaHas Has) id epoch seq ts span s a.intents
  reply_has (requests.Put meta seq ts key value) s a = put-names (MetaHas Has) meta seq ts key value s a.intents
  reply_has (requests.Refresh id from to span) s a = refresh-has (MetaHas Has) (refuter_in id from to span s)
  reply_has (requests.Query id epoch seq ts key by) s a = reply-either (MetaHas Has) (write_stands id epoch seq ts key s) replies.Found replies.Missing tt tt
  reply_has (requests.Push holder by level now goal) s a =
      let p = place_of holder.id s.table in
      reply-either (MetaHas Has) (is_decided p) (replies.Status (view_of p)) (push_reply (push_verdict holder level now goal p) p (after p (push holder by level now goal p))) tt
      (push-has (MetaHas Has) (push_verdict holder level now goal p) p (after p (push holder by level now goal p)))
  reply_has (requests.Remove id anchor) s a = let p = place_of id s.table in reply-either (MetaHas Has) (is_decided p) replies.Removed (replies.Status (view_of p)) tt tt
  reply_has requests.Records s a = listed-has s.table.records a.records
  reply_has request s a = tt
