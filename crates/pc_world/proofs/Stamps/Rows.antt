-- The record rows raise no timestamp.
use Rattle.std.proofs.Common.{ℕ, ◌≤◌, Bool, true, false, ◌&&◌, not, if◌then◌else◌, List, [], Option, None, Some, IfSome, arith}
use Rattle.std.specs.List.{AllByRecursion as Each}
use Rattle.pc_base.specs.declared.transaction.Priority.{Priority}
use Rattle.pc_base.specs.declared.transaction.TxnId.{TxnId}
use Rattle.pc_base.specs.declared.transaction.Who.{Who}
use Rattle.pc_base.specs.Keyed.{at}
use Rattle.pc_base.specs.Transaction.{same_txn, txn_cmp}
use Rattle.pc_lists.proofs.Each.{each-at, each-insert, each-without}
use Rattle.pc_proto.specs.declared.fate.Finding.{Finding}
use Rattle.pc_proto.specs.declared.fate.Finding.TheVariants as findings
use Rattle.pc_proto.specs.declared.fate.Goal.{Goal}
use Rattle.pc_proto.specs.declared.fate.Goal.TheVariants as goals
use Rattle.pc_proto.specs.declared.meta.TxnMeta.{TxnMeta}
use Rattle.pc_proto.specs.declared.record.Record.{Record}
use Rattle.pc_proto.specs.declared.record.Standing.{Standing}
use Rattle.pc_proto.specs.declared.record.Standing.TheVariants as standings
use Rattle.pc_proto.specs.declared.record.Status.{Status}
use Rattle.pc_proto.specs.declared.reply.Reply.{Reply}
use Rattle.pc_proto.specs.declared.reply.Reply.TheVariants as replies
use Rattle.pc_proto.specs.declared.request.Request.{Request}
use Rattle.pc_proto.specs.declared.request.Request.TheVariants as requests
use Rattle.pc_proto.specs.declared.why.Why.{Why}
use Rattle.pc_proto.specs.Place.{Place, Kept, Marked, Nothing, Change, Become, Finish, Stay, after, is_decided, is_final, status_view, view_of}
use Rattle.pc_proto.specs.RecordRows.{answer, place_change, push_reply, record_reply, reply_for, table_after, table_for}
use Rattle.pc_proto.specs.RecordRows.Abort.{abort}
use Rattle.pc_proto.specs.RecordRows.Beat.{beat}
use Rattle.pc_proto.specs.RecordRows.Commit.{commit}
use Rattle.pc_proto.specs.RecordRows.Push.{Verdict, There, Refuse, Doubt, Do, on_verdict, push, push_verdict, pushed}
use Rattle.pc_proto.specs.RecordRows.Reached.{is_reached, is_staged_at, ts_of}
use Rattle.pc_proto.specs.RecordRows.Recover.{decided, recover}
use Rattle.pc_proto.specs.RecordRows.Remove.{remove}
use Rattle.pc_proto.specs.RecordRows.Stage.{stage}
use Rattle.pc_proto.specs.Requests.{subject}
use Rattle.pc_proto.specs.Stamps.{reply_stamps, request_stamps, goal_stamps, view_stamps, why_stamps}
use Rattle.pc_proto.specs.Table.{Table, applied_to, marks_after, place_of, record_or_mark, records_after}
use Rattle.pc_world.proofs.Stamps.Within.{AtMost, StatusWithin, TableWithin}

abbrev pub PlaceWithin : ℕ → Place → Type 0
PlaceWithin n Nothing = Unit {0}
PlaceWithin n (Kept r) = StatusWithin n r.status
PlaceWithin n (Marked s) = StatusWithin n s

abbrev pub ChangeWithin : ℕ → Change → Type 0
ChangeWithin n Stay = Unit {0}
ChangeWithin n (Become r) = StatusWithin n r.status
ChangeWithin n (Finish s) = StatusWithin n s

module _ (n : ℕ) where
  stay-or : (b : Bool) (c : Change) → ChangeWithin n c → ChangeWithin n (if b then Stay else c)
  stay-or true c h = tt
  stay-or false c h = h

  or-stay : (b : Bool) (c : Change) → ChangeWithin n c → ChangeWithin n (if b then c else Stay)
  or-stay true c h = h
  or-stay false c h = tt

  beat-within : (meta : TxnMeta) (ts now : ℕ) (p : Place) → ts ≤ n → PlaceWithin n p → ChangeWithin n (beat meta ts now p)
  beat-within meta ts now Nothing h a = record { ts = h; cause = tt }
  beat-within meta ts now (Kept r) h a = a
  beat-within meta ts now (Marked s) h a = tt

  stage-within : (meta : TxnMeta) (ts now : ℕ) (writes : List (List ℕ × ℕ)) (locks : List (List ℕ)) (p : Place) → ts ≤ n → ChangeWithin n (stage meta ts now writes locks p)
  stage-within meta ts now writes locks p h = or-stay (is_reached p meta.epoch ts && not (is_staged_at p meta.epoch ts)) _ (record { ts = h; cause = tt })

  commit-within : (meta : TxnMeta) (ts : ℕ) (locks : List (List ℕ)) (p : Place) → ts ≤ n → ChangeWithin n (commit meta ts locks p)
  commit-within meta ts locks p h = or-stay (is_reached p meta.epoch ts) _ (record { ts = h; cause = tt })

  ts-within : (p : Place) → PlaceWithin n p → ts_of p ≤ n
  ts-within Nothing a = omega arith
  ts-within (Kept r) a = a.ts
  ts-within (Marked s) a = omega arith

  abort-within : (meta : TxnMeta) (why : Why) (locks : List (List ℕ)) (p : Place) → AtMost n (why_stamps why) → PlaceWithin n p → ChangeWithin n (abort meta why locks p)
  abort-within meta why locks p h a = record { ts = ts-within p a; cause = h }

  pushed-within : (holder : TxnMeta) (by : Who) (goal : Goal) (p : Place) → AtMost n (goal_stamps goal) → PlaceWithin n p → ChangeWithin n (pushed holder by goal p)
  pushed-within holder by goals.Abort p h a = record { ts = ts-within p a; cause = tt }
  pushed-within holder by (goals.Move target) p h a = record { ts = h.0; cause = tt }

  on-verdict : (v : Verdict) (c : Change) → ChangeWithin n c → ChangeWithin n (on_verdict v c)
  on-verdict There c h = tt
  on-verdict Refuse c h = tt
  on-verdict Doubt c h = tt
  on-verdict Do c h = h

  push-within : (holder : TxnMeta) (by : Who) (level : Priority) (now : ℕ) (goal : Goal) (p : Place) → AtMost n (goal_stamps goal) → PlaceWithin n p → ChangeWithin n (push holder by level now goal p)
  push-within holder by level now goal p h a = on-verdict (push_verdict holder level now goal p) (pushed holder by goal p) (pushed-within holder by goal p h a)

  decided-within : (finding : Finding) (p : Place) → PlaceWithin n p → ChangeWithin n (decided finding p)
  decided-within finding Nothing a = tt
  decided-within findings.All (Kept r) a = record { ts = a.ts; cause = tt }
  decided-within (findings.Missing key by) (Kept r) a = record { ts = a.ts; cause = tt }
  decided-within finding (Marked s) a = tt

  recover-within : (epoch ts : ℕ) (finding : Finding) (p : Place) → PlaceWithin n p → ChangeWithin n (recover epoch ts finding p)
  recover-within epoch ts finding p a = or-stay (is_staged_at p epoch ts) (decided finding p) (decided-within finding p a)

  remove-within : (p : Place) → PlaceWithin n p → ChangeWithin n (remove p)
  remove-within Nothing a = tt
  remove-within (Kept r) a = or-stay (is_final r.status.standing) (Finish r.status) a
  remove-within (Marked s) a = tt

  pub change-within : (request : Request) (p : Place) → AtMost n (request_stamps request) → PlaceWithin n p → ChangeWithin n (place_change request p)
  change-within (requests.Get id epoch seq ts key) p h a = tt
  change-within (requests.Scan id epoch seq ts span) p h a = tt
  change-within (requests.Put meta seq ts key value) p h a = tt
  change-within (requests.Refresh id from to span) p h a = tt
  change-within (requests.Beat meta ts now) p h a = stay-or (is_decided p) (beat meta ts now p) (beat-within meta ts now p h.0 a)
  change-within (requests.Stage meta ts now writes locks) p h a = stay-or (is_decided p) (stage meta ts now writes locks p) (stage-within meta ts now writes locks p h.0)
  change-within (requests.Commit meta ts locks) p h a = stay-or (is_decided p) (commit meta ts locks p) (commit-within meta ts locks p h.0)
  change-within (requests.Abort meta why locks) p h a = stay-or (is_decided p) (abort meta why locks p) (abort-within meta why locks p h a)
  change-within (requests.Push holder by level now goal) p h a = stay-or (is_decided p) (push holder by level now goal p) (push-within holder by level now goal p h a)
  change-within (requests.Query id epoch seq ts key by) p h a = tt
  change-within (requests.Recover id epoch ts anchor finding) p h a = stay-or (is_decided p) (recover epoch ts finding p) (recover-within epoch ts finding p a)
  change-within (requests.Resolve id key fate) p h a = tt
  change-within (requests.Remove id anchor) p h a = remove-within p a
  change-within requests.Records p h a = tt

  after-within : (p : Place) (c : Change) → PlaceWithin n p → ChangeWithin n c → PlaceWithin n (after p c)
  after-within p Stay a h = a
  after-within p (Become r) a h = h
  after-within p (Finish s) a h = h

  status-view : (standing : Standing) (epoch ts : ℕ) (writes : List (List ℕ × ℕ)) (locks : List (List ℕ)) → StatusWithin n (record { standing = standing; epoch = epoch; ts = ts }) → AtMost n (view_stamps (status_view standing epoch ts writes locks))
  status-view standings.Pending epoch ts writes locks a = (a.ts, tt)
  status-view standings.Staging epoch ts writes locks a = (a.ts, tt)
  status-view standings.Committed epoch ts writes locks a = (a.ts, tt)
  status-view (standings.Aborted why) epoch ts writes locks a = a.cause

  view-within : (p : Place) → PlaceWithin n p → AtMost n (view_stamps (view_of p))
  view-within Nothing a = tt
  view-within (Kept r) a = status-view r.status.standing r.status.epoch r.status.ts r.writes r.locks a
  view-within (Marked s) a = status-view s.standing s.epoch s.ts [] [] a

  push-reply : (v : Verdict) (before after : Place) → PlaceWithin n before → PlaceWithin n after → AtMost n (reply_stamps (push_reply v before after))
  push-reply There before after a b = view-within after b
  push-reply Refuse before after a b = view-within before a
  push-reply Doubt before after a b = view-within before a
  push-reply Do before after a b = view-within after b

  status-or : (b : Bool) (p : Place) (other : Reply) → PlaceWithin n p → AtMost n (reply_stamps other) → AtMost n (reply_stamps (if b then replies.Status (view_of p) else other))
  status-or true p other a h = view-within p a
  status-or false p other a h = h

  or-status : (b : Bool) (p : Place) (other : Reply) → PlaceWithin n p → AtMost n (reply_stamps other) → AtMost n (reply_stamps (if b then other else replies.Status (view_of p)))
  or-status true p other a h = h
  or-status false p other a h = view-within p a

  view-after : (request : Request) (p : Place) → AtMost n (request_stamps request) → PlaceWithin n p → AtMost n (view_stamps (view_of (after p (place_change request p))))
  view-after request p h a = view-within (after p (place_change request p)) (after-within p (place_change request p) a (change-within request p h a))

  answer-within : (request : Request) (p : Place) → AtMost n (request_stamps request) → PlaceWithin n p → AtMost n (reply_stamps (answer request p))
  answer-within (requests.Push holder by level now goal) p h a =
      let pushed = push holder by level now goal p in
      let moved = after-within p pushed a (push-within holder by level now goal p h a) in
      let v = push_verdict holder level now goal p in
      status-or (is_decided p) p (push_reply v p (after p pushed)) a (push-reply v p (after p pushed) a moved)
  answer-within (requests.Remove id anchor) p h a = or-status (is_decided p) p replies.Removed a tt
  answer-within request p h a = view-after request p h a

  record-or-mark : (r : Option Record) (mark : Option Status) → IfSome r (λ r. StatusWithin n r.status) → IfSome mark (λ s. StatusWithin n s) → PlaceWithin n (record_or_mark r mark)
  record-or-mark (Some r) mark a b = a
  record-or-mark None (Some s) a b = b
  record-or-mark None None a b = tt

  pub place-within : (id : TxnId) (table : Table) → TableWithin n table → PlaceWithin n (place_of id table)
  place-within id table a =
      record-or-mark (at same_txn id table.records) (at same_txn id table.marks)
      (each-at (λ r. StatusWithin n r.status) same_txn id table.records a.records) (each-at (λ s. StatusWithin n s) same_txn id table.marks a.marks)

  records-within : (id : TxnId) (c : Change) (records : List (TxnId × Record)) → ChangeWithin n c → Each (λ e. StatusWithin n e.1.status) records → Each (λ e. StatusWithin n e.1.status) (records_after id c records)
  records-within id Stay records h a = a
  records-within id (Become r) records h a = each-insert (λ r. StatusWithin n r.status) txn_cmp id r records h a
  records-within id (Finish s) records h a = each-without (λ r. StatusWithin n r.status) same_txn id records a

  marks-within : (id : TxnId) (c : Change) (marks : List (TxnId × Status)) → ChangeWithin n c → Each (λ e. StatusWithin n e.1) marks → Each (λ e. StatusWithin n e.1) (marks_after id c marks)
  marks-within id Stay marks h a = a
  marks-within id (Become r) marks h a = a
  marks-within id (Finish s) marks h a = each-insert (λ s. StatusWithin n s) txn_cmp id s marks h a

  applied-within : (id : TxnId) (c : Change) (table : Table) → ChangeWithin n c → TableWithin n table → TableWithin n (applied_to id c table)
  applied-within id c table h a = record { records = records-within id c table.records h a.records; marks = marks-within id c table.marks h a.marks }

  table-for : (id : Option TxnId) (request : Request) (table : Table) → AtMost n (request_stamps request) → TableWithin n table → TableWithin n (table_for id request table)
  table-for None request table h a = a
  table-for (Some id) request table h a =
      let p = place_of id table in
      applied-within id (place_change request p) table (change-within request p h (place-within id table a)) a

  pub table-within : (request : Request) (table : Table) → AtMost n (request_stamps request) → TableWithin n table → TableWithin n (table_after request table)
  table-within request table h a = table-for (subject request) request table h a

  reply-for : (id : Option TxnId) (request : Request) (table : Table) → AtMost n (request_stamps request) → TableWithin n table → AtMost n (reply_stamps (reply_for id request table))
  reply-for None request table h a = tt
  reply-for (Some id) request table h a = answer-within request (place_of id table) h (place-within id table a)

  pub record-reply : (request : Request) (table : Table) → AtMost n (request_stamps request) → TableWithin n table → AtMost n (reply_stamps (record_reply request table))
  record-reply request table h a = reply-for (subject request) request table h a
