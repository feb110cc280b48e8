-- A range answers each request by a reply of its kind, whatever has happened.
use Rattle.std.proofs.Common.{◌≡◌, ℕ, Bool, true, false, ◌&&◌, not, nat_le, if◌then◌else◌, List, [], refl}
use Rattle.std.specs.Option.{option_map_or}
use Rattle.pc_base.specs.declared.entry.Entry.{Entry}
use Rattle.pc_base.specs.declared.transaction.Priority.{Priority}
use Rattle.pc_base.specs.declared.transaction.TxnId.{TxnId}
use Rattle.pc_base.specs.declared.transaction.Who.{Who}
use Rattle.pc_implicit.proofs.Answering.{IsAnothers, IsThere, decided-there, final-status, first-differs, get-kind, moved-there, other-differs, put-kind, refresh-kind, scan-kind, written-kind}
use Rattle.pc_implicit.proofs.FinalMarks.{marks_final}
use Rattle.pc_proto.specs.declared.event.Event.{Event}
use Rattle.pc_proto.specs.declared.fate.Goal.{Goal}
use Rattle.pc_proto.specs.declared.fate.Goal.TheVariants as goals
use Rattle.pc_proto.specs.declared.meta.TxnMeta.{TxnMeta}
use Rattle.pc_proto.specs.declared.record.Standing.{Standing}
use Rattle.pc_proto.specs.declared.record.Standing.TheVariants as standings
use Rattle.pc_proto.specs.declared.record.Status.{Status}
use Rattle.pc_proto.specs.declared.reply.Reply.TheVariants as replies
use Rattle.pc_proto.specs.declared.request.Request.{Request}
use Rattle.pc_proto.specs.declared.request.Request.TheVariants as requests
use Rattle.pc_proto.specs.declared.why.Why.{Why}
use Rattle.pc_proto.specs.Intents.{first_other, intent_at, other_at, own_at}
use Rattle.pc_proto.specs.Place.{Place, Nothing, Kept, Marked, Change, Stay, after, is_decided, is_final, status_view, view_of}
use Rattle.pc_proto.specs.RecordRows.{answer, push_reply, unless_decided}
use Rattle.pc_proto.specs.RecordRows.Abort.{abort}
use Rattle.pc_proto.specs.RecordRows.Beat.{beat}
use Rattle.pc_proto.specs.RecordRows.Commit.{commit}
use Rattle.pc_proto.specs.RecordRows.Push.{Verdict, There, Refuse, Doubt, Do, is_staged, on_verdict, push, push_verdict, pushed, reaches_goal, wins}
use Rattle.pc_proto.specs.RecordRows.Reached.{is_reached, is_staged_at, is_staging}
use Rattle.pc_proto.specs.RecordRows.Stage.{stage}
use Rattle.pc_proto.specs.Table.{place_of}
use Rattle.pc_proto.specs.Views.{is_final_view}
use Rattle.pc_world.proofs.Stamps.Searches.{some-kept}
use Rattle.pc_world.specs.After.{state_at}
use Rattle.pc_world.specs.Answering.{IsOfSome, IsOfStaging, IsPushReply, IsQueryReply, IsRemoveReply, MayAnswer}
use Rattle.pc_world.specs.Evaluation.{reply}
use Rattle.pc_world.specs.Evaluation.Get.{found_at, get_blocker}
use Rattle.pc_world.specs.Evaluation.Put.{laid, overtaken, own_outcome, write_ts}
use Rattle.pc_world.specs.Evaluation.Query.{write_stands}
use Rattle.pc_world.specs.Evaluation.Refresh.{refuter_in}
use Rattle.pc_world.specs.Evaluation.Scan.{rows_in}
use Rattle.pc_world.specs.Local.{Head}
use Rattle.pc_world.specs.RangeState.{RangeState}

query-kind : (found : Bool) → IsQueryReply (if found then replies.Found else replies.Missing)
query-kind true = tt
query-kind false = tt

-- ---- views

status-some : (standing : Standing) (epoch ts : ℕ) (writes : List (List ℕ × ℕ)) (locks : List (List ℕ)) → IsOfSome (status_view standing epoch ts writes locks)
status-some standings.Pending epoch ts writes locks = tt
status-some standings.Staging epoch ts writes locks = tt
status-some standings.Committed epoch ts writes locks = tt
status-some (standings.Aborted why) epoch ts writes locks = tt

some-view : (p : Place) → IsThere p → IsOfSome (view_of p)
some-view Nothing there = absurd there
some-view (Kept r) there = status-some r.status.standing r.status.epoch r.status.ts r.writes r.locks
some-view (Marked s) there = status-some s.standing s.epoch s.ts [] []

staged-status : (standing : Standing) (epoch ts : ℕ) (writes : List (List ℕ × ℕ)) (locks : List (List ℕ)) → is_staging standing ≡ true → IsOfStaging (status_view standing epoch ts writes locks)
staged-status standings.Staging epoch ts writes locks staged = tt
staged-status standings.Pending epoch ts writes locks staged = absurd cc
staged-status standings.Committed epoch ts writes locks staged = absurd cc
staged-status (standings.Aborted why) epoch ts writes locks staged = absurd cc

staged-view : (p : Place) → is_staged p ≡ true → IsOfStaging (view_of p)
staged-view Nothing staged = absurd cc
staged-view (Kept r) staged = staged-status r.status.standing r.status.epoch r.status.ts r.writes r.locks staged
staged-view (Marked s) staged = absurd cc

open-status : (standing : Standing) (epoch ts : ℕ) (writes : List (List ℕ × ℕ)) (locks : List (List ℕ)) → is_final standing ≡ false → is_final_view (status_view standing epoch ts writes locks) ≡ false
open-status standings.Pending epoch ts writes locks more = refl
open-status standings.Staging epoch ts writes locks more = refl
open-status standings.Committed epoch ts writes locks more = absurd cc
open-status (standings.Aborted why) epoch ts writes locks more = absurd cc

open-view : (p : Place) → is_decided p ≡ false → is_final_view (view_of p) ≡ false
open-view Nothing more = refl
open-view (Kept r) more = open-status r.status.standing r.status.epoch r.status.ts r.writes r.locks more
open-view (Marked s) more = absurd cc

-- ---- records

either-there : (b : Bool) (p : Place) (c d : Change) → IsThere (after p c) → IsThere (after p d) → IsThere (after p (if b then c else d))
either-there true p c d h k = h
either-there false p c d h k = k

beat-there : (meta : TxnMeta) (ts now : ℕ) (p : Place) → IsThere (after p (unless_decided p (beat meta ts now p)))
beat-there meta ts now Nothing = tt
beat-there meta ts now (Kept r) = either-there (is_decided (Kept r)) (Kept r) Stay (beat meta ts now (Kept r)) tt tt
beat-there meta ts now (Marked s) = tt

stage-there : (meta : TxnMeta) (ts now : ℕ) (writes : List (List ℕ × ℕ)) (locks : List (List ℕ)) (p : Place) → IsThere (after p (unless_decided p (stage meta ts now writes locks p)))
stage-there meta ts now writes locks Nothing = tt
stage-there meta ts now writes locks (Kept r) =
    let p = Kept r in
    either-there (is_decided p) p Stay (stage meta ts now writes locks p) tt (either-there (is_reached p meta.epoch ts && not (is_staged_at p meta.epoch ts)) p _ Stay tt tt)
stage-there meta ts now writes locks (Marked s) = tt

commit-there : (meta : TxnMeta) (ts : ℕ) (locks : List (List ℕ)) (p : Place) → IsThere (after p (unless_decided p (commit meta ts locks p)))
commit-there meta ts locks Nothing = tt
commit-there meta ts locks (Kept r) =
    let p = Kept r in
    either-there (is_decided p) p Stay (commit meta ts locks p) tt (either-there (is_reached p meta.epoch ts) p _ Stay tt tt)
commit-there meta ts locks (Marked s) = tt

decided-final : (p : Place) → ((s : Status) → p ≡ Marked s → is_final s.standing ≡ true) → is_decided p ≡ true → is_final_view (view_of p) ≡ true
decided-final Nothing final decided = absurd cc
decided-final (Kept r) final decided = final-status r.status.standing r.status.epoch r.status.ts r.writes r.locks decided
decided-final (Marked s) final decided = final-status s.standing s.epoch s.ts [] [] (final s refl)

abort-final : (meta : TxnMeta) (why : Why) (locks : List (List ℕ)) (p : Place) → ((s : Status) → p ≡ Marked s → is_final s.standing ≡ true)
    → is_final_view (view_of (after p (unless_decided p (abort meta why locks p)))) ≡ true
abort-final meta why locks p final = by (is_decided p) refl
  where
    by : (b : Bool) → is_decided p ≡ b → is_final_view (view_of (after p (if b then Stay else abort meta why locks p))) ≡ true
    by true decided = decided-final p final decided
    by false more = refl

pushed-there : (holder : TxnMeta) (by : Who) (goal : Goal) (p : Place) → IsThere (after p (pushed holder by goal p))
pushed-there holder by goals.Abort p = tt
pushed-there holder by (goals.Move target) p = tt

push-outcome : (holder : TxnMeta) (by : Who) (level : Priority) (now : ℕ) (goal : Goal) (p : Place) → IsPushReply (answer (requests.Push holder by level now goal) p)
push-outcome holder by level now goal p = when (is_decided p) refl
  where
    of : (there won staged : Bool) → reaches_goal goal p ≡ there → is_staged p ≡ staged → is_decided p ≡ false → let v : Verdict = if there then There else if won then (if staged then Doubt else Do) else Refuse in
        IsPushReply (push_reply v p (after p (on_verdict v (pushed holder by goal p))))
    of true won staged there is more = some-view p (moved-there goal p there)
    of false false staged there is more = open-view p more
    of false true true there is more = staged-view p is
    of false true false there is more = some-view (after p (pushed holder by goal p)) (pushed-there holder by goal p)

    when : (b : Bool) → is_decided p ≡ b → IsPushReply (if b then replies.Status (view_of p) else push_reply (push_verdict holder level now goal p) p (after p (push holder by level now goal p)))
    when true decided = some-view p (decided-there p decided)
    when false more = of (reaches_goal goal p) (wins holder level now p) (is_staged p) refl refl more

remove-kind : (p : Place) → IsRemoveReply (if is_decided p then replies.Removed else replies.Status (view_of p))
remove-kind p = by (is_decided p) refl
  where
    by : (b : Bool) → is_decided p ≡ b → IsRemoveReply (if b then replies.Removed else replies.Status (view_of p))
    by true decided = tt
    by false more = open-view p more

-- ---- each request

-- In a state in which each mark is final.
of-kind : (request : Request) (s : RangeState) → ((id : TxnId) (m : Status) → place_of id s.table ≡ Marked m → is_final m.standing ≡ true) → MayAnswer request (reply request s)
of-kind (requests.Get id epoch seq ts key) s final =
    get-kind id (get_blocker id ts key s) key (found_at id epoch seq ts key s)
    (some-kept (IsAnothers id) (λ i. nat_le i.ts ts) (other_at id key s.intents) (other-differs id (intent_at key s.intents)))
of-kind (requests.Scan id epoch seq ts span) s final = scan-kind id (first_other span ts id s.intents) (rows_in id epoch seq ts span s) (first-differs id span ts s.intents)
of-kind (requests.Put meta seq ts key value) s final =
    let own = own_at meta.id key s.intents in
    put-kind meta.id key (other_at meta.id key s.intents) (own_outcome meta seq ts key value own s) (other-differs meta.id (intent_at key s.intents))
    (written-kind meta.id key (overtaken meta seq own) (option_map_or (λ i. i.ts) own 0) (laid meta seq (write_ts meta ts key own s) value own))
of-kind (requests.Refresh id from to span) s final = refresh-kind (refuter_in id from to span s)
of-kind (requests.Beat meta ts now) s final = let p = place_of meta.id s.table in some-view (after p (unless_decided p (beat meta ts now p))) (beat-there meta ts now p)
of-kind (requests.Stage meta ts now writes locks) s final =
    let p = place_of meta.id s.table in some-view (after p (unless_decided p (stage meta ts now writes locks p))) (stage-there meta ts now writes locks p)
of-kind (requests.Commit meta ts locks) s final = let p = place_of meta.id s.table in some-view (after p (unless_decided p (commit meta ts locks p))) (commit-there meta ts locks p)
of-kind (requests.Abort meta why locks) s final = abort-final meta why locks (place_of meta.id s.table) (final meta.id)
of-kind (requests.Push holder by level now goal) s final = push-outcome holder by level now goal (place_of holder.id s.table)
of-kind (requests.Query id epoch seq ts key by) s final = query-kind (write_stands id epoch seq ts key s)
of-kind (requests.Recover id epoch ts anchor finding) s final = tt
of-kind (requests.Resolve id key fate) s final = tt
of-kind (requests.Remove id anchor) s final = remove-kind (place_of id s.table)
of-kind requests.Records s final = tt

-- after every history a range answers each request by a reply of its kind
pub replies_have_kinds : (head : Head) (history : List (Entry Event)) (range : ℕ) (request : Request) → MayAnswer request (reply request (state_at head range history))
replies_have_kinds head history range request = of-kind request (state_at head range history) (λ id m is. marks_final head range id history m is)
