-- What is kept of a range says all that a history without stages needs.
use Rattle.std.proofs.Common.{◌≡◌, ℕ, ◌<◌, ◌||◌, Bool, true, false, cond, All, List, [], ◌∷◌, ◌++◌, map, Contains, Option, None, Some, refl, ap, subst, arith}
use Rattle.std.proofs.lemmas.List.Elements.{All-contains, All-cons, All-from_recursion, All-nil, All-tail, recursion_from_All}
use Rattle.std.specs.List.{list_any}
use Rattle.std.specs.Option.{is_some}
use Rattle.pc_base.specs.declared.entry.Entry.{Entry}
use Rattle.pc_base.specs.declared.transaction.TxnId.{TxnId}
use Rattle.pc_base.specs.Timestamp.{greatest}
use Rattle.pc_implicit.proofs.Places.{place_kept}
use Rattle.pc_lists.proofs.Each.{each-back}
use Rattle.pc_proto.specs.declared.event.Event.{Event}
use Rattle.pc_proto.specs.declared.event.Event.TheVariants as events
use Rattle.pc_proto.specs.declared.fate.Finding.{Finding}
use Rattle.pc_proto.specs.declared.fate.Finding.TheVariants as findings
use Rattle.pc_proto.specs.declared.fate.Goal.{Goal}
use Rattle.pc_proto.specs.declared.fate.Goal.TheVariants as goals
use Rattle.pc_proto.specs.declared.meta.TxnMeta.{TxnMeta}
use Rattle.pc_proto.specs.declared.record.Standing.{Standing}
use Rattle.pc_proto.specs.declared.record.Standing.TheVariants as standings
use Rattle.pc_base.specs.declared.transaction.Who.{Who}
use Rattle.pc_proto.specs.declared.request.Request.{Request}
use Rattle.pc_proto.specs.declared.request.Request.TheVariants as requests
use Rattle.pc_proto.specs.Place.{Place, Nothing, Kept, Marked, Change, Stay, Finish, after, is_decided, is_final}
use Rattle.pc_proto.specs.RecordRows.{place_change, table_for, unless_decided}
use Rattle.pc_proto.specs.RecordRows.Beat.{beat}
use Rattle.pc_proto.specs.RecordRows.Commit.{commit}
use Rattle.pc_proto.specs.RecordRows.Push.{Verdict, There, Refuse, Doubt, Do, is_staged, on_verdict, push, push_verdict, pushed}
use Rattle.pc_proto.specs.RecordRows.Reached.{is_reached, is_staged_at, is_staging}
use Rattle.pc_proto.specs.RecordRows.Recover.{decided, recover}
use Rattle.pc_proto.specs.RecordRows.Remove.{remove}
use Rattle.pc_proto.specs.Requests.{is_stage, subject}
use Rattle.pc_proto.specs.Table.{Table, place_of}
use Rattle.pc_report.specs.Seen.{HasNoStage, SendsNoStage, kept_of, of_table, seen, sends_a_stage}
use Rattle.pc_world.specs.Committed.{commit_by}
use Rattle.pc_world.specs.Evaluation.{state_after}
use Rattle.pc_world.specs.Named.{request_in}
use Rattle.pc_world.specs.RangeState.{RangeState}
use Rattle.pc_world.specs.Stamps.{AllBelowGreatest, HasRoom}

pub seen_table : (whole : Bool) (s : RangeState) → (seen whole s).table ≡ s.table
seen_table true s = refl
seen_table false s = refl

-- a request that speaks of a record does the same to what is kept
record-after : (request : Request) (s : RangeState) → is_some (subject request) ≡ true → state_after request (of_table s.table) ≡ of_table (state_after request s).table
record-after (requests.Beat meta ts now) s h = refl
record-after (requests.Stage meta ts now writes locks) s h = refl
record-after (requests.Commit meta ts locks) s h = refl
record-after (requests.Abort meta why locks) s h = refl
record-after (requests.Push holder by level now goal) s h = refl
record-after (requests.Recover id epoch ts anchor finding) s h = refl
record-after (requests.Remove id anchor) s h = refl
record-after request s h = absurd cc

pub seen_after : (whole : Bool) (request : Request) (s : RangeState) → kept_of whole (Some request) ≡ Some request → state_after request (seen whole s) ≡ seen whole (state_after request s)
seen_after true request s h = refl
seen_after false request s h = record-after request s (by (is_some (subject request)) h)
  where
    by : (b : Bool) → cond b (Some request) None ≡ Some request → b ≡ true
    by true k = refl
    by false k = absurd cc

-- and any other leaves what is kept as it was
table-left : (about : Option TxnId) (request : Request) (table : Table) → is_some about ≡ false → table_for about request table ≡ table
table-left None request table h = refl
table-left (Some id) request table h = absurd cc

pub seen_left : (whole : Bool) (request : Request) (s : RangeState) → kept_of whole (Some request) ≡ None → seen whole (state_after request s) ≡ seen whole s
seen_left true request s h = absurd cc
seen_left false request s h = ap of_table (table-left (subject request) request s.table (by (is_some (subject request)) h))
  where
    by : (b : Bool) → cond b (Some request) None ≡ None → b ≡ false
    by true k = absurd cc
    by false k = refl

-- what is kept of a request is the request or nothing
pub kept_cases : (whole : Bool) (request : Request) (P : Option Request → Type 0) → (kept_of whole (Some request) ≡ Some request → P (Some request)) → (kept_of whole (Some request) ≡ None → P None) → P (kept_of whole (Some request))
kept_cases true request P some none = some refl
kept_cases false request P some none = by (is_some (subject request)) some none
  where
    by : (b : Bool) → (cond b (Some request) None ≡ Some request → P (Some request)) → (cond b (Some request) None ≡ None → P None) → P (cond b (Some request) None)
    by true some none = some refl
    by false some none = none refl

pub kept_whole : (asked : Option Request) → kept_of true asked ≡ asked
kept_whole None = refl
kept_whole (Some request) = refl

back : (xs ys : List ℕ) → AllBelowGreatest (xs ++ ys) → AllBelowGreatest ys
back xs ys all =
    All-from_recursion (λ ts. ts < greatest) ys (each-back (λ ts. ts < greatest) xs ys (recursion_from_All (λ ts. ts < greatest) (xs ++ ys) all))

-- where there is room on the range, there is in what is kept of it
pub seen_room : (whole : Bool) (request : Request) (s : RangeState) → HasRoom request s → HasRoom request (seen whole s)
seen_room true request s h = h
seen_room false request s h =
    let rest = All-tail (λ ts. ts < greatest) s.bound.ts (map (λ v. v.ts) s.versions ++ (map (λ e. e.1.ts) s.intents ++ (map (λ e. e.1.status.ts) s.table.records ++ map (λ e. e.1.ts) s.table.marks))) h.state in
    let behind = back (map (λ v. v.ts) s.versions) (map (λ e. e.1.ts) s.intents ++ (map (λ e. e.1.status.ts) s.table.records ++ map (λ e. e.1.ts) s.table.marks)) rest in
    let last = back (map (λ e. e.1.ts) s.intents) (map (λ e. e.1.status.ts) s.table.records ++ map (λ e. e.1.ts) s.table.marks) behind in
    record {
      asked = h.asked;
      state = All-cons (λ ts. ts < greatest) 0 (map (λ e. e.1.status.ts) s.table.records ++ map (λ e. e.1.ts) s.table.marks) (omega arith) last;
    }

-- ---- no record is staging where no stage was sent

either : (b : Bool) (p : Place) (c d : Change) → is_staged (after p c) ≡ false → is_staged (after p d) ≡ false → is_staged (after p (cond b c d)) ≡ false
either true p c d h k = h
either false p c d h k = k

unless-staged : (p : Place) (c : Change) → is_staged p ≡ false → is_staged (after p c) ≡ false → is_staged (after p (unless_decided p c)) ≡ false
unless-staged p c h k = either (is_decided p) p Stay c h k

beaten : (meta : TxnMeta) (ts now : ℕ) (p : Place) → is_staged p ≡ false → is_staged (after p (beat meta ts now p)) ≡ false
beaten meta ts now Nothing h = refl
beaten meta ts now (Kept r) h = h
beaten meta ts now (Marked s) h = refl

committed : (meta : TxnMeta) (ts : ℕ) (locks : List (List ℕ)) (p : Place) → is_staged p ≡ false → is_staged (after p (commit meta ts locks p)) ≡ false
committed meta ts locks p h = either (is_reached p meta.epoch ts) p _ Stay refl h

done : (holder : TxnMeta) (by : Who) (goal : Goal) (p : Place) → is_staged (after p (pushed holder by goal p)) ≡ false
done holder by goals.Abort p = refl
done holder by (goals.Move target) p = refl

on-verdict : (v : Verdict) (p : Place) (c : Change) → is_staged p ≡ false → is_staged (after p c) ≡ false → is_staged (after p (on_verdict v c)) ≡ false
on-verdict There p c h k = h
on-verdict Refuse p c h k = h
on-verdict Doubt p c h k = h
on-verdict Do p c h k = k

decided-there : (finding : Finding) (p : Place) → is_staged p ≡ false → is_staged (after p (decided finding p)) ≡ false
decided-there finding Nothing h = h
decided-there findings.All (Kept r) h = refl
decided-there (findings.Missing key by) (Kept r) h = refl
decided-there finding (Marked s) h = h

recovered : (epoch ts : ℕ) (finding : Finding) (p : Place) → is_staged p ≡ false → is_staged (after p (recover epoch ts finding p)) ≡ false
recovered epoch ts finding p h = either (is_staged_at p epoch ts) p (decided finding p) Stay (decided-there finding p h) h

removed : (p : Place) → is_staged p ≡ false → is_staged (after p (remove p)) ≡ false
removed Nothing h = h
removed (Kept r) h = either (is_final r.status.standing) (Kept r) (Finish r.status) Stay refl h
removed (Marked s) h = h

row : (request : Request) (p : Place) → is_stage request ≡ false → is_staged p ≡ false → is_staged (after p (place_change request p)) ≡ false
row (requests.Beat meta ts now) p free h = unless-staged p (beat meta ts now p) h (beaten meta ts now p h)
row (requests.Stage meta ts now writes locks) p free h = absurd cc
row (requests.Commit meta ts locks) p free h = unless-staged p (commit meta ts locks p) h (committed meta ts locks p h)
row (requests.Abort meta why locks) p free h = unless-staged p _ h refl
row (requests.Push holder by level now goal) p free h = unless-staged p (push holder by level now goal p) h (on-verdict (push_verdict holder level now goal p) p (pushed holder by goal p) h (done holder by goal p))
row (requests.Recover id epoch ts anchor finding) p free h = unless-staged p (recover epoch ts finding p) h (recovered epoch ts finding p h)
row (requests.Remove id anchor) p free h = removed p h
row request p free h = h

pub no_stage_after : (request : Request) (s : RangeState) → is_stage request ≡ false → HasNoStage s → HasNoStage (state_after request s)
no_stage_after request s free none = λ id. place_kept (λ p. is_staged p ≡ false) request id s.table (λ about h. row request (place_of id s.table) free h) (none id)

-- what a record that is not staging commits, it commits whatever is present
pub commits_alone : (standing : Standing) (ts : ℕ) (a b : Bool) → is_staging standing ≡ false → commit_by standing ts a ≡ commit_by standing ts b
commits_alone standings.Pending ts a b h = refl
commits_alone standings.Staging ts a b h = absurd cc
commits_alone standings.Committed ts a b h = refl
commits_alone (standings.Aborted why) ts a b h = refl

-- the request of an entry of a history without stages is none
sent-no-stage : (event : Event) (request : Request) → request_in event ≡ Some request → sends_a_stage event ≡ false → is_stage request ≡ false
sent-no-stage (events.Send number range own) request is none = let same : own ≡ request = cc in subst (λ q. is_stage q ≡ false) same none
sent-no-stage event request is none = absurd cc

pub unstaged_request : (history : List (Entry Event)) (e : Entry Event) (request : Request) → SendsNoStage history → Contains history e → request_in e.event ≡ Some request → is_stage request ≡ false
unstaged_request history e request unstaged there is = sent-no-stage e.event request is (All-contains (λ e. sends_a_stage e.event ≡ false) history e unstaged there)

-- where no entry was found to send a stage, none does
pub none_sends_a_stage : (history : List (Entry Event)) → list_any (λ e. sends_a_stage e.event) history ≡ false → SendsNoStage history
none_sends_a_stage [] h = All-nil (λ e. sends_a_stage e.event ≡ false)
none_sends_a_stage (e ∷ es) h = by (sends_a_stage e.event) refl h (none_sends_a_stage es)
  where
    by : (b : Bool) → sends_a_stage e.event ≡ b → (b || list_any (λ e. sends_a_stage e.event) es) ≡ false
        → (list_any (λ e. sends_a_stage e.event) es ≡ false → SendsNoStage es) → SendsNoStage (e ∷ es)
    by true is k rest = absurd cc
    by false is k rest = All-cons (λ e. sends_a_stage e.event ≡ false) e es is (rest k)
