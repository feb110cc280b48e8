-- What a line of a journal is read as: the notions of several words, each of which stands last in its line. Own profile.
use Rattle.std.specs.Prelude.{ℕ, ◌==◌, if◌then◌else◌, List, [], ◌∷◌, Option, None, codes}
use Rattle.pc_base.specs.declared.entry.Entry.{Entry}
use Rattle.pc_proto.specs.declared.answer.Answer.{Answer}
use Rattle.pc_proto.specs.declared.answer.Answer.TheVariants as answers
use Rattle.pc_proto.specs.declared.call.Call.{Call}
use Rattle.pc_proto.specs.declared.call.Call.TheVariants as calls
use Rattle.pc_proto.specs.declared.event.Event.{Event}
use Rattle.pc_proto.specs.declared.event.Event.TheVariants as events
use Rattle.pc_proto.specs.declared.fate.Fate.{Fate}
use Rattle.pc_proto.specs.declared.fate.Fate.TheVariants as fates
use Rattle.pc_proto.specs.declared.fate.Finding.{Finding}
use Rattle.pc_proto.specs.declared.fate.Finding.TheVariants as findings
use Rattle.pc_proto.specs.declared.fate.Goal.{Goal}
use Rattle.pc_proto.specs.declared.fate.Goal.TheVariants as goals
use Rattle.pc_proto.specs.declared.reply.Reply.{Reply}
use Rattle.pc_proto.specs.declared.reply.Reply.TheVariants as replies
use Rattle.pc_proto.specs.declared.request.Request.{Request}
use Rattle.pc_proto.specs.declared.request.Request.TheVariants as requests
use Rattle.pc_proto.specs.declared.view.View.{View}
use Rattle.pc_proto.specs.declared.view.View.TheVariants as views
use Rattle.pc_spelling.specs.Cutting.{cut_last, each_part, ◌&◌, made, list_at, word_of, or_word, no_word, alone, behind}
use Rattle.pc_spelling.specs.Reading.{number32_at, number64_at, ts_at, id_at, actor_at, range_at, who_at, priority_at, key_at, value_at, maybe_value_at, span_at, why_at, meta_at, point_at, writes_at, keys_at, origin_at, row_at, told_row_at}

unfoldable pub view_at : List ℕ → Option View
view_at bs =
    or_word (codes "none") (alone views.Nothing)
    (or_word (codes "pending") (behind (λ p. views.Pending p.0 p.1) (number32_at & ts_at))
    (or_word (codes "staging") (behind (λ p. views.Staging p.0 p.1.0 p.1.1) (number32_at & ts_at & writes_at))
    (or_word (codes "committed") (behind (λ p. views.Committed p.0 p.1.0 p.1.1) (number32_at & ts_at & keys_at))
    (or_word (codes "aborted") (behind (λ p. views.Aborted p.0 p.1.0 p.1.1) (number32_at & why_at & keys_at))
    no_word)))) (word_of 32 bs)

unfoldable pub goal_at : List ℕ → Option Goal
goal_at bs =
    or_word (codes "abort") (alone goals.Abort)
    (or_word (codes "move") (behind goals.Move ts_at)
    no_word) (word_of 32 bs)

unfoldable pub finding_at : List ℕ → Option Finding
finding_at bs =
    or_word (codes "found") (alone findings.All)
    (or_word (codes "missing") (behind (λ p. findings.Missing p.0 p.1) (key_at & who_at))
    no_word) (word_of 32 bs)

unfoldable pub fate_at : List ℕ → Option Fate
fate_at bs =
    or_word (codes "committed") (behind (λ p. fates.Committed p.0 p.1) (number32_at & ts_at))
    (or_word (codes "aborted") (alone fates.Aborted)
    (or_word (codes "pending") (behind fates.Pending ts_at)
    no_word)) (word_of 32 bs)

-- The requests to a key or a span.
abbrev pub data_request : (List ℕ × Option (List ℕ) → Option Request) → List ℕ × Option (List ℕ) → Option Request
data_request others =
    or_word (codes "get") (behind (λ p. requests.Get p.0.0 p.0.1.0 p.0.1.1 p.1.0 p.1.1) (point_at & ts_at & key_at))
    (or_word (codes "scan") (behind (λ p. requests.Scan p.0.0 p.0.1.0 p.0.1.1 p.1.0 p.1.1) (point_at & ts_at & span_at))
    (or_word (codes "put") (behind (λ p. requests.Put p.0 p.1.0 p.1.1.0 p.1.1.1.0 p.1.1.1.1) (meta_at & number32_at & ts_at & key_at & maybe_value_at))
    (or_word (codes "refresh") (behind (λ p. requests.Refresh p.0 p.1.0 p.1.1.0 p.1.1.1) (id_at & ts_at & ts_at & span_at))
    (or_word (codes "query") (behind (λ p. requests.Query p.0.0 p.0.1.0 p.0.1.1 p.1.0 p.1.1.0 p.1.1.1) (point_at & ts_at & key_at & who_at))
    (or_word (codes "resolve") (behind (λ p. requests.Resolve p.0 p.1.0 p.1.1) (id_at & key_at & fate_at))
    others)))))

-- The requests to a record.
abbrev pub record_request : List ℕ × Option (List ℕ) → Option Request
record_request =
    or_word (codes "beat") (behind (λ p. requests.Beat p.0 p.1.0 p.1.1) (meta_at & ts_at & number64_at))
    (or_word (codes "stage") (behind (λ p. requests.Stage p.0 p.1.0 p.1.1.0 p.1.1.1.0 p.1.1.1.1) (meta_at & ts_at & number64_at & writes_at & keys_at))
    (or_word (codes "commit") (behind (λ p. requests.Commit p.0 p.1.0 p.1.1) (meta_at & ts_at & keys_at))
    (or_word (codes "abort") (behind (λ p. requests.Abort p.0 p.1.0 p.1.1) (meta_at & why_at & keys_at))
    (or_word (codes "push") (behind (λ p. requests.Push p.0 p.1.0 p.1.1.0 p.1.1.1.0 p.1.1.1.1) (meta_at & who_at & priority_at & number64_at & goal_at))
    (or_word (codes "recover") (behind (λ p. requests.Recover p.0 p.1.0 p.1.1.0 p.1.1.1.0 p.1.1.1.1) (id_at & number32_at & ts_at & key_at & finding_at))
    (or_word (codes "remove") (behind (λ p. requests.Remove p.0 p.1) (id_at & key_at))
    (or_word (codes "records") (alone requests.Records)
    no_word)))))))

unfoldable pub request_at : List ℕ → Option Request
request_at bs = data_request record_request (word_of 32 bs)

unfoldable pub reply_at : List ℕ → Option Reply
reply_at bs =
    or_word (codes "value") (behind (λ p. replies.Value p.0 p.1) (origin_at & maybe_value_at))
    (or_word (codes "rows") (behind replies.Rows (list_at row_at))
    (or_word (codes "conflict") (behind (λ p. replies.Conflict p.0 p.1.0 p.1.1) (meta_at & ts_at & key_at))
    (or_word (codes "written") (behind replies.Written ts_at)
    (or_word (codes "refreshed") (alone replies.Refreshed)
    (or_word (codes "unrefreshed") (behind (λ p. replies.Unrefreshed p.0 p.1) (key_at & ts_at))
    (or_word (codes "status") (behind replies.Status view_at)
    (or_word (codes "refused") (behind replies.Refused view_at)
    (or_word (codes "unsure") (behind replies.Unsure view_at)
    (or_word (codes "found") (alone replies.Found)
    (or_word (codes "missing") (alone replies.Missing)
    (or_word (codes "resolved") (alone replies.Resolved)
    (or_word (codes "removed") (alone replies.Removed)
    (or_word (codes "listed") (behind replies.Listed (list_at meta_at))
    no_word))))))))))))) (word_of 32 bs)

unfoldable pub call_at : List ℕ → Option Call
call_at bs =
    or_word (codes "begin") (behind calls.Begin priority_at)
    (or_word (codes "get") (behind calls.Get key_at)
    (or_word (codes "scan") (behind calls.Scan span_at)
    (or_word (codes "put") (behind (λ p. calls.Put p.0 p.1) (key_at & value_at))
    (or_word (codes "delete") (behind calls.Delete key_at)
    (or_word (codes "commit") (alone calls.Commit)
    (or_word (codes "rollback") (alone calls.Rollback)
    (or_word (codes "learn") (behind calls.Learn id_at)
    (or_word (codes "round") (alone calls.Round)
    no_word)))))))) (word_of 32 bs)

unfoldable pub answer_at : List ℕ → Option Answer
answer_at bs =
    or_word (codes "begun") (behind (λ p. answers.Begun p.0 p.1) (id_at & ts_at))
    (or_word (codes "value") (behind answers.Value maybe_value_at)
    (or_word (codes "rows") (behind answers.Rows (list_at told_row_at))
    (or_word (codes "written") (alone answers.Written)
    (or_word (codes "committed") (behind (λ p. answers.Committed p.0 p.1) (id_at & ts_at))
    (or_word (codes "rolledback") (behind (λ p. answers.RolledBack p.0 p.1) (id_at & why_at))
    (or_word (codes "learnt") (alone answers.Learnt)
    (or_word (codes "notyet") (alone answers.NotYet)
    (or_word (codes "done") (alone answers.Done)
    (or_word (codes "blocked") (behind answers.Blocked id_at)
    (or_word (codes "unavailable") (behind answers.Unavailable number32_at)
    (or_word (codes "aborted") (behind answers.Aborted why_at)
    (or_word (codes "restart") (behind (λ p. answers.Restart p.0 p.1) (key_at & ts_at))
    (or_word (codes "unknown") (behind answers.Unknown id_at)
    (or_word (codes "moved") (behind answers.Moved ts_at)
    (or_word (codes "clock") (behind answers.Clock number64_at)
    (or_word (codes "notxn") (alone answers.NoTxn)
    no_word)))))))))))))))) (word_of 32 bs)

-- A clock's reading behind an at sign.
unfoldable pub reading_at : List ℕ → Option ℕ
reading_at [] = None
reading_at (sign ∷ digits) = if sign == 64 then number64_at digits else None

-- A call and the reading at which it is asked, cut at the last space.
unfoldable pub asked_at : List ℕ → Option (Call × ℕ)
asked_at bs = each_part call_at reading_at (cut_last 32 bs)

unfoldable pub event_at : List ℕ → Option Event
event_at bs =
    or_word (codes "ask") (behind (λ p. events.Ask p.0 p.1) asked_at)
    (or_word (codes "send") (behind (λ p. events.Send p.0 p.1.0 p.1.1) (number64_at & range_at & request_at))
    (or_word (codes "eval") (behind (λ p. events.Eval p.0 p.1.0 p.1.1) (actor_at & number64_at & reply_at))
    (or_word (codes "hear") (behind (λ p. events.Hear p.0 p.1) (number64_at & number64_at))
    (or_word (codes "tell") (behind events.Tell answer_at)
    (or_word (codes "meet") (behind (λ p. events.Meet p.0 p.1) (id_at & number64_at))
    no_word))))) (word_of 32 bs)

-- An entry: its step, its actor and its event.
unfoldable pub entry_at : List ℕ → Option (Entry Event)
entry_at bs =
    made (λ p. record { step = p.0; actor = p.1.0; event = p.1.1 }) (number64_at & actor_at & event_at) bs
