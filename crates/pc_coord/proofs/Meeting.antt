-- A learn that met its commit may be told so.
use Rattle.std.proofs.Common.{◌≡◌, ℕ, max, Bool, true, false, ◌&&◌, ◌||◌, not, nat_lt, List, [], ◌∷◌, ◌++◌, map, Option, Some, None, refl, sym, ap, ◌∙◌, subst, arith}
use Rattle.std.specs.Bool.{MatchBool}
use Rattle.std.specs.List.{list_any}
use Rattle.std.proofs.lemmas.List.{append-nil}
use Rattle.std.proofs.lemmas.List.Folds.{list_any-append}
use Rattle.std.proofs.lemmas.Option.{same_Some}
use Rattle.pc_base.specs.declared.actor.ActorId.TheVariants as actors
use Rattle.pc_base.specs.declared.limits.TheConstants.{GREATEST_READING}
use Rattle.pc_base.specs.declared.transaction.TxnId.{TxnId}
use Rattle.pc_base.specs.Transaction.{same_txn}
use Rattle.pc_call.specs.Learned.{known_told}
use Rattle.pc_call.proofs.Eighths.{any_eighth}
use Rattle.pc_coord.proofs.Counting.{heard_low-more, sent_low-more}
use Rattle.pc_coord.proofs.Knowing.{no_job, tellable}
use Rattle.pc_coord.proofs.Learned.{learn-by, told_is}
use Rattle.pc_coord.proofs.Outside.{closed_beats, none_heard}
use Rattle.pc_coord.specs.Coordination.{Coordination}
use Rattle.pc_coord.specs.declared.job.Job.{Job}
use Rattle.pc_coord.specs.Knows.{IsHeld, IsOutboxOf, Knows, KnowsAt, Rests, TellsNow, commit_in_front, messages_left}
use Rattle.pc_follows.specs.FinishingJobs.{finishing_messages}
use Rattle.pc_coord.specs.Meeting.{MeetsCommit, known_met, meeting}
use Rattle.pc_coord.specs.Suiting.{SuitsNext}
use Rattle.pc_history.specs.declared.pair.Pair.{Pair}
use Rattle.pc_lists.proofs.Same.{same_txn-self}
use Rattle.pc_proto.specs.declared.answer.Answer.TheVariants as answers
use Rattle.pc_proto.specs.declared.call.Call.{Call}
use Rattle.pc_proto.specs.declared.call.Call.TheVariants as calls
use Rattle.pc_proto.specs.declared.event.Event.{Event}
use Rattle.pc_proto.specs.declared.event.Event.TheVariants as events
use Rattle.pc_proto.specs.declared.request.Request.TheVariants as requests
use Rattle.pc_proto.specs.declared.request.Request.{Request}
use Rattle.pc_proto.specs.Stamps.{event_stamps, greatest_of}
use Rattle.pc_txn.specs.declared.txn.OpenTxn.{OpenTxn}
use Rattle.pc_world.specs.Known.{Known, call_in, known_after, learn}
use Rattle.pc_world.specs.Known.Statements.{Statement}
use Rattle.pc_world.specs.Known.Traffic.{Heard, Sent}
use Rattle.pc_world.specs.MayTell.{IsLearnTold, MayTellIn, is_begin, needs_txn}

-- ---- what the session knows then

after_meet : (id : TxnId) (step ts : ℕ) (k : Known) (e : Event) → e ≡ events.Tell (answers.Committed id ts)
    → known_after (events.Meet id step) None (max k.top (max 0 (greatest_of (event_stamps e)))) (max k.high (greatest_of (event_stamps e))) k ≡ known_met id ts k
after_meet id step ts k e told =
    let G : Event → Known = λ e. known_after (events.Meet id step) None (max k.top (max 0 (greatest_of (event_stamps e)))) (max k.high (greatest_of (event_stamps e))) k in
    let F : List Sent → List Sent → List Heard → List Heard → Known = λ s n h m. record (known_met id ts k) { sent = s; sent_now = n; heard = h; heard_now = m } in
    ap G told
    ∙ ap (λ s. F s (k.sent_now ++ []) (k.heard ++ []) (k.heard_now ++ [])) (append-nil k.sent)
    ∙ ap (λ n. F k.sent n (k.heard ++ []) (k.heard_now ++ [])) (append-nil k.sent_now)
    ∙ ap (λ h. F k.sent k.sent_now h (k.heard_now ++ [])) (append-nil k.heard)
    ∙ ap (F k.sent k.sent_now k.heard) (append-nil k.heard_now)

met_is : (c : Coordination) (id : TxnId) (step ts : ℕ) (k : Known) (p : Pair Event) → MeetsCommit c id step ts k p → learn p k ≡ known_met id ts k
met_is c id step ts k p is = learn-by k p (events.Meet id step) (Some is.commit) is.event is.named ∙ after_meet id step ts k is.commit.event is.told

-- ---- what the coordinator knew before

unheld : (txn : Option OpenTxn) (k : Known) → IsHeld txn k → k.is_open ≡ false → txn ≡ None
unheld None k held none = refl
unheld (Some x) k held none = let e : true ≡ false = sym held.open_in.is_open ∙ none in absurd cc

no_empty : (ms : List Request) (m : Request) → ms ++ m ∷ [] ≡ [] → ⊥
no_empty [] m e = absurd cc
no_empty (first ∷ ms) m e = absurd cc

no_messages : (staged : Option ℕ) (job : Job) → commit_in_front staged job ++ finishing_messages job.meta.id job.fate job.meta.anchor job.locks ≡ [] → ⊥
no_messages None job e = no_empty (map (λ lock. requests.Resolve job.meta.id lock job.fate) job.locks) (requests.Remove job.meta.id job.meta.anchor) e
no_messages (Some ts) job e = cc

none_left : (job : Option Job) → messages_left job ≡ [] → job ≡ None
none_left None e = refl
none_left (Some job) e = absurd (no_messages job.staged job e)

or_true : (b : Bool) → (b || true) ≡ true
or_true true = refl
or_true false = refl

met_there : (id : TxnId) (met : List TxnId) → list_any (λ other. same_txn other id) (met ++ id ∷ []) ≡ true
met_there id met =
    let test : TxnId → Bool = λ other. same_txn other id in
    list_any-append test met (id ∷ []) ∙ ap (λ b. list_any test met || (b || false)) (same_txn-self id) ∙ or_true (list_any test met)

module _ (loses : Bool) (c : Coordination) (k : Known) (p : Pair Event) (id : TxnId) (step ts : ℕ) (knows : Knows loses c k) (is : MeetsCommit c id step ts k p) where
  now : TellsNow loses c k answers.NotYet
  now = subst (KnowsAt loses c k) is.due knows.stands

  before : Rests loses c.session c.clock c.begun c.txn c.later c.job (known_told answers.NotYet k)
  before = subst (λ k. Rests loses c.session c.clock c.begun c.txn c.later c.job k) (told_is answers.NotYet k) now.after

  abbrev k2 : Known
  k2 = known_met id ts k

  closed : c.txn ≡ None
  closed = unheld c.txn (known_told answers.NotYet k) before.held is.closed

  asked : (s : Statement) → k.statement ≡ Some s → s.call ≡ calls.Learn id
  asked s opened = same_Some s.call (calls.Learn id) (sym (ap call_in opened) ∙ is.asked)

  row : (s : Statement) → s.call ≡ calls.Learn id → MayTellIn c.splits (actors.Session c.session) k2 s answers.Learnt
  row s called =
      let P : Call → Type 0 = λ call. MatchBool (needs_txn call && not k2.is_open) (answers.Learnt ≡ answers.NoTxn) (MatchBool (is_begin call && nat_lt GREATEST_READING s.reading) (answers.Learnt ≡ answers.Clock s.reading) (IsLearnTold true k2 call)) in
      subst P (sym called) (met_there id k.met_now)

  outbox : (txn : Option OpenTxn) → txn ≡ None → IsOutboxOf loses txn c.later (known_told answers.NotYet k) → IsOutboxOf loses txn c.later (known_told answers.Learnt k2)
  outbox None none o = o
  outbox (Some x) none o = absurd cc

  -- the learn is to be told that it learnt
  known_then : Knows loses (meeting ts c) k2
  known_then =
      let m = now.may.may in
      record {
        course = record {
          tried = knows.course.tried;
          rising = knows.course.rising;
          ranged = record { heard = knows.course.ranged.heard; sent = knows.course.ranged.sent; reads = knows.course.ranged.reads };
          one_range = knows.course.one_range;
          may_wait = knows.course.may_wait;
          unstaged = knows.course.unstaged;
        };
        stands = record {
          may =
              tellable (record {
                may = record { s = m.s; opened = m.opened; told = row m.s (asked m.s m.opened) };
                written = tt;
                aborts = λ quiet. tt;
                rolled_back = tt;
                restarts = tt;
                eighth = any_eighth loses k2 answers.Learnt (none_heard k2 answers.Learnt is.quiet);
                blocked = λ piped s is commits. tt;
                beats = λ quiet. closed_beats k2 answers.Learnt is.closed;
              }) now.may.left (λ s opened. subst (λ txn. SuitsNext c.pipelining answers.Learnt s.call txn) (sym closed) tt);
          after =
              subst (λ k. Rests loses c.session (max c.clock ts) c.begun c.txn c.later c.job k) (sym (told_is answers.Learnt k2))
              (record {
                counted = record {
                  clock = omega (arith, before.counted.clock);
                  below = omega (arith, before.counted.below);
                  begun = before.counted.begun;
                  sent = before.counted.sent;
                  heard = before.counted.heard;
                  sent_low = sent_low-more (known_told answers.NotYet k).top (known_told answers.Learnt k2).top k.sent (omega arith) before.counted.sent_low;
                  heard_low = heard_low-more (known_told answers.NotYet k).top (known_told answers.Learnt k2).top k.heard (omega arith) before.counted.heard_low;
                };
                none_open = refl;
                held = subst (λ txn. IsHeld txn (known_told answers.Learnt k2)) (sym closed) is.closed;
                outbox = outbox c.txn closed before.outbox;
                left = no_job c.job (known_told answers.Learnt k2) (none_left c.job now.may.left);
              });
        };
      }

  pub met_knows : Knows loses (meeting ts c) (learn p k)
  met_knows = subst (Knows loses (meeting ts c)) (sym (met_is c id step ts k p is)) known_then
