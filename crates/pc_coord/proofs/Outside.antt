-- A call is asked where no transaction is open: it begins one, or is told that there is none.
use Rattle.std.proofs.Common.{◌≡◌, ℕ, ◌+◌, ◌*◌, ◌/◌, ◌^◌, ◌<◌, ◌≤◌, nat_lt, Bool, true, false, not, cond, ◌&&◌, length, List, [], ◌∷◌, Some, None, refl, sym, ap, ◌∙◌, subst, arith}
use Rattle.std.specs.Bool.{MatchBool}
use Rattle.std.proofs.lemmas.Bool.{le-ltb, lt-ltb, ltb-false, ltb-true}
use Rattle.std.proofs.lemmas.List.Elements.{All-nil}
use Rattle.pc_base.specs.Clock.{clock_now}
use Rattle.pc_base.specs.declared.actor.ActorId.TheVariants as actors
use Rattle.pc_base.specs.declared.limits.TheConstants.{GREATEST_READING, MOST_CONFLICTS, MOST_REFUSALS}
use Rattle.pc_base.specs.declared.transaction.Priority.{Priority}
use Rattle.pc_base.specs.declared.transaction.TxnId.{TxnId}
use Rattle.pc_call.specs.Learned.{known_asked, known_told}
use Rattle.pc_call.specs.Outbox.{MayWait}
use Rattle.pc_call.specs.Stages.{HasOutboxBetween}
use Rattle.pc_call.specs.Suiting.{SuitsFlightNextIn}
use Rattle.pc_call.proofs.Eighths.{any_eighth}
use Rattle.pc_call.specs.Telling.{StandsOpen}
use Rattle.pc_coord.proofs.Counting.{all_heard-more, all_own-more, counted-asked, counted-told, heard_low-more, sent_low-more}
use Rattle.pc_coord.proofs.Knowing.{course_with, no_job, tellable}
use Rattle.pc_coord.proofs.Learned.{told_is}
use Rattle.pc_coord.proofs.Ranged.{ranged_asked}
use Rattle.pc_coord.proofs.Tells.{outbox_begins}
use Rattle.pc_coord.specs.Coordination.{Coordination, beginning, telling, with_clock}
use Rattle.pc_coord.specs.Going.{StandsReady}
use Rattle.pc_coord.specs.Knows.{IsHeld, IsOutboxOf, KeepsCourse, Knows, Rests, messages_left, AreAllHeard}
use Rattle.pc_coord.specs.Suiting.{SuitsNext}
use Rattle.pc_proto.specs.declared.answer.Answer.{Answer}
use Rattle.pc_proto.specs.declared.answer.Answer.TheVariants as answers
use Rattle.pc_proto.specs.declared.call.Call.{Call}
use Rattle.pc_proto.specs.declared.call.Call.TheVariants as calls
use Rattle.pc_proto.specs.declared.event.Event.TheVariants as events
use Rattle.pc_txn.specs.Counted.{IsCounted}
use Rattle.pc_txn.specs.declared.txn.OpenTxn.{OpenTxn}
use Rattle.pc_txn.proofs.Restarts.{stands_begun}
use Rattle.pc_txn.specs.Opened.{just_begun}
use Rattle.pc_txn.specs.Standing.{TxnStands}
use Rattle.pc_world.specs.Counting.{AtLeast}
use Rattle.pc_follows.specs.Eighth.{TellsTheEighth}
use Rattle.pc_follows.specs.FirstBlock.{TellsFirstBlock}
use Rattle.pc_follows.specs.FinishingJobs.{left_by}
use Rattle.pc_follows.specs.Rollbacks.{AbortsFirst, TellsRollbacks}
use Rattle.pc_follows.specs.PipelinedPuts.{TellsWritten}
use Rattle.pc_follows.specs.Refreshes.{RefreshesReads}
use Rattle.pc_follows.specs.Heartbeats.{KeepsHeartbeats}
use Rattle.pc_world.specs.Known.{Known, first_if}
use Rattle.pc_world.specs.Known.Clock.{high_told}
use Rattle.pc_world.specs.Known.Statements.{Statement, begun_told, is_open_told}
use Rattle.pc_world.specs.Known.Transactions.{Txn, begun}
use Rattle.pc_world.specs.MayTell.{MayTellIn, needs_txn}
use Rattle.pc_world.specs.Tell.Refusal.{IsConflictOf, WasMoved}

pub clock-rises : (reading high : ℕ) → high < clock_now reading high
clock-rises reading high = by (nat_lt (high / 2 ^ 32) reading) refl
  where
    by : (b : Bool) → nat_lt (high / 2 ^ 32) reading ≡ b → high < cond b (reading * 2 ^ 32) (high + 1)
    by true e = let low : high / 2 ^ 32 < reading = ltb-true (high / 2 ^ 32) reading e in omega arith
    by false e = omega arith

match_true : (b : Bool) (P Q : Type 0) → b ≡ true → P → MatchBool b P Q
match_true b P Q e p = subst (λ b. MatchBool b P Q) (sym e) p

match_false : (b : Bool) (P Q : Type 0) → b ≡ false → Q → MatchBool b P Q
match_false b P Q e q = subst (λ b. MatchBool b P Q) (sym e) q

none_open : (b : Bool) (txns : List Txn) (t : Txn) → b ≡ false → first_if b txns ≡ Some t → ⊥
none_open true txns t closed e = cc
none_open false [] t closed e = cc
none_open false (u ∷ txns) t closed e = cc

-- where no transaction is open, no heartbeat is due
pub closed_beats : (k : Known) (answer : Answer) → k.is_open ≡ false → KeepsHeartbeats k (events.Tell answer)
closed_beats k answer closed s t opened whose = absurd (none_open k.is_open k.txns t closed whose)

-- where nothing was heard in the call, nothing was met or moved eight times
pub none_heard : (k : Known) (answer : Answer) → k.heard_now ≡ [] → (s : Statement) → k.statement ≡ Some s → TellsTheEighth k s answer
none_heard k answer none s opened = record {
  blocked = λ not request eight. absurd (subst (λ hs. AtLeast (IsConflictOf request) MOST_CONFLICTS hs) none eight);
  moved = λ is eight. absurd (subst (λ hs. AtLeast (WasMoved k) MOST_REFUSALS hs) none eight);
}

-- The answer asks nothing more than its row.
record IsSimple (answer : Answer) : Type 0 where
  written : (pipelining : Bool) (k : Known) → TellsWritten pipelining k (events.Tell answer)
  aborts : (k : Known) → AbortsFirst k (events.Tell answer)
  rolled_back : (k : Known) → TellsRollbacks k (events.Tell answer)
  restarts : (k : Known) → RefreshesReads k (events.Tell answer)
  left : (k : Known) → left_by answer k ≡ []
  eighth : (k : Known) → k.heard_now ≡ [] → (s : Statement) → k.statement ≡ Some s → TellsTheEighth k s answer
  blocked : (k : Known) → TellsFirstBlock true k answer

simple_none : IsSimple answers.NoTxn
simple_none = record { written = λ pipelining k. tt; aborts = λ k. tt; rolled_back = λ k. tt; restarts = λ k. tt; left = λ k. refl; eighth = λ k none s opened. none_heard k answers.NoTxn none s opened; blocked = λ k. tt }

simple_not_yet : IsSimple answers.NotYet
simple_not_yet = record { written = λ pipelining k. tt; aborts = λ k. tt; rolled_back = λ k. tt; restarts = λ k. tt; left = λ k. refl; eighth = λ k none s opened. none_heard k answers.NotYet none s opened; blocked = λ k. tt }

simple_clock : (reading : ℕ) → IsSimple (answers.Clock reading)
simple_clock reading = record { written = λ pipelining k. tt; aborts = λ k. tt; rolled_back = λ k. tt; restarts = λ k. tt; left = λ k. refl; eighth = λ k none s opened. none_heard k (answers.Clock reading) none s opened; blocked = λ k. tt }

-- a transaction that was just begun has nothing in flight, so any call suits it
suits_begun : (pipelining : Bool) (id : TxnId) (ts : ℕ) (call : Call) → SuitsFlightNextIn pipelining (answers.Begun id ts) call []
suits_begun true id ts call = tt
suits_begun false id ts call = refl

module _ (loses : Bool) (c : Coordination) (k : Known) (r : StandsReady loses c k) (closed : k.is_open ≡ false) (unheld : c.txn ≡ None) (empty : c.later ≡ []) (over : AreAllHeard loses k) where
  course_asked : (now : Coordination) (call : Call) (reading : ℕ) → now.tries ≡ c.tries → now.splits ≡ c.splits → now.pipelining ≡ c.pipelining → now.later ≡ c.later → KeepsCourse loses now (known_asked call reading k)
  course_asked now call reading tries splits pipelining later =
      let o : KeepsCourse loses now k = course_with loses c now k tries splits pipelining (subst (λ b. MayWait b now.later) (sym pipelining) (subst (λ l. MayWait c.pipelining l) (sym later) r.course.may_wait)) r.course in
      record { tried = o.tried; rising = o.rising; ranged = ranged_asked now.splits k o.ranged call reading; one_range = o.one_range; may_wait = o.may_wait; unstaged = o.unstaged }

  -- a call is told where no transaction is open
  told_outside : (call : Call) (reading : ℕ) (answer : Answer) → IsSimple answer → MayTellIn c.splits (actors.Session c.session) (known_asked call reading k) (record { call = call; reading = reading }) answer
      → is_open_told answer k.is_open ≡ k.is_open → high_told answer k.high ≡ k.high → begun_told answer k.begun ≡ k.begun → Knows loses (telling answer c.txn c.job c) (known_asked call reading k)
  told_outside call reading answer simple told stays high begun =
      let k2 = known_asked call reading k in
      record {
        course = course_asked (telling answer c.txn c.job c) call reading refl refl refl refl;
        stands = record {
          may =
              tellable (record {
                may = record { s = record { call = call; reading = reading }; opened = refl; told = told };
                written = simple.written c.pipelining k2;
                aborts = λ quiet. simple.aborts k2;
                rolled_back = simple.rolled_back k2;
                restarts = simple.restarts k2;
                eighth = any_eighth loses k2 answer (simple.eighth k2 refl);
                blocked = λ piped s is commits. simple.blocked k2;
                beats = λ quiet. closed_beats k2 answer closed;
              }) (ap messages_left r.handed ∙ sym (simple.left k2)) (λ s is. subst (λ txn. SuitsNext c.pipelining answer s.call txn) (sym unheld) tt);
          after =
              subst (λ k. Rests loses c.session c.clock c.begun c.txn c.later c.job k) (sym (told_is answer k2))
              (record {
                counted = counted-told c.session c.clock c.begun k2 (counted-asked c.session c.clock c.begun k r.counted call reading) answer high begun;
                none_open = refl;
                held = subst (λ txn. IsHeld txn (known_told answer k2)) (sym unheld) (stays ∙ closed);
                outbox = subst (λ txn. IsOutboxOf loses txn c.later (known_told answer k2)) (sym unheld) (empty, over);
                left = no_job c.job (known_told answer k2) r.handed;
              });
        };
      }

  -- a learn, of a commit that was not met
  pub not_yet : (id : TxnId) (reading : ℕ) → Knows loses (telling answers.NotYet c.txn c.job c) (known_asked (calls.Learn id) reading k)
  not_yet id reading = told_outside (calls.Learn id) reading answers.NotYet simple_not_yet refl refl refl refl

  -- a call that needs a transaction
  pub no_txn : (call : Call) (reading : ℕ) → needs_txn call ≡ true → Knows loses (telling answers.NoTxn c.txn c.job c) (known_asked call reading k)
  no_txn call reading needs =
      let k2 = known_asked call reading k in
      told_outside call reading answers.NoTxn simple_none
      (match_true (needs_txn call && not k2.is_open) _ _ (ap (λ b. b && not k2.is_open) needs ∙ ap not closed) refl) refl refl refl

  module _ (priority : Priority) (reading : ℕ) where
    -- a begin at a reading past the clock's range
    pub past_range : GREATEST_READING < reading → Knows loses (telling (answers.Clock reading) c.txn c.job c) (known_asked (calls.Begin priority) reading k)
    past_range past =
        told_outside (calls.Begin priority) reading (answers.Clock reading) (simple_clock reading)
        (match_true (nat_lt GREATEST_READING reading) _ _ (lt-ltb GREATEST_READING reading past) refl) refl refl refl

    abbrev ts : ℕ
    ts = clock_now reading c.clock

    abbrev id : TxnId
    id = record { session = c.session; number = c.begun + 1 }

    abbrev t : Txn
    t = begun id priority reading ts

    abbrev x : OpenTxn
    x = just_begun t

    abbrev answer : Answer
    answer = answers.Begun id ts

    abbrev k2 : Known
    k2 = known_asked (calls.Begin priority) reading k

    abbrev k3 : Known
    k3 = known_told answer k2

    new : k.begun < id.number
    new = omega (arith, r.counted.begun)

    later : c.clock < ts
    later = clock-rises reading c.clock

    counted : IsCounted c.session ts (c.begun + 1) k3
    counted = record {
      clock = omega (arith, r.counted.clock, later);
      below = omega (arith, r.counted.below);
      begun = ap (λ n. n + 1) r.counted.begun;
      sent = all_own-more c.session k.begun (k.begun + 1) (length k.sent) (length k.sent) k.sent (omega arith) (omega arith) r.counted.sent;
      heard = all_heard-more c.session k.begun (k.begun + 1) (length k.sent) (length k.sent) k.heard (omega arith) (omega arith) r.counted.heard;
      sent_low = sent_low-more k.top k3.top k.sent (omega arith) r.counted.sent_low;
      heard_low = heard_low-more k.top k3.top k.heard (omega arith) r.counted.heard_low;
    }

    stands : TxnStands k3 [] None t x
    stands = stands_begun k k3 c.session (length k.sent) id priority reading ts refl (ap (λ n. n + 1) r.counted.begun) r.counted.sent r.counted.heard refl refl (omega (arith, r.counted.begun)) (omega arith)

    held : StandsOpen k3 x
    held = record { t = t; open_in = record { others = k.txns; is_open = refl; first = refl }; stands = stands; cause = refl; low = All-nil (λ ts. ts ≤ k3.top + 1) }

    -- a begin within it
    pub begins : reading ≤ GREATEST_READING → Knows loses (beginning priority reading ts (with_clock ts c)) k2
    begins within = record {
      course = course_asked (beginning priority reading ts (with_clock ts c)) (calls.Begin priority) reading refl refl refl refl;
      stands = record {
        may =
            tellable (record {
              may = record {
                s = record { call = calls.Begin priority; reading = reading };
                opened = refl;
                told =
                    match_false (nat_lt GREATEST_READING reading) _ _ (le-ltb GREATEST_READING reading within)
                    (record { priority = priority; asked = refl; next = (refl, ap (λ n. n + 1) r.counted.begun); at = ap (clock_now reading) r.counted.clock });
              };
              written = tt;
              aborts = λ quiet. tt;
              rolled_back = tt;
              restarts = tt;
              eighth = any_eighth loses k2 answer (none_heard k2 answer refl);
              blocked = λ piped s is commits. tt;
              beats = λ quiet. closed_beats k2 answer closed;
            }) (ap messages_left r.handed) (λ s is. suits_begun c.pipelining id ts s.call);
        after =
            subst (λ k. Rests loses c.session ts (c.begun + 1) (Some x) c.later c.job k) (sym (told_is answer k2))
            (record {
              counted = counted;
              none_open = refl;
              held = held;
              outbox = subst (λ l. HasOutboxBetween loses k3 x l) (sym empty) (outbox_begins k3 t x c.session k.begun (length k.sent) refl over r.counted.sent (omega (arith, new)));
              left = no_job c.job k3 r.handed;
            });
      };
    }

-- a begin at the timestamp that the clock gave
pub begun_knows : (loses : Bool) (c now : Coordination) (k : Known) (priority : Priority) (reading ts : ℕ) → StandsReady loses c k → k.is_open ≡ false → c.txn ≡ None → c.later ≡ [] → AreAllHeard loses k → now ≡ with_clock ts c → ts ≡ clock_now reading c.clock
    → reading ≤ GREATEST_READING → Knows loses (beginning priority reading ts now) (known_asked (calls.Begin priority) reading k)
begun_knows loses c now k priority reading ts r closed unheld empty over given at within =
    subst (λ n. Knows loses (beginning priority reading ts n) (known_asked (calls.Begin priority) reading k)) (sym given)
    (subst (λ t. Knows loses (beginning priority reading t (with_clock t c)) (known_asked (calls.Begin priority) reading k)) (sym at) (begins loses c k r closed unheld empty over priority reading within))

-- a reading that is not past the clock's range is within it
pub within_range : (reading : ℕ) → (GREATEST_READING < reading → ⊥) → reading ≤ GREATEST_READING
within_range reading not = by (nat_lt GREATEST_READING reading) refl
  where
    by : (b : Bool) → nat_lt GREATEST_READING reading ≡ b → reading ≤ GREATEST_READING
    by true e = absurd (not (ltb-true GREATEST_READING reading e))
    by false e = ltb-false GREATEST_READING reading e
