-- A call was just asked of the open transaction: nothing was sent in it.
use Rattle.std.proofs.Common.{◌≡◌, ℕ, ◌+◌, ◌≤◌, Bool, true, false, ◌&&◌, ◌||◌, List, [], ◌∷◌, Option, None, refl, sym, ap, ◌∙◌, subst, arith, All}
use Rattle.std.specs.List.{list_all}
use Rattle.std.proofs.lemmas.List.{append-nil}
use Rattle.std.proofs.lemmas.List.Elements.{All-cons, All-head, All-nil, All-tail, All-weaker}
use Rattle.pc_call.specs.declared.purpose.Purpose.{Purpose}
use Rattle.pc_call.specs.declared.purpose.Purpose.TheVariants as purposes
use Rattle.pc_call.specs.declared.call.OpenCall.{OpenCall}
use Rattle.pc_call.specs.Ended.{laying}
use Rattle.pc_call.specs.Fresh.{IsJustAsked}
use Rattle.pc_call.specs.Learned.{known_asked}
use Rattle.pc_call.specs.Setting.{Setting}
use Rattle.pc_call.specs.Serving.{InCall, Serves}
use Rattle.pc_call.specs.Telling.{StandsOpen}
use Rattle.pc_coord.specs.Going.{IsForMany, caused}
use Rattle.pc_proto.specs.declared.call.Call.{Call}
use Rattle.pc_proto.specs.declared.call.Call.TheVariants as calls
use Rattle.pc_proto.specs.declared.why.Why.{Why}
use Rattle.pc_proto.specs.declared.why.Why.TheVariants as whys
use Rattle.pc_proto.specs.Stamps.{why_stamps}
use Rattle.pc_txn.proofs.Keeping.{stands_on}
use Rattle.pc_txn.specs.declared.txn.OpenTxn.{OpenTxn}
use Rattle.pc_txn.specs.Opened.{next_put}
use Rattle.pc_txn.specs.Standing.{HasMovedOn, LeavesAsIs, TxnStands, is_plain}
use Rattle.pc_wave.specs.declared.message.Message.{Message}
use Rattle.pc_wave.specs.declared.message.Progress.{Progress}
use Rattle.pc_wave.specs.declared.message.Progress.TheVariants as progresses
use Rattle.pc_wave.specs.declared.step.Step.TheVariants as steps
use Rattle.pc_wave.specs.Messages.{has_answer, is_to_send, message_to_send, progress_awaits, progress_has_answer, progress_to_send, step_of, wave_awaits}
use Rattle.pc_coord.proofs.Dues.{answered_all}
use Rattle.pc_world.specs.Known.{Known}
use Rattle.pc_world.specs.Known.Transactions.{Txn}
use Rattle.pc_world.specs.Local.{is_outside, is_round}
use Rattle.pc_world.specs.StageFate.{SentCommit, SentStage}
use Rattle.pc_world.specs.Tell.Refusal.{MayBlock}

stands_caused : (k : Known) (stages : List SentStage) (commit : Option SentCommit) (t : Txn) (x : OpenTxn) (why : Why) → TxnStands k stages commit t x → TxnStands k stages commit t (caused why x)
stands_caused k stages commit t x why st = record {
  same = ap (caused why) st.same;
  number = st.number;
  begun = st.begun;
  behind = st.behind;
  at_begin = st.at_begin;
  below = st.below;
  views = st.views;
  staged = st.staged;
  accounted = st.accounted;
  late = st.late;
  live = st.live;
  shown = st.shown;
  puts = st.puts;
  put_heard = st.put_heard;
  found = st.found;
  writes = st.writes;
  flight = st.flight;
  staging = st.staging;
  reads = st.reads;
}

-- a call is asked of the open transaction
pub fresh_asked : (call : Call) (reading : ℕ) (k : Known) (x : OpenTxn) → StandsOpen k x → IsJustAsked (known_asked call reading k) (caused whys.Client x) (record { call = call; reading = reading }) x.cause
fresh_asked call reading k x o =
    let k2 = known_asked call reading k in
    let on : HasMovedOn k k2 [] [] = record { sent = sym (append-nil k.sent); heard = sym (append-nil k.heard); begun = omega arith; high = omega arith } in
    record {
      t = o.t;
      open_in = record { others = o.open_in.others; is_open = o.open_in.is_open; first = o.open_in.first };
      stands =
          stands_caused k2 [] None o.t x whys.Client
          (stands_on k k2 [] None o.t x [] [] o.stands on (All-nil (λ m. is_plain m.request ≡ true)) (All-nil (LeavesAsIs o.t)));
      client = refl;
      cause = o.cause;
      low = All-weaker (λ ts. ts ≤ k.top + 1) (λ ts. ts ≤ k2.top + 1) (λ ts low. omega (arith, low)) (why_stamps x.cause) o.low;
      opened = refl;
      none_sent = refl;
      none_heard = refl;
    }

unsent_waits : (n : ℕ) (p : Progress) → progress_to_send p ≡ true → progress_awaits n p ≡ false
unsent_waits n progresses.ToSend is = refl
unsent_waits n (progresses.Sent number) is = absurd cc
unsent_waits n (progresses.Met number conflict) is = absurd cc
unsent_waits n (progresses.Answered number reply) is = absurd cc

unsent_unanswered : (p : Progress) → progress_to_send p ≡ true → progress_has_answer p ≡ true → ⊥
unsent_unanswered progresses.ToSend is has = cc
unsent_unanswered (progresses.Sent number) is has = cc
unsent_unanswered (progresses.Met number conflict) is has = cc
unsent_unanswered (progresses.Answered number reply) is has = cc

-- where each message is to be sent, no reply is waited for
pub unsent_idle : (n : ℕ) (ms : List Message) → All (λ m. is_to_send m ≡ true) ms → wave_awaits n ms ≡ false
unsent_idle n [] a = refl
unsent_idle n (m ∷ ms) a =
    ap (λ b. b || wave_awaits n ms) (unsent_waits n m.progress (All-head (λ m. is_to_send m ≡ true) m ms a)) ∙ unsent_idle n ms (All-tail (λ m. is_to_send m ≡ true) m ms a)

both_true : (a b : Bool) → (a && b) ≡ true → (a ≡ true) × (b ≡ true)
both_true true b h = (refl, h)
both_true false b h = absurd cc

-- nor was one answered
pub unsent_none : (m : Message) (ms : List Message) → All (λ m. is_to_send m ≡ true) (m ∷ ms) → step_of (m ∷ ms) ≡ steps.Answered → ⊥
unsent_none m ms a due =
    let all = both_true (has_answer m) (list_all has_answer ms) (answered_all (m ∷ ms) due) in
    unsent_unanswered m.progress (All-head (λ m. is_to_send m ≡ true) m ms a) all.0

one_unsent : (ms : List Message) (m : Message) → ms ≡ m ∷ [] → All (λ m. is_to_send m ≡ true) ms → step_of ms ≡ steps.Answered → ⊥
one_unsent ms m one a due = unsent_none m [] (subst (λ ms. All (λ m. is_to_send m ≡ true) ms) one a) (ap step_of (sym one) ∙ due)

-- so a call whose messages are to be sent has none to answer for but where it may be answered by many
pub unsent_many : (set : Setting) (k : Known) (x : OpenTxn) (p : Purpose) (ms : List Message) → InCall set k x p ms → All (λ m. is_to_send m ≡ true) ms → step_of ms ≡ steps.Answered → IsForMany p
unsent_many set k x p ms w a due = by p w.serves
  where
    by : (p : Purpose) → Serves set k w.s w.t x w.stages p ms → IsForMany p
    by (purposes.Beat call reading) s = absurd (one_unsent ms s.m s.one a due)
    by (purposes.Prove call all) s = tt
    by purposes.Read s = tt
    by (purposes.Refresh n puts) s = tt
    by purposes.Write s = absurd (one_unsent ms s.m s.one a due)
    by (purposes.Stage n) s = tt
    by (purposes.Query n holder puts) s = absurd (one_unsent ms s.m s.asks a due)
    by (purposes.Commit n) s = absurd (one_unsent ms s.m s.one a due)
    by (purposes.LastBeat answer reading) s = absurd (one_unsent ms s.m s.one a due)
    by (purposes.Abort why) s = absurd (one_unsent ms s.m s.one a due)

-- a call that is no rollback, and is asked inside a transaction, shows life
pub may_block : (call : Call) → is_outside call ≡ false → is_round call ≡ false → (call ≡ calls.Rollback → ⊥) → MayBlock call
may_block (calls.Get key) inside plain other = tt
may_block (calls.Scan span) inside plain other = tt
may_block (calls.Put key value) inside plain other = tt
may_block (calls.Delete key) inside plain other = tt
may_block calls.Commit inside plain other = tt
may_block calls.Rollback inside plain other = other refl
may_block (calls.Begin priority) inside plain other = absurd cc
may_block (calls.Learn id) inside plain other = absurd cc
may_block calls.Round inside plain other = absurd cc

pub laid_unsent : (x : OpenTxn) (key : List ℕ) (value : Option (List ℕ)) (made : OpenCall) → made ≡ laying x key value → All (λ m. is_to_send m ≡ true) made.wave
laid_unsent x key value made is = subst (λ (call : OpenCall). All (λ m. is_to_send m ≡ true) call.wave) (sym is) (All-cons (λ (m : Message). is_to_send m ≡ true) (message_to_send (next_put x key value)) [] refl (All-nil (λ (m : Message). is_to_send m ≡ true)))
