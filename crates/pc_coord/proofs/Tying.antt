-- What each step of a coordinator comes to, by what it makes of the coordinator.
use Rattle.std.proofs.Common.{◌≡◌, ℕ, Bool, true, false, ◌||◌, ◌==◌, inl, inr, List, [], ◌∷◌, length, Option, Some, None, refl, sym, ap, ◌∙◌, subst, arith, OnOk, Result, Ok, Err, ◌⊎◌}
use Rattle.std.specs.Option.{option_map}
use Rattle.std.proofs.lemmas.Bool.{eq-eqb, eqb-true}
use Rattle.std.proofs.lemmas.List.Elements.{All-push}
use Rattle.std.proofs.lemmas.Option.{same_Some}
use Rattle.pc_base.specs.declared.memory.NoMemory.{NoMemory}
use Rattle.pc_base.specs.declared.transaction.Priority.{Priority}
use Rattle.pc_base.specs.declared.transaction.TxnId.{TxnId}
use Rattle.pc_call.specs.declared.call.OpenCall.{OpenCall}
use Rattle.pc_call.specs.declared.later.LaterPut.{LaterPut}
use Rattle.pc_call.specs.declared.over.Over.{Over}
use Rattle.pc_call.specs.Finished.{MayTellOver}
use Rattle.pc_call.specs.Learned.{known_asked, known_sent, known_told}
use Rattle.pc_call.specs.Outbox.{AreToSendOrOnWay, TakesFrom, has_waited}
use Rattle.pc_call.specs.Rounding.{RefusesRound}
use Rattle.pc_call.specs.declared.purpose.Purpose.{Purpose}
use Rattle.pc_call.specs.declared.purpose.Purpose.TheVariants as purposes
use Rattle.pc_call.specs.Serving.{InCall, Serves, ServesRefresh}
use Rattle.pc_call.specs.Setting.{Setting}
use Rattle.pc_call.specs.Stages.{HasOutboxBetween, IsUndecidedAt, KeepsOutbox}
use Rattle.pc_call.specs.Suiting.{SuitsFlightIn}
use Rattle.pc_call.specs.Telling.{MayTellOpen, StandsOpen}
use Rattle.pc_coord.proofs.Aside.{aside_on, free_aside, some_proofs, unsent_aside}
use Rattle.pc_coord.proofs.Awaited.{sends_own, sends_plain}
use Rattle.pc_coord.proofs.Counting.{counted-asked, counted-sent}
use Rattle.pc_coord.proofs.Knowing.{calls_knows, fewer_wait, over_knows, ready_with, tells_knows}
use Rattle.pc_coord.proofs.Learned.{learn_asked}
use Rattle.pc_coord.proofs.Outside.{no_txn, not_yet}
use Rattle.pc_coord.proofs.Ranged.{ranged_asked, ranged_sent, sends_one}
use Rattle.pc_coord.proofs.Steps.{closed, goes_way, inside, ready, standing, suiting, waiting, waiting_none}
use Rattle.pc_coord.specs.Aside.{HasAside, KeepsAside, LeavesNoneWaiting}
use Rattle.pc_coord.specs.Coming.{AwaitsBy, AwaitsOutbox}
use Rattle.pc_coord.specs.Coordination.{Coordination, awaits_number, calling, finishing, is_writing, next_at, next_of, opened_by, request_next, setting_of, telling}
use Rattle.pc_coord.specs.declared.due.Due.{Due}
use Rattle.pc_coord.specs.declared.due.Due.TheVariants as dues
use Rattle.pc_coord.specs.declared.due.Opened.{Opened}
use Rattle.pc_coord.specs.declared.kinds.Decision.TheVariants as decisions
use Rattle.pc_coord.specs.declared.next.Next.TheVariants as nexts
use Rattle.pc_coord.specs.Events.{IsAsked, ShowsUncommitted}
use Rattle.pc_coord.specs.Going.{BeginsNothing, StandsReady}
use Rattle.pc_coord.specs.Kinds.{begins_at, conflict_due, decision_in, decision_of, status_in, told_outside, written_at}
use Rattle.pc_coord.specs.Knows.{Knows, KnowsAt, is_under_way, AreAllHeard}
use Rattle.pc_coord.specs.Suiting.{Suits}
use Rattle.pc_history.specs.declared.pair.Pair.{Pair}
use Rattle.pc_proto.specs.declared.answer.Answer.{Answer}
use Rattle.pc_proto.specs.declared.answer.Answer.TheVariants as answers
use Rattle.pc_proto.specs.declared.call.Call.{Call}
use Rattle.pc_proto.specs.declared.call.Call.TheVariants as calls
use Rattle.pc_proto.specs.declared.event.Event.{Event}
use Rattle.pc_proto.specs.declared.reply.Reply.{Reply}
use Rattle.pc_proto.specs.declared.reply.Reply.TheVariants as replies
use Rattle.pc_proto.specs.declared.request.Request.{Request}
use Rattle.pc_proto.specs.declared.view.View.{View}
use Rattle.pc_proto.specs.declared.view.View.TheVariants as views
use Rattle.pc_proto.specs.declared.why.Why.{Why}
use Rattle.pc_proto.specs.Replies.{holder_in, is_conflict, is_written}
use Rattle.pc_proto.specs.Requests.{is_stage}
use Rattle.pc_txn.specs.Counted.{IsCounted}
use Rattle.pc_flight.specs.declared.write.WriteInFlight.{WriteInFlight}
use Rattle.pc_txn.specs.declared.txn.OpenTxn.{OpenTxn}
use Rattle.pc_wave.specs.declared.message.Message.{Message}
use Rattle.pc_wave.specs.declared.step.Step.{Step}
use Rattle.pc_wave.specs.declared.step.Step.TheVariants as steps
use Rattle.pc_wave.specs.declared.step.WaveState.TheVariants as states
use Rattle.pc_wave.specs.State.{state_by}
use Rattle.pc_wave.specs.Messages.{step_of, wave_awaits}
use Rattle.pc_world.specs.Answering.{IsAbortReply, IsPutReply, IsRecordReply}
use Rattle.pc_world.specs.Known.{Known, learn, next_number, reading_in, reading_of}
use Rattle.pc_world.specs.Known.Statements.{Statement}
use Rattle.pc_world.specs.Known.Traffic.{Sent}
use Rattle.pc_world.specs.Local.{is_outside, is_round}
use Rattle.pc_coord.specs.Ranged.{GoesWhereItWent}
use Rattle.pc_coord.proofs.OneRange.{one_range_sent}

-- an answer is due, and the transaction stays open
pub tell_ok : (loses : Bool) (c new : Coordination) (k : Known) (answer : Answer) (x : OpenTxn) → new ≡ telling answer (Some x) c.job c → StandsReady loses c k → MayTellOpen (setting_of loses c) c.session k answer x → HasOutboxBetween loses (known_told answer k) x c.later
    → BeginsNothing k → Knows loses new k
tell_ok loses c new k answer x made r m outbox none = subst (λ n. Knows loses n k) (sym made) (tells_knows loses c k answer x r m outbox none)

-- an answer is due that ends it
pub finish_ok : {T E : Type 0} (loses : Bool) (result : Result T E) (c new : Coordination) (k : Known) (over : Over) → OnOk result (new ≡ finishing over c) → StandsReady loses c k → MayTellOver (setting_of loses c) c.session k over → AreAllHeard loses k
    → BeginsNothing k → OnOk result (Knows loses new k)
finish_ok loses (Ok value) c new k over made r m heard none = subst (λ n. Knows loses n k) (sym made) (over_knows loses c k over r m heard none)
finish_ok loses (Err error) c new k over made r m heard none = tt

-- nothing is said of what is refused
pub err_over : {T E : Type 0} (r : Result T E) (P : Type 0) (e : E) → r ≡ Err e → OnOk r P
err_over (Ok value) P e is = absurd cc
err_over (Err error) P e is = tt

-- more is due of the call's messages
pub call_ok : (loses : Bool) (c new : Coordination) (k : Known) (call : OpenCall) (x : OpenTxn) → new ≡ calling call x c → StandsReady loses c k → InCall (setting_of loses c) k x call.purpose call.wave → KeepsAside loses c.pipelining k x call.purpose c.later call.wave
    → is_under_way (step_of call.wave) → Knows loses new k
call_ok loses c new k call x made r w aside on = subst (λ n. Knows loses n k) (sym made) (calls_knows loses c k call x r w aside on)

-- by messages that take their puts from the outbox
pub goes_ok : (loses : Bool) (c mid new : Coordination) (k : Known) (later : List LaterPut) (call : OpenCall) (x : OpenTxn) → mid ≡ record c { later = later } → new ≡ calling call x mid → StandsReady loses c k → InCall (setting_of loses c) k x call.purpose call.wave
    → HasAside loses k x c.later → KeepsOutbox loses k x later call.wave → TakesFrom c.later later call.wave → LeavesNoneWaiting call.purpose later → is_writing call.purpose ≡ false → AreToSendOrOnWay call.wave → (call.wave ≡ [] → ⊥) → Knows loses new k
goes_ok loses c mid new k later call x is made r w aside o takes joined plain go some =
    let c2 : Coordination = record c { later = later } in
    subst (λ n. Knows loses n k) (sym (made ∙ ap (calling call x) is))
    (calls_knows loses c2 k call x (ready_with loses c k later r (fewer_wait c.pipelining c.later later takes.left r.course.may_wait)) w
    (aside_on c.pipelining k x call.purpose c.later later call.wave aside o joined (some_proofs call.purpose call.wave some) (free_aside c.pipelining call.purpose k x plain) (unsent_aside c.pipelining call.purpose call.wave plain)) (goes_way call.wave go some))

pub on_way : (step : Step) → state_by step ≡ states.UnderWay → is_under_way step
on_way (steps.Send request) e = tt
on_way steps.Deliver e = tt
on_way (steps.Round number conflict) e = tt
on_way (steps.Blocked holder) e = cc
on_way steps.Answered e = cc

-- ---- what is waited for

-- nothing is waited for
pub idle_outbox : (later : List LaterPut) (due : Due) → ((n : ℕ) → awaits_number n due ≡ false) → AwaitsOutbox later due
idle_outbox later due idle n waits = let e : false ≡ true = sym (idle n) ∙ waits in absurd cc

pub told_outbox : (new : Coordination) (later : List LaterPut) (answer : Answer) → new.due ≡ dues.Tell answer → AwaitsOutbox later new.due
told_outbox new later answer made = idle_outbox later new.due (λ n. ap (awaits_number n) made)

pub nothing_outbox : (new : Coordination) (later : List LaterPut) → new.due ≡ dues.Nothing → AwaitsOutbox later new.due
nothing_outbox new later made = idle_outbox later new.due (λ n. ap (awaits_number n) made)

-- what the messages of a call wait for
pub call_outbox : (new : Coordination) (later : List LaterPut) (call : OpenCall) → new.due ≡ dues.Call call → ((n : ℕ) → wave_awaits n call.wave ≡ true → has_waited n later ≡ true) → AwaitsOutbox later new.due
call_outbox new later call made joined n waits = joined n (sym (ap (awaits_number n) made) ∙ waits)

-- where no reply to the messages is waited for, only replies to what waited are
pub by_outbox : (ms : List Message) (later : List LaterPut) (due : Due) → ((n : ℕ) → wave_awaits n ms ≡ false) → AwaitsBy ms later due → AwaitsOutbox later due
by_outbox ms later due idle (inl same) n waits = let e : false ≡ true = sym (idle n) ∙ sym (same n) ∙ waits in absurd cc
by_outbox ms later due idle (inr new) n waits = new.1 n waits

pub outbox_by : (ms : List Message) (later : List LaterPut) (due : Due) → ((n : ℕ) → wave_awaits n ms ≡ false) → AwaitsOutbox later due → AwaitsBy ms later due
outbox_by ms later due idle waits = inr (idle, waits)

pub same_by : (new : Coordination) (ms : List Message) (later : List LaterPut) (call : OpenCall) → new.due ≡ dues.Call call → call.wave ≡ ms → AwaitsBy ms later new.due
same_by new ms later call made same = inl (λ n. ap (awaits_number n) made ∙ ap (wave_awaits n) same)

pub on_outbox : {T E : Type 0} (r : Result T E) (ms : List Message) (later : List LaterPut) (due : Due) → ((n : ℕ) → wave_awaits n ms ≡ false) → OnOk r (AwaitsBy ms later due) → OnOk r (AwaitsOutbox later due)
on_outbox (Ok value) ms later due idle by = by_outbox ms later due idle by
on_outbox (Err error) ms later due idle by = tt

pub on_by : {T E : Type 0} (r : Result T E) (ms : List Message) (later : List LaterPut) (due : Due) → ((n : ℕ) → wave_awaits n ms ≡ false) → OnOk r (AwaitsOutbox later due) → OnOk r (AwaitsBy ms later due)
on_by (Ok value) ms later due idle waits = outbox_by ms later due idle waits
on_by (Err error) ms later due idle waits = tt

pub finish_outbox : {T E : Type 0} (r : Result T E) (c new : Coordination) (over : Over) (later : List LaterPut) → OnOk r (new ≡ finishing over c) → OnOk r (AwaitsOutbox later new.due)
finish_outbox (Ok value) c new over later made = told_outbox new later over.answer (ap (λ c. c.due) made)
finish_outbox (Err error) c new over later made = tt

begins_is : (call : Call) (priority : Priority) → begins_at call ≡ Some priority → call ≡ calls.Begin priority
begins_is (calls.Begin p) priority e = ap calls.Begin (same_Some p priority e)
begins_is call priority e = absurd cc

-- a learn begins nothing
pub begins_no_learn : (call : Call) (id : TxnId) (priority : Priority) → call ≡ calls.Learn id → begins_at call ≡ Some priority → ⊥
begins_no_learn call id priority is begins = let none : Some priority ≡ begins_at (calls.Learn id) = sym begins ∙ ap begins_at is in absurd cc

-- a call that begins
pub begins_knows : (loses : Bool) (new : Coordination) (k : Known) (call : Call) (reading : ℕ) (priority : Priority) (r : Result (Unit {0}) NoMemory) → begins_at call ≡ Some priority → OnOk r (Knows loses new (known_asked (calls.Begin priority) reading k))
    → OnOk r (Knows loses new (known_asked call reading k))
begins_knows loses new k call reading priority r is ok = subst (λ call. OnOk r (Knows loses new (known_asked call reading k))) (sym (begins_is call priority is)) ok

outside_by : (loses : Bool) (c : Coordination) (k : Known) (call : Call) (reading : ℕ) → StandsReady loses c k → k.is_open ≡ false → c.txn ≡ None → c.later ≡ [] → AreAllHeard loses k → is_round call ≡ false → begins_at call ≡ None
    → Knows loses (telling (told_outside call) c.txn c.job c) (known_asked call reading k)
outside_by loses c k (calls.Begin p) reading r closed unheld empty over no_round is = absurd cc
outside_by loses c k (calls.Learn id) reading r closed unheld empty over no_round is = not_yet loses c k r closed unheld empty over id reading
outside_by loses c k calls.Round reading r closed unheld empty over no_round is = absurd cc
outside_by loses c k (calls.Get key) reading r closed unheld empty over no_round is = no_txn loses c k r closed unheld empty over (calls.Get key) reading refl
outside_by loses c k (calls.Scan span) reading r closed unheld empty over no_round is = no_txn loses c k r closed unheld empty over (calls.Scan span) reading refl
outside_by loses c k (calls.Put key value) reading r closed unheld empty over no_round is = no_txn loses c k r closed unheld empty over (calls.Put key value) reading refl
outside_by loses c k (calls.Delete key) reading r closed unheld empty over no_round is = no_txn loses c k r closed unheld empty over (calls.Delete key) reading refl
outside_by loses c k calls.Commit reading r closed unheld empty over no_round is = no_txn loses c k r closed unheld empty over calls.Commit reading refl
outside_by loses c k calls.Rollback reading r closed unheld empty over no_round is = no_txn loses c k r closed unheld empty over calls.Rollback reading refl

-- any other call where no transaction is open
pub outside_knows : (loses : Bool) (c new : Coordination) (k : Known) (call : Call) (reading : ℕ) (answer : Answer) → new ≡ telling answer c.txn c.job c → answer ≡ told_outside call → begins_at call ≡ None → StandsReady loses c k → k.is_open ≡ false → c.txn ≡ None
    → c.later ≡ [] → AreAllHeard loses k → is_round call ≡ false → Knows loses new (known_asked call reading k)
outside_knows loses c new k call reading answer made said is r closed unheld empty over no_round =
    subst (λ n. Knows loses n (known_asked call reading k)) (sym (made ∙ ap (λ a. telling a c.txn c.job c) said)) (outside_by loses c k call reading r closed unheld empty over no_round is)

-- the coordinator once a call is asked, its transaction taken out
abbrev pub asking : ℕ → Coordination → Coordination
asking reading c = record c { txn = None; reading = reading }

-- a call is asked where no transaction is open
pub asked_outside : (loses : Bool) (old mid new : Coordination) (k : Known) (p : Pair Event) (call : Call) (reading : ℕ) (r : Result (Unit {0}) NoMemory) → mid ≡ asking reading old → old.txn ≡ None → Knows loses old k → IsAsked old call reading k p
    → ((k : Known) → StandsReady loses mid k → k.statement ≡ None → k.is_open ≡ false → mid.txn ≡ None → mid.later ≡ [] → AreAllHeard loses k → is_round call ≡ false → OnOk r (Knows loses new (known_asked call reading k))) → OnOk r (Knows loses new (known_asked call reading k))
asked_outside loses old mid new k p call reading r left none knows is on =
    let o = waiting_none loses old k knows is.none_open none in
    on k (subst (λ n. StandsReady loses n k) (sym left) (ready loses old k None reading knows is.none_open is.handed)) is.none_open (closed loses old k knows is.none_open none) (ap (λ c. c.txn) left) (ap (λ c. c.later) left ∙ o.0) o.1 is.no_round

-- or while one is
pub asked_inside : (loses : Bool) (old mid new : Coordination) (k : Known) (p : Pair Event) (call : Call) (reading : ℕ) (x : OpenTxn) (r : Result (Unit {0}) NoMemory) → mid ≡ asking reading old → old.txn ≡ Some x → Knows loses old k → IsAsked old call reading k p
    → ((k : Known) → StandsReady loses mid k → k.statement ≡ None → StandsOpen k x → HasOutboxBetween loses k x mid.later → reading ≡ mid.reading → Suits mid.pipelining call (Some x) → is_outside call ≡ false → is_round call ≡ false → OnOk r (Knows loses new (known_asked call reading k)))
    → OnOk r (Knows loses new (known_asked call reading k))
asked_inside loses old mid new k p call reading x r left held knows is on =
    let o = standing loses old k x knows is.none_open held in
    on k (subst (λ n. StandsReady loses n k) (sym left) (ready loses old k None reading knows is.none_open is.handed)) is.none_open o
    (subst (λ l. HasOutboxBetween loses k x l) (sym (ap (λ c. c.later) left)) (waiting loses old k x knows is.none_open held)) (sym (ap (λ c. c.reading) left))
    (subst (λ b. Suits b call (Some x)) (sym (ap (λ c. c.pipelining) left)) (suiting old x call is.suits held)) (inside k x call o is.outside) is.no_round

-- then the session knows that it asked
pub asked_learnt : (loses : Bool) (new : Coordination) (k : Known) (p : Pair Event) (old : Coordination) (call : Call) (reading : ℕ) (r : Result (Unit {0}) NoMemory) → IsAsked old call reading k p → OnOk r (Knows loses new (known_asked call reading k)) → OnOk r (Knows loses new (learn p k))
asked_learnt loses new k p old call reading r is ok = subst (λ k. OnOk r (Knows loses new k)) (sym (learn_asked call reading k p is.is)) ok

opened_due : (txn : Option OpenTxn) (due : Due) (o : Opened) → opened_by txn due ≡ Some o → (due ≡ dues.Call o.call) × (txn ≡ Some o.txn)
opened_due None due o e = absurd cc
opened_due (Some x) dues.Nothing o e = absurd cc
opened_due (Some x) (dues.Tell answer) o e = absurd cc
opened_due (Some x) (dues.Call call) o e = let same : record { call = call; txn = x } ≡ o = same_Some _ o e in (ap (λ o. dues.Call o.call) same, ap (λ o. Some o.txn) same)

-- the call that was taken out was due
pub opened_is : (c : Coordination) (o : Opened) → opened_by c.txn c.due ≡ Some o → (c.due ≡ dues.Call o.call) × (c.txn ≡ Some o.txn)
opened_is c o e = opened_due c.txn c.due o e

some_open : (loses : Bool) (c : Coordination) (k : Known) (due : Due) → KnowsAt loses c k due → opened_by c.txn due ≡ None → (call : OpenCall) → due ≡ dues.Call call → ⊥
some_open loses c k dues.Nothing h none call e = cc
some_open loses c k (dues.Tell answer) h none call e = cc
some_open loses c k (dues.Call now) h none call e =
    let o : Opened = record { call = now; txn = h.x } in
    let there : None ≡ Some o = sym none ∙ ap (λ txn. opened_by txn (dues.Call now)) h.held in
    cc

-- where a number is waited for, a call is open
pub waits_open : (loses : Bool) (c : Coordination) (k : Known) (number : ℕ) → Knows loses c k → awaits_number number c.due ≡ true → opened_by c.txn c.due ≡ None → ⊥
waits_open loses c k number knows waits none = by c.due refl waits
  where
    by : (due : Due) → c.due ≡ due → awaits_number number due ≡ true → ⊥
    by dues.Nothing is e = cc
    by (dues.Tell answer) is e = cc
    by (dues.Call call) is e = some_open loses c k c.due knows.stands none call is

sends_open_at : (pipelining : Bool) (txn : Option OpenTxn) (due : Due) (request : Request) → request_next (next_at pipelining txn due) ≡ Some request → opened_by txn due ≡ None → ⊥
sends_open_at pipelining None dues.Nothing request e none = cc
sends_open_at pipelining None (dues.Call call) request e none = cc
sends_open_at pipelining None (dues.Tell answer) request e none = cc
sends_open_at pipelining (Some x) dues.Nothing request e none = cc
sends_open_at pipelining (Some x) (dues.Call call) request e none = cc
sends_open_at pipelining (Some x) (dues.Tell answer) request e none = cc

-- where a request is due, one is too
pub sends_open : (c : Coordination) (request : Request) → request_next (next_of c) ≡ Some request → opened_by c.txn c.due ≡ None → ⊥
sends_open c request next none = sends_open_at c.pipelining c.txn c.due request next none

rounds_open_at : (pipelining : Bool) (txn : Option OpenTxn) (due : Due) (number : ℕ) (conflict : Reply) (reader : Option ℕ) → next_at pipelining txn due ≡ nexts.Conflict number conflict reader → opened_by txn due ≡ None → ⊥
rounds_open_at pipelining None dues.Nothing number conflict reader e none = cc
rounds_open_at pipelining None (dues.Call call) number conflict reader e none = cc
rounds_open_at pipelining None (dues.Tell answer) number conflict reader e none = cc
rounds_open_at pipelining (Some x) dues.Nothing number conflict reader e none = cc
rounds_open_at pipelining (Some x) (dues.Call call) number conflict reader e none = cc
rounds_open_at pipelining (Some x) (dues.Tell answer) number conflict reader e none = cc

-- and where a round is
pub rounds_open : (c : Coordination) (number : ℕ) (conflict : Reply) (reader : Option ℕ) → next_of c ≡ nexts.Conflict number conflict reader → opened_by c.txn c.due ≡ None → ⊥
rounds_open c number conflict reader next none = rounds_open_at c.pipelining c.txn c.due number conflict reader next none

-- after a message was sent, the coordinator is ready
pub ready_sent : (loses : Bool) (c : Coordination) (k : Known) (x : OpenTxn) (call : OpenCall) (number range : ℕ) (request : Request) → StandsReady loses c k → InCall (setting_of loses c) k x call.purpose call.wave → step_of call.wave ≡ steps.Send request → number ≡ next_number k → (loses ≡ true → GoesWhereItWent range request k.sent)
    → StandsReady loses c (known_sent number range request k)
ready_sent loses c k x call number range request r w step next went = record {
  course = record {
    tried = r.course.tried;
    rising = r.course.rising;
    ranged = ranged_sent c.splits k r.course.ranged number range request (sends_one (setting_of loses c) k x call.purpose call.wave r.course.rising r.course.ranged w request step);
    one_range = λ lossy. one_range_sent k number range request (went lossy) (r.course.one_range lossy);
    may_wait = r.course.may_wait;
    unstaged = λ isnt. All-push (λ (m : Sent). is_stage m.request ≡ false) k.sent (record { number = number; range = range; request = request }) (r.course.unstaged isnt) (sends_plain c.session (setting_of loses c) k x call.purpose call.wave w isnt request step);
  };
  counted =
      subst (λ n. IsCounted c.session c.clock c.begun (known_sent n range request k)) (sym next)
      (counted-sent c.session c.clock c.begun k r.counted range request (sends_own c.session (setting_of loses c) k x call.purpose call.wave w request step));
  asked_at = r.asked_at;
  handed = r.handed;
}

pub self_or : (number : ℕ) (b : Bool) → (number == number || b) ≡ true
self_or number b = ap (λ e. e || b) (eq-eqb number number refl)

written_is : (reply : Reply) (ts : ℕ) → written_at reply ≡ Some ts → reply ≡ replies.Written ts
written_is (replies.Written at) ts e = ap replies.Written (same_Some at ts e)
written_is reply ts e = absurd cc

pub written_reply : (reply : Reply) (ts : ℕ) → written_at reply ≡ Some ts → reply ≡ replies.Written ts
written_reply reply ts e = written_is reply ts e

-- a write that was not written met a conflict
pub put_met : (id : TxnId) (reply : Reply) → IsPutReply id reply → written_at reply ≡ None → is_conflict reply ≡ true
put_met id (replies.Written ts) kind none = absurd cc
put_met id (replies.Conflict holder ts key) kind none = refl
put_met id reply kind none = absurd kind

committed_view : (view : View) (epoch ts : ℕ) → decision_in view ≡ decisions.Committed epoch ts → (locks : List (List ℕ)) × (view ≡ views.Committed epoch ts locks)
committed_view (views.Committed e t locks) epoch ts is = let a : e ≡ epoch = cc in let b : t ≡ ts = cc in (locks, ap (λ e. views.Committed e t locks) a ∙ ap (λ t. views.Committed epoch t locks) b)
committed_view (views.Aborted e why locks) epoch ts is = absurd cc
committed_view (views.Pending e t) epoch ts is = absurd cc
committed_view (views.Staging e t writes) epoch ts is = absurd cc
committed_view views.Nothing epoch ts is = absurd cc

pub committed_reply : (reply : Reply) (epoch ts : ℕ) → decision_of reply ≡ decisions.Committed epoch ts → (locks : List (List ℕ)) × (reply ≡ replies.Status (views.Committed epoch ts locks))
committed_reply (replies.Status view) epoch ts is = let v = committed_view view epoch ts is in (v.0, ap replies.Status v.1)
committed_reply reply epoch ts is = absurd cc

aborted_view : (view : View) (why : Why) → decision_in view ≡ decisions.Aborted why → (epoch : ℕ) × (locks : List (List ℕ)) × (view ≡ views.Aborted epoch why locks)
aborted_view (views.Aborted e cause locks) why is = let a : cause ≡ why = cc in (e, locks, ap (λ w. views.Aborted e w locks) a)
aborted_view (views.Committed e t locks) why is = absurd cc
aborted_view (views.Pending e t) why is = absurd cc
aborted_view (views.Staging e t writes) why is = absurd cc
aborted_view views.Nothing why is = absurd cc

pub aborted_reply : (reply : Reply) (why : Why) → decision_of reply ≡ decisions.Aborted why → (epoch : ℕ) × (locks : List (List ℕ)) × (reply ≡ replies.Status (views.Aborted epoch why locks))
aborted_reply (replies.Status view) why is = let v = aborted_view view why is in (v.0, v.1, ap replies.Status v.2)
aborted_reply reply why is = absurd cc

refused_view : (view : View) (recorded : ℕ) → decision_in view ≡ decisions.Refused recorded → IsUndecidedAt (replies.Status view) recorded
refused_view (views.Pending e t) recorded is = let a : t ≡ recorded = cc in record { undecided = refl; there = a }
refused_view (views.Staging e t writes) recorded is = let a : t ≡ recorded = cc in record { undecided = refl; there = a }
refused_view (views.Committed e t locks) recorded is = absurd cc
refused_view (views.Aborted e why locks) recorded is = absurd cc
refused_view views.Nothing recorded is = absurd cc

pub refused_reply : (reply : Reply) (recorded : ℕ) → decision_of reply ≡ decisions.Refused recorded → IsUndecidedAt reply recorded
refused_reply (replies.Status view) recorded is = refused_view view recorded is
refused_reply reply recorded is = absurd cc

none_view : (view : View) → IsRecordReply (replies.Status view) → decision_in view ≡ decisions.Nothing → ⊥
none_view (views.Pending e t) kind is = cc
none_view (views.Committed e t locks) kind is = cc
none_view (views.Aborted e why locks) kind is = cc
none_view (views.Staging e t writes) kind is = cc
none_view views.Nothing kind is = kind

-- the reply to a commit says something of it
pub decided : (reply : Reply) → IsRecordReply reply → decision_of reply ≡ decisions.Nothing → ⊥
decided (replies.Status view) kind is = none_view view kind is
decided reply kind is = kind

-- a heartbeat whose record was not committed is told where that stands, or why it was aborted
pub alive_uncommitted : (reply : Reply) (epoch ts : ℕ) → ShowsUncommitted reply → decision_of reply ≡ decisions.Committed epoch ts → ⊥
alive_uncommitted (replies.Status (views.Pending at on)) epoch ts is e = cc
alive_uncommitted (replies.Status (views.Aborted at why locks)) epoch ts is e = cc
alive_uncommitted (replies.Status views.Nothing) epoch ts is e = is
alive_uncommitted (replies.Status (views.Staging at on writes)) epoch ts is e = cc
alive_uncommitted (replies.Status (views.Committed at on locks)) epoch ts is e = is
alive_uncommitted reply epoch ts is e = is

pub alive_decided : (reply : Reply) → ShowsUncommitted reply → decision_of reply ≡ decisions.Nothing → ⊥
alive_decided (replies.Status (views.Pending at on)) is e = cc
alive_decided (replies.Status (views.Aborted at why locks)) is e = cc
alive_decided (replies.Status views.Nothing) is e = is
alive_decided (replies.Status (views.Staging at on writes)) is e = cc
alive_decided (replies.Status (views.Committed at on locks)) is e = is
alive_decided reply is e = is

status_is : (reply : Reply) (view : View) → status_in reply ≡ Some view → reply ≡ replies.Status view
status_is (replies.Status shown) view e = ap replies.Status (same_Some shown view e)
status_is reply view e = absurd cc

pub status_reply : (reply : Reply) (view : View) → status_in reply ≡ Some view → reply ≡ replies.Status view
status_reply reply view e = status_is reply view e

-- the reply to an abort is a status
pub abort_status : (reply : Reply) → IsAbortReply reply → status_in reply ≡ None → ⊥
abort_status (replies.Status view) kind none = cc
abort_status reply kind none = kind

pub due_conflict : (step : Step) (number : ℕ) (conflict : Reply) → step ≡ steps.Round number conflict → conflict_due step ≡ Some conflict
due_conflict step number conflict is = ap conflict_due is

refused_by : (start k : Known) (own : TxnId) (conflict : Reply) (answer : Option Answer) → RefusesRound start k own conflict → answer ≡ None → answer ≡ option_map answers.Blocked (holder_in conflict) → ⊥
refused_by start k own (replies.Conflict holder ts key) answer refuses none is = let e = sym none ∙ is in cc
refused_by start k own conflict answer refuses none is = absurd refuses.refused

-- the push of a round that was refused has a holder
pub refused_holder : (start k : Known) (own : TxnId) (conflict : Reply) (answer : Option Answer) → RefusesRound start k own conflict → answer ≡ None → answer ≡ option_map answers.Blocked (holder_in conflict) → ⊥
refused_holder start k own conflict answer refuses none is = refused_by start k own conflict answer refuses none is

-- a coordinator is ready once the call was asked
pub ready_asked : (loses : Bool) (c : Coordination) (k : Known) (call : Call) (reading : ℕ) → reading ≡ c.reading → StandsReady loses c k → StandsReady loses c (known_asked call reading k)
ready_asked loses c k call reading at r = record {
  course = record {
    tried = r.course.tried;
    rising = r.course.rising;
    ranged = ranged_asked c.splits k r.course.ranged call reading;
    one_range = r.course.one_range;
    may_wait = r.course.may_wait;
    unstaged = r.course.unstaged;
  };
  counted = counted-asked c.session c.clock c.begun k r.counted call reading;
  asked_at = λ now is. same_Some now reading (sym is) ∙ at;
  handed = r.handed;
}

-- a list of which nothing is in flight
pub none_in_flight : (f : List WriteInFlight) → (length f == 0) ≡ true → f ≡ []
none_in_flight [] none = refl
none_in_flight (w ∷ ws) none = let e : length (w ∷ ws) ≡ 0 = eqb-true (length (w ∷ ws)) 0 none in absurd (omega (arith, e))

-- the call was asked at the coordinator's reading
pub asked_reading : (loses : Bool) (c : Coordination) (k : Known) → StandsReady loses c k → (s : Statement) → k.statement ≡ Some s → reading_of k ≡ Some c.reading
asked_reading loses c k r s opened = let at = ap reading_in opened in at ∙ ap (λ n. Some n) (r.asked_at s.reading at)

-- nothing was taken from what waits
pub same_waits : (loses : Bool) (c : Coordination) (k : Known) (later : List LaterPut) → StandsReady loses c k → later ≡ c.later → StandsReady loses (record c { later = later }) k
same_waits loses c k later r same = subst (λ l. StandsReady loses (record c { later = l }) k) (sym same) r

-- a commit that refreshed suits what is in flight
pub suits_open : (set : Setting) (k : Known) (x : OpenTxn) (p : Purpose) (ms : List Message) (w : InCall set k x p ms) (n : ℕ) (puts : List Message) → p ≡ purposes.Refresh n puts → SuitsFlightIn set.course.pipelines calls.Commit x.in_flight
suits_open set k x p ms w n puts e =
    let s : ServesRefresh set.course.loses n puts k w.s w.t x ms = subst (λ q. Serves set k w.s w.t x w.stages q ms) e w.serves in
    subst (λ call. SuitsFlightIn set.course.pipelines call x.in_flight) s.commits.call w.plain

-- a reply to a put or a stage that neither wrote nor shows a record met a conflict
pub met_or_decided : (id : TxnId) (reply : Reply) → IsPutReply id reply ⊎ IsRecordReply reply → is_written reply ≡ false → decision_of reply ≡ decisions.Nothing → is_conflict reply ≡ true
met_or_decided id reply (inr shows) isnt none = absurd (decided reply shows none)
met_or_decided id (replies.Written ts) (inl put) isnt none = absurd cc
met_or_decided id (replies.Conflict holder ts key) (inl put) isnt none = refl
met_or_decided id reply (inl put) isnt none = absurd put
