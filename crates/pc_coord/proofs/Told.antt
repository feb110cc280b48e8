-- A coordinator at its beginning, what it gives, and once its call was told what is due.
use Rattle.std.proofs.Common.{◌≡◌, ℕ, ◌≤◌, Bool, true, false, ◌&&◌, ◌||◌, if◌then◌else◌, List, [], ◌∷◌, Option, Some, None, IfOk, IfSome, Ok, Err, Result, refl, sym, ap, ◌∙◌, subst, arith, IsTrue, All}
use Rattle.std.proofs.lemmas.List.Elements.{All-nil}
use Rattle.std.specs.List.{list_any}
use Rattle.std.proofs.lemmas.Bool.{eq-eqb, or_right}
use Rattle.std.proofs.lemmas.Option.{same_Some}
use Rattle.pc_base.specs.declared.memory.NoMemory.{NoMemory}
use Rattle.pc_base.specs.Rising.{AreRising}
use Rattle.pc_call.proofs.Facts.{open_is}
use Rattle.pc_call.proofs.Sending.{step_given}
use Rattle.pc_call.specs.declared.call.OpenCall.{OpenCall}
use Rattle.pc_call.specs.Giving.{MayBeGiven}
use Rattle.pc_call.specs.Opening.{reader_of}
use Rattle.pc_call.specs.Outbox.{MayWait}
use Rattle.pc_call.specs.Sending.{IsSendable}
use Rattle.pc_coord.proofs.Awaited.{none_awaited}
use Rattle.pc_coord.proofs.Knowing.{none_waits}
use Rattle.pc_coord.proofs.Learned.{learn_own, told_is}
use Rattle.pc_coord.proofs.Ranged.{ranged_told, sends_one}
use Rattle.pc_coord.specs.Coordination.{Coordination, awaits_number, is_writing, next_at, next_by, next_in, next_of, setting_of, with_nothing_due}
use Rattle.pc_coord.specs.declared.due.Due.{Due}
use Rattle.pc_coord.specs.declared.due.Due.TheVariants as dues
use Rattle.pc_coord.specs.declared.job.Job.{Job}
use Rattle.pc_coord.specs.declared.next.Next.{Next}
use Rattle.pc_coord.specs.declared.next.Next.TheVariants as nexts
use Rattle.pc_coord.specs.declared.pusher.Pusher.{Pusher}
use Rattle.pc_coord.specs.Events.{IsTold}
use Rattle.pc_coord.specs.Knows.{AwaitsNone, HasCallDue, IsHeardBesideOrPut, IsHeld, IsOutboxOf, KeepsCourse, Knows, KnowsAt, MayCome, MayFinishJob, Rests, is_under_way, learned}
use Rattle.pc_coord.specs.Pusher.{IsPusherOf, pusher_of}
use Rattle.pc_coord.specs.Ranged.{ReadsInOne}
use Rattle.pc_history.specs.declared.pair.Pair.{Pair}
use Rattle.pc_proto.specs.declared.answer.Answer.{Answer}
use Rattle.pc_proto.specs.declared.event.Event.{Event}
use Rattle.pc_proto.specs.declared.event.Event.TheVariants as events
use Rattle.pc_proto.specs.declared.reply.Reply.{Reply}
use Rattle.pc_proto.specs.declared.request.Request.{Request}
use Rattle.pc_proto.specs.Requests.{is_stage}
use Rattle.pc_proto.specs.Stamps.{request_stamps}
use Rattle.pc_txn.specs.Counted.{IsOwnHeard, IsOwnSent}
use Rattle.pc_txn.specs.declared.txn.OpenTxn.{OpenTxn}
use Rattle.pc_wave.specs.declared.message.Message.{Message}
use Rattle.pc_wave.specs.declared.message.Progress.{Progress}
use Rattle.pc_wave.specs.declared.message.Progress.TheVariants as progresses
use Rattle.pc_wave.specs.declared.step.Step.{Step}
use Rattle.pc_wave.specs.declared.step.Step.TheVariants as steps
use Rattle.pc_wave.specs.Messages.{awaits_at, is_out, progress_awaits, progress_out, step_of, wave_awaits}
use Rattle.pc_world.specs.Known.{Known, learn, nothing_known}
use Rattle.pc_world.specs.Known.Traffic.{Heard, Sent}
use Rattle.pc_world.specs.Known.Transactions.{Txn}
use Rattle.pc_world.specs.RangeOf.{IsForOne}

-- a coordinator that is new knows that nothing was done
pub new_knows : (loses : Bool) (c : Coordination) → 1 ≤ c.tries → AreRising c.splits → c.clock ≡ 0 → c.begun ≡ 0 → c.txn ≡ None → c.later ≡ [] → c.due ≡ dues.Nothing → c.job ≡ None → Knows loses c nothing_known
new_knows loses c tried rising clock begun txn later due job = record {
  course = record {
    tried = tried;
    rising = rising;
    ranged = record { heard = All-nil (λ (h : Heard). IsForOne c.splits h.request); sent = All-nil (λ (m : Sent). IsForOne c.splits m.request); reads = All-nil (ReadsInOne c.splits) };
    one_range = λ lossy one other there. absurd (omega (arith, there.1));
    may_wait = subst (λ l. MayWait c.pipelining l) (sym later) (none_waits c.pipelining);
    unstaged = λ isnt. All-nil (λ (m : Sent). is_stage m.request ≡ false);
  };
  stands = subst (λ d. KnowsAt loses c nothing_known d) (sym due) (record {
    counted = record {
      clock = clock;
      below = omega arith;
      begun = begun;
      sent = All-nil (IsOwnSent c.session 0 0);
      heard = All-nil (IsOwnHeard c.session 0 0);
      sent_low = All-nil (λ (m : Sent). All (λ ts. ts ≤ 0) (request_stamps m.request));
      heard_low = All-nil (λ (h : Heard). All (λ ts. ts ≤ 0) (request_stamps h.request));
    };
    none_open = refl;
    held = subst (λ t. IsHeld t nothing_known) (sym txn) refl;
    outbox = subst (λ t. IsOutboxOf loses t c.later nothing_known) (sym txn) (later, λ quiet. All-nil (IsHeardBesideOrPut nothing_known));
    left = subst (λ j. IfSome j (MayFinishJob nothing_known)) (sym job) tt;
  });
}

pub job_may : (loses : Bool) (c : Coordination) (k : Known) (job : Option Job) → job ≡ c.job → Knows loses c k → c.due ≡ dues.Nothing → IfSome job (MayFinishJob k)
job_may loses c k job made knows due =
    let r : Rests loses c.session c.clock c.begun c.txn c.later c.job k = subst (λ d. KnowsAt loses c k d) due knows.stands in
    subst (λ j. IfSome j (MayFinishJob k)) (sym made) r.left

tells_by : (reader : Option ℕ) (at_once : Bool) (step : Step) (answer : Answer) → next_by reader at_once step ≡ nexts.Tell answer → ⊥
tells_by reader true (steps.Send request) answer e = cc
tells_by reader false (steps.Send request) answer e = cc
tells_by reader at_once steps.Deliver answer e = cc
tells_by reader at_once (steps.Round number conflict) answer e = cc
tells_by reader at_once (steps.Blocked holder) answer e = cc
tells_by reader at_once steps.Answered answer e = cc

tells_in : (pipelining : Bool) (txn : Option OpenTxn) (call : OpenCall) (answer : Answer) → next_in pipelining txn call ≡ nexts.Tell answer → ⊥
tells_in pipelining None call answer e = cc
tells_in pipelining (Some x) call answer e = tells_by (reader_of call.purpose x) (pipelining && is_writing call.purpose) (step_of call.wave) answer e

told_at : (loses : Bool) (c : Coordination) (k : Known) (due : Due) (answer : Answer) → KnowsAt loses c k due → next_at c.pipelining c.txn due ≡ nexts.Tell answer → Rests loses c.session c.clock c.begun c.txn c.later c.job (learned (events.Tell answer) k)
told_at loses c k (dues.Tell told) answer h e = let same : told ≡ answer = cc in subst (λ a. Rests loses c.session c.clock c.begun c.txn c.later c.job (learned (events.Tell a) k)) same h.after
told_at loses c k (dues.Call call) answer h e = absurd (tells_in c.pipelining c.txn call answer e)
told_at loses c k dues.Nothing answer h e = absurd cc

-- what is due was told
pub told_knows : (loses : Bool) (c : Coordination) (k : Known) (p : Pair Event) (answer : Answer) → Knows loses c k → IsTold c answer p → Knows loses (with_nothing_due c) (learn p k)
told_knows loses c k p answer knows is =
    let e = learn_own (events.Tell answer) k p is.is in
    record {
      course = subst (λ k. KeepsCourse loses (with_nothing_due c) k) (sym (e ∙ told_is answer k)) (record {
        tried = knows.course.tried;
        rising = knows.course.rising;
        ranged = ranged_told c.splits k knows.course.ranged answer;
        one_range = knows.course.one_range;
        may_wait = knows.course.may_wait;
        unstaged = knows.course.unstaged;
      });
      stands =
          subst (λ k. Rests loses c.session c.clock c.begun c.txn c.later c.job k) (sym e)
          (told_at loses c k c.due answer knows.stands is.due);
    }

out_awaits : (p : Progress) → progress_out p ≡ true → (n : ℕ) × (progress_awaits n p ≡ true)
out_awaits progresses.ToSend e = absurd cc
out_awaits (progresses.Sent number) e = (number, eq-eqb number number refl)
out_awaits (progresses.Met number conflict) e = absurd cc
out_awaits (progresses.Answered number reply) e = absurd cc

-- where a message is out, it is waited for under its number
some_out : (ms : List Message) → list_any is_out ms ≡ true → (n : ℕ) × (wave_awaits n ms ≡ true)
some_out [] e = absurd cc
some_out (m ∷ ms) e = by (some_out ms) (is_out m) refl e
  where
    by : (list_any is_out ms ≡ true → (n : ℕ) × (wave_awaits n ms ≡ true)) → (b : Bool) → is_out m ≡ b → (b || list_any is_out ms) ≡ true → (n : ℕ) × (wave_awaits n (m ∷ ms) ≡ true)
    by later true is e = let a = out_awaits m.progress is in (a.0, ap (λ b. b || wave_awaits a.0 ms) a.1)
    by later false is e = let a = later e in (a.0, or_right (awaits_at a.0 m) (wave_awaits a.0 ms) a.1)

module _ (loses : Bool) (c : Coordination) (k : Known) (call : OpenCall) (knows : Knows loses c k) (due : c.due ≡ dues.Call call) where
  at : HasCallDue loses c k call
  at = subst (λ d. KnowsAt loses c k d) due knows.stands

  waits_at : (number : ℕ) → IsTrue (awaits_number number c.due) → wave_awaits number call.wave ≡ true
  waits_at number waits = sym (ap (awaits_number number) due) ∙ waits

  abbrev at_once : Bool
  at_once = c.pipelining && is_writing call.purpose

  goes_by : (b : Bool) (request : Request) → IsSendable (setting_of loses c) c.session k request × AwaitsNone c k request × IsForOne c.splits request → MayCome loses c k (if b then nexts.Later request else nexts.Send request)
  goes_by true request may = may
  goes_by false request may = may

  -- a step of the messages that is allowed may come next
  step_comes : (step : Step) → step_of call.wave ≡ step → is_under_way step → MayBeGiven c.session (setting_of loses c) k at.x call.purpose call.wave step → MayCome loses c k (next_by (reader_of call.purpose at.x) at_once step)
  step_comes (steps.Send request) is on given =
      goes_by at_once request (
        given,
        (λ number other waits said same. none_awaited (setting_of loses c).course k call.wave at.in_call.wave request is number other (waits_at number waits) said same),
        sends_one (setting_of loses c) k at.x call.purpose call.wave knows.course.rising knows.course.ranged at.in_call request is,
      )
  step_comes steps.Deliver is on given = let n = some_out call.wave given.some in (n.0, ap (awaits_number n.0) due ∙ n.1)
  step_comes (steps.Round number conflict) is on given = given
  step_comes (steps.Blocked holder) is on given = absurd on
  step_comes steps.Answered is on given = absurd on

  given_now : MayBeGiven c.session (setting_of loses c) k at.x call.purpose call.wave (step_of call.wave)
  given_now = step_given c.session c.clock c.begun (setting_of loses c) k at.x call.purpose call.wave at.counted at.in_call {E = NoMemory} (Ok (step_of call.wave)) refl

  call_comes : MayCome loses c k (next_in c.pipelining c.txn call)
  call_comes = subst (λ txn. MayCome loses c k (next_in c.pipelining txn call)) (sym at.held) (step_comes (step_of call.wave) refl at.on given_now)

come_at : (loses : Bool) (c : Coordination) (k : Known) → Knows loses c k → (due : Due) → c.due ≡ due → KnowsAt loses c k due → MayCome loses c k (next_at c.pipelining c.txn due)
come_at loses c k knows dues.Nothing is h = h.none_open
come_at loses c k knows (dues.Call call) is h = call_comes loses c k call knows is
come_at loses c k knows (dues.Tell answer) is h = h.may

-- what is due is allowed
pub comes : (loses : Bool) (c : Coordination) (k : Known) → Knows loses c k → MayCome loses c k (next_of c)
comes loses c k knows = come_at loses c k knows c.due refl knows.stands

pub next_ok : (loses : Bool) (c : Coordination) (k : Known) (r : Result Next NoMemory) → IfOk r (λ next. next ≡ next_of c) → Knows loses c k → IfOk r (MayCome loses c k)
next_ok loses c k (Ok next) is knows = subst (λ n. MayCome loses c k n) (sym is) (comes loses c k knows)
next_ok loses c k (Err e) is knows = tt

pushes_at : (loses : Bool) (c : Coordination) (k : Known) (due : Due) → KnowsAt loses c k due → (number : ℕ) (conflict : Reply) (reader : Option ℕ) → next_at c.pipelining c.txn due ≡ nexts.Conflict number conflict reader → IsPusherOf k (pusher_of c.txn)
pushes_at loses c k dues.Nothing h number conflict reader next = absurd cc
pushes_at loses c k (dues.Tell answer) h number conflict reader next = absurd cc
pushes_at loses c k (dues.Call call) h number conflict reader next = λ t opened.
    let same : h.in_call.t ≡ t = same_Some h.in_call.t t (sym (open_is k h.in_call.t h.in_call.open_in) ∙ opened) in
    let pusher : Txn → Option Pusher = λ t. Some (record { id = t.id; level = t.priority }) in
    ap pusher_of h.held ∙ ap (λ (x : OpenTxn). pusher_of (Some x)) h.in_call.stands.same ∙ ap pusher same

-- who pushes is the open transaction
pub pushes : (loses : Bool) (c : Coordination) (k : Known) (number : ℕ) (conflict : Reply) (reader : Option ℕ) → Knows loses c k → next_of c ≡ nexts.Conflict number conflict reader → IsPusherOf k (pusher_of c.txn)
pushes loses c k number conflict reader knows next = pushes_at loses c k c.due knows.stands number conflict reader next
