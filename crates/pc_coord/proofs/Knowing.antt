-- A coordinator knows what its session knows, by what is due.
use Rattle.std.proofs.Common.{◌≡◌, ℕ, ◌≤◌, nat_lt, Bool, true, false, not, ◌&&◌, ◌||◌, List, [], ◌∷◌, Option, Some, None, IfSome, refl, sym, ap, ◌∙◌, subst}
use Rattle.std.proofs.lemmas.Bool.{eq-eqb}
use Rattle.std.specs.Bool.{MatchBool}
use Rattle.std.proofs.lemmas.Option.{same_Some}
use Rattle.pc_base.specs.declared.actor.ActorId.{ActorId}
use Rattle.pc_base.specs.declared.limits.TheConstants.{GREATEST_READING}
use Rattle.pc_base.specs.declared.actor.ActorId.TheVariants as actors
use Rattle.pc_call.specs.declared.call.OpenCall.{OpenCall}
use Rattle.pc_base.specs.Rising.{AreRising}
use Rattle.pc_call.specs.declared.later.LaterPut.{LaterPut}
use Rattle.pc_call.specs.declared.over.Left.{Left}
use Rattle.pc_call.specs.declared.over.Over.{Over}
use Rattle.pc_call.specs.declared.purpose.Purpose.{Purpose}
use Rattle.pc_call.specs.declared.purpose.Purpose.TheVariants as purposes
use Rattle.pc_call.specs.Finished.{MayBeSettled, MayTellOver, left_messages}
use Rattle.pc_call.specs.Learned.{known_told}
use Rattle.pc_call.specs.Outbox.{MayWait, has_waited}
use Rattle.pc_call.specs.Serving.{AreReadsOf, InCall, Serves, write_call}
use Rattle.pc_call.specs.Setting.{Setting}
use Rattle.pc_call.specs.Stages.{HasOutboxBetween}
use Rattle.pc_call.specs.Telling.{MayBeTold, MayTellOpen}
use Rattle.pc_call.specs.Waiting.{BeginsBehindProofs}
use Rattle.pc_coord.proofs.Counting.{counted-told}
use Rattle.pc_coord.proofs.Learned.{told_is}
use Rattle.pc_coord.specs.Aside.{KeepsAside}
use Rattle.pc_coord.specs.Coordination.{Coordination, calling, finishing, job_left, setting_of, telling}
use Rattle.pc_coord.specs.declared.due.Due.{Due}
use Rattle.pc_coord.specs.declared.due.Due.TheVariants as dues
use Rattle.pc_coord.specs.declared.job.Job.{Job}
use Rattle.pc_coord.specs.Going.{BeginsNothing, StandsReady}
use Rattle.pc_coord.specs.Knows.{IsTellable, KeepsCourse, Knows, KnowsAt, MayFinishJob, Rests, is_under_way, messages_left, AreAllHeard}
use Rattle.pc_coord.specs.Ranged.{IsRanged}
use Rattle.pc_coord.specs.Suiting.{SuitsNext}
use Rattle.pc_proto.specs.declared.answer.Answer.{Answer}
use Rattle.pc_proto.specs.declared.answer.Answer.TheVariants as answers
use Rattle.pc_proto.specs.declared.call.Call.{Call}
use Rattle.pc_proto.specs.declared.call.Call.TheVariants as calls
use Rattle.pc_proto.specs.declared.request.Request.{Request}
use Rattle.pc_txn.specs.declared.txn.OpenTxn.{OpenTxn}
use Rattle.pc_wave.specs.declared.message.Message.{Message}
use Rattle.pc_wave.specs.Messages.{step_of}
use Rattle.pc_follows.specs.FinishingJobs.{left_by}
use Rattle.pc_world.specs.Known.{Known, reading_in}
use Rattle.pc_world.specs.Known.Clock.{high_told}
use Rattle.pc_world.specs.Known.Statements.{Statement, begun_told}
use Rattle.pc_world.specs.Tell.Refusal.{MayBlock}
use Rattle.pc_world.specs.MayTell.{MayTell, is_begin, is_past_range, needs_txn}
use Rattle.pc_world.specs.Tell.Begin.{MayTellBegun}

-- what holds at any time holds beside any other transaction, due and outbox
pub course_with : (loses : Bool) (c now : Coordination) (k : Known) → now.tries ≡ c.tries → now.splits ≡ c.splits → now.pipelining ≡ c.pipelining → MayWait now.pipelining now.later → KeepsCourse loses c k → KeepsCourse loses now k
course_with loses c now k tries splits pipelining may o = record {
  tried = subst (λ n. 1 ≤ n) (sym tries) o.tried;
  rising = subst AreRising (sym splits) o.rising;
  ranged = subst (λ s. IsRanged s k) (sym splits) o.ranged;
  one_range = o.one_range;
  may_wait = may;
  unstaged = λ is. o.unstaged (sym pipelining ∙ is);
}

-- nothing waits where no put may
pub none_waits : (b : Bool) → MayWait b []
none_waits true = tt
none_waits false = refl

taken_none : (later later2 : List LaterPut) → later ≡ [] → ((number : ℕ) → has_waited number later2 ≡ true → has_waited number later ≡ true) → later2 ≡ []
taken_none later [] none left = refl
taken_none later (put ∷ puts) none left =
    let mine : has_waited put.number (put ∷ puts) ≡ true = ap (λ b. b || has_waited put.number puts) (eq-eqb put.number put.number refl) in
    let e : false ≡ true = sym (ap (has_waited put.number) none) ∙ left put.number mine in
    absurd cc

-- nor where what waits waited before
pub fewer_wait : (b : Bool) (later later2 : List LaterPut) → ((number : ℕ) → has_waited number later2 ≡ true → has_waited number later ≡ true) → MayWait b later → MayWait b later2
fewer_wait true later later2 left may = tt
fewer_wait false later later2 left may = taken_none later later2 may left

-- the coordinator stands ready with what waits then
pub ready_with : (loses : Bool) (c : Coordination) (k : Known) (later : List LaterPut) → StandsReady loses c k → MayWait c.pipelining later → StandsReady loses (record c { later = later }) k
ready_with loses c k later r may = record {
  course = course_with loses c (record c { later = later }) k refl refl refl may r.course;
  counted = r.counted;
  asked_at = r.asked_at;
  handed = r.handed;
}

-- more is due of a call's messages
pub calls_knows : (loses : Bool) (c : Coordination) (k : Known) (call : OpenCall) (x : OpenTxn) → StandsReady loses c k → InCall (setting_of loses c) k x call.purpose call.wave → KeepsAside loses c.pipelining k x call.purpose c.later call.wave → is_under_way (step_of call.wave)
    → Knows loses (calling call x c) k
calls_knows loses c k call x r w aside on = record {
  course = course_with loses c (calling call x c) k refl refl refl r.course.may_wait r.course;
  stands = record {
    counted = r.counted;
    x = x;
    held = refl;
    in_call = w;
    asked_at = let at = ap reading_in w.opened in at ∙ ap (λ n. Some n) (r.asked_at w.s.reading at);
    aside = aside;
    on = on;
    handed = r.handed;
  };
}

within : (s : Statement) → is_begin s.call ≡ false → is_past_range s ≡ false
within s plain = ap (λ b. b && nat_lt GREATEST_READING s.reading) plain

no_begun : (b past : Bool) (P Q R : Type 0) → past ≡ false → (P → ⊥) → (R → ⊥) → MatchBool b P (MatchBool past Q R) → ⊥
no_begun true past P Q R e p r h = p h
no_begun false false P Q R e p r h = r h
no_begun false true P Q R e p r h = cc

-- an answer to a call that begins nothing gives no begin timestamp
pub none_begun : (splits : List (List ℕ)) (actor : ActorId) (k : Known) (answer : Answer) → MayTell splits actor k answer → BeginsNothing k → (high_told answer k.high ≡ k.high) × (begun_told answer k.begun ≡ k.begun)
none_begun splits actor k (answers.Begun id ts) m none =
    let plain : is_begin m.s.call ≡ false = none m.s m.opened in
    let begins : MayTellBegun actor k m.s id ts → ⊥ = λ b. let e : false ≡ true = sym plain ∙ ap is_begin b.asked in cc in
    absurd (no_begun (needs_txn m.s.call && not k.is_open) (is_past_range m.s) (answers.Begun id ts ≡ answers.NoTxn) (answers.Begun id ts ≡ answers.Clock m.s.reading) (MayTellBegun actor k m.s id ts) (within m.s plain) (λ e. cc) begins m.told)
none_begun splits actor k answer m none = (refl, refl)

-- what may be told may be due
pub tellable : {loses : Bool} {c : Coordination} {k : Known} {answer : Answer} → MayBeTold (setting_of loses c) c.session k answer → messages_left c.job ≡ left_by answer k → ((s : Statement) → k.statement ≡ Some s → SuitsNext c.pipelining answer s.call c.txn) → IsTellable loses c k answer
tellable m left suits = record { may = m.may; written = m.written; aborts = m.aborts; rolled_back = m.rolled_back; restarts = m.restarts; eighth = m.eighth; blocked = m.blocked; beats = m.beats; left = left; suits = suits }

pub no_job : (job : Option Job) (k : Known) → job ≡ None → IfSome job (MayFinishJob k)
no_job job k none = subst (λ j. IfSome j (MayFinishJob k)) (sym none) tt

-- an answer is due, after which the transaction stays open
pub tells_knows : (loses : Bool) (c : Coordination) (k : Known) (answer : Answer) (x : OpenTxn) → StandsReady loses c k → MayTellOpen (setting_of loses c) c.session k answer x → HasOutboxBetween loses (known_told answer k) x c.later → BeginsNothing k
    → Knows loses (telling answer (Some x) c.job c) k
tells_knows loses c k answer x r m outbox none =
    let k2 = known_told answer k in
    let e = none_begun c.splits (actors.Session c.session) k answer m.may.may none in
    record {
      course = course_with loses c (telling answer (Some x) c.job c) k refl refl refl r.course.may_wait r.course;
      stands = record {
        may = tellable m.may (ap messages_left r.handed ∙ sym m.left) m.suits;
        after =
            subst (λ k. Rests loses c.session c.clock c.begun (Some x) c.later c.job k) (sym (told_is answer k))
            (record { counted = counted-told c.session c.clock c.begun k r.counted answer e.0 e.1; none_open = refl; held = m.after; outbox = outbox; left = no_job c.job k2 r.handed });
      };
    }

job_messages : (left : Option Left) → messages_left (job_left left) ≡ left_messages left
job_messages None = refl
job_messages (Some l) = by l.staged
  where
    by : (staged : Option ℕ) → messages_left (job_left (Some (record l { staged = staged }))) ≡ left_messages (Some (record l { staged = staged }))
    by None = refl
    by (Some ts) = refl

job_may : (k : Known) (left : Option Left) → IfSome left (MayBeSettled k) → IfSome (job_left left) (MayFinishJob k)
job_may k None may = tt
job_may k (Some l) may = may

-- an answer is due that ends the transaction
pub over_knows : (loses : Bool) (c : Coordination) (k : Known) (over : Over) → StandsReady loses c k → MayTellOver (setting_of loses c) c.session k over → AreAllHeard loses k → BeginsNothing k → Knows loses (finishing over c) k
over_knows loses c k over r m heard none =
    let k2 = known_told over.answer k in
    let e = none_begun c.splits (actors.Session c.session) k over.answer m.may.may none in
    record {
      course = course_with loses c (finishing over c) k refl refl refl (none_waits c.pipelining) r.course;
      stands = record {
        may = tellable m.may (job_messages over.left ∙ m.left) (λ s is. tt);
        after =
            subst (λ k. Rests loses c.session c.clock c.begun None [] (job_left over.left) k) (sym (told_is over.answer k))
            (record { counted = counted-told c.session c.clock c.begun k r.counted over.answer e.0 e.1; none_open = refl; held = m.closed; outbox = (refl, heard); left = job_may k2 over.left m.settles });
      };
    }

reads_begin : (splits : List (List ℕ)) (x : OpenTxn) (call : Call) (asked : List Request) → AreReadsOf splits x call asked → is_begin call ≡ false
reads_begin splits x (calls.Get key) asked is = refl
reads_begin splits x (calls.Scan span) asked is = refl
reads_begin splits x call asked is = absurd is

write_begin : (key : List ℕ) (value : Option (List ℕ)) → is_begin (write_call key value) ≡ false
write_begin key None = refl
write_begin key (Some value) = refl

blocks_begin : (call : Call) → MayBlock call → is_begin call ≡ false
blocks_begin (calls.Begin priority) may = absurd may
blocks_begin call may = refl

behind_begin : (call : Call) → BeginsBehindProofs call → is_begin call ≡ false
behind_begin (calls.Get key) is = refl
behind_begin (calls.Scan span) is = refl
behind_begin (calls.Put key value) is = refl
behind_begin (calls.Delete key) is = refl
behind_begin call is = absurd is

-- a call that is served begins nothing
pub served_begins : (set : Setting) (k : Known) (x : OpenTxn) (p : Purpose) (ms : List Message) → InCall set k x p ms → BeginsNothing k
served_begins set k x p ms w = λ s is. subst (λ s. is_begin s.call ≡ false) (same_Some w.s s (sym w.opened ∙ is)) (by p w.serves)
  where
    by : (p : Purpose) → Serves set k w.s w.t x w.stages p ms → is_begin w.s.call ≡ false
    by (purposes.Beat call reading) s = ap (λ (s : Statement). is_begin s.call) s.asked ∙ blocks_begin call s.asks
    by (purposes.Prove kept all) s = ap is_begin s.asked ∙ behind_begin kept s.begins
    by purposes.Read s = reads_begin set.splits x w.s.call _ s.asked
    by purposes.Write s = ap is_begin s.call ∙ write_begin s.key s.value
    by (purposes.Refresh n puts) s = ap is_begin s.commits.call
    by (purposes.Stage n) s = ap is_begin s.commits.call
    by (purposes.Query n holder puts) s = ap is_begin s.commits.call
    by (purposes.Commit n) s = ap is_begin s.commits.call
    by (purposes.LastBeat answer reading) s = ap is_begin s.gives_up.call
    by (purposes.Abort why) s = ap is_begin s.call

-- nor does a commit that gives up, or one that begins
pub asked_begins : (k : Known) (s : Statement) → k.statement ≡ Some s → is_begin s.call ≡ false → BeginsNothing k
asked_begins k s opened isnt other is = subst (λ s. is_begin s.call ≡ false) (same_Some s other (sym opened ∙ is)) isnt

rests_at : (loses : Bool) (c : Coordination) (k : Known) (due : Due) → KnowsAt loses c k due → k.statement ≡ None → Rests loses c.session c.clock c.begun c.txn c.later c.job k
rests_at loses c k dues.Nothing h none = h
rests_at loses c k (dues.Call call) h none = let e = sym h.in_call.opened ∙ none in absurd cc
rests_at loses c k (dues.Tell answer) h none = let e = sym h.may.may.opened ∙ none in absurd cc

-- where no statement is open, nothing is due
pub rests : (loses : Bool) (c : Coordination) (k : Known) → Knows loses c k → k.statement ≡ None → Rests loses c.session c.clock c.begun c.txn c.later c.job k
rests loses c k knows none = rests_at loses c k c.due knows.stands none
