-- A commit gives up, and leaves its transaction open.
use Rattle.std.proofs.Common.{◌≡◌, ◌≢◌, ℕ, Bool, true, false, List, [], ◌∷◌, None, Some, refl, sym, ap, ◌∙◌, subst, Contains, IfOk, OnOk, Ok, Err, Result}
use Rattle.std.proofs.lemmas.Option.{same_Some}
use Rattle.pc_base.specs.declared.transaction.TxnId.{TxnId}
use Rattle.pc_call.proofs.Facts.{open_is}
use Rattle.pc_call.proofs.GivingUp.{may_give_up}
use Rattle.pc_call.proofs.Kept.{late_passed}
use Rattle.pc_call.specs.declared.later.LaterPut.{LaterPut}
use Rattle.pc_call.specs.declared.call.OpenCall.{OpenCall}
use Rattle.pc_call.specs.declared.over.Over.{Over}
use Rattle.pc_call.specs.declared.purpose.Purpose.{Purpose}
use Rattle.pc_call.specs.declared.purpose.Purpose.TheVariants as purposes
use Rattle.pc_call.specs.Giving.{MayBlockIt}
use Rattle.pc_call.specs.GivenUp.{GivesUpBy, MayGiveUp}
use Rattle.pc_call.specs.GivingUp.{IsWhy, given_up}
use Rattle.pc_call.specs.Learned.{known_told}
use Rattle.pc_call.specs.Losses.{rolled_back_unheard}
use Rattle.pc_call.specs.Outbox.{MayWait, has_waited}
use Rattle.pc_call.specs.Queries.{missed_by}
use Rattle.pc_call.specs.Serving.{InCall}
use Rattle.pc_call.specs.Setting.{Setting}
use Rattle.pc_call.specs.Stages.{HasOutboxBetween}
use Rattle.pc_call.specs.Suiting.{SuitsFlight, SuitsFlightIn, SuitsFlightNextIn}
use Rattle.pc_call.specs.Telling.{MayTellOpen}
use Rattle.pc_coord.proofs.Ending.{StaysBut, wait_on}
use Rattle.pc_coord.proofs.Knowing.{asked_begins, none_waits, ready_with}
use Rattle.pc_coord.proofs.Onward.{served_query}
use Rattle.pc_coord.proofs.Tells.{outbox_restarts, told_opened}
use Rattle.pc_coord.proofs.Tying.{tell_ok, told_outbox}
use Rattle.pc_coord.specs.Aside.{HasAside}
use Rattle.pc_coord.specs.Coming.{AwaitsOutbox, ComesOf, IsBlockOf, IsLeftOf}
use Rattle.pc_coord.specs.Coordination.{Coordination, setting_of, telling}
use Rattle.pc_coord.specs.declared.due.Due.{Due}
use Rattle.pc_coord.specs.declared.due.Due.TheVariants as dues
use Rattle.pc_coord.specs.Ends.{later_left}
use Rattle.pc_coord.specs.Going.{BeginsNothing, StandsReady}
use Rattle.pc_coord.specs.Kinds.{written_at}
use Rattle.pc_coord.specs.Knows.{Knows}
use Rattle.pc_proto.specs.declared.answer.Answer.{Answer}
use Rattle.pc_proto.specs.declared.answer.Answer.TheVariants as answers
use Rattle.pc_proto.specs.declared.call.Call.{Call}
use Rattle.pc_proto.specs.declared.call.Call.TheVariants as calls
use Rattle.pc_proto.specs.declared.reply.Reply.{Reply}
use Rattle.pc_proto.specs.declared.reply.Reply.TheVariants as replies
use Rattle.pc_proto.specs.Replies.{is_written}
use Rattle.pc_proto.specs.declared.request.Request.{Request}
use Rattle.pc_proto.specs.declared.why.Why.{Why}
use Rattle.pc_staging.specs.Kept.{is_over, is_passed_by, without_stages}
use Rattle.pc_txn.specs.declared.txn.OpenTxn.{OpenTxn}
use Rattle.pc_txn.specs.Opened.{meta_now, restarted_by}
use Rattle.pc_txn.specs.Silence.{own_beat}
use Rattle.pc_wave.specs.declared.message.Message.{Message}
use Rattle.pc_wave.specs.Messages.{message_to_send}
use Rattle.pc_world.specs.Answering.{IsQueryReply}
use Rattle.pc_world.specs.Known.{Known}
use Rattle.pc_world.specs.Known.Traffic.{replies_to}
use Rattle.pc_world.specs.Known.Statements.{Statement}
use Rattle.pc_world.specs.Known.Transactions.{txn_told}
use Rattle.pc_world.specs.MayTell.{is_begin}

suits_next : (b : Bool) (k : Known) (answer : Answer) (x : OpenTxn) (call : Call) → IsWhy k answer → call ≡ calls.Commit → SuitsFlightIn b calls.Commit x.in_flight → SuitsFlightNextIn b answer call (given_up answer x).in_flight
suits_next true k answer x call why is suits = tt
suits_next false k (answers.Restart key ts) x call why is suits = refl
suits_next false k (answers.Blocked holder) x call why is suits = subst (λ call. SuitsFlight call x.in_flight) (sym is) suits
suits_next false k (answers.Moved ts) x call why is suits = subst (λ call. SuitsFlight call x.in_flight) (sym is) suits
suits_next false k answer x call why is suits = absurd why

module _ (loses : Bool) (c : Coordination) (k : Known) (x : OpenTxn) (answer : Answer) (g : GivesUpBy loses k x answer) where
  -- each of its stages is late
  pub gives_passed : is_passed_by x.staging ≡ true
  gives_passed = late_passed k g.stages g.t x.staging g.gives_up.stands.staging g.gives_up.late

  module _ (over : is_over x.staging ≡ true) where
    now : MayGiveUp (setting_of loses c) c.session k x answer
    now = may_give_up (setting_of loses c) c.session k x answer g over

    -- so it may be told, and its transaction stays open
    pub may_leave : SuitsFlightIn c.pipelining calls.Commit x.in_flight → MayTellOpen (setting_of loses c) c.session k answer (given_up answer x)
    may_leave suits = record {
      may = now.may;
      left = now.left;
      after = now.after;
      suits = λ s is. suits_next c.pipelining k answer x s.call g.gives_up.why (ap (λ (s : Statement). s.call) (same_Some s g.s (sym is ∙ g.opened)) ∙ g.gives_up.call) suits;
    }

  -- none of its puts waits where the transaction restarts
  restarts_waiting : (key : List ℕ) (ts : ℕ) → HasAside loses k x c.later → HasOutboxBetween loses (known_told (answers.Restart key ts) k) (restarted_by key ts x) []
  restarts_waiting key ts h =
      let opened = open_is k g.t g.open_in in
      let replied = replies_to k.sent_now k.heard_now in
      outbox_restarts k g.split x (restarted_by key ts x) c.later h g.t (txn_told (answers.Restart key ts) replied g.t) opened g.gives_up.stands.puts key ts (told_opened k.is_open (answers.Restart key ts) replied k.txns g.t opened) refl refl

  -- else they wait on
  pub leaves_waiting : HasAside loses k x c.later → HasOutboxBetween loses (known_told answer k) (given_up answer x) (later_left answer c.later)
  leaves_waiting h = by answer refl g.gives_up.why
    where
      by : (a : Answer) → answer ≡ a → IsWhy k a → HasOutboxBetween loses (known_told a k) (given_up a x) (later_left a c.later)
      by (answers.Restart key ts) is why = restarts_waiting key ts h
      by (answers.Blocked holder) is why = wait_on k x (given_up (answers.Blocked holder) x) c.later (answers.Blocked holder) g.split h tt ((λ anchor. refl), (λ f there. there))
      by (answers.Moved ts) is why = wait_on k x (given_up (answers.Moved ts) x) c.later (answers.Moved ts) g.split h tt ((λ anchor. refl), (λ f there. there))
      by a is why = absurd why

  -- it begins nothing
  pub gives_begins : BeginsNothing k
  gives_begins = asked_begins k g.s g.opened (ap is_begin g.gives_up.call)

may_left : (b : Bool) (answer : Answer) (later : List LaterPut) → MayWait b later → MayWait b (later_left answer later)
may_left b (answers.Restart key ts) later may = none_waits b
may_left b answer later may = may

-- a commit that gives up is told so, and its transaction stays open
pub left_open : (loses : Bool) (c mid new : Coordination) (k : Known) (x x2 : OpenTxn) (answer : Answer) → mid ≡ record c { later = later_left answer c.later } → x2 ≡ given_up answer x → new ≡ telling answer (Some x2) mid.job mid → StandsReady loses c k
    → GivesUpBy loses k x answer → HasAside loses k x c.later → is_over x.staging ≡ true → SuitsFlightIn c.pipelining calls.Commit x.in_flight → Knows loses new k
left_open loses c mid new k x x2 answer cleared left made r g h over suits =
    let c2 : Coordination = record c { later = later_left answer c.later } in
    tell_ok loses c2 new k answer (given_up answer x) (made ∙ (ap (λ (y : OpenTxn). telling answer (Some y) mid.job mid) left ∙ ap (λ (m : Coordination). telling answer (Some (given_up answer x)) m.job m) cleared))
    (ready_with loses c k (later_left answer c.later) r (may_left c.pipelining answer c.later r.course.may_wait)) (may_leave loses c k x answer g over suits) (leaves_waiting loses c k x answer g h) (gives_begins loses c k x answer g)

pub left_else : (answer : Answer) (later : List LaterPut) → ((key : List ℕ) (ts : ℕ) → answer ≡ answers.Restart key ts → ⊥) → later_left answer later ≡ later
left_else (answers.Restart key ts) later isnt = absurd (isnt key ts refl)
left_else answer later isnt = refl

pub left_by : (answer : Answer) (later after : List LaterPut) → after ≡ later_left answer later → IsLeftOf later after
left_by (answers.Restart key ts) later after made n was = let e : false ≡ true = subst (λ l. has_waited n l ≡ true) made was in absurd cc
left_by answer later after made n was = subst (λ l. has_waited n l ≡ true) made was

pub given_else : (answer : Answer) (x : OpenTxn) → ((key : List ℕ) (ts : ℕ) → answer ≡ answers.Restart key ts → ⊥) → given_up answer x ≡ record x { staging = without_stages x.staging }
given_else (answers.Restart key ts) x isnt = absurd (isnt key ts refl)
given_else answer x isnt = refl

-- its last heartbeat is at some anchor
pub beat_anchored : {E : Type 0} (x : OpenTxn) (reading : ℕ) (anchor : List ℕ) (r : Result OpenCall E) → IfOk r (λ made. made.wave ≡ message_to_send (own_beat x reading anchor) ∷ []) → IfOk r (λ made. (anchor : List ℕ) × (made.wave ≡ message_to_send (own_beat x reading anchor) ∷ []))
beat_anchored x reading anchor (Ok made) one = (anchor, one)
beat_anchored x reading anchor (Err error) one = tt

-- which answers a commit gives up by
told_is_plain : (messages : List Message) (answer : Answer) → ((holder : TxnId) → answer ≢ answers.Blocked holder) → IsBlockOf messages answer
told_is_plain messages (answers.Blocked holder) isnt = absurd (isnt holder refl)
told_is_plain messages answer isnt = tt

pub told_plain : {T E : Type 0} (r : Result T E) (due : Due) (messages : List Message) (answer : Answer) → OnOk r (due ≡ dues.Tell answer) → ((holder : TxnId) → answer ≢ answers.Blocked holder) → OnOk r (ComesOf messages due)
told_plain (Ok value) due messages answer is isnt = subst (ComesOf messages) (sym is) (told_is_plain messages answer isnt)
told_plain (Err error) due messages answer is isnt = tt

pub told_waits : {T E : Type 0} (r : Result T E) (new : Coordination) (later : List LaterPut) (answer : Answer) → OnOk r (new.due ≡ dues.Tell answer) → OnOk r (AwaitsOutbox later new.due)
told_waits (Ok value) new later answer is = told_outbox new later answer is
told_waits (Err error) new later answer is = tt

-- a holder blocks a call that does not stage
pub blocks_open : (session : ℕ) (set : Setting) (k : Known) (x : OpenTxn) (p : Purpose) (ms : List Message) (holder : TxnId) → ((n : ℕ) → p ≡ purposes.Stage n → ⊥) → MayBlockIt session set k x p ms holder → MayTellOpen set session k (answers.Blocked holder) x
blocks_open session set k x (purposes.Stage n) ms holder isnt may = absurd (isnt n refl)
blocks_open session set k x (purposes.Beat call reading) ms holder isnt may = may
blocks_open session set k x (purposes.Prove call all) ms holder isnt may = may
blocks_open session set k x purposes.Read ms holder isnt may = may
blocks_open session set k x purposes.Write ms holder isnt may = may
blocks_open session set k x (purposes.Refresh n puts) ms holder isnt may = may
blocks_open session set k x (purposes.Query n by puts) ms holder isnt may = may
blocks_open session set k x (purposes.Commit n) ms holder isnt may = may
blocks_open session set k x (purposes.LastBeat answer reading) ms holder isnt may = may
blocks_open session set k x (purposes.Abort why) ms holder isnt may = may

pub not_written : (reply : Reply) → written_at reply ≡ None → is_written reply ≡ false
not_written (replies.Written ts) none = absurd cc
not_written reply none = refl

pub query_said : (reply : Reply) → IsQueryReply reply → (reply ≡ replies.Found → ⊥) → (reply ≡ replies.Missing → ⊥) → ⊥
query_said replies.Found kind one other = one refl
query_said replies.Missing kind one other = other refl
query_said reply kind one other = kind

-- a query that missed its write leaves what is in flight
missed_as : (p : Purpose) (step : ℕ) (x : OpenTxn) → ((missed_by p step x).in_flight ≡ x.in_flight) × ((anchor : List ℕ) → meta_now (missed_by p step x) anchor ≡ meta_now x anchor)
missed_as (purposes.Query n holder puts) step x = (refl, (λ anchor. refl))
missed_as (purposes.Beat call reading) step x = (refl, (λ anchor. refl))
missed_as (purposes.Prove call all) step x = (refl, (λ anchor. refl))
missed_as purposes.Read step x = (refl, (λ anchor. refl))
missed_as purposes.Write step x = (refl, (λ anchor. refl))
missed_as (purposes.Refresh n puts) step x = (refl, (λ anchor. refl))
missed_as (purposes.Stage n) step x = (refl, (λ anchor. refl))
missed_as (purposes.Commit n) step x = (refl, (λ anchor. refl))
missed_as (purposes.LastBeat answer reading) step x = (refl, (λ anchor. refl))
missed_as (purposes.Abort why) step x = (refl, (λ anchor. refl))

pub missed_but : (r : Request) (p : Purpose) (step : ℕ) (x x2 : OpenTxn) → x2 ≡ missed_by p step x → StaysBut r x x2
missed_but r p step x x2 is =
    let e = missed_as p step x in
    subst (λ (y : OpenTxn). StaysBut r x y) (sym is) (e.1, (λ f there isnt. subst (λ fs. Contains fs f) (sym e.0) there))

pub missed_suits : (set : Setting) (k : Known) (x : OpenTxn) (p : Purpose) (ms : List Message) (w : InCall set k x p ms) (n : ℕ) (holder : TxnId) (puts : List Message) → p ≡ purposes.Query n holder puts → (step : ℕ) (x2 : OpenTxn) → x2 ≡ missed_by p step x → SuitsFlightIn set.course.pipelines calls.Commit x2.in_flight
missed_suits set k x p ms w n holder puts e step x2 is =
    let s = served_query set k x p ms w n holder puts e in
    subst (λ fs. SuitsFlightIn set.course.pipelines calls.Commit fs) (sym (ap (λ (y : OpenTxn). y.in_flight) is ∙ (missed_as p step x).0)) (subst (λ call. SuitsFlightIn set.course.pipelines call x.in_flight) s.commits.call w.plain)

-- a rollback whose abort is not heard is no block
pub unheard_block : (messages : List Message) (p : Purpose) (x : OpenTxn) (over : Over) → rolled_back_unheard p x ≡ Some over → IsBlockOf messages over.answer
unheard_block messages (purposes.Abort why) x over is = subst (λ (o : Over). IsBlockOf messages o.answer) (same_Some _ over is) tt
unheard_block messages p x over is = absurd cc

pub no_abort : (p : Purpose) (x : OpenTxn) → rolled_back_unheard p x ≡ None → (why : Why) → p ≢ purposes.Abort why
no_abort (purposes.Abort w) x none why is = cc
no_abort (purposes.Beat call reading) x none why is = cc
no_abort (purposes.Prove call all) x none why is = cc
no_abort purposes.Read x none why is = cc
no_abort purposes.Write x none why is = cc
no_abort (purposes.Refresh n puts) x none why is = cc
no_abort (purposes.Stage n) x none why is = cc
no_abort (purposes.Query n holder puts) x none why is = cc
no_abort (purposes.Commit n) x none why is = cc
no_abort (purposes.LastBeat answer reading) x none why is = cc
