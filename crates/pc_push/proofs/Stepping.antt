-- What comes next is allowed, and after a reply the machine stands by what its actor knows.
use Rattle.std.proofs.Common.{◌≡◌, ℕ, ◌+◌, ◌≤◌, true, false, List, inl, inr, All, Option, None, Some, Result, Ok, Err, IfOk, OnOk, refl, sym, ap, ◌∙◌, subst, arith}
use Rattle.std.specs.Option.{option_or}
use Rattle.std.proofs.lemmas.List.Elements.{All-nil, All-weaker}
use Rattle.pc_base.specs.declared.actor.ActorId.{ActorId}
use Rattle.pc_base.specs.declared.memory.NoMemory.{NoMemory}
use Rattle.pc_base.specs.declared.transaction.TxnId.{TxnId}
use Rattle.pc_base.specs.Transaction.{same_txn}
use Rattle.pc_lists.proofs.Anywhere.{any_weaker}
use Rattle.pc_lists.proofs.Same.{same_txn-self}
use Rattle.pc_proto.specs.declared.fate.Fate.{Fate}
use Rattle.pc_proto.specs.declared.fate.Fate.TheVariants as fates
use Rattle.pc_proto.specs.declared.fate.Goal.{Goal}
use Rattle.pc_proto.specs.declared.fate.Goal.TheVariants as goals
use Rattle.pc_proto.specs.declared.reply.Reply.{Reply}
use Rattle.pc_proto.specs.declared.reply.Reply.TheVariants as replies
use Rattle.pc_proto.specs.declared.request.Request.{Request}
use Rattle.pc_proto.specs.declared.request.Request.TheVariants as requests
use Rattle.pc_proto.specs.declared.view.View.{View}
use Rattle.pc_proto.specs.declared.view.View.TheVariants as views
use Rattle.pc_proto.specs.Replies.{view_in}
use Rattle.pc_proto.specs.Requests.{Recovers, is_about}
use Rattle.pc_proto.specs.Stamps.{fate_stamps, goal_stamps, reply_stamps, view_stamps}
use Rattle.pc_proto.specs.Views.{IsFateOf, fate_after, final_fate, is_final_view, moved_fate}
use Rattle.pc_push.proofs.Going.{push_later, stamps_later, stands_later}
use Rattle.pc_push.specs.declared.progress.Progress.{Progress}
use Rattle.pc_push.specs.declared.progress.Progress.TheVariants as progress
use Rattle.pc_push.specs.PushKnows.{Asks, AsksAt, HasMetStaging, MayPush, MaySettle, PushKnows, RoundMayCome, StandsAt}
use Rattle.pc_push.specs.Pushing.{Pushing, holder_resolve, progress_after_push, progress_after_recovery, push_of, resolve_or, round_after, round_due, round_heard, round_next, with_progress}
use Rattle.pc_world.proofs.Exchange.{answered, heard_earlier, heard_ever, later-later}
use Rattle.pc_world.proofs.RoundReplies.{IsGoalReply, IsStatus, push_answers, recovery_answers, resolve_answers}
use Rattle.pc_proto.specs.declared.machine.MachineNext.{MachineNext}
use Rattle.pc_world.specs.Exchange.{HeardSince, IsExchange, IsLater, IsPossibleReply, WasAnswered}
use Rattle.pc_world.specs.Known.{Known}
use Rattle.pc_world.specs.Send.Settling.{MaySendResolve, ShowsFate}

-- what is due is allowed
come_at : (splits : List (List ℕ)) (actor : ActorId) (start k : Known) (m : Pushing) (p : Progress) → MayPush actor k m → StandsAt start k m p → RoundMayCome splits actor start k m (round_due p m)
come_at splits actor start k m progress.Push may stands = record { row = may.row; stamps = may.stamps }
come_at splits actor start k m progress.Refused may stands = (refl, stands)
come_at splits actor start k m (progress.Unsure view) may stands = stands
come_at splits actor start k m (progress.Resolve fate) may stands = record { row = stands.row; stamps = stands.stamps }
come_at splits actor start k m progress.Over may stands = stands

pub next_may : (m : Pushing) (r : Result MachineNext NoMemory) → IfOk r (λ next. next ≡ round_next m) → (splits : List (List ℕ)) (actor : ActorId) (start k : Known) → PushKnows actor start k m → IfOk r (RoundMayCome splits actor start k m)
next_may m (Ok next) is splits actor start k knows =
    subst (RoundMayCome splits actor start k m) (sym is)
    (come_at splits actor start k m m.progress (push_later actor start k m knows.since knows.may) knows.stands)
next_may m (Err e) is splits actor start k knows = tt

about_recovery : (id : TxnId) (request : Request) → Recovers id request → is_about id request ≡ true
about_recovery id (requests.Recover other epoch ts anchor finding) is = ap (λ one. same_txn one id) is ∙ same_txn-self id
about_recovery id request is = absurd is

-- a view that was heard lets the intent be settled so
may_settle : (since now : Known) (id : TxnId) (request : Request) (view : View) (fate : Fate) → is_about id request ≡ true → HeardSince since now request (replies.Status view) → IsFateOf view fate → MaySendResolve now id fate
may_settle since now id request view fate about heard fits =
    any_weaker (IsExchange request (replies.Status view)) (ShowsFate id fate)
    (λ h is. record {
      about = ap (is_about id) is.asked ∙ about;
      view = view;
      told = ap view_in is.told;
      fits = fits;
    })
    now.heard (heard_ever since now request (replies.Status view) heard)

final_fits : (view : View) (fate : Fate) → final_fate view ≡ Some fate → IsFateOf view fate
final_fits (views.Committed epoch ts locks) fate is = let same : fates.Committed epoch ts ≡ fate = cc in subst (IsFateOf (views.Committed epoch ts locks)) same (refl, refl)
final_fits (views.Aborted epoch why locks) fate is = let same : fates.Aborted ≡ fate = cc in subst (IsFateOf (views.Aborted epoch why locks)) same tt
final_fits view fate is = absurd cc

module _ (top : ℕ) where
  -- None of these timestamps is past the one after the greatest known.
  abbrev AreKnown : List ℕ → Type 0
  AreKnown stamps = All (λ ts. ts ≤ top + 1) stamps

  final_stamps : (view : View) (fate : Fate) → final_fate view ≡ Some fate → AreKnown (view_stamps view) → AreKnown (fate_stamps fate)
  final_stamps (views.Committed epoch ts locks) fate is low = let same : fates.Committed epoch ts ≡ fate = cc in subst (λ f. AreKnown (fate_stamps f)) same low
  final_stamps (views.Aborted epoch why locks) fate is low = let same : fates.Aborted ≡ fate = cc in subst (λ f. AreKnown (fate_stamps f)) same (All-nil (λ ts. ts ≤ top + 1))
  final_stamps view fate is low = absurd cc

  -- What a fate needs that is chosen after a push.
  pub record Suits (view : View) (fate : Fate) : Type 0 where
    pub fits : IsFateOf view fate
    pub stamps : AreKnown (fate_stamps fate)

  moved_suits : (goal : Goal) (view : View) (fate : Fate) → moved_fate goal ≡ Some fate → final_fate view ≡ None → IsGoalReply goal (replies.Status view) → AreKnown (goal_stamps goal) → Suits view fate
  moved_suits (goals.Move target) view fate is none reply low =
      let same : fates.Pending target ≡ fate = cc in
      subst (Suits view) same (record { fits = reply target refl none; stamps = low })
  moved_suits goals.Abort view fate is none reply low = absurd cc

  fate_suits : (goal : Goal) (view : View) (fate : Fate) (final : Option Fate) → final_fate view ≡ final → option_or final (moved_fate goal) ≡ Some fate → IsGoalReply goal (replies.Status view) → AreKnown (goal_stamps goal) → AreKnown (view_stamps view) → Suits view fate
  fate_suits goal view fate (Some other) is chosen reply goal_low view_low =
      let same : final_fate view ≡ Some fate = is ∙ chosen in
      record { fits = final_fits view fate same; stamps = final_stamps view fate same view_low }
  fate_suits goal view fate None is chosen reply goal_low view_low = moved_suits goal view fate chosen is reply goal_low

unsettled : (view : View) → final_fate view ≡ None → is_final_view view ≡ false
unsettled (views.Committed epoch ts locks) none = absurd cc
unsettled (views.Aborted epoch why locks) none = absurd cc
unsettled view none = refl

-- the machine further on
restands : (start k : Known) (m : Pushing) (on p : Progress) → StandsAt start k m p → StandsAt start k (with_progress on m) p
restands start k m on progress.Push stands = tt
restands start k m on progress.Refused stands = record { view = stands.view; heard = stands.heard }
restands start k m on (progress.Unsure view) stands = record { epoch = stands.epoch; ts = stands.ts; writes = stands.writes; is = stands.is; heard = stands.heard }
restands start k m on (progress.Resolve fate) stands = record { row = stands.row; stamps = stands.stamps }
restands start k m on progress.Over (inl was) = inl (record { fate = was.fate; heard = was.heard })
restands start k m on progress.Over (inr left) = inr (record {
  met = left.met;
  staging = record { epoch = left.staging.epoch; ts = left.staging.ts; writes = left.staging.writes; is = left.staging.is; heard = left.staging.heard };
  request = left.request;
  recovers = left.recovers;
  view = left.view;
  heard = left.heard;
  unsettled = left.unsettled;
})

module _ (actor : ActorId) (start k later : Known) (m : Pushing) (request : Request) (knows : PushKnows actor start k m) where
  module _ (reply : Reply) (was : WasAnswered k later request reply) where
    since : IsLater start later
    since = later-later start k later knows.since (answered k later request reply was).later

    heard_it : HeardSince start later request reply
    heard_it = heard_earlier start k later request reply knows.since (answered k later request reply was).heard

    low : AreKnown later.top (reply_stamps reply)
    low = All-weaker (λ ts. ts ≤ later.top) (λ ts. ts ≤ later.top + 1) (λ ts h. omega (arith, h)) (reply_stamps reply) (answered k later request reply was).stamps

    goes_to : (p : Progress) → StandsAt start later m p → PushKnows actor start later (with_progress p m)
    goes_to p stands = record {
      may = record { row = knows.may.row; stamps = knows.may.stamps };
      since = since;
      stands = restands start later m p p stands;
    }

  module _ (view : View) (was : WasAnswered k later request (replies.Status view)) where
    settles : (fate : Fate) → is_about m.holder.id request ≡ true → Suits later.top view fate → MaySettle later m fate
    settles fate about suits = record {
      row = may_settle start later m.holder.id request view fate about (heard_it (replies.Status view) was) suits.fits;
      stamps = suits.stamps;
    }

    pushed_on : (fate : Option Fate) → fate_after m.goal view ≡ fate → is_about m.holder.id request ≡ true → IsGoalReply m.goal (replies.Status view) → StandsAt start later m (resolve_or fate progress.Push)
    pushed_on None is about reply = tt
    pushed_on (Some fate) is about reply =
        let goal_low = stamps_later start later (goal_stamps m.goal) (since (replies.Status view) was) knows.may.stamps in
        settles fate about (fate_suits later.top m.goal view fate (final_fate view) refl is reply goal_low (low (replies.Status view) was))

    recovered_on : (fate : Option Fate) (met : View) → final_fate view ≡ fate → Recovers m.holder.id request → HasMetStaging start later m met → StandsAt start later m (resolve_or fate progress.Over)
    recovered_on None met is recovers staging = inr (record {
      met = met;
      staging = staging;
      request = request;
      recovers = recovers;
      view = view;
      heard = heard_it (replies.Status view) was;
      unsettled = unsettled view is;
    })
    recovered_on (Some fate) met is recovers staging =
        settles fate (about_recovery m.holder.id request recovers)
        (record { fits = final_fits view fate is; stamps = final_stamps later.top view fate is (low (replies.Status view) was) })

  -- the reply to the push
  after_push_at : (reply : Reply) → request ≡ push_of m → WasAnswered k later request reply → IsGoalReply m.goal reply → StandsAt start later m (progress_after_push m.goal reply)
  after_push_at (replies.Status view) asked was is =
      pushed_on view was (fate_after m.goal view) refl (ap (is_about m.holder.id) asked ∙ same_txn-self m.holder.id) is
  after_push_at (replies.Refused view) asked was is = record { view = view; heard = subst (λ q. HeardSince start later q (replies.Refused view)) asked (heard_it (replies.Refused view) was) }
  after_push_at (replies.Unsure view) asked was is = record {
    epoch = is.epoch;
    ts = is.ts;
    writes = is.writes;
    is = is.is;
    heard = subst (λ q. HeardSince start later q (replies.Unsure view)) asked (heard_it (replies.Unsure view) was);
  }
  after_push_at reply asked was is = tt

  -- the reply to the recovery
  after_recovery_at : (reply : Reply) (met : View) → Recovers m.holder.id request → WasAnswered k later request reply → IsStatus reply → HasMetStaging start later m met → StandsAt start later m (progress_after_recovery reply)
  after_recovery_at (replies.Status view) met recovers was is staging = recovered_on view was (final_fate view) met refl recovers staging
  after_recovery_at reply met recovers was is staging = absurd is

  after_resolve_at : (reply : Reply) (fate : Fate) → request ≡ holder_resolve m fate → WasAnswered k later request reply → IsPossibleReply request reply → StandsAt start later m progress.Over
  after_resolve_at reply fate asked was is =
      let told : reply ≡ replies.Resolved = resolve_answers m.holder.id m.key fate reply (subst (λ q. IsPossibleReply q reply) asked is) in
      inl (record {
        fate = fate;
        heard = subst (HeardSince start later (holder_resolve m fate)) told (subst (λ q. HeardSince start later q reply) asked (heard_it reply was));
      })

  heard_by_progress : (p : Progress) (reply : Reply) → StandsAt start k m p → AsksAt p m request → WasAnswered k later request reply → IsPossibleReply request reply → PushKnows actor start later (round_heard p reply m)
  heard_by_progress progress.Push reply stands asked was is =
      goes_to reply was (progress_after_push m.goal reply)
      (after_push_at reply asked was (push_answers m.holder m.by m.level m.reading m.goal reply (subst (λ q. IsPossibleReply q reply) asked is)))
  heard_by_progress (progress.Unsure view) reply stands asked was is =
      goes_to reply was (progress_after_recovery reply)
      (after_recovery_at reply view asked was (recovery_answers m.holder.id request reply asked is)
      (stands_later start k later m (answered k later request reply was).later (progress.Unsure view) stands))
  heard_by_progress (progress.Resolve fate) reply stands asked was is = goes_to reply was progress.Over (after_resolve_at reply fate asked was is)
  heard_by_progress progress.Refused reply stands asked was is = absurd asked
  heard_by_progress progress.Over reply stands asked was is = absurd asked

on_ok : (r : Result (Unit {0}) NoMemory) (P Q : Type 0) → (P → Q) → OnOk r P → OnOk r Q
on_ok (Ok u) P Q f p = f p
on_ok (Err e) P Q f p = tt

pub heard_ok : (m new : Pushing) (reply : Reply) (r : Result (Unit {0}) NoMemory) → OnOk r (new ≡ round_after reply m) → (actor : ActorId) (start k later : Known) (request : Request) → PushKnows actor start k m → Asks m request → WasAnswered k later request reply → IsPossibleReply request reply
    → OnOk r (PushKnows actor start later new)
heard_ok m new reply r made actor start k later request knows asks was is =
    on_ok r (new ≡ round_after reply m) (PushKnows actor start later new)
    (λ e. subst (PushKnows actor start later) (sym e) (heard_by_progress actor start k later m request knows m.progress reply knows.stands asks was is)) made
