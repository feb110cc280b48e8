-- What follows a reply to the stage of an open call which shows that its record is not final.
use Rattle.std.proofs.Common.{◌≡◌, ℕ, ◌≤◌, nat_le, Bool, true, false, cond, ◌&&◌, inl, inr, List, [], ◌∷◌, find, Some, None, refl, sym, ap, ◌∙◌, subst, All, IsTrue}
use Rattle.std.specs.Option.{option_map_or}
use Rattle.std.proofs.lemmas.Bool.{eq-eqb, leb-true}
use Rattle.std.proofs.lemmas.List.Elements.{All-head, All-tail, All-weaker}
use Rattle.std.proofs.lemmas.Option.{same_Some}
use Rattle.pc_base.specs.declared.limits.TheConstants.{MOST_CONFLICTS}
use Rattle.pc_base.specs.declared.transaction.TxnId.{TxnId}
use Rattle.pc_call.proofs.Hearing.{found, wave2}
use Rattle.pc_call.proofs.Lists.{all_front}
use Rattle.pc_call.proofs.PassedOver.{HasFirstEighth, first_eighth}
use Rattle.pc_call.proofs.RefusedStage.{counts_then, gives_up_for, goes_on_then, moved_gives_up, refuses_it}
use Rattle.pc_call.proofs.StageReplies.{asked_stage, stages_now, the_stage}
use Rattle.pc_call.proofs.StageRounds.{rounds_then}
use Rattle.pc_call.proofs.ToldStage.{ms2_is, staged_on}
use Rattle.pc_call.proofs.Undecided.{no_final}
use Rattle.pc_call.specs.declared.call.OpenCall.{OpenCall}
use Rattle.pc_call.specs.declared.purpose.Purpose.{Purpose}
use Rattle.pc_call.specs.declared.purpose.Purpose.TheVariants as purposes
use Rattle.pc_call.specs.GivingUp.{IsBlockedWhy}
use Rattle.pc_call.specs.Learned.{known_heard}
use Rattle.pc_call.specs.Serving.{InCall, ServesStage, StageIsOut, holder_met}
use Rattle.pc_call.specs.Setting.{Setting}
use Rattle.pc_call.specs.Stages.{IsFirstOut, IsUndecidedAt, MayStageOn, CallStagesOn, eighth_holder, holder_of, is_at_eighth, stage_told_by, stage_told_if, stage_ts, stage_ts_of, with_refusal_in}
use Rattle.pc_call.specs.Suiting.{SuitsFlightIn}
use Rattle.pc_follows.specs.Eighth.{WasMovedEighth}
use Rattle.pc_follows.specs.NextBlock.{IsPassedBlock}
use Rattle.pc_follows.specs.OwnStages.{refuses_stage}
use Rattle.pc_follows.specs.RoundsMade.{RoundCount, all_passed, rounds_made}
use Rattle.pc_proto.specs.declared.answer.Answer.TheVariants as answers
use Rattle.pc_proto.specs.declared.call.Call.TheVariants as calls
use Rattle.pc_proto.specs.declared.reply.Reply.{Reply}
use Rattle.pc_proto.specs.declared.reply.Reply.TheVariants as replies
use Rattle.pc_proto.specs.declared.view.View.{View}
use Rattle.pc_proto.specs.Replies.{holder_in, is_conflict, is_conflict_with}
use Rattle.pc_proto.specs.Views.{is_staging_at}
use Rattle.pc_lists.proofs.Same.{same_txn-self}
use Rattle.pc_refusals.specs.Moves.{moves_with}
use Rattle.pc_staging.specs.Kept.{Evidence, is_just, seen_undecided, without_stage}
use Rattle.pc_txn.specs.Counted.{IsCounted}
use Rattle.pc_txn.specs.declared.txn.OpenTxn.{OpenTxn}
use Rattle.pc_txn.specs.Staged.{stage_told_at}
use Rattle.pc_wave.proofs.Lists.{at_least-fewer, last-in}
use Rattle.pc_wave.specs.Course.{Course}
use Rattle.pc_wave.specs.declared.message.Message.{Message}
use Rattle.pc_wave.specs.declared.message.Progress.{Progress}
use Rattle.pc_wave.specs.declared.message.Progress.TheVariants as progresses
use Rattle.pc_wave.specs.Messages.{awaits_at, back_with, first_changed, progress_in_conflict, wave_awaits}
use Rattle.pc_wave.specs.Standing.{IsAsFar, IsHeardTo, MessageStands, MetConflict}
use Rattle.pc_world.specs.Counting.{LastIs}
use Rattle.pc_world.specs.Known.{Known}
use Rattle.pc_world.specs.Known.Traffic.{Heard}
use Rattle.pc_world.specs.SameRequest.{IsSameRequest}
use Rattle.pc_world.specs.StageFate.{SentStage}
use Rattle.pc_world.specs.Tell.Refusal.{IsConflictOf, MetEight}

-- ---- who holds the eighth intent of a message blocks the call

module _ (c : Course) (k : Known) where
  met_eight : (m : Message) (number : ℕ) (conflict : Reply) → MessageStands c k m → MOST_CONFLICTS ≤ m.conflicts → (met : MetConflict c k number m.request conflict) → MetEight met.holder.id k.heard_now
  met_eight m number conflict stands many met =
      let P : Heard → Type 0 = IsConflictOf m.request in
      let Q : Heard → Type 0 = λ h. IsTrue (is_conflict_with met.holder.id h.reply) in
      let told : met.h.reply ≡ replies.Conflict met.holder met.ts met.key = met.reply.told ∙ met.is in
      record {
        request = m.request;
        eight = at_least-fewer P MOST_CONFLICTS m.conflicts k.heard_now many stands.counted.heard;
        last =
            subst (λ hs. LastIs P Q hs) (sym met.whole)
            (last-in P Q met.before met.h met.later
            (record { same = inl (sym met.reply.asked); conflict = ap is_conflict told })
            (ap (is_conflict_with met.holder.id) told ∙ same_txn-self met.holder.id)
            (All-weaker (λ h. IsSameRequest m.request h.request → ⊥) (λ h. P h → ⊥) (λ h other conflict. other conflict.same) met.later met.last));
      }

  at_it : (m : Message) (holder : TxnId) → MessageStands c k m → is_at_eighth m ≡ true → holder_met m.progress ≡ Some holder → MetEight holder k.heard_now
  at_it m holder stands at whose = by m.progress refl stands.as_far
    where
      by : (p : Progress) → m.progress ≡ p → IsAsFar c k m.request m.conflicts p → MetEight holder k.heard_now
      by progresses.ToSend is far = let f : None ≡ Some holder = sym (ap holder_met is) ∙ whose in absurd cc
      by (progresses.Sent number) is far = let f : None ≡ Some holder = sym (ap holder_met is) ∙ whose in absurd cc
      by (progresses.Answered number reply) is far = let f : None ≡ Some holder = sym (ap holder_met is) ∙ whose in absurd cc
      by (progresses.Met number conflict) is far =
          let parts : nat_le MOST_CONFLICTS m.conflicts ≡ true = sym (ap (λ p. progress_in_conflict p && nat_le MOST_CONFLICTS m.conflicts) is) ∙ at in
          let same : far.holder.id ≡ holder = same_Some far.holder.id holder (sym (ap holder_met is ∙ ap holder_in far.is) ∙ whose) in
          subst (λ id. MetEight id k.heard_now) same (met_eight m number conflict stands (leb-true MOST_CONFLICTS m.conflicts parts) far)

  pub blocks_eighth : (ms : List Message) (holder : TxnId) → All (MessageStands c k) ms → eighth_holder ms ≡ Some holder → MetEight holder k.heard_now
  blocks_eighth [] holder stand some = absurd cc
  blocks_eighth (m ∷ ms) holder stand some = by (λ later. blocks_eighth ms holder (All-tail (MessageStands c k) m ms stand) later) (is_at_eighth m) refl some
    where
      by : (eighth_holder ms ≡ Some holder → MetEight holder k.heard_now) → (b : Bool) → is_at_eighth m ≡ b → holder_of (cond b (Some m) (find is_at_eighth ms)) ≡ Some holder → MetEight holder k.heard_now
      by on true at whose = at_it m holder (All-head (MessageStands c k) m ms stand) at whose
      by on false other later = on later

-- ---- what follows

module _ (session clock count : ℕ) (set : Setting) (k : Known) (x : OpenTxn) (p : Purpose) (ms : List Message) (counted : IsCounted session clock count k) (w : InCall set k x p ms)
    (number : ℕ) (view : View) (h : Heard) (waited : wave_awaits number ms ≡ true) (is : IsHeardTo k number (replies.Status view) h) (n : ℕ) (e : p ≡ purposes.Stage n) (recorded : ℕ) (undecided : IsUndecidedAt (replies.Status view) recorded) where
  abbrev reply : Reply
  reply = replies.Status view

  abbrev k2 : Known
  k2 = known_heard h k

  abbrev ms2 : List Message
  ms2 = first_changed (awaits_at number) (back_with number reply) ms

  abbrev serves : ServesStage set.course n k w.s w.t x w.stages ms
  serves = stages_now session clock count set k x p ms counted w number view h waited is n e

  abbrev m0 : Message
  m0 = (found session clock count set k x p ms counted w number reply h waited is).0

  abbrev out : StageIsOut k w.t x w.stages m0
  out = the_stage session clock count set k x p ms counted w number view h waited is n e

  abbrev s0 : SentStage
  s0 = out.one

  abbrev x2 : OpenTxn
  x2 = stage_told_at s0.ts view recorded h.step x

  -- the stage that the call finds is this one
  pub ts_is : stage_ts number ms ≡ s0.ts
  ts_is =
      ap (λ o. option_map_or (λ (m : Message). stage_ts_of m.request) o 0) (found session clock count set k x p ms counted w number reply h waited is).1
      ∙ ap stage_ts_of out.said

  pub told_is : (step : ℕ) → h.step ≡ step → stage_told_by number ms recorded step reply x ≡ x2
  told_is step at = ap (λ ts. stage_told_at ts view recorded step x) ts_is ∙ ap (λ step. stage_told_at s0.ts view recorded step x) (sym at)

  -- What is kept where it stages so, and where it went another way.
  abbrev staged_so : Evidence
  staged_so = record (seen_undecided h.step x.staging) { staged = Some s0.ts }

  abbrev staged_not : Evidence
  staged_not = without_stage s0.ts (seen_undecided h.step x.staging)

  just_by : (b : Bool) → is_just s0.ts (cond b staged_so staged_not).staged ≡ b
  just_by true = eq-eqb s0.ts s0.ts refl
  just_by false = refl

  -- it is found to stage just where it stages so
  pub just_is : is_just s0.ts x2.staging.staged ≡ is_staging_at w.t.epoch s0.ts view
  just_is =
      ap (λ b. is_just s0.ts (cond b x.staging (cond (is_staging_at x.epoch s0.ts view) staged_so staged_not)).staged) (no_final view recorded undecided)
      ∙ ap (λ n. is_just s0.ts (cond (is_staging_at n s0.ts view) staged_so staged_not).staged) (ap (λ (x : OpenTxn). x.epoch) w.stands.same)
      ∙ just_by (is_staging_at w.t.epoch s0.ts view)

  module _ (elsewhere : is_staging_at w.t.epoch s0.ts view ≡ false) (first_out : IsFirstOut number ms) where
    abbrev n2 : ℕ
    n2 = moves_with s0.ts recorded n

    rounds_are : rounds_made k2 ≡ all_passed (rounds_made k)
    rounds_are =
        rounds_then k w.t h w.open_in s0 (asked_stage session clock count set k x p ms counted w number view h waited is n e) (ap is_conflict is.told) true
        (sym (ap (λ r. refuses_stage r h.reply) (asked_stage session clock count set k x p ms counted w number view h waited is n e)) ∙ refuses_it session clock count set k x p ms counted w number view h waited is n e recorded undecided elsewhere)

    stand_puts : All (MessageStands set.course k2) serves.wave.puts
    stand_puts =
        all_front (MessageStands set.course k2) serves.wave.puts (back_with number reply m0 ∷ [])
        (subst (λ ms. All (MessageStands set.course k2) ms) (ms2_is session clock count set k x p ms counted w number view h waited is n e recorded undecided) (wave2 session clock count set k x p ms counted w number reply h waited is).stand)

    passes : (holder : TxnId) → HasFirstEighth k2 holder (rounds_made k).waiting → IsPassedBlock k2 holder
    passes holder f = record {
      meta = f.meta;
      key = f.key;
      ts = f.ts;
      before = f.before;
      conflict = f.conflict;
      later = f.later;
      passed = ap (λ (r : RoundCount). r.passed) rounds_are ∙ f.whole;
      met = f.met;
      whose = f.whose;
      eighth = f.eighth;
      first = f.first;
    }

    blocked_why : (WasMovedEighth k2 → ⊥) → (holder : TxnId) → eighth_holder ms2 ≡ Some holder → IsBlockedWhy k2 holder
    blocked_why fewer holder some = record {
      next =
          inr
          (passes holder
          (first_eighth set.course k2 serves.wave.puts (back_with number reply m0 ∷ []) (rounds_made k).waiting holder serves.wave.waiting stand_puts refl
          (sym (ap eighth_holder (ms2_is session clock count set k x p ms counted w number view h waited is n e recorded undecided)) ∙ some)));
      why = inr (blocks_eighth set.course k2 ms2 holder (wave2 session clock count set k x p ms counted w number reply h waited is).stand some);
      fewer = fewer;
    }

    pub stages_on_then : MayStageOn set.course.loses recorded n2 k2 x2 ms2
    stages_on_then = record {
      counts = counts_then session clock count set k x p ms counted w number view h waited is n e recorded undecided;
      moved = moved_gives_up session clock count set k x p ms counted w number view h waited is n e recorded undecided elsewhere;
      blocked = λ fewer holder some.
          gives_up_for session clock count set k x p ms counted w number view h waited is n e recorded undecided elsewhere (answers.Blocked holder) (blocked_why fewer holder some);
      on = λ fewer none. goes_on_then session clock count set k x p ms counted w number view h waited is n e recorded undecided elsewhere first_out fewer none;
    }

  -- at the timestamp and with the transaction that the call has then
  module _ (step : ℕ) (at : h.step ≡ step) (ts : ℕ) (ts_at : ts ≡ stage_ts number ms) (y : OpenTxn) (y_at : y ≡ stage_told_if ts recorded step reply x) where
    y_is : y ≡ x2
    y_is = y_at ∙ ap (λ ts. stage_told_if ts recorded step reply x) ts_at ∙ told_is step at

    just_of : is_just ts y.staging.staged ≡ is_staging_at w.t.epoch s0.ts view
    just_of = ap (λ ts. is_just ts y.staging.staged) (ts_at ∙ ts_is) ∙ ap (λ (y : OpenTxn). is_just s0.ts y.staging.staged) y_is ∙ just_is

    -- it stages so
    pub goes_so : is_just ts y.staging.staged ≡ true → InCall set k2 y p ms2
    goes_so just =
        subst (λ y. InCall set k2 y p ms2) (sym y_is) (staged_on session clock count set k x p ms counted w number view h waited is n e recorded undecided (sym just_of ∙ just))

    -- or it was refused
    pub refused_so : IsFirstOut number ms → is_just ts y.staging.staged ≡ false → MayStageOn set.course.loses recorded (moves_with ts recorded n) k2 y ms2
    refused_so first_out just =
        subst (λ y. MayStageOn set.course.loses recorded (moves_with ts recorded n) k2 y ms2) (sym y_is)
        (subst (λ ts. MayStageOn set.course.loses recorded (moves_with ts recorded n) k2 x2 ms2) (sym (ts_at ∙ ts_is)) (stages_on_then (sym just_of ∙ just) first_out))

    pub suits_so : SuitsFlightIn set.course.pipelines calls.Commit y.in_flight
    suits_so =
        subst (λ y. SuitsFlightIn set.course.pipelines calls.Commit y.in_flight) (sym y_is)
        (subst (λ call. SuitsFlightIn set.course.pipelines call x.in_flight) serves.commits.call w.plain)

-- how often the call was moved that stages
count_in : ℕ → Purpose → ℕ
count_in none (purposes.Stage n) = n
count_in none q = none

module _ (session clock count : ℕ) (set : Setting) (k : Known) (x : OpenTxn) (p : Purpose) (ms : List Message) (counted : IsCounted session clock count k) (w : InCall set k x p ms)
    (number : ℕ) (h : Heard) (waited : wave_awaits number ms ≡ true) (n : ℕ) (e : p ≡ purposes.Stage n) (recorded step : ℕ) (at : h.step ≡ step) (ts : ℕ) (ts_at : ts ≡ stage_ts number ms) (y : OpenTxn) where
  -- whatever shows that the record is not final: the call goes on where it stages so
  pub told_staged : (reply : Reply) → IsHeardTo k number reply h → IsUndecidedAt reply recorded → y ≡ stage_told_if ts recorded step reply x → (ms3 : List Message) → ms3 ≡ first_changed (awaits_at number) (back_with number reply) ms → is_just ts y.staging.staged ≡ true
      → InCall set (known_heard h k) y p ms3
  told_staged (replies.Status view) is undecided y_at ms3 wave just =
      subst (λ ms. InCall set (known_heard h k) y p ms) (sym wave) (goes_so session clock count set k x p ms counted w number view h waited is n e recorded undecided step at ts ts_at y y_at just)
  told_staged other is undecided y_at ms3 wave just = let f : false ≡ true = undecided.undecided in absurd cc

  -- else it goes on anew, or gives up
  pub told_refused : (reply : Reply) → IsHeardTo k number reply h → IsUndecidedAt reply recorded → IsFirstOut number ms → y ≡ stage_told_if ts recorded step reply x → (call : OpenCall) → call.wave ≡ first_changed (awaits_at number) (back_with number reply) ms
      → call.purpose ≡ with_refusal_in ts recorded p → is_just ts y.staging.staged ≡ false
      → CallStagesOn set.course.loses recorded (known_heard h k) y call × SuitsFlightIn set.course.pipelines calls.Commit y.in_flight
  unfolding count_in
  told_refused (replies.Status view) is undecided first_out y_at call wave purpose just = (
    λ refusals is_it.
        let same : moves_with ts recorded n ≡ refusals = ap (count_in n) (sym (ap (with_refusal_in ts recorded) e) ∙ sym purpose ∙ is_it) in
        subst (λ ms. MayStageOn set.course.loses recorded refusals (known_heard h k) y ms) (sym wave)
        (subst (λ i. MayStageOn set.course.loses recorded i (known_heard h k) y (first_changed (awaits_at number) (back_with number (replies.Status view)) ms)) same
        (refused_so session clock count set k x p ms counted w number view h waited is n e recorded undecided step at ts ts_at y y_at first_out just)),
    suits_so session clock count set k x p ms counted w number view h waited is n e recorded undecided step at ts ts_at y y_at,
  )
  told_refused other is undecided first_out y_at call wave purpose just = let f : false ≡ true = undecided.undecided in absurd cc
