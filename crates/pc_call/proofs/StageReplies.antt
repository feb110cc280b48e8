-- A reply that shows the record of a transaction which stages is to its stage.
use Rattle.std.proofs.Common.{◌≡◌, ℕ, true, false, ◌⊎◌, inl, inr, List, [], ◌∷◌, map, find, Some, sym, ap, ◌∙◌, subst, All}
use Rattle.std.proofs.lemmas.List.Elements.{All-append, All-cons, All-nil, All-weaker}
use Rattle.pc_base.specs.Transaction.{same_txn}
use Rattle.pc_call.proofs.Beating.{beaten_tells}
use Rattle.pc_call.proofs.FoundDecided.{HearsOwn}
use Rattle.pc_call.proofs.Hearing.{beaten_on, found, same_request}
use Rattle.pc_call.proofs.Silent.{IsBeatPurpose}
use Rattle.pc_call.specs.declared.purpose.Purpose.{Purpose}
use Rattle.pc_call.specs.declared.purpose.Purpose.TheVariants as purposes
use Rattle.pc_call.specs.Learned.{known_heard}
use Rattle.pc_call.specs.Serving.{InCall, SendsAgain, Serves, ServesStage, StageIsOut, StageStands}
use Rattle.pc_call.specs.Setting.{Setting}
use Rattle.pc_follows.specs.Heartbeats.{KeepsHeartbeats}
use Rattle.pc_lists.proofs.Same.{same_txn-self}
use Rattle.pc_proto.specs.declared.answer.Answer.{Answer}
use Rattle.pc_proto.specs.declared.call.Call.TheVariants as calls
use Rattle.pc_proto.specs.declared.event.Event.TheVariants as events
use Rattle.pc_proto.specs.declared.reply.Reply.TheVariants as replies
use Rattle.pc_proto.specs.declared.request.Request.{Request}
use Rattle.pc_proto.specs.declared.request.Request.TheVariants as requests
use Rattle.pc_proto.specs.declared.view.View.{View}
use Rattle.pc_proto.specs.Requests.{is_about, is_commit, is_put, subject_anchor}
use Rattle.pc_staging.proofs.Hears.{own_each}
use Rattle.pc_txn.specs.Counted.{IsCounted}
use Rattle.pc_txn.specs.declared.txn.OpenTxn.{OpenTxn}
use Rattle.pc_wave.proofs.Changed.{found_all, found_passes}
use Rattle.pc_wave.proofs.Hearing.{awaits_as}
use Rattle.pc_wave.specs.declared.message.Message.{Message}
use Rattle.pc_wave.specs.declared.message.Progress.TheVariants as progresses
use Rattle.pc_wave.specs.Messages.{awaits_at, is_to_send, progress_to_send, wave_awaits}
use Rattle.pc_wave.specs.Standing.{IsHeardTo}
use Rattle.pc_world.specs.Answering.{MayAnswer}
use Rattle.pc_world.specs.Known.{Known}
use Rattle.pc_world.specs.Known.Traffic.{Heard}
use Rattle.pc_world.specs.Known.Transactions.{txn_heard}
use Rattle.pc_world.specs.StageFate.{stage_request}

put_no_status : (r : Request) (view : View) → is_put r ≡ true → MayAnswer r (replies.Status view) → ⊥
put_no_status (requests.Put meta seq ts key value) view put may = may
put_no_status r view put may = absurd cc

module _ (session clock count : ℕ) (set : Setting) (k : Known) (x : OpenTxn) (p : Purpose) (ms : List Message) (counted : IsCounted session clock count k) (w : InCall set k x p ms)
    (number : ℕ) (view : View) (h : Heard) (waited : wave_awaits number ms ≡ true) (is : IsHeardTo k number (replies.Status view) h) (n : ℕ) (e : p ≡ purposes.Stage n) where
  pub stages_now : ServesStage set.course n k w.s w.t x w.stages ms
  stages_now = subst (λ q. Serves set k w.s w.t x w.stages q ms) e w.serves

  abbrev s : ServesStage set.course n k w.s w.t x w.stages ms
  s = stages_now

  -- The message is a put, or is to be sent, or is the stage that went out.
  abbrev IsOne : Message → Type 0
  IsOne m = (is_put m.request ≡ true) ⊎ (is_to_send m ≡ true) ⊎ StageIsOut k w.t x w.stages m

  stage_one : (stage : List Message) → StageStands k w.s w.t x w.stages s.commits.anchor stage → All IsOne stage
  stage_one [] left = All-nil IsOne
  stage_one (m ∷ []) (inl next) = All-cons IsOne m [] (inr (inl next.to_send)) (All-nil IsOne)
  stage_one (m ∷ []) (inr out) = All-cons IsOne m [] (inr (inr out)) (All-nil IsOne)
  stage_one (m ∷ other ∷ more) both = absurd both

  each_one : All IsOne ms
  each_one =
      subst (λ ms. All IsOne ms) (sym s.wave.whole)
      (All-append IsOne s.wave.puts s.wave.stage (All-weaker (SendsAgain calls.Commit true k w.t x) IsOne (λ m a. inl (ap is_put a.said)) s.wave.puts s.wave.again) (stage_one s.wave.stage s.wave.stands))

  abbrev one : (m : Message) × (find (awaits_at number) ms ≡ Some m)
  one = found session clock count set k x p ms counted w number (replies.Status view) h waited is

  pub asked_it : h.request ≡ one.0.request
  asked_it = same_request session clock count set k x p ms counted w number (replies.Status view) h waited is

  pub sent_it : one.0.progress ≡ progresses.Sent number
  sent_it = awaits_as number one.0.progress (found_passes (awaits_at number) ms one.0 one.1)

  -- it is the stage
  pub the_stage : StageIsOut k w.t x w.stages one.0
  the_stage =
      elim (found_all (awaits_at number) IsOne ms one.0 one.1 each_one) [
        | inl put ↦ absurd (put_no_status h.request view (ap is_put asked_it ∙ put) is.kind)
        | inr (inl to_send) ↦ let out : is_to_send one.0 ≡ false = ap progress_to_send sent_it in absurd cc
        | inr (inr out) ↦ out
      ]

  pub asked_stage : h.request ≡ stage_request the_stage.one
  asked_stage = asked_it ∙ the_stage.said

  pub own_stage : (the_stage.one.meta.id ≡ w.t.id) × (the_stage.one.meta.epoch ≡ w.t.epoch)
  own_stage = own_each k.heard w.t w.stages x.staging.stages w.stands.staging.kept the_stage.one the_stage.kept

  -- of the transaction's own
  pub stage_own : HearsOwn k w.t w.s h
  stage_own = record {
    call = s.commits.call;
    anchor = s.commits.anchor;
    anchored = s.commits.anchored;
    about = ap (is_about w.t.id) asked_stage ∙ ap (λ id. same_txn id w.t.id) own_stage.0 ∙ same_txn-self w.t.id;
    named = ap subject_anchor asked_stage ∙ sym the_stage.anchored ∙ s.commits.anchored;
    no_commit = ap is_commit asked_stage;
  }

  pub stage_tells : (answer : Answer) → set.course.loses ≡ false → KeepsHeartbeats (known_heard h k) (events.Tell answer)
  stage_tells answer =
      beaten_tells set.course.loses (known_heard h k) (txn_heard k.sent (Some h) w.t) answer
      (record { others = map (txn_heard k.sent (Some h)) w.open_in.others; is_open = w.open_in.is_open; first = ap (map (txn_heard k.sent (Some h))) w.open_in.first })
      (beaten_on session clock count set k x p ms counted w number (replies.Status view) h waited is (λ beat. subst IsBeatPurpose e beat))
