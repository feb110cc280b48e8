-- A record that a reply shows staging is of a stage that its session sent: by the fine history in which the actor's own list stands.
use Rattle.std.proofs.Common.{◌≡◌, ℕ, ◌<◌, ◌==◌, true, false, Contains, List, Option, Some, None, sym, ap, ◌∙◌, subst}
use Rattle.std.proofs.lemmas.Bool.{and_parts, eqb-true}
use Rattle.std.specs.Option.{option_map_or}
use Rattle.pc_base.specs.declared.actor.ActorId.TheVariants as actors
use Rattle.pc_base.specs.declared.transaction.TxnId.{TxnId}
use Rattle.pc_base.specs.Transaction.{same_txn}
use Rattle.pc_desk.specs.OwnLog.{IsOwnLog, LogMeaning}
use Rattle.pc_exchange.proofs.HeardKinds.{history_of, is_run, known_there}
use Rattle.pc_exchange.proofs.StagesPast.{never_stages_so}
use Rattle.pc_implicit.proofs.FoundThere.{staging_seen}
use Rattle.pc_implicit.proofs.HeardViews.{so_of}
use Rattle.pc_implicit.proofs.StagesKnown.{HasSent}
use Rattle.pc_implicit.proofs.StagesSent.{has_sent_stage}
use Rattle.pc_implicit.proofs.Views.{subject-is}
use Rattle.pc_lists.proofs.Same.{same_txn-self}
use Rattle.pc_proto.specs.declared.view.View.{View}
use Rattle.pc_proto.specs.declared.view.View.TheVariants as views
use Rattle.pc_proto.specs.Replies.{view_in}
use Rattle.pc_proto.specs.Requests.{is_about, subject}
use Rattle.pc_proto.specs.Views.{is_staging_at}
use Rattle.pc_wave.specs.Shown.{IsStageAt, ShowsSentStage}
use Rattle.pc_world.specs.After.{known_at}
use Rattle.pc_world.specs.Known.{Known, known_of}
use Rattle.pc_world.specs.Known.Traffic.{Heard}
use Rattle.pc_world.specs.StageFate.{IsLateByRecord, IsStageWith, SentStage, stage_request}

staged-view : (epoch ts : ℕ) (view : Option View) → option_map_or (is_staging_at epoch ts) view false ≡ true → (writes : List (List ℕ × ℕ)) × (view ≡ Some (views.Staging epoch ts writes))
staged-view epoch ts (Some (views.Staging at_epoch at writes)) is =
    let parts = and_parts (at_epoch == epoch) (at == ts) is in
    (writes, ap (λ e. Some (views.Staging e at writes)) (eqb-true at_epoch epoch parts.0) ∙ ap (λ t. Some (views.Staging epoch t writes)) (eqb-true at ts parts.1))
staged-view epoch ts (Some view) is = absurd cc
staged-view epoch ts None is = absurd cc

module _ {C : Type 0} (l : LogMeaning C) (log : IsOwnLog l) (h : Heard) (there : Contains (known_of l.part.own).heard h) (id : TxnId) (whose : l.part.id ≡ actors.Session id.session) (k : Known) (sent : k.sent ≡ (known_of l.part.own).sent) (heard : (g : Heard) → Contains k.heard g → Contains (known_of l.part.own).heard g)
    (after : (g : Heard) → Contains k.heard g → is_about id g.request ≡ true → g.step < h.step) where
  -- no stage that was refused before is shown
  unrefused : (s : SentStage) → s.meta.id ≡ id → (writes : List (List ℕ × ℕ)) → is_about id h.request ≡ true → view_in h.reply ≡ Some (views.Staging s.meta.epoch s.ts writes) → IsLateByRecord k.heard s → ⊥
  unrefused s named writes about told (n, g, inside, at, refutes) =
      let known : Contains k.heard g = (n, inside, at) in
      let of : subject g.request ≡ Some id = ap subject refutes.asked ∙ ap (λ i. Some i) named in
      let its : is_about id g.request ≡ true = ap (λ o. option_map_or (λ (i : TxnId). same_txn i id) o false) of ∙ same_txn-self id in
      never_stages_so l log g h (heard g known) there s refutes.asked refutes.past (after g known its) writes (subject-is id (subject h.request) about ∙ ap (λ i. Some i) (sym named)) told

  -- the session sent the stage that it shows, and none such that was refused before
  pub shown_sent : ShowsSentStage k id h
  shown_sent epoch ts shows =
      let parts = and_parts (is_about id h.request) (option_map_or (is_staging_at epoch ts) (view_in h.reply) false) shows in
      let view = staged-view epoch ts (view_in h.reply) parts.1 in
      let so = so_of l.head (history_of l log) (is_run l log) l.part.id h (subst (λ (k : Known). Contains k.heard h) (sym (known_there l log)) there) in
      let staged = staging_seen l.head (history_of l log) (is_run l log) l.part.id h.number h.request h.reply so id epoch ts view.0 (subject-is id (subject h.request) parts.0) view.1 in
      let s = staged.stage in
      let has = has_sent_stage l.head (history_of l log) (is_run l log) s staged.sent in
      let who : actors.Session s.meta.id.session ≡ l.part.id = ap (λ (i : TxnId). actors.Session i.session) staged.whose ∙ sym whose in
      let mine : HasSent k.sent (stage_request s) =
      subst (λ ms. HasSent ms (stage_request s)) (ap (λ (k : Known). k.sent) (ap (λ a. known_at l.head a (history_of l log)) who ∙ known_there l log) ∙ sym sent) has in
      let told : view_in h.reply ≡ Some (views.Staging s.meta.epoch s.ts view.0) =
      view.1 ∙ (ap (λ e. Some (views.Staging e ts view.0)) (sym staged.epoch_is) ∙ ap (λ t. Some (views.Staging s.meta.epoch t view.0)) (sym staged.ts_is)) in
      let so_it : IsStageWith id (IsStageAt k.heard epoch ts) (stage_request s) =
      (ap (λ i. same_txn i id) staged.whose ∙ same_txn-self id, record { epoch_is = staged.epoch_is; ts_is = staged.ts_is; unrefused = unrefused s staged.whose view.0 parts.0 told }) in
      (mine.0, mine.1, mine.2, mine.3, subst (IsStageWith id (IsStageAt k.heard epoch ts)) (sym mine.4) so_it)
