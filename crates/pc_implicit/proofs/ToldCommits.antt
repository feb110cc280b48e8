-- What a session was told committed, and put something, its record has: it is decided so, in the epoch that the session has reached, or it
-- stages there.
use Rattle.std.proofs.Common.{◌≡◌, ℕ, Bool, true, ◌==◌, ◌&&◌, inl, inr, List, Option, None, Some, Contains, refl, sym, ap, subst, ◌∙◌}
use Rattle.std.proofs.lemmas.Bool.{eq-eqb}
use Rattle.pc_base.specs.declared.actor.ActorId.TheVariants as actors
use Rattle.pc_base.specs.declared.entry.Entry.{Entry}
use Rattle.pc_base.specs.declared.transaction.TxnId.{TxnId}
use Rattle.pc_implicit.proofs.Agreed.{Agrees, agreed}
use Rattle.pc_implicit.proofs.Because.{because}
use Rattle.pc_implicit.proofs.Deciders.{told-there}
use Rattle.pc_implicit.proofs.ImplicitStands.{implied_epoch}
use Rattle.pc_implicit.proofs.NotDead.{not_dead}
use Rattle.pc_implicit.proofs.OneDecision.{told_committed}
use Rattle.pc_implicit.proofs.Settled.{settled}
use Rattle.pc_implicit.proofs.StagesLast.{stages_last}
use Rattle.pc_implicit.proofs.StageWords.{ByDecision, ByStaging, ByTelling, CommitsBy}
use Rattle.pc_implicit.specs.Decided.{decision}
use Rattle.pc_implicit.specs.Staging.{ToldCommitsStand}
use Rattle.pc_implicit.specs.Writes.{home_of, txns_of}
use Rattle.pc_lists.proofs.Each.{each-contains}
use Rattle.pc_proto.specs.declared.event.Event.{Event}
use Rattle.pc_proto.specs.declared.record.Record.{Record}
use Rattle.pc_proto.specs.declared.record.Standing.{Standing}
use Rattle.pc_proto.specs.declared.record.Standing.TheVariants as standings
use Rattle.pc_proto.specs.Place.{Kept}
use Rattle.pc_proto.specs.RecordRows.Reached.{is_staged_at, is_staging, status_of}
use Rattle.pc_world.specs.Committed.{IsCommitted, anchor_in}
use Rattle.pc_world.specs.Known.Transactions.{Txn}
use Rattle.pc_world.specs.Local.{Head}
use Rattle.pc_world.specs.Run.{IsRun}
use Rattle.pc_world.specs.StageFate.{SentStage}

all-three : (a b c : Bool) → a ≡ true → b ≡ true → c ≡ true → (a && (b && c)) ≡ true
all-three a b c x y z = ap (λ p. p && (b && c)) x ∙ (ap (λ p. p && c) y ∙ z)

-- a record that stages so is staged there
staged-there : (r : Record) (epoch ts : ℕ) → r.status.standing ≡ standings.Staging → r.status.epoch ≡ epoch → r.status.ts ≡ ts → is_staged_at (Kept r) epoch ts ≡ true
staged-there r epoch ts stages epoch_is ts_is =
    all-three (is_staging r.status.standing) (r.status.epoch == epoch) (r.status.ts == ts) (ap is_staging stages) (eq-eqb r.status.epoch epoch epoch_is) (eq-eqb r.status.ts ts ts_is)

module _ (head : Head) (history : List (Entry Event)) (run : IsRun head history) (id : TxnId) (t : Txn) (mine : Contains (txns_of head id history) t) (same : t.id ≡ id) where
  -- committed by a stage, it stages in the epoch that its session has reached
  stages-there : (ts : ℕ) (s : SentStage) → CommitsBy head history s → s.meta.id ≡ id → s.ts ≡ ts → is_staged_at (home_of head id history) t.epoch ts ≡ true
  stages-there ts s by whose at =
      let known : Contains (txns_of head s.meta.id history) t = subst (λ i. Contains (txns_of head i history) t) (sym whose) mine in
      let epoch : t.epoch ≡ s.meta.epoch = implied_epoch head history run s by (stages_last head history run) (not_dead head history run s by) t known (same ∙ sym whose) in
      subst (λ p. is_staged_at p t.epoch ts ≡ true) (sym by.home ∙ ap (λ i. home_of head i history) whose)
      (staged-there by.r t.epoch ts by.stages.staging (by.stages.epoch_is ∙ sym epoch) (by.stages.ts_is ∙ at))

-- what a session was told committed stands
pub told_commits_stand_ok : ToldCommitsStand
told_commits_stand_ok head history id t anchor ts run mine same anchored told =
    let agrees : Agrees history t = each-contains (Agrees history) (txns_of head id history) t (agreed head history run (actors.Session id.session)).agrees mine in
    let x = told-there t.id ts history (agrees.told ∙ told) in
    let is : IsCommitted head history id ts = subst (λ i. IsCommitted head history i ts) same (told_committed head history run x.0 x.1 t.id ts x.2) in
    elim (because head history run id ts is) [
      | ByDecision epoch decided ↦
          let at : t.epoch ≡ epoch = (settled head history run id epoch ts decided).epochs t mine same in
          inl (subst (λ n. decision (home_of head id history) ≡ Some (status_of standings.Committed n ts)) (sym at) decided)
      | ByStaging s by whose at ↦ inr (stages-there head history run id t mine same ts s by whose at)
      | ByTelling none said ↦
          let both : ◌≡◌ {A = Option (List ℕ)} None (Some anchor) = sym none ∙ (ap (λ i. anchor_in i history) (sym same) ∙ (agrees.anchor ∙ anchored)) in
          absurd (cc both)
    ]
