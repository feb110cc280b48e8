-- What a transaction wrote that is committed by its staging record stands in whole intents.
use Rattle.std.proofs.Common.{◌≡◌, ℕ, ◌≤◌, nat_le, true, ◌==◌, ◌&&◌, if◌then◌else◌, inl, inr, List, [], ◌∷◌, ◌++◌, Option, None, Some, Contains, refl, sym, ap, subst, ◌∙◌, arith}
use Rattle.std.proofs.lemmas.Bool.{and_parts, eqb-true, leb-true}
use Rattle.pc_base.specs.declared.actor.ActorId.TheVariants as actors
use Rattle.pc_base.specs.declared.entry.Entry.{Entry}
use Rattle.pc_implicit.proofs.OwnLaid.{StandsIn}
use Rattle.pc_implicit.proofs.SettledNow.{HasWhole, last_at, whole_if_proved, whole_where}
use Rattle.pc_implicit.proofs.StageWords.{CommitsBy, ListsLast, StagesLast}
use Rattle.pc_implicit.proofs.WriteLists.{Laid}
use Rattle.pc_implicit.specs.Decided.{decision, time_of}
use Rattle.pc_implicit.specs.Stages.{IsThere}
use Rattle.pc_implicit.specs.Writes.{home_of, own_intent, txns_of, writes_on}
use Rattle.pc_proto.specs.declared.event.Event.{Event}
use Rattle.pc_proto.specs.declared.record.Intent.{Intent}
use Rattle.pc_proto.specs.Intents.{last_seq}
use Rattle.pc_proto.specs.Place.{is_final}
use Rattle.pc_world.specs.After.{known_at}
use Rattle.pc_world.specs.Evaluation.Query.{is_found}
use Rattle.pc_world.specs.Known.Transactions.{Txn}
use Rattle.pc_world.specs.Local.{Head}
use Rattle.pc_world.specs.Run.{IsRun}
use Rattle.pc_world.specs.StageFate.{IsDead, SentStage}

-- an intent that is found is so
pub found_is : (epoch seq ts : ℕ) (o : Option Intent) → is_found epoch seq ts o ≡ true → (i : Intent) × (o ≡ Some i) × (i.meta.epoch ≡ epoch) × (seq ≤ last_seq i) × (i.ts ≤ ts)
found_is epoch seq ts None h = absurd cc
found_is epoch seq ts (Some i) h =
    let parts = and_parts (i.meta.epoch == epoch) (nat_le seq (last_seq i) && nat_le i.ts ts) h in
    let rest = and_parts (nat_le seq (last_seq i)) (nat_le i.ts ts) parts.1 in
    (i, refl, eqb-true i.meta.epoch epoch parts.0, leb-true seq (last_seq i) rest.0, leb-true i.ts ts rest.1)

-- A stage by which its transaction is committed, of which its session knows what it lists, and that is not known dead.
module _ (head : Head) (history : List (Entry Event)) (run : IsRun head history) (s : SentStage) (by : CommitsBy head history s) (last : StagesLast head history)
    (alive : IsDead (known_at head (actors.Session s.meta.id.session) history).heard s → ⊥) where
  -- its transaction is not decided
  pub implied_undecided : decision (home_of head s.meta.id history) ≡ None
  implied_undecided = ap decision by.home ∙ ap (λ standing. if is_final standing then Some by.r.status else None) by.stages.staging

  -- its record stands at the staged timestamp
  pub implied_time : time_of (home_of head s.meta.id history) ≡ s.ts
  implied_time = ap time_of by.home ∙ by.stages.ts_is

  module _ (t : Txn) (known : Contains (txns_of head s.meta.id history) t) (same : t.id ≡ s.meta.id) where
    lists-last : (s.meta.epoch ≡ t.epoch) × ListsLast t s
    lists-last = elim (last s by.sent t known same).lists [ inl dead ↦ absurd (alive dead) | inr lists ↦ lists ]

    -- it is in the stage's epoch
    pub implied_epoch : t.epoch ≡ s.meta.epoch
    implied_epoch = sym lists-last.0

    -- and all that it wrote at a key stands in an intent
    pub implied_whole : (key : List ℕ) (front : List Laid) (seq : ℕ) (value : Option (List ℕ)) → writes_on key t.writes ≡ front ++ (seq, value) ∷ [] → HasWhole head history t key s.ts
    implied_whole key front seq value is =
        let own : Contains (txns_of head t.id history) t = subst (λ i. Contains (txns_of head i history) t) (sym same) known in
        let none : decision (home_of head t.id history) ≡ None = subst (λ i. decision (home_of head i history) ≡ None) (sym same) implied_undecided in
        let time : time_of (home_of head t.id history) ≡ s.ts = subst (λ i. time_of (home_of head i history) ≡ s.ts) (sym same) implied_time in
        let w = last_at key t.writes front seq value is in
        elim (lists-last.1.covered w.0 w.1) [
          | inl listed ↦
              let there : IsThere head history s (key, seq) = by.present (key, seq) (subst (λ n. Contains s.writes (key, n)) w.3 (subst (λ k. Contains s.writes (k, w.0.seq)) w.2 listed)) in
              let f = found_is s.meta.epoch seq s.ts (own_intent head s.meta.id key history) there in
              let low = f.4 in
              let stands : StandsIn t.epoch (home_of head t.id history) seq s.ts f.0 = record { epoch_is = f.2 ∙ lists-last.0; has = f.3; low = λ up. omega (arith, low) } in
              whole_where head history run t own none s.ts (omega (arith, time)) key front seq value is s.ts (omega arith) f.0
              (subst (λ i. own_intent head i key history ≡ Some f.0) (sym same) f.1) stands
          | inr proved ↦ whole_if_proved head history run t own none s.ts (omega (arith, time)) key front seq value is w.0 w.1 w.2 w.3 proved
        ]
