-- The entry that makes a transaction committed evaluates its commit, its stage or a put of it, or tells so.
use Rattle.std.proofs.Common.{◌≡◌, ℕ, ◌≤◌, max, true, inl, inr, List, [], ◌∷◌, ◌++◌, None, Some, Contains, refl, sym, ap, subst, ◌∙◌, arith}
use Rattle.std.proofs.lemmas.List.Sums.{list_all-from_AllPass}
use Rattle.std.specs.Option.{option_or}
use Rattle.pc_base.specs.declared.actor.ActorId.{ActorId}
use Rattle.pc_base.specs.declared.entry.Entry.{Entry}
use Rattle.pc_base.specs.declared.transaction.TxnId.{TxnId}
use Rattle.pc_history.specs.History.{MayFollow}
use Rattle.pc_implicit.proofs.Because.{because, commits_by_is, kept_commits}
use Rattle.pc_implicit.proofs.CommitPoint.{ByCommit, ByRecovery, decides_how}
use Rattle.pc_implicit.proofs.CommitPoints.{ByPut, ByRecord, ByStage, ByTell, MadeBy, makes_now}
use Rattle.pc_implicit.proofs.CommitsSent.{decided_or_not}
use Rattle.pc_implicit.proofs.Evals.{NamedMessage}
use Rattle.pc_implicit.proofs.Firsts.{first_push}
use Rattle.pc_implicit.proofs.HomeOver.{ChangesPlace, home_over}
use Rattle.pc_implicit.proofs.Homes.{home_commits, home_on}
use Rattle.pc_implicit.proofs.OwnOver.{Decides, IsLaidOver, Lays, Moves, Stays, own_over}
use Rattle.pc_implicit.proofs.Points.{or-first, told-what}
use Rattle.pc_implicit.proofs.Presence.{IsListedWrite, is_there, there_is}
use Rattle.pc_implicit.proofs.Recovered.{recoveries_agree}
use Rattle.pc_implicit.proofs.Settled.{answers-commit}
use Rattle.pc_implicit.proofs.StagedAs.{StagedBefore, StagedBy, StagedFrom, staged_from}
use Rattle.pc_implicit.proofs.StageWords.{ByDecision, ByStaging, ByTelling, CommitsBy, StagesAs}
use Rattle.pc_implicit.proofs.StaysOrRefuted.{staging_open}
use Rattle.pc_implicit.proofs.Written.{one_send}
use Rattle.pc_implicit.specs.Decided.{decision}
use Rattle.pc_implicit.specs.Stages.{IsThere}
use Rattle.pc_implicit.specs.Writes.{home_of, own_intent}
use Rattle.pc_lists.proofs.Lists.{all_from_contains}
use Rattle.pc_proto.specs.declared.answer.Answer.TheVariants as answers
use Rattle.pc_proto.specs.declared.event.Event.{Event}
use Rattle.pc_proto.specs.declared.event.Event.TheVariants as events
use Rattle.pc_proto.specs.declared.record.Record.{Record}
use Rattle.pc_proto.specs.declared.record.Standing.TheVariants as standings
use Rattle.pc_proto.specs.declared.reply.Reply.{Reply}
use Rattle.pc_proto.specs.declared.request.Request.{Request}
use Rattle.pc_proto.specs.declared.request.Request.TheVariants as requests
use Rattle.pc_proto.specs.Place.{Kept}
use Rattle.pc_proto.specs.RecordRows.Reached.{status_of}
use Rattle.pc_proto.specs.Requests.{subject}
use Rattle.pc_serial.specs.Making.{EvaluatesRequest, ItsCommit, ItsPut, ItsStage, ItsTelling, MakesCommitted, StagesWhole}
use Rattle.pc_world.proofs.Prefixes.{run_front, run_may}
use Rattle.pc_world.specs.Committed.{IsCommitted, anchor_in, commit_at, commit_ts, committed_in, is_present, key_sent, told_at}
use Rattle.pc_world.specs.Local.{Head}
use Rattle.pc_world.specs.Run.{IsRun, protocol}
use Rattle.pc_world.specs.StageFate.{SentStage, stage_request}

module _ (head : Head) (front : List (Entry Event)) (e : Entry Event) (run_after : IsRun head (front ++ e ∷ [])) where
  run : IsRun head front
  run = run_front head front (e ∷ []) run_after

  may : MayFollow (protocol head) front e
  may = run_may head front e [] run_after

  abbrev after : List (Entry Event)
  after = front ++ e ∷ []

  of-message : (actor : ActorId) (number : ℕ) (told : Reply) (ev : NamedMessage head front e.actor actor number told) → e.event ≡ events.Eval actor number told → (request : Request) → ev.request ≡ request
      → EvaluatesRequest front e request
  of-message actor number told ev is request asks = record {
    send = ev.send;
    listed = ev.listed;
    number = number;
    range = ev.range;
    sends = ev.sends ∙ ap (events.Send number ev.range) asks;
    reply = told;
    evaluates = is ∙ ap (λ a. events.Eval a number told) (sym ev.whose);
  }

  -- where the record staged so before, and no put of the transaction is evaluated, it was committed before
  commits-before : (s : SentStage) → CommitsBy head after s → (old : Record) → home_of head s.meta.id front ≡ Kept old → StagesAs s old
      → ((w : List ℕ × ℕ) → IsLaidOver front e s.meta.id w.0 (own_intent head s.meta.id w.0 front) (own_intent head s.meta.id w.0 after) → ⊥)
      → IsCommitted head front s.meta.id old.status.ts
  unfolding run may
  commits-before s by old home stages no_put =
      kept_commits head front s.meta.id old home stages.staging
      (list_all-from_AllPass (is_present head front s.meta.id old.status.epoch old.status.ts) old.writes
      (all_from_contains (λ w. is_present head front s.meta.id old.status.epoch old.status.ts w ≡ true) old.writes
      (λ w listed. there-as w (there w (subst (λ ws. Contains ws w) stages.writes_are listed)))))
    where
      there-as : (w : List ℕ × ℕ) → IsThere head front s w → is_present head front s.meta.id old.status.epoch old.status.ts w ≡ true
      there-as w is = ap (λ n. is_present head front s.meta.id n old.status.ts w) stages.epoch_is ∙ ap (λ t. is_present head front s.meta.id s.meta.epoch t w) stages.ts_is ∙ is

      there : (w : List ℕ × ℕ) → Contains s.writes w → IsThere head front s w
      there w listed =
          let now = there_is s w head after (by.present w listed) in
          elim (own_over head front run e may s.meta.id w.0) [
            | Stays still ↦ is_there s w head front (now.0, sym still ∙ now.1, now.2)
            | Lays l ↦ absurd (no_put w l)
            | Moves i at own low eq ↦
                let one : record i { ts = max i.ts at } ≡ now.0 = let both : Some (record i { ts = max i.ts at }) ≡ Some now.0 = sym eq ∙ now.1 in cc both in
                let listed_as = subst (IsListedWrite s w) (sym one) now.2 in
                let under : max i.ts at ≤ s.ts = listed_as.low in
                is_there s w head front (i, own, record { epoch_is = listed_as.epoch_is; has = listed_as.has; low = omega (arith, under) })
            | Decides st decided ↦ let both : None ≡ Some st = sym (staging_open head front s old home stages).undecided ∙ decided in absurd cc
          ]

  module _ (id : TxnId) (ts : ℕ) (none : commit_ts head front id ≡ None) (now : IsCommitted head after id ts) where
    not-before : (at : ℕ) → IsCommitted head front id at → ⊥
    not-before at is = let both : None ≡ Some at = sym none ∙ is in cc both

    -- ---- by a decision of its record

    decided-so : (epoch : ℕ) → decision (home_of head id after) ≡ Some (status_of standings.Committed epoch ts) → MakesCommitted head front e id ts
    unfolding run may
    decided-so epoch decided =
        elim (decided_or_not (home_of head id front)) [
          | inl before ↦
              let both : Some before.0 ≡ Some (status_of standings.Committed epoch ts) = sym ((home_on head id front e).decided before.0 before.1) ∙ decided in
              absurd (not-before ts (home_commits head id front epoch ts (before.1 ∙ both)))
          | inr open_yet ↦ elim (decides_how head front run e may id epoch ts open_yet decided) [
            | ByCommit n ↦ ItsCommit n.meta n.locks n.whose (of-message n.actor n.number n.reply n.ev n.is (requests.Commit n.meta ts n.locks) n.asks)
            | ByRecovery r ↦ absurd (not-before ts (recoveries_agree head front e [] id ts run_after (answers-commit head front run e may id epoch ts open_yet r)))
          ]
        ]

    -- ---- by its staging

    staged-at : (s : SentStage) → CommitsBy head after s → s.meta.id ≡ id → s.ts ≡ ts
    staged-at s by whose =
        let is : IsCommitted head after id s.ts = subst (λ i. IsCommitted head after i s.ts) whose (commits_by_is head after s by) in
        let both : Some s.ts ≡ Some ts = sym is ∙ now in cc both

    whole-as : (s : SentStage) → CommitsBy head after s → s.meta.id ≡ id → StagesWhole head after id ts s
    whole-as s by whose = record {
      whose = whose;
      at = staged-at s by whose;
      kept = by.r;
      home = ap (λ i. home_of head i after) (sym whose) ∙ by.home;
      staging = by.stages.staging;
      epoch_is = by.stages.epoch_is;
      ts_is = by.stages.ts_is;
      writes_are = by.stages.writes_are;
      present = by.present;
    }

    -- as the same stage in other words
    whole-of : (s other : SentStage) → StagesWhole head after id ts s → other.meta.id ≡ id → (kept : Record) → home_of head id after ≡ Kept kept → kept.status.epoch ≡ other.meta.epoch → kept.status.ts ≡ other.ts → kept.writes ≡ other.writes
        → StagesWhole head after id ts other
    whole-of s other w whose kept home epoch time writes =
        let same : w.kept ≡ kept = let both : Kept w.kept ≡ Kept kept = sym w.home ∙ home in cc both in
        let epochs : s.meta.epoch ≡ other.meta.epoch = sym w.epoch_is ∙ ap (λ (r : Record). r.status.epoch) same ∙ epoch in
        let times : s.ts ≡ other.ts = sym w.ts_is ∙ ap (λ (r : Record). r.status.ts) same ∙ time in
        let lists : s.writes ≡ other.writes = sym w.writes_are ∙ ap (λ (r : Record). r.writes) same ∙ writes in
        let ids : s.meta.id ≡ other.meta.id = w.whose ∙ sym whose in
        record {
          whose = whose;
          at = sym times ∙ w.at;
          kept = kept;
          home = home;
          staging = ap (λ (r : Record). r.status.standing) (sym same) ∙ w.staging;
          epoch_is = epoch;
          ts_is = time;
          writes_are = writes;
          present = λ x listed.
              ap (λ i. is_present head after i other.meta.epoch other.ts x) (sym ids) ∙ ap (λ n. is_present head after s.meta.id n other.ts x) (sym epochs) ∙ ap (λ t. is_present head after s.meta.id s.meta.epoch t x) (sym times)
              ∙ w.present x (subst (λ l. Contains l x) (sym lists) listed);
        }

    -- the entry evaluates a request to its record
    by-record : (s : SentStage) → CommitsBy head after s → s.meta.id ≡ id → ChangesPlace head front e id (home_of head id front) (home_of head id after) → MakesCommitted head front e id ts
    unfolding run
    by-record s by whose c =
        let home : home_of head id after ≡ Kept by.r = ap (λ i. home_of head i after) (sym whose) ∙ by.home in
        cases (staged_from c.ev.request (home_of head id front) by.r (sym c.changed ∙ home) by.stages.staging) home
      where
        -- the entry evaluates no put
        no-put : (w : List ℕ × ℕ) → IsLaidOver front e s.meta.id w.0 (own_intent head s.meta.id w.0 front) (own_intent head s.meta.id w.0 after) → ⊥
        no-put w l =
            let both : events.Eval c.actor c.number c.told ≡ events.Eval l.send.actor l.number l.told = sym c.is ∙ l.evaluates in
            let actors_are : c.actor ≡ l.send.actor = cc both in
            let numbers : c.number ≡ l.number = cc both in
            let one : c.ev.send ≡ l.send =
            one_send head front run c.ev.send l.send c.ev.listed l.listed c.actor c.number c.ev.whose (sym actors_are) c.ev.range l.range c.ev.request (requests.Put l.meta l.seq l.asked w.0 l.value) c.ev.sends
            (l.sends ∙ ap (λ n. events.Send n l.range (requests.Put l.meta l.seq l.asked w.0 l.value)) (sym numbers)) in
            let said : events.Send c.number c.ev.range c.ev.request ≡ events.Send l.number l.range (requests.Put l.meta l.seq l.asked w.0 l.value) = sym c.ev.sends ∙ ap (λ (x : Entry Event). x.event) one ∙ l.sends in
            let same : c.ev.request ≡ requests.Put l.meta l.seq l.asked w.0 l.value = cc said in
            let nothing : None ≡ Some id = sym (ap subject same) ∙ c.about in cc nothing

        cases : StagedFrom (home_of head id front) c.ev.request by.r → home_of head id after ≡ Kept by.r → MakesCommitted head front e id ts
        cases (StagedBy other asks epoch time writes) home =
            let named : other.meta.id ≡ id = let both : Some other.meta.id ≡ Some id = sym (ap subject asks) ∙ c.about in cc both in
            ItsStage other (of-message c.actor c.number c.told c.ev c.is (stage_request other) asks) (whole-of s other (whole-as s by whose) named by.r home epoch time writes)
        cases (StagedBefore old is status writes) home =
            let stages : StagesAs s old = record {
              staging = ap (λ x. x.standing) status ∙ by.stages.staging;
              epoch_is = ap (λ x. x.epoch) status ∙ by.stages.epoch_is;
              ts_is = ap (λ x. x.ts) status ∙ by.stages.ts_is;
              writes_are = writes ∙ by.stages.writes_are;
            } in
            let before = commits-before s by old (ap (λ i. home_of head i front) whose ∙ is) stages no-put in
            absurd (not-before old.status.ts (subst (λ i. IsCommitted head front i old.status.ts) whose before))

    -- no telling makes a staging whole
    tells-nothing : (s : SentStage) → CommitsBy head after s → s.meta.id ≡ id → (at : ℕ) → e.event ≡ events.Tell (answers.Committed id at) → ⊥
    unfolding run may
    tells-nothing s by whose at tells =
        elim (home_over head front run e may id) [
          | inr c ↦ let both = sym tells ∙ c.is in cc both
          | inl same ↦
              let home : home_of head s.meta.id front ≡ Kept by.r = ap (λ i. home_of head i front) whose ∙ sym same ∙ ap (λ i. home_of head i after) (sym whose) ∙ by.home in
              let before = commits-before s by by.r home by.stages (λ w l. let both = sym tells ∙ l.evaluates in cc both) in
              not-before by.r.status.ts (subst (λ i. IsCommitted head front i by.r.status.ts) whose before)
        ]

    stages-so : (s : SentStage) → CommitsBy head after s → s.meta.id ≡ id → MadeBy head front e id → MakesCommitted head front e id ts
    stages-so s by whose (ByTell at tells) = absurd (tells-nothing s by whose at tells)
    stages-so s by whose (ByRecord epoch at decided c) =
        let none_yet : decision (home_of head id after) ≡ None = subst (λ i. decision (home_of head i after) ≡ None) whose (staging_open head after s by.r by.home by.stages).undecided in
        let both : None ≡ Some (status_of standings.Committed epoch at) = sym none_yet ∙ decided in absurd cc
    stages-so s by whose (ByStage other also its c) = by-record other also its c
    stages-so s by whose (ByPut other also its w listed l) =
        ItsPut other l.meta l.seq l.asked w.0 l.value (l.whose ∙ its)
        (record { send = l.send; listed = l.listed; number = l.number; range = l.range; sends = l.sends; reply = l.told; evaluates = l.evaluates })
        (let (n, inside, at) = listed in (n, w, inside, at, refl)) (whole-as other also its)

    pub one-entry : MakesCommitted head front e id ts
    unfolding run may
    one-entry =
        elim (because head after run_after id ts now) [
          | ByDecision epoch decided ↦ decided-so epoch decided
          | ByStaging s by whose at ↦ stages-so s by whose (makes_now head front e run may id ts none now)
          | ByTelling unanchored told ↦
              let before : anchor_in id front ≡ None = or-first (anchor_in id front) (key_sent id e.event) (sym (first_push (λ x. key_sent id x.event) front e) ∙ unanchored) in
              let untold : told_at id front ≡ None = sym (ap (commit_at head front id) before) ∙ none in
              ItsTelling before (told-what id ts e.event (sym (first_push (λ x. committed_in id x.event) front e ∙ ap (λ o. option_or o (committed_in id e.event)) untold) ∙ told))
        ]

-- one entry makes a transaction committed
pub one_entry_commits : (head : Head) (before : List (Entry Event)) (e : Entry Event) (id : TxnId) (ts : ℕ) → IsRun head (before ++ e ∷ []) → commit_ts head before id ≡ None → IsCommitted head (before ++ e ∷ []) id ts
    → MakesCommitted head before e id ts
one_entry_commits head before e id ts run none now = one-entry head before e run id ts none now
