-- A staging record stays so over one more entry, or is decided committed there, or one of its writes was refuted.
use Rattle.std.proofs.Common.{◌≡◌, ℕ, ◌<◌, ◌≤◌, ◌⊎◌, if◌then◌else◌, inl, inr, List, [], ◌∷◌, ◌++◌, None, Some, Contains, sym, ap, subst, ◌∙◌, arith}
use Rattle.std.proofs.lemmas.List.Elements.{Contains-append_left}
use Rattle.pc_implicit.proofs.StagedAs.{staged_in}
use Rattle.pc_base.specs.declared.entry.Entry.{Entry}
use Rattle.pc_base.specs.declared.transaction.TxnId.{TxnId}
use Rattle.pc_base.specs.declared.transaction.Who.{Who}
use Rattle.pc_history.specs.History.{MayFollow}
use Rattle.pc_implicit.proofs.CommitsSent.{IsBeyond}
use Rattle.pc_implicit.proofs.Doing.{Does}
use Rattle.pc_implicit.proofs.EvaluatedAt.{sent_at}
use Rattle.pc_implicit.proofs.FoundThere.{staging_heard}
use Rattle.pc_implicit.proofs.HeardViews.{replied_of, so_of}
use Rattle.pc_implicit.proofs.HomeOver.{ChangesPlace, home_over}
use Rattle.pc_implicit.proofs.LeavesBy.{ByAbort, ByCommit, ByFound, ByMissing, ByStage, LeavesBy, Stages, leaves_by}
use Rattle.pc_implicit.proofs.StagesOpen.{abort_refutes, commit_beside, stage_beside}
use Rattle.pc_implicit.proofs.StagesRefuted.{listed_there, one_staged}
use Rattle.pc_implicit.proofs.StageWords.{NowCommitted, SomeRefuted, StagesAs, StaysImplicit, StillStaged, WasStagedAs}
use Rattle.pc_implicit.specs.Decided.{decision, epoch_of, time_of}
use Rattle.pc_implicit.specs.Replied.{WasReplied}
use Rattle.pc_implicit.specs.Stages.{IsOpenTo, WasStaged}
use Rattle.pc_implicit.specs.Writes.{home_of}
use Rattle.pc_proto.specs.declared.event.Event.{Event}
use Rattle.pc_proto.specs.declared.event.Event.TheVariants as events
use Rattle.pc_proto.specs.declared.fate.Finding.TheVariants as findings
use Rattle.pc_proto.specs.declared.record.Record.{Record}
use Rattle.pc_proto.specs.declared.record.Standing.TheVariants as standings
use Rattle.pc_proto.specs.declared.record.Status.{Status}
use Rattle.pc_proto.specs.declared.reply.Reply.{Reply}
use Rattle.pc_proto.specs.declared.reply.Reply.TheVariants as replies
use Rattle.pc_proto.specs.declared.request.Request.{Request}
use Rattle.pc_proto.specs.declared.request.Request.TheVariants as requests
use Rattle.pc_proto.specs.Place.{Place, Kept, after, is_final}
use Rattle.pc_proto.specs.RecordRows.{place_change}
use Rattle.pc_proto.specs.RecordRows.Reached.{status_of}
use Rattle.pc_proto.specs.Requests.{subject}
use Rattle.pc_world.proofs.Prefixes.{run_front}
use Rattle.pc_world.specs.After.{known_at}
use Rattle.pc_world.specs.Local.{Head}
use Rattle.pc_world.specs.Run.{IsRun, protocol}
use Rattle.pc_world.specs.Send.Recovery.{MaySendRecover}
use Rattle.pc_world.specs.StageFate.{SentStage}

pub replied_along : (front back history : List (Entry Event)) → front ++ back ≡ history → (request : Request) (reply : Reply) → WasReplied front request reply → WasReplied history request reply
replied_along front back history whole request reply w = record {
  send = w.send;
  listed = subst (λ h. Contains h w.send) whole (Contains-append_left front back w.send w.listed);
  number = w.number;
  range = w.range;
  sends = w.sends;
  eval = w.eval;
  evaluated = subst (λ h. Contains h w.eval) whole (Contains-append_left front back w.eval w.evaluated);
  told = w.told;
}

-- A stage as which the record stages is open.
pub staging_open : (head : Head) (history : List (Entry Event)) (s : SentStage) (r : Record) → home_of head s.meta.id history ≡ Kept r → StagesAs s r → IsOpenTo head history s
staging_open head history s r home stages =
    let epoch : epoch_of (home_of head s.meta.id history) ≡ s.meta.epoch = ap epoch_of home ∙ stages.epoch_is in
    let ts : time_of (home_of head s.meta.id history) ≡ s.ts = ap time_of home ∙ stages.ts_is in
    record {
      undecided = ap decision home ∙ ap (λ standing. if is_final standing then Some r.status else None) stages.staging;
      epoch_low = omega (arith, epoch);
      ts_low = omega (arith, ts);
    }

-- One more entry, where no write of the stage was refuted.
module _ (head : Head) (history : List (Entry Event)) (run : IsRun head history) (e : Entry Event) (may : MayFollow (protocol head) history e)
    (s : SentStage) (sent : WasStaged history s) (r : Record) (home : home_of head s.meta.id history ≡ Kept r) (stages : StagesAs s r) (whole : SomeRefuted history s → ⊥) where
  opened : IsOpenTo head history s
  opened = staging_open head history s r home stages

  -- a recovery that missed a write shows a refuted one
  missing-refutes : (a : Entry Event) → Contains history a → (number range : ℕ) (id : TxnId) (epoch ts : ℕ) (anchor key : List ℕ) (by : Who)
      → a.event ≡ events.Send number range (requests.Recover id epoch ts anchor (findings.Missing key by)) → id ≡ s.meta.id → epoch ≡ s.meta.epoch → ts ≡ s.ts → ⊥
  unfolding opened
  missing-refutes a there number range id epoch ts anchor key by sends whose epochs times =
      let at = sent_at head history run a there in
      let joined : at.before ++ (a ∷ at.later) ≡ history = sym at.whole in
      let run_before : IsRun head at.before = run_front head at.before (a ∷ at.later) (subst (IsRun head) at.whole run) in
      let act : Does head a.actor (known_at head a.actor at.before) (events.Send number range (requests.Recover id epoch ts anchor (findings.Missing key by))) =
      subst (Does head a.actor (known_at head a.actor at.before)) sends at.does in
      let row : MaySendRecover a.actor (known_at head a.actor at.before) id epoch ts anchor (findings.Missing key by) = act.row in
      let (n, h, inside, here, missed) = row.found.1 in
      let replied : WasReplied history (requests.Query id epoch missed.seq ts key by) replies.Missing =
      replied_along at.before (a ∷ at.later) history joined (requests.Query id epoch missed.seq ts key by) replies.Missing
      (replied_of head at.before a.actor h (so_of head at.before run_before a.actor h (n, inside, here)) (requests.Query id epoch missed.seq ts key by) replies.Missing missed.asked missed.told) in
      let seen : WasStagedAs at.before id epoch ts row.writes = staging_heard head at.before run_before a.actor id epoch ts row.writes row.staging in
      let one : seen.stage ≡ s =
      one_staged head history run s seen.stage sent (staged_in at.before (a ∷ at.later) history joined seen.stage seen.sent) (seen.whose ∙ whose) (seen.epoch_is ∙ epochs) (seen.ts_is ∙ times) opened in
      let writes : row.writes ≡ s.writes = sym seen.writes_are ∙ ap (λ (x : SentStage). x.writes) one in
      let asks : requests.Query id epoch missed.seq ts key by ≡ requests.Query s.meta.id s.meta.epoch missed.seq s.ts key by = λ i. requests.Query (whose i) (epochs i) missed.seq (times i) key by in
      whole (record {
        write = (key, missed.seq);
        listed = subst (λ ws. Contains ws (key, missed.seq)) writes (listed_there key missed.seq row.writes missed.listed);
        refuted = inr (record { by = by; replied = subst (λ q. WasReplied history q replies.Missing) asks replied });
      })

  -- what the request that changes the record makes of it
  changed-stays : (p q : Place) → p ≡ Kept r → ChangesPlace head history e s.meta.id p q → StaysImplicit s q
  unfolding opened
  changed-stays p q kept c =
      let ev = c.ev in
      let made : q ≡ after (Kept r) (place_change ev.request (Kept r)) = c.changed ∙ ap (λ x. after x (place_change ev.request x)) kept in
      elim (subst (LeavesBy r ev.request) (sym made) (leaves_by r stages.staging ev.request)) [
        | Stages still ↦
            StillStaged still.now still.kept (record {
              staging = ap (λ (x : Status). x.standing) still.same_status ∙ stages.staging;
              epoch_is = ap (λ (x : Status). x.epoch) still.same_status ∙ stages.epoch_is;
              ts_is = ap (λ (x : Status). x.ts) still.same_status ∙ stages.ts_is;
              writes_are = still.same_writes ∙ stages.writes_are;
            })
        | ByCommit meta ts locks asks epoch_low ts_low decided ↦
            let whose : meta.id ≡ s.meta.id = let both : Some meta.id ≡ Some s.meta.id = sym (ap subject asks) ∙ c.about in cc both in
            elim (commit_beside head history run s sent opened whole ev.send ev.listed c.number ev.range (record { meta = meta; ts = ts; locks = locks }) (ev.sends ∙ ap (events.Send c.number ev.range) asks) whose) [
              | inl same ↦ NowCommitted meta.epoch (decided ∙ ap (λ n. Some (status_of standings.Committed meta.epoch n)) same)
              | inr beyond ↦ absurd (not-past meta.epoch ts epoch_low ts_low beyond)
            ]
        | ByAbort meta why locks asks ↦
            let whose : meta.id ≡ s.meta.id = let both : Some meta.id ≡ Some s.meta.id = sym (ap subject asks) ∙ c.about in cc both in
            absurd (whole (abort_refutes head history run s sent opened ev.send ev.listed c.number ev.range meta why locks (ev.sends ∙ ap (events.Send c.number ev.range) asks) whose))
        | ByStage x asks epoch_low ts_low elsewhere ↦
            let whose : x.meta.id ≡ s.meta.id = let both : Some x.meta.id ≡ Some s.meta.id = sym (ap subject asks) ∙ c.about in cc both in
            let also : WasStaged history x = record { send = ev.send; listed = ev.listed; number = c.number; range = ev.range; sends = ev.sends ∙ ap (events.Send c.number ev.range) asks } in
            elim (stage_beside head history run s sent opened whole x also whose) [
              | inl same ↦ absurd (elsewhere (ap (λ (y : SentStage). y.meta.epoch) same ∙ sym stages.epoch_is) (ap (λ (y : SentStage). y.ts) same ∙ sym stages.ts_is))
              | inr other ↦ elim other [
                | inl below ↦ let ts_is : r.status.ts ≡ s.ts = stages.ts_is in absurd (omega (arith, below, ts_low, ts_is))
                | inr beyond ↦ absurd (not-past x.meta.epoch x.ts epoch_low ts_low beyond)
              ]
            ]
        | ByFound id anchor asks decided ↦ NowCommitted r.status.epoch (decided ∙ ap (λ n. Some (status_of standings.Committed r.status.epoch n)) stages.ts_is)
        | ByMissing id anchor key by asks decided ↦
            let whose : id ≡ s.meta.id = let both : Some id ≡ Some s.meta.id = sym (ap subject asks) ∙ c.about in cc both in
            absurd (missing-refutes ev.send ev.listed c.number ev.range id r.status.epoch r.status.ts anchor key by (ev.sends ∙ ap (events.Send c.number ev.range) asks) whose stages.epoch_is stages.ts_is)
      ]
    where
      not-past : (epoch ts : ℕ) → r.status.epoch ≤ epoch → r.status.ts ≤ ts → IsBeyond epoch ts (home_of head s.meta.id history) → ⊥
      not-past epoch ts epoch_low ts_low beyond = by (subst (IsBeyond epoch ts) home beyond)
        where
          by : (epoch < r.status.epoch) ⊎ (ts < r.status.ts) → ⊥
          by (inl later) = omega (arith, later, epoch_low)
          by (inr above) = omega (arith, above, ts_low)

  -- it stays so, or is decided committed at its timestamp
  pub stays_or_refuted : StaysImplicit s (home_of head s.meta.id (history ++ e ∷ []))
  stays_or_refuted =
      elim (home_over head history run e may s.meta.id) [
        | inl same ↦ StillStaged r (same ∙ home) stages
        | inr c ↦ changed-stays (home_of head s.meta.id history) (home_of head s.meta.id (history ++ e ∷ [])) home c
      ]
