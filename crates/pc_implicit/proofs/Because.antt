-- Why a transaction is committed: its record or mark says so, its record stages and every listed write is present, or it was told so.
use Rattle.std.proofs.Common.{◌≡◌, ℕ, Bool, true, false, if◌then◌else◌, List, Option, None, Some, Contains, refl, sym, ap, subst, ◌∙◌}
use Rattle.std.proofs.lemmas.List.Elements.{All-contains}
use Rattle.std.proofs.lemmas.List.Sums.{AllPass-from_list_all, list_all-from_AllPass}
use Rattle.std.specs.List.{list_all}
use Rattle.pc_base.specs.declared.entry.Entry.{Entry}
use Rattle.pc_base.specs.declared.transaction.TxnId.{TxnId}
use Rattle.pc_implicit.proofs.HomeOver.{home_anchored}
use Rattle.pc_implicit.proofs.Homes.{home_is}
use Rattle.pc_implicit.proofs.StagedAs.{staged_as}
use Rattle.pc_implicit.proofs.StageWords.{ByDecision, ByStaging, ByTelling, CommitsBy, IsBecause, StagesAs}
use Rattle.pc_implicit.specs.Decided.{decision}
use Rattle.pc_implicit.specs.Writes.{home_of}
use Rattle.pc_lists.proofs.Lists.{all_from_contains}
use Rattle.pc_proto.specs.declared.event.Event.{Event}
use Rattle.pc_proto.specs.declared.record.Record.{Record}
use Rattle.pc_proto.specs.declared.record.Standing.{Standing}
use Rattle.pc_proto.specs.declared.record.Standing.TheVariants as standings
use Rattle.pc_proto.specs.declared.record.Status.{Status}
use Rattle.pc_proto.specs.Place.{Place, Nothing, Kept, Marked, is_final}
use Rattle.pc_proto.specs.RecordRows.Reached.{status_of}
use Rattle.pc_world.specs.After.{place_at}
use Rattle.pc_world.specs.Committed.{IsCommitted, anchor_in, commit_at, commit_by, commit_in, is_present}
use Rattle.pc_world.specs.Local.{Head}
use Rattle.pc_world.specs.RangeOf.{range_of}
use Rattle.pc_world.specs.Run.{IsRun}
use Rattle.pc_world.specs.StageFate.{SentStage}

-- How a standing commits at this timestamp: it is committed there, or it stages there and all is present.
data HowCommits (standing : Standing) (at : ℕ) (present : Bool) (ts : ℕ) : Type 0 where
  AsDecided : standing ≡ standings.Committed → at ≡ ts → HowCommits standing at present ts
  AsStaged : standing ≡ standings.Staging → at ≡ ts → present ≡ true → HowCommits standing at present ts

how-commits : (standing : Standing) (at : ℕ) (present : Bool) (ts : ℕ) → commit_by standing at present ≡ Some ts → HowCommits standing at present ts
how-commits standings.Pending at present ts is = absurd cc
how-commits standings.Committed at present ts is = let same : at ≡ ts = cc in AsDecided refl same
how-commits standings.Staging at true ts is = let same : at ≡ ts = cc in AsStaged refl same refl
how-commits standings.Staging at false ts is = absurd cc
how-commits (standings.Aborted why) at present ts is = absurd cc

none-commits : (standing : Standing) (at ts : ℕ) → commit_by standing at false ≡ Some ts → (standing ≡ standings.Committed) × (at ≡ ts)
none-commits standing at ts is =
    elim (how-commits standing at false ts is) [
      | AsDecided standing_is ts_is ↦ (standing_is, ts_is)
      | AsStaged standing_is ts_is present ↦ absurd cc
    ]

module _ (head : Head) (history : List (Entry Event)) where
  -- the status of a record or mark that is committed
  committed-status : (s : Status) (ts : ℕ) → s.standing ≡ standings.Committed → s.ts ≡ ts → s ≡ status_of standings.Committed s.epoch ts
  committed-status s ts standing at = λ i. record { standing = standing i; epoch = s.epoch; ts = at i }

  -- a listed write of the stage is present as the record has it
  present-as : (s : SentStage) (r : Record) (id : TxnId) → s.meta.id ≡ id → StagesAs s r → (w : List ℕ × ℕ) → is_present head history id r.status.epoch r.status.ts w ≡ is_present head history s.meta.id s.meta.epoch s.ts w
  present-as s r id whose stages w =
      ap (λ i. is_present head history i r.status.epoch r.status.ts w) (sym whose)
      ∙ ap (λ n. is_present head history s.meta.id n r.status.ts w) stages.epoch_is ∙ ap (λ t. is_present head history s.meta.id s.meta.epoch t w) stages.ts_is

  commits-kept : IsRun head history → (id : TxnId) (ts : ℕ) (r : Record) → home_of head id history ≡ Kept r
      → commit_by r.status.standing r.status.ts (list_all (is_present head history id r.status.epoch r.status.ts) r.writes) ≡ Some ts → IsBecause head history id ts
  commits-kept run id ts r home is =
      elim (how-commits r.status.standing r.status.ts (list_all (is_present head history id r.status.epoch r.status.ts) r.writes) ts is) [
        | AsDecided standing at ↦
            ByDecision r.status.epoch
            (ap decision home ∙ ap (λ s. if is_final s then Some r.status else None) standing ∙ ap Some (committed-status r.status ts standing at))
        | AsStaged staging at all ↦
            let sent = staged_as head history run id r home staging in
            let s = sent.stage in
            let stages : StagesAs s r = record { staging = staging; epoch_is = sym sent.epoch_is; ts_is = sym sent.ts_is; writes_are = sym sent.writes_are } in
            let passes = AllPass-from_list_all (is_present head history id r.status.epoch r.status.ts) r.writes all in
            let by : CommitsBy head history s = record {
              sent = sent.sent;
              r = r;
              home = ap (λ i. home_of head i history) sent.whose ∙ home;
              stages = stages;
              present = λ w listed.
                  sym (present-as s r id sent.whose stages w)
                  ∙ All-contains (λ x. is_present head history id r.status.epoch r.status.ts x ≡ true) r.writes w passes (subst (λ ws. Contains ws w) sent.writes_are listed);
            } in
            ByStaging s by sent.whose (sent.ts_is ∙ at)
      ]

  -- why a transaction is committed
  pub because : IsRun head history → (id : TxnId) (ts : ℕ) → IsCommitted head history id ts → IsBecause head history id ts
  because run id ts is = by (anchor_in id history) refl
    where
      by-place : (p : Place) → home_of head id history ≡ p → commit_in head history id p ≡ Some ts → IsBecause head history id ts
      by-place Nothing home commits = absurd cc
      by-place (Kept r) home commits = commits-kept run id ts r home commits
      by-place (Marked s) home commits =
          let so = none-commits s.standing s.ts ts commits in
          ByDecision s.epoch (ap decision home ∙ ap Some (committed-status s ts so.0 so.1))

      by : (o : Option (List ℕ)) → anchor_in id history ≡ o → IsBecause head history id ts
      by None none = ByTelling none (sym (ap (commit_at head history id) none) ∙ is)
      by (Some anchor) some =
          by-place (place_at head (range_of head.splits anchor) id history) (home_is head id history anchor some) (sym (ap (commit_at head history id) some) ∙ is)

  -- a staging record all of whose writes are present commits its transaction
  pub kept_commits : (id : TxnId) (r : Record) → home_of head id history ≡ Kept r → r.status.standing ≡ standings.Staging
      → list_all (is_present head history id r.status.epoch r.status.ts) r.writes ≡ true → IsCommitted head history id r.status.ts
  kept_commits id r home staging all =
      let at = home_anchored head id history r home in
      let place : place_at head (range_of head.splits at.0) id history ≡ Kept r = sym (home_is head id history at.0 at.1) ∙ home in
      ap (commit_at head history id) at.1 ∙ ap (commit_in head history id) place
      ∙ ap (commit_by r.status.standing r.status.ts) all ∙ ap (λ standing. commit_by standing r.status.ts true) staging

  -- a stage by which its transaction is committed commits it
  pub commits_by_is : (s : SentStage) → CommitsBy head history s → IsCommitted head history s.meta.id s.ts
  commits_by_is s by =
      let r = by.r in
      let id = s.meta.id in
      let all : list_all (is_present head history id r.status.epoch r.status.ts) r.writes ≡ true =
      list_all-from_AllPass (is_present head history id r.status.epoch r.status.ts) r.writes
      (all_from_contains (λ x. is_present head history id r.status.epoch r.status.ts x ≡ true) r.writes
      (λ w listed. present-as s r id refl by.stages w ∙ by.present w (subst (λ ws. Contains ws w) by.stages.writes_are listed))) in
      subst (IsCommitted head history id) by.stages.ts_is (kept_commits id r by.home by.stages.staging all)
