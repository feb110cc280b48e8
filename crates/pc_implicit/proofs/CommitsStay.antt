-- What is committed stays so, at that timestamp and no other.
use Rattle.std.proofs.Common.{◌≡◌, ℕ, ◌⊎◌, inl, inr, List, [], ◌∷◌, ◌++◌, Some, refl, sym, subst, ◌∙◌}
use Rattle.std.proofs.lemmas.List.{append-nil, append_assoc}
use Rattle.pc_implicit.proofs.StagedAs.{staged_along}
use Rattle.pc_base.specs.declared.entry.Entry.{Entry}
use Rattle.pc_base.specs.declared.transaction.TxnId.{TxnId}
use Rattle.pc_history.proofs.Histories.{fine_after-back}
use Rattle.pc_history.specs.History.{IsFineAfter, MayFollow}
use Rattle.pc_implicit.proofs.Because.{because, commits_by_is}
use Rattle.pc_implicit.proofs.Commits.{told_stays}
use Rattle.pc_implicit.proofs.Homes.{home_commits, home_on}
use Rattle.pc_implicit.proofs.Presence.{refuted_absent, staged_writes_stay}
use Rattle.pc_implicit.proofs.StageWords.{ByDecision, ByStaging, ByTelling, CommitsBy, NowCommitted, SomeRefuted, StillStaged}
use Rattle.pc_implicit.proofs.StaysOrRefuted.{stays_or_refuted, staging_open}
use Rattle.pc_implicit.specs.Decided.{decision}
use Rattle.pc_implicit.specs.Stages.{IsOpenTo}
use Rattle.pc_implicit.specs.Writes.{home_of}
use Rattle.pc_proto.specs.declared.event.Event.{Event}
use Rattle.pc_proto.specs.declared.record.Standing.TheVariants as standings
use Rattle.pc_proto.specs.RecordRows.Reached.{status_of}
use Rattle.pc_world.proofs.Knowing.{run_push}
use Rattle.pc_world.proofs.Prefixes.{run_front}
use Rattle.pc_world.specs.Committed.{IsCommitted}
use Rattle.pc_world.specs.Local.{Head}
use Rattle.pc_world.specs.Run.{IsRun, protocol}
use Rattle.pc_world.specs.StageFate.{SentStage}

-- The transaction of the stage is committed by it, or decided committed at its timestamp.
abbrev pub StaysCommitted : Head → List (Entry Event) → SentStage → Type 0
StaysCommitted head history s =
    CommitsBy head history s ⊎ ((epoch : ℕ) × (decision (home_of head s.meta.id history) ≡ Some (status_of standings.Committed epoch s.ts)))

module _ (head : Head) where
  -- no write of a stage by which its transaction is committed was refuted
  pub none_refuted : (history : List (Entry Event)) → IsRun head history → (s : SentStage) → CommitsBy head history s → SomeRefuted history s → ⊥
  none_refuted history run s by some =
      refuted_absent head history run s some.write (staging_open head history s by.r by.home by.stages).undecided some.refuted (by.present some.write some.listed)

  -- a stage by which its transaction is committed does so after one more entry, or the transaction is decided committed
  pub record_stays : (history : List (Entry Event)) (e : Entry Event) → IsRun head history → MayFollow (protocol head) history e → (s : SentStage) → CommitsBy head history s → StaysCommitted head (history ++ e ∷ []) s
  record_stays history e run may s by =
      let now = history ++ e ∷ [] in
      let whole : IsRun head now = run_push head history e run may in
      elim (stays_or_refuted head history run e may s by.sent by.r by.home by.stages (none_refuted history run s by)) [
        | StillStaged r home stages ↦
            let opened : IsOpenTo head now s = staging_open head now s r home stages in
            inl (record {
              sent = staged_along history (e ∷ []) s by.sent;
              r = r;
              home = home;
              stages = stages;
              present =
                  staged_writes_stay head now s whole opened
                  (λ w listed. record { front = history; back = e ∷ []; whole = refl; staged = by.sent; there = by.present w listed });
            })
        | NowCommitted epoch decided ↦ inr (epoch, decided)
      ]

  stays-once : (history : List (Entry Event)) (e : Entry Event) → IsRun head history → MayFollow (protocol head) history e → (s : SentStage) → StaysCommitted head history s → StaysCommitted head (history ++ e ∷ []) s
  stays-once history e run may s stays =
      elim stays [
        | inl by ↦ record_stays history e run may s by
        | inr so ↦ inr (so.0, (home_on head s.meta.id history e).decided (status_of standings.Committed so.0 s.ts) so.1)
      ]

  -- what goes on over one more entry does so along a run
  pub goes_along : (P : List (Entry Event) → Type 0) → ((history : List (Entry Event)) (e : Entry Event) → IsRun head history → MayFollow (protocol head) history e → P history → P (history ++ e ∷ []))
      → (front back : List (Entry Event)) → IsRun head (front ++ back) → P front → P (front ++ back)
  goes_along P step front back run holds = along front back (run_front head front back run) (fine_after-back (protocol head) [] front back run) holds
    where
      along : (front back : List (Entry Event)) → IsRun head front → IsFineAfter (protocol head) front back → P front → P (front ++ back)
      along front [] run fine holds = subst P (sym (append-nil front)) holds
      along front (e ∷ es) run fine holds =
          subst P (append_assoc front (e ∷ []) es) (along (front ++ e ∷ []) es (run_push head front e run fine.0) fine.1 (step front e run fine.0 holds))

  -- so it does in every longer run
  pub commits_on : (front back : List (Entry Event)) → IsRun head (front ++ back) → (s : SentStage) → CommitsBy head front s → StaysCommitted head (front ++ back) s
  commits_on front back run s by = goes_along (λ h. StaysCommitted head h s) (λ history e run may stays. stays-once history e run may s stays) front back run (inl by)

  -- what is committed is so after one more entry
  pub committed_push : (history : List (Entry Event)) (e : Entry Event) → IsRun head history → MayFollow (protocol head) history e → (id : TxnId) (ts : ℕ) → IsCommitted head history id ts → IsCommitted head (history ++ e ∷ []) id ts
  committed_push history e run may id ts is =
      let now = history ++ e ∷ [] in
      elim (because head history run id ts is) [
        | ByDecision epoch decided ↦ home_commits head id now epoch ts ((home_on head id history e).decided (status_of standings.Committed epoch ts) decided)
        | ByStaging s by whose at ↦
            let stays : IsCommitted head now s.meta.id s.ts =
            elim (record_stays history e run may s by) [
              | inl still ↦ commits_by_is head now s still
              | inr so ↦ home_commits head s.meta.id now so.0 s.ts so.1
            ] in
            subst (λ i. IsCommitted head now i ts) whose (subst (IsCommitted head now s.meta.id) at stays)
        | ByTelling none told ↦ told_stays head history e run may id ts none told
      ]

  pub committed_stays : (front back : List (Entry Event)) → IsRun head (front ++ back) → (id : TxnId) (ts : ℕ) → IsCommitted head front id ts → IsCommitted head (front ++ back) id ts
  committed_stays front back run id ts is = goes_along (λ h. IsCommitted head h id ts) (λ history e run may is. committed_push history e run may id ts is) front back run is

  -- what is committed stays so, and at no other timestamp
  pub commits_stay : (front back : List (Entry Event)) (id : TxnId) (ts : ℕ) → IsRun head (front ++ back) → IsCommitted head front id ts
      → IsCommitted head (front ++ back) id ts × ((other : ℕ) → IsCommitted head (front ++ back) id other → other ≡ ts)
  commits_stay front back id ts run is =
      let stays = committed_stays front back run id ts is in
      (stays, λ other also. let both : Some other ≡ Some ts = sym also ∙ stays in cc both)
