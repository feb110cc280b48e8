-- While its record is not past a stage, a listed write that was present at some time since the stage was sent is present, or the stage
-- fails: some listed write of it was refuted and was never present.
use Rattle.std.proofs.Common.{◌≡◌, ℕ, ◌≤◌, max, nat_le, Bool, true, false, ◌&&◌, ◌==◌, ◌⊎◌, inl, inr, List, [], ◌∷◌, ◌++◌, Option, None, Some, Contains, refl, sym, ap, subst, ◌∙◌, arith}
use Rattle.std.proofs.lemmas.Bool.{and_from, and_parts, eq-eqb, eqb-true, leb-true, le-leb}
use Rattle.pc_implicit.proofs.StagedAs.{staged_along}
use Rattle.pc_implicit.proofs.Fronts.{ends_or_before}
use Rattle.pc_base.specs.declared.entry.Entry.{Entry}
use Rattle.pc_history.specs.History.{MayFollow}
use Rattle.pc_implicit.proofs.Homes.{home_on, undecided_before}
use Rattle.pc_implicit.proofs.Missing.{missed_stays}
use Rattle.pc_implicit.proofs.OwnLaid.{not_overtaken}
use Rattle.pc_implicit.proofs.OwnOver.{Decides, IsLaidOver, Lays, Moves, Stays, own_over}
use Rattle.pc_implicit.proofs.PastWrites.{written_stays}
use Rattle.pc_implicit.proofs.StagesLast.{later_is_refuted}
use Rattle.pc_implicit.proofs.StageWords.{AllStand, FailsSo, IsNewerPut, LaterIsRefuted, SomeRefuted, WasRefuted}
use Rattle.pc_implicit.proofs.Written.{missed_more, written_more}
use Rattle.pc_implicit.specs.Decided.{decision}
use Rattle.pc_implicit.specs.Stages.{IsOpenTo, IsThere, WasStaged, WasThere}
use Rattle.pc_implicit.specs.Writes.{home_of, own_intent}
use Rattle.pc_proto.specs.declared.event.Event.{Event}
use Rattle.pc_proto.specs.declared.record.Intent.{Intent}
use Rattle.pc_proto.specs.Intents.{last_seq}
use Rattle.pc_world.proofs.Prefixes.{run_induction}
use Rattle.pc_world.proofs.Knowing.{run_push}
use Rattle.pc_world.specs.Committed.{is_present}
use Rattle.pc_world.specs.Evaluation.Put.{overtaken}
use Rattle.pc_world.specs.Evaluation.Query.{is_found}
use Rattle.pc_world.specs.Local.{Head}
use Rattle.pc_world.specs.Run.{IsRun, protocol}
use Rattle.pc_world.specs.StageFate.{SentStage}

-- The own intent is the listed write: of the stage's epoch, with the listed sequence or a later one, at or below its timestamp.
pub record IsListedWrite (s : SentStage) (w : List ℕ × ℕ) (i : Intent) : Type 0 where
  pub epoch_is : i.meta.epoch ≡ s.meta.epoch
  pub has : w.1 ≤ last_seq i
  pub low : i.ts ≤ s.ts

-- Some own intent is the listed write.
abbrev pub HasListed : SentStage → List ℕ × ℕ → Option Intent → Type 0
HasListed s w own = (i : Intent) × (own ≡ Some i) × IsListedWrite s w i

module _ (s : SentStage) (w : List ℕ × ℕ) where
  found-listed : (own : Option Intent) → is_found s.meta.epoch w.1 s.ts own ≡ true → HasListed s w own
  found-listed None h = absurd cc
  found-listed (Some i) h =
      let parts = and_parts (i.meta.epoch == s.meta.epoch) (nat_le w.1 (last_seq i) && nat_le i.ts s.ts) h in
      let more = and_parts (nat_le w.1 (last_seq i)) (nat_le i.ts s.ts) parts.1 in
      (i, refl, record { epoch_is = eqb-true i.meta.epoch s.meta.epoch parts.0; has = leb-true w.1 (last_seq i) more.0; low = leb-true i.ts s.ts more.1 })

  listed-found : (own : Option Intent) → HasListed s w own → is_found s.meta.epoch w.1 s.ts own ≡ true
  listed-found own has =
      let i = has.0 in
      let l = has.2 in
      ap (is_found s.meta.epoch w.1 s.ts) has.1
      ∙ and_from (i.meta.epoch == s.meta.epoch) (nat_le w.1 (last_seq i) && nat_le i.ts s.ts) (eq-eqb i.meta.epoch s.meta.epoch l.epoch_is)
      (and_from (nat_le w.1 (last_seq i)) (nat_le i.ts s.ts) (le-leb w.1 (last_seq i) l.has) (le-leb i.ts s.ts l.low))

  module _ (head : Head) (history : List (Entry Event)) where
    -- a write is present where the own intent at its key is it
    pub there_is : IsThere head history s w → HasListed s w (own_intent head s.meta.id w.0 history)
    there_is there = found-listed (own_intent head s.meta.id w.0 history) there

    pub is_there : HasListed s w (own_intent head s.meta.id w.0 history) → IsThere head history s w
    is_there has = listed-found (own_intent head s.meta.id w.0 history) has

-- what was refuted is absent, while the transaction is not decided
pub refuted_absent : (head : Head) (history : List (Entry Event)) → IsRun head history → (s : SentStage) (w : List ℕ × ℕ) → decision (home_of head s.meta.id history) ≡ None → WasRefuted history s w → IsThere head history s w → ⊥
refuted_absent head history run s w undecided refuted there =
    elim refuted [
      | inl above ↦
          let past = written_stays head history s.meta.id s.meta.epoch w.0 w.1 above.at run undecided above.written in
          let has = there_is s w head history there in
          let one : past.0 ≡ has.0 = let both : Some past.0 ≡ Some has.0 = sym past.1 ∙ has.1 in cc both in
          let time : past.0.ts ≡ has.0.ts = ap (λ (i : Intent). i.ts) one in
          let reached = past.2.ts_reached in
          let low = has.2.low in
          let high = above.above in
          absurd (omega (arith, time, reached, low, high))
      | inr missed ↦
          let stays = missed_stays s.meta.id s.meta.epoch w.1 s.ts w.0 head history run missed in
          let both : true ≡ false = sym there ∙ stays.absent in absurd cc
    ]

-- what was refuted was so in every longer history
pub refuted_more : (history : List (Entry Event)) (e : Entry Event) (s : SentStage) (w : List ℕ × ℕ) → WasRefuted history s w → WasRefuted (history ++ e ∷ []) s w
refuted_more history e s w refuted =
    elim refuted [
      | inl above ↦ inl (record { at = above.at; above = above.above; written = written_more history e s.meta.id s.meta.epoch w.0 w.1 above.at above.written })
      | inr missed ↦ inr (missed_more history e s.meta.id s.meta.epoch w.0 w.1 s.ts missed)
    ]

module _ (head : Head) where
  -- a write that was present at some time is so now, or was so before
  pub there_cases : (history : List (Entry Event)) (e : Entry Event) (s : SentStage) (w : List ℕ × ℕ) → WasThere head (history ++ e ∷ []) s w → IsThere head (history ++ e ∷ []) s w ⊎ WasThere head history s w
  there_cases history e s w was =
      elim (ends_or_before history was.front was.back e was.whole) [
        | inl now ↦ inl (subst (λ h. IsThere head h s w) (sym now) was.there)
        | inr before ↦ inr (record { front = was.front; back = before.0; whole = before.1; staged = was.staged; there = was.there })
      ]

  -- a stage to which a record is open after an entry was so before it
  pub open_before : (history : List (Entry Event)) (e : Entry Event) (s : SentStage) → IsOpenTo head (history ++ e ∷ []) s → IsOpenTo head history s
  open_before history e s opened =
      let on = home_on head s.meta.id history e in
      let epoch = opened.epoch_low in
      let ts = opened.ts_low in
      let rises_epoch = on.rises.epoch in
      let rises_ts = on.rises.ts in
      record { undecided = undecided_before head s.meta.id history e opened.undecided; epoch_low = omega (arith, epoch, rises_epoch); ts_low = omega (arith, ts, rises_ts) }

  staged-by : (history : List (Entry Event)) (s : SentStage) (w : List ℕ × ℕ) → WasThere head history s w → WasStaged history s
  staged-by history s w was = subst (λ h. WasStaged h s) (sym was.whole) (staged_along was.front was.back s was.staged)

  -- what fails so does so after one more entry, while the stage is open
  fails-more : (history : List (Entry Event)) (e : Entry Event) → IsRun head (history ++ e ∷ []) → (s : SentStage) → IsOpenTo head (history ++ e ∷ []) s → FailsSo head history s → FailsSo head (history ++ e ∷ []) s
  fails-more history e run s opened fails =
      let refuted = refuted_more history e s fails.write fails.refuted in
      record {
        write = fails.write;
        listed = fails.listed;
        refuted = refuted;
        never = λ was. elim (there_cases history e s fails.write was) [
          | inl now ↦ refuted_absent head (history ++ e ∷ []) run s fails.write opened.undecided refuted now
          | inr before ↦ fails.never before
        ];
      }

-- Over one more entry, where a newer put that was sent means that some listed write was refuted.
module _ (head : Head) (history : List (Entry Event)) (run : IsRun head history) (later : LaterIsRefuted head history) (e : Entry Event) (may : MayFollow (protocol head) history e)
    (all : AllStand head history) (s : SentStage) (opened : IsOpenTo head (history ++ e ∷ []) s) (lasts : FailsSo head (history ++ e ∷ []) s → ⊥) where
  whole : IsRun head (history ++ e ∷ [])
  whole = run_push head history e run may

  opened-before : IsOpenTo head history s
  opened-before = open_before head history e s opened

  not-failed : FailsSo head history s → ⊥
  not-failed fails = lasts (fails-more head history e whole s opened fails)

  -- a listed write that was refuted fails so, since it was never there
  refuted-fails : SomeRefuted history s → ⊥
  refuted-fails some =
      let refuted = refuted_more history e s some.write some.refuted in
      lasts (record {
        write = some.write;
        listed = some.listed;
        refuted = refuted;
        never = λ was. elim (there_cases head history e s some.write was) [
          | inl now ↦ refuted_absent head (history ++ e ∷ []) whole s some.write opened.undecided refuted now
          | inr before ↦ all s opened-before some.write some.listed before (refuted_absent head history run s some.write opened-before.undecided some.refuted) not-failed
        ];
      })

  newer : (w : List ℕ × ℕ) → HasListed s w (own_intent head s.meta.id w.0 history)
      → (l : IsLaidOver history e s.meta.id w.0 (own_intent head s.meta.id w.0 history) (own_intent head s.meta.id w.0 (history ++ e ∷ []))) → IsNewerPut s w l.meta l.seq
  newer w has l =
      let i = has.0 in
      let free = not_overtaken l.meta l.seq i (ap (overtaken l.meta l.seq) (sym has.1) ∙ l.first) in
      let epoch = has.2.epoch_is in
      let high = free.0 in
      let listed = has.2.has in
      record {
        whose = l.whose;
        epoch_reached = omega (arith, epoch, high);
        seq_past = λ same. let past = free.1 (epoch ∙ sym same) in omega (arith, listed, past);
      }

  -- a listed write that was there before the entry
  there-on : (w : List ℕ × ℕ) → Contains s.writes w → WasStaged history s → (IsThere head (history ++ e ∷ []) s w → ⊥) → IsThere head history s w → ⊥
  there-on w listed sent absent there =
      let has = there_is s w head history there in
      let stays : HasListed s w (own_intent head s.meta.id w.0 (history ++ e ∷ [])) → ⊥ = λ now. absent (is_there s w head (history ++ e ∷ []) now) in
      elim (own_over head history run e may s.meta.id w.0) [
        | Stays same ↦ stays (has.0, same ∙ has.1, has.2)
        | Lays l ↦ refuted-fails (later s sent opened-before w listed l.send l.listed l.number l.range l.meta l.seq l.asked l.value l.sends (newer w has l))
        | Moves i at own low eq ↦
            let one : has.0 ≡ i = let both : Some has.0 ≡ Some i = sym has.1 ∙ own in cc both in
            let listed_as = subst (IsListedWrite s w) one has.2 in
            let under = listed_as.low in
            let record_low = opened-before.ts_low in
            stays (record i { ts = max i.ts at }, eq, record { epoch_is = listed_as.epoch_is; has = listed_as.has; low = omega (arith, under, low, record_low) })
        | Decides st decided ↦ let both : None ≡ Some st = sym opened-before.undecided ∙ decided in absurd cc
      ]

  stands-on : (w : List ℕ × ℕ) → Contains s.writes w → WasThere head (history ++ e ∷ []) s w → (IsThere head (history ++ e ∷ []) s w → ⊥) → ⊥
  stands-on w listed was absent =
      elim (there_cases head history e s w was) [
        | inl now ↦ absent now
        | inr before ↦ all s opened-before w listed before (there-on w listed (staged-by head history s w before) absent) not-failed
      ]

module _ (head : Head) where
  none-there : AllStand head []
  none-there s opened w listed was absent lasts = absent (subst (λ h. IsThere head h s w) (sym (nothing was.front was.back was.whole)) was.there)
    where
      nothing : (front back : List (Entry Event)) → [] ≡ front ++ back → [] ≡ front
      nothing [] back split = refl
      nothing (f ∷ front) back split = absurd cc

  -- a listed write that was present is so, or the stage fails
  pub present_or_fails : (history : List (Entry Event)) → IsRun head history → AllStand head history
  present_or_fails = run_induction head (AllStand head) none-there (λ history e run may all s opened w listed was absent lasts.
      stands-on head history run (later_is_refuted head history run) e may all s opened lasts w listed was absent)

  -- so where each was present, all are
  pub staged_writes_stay : (history : List (Entry Event)) (s : SentStage) → IsRun head history → IsOpenTo head history s → ((w : List ℕ × ℕ) → Contains s.writes w → WasThere head history s w)
      → (w : List ℕ × ℕ) → Contains s.writes w → IsThere head history s w
  staged_writes_stay history s run opened was w listed = by (is_present head history s.meta.id s.meta.epoch s.ts w) refl
    where
      by : (b : Bool) → is_present head history s.meta.id s.meta.epoch s.ts w ≡ b → IsThere head history s w
      by true is = is
      by false is =
          absurd (present_or_fails history run s opened w listed (was w listed) (λ there. let both : true ≡ false = sym there ∙ is in cc both)
          (λ fails. fails.never (was fails.write fails.listed)))
