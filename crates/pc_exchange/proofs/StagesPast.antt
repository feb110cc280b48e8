-- A record that a stage found going another way never stages as that stage: it is past it, and goes on from there.
use Rattle.std.proofs.Common.{◌≡◌, ℕ, suc, ◌+◌, ◌<◌, ◌≤◌, nat_le, Bool, true, false, ◌&&◌, ◌==◌, not, if◌then◌else◌, ◌⊎◌, inl, inr, List, [], ◌∷◌, ◌++◌, length, length-append, Some, Contains, IsTrue, refl, sym, ap, ◌∙◌, subst, arith}
use Rattle.std.proofs.lemmas.Bool.{and_parts, eqb-true, leb-false}
use Rattle.std.proofs.lemmas.List.{append-nil, append_assoc}
use Rattle.pc_base.specs.declared.entry.Entry.{Entry}
use Rattle.pc_desk.specs.OwnLog.{IsOwnLog, LogMeaning}
use Rattle.pc_exchange.proofs.HeardKinds.{answered, history_of, is_run, known_there}
use Rattle.pc_exchange.proofs.PastEpochs.{final_passes, kept_elsewhere, staging_passes}
use Rattle.pc_implicit.proofs.FinalMarks.{marks_final}
use Rattle.pc_implicit.proofs.Fronts.{IsFront, either_front}
use Rattle.pc_implicit.proofs.HeardAt.{HeardAt, heard_at, viewed_then}
use Rattle.pc_implicit.proofs.Homes.{home_along}
use Rattle.pc_implicit.proofs.Shown.{WasAnswered}
use Rattle.pc_implicit.specs.Decided.{epoch_of, time_of}
use Rattle.pc_implicit.specs.Writes.{home_of}
use Rattle.pc_proto.specs.declared.event.Event.{Event}
use Rattle.pc_proto.specs.declared.record.Record.{Record}
use Rattle.pc_proto.specs.declared.record.Standing.{Standing}
use Rattle.pc_proto.specs.declared.record.Standing.TheVariants as standings
use Rattle.pc_proto.specs.declared.record.Status.{Status}
use Rattle.pc_proto.specs.declared.reply.Reply.{Reply}
use Rattle.pc_proto.specs.declared.reply.Reply.TheVariants as replies
use Rattle.pc_proto.specs.declared.view.View.{View}
use Rattle.pc_proto.specs.declared.view.View.TheVariants as views
use Rattle.pc_proto.specs.Place.{Place, Nothing, Kept, Marked, Become, Stay, after, is_final, status_view, view_of}
use Rattle.pc_proto.specs.RecordRows.{unless_decided}
use Rattle.pc_proto.specs.RecordRows.Reached.{alive_at, is_reached, is_staged_at, is_staging, status_of}
use Rattle.pc_proto.specs.RecordRows.Stage.{stage}
use Rattle.pc_proto.specs.Replies.{view_in}
use Rattle.pc_proto.specs.Requests.{subject}
use Rattle.pc_proto.specs.Table.{place_of}
use Rattle.pc_world.specs.After.{state_at}
use Rattle.pc_world.specs.Evaluation.{reply}
use Rattle.pc_world.specs.Known.{Known, known_of}
use Rattle.pc_world.specs.Known.Traffic.{Heard}
use Rattle.pc_world.specs.StageFate.{SentStage, is_past_stage, shows_past, stage_request}

-- The view is of a record that is not final, past the stage in its epoch or its timestamp.
abbrev IsPastView : SentStage → View → Type 0
IsPastView s (views.Pending epoch ts) = (s.meta.epoch < epoch) ⊎ (s.ts < ts)
IsPastView s (views.Staging epoch ts writes) = (s.meta.epoch < epoch) ⊎ (s.ts < ts)
IsPastView s view = ⊥

past_both : (epoch ts : ℕ) (s : SentStage) → (nat_le epoch s.meta.epoch && nat_le ts s.ts) ≡ false → (s.meta.epoch < epoch) ⊎ (s.ts < ts)
past_both epoch ts s is = by (nat_le epoch s.meta.epoch) refl is
  where
    by : (b : Bool) → nat_le epoch s.meta.epoch ≡ b → (b && nat_le ts s.ts) ≡ false → (s.meta.epoch < epoch) ⊎ (s.ts < ts)
    by true low past = inr (leb-false ts s.ts past)
    by false high past = inl (leb-false epoch s.meta.epoch high)

past_status : (s : SentStage) (standing : Standing) (epoch ts : ℕ) (writes : List (List ℕ × ℕ)) (locks : List (List ℕ)) → is_final standing ≡ false → (s.meta.epoch < epoch) ⊎ (s.ts < ts) → IsPastView s (status_view standing epoch ts writes locks)
past_status s standings.Pending epoch ts writes locks undecided past = past
past_status s standings.Staging epoch ts writes locks undecided past = past
past_status s standings.Committed epoch ts writes locks undecided past = absurd cc
past_status s (standings.Aborted why) epoch ts writes locks undecided past = absurd cc

staging_standing : (standing : Standing) → is_staging standing ≡ true → standing ≡ standings.Staging
staging_standing standings.Staging is = refl
staging_standing standings.Pending is = absurd cc
staging_standing standings.Committed is = absurd cc
staging_standing (standings.Aborted why) is = absurd cc

stages_by : (s : SentStage) (standing : Standing) (epoch ts : ℕ) (writes : List (List ℕ × ℕ)) (locks : List (List ℕ)) → standing ≡ standings.Staging → epoch ≡ s.meta.epoch → ts ≡ s.ts → is_past_stage s (status_view standing epoch ts writes locks) ≡ false
stages_by s standing epoch ts writes locks is one two = ap (λ x. is_past_stage s (status_view x epoch ts writes locks)) is ∙ staging_passes s epoch ts writes one two

-- what stages so is not past it
stages_same : (s : SentStage) (p : Place) → is_staged_at p s.meta.epoch s.ts ≡ true → is_past_stage s (view_of p) ≡ false
stages_same s Nothing is = absurd cc
stages_same s (Kept x) is =
    let one = and_parts (is_staging x.status.standing) (x.status.epoch == s.meta.epoch && x.status.ts == s.ts) is in
    let two = and_parts (x.status.epoch == s.meta.epoch) (x.status.ts == s.ts) one.1 in
    stages_by s x.status.standing x.status.epoch x.status.ts x.writes x.locks (staging_standing x.status.standing one.0) (eqb-true x.status.epoch s.meta.epoch two.0) (eqb-true x.status.ts s.ts two.1)
stages_same s (Marked m) is = absurd cc

module _ (s : SentStage) (r : Record) where
  -- What the stage makes of the record.
  abbrev staged_record : Record
  staged_record = record { meta = s.meta; status = status_of standings.Staging s.meta.epoch s.ts; activity = alive_at (Kept r) s.now; writes = s.writes; locks = s.locks }

  staged_past : (undecided : is_final r.status.standing ≡ false) (reached staged : Bool) → is_reached (Kept r) s.meta.epoch s.ts ≡ reached → is_staged_at (Kept r) s.meta.epoch s.ts ≡ staged
      → is_past_stage s (view_of (after (Kept r) (if reached && not staged then Become staged_record else Stay))) ≡ true
      → IsPastView s (view_of (after (Kept r) (if reached && not staged then Become staged_record else Stay)))
  staged_past undecided true false low other past = absurd (let same = staging_passes s s.meta.epoch s.ts s.writes refl refl in let both : false ≡ true = sym same ∙ past in cc both)
  staged_past undecided true true low here past = absurd (let both : false ≡ true = sym (stages_same s (Kept r) here) ∙ past in cc both)
  staged_past undecided false staged high here past = past_status s r.status.standing r.status.epoch r.status.ts r.writes r.locks undecided (past_both r.status.epoch r.status.ts s high)

  kept_past : (final : Bool) → is_final r.status.standing ≡ final → is_past_stage s (view_of (after (Kept r) (if final then Stay else stage s.meta s.ts s.now s.writes s.locks (Kept r)))) ≡ true
      → IsPastView s (view_of (after (Kept r) (if final then Stay else stage s.meta s.ts s.now s.writes s.locks (Kept r))))
  kept_past true final past = absurd (let both : false ≡ true = sym (final_passes s r.status.standing r.status.epoch r.status.ts r.writes r.locks final) ∙ past in cc both)
  kept_past false undecided past = staged_past undecided (is_reached (Kept r) s.meta.epoch s.ts) (is_staged_at (Kept r) s.meta.epoch s.ts) refl refl past

-- a record that went another way is past the stage
place_past : (s : SentStage) (p : Place) → ((m : Status) → p ≡ Marked m → is_final m.standing ≡ true) → is_past_stage s (view_of (after p (unless_decided p (stage s.meta s.ts s.now s.writes s.locks p)))) ≡ true
    → IsPastView s (view_of (after p (unless_decided p (stage s.meta s.ts s.now s.writes s.locks p))))
place_past s p marks past =
    let kept = kept_elsewhere s p marks past in
    let P : Place → Type 0 = λ q. IsPastView s (view_of (after q (unless_decided q (stage s.meta s.ts s.now s.writes s.locks q)))) in
    let so : is_past_stage s (view_of (after (Kept kept.0) (unless_decided (Kept kept.0) (stage s.meta s.ts s.now s.writes s.locks (Kept kept.0))))) ≡ true =
    subst (λ q. is_past_stage s (view_of (after q (unless_decided q (stage s.meta s.ts s.now s.writes s.locks q)))) ≡ true) kept.1 past in
    subst P (sym kept.1) (kept_past s kept.0 (is_final kept.0.status.standing) refl so)

-- ---- where the record is

-- The place has this epoch and timestamp.
abbrev IsAt : ℕ → ℕ → Place → Type 0
IsAt epoch ts p = (epoch_of p ≡ epoch) × (time_of p ≡ ts)

status_at : (standing : Standing) (epoch ts : ℕ) (writes : List (List ℕ × ℕ)) (locks : List (List ℕ)) (at_epoch at : ℕ) (shown : List (List ℕ × ℕ)) → status_view standing epoch ts writes locks ≡ views.Staging at_epoch at shown → (epoch ≡ at_epoch) × (ts ≡ at)
status_at standings.Staging epoch ts writes locks at_epoch at shown is = (cc, cc)
status_at standings.Pending epoch ts writes locks at_epoch at shown is = absurd cc
status_at standings.Committed epoch ts writes locks at_epoch at shown is = absurd cc
status_at (standings.Aborted why) epoch ts writes locks at_epoch at shown is = absurd cc

staging_at : (p : Place) (epoch ts : ℕ) (shown : List (List ℕ × ℕ)) → view_of p ≡ views.Staging epoch ts shown → IsAt epoch ts p
staging_at Nothing epoch ts shown is = absurd cc
staging_at (Kept r) epoch ts shown is = status_at r.status.standing r.status.epoch r.status.ts r.writes r.locks epoch ts shown is
staging_at (Marked m) epoch ts shown is = status_at m.standing m.epoch m.ts [] [] epoch ts shown is

past_place : (s : SentStage) (standing : Standing) (epoch ts : ℕ) (writes : List (List ℕ × ℕ)) (locks : List (List ℕ)) → IsPastView s (status_view standing epoch ts writes locks) → (s.meta.epoch < epoch) ⊎ (s.ts < ts)
past_place s standings.Pending epoch ts writes locks past = past
past_place s standings.Staging epoch ts writes locks past = past
past_place s standings.Committed epoch ts writes locks past = absurd past
past_place s (standings.Aborted why) epoch ts writes locks past = absurd past

past_at : (s : SentStage) (p : Place) → IsPastView s (view_of p) → (s.meta.epoch < epoch_of p) ⊎ (s.ts < time_of p)
past_at s Nothing past = absurd past
past_at s (Kept r) past = past_place s r.status.standing r.status.epoch r.status.ts r.writes r.locks past
past_at s (Marked m) past = past_place s m.standing m.epoch m.ts [] [] past

shown_past : (s : SentStage) (told : Reply) → IsTrue (shows_past s told) → (view : View) × (told ≡ replies.Status view) × (is_past_stage s view ≡ true)
shown_past s (replies.Status view) is = (view, refl, is)
shown_past s told is = absurd (let both : false ≡ true = is in cc both)

longer : {X : Type 0} (xs ys rest : List X) → xs ≡ ys ++ rest → length xs ≤ length ys → ys ≡ xs
longer xs ys [] is low = sym (is ∙ append-nil ys)
longer xs ys (r ∷ rest) is low =
    let long : length xs ≡ length ys + suc (length rest) = ap length is ∙ length-append ys (r ∷ rest) in
    absurd (omega (arith, long, low))

module _ {C : Type 0} (l : LogMeaning C) (log : IsOwnLog l) (g h : Heard) (first : Contains (known_of l.part.own).heard g) (later : Contains (known_of l.part.own).heard h) (s : SentStage) (asked : g.request ≡ stage_request s) (past : IsTrue (shows_past s g.reply)) (step : g.step < h.step) where
  at_first : HeardAt l.head (history_of l log) l.part.id g
  at_first = heard_at l.head (history_of l log) (is_run l log) l.part.id g (subst (λ (k : Known). Contains k.heard g) (sym (known_there l log)) first)

  at_later : HeardAt l.head (history_of l log) l.part.id h
  at_later = heard_at l.head (history_of l log) (is_run l log) l.part.id h (subst (λ (k : Known). Contains k.heard h) (sym (known_there l log)) later)

  -- The histories right behind the two evaluations.
  abbrev behind_first : List (Entry Event)
  behind_first = at_first.before ++ at_first.e ∷ []

  abbrev behind_later : List (Entry Event)
  behind_later = at_later.before ++ at_later.e ∷ []

  goes_on : IsFront behind_first at_later.before
  goes_on =
      let same : behind_first ++ at_first.later ≡ at_later.before ++ at_later.e ∷ at_later.later = append_assoc at_first.before (at_first.e ∷ []) at_first.later ∙ (sym at_first.whole ∙ at_later.whole) in
      elim (either_front behind_first at_first.later at_later.before (at_later.e ∷ at_later.later) same) [
        | inl front ↦ front
        | inr front ↦
            let long : length behind_first ≡ length at_first.before + 1 = length-append at_first.before (at_first.e ∷ []) in
            let one = at_first.at in
            let two = at_later.at in
            let low : length behind_first ≤ length at_later.before = omega (arith, long, one, two, step) in
            record { rest = []; whole = longer behind_first at_later.before front.rest front.whole low ∙ sym (append-nil behind_first) }
      ]

  whole_later : behind_later ≡ behind_first ++ (goes_on.rest ++ at_later.e ∷ [])
  whole_later = ap (λ es. es ++ at_later.e ∷ []) goes_on.whole ∙ append_assoc behind_first goes_on.rest (at_later.e ∷ [])

  view_first : (view : View) × (g.reply ≡ replies.Status view) × (is_past_stage s view ≡ true)
  view_first = shown_past s g.reply past

  was_answered : WasAnswered l.head (history_of l log) l.part.id g.number g.request g.reply
  was_answered = answered l log g first

  past_view : IsPastView s view_first.0
  past_view =
      let p : Place = place_of s.meta.id (state_at l.head was_answered.range was_answered.front).table in
      let is : reply (stage_request s) (state_at l.head was_answered.range was_answered.front) ≡ replies.Status view_first.0 = sym (was_answered.answers ∙ ap (λ q. reply q (state_at l.head was_answered.range was_answered.front)) asked) ∙ view_first.1 in
      let same : view_of (after p (unless_decided p (stage s.meta s.ts s.now s.writes s.locks p))) ≡ view_first.0 = same_status (view_of (after p (unless_decided p (stage s.meta s.ts s.now s.writes s.locks p)))) view_first.0 is in
      subst (IsPastView s) same (place_past s p (λ m marked. marks_final l.head was_answered.range s.meta.id was_answered.front m marked) (ap (is_past_stage s) same ∙ view_first.2))
    where
      same_status : (one other : View) → replies.Status one ≡ replies.Status other → one ≡ other
      same_status one other e = cc

  past_then : (s.meta.epoch < epoch_of (home_of l.head s.meta.id behind_first)) ⊎ (s.ts < time_of (home_of l.head s.meta.id behind_first))
  past_then =
      past_at s (home_of l.head s.meta.id behind_first)
      (subst (IsPastView s) (viewed_then l.head (history_of l log) (is_run l log) l.part.id g at_first s.meta.id view_first.0 (ap subject asked) (ap view_in view_first.1)) past_view)

  -- so it is not shown staging so later
  pub never_stages_so : (shown : List (List ℕ × ℕ)) → subject h.request ≡ Some s.meta.id → view_in h.reply ≡ Some (views.Staging s.meta.epoch s.ts shown) → ⊥
  never_stages_so shown about told =
      let view : view_of (home_of l.head s.meta.id behind_later) ≡ views.Staging s.meta.epoch s.ts shown = sym (viewed_then l.head (history_of l log) (is_run l log) l.part.id h at_later s.meta.id (views.Staging s.meta.epoch s.ts shown) about told) in
      let here = staging_at (home_of l.head s.meta.id behind_later) s.meta.epoch s.ts shown view in
      let up = (home_along l.head s.meta.id behind_first (goes_on.rest ++ at_later.e ∷ [])).rises in
      let epoch_up : epoch_of (home_of l.head s.meta.id behind_first) ≤ epoch_of (home_of l.head s.meta.id behind_later) =
      subst (λ es. epoch_of (home_of l.head s.meta.id behind_first) ≤ epoch_of (home_of l.head s.meta.id es)) (sym whole_later) up.epoch in
      let time_up : time_of (home_of l.head s.meta.id behind_first) ≤ time_of (home_of l.head s.meta.id behind_later) =
      subst (λ es. time_of (home_of l.head s.meta.id behind_first) ≤ time_of (home_of l.head s.meta.id es)) (sym whole_later) up.ts in
      let epoch_is = here.0 in
      let time_is = here.1 in
      elim past_then [
        | inl epoch ↦ omega (arith, epoch, epoch_is, epoch_up)
        | inr time ↦ omega (arith, time, time_is, time_up)
      ]
