-- A stage by which its transaction is committed is never known to be dead. Here dead differs from late: one of its writes may stand above it
-- or be missing once the transaction is decided and its intents are settled; dead asks that it was undecided after that.
use Rattle.std.proofs.Common.{◌≡◌, ℕ, ◌+◌, ◌<◌, Bool, true, false, cond, not, inl, inr, List, [], ◌∷◌, ◌++◌, length, Option, None, Some, Contains, refl, sym, ap, subst, ◌∙◌, arith, length-append}
use Rattle.std.proofs.lemmas.Bool.{and_parts}
use Rattle.std.proofs.lemmas.List.{append-nil, append_assoc}
use Rattle.std.specs.Option.{option_map_or}
use Rattle.pc_implicit.proofs.Answering.{final-status}
use Rattle.pc_implicit.proofs.StagedAs.{staged_along}
use Rattle.pc_base.specs.declared.actor.ActorId.{ActorId}
use Rattle.pc_base.specs.declared.actor.ActorId.TheVariants as actors
use Rattle.pc_base.specs.declared.entry.Entry.{Entry}
use Rattle.pc_base.specs.declared.transaction.TxnId.{TxnId}
use Rattle.pc_implicit.proofs.CommitsStay.{StaysCommitted, commits_on, none_refuted}
use Rattle.pc_implicit.proofs.Did.{session_at}
use Rattle.pc_implicit.proofs.EvaluatedAt.{goes_to}
use Rattle.pc_implicit.proofs.FinalMarks.{marks_at_home}
use Rattle.pc_implicit.proofs.Fronts.{either_front}
use Rattle.pc_implicit.proofs.HeardAt.{heard_at, replied_then, viewed_then}
use Rattle.pc_implicit.proofs.HeardViews.{so_of}
use Rattle.pc_implicit.proofs.Homes.{home_along, home_is}
use Rattle.pc_implicit.proofs.Lift.{over}
use Rattle.pc_implicit.proofs.Metas.{subject_anchored}
use Rattle.pc_implicit.proofs.Presence.{refuted_more}
use Rattle.pc_implicit.proofs.StagesRefuted.{refutes_one, stage_passes}
use Rattle.pc_implicit.proofs.StageWords.{CommitsBy, SomeRefuted, StagesAs, WasRefuted}
use Rattle.pc_implicit.proofs.Views.{Stands, places_go_on, stands-itself, subject-is, undecided_from}
use Rattle.pc_implicit.specs.Decided.{decision, epoch_of, time_of}
use Rattle.pc_implicit.specs.Stages.{WasStaged}
use Rattle.pc_implicit.specs.Writes.{home_of}
use Rattle.pc_proto.specs.declared.event.Event.{Event}
use Rattle.pc_proto.specs.declared.event.Event.TheVariants as events
use Rattle.pc_proto.specs.declared.record.Record.{Record}
use Rattle.pc_proto.specs.declared.record.Standing.TheVariants as standings
use Rattle.pc_proto.specs.declared.record.Status.{Status}
use Rattle.pc_proto.specs.declared.reply.Reply.{Reply}
use Rattle.pc_proto.specs.declared.request.Request.{Request}
use Rattle.pc_proto.specs.declared.view.View.{View}
use Rattle.pc_proto.specs.Place.{Place, Nothing, Kept, Marked, Stay, after, is_final, status_view, view_of}
use Rattle.pc_proto.specs.RecordRows.{answer}
use Rattle.pc_proto.specs.RecordRows.Reached.{status_of}
use Rattle.pc_proto.specs.RecordRows.Stage.{stage}
use Rattle.pc_proto.specs.Replies.{view_in}
use Rattle.pc_proto.specs.Requests.{is_about, subject}
use Rattle.pc_proto.specs.Views.{is_final_view}
use Rattle.pc_world.proofs.Prefixes.{run_front}
use Rattle.pc_world.specs.After.{place_at, state_at}
use Rattle.pc_world.specs.Evaluation.{reply as reply_of}
use Rattle.pc_world.specs.Known.Traffic.{Heard}
use Rattle.pc_world.specs.Local.{Head}
use Rattle.pc_world.specs.RangeOf.{range_of}
use Rattle.pc_world.specs.Run.{IsRun}
use Rattle.pc_world.specs.StageFate.{IsDead, RefutesRecord, RefutesWrite, SentStage, is_past_stage, shows_past, stage_request}
use Rattle.pc_world.specs.Views.{shows_undecided}

-- Of two beginnings of one list one is a beginning of the other.
-- ---- places

-- a place that is told by a view that is not final is not decided
unsettled-place : (p : Place) → ((m : Status) → p ≡ Marked m → is_final m.standing ≡ true) → is_final_view (view_of p) ≡ false → decision p ≡ None
unsettled-place Nothing marks h = refl
unsettled-place (Kept r) marks h = by (is_final r.status.standing) refl
  where
    by : (b : Bool) → is_final r.status.standing ≡ b → cond b (Some r.status) None ≡ None
    by true final = let both : true ≡ false = sym (final-status r.status.standing r.status.epoch r.status.ts r.writes r.locks final) ∙ h in absurd cc
    by false pending = refl
unsettled-place (Marked m) marks h = let both : true ≡ false = sym (final-status m.standing m.epoch m.ts [] [] (marks m refl)) ∙ h in absurd cc

staged-undecided : (s : SentStage) (r : Record) → StagesAs s r → decision (Kept r) ≡ None
staged-undecided s r stages = ap (λ standing. cond (is_final standing) (Some r.status) None) stages.staging

-- the record of a stage does not tell it that it went another way, nor did what it stands on
staged-not-told : (s : SentStage) (p q : Place) (r : Record) → Stands p q → q ≡ Kept r → StagesAs s r → shows_past s (answer (stage_request s) p) ≡ true → ⊥
staged-not-told s p q r stands is stages past =
    let undecided : decision q ≡ None = ap decision is ∙ staged-undecided s r stages in
    let beyond = stage_passes s p (undecided_from p q stands undecided) past in
    let epoch : epoch_of q ≡ s.meta.epoch = ap epoch_of is ∙ stages.epoch_is in
    let ts : time_of q ≡ s.ts = ap time_of is ∙ stages.ts_is in
    let epochs = stands.rises.epoch in
    let times = stands.rises.ts in
    elim beyond [ inl later ↦ omega (arith, later, epochs, epoch) | inr above ↦ omega (arith, above, times, ts) ]

-- neither does a decided one
decided-not-told : (s : SentStage) (p : Place) (epoch ts : ℕ) → decision p ≡ Some (status_of standings.Committed epoch ts) → shows_past s (answer (stage_request s) p) ≡ true → ⊥
decided-not-told s Nothing epoch ts decided past = cc decided
decided-not-told s (Kept r) epoch ts decided past = by (is_final r.status.standing) refl decided past
  where
    by : (b : Bool) → is_final r.status.standing ≡ b → cond b (Some r.status) None ≡ Some (status_of standings.Committed epoch ts)
        → is_past_stage s (view_of (after (Kept r) (cond b Stay (stage s.meta s.ts s.now s.writes s.locks (Kept r))))) ≡ true → ⊥
    by true final is past =
        let same : r.status ≡ status_of standings.Committed epoch ts = cc is in
        let both : false ≡ true = ap (λ (x : Status). is_past_stage s (status_view x.standing x.epoch x.ts r.writes r.locks)) (sym same) ∙ past in cc both
    by false pending is past = cc is
decided-not-told s (Marked m) epoch ts decided past =
    let same : m ≡ status_of standings.Committed epoch ts = cc decided in
    let both : false ≡ true = ap (λ (x : Status). is_past_stage s (status_view x.standing x.epoch x.ts [] [])) (sym same) ∙ past in cc both

unsettled-view : (id : TxnId) (request : Request) (reply : Reply) → shows_undecided id request reply ≡ true → (is_about id request ≡ true) × (view : View) × (view_in reply ≡ Some view) × (is_final_view view ≡ false)
unsettled-view id request reply h =
    let parts = and_parts (is_about id request) (option_map_or (λ view. not (is_final_view view)) (view_in reply) false) h in
    let v = by (view_in reply) parts.1 in
    (parts.0, v.0, v.1, v.2)
  where
    un : (b : Bool) → not b ≡ true → b ≡ false
    un true h = absurd cc
    un false h = refl

    by : (o : Option View) → option_map_or (λ view. not (is_final_view view)) o false ≡ true → (view : View) × (o ≡ Some view) × (is_final_view view ≡ false)
    by None h = absurd cc
    by (Some view) h = (view, refl, un (is_final_view view) h)

module _ (head : Head) where
  -- what was refuted stays so
  refuted-along : (front back : List (Entry Event)) (s : SentStage) (w : List ℕ × ℕ) → WasRefuted front s w → WasRefuted (front ++ back) s w
  refuted-along front [] s w refuted = subst (λ h. WasRefuted h s w) (sym (append-nil front)) refuted
  refuted-along front (e ∷ es) s w refuted = subst (λ h. WasRefuted h s w) (append_assoc front (e ∷ []) es) (refuted-along (front ++ e ∷ []) es s w (refuted_more front e s w refuted))

  -- a stage is evaluated by its transaction's record
  staged-home : (history : List (Entry Event)) → IsRun head history → (s : SentStage) → WasStaged history s → home_of head s.meta.id history ≡ place_at head (range_of head.splits s.meta.anchor) s.meta.id history
  staged-home history run s sent =
      let a = subject_anchored head history run sent.send sent.listed sent.number sent.range (stage_request s) s.meta.id sent.sends refl in
      let there : sent.range ≡ range_of head.splits s.meta.anchor = goes_to head history run sent.send sent.listed sent.number sent.range (stage_request s) sent.sends in
      home_is head s.meta.id history a.anchor a.anchored ∙ ap (λ r. place_at head r s.meta.id history) (sym a.there ∙ there)

module _ (head : Head) (front back : List (Entry Event)) (run : IsRun head (front ++ back)) (s : SentStage) (c : CommitsBy head front s) where
  run-first : IsRun head front
  run-first = run_front head front back run

  -- it is so in each beginning that is longer, or decided
  later-so : (now later rest : List (Entry Event)) → front ++ back ≡ now ++ later → now ≡ front ++ rest → StaysCommitted head now s
  later-so now later rest whole longer =
      let run_now : IsRun head now = run_front head now later (subst (IsRun head) whole run) in
      subst (λ h. StaysCommitted head h s) (sym longer)
      (commits_on head front rest (subst (IsRun head) longer run_now) s c)

  -- its own reply never says that the record went another way
  not-past : (h : Heard) → Contains (session_at head s.meta.id (front ++ back)).heard h → RefutesRecord s h → ⊥
  unfolding run-first
  not-past h there past =
      let actor : ActorId = actors.Session s.meta.id.session in
      let history = front ++ back in
      let so = so_of head history run actor h there in
      let own : so.range ≡ range_of head.splits s.meta.anchor = goes_to head history run so.send so.listed h.number so.range (stage_request s) (so.sends ∙ ap (events.Send h.number so.range) past.asked) in
      let range = range_of head.splits s.meta.anchor in
      let p = place_at head range s.meta.id so.front in
      let told : h.reply ≡ answer (stage_request s) p = so.answers ∙ ap (λ q. reply_of q (state_at head so.range so.front)) past.asked ∙ ap (λ r. answer (stage_request s) (place_at head r s.meta.id so.front)) own in
      let shows : shows_past s (answer (stage_request s) p) ≡ true = ap (shows_past s) (sym told) ∙ past.past in
      let home_first : home_of head s.meta.id front ≡ place_at head range s.meta.id front = staged-home head front run-first s c.sent in
      elim (either_front front back so.front so.back (sym so.whole)) [
        | inl longer ↦
            let run_then : IsRun head so.front = run_front head so.front so.back (subst (IsRun head) (sym so.whole) run) in
            let home_then : home_of head s.meta.id so.front ≡ p = staged-home head so.front run_then s (subst (λ h. WasStaged h s) (sym longer.whole) (staged_along front longer.rest s c.sent)) in
            elim (later-so so.front so.back longer.rest (sym so.whole) longer.whole) [
              | inl still ↦ staged-not-told s p p still.r (stands-itself p) (sym home_then ∙ still.home) still.stages shows
              | inr decided ↦ decided-not-told s p decided.0 s.ts (ap decision (sym home_then) ∙ decided.1) shows
            ]
        | inr shorter ↦
            let stands : Stands p (place_at head range s.meta.id front) =
            subst (λ h. Stands p (place_at head range s.meta.id h)) (sym shorter.whole) (over _ (places_go_on s.meta.id) head range so.front shorter.rest) in
            staged-not-told s p (place_at head range s.meta.id front) c.r stands (sym home_first ∙ c.home) c.stages shows
      ]

  -- and none of its writes is known to be refuted before the transaction is decided
  not-refuted : (h g : Heard) → Contains (session_at head s.meta.id (front ++ back)).heard h → Contains (session_at head s.meta.id (front ++ back)).heard g → h.step < g.step → RefutesWrite s h → shows_undecided s.meta.id g.request g.reply ≡ true → ⊥
  unfolding run-first
  not-refuted h g there also after refutes unsettled =
      let id = s.meta.id in
      let actor : ActorId = actors.Session id.session in
      let history = front ++ back in
      let a = heard_at head history run actor h there in
      let b = heard_at head history run actor g also in
      let first = a.before ++ a.e ∷ [] in
      let second = b.before ++ b.e ∷ [] in
      let first_whole : history ≡ first ++ a.later = a.whole ∙ sym (append_assoc a.before (a.e ∷ []) a.later) in
      let second_whole : history ≡ second ++ b.later = b.whole ∙ sym (append_assoc b.before (b.e ∷ []) b.later) in
      let some : SomeRefuted first s = refutes_one first s h (replied_then head history run actor h a) refutes in
      let view = unsettled-view id g.request g.reply unsettled in
      let shown = viewed_then head history run actor g b id view.1 (subject-is id (subject g.request) view.0) view.2 in
      let open_second : decision (home_of head id second) ≡ None = unsettled-place (home_of head id second) (marks_at_home head id second) (ap is_final_view (sym shown) ∙ view.3) in
      let length_first : length first ≡ length a.before + 1 = length-append a.before (a.e ∷ []) in
      let length_second : length second ≡ length b.before + 1 = length-append b.before (b.e ∷ []) in
      let at_first : length a.before ≡ h.step = a.at in
      let at_second : length b.before ≡ g.step = b.at in
      let open_first : decision (home_of head id first) ≡ None =
      elim (either_front first a.later second b.later (sym first_whole ∙ second_whole)) [
        | inl longer ↦ undecided_from (home_of head id first) (home_of head id second) (subst (λ x. Stands (home_of head id first) (home_of head id x)) (sym longer.whole) (home_along head id first longer.rest)) open_second
        | inr shorter ↦
            let lengths : length first ≡ length second + length shorter.rest = ap length shorter.whole ∙ length-append second shorter.rest in
            absurd (omega (arith, lengths, length_first, length_second, at_first, at_second, after))
      ] in
      let run_then : IsRun head first = run_front head first a.later (subst (IsRun head) first_whole run) in
      elim (either_front front back first a.later first_whole) [
        | inl longer ↦ elim (later-so first a.later longer.rest first_whole longer.whole) [
          | inl still ↦ none_refuted head first run_then s still some
          | inr decided ↦ let both : None ≡ Some (status_of standings.Committed decided.0 s.ts) = sym open_first ∙ decided.1 in cc both
        ]
        | inr shorter ↦
            none_refuted head front run-first s c
            (record { write = some.write; listed = some.listed; refuted = subst (λ x. WasRefuted x s some.write) (sym shorter.whole) (refuted-along head first shorter.rest s some.write some.refuted) })
      ]

  -- A stage by which its transaction is committed is never known to be dead.
  pub never_dead : IsDead (session_at head s.meta.id (front ++ back)).heard s → ⊥
  never_dead dead =
      elim dead [
        | inl past ↦ (let (n, h, inside, at, p) = past in not-past h (n, inside, at) p)
        | inr refuted ↦ (let (n, h, inside, at, d) = refuted in let (m, g, also, there, u) = d.undecided in not-refuted h g (n, inside, at) (m, also, there) u.after d.refuted u.unsettled)
      ]
