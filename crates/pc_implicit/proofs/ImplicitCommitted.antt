-- A transaction whose record staged at a timestamp, and each of whose writes is proven at or below it, is committed there: the staging lasts with
-- all writes present, or is decided so; or else it fails by a write that has no such proof.
use Rattle.std.proofs.Common.{◌≡◌, ℕ, ◌≤◌, max, Bool, true, false, ◌==◌, ◌⊎◌, inl, inr, List, [], ◌∷◌, ◌++◌, Option, None, Some, Contains, refl, sym, ap, subst, ◌∙◌, arith}
use Rattle.std.proofs.lemmas.Bool.{and_parts, eq-eqb, eqb-true}
use Rattle.std.proofs.lemmas.List.{append-nil, append_assoc}
use Rattle.std.proofs.lemmas.List.Elements.{All-contains, Contains-append_left, Contains-push, recursion_from_All}
use Rattle.std.specs.List.{AllByRecursion as Each}
use Rattle.std.specs.Option.{option_map_or}
use Rattle.pc_implicit.proofs.FinalMarks.{marks_at_home}
use Rattle.pc_implicit.proofs.Fronts.{either_front}
use Rattle.pc_base.specs.declared.actor.ActorId.{ActorId}
use Rattle.pc_base.specs.declared.actor.ActorId.TheVariants as actors
use Rattle.pc_base.specs.declared.entry.Entry.{Entry}
use Rattle.pc_base.specs.declared.transaction.TxnId.{TxnId}
use Rattle.pc_history.specs.History.{MayFollow}
use Rattle.pc_implicit.proofs.AbortsSent.{IsGivenUp, given_up}
use Rattle.pc_implicit.proofs.Agreed.{open_there}
use Rattle.pc_implicit.proofs.Because.{commits_by_is}
use Rattle.pc_implicit.proofs.CommittedElsewhere.{at-most}
use Rattle.pc_implicit.proofs.CommitsStay.{goes_along}
use Rattle.pc_implicit.proofs.Did.{one_known, session_at}
use Rattle.pc_implicit.proofs.FailsSteps.{fails_on}
use Rattle.pc_implicit.proofs.FirstStages.{first_staged}
use Rattle.pc_implicit.proofs.FoundThere.{view_stages}
use Rattle.pc_implicit.proofs.HeardAt.{heard_at, viewed_then}
use Rattle.pc_implicit.proofs.HeardViews.{staging-view}
use Rattle.pc_implicit.proofs.Homes.{home_along, home_commits, home_on}
use Rattle.pc_implicit.proofs.ImplicitFails.{Fails, IsInEpoch, IsUnproven, WhileStaged, in_epoch_before, own_low, the_txn}
use Rattle.pc_implicit.proofs.Moves.{is_first, open_is_first}
use Rattle.pc_implicit.proofs.OwnStanding.{own_hold}
use Rattle.pc_implicit.proofs.Presence.{is_there, present_or_fails, refuted_absent}
use Rattle.pc_implicit.proofs.ProofsNow.{ProvesNow, proven_at, proven_now}
use Rattle.pc_implicit.proofs.PutsSent.{AreAnswers, HasPut, orderly}
use Rattle.pc_implicit.proofs.SettledNow.{unwritten-at}
use Rattle.pc_implicit.proofs.StagedAs.{staged_along, staged_as}
use Rattle.pc_implicit.proofs.StagesLast.{new_last, stages_last}
use Rattle.pc_implicit.proofs.StagesRefuted.{dead_refuted}
use Rattle.pc_implicit.proofs.StagesSent.{has_sent_abort}
use Rattle.pc_implicit.proofs.StageWords.{FailsSo, ImplicitIsCommitted, NowCommitted, SomeRefuted, StagesAs, StaysImplicit, StillStaged}
use Rattle.pc_implicit.proofs.StaysOrRefuted.{staging_open, stays_or_refuted}
use Rattle.pc_implicit.proofs.Views.{subject-is, undecided_from}
use Rattle.pc_implicit.proofs.WriteLists.{Laid, last_low}
use Rattle.pc_implicit.proofs.Written.{proven_cases, proven_more}
use Rattle.pc_implicit.specs.Decided.{decision, time_of}
use Rattle.pc_implicit.specs.Replied.{WasProven}
use Rattle.pc_implicit.specs.Stages.{IsOpenTo, IsThere, WasStaged, WasThere}
use Rattle.pc_implicit.specs.Writes.{home_of, own_intent, txns_of, writes_on}
use Rattle.pc_lists.proofs.Each.{each-contains, each-weaker}
use Rattle.pc_lists.proofs.Lists.{all_from_contains}
use Rattle.pc_proto.specs.declared.call.Call.{Call}
use Rattle.pc_proto.specs.declared.call.Call.TheVariants as calls
use Rattle.pc_proto.specs.declared.event.Event.{Event}
use Rattle.pc_proto.specs.declared.event.Event.TheVariants as events
use Rattle.pc_proto.specs.declared.meta.TxnMeta.{TxnMeta}
use Rattle.pc_proto.specs.declared.record.Record.{Record}
use Rattle.pc_proto.specs.declared.record.Standing.{Standing}
use Rattle.pc_proto.specs.declared.record.Standing.TheVariants as standings
use Rattle.pc_proto.specs.declared.record.Status.{Status}
use Rattle.pc_proto.specs.declared.request.Request.TheVariants as requests
use Rattle.pc_proto.specs.declared.view.View.TheVariants as views
use Rattle.pc_proto.specs.declared.why.Why.{Why}
use Rattle.pc_proto.specs.Intents.{last_seq, own_at}
use Rattle.pc_proto.specs.Place.{Place, Kept}
use Rattle.pc_proto.specs.RecordRows.Reached.{status_of}
use Rattle.pc_proto.specs.Replies.{view_in}
use Rattle.pc_proto.specs.Requests.{is_about, subject}
use Rattle.pc_proto.specs.Views.{is_staging_at}
use Rattle.pc_world.proofs.Knowing.{state_other}
use Rattle.pc_world.proofs.Prefixes.{run_front, run_may}
use Rattle.pc_world.specs.After.{known_at}
use Rattle.pc_world.specs.Committed.{IsCommitted}
use Rattle.pc_world.specs.Known.{Known, call_of}
use Rattle.pc_world.specs.Known.Transactions.{Txn}
use Rattle.pc_world.specs.Known.Writes.{IsProvedBy, Write}
use Rattle.pc_world.specs.Local.{Head}
use Rattle.pc_world.specs.RangeOf.{range_of}
use Rattle.pc_world.specs.RangeState.{RangeState}
use Rattle.pc_world.specs.Run.{IsRun, protocol}
use Rattle.pc_world.specs.StageFate.{SentStage, stage_request}

-- what an entry proves was proven after it
now-proven : (head : Head) (before : List (Entry Event)) (e : Entry Event) (id : TxnId) (epoch : ℕ) (key : List ℕ) (seq p : ℕ) → ProvesNow head before e id epoch key seq p → WasProven (before ++ e ∷ []) id epoch key seq p
now-proven head before e id epoch key seq p gives =
    elim gives [
      | inl w ↦
          inl (record {
            meta = w.meta;
            asked = w.asked;
            value = w.value;
            whose = w.whose;
            epoch_is = w.epoch_is;
            replied = record {
              send = w.ev.send;
              listed = Contains-append_left before (e ∷ []) w.ev.send w.ev.listed;
              number = w.number;
              range = w.ev.range;
              sends = w.ev.sends ∙ ap (events.Send w.number w.ev.range) w.asks;
              eval = e;
              evaluated = Contains-push before e;
              told = w.is ∙ ap (λ a. events.Eval a w.number _) (sym w.ev.whose);
            };
          })
      | inr f ↦
          let w = f.replied in
          inr (record {
            by = f.by;
            replied = record {
              send = w.ev.send;
              listed = Contains-append_left before (e ∷ []) w.ev.send w.ev.listed;
              number = w.number;
              range = w.ev.range;
              sends = w.ev.sends ∙ ap (events.Send w.number w.ev.range) w.asks;
              eval = e;
              evaluated = Contains-push before e;
              told = w.is ∙ ap (λ a. events.Eval a w.number _) (sym w.ev.whose);
            };
          })
    ]

proven-along : (front back : List (Entry Event)) (id : TxnId) (epoch : ℕ) (key : List ℕ) (seq p : ℕ) → WasProven front id epoch key seq p → WasProven (front ++ back) id epoch key seq p
proven-along front [] id epoch key seq p proven = subst (λ h. WasProven h id epoch key seq p) (sym (append-nil front)) proven
proven-along front (e ∷ es) id epoch key seq p proven =
    subst (λ h. WasProven h id epoch key seq p) (append_assoc front (e ∷ []) es) (proven-along (front ++ e ∷ []) es id epoch key seq p (proven_more front e id epoch key seq p proven))

-- a send proves nothing
send-proves-nothing : (head : Head) (before : List (Entry Event)) (e : Entry Event) (id : TxnId) (epoch : ℕ) (key : List ℕ) (seq p number range : ℕ) (s : SentStage) → e.event ≡ events.Send number range (stage_request s) → ProvesNow head before e id epoch key seq p → ⊥
send-proves-nothing head before e id epoch key seq p number range s sends gives =
    elim gives [
      | inl w ↦ (let both : events.Send number range (stage_request s) ≡ events.Eval w.actor w.number _ = sym sends ∙ w.is in cc both)
      | inr f ↦ (let both : events.Send number range (stage_request s) ≡ events.Eval f.replied.actor f.replied.number _ = sym sends ∙ f.replied.is in cc both)
    ]

module _ (head : Head) (s : SentStage) where
  in-epoch-front : (front back : List (Entry Event)) → IsRun head (front ++ back) → IsInEpoch head (front ++ back) s → IsInEpoch head front s
  in-epoch-front front [] run g = subst (λ h. IsInEpoch head h s) (append-nil front) g
  in-epoch-front front (e ∷ es) run g =
      let joined = append_assoc front (e ∷ []) es in
      in_epoch_before head s front (run_front head front (e ∷ es) run) e (run_may head front e es run)
      (in-epoch-front (front ++ e ∷ []) es (subst (IsRun head) (sym joined) run) (subst (λ h. IsInEpoch head h s) (sym joined) g))

  -- ---- while the record stages as the stage

  module _ (history : List (Entry Event)) (run : IsRun head history) (sent : WasStaged history s) (r : Record) (home : home_of head s.meta.id history ≡ Kept r) (stages : StagesAs s r) (g : IsInEpoch head history s) where
    opened : IsOpenTo head history s
    opened = staging_open head history s r home stages

    -- a listed write that was never present since has no proof at or below the staged timestamp
    never-proven : (w : List ℕ × ℕ) → Contains s.writes w → (WasThere head history s w → ⊥) → IsUnproven history s w
    unfolding opened
    never-proven w listed never seq p reached proven =
        elim (at-most p s.ts) [
          | inr above ↦ above
          | inl below ↦ absurd (
              let id = s.meta.id in
              let a = proven_at head history run id s.meta.epoch w.0 seq p proven in
              let z = a.before ++ a.e ∷ [] in
              let z_whole : history ≡ z ++ a.later = a.whole ∙ sym (append_assoc a.before (a.e ∷ []) a.later) in
              let run_z : IsRun head z = run_front head z a.later (subst (IsRun head) z_whole run) in
              let run_before : IsRun head a.before = run_front head a.before (a.e ∷ []) run_z in
              let f = first_staged head history run s sent in
              let first = f.before ++ f.a ∷ [] in
              let first_whole : history ≡ first ++ f.later = f.whole ∙ sym (append_assoc f.before (f.a ∷ []) f.later) in
              let run_first : IsRun head first = run_front head first f.later (subst (IsRun head) first_whole run) in
              let sent_first : WasStaged first s = record { send = f.a; listed = Contains-push f.before f.a; number = f.number; range = f.range; sends = f.sends } in
              elim (either_front first f.later z a.later (sym first_whole ∙ z_whole)) [
                | inl longer ↦
                    let sent_z : WasStaged z s = subst (λ h. WasStaged h s) (sym longer.whole) (staged_along first longer.rest s sent_first) in
                    let g_z : IsInEpoch head z s = in-epoch-front z a.later (subst (IsRun head) z_whole run) (subst (λ h. IsInEpoch head h s) z_whole g) in
                    let h = proven_now head a.before run_before a.e a.may id s.meta.epoch w.0 seq p a.gives in
                    let low = own_low head s z run_z sent_z g_z w.0 h.i h.is in
                    let p_low = h.low in
                    elim h.has [
                      | inl later ↦ omega (arith, later, low)
                      | inr is ↦
                          let has : seq ≤ last_seq h.i = is.1 in
                          never (record {
                            front = z;
                            back = a.later;
                            whole = z_whole;
                            staged = sent_z;
                            there = is_there s w head z (h.i, h.is, record { epoch_is = is.0; has = omega (arith, has, reached); low = omega (arith, p_low, below) });
                          })
                    ]
                | inr shorter ↦
                    let proven_first : WasProven first id s.meta.epoch w.0 seq p =
                    subst (λ h. WasProven h id s.meta.epoch w.0 seq p) (sym shorter.whole) (proven-along z shorter.rest id s.meta.epoch w.0 seq p (now-proven head a.before a.e id s.meta.epoch w.0 seq p a.gives)) in
                    let run_f : IsRun head f.before = run_front head f.before (f.a ∷ []) run_first in
                    let may_f = run_may head f.before f.a [] run_first in
                    elim (proven_cases head f.before run_f f.a may_f id s.meta.epoch w.0 seq p proven_first) [
                      | inr now ↦ send-proves-nothing head f.before f.a id s.meta.epoch w.0 seq p f.number f.range s f.sends now
                      | inl old ↦
                          let new = f.new in
                          let t = new.t in
                          let named : t.id ≡ id = ap (λ (m : TxnMeta). m.id) (sym new.whose.same) in
                          let epoch : t.epoch ≡ s.meta.epoch = ap (λ (m : TxnMeta). m.epoch) (sym new.whose.same) in
                          let mine : Contains (txns_of head id f.before) t = open_there (session_at head id f.before) t new.opened in
                          let known : Contains (txns_of head t.id f.before) t = subst (λ i. Contains (txns_of head i f.before) t) (sym named) mine in
                          let o = orderly head f.before run_f (actors.Session t.id.session) t known in
                          let along : home_of head id history ≡ home_of head id (f.before ++ f.a ∷ f.later) = ap (home_of head id) f.whole in
                          let stands_home = home_along head id f.before (f.a ∷ f.later) in
                          let none_before : decision (home_of head id f.before) ≡ None = undecided_from (home_of head id f.before) (home_of head id (f.before ++ f.a ∷ f.later)) stands_home (ap decision (sym along) ∙ opened.undecided) in
                          let hold = own_hold head f.before run_f t known w.0 in
                          let r2 = hold.written (ap (λ i. decision (home_of head i f.before)) named ∙ none_before) seq p (subst (λ n. WasProven f.before t.id n w.0 seq p) (sym epoch) (subst (λ i. WasProven f.before i s.meta.epoch w.0 seq p) (sym named) old)) in
                          let i = r2.0 in
                          let stands = r2.2 in
                          let has : seq ≤ last_seq i = stands.has in
                          let all_low : Each (λ (y : Laid). y.0 ≤ w.1) (writes_on w.0 t.writes) =
                          recursion_from_All (λ (y : Laid). y.0 ≤ w.1) (writes_on w.0 t.writes)
                          (all_from_contains (λ (y : Laid). y.0 ≤ w.1) (writes_on w.0 t.writes)
                          (λ y there. let u = unwritten-at w.0 t.writes y there in
                          let seq_is : u.0.seq ≡ y.0 = u.3 in
                          let low = new_last head f.before f.a (session_at head id f.before) s t new refl o w listed u.0 u.1 u.2 in
                          omega (arith, seq_is, low))) in
                          let greatest : last_seq i ≤ w.1 =
                          last_low w.1 0 i.history (omega arith)
                          (each-weaker (λ y. Contains (writes_on w.0 t.writes) y) (λ (y : Laid). y.0 ≤ w.1) (λ y there. each-contains (λ (v : Laid). v.0 ≤ w.1) (writes_on w.0 t.writes) y all_low there)
                          i.history ((hold.among i r2.1).each stands.epoch_is)) in
                          let time : i.ts ≤ max p (time_of (home_of head t.id f.before)) = stands.low (omega (arith, greatest, reached)) in
                          let home_same : time_of (home_of head t.id f.before) ≡ time_of (home_of head id f.before) = ap (λ j. time_of (home_of head j f.before)) named in
                          let rises : time_of (home_of head id f.before) ≤ time_of (home_of head id (f.before ++ f.a ∷ f.later)) = stands_home.rises.ts in
                          let last_time : time_of (home_of head id history) ≡ time_of (home_of head id (f.before ++ f.a ∷ f.later)) = ap time_of along in
                          let ts_low : time_of (home_of head id history) ≤ s.ts = opened.ts_low in
                          let own_first : own_intent head id w.0 first ≡ own_intent head id w.0 f.before =
                          ap (λ (x : RangeState). own_at id w.0 x.intents) (state_other head (actors.Range (range_of head.splits w.0)) f.before f.a (λ at. session-no-range (range_of head.splits w.0) id (sym at ∙ f.whose))) in
                          never (record {
                            front = first;
                            back = f.later;
                            whole = first_whole;
                            staged = sent_first;
                            there =
                                is_there s w head first
                                (i, own_first ∙ ap (λ j. own_intent head j w.0 f.before) (sym named) ∙ r2.1, record { epoch_is = stands.epoch_is ∙ epoch; has = omega (arith, has, reached); low = omega (arith, time, home_same, rises, last_time, ts_low, below) });
                          })
                    ]
              ])
        ]
      where
        session-no-range : (range : ℕ) (id : TxnId) → actors.Range range ≡ actors.Session id.session → ⊥
        session-no-range range id same = cc same

    -- a stage that fails so fails
    so-fails : FailsSo head history s → Fails head history s
    so-fails so =
        let (t, mine, named, same) = the_txn head s history run sent g in
        let known = stages_last head history run s sent t mine named in
        let v = known.written (sym same) so.write so.listed in
        let epoch = stages.epoch_is in
        let ts = stages.ts_is in
        record {
          w = so.write;
          value = v.0.value;
          wrote = λ u there whose.
              let one : u ≡ t = one_known head history run s.meta.id u t there mine (whose ∙ sym named) in
              subst (λ (y : Txn). HasPut y s.meta.epoch so.write.1 so.write.0 v.0.value) (sym one) (record { low = omega (arith, same); written = λ now. (v.0, v.1, v.3, v.2, refl) });
          unproven = never-proven so.write so.listed so.never;
          stays = WhileStaged r home stages.staging (omega (arith, epoch)) (omega (arith, ts)) so.refuted;
        }

    -- where a write of it was refuted, it fails
    pub refuted-fails : (Fails head history s → ⊥) → SomeRefuted history s → ⊥
    unfolding opened
    refuted-fails not_failed some =
        let not_so : FailsSo head history s → ⊥ = λ so. not_failed (so-fails so) in
        let absent : IsThere head history s some.write → ⊥ = refuted_absent head history run s some.write opened.undecided some.refuted in
        not_so (record { write = some.write; listed = some.listed; refuted = some.refuted; never = λ was. present_or_fails head history run s opened some.write some.listed was absent not_so })

  -- ---- along a run

  committed-at : (p : Place) → ((epoch : ℕ) × (decision p ≡ Some (status_of standings.Committed epoch s.ts))) ⊎ ((epoch : ℕ) → decision p ≡ Some (status_of standings.Committed epoch s.ts) → ⊥)
  committed-at p = by (decision p) refl
    where
      by-status : (standing : Standing) (epoch ts : ℕ) → decision p ≡ Some (status_of standing epoch ts)
          → ((epoch : ℕ) × (decision p ≡ Some (status_of standings.Committed epoch s.ts))) ⊎ ((epoch : ℕ) → decision p ≡ Some (status_of standings.Committed epoch s.ts) → ⊥)
      by-status standings.Committed epoch ts is = by-ts (ts == s.ts) refl
        where
          by-ts : (b : Bool) → (ts == s.ts) ≡ b
              → ((epoch : ℕ) × (decision p ≡ Some (status_of standings.Committed epoch s.ts))) ⊎ ((epoch : ℕ) → decision p ≡ Some (status_of standings.Committed epoch s.ts) → ⊥)
          by-ts true same = inl (epoch, is ∙ ap (λ n. Some (status_of standings.Committed epoch n)) (eqb-true ts s.ts same))
          by-ts false differ =
              inr (λ other also.
              let both : Some (status_of standings.Committed epoch ts) ≡ Some (status_of standings.Committed other s.ts) = sym is ∙ also in
              let one : status_of standings.Committed epoch ts ≡ status_of standings.Committed other s.ts = cc both in
              let same : (ts == s.ts) ≡ true = eq-eqb ts s.ts (ap (λ (x : Status). x.ts) one) in
              let no_more : true ≡ false = sym same ∙ differ in cc no_more)
      by-status standing epoch ts is =
          inr (λ other also.
          let both : Some (status_of standing epoch ts) ≡ Some (status_of standings.Committed other s.ts) = sym is ∙ also in
          let one : status_of standing epoch ts ≡ status_of standings.Committed other s.ts = cc both in
          let same : standing ≡ standings.Committed = ap (λ (x : Status). x.standing) one in cc same)

      by : (o : Option Status) → decision p ≡ o → ((epoch : ℕ) × (decision p ≡ Some (status_of standings.Committed epoch s.ts))) ⊎ ((epoch : ℕ) → decision p ≡ Some (status_of standings.Committed epoch s.ts) → ⊥)
      by None is = inr (λ epoch also. let both : None ≡ Some (status_of standings.Committed epoch s.ts) = sym is ∙ also in cc both)
      by (Some st) is = by-status st.standing st.epoch st.ts is

  -- The stage was sent; and it lasts or is decided so, or it fails.
  pub record LastsOrFails (history : List (Entry Event)) : Type 0 where
    pub sent : WasStaged history s
    pub lasts : IsInEpoch head history s → (Fails head history s → ⊥) → StaysImplicit s (home_of head s.meta.id history)

  lasts-push : (history : List (Entry Event)) (e : Entry Event) → IsRun head history → MayFollow (protocol head) history e → LastsOrFails history → LastsOrFails (history ++ e ∷ [])
  lasts-push history e run may l = record {
    sent = staged_along history (e ∷ []) s l.sent;
    lasts = λ g not_failed. elim (committed-at (home_of head s.meta.id (history ++ e ∷ []))) [
      | inl there ↦ NowCommitted there.0 there.1
      | inr not_there ↦
          let before = in_epoch_before head s history run e may g in
          let not_before : Fails head history s → ⊥ = λ f. not_failed (fails_on head s history run e may l.sent g f not_there) in
          elim (l.lasts before not_before) [
            | NowCommitted epoch decided ↦ NowCommitted epoch ((home_on head s.meta.id history e).decided (status_of standings.Committed epoch s.ts) decided)
            | StillStaged r home stages ↦
                stays_or_refuted head history run e may s l.sent r home stages (refuted-fails history run l.sent r home stages before not_before)
          ]
    ];
  }

  -- ---- in the end

  -- A transaction in an open commit, each of whose writes is proved at or below the staged timestamp.
  module _ (history : List (Entry Event)) (run : IsRun head history) (t : Txn) (mine : Contains (txns_of head t.id history) t) (named : t.id ≡ s.meta.id) (epoch : t.epoch ≡ s.meta.epoch)
      (proved : (w : Write) → Contains t.writes w → (p : ℕ) × (p ≤ s.ts) × WasProven history t.id t.epoch w.key w.seq p) where
    its : Contains (txns_of head s.meta.id history) t
    its = subst (λ i. Contains (txns_of head i history) t) named mine

    -- it does not fail
    not-failed : Fails head history s → ⊥
    unfolding its
    not-failed f =
        let v = (f.wrote t its named).written (sym epoch) in
        let p = proved v.0 v.1 in
        let proven : WasProven history s.meta.id s.meta.epoch f.w.0 f.w.1 p.0 =
        subst (λ n. WasProven history s.meta.id s.meta.epoch f.w.0 n p.0) v.2
        (subst (λ k. WasProven history s.meta.id s.meta.epoch k v.0.seq p.0) v.3
        (subst (λ n. WasProven history s.meta.id n v.0.key v.0.seq p.0) epoch (subst (λ i. WasProven history i t.epoch v.0.key v.0.seq p.0) named p.2))) in
        let above = f.unproven f.w.1 p.0 (omega arith) proven in
        let low = p.1 in
        omega (arith, above, low)

    in-epoch : ((a : Entry Event) → Contains history a → (number range : ℕ) (meta : TxnMeta) (why : Why) (locks : List (List ℕ)) → a.event ≡ events.Send number range (requests.Abort meta why locks) → meta.id ≡ s.meta.id → ⊥) → IsInEpoch head history s
    unfolding its
    in-epoch unaborted = record {
      epoch = λ u there whose. let one : u ≡ t = one_known head history run s.meta.id u t there its (whose ∙ sym named) in let same : u.epoch ≡ t.epoch = ap (λ (x : Txn). x.epoch) one in omega (arith, same, epoch);
      unaborted = unaborted;
    }

    -- each listed write is present, where the record stages so
    all-present : (sent : WasStaged history s) (r : Record) (home : home_of head s.meta.id history ≡ Kept r) (stages : StagesAs s r) → IsInEpoch head history s → (w : List ℕ × ℕ) → Contains s.writes w → IsThere head history s w
    unfolding its not-failed
    all-present sent r home stages g w listed =
        let known = stages_last head history run s sent t its named in
        let opened : IsOpenTo head history s = staging_open head history s r home stages in
        let v = known.written (sym epoch) w listed in
        let p = proved v.0 v.1 in
        let hold = own_hold head history run t mine w.0 in
        let proven : WasProven history t.id t.epoch w.0 w.1 p.0 =
        subst (λ n. WasProven history t.id t.epoch w.0 n p.0) v.3 (subst (λ k. WasProven history t.id t.epoch k v.0.seq p.0) v.2 p.2) in
        let r2 = hold.written (ap (λ i. decision (home_of head i history)) named ∙ opened.undecided) w.1 p.0 proven in
        let i = r2.0 in
        let stands = r2.2 in
        let has : w.1 ≤ last_seq i = stands.has in
        elim known.lists [
          | inl dead ↦ absurd (refuted-fails history run sent r home stages g not-failed (dead_refuted head history run s sent opened dead))
          | inr lists ↦
              let all_low : Each (λ (y : Laid). y.0 ≤ w.1) (writes_on w.0 t.writes) =
              recursion_from_All (λ (y : Laid). y.0 ≤ w.1) (writes_on w.0 t.writes)
              (all_from_contains (λ (y : Laid). y.0 ≤ w.1) (writes_on w.0 t.writes)
              (λ y there. let u = unwritten-at w.0 t.writes y there in
              let seq_is : u.0.seq ≡ y.0 = u.3 in
              let low = lists.1.last w listed u.0 u.1 u.2 in
              omega (arith, seq_is, low))) in
              let greatest : last_seq i ≤ w.1 =
              last_low w.1 0 i.history (omega arith)
              (each-weaker (λ y. Contains (writes_on w.0 t.writes) y) (λ (y : Laid). y.0 ≤ w.1) (λ y there. each-contains (λ (x : Laid). x.0 ≤ w.1) (writes_on w.0 t.writes) y all_low there)
              i.history ((hold.among i r2.1).each stands.epoch_is)) in
              let time : i.ts ≤ max p.0 (time_of (home_of head t.id history)) = stands.low greatest in
              let home_time : time_of (home_of head t.id history) ≡ s.ts = ap (λ j. time_of (home_of head j history)) named ∙ ap time_of home ∙ stages.ts_is in
              let low = p.1 in
              is_there s w head history (i, ap (λ j. own_intent head j w.0 history) (sym named) ∙ r2.1, record { epoch_is = stands.epoch_is ∙ epoch; has = has; low = omega (arith, time, home_time, low) })
        ]

    -- so it is committed there
    pub lasts-committed : LastsOrFails history → IsInEpoch head history s → IsCommitted head history s.meta.id s.ts
    unfolding not-failed
    lasts-committed l g =
        elim (l.lasts g not-failed) [
          | NowCommitted at decided ↦ home_commits head s.meta.id history at s.ts decided
          | StillStaged r home stages ↦ commits_by_is head history s (record { sent = l.sent; r = r; home = home; stages = stages; present = all-present l.sent r home stages g })
        ]

-- A transaction that its session may tell committed, since its record was heard to stage and each of its writes is proved, is committed.
pub implicit_is_committed : (head : Head) (history : List (Entry Event)) → IsRun head history → ImplicitIsCommitted head history
implicit_is_committed head history run t ts opened call implicit =
    let id = t.id in
    let actor : ActorId = actors.Session id.session in
    let k = known_at head actor history in
    let mine : Contains (txns_of head id history) t = open_there k t opened in
    let (n, h, inside, at, shows) = implicit.staging in
    let parts = and_parts (is_about id h.request) (option_map_or (is_staging_at t.epoch ts) (view_in h.reply) false) shows in
    let view = staging-view t.epoch ts (view_in h.reply) parts.1 in
    let a = heard_at head history run actor h (n, inside, at) in
    let front = a.before ++ a.e ∷ [] in
    let whole : history ≡ front ++ a.later = a.whole ∙ sym (append_assoc a.before (a.e ∷ []) a.later) in
    let run_whole : IsRun head (front ++ a.later) = subst (IsRun head) whole run in
    let run_front_now : IsRun head front = run_front head front a.later run_whole in
    let shown = viewed_then head history run actor h a id (views.Staging t.epoch view.0 view.1) (subject-is id (subject h.request) parts.0) view.2 in
    let r = view_stages (home_of head id front) t.epoch view.0 view.1 (marks_at_home head id front) (sym shown) in
    let sent = staged_as head front run_front_now id r.0 r.1 r.2 in
    let s = sent.stage in
    let epoch : t.epoch ≡ s.meta.epoch = sym r.3 ∙ sym sent.epoch_is in
    let named : t.id ≡ s.meta.id = sym sent.whose in
    let ts_is : s.ts ≡ ts = sent.ts_is ∙ r.4 ∙ view.3 in
    let stages : StagesAs s r.0 = record { staging = r.2; epoch_is = sym sent.epoch_is; ts_is = sym sent.ts_is; writes_are = sym sent.writes_are } in
    let first : LastsOrFails head s front = record { sent = sent.sent; lasts = λ g not_failed. StillStaged r.0 (ap (λ i. home_of head i front) sent.whose ∙ r.1) stages } in
    let last : LastsOrFails head s history =
    subst (LastsOrFails head s) (sym whole) (goes_along head (LastsOrFails head s) (λ past e run_past may l. lasts-push head s past e run_past may l) front a.later run_whole first) in
    let proved : (w : Write) → Contains t.writes w → (p : ℕ) × (p ≤ s.ts) × WasProven history t.id t.epoch w.key w.seq p =
    λ w there.
    let (m, p, p_inside, p_at, low) = All-contains (IsProvedBy ts) t.writes w implicit.proved there in
    let answers = each-contains (AreAnswers history id t.epoch) t.writes w (orderly head history run actor t mine).answers there in
    (p, omega (arith, low, ts_is), answers p (m, p_inside, p_at)) in
    let unaborted : (x : Entry Event) → Contains history x → (number range : ℕ) (meta : TxnMeta) (why : Why) (locks : List (List ℕ)) → x.event ≡ events.Send number range (requests.Abort meta why locks) → meta.id ≡ s.meta.id → ⊥ =
    λ x there number range meta why locks sends whose.
    let up = given_up head history run meta why locks (has_sent_abort head history run x there number range meta why locks sends) in
    let is : meta.id ≡ id = whose ∙ sym named in
    let is_first = open_is_first k t opened in
    no-rollback id meta.id is k (subst (λ i. IsGivenUp (session_at head i history) i) is up) is_first.0 is_first.1 call in
    let g = in-epoch head s history run t mine named epoch proved unaborted in
    let committed = lasts-committed head s history run t mine named epoch proved last g in
    subst (λ i. IsCommitted head history i ts) (sym named) (subst (IsCommitted head history s.meta.id) ts_is committed)
  where
    no-rollback : (id other : TxnId) → other ≡ id → (k : Known) → IsGivenUp k id → is_first id k.txns ≡ true → k.is_open ≡ true → call_of k ≡ Some calls.Commit → ⊥
    no-rollback id other same k up first is_open call =
        let both : ◌≡◌ {A = Option Call} (Some calls.Rollback) (Some calls.Commit) = sym (up.ends first is_open) ∙ call in cc both
