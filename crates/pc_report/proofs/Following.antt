-- What was kept of a history, one entry further, and what it says.
use Rattle.std.proofs.Common.{◌≡◌, ◌≢◌, ℕ, ◌+◌, ◌^◌, ◌<◌, ◌≤◌, Bool, true, false, cond, List, [], ◌∷◌, ◌++◌, length, take, Option, None, Some, refl, sym, ap, subst, ◌∙◌, arith, slice_get, slice_index_or, slice_set, length-append, inl, inr}
use Rattle.std.proofs.lemmas.List.{get_or-set_other, get_or-set_same, length-set}
use Rattle.std.proofs.lemmas.Bool.{cases_eq}
use Rattle.std.proofs.lemmas.List.Sums.{count_by-le-length}
use Rattle.std.proofs.lemmas.Option.{slice_get-get_or, slice_get_within}
use Rattle.std.specs.BTreeMap.{BTreeMap}
use Rattle.std.specs.List.{filter, filter_map, list_all}
use Rattle.std.specs.Option.{is_some, unwrap_or}
use Rattle.pc_base.specs.declared.actor.ActorId.{ActorId}
use Rattle.pc_base.specs.declared.actor.ActorId.TheVariants as actors
use Rattle.pc_base.specs.declared.entry.Entry.{Entry}
use Rattle.pc_base.specs.declared.transaction.TxnId.{TxnId}
use Rattle.pc_base.specs.Span.{key_at_most}
use Rattle.pc_base.specs.Transaction.{same_txn}
use Rattle.pc_history.proofs.Ids.{same_id-equal, same_id-true}
use Rattle.pc_history.specs.Own.{named_in, pair, pairs_after, same_id}
use Rattle.pc_lists.proofs.Same.{same_txn-is}
use Rattle.pc_proto.specs.declared.event.Event.{Event}
use Rattle.pc_proto.specs.declared.event.Event.TheVariants as events
use Rattle.pc_proto.specs.declared.request.Request.{Request}
use Rattle.pc_proto.specs.declared.request.Request.TheVariants as requests
use Rattle.pc_proto.specs.Place.{Place, Nothing, Kept, Marked}
use Rattle.pc_proto.specs.RecordRows.Push.{is_staged}
use Rattle.pc_proto.specs.Table.{place_of}
use Rattle.pc_report.proofs.Intents.{is_one}
use Rattle.pc_report.proofs.Naming.{asked_send, asked_there}
use Rattle.pc_report.proofs.Points.{point_push, point_stays}
use Rattle.pc_report.proofs.Seen.{commits_alone, kept_cases, kept_whole, no_stage_after, seen_after, seen_left, seen_room, seen_table, unstaged_request}
use Rattle.pc_report.proofs.RowLists.{take_next}
use Rattle.pc_report.proofs.Staying.{commit_stays, first_none, first_push}
use Rattle.pc_report.specs.declared.replay.Replay.{Replay}
use Rattle.pc_report.specs.ReportOf.{IsRunOver, ending_at, ending_of, rolled_back, rolled_back_in}
use Rattle.pc_report.specs.ReportOf.{ending_from as ending_in_history}
use Rattle.pc_report.specs.Seen.{HasNoStage, SendsNoStage, kept_of, seen}
use Rattle.pc_report.specs.Replaying.{AreSeen, AreStates, HasRoomFor, Holds, IsPoint, IsReplayOf, Notes, after_eval, asked_in, commit_from, commit_kept, commit_of_place, ending_in, ending_there, first_of, held, is_present_in, only_for, committed_one, over, place_in, point_for, PointsFollow, state_kept, states_after, touched_in}
use Rattle.pc_world.proofs.Kept.{run_has_room}
use Rattle.pc_world.proofs.Knowing.{state_other, state_same}
use Rattle.pc_world.proofs.Prefixes.{run_front, run_take}
use Rattle.pc_world.specs.After.{place_at, state_at}
use Rattle.pc_world.specs.Committed.{anchor_in, commit_at, commit_by, commit_ts, committed_in, is_present, key_sent, told_at}
use Rattle.pc_world.specs.Committed.{commit_in as commit_in_history}
use Rattle.pc_world.specs.Evaluation.{state_after}
use Rattle.pc_world.specs.Evaluation.Query.{write_stands}
use Rattle.pc_world.specs.Local.{Head}
use Rattle.pc_world.specs.RangeOf.{range_of}
use Rattle.pc_world.specs.RangeState.{RangeState, no_state}
use Rattle.pc_world.specs.Run.{IsRun, protocol}
use Rattle.pc_world.specs.Stamps.{HasRoom}
use Rattle.pc_world.specs.StateOf.{state_of, state_with}

-- what ranges are doesn't depend on who else takes part
same-pairs : (head other : Head) (before entries : List (Entry Event)) → pairs_after (protocol head) before entries ≡ pairs_after (protocol other) before entries
same-pairs head other before [] = refl
same-pairs head other before (e ∷ es) = ap (λ ps. pair e (named_in (protocol head) before e.event) ∷ ps) (same-pairs head other (before ++ e ∷ []) es)

pub same_states : (head other : Head) (range : ℕ) (history : List (Entry Event)) → state_at head range history ≡ state_at other range history
same_states head other range history =
    ap (λ ps. state_of (filter (λ p. same_id (actors.Range range) p.entry.actor) ps)) (same-pairs head other [] history)

set-same : {A : Type 0} (xs : List A) (i : ℕ) (a b : A) → slice_get xs i ≡ Some b → slice_get (slice_set xs i a) i ≡ Some a
set-same xs i a b h =
    let within : i < length xs = slice_get_within xs i b h in
    slice_get-get_or (slice_set xs i a) i a (omega (arith, length-set xs i a)) ∙ ap Some (get_or-set_same xs i a a within)

set-other : {A : Type 0} (xs : List A) (i j : ℕ) (a b : A) → j ≢ i → slice_get xs j ≡ Some b → slice_get (slice_set xs i a) j ≡ Some b
set-other xs i j a b apart h =
    let within : j < length xs = slice_get_within xs j b h in
    let at : Some b ≡ Some _ = sym h ∙ slice_get-get_or xs j a within in
    slice_get-get_or (slice_set xs i a) j a (omega (arith, length-set xs i a)) ∙ ap Some (get_or-set_other xs i j a a apart) ∙ sym at

module _ (splits : List (List ℕ)) (history : List (Entry Event)) (e : Entry Event) where
  next-same : (range : ℕ) → e.actor ≡ actors.Range range → state_at (over splits) range (history ++ e ∷ []) ≡ state_with (asked_in history e.event) (state_at (over splits) range history)
  next-same range same = state_same (over splits) (actors.Range range) history e same

  next-other : (range : ℕ) → e.actor ≢ actors.Range range → state_at (over splits) range (history ++ e ∷ []) ≡ state_at (over splits) range history
  next-other range apart = state_other (over splits) (actors.Range range) history e apart

  module _ (whole : Bool) (states : List RangeState) (old : AreSeen whole splits history states) where
    -- What is kept of the range after the entry.
    abbrev Next : List RangeState → ℕ → Type 0
    Next now range = slice_get now range ≡ Some (seen whole (state_at (over splits) range (history ++ e ∷ [])))

    kept : (range : ℕ) → range ≤ length splits → e.actor ≢ actors.Range range → Next states range
    kept range le apart = old.each range le ∙ ap (λ s. Some (seen whole s)) (sym (next-other range apart))

    unasked : (range : ℕ) → range ≤ length splits → e.actor ≡ actors.Range range → asked_in history e.event ≡ None → Next states range
    unasked range le same none =
        let now = next-same range same ∙ ap (λ asked. state_with asked (state_at (over splits) range history)) none in
        old.each range le ∙ ap (λ s. Some (seen whole s)) (sym now)

    left : (range : ℕ) (request : Request) → range ≤ length splits → e.actor ≡ actors.Range range → asked_in history e.event ≡ Some request → kept_of whole (Some request) ≡ None → Next states range
    left range request le same is none =
        let now = next-same range same ∙ ap (λ asked. state_with asked (state_at (over splits) range history)) is in
        old.each range le ∙ ap Some (sym (ap (seen whole) now ∙ seen_left whole request (state_at (over splits) range history) none))

    answered : (range : ℕ) (request : Request) → range ≤ length splits → e.actor ≡ actors.Range range → asked_in history e.event ≡ Some request → kept_of whole (Some request) ≡ Some request → Next (after_eval states range request) range
    answered range request le same is some =
        let was : state_kept states range ≡ seen whole (state_at (over splits) range history) = ap (λ o. unwrap_or o no_state) (old.each range le) in
        let now = next-same range same ∙ ap (λ asked. state_with asked (state_at (over splits) range history)) is in
        set-same states range (state_after request (state_kept states range)) (seen whole (state_at (over splits) range history)) (old.each range le)
        ∙ ap Some (ap (state_after request) was ∙ (seen_after whole request (state_at (over splits) range history) some ∙ sym (ap (seen whole) now)))

    elsewhere : (range other : ℕ) (request : Request) → range ≤ length splits → e.actor ≢ actors.Range range → range ≢ other → Next (after_eval states other request) range
    elsewhere range other request le apart differ =
        set-other states other range (state_after request (state_kept states other)) (seen whole (state_at (over splits) range (history ++ e ∷ []))) differ (kept range le apart)

    pub seen_next : AreSeen whole splits (history ++ e ∷ []) (states_after states e.actor (kept_of whole (asked_in history e.event)))
    seen_next = by e.actor (asked_in history e.event) refl refl
      where
        not-range : (a b : ℕ) → e.actor ≡ actors.Range a → b ≢ a → e.actor ≢ actors.Range b
        not-range a b is differ same = differ (range-number (sym same ∙ is))
          where
            number-of : ActorId → ℕ
            number-of (actors.Range n) = n
            number-of (actors.Session n) = n
            number-of (actors.Recoverer n) = n

            range-number : actors.Range b ≡ actors.Range a → b ≡ a
            range-number h = ap number-of h

        at-range : (a : ℕ) (request : Request) → e.actor ≡ actors.Range a → asked_in history e.event ≡ Some request → kept_of whole (Some request) ≡ Some request → AreSeen whole splits (history ++ e ∷ []) (after_eval states a request)
        at-range a request is q some = record {
          count = length-set states a (state_after request (state_kept states a)) ∙ old.count;
          each = λ range le. elim (cases_eq range a) [
            | inl same ↦ subst (λ x. Next (after_eval states x request) range) same (answered range request le (is ∙ ap actors.Range (sym same)) q some)
            | inr differ ↦ elsewhere range a request le (not-range a range is differ) differ
          ];
        }

        at-none : (a : ℕ) → e.actor ≡ actors.Range a → ((range : ℕ) → range ≤ length splits → e.actor ≡ actors.Range range → Next states range) → AreSeen whole splits (history ++ e ∷ []) states
        at-none a is here = record {
          count = old.count;
          each = λ range le. elim (cases_eq range a) [
            | inl same ↦ here range le (is ∙ ap actors.Range (sym same))
            | inr differ ↦ kept range le (not-range a range is differ)
          ];
        }

        by : (actor : ActorId) (asked : Option Request) → e.actor ≡ actor → asked_in history e.event ≡ asked → AreSeen whole splits (history ++ e ∷ []) (states_after states actor (kept_of whole asked))
        by (actors.Range a) (Some request) is q =
            kept_cases whole request (λ o. AreSeen whole splits (history ++ e ∷ []) (states_after states (actors.Range a) o))
            (at-range a request is q)
            (λ none. at-none a is (λ range le here. left range request le here q none))
        by (actors.Range a) None is q = at-none a is (λ range le here. unasked range le here q)
        by (actors.Session a) asked is q = record { count = old.count; each = λ range le. kept range le (λ same. absurd cc) }
        by (actors.Recoverer a) asked is q = record { count = old.count; each = λ range le. kept range le (λ same. absurd cc) }

    -- there is room for what was asked
    pub seen_has_room : IsRunOver splits (history ++ e ∷ []) → length history ≤ 2 ^ 64 → HasRoomFor states e.actor (kept_of whole (asked_in history e.event))
    seen_has_room run short = by e.actor (asked_in history e.event) refl
      where
        by : (actor : ActorId) (asked : Option Request) → asked_in history e.event ≡ asked → HasRoomFor states actor (kept_of whole asked)
        by (actors.Range a) (Some request) q =
            kept_cases whole request (λ o. HasRoomFor states (actors.Range a) o)
            (λ some s at.
            let within : a < length states = slice_get_within states a s at in
            let le : a ≤ length splits = omega (arith, old.count) in
            let here : Some (seen whole (state_at (over splits) a history)) ≡ Some s = sym (old.each a le) ∙ at in
            let is : seen whole (state_at (over splits) a history) ≡ s = cc in
            let there = asked_there history e.event request q in
            let room = subst (HasRoom request) (same_states run.head (over splits) a history)
            (run_has_room run.head (actors.Range a) history there.0 request (run_front run.head history (e ∷ []) run.run) short there.1 there.2) in
            subst (HasRoom request) is (seen_room whole request (state_at (over splits) a history) room))
            (λ none. tt)
        by (actors.Range a) None q = tt
        by (actors.Session a) asked q = tt
        by (actors.Recoverer a) asked q = tt

  -- all of each range, one entry further
  pub states_next : (states : List RangeState) → AreStates splits history states → AreStates splits (history ++ e ∷ []) (states_after states e.actor (asked_in history e.event))
  states_next states old =
      subst (λ asked. AreStates splits (history ++ e ∷ []) (states_after states e.actor asked)) (kept_whole (asked_in history e.event)) (seen_next true states old)

  -- no record is staging, one entry further
  pub unstaged_next : SendsNoStage history → ((range : ℕ) → HasNoStage (state_at (over splits) range history)) → (range : ℕ) → HasNoStage (state_at (over splits) range (history ++ e ∷ []))
  unstaged_next unstaged none range = by (same_id (actors.Range range) e.actor) refl
    where
      with : (asked : Option Request) → asked_in history e.event ≡ asked → HasNoStage (state_with asked (state_at (over splits) range history))
      with None q = none range
      with (Some request) q =
          let there = asked_there history e.event request q in
          no_stage_after request (state_at (over splits) range history) (unstaged_request history there.0 request unstaged there.1 there.2) (none range)

      by : (b : Bool) → same_id (actors.Range range) e.actor ≡ b → HasNoStage (state_at (over splits) range (history ++ e ∷ []))
      by true t = subst HasNoStage (sym (next-same range (sym (same_id-true (actors.Range range) e.actor t)))) (with (asked_in history e.event) refl)
      by false t =
          let apart : e.actor ≢ actors.Range range = λ same. let yes : same_id (actors.Range range) e.actor ≡ true = same_id-equal (actors.Range range) e.actor (sym same) in absurd cc in
          subst HasNoStage (sym (next-other range apart)) (none range)

  -- a request that changes nothing that is kept leaves each transaction committed as it was
  module _ (request : Request) (is : asked_in history e.event ≡ Some request) (none : kept_of false (Some request) ≡ None) (unstaged : (range : ℕ) → HasNoStage (state_at (over splits) range history)) (id : TxnId) where
    table-left : (range : ℕ) → (state_at (over splits) range (history ++ e ∷ [])).table ≡ (state_at (over splits) range history).table
    table-left range = by (same_id (actors.Range range) e.actor) refl
      where
        by : (b : Bool) → same_id (actors.Range range) e.actor ≡ b → (state_at (over splits) range (history ++ e ∷ [])).table ≡ (state_at (over splits) range history).table
        by true t =
            ap (λ s. s.table) (next-same range (sym (same_id-true (actors.Range range) e.actor t)) ∙ ap (λ asked. state_with asked (state_at (over splits) range history)) is)
            ∙ ap (λ s. s.table) (seen_left false request (state_at (over splits) range history) none)
        by false t =
            let apart : e.actor ≢ actors.Range range = λ same. let yes : same_id (actors.Range range) e.actor ≡ true = same_id-equal (actors.Range range) e.actor (sym same) in absurd cc in
            ap (λ s. s.table) (next-other range apart)

    key-left : (event : Event) → asked_in history event ≡ Some request → key_sent id event ≡ None
    key-left (events.Send number range own) h = let sent = asked_send history number range own in absurd cc
    key-left event h = refl

    told-left : (event : Event) → asked_in history event ≡ Some request → committed_in id event ≡ None
    told-left (events.Tell answer) h = let told : asked_in history (events.Tell answer) ≡ None = asked_send history 0 0 requests.Records in absurd cc
    told-left event h = refl

    place-left : (p : Place) → is_staged p ≡ false → commit_in_history (over splits) (history ++ e ∷ []) id p ≡ commit_in_history (over splits) history id p
    place-left Nothing h = refl
    place-left (Kept r) h =
        commits_alone r.status.standing r.status.ts
        (list_all (is_present (over splits) (history ++ e ∷ []) id r.status.epoch r.status.ts) r.writes) (list_all (is_present (over splits) history id r.status.epoch r.status.ts) r.writes) h
    place-left (Marked s) h = refl

    at-left : told_at id (history ++ e ∷ []) ≡ told_at id history → (anchor : Option (List ℕ)) → commit_at (over splits) (history ++ e ∷ []) id anchor ≡ commit_at (over splits) history id anchor
    at-left told None = told
    at-left told (Some anchor) =
        ap (λ table. commit_in_history (over splits) (history ++ e ∷ []) id (place_of id table)) (table-left (range_of splits anchor))
        ∙ place-left (place_at (over splits) (range_of splits anchor) id history) (unstaged (range_of splits anchor) id)

    commit-left : commit_ts (over splits) (history ++ e ∷ []) id ≡ commit_ts (over splits) history id
    commit-left =
        let anchor : anchor_in id (history ++ e ∷ []) ≡ anchor_in id history = first_push (λ e. key_sent id e.event) history e ∙ (ap (first_of (anchor_in id history)) (key-left e.event is) ∙ first_none (anchor_in id history)) in
        let told : told_at id (history ++ e ∷ []) ≡ told_at id history = first_push (λ e. committed_in id e.event) history e ∙ (ap (first_of (told_at id history)) (told-left e.event is) ∙ first_none (told_at id history)) in
        ap (commit_at (over splits) (history ++ e ∷ []) id) anchor ∙ at-left told (anchor_in id history)

  -- what the request that is kept doesn't touch is committed as before
  commit-same : (whole : Bool) → (whole ≡ false → (range : ℕ) → HasNoStage (state_at (over splits) range history)) → (id : TxnId) (asked : Option Request) → asked_in history e.event ≡ asked
      → is_one id (touched_in (kept_of whole asked) e.event) ≡ false → commit_ts (over splits) (history ++ e ∷ []) id ≡ commit_ts (over splits) history id
  commit-same whole unstaged id None is h = commit_stays id (over splits) history e (ap (λ o. is_one id (touched_in o e.event)) is ∙ h)
  commit-same true unstaged id (Some request) is h = commit_stays id (over splits) history e (ap (λ o. is_one id (touched_in o e.event)) is ∙ h)
  commit-same false unstaged id (Some request) is h =
      kept_cases false request (λ o. is_one id (touched_in o e.event) ≡ false → commit_ts (over splits) (history ++ e ∷ []) id ≡ commit_ts (over splits) history id)
      (λ some apart. commit_stays id (over splits) history e (ap (λ o. is_one id (touched_in o e.event)) is ∙ apart))
      (λ none apart. commit-left request is none (unstaged refl) id) h

-- what was kept says when a transaction is committed, and how one ended
module _ (splits : List (List ℕ)) (history : List (Entry Event)) (r : Replay) (states : AreSeen r.whole splits history r.states.items) (anchors : Holds r.anchors (λ id. anchor_in id history)) (id : TxnId) where
  state-means : (key : List ℕ) → state_kept r.states.items (range_of splits key) ≡ seen r.whole (state_at (over splits) (range_of splits key) history)
  state-means key = ap (λ o. unwrap_or o no_state) (states.each (range_of splits key) (count_by-le-length (λ split. key_at_most split key) splits))

  place-means : (anchor : List ℕ) → place_in splits r.states.items anchor id ≡ place_at (over splits) (range_of splits anchor) id history
  place-means anchor = ap (λ s. place_of id s.table) (state-means anchor) ∙ ap (place_of id) (seen_table r.whole (state_at (over splits) (range_of splits anchor) history))

  -- Where records and marks alone are kept, the place is not staging.
  abbrev IsAlone : Bool → Place → Type 0
  IsAlone whole p = whole ≡ false → is_staged p ≡ false

  place-commits : (p : Place) → IsAlone r.whole p → commit_of_place splits r.states.items id p ≡ commit_in_history (over splits) history id p
  place-commits Nothing alone = refl
  place-commits (Kept k) alone = by r.whole refl
    where
      by : (whole : Bool) → r.whole ≡ whole → commit_of_place splits r.states.items id (Kept k) ≡ commit_in_history (over splits) history id (Kept k)
      by true is =
          let all : list_all (is_present_in splits r.states.items id k.status.epoch k.status.ts) k.writes ≡ list_all (is_present (over splits) history id k.status.epoch k.status.ts) k.writes =
          ap (λ test. list_all test k.writes)
          (λ i write. ap (write_stands id k.status.epoch write.1 k.status.ts write.0) (state-means write.0 ∙ ap (λ w. seen w (state_at (over splits) (range_of splits write.0) history)) is) i) in
          ap (commit_by k.status.standing k.status.ts) all
      by false is =
          commits_alone k.status.standing k.status.ts
          (list_all (is_present_in splits r.states.items id k.status.epoch k.status.ts) k.writes) (list_all (is_present (over splits) history id k.status.epoch k.status.ts) k.writes) (alone is)
  place-commits (Marked s) alone = refl

  pub commit_means : (r.whole ≡ false → (range : ℕ) → HasNoStage (state_at (over splits) range history)) → Holds r.told (λ id. told_at id history) → commit_kept splits r id ≡ commit_ts (over splits) history id
  commit_means unstaged told =
      ap (λ anchor. commit_from splits r.states.items id anchor (held r.told id)) (anchors id)
      ∙ ap (commit_from splits r.states.items id (anchor_in id history)) (told id)
      ∙ by (anchor_in id history)
    where
      by : (anchor : Option (List ℕ)) → commit_from splits r.states.items id anchor (told_at id history) ≡ commit_at (over splits) history id anchor
      by None = refl
      by (Some anchor) =
          ap (commit_of_place splits r.states.items id) (place-means anchor)
          ∙ place-commits (place_at (over splits) (range_of splits anchor) id history) (λ whole. unstaged whole (range_of splits anchor) id)

  pub ending_means : Holds r.rolled_back (λ id. rolled_back id history) → ending_in splits r id ≡ ending_of (over splits) history id
  ending_means told =
      ap (λ anchor. ending_there splits r.states.items id anchor (held r.rolled_back id)) (anchors id)
      ∙ ap (ending_there splits r.states.items id (anchor_in id history)) (told id)
      ∙ by (anchor_in id history)
    where
      by : (anchor : Option (List ℕ)) → ending_there splits r.states.items id anchor (rolled_back id history) ≡ ending_in_history (over splits) history id anchor
      by None = refl
      by (Some anchor) = ap (λ p. ending_at p (rolled_back id history)) (place-means anchor)

noted : {V : Type 0} (said : TxnId → Event → Option V) (old new : BTreeMap TxnId V) (history : List (Entry Event)) (e : Entry Event)
    → Holds old (λ id. slice_get (filter_map (λ x. said id x.event) history) 0) → Notes said old e.event new → Holds new (λ id. slice_get (filter_map (λ x. said id x.event) (history ++ e ∷ [])) 0)
noted said old new history e was notes = λ id. notes id ∙ ap (λ o. first_of o (said id e.event)) (was id) ∙ sym (first_push (λ x. said id x.event) history e)

abbrev point_now : (TxnId → Option ℕ) → Option TxnId → ℕ → TxnId → Option ℕ
point_now commit None far id = None
point_now commit (Some one) far id = cond (is_some (commit one)) (cond (same_txn one id) (Some far) None) None

point-now : (commit : TxnId → Option ℕ) (touched : Option TxnId) (far : ℕ) (id : TxnId) → point_for (committed_one commit touched) far id ≡ point_now commit touched far id
point-now commit None far id = refl
point-now commit (Some one) far id = by (is_some (commit one))
  where
    by : (b : Bool) → point_for (cond b (Some one) None) far id ≡ cond b (cond (same_txn one id) (Some far) None) None
    by true = refl
    by false = refl

-- One entry further.
pub followed : (splits : List (List ℕ)) (history : List (Entry Event)) (e : Entry Event) (old new : Replay) → IsReplayOf splits history old
    → Notes key_sent old.anchors e.event new.anchors → Notes committed_in old.told e.event new.told → Notes rolled_back_in old.rolled_back e.event new.rolled_back
    → new.whole ≡ old.whole → new.states.items ≡ states_after old.states.items e.actor (kept_of old.whole (asked_in history e.event)) → (old.whole ≡ false → SendsNoStage history)
    → PointsFollow splits (touched_in (kept_of old.whole (asked_in history e.event)) e.event) (length history + 1) old new
    → IsReplayOf splits (history ++ e ∷ []) new
followed splits history e old new was anchors told rolled whole states unstaged points = record {
  states = now-states;
  unstaged = now-unstaged;
  anchors = now-anchors;
  told = now-told;
  rolled_back = noted rolled_back_in old.rolled_back new.rolled_back history e was.rolled_back rolled;
  points = λ id. subst (IsPoint (over splits) (history ++ e ∷ []) id) (sym (points id ∙ ap (first_of (held old.points id)) (point-now (commit_kept splits new) (touched_in (kept_of old.whole (asked_in history e.event)) e.event) (length history + 1) id))) (by id (touched_in (kept_of old.whole (asked_in history e.event)) e.event) refl);
}
  where
    now-states : AreSeen new.whole splits (history ++ e ∷ []) new.states.items
    now-states =
        subst (λ w. AreSeen w splits (history ++ e ∷ []) new.states.items) (sym whole)
        (subst (AreSeen old.whole splits (history ++ e ∷ [])) (sym states) (seen_next splits history e old.whole old.states.items was.states))

    now-unstaged : new.whole ≡ false → (range : ℕ) → HasNoStage (state_at (over splits) range (history ++ e ∷ []))
    now-unstaged not = let was-not : old.whole ≡ false = sym whole ∙ not in unstaged_next splits history e (unstaged was-not) (was.unstaged was-not)

    now-anchors : Holds new.anchors (λ id. anchor_in id (history ++ e ∷ []))
    now-anchors = noted key_sent old.anchors new.anchors history e was.anchors anchors

    now-told : Holds new.told (λ id. told_at id (history ++ e ∷ []))
    now-told = noted committed_in old.told new.told history e was.told told

    stays : (id : TxnId) → is_one id (touched_in (kept_of old.whole (asked_in history e.event)) e.event) ≡ false → (late : Option ℕ) → late ≡ None → IsPoint (over splits) (history ++ e ∷ []) id (first_of (held old.points id) late)
    stays id apart late none =
        subst (λ o. IsPoint (over splits) (history ++ e ∷ []) id (first_of (held old.points id) o)) (sym none)
        (subst (IsPoint (over splits) (history ++ e ∷ []) id) (sym (first_none (held old.points id)))
        (point_stays (over splits) id history e (held old.points id) (was.points id) (commit-same splits history e old.whole was.unstaged id (asked_in history e.event) refl apart)))

    by : (id : TxnId) (touched : Option TxnId) → touched_in (kept_of old.whole (asked_in history e.event)) e.event ≡ touched → IsPoint (over splits) (history ++ e ∷ []) id (first_of (held old.points id) (point_now (commit_kept splits new) touched (length history + 1) id))
    by id None is = stays id (ap (is_one id) is) None refl
    by id (Some one) is = by-same (same_txn one id) refl
      where
        by-same : (b : Bool) → same_txn one id ≡ b → IsPoint (over splits) (history ++ e ∷ []) id (first_of (held old.points id) (cond (is_some (commit_kept splits new one)) (cond (same_txn one id) (Some (length history + 1)) None) None))
        by-same false t = stays id (ap (is_one id) is ∙ t) _ (ap (λ b. cond (is_some (commit_kept splits new one)) (cond b (Some (length history + 1)) None) None) t ∙ both-none (is_some (commit_kept splits new one)))
          where
            both-none : (b : Bool) → cond {A = Option ℕ} b None None ≡ None
            both-none true = refl
            both-none false = refl
        by-same true t =
            let same : one ≡ id = same_txn-is one id t in
            let committed : commit_kept splits new one ≡ commit_ts (over splits) (history ++ e ∷ []) id = ap (commit_kept splits new) same ∙ commit_means splits (history ++ e ∷ []) new now-states now-anchors id now-unstaged now-told in
            let far : length (history ++ e ∷ []) ≡ length history + 1 = length-append history (e ∷ []) in
            let now : cond (is_some (commit_ts (over splits) (history ++ e ∷ []) id)) (Some (length (history ++ e ∷ []))) None ≡ cond (is_some (commit_kept splits new one)) (cond (same_txn one id) (Some (length history + 1)) None) None =
            ap (λ n. cond (is_some (commit_ts (over splits) (history ++ e ∷ []) id)) (Some n) None) far
            ∙ ap (λ o. cond (is_some o) (Some (length history + 1)) None) (sym committed)
            ∙ ap (λ b. cond (is_some (commit_kept splits new one)) (cond b (Some (length history + 1)) None) None) (sym t) in
            subst (λ o. IsPoint (over splits) (history ++ e ∷ []) id (first_of (held old.points id) o)) now
            (point_push (over splits) id history e (held old.points id) (commit_ts (over splits) (history ++ e ∷ []) id) (was.points id) refl)

-- where nothing was committed now, the points stay
pub points_stay : (splits : List (List ℕ)) (touched : Option TxnId) (far : ℕ) (old new : Replay) → committed_one (commit_kept splits new) touched ≡ None → new.points ≡ old.points → PointsFollow splits touched far old new
points_stay splits touched far old new none same =
    λ id. ap (λ points. held points id) same ∙ sym (ap (λ o. first_of (held old.points id) (point_for o far id)) none ∙ first_none (held old.points id))

-- where a transaction was, it has its point
pub points_grow : (splits : List (List ℕ)) (touched : Option TxnId) (far : ℕ) (old new : Replay) (one : TxnId) → committed_one (commit_kept splits new) touched ≡ Some one
    → ((id : TxnId) → held new.points id ≡ first_of (held old.points id) (only_for one far id)) → PointsFollow splits touched far old new
points_grow splits touched far old new one is put = λ id. put id ∙ sym (ap (λ o. first_of (held old.points id) (point_for o far id)) is)

-- where a transaction has its point, it stays
pub points_kept : (splits : List (List ℕ)) (touched : TxnId) (far point : ℕ) (old new : Replay) → held old.points touched ≡ Some point → new.points ≡ old.points → PointsFollow splits (Some touched) far old new
points_kept splits touched far point old new has same =
    λ id. ap (λ points. held points id) same ∙ sym (stays id (commit_kept splits new touched) (same_txn touched id) refl)
  where
    stays : (id : TxnId) (commit : Option ℕ) (is : Bool) → same_txn touched id ≡ is → first_of (held old.points id) (point_for (cond (is_some commit) (Some touched) None) far id) ≡ held old.points id
    stays id None is _ = first_none (held old.points id)
    stays id (Some ts) false not = ap (λ b. first_of (held old.points id) (cond b (Some far) None)) not ∙ first_none (held old.points id)
    stays id (Some ts) true eq =
        let there : held old.points id ≡ Some point = sym (ap (held old.points) (same_txn-is touched id eq)) ∙ has in
        ap (λ o. first_of o (only_for touched far id)) there ∙ sym there

-- where a transaction has a point, it stays
pub points_noted : (splits : List (List ℕ)) (touched : TxnId) (far : ℕ) (old new : Replay) → is_some (held old.points touched) ≡ true → new.points ≡ old.points → PointsFollow splits (Some touched) far old new
points_noted splits touched far old new has same = by (held old.points touched) refl has
  where
    by : (o : Option ℕ) → held old.points touched ≡ o → is_some o ≡ true → PointsFollow splits (Some touched) far old new
    by None there is = absurd cc
    by (Some point) there is = points_kept splits touched far point old new there same

-- the entries so far and the next one are a run
pub run_so_far : (splits : List (List ℕ)) (entries : List (Entry Event)) (i : ℕ) (x : Entry Event) (front : List (Entry Event)) → IsRunOver splits entries → i < length entries → x ≡ slice_index_or entries i x → front ≡ take i entries
    → IsRunOver splits (front ++ x ∷ [])
run_so_far splits entries i x front run within is at = record {
  head = run.head;
  cut = run.cut;
  run = subst (λ h. IsRun run.head h) (take_next entries i x within is ∙ ap (λ f. f ++ x ∷ []) (sym at)) (run_take run.head (i + 1) entries run.run);
}
