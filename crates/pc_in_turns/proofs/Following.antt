-- A session follows the last entry that was made, and then moves.
use Rattle.std.proofs.Common.{◌≡◌, ℕ, ◌+◌, ◌-◌, ◌<◌, ◌≤◌, Bool, List, [], ◌∷◌, ◌++◌, length, map, get_or, Contains, slice_get, slice_set, Option, None, Some, Result, Ok, Err, IfNone, IfOk, IfSome, refl, sym, ap, subst, ◌∙◌, arith, length-append}
use Rattle.std.proofs.lemmas.List.{append-nil, length-map}
use Rattle.std.proofs.lemmas.Option.{slice_get_within}
use Rattle.pc_history.specs.declared.pair.Pair.{Pair}
use Rattle.pc_history.specs.declared.view.Known.{Known as KnownEntry}
use Rattle.pc_history.specs.declared.view.Part.{Part}
use Rattle.pc_history.specs.Parts.{known_entry_at, noted, told_entries}
use Rattle.pc_in_turns.proofs.Acting.{acted_at, at_read}
use Rattle.pc_in_turns.proofs.Moving.{moved_at, moved_on}
use Rattle.pc_in_turns.proofs.Places.{get_behind, get_map, get_read, get_set_same, get_some, no_end, same_some, set_again, set_as_was}
use Rattle.pc_in_turns.specs.declared.task.Task.{Task}
use Rattle.pc_in_turns.specs.Learning.{LearnsBehind}
use Rattle.pc_in_turns.specs.Moving.{AreClientsInTurns, HasActed, HasFollowed, HasNoLast, HaveGoneOn, HaveMovedAt, IsAt, IsTask, TellsLast, TurnsMeaning, lists_in_turns, told_of}
use Rattle.pc_in_turns.specs.Task.{DoesTask, EndsWithTask}
use Rattle.pc_lists.proofs.Lists.{contains_head, get_append, get_push, length_set}
use Rattle.pc_proto.specs.declared.event.Event.{Event}
use Rattle.pc_rounds.specs.Counted.{CountedMeaning, entries_made}
use Rattle.pc_scripted.specs.Scripted.{IsScripted, ScriptedMeaning, own_list}
use Rattle.pc_scripted.specs.Taking.{HasMoved}

-- a note of the last entry tells of it
pub last_noted : (part : Part Event) (mine : List (Pair Event)) (p : Pair Event) → part.own ≡ mine ++ p ∷ [] → Contains (told_entries (noted (length part.own - 1) 0 part)) p.entry
last_noted part mine p is =
    let long : length (mine ++ p ∷ []) ≡ length mine + 1 = length-append mine (p ∷ []) in
    let place : length (mine ++ p ∷ []) - 1 ≡ length mine = omega arith in
    let at : slice_get part.own (length part.own - 1) ≡ Some p = ap (λ own. slice_get own (length own - 1)) is ∙ (ap (slice_get (mine ++ p ∷ [])) place ∙ get_push mine p) in
    subst (λ o. Contains (told_entries (known_entry_at (length part.own - 1) 0 o)) p.entry) (sym at) (contains_head p.entry [])

module _ {C : Type 0} (t old : TurnsMeaning C) (is : t ≡ old) (in_old : AreClientsInTurns old) (index : ℕ) (there_old : index < length old.sessions) where
  in_turns : AreClientsInTurns t
  in_turns = subst AreClientsInTurns (sym is) in_old

  there : index < length t.sessions
  there = subst (λ (x : TurnsMeaning C). index < length x.sessions) (sym is) there_old

  -- there was no entry to follow
  none-so : HasNoLast t → HasFollowed index t t
  none-so none =
      let s = get_some t.sessions index there in
      let part = s.0.session.desk.log.part in
      let stays : told_of [] s.0 ≡ s.0 =
      ap (λ ks. record s.0 { session = record s.0.session { desk = record s.0.session.desk { log = record s.0.session.desk.log { part = record part { known = ks } } } } }) (append-nil part.known) in
      record {
        session = s.0;
        at = s.1;
        note = [];
        scripted = subst IsScripted (sym stays) (in_turns.runners.each index s.0 s.1).scripted;
        whole = ap (λ (l : List (ScriptedMeaning C)). record t { sessions = l }) (sym (ap (slice_set t.sessions index) stays ∙ set_as_was t.sessions index s.0 s.1));
        tells = λ list mine p at own. absurd (no_end mine p (sym own ∙ none list at));
      }

  pub followed_none : HasNoLast old → HasFollowed index old t
  followed_none none = subst (λ (x : TurnsMeaning C). HasFollowed index x t) is (none-so (subst (λ (x : TurnsMeaning C). HasNoLast x) (sym is) none))

  -- there was one
  module _ (s now : ScriptedMeaning C) (note : List (KnownEntry Event)) (value_s : s ≡ get_or t.sessions index s) (took : now ≡ told_of note s) (scripted : IsScripted s → IsScripted now) (tells : TellsLast old note) where
    at : slice_get t.sessions index ≡ Some s
    at = get_read t.sessions index s there value_s

    mark-so : HasFollowed index t (record t { sessions = slice_set t.sessions index now })
    mark-so = record {
      session = s;
      at = at;
      note = note;
      scripted = subst IsScripted took (scripted (in_turns.runners.each index s at).scripted);
      whole = ap (λ (x : ScriptedMeaning C). record t { sessions = slice_set t.sessions index x }) took;
      tells = subst (λ (x : TurnsMeaning C). TellsLast x note) (sym is) tells;
    }

    pub followed_mark : HasFollowed index old (record t { sessions = slice_set t.sessions index now })
    followed_mark = subst (λ (x : TurnsMeaning C). HasFollowed index x (record t { sessions = slice_set t.sessions index now })) is mark-so

-- ---- what a note may say, if one comes

pub tells_if : {N E : Type 0} (result : Result (Option N) E) (P Q : N → Type 0) → IfOk result (λ m. IfSome m P) → ((n : N) → P n → Q n) → IfOk result (λ m. IfSome m Q)
tells_if (Ok (Some n)) P Q is on = on n is
tells_if (Ok None) P Q is on = tt
tells_if (Err e) P Q is on = tt

pub none_if : {N E : Type 0} (result : Result (Option N) E) (P Q : Type 0) → IfOk result (λ m. IfNone m P) → (P → Q) → IfOk result (λ m. IfNone m Q)
none_if (Ok (Some n)) P Q is on = tt
none_if (Ok None) P Q is on = on is
none_if (Err e) P Q is on = tt

-- ---- the last one, a session or a recoverer
module _ {C : Type 0} (t old : TurnsMeaning C) (is : t ≡ old) where
  -- a session
  module _ (s same : ScriptedMeaning C) (lt : t.last < length t.sessions) (value : s ≡ get_or t.sessions t.last s) (is_same : same ≡ s) where
    at-session : slice_get t.sessions t.last ≡ Some s
    at-session = get_read t.sessions t.last s lt value

    last-is : (list : List (Pair Event)) → slice_get (lists_in_turns t) t.last ≡ Some list → own_list s ≡ list
    last-is list at = same_some (slice_get (lists_in_turns t) t.last) (own_list s) list (get_append (map own_list t.sessions) (map entries_made t.recoverers) t.last (own_list s) (get_map own_list t.sessions t.last s at-session)) at

    pub session_tells : (note : List (KnownEntry Event)) → note ≡ noted (length (own_list s) - 1) 0 s.session.desk.log.part → TellsLast old note
    session_tells note marks = subst (λ (x : TurnsMeaning C). TellsLast x note) is
        (λ list mine p at own. subst (λ (ks : List (KnownEntry Event)). Contains (told_entries ks) p.entry) (sym marks) (last_noted s.session.desk.log.part mine p (last-is list at ∙ own)))

    pub session_none : own_list s ≡ [] → HasNoLast old
    session_none none = subst (λ (x : TurnsMeaning C). HasNoLast x) is (λ list at. sym (last-is list at) ∙ none)

    pub session_as_was : record t { sessions = slice_set t.sessions t.last same } ≡ old
    session_as_was = ap (λ (l : List (ScriptedMeaning C)). record t { sessions = l }) (ap (slice_set t.sessions t.last) is_same ∙ set_as_was t.sessions t.last s at-session) ∙ is

  -- a recoverer
  module _ (r same : CountedMeaning C) (place : ℕ) (here : t.last ≡ length t.sessions + place) (lt : place < length t.recoverers) (value : r ≡ get_or t.recoverers place r) (is_same : same ≡ r) where
    at-recoverer : slice_get t.recoverers place ≡ Some r
    at-recoverer = get_read t.recoverers place r lt value

    behind-is : (list : List (Pair Event)) → slice_get (lists_in_turns t) t.last ≡ Some list → entries_made r ≡ list
    behind-is list at =
        same_some (slice_get (lists_in_turns t) t.last) (entries_made r) list
        (get_behind (map own_list t.sessions) (map entries_made t.recoverers) t.last place (here ∙ ap (λ n. n + place) (sym (length-map t.sessions own_list))) ∙ get_map entries_made t.recoverers place r at-recoverer) at

    pub recoverer_tells : (note : List (KnownEntry Event)) → note ≡ noted (length (entries_made r) - 1) 0 r.recoverer.desk.log.part → TellsLast old note
    recoverer_tells note marks = subst (λ (x : TurnsMeaning C). TellsLast x note) is
        (λ list mine p at own. subst (λ (ks : List (KnownEntry Event)). Contains (told_entries ks) p.entry) (sym marks) (last_noted r.recoverer.desk.log.part mine p (behind-is list at ∙ own)))

    pub recoverer_none : entries_made r ≡ [] → HasNoLast old
    recoverer_none none = subst (λ (x : TurnsMeaning C). HasNoLast x) is (λ list at. sym (behind-is list at) ∙ none)

    pub recoverer_as_was : record t { recoverers = slice_set t.recoverers place same } ≡ old
    recoverer_as_was = ap (λ (l : List (CountedMeaning C)). record t { recoverers = l }) (ap (slice_set t.recoverers place) is_same ∙ set_as_was t.recoverers place r at-recoverer) ∙ is

module _ {C : Type 0} (rule : C → ℕ → ℕ → Bool) (task : Task) (index : ℕ) (old mid : TurnsMeaning C) (in_turns : AreClientsInTurns old) (followed : HasFollowed index old mid) (s now : ScriptedMeaning C) (at : slice_get mid.sessions index ≡ Some s)
    (moved : HasMoved (DoesTask task s) s now) (kept : rule now.session.desk.log.clock ≡ rule s.session.desk.log.clock) (learns : LearnsBehind mid.sessions s now) where
  is-told : told_of followed.note followed.session ≡ s
  is-told =
      same_some (slice_get mid.sessions index) (told_of followed.note followed.session) s
      (ap (λ (t : TurnsMeaning C). slice_get t.sessions index) followed.whole
      ∙ get_set_same old.sessions index (told_of followed.note followed.session) (slice_get_within old.sessions index followed.session followed.at))
      at

  moved-told : HasMoved (DoesTask task (told_of followed.note followed.session)) (told_of followed.note followed.session) now
  moved-told = subst (λ (x : ScriptedMeaning C). HasMoved (DoesTask task x) x now) (sym is-told) moved

  kept-told : rule now.session.desk.log.clock ≡ rule followed.session.session.desk.log.clock
  kept-told = kept ∙ ap (λ (x : ScriptedMeaning C). rule x.session.desk.log.clock) (sym is-told)

  learns-told : LearnsBehind (slice_set old.sessions index (told_of followed.note followed.session)) (told_of followed.note followed.session) now
  learns-told =
      subst (λ (l : List (ScriptedMeaning C)). LearnsBehind l (told_of followed.note followed.session) now) (ap (λ (t : TurnsMeaning C). t.sessions) followed.whole)
      (subst (λ (x : ScriptedMeaning C). LearnsBehind mid.sessions x now) (sym is-told) learns)

  sessions-now : slice_set mid.sessions index now ≡ slice_set old.sessions index now
  sessions-now = ap (λ (t : TurnsMeaning C). slice_set t.sessions index now) followed.whole ∙ set_again old.sessions index (told_of followed.note followed.session) now

  -- the state in the end
  module _ (last : ℕ) where
    ends-so : record { work = old.work; sessions = slice_set old.sessions index now; recoverers = old.recoverers; last = last } ≡ record mid { sessions = slice_set mid.sessions index now; last = last }
    ends-so =
        let work : old.work ≡ mid.work = sym (ap (λ (t : TurnsMeaning C). t.work) followed.whole) in
        let recoverers : old.recoverers ≡ mid.recoverers = sym (ap (λ (t : TurnsMeaning C). t.recoverers) followed.whole) in
        λ i. record { work = work i; sessions = sym sessions-now i; recoverers = recoverers i; last = last }

    goes-on : last < length old.sessions + length old.recoverers → (length (own_list followed.session) < length (own_list now) → last ≡ index) → (length (own_list now) ≤ length (own_list followed.session) → last ≡ old.last)
        → HaveGoneOn rule (IsTask old.work task index) old (record mid { sessions = slice_set mid.sessions index now; last = last })
    goes-on inside grew rested =
        subst (λ (t : TurnsMeaning C). HaveGoneOn rule (IsTask old.work task index) old t) ends-so
        (moved_on rule task index old in_turns followed.session now followed.note followed.at followed.scripted followed.tells moved-told kept-told learns-told last inside grew rested)

  own-told : own_list followed.session ≡ own_list s
  own-told = ap own_list is-told

  -- it made an entry
  pub grown_on : length (own_list s) < length (own_list now) → HaveGoneOn rule (IsTask old.work task index) old (record mid { sessions = slice_set mid.sessions index now; last = index })
  grown_on more =
      let e : length (own_list followed.session) ≡ length (own_list s) = ap length own-told in
      goes-on index (let lt = slice_get_within old.sessions index followed.session followed.at in omega arith) (λ lt. refl) (λ le. absurd (omega arith))

  -- it made none
  pub rested_on : length (own_list now) ≤ length (own_list s) → HaveGoneOn rule (IsTask old.work task index) old (record mid { sessions = slice_set mid.sessions index now })
  rested_on none =
      let e : length (own_list followed.session) ≡ length (own_list s) = ap length own-told in
      let last : mid.last ≡ old.last = ap (λ (t : TurnsMeaning C). t.last) followed.whole in
      goes-on mid.last (subst (λ n. n < length old.sessions + length old.recoverers) (sym last) in_turns.there) (λ lt. absurd (omega arith)) (λ le. last)

  pub moved_there : EndsWithTask task now → HaveMovedAt index task old.sessions (slice_set mid.sessions index now)
  moved_there ends =
      subst (λ (l : List (ScriptedMeaning C)). HaveMovedAt index task old.sessions l) (sym sessions-now)
      (moved_at rule task index old in_turns followed.session now followed.note followed.at followed.scripted followed.tells moved-told kept-told learns-told 0 ends)

-- the same, of a session that acted
module _ {C : Type 0} (rule : C → ℕ → ℕ → Bool) (task : Task) (index : ℕ) (old mid new : TurnsMeaning C) (in_turns : AreClientsInTurns old) (followed : HasFollowed index old mid) (acted : HasActed rule (DoesTask task) index mid new) where
  -- how long its list was, and is
  pub long_before : (t : TurnsMeaning C) (x : ScriptedMeaning C) (n : ℕ) → t ≡ mid → index < length mid.sessions → x ≡ get_or t.sessions index x → n ≡ length (own_list x) → n ≡ length (own_list acted.session)
  long_before t x n is there read long = long ∙ ap (λ (y : ScriptedMeaning C). length (own_list y)) (same_some (slice_get mid.sessions index) x acted.session (at_read t mid index x is there read) acted.at)

  pub long_after : (t : TurnsMeaning C) (x : ScriptedMeaning C) (n : ℕ) → t ≡ new → index < length new.sessions → x ≡ get_or t.sessions index x → n ≡ length (own_list x) → n ≡ length (own_list acted.now)
  long_after t x n is there read long =
      long ∙ ap (λ (y : ScriptedMeaning C). length (own_list y)) (same_some (slice_get new.sessions index) x acted.now (at_read t new index x is there read) (acted_at rule index (DoesTask task) mid new acted))

  pub grown_now : (t : TurnsMeaning C) → t ≡ new → length (own_list acted.session) < length (own_list acted.now) → HaveGoneOn rule (IsTask old.work task index) old (record t { last = index })
  grown_now t is more =
      subst (λ (x : TurnsMeaning C). HaveGoneOn rule (IsTask old.work task index) old (record x { last = index })) (sym (is ∙ acted.whole))
      (grown_on rule task index old mid in_turns followed acted.session acted.now acted.at acted.moved acted.kept acted.learns more)

  pub rested_now : (t : TurnsMeaning C) → t ≡ new → length (own_list acted.now) ≤ length (own_list acted.session) → HaveGoneOn rule (IsTask old.work task index) old t
  rested_now t is none =
      subst (λ (x : TurnsMeaning C). HaveGoneOn rule (IsTask old.work task index) old x) (sym (is ∙ acted.whole))
      (rested_on rule task index old mid in_turns followed acted.session acted.now acted.at acted.moved acted.kept acted.learns none)

  pub there_now : (t : TurnsMeaning C) → t ≡ new → IsAt (EndsWithTask task) index new → HaveMovedAt index task old.sessions t.sessions
  there_now t is ends =
      subst (λ (x : TurnsMeaning C). HaveMovedAt index task old.sessions x.sessions) (sym (is ∙ acted.whole))
      (moved_there rule task index old mid in_turns followed acted.session acted.now acted.at acted.moved acted.kept acted.learns (ends acted.now (acted_at rule index (DoesTask task) mid new acted)))

  pub still_there : index < length mid.sessions → index < length new.sessions
  still_there lt = subst (λ (x : TurnsMeaning C). index < length x.sessions) (sym acted.whole) (subst (λ n. index < n) (sym (length_set mid.sessions index acted.now)) lt)

pub followed_there : {C : Type 0} (index : ℕ) (old new : TurnsMeaning C) → HasFollowed index old new → index < length new.sessions
followed_there {C} index old new f =
    subst (λ (x : TurnsMeaning C). index < length x.sessions) (sym f.whole)
    (subst (λ n. index < n) (sym (length_set old.sessions index (told_of f.note f.session))) (slice_get_within old.sessions index f.session f.at))
