-- Sessions and recoverers that have gone in turns.
use Rattle.std.proofs.Common.{◌≡◌, ℕ, suc, ◌+◌, ◌-◌, ◌<◌, ◌≤◌, ◌≢◌, ◌⊎◌, inl, inr, Bool, All, List, [], ◌∷◌, ◌++◌, length, map, take, get_or, slice_get, Some, Option, refl, sym, ap, subst, ◌∙◌, arith, add-one, length-append, true, false}
use Rattle.std.proofs.Math.Seq.{take-suc}
use Rattle.std.proofs.lemmas.Bool.{cases_eq}
use Rattle.std.proofs.lemmas.List.{append_assoc, length-map}
use Rattle.std.proofs.lemmas.List.Elements.{All-contains, All-nil}
use Rattle.std.proofs.lemmas.Option.{slice_get_within}
use Rattle.pc_base.specs.declared.actor.ActorId.{ActorId}
use Rattle.pc_history.specs.declared.pair.Pair.{Pair}
use Rattle.pc_in_turns.proofs.Onwards.{gone_nowhere, gone_so, gone_then}
use Rattle.pc_in_turns.proofs.Parts.{gone_out_next, one_more_turn, recovered_next, taken_next}
use Rattle.pc_in_turns.proofs.Places.{get_behind, get_front, get_of_map, get_some, no_end, same_some, take-all}
use Rattle.pc_in_turns.specs.declared.task.Task.TheVariants as tasks
use Rattle.pc_in_turns.specs.InTurns.{HaveGoneInTurns}
use Rattle.pc_in_turns.specs.Moving.{AreClientsInTurns, AreRunOutBelow, GoOut, HasNoneLeftAt, HaveGoneOn, HaveMade, HaveMovedAt, HaveRoundedAt, IsOpening, IsTask, RecoverOut, TakeTurns, TakesTurn, TurnsMeaning, clients_in, lists_in_turns}
use Rattle.pc_lists.proofs.Lists.{get_contains}
use Rattle.pc_proto.specs.declared.event.Event.{Event}
use Rattle.pc_rounds.specs.Counted.{CountedMeaning, entries_made}
use Rattle.pc_runs.proofs.Finished.{below_or_not}
use Rattle.pc_runs.specs.Order.{ended_in_work, is_opening_over, next_in_work, recoverer_ended_in_work, rounds_in_work}
use Rattle.pc_runs.specs.Recoverers.{AreRecoverers, HasNoRoundLeft, HaveNoRoundLeft}
use Rattle.pc_runs.specs.Runners.{AreRunOut, AreRunners, head_in_work}
use Rattle.pc_runs.specs.Together.{AreAtEnds, AreClients, HaveClientClocks}
use Rattle.pc_scripted.specs.Scripted.{ScriptedMeaning, own_list}
use Rattle.pc_scripted.specs.Taking.{IsRunOut}
use Rattle.pc_turns.specs.Order.{GoesByItself, MakeRoundsLeft, is_at_end, recoverer_turns}
use Rattle.pc_turns.specs.Shares.{AreShares, IsClientOf}
use Rattle.pc_work.specs.declared.session.SessionWork.{SessionWork}
use Rattle.pc_work.specs.declared.turn.Turn.{Turn}
use Rattle.pc_work.specs.declared.turn.Turn.TheVariants as turns
use Rattle.pc_work.specs.declared.workload.Workload.{Workload}
use Rattle.pc_world.specs.Known.Traffic.{Sent}

-- the workload has a session of each index that a runner has
session-of : {C : Type 0} (t : TurnsMeaning C) → AreClientsInTurns t → (index : ℕ) → index < length t.sessions → (session : SessionWork) × (slice_get t.work.sessions index ≡ Some session)
session-of t in_turns index lt = let s = get_some t.sessions index lt in let r = in_turns.runners.each index s.0 s.1 in (r.session, r.listed)

module _ {C : Type 0} (rule : C → ℕ → ℕ → Bool) (old : TurnsMeaning C) (in_turns : AreClientsInTurns old) where
  first : 0 < length old.sessions
  first = let some = in_turns.some in let many = in_turns.runners.many in omega arith

  -- the first session opens
  pub opened : (new : TurnsMeaning C) → HaveGoneOn rule (IsTask old.work (tasks.Open old.work.opening) 0) old new → HaveGoneOn rule (IsOpening old.work) old new
  opened new gone = gone_so rule (IsTask old.work (tasks.Open old.work.opening) 0) (IsOpening old.work) old new turned gone
    where
      turned : (held : ActorId → Sent → Bool) (before part : List (Pair Event)) → IsTask old.work (tasks.Open old.work.opening) 0 held before part → IsOpening old.work held before part
      turned held before part is =
          let w = session-of old in_turns 0 first in
          subst (λ (o : Option SessionWork). GoesByItself (next_in_work old.work) (ended_in_work old.work held) 1 (λ order. is_opening_over old.work.opening old.work.reruns o order) before part) (sym w.1) (is w.0 w.1)

  pub is_there : (number : ℕ) → (1 ≤ number) × (number ≤ length old.work.sessions) → number - 1 < length old.sessions
  is_there number h = let many = in_turns.runners.many in let from = h.0 in let to = h.1 in omega arith

  -- the sessions are as many as before
  pub as_many : {Is : (ActorId → Sent → Bool) → List (Pair Event) → List (Pair Event) → Type 0} (new : TurnsMeaning C) → HaveGoneOn rule Is old new → length new.sessions ≡ length old.work.sessions
  as_many new gone = gone.in_turns.runners.many ∙ ap (λ (w : Workload). length w.sessions) gone.work

  -- one more turn
  pub took_next : (mid new : TurnsMeaning C) (done : List Turn) (turn : Turn) → HaveGoneOn rule (TakeTurns old.work done) old mid → HaveGoneOn rule (TakesTurn mid.work turn) mid new → HaveGoneOn rule (TakeTurns old.work (done ++ turn ∷ [])) old new
  took_next mid new done turn a b =
      gone_then rule (TakeTurns old.work done) (TakesTurn old.work turn) (TakeTurns old.work (done ++ turn ∷ [])) old mid new
      (λ held before part more is then. taken_next (next_in_work old.work) (ended_in_work old.work held) (recoverer_ended_in_work old.work held) (rounds_in_work old.work) done turn before part more is then) a
      (subst (λ (w : Workload). HaveGoneOn rule (TakesTurn w turn) mid new) a.work b)

  pub took_at : (mid new : TurnsMeaning C) (stated : List Turn) (i : ℕ) (d : Turn) → i < length stated → HaveGoneOn rule (TakeTurns old.work (take i stated)) old mid → HaveGoneOn rule (TakesTurn mid.work (get_or stated i d)) mid new
      → HaveGoneOn rule (TakeTurns old.work (take (i + 1) stated)) old new
  took_at mid new stated i d lt a b =
      let more : take (i + 1) stated ≡ take i stated ++ get_or stated i d ∷ [] = rw add-one (take-suc stated i d lt) in
      subst (λ ts. HaveGoneOn rule (TakeTurns old.work ts) old new) (sym more) (took_next mid new (take i stated) (get_or stated i d) a b)

  pub took_all : (new : TurnsMeaning C) (stated : List Turn) (i : ℕ) → length stated ≤ i → HaveGoneOn rule (TakeTurns old.work (take i stated)) old new → HaveGoneOn rule (TakeTurns old.work stated) old new
  took_all new stated i le a = subst (λ ts. HaveGoneOn rule (TakeTurns old.work ts) old new) (take-all i stated le) a

  pub took_none : (stated : List Turn) → HaveGoneOn rule (TakeTurns old.work (take 0 stated)) old old
  took_none stated = gone_nowhere rule (TakeTurns old.work (take 0 stated)) old in_turns (λ held before. refl)

  -- no session has gone to its end yet
  pub went_none : HaveGoneOn rule (GoOut old.work 0) old old
  went_none = gone_nowhere rule (GoOut old.work 0) old in_turns (λ held before. refl)

  -- all have
  pub went_all : (new : TurnsMeaning C) (count : ℕ) → count ≡ length old.sessions → HaveGoneOn rule (GoOut old.work count) old new → HaveGoneOn rule (GoOut old.work (length old.work.sessions)) old new
  went_all new count is a = subst (λ n. HaveGoneOn rule (GoOut old.work n) old new) (is ∙ in_turns.runners.many) a

  -- one more session goes to its end
  pub went_next : (mid new : TurnsMeaning C) (count : ℕ) → HaveGoneOn rule (GoOut old.work count) old mid → HaveGoneOn rule (IsTask mid.work tasks.Rest count) mid new → HaveGoneOn rule (GoOut old.work (count + 1)) old new
  went_next mid new count a b =
      let same : 1 + count ≡ count + 1 = omega arith in
      let one : suc count ≡ count + 1 = omega arith in
      gone_then rule (GoOut old.work count) (IsTask old.work tasks.Rest count) (GoOut old.work (count + 1)) old mid new
      (λ held before part more is then. subst (λ n. GoOut old.work n held before (part ++ more)) one (gone_out_next (next_in_work old.work) (ended_in_work old.work held) 1 count before part more is (subst (λ n. GoesByItself (next_in_work old.work) (ended_in_work old.work held) n (is_at_end (next_in_work old.work) n) (before ++ part) more) (sym same) then))) a
      (subst (λ (w : Workload). HaveGoneOn rule (IsTask w tasks.Rest count) mid new) a.work b)

  -- one more turn of a recoverer
  pub turned_none : (number : ℕ) → HaveGoneOn rule (TakeTurns old.work (recoverer_turns number 0)) old old
  turned_none number = gone_nowhere rule (TakeTurns old.work (recoverer_turns number 0)) old in_turns (λ held before. refl)

  pub turned_next : (mid new : TurnsMeaning C) (number count : ℕ) → HaveGoneOn rule (TakeTurns old.work (recoverer_turns number count)) old mid → HaveGoneOn rule (TakesTurn mid.work (turns.Recoverer number)) mid new
      → HaveGoneOn rule (TakeTurns old.work (recoverer_turns number (count + 1))) old new
  turned_next mid new number count a b =
      subst (λ ts. HaveGoneOn rule (TakeTurns old.work ts) old new) (sym (one_more_turn (next_in_work old.work) (λ n own. true) number count)) (took_next mid new (recoverer_turns number count) (turns.Recoverer number) a b)

  -- no recoverer has made what is left to it yet
  pub recovered_none : HaveGoneOn rule (RecoverOut old.work 0) old old
  recovered_none = gone_nowhere rule (RecoverOut old.work 0) old in_turns (λ held before. refl)

  -- all have
  pub recovered_all : (new : TurnsMeaning C) (count : ℕ) → count ≡ length old.recoverers → HaveGoneOn rule (RecoverOut old.work count) old new → HaveGoneOn rule (RecoverOut old.work (length old.work.recoverers)) old new
  recovered_all new count is a = subst (λ n. HaveGoneOn rule (RecoverOut old.work n) old new) (is ∙ in_turns.recoverers.many) a

  -- one more has
  pub recovered_one : (mid new : TurnsMeaning C) (count : ℕ) → HaveGoneOn rule (RecoverOut old.work count) old mid → HaveGoneOn rule (TakeTurns mid.work (recoverer_turns (count + 1) (rounds_in_work mid.work (count + 1)))) mid new
      → HaveGoneOn rule (RecoverOut old.work (count + 1)) old new
  recovered_one mid new count a b =
      let same : count + 1 ≡ 1 + count = omega arith in
      let one : suc count ≡ count + 1 = omega arith in
      let T : ℕ → (ActorId → Sent → Bool) → List (Pair Event) → List (Pair Event) → Type 0 = λ n held before part. TakeTurns old.work (recoverer_turns n (rounds_in_work old.work n)) held before part in
      gone_then rule (RecoverOut old.work count) (T (count + 1)) (RecoverOut old.work (count + 1)) old mid new
      (λ held before part more is then. subst (λ n. RecoverOut old.work n held before (part ++ more)) one
      (recovered_next (next_in_work old.work) (ended_in_work old.work held) (recoverer_ended_in_work old.work held) (rounds_in_work old.work) 1 count before part more is (subst (λ n. T n held (before ++ part) more) same then))) a
      (subst (λ (w : Workload). HaveGoneOn rule (TakeTurns w (recoverer_turns (count + 1) (rounds_in_work w (count + 1)))) mid new) a.work b)

-- nothing has happened
module _ {C : Type 0} (work : Workload) (sessions : List (ScriptedMeaning C)) (recoverers : List (CountedMeaning C)) (clients : AreClients work (record { sessions = sessions; recoverers = recoverers })) where
  abbrev begun : TurnsMeaning C
  begun = record { work = work; sessions = sessions; recoverers = recoverers; last = 0 }

  pub begins : 1 ≤ length work.sessions → AreClientsInTurns begun
  begins some = record { some = some; runners = clients.runners; recoverers = clients.recoverers; there = let many = clients.runners.many in omega arith }

  made_nothing : All (λ (s : ScriptedMeaning C). own_list s ≡ []) sessions → All (λ (r : CountedMeaning C). entries_made r ≡ []) recoverers → HaveMade begun []
  made_nothing fresh fresh_recoverers = record {
    shares = record {
      many = length-append (map own_list sessions) (map entries_made recoverers)
          ∙ (ap (λ n. n + length (map entries_made recoverers)) (length-map sessions own_list ∙ clients.runners.many) ∙ ap (λ n. length work.sessions + n) (length-map recoverers entries_made ∙ clients.recoverers.many));
      rises = tt;
      each = λ index list at. by index list at (cases-below index (length (map own_list sessions)));
      only = All-nil (λ (p : Pair Event). IsClientOf (head_in_work work) p.entry.actor);
    };
    learns = tt;
    made = λ front p list whole at. absurd (no_end front p (sym whole));
  }
    where
      cases-below : (i n : ℕ) → (i < n) ⊎ (n ≤ i)
      cases-below i n = below_or_not i n

      by : (index : ℕ) (list : List (Pair Event)) → slice_get (map own_list sessions ++ map entries_made recoverers) index ≡ Some list → (index < length (map own_list sessions)) ⊎ (length (map own_list sessions) ≤ index) → list ≡ []
      by index list at (inl lt) =
          let s = get_of_map own_list sessions index list (sym (get_front (map own_list sessions) (map entries_made recoverers) index lt) ∙ at) in
          s.1 ∙ All-contains (λ (s : ScriptedMeaning C). own_list s ≡ []) sessions s.0 fresh (get_contains sessions index s.0 s.2)
      by index list at (inr le) =
          let place : index ≡ length (map own_list sessions) + (index - length (map own_list sessions)) = omega arith in
          let r = get_of_map entries_made recoverers (index - length (map own_list sessions)) list (sym (get_behind (map own_list sessions) (map entries_made recoverers) index (index - length (map own_list sessions)) place) ∙ at) in
          r.1 ∙ All-contains (λ (r : CountedMeaning C). entries_made r ≡ []) recoverers r.0 fresh_recoverers (get_contains recoverers (index - length (map own_list sessions)) r.0 r.2)

  module _ (rule : C → ℕ → ℕ → Bool) (stated : List Turn) (one two three four : TurnsMeaning C) (a : HaveGoneOn rule (IsOpening work) begun one) (b : HaveGoneOn rule (TakeTurns one.work stated) one two)
      (c : HaveGoneOn rule (GoOut two.work (length two.work.sessions)) two three) (d : HaveGoneOn rule (RecoverOut three.work (length three.work.recoverers)) three four) where
    work_two : two.work ≡ work
    work_two = b.work ∙ a.work

    work_three : three.work ≡ work
    work_three = c.work ∙ work_two

    taken : HaveGoneOn rule (TakeTurns work stated) one two
    taken = subst (λ (w : Workload). HaveGoneOn rule (TakeTurns w stated) one two) a.work b

    left : HaveGoneOn rule (GoOut work (length work.sessions)) two three
    left = subst (λ (w : Workload). HaveGoneOn rule (GoOut w (length w.sessions)) two three) work_two c

    recovered : HaveGoneOn rule (RecoverOut work (length work.recoverers)) three four
    recovered = subst (λ (w : Workload). HaveGoneOn rule (RecoverOut w (length w.recoverers)) three four) work_three d

    -- the whole
    pub gone_in_turns : All (λ (s : ScriptedMeaning C). own_list s ≡ []) sessions → All (λ (r : CountedMeaning C). entries_made r ≡ []) recoverers → HaveGoneInTurns work stated (clients_in four)
    gone_in_turns fresh fresh_recoverers =
        let x = a.goes [] (made_nothing fresh fresh_recoverers) in
        let y = taken.goes x.0 x.1 in
        let z = left.goes (x.0 ++ y.0) y.1 in
        let v = recovered.goes ((x.0 ++ y.0) ++ z.0) z.1 in
        record {
          order = ((x.0 ++ y.0) ++ z.0) ++ v.0;
          shares = subst (λ (w : Workload). AreShares (head_in_work w) (lists_in_turns four) (((x.0 ++ y.0) ++ z.0) ++ v.0)) (d.work ∙ work_three) v.1.shares;
          learns = v.1.learns;
          goes = λ held says.
              let says_three = recovered.knows held says in
              let says_two = left.knows held says_three in
              let says_one = taken.knows held says_two in
              record {
                opening = x.0;
                taken = y.0;
                left = z.0;
                recovered = v.0;
                whole = append_assoc (x.0 ++ y.0) z.0 v.0 ∙ append_assoc x.0 y.0 (z.0 ++ v.0);
                opens = x.2 held says_one;
                takes = y.2 held says_two;
                ends = z.2 held says_three;
                recovers = subst (λ before. MakeRoundsLeft (next_in_work work) (ended_in_work work held) (recoverer_ended_in_work work held) (rounds_in_work work) 1 (length work.recoverers) before v.0) (append_assoc x.0 y.0 z.0) (v.2 held says);
              };
        }

    clocks-on : (old new : TurnsMeaning C) {Is : (ActorId → Sent → Bool) → List (Pair Event) → List (Pair Event) → Type 0} (rules : ActorId → ℕ → ℕ → Bool) → old.work ≡ work → HaveGoneOn rule Is old new → HaveClientClocks rule rules work (clients_in old) → HaveClientClocks rule rules work (clients_in new)
    clocks-on old new rules same gone h =
        subst (λ (w : Workload). HaveClientClocks rule rules w (clients_in new)) same (gone.clocks rules (subst (λ (w : Workload). HaveClientClocks rule rules w (clients_in old)) (sym same) h))

    pub gone_clocks : (rules : ActorId → ℕ → ℕ → Bool) → HaveClientClocks rule rules work (clients_in begun) → HaveClientClocks rule rules work (clients_in four)
    gone_clocks rules have = clocks-on three four rules work_three recovered (clocks-on two three rules work_two left (clocks-on one two rules a.work taken (a.clocks rules have)))

    pub gone_clients : AreClients work (clients_in four)
    gone_clients =
        let same : four.work ≡ work = d.work ∙ work_three in
        record { runners = subst (λ (w : Workload). AreRunners w four.sessions) same d.in_turns.runners; recoverers = subst (λ (w : Workload). AreRecoverers w four.recoverers) same d.in_turns.recoverers }

  -- the same, by the names that its code has for the states between
  module _ (rule : C → ℕ → ℕ → Bool) (stated : List Turn) {one two three four one' two' three' : TurnsMeaning C} (a : HaveGoneOn rule (IsOpening work) begun one) (b : HaveGoneOn rule (TakeTurns one'.work stated) one' two)
      (c : HaveGoneOn rule (GoOut two'.work (length two'.work.sessions)) two' three) (d : HaveGoneOn rule (RecoverOut three'.work (length three'.work.recoverers)) three' four)
      (is_one : one' ≡ one) (is_two : two' ≡ two) (is_three : three' ≡ three) (end : TurnsMeaning C) (is_four : end ≡ four) where
    b-so : HaveGoneOn rule (TakeTurns one.work stated) one two
    b-so = subst (λ (t : TurnsMeaning C). HaveGoneOn rule (TakeTurns t.work stated) t two) is_one b

    c-so : HaveGoneOn rule (GoOut two.work (length two.work.sessions)) two three
    c-so = subst (λ (t : TurnsMeaning C). HaveGoneOn rule (GoOut t.work (length t.work.sessions)) t three) is_two c

    d-so : HaveGoneOn rule (RecoverOut three.work (length three.work.recoverers)) three four
    d-so = subst (λ (t : TurnsMeaning C). HaveGoneOn rule (RecoverOut t.work (length t.work.recoverers)) t four) is_three d

    pub order_in_turns : All (λ (s : ScriptedMeaning C). own_list s ≡ []) sessions → All (λ (r : CountedMeaning C). entries_made r ≡ []) recoverers → HaveGoneInTurns work stated (clients_in end)
    order_in_turns fresh fresh_recoverers = subst (λ (t : TurnsMeaning C). HaveGoneInTurns work stated (clients_in t)) (sym is_four) (gone_in_turns rule stated one two three four a b-so c-so d-so fresh fresh_recoverers)

    pub clocks_in_turns : (rules : ActorId → ℕ → ℕ → Bool) → HaveClientClocks rule rules work (clients_in begun) → HaveClientClocks rule rules work (clients_in end)
    clocks_in_turns rules have = subst (λ (t : TurnsMeaning C). HaveClientClocks rule rules work (clients_in t)) (sym is_four) (gone_clocks rule stated one two three four a b-so c-so d-so rules have)

    pub clients_in_turns : AreClients work (clients_in end)
    clients_in_turns = subst (λ (t : TurnsMeaning C). AreClients work (clients_in t)) (sym is_four) (gone_clients rule stated one two three four a b-so c-so d-so)

    -- all are at their ends
    pub ends_in_turns : AreRunOut three.sessions → four.sessions ≡ three'.sessions → HaveNoRoundLeft four.recoverers → AreAtEnds (clients_in end)
    ends_in_turns over same out =
        let kept : four.sessions ≡ three.sessions = same ∙ ap (λ (t : TurnsMeaning C). t.sessions) is_three in
        subst (λ (t : TurnsMeaning C). AreAtEnds (clients_in t)) (sym is_four) (record { sessions = subst (λ (ss : List (ScriptedMeaning C)). AreRunOut ss) (sym kept) over; recoverers = out })

-- one more session has run out
pub ran_out_next : {C : Type 0} (old new : List (ScriptedMeaning C)) (index : ℕ) → AreRunOutBelow index old → HaveMovedAt index tasks.Rest old new → AreRunOutBelow (index + 1) new
ran_out_next old new index below moved other s lt at = by (cases_eq other index)
  where
    by : (other ≡ index) ⊎ (other ≢ index) → IsRunOut s
    by (inl same) = moved.ends s (subst (λ n. slice_get new n ≡ Some s) same at)
    by (inr differ) = below other s (omega arith) (sym (moved.others other differ) ∙ at)

pub all_ran_out : {C : Type 0} (sessions : List (ScriptedMeaning C)) (count : ℕ) → length sessions ≤ count → AreRunOutBelow count sessions → AreRunOut sessions
all_ran_out sessions count le below index s at = below index s (let lt = slice_get_within sessions index s at in omega arith) at

-- ---- rounds that are left

-- The recoverers below this index have no round left.
abbrev pub HaveNoneLeftBelow : {C : Type 0} → ℕ → List (CountedMeaning C) → Type 0
HaveNoneLeftBelow {C} index recoverers = (other : ℕ) (r : CountedMeaning C) → other < index → slice_get recoverers other ≡ Some r → HasNoRoundLeft r

-- one more has none
pub none_left_next : {C : Type 0} (old new : List (CountedMeaning C)) (index : ℕ) → HaveNoneLeftBelow index old → ((other : ℕ) → other ≢ index → slice_get new other ≡ slice_get old other) → HasNoneLeftAt index new → HaveNoneLeftBelow (index + 1) new
none_left_next old new index below others none other r lt at = by (cases_eq other index)
  where
    by : (other ≡ index) ⊎ (other ≢ index) → HasNoRoundLeft r
    by (inl same) = none r (subst (λ n. slice_get new n ≡ Some r) same at)
    by (inr differ) = below other r (omega arith) (sym (others other differ) ∙ at)

pub all_none_left : {C : Type 0} (recoverers : List (CountedMeaning C)) (count : ℕ) → length recoverers ≤ count → HaveNoneLeftBelow count recoverers → HaveNoRoundLeft recoverers
all_none_left recoverers count le below index r at = below index r (let lt = slice_get_within recoverers index r at in omega arith) at

-- The recoverer of this index, which makes so many rounds in all, has made so many, if it goes on and rounds are left to it; the others and the
-- sessions are as they were.
pub record HasTakenTurns {C : Type 0} (index rounds count : ℕ) (old new : TurnsMeaning C) : Type 0 where
  pub sessions : new.sessions ≡ old.sessions
  pub others : (other : ℕ) → other ≢ index → slice_get new.recoverers other ≡ slice_get old.recoverers other
  pub took : (r : CountedMeaning C) → slice_get new.recoverers index ≡ Some r → (r.rounds ≡ rounds) × (r.recoverer.desk.log.stopped ≡ false → r.made < r.rounds → count ≤ r.made)

pub taken_none : {C : Type 0} (index rounds : ℕ) (t : TurnsMeaning C) (r : CountedMeaning C) → slice_get t.recoverers index ≡ Some r → rounds ≡ r.rounds → HasTakenTurns index rounds 0 t t
taken_none {C} index rounds t r at is = record {
  sessions = refl;
  others = λ other differ. refl;
  took = λ x got. (ap (λ (y : CountedMeaning C). y.rounds) (same_some (slice_get t.recoverers index) x r got at) ∙ sym is, λ still more. omega arith);
}

pub taken_more : {C : Type 0} (index rounds count : ℕ) (old mid new : TurnsMeaning C) → HasTakenTurns index rounds count old mid → HaveRoundedAt index mid new → HasTakenTurns index rounds (count + 1) old new
taken_more {C} index rounds count old mid new a b = record {
  sessions = b.sessions ∙ a.sessions;
  others = λ other differ. b.others other differ ∙ a.others other differ;
  took = λ x got. next x (b.onward x got);
}
  where
    next : (x : CountedMeaning C)
        → (before : CountedMeaning C) × (slice_get mid.recoverers index ≡ Some before) × (x.rounds ≡ before.rounds)
        × (x.recoverer.desk.log.stopped ≡ false → x.made < x.rounds → (before.recoverer.desk.log.stopped ≡ false) × (x.made ≡ before.made + 1))
        → (x.rounds ≡ rounds) × (x.recoverer.desk.log.stopped ≡ false → x.made < x.rounds → count + 1 ≤ x.made)
    next x (before, at, same, onward) =
        let t = a.took before at in (
          same ∙ t.0,
          λ still more.
              let o = onward still more in
              let grew : x.made ≡ before.made + 1 = o.1 in
              let most : count ≤ before.made = t.1 o.0 (omega arith) in
              omega arith,
        )

pub taken_whole : {C : Type 0} (index rounds count : ℕ) (old new : TurnsMeaning C) → rounds ≤ count → HasTakenTurns index rounds count old new → HasNoneLeftAt index new.recoverers
taken_whole index rounds count old new all a r at = record { over = λ still. by (below_or_not r.made r.rounds) still }
  where
    by : (r.made < r.rounds) ⊎ (r.rounds ≤ r.made) → r.recoverer.desk.log.stopped ≡ false → r.rounds ≤ r.made
    by (inr over) still = over
    by (inl more) still =
        let t = a.took r at in
        let is : r.rounds ≡ rounds = t.0 in
        let most : count ≤ r.made = t.1 still more in
        omega arith
