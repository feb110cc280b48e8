-- A session that hears the reply to each message before it goes on is never told that messages were lost.
use Rattle.std.proofs.Common.{◌≡◌, ℕ, zero, suc, ◌≤◌, Bool, true, false, not, List, [], ◌∷◌, ◌++◌, Contains, All, IsTrue, reverse, inl, inr, sym, subst, arith}
use Rattle.std.proofs.lemmas.List.{reverse-append}
use Rattle.std.proofs.lemmas.List.Elements.{Contains-append_cases}
use Rattle.pc_base.specs.declared.actor.ActorId.{ActorId}
use Rattle.pc_base.specs.declared.entry.Entry.{Entry}
use Rattle.pc_history.specs.History.{MayFollow}
use Rattle.pc_implicit.proofs.Commits.{act_of}
use Rattle.pc_implicit.proofs.Doing.{Does, told_by_row}
use Rattle.pc_implicit.proofs.Fronts.{split_there}
use Rattle.pc_lists.proofs.Lists.{contains_cons, contains_head, contains_nil, contains_tail}
use Rattle.pc_proto.specs.declared.answer.Answer.{Answer}
use Rattle.pc_proto.specs.declared.answer.Answer.TheVariants as answers
use Rattle.pc_proto.specs.declared.event.Event.{Event}
use Rattle.pc_proto.specs.declared.event.Event.TheVariants as events
use Rattle.pc_serial.proofs.OneSession.{one_session_runs_in_turn}
use Rattle.pc_serial.specs.Laws.{IsQuiet, IsTalk, RunsInTurn, SaysLost}
use Rattle.pc_serial.specs.QuietWire.{LosesNothing, the_session}
use Rattle.pc_world.proofs.Prefixes.{run_may}
use Rattle.pc_world.specs.After.{known_at}
use Rattle.pc_world.specs.Known.{Known}
use Rattle.pc_world.specs.Known.Traffic.{Heard, Sent}
use Rattle.pc_world.specs.Local.{Head}
use Rattle.pc_world.specs.Run.{IsRun, protocol}
use Rattle.pc_world.specs.Tell.Refusal.{AreLastLost, WasLost, is_heard}

-- an element of the list that is turned round is one of the list
contains-reverse : {X : Type 0} (xs : List X) (a : X) → Contains (reverse xs) a → Contains xs a
contains-reverse [] a there = there
contains-reverse (x ∷ xs) a there =
    elim (Contains-append_cases (reverse xs) (x ∷ []) a (subst (λ l. Contains l a) (reverse-append (x ∷ []) xs) there)) [
      | inl early ↦ contains_tail x xs a (contains-reverse xs a early)
      | inr last ↦ elim (contains_cons x [] a last) [
        | inl same ↦ subst (λ z. Contains (x ∷ xs) z) same (contains_head x xs)
        | inr none ↦ absurd (contains_nil a none)
      ]
    ]

not-both : (b : Bool) → IsTrue b → IsTrue (not b) → ⊥
not-both true is isnt = absurd cc
not-both false is isnt = absurd cc

-- of lost messages one was not heard
one-lost : (heard : List Heard) (m : Sent) (xs : List Sent) (n : ℕ) → 1 ≤ n → AreLastLost heard m xs n → (x : Sent) × Contains xs x × IsTrue (not (is_heard heard x))
one-lost heard m xs zero some lost = absurd (omega (arith, some))
one-lost heard m [] (suc n) some lost = absurd lost
one-lost heard m (x ∷ xs) (suc n) some (inl h) = (x, contains_head x xs, h.1)
one-lost heard m (x ∷ xs) (suc n) some (inr h) = let r = one-lost heard m xs (suc n) some h.1 in (r.0, contains_tail x xs r.0 r.1, r.2)

-- where all were heard, none was lost
none-lost : (k : Known) (faults : ℕ) → All (λ m. IsTrue (is_heard k.heard m)) k.sent → WasLost k faults → ⊥
none-lost k faults all lost =
    let x = one-lost k.heard lost.message (reverse k.sent) faults lost.some lost.lost in
    let at = contains-reverse k.sent x.0 x.1 in
    not-both (is_heard k.heard x.0) (subst (λ m. IsTrue (is_heard k.heard m)) at.2 (all at.0 x.0 at.1)) x.2

-- who has heard all tells of no lost messages
tells-none : (head : Head) (actor : ActorId) (k : Known) (answer : Answer) → SaysLost answer → Does head actor k (events.Tell answer) → All (λ m. IsTrue (is_heard k.heard m)) k.sent → ⊥
tells-none head actor k (answers.Unavailable faults) says does all = none-lost k faults all (told_by_row head actor k (answers.Unavailable faults) does (λ h. cc h) (λ h. cc h)).lost
tells-none head actor k (answers.Unknown id) says does all =
    let row = told_by_row head actor k (answers.Unknown id) does (λ h. cc h) (λ h. cc h) in
    none-lost k row.faults all row.lost
tells-none head actor k answer says does all = absurd says

-- a session over a wire that loses nothing is never told that messages were lost
pub nothing_lost : (head : Head) (history : List (Entry Event)) → IsRun head history → LosesNothing head history
    → (before : List (Entry Event)) (e : Entry Event) (later : List (Entry Event)) → history ≡ before ++ e ∷ later → e.actor ≡ the_session → (answer : Answer) → e.event ≡ events.Tell answer → SaysLost answer → ⊥
nothing_lost head history run none before e later split me answer tells says =
    let may : MayFollow (protocol head) before e = run_may head before e later (subst (IsRun head) split run) in
    let does : Does head e.actor (known_at head e.actor before) (events.Tell answer) = subst (Does head e.actor (known_at head e.actor before)) tells (act_of head before e may) in
    tells-none head the_session (known_at head the_session before) answer says (subst (λ a. Does head a (known_at head a before) (events.Tell answer)) me does) (none before e later answer split me tells says)

module _ (head : Head) (history : List (Entry Event)) (run : IsRun head history) (quiet : IsQuiet head history) where
  never-lost : (e : Entry Event) (answer : Answer) → Contains history e → e.event ≡ events.Tell answer → SaysLost answer → ⊥
  never-lost e answer there tells says =
      let s = split_there history e there in
      let may : MayFollow (protocol head) s.before e = run_may head s.before e s.later (subst (IsRun head) s.whole run) in
      let k = known_at head e.actor s.before in
      let all = quiet s.before e s.later s.whole (subst IsTalk (sym tells) tt) in
      tells-none head e.actor k answer says (subst (Does head e.actor k) tells (act_of head s.before e may)) all

-- one session alone, quiet, runs in turn, and is never told that messages were lost
pub one_quiet_session : (head : Head) (history : List (Entry Event)) → IsRun head history → head.sessions ≡ 1 → IsQuiet head history
    → RunsInTurn head history
    × ((e : Entry Event) (answer : Answer) → Contains history e → e.event ≡ events.Tell answer → SaysLost answer → ⊥)
one_quiet_session head history run alone quiet = (
  one_session_runs_in_turn head history run alone (λ e id there tells. never-lost head history run quiet e (answers.Unknown id) there tells tt),
  never-lost head history run quiet,
)
