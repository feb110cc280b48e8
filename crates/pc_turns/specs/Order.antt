-- In which order sessions ask their calls and do their finishing jobs, and recoverers make their rounds: each by itself, in stated turns, or on
-- threads behind an opening. Read from the clients' entries alone. Own profile.
use Rattle.std.specs.Prelude.{◌≡◌, ℕ, zero, suc, ◌+◌, ◌≤◌, nat_lt, Bool, true, false, is_some, not, ◌⊎◌, Option, None, Some, List, [], ◌∷◌, ◌++◌, count_by, drop, map, All, Contains, IsTrue, ⊤}
use Rattle.pc_base.specs.declared.actor.ActorId.TheVariants as actors
use Rattle.pc_history.specs.declared.pair.Pair.{Pair}
use Rattle.pc_proto.specs.declared.answer.Answer.{Answer}
use Rattle.pc_proto.specs.declared.answer.Answer.TheVariants as answers
use Rattle.pc_proto.specs.declared.call.Call.{Call}
use Rattle.pc_proto.specs.declared.call.Call.TheVariants as calls
use Rattle.pc_proto.specs.declared.event.Event.{Event}
use Rattle.pc_proto.specs.declared.event.Event.TheVariants as events
use Rattle.pc_proto.specs.declared.request.Request.{Request}
use Rattle.pc_turns.specs.Clients.{share_of}
use Rattle.pc_work.specs.declared.turn.Turn.{Turn}
use Rattle.pc_work.specs.declared.turn.Turn.TheVariants as turns
use Rattle.pc_follows.specs.FinishingJobs.{jobs_of}
use Rattle.pc_world.specs.Known.{known_of}
use Rattle.pc_world.specs.Tell.Refusal.{is_heard}

-- The event is within a call or a job: it neither asks a call nor tells an answer.
abbrev pub IsInBetween : Event → Type 0
IsInBetween (events.Ask call reading) = ⊥
IsInBetween (events.Tell answer) = ⊥
IsInBetween _ = ⊤

-- The events of these entries.
abbrev pub events_of : List (Pair Event) → List Event
events_of pairs = map (λ p. p.entry.event) pairs

-- The part is this call of the session, whole: from its asking to its telling.
pub record AsksWhole (number : ℕ) (call : Call) (part : List (Pair Event)) : Type 0 where
  pub whose : All (λ p. p.entry.actor ≡ actors.Session number) part
  pub reading : ℕ
  pub between : List Event
  pub answer : Answer
  pub whole : events_of part ≡ events.Ask call reading ∷ (between ++ events.Tell answer ∷ [])
  pub within : All IsInBetween between

-- The part is the session's oldest job, whole: no call is asked in it, the job waits no more behind it, and each message that the session
-- sent in it was heard.
pub record FinishesWhole (number : ℕ) (before part : List (Pair Event)) : Type 0 where
  pub whose : All (λ p. p.entry.actor ≡ actors.Session number) part
  pub within : All IsInBetween (events_of part)
  pub done : jobs_of (before ++ part) ≡ drop 1 (jobs_of before)
  pub heard : All (λ m. IsTrue (is_heard (known_of (before ++ part)).heard m) ⊎ Contains (known_of before).sent m) (known_of (before ++ part)).sent

-- The part is this call of the session, broken off: it was asked, and not told its answer.
pub record AsksPartly (number : ℕ) (call : Call) (part : List (Pair Event)) : Type 0 where
  pub whose : All (λ p. p.entry.actor ≡ actors.Session number) part
  pub reading : ℕ
  pub between : List Event
  pub begins : events_of part ≡ events.Ask call reading ∷ between
  pub within : All IsInBetween between

-- The part is a job of the session, broken off: no call is asked in it.
pub record FinishesPartly (number : ℕ) (part : List (Pair Event)) : Type 0 where
  pub whose : All (λ p. p.entry.actor ≡ actors.Session number) part
  pub within : All IsInBetween (events_of part)

-- The part is one round of the recoverer, whole: from its asking to its telling.
pub record MakesWholeRound (number : ℕ) (part : List (Pair Event)) : Type 0 where
  pub whose : All (λ p. p.entry.actor ≡ actors.Recoverer number) part
  pub reading : ℕ
  pub between : List Event
  pub whole : events_of part ≡ events.Ask calls.Round reading ∷ (between ++ events.Tell answers.Done ∷ [])
  pub within : All IsInBetween between

-- The part is a round of the recoverer, broken off: it was asked, and not told that it is done.
pub record BreaksRoundOff (number : ℕ) (part : List (Pair Event)) : Type 0 where
  pub whose : All (λ p. p.entry.actor ≡ actors.Recoverer number) part
  pub reading : ℕ
  pub between : List Event
  pub begins : events_of part ≡ events.Ask calls.Round reading ∷ between
  pub within : All IsInBetween between

-- The event asks a round.
abbrev pub is_round_asked : Event → Bool
is_round_asked (events.Ask calls.Round reading) = true
is_round_asked _ = false

-- How many rounds a recoverer's own entries ask.
abbrev pub rounds_asked : List (Pair Event) → ℕ
rounds_asked mine = count_by (λ p. is_round_asked p.entry.event) mine

-- An actor whose list has ended takes nothing; another one takes a part that is so.
abbrev pub UnlessEnded : Bool → List (Pair Event) → Type 0 → Type 0
UnlessEnded true part So = part ≡ []
UnlessEnded false part So = So

-- The session's own entries among the clients'.
abbrev pub entries_by : ℕ → List (Pair Event) → List (Pair Event)
entries_by number order = share_of (actors.Session number) order

-- The recoverer's own entries among the clients'.
abbrev pub entries_by_recoverer : ℕ → List (Pair Event) → List (Pair Event)
entries_by_recoverer number order = share_of (actors.Recoverer number) order

-- So many turns of the recoverer.
abbrev pub recoverer_turns : ℕ → ℕ → List Turn
recoverer_turns number zero = []
recoverer_turns number (suc rounds) = turns.Recoverer number ∷ recoverer_turns number rounds

-- No call of the session's script is next.
abbrev pub is_at_end : (ℕ → List (Pair Event) → Option Call) → ℕ → List (Pair Event) → Bool
is_at_end next number before = not (is_some (next number (entries_by number before)))

-- The scripts say which call each session asks next, after its own entries; and the test says of each session's own entries that they end its
-- list, with a call or a job broken off where it was in one.
module _ (next : ℕ → List (Pair Event) → Option Call) (ended : ℕ → List (Pair Event) → Bool) where
  -- The part is the session's next call after its own entries, or nothing where none is next.
  abbrev pub AsksIfNext : ℕ → Option Call → List (Pair Event) → List (Pair Event) → Type 0
  AsksIfNext number None mine part = part ≡ []
  AsksIfNext number (Some call) mine part = AsksWhole number call part ⊎ (AsksPartly number call part × (ended number (mine ++ part) ≡ true))

  -- The part is the oldest of these jobs of the session, or nothing where none waits.
  abbrev pub FinishesIfLeft : ℕ → List (List Request) → List (Pair Event) → List (Pair Event) → Type 0
  FinishesIfLeft number [] mine part = part ≡ []
  FinishesIfLeft number (job ∷ jobs) mine part = FinishesWhole number mine part ⊎ (FinishesPartly number part × (ended number (mine ++ part) ≡ true))

  -- The part is what the session takes of a call or a job, after its own entries.
  abbrev pub AsksAfter : ℕ → List (Pair Event) → List (Pair Event) → Type 0
  AsksAfter number mine part = UnlessEnded (ended number mine) part (AsksIfNext number (next number mine) mine part)

  abbrev pub FinishesAfter : ℕ → List (Pair Event) → List (Pair Event) → Type 0
  FinishesAfter number mine part = UnlessEnded (ended number mine) part (FinishesIfLeft number (jobs_of mine) mine part)

  -- The part is what the session takes by itself: the oldest of these jobs where one waits, else its next call.
  abbrev pub TakesOne : ℕ → List (List Request) → List (Pair Event) → List (Pair Event) → Type 0
  TakesOne number [] mine part = AsksAfter number mine part
  TakesOne number (job ∷ jobs) mine part = FinishesAfter number mine part

  -- The part is what the session does by itself, its jobs before each further call, until the test is passed or its list has ended.
  pub data GoesByItself (number : ℕ) (test : List (Pair Event) → Bool) : List (Pair Event) → List (Pair Event) → Type 0 where
    Passed : (before : List (Pair Event)) → jobs_of (entries_by number before) ≡ [] → test before ≡ true → GoesByItself number test before []
    Ended : (before : List (Pair Event)) → ended number (entries_by number before) ≡ true → GoesByItself number test before []
    Onwards : (before first rest : List (Pair Event))
        → ((jobs_of (entries_by number before) ≡ []) → test before ≡ true → ⊥)
        → TakesOne number (jobs_of (entries_by number before)) (entries_by number before) first
        → GoesByItself number test (before ++ first) rest
        → GoesByItself number test before (first ++ rest)

  -- The part is what is left: so many sessions, from this number on, go to their ends, one after another.
  abbrev pub GoToEnds : ℕ → ℕ → List (Pair Event) → List (Pair Event) → Type 0
  GoToEnds number zero before part = part ≡ []
  GoToEnds number (suc count) before part =
      (first : List (Pair Event)) × (rest : List (Pair Event)) × (part ≡ first ++ rest)
      × GoesByItself number (is_at_end next number) before first × GoToEnds (number + 1) count (before ++ first) rest

  -- The clients' entries go on threads: the first session's opening before all else, and each session by itself to its end. A recoverer makes
  -- its rounds anywhere behind the opening.
  pub record GoOnThreads (opened : List (Pair Event) → Bool) (sessions : ℕ) (order : List (Pair Event)) : Type 0 where
    pub opening : List (Pair Event)
    pub rest : List (Pair Event)
    pub whole : order ≡ opening ++ rest
    pub opens : GoesByItself 1 opened [] opening
    pub each : (number : ℕ) → 1 ≤ number → number ≤ sessions → GoesByItself number (is_at_end next number) [] (entries_by number order)

-- The test says of a recoverer's own entries that they end its list, with a round broken off where it was in one.
module _ (ended : List (Pair Event) → Bool) where
  -- The part is one round of the recoverer, if one is left.
  abbrev pub MakesRoundIfLeft : ℕ → Bool → List (Pair Event) → List (Pair Event) → Type 0
  MakesRoundIfLeft number false mine part = part ≡ []
  MakesRoundIfLeft number true mine part = MakesWholeRound number part ⊎ (BreaksRoundOff number part × (ended (mine ++ part) ≡ true))

  -- The part is what the recoverer, which makes so many rounds in all, makes of the next one after its own entries.
  abbrev pub MakesRoundAfter : ℕ → ℕ → List (Pair Event) → List (Pair Event) → Type 0
  MakesRoundAfter rounds number mine part = UnlessEnded (ended mine) part (MakesRoundIfLeft number (nat_lt (rounds_asked mine) rounds) mine part)

-- The scripts and the ends of sessions' lists as above; a test says so of each recoverer's own entries; and this says how many rounds each
-- recoverer makes in all.
module _ (next : ℕ → List (Pair Event) → Option Call) (ended recoverer_ended : ℕ → List (Pair Event) → Bool) (rounds : ℕ → ℕ) where
  -- The part is what the turn takes after these entries.
  abbrev pub IsTakenIn : Turn → List (Pair Event) → List (Pair Event) → Type 0
  IsTakenIn (turns.Session number) before part = AsksAfter next ended number (entries_by number before) part
  IsTakenIn (turns.Job number) before part = FinishesAfter next ended number (entries_by number before) part
  IsTakenIn (turns.Recoverer number) before part = MakesRoundAfter (recoverer_ended number) (rounds number) number (entries_by_recoverer number before) part

  -- The part is what these turns take, one after another.
  abbrev pub AreTakenIn : List Turn → List (Pair Event) → List (Pair Event) → Type 0
  AreTakenIn [] before part = part ≡ []
  AreTakenIn (turn ∷ turns) before part =
      (first : List (Pair Event)) × (rest : List (Pair Event)) × (part ≡ first ++ rest) × IsTakenIn turn before first × AreTakenIn turns (before ++ first) rest

  -- The part is what is left to so many recoverers, from this number on: each in order takes as many turns as it makes rounds, and so makes
  -- those that are left, for at a turn behind its last round it does nothing.
  abbrev pub MakeRoundsLeft : ℕ → ℕ → List (Pair Event) → List (Pair Event) → Type 0
  MakeRoundsLeft number zero before part = part ≡ []
  MakeRoundsLeft number (suc count) before part =
      (first : List (Pair Event)) × (rest : List (Pair Event)) × (part ≡ first ++ rest)
      × AreTakenIn (recoverer_turns number (rounds number)) before first × MakeRoundsLeft (number + 1) count (before ++ first) rest

  -- The clients' entries go in stated turns: the first session's opening, up to where this test is passed; the turns; then each session in
  -- order to its end; and then the rounds that are left to each recoverer in order.
  pub record GoInTurns (opened : List (Pair Event) → Bool) (stated : List Turn) (sessions recoverers : ℕ) (order : List (Pair Event)) : Type 0 where
    pub opening : List (Pair Event)
    pub taken : List (Pair Event)
    pub left : List (Pair Event)
    pub recovered : List (Pair Event)
    pub whole : order ≡ opening ++ (taken ++ (left ++ recovered))
    pub opens : GoesByItself next ended 1 opened [] opening
    pub takes : AreTakenIn stated opening taken
    pub ends : GoToEnds next ended 1 sessions (opening ++ taken) left
    pub recovers : MakeRoundsLeft 1 recoverers (opening ++ (taken ++ left)) recovered
