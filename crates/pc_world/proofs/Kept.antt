-- In a run every timestamp is at most the clock's last one, plus one for each step.
use Rattle.std.proofs.Common.{◌≡◌, ℕ, ◌+◌, ◌^◌, ◌<◌, ◌≤◌, true, false, cond, Contains, List, [], ◌∷◌, ◌++◌, length, fold, filter, All, Option, None, Some, IfSome, sym, subst, arith, length-append}
use Rattle.std.proofs.lemmas.List.{append_assoc, append-nil}
use Rattle.std.proofs.lemmas.List.Elements.{All-contains, All-from_recursion, All-nil, All-push, All-weaker, recursion_from_All}
use Rattle.std.specs.List.{AllByRecursion as Each}
use Rattle.pc_base.specs.declared.actor.ActorId.{ActorId}
use Rattle.pc_base.specs.declared.actor.ActorId.TheVariants as actors
use Rattle.pc_base.specs.declared.entry.Entry.{Entry}
use Rattle.pc_base.specs.Timestamp.{greatest}
use Rattle.pc_history.specs.History.{AllKept, IsFine, IsFineAfter}
use Rattle.pc_history.specs.Own.{named_in, own, pair, pairs_after, same_id}
use Rattle.pc_lists.proofs.Each.{each-append, each-weaker}
use Rattle.pc_proto.specs.declared.event.Event.{Event}
use Rattle.pc_proto.specs.declared.event.Event.TheVariants as events
use Rattle.pc_proto.specs.declared.reply.Reply.{Reply}
use Rattle.pc_proto.specs.declared.request.Request.{Request}
use Rattle.pc_proto.specs.Stamps.{event_stamps, request_stamps, reply_stamps}
use Rattle.pc_world.proofs.Kept.Entries.{EntryWithin, named-within, own-within, request-within}
use Rattle.pc_world.proofs.Kept.Knowledge.{KnownWithin, known-within}
use Rattle.pc_world.proofs.Kept.Told.{told-within}
use Rattle.pc_world.proofs.Prefixes.{run_induction}
use Rattle.pc_world.proofs.Stamps.{after-within, has_room, reply-within}
use Rattle.pc_world.proofs.Stamps.Within.{AtMost, StateWithin, at_most-more, state-more, state-stamps}
use Rattle.pc_world.specs.Known.{Known, known_of}
use Rattle.pc_world.specs.Local.{Head, IsAnswer, IsLocal, MayDo, MayEvaluate}
use Rattle.pc_world.specs.MaySend.{MaySend}
use Rattle.pc_world.specs.Named.{request_in, request_named}
use Rattle.pc_world.specs.RangeState.{RangeState, no_state}
use Rattle.pc_world.specs.Run.{IsKept, IsRun, clock_end, protocol}
use Rattle.pc_world.specs.Stamps.{AllAtMost, AllBelowGreatest, HasRoom, all_stamps}
use Rattle.pc_world.specs.StateOf.{evaluated, state_of, state_with}
pub mod Entries
pub mod Knowledge
pub mod Told

-- The greatest timestamp that may stand in a history of these entries.
abbrev pub limit : List (Entry Event) → ℕ
limit entries = clock_end + length entries

limit-push : (before : List (Entry Event)) (e : Entry Event) → limit (before ++ e ∷ []) ≡ limit before + 1
limit-push before e = omega (arith, length-append before (e ∷ []))

-- Each of the later entries is within the limit of its place.
abbrev pub AreGraded : List (Entry Event) → List (Entry Event) → Type 0
AreGraded before [] = Unit {0}
AreGraded before (e ∷ es) = EntryWithin (limit before + 1) e × AreGraded (before ++ e ∷ []) es

module _ (head : Head) where
  graded : (before later : List (Entry Event)) → IsFineAfter (protocol head) before later → Each (λ e. IsKept e.step e.event) later → AreGraded before later
  graded before [] fine kept = tt
  graded before (e ∷ es) fine kept =
      let own : AtMost (clock_end + e.step + 1) (event_stamps e.event) = recursion_from_All (λ ts. ts ≤ clock_end + e.step + 1) (event_stamps e.event) kept.0 in
      (at_most-more (clock_end + e.step + 1) (limit before + 1) (event_stamps e.event) (omega (arith, fine.0.step)) own, graded (before ++ e ∷ []) es fine.1 kept.1)

  entries-push : (before : List (Entry Event)) (e : Entry Event) → Each (EntryWithin (limit before)) before → EntryWithin (limit before + 1) e → Each (EntryWithin (limit (before ++ e ∷ []))) (before ++ e ∷ [])
  entries-push before e a h =
      let n = limit before in
      let m = limit (before ++ e ∷ []) in
      let more : Each (EntryWithin m) before = each-weaker (EntryWithin n) (EntryWithin m) (λ x. at_most-more n m (event_stamps x.event) (omega (arith, limit-push before e))) before a in
      each-append (EntryWithin m) before (e ∷ []) more (at_most-more (n + 1) m (event_stamps e.event) (omega (arith, limit-push before e)) h, tt)

  entries-after : (before later : List (Entry Event)) → Each (EntryWithin (limit before)) before → AreGraded before later → Each (EntryWithin (limit (before ++ later))) (before ++ later)
  entries-after before [] a g = subst (λ h. Each (EntryWithin (limit h)) h) (sym (append-nil before)) a
  entries-after before (e ∷ es) a g =
      subst (λ h. Each (EntryWithin (limit h)) h) (append_assoc before (e ∷ []) es)
      (entries-after (before ++ e ∷ []) es (entries-push before e a g.0) g.1)

  -- every timestamp in the entries of a fine history that are kept
  pub entries-within : (history : List (Entry Event)) → IsFine (protocol head) history → AllKept (protocol head) history → Each (EntryWithin (limit history)) history
  entries-within history fine kept =
      entries-after [] history tt (graded [] history fine (recursion_from_All (λ e. IsKept e.step e.event) history kept))

  evaluated-by : (n : ℕ) (request : Option Request) (s : RangeState) → IfSome request (λ request. AtMost n (request_stamps request)) → StateWithin n s → StateWithin (n + 1) (state_with request s)
  evaluated-by n None s h a = state-more n (n + 1) s (omega arith) a
  evaluated-by n (Some request) s h a = after-within n request s h a

  states-after : (id : ActorId) (before later : List (Entry Event)) (s : RangeState) → Each (EntryWithin (limit before)) before → AreGraded before later → StateWithin (limit before) s
      → StateWithin (limit (before ++ later)) (fold evaluated s (filter (λ p. same_id id p.entry.actor) (pairs_after (protocol head) before later)))
  states-after id before [] s a g w = subst (λ h. StateWithin (limit h) s) (sym (append-nil before)) w
  states-after id before (e ∷ es) s a g w =
      let n = limit before in
      let more = before ++ e ∷ [] in
      let p = pair e (named_in (protocol head) before e.event) in
      let rest = filter (λ p. same_id id p.entry.actor) (pairs_after (protocol head) more es) in
      let entries = entries-push before e a g.0 in
      let asked = request-within n p.named (named-within (protocol head) n before e.event a) in
      let one_more : StateWithin (limit more) (evaluated s p) = state-more (n + 1) (limit more) (evaluated s p) (omega (arith, limit-push before e)) (evaluated-by n (request_named p.named) s asked w) in
      let as_before : StateWithin (limit more) s = state-more n (limit more) s (omega (arith, limit-push before e)) w in
      let on : StateWithin (limit (more ++ es)) (fold evaluated (evaluated s p) rest) = states-after id more es (evaluated s p) entries g.1 one_more in
      let off : StateWithin (limit (more ++ es)) (fold evaluated s rest) = states-after id more es s entries g.1 as_before in
      let here : StateWithin (limit (more ++ es)) (fold evaluated s (cond (same_id id e.actor) (p ∷ rest) rest)) =
      elim (same_id id e.actor) as (λ b. StateWithin (limit (more ++ es)) (fold evaluated s (cond b (p ∷ rest) rest))) [ true ↦ on | false ↦ off ] in
      subst (λ h. StateWithin (limit h) (fold evaluated s (cond (same_id id e.actor) (p ∷ rest) rest))) (append_assoc before (e ∷ []) es) here

  no-state : StateWithin clock_end no_state
  no-state = record { bound = omega arith; versions = tt; intents = tt; table = record { records = tt; marks = tt } }

  -- every timestamp of a range in a fine history that is kept
  pub state-within-limit : (id : ActorId) (history : List (Entry Event)) → IsFine (protocol head) history → AllKept (protocol head) history → StateWithin (limit history) (state_of (own (protocol head) id history))
  state-within-limit id history fine kept =
      states-after id [] history no_state tt (graded [] history fine (recursion_from_All (λ e. IsKept e.step e.event) history kept))
      (state-more clock_end (limit []) no_state (omega arith) no-state)

  -- what an actor knows in one
  pub known-within-limit : (id : ActorId) (history : List (Entry Event)) → IsFine (protocol head) history → AllKept (protocol head) history → KnownWithin (limit history) (known_of (own (protocol head) id history))
  known-within-limit id history fine kept =
      known-within (limit history) (own (protocol head) id history) (own-within (protocol head) (limit history) id history (entries-within history fine kept))

  sent-within : (n : ℕ) (actor : ActorId) (k : Known) (number range : ℕ) (request : Request) → KnownWithin n k → MaySend head.splits actor k number range request → AtMost (n + 1) (request_stamps request)
  sent-within n actor k number range request a may =
      at_most-more (k.top + 1) (n + 1) (request_stamps request) (omega (arith, a.top)) (recursion_from_All (λ ts. ts ≤ k.top + 1) (request_stamps request) may.stamps)

  done-within : (n : ℕ) (actor : ActorId) (k : Known) (event : Event) → clock_end ≤ n → KnownWithin n k → MayDo head actor k event → AtMost (n + 1) (event_stamps event)
  done-within n actor k (events.Ask call reading) e a may = tt
  done-within n actor k (events.Send number range request) e a may = sent-within n actor k number range request a may
  done-within n actor k (events.Eval sender number told) e a may = absurd may
  done-within n actor k (events.Hear number step) e a may = tt
  done-within n actor k (events.Tell answer) e a may = told-within n head.splits actor k answer e a may
  done-within n actor k (events.Meet id step) e a may = tt

  answer-within : (n : ℕ) (request : Option Request) (s : RangeState) (told : Reply) → IfSome request (λ request. AtMost n (request_stamps request)) → StateWithin n s → IsAnswer request s told → AtMost (n + 1) (reply_stamps told)
  answer-within n None s told h a is = absurd is
  answer-within n (Some request) s told h a is = subst (λ r. AtMost (n + 1) (reply_stamps r)) (sym is) (reply-within n request s h a)

  evaluated-within : (n : ℕ) (s : RangeState) (event : Event) (named : Option (Entry Event)) → IfSome (request_named named) (λ request. AtMost n (request_stamps request)) → StateWithin n s → MayEvaluate s event named → AtMost (n + 1) (event_stamps event)
  evaluated-within n s (events.Eval sender number told) named h a is = answer-within n (request_named named) s told h a is
  evaluated-within n s event named h a is = absurd is

  next-within : (id : ActorId) (history : List (Entry Event)) (event : Event) → IsFine (protocol head) history → AllKept (protocol head) history
      → IsLocal head id (own (protocol head) id history) event (named_in (protocol head) history event) → AtMost (limit history + 1) (event_stamps event)
  next-within (actors.Range range) history event fine kept local =
      let n = limit history in
      let named = named_in (protocol head) history event in
      let asked = request-within n named (named-within (protocol head) n history event (entries-within history fine kept)) in
      evaluated-within n (state_of (own (protocol head) (actors.Range range) history)) event named asked (state-within-limit (actors.Range range) history fine kept) local.next
  next-within (actors.Session number) history event fine kept local =
      done-within (limit history) (actors.Session number) (known_of (own (protocol head) (actors.Session number) history)) event (omega arith)
      (known-within-limit (actors.Session number) history fine kept) local.next
  next-within (actors.Recoverer number) history event fine kept local =
      done-within (limit history) (actors.Recoverer number) (known_of (own (protocol head) (actors.Recoverer number) history)) event (omega arith)
      (known-within-limit (actors.Recoverer number) history fine kept) local.next

  -- what is local after a fine history that is kept is kept
  pub next_kept : (id : ActorId) (history : List (Entry Event)) (event : Event) → IsFine (protocol head) history → AllKept (protocol head) history
      → IsLocal head id (own (protocol head) id history) event (named_in (protocol head) history event) → IsKept (length history) event
  next_kept id history event fine kept local =
      All-from_recursion (λ ts. ts ≤ clock_end + length history + 1) (event_stamps event) (next-within id history event fine kept local)

  -- a run is kept: every timestamp of an entry is at most the clock's last one, plus its step, plus one
  pub run_kept : (history : List (Entry Event)) → IsRun head history → AllKept (protocol head) history
  run_kept = run_induction head (λ h. AllKept (protocol head) h) (All-nil (λ e. IsKept e.step e.event)) (λ history e run may kept.
      let own : IsKept (length history) e.event = next_kept e.actor history e.event run kept may.local in
      All-push (λ e. IsKept e.step e.event) history e kept (subst (λ step. IsKept step e.event) (sym may.step) own))

  -- every timestamp of an entry of a run is at most the clock's last one, plus one for each entry
  pub run_stamps : (history : List (Entry Event)) → IsRun head history → All (λ e. AllAtMost (clock_end + length history) (event_stamps e.event)) history
  run_stamps history run =
      All-from_recursion (λ e. AllAtMost (limit history) (event_stamps e.event)) history
      (each-weaker (EntryWithin (limit history)) (λ e. AllAtMost (limit history) (event_stamps e.event)) (λ e. All-from_recursion (λ ts. ts ≤ limit history) (event_stamps e.event)) history
      (entries-within history run (run_kept history run)))

  -- and so is every timestamp of a range
  pub run_state_stamps : (id : ActorId) (history : List (Entry Event)) → IsRun head history → AllAtMost (clock_end + length history) (all_stamps (state_of (own (protocol head) id history)))
  run_state_stamps id history run =
      let s = state_of (own (protocol head) id history) in
      state-stamps (limit history) s (state-within-limit id history run (run_kept history run))

  -- every timestamp that an actor knows of
  pub run_top : (id : ActorId) (history : List (Entry Event)) → IsRun head history → (known_of (own (protocol head) id history)).top ≤ clock_end + length history
  run_top id history run = (known-within-limit id history run (run_kept history run)).top

  below : (history : List (Entry Event)) → length history ≤ 2 ^ 64 → limit history < greatest
  below history short = omega arith

  pub run_below_greatest : (history : List (Entry Event)) → IsRun head history → length history ≤ 2 ^ 64 → All (λ e. AllBelowGreatest (event_stamps e.event)) history
  run_below_greatest history run short =
      All-weaker (λ e. AllAtMost (limit history) (event_stamps e.event)) (λ e. AllBelowGreatest (event_stamps e.event))
      (λ e. All-weaker (λ ts. ts ≤ limit history) (λ ts. ts < greatest) (λ ts h. omega (arith, below history short)) (event_stamps e.event)) history (run_stamps history run)

  sent-at-most : (n : ℕ) (event : Event) (request : Request) → request_in event ≡ Some request → AllAtMost n (event_stamps event) → AllAtMost n (request_stamps request)
  sent-at-most n (events.Send number range sent) request is a = let same : sent ≡ request = cc in subst (λ r. AllAtMost n (request_stamps r)) same a
  sent-at-most n event request is a = absurd cc

  -- a range has room for each request that was sent in a run
  pub run_has_room : (id : ActorId) (history : List (Entry Event)) (e : Entry Event) (request : Request) → IsRun head history → length history ≤ 2 ^ 64 → Contains history e → request_in e.event ≡ Some request
      → HasRoom request (state_of (own (protocol head) id history))
  run_has_room id history e request run short there is =
      let s = state_of (own (protocol head) id history) in
      let stamps = All-contains (λ e. AllAtMost (limit history) (event_stamps e.event)) history e (run_stamps history run) there in
      has_room (limit history) request s (below history short) (sent-at-most (limit history) e.event request is stamps) (run_state_stamps id history run)
