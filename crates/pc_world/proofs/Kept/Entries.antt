-- The timestamps of a history's entries, and of the entries that these name.
use Rattle.std.proofs.Common.{ℕ, List, [], ◌∷◌, ◌++◌, Option, None, Some, IfSome}
use Rattle.std.specs.List.{AllByRecursion as Each}
use Rattle.pc_base.specs.declared.actor.ActorId.{ActorId}
use Rattle.pc_base.specs.declared.entry.Entry.{Entry}
use Rattle.pc_history.specs.declared.pair.Pair.{Pair}
use Rattle.pc_history.specs.Own.{named_in, own, pairs_after, pairs_of, same_id}
use Rattle.pc_history.specs.Sense.{Sense}
use Rattle.pc_lists.proofs.Each.{each-append, each-filter, each-find}
use Rattle.pc_proto.specs.declared.event.Event.{Event}
use Rattle.pc_proto.specs.declared.event.Event.TheVariants as events
use Rattle.pc_proto.specs.Stamps.{event_stamps, request_stamps}
use Rattle.pc_world.proofs.Stamps.Within.{AtMost}
use Rattle.pc_world.specs.Known.Clock.{named_stamps}
use Rattle.pc_world.specs.Named.{request_in, request_named}

-- Every timestamp of the entry is at most this one.
abbrev pub EntryWithin : ℕ → Entry Event → Type 0
EntryWithin n e = AtMost n (event_stamps e.event)

pub record PairWithin (n : ℕ) (p : Pair Event) : Type 0 where
  pub entry : AtMost n (event_stamps p.entry.event)
  pub named : AtMost n (named_stamps p.named)

module _ (S : Sense Event) (n : ℕ) where
  stamps-of-named : (named : Option (Entry Event)) → IfSome named (EntryWithin n) → AtMost n (named_stamps named)
  stamps-of-named None h = tt
  stamps-of-named (Some e) h = h

  -- what an event names among entries that are so
  pub named-within : (before : List (Entry Event)) (event : Event) → Each (EntryWithin n) before → AtMost n (named_stamps (named_in S before event))
  named-within before event a = stamps-of-named (named_in S before event) (each-find (EntryWithin n) (λ e. S.names event e) before a)

  pairs-after-within : (before later : List (Entry Event)) → Each (EntryWithin n) before → Each (EntryWithin n) later → Each (PairWithin n) (pairs_after S before later)
  pairs-after-within before [] a b = tt
  pairs-after-within before (e ∷ es) a b = (
    record { entry = b.0; named = named-within before e.event a },
    pairs-after-within (before ++ e ∷ []) es (each-append (EntryWithin n) before (e ∷ []) a (b.0, tt)) b.1,
  )

  -- an actor's own entries
  pub own-within : (id : ActorId) (history : List (Entry Event)) → Each (EntryWithin n) history → Each (PairWithin n) (own S id history)
  own-within id history a = each-filter (PairWithin n) (λ p. same_id id p.entry.actor) (pairs_of S history) (pairs-after-within [] history tt a)

request-in : (n : ℕ) (event : Event) → AtMost n (event_stamps event) → IfSome (request_in event) (λ request. AtMost n (request_stamps request))
request-in n (events.Send number range request) h = h
request-in n event h = tt

-- the request that is named
pub request-within : (n : ℕ) (named : Option (Entry Event)) → AtMost n (named_stamps named) → IfSome (request_named named) (λ request. AtMost n (request_stamps request))
request-within n None h = tt
request-within n (Some e) h = request-in n e.event h
