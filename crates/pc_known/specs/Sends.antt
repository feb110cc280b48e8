-- How the messages that are kept stand to what the actor knows: by number, with a mark for each that was heard.
use Rattle.std.specs.Prelude.{◌≡◌, ℕ, ◌+◌, ◌-◌, ◌==◌, ◌≤◌, nat_le, nat_lt, Bool, ◌&&◌, false, true, Option, None, Some, List, [], ◌∷◌, ◌++◌, All, drop, length, slice_set, ⊤}
use Rattle.std.specs.List.{list_any}
use Rattle.pc_known.specs.declared.sends.Sends.{Sends}
use Rattle.pc_proto.specs.declared.event.Event.{Event}
use Rattle.pc_proto.specs.declared.event.Event.TheVariants as events
use Rattle.pc_world.specs.Known.{Known}
use Rattle.pc_world.specs.Known.Traffic.{Heard, Sent}

-- The messages are numbered one by one, from the one after this.
abbrev pub StandByNumber : ℕ → List Sent → Type 0
StandByNumber last [] = ⊤
StandByNumber last (m ∷ messages) = (m.number ≡ last + 1) × StandByNumber (last + 1) messages

-- There is a mark for each message, set where a reply to it was heard.
abbrev pub MarkHeard : List Heard → ℕ → List Sent → List Bool → Type 0
MarkHeard heard last [] [] = ⊤
MarkHeard heard last [] (mark ∷ marks) = ⊥
MarkHeard heard last (m ∷ messages) [] = ⊥
MarkHeard heard last (m ∷ messages) (mark ∷ marks) =
    (mark ≡ list_any (λ h. h.number == last + 1) heard) × MarkHeard heard (last + 1) messages marks

-- The messages are those that the actor sent, by number, and each is marked that was heard.
pub record KeepsSends (k : Known) (x : Sends) : Type 0 where
  pub sent : x.messages.items ≡ k.sent
  pub before : x.before ≤ length k.sent
  pub now : drop x.before k.sent ≡ k.sent_now
  pub numbered : StandByNumber 0 k.sent
  pub marks : MarkHeard k.heard 0 k.sent x.heard.items
  pub only_sent : All (λ h. (1 ≤ h.number) × (h.number ≤ length k.sent)) k.heard

-- The message of this number was sent since the last call was asked, as is kept.
abbrev pub is_number_now : Sends → ℕ → Bool
is_number_now x number = nat_lt x.before number && nat_le number (length x.messages.items)

-- If the event sends a message, that has this number, as in any entry that may come next.
abbrev pub SendsNext : ℕ → Event → Type 0
SendsNext next (events.Send number range request) = number ≡ next
SendsNext next _ = ⊤

-- One more message is kept, which was not heard.
pub record HasOneMoreSent (m : Sent) (before after : Sends) : Type 0 where
  pub messages : after.messages.items ≡ before.messages.items ++ m ∷ []
  pub same : after.before ≡ before.before
  pub marks : after.heard.items ≡ before.heard.items ++ false ∷ []

-- The message of this number is marked as heard.
pub record IsMarked (number : ℕ) (before after : Sends) : Type 0 where
  pub messages : after.messages.items ≡ before.messages.items
  pub same : after.before ≡ before.before
  pub marks : 1 ≤ number → number ≤ length before.heard.items → after.heard.items ≡ slice_set before.heard.items (number - 1) true

-- The message of what was heard is marked, if anything was.
abbrev pub MarksHeard : Option Heard → Sends → Sends → Type 0
MarksHeard None before after = after ≡ before
MarksHeard (Some h) before after = IsMarked h.number before after
