-- What a recoverer sends in a round and hears to it, one message after another: each is heard before the next is sent. So far over a quiet
-- wire, on which each message is answered. Own profile.
use Rattle.std.specs.Prelude.{◌≡◌, ℕ, Some, List, [], ◌∷◌, map}
use Rattle.pc_history.specs.declared.pair.Pair.{Pair}
use Rattle.pc_proto.specs.declared.event.Event.{Event}
use Rattle.pc_proto.specs.declared.event.Event.TheVariants as events
use Rattle.pc_proto.specs.declared.reply.Reply.{Reply}
use Rattle.pc_proto.specs.declared.request.Request.{Request}
use Rattle.pc_world.specs.Known.Traffic.{reply_named}

-- A message: the range that it went to, what it said, and the reply that was heard to it.
pub record RoundMessage : Type 0 where
  pub range : ℕ
  pub request : Request
  pub reply : Reply

-- The two entries send the message and hear its reply.
pub record IsExchangeIn (x : RoundMessage) (send hear : Pair Event) : Type 0 where
  pub number : ℕ
  pub sends : send.entry.event ≡ events.Send number x.range x.request
  pub evaluated_at : ℕ
  pub hears : hear.entry.event ≡ events.Hear number evaluated_at
  pub told : reply_named hear.named ≡ Some x.reply

-- The entries send these messages and hear their replies, one after another, and do nothing else.
abbrev pub AreExchangesIn : List RoundMessage → List (Pair Event) → Type 0
AreExchangesIn [] part = part ≡ []
AreExchangesIn (x ∷ xs) part =
    (send : Pair Event) × (hear : Pair Event) × (rest : List (Pair Event)) × (part ≡ send ∷ hear ∷ rest) × IsExchangeIn x send hear × AreExchangesIn xs rest

-- What these messages said.
abbrev pub requests_of : List RoundMessage → List Request
requests_of xs = map (λ x. x.request) xs
