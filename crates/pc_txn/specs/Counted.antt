-- What a session counts: its clock, the transactions that it began, and the numbers of its messages.
use Rattle.std.specs.Prelude.{◌≡◌, ℕ, ◌≤◌, Some, length, All, ⊤}
use Rattle.pc_base.specs.declared.transaction.TxnId.{TxnId}
use Rattle.pc_proto.specs.declared.request.Request.{Request}
use Rattle.pc_proto.specs.declared.request.Request.TheVariants as requests
use Rattle.pc_proto.specs.Requests.{subject}
use Rattle.pc_proto.specs.Stamps.{request_stamps}
use Rattle.pc_world.specs.Known.{Known}
use Rattle.pc_world.specs.Known.Traffic.{Heard, Sent}

-- If the request speaks of the record of a transaction of this session, that was begun.
abbrev pub IsOfBegun : ℕ → ℕ → Request → Type 0
IsOfBegun session begun request = (id : TxnId) → subject request ≡ Some id → id.session ≡ session → id.number ≤ begun

-- No put, stage or commit of a transaction that was not begun.
abbrev pub IsOwnWrite : ℕ → Request → Type 0
IsOwnWrite begun (requests.Put meta seq ts key value) = meta.id.number ≤ begun
IsOwnWrite begun (requests.Commit meta ts locks) = meta.id.number ≤ begun
IsOwnWrite begun (requests.Stage meta ts now writes locks) = meta.id.number ≤ begun
IsOwnWrite begun _ = ⊤

-- If the request asks whether a write of a transaction of this session stands, that transaction was begun.
abbrev pub IsQueryOfBegun : ℕ → ℕ → Request → Type 0
IsQueryOfBegun session begun (requests.Query id epoch seq ts key by) = id.session ≡ session → id.number ≤ begun
IsQueryOfBegun session begun _ = ⊤

-- The session's requests speak of no transaction of its own that was not begun.
pub record IsOwn (session begun : ℕ) (request : Request) : Type 0 where
  pub write : IsOwnWrite begun request
  pub record_of : IsOfBegun session begun request
  pub query_of : IsQueryOfBegun session begun request

-- A message that was sent, under a number up to this one.
pub record IsOwnSent (session begun count : ℕ) (m : Sent) : Type 0 where
  pub numbered : m.number ≤ count
  pub own : IsOwn session begun m.request

-- A reply that was heard, to such a message.
pub record IsOwnHeard (session begun count : ℕ) (h : Heard) : Type 0 where
  pub numbered : h.number ≤ count
  pub own : IsOwn session begun h.request

-- The clock is the greatest timestamp heard or given, the count that of the transactions begun; no message has a number above
-- their count, and no request that was sent or answered has a timestamp above the session's greatest.
pub record IsCounted (session latest count : ℕ) (k : Known) : Type 0 where
  pub clock : latest ≡ k.high
  pub below : k.high ≤ k.top
  pub begun : count ≡ k.begun
  pub sent : All (IsOwnSent session k.begun (length k.sent)) k.sent
  pub heard : All (IsOwnHeard session k.begun (length k.sent)) k.heard
  pub sent_low : All (λ m. All (λ ts. ts ≤ k.top) (request_stamps m.request)) k.sent
  pub heard_low : All (λ h. All (λ ts. ts ≤ k.top) (request_stamps h.request)) k.heard
