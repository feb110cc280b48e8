-- What a push that met a STAGING record shows of its writes.
use Rattle.std.specs.Prelude.{ℕ, List, All, Any, IsTrue}
use Rattle.pc_base.specs.declared.transaction.TxnId.{TxnId}
use Rattle.pc_base.specs.declared.transaction.Who.{Who}
use Rattle.pc_proto.specs.Replies.{is_conflict_with}
use Rattle.pc_proto.specs.Requests.{is_put_of}
use Rattle.pc_world.specs.Known.Traffic.{Heard}
use Rattle.pc_world.specs.Known.Transactions.{lists_write}
use Rattle.pc_world.specs.Send.Recovery.{MetStaging, WasFound, WasMissed, was_refused}

-- The record lists this write.
abbrev pub HasListed : TxnId → ℕ → ℕ → ℕ → List ℕ → Heard → Type 0
HasListed id epoch seq ts key h = (writes : List (List ℕ × ℕ)) × MetStaging id epoch ts writes h × IsTrue (lists_write key seq writes)

-- Each write that the record lists was found.
abbrev pub HasFoundAll : List Heard → TxnId → ℕ → ℕ → Heard → Type 0
HasFoundAll heard id epoch ts h =
    (writes : List (List ℕ × ℕ)) × MetStaging id epoch ts writes h × All (λ w. Any (WasFound id epoch ts w) heard) writes

-- A write of this key that the record lists was missed by a query of this name.
abbrev pub HasMissed : List Heard → TxnId → ℕ → ℕ → List ℕ → Who → Heard → Type 0
HasMissed heard id epoch ts key by h =
    (writes : List (List ℕ × ℕ)) × MetStaging id epoch ts writes h × Any (WasMissed id epoch ts writes key by) heard

-- The put met an intent at this reply, and a push of its holder was refused later.
abbrev pub IsRefusedHere : TxnId → ℕ → ℕ → Heard → List Heard → Type 0
IsRefusedHere id epoch seq h later =
    IsTrue (is_put_of id epoch seq h.request)
    × ((holder : TxnId) × IsTrue (is_conflict_with holder h.reply) × Any (λ x. IsTrue (was_refused holder x)) later)
