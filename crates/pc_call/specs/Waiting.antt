-- For which writes in flight a call waits. SIGMOD 2020 paper, section 3.1.
use Rattle.std.specs.Prelude.{◌≡◌, ℕ, Bool, false, ◌||◌, nat_le, List, length, ⊤}
use Rattle.std.specs.List.{list_any}
use Rattle.pc_base.specs.declared.limits.TheConstants.{MOST_IN_FLIGHT}
use Rattle.pc_base.specs.declared.span.Span.TheVariants.{One}
use Rattle.pc_base.specs.Span.{contains, same_key}
use Rattle.pc_flight.specs.declared.write.WriteInFlight.{WriteInFlight}
use Rattle.pc_proto.specs.declared.call.Call.{Call}
use Rattle.pc_proto.specs.declared.call.Call.TheVariants as calls
use Rattle.pc_proto.specs.declared.meta.TxnMeta.{TxnMeta}
use Rattle.pc_proto.specs.declared.request.Request.TheVariants as requests
use Rattle.pc_wave.specs.declared.message.Message.{Message}

-- The call waits for writes of this key that are in flight: it reads the key, or writes it.
abbrev pub depends_on : Call → List ℕ → Bool
depends_on (calls.Get own) key = contains (One own) key
depends_on (calls.Scan span) key = contains span key
depends_on (calls.Put own value) key = same_key key own
depends_on (calls.Delete own) key = same_key key own
depends_on _ key = false

-- The call reads or writes, so it may begin behind proofs of earlier writes.
abbrev pub BeginsBehindProofs : Call → Type 0
BeginsBehindProofs (calls.Get key) = ⊤
BeginsBehindProofs (calls.Scan span) = ⊤
BeginsBehindProofs (calls.Put key value) = ⊤
BeginsBehindProofs (calls.Delete key) = ⊤
BeginsBehindProofs _ = ⊥

-- The call waits for all writes in flight: it writes, and as many are in flight as there may be.
abbrev pub waits_for_all : Call → List WriteInFlight → Bool
waits_for_all (calls.Put key value) flight = nat_le MOST_IN_FLIGHT (length flight)
waits_for_all (calls.Delete key) flight = nat_le MOST_IN_FLIGHT (length flight)
waits_for_all _ flight = false

-- The call waits for a write of this key that is in flight: it waits for all, or depends on the key.
abbrev pub waits_on : Call → Bool → List ℕ → Bool
waits_on call all key = all || depends_on call key

-- The call waits for some of these writes in flight.
abbrev pub waits_for_some : Call → List WriteInFlight → Bool
waits_for_some call flight = list_any (λ w. waits_on call (waits_for_all call flight) w.key) flight

-- The message sends this write.
abbrev pub SendsWrite : WriteInFlight → Message → Type 0
SendsWrite w m = (meta : TxnMeta) × (ts : ℕ) × (m.request ≡ requests.Put meta w.seq ts w.key w.value)
