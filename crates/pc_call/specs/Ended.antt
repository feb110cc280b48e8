-- How a call that wrote ends, and how one begins that had writes to prove.
use Rattle.std.specs.Prelude.{ℕ, Option, None, Some, List, [], ◌∷◌, find}
use Rattle.pc_call.specs.Setting.{Setting}
use Rattle.pc_call.specs.declared.call.OpenCall.{OpenCall}
use Rattle.pc_call.specs.declared.purpose.Purpose.{Purpose}
use Rattle.pc_call.specs.declared.purpose.Purpose.TheVariants as purposes
use Rattle.pc_call.specs.Serving.{InCall}
use Rattle.pc_proto.specs.declared.call.Call.{Call}
use Rattle.pc_proto.specs.declared.call.Call.TheVariants as calls
use Rattle.pc_proto.specs.declared.request.Request.{Request}
use Rattle.pc_proto.specs.declared.request.Request.TheVariants as requests
use Rattle.pc_txn.specs.declared.txn.OpenTxn.{OpenTxn}
use Rattle.pc_txn.specs.Opened.{landed_at, next_put, own_get}
use Rattle.pc_wave.specs.declared.message.Message.{Message}
use Rattle.pc_wave.specs.Messages.{awaits_at, message_to_send}
use Rattle.pc_world.specs.Known.{Known}
use Rattle.pc_call.specs.Pieces.{scan_messages, spans_in}

-- A call whose own write of this key and value is to be sent.
abbrev pub laying : OpenTxn → List ℕ → Option (List ℕ) → OpenCall
laying x key value = record { purpose = purposes.Write; wave = message_to_send (next_put x key value) ∷ [] }

-- The transaction once the write of this request was written at this timestamp, by a reply that was evaluated at this step.
abbrev pub landed_with : Request → ℕ → ℕ → OpenTxn → OpenTxn
landed_with (requests.Put meta seq sent_at key value) ts step x = landed_at key seq ts step x
landed_with _ ts step x = x

-- The transaction once the first of these messages was so answered.
abbrev pub landed_first : List Message → ℕ → ℕ → OpenTxn → OpenTxn
landed_first [] ts step x = x
landed_first (m ∷ messages) ts step x = landed_with m.request ts step x

abbrev pub landed_by : Option Message → ℕ → ℕ → OpenTxn → OpenTxn
landed_by None ts step x = x
landed_by (Some m) ts step x = landed_with m.request ts step x

-- The transaction once the message of this number was so answered.
abbrev pub landed_awaited : ℕ → List Message → ℕ → ℕ → OpenTxn → OpenTxn
landed_awaited number messages ts step x = landed_by (find (awaits_at number) messages) ts step x

-- The call by its own messages, once all that it waited for is proved: it reads a key, or a span by a message to each range, or writes.
abbrev pub own_messages : List (List ℕ) → Call → OpenTxn → Option OpenCall
own_messages splits (calls.Get key) x = Some (record { purpose = purposes.Read; wave = message_to_send (own_get x key) ∷ [] })
own_messages splits (calls.Scan span) x = Some (record { purpose = purposes.Read; wave = scan_messages x (spans_in splits span) })
own_messages splits (calls.Put key value) x = Some (laying x key (Some value))
own_messages splits (calls.Delete key) x = Some (laying x key None)
own_messages splits _ x = None

abbrev pub own_messages_by : Purpose → List (List ℕ) → OpenTxn → Option OpenCall
own_messages_by (purposes.Prove call all) splits x = own_messages splits call x
own_messages_by _ splits x = None

-- The call goes on by these messages.
abbrev pub HasBegun : Setting → Known → OpenTxn → Option OpenCall → Type 0
HasBegun set k x None = ⊥
HasBegun set k x (Some call) = InCall set k x call.purpose call.wave
