-- A request that speaks of no key is answered by the records alone, and changes nothing else.
use Rattle.std.proofs.Common.{◌≡◌, ℕ, List, Option, refl}
use Rattle.pc_base.specs.declared.span.Span.{Span}
use Rattle.pc_base.specs.declared.transaction.TxnId.{TxnId}
use Rattle.pc_base.specs.declared.transaction.Who.{Who}
use Rattle.pc_proto.specs.declared.fate.Fate.{Fate}
use Rattle.pc_proto.specs.declared.meta.TxnMeta.{TxnMeta}
use Rattle.pc_proto.specs.declared.request.Request.{Request}
use Rattle.pc_proto.specs.declared.request.Request.TheVariants as requests
use Rattle.pc_proto.specs.RecordRows.{record_reply, table_after}
use Rattle.pc_world.specs.RangeState.{RangeState}
use Rattle.pc_world.specs.Evaluation.{reply, state_after}

-- The reply is that of the records, and only the records change.
pub record IsOnRecord (request : Request) (s : RangeState) : Type 0 where
  pub same_reply : reply request s ≡ record_reply request s.table
  pub same_state : state_after request s ≡ record s { table = table_after request s.table }

pub on_record : (request : Request) (s : RangeState) → ((id : TxnId) (epoch seq ts : ℕ) (key : List ℕ) → request ≡ requests.Get id epoch seq ts key → ⊥) → ((id : TxnId) (epoch seq ts : ℕ) (span : Span) → request ≡ requests.Scan id epoch seq ts span → ⊥) → ((meta : TxnMeta) (seq ts : ℕ) (key : List ℕ) (value : Option (List ℕ)) → request ≡ requests.Put meta seq ts key value → ⊥) → ((id : TxnId) (from to : ℕ) (span : Span) → request ≡ requests.Refresh id from to span → ⊥) → ((id : TxnId) (epoch seq ts : ℕ) (key : List ℕ) (by : Who) → request ≡ requests.Query id epoch seq ts key by → ⊥) → ((id : TxnId) (key : List ℕ) (fate : Fate) → request ≡ requests.Resolve id key fate → ⊥) → IsOnRecord request s
on_record (requests.Get id epoch seq ts key) s get scan put refresh query resolve = absurd (get id epoch seq ts key refl)
on_record (requests.Scan id epoch seq ts span) s get scan put refresh query resolve = absurd (scan id epoch seq ts span refl)
on_record (requests.Put meta seq ts key value) s get scan put refresh query resolve = absurd (put meta seq ts key value refl)
on_record (requests.Refresh id from to span) s get scan put refresh query resolve = absurd (refresh id from to span refl)
on_record (requests.Query id epoch seq ts key by) s get scan put refresh query resolve = absurd (query id epoch seq ts key by refl)
on_record (requests.Resolve id key fate) s get scan put refresh query resolve = absurd (resolve id key fate refl)
on_record _ s get scan put refresh query resolve = record { same_reply = refl; same_state = refl }
