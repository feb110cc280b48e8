-- What a session sent, heard and read lies in one range each.
use Rattle.std.specs.Prelude.{◌≡◌, ℕ, false, List, All, Contains}
use Rattle.pc_world.specs.Known.{Known}
use Rattle.pc_world.specs.Known.Transactions.{Txn}
use Rattle.pc_world.specs.RangeOf.{IsForOne, LiesInOne}
use Rattle.pc_proto.specs.declared.request.Request.{Request}
use Rattle.pc_wave.specs.Standing.{goes_beside}
use Rattle.pc_world.specs.Known.Traffic.{Sent}
use Rattle.pc_world.specs.SameRequest.{IsSameRequest}
use Rattle.pc_world.specs.Tell.Refusal.{is_heard}

-- Each span that the transaction read lies in one range.
abbrev pub ReadsInOne : List (List ℕ) → Txn → Type 0
ReadsInOne splits t = All (λ r. LiesInOne splits r.span) t.reads

-- Each message of the session is for one range, and so is what its transactions read.
pub record IsRanged (splits : List (List ℕ)) (k : Known) : Type 0 where
  pub heard : All (λ h. IsForOne splits h.request) k.heard_now
  pub sent : All (λ m. IsForOne splits m.request) k.sent
  pub reads : All (ReadsInOne splits) k.txns

-- The messages of this request, among these, went to this range.
abbrev pub GoesWhereItWent : ℕ → Request → List Sent → Type 0
GoesWhereItWent range request sent = All (λ m. IsSameRequest request m.request → m.range ≡ range) sent

-- Of what is not heard, messages of one request went to one range.
abbrev pub WentToOneRange : Known → Type 0
WentToOneRange k =
    (one other : Sent) → Contains k.sent one → Contains k.sent other → is_heard k.heard one ≡ false → is_heard k.heard other ≡ false → goes_beside one.request ≡ false
    → IsSameRequest one.request other.request → one.range ≡ other.range
