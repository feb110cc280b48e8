-- What a session does beside its coordinator: the messages of conflicts' rounds and of finishing jobs.
use Rattle.std.specs.Prelude.{◌≡◌, ◌+◌, ◌≤◌, ◌⊎◌, true, false, None, Some, List, ◌++◌, map, All, IsTrue, length, Bool}
use Rattle.pc_coord.specs.Coordination.{Coordination}
use Rattle.pc_proto.specs.declared.request.Request.{Request}
use Rattle.pc_proto.specs.Requests.{is_about, is_commit}
use Rattle.pc_proto.specs.Stamps.{request_stamps}
use Rattle.pc_txn.specs.Counted.{IsOwn}
use Rattle.pc_txn.specs.declared.txn.OpenTxn.{OpenTxn}
use Rattle.pc_txn.specs.Standing.{is_query_of}
use Rattle.pc_wave.specs.Standing.{goes_beside}
use Rattle.pc_world.specs.Known.{Known, open_txn}
use Rattle.pc_world.specs.Known.Traffic.{Heard, Sent}
use Rattle.pc_world.specs.Tell.Refusal.{is_heard}
use Rattle.pc_coord.specs.Ranged.{WentToOneRange}

-- The request goes beside the waves of calls, of a round or of a finishing job, which may begin by a commit, between calls; it speaks of no record of the open transaction, asks for no write of
-- it, and of the session's own transactions it speaks only of those that were begun.
pub record IsBeside (c : Coordination) (start : Known) (request : Request) : Type 0 where
  pub kind : (goes_beside request ≡ true) ⊎ ((start.statement ≡ None) × (is_commit request ≡ true))
  pub own : IsOwn c.session c.begun request
  pub other : (x : OpenTxn) → c.txn ≡ Some x → is_about x.id request ≡ false
  pub unqueried : (x : OpenTxn) → c.txn ≡ Some x → is_query_of x.id request ≡ false

-- The open transaction is as it was, and each transaction has read what it had.
pub record KeepsTxns (start k : Known) : Type 0 where
  pub first : open_txn k ≡ open_txn start
  pub reads : map (λ t. t.reads) k.txns ≡ map (λ t. t.reads) start.txns

-- Since then the session has only sent such messages, under new numbers, and heard replies to them, to each commit one unless messages may be lost, where those of one request
-- went to one range; and no timestamp that they hold is above the greatest that it knows.
pub record IsLaterBeside (loses : Bool) (c : Coordination) (start k : Known) : Type 0 where
  pub sent_more : List Sent
  pub heard_more : List Heard
  pub statement : k.statement ≡ start.statement
  pub begun : k.begun ≡ start.begun
  pub is_open : k.is_open ≡ start.is_open
  pub txns : KeepsTxns start k
  pub sent : k.sent ≡ start.sent ++ sent_more
  pub sent_now : k.sent_now ≡ start.sent_now ++ sent_more
  pub heard : k.heard ≡ start.heard ++ heard_more
  pub heard_now : k.heard_now ≡ start.heard_now ++ heard_more
  pub sent_beside : All (λ m. IsBeside c start m.request) sent_more
  pub heard_beside : All (λ h. IsBeside c start h.request) heard_more
  pub sent_heard : loses ≡ false → All (λ m. (goes_beside m.request ≡ true) ⊎ IsTrue (is_heard k.heard m)) sent_more
  pub one_range : loses ≡ true → WentToOneRange k
  pub sent_first : All (λ m. length start.sent + 1 ≤ m.number) sent_more
  pub heard_first : All (λ h. length start.sent + 1 ≤ h.number) heard_more
  pub sent_numbers : All (λ m. m.number ≤ length k.sent) sent_more
  pub heard_numbers : All (λ h. h.number ≤ length k.sent) heard_more
  pub sent_low : All (λ m. All (λ ts. ts ≤ k.top) (request_stamps m.request)) sent_more
  pub heard_low : All (λ h. All (λ ts. ts ≤ k.top) (request_stamps h.request)) heard_more
  pub high : start.high ≤ k.high
  pub top : start.top ≤ k.top
  pub below : k.high ≤ k.top
