-- No round of an open call is left: none of its conflicts waits, and none is begun.
use Rattle.std.proofs.Common.{◌≡◌, ℕ, ◌+◌, ◌≤◌, false, true, cond, List, [], ◌∷◌, length, Option, Some, fold, refl, ap, ◌∙◌, All}
use Rattle.std.proofs.lemmas.List.Elements.{All-head, All-tail}
use Rattle.pc_call.proofs.WhySent.{rounds_sent}
use Rattle.pc_call.proofs.WhyStays.{made_then, with_none}
use Rattle.pc_call.specs.Fresh.{ShowsAlive}
use Rattle.pc_call.specs.Learned.{known_heard, known_sent}
use Rattle.pc_call.specs.Met.{IsWithoutConflict}
use Rattle.pc_call.specs.Serving.{IsOpenIn}
use Rattle.pc_follows.specs.Heartbeats.{is_heartbeat}
use Rattle.pc_follows.specs.RoundOrder.{with_waiting}
use Rattle.pc_follows.specs.RoundsMade.{RoundCount, all_passed, gone_on, no_rounds, rounds_after, rounds_by, rounds_made, with_conflict}
use Rattle.pc_proto.specs.declared.reply.Reply.{Reply}
use Rattle.pc_proto.specs.declared.reply.Reply.TheVariants as replies
use Rattle.pc_proto.specs.declared.request.Request.{Request}
use Rattle.pc_proto.specs.declared.request.Request.TheVariants as requests
use Rattle.pc_proto.specs.Replies.{is_conflict, is_undecided_status}
use Rattle.pc_world.specs.Known.{Known, open_txn}
use Rattle.pc_world.specs.Known.Traffic.{Heard}
use Rattle.pc_world.specs.Known.Transactions.{Txn}

undecided_met_none : (reply : Reply) → is_undecided_status reply ≡ true → is_conflict reply ≡ false
undecided_met_none (replies.Conflict holder ts key) is = absurd cc
undecided_met_none reply is = refl

beat_leaves : (o : Option Txn) (h : Heard) (q : Request) (reply : Reply) (r : RoundCount) → is_heartbeat q ≡ true → rounds_by o h q reply r ≡ r
beat_leaves o h (requests.Beat meta ts now) reply r is = refl
beat_leaves o h q reply r is = absurd cc

-- heartbeats that found the transaction alive begin none
after_beats : (o : Option Txn) (hs : List Heard) → All ShowsAlive hs → fold (rounds_after o) no_rounds hs ≡ no_rounds
after_beats o [] a = refl
after_beats o (h ∷ hs) a =
    let alive = All-head ShowsAlive h hs a in
    let none : with_conflict h no_rounds ≡ no_rounds = ap (λ b. record no_rounds { waiting = cond b (with_waiting h []) [] }) (undecided_met_none h.reply alive.undecided) in
    let one : rounds_after o no_rounds h ≡ no_rounds = beat_leaves o h h.request h.reply (with_conflict h no_rounds) alive.beat ∙ none in
    ap (λ r. fold (rounds_after o) r hs) one ∙ after_beats o hs (All-tail ShowsAlive h hs a)

pub rounds_fresh : (k : Known) → All ShowsAlive k.heard_now → rounds_made k ≡ no_rounds
rounds_fresh k heard = after_beats (open_txn k) k.heard_now heard

pub settled_fresh : (k : Known) → All ShowsAlive k.heard_now → IsWithoutConflict k
settled_fresh k heard =
    let e : rounds_made k ≡ no_rounds = rounds_fresh k heard in
    record { waiting = ap (λ (r : RoundCount). r.waiting) e; push = ap (λ (r : RoundCount). r.push) e }

-- none is left once a message went out
pub settled_sent : (k : Known) (t : Txn) (open_in : IsOpenIn k t) (number range : ℕ) (request : Request) → length k.sent + 1 ≤ number → All (λ h. h.number ≤ length k.sent) k.heard_now → IsWithoutConflict k → IsWithoutConflict (known_sent number range request k)
settled_sent k t open_in number range request new low s =
    let e : rounds_made (known_sent number range request k) ≡ rounds_made k = rounds_sent k t open_in number range request new low in
    record { waiting = ap (λ (r : RoundCount). r.waiting) e ∙ s.waiting; push = ap (λ (r : RoundCount). r.push) e ∙ s.push }

module _ (k : Known) (t : Txn) (h : Heard) (open_in : IsOpenIn k t) (plain : is_conflict h.reply ≡ false) where
  -- nor once a reply was heard with which the call goes on
  pub settled_heard : ((r : RoundCount) → rounds_by (Some t) h h.request h.reply r ≡ gone_on r) → IsWithoutConflict k → IsWithoutConflict (known_heard h k)
  settled_heard on s =
      let e : rounds_made (known_heard h k) ≡ gone_on (rounds_made k) =
      made_then k t h open_in ∙ ap (λ r. rounds_by (Some t) h h.request h.reply r) (with_none k t h open_in plain (rounds_made k)) ∙ on (rounds_made k) in
      record { waiting = ap (λ (r : RoundCount). r.waiting) e ∙ s.waiting; push = ap (λ (r : RoundCount). r.push) e ∙ s.push }

-- a stage that is refused leaves none
pub settled_passed : (k : Known) (r : RoundCount) → rounds_made k ≡ all_passed r → IsWithoutConflict k
settled_passed k r e = record { waiting = ap (λ (r : RoundCount). r.waiting) e; push = ap (λ (r : RoundCount). r.push) e }
