-- What is known inside an open call.
use Rattle.std.proofs.Common.{◌≡◌, ℕ, ◌+◌, ◌-◌, ◌≤◌, take, length-append, true, cond, List, ◌∷◌, Option, Some, None, refl, ap, ◌∙◌, arith, length, false, sym, All, [], Bool, ◌&&◌, ◌==◌}
use Rattle.std.proofs.Math.Seq.{take-append_seam}
use Rattle.std.proofs.lemmas.Bool.{and_parts, eqb-true}
use Rattle.std.proofs.lemmas.List.Elements.{All-weaker}
use Rattle.std.proofs.lemmas.Option.{same_Some}
use Rattle.pc_base.specs.declared.limits.TheConstants.{MOST_REFUSALS}
use Rattle.pc_call.specs.Serving.{IsOpenIn, IsSplit, write_call, IsOutOrLost, is_unsent}
use Rattle.pc_proto.specs.declared.request.Request.TheVariants as requests
use Rattle.pc_proto.specs.declared.meta.TxnMeta.{TxnMeta}
use Rattle.pc_refusals.specs.Moves.{CountsMoves, IsNoMove}
use Rattle.pc_txn.specs.Counted.{IsCounted, IsOwnHeard, IsOwnSent}
use Rattle.pc_wave.proofs.Lists.{at_least-before, at_least-fewer}
use Rattle.pc_wave.specs.Standing.{AreNumbered}
use Rattle.pc_follows.specs.CallMessages.{IsPlainFor}
use Rattle.pc_follows.specs.Eighth.{WasMovedEighth}
use Rattle.pc_world.specs.Known.{Known, first_if, open_txn}
use Rattle.pc_world.specs.Known.Transactions.{Txn}
use Rattle.pc_world.specs.Send.Put.{AsksFor}
use Rattle.pc_world.specs.Tell.Data.{sent_before, was_sent_now}
use Rattle.pc_world.specs.Tell.Refusal.{WasMoved, is_moved}
use Rattle.pc_proto.specs.declared.request.Request.{Request}
use Rattle.pc_proto.specs.declared.reply.Reply.{Reply}
use Rattle.pc_follows.specs.Heartbeats.{is_heartbeat}
use Rattle.pc_wave.specs.declared.message.Message.{Message}
use Rattle.pc_wave.specs.Messages.{is_to_send}

-- the first transaction is the open one
pub open_is : (k : Known) (t : Txn) → IsOpenIn k t → open_txn k ≡ Some t
open_is k t o = ap (λ b. first_if b k.txns) o.is_open ∙ ap (first_if true) o.first

-- it is open where it is the open one
pub open_by : (start k : Known) (t : Txn) → k.is_open ≡ start.is_open → open_txn k ≡ open_txn start → IsOpenIn start t → IsOpenIn k t
open_by start k t is_open first o = by k.txns refl
  where
    by : (ts : List Txn) → k.txns ≡ ts → IsOpenIn k t
    by [] none = let e : None ≡ Some t = sym (ap (first_if k.is_open) none) ∙ first ∙ open_is start t o in absurd cc
    by (u ∷ us) some =
        let e : Some u ≡ Some t = ap (λ b. cond b (Some u) None) (sym (is_open ∙ o.is_open)) ∙ sym (ap (first_if k.is_open) some) ∙ first ∙ open_is start t o in
        record { others = us; is_open = is_open ∙ o.is_open; first = some ∙ ap (λ v. v ∷ us) (same_Some u t e) }

-- the numbers are within their count
pub are_numbered : (session latest count : ℕ) (k : Known) → IsCounted session latest count k → AreNumbered k
are_numbered session latest count k c = record {
  sent = All-weaker (IsOwnSent session k.begun (length k.sent)) (λ m. m.number ≤ length k.sent) (λ m own. own.numbered) k.sent c.sent;
  heard = All-weaker (IsOwnHeard session k.begun (length k.sent)) (λ h. h.number ≤ length k.sent) (λ h own. own.numbered) k.heard c.heard;
}

pub asks_for : (key : List ℕ) (value : Option (List ℕ)) → AsksFor (Some (write_call key value)) key value
asks_for key None = refl
asks_for key (Some value) = refl

pub put_for : (key : List ℕ) (value : Option (List ℕ)) (meta : TxnMeta) (seq ts : ℕ) → IsPlainFor (write_call key value) (requests.Put meta seq ts key value)
put_for key None meta seq ts = refl
put_for key (Some value) meta seq ts = refl

-- a commit that was moved fewer times was not moved eight times
pub unmoved : (k : Known) (n : ℕ) → CountsMoves k n → n + 1 ≤ MOST_REFUSALS → WasMovedEighth k → ⊥
unmoved k n c low eight = c.no_more (at_least-fewer (WasMoved k) (n + 1) MOST_REFUSALS k.heard_now low eight)

-- what was sent before the open call is what stands before it
pub before_is : (k : Known) (s : IsSplit k) → sent_before k ≡ s.sent_first
before_is k s =
    let n : length k.sent - length k.sent_now ≡ length s.sent_first = omega (arith, ap length s.sent, length-append s.sent_first k.sent_now) in
    ap (λ n. take n k.sent) n ∙ ap (take (length s.sent_first)) s.sent ∙ take-append_seam s.sent_first k.sent_now

-- where nothing that was heard moves a stage or commit, none was moved eight times
pub unmoved_now : (k : Known) → All IsNoMove k.heard_now → WasMovedEighth k → ⊥
unmoved_now k none eight =
    let no : All (λ h. WasMoved k h → ⊥) k.heard_now =
    All-weaker IsNoMove (λ h. WasMoved k h → ⊥) (λ h still moved. let f : false ≡ true = sym still ∙ (and_parts (was_sent_now k h) (is_moved h.request h.reply) moved).1 in absurd cc) k.heard_now none in
    at_least-before (WasMoved k) MOST_REFUSALS [] k.heard_now no eight

-- a heartbeat moves no stage or commit
pub beat_moves : (r : Request) (reply : Reply) → is_heartbeat r ≡ true → is_moved r reply ≡ false
beat_moves (requests.Beat meta ts now) reply beat = refl
beat_moves r reply beat = absurd cc

-- what did not go out yet is to be sent
pub unsent_goes : (m : Message) → is_unsent m ≡ true → is_to_send m ≡ true
unsent_goes m unsent = by (is_to_send m) (m.lost == 0) unsent
  where
    by : (a b : Bool) → (a && b) ≡ true → a ≡ true
    by true b e = refl
    by false b e = absurd cc

-- nor was it lost
pub unsent_unlost : (m : Message) → is_unsent m ≡ true → m.lost ≡ 0
unsent_unlost m unsent = eqb-true m.lost 0 (by (is_to_send m) (m.lost == 0) unsent)
  where
    by : (a b : Bool) → (a && b) ≡ true → b ≡ true
    by true b e = e
    by false b e = absurd cc

-- where nothing is to be sent, each message went out
pub all_out : (ms : List Message) → All (λ m. is_to_send m ≡ false) ms → All IsOutOrLost ms
all_out ms out = All-weaker (λ m. is_to_send m ≡ false) IsOutOrLost (λ m none to_send. let f : false ≡ true = sym none ∙ to_send in absurd cc) ms out
