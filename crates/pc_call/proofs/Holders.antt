-- The holders of the intents that an open call met.
use Rattle.std.proofs.Common.{◌≡◌, ℕ, ◌+◌, ◌≤◌, Bool, true, false, cond, List, [], ◌∷◌, ◌++◌, find, Option, None, Some, refl, sym, ap, ◌∙◌, arith, count_by}
use Rattle.std.specs.Option.{option_to_list}
use Rattle.pc_base.specs.declared.transaction.TxnId.{TxnId}
use Rattle.pc_base.specs.Transaction.{same_txn}
use Rattle.pc_call.specs.Serving.{holder_met, holders_met}
use Rattle.pc_lists.proofs.Counts.{count-append, count-cons, one_if}
use Rattle.pc_lists.proofs.Same.{same_txn-self}
use Rattle.pc_proto.specs.declared.reply.Reply.{Reply}
use Rattle.pc_proto.specs.Replies.{holder_in, is_conflict}
use Rattle.pc_wave.specs.declared.message.Message.{Message}
use Rattle.pc_wave.specs.declared.message.Progress.{Progress}
use Rattle.pc_wave.specs.declared.message.Progress.TheVariants as progresses
use Rattle.pc_wave.specs.Messages.{awaits_at, back_with, back_with_by, conflicts_at, first_changed, goes_again, is_to_send, progress_awaits, progress_to_send, sent_under}

-- what goes out meets nothing yet
sent_meets : (p : Progress) → progress_to_send p ≡ true → holder_met p ≡ None
sent_meets progresses.ToSend is = refl
sent_meets (progresses.Sent number) is = absurd cc
sent_meets (progresses.Met number conflict) is = absurd cc
sent_meets (progresses.Answered number reply) is = absurd cc

-- a message that goes out leaves the holders as they are
pub holders_sent : (number : ℕ) (ms : List Message) → holders_met (first_changed is_to_send (sent_under number) ms) ≡ holders_met ms
holders_sent number [] = refl
holders_sent number (m ∷ ms) = by (holders_sent number ms) (is_to_send m) refl
  where
    by : holders_met (first_changed is_to_send (sent_under number) ms) ≡ holders_met ms → (b : Bool) → is_to_send m ≡ b
        → holders_met (cond b (sent_under number m ∷ ms) (m ∷ first_changed is_to_send (sent_under number) ms)) ≡ holders_met (m ∷ ms)
    by later true is = ap (λ o. option_to_list o ++ holders_met ms) (sym (sent_meets m.progress is))
    by later false is = ap (λ hs. option_to_list (holder_met m.progress) ++ hs) later

module _ (id : TxnId) where
  abbrev pub is_id : TxnId → Bool
  is_id other = same_txn other id

  one_here : (m : Message) (ms : List Message) → holder_met m.progress ≡ Some id → 1 ≤ count_by is_id (holders_met (m ∷ ms))
  one_here m ms met =
      let e : holders_met (m ∷ ms) ≡ id ∷ holders_met ms = ap (λ o. option_to_list o ++ holders_met ms) met in
      let c : count_by is_id (holders_met (m ∷ ms)) ≡ one_if (is_id id) + count_by is_id (holders_met ms) = ap (count_by is_id) e ∙ count-cons is_id id (holders_met ms) in
      let o : one_if (is_id id) ≡ 1 = ap one_if (same_txn-self id) in
      omega arith

  -- the holder of a message that is found is among them
  pub holder_counted : (test : Message → Bool) (ms : List Message) (m : Message) → find test ms ≡ Some m → holder_met m.progress ≡ Some id → 1 ≤ count_by is_id (holders_met ms)
  holder_counted test [] m found met = absurd cc
  holder_counted test (y ∷ ms) m found met = by (λ there. holder_counted test ms m there met) (test y) found
    where
      by : (find test ms ≡ Some m → 1 ≤ count_by is_id (holders_met ms)) → (b : Bool) → cond b (Some y) (find test ms) ≡ Some m → 1 ≤ count_by is_id (holders_met (y ∷ ms))
      by later true here = let same : y ≡ m = cc in one_here y ms (ap (λ z. holder_met z.progress) same ∙ met)
      by later false there =
          let low = later there in
          let e = count-append is_id (option_to_list (holder_met y.progress)) (holders_met ms) in
          omega arith

-- The holder that a reply shows, where it is a conflict.
abbrev pub met_by : Reply → Option TxnId
met_by reply = cond (is_conflict reply) (holder_in reply) None

after_back : (number : ℕ) (reply : Reply) (m : Message) → holder_met (back_with number reply m).progress ≡ met_by reply
after_back number reply m = elim (is_conflict reply) as (λ b. holder_met (back_with_by b number reply m).progress ≡ cond b (holder_in reply) None) [ true ↦ refl | false ↦ refl ]

awaited_meets : (n : ℕ) (p : Progress) → progress_awaits n p ≡ true → holder_met p ≡ None
awaited_meets n progresses.ToSend is = absurd cc
awaited_meets n (progresses.Sent number) is = refl
awaited_meets n (progresses.Met number conflict) is = absurd cc
awaited_meets n (progresses.Answered number reply) is = absurd cc

-- how many holders there are with one more reply
pub holders_heard : (id : TxnId) (number : ℕ) (reply : Reply) (ms : List Message) (m : Message) → find (awaits_at number) ms ≡ Some m
    → count_by (is_id id) (holders_met (first_changed (awaits_at number) (back_with number reply) ms)) ≡ count_by (is_id id) (option_to_list (met_by reply)) + count_by (is_id id) (holders_met ms)
holders_heard id number reply [] m found = absurd cc
holders_heard id number reply (y ∷ ms) m found = by (λ there. holders_heard id number reply ms m there) (awaits_at number y) refl found
  where
    by : (find (awaits_at number) ms ≡ Some m → count_by (is_id id) (holders_met (first_changed (awaits_at number) (back_with number reply) ms)) ≡ count_by (is_id id) (option_to_list (met_by reply)) + count_by (is_id id) (holders_met ms))
        → (b : Bool) → awaits_at number y ≡ b → cond b (Some y) (find (awaits_at number) ms) ≡ Some m
        → count_by (is_id id) (holders_met (cond b (back_with number reply y ∷ ms) (y ∷ first_changed (awaits_at number) (back_with number reply) ms))) ≡ count_by (is_id id) (option_to_list (met_by reply)) + count_by (is_id id) (holders_met (y ∷ ms))
    by later true is here =
        let e : count_by (is_id id) (option_to_list (holder_met (back_with number reply y).progress) ++ holders_met ms) ≡ count_by (is_id id) (option_to_list (met_by reply) ++ holders_met ms) =
        ap (λ o. count_by (is_id id) (option_to_list o ++ holders_met ms)) (after_back number reply y) in
        e ∙ count-append (is_id id) (option_to_list (met_by reply)) (holders_met ms)
        ∙ ap (λ o. count_by (is_id id) (option_to_list (met_by reply)) + count_by (is_id id) (option_to_list o ++ holders_met ms)) (sym (awaited_meets number y.progress is))
    by later false is there =
        let l = later there in
        let a = count-append (is_id id) (option_to_list (holder_met y.progress)) (holders_met ms) in
        let b = count-append (is_id id) (option_to_list (holder_met y.progress)) (holders_met (first_changed (awaits_at number) (back_with number reply) ms)) in
        omega arith

-- a message that goes out again leaves its holder behind
pub holders_again : (id holder : TxnId) (number : ℕ) (ms : List Message) (m : Message) → find (conflicts_at number) ms ≡ Some m → holder_met m.progress ≡ Some holder
    → count_by (is_id id) (holders_met (first_changed (conflicts_at number) goes_again ms)) + one_if (same_txn holder id) ≡ count_by (is_id id) (holders_met ms)
holders_again id holder number [] m found met = absurd cc
holders_again id holder number (y ∷ ms) m found met = by (λ there. holders_again id holder number ms m there met) (conflicts_at number y) found
  where
    by : (find (conflicts_at number) ms ≡ Some m → count_by (is_id id) (holders_met (first_changed (conflicts_at number) goes_again ms)) + one_if (same_txn holder id) ≡ count_by (is_id id) (holders_met ms))
        → (b : Bool) → cond b (Some y) (find (conflicts_at number) ms) ≡ Some m
        → count_by (is_id id) (holders_met (cond b (goes_again y ∷ ms) (y ∷ first_changed (conflicts_at number) goes_again ms))) + one_if (same_txn holder id) ≡ count_by (is_id id) (holders_met (y ∷ ms))
    by later true here =
        let same : y ≡ m = cc in
        let e : holders_met (y ∷ ms) ≡ holder ∷ holders_met ms = ap (λ o. option_to_list o ++ holders_met ms) (ap (λ z. holder_met z.progress) same ∙ met) in
        let c : count_by (is_id id) (holders_met (y ∷ ms)) ≡ one_if (same_txn holder id) + count_by (is_id id) (holders_met ms) = ap (count_by (is_id id)) e ∙ count-cons (is_id id) holder (holders_met ms) in
        omega arith
    by later false there =
        let l = later there in
        let a = count-append (is_id id) (option_to_list (holder_met y.progress)) (holders_met ms) in
        let b = count-append (is_id id) (option_to_list (holder_met y.progress)) (holders_met (first_changed (conflicts_at number) goes_again ms)) in
        omega arith
