-- Why a commit gives up stays so once one more reply was heard, which is no conflict and moves nothing.
use Rattle.std.proofs.Common.{◌≡◌, true, false, cond, ◌⊎◌, inl, inr, List, [], ◌∷◌, ◌++◌, Some, fold, map, sym, ap, ◌∙◌, arith, Any, IsTrue}
use Rattle.std.proofs.lemmas.Bool.{and_parts}
use Rattle.std.proofs.lemmas.List.Elements.{All-cons, All-nil, All-push, All-weaker}
use Rattle.std.proofs.lemmas.List.Sums.{fold-append}
use Rattle.pc_base.specs.declared.limits.TheConstants.{MOST_CONFLICTS, MOST_REFUSALS}
use Rattle.pc_base.specs.declared.span.Span.{Span}
use Rattle.pc_base.specs.declared.transaction.TxnId.{TxnId}
use Rattle.pc_call.proofs.Facts.{open_is}
use Rattle.pc_call.specs.GivingUp.{IsBlockedWhy, IsWhy}
use Rattle.pc_call.specs.Learned.{known_heard}
use Rattle.pc_call.specs.Serving.{IsOpenIn}
use Rattle.pc_follows.specs.Eighth.{WasMovedEighth}
use Rattle.pc_follows.specs.NextBlock.{IsAtItsEighth, IsBlockedNow, IsNextBlock, IsPassedBlock}
use Rattle.pc_follows.specs.Refreshes.{IsNoneBefore, MetWrite}
use Rattle.pc_follows.specs.RoundsMade.{RoundCount, no_rounds, rounds_after, rounds_made, with_conflict}
use Rattle.pc_follows.specs.RoundOrder.{with_waiting}
use Rattle.pc_lists.proofs.Anywhere.{any_kept}
use Rattle.pc_proto.specs.declared.answer.Answer.{Answer}
use Rattle.pc_proto.specs.declared.answer.Answer.TheVariants as answers
use Rattle.pc_proto.specs.declared.request.Request.{Request}
use Rattle.pc_proto.specs.Replies.{is_conflict, status_ts}
use Rattle.pc_wave.proofs.Lists.{at_least-before, at_least-kept}
use Rattle.pc_world.specs.Counting.{LastIs}
use Rattle.pc_world.specs.Known.{Known}
use Rattle.pc_world.specs.Known.Traffic.{Heard}
use Rattle.pc_world.specs.Known.Transactions.{Txn, txn_heard}
use Rattle.pc_world.specs.Send.Recovery.{was_refused}
use Rattle.pc_world.specs.Tell.Data.{was_sent_now}
use Rattle.pc_world.specs.Tell.Refusal.{IsConflictOf, MetEight, WasMoved, is_moved}

-- the last element that is so is the last one before another that is not
last_kept : {X : Type 0} (P Q : X → Type 0) (xs : List X) (y : X) → (P y → ⊥) → LastIs P Q xs → LastIs P Q (xs ++ y ∷ [])
last_kept P Q [] y unlike l = absurd l
last_kept P Q (x ∷ xs) y unlike l = elim l [ inl later ↦ inl (last_kept P Q xs y unlike later) | inr here ↦ inr (here.0, here.1, All-push (λ z. P z → ⊥) xs y here.2 unlike) ]

module _ (k k2 : Known) (up : (request : Request) → IsAtItsEighth k request → IsAtItsEighth k2 request) (back : (request : Request) → IsAtItsEighth k2 request → IsAtItsEighth k request) (holder : TxnId) where
  -- the next conflict blocks the call as before
  pub next_on : (rounds_made k2).waiting ≡ (rounds_made k).waiting → (rounds_made k2).push ≡ (rounds_made k).push → IsNextBlock k holder → IsNextBlock k2 holder
  next_on waiting push b = record {
    meta = b.meta;
    key = b.key;
    next = record { conflict = b.next.conflict; later = b.next.later; ts = b.next.ts; waits = waiting ∙ b.next.waits; met = b.next.met };
    whose = b.whose;
    why = elim b.why [ inl e ↦ inl (push ∙ e.0, up b.next.conflict.request e.1) | inr r ↦ inr (r.0, push ∙ r.1, r.2) ];
  }

  -- and so does one that a stage passed over
  pub passed_on : (rounds_made k2).passed ≡ (rounds_made k).passed → IsPassedBlock k holder → IsPassedBlock k2 holder
  passed_on passed b = record {
    meta = b.meta;
    key = b.key;
    ts = b.ts;
    before = b.before;
    conflict = b.conflict;
    later = b.later;
    passed = passed ∙ b.passed;
    met = b.met;
    whose = b.whose;
    eighth = up b.conflict.request b.eighth;
    first = All-weaker (λ h. IsAtItsEighth k h.request → ⊥) (λ h. IsAtItsEighth k2 h.request → ⊥) (λ h no eight. no (back h.request eight)) b.before b.first;
  }

module _ (k : Known) (t : Txn) (h : Heard) (open_in : IsOpenIn k t) where
  opened2 : IsOpenIn (known_heard h k) (txn_heard k.sent (Some h) t)
  opened2 = record { others = map (txn_heard k.sent (Some h)) open_in.others; is_open = open_in.is_open; first = ap (map (txn_heard k.sent (Some h))) open_in.first }

  -- the rounds after one more reply
  pub made_then : rounds_made (known_heard h k) ≡ rounds_after (Some t) (rounds_made k) h
  made_then =
      ap (λ o. fold (rounds_after o) no_rounds (k.heard_now ++ h ∷ [])) (open_is (known_heard h k) (txn_heard k.sent (Some h) t) opened2)
      ∙ fold-append (rounds_after (Some (txn_heard k.sent (Some h) t))) no_rounds k.heard_now (h ∷ [])
      ∙ ap (λ o. rounds_after (Some t) (fold (rounds_after o) no_rounds k.heard_now) h) (sym (open_is k t open_in))

module _ (k : Known) (t : Txn) (h : Heard) (open_in : IsOpenIn k t) (plain : is_conflict h.reply ≡ false) where
  abbrev k2 : Known
  k2 = known_heard h k

  no_conflict : (request : Request) → IsConflictOf request h → ⊥
  no_conflict request c = let met : is_conflict h.reply ≡ true = c.conflict in absurd cc

  pub eighth_up : (request : Request) → IsAtItsEighth k request → IsAtItsEighth k2 request
  eighth_up request eight = at_least-kept (IsConflictOf request) MOST_CONFLICTS k.heard_now (h ∷ []) eight

  pub eighth_back : (request : Request) → IsAtItsEighth k2 request → IsAtItsEighth k request
  eighth_back request eight =
      let P : Heard → Type 0 = IsConflictOf request in
      at_least-before P MOST_CONFLICTS k.heard_now (h ∷ []) (All-cons (λ h. P h → ⊥) h [] (no_conflict request) (All-nil (λ h. P h → ⊥))) eight

  -- no conflict waits more
  pub with_none : (r : RoundCount) → with_conflict h r ≡ r
  with_none r = ap (λ b. record r { waiting = cond b (with_waiting h r.waiting) r.waiting }) plain

  module _ (still : is_moved h.request h.reply ≡ false) where
    unmoved : WasMoved k h → ⊥
    unmoved was = let moved : is_moved h.request h.reply ≡ true = (and_parts (was_sent_now k h) (is_moved h.request h.reply) was).1 in absurd cc

    pub moved_back : WasMovedEighth k2 → WasMovedEighth k
    moved_back eight =
        let P : Heard → Type 0 = WasMoved k in
        at_least-before P MOST_REFUSALS k.heard_now (h ∷ []) (All-cons (λ h. P h → ⊥) h [] unmoved (All-nil (λ h. P h → ⊥))) eight

    -- a conflict blocks it as before
    pub blocked_on : (holder : TxnId) → IsBlockedNow k2 holder → (Any (λ h. IsTrue (was_refused holder h)) k.heard_now ⊎ MetEight holder k.heard_now) → (WasMovedEighth k → ⊥) → IsBlockedWhy k2 holder
    blocked_on holder next why fewer = record {
      next = next;
      why = elim why [
        | inl refused ↦ inl (any_kept (λ h. IsTrue (was_refused holder h)) k.heard_now (h ∷ []) refused)
        | inr e ↦ inr (record { request = e.request; eight = eighth_up e.request e.eight; last = last_kept (IsConflictOf e.request) _ k.heard_now h (no_conflict e.request) e.last })
      ];
      fewer = λ eight. fewer (moved_back eight);
    }

    module _ (same : rounds_made k2 ≡ rounds_made k) (unmet : (span : Span) → IsNoneBefore span h.request h.reply) where
      -- so is why it gives up
      pub why_on : (answer : Answer) → IsWhy k answer → IsWhy k2 answer
      why_on (answers.Restart key ts) w = record {
        first = record {
          span = w.first.span;
          met = any_kept (MetWrite w.first.span key ts) k.heard_now (h ∷ []) w.first.met;
          first = All-push (λ h. IsNoneBefore w.first.span h.request h.reply) k.heard_now h w.first.first (unmet w.first.span);
        };
        low = let low = w.low in omega (arith, low);
        fewer = λ eight. w.fewer (moved_back eight);
      }
      why_on (answers.Blocked holder) w =
          blocked_on holder
          (elim w.next [
            | inl next ↦ inl (next_on k k2 eighth_up eighth_back holder (ap (λ (r : RoundCount). r.waiting) same) (ap (λ (r : RoundCount). r.push) same) next)
            | inr passed ↦ inr (passed_on k k2 eighth_up eighth_back holder (ap (λ (r : RoundCount). r.passed) same) passed)
          ])
          w.why w.fewer
      why_on (answers.Moved ts) w = record {
        eight = at_least-kept (WasMoved k) MOST_REFUSALS k.heard_now (h ∷ []) w.eight;
        last = last_kept (WasMoved k) (λ h. status_ts h.reply ≡ ts) k.heard_now h unmoved w.last;
      }
      why_on answer w = absurd w
