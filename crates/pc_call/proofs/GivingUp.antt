-- A commit whose stages are dead gives up, and may be told so.
use Rattle.std.proofs.Common.{◌≡◌, ℕ, ◌+◌, ◌≤◌, true, false, List, [], None, refl, sym, ap, subst, arith}
use Rattle.std.proofs.lemmas.List.{append-nil}
use Rattle.std.proofs.lemmas.List.Elements.{All-cons, All-nil}
use Rattle.pc_call.specs.Setting.{Setting}
use Rattle.pc_base.specs.declared.transaction.TxnId.{TxnId}
use Rattle.pc_call.proofs.Beating.{beaten_told}
use Rattle.pc_call.proofs.Eighths.{any_eighth, no_eighth_move, told_moved}
use Rattle.pc_call.proofs.Facts.{open_is}
use Rattle.pc_call.proofs.Told.{blocked_keeps, may_tell, moved_keeps, stays_as_is, still_open}
use Rattle.pc_call.specs.GivenUp.{GivesUpBy, MayGiveUp}
use Rattle.pc_call.specs.GivingUp.{IsBlockedWhy, IsMovedWhy, IsRestartWhy, IsWhy}
use Rattle.pc_call.specs.Learned.{known_told}
use Rattle.pc_follows.specs.Refreshes.{MetWrite}
use Rattle.pc_lists.proofs.Anywhere.{any_weaker}
use Rattle.pc_proto.specs.declared.answer.Answer.{Answer}
use Rattle.pc_proto.specs.declared.answer.Answer.TheVariants as answers
use Rattle.pc_staging.specs.Kept.{is_over, without_stages}
use Rattle.pc_txn.proofs.Forgetting.{stands_forgotten}
use Rattle.pc_txn.proofs.Restarts.{restarted, stands_restarted}
use Rattle.pc_txn.proofs.Rows.{is_uncommitted}
use Rattle.pc_txn.specs.declared.txn.OpenTxn.{OpenTxn}
use Rattle.pc_txn.specs.Standing.{HasMovedOn, TxnStands}
use Rattle.pc_world.specs.Known.{Known}
use Rattle.pc_world.specs.MayTell.{is_past_range}
use Rattle.pc_world.specs.StageFate.{IsUncommitted}
use Rattle.pc_world.specs.Tell.End.{IsUnrefreshed}
use Rattle.pc_world.specs.Tell.Refusal.{IsUncommittedIn, MayBlock}

-- The transaction with its stages forgotten.
abbrev forgetting : OpenTxn → OpenTxn
forgetting x = record x { staging = without_stages x.staging }

module _ (set : Setting) (session : ℕ) (k : Known) (x : OpenTxn) (answer : Answer) (g : GivesUpBy set.course.loses k x answer) (over : is_over x.staging ≡ true) where
  free : TxnStands k [] None g.t (forgetting x)
  free = stands_forgotten k g.stages None g.t x g.gives_up.stands over

  none_committed : IsUncommitted g.t.id k.sent k.heard
  none_committed = is_uncommitted k g.t (forgetting x) free

  within_range : is_past_range g.s ≡ false
  within_range = ap (λ call. is_past_range (record { call = call; reading = g.s.reading })) g.gives_up.call

  -- one of its writes blocks it
  blocked_gives_up : (holder : TxnId) → IsBlockedWhy k holder → MayGiveUp set session k x (answers.Blocked holder)
  blocked_gives_up holder w = record {
    may = record {
      may = may_tell set session k g.s (answers.Blocked holder) g.opened g.open_in.is_open within_range (record {
        asked = subst MayBlock (sym g.gives_up.call) tt;
        why = w.why;
        uncommitted = subst (IsUncommittedIn k) (sym g.gives_up.call) (g.t, open_is k g.t g.open_in, none_committed);
      });
      written = tt;
      aborts = λ quiet. tt;
      rolled_back = tt;
      restarts = tt;
      eighth = any_eighth set.course.loses k (answers.Blocked holder) (no_eighth_move k g.s (answers.Blocked holder) g.opened g.gives_up.call w.fewer);
      blocked = λ piped other at commits. w.next;
      beats = beaten_told set.course.loses k g.t (answers.Blocked holder) g.open_in g.beaten;
    };
    left = refl;
    after = stays_as_is k g.t (forgetting x) g.open_in free g.cause (answers.Blocked holder) (blocked_keeps holder) refl;
  }

  -- it was moved as often as it may be
  moved_gives_up : (ts : ℕ) → IsMovedWhy k ts → MayGiveUp set session k x (answers.Moved ts)
  moved_gives_up ts w = record {
    may = record {
      may = may_tell set session k g.s (answers.Moved ts) g.opened g.open_in.is_open within_range (record {
        t = g.t;
        opened = open_is k g.t g.open_in;
        asked = g.gives_up.call;
        eight = w.eight;
        last = w.last;
        uncommitted = none_committed;
      });
      written = tt;
      aborts = λ quiet. tt;
      rolled_back = tt;
      restarts = tt;
      eighth = any_eighth set.course.loses k (answers.Moved ts) (told_moved k g.s (answers.Moved ts) g.opened g.gives_up.call (ts, refl));
      blocked = λ piped other at commits. tt;
      beats = beaten_told set.course.loses k g.t (answers.Moved ts) g.open_in g.beaten;
    };
    left = refl;
    after = stays_as_is k g.t (forgetting x) g.open_in free g.cause (answers.Moved ts) (moved_keeps ts) refl;
  }

  -- what it read is not good any more
  module _ (key : List ℕ) (ts : ℕ) (w : IsRestartWhy k key ts) where
    abbrev k2 : Known
    k2 = known_told (answers.Restart key ts) k

    gone2 : HasMovedOn k k2 [] []
    gone2 = record { sent = sym (append-nil k.sent); heard = sym (append-nil k.heard); begun = omega arith; high = omega arith }

    restart_gives_up : MayGiveUp set session k x (answers.Restart key ts)
    restart_gives_up = record {
      may = record {
        may = may_tell set session k g.s (answers.Restart key ts) g.opened g.open_in.is_open within_range (record {
          t = g.t;
          opened = open_is k g.t g.open_in;
          asked = g.gives_up.call;
          heard = any_weaker (MetWrite w.first.span key ts) (λ h. IsUnrefreshed key ts h.reply) (λ h is. subst (IsUnrefreshed key ts) (sym is.told) (refl, refl)) k.heard_now w.first.met;
          uncommitted = none_committed;
        });
        written = tt;
        aborts = λ quiet. tt;
        rolled_back = tt;
        restarts = w.first;
        eighth = any_eighth set.course.loses k (answers.Restart key ts) (no_eighth_move k g.s (answers.Restart key ts) g.opened g.gives_up.call w.fewer);
        blocked = λ piped other at commits. tt;
        beats = beaten_told set.course.loses k g.t (answers.Restart key ts) g.open_in g.beaten;
      };
      left = refl;
      after = record {
        t = restarted key ts g.t;
        open_in = record { others = g.open_in.others; is_open = g.open_in.is_open; first = still_open k (answers.Restart key ts) g.t g.open_in.others g.open_in.is_open g.open_in.first };
        stands = stands_restarted k k2 g.stages None g.t x g.gives_up.anchor key ts g.gives_up.stands over g.gives_up.anchored gone2;
        cause = refl;
        low = All-cons (λ ts. ts ≤ k2.top + 1) ts [] (let low = w.low in omega (arith, low)) (All-nil (λ ts. ts ≤ k2.top + 1));
      };
    }

  -- so it may be told why it gives up
  pub may_give_up : MayGiveUp set session k x answer
  may_give_up = by answer refl g.gives_up.why
    where
      by : (a : Answer) → answer ≡ a → IsWhy k a → MayGiveUp set session k x a
      by (answers.Restart key ts) is w = restart_gives_up key ts w
      by (answers.Blocked holder) is w = blocked_gives_up holder w
      by (answers.Moved ts) is w = moved_gives_up ts w
      by a is w = absurd w
