-- A transaction that wrote nothing is committed, or rolled back, without a message.
use Rattle.std.proofs.Common.{◌≡◌, ℕ, true, [], ◌++◌, Option, None, Some, refl, sym, ap, ◌∙◌, subst, arith, All, inl, inr}
use Rattle.std.proofs.lemmas.List.Elements.{All-weaker}
use Rattle.std.proofs.lemmas.Option.{same_Some}
use Rattle.pc_call.specs.Setting.{Setting}
use Rattle.pc_base.specs.declared.limits.TheConstants.{MOST_CONFLICTS, MOST_REFUSALS}
use Rattle.pc_call.proofs.Beating.{beaten_tells, not_aborted}
use Rattle.pc_call.proofs.Beginning.{none_met, unmet_now}
use Rattle.pc_call.proofs.Committing.{beats_unmoved}
use Rattle.pc_call.proofs.Eighths.{any_eighth, no_eighth, no_eighth_move}
use Rattle.pc_call.proofs.Facts.{open_is}
use Rattle.pc_call.proofs.Told.{may_tell}
use Rattle.pc_call.specs.Finished.{MayTellOver}
use Rattle.pc_call.specs.Fresh.{IsFresh, ShowsAlive}
use Rattle.pc_lists.proofs.Anywhere.{any_of}
use Rattle.pc_follows.specs.Heartbeats.{is_heartbeat}
use Rattle.pc_proto.specs.declared.answer.Answer.TheVariants as answers
use Rattle.pc_proto.specs.declared.call.Call.TheVariants as calls
use Rattle.pc_proto.specs.declared.fate.Fate.{Fate}
use Rattle.pc_proto.specs.declared.why.Why.{Why}
use Rattle.pc_txn.specs.declared.txn.OpenTxn.{OpenTxn}
use Rattle.pc_wave.proofs.Lists.{at_least-fewer}
use Rattle.pc_follows.specs.FinishingJobs.{committed_fate, committing, left_committed, left_if, settling}
use Rattle.pc_world.specs.Known.{Known, open_txn}
use Rattle.pc_world.specs.Known.Reads.{IsGoodAt}
use Rattle.pc_world.specs.Known.Statements.{Statement}
use Rattle.pc_world.specs.Known.Transactions.{IsGood, Txn}
use Rattle.pc_world.specs.MayTell.{is_past_range}
use Rattle.pc_world.specs.Tell.Refusal.{IsConflictOf, WasMoved}
use Rattle.pc_world.specs.Views.{ShowsAborted, WasAborted, fate_heard}

settling_none : (t : Txn) (o : Option Fate) → settling t o None ≡ []
settling_none t None = refl
settling_none t (Some fate) = refl

module _ (set : Setting) (session : ℕ) (k : Known) (x : OpenTxn) (s : Statement) (why : Why) (f : IsFresh set.course.loses k x s why) (none : x.anchor ≡ None) where
  unwritten : f.t.anchor ≡ None
  unwritten = sym (ap (λ x. x.anchor) f.stands.same) ∙ none

  opened : open_txn k ≡ Some f.t
  opened = open_is k f.t f.open_in

  -- nothing that was heard in the call shows the transaction aborted
  alive_now : (other : Why) → WasAborted k.heard_now f.t.id other → ⊥
  alive_now other was =
      let f2 = any_of ShowsAlive (ShowsAborted f.t.id other) k.heard_now f.heard was in
      not_aborted other f2.0.reply f2.1.undecided f2.2.view f2.2.told f2.2.cause

  good : IsGood k.heard f.t f.t.begin
  good = record {
    begun = omega arith;
    reads = subst (λ ts. All (IsGoodAt f.t.id k.heard ts) f.t.reads) (ap (λ x. x.reads.ts) f.stands.same ∙ f.stands.at_begin unwritten) f.stands.reads.good;
  }

  pub committed_unwritten : s.call ≡ calls.Commit → MayTellOver set session k (record { answer = answers.Committed x.id x.begin; left = None })
  committed_unwritten call =
      let answer = answers.Committed x.id x.begin in
      let begin : x.begin ≡ f.t.begin = ap (λ x. x.begin) f.stands.same in
      record {
        may = record {
          may = may_tell set session k s answer f.opened f.open_in.is_open (ap (λ call. is_past_range (record { call = call; reading = s.reading })) call) (record {
            t = f.t;
            opened = opened;
            asked = call;
            whose = ap (λ x. x.id) f.stands.same;
            why = inl (record { no_put = unwritten; at_begin = begin; good = subst (IsGood k.heard f.t) (sym begin) good });
          });
          written = tt;
          aborts = λ quiet. tt;
          rolled_back = tt;
          restarts = tt;
          eighth = any_eighth set.course.loses k answer (no_eighth_move k s answer f.opened call (λ eight. beats_unmoved k (All-weaker ShowsAlive (λ h. is_heartbeat h.request ≡ true) (λ h a. a.beat) k.heard_now f.heard) (at_least-fewer (WasMoved k) 1 MOST_REFUSALS k.heard_now (omega arith) eight)));
          blocked = λ piped other at commits. tt;
          beats = beaten_tells set.course.loses k f.t answer f.open_in f.beaten;
        };
        left =
            sym (settling_none f.t (committed_fate k f.t x.begin)) ∙ sym (ap (λ a. committing k f.t x.begin a ++ settling f.t (committed_fate k f.t x.begin) a) unwritten)
            ∙ sym (ap (left_committed x.begin k) opened);
        closed = refl;
        settles = tt;
      }

  pub rolled_back_unwritten : s.call ≡ calls.Rollback → MayTellOver set session k (record { answer = answers.RolledBack x.id why; left = None })
  rolled_back_unwritten call =
      let answer = answers.RolledBack x.id why in
      record {
        may = record {
          may = may_tell set session k s answer f.opened f.open_in.is_open (ap (λ call. is_past_range (record { call = call; reading = s.reading })) call) (record {
            t = f.t;
            opened = opened;
            asked = call;
            whose = ap (λ x. x.id) f.stands.same;
            cause = inr ((λ other was. alive_now other was), f.cause);
          });
          written = tt;
          aborts = λ quiet t anchor is some.
              let same : f.t ≡ t = same_Some f.t t (sym opened ∙ is) in
              let e : Some anchor ≡ None = sym some ∙ sym (ap (λ t. t.anchor) same) ∙ unwritten in
              absurd cc;
          rolled_back = tt;
          restarts = tt;
          eighth = any_eighth set.course.loses k answer (no_eighth k s answer f.opened (λ commit. let e : calls.Rollback ≡ calls.Commit = sym call ∙ commit in cc) (λ r eight. none_met k (unmet_now k f.t x s f.open_in f.stands f.client f.opened f.split f.heard) r (at_least-fewer (IsConflictOf r) 1 MOST_CONFLICTS k.heard_now (omega arith) eight)));
          blocked = λ piped other at commits. tt;
          beats = beaten_tells set.course.loses k f.t answer f.open_in f.beaten;
        };
        left =
            sym (settling_none f.t (fate_heard f.t.id k.heard)) ∙ sym (ap (λ a. settling f.t (fate_heard f.t.id k.heard) a) unwritten) ∙ sym (ap (left_if k) opened);
        closed = refl;
        settles = tt;
      }
