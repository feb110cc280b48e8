-- The commit order is that of the committed transactions, and it is legal.
use Rattle.std.proofs.Common.{◌≡◌, ℕ, List, [], ◌∷◌, ◌++◌, inl, Contains, sym, subst, ◌∙◌}
use Rattle.std.proofs.lemmas.List.{append-nil, append_assoc}
use Rattle.std.proofs.lemmas.List.Elements.{All-from_recursion}
use Rattle.pc_base.specs.declared.entry.Entry.{Entry}
use Rattle.pc_base.specs.declared.transaction.TxnId.{TxnId}
use Rattle.pc_implicit.proofs.Begins.{committed_above, committed_was_begun}
use Rattle.pc_implicit.proofs.Fronts.{split_there}
use Rattle.pc_implicit.proofs.OneDecision.{decisions_do_not_differ}
use Rattle.pc_implicit.proofs.CommitPoints.{commit_points_differ}
use Rattle.pc_proto.specs.declared.event.Event.{Event}
use Rattle.pc_serial.proofs.Order.{PointsDiffer, order-committed, order-sorted, stands-before, stands-once}
use Rattle.pc_serial.proofs.ReadsAgree.{all-read-written}
use Rattle.pc_serial.proofs.RunsOnWritten.{runs_on_written}
use Rattle.pc_serial.specs.Laws.{OrdersCommits, StandsOnce}
use Rattle.pc_world.specs.CommitOrder.{Rank, commit_order}
use Rattle.pc_world.specs.Committed.{IsCommitted}
use Rattle.pc_world.specs.Decisions.{HasOneDecision, TellsCommit}
use Rattle.pc_world.specs.Legal.{IsLegal, committed_in_order}
use Rattle.pc_world.specs.Local.{Head}
use Rattle.pc_world.specs.Operations.{operations_of}
use Rattle.pc_world.specs.Run.{IsRun}

module _ (head : Head) (history : List (Entry Event)) (run : IsRun head history) where
  differ : PointsDiffer head history
  differ id other ts later is also same = commit_points_differ head history id other ts later run is also same

  -- the history is legal
  pub is-legal : IsLegal head history
  is-legal = record {
    serial = runs_on_written (operations_of history) (committed_in_order head history) (all-read-written head history run differ);
    in_order = λ id other ts later is also after.
        stands-before head history differ id other ts later (committed_was_begun head history run id ts is) (committed_was_begun head history run other later also) is also
        (committed_above head history run id other ts later after is also);
  }

  -- the commit order is that of the committed transactions
  pub is-ordered : OrdersCommits head history
  is-ordered = record {
    each = λ id ts is. stands-once head history differ id ts (committed_was_begun head history run id ts is) is;
    others = All-from_recursion (λ (e : Rank × TxnId). IsCommitted head history e.1 e.0.ts) (commit_order head history) (order-committed head history differ);
    sorted = order-sorted head history differ;
  }

  told-committed : (before : List (Entry Event)) (e : Entry Event) (later : List (Entry Event)) (id : TxnId) (ts : ℕ) → history ≡ before ++ e ∷ later → TellsCommit id ts e.event → IsCommitted head history id ts
  told-committed before e later id ts whole tells =
      let one : HasOneDecision head history = decisions_do_not_differ head history run in
      let at_once : IsCommitted head (before ++ e ∷ []) id ts = one.acknowledged before e later id ts whole (inl tells) in
      let joined : history ≡ (before ++ e ∷ []) ++ later = whole ∙ sym (append_assoc before (e ∷ []) later) in
      let long : history ≡ (before ++ e ∷ []) ++ later ++ [] = joined ∙ sym (append-nil ((before ++ e ∷ []) ++ later)) in
      subst (λ h. IsCommitted head h id ts) (sym joined) (one.stays (before ++ e ∷ []) later [] id ts long at_once)

  -- what was told committed stands in the order once
  pub told-once : (e : Entry Event) (id : TxnId) (ts : ℕ) → Contains history e → TellsCommit id ts e.event → StandsOnce head history id ts
  told-once e id ts there tells =
      let b = split_there history e there in
      is-ordered.each id ts (told-committed b.before e b.later id ts b.whole tells)
