-- The outcomes of a run's transactions are true.
use Rattle.std.proofs.Common.{◌≡◌, List, ◌∷◌, ◌++◌, sym, ap, subst, ◌∙◌}
use Rattle.pc_base.specs.declared.entry.Entry.{Entry}
use Rattle.pc_base.specs.declared.transaction.TxnId.{TxnId}
use Rattle.pc_implicit.proofs.AbortCauses.{aborts_have_causes}
use Rattle.pc_implicit.proofs.CommitsStay.{commits_stay}
use Rattle.pc_implicit.proofs.Ended.{aborted_uncommitted, ended_never_commits, given_up_is_uncommitted, told_aborted}
use Rattle.pc_implicit.specs.Ends.{TellsOpen}
use Rattle.pc_implicit.specs.Outcomes.{HasTrueOutcomes, IsAbortedFor, NeverCommits, SaysAborted}
use Rattle.pc_proto.specs.declared.answer.Answer.{Answer}
use Rattle.pc_proto.specs.declared.answer.Answer.TheVariants as answers
use Rattle.pc_proto.specs.declared.event.Event.{Event}
use Rattle.pc_proto.specs.declared.why.Why.{Why}
use Rattle.pc_world.proofs.Prefixes.{run_front, run_may}
use Rattle.pc_world.specs.Committed.{IsCommitted}
use Rattle.pc_world.specs.Local.{Head}
use Rattle.pc_world.specs.Run.{IsRun}

-- the answer that says so
aborted-what : (why : Why) (answer : Answer) → SaysAborted why answer → answer ≡ answers.Aborted why
aborted-what why (answers.Aborted cause) says = ap answers.Aborted says
aborted-what why answer says = absurd says

module _ (head : Head) (history : List (Entry Event)) (run : IsRun head history) where
  never : (id : TxnId) (why : Why) → IsAbortedFor head history id why → NeverCommits head history id
  never id why a front back ts whole is =
      let now : IsCommitted head history id ts = subst (λ h. IsCommitted head h id ts) (sym whole) (commits_stay head front back id ts (subst (IsRun head) whole run) is).0 in
      aborted_uncommitted head history run id a.epoch a.ts why a.says ts now

  told-so : (before : List (Entry Event)) (e : Entry Event) (later : List (Entry Event)) (id : TxnId) (why : Why) → history ≡ before ++ e ∷ later → TellsOpen head before id (SaysAborted why) e → IsAbortedFor head before id why
  told-so before e later id why whole a =
      let split = subst (IsRun head) whole run in
      let d = told_aborted head id before e (run_front head before (e ∷ later) split) (run_may head before e later split) (SaysAborted why) a why (aborted-what why a.answer a.says) in
      record { epoch = d.0; ts = d.1; says = d.2 }

  pub outcomes_are_true : HasTrueOutcomes head history
  outcomes_are_true = record {
    aborted = never;
    caused = λ id why a. aborts_have_causes head history id why a.epoch a.ts run a.says;
    told = told-so;
    ended = λ before e later id whole a front back ts split is. ended_never_commits head before e later id front back ts (subst (IsRun head) whole run) a (sym whole ∙ split) is;
    given_up = λ before e later id ts whole a is. given_up_is_uncommitted head before e later id ts (subst (IsRun head) whole run) a is;
  }
