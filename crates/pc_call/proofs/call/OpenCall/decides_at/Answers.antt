use Rattle.std.proofs.Common.{◌≡◌, sym, ◌∙◌}
use Rattle.pc_call.proofs.Committing.{anchor_now}
use Rattle.pc_call.proofs.Deciding.{decides_commits, none_there, some_there}
use Rattle.pc_call.proofs.Takes.{commits_by, takes_one}
use Rattle.pc_call.proofs.call.OpenCall.decides_at.Goals as goal

pub returns-then-is_empty-clause-takes : goal.returns-then-is_empty-clause-takes
returns-then-is_empty-clause-takes c = commits_by c.args.later.now c.args.later.now _ (takes_one c.args.later.now _ _ c.commit.ensures.made) c.commit.ensures.purpose

pub returns-then-is_empty-clause-stands : goal.returns-then-is_empty-clause-stands
returns-then-is_empty-clause-stands c = λ set k s anchored d o may reading suits.
    let x = c.args.txn.now in
    let commits = decides_commits set.course.loses c.args.refusals k x s c.args.puts.now d in
    c.commit.ensures.stands set k c.args.later.now s commits (anchor_now set.course.loses c.args.refusals k x s commits c.args.anchor.now anchored) (none_there x.in_flight (sym c.is_empty.ensures ∙ c.if-is_empty.true)) o

pub returns-clause-stands : goal.returns-clause-stands
returns-clause-stands c = λ set k s anchored d o may reading suits.
    let x = c.args.txn.now in
    c.stage.ensures.stands set k s d (some_there x.in_flight (sym c.is_empty.ensures ∙ c.if-is_empty.false)) o may reading anchored suits
