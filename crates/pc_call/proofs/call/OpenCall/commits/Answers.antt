use Rattle.std.proofs.Common.{◌≡◌, nat_lt, List, length, sym, ◌∙◌, subst}
use Rattle.pc_reads.specs.ReadsStanding.{refresh_to}
use Rattle.pc_call.proofs.Committing.{behind_of, goes_at_once}
use Rattle.pc_call.proofs.Deciding.{commits_fresh, decides_at_once}
use Rattle.pc_call.proofs.Takes.{commits_by, some_spans, takes_ok}
use Rattle.pc_call.specs.Stages.{CommitsOnFrom}
use Rattle.pc_call.specs.Suiting.{SuitsFlightIn}
use Rattle.pc_wave.specs.declared.message.Message.{Message}
use Rattle.pc_call.proofs.call.OpenCall.commits.Goals as goal

pub returns-then-is_to_refresh-clause-goes_on : goal.returns-then-is_to_refresh-clause-goes_on
returns-then-is_to_refresh-clause-goes_on c = λ set k t s on o may reading suits.
    let x = c.args.txn.now in
    c.refresh.ensures.stands set k c.args.later.now t s on (behind_of x.reads.ts x.write_ts _ _ c.is_to_refresh.ensures.made c.if-is_to_refresh.true) suits o

pub returns-then-is_to_refresh-clause-takes : goal.returns-then-is_to_refresh-clause-takes
returns-then-is_to_refresh-clause-takes c =
    let x = c.args.txn.now in
    commits_by c.args.later.now c.args.later.now _
    (takes_ok c.args.later.now (refresh_to x.id x.reads.ts x.write_ts) x.reads.spans _ (some_spans (nat_lt x.reads.ts x.write_ts) (length x.reads.spans) (sym c.is_to_refresh.ensures.made ∙ c.if-is_to_refresh.true)) c.refresh.ensures.made c.refresh.ensures.unsent)
    c.refresh.ensures.purpose

pub returns-clause-goes_on : goal.returns-clause-goes_on
returns-clause-goes_on c = λ set k t s on o may reading suits.
    let x = c.args.txn.now in
    let good = c.is_to_refresh.ensures.good t.id k.heard t.reads on.on.stands.reads (goes_at_once set.course.loses t.read_ts c.args.refusals k t x s on.on) c.if-is_to_refresh.false in
    c.decides.ensures.stands set k s (decides_at_once set.course.loses c.args.refusals k t x s c.args.puts on good) o may reading suits

pub returns-then-is_to_refresh-clause-begins : goal.returns-then-is_to_refresh-clause-begins
returns-then-is_to_refresh-clause-begins c = λ set k s why anchor fresh suits call reading none puts anchored o may.
    let x = c.args.txn.now in
    let on : CommitsOnFrom set.course.loses fresh.t.read_ts c.args.refusals k fresh.t x s c.args.puts =
    subst (λ n. CommitsOnFrom set.course.loses fresh.t.read_ts n k fresh.t x s c.args.puts) (sym none)
    (subst (λ (ps : List Message). CommitsOnFrom set.course.loses fresh.t.read_ts 0 k fresh.t x s ps) (sym puts) (commits_fresh set.course.loses k x s why fresh anchor call anchored)) in
    c.refresh.ensures.stands set k c.args.later.now fresh.t s on (behind_of x.reads.ts x.write_ts _ _ c.is_to_refresh.ensures.made c.if-is_to_refresh.true) (subst (λ call. SuitsFlightIn set.course.pipelines call x.in_flight) call suits) o

pub returns-clause-begins : goal.returns-clause-begins
returns-clause-begins c = λ set k s why anchor fresh suits call reading none puts anchored o may.
    let x = c.args.txn.now in
    let on : CommitsOnFrom set.course.loses fresh.t.read_ts c.args.refusals k fresh.t x s c.args.puts =
    subst (λ n. CommitsOnFrom set.course.loses fresh.t.read_ts n k fresh.t x s c.args.puts) (sym none)
    (subst (λ (ps : List Message). CommitsOnFrom set.course.loses fresh.t.read_ts 0 k fresh.t x s ps) (sym puts) (commits_fresh set.course.loses k x s why fresh anchor call anchored)) in
    let good = c.is_to_refresh.ensures.good fresh.t.id k.heard fresh.t.reads on.on.stands.reads (goes_at_once set.course.loses fresh.t.read_ts c.args.refusals k fresh.t x s on.on) c.if-is_to_refresh.false in
    c.decides.ensures.stands set k s (decides_at_once set.course.loses c.args.refusals k fresh.t x s c.args.puts on good) o may reading (subst (λ call. SuitsFlightIn set.course.pipelines call x.in_flight) call suits)

pub returns-then-is_to_refresh-clause-outbox : goal.returns-then-is_to_refresh-clause-outbox
returns-then-is_to_refresh-clause-outbox c = λ loses k o. c.refresh.ensures.outbox loses k c.args.later.now o
