use Rattle.pc_in_turns.proofs.Acting.{at_read, finished_now, scripted_at}
use Rattle.pc_scripted.proofs.Beginning.{on_ok}
use Rattle.pc_in_turns.proofs.in_turns.InTurns.finish_job.Goals as goal

pub finish_job-requires : goal.finish_job-requires
finish_job-requires g c =
    scripted_at c.args.self.now c.args.index c.index_mut.result.now c.requires.in_turns
    (at_read _ c.args.self.now c.args.index c.index_mut.result.now c.self.view_is c.requires.there c.index_mut.ensures.value)

pub returns : goal.returns
returns g c =
    on_ok c.finish_job.result _ _
    (λ moved. finished_now g.C.Clock.rule c.args.index _ c.args.self.now c.self.view_is c.requires.in_turns c.requires.there c.index_mut.result.now c.finish_job.new.self c.index_mut.ensures.value c.finish_job.ensures.rule moved)
    c.finish_job.ensures.ok
