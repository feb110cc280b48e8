use Rattle.pc_threads.proofs.on_threads.run_to_ends.Goals as goal

pub returns : goal.returns
returns g c = record {
  run = c.run_both-lanes.result.0.items;
  ran = c.run_both-lanes.ensures.sessions;
  back = c.in_ok-sessions.ensures;
  round_run = c.run_both-lanes.result.1.items;
  round_ran = c.run_both-lanes.ensures.recoverers;
  round_back = c.in_ok-recoverers.ensures;
}
