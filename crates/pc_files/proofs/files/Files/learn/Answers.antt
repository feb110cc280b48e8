use Rattle.std.proofs.lemmas.Result.{on_ok_weaker}
use Rattle.std.specs.Option.{option_copied, option_to_list}
use Rattle.pc_files.proofs.StaysUncommitted.{uncommitted_heard}
use Rattle.pc_files.proofs.files.Files.learn.Goals as goal
use Rattle.pc_world.specs.Known.Traffic.{sent_after}

pub returns : goal.returns
returns c k top high keeps =
    on_ok_weaker c.file_heard.result
    (λ replies. record {
      deciding = c.in_ok-file_sent.ensures k.sent keeps.deciding;
      firsts = c.in_ok-learn-2.ensures k.sent keeps.firsts;
      replies = replies;
      views = c.in_ok-file_view.ensures k.heard keeps.views;
      settled = c.in_ok-learn-3.ensures k.heard keeps.settled;
      refreshed = c.in_ok-learn-4.ensures k.heard keeps.refreshed;
      uncommitted = λ id had.
          uncommitted_heard id (sent_after c.args.event.now k.sent) k.heard (option_to_list (option_copied c.args.heard))
          (c.in_ok-learn.ensures k.sent k.heard keeps.deciding keeps.replies keeps.uncommitted id had);
    })
    (c.file_heard.ensures k.heard keeps.replies)
