-- Replies have kinds, whatever has happened. Own profile.
use Rattle.std.specs.Prelude.{ℕ, List}
use Rattle.pc_base.specs.declared.entry.Entry.{Entry}
use Rattle.pc_proto.specs.declared.event.Event.{Event}
use Rattle.pc_proto.specs.declared.request.Request.{Request}
use Rattle.pc_world.specs.After.{state_at}
use Rattle.pc_world.specs.Answering.{MayAnswer}
use Rattle.pc_world.specs.Evaluation.{reply}
use Rattle.pc_world.specs.Local.{Head}

-- After every history a range answers each request as it may be answered, also one that was never sent.
abbrev pub RepliesHaveKinds : Type 0
RepliesHaveKinds =
    (head : Head) (history : List (Entry Event)) (range : ℕ) (request : Request) → MayAnswer request (reply request (state_at head range history))
