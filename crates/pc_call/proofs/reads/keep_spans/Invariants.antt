use Rattle.std.proofs.Common.{◌≡◌, take}
use Rattle.pc_call.specs.Reading.{spans_read, with_spans}
use Rattle.pc_call.proofs.reads.keep_spans.Given as goal

abbrev pub invariant-loop-message : goal.invariant-loop-message
invariant-loop-message l = l.reads ≡ record { spans = with_spans l.initial.reads.spans (spans_read (take l.message-index l.messages)); ts = l.initial.reads.ts }
