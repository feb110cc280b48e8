use Rattle.std.proofs.Common.{◌<◌, ◌∙◌, length, arith}
use Rattle.std.proofs.lemmas.List.{length-set}
use Rattle.pc_history.proofs.Merging.{entry_within, kept_more, noted_more}
use Rattle.pc_history.proofs.merge.note_turns.Goals as goal

pub loop-entry-preserved : goal.loop-entry-preserved
loop-entry-preserved g c =
    let i = c.loop-entry.entry-index in
    let e = c.entry-item.result in
    let turns = c.loop-entry.turns in
    let there : i < length c.args.entries.now = omega arith in
    let low = entry_within c.args.entries.now (length c.args.turns.now) i e there c.entry-item.is c.requires in
    let within : e.step < length turns = let same = c.loop-entry.invariant.len in omega arith in
    record {
      len = length-set turns e.step c.args.at ∙ c.loop-entry.invariant.len;
      noted = noted_more turns c.args.at c.args.entries.now i e there c.entry-item.is within c.loop-entry.invariant.noted;
      kept = kept_more turns c.args.at c.args.entries.now i e there c.entry-item.is within c.args.turns.now c.loop-entry.invariant.kept;
    }
