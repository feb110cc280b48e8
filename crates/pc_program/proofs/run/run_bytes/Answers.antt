use Rattle.std.proofs.Common.{◌≡◌, ◌↔◌, Err, IsErrOf, refl, ap, subst, sym, ◌∙◌}
use Rattle.pc_program.proofs.Begun.{begun_accepted, begun_no_json, begun_refused, refused_as}
use Rattle.pc_program.proofs.Ends.{done_of, part_of}
use Rattle.pc_work.specs.Workload.{IsNumberOf, UnlessMemory}
use Rattle.pc_work.specs.declared.fault.WorkFault.TheVariants as faults
use Rattle.pc_program.specs.declared.status.Status.TheVariants as statuses
use Rattle.pc_program.proofs.run.run_bytes.Goals as goal

pub returns-in-Ok-clause-no_json : goal.returns-in-Ok-clause-no_json
returns-in-Ok-clause-no_json g c = begun_no_json c.args.bytes.now (c.in-Ok.ensures.accepted.0 refl) c.write_output.result c.write_output.ensures.kind

pub returns-in-Ok-clause-refused : goal.returns-in-Ok-clause-refused
returns-in-Ok-clause-refused g c number =
    begun_refused c.args.bytes.now (c.in-Ok.ensures.accepted.0 refl) c.write_output.result c.write_output.ensures.kind number (λ refused. let e = (c.in-Ok.ensures.refused number).1 refused in cc)

pub returns-in-Ok-clause-accepted : goal.returns-in-Ok-clause-accepted
returns-in-Ok-clause-accepted g c = begun_accepted c.args.bytes.now (c.in-Ok.ensures.accepted.0 refl) c.write_output.result c.write_output.ensures.kind

pub returns-in-Err-Refused-clause-refused : goal.returns-in-Err-Refused-clause-refused
returns-in-Err-Refused-clause-refused g c number =
    subst (λ told. (statuses.Workload told ≡ statuses.Workload number) ↔ IsNumberOf c.args.bytes.now number) (sym c.in-Err-Refused.number-is)
    (refused_as c.args.bytes.now c.in-Err-Refused.number number
    (subst (λ r. UnlessMemory r (IsErrOf r (faults.Refused number) ↔ IsNumberOf c.args.bytes.now number)) (c.in-Err-Refused.is ∙ ap Err c.in-Err-Refused.field-0-is) (c.read.ensures.refused number)))

pub returns-in-Ok-clause-done : goal.returns-in-Ok-clause-done
returns-in-Ok-clause-done g c =
    done_of (g.M.Clocks.rules c.args.clocks.now) (g.K.Sink.taken c.args.sink.now) (g.K.Sink.taken c.write_output.new.sink)
    c.args.bytes.now c.in-Ok.work c.in-Ok.ensures.value c.write_output.result c.write_output.ensures.done

pub returns-in-Ok-clause-part : goal.returns-in-Ok-clause-part
returns-in-Ok-clause-part g c =
    part_of (g.M.Clocks.rules c.args.clocks.now) (g.K.Sink.taken c.args.sink.now) (g.K.Sink.taken c.write_output.new.sink)
    c.args.bytes.now c.in-Ok.work c.in-Ok.ensures.value c.write_output.result c.write_output.ensures.part
