use Rattle.std.proofs.Common.{◌≡◌, ◌↔◌, IsSome, subst, sym}
use Rattle.pc_io.specs.Reading.{IsAllOf, TakesExactly}
use Rattle.pc_program.specs.declared.status.Status.TheVariants as statuses
use Rattle.pc_program.specs.Causes.{HasBegunWriting, IsAfterReading}
use Rattle.pc_program.proofs.Ends.{carried, done_carried, neither_long, part_carried}
use Rattle.pc_work.specs.Workload.{IsJson, IsNumberOf, accepted_in}
use Rattle.pc_program.proofs.run.run_workload.Goals as goal

pub returns-in-Ok-clause-too_long : goal.returns-in-Ok-clause-too_long
returns-in-Ok-clause-too_long g c =
    neither_long (g.S.Source.left c.args.source.now) (λ left. TakesExactly 16777217 left (g.S.Source.left c.read_all.new.source)) _ (c.run_bytes.result ≡ statuses.TooLong 16777217)
    c.in-Ok.ensures.too_long (λ e. cc) (λ e. absurd (subst IsAfterReading e c.run_bytes.ensures.kind))

pub returns-in-Ok-clause-refused : goal.returns-in-Ok-clause-refused
returns-in-Ok-clause-refused g c number =
    carried c.run_bytes.result (g.S.Source.left c.args.source.now) c.deref.result.now (λ bytes. (c.run_bytes.result ≡ statuses.Workload number) ↔ IsNumberOf bytes number)
    (subst (IsAllOf (g.S.Source.left c.args.source.now)) (sym c.deref.ensures.value) c.in-Ok.ensures.ok) (c.run_bytes.ensures.refused number)

pub returns-in-Ok-clause-accepted : goal.returns-in-Ok-clause-accepted
returns-in-Ok-clause-accepted g c =
    carried c.run_bytes.result (g.S.Source.left c.args.source.now) c.deref.result.now (λ bytes. HasBegunWriting c.run_bytes.result ↔ (IsJson bytes × IsSome (accepted_in bytes)))
    (subst (IsAllOf (g.S.Source.left c.args.source.now)) (sym c.deref.ensures.value) c.in-Ok.ensures.ok) c.run_bytes.ensures.accepted

pub returns-in-Ok-clause-no_json : goal.returns-in-Ok-clause-no_json
returns-in-Ok-clause-no_json g c =
    carried c.run_bytes.result (g.S.Source.left c.args.source.now) c.deref.result.now (λ bytes. (c.run_bytes.result ≡ statuses.Workload 1) ↔ ¬ (IsJson bytes))
    (subst (IsAllOf (g.S.Source.left c.args.source.now)) (sym c.deref.ensures.value) c.in-Ok.ensures.ok) c.run_bytes.ensures.no_json

pub returns-in-Ok-clause-done : goal.returns-in-Ok-clause-done
returns-in-Ok-clause-done g c =
    done_carried (g.M.Clocks.rules c.args.clocks.now) (g.K.Sink.taken c.args.sink.now) (g.K.Sink.taken c.run_bytes.new.sink)
    (g.S.Source.left c.args.source.now) c.deref.result.now (subst (IsAllOf (g.S.Source.left c.args.source.now)) (sym c.deref.ensures.value) c.in-Ok.ensures.ok)
    c.run_bytes.result c.run_bytes.ensures.done

pub returns-in-Ok-clause-part : goal.returns-in-Ok-clause-part
returns-in-Ok-clause-part g c =
    part_carried (g.M.Clocks.rules c.args.clocks.now) (g.K.Sink.taken c.args.sink.now) (g.K.Sink.taken c.run_bytes.new.sink)
    (g.S.Source.left c.args.source.now) c.deref.result.now (subst (IsAllOf (g.S.Source.left c.args.source.now)) (sym c.deref.ensures.value) c.in-Ok.ensures.ok)
    c.run_bytes.result c.run_bytes.ensures.part
