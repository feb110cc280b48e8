use denote.Exit.{no}
use denote.Param.Send.{arg_send, param_send}
use Rattle.std.proofs.Common.{All, slice_index_or, sym, subst, rules}
use Rattle.pc_scripted.specs.Scripted.{IsScripted}
use Rattle.pc_threads.proofs.Places.{ran_back}
use Rattle.pc_threads.specs.Lanes.{HasRunLane}
use Rattle.pc_threads.proofs.runs.run_lanes.Goals as goal

pub for_each_mut-requires-clause-accepts : goal.for_each_mut-requires-clause-accepts
for_each_mut-requires-clause-accepts g c κs within = λ i p lt same.
    let scripted = subst (λ ls. All (λ l. IsScripted l.session) ls) (sym c.as_mut_slice.ensures.value) c.requires in (
      (search rules, subst (λ l. IsScripted l.session) (sym same) (scripted i p.now lt)),
      (
        param_send 0 _ (arg_send _ no _ c.type_bounds.send-N),
        param_send 1 _ (arg_send _ no _ c.type_bounds.send-C),
        param_send 2 _ (arg_send _ no _ c.type_bounds.send-V),
        search rules,
        search rules,
        search rules,
      ),
    )

pub returns : goal.returns
returns g c =
    let gone = c.for_each_mut.new.s in
    ran_back (HasRunLane g.C.Clock.rule) c.as_mut_slice.result.now gone _ c.args.lanes.items c.args.lanes.len c.as_mut_slice.ensures.value c.args.lanes.ok.0 (search rules) (λ i d lt.
    let at = (c.for_each_mut.ensures i d lt).1 in
    subst (λ x. HasRunLane g.C.Clock.rule x (slice_index_or gone i d)) at.argument_is (subst (λ y. HasRunLane g.C.Clock.rule at.argument.now y) at.left at.call))
