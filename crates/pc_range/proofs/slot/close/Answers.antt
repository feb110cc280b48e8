use Rattle.std.proofs.Common.{cond, is_some, OnOk, [], ◌∷◌, sym, subst}
use Rattle.pc_base.specs.declared.actor.ActorId.TheVariants.{Range}
use Rattle.pc_range.proofs.Seating.{handed-one, not-handed}
use Rattle.pc_range.specs.Seats.{HandsIn}
use Rattle.pc_range.proofs.slot.close.Goals as goal

pub returns-in-Some-clause-handed : goal.returns-in-Some-clause-handed
returns-in-Some-clause-handed g c =
    subst (λ slot. OnOk c.hand_in.result (HandsIn (cond (is_some slot) (Range g.row.I ∷ []) []) c.args.opener.now c.hand_in.new.self)) (sym c.in-Some.is)
    (handed-one c.hand_in.result (Range g.row.I) c.into_actor.result.part c.args.opener.now c.hand_in.new.self c.hand_in.ensures.parts c.into_actor.ensures.whose)

pub returns-in-Some-clause-refused : goal.returns-in-Some-clause-refused
returns-in-Some-clause-refused g c = not-handed c.hand_in.result c.into_actor.result.part c.args.opener.now c.hand_in.new.self c.hand_in.ensures.parts
