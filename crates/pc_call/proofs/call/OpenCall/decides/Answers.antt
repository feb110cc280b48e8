use Rattle.pc_call.proofs.call.OpenCall.decides.Goals as goal

pub returns-in-Some-clause-stands : goal.returns-in-Some-clause-stands
returns-in-Some-clause-stands c = λ set k s d o may reading suits. c.decides_at.ensures.stands set k s c.in-Some.is d o may reading suits
