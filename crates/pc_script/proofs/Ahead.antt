-- The call that comes next, as a script's code keeps its calls.
use Rattle.std.proofs.Common.{◌≡◌, ℕ, zero, suc, Bool, true, false, List, [], ◌∷◌, drop, map, slice_get, Option, Some, ap}
use Rattle.pc_script.specs.Ahead.{ahead_of}
use Rattle.pc_script.specs.declared.planned.Planned.{Planned}
use Rattle.pc_script.specs.Planned.{planned_call}

first_planned : (read : Option (List ℕ)) (over : ℕ) (listed : List Planned) (p : Planned) → slice_get listed over ≡ Some p → slice_get (map (planned_call read) (drop over listed)) 0 ≡ Some (planned_call read p)
first_planned read zero [] p is = absurd cc
first_planned read (suc over) [] p is = absurd cc
first_planned read zero (first ∷ listed) p is = let same : first ≡ p = cc in ap (λ p. Some (planned_call read p)) same
first_planned read (suc over) (first ∷ listed) p is = first_planned read over listed p is

pub next_planned : (gives_up : Bool) (read : Option (List ℕ)) (over : ℕ) (listed : List Planned) (p : Planned) → gives_up ≡ false → slice_get listed over ≡ Some p → slice_get (map (planned_call read) (ahead_of gives_up over listed)) 0 ≡ Some (planned_call read p)
next_planned true read over listed p none is = absurd cc
next_planned false read over listed p none is = first_planned read over listed p is
