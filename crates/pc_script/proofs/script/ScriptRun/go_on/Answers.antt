use Rattle.std.proofs.Common.{◌≡◌, ℕ, zero, suc, ◌+◌, Bool, true, false, List, [], ◌∷◌, Option, drop, refl, ap, subst, ◌∙◌, arith}
use Rattle.pc_script.specs.declared.planned.Planned.{Planned}
use Rattle.pc_work.specs.declared.item.Item.{Item}
use Rattle.pc_script.specs.Script.{Position}
use Rattle.pc_script.specs.Ahead.{ahead_of, with_ahead}
use Rattle.pc_script.proofs.script.ScriptRun.go_on.Goals as goal

drop-suc : (n : ℕ) (xs : List Planned) → drop (suc n) xs ≡ drop 1 (drop n xs)
drop-suc zero xs = refl
drop-suc (suc n) [] = refl
drop-suc (suc n) (x ∷ xs) = drop-suc n xs

plus-suc : (n : ℕ) → n + 1 ≡ suc n
plus-suc n = omega arith

ahead_next : (b : Bool) (over : ℕ) (listed : List Planned) → b ≡ false → ahead_of b (over + 1) listed ≡ drop 1 (ahead_of b over listed)
ahead_next true over listed none = absurd cc
ahead_next false over listed none = ap (λ n. drop n listed) (plus-suc over) ∙ drop-suc over listed

went_on : (items : List Item) (listed : List Planned) (read : Option (List ℕ)) (over reruns left : ℕ) (b : Bool) (at : Position) → b ≡ false → record { items = items; calls = listed; ahead = ahead_of b over listed; read = read; reruns = reruns; left = left } ≡ at
    → record { items = items; calls = listed; ahead = ahead_of b (over + 1) listed; read = read; reruns = reruns; left = left } ≡ with_ahead (drop 1 at.ahead) at
went_on items listed read over reruns left b at none is =
    let F : List Planned → Position = λ ahead. record { items = items; calls = listed; ahead = ahead; read = read; reruns = reruns; left = left } in
    subst (λ (p : Position). F (ahead_of b (over + 1) listed) ≡ with_ahead (drop 1 p.ahead) p) is (ap F (ahead_next b over listed none))

pub returns-then-self-len : goal.returns-then-self-len
returns-then-self-len c =
    went_on c.self.inside.items.now c.self.inside.calls c.self.inside.read c.self.inside.over c.self.inside.reruns c.self.inside.left c.self.inside.gives_up c.args.self.now c.if-self.false c.self.view_is
