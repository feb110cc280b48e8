-- A timestamp's two parts are found again in its number.
use Rattle.std.specs.Prelude.{◌≡◌, ◌+◌, ◌*◌, ◌/◌, ◌%◌, ◌^◌, ◌<◌}
use Rattle.std.proofs.lemmas.Nat.{div-mul-add, mod-mul-add}
use Rattle.pc_base.specs.declared.timestamp.Timestamp.TheInside.{Inside}

-- A timestamp made of two parts gives both of them back.
pub parts_again : (t : Inside) → t.logical < 2 ^ 32 → ◌≡◌ {A = Inside} (record { wall = (t.wall * 2 ^ 32 + t.logical) / 2 ^ 32; logical = (t.wall * 2 ^ 32 + t.logical) % 2 ^ 32 }) t
parts_again t small = rw (div-mul-add, mod-mul-add)
