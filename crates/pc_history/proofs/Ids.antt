-- Whether two ids are one.
use Rattle.std.proofs.Common.{◌≡◌, ◌≢◌, Bool, true, false, refl, ap, sym, ◌∙◌, arith}
use Rattle.std.proofs.lemmas.Bool.{eqb-true}
use Rattle.pc_base.specs.declared.ActorId.{ActorId}
use Rattle.pc_base.specs.declared.ActorId.TheVariants.{Range, Session, Recoverer}
use Rattle.pc_history.specs.Own.{same_id}

pub same_id-refl : (id : ActorId) → same_id id id ≡ true
same_id-refl (Range n) = grind arith
same_id-refl (Session n) = grind arith
same_id-refl (Recoverer n) = grind arith

-- ids that pass the test are one
pub same_id-true : (a b : ActorId) → same_id a b ≡ true → a ≡ b
same_id-true (Range m) (Range n) h = ap Range (eqb-true m n h)
same_id-true (Range m) (Session n) h = absurd cc
same_id-true (Range m) (Recoverer n) h = absurd cc
same_id-true (Session m) (Range n) h = absurd cc
same_id-true (Session m) (Session n) h = ap Session (eqb-true m n h)
same_id-true (Session m) (Recoverer n) h = absurd cc
same_id-true (Recoverer m) (Range n) h = absurd cc
same_id-true (Recoverer m) (Session n) h = absurd cc
same_id-true (Recoverer m) (Recoverer n) h = ap Recoverer (eqb-true m n h)

-- the test is true of equal ids
pub same_id-equal : (a b : ActorId) → a ≡ b → same_id a b ≡ true
same_id-equal a b h = ap (λ x. same_id a x) (sym h) ∙ same_id-refl a

-- the test is false of ids that differ
pub same_id-differ : (a b : ActorId) → a ≢ b → same_id a b ≡ false
same_id-differ a b h =
    let by : (t : Bool) → same_id a b ≡ t → same_id a b ≡ false = elim [ true ↦ λ e. absurd (h (same_id-true a b e)) | false ↦ λ e. e ] in
    by (same_id a b) refl
