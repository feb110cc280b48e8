-- What the tests for the same one decide.
use Rattle.std.proofs.Common.{◌≡◌, ◌==◌, eqb, ◌&&◌, ℕ, Bool, true, List, refl, ap, subst}
use Rattle.std.proofs.lemmas.Bool.{and_from, and_parts, eq-eqb, eqb-true}
use Rattle.std.specs.Bool.{Decides}
use Rattle.std.specs.Cmp.Lexicographic.{bytes_decides, pointwise, pointwise_decides}
use Rattle.pc_base.specs.declared.transaction.Priority.{Priority}
use Rattle.pc_base.specs.declared.transaction.Priority.TheVariants as priorities
use Rattle.pc_base.specs.contracts.transaction.Priority.{the_type}
use Rattle.pc_base.specs.Span.{same_key}
use Rattle.pc_lists.proofs.Same.{same_key-is, same_key-equal}
use Rattle.pc_proto.specs.declared.meta.TxnMeta.{TxnMeta}
use Rattle.pc_proto.specs.contracts.reply.OriginPartialEq.TheImpl.{ghosts as origin_tests}
use Rattle.pc_proto.specs.declared.reply.Origin.{Origin}
use Rattle.pc_proto.specs.declared.reply.Origin.TheVariants as origins
use denote.Enum.Bare.{sameb}

pub key_decides : (one other : List ℕ) → Decides (same_key one other) (one ≡ other)
key_decides one other = (same_key-is one other, same_key-equal one other)

-- the test of two lists of keys
pub keys_decide : (one other : List (List ℕ)) → Decides (pointwise same_key one other) (one ≡ other)
keys_decide one other = pointwise_decides key_decides one other

-- The test of two writes.
abbrev same_write : List ℕ × ℕ → List ℕ × ℕ → Bool
same_write one other = same_key one.0 other.0 && one.1 == other.1

write-decides : (one other : List ℕ × ℕ) → Decides (same_write one other) (one ≡ other)
write-decides one other = (there, back)
  where
    there : same_write one other ≡ true → one ≡ other
    there h =
        let parts = and_parts (same_key one.0 other.0) (one.1 == other.1) h in
        let key : one.0 ≡ other.0 = same_key-is one.0 other.0 parts.0 in
        let seq : one.1 ≡ other.1 = eqb-true one.1 other.1 parts.1 in
        λ i. (key i, seq i)

    back : one ≡ other → same_write one other ≡ true
    back h = and_from (same_key one.0 other.0) (one.1 == other.1) (same_key-equal one.0 other.0 (ap (λ w. w.0) h)) (eq-eqb one.1 other.1 (ap (λ w. w.1) h))

-- the test of two lists of writes
pub writes_decide : (one other : List (List ℕ × ℕ)) → Decides (pointwise same_write one other) (one ≡ other)
writes_decide one other = pointwise_decides write-decides one other

priority-decides : (one other : Priority) → Decides (sameb the_type one other) (one ≡ other)
priority-decides priorities.Low priorities.Low = (λ h. refl, λ h. refl)
priority-decides priorities.Low priorities.Normal = (λ h. absurd cc, λ h. absurd cc)
priority-decides priorities.Low priorities.High = (λ h. absurd cc, λ h. absurd cc)
priority-decides priorities.Normal priorities.Low = (λ h. absurd cc, λ h. absurd cc)
priority-decides priorities.Normal priorities.Normal = (λ h. refl, λ h. refl)
priority-decides priorities.Normal priorities.High = (λ h. absurd cc, λ h. absurd cc)
priority-decides priorities.High priorities.Low = (λ h. absurd cc, λ h. absurd cc)
priority-decides priorities.High priorities.Normal = (λ h. absurd cc, λ h. absurd cc)
priority-decides priorities.High priorities.High = (λ h. refl, λ h. refl)

-- The test of two metas.
abbrev same_meta : TxnMeta → TxnMeta → Bool
same_meta one other =
    (one.id.session == other.id.session && one.id.number == other.id.number)
    && (one.epoch == other.epoch && (sameb the_type one.priority other.priority && (one.born == other.born && same_key one.anchor other.anchor)))

pub meta_decides : (one other : TxnMeta) → Decides (same_meta one other) (one ≡ other)
meta_decides one other = (there, back)
  where
    there : same_meta one other ≡ true → one ≡ other
    there h =
        let whole = and_parts (one.id.session == other.id.session && one.id.number == other.id.number) _ h in
        let named = and_parts (one.id.session == other.id.session) (one.id.number == other.id.number) whole.0 in
        let more = and_parts (one.epoch == other.epoch) _ whole.1 in
        let next = and_parts (sameb the_type one.priority other.priority) _ more.1 in
        let last = and_parts (one.born == other.born) (same_key one.anchor other.anchor) next.1 in
        let session : one.id.session ≡ other.id.session = eqb-true _ _ named.0 in
        let number : one.id.number ≡ other.id.number = eqb-true _ _ named.1 in
        let epoch : one.epoch ≡ other.epoch = eqb-true _ _ more.0 in
        let priority : one.priority ≡ other.priority = (priority-decides one.priority other.priority).0 next.0 in
        let born : one.born ≡ other.born = eqb-true _ _ last.0 in
        let anchor : one.anchor ≡ other.anchor = same_key-is one.anchor other.anchor last.1 in
        λ i. record { id = record { session = session i; number = number i }; epoch = epoch i; priority = priority i; born = born i; anchor = anchor i }

    itself : same_meta one one ≡ true
    itself =
        and_from _ _ (and_from (one.id.session == one.id.session) (one.id.number == one.id.number) (eq-eqb _ _ refl) (eq-eqb _ _ refl))
        (and_from _ _ (eq-eqb one.epoch one.epoch refl) (and_from _ _ ((priority-decides one.priority one.priority).1 refl)
        (and_from (one.born == one.born) (same_key one.anchor one.anchor) (eq-eqb _ _ refl) (same_key-equal one.anchor one.anchor refl))))

    back : one ≡ other → same_meta one other ≡ true
    back h = subst (λ m. same_meta one m ≡ true) h itself

-- the test of two lists of metas
pub metas_decide : (one other : List TxnMeta) → Decides (pointwise same_meta one other) (one ≡ other)
metas_decide one other = pointwise_decides meta_decides one other

-- The test of two origins.
abbrev same_origin : Origin → Origin → Bool
same_origin = origin_tests.eq

origin-decides : (one other : Origin) → Decides (same_origin one other) (one ≡ other)
origin-decides origins.Nothing origins.Nothing = (λ h. refl, λ h. refl)
origin-decides origins.Nothing origins.Own = (λ h. absurd cc, λ h. absurd cc)
origin-decides origins.Nothing (origins.At t) = (λ h. absurd cc, λ h. absurd cc)
origin-decides origins.Own origins.Nothing = (λ h. absurd cc, λ h. absurd cc)
origin-decides origins.Own origins.Own = (λ h. refl, λ h. refl)
origin-decides origins.Own (origins.At t) = (λ h. absurd cc, λ h. absurd cc)
origin-decides (origins.At ts) origins.Nothing = (λ h. absurd cc, λ h. absurd cc)
origin-decides (origins.At ts) origins.Own = (λ h. absurd cc, λ h. absurd cc)
origin-decides (origins.At ts) (origins.At t) = (λ h. ap origins.At (eqb-true ts t h), λ h. eq-eqb ts t (let e : ts ≡ t = cc in e))

-- The test of two rows.
abbrev same_row : List ℕ × Origin × List ℕ → List ℕ × Origin × List ℕ → Bool
same_row one other = same_key one.0 other.0 && same_origin one.1 other.1 && pointwise eqb one.2 other.2

row-decides : (one other : List ℕ × Origin × List ℕ) → Decides (same_row one other) (one ≡ other)
row-decides one other = (there, back)
  where
    there : same_row one other ≡ true → one ≡ other
    there h =
        let whole = and_parts (same_key one.0 other.0 && same_origin one.1 other.1) (pointwise eqb one.2 other.2) h in
        let parts = and_parts (same_key one.0 other.0) (same_origin one.1 other.1) whole.0 in
        let key : one.0 ≡ other.0 = same_key-is one.0 other.0 parts.0 in
        let origin : one.1 ≡ other.1 = (origin-decides one.1 other.1).0 parts.1 in
        let value : one.2 ≡ other.2 = (bytes_decides one.2 other.2).0 whole.1 in
        λ i. (key i, origin i, value i)

    back : one ≡ other → same_row one other ≡ true
    back h =
        and_from (same_key one.0 other.0 && same_origin one.1 other.1) (pointwise eqb one.2 other.2)
        (and_from (same_key one.0 other.0) (same_origin one.1 other.1) (same_key-equal one.0 other.0 (ap (λ r. r.0) h)) ((origin-decides one.1 other.1).1 (ap (λ r. r.1) h)))
        ((bytes_decides one.2 other.2).1 (ap (λ r. r.2) h))

-- the test of two lists of rows
pub rows_decide : (one other : List (List ℕ × Origin × List ℕ)) → Decides (pointwise same_row one other) (one ≡ other)
rows_decide one other = pointwise_decides row-decides one other
