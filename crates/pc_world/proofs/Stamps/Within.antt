-- When every timestamp of a range is at most this one, part by part.
use Rattle.std.proofs.Common.{ℕ, ◌≤◌, List, [], ◌∷◌, ◌++◌, map, arith}
use Rattle.std.proofs.lemmas.List.Elements.{All-from_recursion, recursion_from_All}
use Rattle.std.specs.List.{AllByRecursion as Each, flat_map}
use Rattle.pc_lists.proofs.Each.{each-append, each-back, each-flat_map, each-front, each-map, each-unmap, each-weaker}
use Rattle.pc_proto.specs.declared.record.Status.{Status}
use Rattle.pc_proto.specs.Table.{Table}
use Rattle.pc_world.specs.RangeState.{RangeState}
use Rattle.pc_world.specs.Stamps.{AllAtMost, all_stamps, cause_stamps, standing_stamps, state_stamps}

-- Each of these timestamps is at most this one.
abbrev pub AtMost : ℕ → List ℕ → Type 0
AtMost n stamps = Each (λ ts. ts ≤ n) stamps

pub record StatusWithin (n : ℕ) (s : Status) : Type 0 where
  pub ts : s.ts ≤ n
  pub cause : AtMost n (standing_stamps s.standing)

pub record TableWithin (n : ℕ) (table : Table) : Type 0 where
  pub records : Each (λ e. StatusWithin n e.1.status) table.records
  pub marks : Each (λ e. StatusWithin n e.1) table.marks

-- Every timestamp of the range is at most this one.
pub record StateWithin (n : ℕ) (s : RangeState) : Type 0 where
  pub bound : s.bound.ts ≤ n
  pub versions : Each (λ v. v.ts ≤ n) s.versions
  pub intents : Each (λ e. e.1.ts ≤ n) s.intents
  pub table : TableWithin n s.table

pub at_most-more : (n m : ℕ) (stamps : List ℕ) → n ≤ m → AtMost n stamps → AtMost m stamps
at_most-more n m stamps h = each-weaker (λ ts. ts ≤ n) (λ ts. ts ≤ m) (λ ts k. omega arith) stamps

pub status-more : (n m : ℕ) (s : Status) → n ≤ m → StatusWithin n s → StatusWithin m s
status-more n m s h a = record { ts = omega (arith, a.ts); cause = at_most-more n m (standing_stamps s.standing) h a.cause }

pub table-more : (n m : ℕ) (table : Table) → n ≤ m → TableWithin n table → TableWithin m table
table-more n m table h a = record {
  records = each-weaker (λ e. StatusWithin n e.1.status) (λ e. StatusWithin m e.1.status) (λ e k. status-more n m e.1.status h k) table.records a.records;
  marks = each-weaker (λ e. StatusWithin n e.1) (λ e. StatusWithin m e.1) (λ e k. status-more n m e.1 h k) table.marks a.marks;
}

pub state-more : (n m : ℕ) (s : RangeState) → n ≤ m → StateWithin n s → StateWithin m s
state-more n m s h a = record {
  bound = omega (arith, a.bound);
  versions = each-weaker (λ v. v.ts ≤ n) (λ v. v.ts ≤ m) (λ v k. omega arith) s.versions a.versions;
  intents = each-weaker (λ e. e.1.ts ≤ n) (λ e. e.1.ts ≤ m) (λ e k. omega arith) s.intents a.intents;
  table = table-more n m s.table h a.table;
}

statuses : {X : Type 0} (status : X → Status) (n : ℕ) (xs : List X) → AtMost n (map (λ x. (status x).ts) xs) → AtMost n (flat_map (λ x. standing_stamps (status x).standing) xs) → Each (λ x. StatusWithin n (status x)) xs
statuses status n [] a b = tt
statuses status n (x ∷ xs) a b = (
  record { ts = a.0; cause = each-front (λ ts. ts ≤ n) (standing_stamps (status x).standing) _ b },
  statuses status n xs a.1 (each-back (λ ts. ts ≤ n) (standing_stamps (status x).standing) _ b),
)

stamps_of_statuses : {X : Type 0} (status : X → Status) (n : ℕ) (xs : List X) → Each (λ x. StatusWithin n (status x)) xs → AtMost n (map (λ x. (status x).ts) xs)
stamps_of_statuses status n xs a =
    each-map (λ ts. ts ≤ n) (λ x. (status x).ts) xs (each-weaker (λ x. StatusWithin n (status x)) (λ x. (status x).ts ≤ n) (λ x k. k.ts) xs a)

causes_of_statuses : {X : Type 0} (status : X → Status) (n : ℕ) (xs : List X) → Each (λ x. StatusWithin n (status x)) xs → AtMost n (flat_map (λ x. standing_stamps (status x).standing) xs)
causes_of_statuses status n xs a =
    each-flat_map (λ ts. ts ≤ n) (λ x. standing_stamps (status x).standing) xs
    (each-weaker (λ x. StatusWithin n (status x)) (λ x. AtMost n (standing_stamps (status x).standing)) (λ x k. k.cause) xs a)

-- the parts, from all timestamps
pub state-within : (n : ℕ) (s : RangeState) → AllAtMost n (all_stamps s) → StateWithin n s
state-within n s all =
    let P : ℕ → Type 0 = λ ts. ts ≤ n in
    let whole = recursion_from_All P (all_stamps s) all in
    let standing = each-front P (state_stamps s) (cause_stamps s) whole in
    let causes = each-back P (state_stamps s) (cause_stamps s) whole in
    let versions = map (λ v. v.ts) s.versions in
    let intents = map (λ e. e.1.ts) s.intents in
    let records = map (λ e. e.1.status.ts) s.table.records in
    let marks = map (λ e. e.1.ts) s.table.marks in
    let after_versions = each-back P versions (intents ++ (records ++ marks)) standing.1 in
    let after_intents = each-back P intents (records ++ marks) after_versions in
    let record_causes = flat_map (λ e. standing_stamps e.1.status.standing) s.table.records in
    let mark_causes = flat_map (λ e. standing_stamps e.1.standing) s.table.marks in
    record {
      bound = standing.0;
      versions = each-unmap P (λ v. v.ts) s.versions (each-front P versions (intents ++ (records ++ marks)) standing.1);
      intents = each-unmap P (λ e. e.1.ts) s.intents (each-front P intents (records ++ marks) after_versions);
      table = record {
        records = statuses (λ e. e.1.status) n s.table.records (each-front P records marks after_intents) (each-front P record_causes mark_causes causes);
        marks = statuses (λ e. e.1) n s.table.marks (each-back P records marks after_intents) (each-back P record_causes mark_causes causes);
      };
    }

-- all timestamps, from the parts
pub state-stamps : (n : ℕ) (s : RangeState) → StateWithin n s → AllAtMost n (all_stamps s)
state-stamps n s a =
    let P : ℕ → Type 0 = λ ts. ts ≤ n in
    let versions = each-map P (λ v. v.ts) s.versions a.versions in
    let intents = each-map P (λ e. e.1.ts) s.intents a.intents in
    let records = stamps_of_statuses (λ e. e.1.status) n s.table.records a.table.records in
    let marks = stamps_of_statuses (λ e. e.1) n s.table.marks a.table.marks in
    let causes = each-append P _ _ (causes_of_statuses (λ e. e.1.status) n s.table.records a.table.records) (causes_of_statuses (λ e. e.1) n s.table.marks a.table.marks) in
    let standing = each-append P _ _ versions (each-append P _ _ intents (each-append P _ _ records marks)) in
    All-from_recursion P (all_stamps s) (each-append P (state_stamps s) (cause_stamps s) (a.bound, standing) causes)
