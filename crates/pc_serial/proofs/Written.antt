-- The map after operations holds under each key what was written there last.
use Rattle.std.proofs.Common.{◌≡◌, ℕ, Bool, true, false, not, if◌then◌else◌, ◌⊎◌, inl, inr, List, [], ◌∷◌, ◌++◌, flat_map, fold, append_assoc, Option, None, Some, refl, sym, ap, ◌∙◌}
use Rattle.std.proofs.lemmas.Cmp.{nat_list_cmp_total}
use Rattle.std.proofs.lemmas.Grind.{flat_map-append}
use Rattle.std.proofs.lemmas.List.Sums.{fold-append}
use Rattle.std.specs.Cmp.Lexicographic.{slice_cmp}
use Rattle.std.specs.List.{AllByRecursion as Each}
use Rattle.std.specs.Ordering.{nat_cmp}
use Rattle.pc_base.specs.declared.transaction.TxnId.{TxnId}
use Rattle.pc_base.specs.Keyed.{at}
use Rattle.pc_base.specs.Span.{same_key}
use Rattle.pc_lists.proofs.Same.{same_key-is, same_key-self}
use Rattle.pc_serial.proofs.InOrder.{rises-insert}
use Rattle.pc_serial.proofs.Maps.{RisesByKey, at-insert, at-without, rises-part}
use Rattle.pc_world.specs.Legal.{WritesKey}
use Rattle.pc_world.specs.MapRun.{Map, map_after, with_value}
use Rattle.pc_world.specs.Operations.{Operation, Read, ReadAll, Write}

-- What was written of the key last, after one more operation: no value where that is a deletion.
abbrev pub written_after : List ℕ → Option (List ℕ) → Operation → Option (List ℕ)
written_after key was (Write own seq value) = if same_key own key then value else was
written_after key was (Read own value) = was
written_after key was (ReadAll span rows) = was

-- What the last write of the key among the operations says: no value where there is none, or where that is a deletion.
abbrev pub written : List ℕ → List Operation → Option (List ℕ)
written key os = fold (written_after key) None os

-- The operation does not write the key.
abbrev pub LeavesKey : List ℕ → Operation → Type 0
LeavesKey key o = WritesKey key o → ⊥

-- ---- the map after operations

with-rises : (key : List ℕ) (value : Option (List ℕ)) (m : Map) → RisesByKey m → RisesByKey (with_value key value m)
with-rises key None m r = rises-part (λ e. not (same_key e.0 key)) m r
with-rises key (Some value) m r = rises-insert (slice_cmp nat_cmp) nat_list_cmp_total key value m r

with-at : (own : List ℕ) (value : Option (List ℕ)) (m : Map) (key : List ℕ) → at same_key key (with_value own value m) ≡ (if same_key own key then value else at same_key key m)
with-at own None m key = at-without own key m
with-at own (Some value) m key = at-insert own value key m

pub after-rises : (m : Map) (o : Operation) → RisesByKey m → RisesByKey (map_after m o)
after-rises m (Write key seq value) r = with-rises key value m r
after-rises m (Read key value) r = r
after-rises m (ReadAll span rows) r = r

pub after-at : (m : Map) (o : Operation) (key : List ℕ) → at same_key key (map_after m o) ≡ written_after key (at same_key key m) o
after-at m (Write own seq value) key = with-at own value m key
after-at m (Read own value) key = refl
after-at m (ReadAll span rows) key = refl

-- ---- what was written last

pub written-append : (key : List ℕ) (os more : List Operation) → written key (os ++ more) ≡ fold (written_after key) (written key os) more
written-append key os more = fold-append (written_after key) None os more

left-one : (key : List ℕ) (was : Option (List ℕ)) (o : Operation) → LeavesKey key o → written_after key was o ≡ was
left-one key was (Write own seq value) leaves =
    let by : (b : Bool) → same_key own key ≡ b → (if b then value else was) ≡ was = elim [ true ↦ λ is. absurd (leaves (same_key-is own key is)) | false ↦ λ is. refl ]
    in by (same_key own key) refl
left-one key was (Read own value) leaves = refl
left-one key was (ReadAll span rows) leaves = refl

pub left-from : (key : List ℕ) (was : Option (List ℕ)) (os : List Operation) → Each (LeavesKey key) os → fold (written_after key) was os ≡ was
left-from key was [] a = refl
left-from key was (o ∷ os) a = ap (λ w. fold (written_after key) w os) (left-one key was o a.0) ∙ left-from key was os a.1

-- operations that leave the key add nothing
pub written-left : (key : List ℕ) (os more : List Operation) → Each (LeavesKey key) more → written key (os ++ more) ≡ written key os
written-left key os more a = written-append key os more ∙ left-from key (written key os) more a

-- the last write of the key is what counts
pub written-last : (key : List ℕ) (os : List Operation) (seq : ℕ) (value : Option (List ℕ)) (more : List Operation) → Each (LeavesKey key) more → written key (os ++ Write key seq value ∷ more) ≡ value
written-last key os seq value more a =
    written-append key os (Write key seq value ∷ more)
    ∙ ap (λ b. fold (written_after key) (if b then value else written key os) more) (same_key-self key)
    ∙ left-from key value more a

-- The last write of a key among operations.
pub record LastWrite (key : List ℕ) (os : List Operation) : Type 0 where
  pub front : List Operation
  pub seq : ℕ
  pub value : Option (List ℕ)
  pub back : List Operation
  pub whole : os ≡ front ++ Write key seq value ∷ back
  pub leaves : Each (LeavesKey key) back

writes-or-leaves : (key : List ℕ) (o : Operation) → ((seq : ℕ) × (value : Option (List ℕ)) × (o ≡ Write key seq value)) ⊎ LeavesKey key o
writes-or-leaves key (Write own seq value) =
    let by : (b : Bool) → same_key own key ≡ b → ((at : ℕ) × (last : Option (List ℕ)) × (Write own seq value ≡ Write key at last)) ⊎ LeavesKey key (Write own seq value) = elim [
      | true ↦ λ is. inl (seq, value, ap (λ k. Write k seq value) (same_key-is own key is))
      | false ↦ λ is. inr (λ same. let here : same_key own key ≡ true = ap (λ k. same_key own k) (sym same) ∙ same_key-self own in cc)
    ] in by (same_key own key) refl
writes-or-leaves key (Read own value) = inr (λ h. h)
writes-or-leaves key (ReadAll span rows) = inr (λ h. h)

-- operations have a last write of the key, or leave it
pub last-write : (key : List ℕ) (os : List Operation) → LastWrite key os ⊎ Each (LeavesKey key) os
last-write key [] = inr tt
last-write key (o ∷ os) =
    elim (last-write key os) [
      | inl last ↦ inl (record { front = o ∷ last.front; seq = last.seq; value = last.value; back = last.back; whole = ap (λ xs. o ∷ xs) last.whole; leaves = last.leaves })
      | inr leaves ↦ elim (writes-or-leaves key o) [
        | inl is ↦ inl (record { front = []; seq = is.0; value = is.1; back = os; whole = ap (λ x. x ∷ os) is.2; leaves = leaves })
        | inr left ↦ inr (left, leaves)
      ]
    ]

-- the last write of the key counts, whatever was done before
pub written-by-last : (key : List ℕ) (os more : List Operation) (last : LastWrite key more) → written key (os ++ more) ≡ last.value
written-by-last key os more last =
    ap (λ xs. written key (os ++ xs)) last.whole
    ∙ ap (written key) (sym (append_assoc os last.front (Write key last.seq last.value ∷ last.back)))
    ∙ written-last key (os ++ last.front) last.seq last.value last.back last.leaves

-- ---- the same, of transactions one after another

-- The transaction does not write the key.
abbrev pub TxnLeavesKey : (TxnId → List Operation) → List ℕ → TxnId → Type 0
TxnLeavesKey operations key id = Each (LeavesKey key) (operations id)

-- The last of the transactions that writes the key.
pub record LastWriter (operations : TxnId → List Operation) (key : List ℕ) (ids : List TxnId) : Type 0 where
  pub front : List TxnId
  pub id : TxnId
  pub back : List TxnId
  pub whole : ids ≡ front ++ id ∷ back
  pub last : LastWrite key (operations id)
  pub leave : Each (TxnLeavesKey operations key) back
  pub counts : written key (flat_map operations ids) ≡ last.value

all-left : (operations : TxnId → List Operation) (key : List ℕ) (was : Option (List ℕ)) (ids : List TxnId) → Each (TxnLeavesKey operations key) ids → fold (written_after key) was (flat_map operations ids) ≡ was
all-left operations key was [] a = refl
all-left operations key was (id ∷ ids) a =
    fold-append (written_after key) was (operations id) (flat_map operations ids)
    ∙ ap (λ w. fold (written_after key) w (flat_map operations ids)) (left-from key was (operations id) a.0)
    ∙ all-left operations key was ids a.1

-- where none of them writes the key, nothing was written there
pub written-none : (operations : TxnId → List Operation) (key : List ℕ) (ids : List TxnId) → Each (TxnLeavesKey operations key) ids → written key (flat_map operations ids) ≡ None
written-none operations key ids a = all-left operations key None ids a

-- transactions have a last writer of the key, or leave it
pub last-writer : (operations : TxnId → List Operation) (key : List ℕ) (ids : List TxnId) → LastWriter operations key ids ⊎ Each (TxnLeavesKey operations key) ids
last-writer operations key [] = inr tt
last-writer operations key (id ∷ ids) =
    elim (last-writer operations key ids) [
      | inl w ↦ inl (record {
        front = id ∷ w.front;
        id = w.id;
        back = w.back;
        whole = ap (λ xs. id ∷ xs) w.whole;
        last = w.last;
        leave = w.leave;
        counts =
            ap (λ xs. written key (operations id ++ flat_map operations xs)) w.whole
            ∙ ap (λ xs. written key (operations id ++ xs)) (flat_map-append operations w.front (w.id ∷ w.back))
            ∙ ap (written key) (sym (append_assoc (operations id) (flat_map operations w.front) (flat_map operations (w.id ∷ w.back))))
            ∙ by-writer (operations id ++ flat_map operations w.front) w.id w.back w.last w.leave;
      })
      | inr leave ↦ elim (last-write key (operations id)) [
        | inl last ↦ inl (record { front = []; id = id; back = ids; whole = refl; last = last; leave = leave; counts = by-writer [] id ids last leave })
        | inr left ↦ inr (left, leave)
      ]
    ]
  where
    by-writer : (os : List Operation) (writer : TxnId) (back : List TxnId) (last : LastWrite key (operations writer)) → Each (TxnLeavesKey operations key) back → written key (os ++ (operations writer ++ flat_map operations back)) ≡ last.value
    by-writer os writer back last leave =
        ap (written key) (sym (append_assoc os (operations writer) (flat_map operations back)))
        ∙ written-append key (os ++ operations writer) (flat_map operations back)
        ∙ all-left operations key (written key (os ++ operations writer)) back leave
        ∙ written-by-last key os (operations writer) last
