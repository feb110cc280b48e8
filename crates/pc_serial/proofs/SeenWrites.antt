-- What is visible where versions rise and are those of the transactions before: what the last of these wrote.
use Rattle.std.proofs.Common.{◌≡◌, ℕ, ◌<◌, ◌≤◌, inl, inr, List, ◌∷◌, ◌++◌, flat_map, Option, None, Some, Contains, refl, sym, ap, subst, ◌∙◌, arith}
use Rattle.std.proofs.lemmas.List.Elements.{All-contains, Contains-append_cases, Contains-append_right}
use Rattle.std.specs.List.{AllByRecursion as Each, AllPairs}
use Rattle.pc_base.specs.declared.transaction.TxnId.{TxnId}
use Rattle.pc_base.specs.declared.version.Version.{Version}
use Rattle.pc_base.specs.Versions.{visible}
use Rattle.pc_implicit.proofs.RisingVersions.{Rise}
use Rattle.pc_implicit.proofs.VisibleVersions.{none-visible, one-version, visible-greatest, visible-last}
use Rattle.pc_lists.proofs.Each.{each-contains}
use Rattle.pc_lists.proofs.Lists.{contains_cons, contains_head}
use Rattle.pc_serial.proofs.Written.{LastWrite, LastWriter, LeavesKey, TxnLeavesKey, last-writer, written, written-none}
use Rattle.pc_world.specs.Evaluation.Get.{version_found}
use Rattle.pc_world.specs.Operations.{Operation, Write}

-- a last write is a write that is not left out
writes-once : (key : List ℕ) (os : List Operation) → LastWrite key os → Each (LeavesKey key) os → ⊥
writes-once key os last leaves = by os last.whole leaves
  where
    by : (os : List Operation) → os ≡ last.front ++ Write key last.seq last.value ∷ last.back → Each (LeavesKey key) os → ⊥
    by os whole leaves =
        each-contains (LeavesKey key) os (Write key last.seq last.value) leaves
        (subst (λ xs. Contains xs (Write key last.seq last.value)) (sym whole)
        (Contains-append_right last.front (Write key last.seq last.value ∷ last.back) (Write key last.seq last.value) (contains_head (Write key last.seq last.value) last.back)))
        refl

module _ (operations : TxnId → List Operation) (CommitsAt : TxnId → ℕ → Type 0) (key : List ℕ) (ts : ℕ) (before : List TxnId) (versions : List Version) where
  -- The version is of one of the transactions before, at its timestamp, with its last write of the key.
  pub record IsOfBefore (v : Version) : Type 0 where
    pub there : Contains before v.id
    pub at : CommitsAt v.id v.ts
    pub last : LastWrite key (operations v.id)
    pub value : last.value ≡ v.value

  -- The transaction's last write of the key is a version that the read may see.
  pub record IsSeen (id : TxnId) (value : Option (List ℕ)) : Type 0 where
    pub v : Version
    pub there : Contains versions v
    pub of_key : v.key ≡ key
    pub low : v.ts ≤ ts
    pub at : CommitsAt id v.ts
    pub value_is : v.value ≡ value

  -- Those that stand first are not committed later.
  abbrev pub AreInOrder : Type 0
  AreInOrder = (front : List TxnId) (id : TxnId) (back : List TxnId) (other : TxnId) (at earlier : ℕ) → before ≡ front ++ id ∷ back → Contains front other → CommitsAt id at → CommitsAt other earlier → earlier ≤ at

  module _
      (rising : AllPairs Rise versions)
      (once : (id : TxnId) (one other : ℕ) → CommitsAt id one → CommitsAt id other → one ≡ other)
      (in_order : AreInOrder)
      (of_before : (v : Version) → Contains versions v → v.key ≡ key → v.ts ≤ ts → IsOfBefore v)
      (seen : (id : TxnId) → Contains before id → (last : LastWrite key (operations id)) → IsSeen id last.value) where
    visible-there : (v : Version) → visible key ts versions ≡ Some v → IsOfBefore v × Contains versions v × (v.key ≡ key)
    visible-there v is =
        let l = visible-last key ts versions v rising is in
        let there : Contains versions v = subst (λ vs. Contains vs v) (sym l.whole) (Contains-append_right l.front (v ∷ l.back) v (contains_head v l.back)) in
        (of_before v there l.at l.low, there, l.at)

    finds-none : Each (TxnLeavesKey operations key) before → (o : Option Version) → visible key ts versions ≡ o → (version_found o).1 ≡ None
    finds-none leave None is = refl
    finds-none leave (Some v) is =
        let b = (visible-there v is).0 in
        absurd (writes-once key (operations v.id) b.last (each-contains (TxnLeavesKey operations key) before v.id leave b.there))

    not-later : (w : LastWriter operations key before) (v : Version) (b : IsOfBefore v) (at : ℕ) → CommitsAt w.id at → v.ts ≤ at
    not-later w v b at commits =
        elim (Contains-append_cases w.front (w.id ∷ w.back) v.id (subst (λ xs. Contains xs v.id) w.whole b.there)) [
          | inl first ↦ in_order w.front w.id w.back v.id at v.ts w.whole first commits b.at
          | inr rest ↦ elim (contains_cons w.id w.back v.id rest) [
            | inl same ↦ let equal : v.ts ≡ at = once v.id v.ts at b.at (subst (λ id. CommitsAt id at) same commits) in omega (arith, equal)
            | inr later ↦ absurd (writes-once key (operations v.id) b.last (each-contains (TxnLeavesKey operations key) w.back v.id w.leave later))
          ]
        ]

    writer-there : (w : LastWriter operations key before) → Contains before w.id
    writer-there w = subst (λ xs. Contains xs w.id) (sym w.whole) (Contains-append_right w.front (w.id ∷ w.back) w.id (contains_head w.id w.back))

    finds-last : (w : LastWriter operations key before) → (o : Option Version) → visible key ts versions ≡ o → (version_found o).1 ≡ w.last.value
    finds-last w None is =
        let s = seen w.id (writer-there w) w.last in
        let above : ts < s.v.ts = All-contains (λ v. v.key ≡ key → ts < v.ts) versions s.v (none-visible key ts versions is) s.there s.of_key in
        let low = s.low in
        absurd (omega (arith, above, low))
    finds-last w (Some v) is =
        let s = seen w.id (writer-there w) w.last in
        let b = visible-there v is in
        let high : s.v.ts ≤ v.ts = All-contains (λ u. u.key ≡ key → u.ts ≤ ts → u.ts ≤ v.ts) versions s.v (visible-greatest key ts versions v rising is) s.there s.of_key s.low in
        let low : v.ts ≤ s.v.ts = not-later w v b.0 s.v.ts s.at in
        let one : v ≡ s.v = one-version versions rising v s.v b.1 s.there (b.2 ∙ sym s.of_key) (omega (arith, high, low)) in
        ap (λ (u : Version). u.value) one ∙ s.value_is

    -- what is visible is what was written last by those before
    pub visible-written : (version_found (visible key ts versions)).1 ≡ written key (flat_map operations before)
    visible-written = elim (last-writer operations key before) [
      | inl w ↦ finds-last w (visible key ts versions) refl ∙ sym w.counts
      | inr leave ↦ finds-none leave (visible key ts versions) refl ∙ sym (written-none operations key before leave)
    ]
