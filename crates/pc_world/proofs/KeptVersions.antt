-- What a range's versions have after more were added: all that was there, the new ones, and no other.
use Rattle.std.proofs.Common.{◌≡◌, Bool, true, false, if◌then◌else◌, List, [], ◌∷◌, fold, ◌⊎◌, inl, inr, Contains, subst}
use Rattle.std.specs.Ordering.{is_lt}
use Rattle.pc_base.specs.declared.version.Version.{Version}
use Rattle.pc_base.specs.Versions.{version_cmp, with_version}
use Rattle.pc_lists.proofs.Lists.{contains_cons, contains_head, contains_nil, contains_tail}

stays : (vs : List Version) (v x : Version) → Contains vs x → Contains (with_version vs v) x
stays [] v x there = absurd (contains_nil x there)
stays (w ∷ ws) v x there = by (is_lt (version_cmp v w)) (stays ws v x)
  where
    by : (b : Bool) → (Contains ws x → Contains (with_version ws v) x) → Contains (if b then v ∷ w ∷ ws else w ∷ with_version ws v) x
    by true rest = contains_tail v (w ∷ ws) x there
    by false rest =
        elim (contains_cons w ws x there) [
          | inl same ↦ subst (Contains (w ∷ with_version ws v)) same (contains_head w (with_version ws v))
          | inr later ↦ contains_tail w (with_version ws v) x (rest later)
        ]

comes : (vs : List Version) (v : Version) → Contains (with_version vs v) v
comes [] v = contains_head v []
comes (w ∷ ws) v = by (is_lt (version_cmp v w)) (comes ws v)
  where
    by : (b : Bool) → Contains (with_version ws v) v → Contains (if b then v ∷ w ∷ ws else w ∷ with_version ws v) v
    by true rest = contains_head v (w ∷ ws)
    by false rest = contains_tail w (with_version ws v) v rest

which : (vs : List Version) (v x : Version) → Contains (with_version vs v) x → Contains vs x ⊎ (v ≡ x)
which [] v x there = elim (contains_cons v [] x there) [ inl same ↦ inr same | inr later ↦ inl later ]
which (w ∷ ws) v x there = by (is_lt (version_cmp v w)) there (which ws v x)
  where
    by : (b : Bool) → Contains (if b then v ∷ w ∷ ws else w ∷ with_version ws v) x → (Contains (with_version ws v) x → Contains ws x ⊎ (v ≡ x)) → Contains (w ∷ ws) x ⊎ (v ≡ x)
    by true there rest = elim (contains_cons v (w ∷ ws) x there) [ inl same ↦ inr same | inr later ↦ inl later ]
    by false there rest =
        elim (contains_cons w (with_version ws v) x there) [
          | inl same ↦ inl (subst (Contains (w ∷ ws)) same (contains_head w ws))
          | inr later ↦ elim (rest later) [ inl old ↦ inl (contains_tail w ws x old) | inr new ↦ inr new ]
        ]

pub keeps_versions : (vs more : List Version) (x : Version) → Contains vs x → Contains (fold with_version vs more) x
keeps_versions vs [] x there = there
keeps_versions vs (v ∷ more) x there = keeps_versions (with_version vs v) more x (stays vs v x there)

pub adds_versions : (vs more : List Version) (x : Version) → Contains more x → Contains (fold with_version vs more) x
adds_versions vs [] x there = absurd (contains_nil x there)
adds_versions vs (v ∷ more) x there =
    elim (contains_cons v more x there) [
      | inl same ↦ keeps_versions (with_version vs v) more x (subst (Contains (with_version vs v)) same (comes vs v))
      | inr later ↦ adds_versions (with_version vs v) more x later
    ]

pub versions_come_from : (vs more : List Version) (x : Version) → Contains (fold with_version vs more) x → Contains vs x ⊎ Contains more x
versions_come_from vs [] x there = inl there
versions_come_from vs (v ∷ more) x there =
    elim (versions_come_from (with_version vs v) more x there) [
      | inl old ↦ elim (which vs v x old) [ inl before ↦ inl before | inr same ↦ inr (subst (Contains (v ∷ more)) same (contains_head v more)) ]
      | inr new ↦ inr (contains_tail v more x new)
    ]
