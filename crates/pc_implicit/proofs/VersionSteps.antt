-- A range's versions after a request: those before it, and the one that a resolve made of an intent.
use Rattle.std.proofs.Common.{◌≡◌, ℕ, ◌≤◌, nat_le, Bool, true, false, cond, ◌==◌, ◌⊎◌, inl, inr, List, [], ◌∷◌, ◌++◌, Option, None, Some, Contains, refl, sym, ap, subst, ◌∙◌}
use Rattle.std.proofs.lemmas.Bool.{and_from, and_parts, eq-eqb, eqb-true, le-leb, leb-true}
use Rattle.pc_base.specs.declared.entry.Entry.{Entry}
use Rattle.pc_base.specs.declared.transaction.TxnId.{TxnId}
use Rattle.pc_base.specs.declared.version.Version.{Version}
use Rattle.pc_implicit.proofs.Lift.{GoesOn, over}
use Rattle.pc_lists.proofs.Lists.{contains_cons, contains_head, contains_nil}
use Rattle.pc_proto.specs.declared.event.Event.{Event}
use Rattle.pc_proto.specs.declared.fate.Fate.{Fate}
use Rattle.pc_proto.specs.declared.fate.Fate.TheVariants as fates
use Rattle.pc_proto.specs.declared.record.Intent.{Intent}
use Rattle.pc_proto.specs.declared.request.Request.{Request}
use Rattle.pc_proto.specs.declared.request.Request.TheVariants as requests
use Rattle.pc_proto.specs.Intents.{last_value, own_at}
use Rattle.pc_world.proofs.KeptVersions.{adds_versions, keeps_versions, versions_come_from}
use Rattle.pc_world.specs.After.{state_at}
use Rattle.pc_world.specs.Evaluation.{versions_after}
use Rattle.pc_world.specs.Evaluation.Resolve.{is_committed_by, new_versions, version_for}
use Rattle.pc_world.specs.Local.{Head}
use Rattle.pc_world.specs.RangeState.{RangeState}

-- The request made the version, of the transaction's own intent.
pub record IsMade (request : Request) (s : RangeState) (v : Version) : Type 0 where
  pub epoch : ℕ
  pub i : Intent
  pub asks : request ≡ requests.Resolve v.id v.key (fates.Committed epoch v.ts)
  pub own : own_at v.id v.key s.intents ≡ Some i
  pub epoch_is : i.meta.epoch ≡ epoch
  pub low : i.ts ≤ v.ts
  pub last : last_value i ≡ Some v.value

made-of : (id : TxnId) (key : List ℕ) (epoch ts : ℕ) (s : RangeState) (i : Intent) → own_at id key s.intents ≡ Some i → (v : Version)
    → Contains (new_versions id key (fates.Committed epoch ts) (Some i)) v → IsMade (requests.Resolve id key (fates.Committed epoch ts)) s v
made-of id key epoch ts s i own v there = by (is_committed_by epoch ts i) refl (last_value i) refl there
  where
    by : (b : Bool) → is_committed_by epoch ts i ≡ b → (o : Option (Option (List ℕ))) → last_value i ≡ o → Contains (cond b (version_for id key ts o) []) v → IsMade (requests.Resolve id key (fates.Committed epoch ts)) s v
    by false is o last there = absurd (contains_nil v there)
    by true is None last there = absurd (contains_nil v there)
    by true is (Some value) last there =
        elim (contains_cons (record { key = key; ts = ts; id = id; value = value }) [] v there) [
          | inl same ↦
              let parts = and_parts (i.meta.epoch == epoch) (nat_le i.ts ts) is in
              subst (IsMade (requests.Resolve id key (fates.Committed epoch ts)) s) same
              (record { epoch = epoch; i = i; asks = refl; own = own; epoch_is = eqb-true i.meta.epoch epoch parts.0; low = leb-true i.ts ts parts.1; last = last })
          | inr later ↦ absurd (contains_nil v later)
        ]

resolve-made : (id : TxnId) (key : List ℕ) (fate : Fate) (s : RangeState) (own : Option Intent) → own_at id key s.intents ≡ own → (v : Version)
    → Contains (new_versions id key fate own) v → IsMade (requests.Resolve id key fate) s v
resolve-made id key fate s None e v there = absurd (contains_nil v there)
resolve-made id key (fates.Committed epoch ts) s (Some i) e v there = made-of id key epoch ts s i e v there
resolve-made id key fates.Aborted s (Some i) e v there = absurd (contains_nil v there)
resolve-made id key (fates.Pending ts) s (Some i) e v there = absurd (contains_nil v there)

-- a version after a request stood before it, or the request made it
pub version_cases : (request : Request) (s : RangeState) (v : Version) → Contains (versions_after request s) v → Contains s.versions v ⊎ IsMade request s v
version_cases (requests.Resolve id key fate) s v there =
    elim (versions_come_from s.versions (new_versions id key fate (own_at id key s.intents)) v there) [
      | inl before ↦ inl before
      | inr new ↦ inr (resolve-made id key fate s (own_at id key s.intents) refl v new)
    ]
version_cases request s v there = inl there

-- a resolve makes a version of an intent of the committed epoch that is not above the commit
pub makes_version : (id : TxnId) (key : List ℕ) (epoch ts : ℕ) (value : Option (List ℕ)) (s : RangeState) (i : Intent) → own_at id key s.intents ≡ Some i → i.meta.epoch ≡ epoch → i.ts ≤ ts → last_value i ≡ Some value
    → Contains (versions_after (requests.Resolve id key (fates.Committed epoch ts)) s) (record { key = key; ts = ts; id = id; value = value })
makes_version id key epoch ts value s i own same low last =
    let v : Version = record { key = key; ts = ts; id = id; value = value } in
    let is : is_committed_by epoch ts i ≡ true = and_from (i.meta.epoch == epoch) (nat_le i.ts ts) (eq-eqb i.meta.epoch epoch same) (le-leb i.ts ts low) in
    let made : new_versions id key (fates.Committed epoch ts) (own_at id key s.intents) ≡ v ∷ [] =
    ap (new_versions id key (fates.Committed epoch ts)) own ∙ ap (λ b. cond b (version_for id key ts (last_value i)) []) is ∙ ap (version_for id key ts) last in
    adds_versions s.versions (new_versions id key (fates.Committed epoch ts) (own_at id key s.intents)) v (subst (λ l. Contains l v) (sym made) (contains_head v []))

keeps-version : (v : Version) (request : Request) (s : RangeState) → Contains s.versions v → Contains (versions_after request s) v
keeps-version v (requests.Resolve id key fate) s there = keeps_versions s.versions (new_versions id key fate (own_at id key s.intents)) v there
keeps-version v request s there = there

versions-go-on : (v : Version) → GoesOn (λ s t. Contains s.versions v → Contains t.versions v)
versions-go-on v = record { same = λ s there. there; on = λ s t u f g there. g (f there); step = λ request s there. keeps-version v request s there }

-- a version stays
pub version_stays : (head : Head) (range : ℕ) (front back : List (Entry Event)) (v : Version) → Contains (state_at head range front).versions v → Contains (state_at head range (front ++ back)).versions v
version_stays head range front back v there = over (λ s t. Contains s.versions v → Contains t.versions v) (versions-go-on v) head range front back there
