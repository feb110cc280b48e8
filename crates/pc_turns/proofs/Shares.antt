-- Turns add up to the order of the clients' entries.
use Rattle.std.proofs.Common.{◌≡◌, ◌≢◌, ℕ, zero, suc, ◌+◌, ◌-◌, ◌<◌, ◌≤◌, ◌⊎◌, inl, inr, Bool, true, false, cond, List, [], ◌∷◌, ◌++◌, Contains, All, filter, length, Some, slice_get, slice_set, refl, sym, ap, subst, ◌∙◌, arith}
use Rattle.std.proofs.lemmas.Bool.{false≢true, le-leb, lt-leb}
use Rattle.std.proofs.lemmas.List.{append-nil}
use Rattle.std.proofs.lemmas.List.Elements.{All-append, All-contains, All-weaker, filter-append}
use Rattle.std.proofs.lemmas.Option.{slice_get_within}
use Rattle.pc_base.specs.declared.actor.ActorId.{ActorId}
use Rattle.pc_base.specs.declared.actor.ActorId.TheVariants.{Range, Recoverer, Session}
use Rattle.pc_history.proofs.Ids.{same_id-differ, same_id-equal}
use Rattle.pc_history.specs.Closed.{ids_of}
use Rattle.pc_history.specs.declared.pair.Pair.{Pair}
use Rattle.pc_history.specs.declared.view.Part.{Part}
use Rattle.pc_history.specs.Own.{same_id}
use Rattle.pc_lists.proofs.Lists.{contains_head, contains_tail, length_set}
use Rattle.pc_proto.specs.declared.event.Event.{Event}
use Rattle.pc_turns.proofs.Moves.{marks_keep_order}
use Rattle.pc_turns.specs.Clients.{is_client, share_of}
use Rattle.pc_world.specs.Local.{Head}
use Rattle.pc_turns.specs.Laws.{SharesMakeUp, TurnsAddUp}
use Rattle.pc_turns.specs.Shares.{AreHandedIn, IsClientOf, IsPartAt, client_at}

module _ {X : Type 0} where
  -- what stands at a place, where that place or another was written
  read-back : (xs : List X) (i : ℕ) (x y : X) → slice_get (slice_set xs i x) i ≡ Some y → y ≡ x
  read-back [] i x y at = absurd cc
  read-back (z ∷ zs) zero x y at = cc
  read-back (z ∷ zs) (suc i) x y at = read-back zs i x y at

  read-other : (xs : List X) (i j : ℕ) (x y : X) → j ≢ i → slice_get (slice_set xs i x) j ≡ Some y → slice_get xs j ≡ Some y
  read-other [] i j x y differ at = at
  read-other (z ∷ zs) zero zero x y differ at = absurd (differ refl)
  read-other (z ∷ zs) zero (suc j) x y differ at = at
  read-other (z ∷ zs) (suc i) zero x y differ at = at
  read-other (z ∷ zs) (suc i) (suc j) x y differ at = read-other zs i j x y (λ e. differ (ap suc e)) at

  -- nothing is chosen where no element passes
  chosen-none : (p : X → Bool) (xs : List X) → ((x : X) → Contains xs x → p x ≡ false) → filter p xs ≡ []
  chosen-none p [] none = refl
  chosen-none p (x ∷ xs) none =
      let first : p x ≡ false = none x (contains_head x xs) in
      ap (λ b. cond b (x ∷ filter p xs) (filter p xs)) first ∙ chosen-none p xs (λ y c. none y (contains_tail x xs y c))

  -- all are chosen where each passes
  chosen-all : (p : X → Bool) (xs : List X) → ((x : X) → Contains xs x → p x ≡ true) → filter p xs ≡ xs
  chosen-all p [] all = refl
  chosen-all p (x ∷ xs) all =
      let first : p x ≡ true = all x (contains_head x xs) in
      ap (λ b. cond b (x ∷ filter p xs) (filter p xs)) first ∙ ap (λ ys. x ∷ ys) (chosen-all p xs (λ y c. all y (contains_tail x xs y c)))

same-or-other : (i j : ℕ) → (i ≡ j) ⊎ (i ≢ j)
same-or-other zero zero = inl refl
same-or-other zero (suc j) = inr (λ e. let no : ⊥ = omega arith in no)
same-or-other (suc i) zero = inr (λ e. let no : ⊥ = omega arith in no)
same-or-other (suc i) (suc j) = elim (same-or-other i j) [
  | inl e ↦ inl (ap suc e)
  | inr differ ↦ inr (λ e. differ (omega arith))
]

module _ (head : Head) where
  -- the sessions stand first
  pub session_at : (index : ℕ) → index < head.sessions → client_at head index ≡ Session (index + 1)
  session_at index lt = ap (λ b. cond b (Recoverer (index - head.sessions + 1)) (Session (index + 1))) (lt-leb head.sessions index lt)

  -- and the recoverers behind them
  behind : (index : ℕ) → head.sessions ≤ index → client_at head index ≡ Recoverer (index - head.sessions + 1)
  behind index le = ap (λ b. cond b (Recoverer (index - head.sessions + 1)) (Session (index + 1))) (le-leb head.sessions index le)

  pub recoverer_at : (index : ℕ) → client_at head (head.sessions + index) ≡ Recoverer (index + 1)
  recoverer_at index = behind (head.sessions + index) (omega arith) ∙ (let same : head.sessions + index - head.sessions + 1 ≡ index + 1 = omega arith in ap Recoverer same)

  -- which of the two stands there
  pub where_at : (index : ℕ) → (index < head.sessions) ⊎ (head.sessions ≤ index)
  where_at index = le_or index head.sessions
    where
      le_or : (i n : ℕ) → (i < n) ⊎ (n ≤ i)
      le_or i zero = inr (omega arith)
      le_or zero (suc n) = inl (omega arith)
      le_or (suc i) (suc n) = elim (le_or i n) [
        | inl lt ↦ inl (omega arith)
        | inr le ↦ inr (omega arith)
      ]

  session_same : (i j : ℕ) → Session (i + 1) ≡ Session (j + 1) → i ≡ j
  session_same i j e = let s : i + 1 ≡ j + 1 = cc in omega arith

  recoverer_same : (i j : ℕ) → Recoverer i ≡ Recoverer j → i ≡ j
  recoverer_same i j e = cc

  both-kinds : (i j : ℕ) → Session i ≡ Recoverer j → ⊥
  both-kinds i j e = cc

  -- no client stands at two places
  pub client_once : (i j : ℕ) → client_at head i ≡ client_at head j → i ≡ j
  client_once i j e = by (where_at i) (where_at j)
    where
      by : (i < head.sessions) ⊎ (head.sessions ≤ i) → (j < head.sessions) ⊎ (head.sessions ≤ j) → i ≡ j
      by (inl a) (inl b) = session_same i j (sym (session_at i a) ∙ e ∙ session_at j b)
      by (inl a) (inr b) = absurd (both-kinds (i + 1) (j - head.sessions + 1) (sym (session_at i a) ∙ e ∙ behind j b))
      by (inr a) (inl b) = absurd (both-kinds (j + 1) (i - head.sessions + 1) (sym (session_at j b) ∙ sym e ∙ behind i a))
      by (inr a) (inr b) =
          let s : i - head.sessions + 1 ≡ j - head.sessions + 1 = recoverer_same (i - head.sessions + 1) (j - head.sessions + 1) (sym (behind i a) ∙ e ∙ behind j b) in omega arith

  -- a client stands at each place
  pub client_there : (index : ℕ) → index < head.sessions + head.recoverers → IsClientOf head (client_at head index)
  client_there index lt = by (where_at index)
    where
      by : (index < head.sessions) ⊎ (head.sessions ≤ index) → IsClientOf head (client_at head index)
      by (inl a) = subst (IsClientOf head) (sym (session_at index a)) ((omega arith, omega arith), refl)
      by (inr a) = subst (IsClientOf head) (sym (behind index a)) ((omega arith, omega arith), refl)

  -- and each client at a place
  pub client_place : (id : ActorId) → IsClientOf head id → (index : ℕ) × (index < head.sessions + head.recoverers) × (client_at head index ≡ id)
  client_place (Session number) h =
      let from : 1 ≤ number = h.0.0 in
      let to : number ≤ head.sessions = h.0.1 in
      let same : (number - 1) + 1 ≡ number = omega arith in
      (number - 1, omega arith, session_at (number - 1) (omega arith) ∙ ap Session same)
  client_place (Recoverer number) h =
      let from : 1 ≤ number = h.0.0 in
      let to : number ≤ head.recoverers = h.0.1 in
      let same : (number - 1) + 1 ≡ number = omega arith in
      (head.sessions + (number - 1), omega arith, recoverer_at (number - 1) ∙ ap Recoverer same)
  client_place (Range range) h = absurd (false≢true h.1)

module _ (order part : List (Pair Event)) (id : ActorId) (whose : All (λ (p : Pair Event). p.entry.actor ≡ id) part) where
  -- the client's share grows by its part
  pub share_grows : share_of id (order ++ part) ≡ share_of id order ++ part
  share_grows =
      filter-append (λ (p : Pair Event). same_id id p.entry.actor) order part
      ∙ ap (λ ps. share_of id order ++ ps)
      (chosen-all (λ (p : Pair Event). same_id id p.entry.actor) part (λ p c. same_id-equal id p.entry.actor (sym (All-contains (λ (q : Pair Event). q.entry.actor ≡ id) part p whose c))))

  -- and that of another does not
  others-stay : (other : ActorId) → other ≢ id → share_of other (order ++ part) ≡ share_of other order
  others-stay other differ =
      let none : share_of other part ≡ [] =
      chosen-none (λ (p : Pair Event). same_id other p.entry.actor) part (λ p c.
      (let actor : p.entry.actor ≡ id = All-contains (λ (q : Pair Event). q.entry.actor ≡ id) part p whose c in
      same_id-differ other p.entry.actor (λ e. differ (e ∙ actor)))) in
      filter-append (λ (p : Pair Event). same_id other p.entry.actor) order part ∙ ap (λ ps. share_of other order ++ ps) none ∙ append-nil (share_of other order)

pub turns_add_up : TurnsAddUp
turns_add_up head lists order list part known index shares at whose rises mark above =
    let within : index < length lists = slice_get_within lists index list at in
    let many = shares.many in
    let there : IsClientOf head (client_at head index) = client_there head index (omega arith) in
    let part_only : All (λ (p : Pair Event). IsClientOf head p.entry.actor) part =
    All-weaker (λ (p : Pair Event). p.entry.actor ≡ client_at head index) (λ (p : Pair Event). IsClientOf head p.entry.actor)
    (λ p is. subst (IsClientOf head) (sym is) there) part whose in
    record {
      many = length_set lists index (list ++ part) ∙ many;
      rises = marks_keep_order order part known shares.rises rises mark above;
      each = λ other own got. each-so other own got (same-or-other other index);
      only = All-append (λ (p : Pair Event). IsClientOf head p.entry.actor) order part shares.only part_only;
    }
  where
    each-so : (other : ℕ) (own : List (Pair Event)) → slice_get (slice_set lists index (list ++ part)) other ≡ Some own → (other ≡ index) ⊎ (other ≢ index) → own ≡ share_of (client_at head other) (order ++ part)
    each-so other own got (inl same) =
        let here : own ≡ list ++ part = read-back lists index (list ++ part) own (subst (λ i. slice_get (slice_set lists index (list ++ part)) i ≡ Some own) same got) in
        let grown : own ≡ share_of (client_at head index) (order ++ part) = here ∙ (ap (λ ps. ps ++ part) (shares.each index list at) ∙ sym (share_grows order part (client_at head index) whose)) in
        subst (λ i. own ≡ share_of (client_at head i) (order ++ part)) (sym same) grown
    each-so other own got (inr differ) =
        shares.each other own (read-other lists index other (list ++ part) own differ got)
        ∙ sym (others-stay order part (client_at head index) whose (client_at head other) (λ e. differ (client_once head other index e)))

client-has-part : (head : Head) (lists : List (List (Pair Event))) (parts : List (Part Event)) → length lists ≡ head.sessions + head.recoverers → AreHandedIn head lists parts → (id : ActorId) → IsClientOf head id → Contains (ids_of parts) id
client-has-part head lists parts many handed id h =
    let place = client_place head id h in
    let lt : place.0 < head.sessions + head.recoverers = place.1 in
    subst (Contains (ids_of parts)) place.2 (handed.all place.0 (omega arith))

pub shares_make_up : SharesMakeUp
shares_make_up head lists order parts shares handed = record {
  is_order = record {
    rises = shares.rises;
    clients = All-weaker (λ (p : Pair Event). IsClientOf head p.entry.actor) (λ (p : Pair Event). is_client p.entry.actor ≡ true) (λ p h. h.1) order shares.only;
    theirs = All-weaker (λ (p : Pair Event). IsClientOf head p.entry.actor) (λ (p : Pair Event). Contains (ids_of parts) p.entry.actor) (λ p h. client-has-part head lists parts shares.many handed p.entry.actor h) order shares.only;
  };
  each = All-weaker (λ (part : Part Event). is_client part.id ≡ true → IsPartAt head lists part) (λ (part : Part Event). is_client part.id ≡ true → part.own ≡ share_of part.id order)
      (λ part h client. let there : IsPartAt head lists part = h client in shares.each there.index part.own there.stored ∙ ap (λ id. share_of id order) (sym there.whose)) parts handed.theirs;
}
