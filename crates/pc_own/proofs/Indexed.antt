-- The index of the writes after a change of one, or with one more.
use Rattle.std.proofs.Common.{◌≡◌, ℕ, ◌==◌, ◌&&◌, Bool, true, false, max, cond, if◌then◌else◌, List, [], ◌∷◌, ◌++◌, Option, None, Some, Result, Ok, Err, OnOk, OnErr, length, map, slice_index_or, slice_set, refl, sym, ap, subst, ◌∙◌}
use Rattle.std.specs.BTreeMap.{get, is_at}
use Rattle.std.specs.Ordering.{nat_cmp}
use Rattle.pc_base.specs.Span.{same_key}
use Rattle.pc_own.proofs.ByPlace.{apart_kept, apart_pushed, is_there, last_kept, last_pushed, none_changed, not_there, numbers_equal, one_changed_at, place_kept, place_pushed}
use Rattle.pc_own.specs.declared.places.Places.{Places}
use Rattle.pc_own.specs.Places.{HaveOwnSequences, ArePlacesOf, place_by_sequence}
use Rattle.pc_world.specs.Known.Writes.{Write, asked_again, proved_at, with_put}

pub kept_index : (f : Write → Write) → ((w : Write) → (f w).seq ≡ w.seq) → (ws : List Write) (p : Places) → ArePlacesOf ws p → ArePlacesOf (map f ws) p
kept_index f same ws p h = record {
  there = λ q. h.there q ∙ sym (place_kept f same q ws);
  last = h.last ∙ sym (last_kept f same ws);
  apart = apart_kept f same ws h.apart;
}

pub pushed_index : (ws : List Write) (w : Write) (seq place : ℕ) (p new : Places) → ArePlacesOf ws p → w.seq ≡ seq → place ≡ length ws → place_by_sequence seq ws ≡ None
    → ((q : ℕ) → get nat_cmp new.places q ≡ cond (is_at (nat_cmp seq) q) (Some place) (get nat_cmp p.places q)) → new.last ≡ max p.last seq → ArePlacesOf (ws ++ w ∷ []) new
pushed_index ws w seq place p new h is at free there last = record {
  there = λ q. there q ∙ ap (λ b. cond b (Some place) (get nat_cmp p.places q)) (numbers_equal seq q)
      ∙ ap (λ n. cond (n == q) (Some place) (get nat_cmp p.places q)) (sym is)
      ∙ ap (λ n. cond (w.seq == q) (Some n) (get nat_cmp p.places q)) at
      ∙ ap (λ o. cond (w.seq == q) (Some (length ws)) o) (h.there q)
      ∙ sym (place_pushed q ws w (ap (λ n. place_by_sequence n ws) is ∙ free));
  last = last ∙ ap (λ n. max p.last n) (sym is) ∙ ap (λ n. max n w.seq) h.last ∙ sym (last_pushed ws w);
  apart = apart_pushed ws w h.apart (ap (λ n. place_by_sequence n ws) is ∙ free);
}

-- after one write was changed, or none where memory ran out
pub kept_or_left : {T E : Type 0} (f : Write → Write) → ((w : Write) → (f w).seq ≡ w.seq) → (r : Result T E) (ws new : List Write) (p : Places) → ArePlacesOf ws p → OnOk r (new ≡ map f ws) → OnErr r (new ≡ ws) → ArePlacesOf new p
kept_or_left f same (Ok x) ws new p h ok err = subst (λ xs. ArePlacesOf xs p) (sym ok) (kept_index f same ws p h)
kept_or_left f same (Err e) ws new p h ok err = subst (λ xs. ArePlacesOf xs p) (sym err) h

-- ---- a write is sent once more

pub asked_seq : (seq ts : ℕ) (w : Write) → (asked_again seq ts w).seq ≡ w.seq
asked_seq seq ts w = by (w.seq == seq)
  where
    by : (b : Bool) → (if b then record w { asked = w.asked ++ ts ∷ [] } else w).seq ≡ w.seq
    by true = refl
    by false = refl

asked-others : (seq ts : ℕ) (w : Write) → (w.seq == seq) ≡ false → asked_again seq ts w ≡ w
asked-others seq ts w other = ap (λ b. if b then record w { asked = w.asked ++ ts ∷ [] } else w) other

pub asked_there : (seq ts : ℕ) (ws : List Write) (i : ℕ) (d : Write) → HaveOwnSequences ws → place_by_sequence seq ws ≡ Some i → slice_set ws i (asked_again seq ts (slice_index_or ws i d)) ≡ map (asked_again seq ts) ws
asked_there seq ts ws i d apart there = sym (one_changed_at seq (asked_again seq ts) (λ w o. asked-others seq ts w o) ws i d apart there)

pub put_again : (seq ts : ℕ) (key : List ℕ) (value : Option (List ℕ)) (ws : List Write) (i : ℕ) → place_by_sequence seq ws ≡ Some i → map (asked_again seq ts) ws ≡ with_put seq ts key value ws
put_again seq ts key value ws i there =
    sym (ap (λ b. if b then map (asked_again seq ts) ws else ws ++ record { key = key; seq = seq; value = value; asked = ts ∷ []; proofs = [] } ∷ []) (is_there seq ws i there))

pub put_first : (seq ts : ℕ) (key : List ℕ) (value : Option (List ℕ)) (ws : List Write) → place_by_sequence seq ws ≡ None → ws ++ record { key = key; seq = seq; value = value; asked = ts ∷ []; proofs = [] } ∷ [] ≡ with_put seq ts key value ws
put_first seq ts key value ws free =
    sym (ap (λ b. if b then map (asked_again seq ts) ws else ws ++ record { key = key; seq = seq; value = value; asked = ts ∷ []; proofs = [] } ∷ []) (not_there seq ws free))

-- ---- a write is proved

pub proved_seq : (key : List ℕ) (seq ts : ℕ) (w : Write) → (proved_at key seq ts w).seq ≡ w.seq
proved_seq key seq ts w = by (w.seq == seq && same_key w.key key)
  where
    by : (b : Bool) → (if b then record w { proofs = w.proofs ++ ts ∷ [] } else w).seq ≡ w.seq
    by true = refl
    by false = refl

proved-others : (key : List ℕ) (seq ts : ℕ) (w : Write) → (w.seq == seq) ≡ false → proved_at key seq ts w ≡ w
proved-others key seq ts w other = ap (λ b. if b && same_key w.key key then record w { proofs = w.proofs ++ ts ∷ [] } else w) other

pub proved_there : (key : List ℕ) (seq ts : ℕ) (ws : List Write) (i : ℕ) (d : Write) → HaveOwnSequences ws → place_by_sequence seq ws ≡ Some i → slice_set ws i (proved_at key seq ts (slice_index_or ws i d)) ≡ map (proved_at key seq ts) ws
proved_there key seq ts ws i d apart there = sym (one_changed_at seq (proved_at key seq ts) (λ w o. proved-others key seq ts w o) ws i d apart there)

pub proved_nowhere : (key : List ℕ) (seq ts : ℕ) (ws : List Write) → place_by_sequence seq ws ≡ None → ws ≡ map (proved_at key seq ts) ws
proved_nowhere key seq ts ws free = sym (none_changed seq (proved_at key seq ts) (λ w o. proved-others key seq ts w o) ws (not_there seq ws free))
