-- Lists in order, one entry further.
use Rattle.std.proofs.Common.{◌≡◌, ℕ, suc, ◌+◌, ◌<◌, List, [], ◌∷◌, ◌++◌, length, get_or, take, fold, slice_index_or, Option, None, Some, refl, ap, ◌∙◌, arith}
use Rattle.std.proofs.lemmas.Grind.{common_steps, fold-append}
use Rattle.std.proofs.Math.Seq.{take-suc}
use Rattle.std.proofs.lemmas.List.Elements.{filter_map-append}
use Rattle.std.specs.BTreeMap.{insert_entry}
use Rattle.std.specs.List.{cons_option, filter_map}
use Rattle.std.specs.declared.cmp.Ordering.{Ordering}
use Rattle.pc_base.specs.declared.entry.Entry.{Entry}
use Rattle.pc_base.specs.declared.transaction.TxnId.{TxnId}
use Rattle.pc_base.specs.Keyed.{in_order}
use Rattle.pc_base.specs.Transaction.{txn_cmp}
use Rattle.pc_proto.specs.declared.event.Event.{Event}
use Rattle.pc_report.specs.declared.replay.Replay.{Replay}
use Rattle.pc_report.specs.Ordering.{order_among, other_in, others_among, place_cmp, placed, with_entry_if}
use Rattle.pc_world.specs.CommitOrder.{all_begun, begun_in}

-- the entries so far and the next one
pub take_next : {A : Type 0} (xs : List A) (i : ℕ) (x : A) → i < length xs → x ≡ slice_index_or xs i x → take (i + 1) xs ≡ take i xs ++ x ∷ []
take_next xs i x h e = grind (arith, common_steps)

-- the transactions begun so far and the one that the next entry tells begun
pub begun_more : (xs : List (Entry Event)) (i : ℕ) (x : Entry Event) → i < length xs → x ≡ slice_index_or xs i x → all_begun (take (i + 1) xs) ≡ all_begun (take i xs) ++ cons_option (begun_in x.event) []
begun_more xs i x h e = ap all_begun (take_next xs i x h e) ∙ filter_map-append (λ (y : Entry Event). begun_in y.event) (take i xs) (x ∷ [])

-- one more transaction goes to its place
pub in_order_push : {K V : Type 0} (cmp : K → K → Ordering) (f : TxnId → Option (K × V)) (ids : List TxnId) (id : TxnId)
    → in_order cmp (filter_map f (ids ++ id ∷ [])) ≡ with_entry_if cmp (f id) (in_order cmp (filter_map f ids))
in_order_push {K} {V} cmp f ids id =
    ap (in_order cmp) (filter_map-append f ids (id ∷ []))
    ∙ fold-append (λ sorted x. insert_entry cmp sorted x.0 x.1) [] (filter_map f ids) (cons_option (f id) [])
    ∙ by-given (f id)
  where
    by-given : (o : Option (K × V)) → fold (λ sorted x. insert_entry cmp sorted x.0 x.1) (in_order cmp (filter_map f ids)) (cons_option o []) ≡ with_entry_if cmp o (in_order cmp (filter_map f ids))
    by-given None = refl
    by-given (Some x) = refl

-- the transactions so far and the next one
take_more : {A : Type 0} (xs : List A) (i : ℕ) (d : A) → i < length xs → take (i + 1) xs ≡ take i xs ++ get_or xs i d ∷ []
take_more xs i d h = let next : i + 1 ≡ suc i = omega arith in ap (λ n. take n xs) next ∙ take-suc xs i d h

-- the order and the others, one transaction further
pub order_more : (splits : List (List ℕ)) (r : Replay) (ids : List TxnId) (i : ℕ) (d : TxnId) → i < length ids
    → order_among splits r (take (i + 1) ids) ≡ with_entry_if place_cmp (placed splits r (get_or ids i d)) (order_among splits r (take i ids))
order_more splits r ids i d h = ap (order_among splits r) (take_more ids i d h) ∙ in_order_push place_cmp (placed splits r) (take i ids) (get_or ids i d)

pub others_more : (splits : List (List ℕ)) (r : Replay) (ids : List TxnId) (i : ℕ) (d : TxnId) → i < length ids
    → others_among splits r (take (i + 1) ids) ≡ with_entry_if txn_cmp (other_in splits r (get_or ids i d)) (others_among splits r (take i ids))
others_more splits r ids i d h = ap (others_among splits r) (take_more ids i d h) ∙ in_order_push txn_cmp (other_in splits r) (take i ids) (get_or ids i d)
