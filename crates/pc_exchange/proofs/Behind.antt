-- What a round asks for behind its push: each thing once.
use Rattle.std.proofs.Common.{◌≡◌, zero, suc, ◌⊎◌, false, inl, inr, All, Any, List, [], ◌∷◌, ◌++◌, Some, refl, sym, ap, ◌∙◌, subst, arith, true, None}
use Rattle.std.proofs.lemmas.List.Elements.{All-cons, All-head, All-nil, All-tail}
use Rattle.pc_base.specs.declared.transaction.TxnId.{TxnId}
use Rattle.pc_call.specs.Paced.{IsBehindPushOf}
use Rattle.pc_coord.specs.Rounds.{AreAskedOnce, IsBehindPush, EndsWithReply, LeavesRoundOn}
use Rattle.pc_proto.specs.declared.reply.Reply.{Reply}
use Rattle.pc_proto.specs.declared.reply.Reply.TheVariants as replies
use Rattle.pc_proto.specs.declared.request.Request.{Request}
use Rattle.pc_proto.specs.declared.request.Request.TheVariants as requests
use Rattle.pc_proto.specs.declared.view.View.{View}
use Rattle.pc_proto.specs.Replies.{is_conflict}
use Rattle.pc_proto.specs.Requests.{Recovers, is_resolve_of, round_of}
use Rattle.pc_follows.specs.Resends.{RecoveredTo}
use Rattle.pc_world.specs.Counting.{AtLeast}
use Rattle.pc_world.specs.Known.Traffic.{Heard}
use Rattle.pc_world.specs.SameRequest.{IsSamePut, IsSameRequest}
use Rattle.pc_proto.specs.declared.fate.Fate.{Fate}
use Rattle.pc_proto.specs.declared.view.View.TheVariants as views
use Rattle.pc_proto.specs.Views.{final_fate, is_final_view}
use Rattle.pc_reads.specs.Replies.{unrefreshed_by}

-- ---- lists

module _ {X : Type 0} (P : X → Type 0) where
  -- the place of one that is so
  pub any_cut : (xs : List X) → Any P xs → (before : List X) × (x : X) × (after : List X) × (xs ≡ before ++ (x ∷ after)) × P x
  any_cut [] (n, x, inside, at, is) = absurd (omega arith)
  any_cut (y ∷ ys) (zero, x, inside, at, is) = ([], y, ys, refl, subst P (sym at) is)
  any_cut (y ∷ ys) (suc n, x, inside, at, is) = let r = any_cut ys (n, x, omega arith, at, is) in (y ∷ r.0, r.1, r.2, ap (λ l. y ∷ l) r.3, r.4)

  one-split : (xs : List X) (x : X) → AtLeast P 1 (xs ++ (x ∷ [])) → AtLeast P 1 xs ⊎ P x
  one-split [] x (inl (is, rest)) = inr is
  one-split [] x (inr h) = absurd h
  one-split (y ∷ ys) x (inl (is, rest)) = inl (inl (is, tt))
  one-split (y ∷ ys) x (inr h) = elim (one-split ys x h) [ inl some ↦ inl (inr some) | inr is ↦ inr is ]

  -- two are among the first, or one is, and the last too
  two-split : (xs : List X) (x : X) → AtLeast P 2 (xs ++ (x ∷ [])) → AtLeast P 2 xs ⊎ (AtLeast P 1 xs × P x)
  two-split [] x (inl (is, rest)) = absurd rest
  two-split [] x (inr h) = absurd h
  two-split (y ∷ ys) x (inl (is, h)) = elim (one-split ys x h) [ inl some ↦ inl (inl (is, some)) | inr last ↦ inr (inl (is, tt), last) ]
  two-split (y ∷ ys) x (inr h) = elim (two-split ys x h) [ inl both ↦ inl (inr both) | inr one ↦ inr (inr one.0, one.1) ]

  one-none : (xs : List X) → All (λ x. P x → ⊥) xs → AtLeast P 1 xs → ⊥
  one-none [] none h = h
  one-none (x ∷ xs) none (inl (is, rest)) = All-head (λ x. P x → ⊥) x xs none is
  one-none (x ∷ xs) none (inr h) = one-none xs (All-tail (λ x. P x → ⊥) x xs none) h

-- ---- requests

no-put : (request other : Request) (id : TxnId) → round_of other ≡ Some id → IsSamePut request other → ⊥
no-put (requests.Put meta seq ts key value) (requests.Put other_meta other_seq other_ts other_key other_value) id is put = absurd cc
no-put (requests.Put meta seq ts key value) other id is put = put
no-put request other id is put = put

same-is : (request other : Request) (id : TxnId) → round_of other ≡ Some id → IsSameRequest request other → request ≡ other
same-is request other id is (inl same) = same
same-is request other id is (inr put) = absurd (no-put request other id is put)

-- what was not asked for is asked for once more
pub once_push : (id : TxnId) (heard : List Heard) (h : Heard) → All (IsBehindPush id) heard → IsBehindPush id h → All (λ g. g.request ≡ h.request → ⊥) heard → AreAskedOnce heard → AreAskedOnce (heard ++ h ∷ [])
once_push id heard h behind of fresh once request two =
    let Same : Heard → Type 0 = λ g. IsSameRequest request g.request in
    elim (two-split Same heard h two) [
      | inl both ↦ once request both
      | inr one ↦
          let is : request ≡ h.request = same-is request h.request id of.behind.about one.1 in
          one-none Same heard (none Same is heard behind fresh) one.0
    ]
  where
    none : (Same : Heard → Type 0) → request ≡ h.request → (gs : List Heard) → All (IsBehindPush id) gs → All (λ g. g.request ≡ h.request → ⊥) gs → All (λ g. IsSameRequest request g.request → ⊥) gs
    none Same is [] a b = All-nil (λ (g : Heard). IsSameRequest request g.request → ⊥)
    none Same is (g ∷ gs) a b =
        All-cons (λ (g : Heard). IsSameRequest request g.request → ⊥) g gs
        (λ same. All-head (λ (g : Heard). g.request ≡ h.request → ⊥) g gs b (sym (same-is request g.request id (All-head (IsBehindPush id) g gs a).behind.about same) ∙ is))
        (none Same is gs (All-tail (IsBehindPush id) g gs a) (All-tail (λ (g : Heard). g.request ≡ h.request → ⊥) g gs b))

-- ---- recoveries

-- a recovery shows one view
pub recovered_one : (id : TxnId) (one other : View) (request : Request) (reply : Reply) → RecoveredTo id one request reply → RecoveredTo id other request reply → one ≡ other
recovered_one id one other (requests.Recover id2 epoch ts anchor finding) (replies.Status shown) a b = sym a.1 ∙ b.1
recovered_one id one other (requests.Recover id2 epoch ts anchor finding) reply a b = absurd a
recovered_one id one other request reply a b = absurd a

pub recovered_settles_none : (id : TxnId) (view : View) (request : Request) (reply : Reply) → RecoveredTo id view request reply → (other : TxnId) → is_resolve_of other request ≡ false
recovered_settles_none id view (requests.Recover id2 epoch ts anchor finding) reply shown other = refl
recovered_settles_none id view (requests.Resolve id2 key fate) reply shown other = absurd shown
recovered_settles_none id view request reply shown other = refl

pub recovered_held : (reply : Reply) (view : View) → reply ≡ replies.Status view → unrefreshed_by reply ≡ None
recovered_held reply view is = ap unrefreshed_by is

-- a recovery that is final leaves its round going on, and one that is not ends it
pub recovered_leaves : (id : TxnId) (view : View) (request : Request) (reply : Reply) → RecoveredTo id view request reply → is_final_view view ≡ true → LeavesRoundOn request reply
recovered_leaves id view (requests.Recover other epoch ts anchor finding) (replies.Status shown) is final = ap is_final_view is.1 ∙ final
recovered_leaves id view (requests.Recover other epoch ts anchor finding) reply is final = absurd is
recovered_leaves id view request reply is final = absurd is

pub recovered_ends : (id : TxnId) (view : View) (request : Request) (reply : Reply) → RecoveredTo id view request reply → is_final_view view ≡ false → EndsWithReply request reply
recovered_ends id view (requests.Recover other epoch ts anchor finding) (replies.Status shown) is final = ap is_final_view is.1 ∙ final
recovered_ends id view (requests.Recover other epoch ts anchor finding) reply is final = absurd is
recovered_ends id view request reply is final = absurd is

-- a view that leaves a fate is final
pub fate_final : (view : View) (fate : Fate) → final_fate view ≡ Some fate → is_final_view view ≡ true
fate_final (views.Committed epoch ts locks) fate is = refl
fate_final (views.Aborted epoch why locks) fate is = refl
fate_final view fate is = absurd cc

pub none_final : (view : View) → final_fate view ≡ None → is_final_view view ≡ false
none_final (views.Committed epoch ts locks) is = absurd cc
none_final (views.Aborted epoch why locks) is = absurd cc
none_final view is = refl

pub recovered_plain : (reply : Reply) (view : View) → reply ≡ replies.Status view → is_conflict reply ≡ false
recovered_plain reply view is = ap is_conflict is

-- a recovery stands behind the push
pub recover_behind : (id : TxnId) (h : Heard) → Recovers id h.request → is_conflict h.reply ≡ false → unrefreshed_by h.reply ≡ None → IsBehindPush id h
recover_behind id h is plain held = record { behind = by h.request is; unmet = plain; held = held }
  where
    by : (request : Request) → Recovers id request → IsBehindPushOf id request
    by (requests.Recover other epoch ts anchor finding) is = record { about = ap (λ i. Some i) is; no_push = refl; beside = refl }
    by request is = absurd is
