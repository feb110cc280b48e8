-- What a transaction that ends leaves to be done, by the replies about its record.
use Rattle.std.proofs.Common.{◌≡◌, ℕ, ◌+◌, ◌≤◌, Bool, true, false, cond, ◌&&◌, List, [], ◌∷◌, ◌++◌, find, Some, None, refl, sym, ap, ◌∙◌, subst, arith, All, Any, Contains, is_some, inl}
use Rattle.std.specs.Option.{option_and_then, option_or}
use Rattle.std.proofs.lemmas.Bool.{and_parts}
use Rattle.std.proofs.lemmas.List.Elements.{All-cons, All-head, All-nil, All-tail}
use Rattle.pc_call.specs.Finished.{MayBeSettled}
use Rattle.pc_lists.proofs.Anywhere.{any_last}
use Rattle.pc_proto.specs.declared.fate.Fate.{Fate}
use Rattle.pc_proto.specs.declared.fate.Fate.TheVariants as fates
use Rattle.pc_proto.specs.declared.reply.Reply.{Reply}
use Rattle.pc_proto.specs.declared.reply.Reply.TheVariants as replies
use Rattle.pc_proto.specs.declared.view.View.{View}
use Rattle.pc_proto.specs.declared.view.View.TheVariants as views
use Rattle.pc_proto.specs.declared.why.Why.{Why}
use Rattle.pc_proto.specs.Replies.{is_undecided_status, view_in}
use Rattle.pc_proto.specs.Requests.{is_about, subject_anchor}
use Rattle.pc_proto.specs.Stamps.{fate_stamps, greatest_of, view_stamps}
use Rattle.pc_proto.specs.Views.{HasLocks, IsFateOf, final_fate}
use Rattle.pc_txn.specs.Standing.{IsUndecidedOf}
use Rattle.pc_follows.specs.FinishingJobs.{finishing_messages, settling}
use Rattle.pc_world.specs.Known.{Known}
use Rattle.pc_world.specs.Known.Traffic.{Heard}
use Rattle.pc_world.specs.Known.Transactions.{Txn, meta_of}
use Rattle.pc_world.specs.Send.Settling.{ShowsFate, ShowsFinal}
use Rattle.pc_world.specs.Views.{anchor_heard, fate_heard, fate_shown, shows_view}

-- a view that is not final shows no fate
undecided_no_fate : (reply : Reply) → is_undecided_status reply ≡ true → option_and_then final_fate (view_in reply) ≡ None
undecided_no_fate (replies.Status (views.Pending epoch ts)) is = refl
undecided_no_fate (replies.Status views.Nothing) is = refl
undecided_no_fate (replies.Status (views.Staging epoch ts writes)) is = refl
undecided_no_fate (replies.Status (views.Committed epoch ts locks)) is = absurd cc
undecided_no_fate (replies.Status (views.Aborted epoch why locks)) is = absurd cc
undecided_no_fate reply is = absurd cc

module _ (t : Txn) where
  none_shown : (h : Heard) → IsUndecidedOf t h → fate_shown t.id h ≡ None
  none_shown h undecided = by (is_about t.id h.request) refl
    where
      by : (b : Bool) → is_about t.id h.request ≡ b → cond b (option_and_then final_fate (view_in h.reply)) None ≡ None
      by true about = undecided_no_fate h.reply (undecided about).undecided
      by false other = refl

  -- the fate that the last reply shows is the first that was heard
  pub fate-last : (heard : List Heard) (h : Heard) → All (IsUndecidedOf t) heard → fate_heard t.id (heard ++ h ∷ []) ≡ option_or (fate_shown t.id h) None
  fate-last [] h a = refl
  fate-last (x ∷ heard) h a =
      ap (λ o. option_or o (fate_heard t.id (heard ++ h ∷ []))) (none_shown x (All-head (IsUndecidedOf t) x heard a))
      ∙ fate-last heard h (All-tail (IsUndecidedOf t) x heard a)

  -- where none was final, no fate was heard
  pub fate-none : (heard : List Heard) → All (IsUndecidedOf t) heard → fate_heard t.id heard ≡ None
  fate-none [] a = refl
  fate-none (x ∷ heard) a =
      ap (λ o. option_or o (fate_heard t.id heard)) (none_shown x (All-head (IsUndecidedOf t) x heard a)) ∙ fate-none heard (All-tail (IsUndecidedOf t) x heard a)

  -- whichever view of it was heard first, its request named the anchor
  pub anchor-last : (heard : List Heard) (h : Heard) → All (IsUndecidedOf t) heard → shows_view t.id h ≡ true → subject_anchor h.request ≡ t.anchor → anchor_heard t.id (heard ++ h ∷ []) ≡ t.anchor
  anchor-last [] h a shows anchored = ap (λ b. option_and_then (λ (h : Heard). subject_anchor h.request) (cond b (Some h) None)) shows ∙ anchored
  anchor-last (x ∷ heard) h a shows anchored = by (anchor-last heard h (All-tail (IsUndecidedOf t) x heard a) shows anchored) (shows_view t.id x) refl
    where
      by : anchor_heard t.id (heard ++ h ∷ []) ≡ t.anchor → (b : Bool) → shows_view t.id x ≡ b
          → option_and_then (λ (h : Heard). subject_anchor h.request) (cond b (Some x) (find (shows_view t.id) (heard ++ h ∷ []))) ≡ t.anchor
      by later true seen = (All-head (IsUndecidedOf t) x heard a (and_parts (is_about t.id x.request) (is_some (view_in x.reply)) seen).0).anchored
      by later false not = later

-- The view is final, and this is its fate and these its locks.
pub record IsFinalAs (view : View) (fate : Fate) : Type 0 where
  pub shows : final_fate view ≡ Some fate
  pub fits : IsFateOf view fate
  pub stamps : (top : ℕ) → greatest_of (view_stamps view) ≤ top → All (λ ts. ts ≤ top + 1) (fate_stamps fate)
  pub shown : List (List ℕ)
  pub locked : HasLocks view shown

pub final_committed : (epoch ts : ℕ) (locks : List (List ℕ)) → IsFinalAs (views.Committed epoch ts locks) (fates.Committed epoch ts)
final_committed epoch ts locks = record {
  shows = refl;
  fits = (refl, refl);
  stamps = λ top low. All-cons (λ ts. ts ≤ top + 1) ts [] (omega (arith, low)) (All-nil (λ ts. ts ≤ top + 1));
  shown = locks;
  locked = refl;
}

pub final_aborted : (epoch : ℕ) (why : Why) (locks : List (List ℕ)) → IsFinalAs (views.Aborted epoch why locks) fates.Aborted
final_aborted epoch why locks = record {
  shows = refl;
  fits = tt;
  stamps = λ top low. All-nil (λ ts. ts ≤ top + 1);
  shown = locks;
  locked = refl;
}

-- A final view of the transaction was heard last, to a request that named its anchor.
pub record EndsWith (t : Txn) (anchor : List ℕ) (fate : Fate) (heard : List Heard) (h : Heard) : Type 0 where
  pub anchored : t.anchor ≡ Some anchor
  pub undecided : All (IsUndecidedOf t) heard
  pub about : is_about t.id h.request ≡ true
  pub named : subject_anchor h.request ≡ Some anchor
  pub view : View
  pub told : view_in h.reply ≡ Some view
  pub final : IsFinalAs view fate

module _ (t : Txn) (anchor : List ℕ) (fate : Fate) (heard : List Heard) (h : Heard) (ends : EndsWith t anchor fate heard h) where
  -- and its fate is the one that was heard
  pub fate_is : fate_heard t.id (heard ++ h ∷ []) ≡ Some fate
  fate_is =
      let shown : fate_shown t.id h ≡ Some fate =
      ap (λ b. cond b (option_and_then final_fate (view_in h.reply)) None) ends.about ∙ ap (option_and_then final_fate) ends.told ∙ ends.final.shows in
      fate-last t heard h ends.undecided ∙ ap (λ o. option_or o None) shown

  sees : shows_view t.id h ≡ true
  sees = ap (λ b. b && is_some (view_in h.reply)) ends.about ∙ ap is_some ends.told

  anchor_is : anchor_heard t.id (heard ++ h ∷ []) ≡ Some anchor
  anchor_is = anchor-last t heard h ends.undecided sees (ends.named ∙ sym ends.anchored) ∙ ends.anchored

  -- the messages that finish it are those that settle it
  pub left_is : finishing_messages t.id fate anchor t.locks ≡ settling t (fate_heard t.id (heard ++ h ∷ [])) t.anchor
  left_is = ap (λ o. settling t o (Some anchor)) (sym fate_is) ∙ ap (settling t (fate_heard t.id (heard ++ h ∷ []))) (sym ends.anchored)

  -- and they may be sent
  pub may_finish : (k : Known) (t2 : Txn) → k.heard ≡ heard ++ h ∷ [] → greatest_of (view_stamps ends.view) ≤ k.top → Contains k.txns t2 → t2.id ≡ t.id → t2.locks ≡ t.locks
      → MayBeSettled k (record { meta = meta_of t anchor; staged = None; fate = fate; locks = t.locks })
  may_finish k t2 all low there same locks = record {
    resolve =
        subst (λ hs. Any (ShowsFate t.id fate) hs) (sym all)
        (any_last (ShowsFate t.id fate) heard h (record { about = ends.about; view = ends.view; told = ends.told; fits = ends.final.fits }));
    stamps = ends.final.stamps k.top low;
    anchored = ap (anchor_heard t.id) all ∙ anchor_is;
    shown = ends.final.shown;
    final =
        subst (λ hs. Any (ShowsFinal t.id ends.final.shown) hs) (sym all)
        (any_last (ShowsFinal t.id ends.final.shown) heard h (record { about = ends.about; view = ends.view; told = ends.told; final = ends.final.locked }));
    must = inl (t2, there, same, sym locks);
  }
