-- A transaction ends with the final view that was heard last.
use Rattle.std.proofs.Common.{◌≡◌, ℕ, ◌≤◌, Bool, true, false, ◌||◌, cond, List, [], ◌∷◌, ◌++◌, map, None, Some, IfSome, IsTrue, refl, sym, ap, ◌∙◌, subst, arith, Contains}
use Rattle.std.proofs.lemmas.List.Folds.{list_any-append}
use Rattle.std.specs.List.{list_any}
use Rattle.std.specs.Option.{option_or}
use Rattle.std.proofs.lemmas.Option.{same_Some}
use Rattle.pc_call.proofs.Ending.{EndsWith, fate_is, left_is, may_finish}
use Rattle.pc_call.proofs.Facts.{open_is}
use Rattle.pc_call.specs.declared.over.Left.{Left}
use Rattle.pc_call.specs.Finished.{MayBeSettled, left_at, left_messages}
use Rattle.pc_call.specs.Learned.{known_heard, known_told}
use Rattle.pc_call.specs.Serving.{IsOpenIn}
use Rattle.pc_proto.specs.declared.answer.Answer.{Answer}
use Rattle.pc_proto.specs.declared.fate.Fate.{Fate}
use Rattle.pc_proto.specs.declared.fate.Fate.TheVariants as fates
use Rattle.pc_proto.specs.declared.reply.Reply.{Reply}
use Rattle.pc_proto.specs.declared.reply.Reply.TheVariants as replies
use Rattle.pc_proto.specs.declared.request.Request.TheVariants as requests
use Rattle.pc_proto.specs.declared.view.View.{View}
use Rattle.pc_proto.specs.Replies.{view_in}
use Rattle.pc_proto.specs.Stamps.{greatest_of, reply_stamps, view_stamps}
use Rattle.pc_txn.specs.declared.txn.OpenTxn.{OpenTxn}
use Rattle.pc_txn.specs.Opened.{opened_as}
use Rattle.pc_follows.specs.FinishingJobs.{committing, committed_fate, is_commit_told, left_committed, left_if, settling}
use Rattle.pc_world.specs.Known.{Known, open_txn, txns_told}
use Rattle.pc_world.specs.Known.Traffic.{Heard, replies_to}
use Rattle.pc_world.specs.Known.Transactions.{Txn, meta_of, txn_heard, txn_told}
use Rattle.pc_world.specs.Views.{fate_heard}

view-stamps : (reply : Reply) (view : View) → view_in reply ≡ Some view → reply_stamps reply ≡ view_stamps view
view-stamps (replies.Status shown) view e = ap view_stamps (same_Some shown view e)
view-stamps (replies.Refused shown) view e = ap view_stamps (same_Some shown view e)
view-stamps (replies.Unsure shown) view e = ap view_stamps (same_Some shown view e)
view-stamps reply view e = absurd cc

or-true : (b : Bool) → (b || true) ≡ true
or-true true = refl
or-true false = refl

module _ (k : Known) (x : OpenTxn) (t : Txn) (anchor : List ℕ) (fate : Fate) (h : Heard) (open_in : IsOpenIn k t) (same : x ≡ opened_as x.shown x.cause x.reads.spans x.in_flight x.staging t) (ends : EndsWith t anchor fate k.heard h) where
  abbrev k3 : Known
  k3 = known_heard h k

  abbrev t3 : Txn
  t3 = txn_heard k.sent (Some h) t

  abbrev others3 : List Txn
  others3 = map (txn_heard k.sent (Some h)) open_in.others

  abbrev left : Left
  left = record { meta = meta_of t anchor; staged = None; fate = fate; locks = t.locks }

  pub open3 : IsOpenIn k3 t3
  open3 = record { others = others3; is_open = open_in.is_open; first = ap (map (txn_heard k.sent (Some h))) open_in.first }

  pub opened3 : open_txn k3 ≡ Some t3
  opened3 = open_is k3 t3 open3

  left_now : left_at x.anchor fate x ≡ Some left
  left_now = ap (λ x. left_at x.anchor fate x) same ∙ ap (λ a. left_at a fate (opened_as x.shown x.cause x.reads.spans x.in_flight x.staging t)) ends.anchored

  -- what is left is its settling
  pub closing-left : left_messages (left_at x.anchor fate x) ≡ left_if k3 (open_txn k3)
  closing-left = ap left_messages left_now ∙ left_is t anchor fate k.heard h ends ∙ sym (ap (left_if k3) opened3)

  -- which is all, where a commit of it was answered so
  committing-none : (ts : ℕ) → IsTrue (is_commit_told t.id ts h) → committing k3 t3 ts t.anchor ≡ []
  committing-none ts told =
      let any : list_any (is_commit_told t.id ts) (k.heard ++ h ∷ []) ≡ true = list_any-append (is_commit_told t.id ts) k.heard (h ∷ []) ∙ ap (λ b. list_any (is_commit_told t.id ts) k.heard || (b || list_any (is_commit_told t.id ts) [])) told ∙ or-true (list_any (is_commit_told t.id ts) k.heard) in
      ap (committing k3 t3 ts) ends.anchored
      ∙ ap (λ b. cond b [] (requests.Commit (meta_of t3 anchor) ts t3.locks ∷ [])) any

  pub closing-committed : (ts : ℕ) → IsTrue (is_commit_told t.id ts h) → left_messages (left_at x.anchor fate x) ≡ left_committed ts k3 (open_txn k3)
  closing-committed ts told =
      let heard_fate = fate_is t anchor fate k.heard h ends in
      let same_fate : committed_fate k3 t3 ts ≡ fate_heard t.id k3.heard = ap (λ o. option_or o (Some (fates.Committed t3.epoch ts))) heard_fate ∙ sym heard_fate in
      let now : left_if k3 (open_txn k3) ≡ settling t3 (fate_heard t.id k3.heard) t.anchor = ap (left_if k3) opened3 in
      let whole : left_committed ts k3 (open_txn k3) ≡ settling t3 (fate_heard t.id k3.heard) t.anchor =
      ap (left_committed ts k3) opened3 ∙ ap (λ l. l ++ settling t3 (committed_fate k3 t3 ts) t.anchor) (committing-none ts told) ∙ ap (λ f. settling t3 f t.anchor) same_fate in
      closing-left ∙ now ∙ sym whole

  -- which may be done, once the answer is told
  pub closing-may : (answer : Answer) → txns_told answer k3 ≡ txn_told answer (replies_to k3.sent_now k3.heard_now) t3 ∷ others3 → IfSome (left_at x.anchor fate x) (MayBeSettled (known_told answer k3))
  closing-may answer txns =
      let t4 : Txn = txn_told answer (replies_to k3.sent_now k3.heard_now) t3 in
      let here : Contains (t4 ∷ others3) t4 = (0, omega arith, refl) in
      let low : greatest_of (view_stamps ends.view) ≤ (known_told answer k3).top = omega (arith, ap greatest_of (view-stamps h.reply ends.view ends.told)) in
      subst (λ j. IfSome j (MayBeSettled (known_told answer k3))) (sym left_now)
      (may_finish t anchor fate k.heard h ends (known_told answer k3) t4 refl low (subst (λ ts. Contains ts t4) (sym txns) here) refl refl)
