-- The anchor under which a transaction was first heard of is the one of each meta of it.
use Rattle.std.proofs.Common.{◌≡◌, ℕ, Bool, true, false, ◌&&◌, cond, find, List, [], ◌∷◌, Contains, Option, None, Some, IfSome, All, refl, sym, ap, ◌∙◌, subst}
use Rattle.std.proofs.lemmas.Bool.{and_parts}
use Rattle.std.proofs.lemmas.List.Elements.{All-head, All-tail}
use Rattle.std.proofs.lemmas.Option.{same_Some}
use Rattle.std.specs.Option.{option_and_then}
use Rattle.std.specs.Prelude.{is_some}
use Rattle.pc_base.specs.declared.transaction.TxnId.{TxnId}
use Rattle.pc_desk.specs.OwnLog.{IsOwnLog, LogMeaning}
use Rattle.pc_exchange.proofs.HeardKinds.{history_of, is_run, known_there}
use Rattle.pc_implicit.proofs.Agreed.{Agrees, agreed}
use Rattle.pc_implicit.proofs.Hearing.{IsSo, heard_is_so}
use Rattle.pc_implicit.proofs.MetaRows.{RequestHas}
use Rattle.pc_implicit.proofs.Metas.{EventHas, HasAnchor, metas_agree, subject-has}
use Rattle.pc_implicit.proofs.Shown.{WasAnswered}
use Rattle.pc_implicit.proofs.Views.{subject-is}
use Rattle.pc_lists.proofs.Each.{each-contains}
use Rattle.pc_lists.proofs.Lists.{all_from_contains, find_some}
use Rattle.pc_proto.specs.declared.request.Request.{Request}
use Rattle.pc_proto.specs.declared.request.Request.TheVariants as requests
use Rattle.pc_proto.specs.Replies.{view_in}
use Rattle.pc_proto.specs.Requests.{is_about, subject, subject_anchor}
use Rattle.pc_world.specs.After.{known_at}
use Rattle.pc_world.specs.Committed.{anchor_in}
use Rattle.pc_world.specs.Known.{Known, known_of}
use Rattle.pc_world.specs.Known.Traffic.{Heard}
use Rattle.pc_world.specs.Known.Transactions.{Txn}
use Rattle.pc_world.specs.RangeOf.{GoesTo}
use Rattle.pc_world.specs.Views.{anchor_heard, shows_view}

-- a request to a record names an anchor
anchor-named : (request : Request) (id : TxnId) → subject request ≡ Some id → (anchor : List ℕ) × (subject_anchor request ≡ Some anchor)
anchor-named (requests.Beat meta ts now) id is = (meta.anchor, refl)
anchor-named (requests.Stage meta ts now writes locks) id is = (meta.anchor, refl)
anchor-named (requests.Commit meta ts locks) id is = (meta.anchor, refl)
anchor-named (requests.Abort meta why locks) id is = (meta.anchor, refl)
anchor-named (requests.Push holder by level now goal) id is = (holder.anchor, refl)
anchor-named (requests.Recover other epoch ts anchor finding) id is = (anchor, refl)
anchor-named (requests.Remove other anchor) id is = (anchor, refl)
anchor-named request id is = absurd cc

-- The reply shows a view of the transaction to a request that names no other anchor.
abbrev Names : TxnId → List ℕ → Heard → Type 0
Names id anchor h = shows_view id h ≡ true → (other : List ℕ) → subject_anchor h.request ≡ Some other → other ≡ anchor

if_named : (named : Option (List ℕ)) (anchor : List ℕ) → ((other : List ℕ) → named ≡ Some other → other ≡ anchor) → IfSome named (λ other. other ≡ anchor)
if_named None anchor is = tt
if_named (Some other) anchor is = is other refl

named_among : (id : TxnId) (anchor : List ℕ) (heard : List Heard) → All (Names id anchor) heard → IfSome (anchor_heard id heard) (λ other. other ≡ anchor)
named_among id anchor [] all = tt
named_among id anchor (h ∷ heard) all = by (shows_view id h) refl (named_among id anchor heard (All-tail (Names id anchor) h heard all))
  where
    by : (b : Bool) → shows_view id h ≡ b → IfSome (anchor_heard id heard) (λ other. other ≡ anchor)
        → IfSome (option_and_then (λ (h : Heard). subject_anchor h.request) (cond b (Some h) (find (shows_view id) heard))) (λ other. other ≡ anchor)
    by true seen later = if_named (subject_anchor h.request) anchor (All-head (Names id anchor) h heard all seen)
    by false not later = later

module _ {C : Type 0} (l : LogMeaning C) (log : IsOwnLog l) where
  was-answered : (h : Heard) → Contains (known_of l.part.own).heard h → WasAnswered l.head (history_of l log) l.part.id h.number h.request h.reply
  was-answered h there =
      each-contains (IsSo l.head (history_of l log) l.part.id) (known_at l.head l.part.id (history_of l log)).heard h (heard_is_so l.head (history_of l log) (is_run l log) l.part.id)
      (subst (λ (k : Known). Contains k.heard h) (sym (known_there l log)) there)

  -- what a request to a record names is its transaction's anchor
  anchor-so : (h : Heard) → Contains (known_of l.part.own).heard h → (id : TxnId) (anchor : List ℕ) → subject h.request ≡ Some id → subject_anchor h.request ≡ Some anchor → anchor_in id (history_of l log) ≡ Some anchor
  anchor-so h there id anchor who named =
      let w = was-answered h there in
      let has : GoesTo l.head.splits h.request w.range × RequestHas (HasAnchor (history_of l log)) h.request =
      subst (EventHas l.head (history_of l log)) w.sends ((metas_agree l.head (history_of l log) (is_run l log)).entries w.send w.listed) in
      subject-has (HasAnchor (history_of l log)) h.request id anchor has.1 who named

  -- so where a view of the transaction was heard to such a request, that anchor is the one that was heard first
  pub anchor_is : (h : Heard) → Contains (known_of l.part.own).heard h → (id : TxnId) (anchor : List ℕ) → is_about id h.request ≡ true → is_some (view_in h.reply) ≡ true → subject_anchor h.request ≡ Some anchor
      → anchor_heard id (known_of l.part.own).heard ≡ Some anchor
  anchor_is h there id anchor about shows named =
      let (g, found, inside, is) = find_some (shows_view id) (known_of l.part.own).heard h there (ap (λ b. b && is_some (view_in h.reply)) about ∙ ap (λ b. true && b) shows) in
      let parts = and_parts (is_about id g.request) (is_some (view_in g.reply)) is in
      let who = subject-is id (subject g.request) parts.0 in
      let (other, at) = anchor-named g.request id who in
      let one : anchor_in id (history_of l log) ≡ Some other = anchor-so g inside id other who at in
      let two : anchor_in id (history_of l log) ≡ Some anchor = anchor-so h there id anchor (subject-is id (subject h.request) about) named in
      ap (option_and_then (λ (g : Heard). subject_anchor g.request)) found ∙ (at ∙ (sym one ∙ two))

  -- whichever anchor was heard of a transaction of the actor is its own
  pub own_named : (t : Txn) (anchor : List ℕ) → Contains (known_of l.part.own).txns t → t.anchor ≡ Some anchor → IfSome (anchor_heard t.id (known_of l.part.own).heard) (λ other. other ≡ anchor)
  own_named t anchor mine anchored =
      named_among t.id anchor (known_of l.part.own).heard (all_from_contains (Names t.id anchor) (known_of l.part.own).heard (λ h there seen other at.
      let about : subject h.request ≡ Some t.id = subject-is t.id (subject h.request) (and_parts (is_about t.id h.request) (is_some (view_in h.reply)) seen).0 in
      let one : anchor_in t.id (history_of l log) ≡ Some other = anchor-so h there t.id other about at in
      let known : Contains (known_at l.head l.part.id (history_of l log)).txns t = subst (λ (k : Known). Contains k.txns t) (sym (known_there l log)) mine in
      let agrees = each-contains (Agrees (history_of l log)) (known_at l.head l.part.id (history_of l log)).txns t (agreed l.head (history_of l log) (is_run l log) l.part.id).agrees known in
      same_Some other anchor (sym one ∙ (agrees.anchor ∙ anchored))))
