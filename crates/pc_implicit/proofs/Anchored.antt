-- In a run each put and commit is sent by its transaction's session, with its transaction's anchor.
use Rattle.std.proofs.Common.{◌≡◌, ℕ, ◌+◌, if◌then◌else◌, List, [], ◌∷◌, ◌++◌, Option, None, Some, unwrap_or, Contains, inl, inr, refl, sym, ap, subst, ◌∙◌}
use Rattle.std.proofs.lemmas.List.Elements.{Contains-push_cases}
use Rattle.std.specs.Option.{option_or}
use Rattle.std.specs.Prelude.{⊤}
use Rattle.pc_base.specs.declared.actor.ActorId.{ActorId}
use Rattle.pc_base.specs.declared.actor.ActorId.TheVariants as actors
use Rattle.pc_base.specs.declared.entry.Entry.{Entry}
use Rattle.pc_base.specs.declared.transaction.TxnId.{TxnId}
use Rattle.pc_history.specs.Own.{named_in, own}
use Rattle.pc_implicit.proofs.Agreed.{Agrees, Knows, agreed, open_there, owned, says_own}
use Rattle.pc_implicit.proofs.Doing.{Does, does}
use Rattle.pc_implicit.proofs.Firsts.{first_push}
use Rattle.pc_lists.proofs.Each.{each-contains}
use Rattle.pc_lists.proofs.Lists.{contains_nil}
use Rattle.pc_lists.proofs.Same.{same_txn-self}
use Rattle.pc_proto.specs.declared.event.Event.{Event}
use Rattle.pc_proto.specs.declared.event.Event.TheVariants as events
use Rattle.pc_proto.specs.declared.meta.TxnMeta.{TxnMeta}
use Rattle.pc_proto.specs.declared.request.Request.TheVariants as requests
use Rattle.pc_world.proofs.Prefixes.{run_induction}
use Rattle.pc_world.specs.After.{known_at}
use Rattle.pc_world.specs.Committed.{anchor_in, key_sent}
use Rattle.pc_world.specs.Known.{Known}
use Rattle.pc_world.specs.Known.Transactions.{IsMetaOf, Txn}
use Rattle.pc_world.specs.Local.{Head}
use Rattle.pc_world.specs.RangeOf.{range_of}
use Rattle.pc_world.specs.Run.{IsRun, protocol}
use Rattle.pc_world.specs.Send.Put.{MaySendPut}

-- an anchor stays
pub anchor_stays : (id : TxnId) (history : List (Entry Event)) (e : Entry Event) (anchor : List ℕ) → anchor_in id history ≡ Some anchor → anchor_in id (history ++ e ∷ []) ≡ Some anchor
anchor_stays id history e anchor is = first_push (λ x. key_sent id x.event) history e ∙ ap (λ o. option_or o (key_sent id e.event)) is

-- The message was sent by its transaction's session to the range of this key, and its meta has its transaction's anchor.
pub record IsAnchored (head : Head) (history : List (Entry Event)) (actor : ActorId) (range : ℕ) (key : List ℕ) (meta : TxnMeta) : Type 0 where
  pub whose : actor ≡ actors.Session meta.id.session
  pub there : range ≡ range_of head.splits key
  pub anchor : anchor_in meta.id history ≡ Some meta.anchor

anchored-more : (head : Head) (history : List (Entry Event)) (e : Entry Event) (actor : ActorId) (range : ℕ) (key : List ℕ) (meta : TxnMeta) → IsAnchored head history actor range key meta → IsAnchored head (history ++ e ∷ []) actor range key meta
anchored-more head history e actor range key meta a = record { whose = a.whose; there = a.there; anchor = anchor_stays meta.id history e meta.anchor a.anchor }

-- A put goes to the range of its key, and a commit to that of its transaction's anchor.
abbrev pub SaysAnchor : Head → List (Entry Event) → ActorId → Event → Type 0
SaysAnchor head history actor (events.Send number range (requests.Put meta seq ts key value)) = IsAnchored head history actor range key meta
SaysAnchor head history actor (events.Send number range (requests.Commit meta ts locks)) = IsAnchored head history actor range meta.anchor meta
SaysAnchor head history actor event = ⊤

says-more : (head : Head) (history : List (Entry Event)) (e : Entry Event) (actor : ActorId) (event : Event) → SaysAnchor head history actor event → SaysAnchor head (history ++ e ∷ []) actor event
says-more head history e actor (events.Send number range (requests.Put meta seq ts key value)) says = anchored-more head history e actor range key meta says
says-more head history e actor (events.Send number range (requests.Commit meta ts locks)) says = anchored-more head history e actor range meta.anchor meta says
says-more head history e actor event says = tt

or-unwrap : (anchor : Option (List ℕ)) (key : List ℕ) → option_or anchor (Some key) ≡ Some (unwrap_or anchor key)
or-unwrap None key = refl
or-unwrap (Some anchor) key = refl

-- One more entry, of an actor that knows its transactions.
module _ (head : Head) (history : List (Entry Event)) (e : Entry Event) (k : Known) (knows : Knows history e.actor k) where
  pub meta-anchored : (t : Txn) (meta : TxnMeta) → Contains k.txns t → IsMetaOf t meta → anchor_in meta.id history ≡ Some meta.anchor
  meta-anchored t meta mine whose =
      let agrees : Agrees history t = each-contains (Agrees history) k.txns t knows.agrees mine in
      ap (λ (m : TxnMeta). anchor_in m.id history) whose.same ∙ agrees.anchor ∙ whose.anchored

  put-anchored : (number range : ℕ) (meta : TxnMeta) (seq ts : ℕ) (key : List ℕ) (value : Option (List ℕ)) → e.event ≡ events.Send number range (requests.Put meta seq ts key value)
      → MaySendPut k meta seq ts key value → anchor_in meta.id (history ++ e ∷ []) ≡ Some meta.anchor
  put-anchored number range meta seq ts key value is may =
      elim may [
        | inl f ↦
            let agrees : Agrees history f.t = each-contains (Agrees history) k.txns f.t knows.agrees (open_there k f.t f.opened) in
            let before : anchor_in meta.id history ≡ f.t.anchor = ap (λ (m : TxnMeta). anchor_in m.id history) f.whose ∙ agrees.anchor in
            let sends : key_sent meta.id e.event ≡ Some key = ap (key_sent meta.id) is ∙ ap (λ b. if b then Some key else None) (same_txn-self meta.id) in
            first_push (λ x. key_sent meta.id x.event) history e ∙ ap (λ o. option_or o (key_sent meta.id e.event)) before ∙ ap (option_or f.t.anchor) sends ∙ or-unwrap f.t.anchor key
            ∙ ap (λ (m : TxnMeta). Some m.anchor) (sym f.whose)
        | inr a ↦ anchor_stays meta.id history e meta.anchor (meta-anchored a.t meta a.mine a.whose)
      ]

  says-anchor : (event : Event) → e.event ≡ event → Does head e.actor k event → SaysAnchor head (history ++ e ∷ []) e.actor event
  says-anchor (events.Send number range (requests.Put meta seq ts key value)) is may = record {
    whose = (says_own head e.actor k (events.Send number range (requests.Put meta seq ts key value)) knows.numbered may).0;
    there = may.there;
    anchor = put-anchored number range meta seq ts key value is may.row;
  }
  says-anchor (events.Send number range (requests.Commit meta ts locks)) is may =
      let row = may.row in
      anchored-more head history e e.actor range meta.anchor meta (record {
        whose = subst (λ (m : TxnMeta). e.actor ≡ actors.Session m.id.session) (sym row.whose.same) (owned e.actor (k.begun + 1) k.txns row.t knows.numbered row.mine).0;
        there = may.there;
        anchor = meta-anchored row.t meta row.mine row.whose;
      })
  says-anchor event is may = tt

module _ (head : Head) where
  AreAnchored : List (Entry Event) → Type 0
  AreAnchored history = (a : Entry Event) → Contains history a → SaysAnchor head history a.actor a.event

  are-anchored : (history : List (Entry Event)) → IsRun head history → AreAnchored history
  unfolding AreAnchored
  are-anchored = run_induction head AreAnchored (λ a there. absurd (contains_nil a there)) (λ history e run may all a there.
      elim (Contains-push_cases history e a there) [
        | inl before ↦ says-more head history e a.actor a.event (all a before)
        | inr now ↦
            subst (λ (x : Entry Event). SaysAnchor head (history ++ e ∷ []) x.actor x.event) now
            (says-anchor head history e (known_at head e.actor history) (agreed head history run e.actor) e.event refl
            (does head e.actor (own (protocol head) e.actor history) e.event (named_in (protocol head) history e.event) may.local.next))
      ])

  -- in a run a put was sent by its transaction's session to the range of its key, and has its transaction's anchor
  pub put_anchored : (history : List (Entry Event)) → IsRun head history → (a : Entry Event) → Contains history a → (number range : ℕ) (meta : TxnMeta) (seq ts : ℕ) (key : List ℕ) (value : Option (List ℕ))
      → a.event ≡ events.Send number range (requests.Put meta seq ts key value) → IsAnchored head history a.actor range key meta
  unfolding AreAnchored
  put_anchored history run a there number range meta seq ts key value is = subst (SaysAnchor head history a.actor) is (are-anchored history run a there)

  -- and a commit to the range of its transaction's anchor
  pub commit_anchored : (history : List (Entry Event)) → IsRun head history → (a : Entry Event) → Contains history a → (number range : ℕ) (meta : TxnMeta) (ts : ℕ) (locks : List (List ℕ))
      → a.event ≡ events.Send number range (requests.Commit meta ts locks) → IsAnchored head history a.actor range meta.anchor meta
  unfolding AreAnchored
  commit_anchored history run a there number range meta ts locks is = subst (SaysAnchor head history a.actor) is (are-anchored history run a there)
