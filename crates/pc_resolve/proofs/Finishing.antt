-- A transaction that may be finished may be finished later.
use Rattle.std.proofs.Common.{◌≡◌, ℕ, ◌+◌, ◌≤◌, Bool, true, false, cond, List, [], ◌∷◌, ◌++◌, find, inl, inr, All, Option, Some, IsTrue, refl, sym, ap, ◌∙◌, subst, arith}
use Rattle.std.specs.Option.{option_and_then}
use Rattle.std.proofs.lemmas.List.Elements.{All-head, All-map, All-tail, All-weaker}
use Rattle.pc_base.specs.declared.transaction.TxnId.{TxnId}
use Rattle.pc_base.specs.Transaction.{same_txn}
use Rattle.pc_history.specs.declared.pair.Pair.{Pair}
use Rattle.pc_lists.proofs.Lists.{contains_map}
use Rattle.pc_proto.specs.declared.event.Event.{Event}
use Rattle.pc_proto.specs.declared.event.Event.TheVariants as events
use Rattle.pc_proto.specs.declared.request.Request.{Request}
use Rattle.pc_proto.specs.declared.request.Request.TheVariants as requests
use Rattle.pc_proto.specs.Requests.{is_put_by, subject_anchor}
use Rattle.pc_proto.specs.Stamps.{fate_stamps}
use Rattle.pc_resolve.specs.ResolveKnows.{AreWithoutPuts, IsLaterWithoutPuts, sends_put_by}
use Rattle.pc_resolve.specs.Resolving.{Resolving}
use Rattle.pc_world.proofs.Exchange.{ever_later, has_more, top_later}
use Rattle.pc_world.specs.Exchange.{is_message, known_from}
use Rattle.pc_world.specs.Known.{Known, known_after, learn}
use Rattle.pc_world.specs.Known.Clock.{high_after, top_after}
use Rattle.pc_world.specs.Known.Traffic.{Heard, heard_by}
use Rattle.pc_world.specs.Known.Transactions.{locks_sent, txn_heard, txn_sent, with_lock}
use Rattle.pc_world.specs.Send.Settling.{MayFinish, MustSettle, ShowsFate, ShowsFinal}
use Rattle.pc_world.specs.Views.{anchor_heard, shows_view}

locks_same : (id other : TxnId) (request : Request) (locks : List (List ℕ)) → other ≡ id → is_put_by id request ≡ false → locks_sent other request locks ≡ locks
locks_same id other (requests.Put meta seq ts key value) locks same none =
    let differ : same_txn meta.id other ≡ false = ap (same_txn meta.id) same ∙ none in
    ap (λ b. cond b (with_lock key locks) locks) differ
locks_same id other request locks same none = refl

module _ (id : TxnId) (shown locks : List (List ℕ)) where
  must_step : (event : Event) (h : Option Heard) (top high : ℕ) (k : Known) → IsTrue (is_message event) → sends_put_by id event ≡ false → MustSettle k id shown locks → MustSettle (known_after event h top high k) id shown locks
  must_step (events.Send number range request) h top high k message none (inl (t, there, same, own)) =
      inl (txn_sent request t, contains_map (txn_sent request) k.txns t there, same, own ∙ sym (locks_same id t.id request t.locks same none))
  must_step (events.Send number range request) h top high k message none (inr (others, is)) =
      inr (All-map (λ t. t.id ≡ id → ⊥) (txn_sent request) k.txns others, is)
  must_step (events.Hear number step) h top high k message none (inl (t, there, same, own)) =
      inl (txn_heard k.sent h t, contains_map (txn_heard k.sent h) k.txns t there, same, own)
  must_step (events.Hear number step) h top high k message none (inr (others, is)) =
      inr (All-map (λ t. t.id ≡ id → ⊥) (txn_heard k.sent h) k.txns others, is)
  must_step event h top high k message none must = absurd cc

  must_from : (entries : List (Pair Event)) (k : Known) → All (λ p. IsTrue (is_message p.entry.event)) entries → AreWithoutPuts id entries → MustSettle k id shown locks → MustSettle (known_from k entries) id shown locks
  must_from [] k messages unwritten must = must
  must_from (p ∷ ps) k messages unwritten must =
      let M : Pair Event → Type 0 = λ p. IsTrue (is_message p.entry.event) in
      let U : Pair Event → Type 0 = λ p. sends_put_by id p.entry.event ≡ false in
      let event = p.entry.event in
      must_from ps (learn p k) (All-tail M p ps messages) (All-tail U p ps unwritten)
      (must_step event (heard_by event p.named k.sent) (top_after event p.named k.top) (high_after event p.named k.high) k
      (All-head M p ps messages) (All-head U p ps unwritten) must)

-- What is found by a search is found in front of more.
module _ (anchor : List ℕ) where
  anchor_when : (b : Bool) (x : Heard) (one two : Option Heard)
      → (option_and_then (λ h. subject_anchor h.request) one ≡ Some anchor → option_and_then (λ h. subject_anchor h.request) two ≡ Some anchor)
      → option_and_then (λ h. subject_anchor h.request) (cond b (Some x) one) ≡ Some anchor → option_and_then (λ h. subject_anchor h.request) (cond b (Some x) two) ≡ Some anchor
  anchor_when true x one two on h = h
  anchor_when false x one two on h = on h

  anchor_kept : (id : TxnId) (heard more : List Heard) → anchor_heard id heard ≡ Some anchor → anchor_heard id (heard ++ more) ≡ Some anchor
  anchor_kept id [] more h = absurd cc
  anchor_kept id (x ∷ xs) more h =
      anchor_when (shows_view id x) x (find (shows_view id) xs) (find (shows_view id) (xs ++ more)) (anchor_kept id xs more) h

pub finish_later : (since now : Known) (m : Resolving) → IsLaterWithoutPuts m.id since now → MayFinish since m.id m.anchor m.fate m.locks → MayFinish now m.id m.anchor m.fate m.locks
finish_later since now m is may =
    let more = has_more since now is.later in
    record {
      resolve = ever_later (ShowsFate m.id m.fate) since now is.later may.resolve;
      stamps =
          let up = top_later since now is.later in
          All-weaker (λ ts. ts ≤ since.top + 1) (λ ts. ts ≤ now.top + 1) (λ ts low. omega (arith, up, low)) (fate_stamps m.fate) may.stamps;
      anchored = ap (anchor_heard m.id) more.ever ∙ anchor_kept m.anchor m.id since.heard more.more may.anchored;
      shown = may.shown;
      final = ever_later (ShowsFinal m.id may.shown) since now is.later may.final;
      must = subst (λ k. MustSettle k m.id may.shown m.locks) (sym is.later.knows)
          (must_from m.id may.shown m.locks is.later.entries since is.later.messages is.unwritten may.must);
    }
