-- What the range of a transaction's anchor has decided committed, and what was told or shown committed.
use Rattle.std.proofs.Common.{◌≡◌, ℕ, Bool, true, false, inl, inr, List, [], ◌∷◌, ◌++◌, Option, None, Some, IsTrue, refl, sym, ap, subst, ◌∙◌}
use Rattle.std.proofs.lemmas.Bool.{and_parts, eqb-true}
use Rattle.std.specs.List.{list_all}
use Rattle.std.specs.Option.{option_map_or, option_or}
use Rattle.pc_base.specs.declared.actor.ActorId.{ActorId}
use Rattle.pc_base.specs.declared.entry.Entry.{Entry}
use Rattle.pc_base.specs.declared.transaction.TxnId.{TxnId}
use Rattle.pc_base.specs.Transaction.{same_txn}
use Rattle.pc_history.specs.History.{MayFollow}
use Rattle.pc_history.specs.Own.{named_in, own}
use Rattle.pc_implicit.proofs.Agreed.{Agrees, IsUnended, Knows, agreed, none_unless, open_there}
use Rattle.pc_implicit.proofs.Doing.{Does, does}
use Rattle.pc_implicit.proofs.Firsts.{first_push}
use Rattle.pc_implicit.proofs.Hearing.{IsSo, heard_is_so}
use Rattle.pc_implicit.proofs.Metas.{subject_anchored}
use Rattle.pc_implicit.proofs.Runs.{kept-status}
use Rattle.pc_implicit.proofs.Shown.{WasAnswered}
use Rattle.pc_implicit.proofs.Views.{subject-is}
use Rattle.pc_implicit.specs.Decided.{decision}
use Rattle.pc_lists.proofs.Each.{each-contains}
use Rattle.pc_proto.specs.declared.event.Event.{Event}
use Rattle.pc_proto.specs.declared.event.Event.TheVariants as events
use Rattle.pc_proto.specs.declared.meta.TxnMeta.{TxnMeta}
use Rattle.pc_proto.specs.declared.record.Standing.TheVariants as standings
use Rattle.pc_proto.specs.declared.record.Status.{Status}
use Rattle.pc_proto.specs.declared.reply.Reply.{Reply}
use Rattle.pc_proto.specs.declared.request.Request.{Request}
use Rattle.pc_proto.specs.declared.request.Request.TheVariants as requests
use Rattle.pc_proto.specs.declared.view.View.{View}
use Rattle.pc_proto.specs.declared.view.View.TheVariants as views
use Rattle.pc_proto.specs.Place.{Place, Nothing, Kept, Marked, is_final}
use Rattle.pc_proto.specs.RecordRows.Reached.{status_of}
use Rattle.pc_proto.specs.Replies.{view_in}
use Rattle.pc_proto.specs.Requests.{is_about, subject}
use Rattle.pc_proto.specs.Views.{is_committed_at}
use Rattle.pc_world.specs.After.{known_at, place_at}
use Rattle.pc_world.specs.Committed.{IsCommitted, anchor_in, commit_at, commit_by, commit_in, committed_in, is_present, key_sent, told_at}
use Rattle.pc_world.specs.Known.{Known, first_if}
use Rattle.pc_world.specs.Known.Transactions.{Txn}
use Rattle.pc_world.specs.Local.{Head}
use Rattle.pc_world.specs.RangeOf.{range_of}
use Rattle.pc_world.specs.Run.{IsRun, protocol}
use Rattle.pc_world.specs.Send.Put.{MaySendPut}
use Rattle.pc_world.specs.Views.{WasCommitted}

-- The range of the transaction's anchor has it committed at this timestamp.
pub record IsDecided (head : Head) (history : List (Entry Event)) (id : TxnId) (ts : ℕ) : Type 0 where
  pub anchor : List ℕ
  pub anchored : anchor_in id history ≡ Some anchor
  pub epoch : ℕ
  pub decided : decision (place_at head (range_of head.splits anchor) id history) ≡ Some (status_of standings.Committed epoch ts)

-- how a decision commits
pub decision_commits : (head : Head) (history : List (Entry Event)) (id : TxnId) (epoch ts : ℕ) (p : Place) → decision p ≡ Some (status_of standings.Committed epoch ts) → commit_in head history id p ≡ Some ts
decision_commits head history id epoch ts Nothing h = absurd cc
decision_commits head history id epoch ts (Kept r) h =
    let same = kept-status (is_final r.status.standing) r.status (status_of standings.Committed epoch ts) h in
    ap (λ (s : Status). commit_by s.standing s.ts (list_all (is_present head history id r.status.epoch r.status.ts) r.writes)) same
decision_commits head history id epoch ts (Marked s) h = let same : s ≡ status_of standings.Committed epoch ts = cc in ap (λ (t : Status). commit_by t.standing t.ts false) same

pub decided_is_committed : (head : Head) (history : List (Entry Event)) (id : TxnId) (ts : ℕ) → IsDecided head history id ts → IsCommitted head history id ts
decided_is_committed head history id ts d =
    ap (commit_at head history id) d.anchored ∙ decision_commits head history id d.epoch ts (place_at head (range_of head.splits d.anchor) id history) d.decided

unended-none : (is_open : Bool) (txns : List Txn) (t : Txn) → IsUnended is_open txns → first_if is_open txns ≡ Some t → t.committed ≡ None
unended-none true [] t unended opened = absurd cc
unended-none true (x ∷ xs) t unended opened = let same : x ≡ t = cc in subst (λ (y : Txn). y.committed ≡ None) same unended
unended-none false [] t unended opened = absurd cc
unended-none false (x ∷ xs) t unended opened = absurd cc

-- the open transaction was not told committed, and the history has of it what its session knows
pub open_agrees : (history : List (Entry Event)) (actor : ActorId) (k : Known) (t : Txn) → Knows history actor k → first_if k.is_open k.txns ≡ Some t → Agrees history t × (t.committed ≡ None)
open_agrees history actor k t knows opened =
    (each-contains (Agrees history) k.txns t knows.agrees (open_there k t opened), unended-none k.is_open k.txns t knows.unended opened)

-- no put of a transaction is sent once it was told committed without one
no-put-row : (history : List (Entry Event)) (actor : ActorId) (k : Known) (id : TxnId) (ts : ℕ) (meta : TxnMeta) (seq at : ℕ) (key : List ℕ) (value : Option (List ℕ)) → Knows history actor k
    → anchor_in id history ≡ None → told_at id history ≡ Some ts → MaySendPut k meta seq at key value → meta.id ≡ id → ⊥
no-put-row history actor k id ts meta seq at key value knows none told may same =
    elim may [
      | inl f ↦
          let is : f.t.id ≡ id = ap (λ (m : TxnMeta). m.id) (sym f.whose) ∙ same in
          let agrees = open_agrees history actor k f.t knows f.opened in
          let both : None ≡ Some ts = sym agrees.1 ∙ sym agrees.0.told ∙ ap (λ i. told_at i history) is ∙ told in
          absurd cc
      | inr a ↦
          let is : a.t.id ≡ id = ap (λ (m : TxnMeta). m.id) (sym a.whose.same) ∙ same in
          let agrees = each-contains (Agrees history) k.txns a.t knows.agrees a.mine in
          let both : None ≡ Some meta.anchor = sym none ∙ ap (λ i. anchor_in i history) (sym is) ∙ agrees.anchor ∙ a.whose.anchored in
          absurd cc
    ]

no-put : (head : Head) (history : List (Entry Event)) (actor : ActorId) (k : Known) (event : Event) (id : TxnId) (ts : ℕ) → Knows history actor k → Does head actor k event
    → anchor_in id history ≡ None → told_at id history ≡ Some ts → key_sent id event ≡ None
no-put head history actor k (events.Send number range (requests.Put meta seq at key value)) id ts knows may none told =
    none_unless meta.id id key (same_txn meta.id id) refl (no-put-row history actor k id ts meta seq at key value knows none told may.row)
no-put head history actor k event id ts knows may none told = refl

pub act_of : (head : Head) (history : List (Entry Event)) (e : Entry Event) → MayFollow (protocol head) history e → Does head e.actor (known_at head e.actor history) e.event
act_of head history e may = does head e.actor (own (protocol head) e.actor history) e.event (named_in (protocol head) history e.event) may.local.next

module _ (head : Head) where
  -- a transaction without an anchor that was told committed stays so over one more entry
  pub told_stays : (history : List (Entry Event)) (e : Entry Event) → IsRun head history → MayFollow (protocol head) history e → (id : TxnId) (ts : ℕ) → anchor_in id history ≡ None → told_at id history ≡ Some ts → IsCommitted head (history ++ e ∷ []) id ts
  told_stays history e run may id ts none told =
      let quiet : key_sent id e.event ≡ None = no-put head history e.actor (known_at head e.actor history) e.event id ts (agreed head history run e.actor) (act_of head history e may) none told in
      let still : anchor_in id (history ++ e ∷ []) ≡ None = first_push (λ x. key_sent id x.event) history e ∙ ap (λ o. option_or o (key_sent id e.event)) none ∙ quiet in
      ap (commit_at head (history ++ e ∷ []) id) still ∙ first_push (λ x. committed_in id x.event) history e ∙ ap (λ o. option_or o (committed_in id e.event)) told

-- the view that shows a commit
pub committed-view : (ts : ℕ) (o : Option View) → option_map_or (is_committed_at ts) o false ≡ true → (epoch : ℕ) × (locks : List (List ℕ)) × (o ≡ Some (views.Committed epoch ts locks))
committed-view ts None h = absurd cc
committed-view ts (Some (views.Committed epoch at locks)) h = (epoch, locks, ap (λ t. Some (views.Committed epoch t locks)) (eqb-true at ts h))
committed-view ts (Some view) h = absurd cc

module _ (head : Head) (history : List (Entry Event)) (run : IsRun head history) where
  answered-commit : (actor : ActorId) (number : ℕ) (request : Request) (reply : Reply) (id : TxnId) (epoch ts : ℕ) (locks : List (List ℕ)) → WasAnswered head history actor number request reply
      → subject request ≡ Some id → view_in reply ≡ Some (views.Committed epoch ts locks) → IsDecided head history id ts
  answered-commit actor number request reply id epoch ts locks w about told =
      let at = subject_anchored head history run w.send w.listed number w.range request id w.sends about in
      record {
        anchor = at.anchor;
        anchored = at.anchored;
        epoch = epoch;
        decided = ap (λ r. decision (place_at head r id history)) (sym at.there) ∙ w.shows id (views.Committed epoch ts locks) about told;
      }

  -- a transaction that an answer shows committed is so by its record
  pub shown_decided : (actor : ActorId) (number : ℕ) (request : Request) (reply : Reply) (id : TxnId) (ts : ℕ) → WasAnswered head history actor number request reply
      → subject request ≡ Some id → IsTrue (option_map_or (is_committed_at ts) (view_in reply) false) → IsDecided head history id ts
  shown_decided actor number request reply id ts w about told =
      let view = committed-view ts (view_in reply) told in
      answered-commit actor number request reply id view.0 ts view.1 w about view.2

  -- a transaction that was heard to be committed is so by its record
  pub heard_decided : (actor : ActorId) (id : TxnId) (ts : ℕ) → WasCommitted (known_at head actor history).heard id ts → IsDecided head history id ts
  heard_decided actor id ts (n, h, inside, at, shows) =
      let parts = and_parts (is_about id h.request) (option_map_or (is_committed_at ts) (view_in h.reply) false) shows in
      let w = each-contains (IsSo head history actor) (known_at head actor history).heard h (heard_is_so head history run actor) (n, inside, at) in
      shown_decided actor h.number h.request h.reply id ts w (subject-is id (subject h.request) parts.0) parts.1
