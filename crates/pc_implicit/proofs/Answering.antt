-- How a range answers gets, scans, puts and refreshes; and what it has of a transaction.
use Rattle.std.proofs.Common.{◌≡◌, ℕ, Bool, true, false, ◌&&◌, not, nat_le, if◌then◌else◌, List, filter, Option, None, Some, IfSome, refl, ap, ◌∙◌}
use Rattle.std.proofs.lemmas.Bool.{and_parts, not-true}
use Rattle.std.proofs.lemmas.List.Elements.{filter_passes, recursion_from_All}
use Rattle.std.specs.Prelude.{⊤}
use Rattle.pc_base.specs.declared.actor.ActorId.TheVariants as actors
use Rattle.pc_base.specs.declared.entry.Entry.{Entry}
use Rattle.pc_base.specs.declared.span.Span.{Span}
use Rattle.pc_base.specs.declared.transaction.TxnId.{TxnId}
use Rattle.pc_base.specs.Span.{contains, key_below}
use Rattle.pc_base.specs.Transaction.{same_txn}
use Rattle.pc_history.specs.Own.{own}
use Rattle.pc_lists.proofs.Each.{each-choose, each-weaker}
use Rattle.pc_lists.proofs.Same.{same_txn-self}
use Rattle.pc_proto.specs.declared.event.Event.{Event}
use Rattle.pc_proto.specs.declared.fate.Goal.{Goal}
use Rattle.pc_proto.specs.declared.fate.Goal.TheVariants as goals
use Rattle.pc_proto.specs.declared.record.Intent.{Intent}
use Rattle.pc_proto.specs.declared.record.Standing.{Standing}
use Rattle.pc_proto.specs.declared.record.Standing.TheVariants as standings
use Rattle.pc_proto.specs.declared.reply.Origin.{Origin}
use Rattle.pc_proto.specs.declared.request.Request.{Request}
use Rattle.pc_proto.specs.Intents.{first_other, kept_if, lesser_key}
use Rattle.pc_proto.specs.Place.{Place, Nothing, Kept, Marked, after, is_decided, is_final, status_view}
use Rattle.pc_proto.specs.RecordRows.Push.{reaches_goal}
use Rattle.pc_proto.specs.Views.{is_final_view}
use Rattle.pc_world.specs.After.{state_at}
use Rattle.pc_world.specs.Answering.{IsGetReply, IsPutReply, IsRefreshReply, IsScanReply}
use Rattle.pc_world.specs.Evaluation.{reply}
use Rattle.pc_world.specs.Evaluation.Get.{get_reply}
use Rattle.pc_world.specs.Evaluation.Refresh.{refresh_reply}
use Rattle.pc_world.specs.Evaluation.Put.{PutOutcome, Stands, Lands, first_outcome, overtaken, put_reply}
use Rattle.pc_world.specs.Evaluation.Scan.{scan_reply}
use Rattle.pc_world.specs.Exchange.{IsPossibleReply}
use Rattle.pc_world.specs.Local.{Head}
use Rattle.pc_world.specs.Run.{protocol}

-- ---- intents

module _ (id : TxnId) where
  -- The intent is of another transaction.
  abbrev pub IsAnothers : Intent → Type 0
  IsAnothers i = i.meta.id ≡ id → ⊥

  -- So is the one at a key.
  abbrev pub IsAnothersThere : List ℕ × Intent → Type 0
  IsAnothersThere e = e.1.meta.id ≡ id → ⊥

  differs : (other : TxnId) → same_txn other id ≡ false → other ≡ id → ⊥
  differs other differ is = let same : same_txn other id ≡ true = ap (λ one. same_txn one id) is ∙ same_txn-self id in cc

  pub other-differs : (o : Option Intent) → IfSome (kept_if (λ i. not (same_txn i.meta.id id)) o) IsAnothers
  other-differs None = tt
  other-differs (Some i) = by (same_txn i.meta.id id) refl
    where
      by : (b : Bool) → same_txn i.meta.id id ≡ b → IfSome (if not b then Some i else None) IsAnothers
      by true same = tt
      by false differ = differs i.meta.id differ

  pub get-kind : (blocker : Option Intent) (key : List ℕ) (found : Origin × Option (List ℕ)) → IfSome blocker IsAnothers → IsGetReply id (get_reply blocker key found)
  get-kind None key found other = tt
  get-kind (Some i) key found other = other

  lesser-differs : (best : Option (List ℕ × Intent)) (e : List ℕ × Intent) → IfSome best IsAnothersThere → IsAnothersThere e → IfSome (lesser_key best e) IsAnothersThere
  lesser-differs None e h k = k
  lesser-differs (Some best) e h k = by (key_below e.0 best.0)
    where
      by : (b : Bool) → IfSome (if b then Some e else Some best) IsAnothersThere
      by true = k
      by false = h

  pub first-differs : (span : Span) (ts : ℕ) (intents : List (List ℕ × Intent)) → IfSome (first_other span ts id intents) IsAnothersThere
  first-differs span ts intents =
      let test : List ℕ × Intent → Bool = λ e. contains span e.0 && (nat_le e.1.ts ts && not (same_txn e.1.meta.id id)) in
      let met = filter test intents in
      each-choose IsAnothersThere lesser_key lesser-differs None met tt
      (each-weaker (λ e. test e ≡ true) IsAnothersThere passed met (recursion_from_All (λ e. test e ≡ true) met (filter_passes test intents)))
    where
      passed : (e : List ℕ × Intent) → (contains span e.0 && (nat_le e.1.ts ts && not (same_txn e.1.meta.id id))) ≡ true → IsAnothersThere e
      passed e h =
          let later = (and_parts (contains span e.0) (nat_le e.1.ts ts && not (same_txn e.1.meta.id id)) h).1 in
          differs e.1.meta.id (not-true (same_txn e.1.meta.id id) (and_parts (nat_le e.1.ts ts) (not (same_txn e.1.meta.id id)) later).1)

  pub scan-kind : (blocker : Option (List ℕ × Intent)) (rows : List (List ℕ × Origin × List ℕ)) → IfSome blocker IsAnothersThere → IsScanReply id (scan_reply blocker rows)
  scan-kind None rows other = tt
  scan-kind (Some e) rows other = other

  pub written-kind : (key : List ℕ) (overtaken : Bool) (ts : ℕ) (i : Intent) → IsPutReply id (put_reply key (if overtaken then Stands ts else Lands i))
  written-kind key true ts i = tt
  written-kind key false ts i = tt

  pub put-kind : (key : List ℕ) (other : Option Intent) (outcome : PutOutcome) → IfSome other IsAnothers → IsPutReply id (put_reply key outcome) → IsPutReply id (put_reply key (first_outcome other outcome))
  put-kind key None outcome another written = written
  put-kind key (Some i) outcome another written = another

-- ---- records

pub final-status : (standing : Standing) (epoch ts : ℕ) (writes : List (List ℕ × ℕ)) (locks : List (List ℕ)) → is_final standing ≡ true → is_final_view (status_view standing epoch ts writes locks) ≡ true
final-status standings.Pending epoch ts writes locks h = absurd cc
final-status standings.Staging epoch ts writes locks h = absurd cc
final-status standings.Committed epoch ts writes locks h = refl
final-status (standings.Aborted why) epoch ts writes locks h = refl

-- The range has something of the transaction.
abbrev pub IsThere : Place → Type 0
IsThere Nothing = ⊥
IsThere (Kept r) = ⊤
IsThere (Marked s) = ⊤

pub decided-there : (p : Place) → is_decided p ≡ true → IsThere p
decided-there Nothing h = absurd cc
decided-there (Kept r) h = tt
decided-there (Marked s) h = tt

pub moved-there : (goal : Goal) (p : Place) → reaches_goal goal p ≡ true → IsThere p
moved-there goals.Abort Nothing h = absurd cc
moved-there (goals.Move target) Nothing h = absurd cc
moved-there goal (Kept r) h = tt
moved-there goal (Marked s) h = tt

-- ---- each request

pub refresh-kind : (write : Option (List ℕ × ℕ)) → IsRefreshReply (refresh_reply write)
refresh-kind None = tt
refresh-kind (Some w) = tt

-- what a range answers after a history is a reply to the request
pub reply_is_one : (head : Head) (history : List (Entry Event)) (range : ℕ) (request : Request) → IsPossibleReply request (reply request (state_at head range history))
reply_is_one head history range request = record { own = own (protocol head) (actors.Range range) history; is = refl }
