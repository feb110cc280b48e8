-- In every run the holder of an intent that stands in a request's way was begun, by a session of the head.
use Rattle.std.proofs.Common.{◌≡◌, ℕ, ◌<◌, ◌≤◌, Bool, true, false, if◌then◌else◌, List, Option, None, Some, refl, sym, ap, subst, ◌∙◌, arith}
use Rattle.std.specs.Option.{option_or}
use Rattle.pc_base.specs.declared.actor.ActorId.{ActorId}
use Rattle.pc_base.specs.declared.actor.ActorId.TheVariants as actors
use Rattle.pc_base.specs.declared.entry.Entry.{Entry}
use Rattle.pc_base.specs.declared.transaction.TxnId.{TxnId}
use Rattle.pc_base.specs.Transaction.{same_txn}
use Rattle.pc_history.specs.History.{MayFollow}
use Rattle.pc_history.specs.Own.{named_in, own}
use Rattle.pc_implicit.proofs.Agreed.{SaysOwn, agreed, says_own}
use Rattle.pc_implicit.proofs.Doing.{does}
use Rattle.pc_implicit.proofs.Firsts.{first_push}
use Rattle.pc_implicit.proofs.MetaRows.{ReplyHas, reply_has}
use Rattle.pc_implicit.proofs.Metas.{HasAnchor, metas_agree}
use Rattle.pc_lists.proofs.Same.{same_txn-is}
use Rattle.pc_proto.specs.declared.event.Event.{Event}
use Rattle.pc_proto.specs.declared.event.Event.TheVariants as events
use Rattle.pc_proto.specs.declared.meta.TxnMeta.{TxnMeta}
use Rattle.pc_proto.specs.declared.reply.Reply.TheVariants as replies
use Rattle.pc_proto.specs.declared.request.Request.{Request}
use Rattle.pc_proto.specs.declared.request.Request.TheVariants as requests
use Rattle.pc_world.proofs.Prefixes.{run_induction}
use Rattle.pc_world.specs.After.{known_at, state_at}
use Rattle.pc_world.specs.Committed.{anchor_in, key_sent}
use Rattle.pc_world.specs.Evaluation.{reply}
use Rattle.pc_world.specs.Local.{Head, IsActorOf}
use Rattle.pc_world.specs.Run.{IsRun, protocol}

-- a put of a transaction is its session's
sender-is : (actor : ActorId) (n : ℕ) (event : Event) (id : TxnId) (anchor : List ℕ) → SaysOwn actor n event → key_sent id event ≡ Some anchor → actor ≡ actors.Session id.session
sender-is actor n (events.Send number range (requests.Put meta seq ts key value)) id anchor says sent = by (same_txn meta.id id) refl sent
  where
    by : (b : Bool) → same_txn meta.id id ≡ b → (if b then Some key else None) ≡ Some anchor → actor ≡ actors.Session id.session
    by true same sent = subst (λ (i : TxnId). actor ≡ actors.Session i.session) (same_txn-is meta.id id same) says.0
    by false differ sent = absurd cc
sender-is actor n (events.Send number range request) id anchor says sent = absurd cc
sender-is actor n event id anchor says sent = absurd cc

module _ (head : Head) where
  sends-there : (history : List (Entry Event)) (e : Entry Event) → IsRun head history → MayFollow (protocol head) history e → (id : TxnId) (anchor : List ℕ) → key_sent id e.event ≡ Some anchor → IsActorOf head (actors.Session id.session)
  sends-there history e run may id anchor sent =
      let knows = agreed head history run e.actor in
      let says = says_own head e.actor (known_at head e.actor history) e.event knows.numbered (does head e.actor (own (protocol head) e.actor history) e.event (named_in (protocol head) history e.event) may.local.next) in
      subst (IsActorOf head) (sender-is e.actor _ e.event id anchor says sent) may.local.there

  -- a transaction that has an anchor is of a session of the head
  pub session_there : (history : List (Entry Event)) → IsRun head history → (id : TxnId) (anchor : List ℕ) → anchor_in id history ≡ Some anchor → IsActorOf head (actors.Session id.session)
  session_there = run_induction head (λ history. (id : TxnId) (anchor : List ℕ) → anchor_in id history ≡ Some anchor → IsActorOf head (actors.Session id.session))
      (λ id anchor is. absurd cc) (λ history e run may all id anchor is.
      by history e run may all id anchor (anchor_in id history) refl (sym (first_push (λ x. key_sent id x.event) history e) ∙ is))
    where
      by : (history : List (Entry Event)) (e : Entry Event) → IsRun head history → MayFollow (protocol head) history e
          → ((id : TxnId) (anchor : List ℕ) → anchor_in id history ≡ Some anchor → IsActorOf head (actors.Session id.session))
          → (id : TxnId) (anchor : List ℕ) (o : Option (List ℕ)) → anchor_in id history ≡ o → option_or (anchor_in id history) (key_sent id e.event) ≡ Some anchor → IsActorOf head (actors.Session id.session)
      by history e run may all id anchor (Some first) before is = all id first before
      by history e run may all id anchor None before is = sends-there history e run may id anchor (sym (ap (λ o. option_or o (key_sent id e.event)) before) ∙ is)

  module _ (history : List (Entry Event)) (run : IsRun head history) where
    -- a transaction that has an anchor was begun
    pub anchored_begun : (id : TxnId) (anchor : List ℕ) → anchor_in id history ≡ Some anchor → id.number ≤ (known_at head (actors.Session id.session) history).begun
    anchored_begun id anchor is =
        let k = known_at head (actors.Session id.session) history in
        let low : k.begun < id.number → ⊥ =
        λ past. let both : None ≡ Some anchor = sym ((agreed head history run (actors.Session id.session)).fresh id refl past).anchor ∙ is in cc in
        omega (arith, low)

    module _ (range : ℕ) (request : Request) (holder : TxnMeta) (ts : ℕ) (key : List ℕ) (met : reply request (state_at head range history) ≡ replies.Conflict holder ts key) where
      -- the holder of an intent has an anchor
      pub holder_anchored : anchor_in holder.id history ≡ Some holder.anchor
      holder_anchored =
          subst (ReplyHas (HasAnchor history)) met (reply_has (HasAnchor history) request (state_at head range history) ((metas_agree head history run).states range))

-- the holder of an intent that stands in a request's way was begun
pub holders_were_begun : (head : Head) (history : List (Entry Event)) (range : ℕ) (request : Request) (holder : TxnMeta) (ts : ℕ) (key : List ℕ) → IsRun head history
    → reply request (state_at head range history) ≡ replies.Conflict holder ts key → holder.id.number ≤ (known_at head (actors.Session holder.id.session) history).begun
holders_were_begun head history range request holder ts key run met =
    anchored_begun head history run holder.id holder.anchor (holder_anchored head history run range request holder ts key met)

-- by a session of the head
pub heads_have_holders : (head : Head) (history : List (Entry Event)) (range : ℕ) (request : Request) (holder : TxnMeta) (ts : ℕ) (key : List ℕ) → IsRun head history
    → reply request (state_at head range history) ≡ replies.Conflict holder ts key → IsActorOf head (actors.Session holder.id.session)
heads_have_holders head history range request holder ts key run met =
    session_there head history run holder.id holder.anchor (holder_anchored head history run range request holder ts key met)
