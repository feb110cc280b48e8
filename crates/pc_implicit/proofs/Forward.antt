-- A session forgets none of its transactions.
use Rattle.std.proofs.Common.{◌≡◌, ℕ, Bool, true, false, cond, inl, inr, List, [], ◌∷◌, ◌++◌, Option, Contains, sym, ap, subst, ◌∙◌}
use Rattle.std.proofs.lemmas.List.Elements.{Contains-push, Contains-push_cases}
use Rattle.pc_base.specs.declared.actor.ActorId.{ActorId}
use Rattle.pc_base.specs.declared.actor.ActorId.TheVariants as actors
use Rattle.pc_base.specs.declared.entry.Entry.{Entry}
use Rattle.pc_base.specs.declared.transaction.TxnId.{TxnId}
use Rattle.pc_history.specs.Own.{named_in}
use Rattle.pc_implicit.proofs.Anchored.{commit_anchored}
use Rattle.pc_implicit.proofs.Commits.{act_of}
use Rattle.pc_implicit.proofs.Doing.{Does, same_or_not}
use Rattle.pc_implicit.specs.Writes.{txns_of}
use Rattle.pc_lists.proofs.Lists.{contains_cons, contains_head, contains_map, contains_nil, contains_tail}
use Rattle.pc_proto.specs.declared.answer.Answer.{Answer}
use Rattle.pc_proto.specs.declared.answer.Answer.TheVariants as answers
use Rattle.pc_proto.specs.declared.event.Event.{Event}
use Rattle.pc_proto.specs.declared.event.Event.TheVariants as events
use Rattle.pc_proto.specs.declared.meta.TxnMeta.{TxnMeta}
use Rattle.pc_proto.specs.declared.request.Request.TheVariants as requests
use Rattle.pc_world.proofs.Knowing.{known_other, known_same, run_push}
use Rattle.pc_world.proofs.Prefixes.{run_induction}
use Rattle.pc_world.specs.After.{known_at}
use Rattle.pc_world.specs.Known.{Known, told_first, txn_begun, txns_after, txns_told}
use Rattle.pc_world.specs.Known.Traffic.{Heard, heard_by, replies_to}
use Rattle.pc_world.specs.Known.Transactions.{Txn, txn_heard, txn_sent, txn_told}
use Rattle.pc_world.specs.Local.{Head}
use Rattle.pc_world.specs.Run.{IsRun, protocol}

-- One of these is the transaction of this name.
abbrev pub Has : TxnId → List Txn → Type 0
Has id txns = (t : Txn) × Contains txns t × (t.id ≡ id)

has-first : (id : TxnId) (answer : Answer) (replied : List Heard) (b : Bool) (txns : List Txn) → Has id txns → Has id (cond b (told_first answer replied txns) txns)
has-first id answer replied true [] h = absurd (contains_nil h.0 h.1)
has-first id answer replied true (t ∷ ts) h =
    elim (contains_cons t ts h.0 h.1) [
      | inl same ↦ (txn_told answer replied t, contains_head (txn_told answer replied t) ts, ap (λ (x : Txn). x.id) same ∙ h.2)
      | inr later ↦ (h.0, contains_tail (txn_told answer replied t) ts h.0 later, h.2)
    ]
has-first id answer replied false txns h = h

has-told : (id : TxnId) (answer : Answer) (k : Known) → Has id k.txns → Has id (txns_told answer k)
has-told id (answers.Begun other ts) k h = (h.0, contains_tail (txn_begun k.statement other ts) k.txns h.0 h.1, h.2)
has-told id answer k h = has-first id answer (replies_to k.sent_now k.heard_now) k.is_open k.txns h

has-after : (id : TxnId) (event : Event) (h : Option Heard) (k : Known) → Has id k.txns → Has id (txns_after event h k)
has-after id (events.Send number range request) h k t = (txn_sent request t.0, contains_map (txn_sent request) k.txns t.0 t.1, t.2)
has-after id (events.Hear number step) h k t = (txn_heard k.sent h t.0, contains_map (txn_heard k.sent h) k.txns t.0 t.1, t.2)
has-after id (events.Tell answer) h k t = has-told id answer k t
has-after id event h k t = t

module _ (head : Head) where
  -- a transaction that is known stays known
  pub has_more : (history : List (Entry Event)) (e : Entry Event) (actor : ActorId) (id : TxnId) → Has id (known_at head actor history).txns → Has id (known_at head actor (history ++ e ∷ [])).txns
  has_more history e actor id h =
      elim (same_or_not e.actor actor) [
        | inl same ↦
            subst (λ (l : Known). Has id l.txns) (sym (known_same head actor history e same))
            (has-after id e.event (heard_by e.event (named_in (protocol head) history e.event) (known_at head actor history).sent) (known_at head actor history) h)
        | inr differ ↦ subst (λ (l : Known). Has id l.txns) (sym (known_other head actor history e differ)) h
      ]

  -- a session knows each transaction of which it sent a commit
  pub commit_known : (history : List (Entry Event)) → IsRun head history → (a : Entry Event) → Contains history a → (number range : ℕ) (meta : TxnMeta) (ts : ℕ) (locks : List (List ℕ))
      → a.event ≡ events.Send number range (requests.Commit meta ts locks) → Has meta.id (txns_of head meta.id history)
  commit_known = run_induction head
      (λ history. (a : Entry Event) → Contains history a → (number range : ℕ) (meta : TxnMeta) (ts : ℕ) (locks : List (List ℕ)) → a.event ≡ events.Send number range (requests.Commit meta ts locks)
      → Has meta.id (txns_of head meta.id history))
      (λ a there. absurd (contains_nil a there)) (λ history e run may all a there number range meta ts locks is.
      has_more history e (actors.Session meta.id.session) meta.id
      (elim (Contains-push_cases history e a there) [
        | inl before ↦ all a before number range meta ts locks is
        | inr now ↦
            let sends : e.event ≡ events.Send number range (requests.Commit meta ts locks) = ap (λ (x : Entry Event). x.event) now ∙ is in
            let own = (commit_anchored head (history ++ e ∷ []) (run_push head history e run may) e (Contains-push history e) number range meta ts locks sends).whose in
            let act : Does head e.actor (known_at head e.actor history) (events.Send number range (requests.Commit meta ts locks)) = subst (Does head e.actor (known_at head e.actor history)) sends (act_of head history e may) in
            let row = act.row in
            subst (λ x. Has meta.id (known_at head x history).txns) own (row.t, row.mine, ap (λ (m : TxnMeta). m.id) (sym row.whose.same))
      ]))
