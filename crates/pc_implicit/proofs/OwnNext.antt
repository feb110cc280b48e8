-- What the next entry of a transaction's session does, and how the transaction stands after it.
use Rattle.std.proofs.Common.{◌≡◌, List, [], ◌∷◌, ◌++◌, sym, ap, subst, ◌∙◌}
use Rattle.pc_base.specs.declared.actor.ActorId.TheVariants as actors
use Rattle.pc_base.specs.declared.entry.Entry.{Entry}
use Rattle.pc_base.specs.declared.transaction.TxnId.{TxnId}
use Rattle.pc_history.specs.History.{MayFollow}
use Rattle.pc_history.specs.Own.{named_in, own}
use Rattle.pc_implicit.proofs.Commits.{act_of}
use Rattle.pc_implicit.proofs.Did.{session_at}
use Rattle.pc_implicit.proofs.Doing.{Does}
use Rattle.pc_implicit.proofs.Moves.{first_after, is_first}
use Rattle.pc_proto.specs.declared.event.Event.{Event}
use Rattle.pc_world.proofs.Knowing.{known_same}
use Rattle.pc_world.specs.After.{known_at}
use Rattle.pc_world.specs.Known.{Known}
use Rattle.pc_world.specs.Known.Statements.{is_open_after}
use Rattle.pc_world.specs.Known.Traffic.{heard_by}
use Rattle.pc_world.specs.Local.{Head, MayComeNext, MayDo}
use Rattle.pc_world.specs.Operations.{is_last_after}
use Rattle.pc_world.specs.Run.{protocol}

module _ (head : Head) (history : List (Entry Event)) (e : Entry Event) (id : TxnId) (same : e.actor ≡ actors.Session id.session) where
  -- it is one that its session may do
  pub may_do_next : MayFollow (protocol head) history e → MayDo head (actors.Session id.session) (session_at head id history) e.event
  may_do_next may = subst (λ a. MayComeNext head a (own (protocol head) a history) e.event (named_in (protocol head) history e.event)) same may.local.next

  pub does_next : MayFollow (protocol head) history e → Does head (actors.Session id.session) (session_at head id history) e.event
  does_next may = subst (λ a. Does head a (known_at head a history) e.event) same (act_of head history e may)

  -- whether the transaction is the session's last one
  pub first_next : is_first id (session_at head id (history ++ e ∷ [])).txns ≡ is_last_after id e.event (is_first id (session_at head id history).txns)
  first_next =
      let k = session_at head id history in
      ap (λ (x : Known). is_first id x.txns) (known_same head (actors.Session id.session) history e same)
      ∙ sym (first_after id e.event (heard_by e.event (named_in (protocol head) history e.event) k.sent) k)

  -- whether the session's last transaction is open
  pub open_next : (session_at head id (history ++ e ∷ [])).is_open ≡ is_open_after e.event (session_at head id history).is_open
  open_next = ap (λ (x : Known). x.is_open) (known_same head (actors.Session id.session) history e same)
