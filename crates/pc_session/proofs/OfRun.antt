-- What the run gives of a reply that a session hears next.
use Rattle.std.proofs.Common.{◌≡◌, ℕ, Contains, sym, subst, ◌∙◌, ◌+◌}
use Rattle.pc_base.specs.declared.actor.ActorId.TheVariants as actors
use Rattle.pc_desk.specs.OwnLog.{IsOwnLog, LogMeaning}
use Rattle.pc_world.specs.Known.{Known, known_of}
use Rattle.pc_world.specs.Known.Transactions.{Txn}
use Rattle.pc_exchange.proofs.HeardKinds.{history_of, is_run, known_there}
use Rattle.pc_implicit.proofs.Agreed.{agreed, owned, one_txn}
use Rattle.pc_world.specs.After.{known_at}

-- a session's transactions are its own
pub own_session : {C : Type 0} (l : LogMeaning C) → IsOwnLog l → (session : ℕ) → l.part.id ≡ actors.Session session → (t : Txn) → Contains (known_of l.part.own).txns t → t.id.session ≡ session
own_session l log session whose t mine =
    let own = owned l.part.id _ (known_at l.head l.part.id (history_of l log)).txns t (agreed l.head (history_of l log) (is_run l log) l.part.id).numbered (subst (λ (k : Known). Contains k.txns t) (sym (known_there l log)) mine) in
    let both : actors.Session t.id.session ≡ actors.Session session = sym own.0 ∙ whose in
    let same : t.id.session ≡ session = cc in
    same

-- and each has a name of its own
pub one_named : {C : Type 0} (l : LogMeaning C) → IsOwnLog l → (t : Txn) → Contains (known_of l.part.own).txns t → (u : Txn) → Contains (known_of l.part.own).txns u → u.id ≡ t.id → u ≡ t
one_named l log t mine u there same =
    let k : Known = known_at l.head l.part.id (history_of l log) in
    let back : (x : Txn) → Contains (known_of l.part.own).txns x → Contains k.txns x = λ x inside. subst (λ (k : Known). Contains k.txns x) (sym (known_there l log)) inside in
    one_txn l.part.id (k.begun + 1) k.txns u t (agreed l.head (history_of l log) (is_run l log) l.part.id).numbered (back u there) (back t mine) same
