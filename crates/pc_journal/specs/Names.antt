-- How transactions, actors and priorities are spelled. Own profile.
use Rattle.std.specs.Prelude.{ℕ, List, ◌∷◌, ◌++◌, codes}
use Rattle.std.specs.Fmt.{decimal}
use Rattle.pc_base.specs.declared.transaction.TxnId.{TxnId}
use Rattle.pc_base.specs.declared.transaction.Priority.{Priority}
use Rattle.pc_base.specs.declared.transaction.Priority.TheVariants.{Low, Normal, High}
use Rattle.pc_base.specs.declared.transaction.Who.{Who}
use Rattle.pc_base.specs.declared.transaction.Who.TheVariants as whos
use Rattle.pc_base.specs.declared.actor.ActorId.{ActorId}
use Rattle.pc_base.specs.declared.actor.ActorId.TheVariants as actors

-- A transaction's session and its number there, with a dot between them: `1.1`.
abbrev pub id_text : TxnId → List ℕ
id_text id = decimal id.session ++ (46 ∷ decimal id.number)

-- A range, session or recoverer by its letter and number: `r0`, `s1`, `v1`.
abbrev pub actor_text : ActorId → List ℕ
actor_text (actors.Range number) = 114 ∷ decimal number
actor_text (actors.Session number) = 115 ∷ decimal number
actor_text (actors.Recoverer number) = 118 ∷ decimal number

-- A transaction as its name, a recoverer as its letter and number: `1.1`, `v1`.
abbrev pub who_text : Who → List ℕ
who_text (whos.Txn id) = id_text id
who_text (whos.Recoverer number) = 118 ∷ decimal number

-- A priority is its name: `normal`.
abbrev pub priority_text : Priority → List ℕ
priority_text Low = codes "low"
priority_text Normal = codes "normal"
priority_text High = codes "high"
