-- When a transaction last showed that it is alive, as more messages go out.
use Rattle.std.proofs.Common.{◌≡◌, ℕ, ◌≤◌, ◌<◌, Bool, true, false, if◌then◌else◌, List, [], ◌∷◌, ◌++◌, fold, Some, refl, ap, ◌∙◌, arith, All}
use Rattle.std.proofs.lemmas.Grind.{fold-append}
use Rattle.std.proofs.lemmas.List.Elements.{All-head, All-tail}
use Rattle.pc_base.specs.declared.transaction.TxnId.{TxnId}
use Rattle.pc_base.specs.Transaction.{same_txn}
use Rattle.pc_lists.proofs.Same.{same_txn-is}
use Rattle.pc_proto.specs.declared.meta.TxnMeta.{TxnMeta}
use Rattle.pc_proto.specs.declared.request.Request.{Request}
use Rattle.pc_proto.specs.declared.request.Request.TheVariants as requests
use Rattle.pc_follows.specs.Heartbeats.{is_heartbeat, last_shown, shown_by}
use Rattle.pc_txn.proofs.Same.{if_true}
use Rattle.pc_txn.specs.Counted.{IsOfBegun, IsOwnSent}
use Rattle.pc_txn.specs.Standing.{is_plain}
use Rattle.pc_world.specs.Known.Traffic.{Sent}
use Rattle.pc_world.specs.Known.Transactions.{Txn}

-- what is no heartbeat shows nothing
pub shows_nothing : (id : TxnId) (last : ℕ) (r : Request) → is_heartbeat r ≡ false → shown_by id last r ≡ last
shows_nothing id last (requests.Beat meta ts now) e = absurd cc
shows_nothing id last r e = refl

pub plain_silent : (r : Request) → is_plain r ≡ true → is_heartbeat r ≡ false
plain_silent (requests.Beat meta ts now) e = absurd cc
plain_silent r e = refl

pub shown-last : (t : Txn) (sent : List Sent) (m : Sent) → last_shown t (sent ++ m ∷ []) ≡ shown_by t.id (last_shown t sent) m.request
shown-last t sent m = fold-append (λ last m. shown_by t.id last m.request) t.born sent (m ∷ [])

-- after one more message that is no heartbeat
pub shown-one : (t : Txn) (sent : List Sent) (m : Sent) → is_heartbeat m.request ≡ false → last_shown t (sent ++ m ∷ []) ≡ last_shown t sent
shown-one t sent m silent = shown-last t sent m ∙ shows_nothing t.id (last_shown t sent) m.request silent

-- after its heartbeat of this reading
pub shown-beat : (t : Txn) (sent : List Sent) (number range : ℕ) (meta : TxnMeta) (ts now : ℕ) → same_txn meta.id t.id ≡ true → last_shown t (sent ++ record { number = number; range = range; request = requests.Beat meta ts now } ∷ []) ≡ now
shown-beat t sent number range meta ts now same = shown-last t sent (record { number = number; range = range; request = requests.Beat meta ts now }) ∙ if_true (same_txn meta.id t.id) now (last_shown t sent) same

from-silent : (id : TxnId) (last : ℕ) (more : List Sent) → All (λ m. is_heartbeat m.request ≡ false) more → fold (λ last m. shown_by id last m.request) last more ≡ last
from-silent id last [] a = refl
from-silent id last (m ∷ more) a =
    let first = All-head (λ m. is_heartbeat m.request ≡ false) m more a in
    ap (λ n. fold (λ last m. shown_by id last m.request) n more) (shows_nothing id last m.request first)
    ∙ from-silent id last more (All-tail (λ m. is_heartbeat m.request ≡ false) m more a)

-- after more messages that are no heartbeats
pub shown-silent : (t : Txn) (sent more : List Sent) → All (λ m. is_heartbeat m.request ≡ false) more → last_shown t (sent ++ more) ≡ last_shown t sent
shown-silent t sent more a = fold-append (λ last m. shown_by t.id last m.request) t.born sent more ∙ from-silent t.id (last_shown t sent) more a

-- of a transaction that was not begun no heartbeat was sent
module _ (session count begun : ℕ) (id : TxnId) (whose : id.session ≡ session) (later : begun < id.number) where
  shows-other : (last : ℕ) (r : Request) → IsOfBegun session begun r → shown_by id last r ≡ last
  shows-other last (requests.Beat meta ts now) own = by (same_txn meta.id id) refl
    where
      by : (b : Bool) → same_txn meta.id id ≡ b → (if b then now else last) ≡ last
      by true same =
          let e : meta.id ≡ id = same_txn-is meta.id id same in
          let low : id.number ≤ begun = own id (ap Some e) whose in
          absurd (omega arith)
      by false other = refl
  shows-other last r own = refl

  pub shown-new : (born : ℕ) (sent : List Sent) → All (IsOwnSent session begun count) sent → fold (λ last m. shown_by id last m.request) born sent ≡ born
  shown-new born [] a = refl
  shown-new born (m ∷ sent) a =
      let own = All-head (IsOwnSent session begun count) m sent a in
      ap (λ n. fold (λ last m. shown_by id last m.request) n sent) (shows-other born m.request own.own.record_of)
      ∙ shown-new born sent (All-tail (IsOwnSent session begun count) m sent a)
