-- An open call is told its answer, and its transaction stays open.
use Rattle.std.proofs.Common.{◌≡◌, ℕ, ◌+◌, ◌≤◌, Bool, true, false, not, cond, ◌&&◌, List, [], ◌∷◌, None, Some, refl, sym, ap, ◌∙◌, subst, arith, All}
use Rattle.std.specs.Bool.{MatchBool}
use Rattle.std.proofs.lemmas.List.{append-nil}
use Rattle.std.proofs.lemmas.List.Elements.{All-nil}
use Rattle.pc_call.specs.Setting.{Setting}
use Rattle.pc_base.specs.declared.actor.ActorId.TheVariants as actors
use Rattle.pc_base.specs.declared.span.Span.{Span}
use Rattle.pc_base.specs.declared.transaction.TxnId.{TxnId}
use Rattle.pc_call.specs.Learned.{known_told}
use Rattle.pc_call.specs.Serving.{IsOpenIn}
use Rattle.pc_call.specs.Telling.{StandsOpen}
use Rattle.pc_proto.specs.declared.answer.Answer.{Answer}
use Rattle.pc_proto.specs.declared.answer.Answer.TheVariants as answers
use Rattle.pc_proto.specs.declared.reply.Origin.{Origin}
use Rattle.pc_proto.specs.declared.why.Why.TheVariants as whys
use Rattle.pc_proto.specs.Stamps.{why_stamps}
use Rattle.pc_reads.specs.ReadsStanding.{TxnReadsStand}
use Rattle.pc_txn.proofs.Restarts.{stands_told, told_open}
use Rattle.pc_txn.specs.declared.txn.OpenTxn.{OpenTxn}
use Rattle.pc_txn.specs.Standing.{HasMovedOn, TxnStands}
use Rattle.pc_follows.specs.FinishingJobs.{left_by}
use Rattle.pc_world.specs.Known.{Known, told_first, txns_told}
use Rattle.pc_world.specs.Known.Clock.{high_told}
use Rattle.pc_world.specs.Known.Reads.{Read, reads_told}
use Rattle.pc_world.specs.Known.Statements.{Statement, begun_told, is_open_told}
use Rattle.pc_world.specs.Known.Traffic.{Heard, replies_to}
use Rattle.pc_world.specs.Known.Transactions.{Txn, txn_told}
use Rattle.pc_world.specs.MayTell.{MayTell, MayTellRow, is_past_range, needs_txn}

pub match_false : (b : Bool) (P Q : Type 0) → b ≡ false → Q → MatchBool b P Q
match_false b P Q e q = subst (λ b. MatchBool b P Q) (sym e) q

kept_open : (needs is_open : Bool) → is_open ≡ true → (needs && not is_open) ≡ false
kept_open true is_open e = ap not e
kept_open false is_open e = refl

-- where a transaction is open, a call may be told what its row allows
pub may_tell : (set : Setting) (session : ℕ) (k : Known) (s : Statement) (answer : Answer) → k.statement ≡ Some s → k.is_open ≡ true → is_past_range s ≡ false → MayTellRow set.splits (actors.Session session) k s answer
    → MayTell set.splits (actors.Session session) k answer
may_tell set session k s answer opened is_open within row = record {
  s = s;
  opened = opened;
  told = match_false (needs_txn s.call && not k.is_open) _ _ (kept_open (needs_txn s.call) k.is_open is_open) (match_false (is_past_range s) _ _ within row);
}

-- the open transaction stays first, and is told the answer
pub still_open : (k : Known) (answer : Answer) (t : Txn) (others : List Txn) → k.is_open ≡ true → k.txns ≡ t ∷ others
    → cond k.is_open (told_first answer (replies_to k.sent_now k.heard_now) k.txns) k.txns ≡ txn_told answer (replies_to k.sent_now k.heard_now) t ∷ others
still_open k answer t others opened first =
    ap (λ b. cond b (told_first answer (replies_to k.sent_now k.heard_now) k.txns) k.txns) opened
    ∙ ap (told_first answer (replies_to k.sent_now k.heard_now)) first

-- The answer leaves the transaction open, and at most adds to what it has read.
pub record IsKept (answer : Answer) : Type 0 where
  pub opens : (was : Bool) → is_open_told answer was ≡ was
  pub high : (n : ℕ) → high_told answer n ≡ n
  pub begun : (n : ℕ) → begun_told answer n ≡ n
  pub txns : (k : Known) → txns_told answer k ≡ cond k.is_open (told_first answer (replies_to k.sent_now k.heard_now) k.txns) k.txns
  pub txn : (replied : List Heard) (t : Txn) → txn_told answer replied t ≡ told_open (reads_told answer replied t.reads) t.committed t
  pub left : (k : Known) → left_by answer k ≡ []

pub value_keeps : (value : _) → IsKept (answers.Value value)
value_keeps value = record { opens = λ was. refl; high = λ n. refl; begun = λ n. refl; txns = λ k. refl; txn = λ replied t. refl; left = λ k. refl }

pub rows_keep : (rows : List (List ℕ × Origin × List ℕ)) → IsKept (answers.Rows rows)
rows_keep rows = record { opens = λ was. refl; high = λ n. refl; begun = λ n. refl; txns = λ k. refl; txn = λ replied t. refl; left = λ k. refl }

pub written_keeps : IsKept answers.Written
written_keeps = record { opens = λ was. refl; high = λ n. refl; begun = λ n. refl; txns = λ k. refl; txn = λ replied t. refl; left = λ k. refl }

pub blocked_keeps : (holder : TxnId) → IsKept (answers.Blocked holder)
blocked_keeps holder = record { opens = λ was. refl; high = λ n. refl; begun = λ n. refl; txns = λ k. refl; txn = λ replied t. refl; left = λ k. refl }

pub unavailable_keeps : (faults : ℕ) → IsKept (answers.Unavailable faults)
unavailable_keeps faults = record { opens = λ was. refl; high = λ n. refl; begun = λ n. refl; txns = λ k. refl; txn = λ replied t. refl; left = λ k. refl }

pub moved_keeps : (ts : ℕ) → IsKept (answers.Moved ts)
moved_keeps ts = record { opens = λ was. refl; high = λ n. refl; begun = λ n. refl; txns = λ k. refl; txn = λ replied t. refl; left = λ k. refl }

module _ (k : Known) (t : Txn) (x : OpenTxn) (open_in : IsOpenIn k t) (st : TxnStands k [] None t x) (client : x.cause ≡ whys.Client) (answer : Answer) (keeps : IsKept answer) where
  abbrev told_reads : List Read
  told_reads = reads_told answer (replies_to k.sent_now k.heard_now) t.reads

  abbrev t4 : Txn
  t4 = told_open told_reads t.committed t

  abbrev k4 : Known
  k4 = known_told answer k

  open4 : IsOpenIn k4 t4
  open4 = record {
    others = open_in.others;
    is_open = keeps.opens k.is_open ∙ open_in.is_open;
    first = keeps.txns k ∙ still_open k answer t open_in.others open_in.is_open open_in.first ∙ ap (λ t. t ∷ open_in.others) (keeps.txn (replies_to k.sent_now k.heard_now) t);
  }

  gone4 : HasMovedOn k k4 [] []
  gone4 = record { sent = sym (append-nil k.sent); heard = sym (append-nil k.heard); begun = omega (arith, keeps.begun k.begun); high = omega (arith, keeps.high k.high) }

  -- where the spans of what was read are kept, the transaction stands on
  pub stays_open : (spans : List Span) → TxnReadsStand t.id k.heard told_reads (record { spans = spans; ts = x.reads.ts }) → StandsOpen k4 (record x { reads = record { spans = spans; ts = x.reads.ts } })
  stays_open spans good = record {
    t = t4;
    open_in = open4;
    stands = stands_told k k4 [] None t x told_reads spans t.committed st gone4 good;
    cause = client;
    low = subst (λ c. All (λ ts. ts ≤ k4.top + 1) (why_stamps c)) (sym client) (All-nil (λ ts. ts ≤ k4.top + 1));
  }

  -- where nothing more was read, it stands as it is
  pub stays_as_is : told_reads ≡ t.reads → StandsOpen k4 x
  stays_as_is same = stays_open x.reads.spans (subst (λ rs. TxnReadsStand t.id k.heard rs x.reads) (sym same) st.reads)
