-- An open call is told its answer, and its transaction is over.
use Rattle.std.specs.Prelude.{◌≡◌, ℕ, ◌+◌, ◌≤◌, ◌⊎◌, false, Option, None, Some, IfSome, List, [], ◌∷◌, ◌++◌, All}
use Rattle.pc_call.specs.Behind.{left_behind}
use Rattle.pc_call.specs.Setting.{Setting}
use Rattle.pc_call.specs.declared.over.Left.{Left}
use Rattle.pc_call.specs.declared.over.Over.{Over}
use Rattle.pc_call.specs.Learned.{known_told}
use Rattle.pc_call.specs.Telling.{MayBeTold}
use Rattle.pc_proto.specs.declared.answer.Answer.TheVariants as answers
use Rattle.pc_proto.specs.declared.fate.Fate.{Fate}
use Rattle.pc_proto.specs.declared.fate.Fate.TheVariants as fates
use Rattle.pc_proto.specs.declared.meta.TxnMeta.{TxnMeta}
use Rattle.pc_proto.specs.declared.request.Request.{Request}
use Rattle.pc_proto.specs.declared.request.Request.TheVariants as requests
use Rattle.pc_proto.specs.declared.view.View.{View}
use Rattle.pc_proto.specs.declared.view.View.TheVariants as views
use Rattle.pc_proto.specs.declared.why.Why.{Why}
use Rattle.pc_proto.specs.Stamps.{fate_stamps}
use Rattle.pc_txn.specs.declared.txn.OpenTxn.{OpenTxn}
use Rattle.pc_follows.specs.FinishingJobs.{finishing_messages, left_by}
use Rattle.pc_world.specs.Known.{Known}
use Rattle.pc_world.specs.Known.Transactions.{Txn}
use Rattle.pc_world.specs.Send.Commit.{MayDecide, MaySendCommit}
use Rattle.pc_world.specs.Send.Settling.{MayFinish, MaySendResolve}
use Rattle.pc_world.specs.Views.{anchor_heard}

-- What is left of a transaction of this anchor that ends with this fate, which its record says by itself; one that wrote nothing leaves nothing.
abbrev pub left_at : Option (List ℕ) → Fate → OpenTxn → Option Left
left_at anchor fate x = left_behind anchor None fate x

-- The commit that goes first, where a timestamp is given at which the record is to be committed.
abbrev pub commit_first : Option ℕ → TxnMeta → List (List ℕ) → List Request
commit_first None meta locks = []
commit_first (Some ts) meta locks = requests.Commit meta ts locks ∷ []

-- The messages that settle what is left.
abbrev pub left_messages : Option Left → List Request
left_messages None = []
left_messages (Some l) = commit_first l.staged l.meta l.locks ++ finishing_messages l.meta.id l.fate l.meta.anchor l.locks

-- The transaction decided itself to commit at this timestamp, in its epoch, and that is its fate; or a reply showed its record with this fate.
abbrev pub KnowsFate : Known → Txn → ℕ → ℕ → Fate → Type 0
KnowsFate k t epoch ts fate = ((epoch ≡ t.epoch) × MayDecide k t ts) ⊎ MaySendResolve k t.id fate

-- Its record may be committed first, at this timestamp, which is that of its fate, as the session knows it; and whichever anchor was heard of it is its own.
pub record MayBeCommittedFirst (k : Known) (ts : ℕ) (l : Left) : Type 0 where
  pub commit : MaySendCommit k (record { meta = l.meta; ts = ts; locks = l.locks })
  pub epoch : ℕ
  pub fate : l.fate ≡ fates.Committed epoch ts
  pub known : KnowsFate k commit.t epoch ts l.fate
  pub stamps : All (λ ts. ts ≤ k.top + 1) (fate_stamps l.fate)
  pub named : IfSome (anchor_heard l.meta.id k.heard) (λ anchor. anchor ≡ l.meta.anchor)

abbrev pub MayBeSettledAfter : Option ℕ → Known → Left → Type 0
MayBeSettledAfter None k l = MayFinish k l.meta.id l.meta.anchor l.fate l.locks
MayBeSettledAfter (Some ts) k l = MayBeCommittedFirst k ts l

-- The session may settle it; or, where its record is to be committed first, do that.
abbrev pub MayBeSettled : Known → Left → Type 0
MayBeSettled k l = MayBeSettledAfter l.staged k l

-- The open call may be told the answer, which leaves just this to be done; and once it is, no transaction is open, and what is left may be done.
pub record MayTellOver (set : Setting) (session : ℕ) (k : Known) (over : Over) : Type 0 where
  pub may : MayBeTold set session k over.answer
  pub left : left_messages over.left ≡ left_by over.answer k
  pub closed : (known_told over.answer k).is_open ≡ false
  pub settles : IfSome over.left (MayBeSettled (known_told over.answer k))

-- How a transaction ends whose rollback aborts it for this cause, where its abort was told this view: an aborted record's own cause is told.
abbrev pub ends_rolled_back : View → Why → OpenTxn → Over
ends_rolled_back (views.Committed epoch ts locks) why x = record { answer = answers.RolledBack x.id why; left = left_at x.anchor (fates.Committed epoch ts) x }
ends_rolled_back (views.Aborted epoch cause locks) why x = record { answer = answers.RolledBack x.id cause; left = left_at x.anchor fates.Aborted x }
ends_rolled_back view why x = record { answer = answers.RolledBack x.id why; left = None }
