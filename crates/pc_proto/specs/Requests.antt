-- Kinds of requests, and what each names.
use Rattle.std.specs.Prelude.{◌≡◌, ℕ, Bool, true, false, ◌&&◌, ◌==◌, Option, None, Some, List}
use Rattle.std.specs.Option.{option_map_or}
use Rattle.pc_base.specs.declared.transaction.TxnId.{TxnId}
use Rattle.pc_base.specs.Transaction.{same_txn}
use Rattle.pc_proto.specs.declared.fate.Goal.{Goal}
use Rattle.pc_proto.specs.declared.request.Request.{Request}
use Rattle.pc_proto.specs.declared.request.Request.TheVariants as requests

-- The request is a get.
abbrev pub is_get : Request → Bool
is_get (requests.Get id epoch seq ts key) = true
is_get _ = false

-- The request is a scan.
abbrev pub is_scan : Request → Bool
is_scan (requests.Scan id epoch seq ts span) = true
is_scan _ = false

-- The request is a put.
abbrev pub is_put : Request → Bool
is_put (requests.Put meta seq ts key value) = true
is_put _ = false

-- The request stages.
abbrev pub is_stage : Request → Bool
is_stage (requests.Stage meta ts now writes locks) = true
is_stage _ = false

-- The request stages or commits.
abbrev pub is_stage_or_commit : Request → Bool
is_stage_or_commit (requests.Stage meta ts now writes locks) = true
is_stage_or_commit (requests.Commit meta ts locks) = true
is_stage_or_commit _ = false

-- The request is a commit.
abbrev pub is_commit : Request → Bool
is_commit (requests.Commit meta ts locks) = true
is_commit _ = false

-- The request is a refresh.
abbrev pub is_refresh : Request → Bool
is_refresh (requests.Refresh id from to span) = true
is_refresh _ = false

-- The request is an abort.
abbrev pub is_abort : Request → Bool
is_abort (requests.Abort meta why locks) = true
is_abort _ = false

-- The request is a put of this key.
abbrev pub IsPutOn : List ℕ → Request → Type 0
IsPutOn key (requests.Put meta seq ts own value) = own ≡ key
IsPutOn key _ = ⊥

-- The request puts a write of this transaction.
abbrev pub is_put_by : TxnId → Request → Bool
is_put_by id (requests.Put meta seq ts key value) = same_txn meta.id id
is_put_by id _ = false

-- The request is a put of this write.
abbrev pub is_put_of : TxnId → ℕ → ℕ → Request → Bool
is_put_of id epoch seq (requests.Put meta at_seq ts key value) =
    same_txn meta.id id && (meta.epoch == epoch && at_seq == seq)
is_put_of id epoch seq _ = false

-- The request pushes this transaction.
abbrev pub is_push_of : TxnId → Request → Bool
is_push_of id (requests.Push holder by level now goal) = same_txn holder.id id
is_push_of id _ = false

-- The request aborts the transaction.
abbrev pub is_abort_of : TxnId → Request → Bool
is_abort_of id (requests.Abort meta why locks) = same_txn meta.id id
is_abort_of id _ = false

-- The request resolves an intent of this transaction.
abbrev pub is_resolve_of : TxnId → Request → Bool
is_resolve_of id (requests.Resolve other key fate) = same_txn other id
is_resolve_of id _ = false

-- The request is a commit of the transaction.
abbrev pub Commits : TxnId → Request → Type 0
Commits id (requests.Commit meta ts locks) = meta.id ≡ id
Commits id _ = ⊥

-- The request recovers the transaction.
abbrev pub Recovers : TxnId → Request → Type 0
Recovers id (requests.Recover other epoch ts anchor finding) = other ≡ id
Recovers id _ = ⊥

-- The goal of a push.
abbrev pub goal_in : Request → Option Goal
goal_in (requests.Push holder by level now goal) = Some goal
goal_in _ = None

-- The transaction that a message of a conflict's round is about, if the request is one.
abbrev pub round_of : Request → Option TxnId
round_of (requests.Push holder by level now goal) = Some holder.id
round_of (requests.Query id epoch seq ts key by) = Some id
round_of (requests.Recover id epoch ts anchor finding) = Some id
round_of (requests.Resolve id key fate) = Some id
round_of _ = None

-- The transaction whose record a request speaks of.
abbrev pub subject : Request → Option TxnId
subject (requests.Beat meta ts now) = Some meta.id
subject (requests.Stage meta ts now writes locks) = Some meta.id
subject (requests.Commit meta ts locks) = Some meta.id
subject (requests.Abort meta why locks) = Some meta.id
subject (requests.Push holder by level now goal) = Some holder.id
subject (requests.Recover id epoch ts anchor finding) = Some id
subject (requests.Remove id anchor) = Some id
subject _ = None

-- The request speaks of the record of this transaction.
abbrev pub is_about : TxnId → Request → Bool
is_about id request = option_map_or (λ other. same_txn other id) (subject request) false

-- The anchor that a request to a record names.
abbrev pub subject_anchor : Request → Option (List ℕ)
subject_anchor (requests.Beat meta ts now) = Some meta.anchor
subject_anchor (requests.Stage meta ts now writes locks) = Some meta.anchor
subject_anchor (requests.Commit meta ts locks) = Some meta.anchor
subject_anchor (requests.Abort meta why locks) = Some meta.anchor
subject_anchor (requests.Push holder by level now goal) = Some holder.anchor
subject_anchor (requests.Recover id epoch ts anchor finding) = Some anchor
subject_anchor (requests.Remove id anchor) = Some anchor
subject_anchor _ = None
