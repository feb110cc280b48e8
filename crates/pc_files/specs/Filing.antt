-- What is filed under a transaction: the stages and commits that decide it, the replies to requests that name it, and their views.
use Rattle.std.specs.Prelude.{◌≡◌, Bool, false, if◌then◌else◌, Option, None, Some, List, [], ◌∷◌, ◌++◌, filter, is_some}
use Rattle.std.specs.BTreeMap.{get}
use Rattle.std.specs.Option.{option_map_or}
use Rattle.pc_base.specs.declared.transaction.TxnId.{TxnId}
use Rattle.pc_base.specs.Transaction.{same_txn, txn_cmp}
use Rattle.pc_files.specs.declared.filed.Filed.{Filed}
use Rattle.pc_files.specs.declared.files.Files.{Files}
use Rattle.pc_files.specs.FirstPuts.{AreFirstPuts}
use Rattle.pc_files.specs.RefreshedSpans.{AreRefreshedSpans}
use Rattle.pc_files.specs.SettledKeys.{AreSettledKeys}
use Rattle.pc_files.specs.Uncommitted.{AreUncommitted}
use Rattle.pc_proto.specs.declared.request.Request.{Request}
use Rattle.pc_proto.specs.declared.request.Request.TheVariants as requests
use Rattle.pc_proto.specs.Replies.{view_in}
use Rattle.pc_world.specs.Known.{Known}
use Rattle.pc_world.specs.Known.Traffic.{Heard, Sent}

-- The transaction that a stage or commit decides, if the request is one.
abbrev pub decided_by : Request → Option TxnId
decided_by (requests.Stage meta ts now writes locks) = Some meta.id
decided_by (requests.Commit meta ts locks) = Some meta.id
decided_by _ = None

-- The transaction that the request puts a write of, if it is a put.
abbrev pub put_by : Request → Option TxnId
put_by (requests.Put meta seq ts key value) = Some meta.id
put_by _ = None

-- The transaction that the request names as the one that it is of, or about.
abbrev pub txn_named : Request → Option TxnId
txn_named (requests.Get id epoch seq ts key) = Some id
txn_named (requests.Scan id epoch seq ts span) = Some id
txn_named (requests.Put meta seq ts key value) = Some meta.id
txn_named (requests.Refresh id from to span) = Some id
txn_named (requests.Beat meta ts now) = Some meta.id
txn_named (requests.Stage meta ts now writes locks) = Some meta.id
txn_named (requests.Commit meta ts locks) = Some meta.id
txn_named (requests.Abort meta why locks) = Some meta.id
txn_named (requests.Push holder by level now goal) = Some holder.id
txn_named (requests.Query id epoch seq ts key by) = Some id
txn_named (requests.Recover id epoch ts anchor finding) = Some id
txn_named (requests.Resolve id key fate) = Some id
txn_named (requests.Remove id anchor) = Some id
txn_named requests.Records = None

-- The transaction that the request names, where the reply has a view.
abbrev pub txn_viewed : Heard → Option TxnId
txn_viewed h = if is_some (view_in h.reply) then txn_named h.request else None

-- This is the transaction.
abbrev pub is_txn : TxnId → Option TxnId → Bool
is_txn id name = option_map_or (λ other. same_txn other id) name false

-- The messages that are stages and commits of the transaction.
abbrev pub deciding_of : TxnId → List Sent → List Sent
deciding_of id sent = filter (λ m. is_txn id (decided_by m.request)) sent

-- The replies to requests that name the transaction.
abbrev pub replies_of : TxnId → List Heard → List Heard
replies_of id heard = filter (λ h. is_txn id (txn_named h.request)) heard

-- Those of them that have a view.
abbrev pub views_of : TxnId → List Heard → List Heard
views_of id heard = filter (λ h. is_txn id (txn_viewed h)) heard

-- What is filed under the transaction.
abbrev pub filed_under : {X : Type 0} → TxnId → Filed X → List X
filed_under id f = option_map_or (λ list. list.items) (get txn_cmp f.lists id) []

-- One more is filed, under this transaction.
abbrev pub FilesOneMore : {X : Type 0} → TxnId → X → Filed X → Filed X → Type 0
FilesOneMore name x before after = (id : TxnId) → filed_under id after ≡ filed_under id before ++ (if same_txn name id then x ∷ [] else [])

-- One more is filed, under the transaction of this name, if it has one.
abbrev pub FilesNext : {X : Type 0} → Option TxnId → X → Filed X → Filed X → Type 0
FilesNext name x before after = (id : TxnId) → filed_under id after ≡ filed_under id before ++ (if is_txn id name then x ∷ [] else [])

-- Under each transaction stand the stages and commits of it among these messages.
abbrev pub AreFiledSends : List Sent → Filed Sent → Type 0
AreFiledSends sent f = (id : TxnId) → filed_under id f ≡ deciding_of id sent

-- Under each transaction stand those of these replies that are to requests that name it.
abbrev pub AreFiledReplies : List Heard → Filed Heard → Type 0
AreFiledReplies heard f = (id : TxnId) → filed_under id f ≡ replies_of id heard

-- Under each transaction stand those of these replies that are to requests that name it, and have a view.
abbrev pub AreFiledViews : List Heard → Filed Heard → Type 0
AreFiledViews heard f = (id : TxnId) → filed_under id f ≡ views_of id heard

-- All stages, commits and replies of the actor are filed, and its first puts, the keys that were settled, the spans that were refreshed
-- and the transactions whose stages are known to be dead are noted.
pub record KeepsFiles (k : Known) (x : Files) : Type 0 where
  pub deciding : AreFiledSends k.sent x.deciding
  pub firsts : AreFirstPuts k.sent x.firsts
  pub replies : AreFiledReplies k.heard x.replies
  pub views : AreFiledViews k.heard x.views
  pub settled : AreSettledKeys k.heard x.settled
  pub refreshed : AreRefreshedSpans k.heard x.refreshed
  pub uncommitted : AreUncommitted k.sent k.heard x.uncommitted
