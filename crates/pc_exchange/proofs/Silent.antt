-- What the messages of a round say of transactions: they commit none, and ask for writes of the round's holder alone.
use Rattle.std.proofs.Common.{◌≡◌, true, false, refl, sym, ap, ◌∙◌}
use Rattle.pc_base.specs.declared.transaction.TxnId.{TxnId}
use Rattle.pc_call.specs.Paced.{IsBehindPushOf}
use Rattle.pc_exchange.proofs.Going.{not_same}
use Rattle.pc_proto.specs.declared.request.Request.{Request}
use Rattle.pc_proto.specs.declared.request.Request.TheVariants as requests
use Rattle.pc_proto.specs.Requests.{Recovers, is_about, is_commit}
use Rattle.pc_push.specs.declared.progress.Progress.{Progress}
use Rattle.pc_push.specs.declared.progress.Progress.TheVariants as progresses
use Rattle.pc_push.specs.PushKnows.{AsksAt}
use Rattle.pc_push.specs.Pushing.{Pushing}
use Rattle.pc_txn.specs.Standing.{is_query_of}
use Rattle.pc_wave.specs.Standing.{goes_beside}

-- a message of a round commits nothing
pub beside_commits_none : (request : Request) → goes_beside request ≡ true → (id : TxnId) → is_commit request ≡ true → is_about id request ≡ false
beside_commits_none (requests.Commit meta ts locks) is id commits = absurd cc
beside_commits_none request is id commits = absurd cc

-- one behind a push asks for writes of the holder alone
pub behind_unqueried : (holder : TxnId) (request : Request) → IsBehindPushOf holder request → (id : TxnId) → (id ≡ holder → ⊥) → is_query_of id request ≡ false
behind_unqueried holder (requests.Query other epoch seq ts key by) of id differ =
    let is : other ≡ holder = let both = of.about in cc both in
    not_same other id (λ same. differ (sym same ∙ is))
behind_unqueried holder request of id differ = refl

-- a recovery asks for none
pub recovery_unqueried : (holder : TxnId) (request : Request) → Recovers holder request → (id : TxnId) → is_query_of id request ≡ false
recovery_unqueried holder (requests.Recover other epoch ts anchor finding) of id = refl
recovery_unqueried holder request of id = absurd of

recovery_commits_none : (holder : TxnId) (request : Request) → Recovers holder request → (id : TxnId) → is_commit request ≡ true → is_about id request ≡ false
recovery_commits_none holder (requests.Recover other epoch ts anchor finding) of id commits = absurd cc
recovery_commits_none holder request of id commits = absurd of

-- nor does what a round asks for behind no query
pub asks_unqueried : (p : Progress) (m : Pushing) (request : Request) → AsksAt p m request → (id : TxnId) → is_query_of id request ≡ false
asks_unqueried progresses.Push m request asks id = ap (is_query_of id) asks
asks_unqueried progresses.Refused m request asks id = absurd asks
asks_unqueried (progresses.Unsure view) m request asks id = recovery_unqueried m.holder.id request asks id
asks_unqueried (progresses.Resolve fate) m request asks id = ap (is_query_of id) asks
asks_unqueried progresses.Over m request asks id = absurd asks

pub asks_commits_none : (p : Progress) (m : Pushing) (request : Request) → AsksAt p m request → (id : TxnId) → is_commit request ≡ true → is_about id request ≡ false
asks_commits_none progresses.Push m request asks id commits = absurd (let both = sym (ap is_commit asks) ∙ commits in cc both)
asks_commits_none progresses.Refused m request asks id commits = absurd asks
asks_commits_none (progresses.Unsure view) m request asks id commits = recovery_commits_none m.holder.id request asks id commits
asks_commits_none (progresses.Resolve fate) m request asks id commits = absurd (let both = sym (ap is_commit asks) ∙ commits in cc both)
asks_commits_none progresses.Over m request asks id commits = absurd asks
