-- A job that begins by a commit may begin so still, where nothing is sent or heard of its transaction.
use Rattle.std.proofs.Common.{◌≡◌, ◌≢◌, ℕ, ◌+◌, ◌≤◌, max, Bool, true, false, cond, if◌then◌else◌, is_some, Any, ◌&&◌, ◌==◌, ◌⊎◌, inl, inr, All, IfSome, IsTrue, Contains, List, [], ◌∷◌, ◌++◌, find, Some, refl, sym, ap, subst, ◌∙◌, arith}
use Rattle.std.proofs.lemmas.Bool.{and_left}
use Rattle.std.proofs.lemmas.List.Elements.{All-append, All-head, All-tail, All-weaker, Contains-append_left}
use Rattle.std.specs.Option.{option_and_then, option_or}
use Rattle.pc_base.specs.declared.span.Span.{Span}
use Rattle.pc_base.specs.declared.transaction.TxnId.{TxnId}
use Rattle.pc_call.specs.Finished.{KnowsFate, MayBeCommittedFirst}
use Rattle.pc_coord.specs.declared.job.Job.{Job}
use Rattle.pc_coord.specs.Knows.{left_for}
use Rattle.pc_coord.specs.OwnMessages.{LeavesAlone}
use Rattle.pc_lists.proofs.Anywhere.{any_kept}
use Rattle.pc_lists.proofs.Lists.{contains_cons, contains_nil, contains_tail}
use Rattle.pc_proto.specs.declared.answer.Answer.{Answer}
use Rattle.pc_proto.specs.declared.answer.Answer.TheVariants as answers
use Rattle.pc_proto.specs.declared.meta.TxnMeta.{TxnMeta}
use Rattle.pc_proto.specs.declared.reply.Reply.{Reply}
use Rattle.pc_proto.specs.declared.request.Request.{Request}
use Rattle.pc_proto.specs.declared.request.Request.TheVariants as requests
use Rattle.pc_proto.specs.Replies.{status_ts, view_in, written_ts}
use Rattle.pc_proto.specs.Requests.{is_about, subject_anchor}
use Rattle.pc_proto.specs.Stamps.{fate_stamps}
use Rattle.pc_txn.proofs.Late.{late_more}
use Rattle.pc_world.specs.Known.{Known, first_if, open_txn, told_first, txn_begun, txns_told}
use Rattle.pc_world.specs.Known.Reads.{AtOnce, Further, IsGoodAt, IsGoodTo, Read, WasRefreshed}
use Rattle.pc_world.specs.Known.Traffic.{Heard, Sent, replies_to}
use Rattle.pc_world.specs.Known.Transactions.{Txn, has_staged, missing_ts, txn_heard, txn_sent, txn_told, with_lock}
use Rattle.pc_world.specs.Known.Writes.{with_put, with_put_reply, with_query_reply}
use Rattle.pc_world.specs.Send.Commit.{MayCommit, MayDecide}
use Rattle.pc_world.specs.Send.Settling.{ShowsFate}
use Rattle.pc_world.specs.StageFate.{IsLate, OnCommit, OnStage, Refuses, SentCommit, SentStage, WasCommitRefused}
use Rattle.pc_world.specs.Views.{WasCommitted, anchor_heard, shows_committed, shows_view}

-- ---- what is known stays known

module _ (id : TxnId) (heard more : List Heard) where
  refreshed_on : (span : Span) (from to : ℕ) → WasRefreshed id heard span from to → WasRefreshed id (heard ++ more) span from to
  refreshed_on span from to r = record { reply = r.reply; listed = Contains-append_left heard more r.reply r.listed; asked = r.asked; told = r.told }

  good_on : (span : Span) (ts good : ℕ) → IsGoodTo id heard span ts good → IsGoodTo id (heard ++ more) span ts good
  good_on span ts good AtOnce = AtOnce
  good_on span ts good (Further at wider from to g r holds low) = Further at wider from to (good_on span ts at g) (refreshed_on wider from to r) holds low

  good_at_on : (ts : ℕ) (r : Read) → IsGoodAt id heard ts r → IsGoodAt id (heard ++ more) ts r
  good_at_on ts r g = record { not_below = g.not_below; up_to = (g.up_to.0, good_on r.span r.ts g.up_to.0 g.up_to.1, g.up_to.2) }

stage_weaker : (id : TxnId) (P Q : SentStage → Type 0) → ((s : SentStage) → P s → Q s) → (r : Request) → OnStage id P r → OnStage id Q r
stage_weaker id P Q gives (requests.Stage meta ts now writes locks) on = λ same. gives (record { meta = meta; ts = ts; now = now; writes = writes; locks = locks }) (on same)
stage_weaker id P Q gives r on = tt

commit_weaker : (id : TxnId) (P Q : SentCommit → Type 0) → ((s : SentCommit) → P s → Q s) → (r : Request) → OnCommit id P r → OnCommit id Q r
commit_weaker id P Q gives (requests.Commit meta ts locks) on = λ same. gives (record { meta = meta; ts = ts; locks = locks }) (on same)
commit_weaker id P Q gives r on = tt

no_stage_of : (id : TxnId) (P : SentStage → Type 0) (r : Request) → is_about id r ≡ false → OnStage id P r
no_stage_of id P (requests.Stage meta ts now writes locks) other = λ same. absurd (let both : false ≡ true = sym other ∙ same in cc both)
no_stage_of id P r other = tt

no_commit_of : (id : TxnId) (P : SentCommit → Type 0) (r : Request) → is_about id r ≡ false → OnCommit id P r
no_commit_of id P (requests.Commit meta ts locks) other = λ same. absurd (let both : false ≡ true = sym other ∙ same in cc both)
no_commit_of id P r other = tt

find_still : {X : Type 0} (test : X → Bool) (xs ys : List X) → All (λ y. test y ≡ false) ys → find test (xs ++ ys) ≡ find test xs
find_still test (x ∷ xs) ys none = ap (cond (test x) (Some x)) (find_still test xs ys none)
find_still test [] [] none = refl
find_still test [] (y ∷ ys) none = ap (λ b. cond b (Some y) (find test ys)) (All-head (λ z. test z ≡ false) y ys none) ∙ find_still test [] ys (All-tail (λ z. test z ≡ false) y ys none)

-- which anchor was heard of it
anchor_still : (id : TxnId) (heard more : List Heard) → All (λ h. is_about id h.request ≡ false) more → anchor_heard id (heard ++ more) ≡ anchor_heard id heard
anchor_still id heard more other =
    ap (option_and_then (λ (h : Heard). subject_anchor h.request))
    (find_still (shows_view id) heard more (All-weaker (λ (h : Heard). is_about id h.request ≡ false) (λ h. shows_view id h ≡ false) (λ h is. and_left (is_about id h.request) (is_some (view_in h.reply)) is) more other))

-- ---- the commit of a job

-- The session knows more: these messages and replies, none of which speaks of the transaction, which is as it was.
pub record KnowsMoreBeside (k now : Known) (t : Txn) : Type 0 where
  pub sent_more : List Sent
  pub sent : now.sent ≡ k.sent ++ sent_more
  pub unsent : All (λ m. is_about t.id m.request ≡ false) sent_more
  pub heard_more : List Heard
  pub heard : now.heard ≡ k.heard ++ heard_more
  pub unheard : All (λ h. is_about t.id h.request ≡ false) heard_more
  pub top : k.top ≤ now.top
  pub there : Contains now.txns t

module _ (k now : Known) (job : Job) (ts : ℕ) (other : (t : Txn) → open_txn k ≡ Some t → job.meta.id ≡ t.id → ⊥) (may : MayBeCommittedFirst k ts (left_for job)) (m : KnowsMoreBeside k now may.commit.t) where
  abbrev t : Txn
  t = may.commit.t

  abbrev then_heard : List Heard
  then_heard = k.heard ++ m.heard_more

  its_id : job.meta.id ≡ t.id
  its_id = ap (λ (meta : TxnMeta). meta.id) may.commit.whose.same

  told_so : MayCommit k t ts → MayCommit now t ts
  told_so (inl (opened, call)) = absurd (other t opened its_id)
  told_so (inr committed) = inr committed

  decides_then : MayDecide k t ts → MayDecide now t ts
  decides_then d = record {
    may = told_so d.may;
    at_write_ts = d.at_write_ts;
    good = record {
      begun = d.good.begun;
      reads = subst (λ hs. All (IsGoodAt t.id hs ts) t.reads) (sym m.heard) (All-weaker (IsGoodAt t.id k.heard ts) (IsGoodAt t.id then_heard ts) (good_at_on t.id k.heard m.heard_more ts) t.reads d.good.reads);
    };
    proved = d.proved;
    stages = subst (λ sent. All (λ (x : Sent). OnStage t.id (λ s. s.ts ≢ ts → IsLate now.heard s) x.request) sent) (sym m.sent)
        (All-append (λ (x : Sent). OnStage t.id (λ s. s.ts ≢ ts → IsLate now.heard s) x.request) k.sent m.sent_more
        (All-weaker (λ (x : Sent). OnStage t.id (λ s. s.ts ≢ ts → IsLate k.heard s) x.request) (λ x. OnStage t.id (λ s. s.ts ≢ ts → IsLate now.heard s) x.request)
        (λ x. stage_weaker t.id (λ s. s.ts ≢ ts → IsLate k.heard s) (λ s. s.ts ≢ ts → IsLate now.heard s) (λ s late differ. subst (λ hs. IsLate hs s) (sym m.heard) (late_more k.heard m.heard_more s (late differ))) x.request) k.sent d.stages)
        (All-weaker (λ (x : Sent). is_about t.id x.request ≡ false) (λ x. OnStage t.id (λ s. s.ts ≢ ts → IsLate now.heard s) x.request) (λ x. no_stage_of t.id (λ s. s.ts ≢ ts → IsLate now.heard s) x.request) m.sent_more m.unsent));
    commits = subst (λ sent. All (λ (x : Sent). OnCommit t.id (λ c. c.ts ≢ ts → WasCommitRefused now.heard c) x.request) sent) (sym m.sent)
        (All-append (λ (x : Sent). OnCommit t.id (λ c. c.ts ≢ ts → WasCommitRefused now.heard c) x.request) k.sent m.sent_more
        (All-weaker (λ (x : Sent). OnCommit t.id (λ c. c.ts ≢ ts → WasCommitRefused k.heard c) x.request) (λ x. OnCommit t.id (λ c. c.ts ≢ ts → WasCommitRefused now.heard c) x.request)
        (λ x. commit_weaker t.id (λ c. c.ts ≢ ts → WasCommitRefused k.heard c) (λ c. c.ts ≢ ts → WasCommitRefused now.heard c) (λ c refused differ. subst (λ hs. WasCommitRefused hs c) (sym m.heard) (any_kept (Refuses c) k.heard m.heard_more (refused differ))) x.request) k.sent d.commits)
        (All-weaker (λ (x : Sent). is_about t.id x.request ≡ false) (λ x. OnCommit t.id (λ c. c.ts ≢ ts → WasCommitRefused now.heard c) x.request) (λ x. no_commit_of t.id (λ c. c.ts ≢ ts → WasCommitRefused now.heard c) x.request) m.sent_more m.unsent));
  }

  committed_then : WasCommitted k.heard t.id ts → WasCommitted now.heard t.id ts
  committed_then was = subst (λ hs. WasCommitted hs t.id ts) (sym m.heard) (any_kept (λ h. IsTrue (shows_committed t.id ts h)) k.heard m.heard_more was)

  fate_then : KnowsFate k t may.epoch ts job.fate → KnowsFate now t may.epoch ts job.fate
  fate_then (inl (own, d)) = inl (own, decides_then d)
  fate_then (inr shown) = inr (subst (λ hs. Any (ShowsFate t.id job.fate) hs) (sym m.heard) (any_kept (ShowsFate t.id job.fate) k.heard m.heard_more shown))

  decided_then : MayDecide k t ts ⊎ WasCommitted k.heard t.id ts → MayDecide now t ts ⊎ WasCommitted now.heard t.id ts
  decided_then (inl d) = inl (decides_then d)
  decided_then (inr was) = inr (committed_then was)

  pub first_kept : MayBeCommittedFirst now ts (left_for job)
  first_kept = record {
    commit = record { t = t; mine = m.there; whose = may.commit.whose; all_locks = may.commit.all_locks; decided = decided_then may.commit.decided };
    epoch = may.epoch;
    fate = may.fate;
    known = fate_then may.known;
    stamps = All-weaker (λ ts. ts ≤ k.top + 1) (λ ts. ts ≤ now.top + 1) (λ ts low. let up = m.top in omega (arith, up, low)) (fate_stamps job.fate) may.stamps;
    named = subst (λ o. IfSome o (λ anchor. anchor ≡ job.meta.anchor))
        (sym (ap (anchor_heard job.meta.id) m.heard ∙ anchor_still job.meta.id k.heard m.heard_more (subst (λ id. All (λ (h : Heard). is_about id h.request ≡ false) m.heard_more) (sym its_id) m.unheard))) may.named;
  }

-- ---- what leaves a transaction as it is

max_zero : (n : ℕ) → max n 0 ≡ n
max_zero n = omega arith

-- a message that says nothing of it
pub sent_alone : (request : Request) (t : Txn) → LeavesAlone t.id request → txn_sent request t ≡ t
sent_alone (requests.Put meta seq ts key value) t alone =
    let F : Bool → Txn = λ b. record t {
      anchor = if b then option_or t.anchor (Some key) else t.anchor;
      locks = if b then with_lock key t.locks else t.locks;
      writes = if b && meta.epoch == t.epoch then with_put seq ts key value t.writes else t.writes;
    } in
    ap F alone.put
sent_alone (requests.Stage meta ts now writes locks) t alone = ap (λ b. record t { read_ts = if b then max t.read_ts ts else t.read_ts }) alone.about
sent_alone (requests.Commit meta ts locks) t alone = ap (λ b. record t { read_ts = if b then max t.read_ts ts else t.read_ts }) alone.about
sent_alone request t alone = refl

-- and a reply to one
pub heard_alone : (request : Request) (number step : ℕ) (reply : Reply) (sent : List Sent) (t : Txn) → LeavesAlone t.id request → txn_heard sent (Some (record { number = number; request = request; reply = reply; step = step })) t ≡ t
heard_alone (requests.Put meta seq ts key value) number step reply sent t alone =
    let F : Bool → Txn = λ b. record t {
      write_ts = max t.write_ts (if b then written_ts reply else 0);
      writes = if b && meta.epoch == t.epoch then with_put_reply key seq reply t.writes else t.writes;
    } in
    ap F alone.put ∙ ap (λ n. record t { write_ts = n }) (max_zero t.write_ts)
heard_alone (requests.Query id epoch seq ts key by) number step reply sent t alone =
    let F : Bool → Txn = λ b. record t {
      write_ts = max t.write_ts (if b then missing_ts (has_staged sent t.id epoch ts key seq) ts reply else 0);
      writes = if b && epoch == t.epoch then with_query_reply key seq ts reply t.writes else t.writes;
    } in
    ap F alone.query ∙ ap (λ n. record t { write_ts = n }) (max_zero t.write_ts)
heard_alone (requests.Beat meta ts now) number step reply sent t alone =
    ap (λ b. record t { write_ts = max t.write_ts (if b then status_ts reply else 0) }) alone.about ∙ ap (λ n. record t { write_ts = n }) (max_zero t.write_ts)
heard_alone (requests.Stage meta ts now writes locks) number step reply sent t alone =
    ap (λ b. record t { write_ts = max t.write_ts (if b then status_ts reply else 0) }) alone.about ∙ ap (λ n. record t { write_ts = n }) (max_zero t.write_ts)
heard_alone (requests.Commit meta ts locks) number step reply sent t alone =
    ap (λ b. record t { write_ts = max t.write_ts (if b then status_ts reply else 0) }) alone.about ∙ ap (λ n. record t { write_ts = n }) (max_zero t.write_ts)
heard_alone request number step reply sent t alone = ap (λ n. record t { write_ts = n }) (max_zero t.write_ts)

-- an answer changes the open one alone
told_first_keeps : (answer : Answer) (replied : List Heard) (b : Bool) (txns : List Txn) (t : Txn) → Contains txns t → ((u : Txn) → first_if b txns ≡ Some u → t ≡ u → ⊥) → Contains (cond b (told_first answer replied txns) txns) t
told_first_keeps answer replied true [] t there other = absurd (contains_nil t there)
told_first_keeps answer replied true (x ∷ xs) t there other = elim (contains_cons x xs t there) [
  | inl same ↦ absurd (other x refl (sym same))
  | inr later ↦ contains_tail (txn_told answer replied x) xs t later
]
told_first_keeps answer replied false txns t there other = there

pub told_keeps : (answer : Answer) (k : Known) (t : Txn) → Contains k.txns t → ((u : Txn) → open_txn k ≡ Some u → t ≡ u → ⊥) → Contains (txns_told answer k) t
told_keeps (answers.Begun id ts) k t there other = contains_tail (txn_begun k.statement id ts) k.txns t there
told_keeps answer k t there other = told_first_keeps answer (replies_to k.sent_now k.heard_now) k.is_open k.txns t there other
