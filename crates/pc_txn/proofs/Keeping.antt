-- What leaves the open transaction as it is.
use Rattle.std.proofs.Common.{◌≡◌, ℕ, Bool, true, false, ◌&&◌, ◌==◌, ◌⊎◌, not, inl, inr, List, [], ◌∷◌, ◌++◌, Option, None, is_none, sym, ap, ◌∙◌, subst, arith, All, Any, Contains, IsTrue, Some, refl}
use Rattle.std.specs.List.{list_all}
use Rattle.std.specs.Option.{option_map_or}
use Rattle.std.proofs.lemmas.List.Elements.{All-append, All-cons, All-contains, All-nil, All-weaker}
use Rattle.pc_base.specs.declared.transaction.TxnId.{TxnId}
use Rattle.pc_base.specs.Transaction.{same_txn}
use Rattle.pc_follows.specs.Heartbeats.{is_heartbeat, last_shown}
use Rattle.pc_lists.proofs.Lists.{all_from_contains}
use Rattle.pc_proto.specs.declared.reply.Reply.{Reply}
use Rattle.pc_proto.specs.declared.reply.Reply.TheVariants as replies
use Rattle.pc_proto.specs.declared.request.Request.{Request}
use Rattle.pc_proto.specs.declared.request.Request.TheVariants as requests
use Rattle.pc_proto.specs.Replies.{view_in}
use Rattle.pc_proto.specs.Requests.{is_about, is_commit, is_put_of}
use Rattle.pc_proto.specs.Views.{is_final_view, is_staging_at}
use Rattle.pc_reads.proofs.Goods.{stand_on}
use Rattle.pc_reads.specs.ReadsStanding.{TxnReadsStand}
use Rattle.pc_staging.proofs.Going.{staging_on}
use Rattle.pc_staging.specs.declared.stage_out.StageOut.{StageOut}
use Rattle.pc_staging.specs.Kept.{Evidence, is_dead_by, is_over}
use Rattle.pc_staging.specs.Laws.{LeavesStages, SendsNothingNew}
use Rattle.pc_staging.specs.Standing.{AreEvidence, StagingStands, WasStagedAt, WasStageSent}
use Rattle.pc_txn.proofs.Above.{StaysUp, reach_on, staged_or_above}
use Rattle.pc_txn.proofs.Accounted.{accounted_up}
use Rattle.pc_txn.proofs.Found.{finds_none, found_same}
use Rattle.pc_txn.proofs.Late.{late_on, live_on, none_by}
use Rattle.pc_txn.proofs.Lists.{any_before}
use Rattle.pc_txn.proofs.Shown.{plain_silent, shown-silent}
use Rattle.pc_txn.proofs.Written.{writes_on}
use Rattle.pc_txn.specs.declared.txn.OpenTxn.{OpenTxn}
use Rattle.pc_txn.specs.Laws.{TxnStandsOn}
use Rattle.pc_txn.specs.Standing.{AreLateByWrites, AreLiveHere, AreStagedThere, HasMovedOn, StandsAbove, IsUndecidedOf, LeavesAsIs, TxnStands, is_plain, is_query_of}
use Rattle.pc_txn.specs.Writing.{IsFoundProved, IsNotWritten, PutsUpTo, WritesStand, finds}
use Rattle.pc_world.specs.Known.{Known}
use Rattle.pc_world.specs.Known.Traffic.{Heard, Sent}
use Rattle.pc_world.specs.Known.Transactions.{Txn, lists_write, txn_sent}
use Rattle.pc_world.specs.Known.Writes.{last_seq_of}
use Rattle.pc_world.specs.StageFate.{EachStage, OnCommit, OnStage, RefutesRecord, RefutesWrite, SentCommit, SentStage, is_write_refuted}
use Rattle.pc_world.specs.Tell.End.{shows_staging}

quiet_commit : (id : TxnId) (P : SentCommit → Type 0) (r : Request) → is_plain r ≡ true → OnCommit id P r
quiet_commit id P (requests.Commit meta ts locks) e = absurd cc
quiet_commit id P r e = tt

quiet_stage : (id : TxnId) (P : SentStage → Type 0) (r : Request) → is_plain r ≡ true → OnStage id P r
quiet_stage id P (requests.Stage meta ts now writes locks) e = absurd cc
quiet_stage id P r e = tt

pub quiet_put : (id : TxnId) (epoch seq : ℕ) (r : Request) → is_plain r ≡ true → IsTrue (is_put_of id epoch seq r) → ⊥
quiet_put id epoch seq (requests.Put meta at ts key value) e is = cc
quiet_put id epoch seq r e is = cc

-- the request neither writes nor decides; or it commits another transaction
abbrev pub IsAside : TxnId → Request → Type 0
IsAside id r = IsTrue (is_plain r) ⊎ ((is_commit r ≡ true) × (is_about id r ≡ false))

other_commit : (id : TxnId) (P : SentCommit → Type 0) (r : Request) → is_about id r ≡ false → OnCommit id P r
other_commit id P (requests.Commit meta ts locks) other = λ same. let is : same_txn meta.id id ≡ true = same in absurd cc
other_commit id P r other = tt

aside_commit : (id : TxnId) (P : SentCommit → Type 0) (r : Request) → IsAside id r → OnCommit id P r
aside_commit id P r (inl quiet) = quiet_commit id P r quiet
aside_commit id P r (inr is) = other_commit id P r is.1

commits_stage : (id : TxnId) (P : SentStage → Type 0) (r : Request) → is_commit r ≡ true → OnStage id P r
commits_stage id P (requests.Stage meta ts now writes locks) e = absurd cc
commits_stage id P r e = tt

aside_stage : (id : TxnId) (P : SentStage → Type 0) (r : Request) → IsAside id r → OnStage id P r
aside_stage id P r (inl quiet) = quiet_stage id P r quiet
aside_stage id P r (inr is) = commits_stage id P r is.0

commits_put : (id : TxnId) (epoch seq : ℕ) (r : Request) → is_commit r ≡ true → IsTrue (is_put_of id epoch seq r) → ⊥
commits_put id epoch seq (requests.Put meta at ts key value) e is = cc
commits_put id epoch seq r e is = cc

aside_put : (id : TxnId) (epoch seq : ℕ) (r : Request) → IsAside id r → IsTrue (is_put_of id epoch seq r) → ⊥
aside_put id epoch seq r (inl quiet) is = quiet_put id epoch seq r quiet is
aside_put id epoch seq r (inr commits) is = commits_put id epoch seq r commits.0 is

commits_silent : (r : Request) → is_commit r ≡ true → is_heartbeat r ≡ false
commits_silent (requests.Beat meta ts now) e = absurd cc
commits_silent r e = refl

aside_silent : (id : TxnId) (r : Request) → IsAside id r → is_heartbeat r ≡ false
aside_silent id r (inl quiet) = plain_silent r quiet
aside_silent id r (inr is) = commits_silent r is.0

-- what neither writes nor decides changes nothing of a transaction
pub quiet_sent : (r : Request) (t : Txn) → is_plain r ≡ true → txn_sent r t ≡ t
quiet_sent (requests.Put meta seq ts key value) t e = absurd cc
quiet_sent (requests.Stage meta ts now writes locks) t e = absurd cc
quiet_sent (requests.Commit meta ts locks) t e = absurd cc
quiet_sent r t e = refl

queried : (s : SentStage) (id : TxnId) (request : Request) (reply : Reply) → s.meta.id ≡ id → is_plain request ≡ true → is_query_of id request ≡ false → is_write_refuted s request reply ≡ false
queried s id (requests.Put meta seq ts key value) reply whose quiet none = absurd cc
queried s id (requests.Query other epoch seq ts key who) reply whose quiet none = missing reply
  where
    differs : same_txn other s.meta.id ≡ false
    differs = subst (λ i. same_txn other i ≡ false) (sym whose) none

    missing : (reply : Reply) → is_write_refuted s (requests.Query other epoch seq ts key who) reply ≡ false
    missing replies.Missing = ap (λ b. b && epoch == s.meta.epoch && (ts == s.ts && lists_write key seq s.writes)) differs
    missing reply = refl
queried s id request reply whose quiet none = refl

-- what asks for none of its writes finds none
not_asked : (id : TxnId) (epoch seq : ℕ) (request : Request) (reply : Reply) → is_query_of id request ≡ false → finds id epoch seq request reply ≡ false
not_asked id epoch seq (requests.Query other at n ts key who) reply none = by reply
  where
    by : (reply : Reply) → finds id epoch seq (requests.Query other at n ts key who) reply ≡ false
    by replies.Found = ap (λ b. b && (at == epoch && n == seq)) none
    by reply = refl
not_asked id epoch seq request reply none = refl

-- the reply to what neither writes, decides nor asks for its writes leaves the transaction as it is, where it is not about its record
pub quiet_leaves : (t : Txn) (h : Heard) → is_plain h.request ≡ true → is_query_of t.id h.request ≡ false → is_about t.id h.request ≡ false → LeavesAsIs t h
quiet_leaves t h quiet none other = record {
  other = other;
  put = λ epoch seq put. absurd (quiet_put t.id epoch seq h.request quiet put);
  unwritten = λ seq put. absurd (quiet_put t.id t.epoch seq h.request quiet put);
  unrefuted = λ s whose. queried s t.id h.request h.reply whose quiet none;
  unfound = λ epoch seq. not_asked t.id epoch seq h.request h.reply none;
}

commits_none : (s : SentStage) (request : Request) (reply : Reply) → is_commit request ≡ true → is_write_refuted s request reply ≡ false
commits_none s (requests.Put meta seq ts key value) reply e = absurd cc
commits_none s (requests.Query other epoch seq ts key who) reply e = absurd cc
commits_none s request reply e = refl

commits_nothing : (id : TxnId) (epoch seq : ℕ) (request : Request) (reply : Reply) → is_commit request ≡ true → finds id epoch seq request reply ≡ false
commits_nothing id epoch seq (requests.Query other at n ts key who) reply e = absurd cc
commits_nothing id epoch seq request reply e = refl

-- so does the reply to the commit of another transaction
pub commit_leaves : (t : Txn) (h : Heard) → is_commit h.request ≡ true → is_about t.id h.request ≡ false → LeavesAsIs t h
commit_leaves t h commits other = record {
  other = other;
  put = λ epoch seq put. absurd (commits_put t.id epoch seq h.request commits put);
  unwritten = λ seq put. absurd (commits_put t.id t.epoch seq h.request commits put);
  unrefuted = λ s whose. commits_none s h.request h.reply commits;
  unfound = λ epoch seq. commits_nothing t.id epoch seq h.request h.reply commits;
}

-- what is not about its record shows no stage of it
pub shows_none : (id : TxnId) (epoch ts : ℕ) (h : Heard) → is_about id h.request ≡ false → IsTrue (shows_staging id epoch ts h) → ⊥
shows_none id epoch ts h other shows =
    let none : shows_staging id epoch ts h ≡ false = ap (λ b. b && option_map_or (is_staging_at epoch ts) (view_in h.reply) false) other in
    let is : shows_staging id epoch ts h ≡ true = shows in
    absurd cc

-- where more was heard that shows no stage of it, it was heard to stage where it was before
pub staged_before : (heard more : List Heard) (t : Txn) (ts : ℕ) → All (λ h. IsTrue (shows_staging t.id t.epoch ts h) → ⊥) more → WasStagedAt (heard ++ more) t ts → WasStagedAt heard t ts
staged_before heard more t ts none was = any_before (λ h. IsTrue (shows_staging t.id t.epoch ts h)) heard more none was

-- where one more reply was heard, it was heard to stage by that one, or before
pub staged_split : (heard : List Heard) (h : Heard) (t : Txn) (stages : List SentStage) (ts : ℕ) → AreStagedThere stages heard t → (IsTrue (shows_staging t.id t.epoch ts h) → Any (λ s. s.ts ≡ ts) stages ⊎ Any (StandsAbove heard t ts) t.writes)
    → WasStagedAt (heard ++ h ∷ []) t ts → Any (λ s. s.ts ≡ ts) stages ⊎ Any (StandsAbove heard t ts) t.writes
staged_split heard h t stages ts before now was = by (shows_staging t.id t.epoch ts h) refl
  where
    by : (b : Bool) → shows_staging t.id t.epoch ts h ≡ b → Any (λ s. s.ts ≡ ts) stages ⊎ Any (StandsAbove heard t ts) t.writes
    by true is = now is
    by false is =
        let P : Heard → Type 0 = λ h. IsTrue (shows_staging t.id t.epoch ts h) in
        before ts (staged_before heard (h ∷ []) t ts (All-cons (λ h. P h → ⊥) h [] (λ shows. let so : shows_staging t.id t.epoch ts h ≡ true = shows in absurd cc) (All-nil (λ h. P h → ⊥))) was)

-- where nothing is kept of stages, and no commit is out, nothing can have committed
none_kept : (heard : List Heard) (t : Txn) (os : List StageOut) → AreEvidence heard t [] os → os ≡ []
none_kept heard t [] e = refl
none_kept heard t (o ∷ os) e = absurd e

pub free_over : (k : Known) (t : Txn) (e : Evidence) → StagingStands k [] None t e → is_over e ≡ true
free_over k t e st =
    ap (λ c. is_none c && list_all (is_dead_by e.undecided) e.stages) st.commit_at
    ∙ ap (λ os. list_all (is_dead_by e.undecided) os) (none_kept k.heard t e.stages st.kept)

module _ (k now : Known) (stages : List SentStage) (commit : Option SentCommit) (t : Txn) (x : OpenTxn) (sent_more : List Sent) (heard_more : List Heard) (st : TxnStands k stages commit t x) (more : HasMovedOn k now sent_more heard_more)
    (quiet : All (λ m. IsAside t.id m.request) sent_more) (leave : All (LeavesAsIs t) heard_more) where
  leaves_stages : (h : Heard) → LeavesAsIs t h → LeavesStages stages t h
  leaves_stages h l = record {
    unrefuted = all_from_contains (λ s. is_write_refuted s h.request h.reply ≡ false) stages
        (λ s there. let w : WasStageSent k.sent t.id s = All-contains (WasStageSent k.sent t.id) stages s st.staging.sent there in l.unrefuted s w.whose);
    unseen = ap (λ b. b && option_map_or (λ view. not (is_final_view view)) (view_in h.reply) false) l.other;
    reaches = λ s whose r. let none : is_write_refuted s h.request h.reply ≡ false = l.unrefuted s whose in let is : is_write_refuted s h.request h.reply ≡ true = r in absurd cc;
  }

  staging2 : StagingStands now stages commit t x.staging
  staging2 =
      staging_on k now stages commit t t x.staging sent_more heard_more st.staging (record { sent = more.sent; heard = more.heard })
      (record { same = refl; no_earlier = omega arith; stays = inl (refl, λ key seq u. u) })
      (All-weaker (λ m. IsAside t.id m.request) (λ m. SendsNothingNew stages commit t.id m.request)
      (λ m is. record { stage = aside_stage t.id (Contains stages) m.request is; commits = aside_commit t.id (λ c. commit ≡ Some c) m.request is }) sent_more quiet)
      (All-weaker (LeavesAsIs t) (LeavesStages stages t) leaves_stages heard_more leave)

  stays_up : StaysUp t t
  stays_up = record { id = refl; epoch = refl; up = omega arith }

  staged2 : AreStagedThere stages (k.heard ++ heard_more) t
  staged2 ts was =
      staged_or_above k.heard heard_more t t stays_up stages ts t.writes
      (st.staged ts
      (staged_before k.heard heard_more t ts (All-weaker (LeavesAsIs t) (λ h. IsTrue (shows_staging t.id t.epoch ts h) → ⊥) (λ h l. shows_none t.id t.epoch ts h l.other) heard_more leave) was))

  quiet_stages : (P : SentStage → Type 0) → EachStage t.id sent_more P
  quiet_stages P = All-weaker (λ m. IsAside t.id m.request) (λ m. OnStage t.id P m.request) (λ m is. aside_stage t.id P m.request is) sent_more quiet

  pub stands_aside : TxnStands now stages commit t x
  stands_aside = record {
    same = st.same;
    number = omega (arith, st.number, more.begun);
    begun = st.begun;
    behind = st.behind;
    at_begin = st.at_begin;
    below = reach_on k now sent_more heard_more more t t refl refl st.below;
    views =
        subst (λ hs. All (IsUndecidedOf t) hs) (sym more.heard)
        (All-append (IsUndecidedOf t) k.heard heard_more st.views
        (All-weaker (LeavesAsIs t) (IsUndecidedOf t) (λ h l about. let none : is_about t.id h.request ≡ false = l.other in absurd cc) heard_more leave));
    shown = st.shown ∙ sym (ap (last_shown t) more.sent ∙ shown-silent t k.sent sent_more (All-weaker (λ m. IsAside t.id m.request) (λ m. is_heartbeat m.request ≡ false) (λ m is. aside_silent t.id m.request is) sent_more quiet));
    staged = subst (λ hs. AreStagedThere stages hs t) (sym more.heard) staged2;
    accounted = accounted_up k now sent_more heard_more more t t refl stages stages stays_up refl refl quiet_stages st.accounted;
    late =
        subst (λ hs. AreLateByWrites stages hs t) (sym more.heard)
        (late_on k.heard heard_more t t stages stays_up refl st.late
        (λ s there.
        let w : WasStageSent k.sent t.id s = All-contains (WasStageSent k.sent t.id) stages s st.staging.sent there in
        All-weaker (LeavesAsIs t) (λ h. RefutesWrite s h ⊎ RefutesRecord s h → ⊥) (λ h l. none_by t s h w.whose l.other (l.unrefuted s w.whose)) heard_more leave));
    live =
        subst (λ hs. AreLiveHere stages hs x.staging.staged t) (sym more.heard)
        (live_on k.heard heard_more x.staging.staged t t stages refl refl refl
        (All-weaker (LeavesAsIs t) (λ h. (ts : ℕ) → IsTrue (shows_staging t.id t.epoch ts h) → ⊥) (λ h l ts. shows_none t.id t.epoch ts h l.other) heard_more leave) st.live);
    puts =
        let P : Sent → Type 0 = λ m. PutsUpTo t (last_seq_of t.writes) m.request in
        subst (λ ms. All P ms) (sym more.sent)
        (All-append P k.sent sent_more st.puts (All-weaker (λ m. IsAside t.id m.request) P (λ m is epoch seq put. absurd (aside_put t.id epoch seq m.request is put)) sent_more quiet));
    put_heard =
        let P : Heard → Type 0 = λ h. PutsUpTo t (last_seq_of t.writes) h.request in
        subst (λ hs. All P hs) (sym more.heard) (All-append P k.heard heard_more st.put_heard (All-weaker (LeavesAsIs t) P (λ h l. l.put) heard_more leave));
    found = subst (λ hs. All (IsFoundProved t) hs) (sym more.heard)
        (found_same k.heard heard_more t t refl refl refl st.found (All-weaker (LeavesAsIs t) (IsFoundProved t) (λ h l. finds_none t h l.unfound) heard_more leave));
    writes =
        subst (λ ms. WritesStand ms now.heard t) (sym more.sent)
        (subst (λ hs. WritesStand (k.sent ++ sent_more) hs t) (sym more.heard)
        (writes_on k.sent sent_more k.heard heard_more t st.writes (All-weaker (LeavesAsIs t) (λ h. (seq : ℕ) → IsNotWritten t seq h) (λ h l. l.unwritten) heard_more leave)));
    flight = st.flight;
    staging = staging2;
    reads = subst (λ hs. TxnReadsStand t.id hs t.reads x.reads) (sym more.heard) (stand_on t.id k.heard heard_more t.reads x.reads st.reads);
  }

-- so it does where nothing that is sent writes or decides
pub stands_on : (k now : Known) (stages : List SentStage) (commit : Option SentCommit) (t : Txn) (x : OpenTxn) (sent_more : List Sent) (heard_more : List Heard) → TxnStands k stages commit t x → HasMovedOn k now sent_more heard_more
    → All (λ m. IsTrue (is_plain m.request)) sent_more → All (LeavesAsIs t) heard_more → TxnStands now stages commit t x
stands_on k now stages commit t x sent_more heard_more st more quiet leave =
    stands_aside k now stages commit t x sent_more heard_more st more (All-weaker (λ m. IsTrue (is_plain m.request)) (λ m. IsAside t.id m.request) (λ m is. inl is) sent_more quiet) leave

pub txn_stands_on_ok : TxnStandsOn
txn_stands_on_ok k now stages commit t x sent_more heard_more st more quiet leave = stands_on k now stages commit t x sent_more heard_more st more quiet leave
