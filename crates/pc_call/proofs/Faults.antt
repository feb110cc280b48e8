-- A message of an open call is not answered: where nothing of its transaction can be committed the call is told so, and its transaction stays open; else it
-- is told that it is not known whether it committed, and its transaction is over.
use Rattle.std.proofs.Common.{◌≡◌, ℕ, ◌&&◌, Bool, true, false, inr, List, [], ◌∷◌, Option, None, Some, is_none, refl, sym, ap, ◌∙◌, subst, All, IsTrue, ◌<◌, nat_le, arith}
use Rattle.std.specs.List.{list_all}
use Rattle.std.specs.Option.{option_map}
use Rattle.std.proofs.lemmas.List.Elements.{All-cons, All-head, All-nil, All-tail, All-weaker}
use Rattle.std.proofs.lemmas.Option.{same_Some}
use Rattle.pc_call.proofs.Again.{beside_quiet}
use Rattle.pc_call.proofs.Eighths.{lost_eighth, unknown_eighth, any_eighth, no_eighth, none_eighth}
use Rattle.pc_call.proofs.Facts.{open_by, open_is}
use Rattle.pc_call.proofs.Heartbeats.{blocks_within}
use Rattle.pc_call.proofs.Told.{may_tell, stays_as_is, unavailable_keeps}
use Rattle.pc_call.specs.declared.purpose.Purpose.{Purpose}
use Rattle.pc_call.specs.declared.purpose.Purpose.TheVariants as purposes
use Rattle.pc_call.specs.Rounding.{GoesOnBeside}
use Rattle.pc_call.specs.Finished.{MayTellOver}
use Rattle.pc_call.specs.Serving.{AreReadsOf, InCall, IsOpenIn, KeepsStages, Serves, out_of, write_call, ServesAbort, WaitsMeanwhile}
use Rattle.pc_call.specs.Setting.{Setting}
use Rattle.pc_call.specs.Suiting.{SuitsFlightIn, SuitsFlightNextIn}
use Rattle.pc_call.specs.Telling.{MayTellOpen}
use Rattle.pc_call.specs.Waiting.{BeginsBehindProofs}
use Rattle.pc_flight.specs.declared.write.WriteInFlight.{WriteInFlight}
use Rattle.pc_proto.specs.declared.answer.Answer.TheVariants as answers
use Rattle.pc_proto.specs.declared.call.Call.{Call}
use Rattle.pc_proto.specs.declared.call.Call.TheVariants as calls
use Rattle.pc_proto.specs.declared.request.Request.{Request}
use Rattle.pc_proto.specs.declared.why.Why.{Why}
use Rattle.pc_proto.specs.Requests.{is_about}
use Rattle.pc_staging.proofs.Deciding.{in_doubt}
use Rattle.pc_staging.specs.declared.stage_out.StageOut.{StageOut}
use Rattle.pc_staging.specs.Kept.{is_dead_by, is_over, without_stages}
use Rattle.pc_staging.specs.Standing.{AreEvidence}
use Rattle.pc_txn.proofs.Forgetting.{stands_forgotten}
use Rattle.pc_txn.proofs.Keeping.{quiet_leaves, stands_on}
use Rattle.pc_txn.proofs.Rows.{is_uncommitted}
use Rattle.pc_txn.specs.declared.txn.OpenTxn.{OpenTxn}
use Rattle.pc_txn.specs.Standing.{HasMovedOn, LeavesAsIs, TxnStands, is_plain, is_query_of, IsUndecidedOf}
use Rattle.pc_wave.specs.declared.message.Message.{Message}
use Rattle.pc_wave.specs.Standing.{goes_beside, IsAsFar, MessageStands}
use Rattle.pc_world.specs.Known.{Known, open_txn}
use Rattle.pc_world.specs.Known.Statements.{Statement}
use Rattle.pc_world.specs.Known.Traffic.{Heard}
use Rattle.pc_world.specs.Known.Transactions.{Txn}
use Rattle.pc_world.specs.MayTell.{is_past_range}
use Rattle.pc_world.specs.StageFate.{IsUncommitted, SentStage}
use Rattle.pc_world.specs.Tell.Refusal.{IsUncommittedIn, MayBlock, WasLost}
use Rattle.std.proofs.lemmas.Bool.{leb-false, leb-true}
use Rattle.pc_base.specs.declared.limits.TheConstants.{MOST_CONFLICTS, MOST_REFUSALS}
use Rattle.pc_base.specs.declared.transaction.TxnId.{TxnId}
use Rattle.pc_call.proofs.Beating.{undecided_not_aborted}
use Rattle.pc_call.proofs.Ending.{fate-none}
use Rattle.pc_call.proofs.Lists.{all_behind}
use Rattle.pc_call.specs.Committing.{CommitsUpTo}
use Rattle.pc_call.specs.GivenUp.{GivesUpBy}
use Rattle.pc_call.specs.Stages.{MayStageOn, eighth_holder}
use Rattle.pc_call.specs.Unanswered.{MayGiveUpLost}
use Rattle.pc_follows.specs.Eighth.{MetEighth, WasMovedEighth}
use Rattle.pc_follows.specs.FinishingJobs.{left_if, settling}
use Rattle.pc_lists.proofs.Anywhere.{any_of}
use Rattle.pc_proto.specs.declared.answer.Answer.{Answer}
use Rattle.pc_refusals.proofs.Counted.{eighth_many, many_eighth}
use Rattle.pc_wave.specs.declared.message.Progress.{Progress}
use Rattle.pc_world.specs.Answering.{MayAnswer}
use Rattle.pc_world.specs.Views.{ShowsAborted, WasAborted}
use Rattle.pc_proto.specs.declared.reply.Reply.TheVariants as replies
use Rattle.pc_wave.specs.declared.message.Progress.TheVariants as progresses

no_rollback : (call : Call) → MayBlock call → call ≡ calls.Rollback → ⊥
no_rollback call may e = subst MayBlock e may

no_round : (call : Call) → MayBlock call → call ≡ calls.Round → ⊥
no_round call may e = subst MayBlock e may

behind_proofs : (call : Call) → BeginsBehindProofs call → MayBlock call
behind_proofs (calls.Get key) begins = tt
behind_proofs (calls.Scan span) begins = tt
behind_proofs (calls.Put key value) begins = tt
behind_proofs (calls.Delete key) begins = tt
behind_proofs call begins = absurd begins

reads_block : (set : Setting) (x : OpenTxn) (call : Call) (rs : List Request) → AreReadsOf set.splits x call rs → MayBlock call
reads_block set x (calls.Get key) rs e = tt
reads_block set x (calls.Scan span) rs e = tt
reads_block set x call rs e = absurd e

write_blocks : (key : List ℕ) (value : Option (List ℕ)) → MayBlock (write_call key value)
write_blocks key None = tt
write_blocks key (Some value) = tt

suits_next : (b : Bool) (faults : ℕ) (call : Call) (flight : List WriteInFlight) → SuitsFlightIn b call flight → SuitsFlightNextIn b (answers.Unavailable faults) call flight
suits_next true faults call flight suits = tt
suits_next false faults call flight suits = suits

module _ (set : Setting) (k : Known) (x : OpenTxn) (u : MayGiveUpLost set k x) (now : Known) (g : GoesOnBeside k now x.id) where
  gone : HasMovedOn k now g.sent_more g.heard_more
  gone = record { sent = g.more.sent; heard = g.more.heard; begun = g.begun; high = g.high }

  same_id : x.id ≡ u.t.id
  same_id = ap (λ x. x.id) u.stands.same

  leaves : (hs : List Heard) → All (λ h. IsTrue (goes_beside h.request)) hs → All (λ h. is_about x.id h.request ≡ false) hs → All (λ h. is_query_of x.id h.request ≡ false) hs → All (LeavesAsIs u.t) hs
  leaves [] a o q = All-nil (LeavesAsIs u.t)
  leaves (h ∷ hs) a o q =
      let quiet : is_plain h.request ≡ true = beside_quiet h.request (All-head (λ h. IsTrue (goes_beside h.request)) h hs a) in
      let no : is_about u.t.id h.request ≡ false = subst (λ id. is_about id h.request ≡ false) same_id (All-head (λ h. is_about x.id h.request ≡ false) h hs o) in
      let unasked : is_query_of u.t.id h.request ≡ false = subst (λ id. is_query_of id h.request ≡ false) same_id (All-head (λ h. is_query_of x.id h.request ≡ false) h hs q) in
      All-cons (LeavesAsIs u.t) h hs (quiet_leaves u.t h quiet unasked no)
      (leaves hs (All-tail (λ h. IsTrue (goes_beside h.request)) h hs a) (All-tail (λ h. is_about x.id h.request ≡ false) h hs o) (All-tail (λ h. is_query_of x.id h.request ≡ false) h hs q))

  stands_beside : TxnStands now u.stages u.out u.t x
  stands_beside =
      stands_on k now u.stages u.out u.t x g.sent_more g.heard_more u.stands gone
      (All-weaker (λ m. IsTrue (goes_beside m.request)) (λ m. IsTrue (is_plain m.request)) (λ m of. beside_quiet m.request of) g.sent_more g.sent_beside)
      (leaves g.heard_more g.heard_beside g.other g.unqueried)

  open_now : IsOpenIn now u.t
  open_now = open_by k now u.t g.is_open g.first u.open_in

-- ---- nothing of it can be committed

module _ (session : ℕ) (set : Setting) (k : Known) (x : OpenTxn) (u : MayGiveUpLost set k x) (now : Known) (g : GoesOnBeside k now x.id) (over : is_over x.staging ≡ true) (loses : set.course.loses ≡ true) where
  -- The transaction with its stages forgotten.
  abbrev x2 : OpenTxn
  x2 = record x { staging = without_stages x.staging }

  open_still : IsOpenIn now u.t
  open_still = open_now set k x u now g

  free : TxnStands now [] None u.t x2
  free = stands_forgotten now u.stages u.out u.t x (stands_beside set k x u now g) over

  none_committed : IsUncommitted u.t.id now.sent now.heard
  none_committed = is_uncommitted now u.t x2 free

  uncommitted : (call : Call) → IsUncommittedIn now call
  uncommitted calls.Commit = (u.t, open_is now u.t open_still, none_committed)
  uncommitted call = tt

  pub unavailable_told : (faults : ℕ) → WasLost now faults → MayTellOpen set session now (answers.Unavailable faults) x2
  unavailable_told faults lost = record {
    may = record {
      may = may_tell set session now u.s (answers.Unavailable faults) (g.statement ∙ u.opened) open_still.is_open (blocks_within u.s.call u.s.reading u.works) (record {
        no_rollback = λ e. no_rollback u.s.call u.works e;
        no_round = λ e. no_round u.s.call u.works e;
        lost = lost;
        uncommitted = uncommitted u.s.call;
      });
      written = tt;
      aborts = λ quiet. tt;
      rolled_back = tt;
      restarts = tt;
      eighth = λ s is. lost_eighth set.course.loses loses now s faults;
      blocked = λ piped other at commits. tt;
      beats = λ quiet. let e : true ≡ false = sym loses ∙ quiet in absurd cc;
    };
    left = refl;
    after = stays_as_is now u.t x2 open_still free u.cause (answers.Unavailable faults) (unavailable_keeps faults) refl;
    suits = λ other is.
        subst (λ (s : Statement). SuitsFlightNextIn set.course.pipelines (answers.Unavailable faults) s.call x.in_flight) (same_Some u.s other (sym (g.statement ∙ u.opened) ∙ is)) (suits_next set.course.pipelines faults u.s.call x.in_flight u.plain);
  }

-- ---- it is not known what became of its commit

module _ (session : ℕ) (set : Setting) (k : Known) (x : OpenTxn) (u : MayGiveUpLost set k x) (now : Known) (g : GoesOnBeside k now x.id) (in_flight : is_over x.staging ≡ false) (loses : set.course.loses ≡ true) where
  open_then : IsOpenIn now u.t
  open_then = open_now set k x u now g

  pub unknown_told : (faults : ℕ) → WasLost now faults → MayTellOver set session now (record { answer = answers.Unknown x.id; left = None })
  unknown_told faults lost = record {
    may = record {
      may = may_tell set session now u.s (answers.Unknown x.id) (g.statement ∙ u.opened) open_then.is_open (blocks_within u.s.call u.s.reading (subst MayBlock (sym (u.commits in_flight)) tt)) (record {
        t = u.t;
        faults = faults;
        opened = open_is now u.t open_then;
        asked = u.commits in_flight;
        whose = same_id set k x u now g;
        lost = lost;
        doubt = in_doubt now u.stages u.out u.t x.staging (stands_beside set k x u now g).staging in_flight;
      });
      written = tt;
      aborts = λ quiet. tt;
      rolled_back = tt;
      restarts = tt;
      eighth = λ s is. unknown_eighth set.course.loses loses now s x.id;
      blocked = λ piped other at commits. tt;
      beats = λ quiet. let e : true ≡ false = sym loses ∙ quiet in absurd cc;
    };
    left = refl;
    closed = refl;
    settles = tt;
  }

-- ---- which calls may

module _ (set : Setting) (k : Known) (x : OpenTxn) (p : Purpose) (ms : List Message) (w : InCall set k x p ms) where
  none_kept : (stages : List SentStage) (outs : List StageOut) → stages ≡ [] → AreEvidence k.heard w.t stages outs → outs ≡ []
  none_kept [] [] none kept = refl
  none_kept [] (o ∷ outs) none kept = absurd kept
  none_kept (s ∷ stages) outs some kept = absurd cc

  -- a call that keeps no stage, and whose commit is not out, is over
  never : is_over x.staging ≡ false → w.stages ≡ [] → out_of p ms ≡ None → ⊥
  never in_flight none unsent =
      let st = w.stands.staging in
      let free : is_none x.staging.commit ≡ true = ap is_none (st.commit_at ∙ ap (option_map (λ c. c.ts)) unsent) in
      let bare : x.staging.stages ≡ [] = none_kept w.stages x.staging.stages none st.kept in
      let over : is_over x.staging ≡ true = ap (λ b. b && list_all (is_dead_by x.staging.undecided) x.staging.stages) free ∙ ap (list_all (is_dead_by x.staging.undecided)) bare in
      let f : false ≡ true = sym in_flight ∙ over in absurd cc

  kept_by : (q : Purpose) → p ≡ q → KeepsStages q k w.stages
  kept_by q e = subst (λ q. KeepsStages q k w.stages) e w.kept

  -- where it may yet have been committed, it commits
  commits : is_over x.staging ≡ false → w.s.call ≡ calls.Commit
  commits in_flight = by p refl w.serves
    where
      by : (q : Purpose) → p ≡ q → Serves set k w.s w.t x w.stages q ms → w.s.call ≡ calls.Commit
      by (purposes.Refresh n puts) e r = r.commits.call
      by (purposes.Stage n) e r = r.commits.call
      by (purposes.Query n holder puts) e r = r.commits.call
      by (purposes.Commit n) e r = r.commits.call
      by (purposes.LastBeat answer reading) e r = r.gives_up.call
      by (purposes.Beat call reading) e r = absurd (never in_flight (kept_by (purposes.Beat call reading) e) (ap (λ q. out_of q ms) e))
      by (purposes.Prove call all) e r = absurd (never in_flight (kept_by (purposes.Prove call all) e) (ap (λ q. out_of q ms) e))
      by purposes.Read e r = absurd (never in_flight (kept_by purposes.Read e) (ap (λ q. out_of q ms) e))
      by purposes.Write e r = absurd (never in_flight (kept_by purposes.Write e) (ap (λ q. out_of q ms) e))
      by (purposes.Abort why) e r = absurd (never in_flight (kept_by (purposes.Abort why) e) (ap (λ q. out_of q ms) e))

  -- the call reads, writes or commits
  works : ((why : Why) → p ≡ purposes.Abort why → ⊥) → MayBlock w.s.call
  works no_abort = by p refl w.serves
    where
      by : (q : Purpose) → p ≡ q → Serves set k w.s w.t x w.stages q ms → MayBlock w.s.call
      by (purposes.Beat call reading) e r = subst MayBlock (sym (ap (λ (s : Statement). s.call) r.asked)) r.asks
      by (purposes.Prove call all) e r = subst MayBlock (sym r.asked) (behind_proofs call r.begins)
      by purposes.Read e r = reads_block set x w.s.call _ r.asked
      by purposes.Write e r = subst MayBlock (sym r.call) (write_blocks r.key r.value)
      by (purposes.Refresh n puts) e r = subst MayBlock (sym r.commits.call) tt
      by (purposes.Stage n) e r = subst MayBlock (sym r.commits.call) tt
      by (purposes.Query n holder puts) e r = subst MayBlock (sym r.commits.call) tt
      by (purposes.Commit n) e r = subst MayBlock (sym r.commits.call) tt
      by (purposes.LastBeat answer reading) e r = subst MayBlock (sym r.gives_up.call) tt
      by (purposes.Abort why) e r = absurd (no_abort why e)

  pub call_gives_up : ((why : Why) → p ≡ purposes.Abort why → ⊥) → MayGiveUpLost set k x
  call_gives_up no_abort = record {
    t = w.t;
    open_in = w.open_in;
    stages = w.stages;
    out = out_of p ms;
    stands = w.stands;
    cause = w.cause;
    s = w.s;
    opened = w.opened;
    split = w.split;
    works = works no_abort;
    plain = w.plain;
    commits = commits;
  }

-- so may one whose stage was refused, whatever is to follow it
pub stages_give_up : (set : Setting) (recorded refusals : ℕ) (k : Known) (x : OpenTxn) (ms : List Message) → MayStageOn set.course.loses recorded refusals k x ms → SuitsFlightIn set.course.pipelines calls.Commit x.in_flight → MayGiveUpLost set k x
stages_give_up set recorded refusals k x ms may suits = by (nat_le MOST_REFUSALS refusals) refl
  where
    gives : (answer : Answer) → GivesUpBy set.course.loses k x answer → MayGiveUpLost set k x
    gives answer g = record {
      t = g.t;
      open_in = g.open_in;
      stages = g.stages;
      out = None;
      stands = g.gives_up.stands;
      cause = g.cause;
      s = g.s;
      opened = g.opened;
      split = g.split;
      works = subst MayBlock (sym g.gives_up.call) tt;
      plain = subst (λ call. SuitsFlightIn set.course.pipelines call x.in_flight) (sym g.gives_up.call) suits;
      commits = λ in_flight. g.gives_up.call;
    }

    goes : (bound : ℕ) (t : Txn) (s : Statement) → CommitsUpTo set.course.loses bound refusals k t x s → MayGiveUpLost set k x
    goes bound t s g = record {
      t = t;
      open_in = g.open_in;
      stages = g.stages;
      out = None;
      stands = g.stands;
      cause = g.client;
      s = s;
      opened = g.opened;
      split = g.split;
      works = subst MayBlock (sym g.commits.call) tt;
      plain = subst (λ call. SuitsFlightIn set.course.pipelines call x.in_flight) (sym g.commits.call) suits;
      commits = λ in_flight. g.commits.call;
    }

    on : (WasMovedEighth k → ⊥) → (o : Option TxnId) → eighth_holder ms ≡ o → MayGiveUpLost set k x
    on few (Some holder) is = gives (answers.Blocked holder) (may.blocked few holder is)
    on few None is = let f = may.on few is in goes f.0.read_ts f.0 f.1 f.2.on

    by : (b : Bool) → nat_le MOST_REFUSALS refusals ≡ b → MayGiveUpLost set k x
    by true many = gives (answers.Moved recorded) (may.moved (many_eighth k refusals may.counts (leb-true MOST_REFUSALS refusals many)))
    by false few =
        on
        (λ eight.
        let many = eighth_many k refusals may.counts eight in
        let low : refusals < MOST_REFUSALS = leb-false MOST_REFUSALS refusals few in
        absurd (omega (arith, many, low))) (eighth_holder ms) refl

-- ---- a rollback whose abort is not answered

module _ (session : ℕ) (set : Setting) (k : Known) (x : OpenTxn) (p : Purpose) (ms : List Message) (w : InCall set k x p ms) (why : Why) (e : p ≡ purposes.Abort why) (loses : set.course.loses ≡ true) where
  abbrev a : ServesAbort why k w.s w.t x ms
  a = subst (λ q. Serves set k w.s w.t x w.stages q ms) e w.serves

  opened : open_txn k ≡ Some w.t
  opened = open_is k w.t w.open_in

  -- its abort meets no intent, so it met none eight times
  few_at : (pr : Progress) → IsAsFar set.course k a.m.request a.m.conflicts pr → a.m.conflicts < MOST_CONFLICTS
  few_at progresses.ToSend far = far.1
  few_at (progresses.Sent number) far = far.1
  few_at (progresses.Met number conflict) far = absurd (subst (λ r. MayAnswer r (replies.Conflict far.holder far.ts far.key)) a.said (subst (MayAnswer a.m.request) far.is far.kind))
  few_at (progresses.Answered number reply) far = far.1

  few_m : a.m.conflicts < MOST_CONFLICTS
  few_m = few_at a.m.progress (All-head (MessageStands set.course k) a.m [] (subst (λ ms. All (MessageStands set.course k) ms) a.one w.wave.stand)).as_far

  unmet : (r : Request) → MetEighth k r → ⊥
  unmet r eight =
      none_eighth set.course k (WaitsMeanwhile p w.t.id w.t.epoch x.in_flight) ms w.fewer w.wave.stand (subst (λ ms. All (λ (m : Message). m.conflicts < MOST_CONFLICTS) ms) (sym a.one) (All-cons (λ (m : Message). m.conflicts < MOST_CONFLICTS) a.m [] few_m (All-nil (λ (m : Message). m.conflicts < MOST_CONFLICTS)))) r
      (λ left. subst (λ p. WaitsMeanwhile p w.t.id w.t.epoch x.in_flight r) e left) eight

  -- nothing that was heard shows the record aborted
  none_aborted : (other : Why) → WasAborted k.heard_now w.t.id other → ⊥
  none_aborted other was =
      let f = any_of (IsUndecidedOf w.t) (ShowsAborted w.t.id other) k.heard_now (all_behind (IsUndecidedOf w.t) w.split.heard_first k.heard_now (subst (λ hs. All (IsUndecidedOf w.t) hs) w.split.heard w.stands.views)) was in
      undecided_not_aborted w.t f.0 other f.1 f.2

  pub rolled_back_told : MayTellOver set session k (record { answer = answers.RolledBack x.id why; left = None })
  rolled_back_told = record {
    may = record {
      may = may_tell set session k w.s (answers.RolledBack x.id why) w.opened w.open_in.is_open (ap (λ call. is_past_range (record { call = call; reading = w.s.reading })) a.call) (record {
        t = w.t;
        opened = opened;
        asked = a.call;
        whose = ap (λ x. x.id) w.stands.same;
        cause = inr ((λ other was. none_aborted other was), a.cause);
      });
      written = tt;
      aborts = λ quiet. let f : true ≡ false = sym loses ∙ quiet in absurd cc;
      rolled_back = tt;
      restarts = tt;
      eighth = any_eighth set.course.loses k (answers.RolledBack x.id why) (no_eighth k w.s (answers.RolledBack x.id why) w.opened (λ commit. let f : calls.Rollback ≡ calls.Commit = sym a.call ∙ commit in cc) unmet);
      blocked = λ piped other at commits. tt;
      beats = λ quiet. let f : true ≡ false = sym loses ∙ quiet in absurd cc;
    };
    left = sym (ap (λ o. settling w.t o w.t.anchor) (fate-none w.t k.heard w.stands.views)) ∙ sym (ap (left_if k) opened);
    closed = refl;
    settles = tt;
  }
