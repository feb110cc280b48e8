-- A commit is told by its stage: no write is in flight any more, and its record was heard to stage at its write timestamp. Its explicit commit is the
-- first message of what is left.
use Rattle.std.proofs.Common.{◌≡◌, ℕ, ◌+◌, ◌≤◌, ◌<◌, max, Bool, true, false, cond, ◌&&◌, inl, inr, List, [], ◌∷◌, ◌++◌, ◌⊎◌, find, Option, None, Some, IfSome, is_some, refl, sym, ap, ◌∙◌, subst, arith, All, Contains, IsTrue}
use Rattle.std.specs.List.{list_any}
use Rattle.std.specs.Option.{option_and_then, option_or}
use Rattle.std.proofs.lemmas.Bool.{and_parts}
use Rattle.std.proofs.lemmas.List.Elements.{All-cons, All-contains, All-head, All-nil, All-tail}
use Rattle.std.proofs.lemmas.List.Folds.{list_any_none}
use Rattle.std.proofs.lemmas.Option.{same_Some}
use Rattle.pc_call.specs.Beaten.{HasBeatenIn}
use Rattle.pc_call.specs.Setting.{Setting}
use Rattle.pc_base.specs.declared.actor.ActorId.TheVariants as actors
use Rattle.pc_call.proofs.Beating.{beaten_tells}
use Rattle.pc_call.proofs.Eighths.{any_eighth}
use Rattle.pc_call.proofs.Ending.{fate-none}
use Rattle.pc_call.proofs.Facts.{open_is}
use Rattle.pc_call.proofs.Told.{may_tell, still_open}
use Rattle.pc_call.specs.Behind.{left_behind}
use Rattle.pc_call.specs.declared.over.Left.{Left}
use Rattle.pc_call.specs.Finished.{MayBeCommittedFirst, MayBeSettled, MayTellOver, left_messages}
use Rattle.pc_call.specs.Learned.{known_told}
use Rattle.pc_call.specs.declared.purpose.Purpose.{Purpose}
use Rattle.pc_call.specs.declared.purpose.Purpose.TheVariants as purposes
use Rattle.pc_call.specs.Serving.{HasBeatenBy, InCall, IsOpenIn, Serves, ServesStage, StageStands, out_of}
use Rattle.pc_call.specs.Telling.{MayBeTold}
use Rattle.pc_follows.specs.FinishingJobs.{committed_fate, committing, finishing_messages, is_commit_told, left_by, left_committed, settling}
use Rattle.pc_lists.proofs.Lists.{all_from_contains}
use Rattle.pc_proto.specs.declared.answer.Answer.{Answer}
use Rattle.pc_proto.specs.declared.answer.Answer.TheVariants as answers
use Rattle.pc_proto.specs.declared.call.Call.TheVariants as calls
use Rattle.pc_proto.specs.declared.fate.Fate.TheVariants as fates
use Rattle.pc_proto.specs.declared.request.Request.{Request}
use Rattle.pc_proto.specs.declared.request.Request.TheVariants as requests
use Rattle.pc_proto.specs.Replies.{view_in}
use Rattle.pc_proto.specs.Requests.{is_about, is_commit, subject_anchor}
use Rattle.pc_proto.specs.Stamps.{answer_stamps, greatest_of}
use Rattle.pc_staging.proofs.Allowing.{allows}
use Rattle.pc_staging.proofs.Deciding.{late_stages, staged_there}
use Rattle.pc_staging.proofs.Evidenced.{late_below}
use Rattle.pc_staging.specs.Kept.{is_staged_and_proved}
use Rattle.pc_txn.proofs.Rows.{uncommitted}
use Rattle.pc_txn.proofs.StagedWrites.{may_tell_committed}
use Rattle.pc_txn.specs.declared.txn.OpenTxn.{OpenTxn}
use Rattle.pc_txn.specs.Opened.{opened_as, own_commit}
use Rattle.pc_txn.specs.Standing.{IsUndecidedOf, TxnStands}
use Rattle.pc_wave.specs.declared.message.Message.{Message}
use Rattle.pc_world.specs.Known.{Known, call_in}
use Rattle.pc_world.specs.Known.Reads.{IsGoodAt}
use Rattle.pc_world.specs.Known.Statements.{Statement}
use Rattle.pc_world.specs.Known.Traffic.{Heard, replies_to}
use Rattle.pc_world.specs.Known.Transactions.{Txn, meta_of, txn_told}
use Rattle.pc_world.specs.MayTell.{is_past_range}
use Rattle.pc_world.specs.Send.Commit.{MayDecide}
use Rattle.pc_world.specs.StageFate.{IsLate, SentCommit, SentStage}
use Rattle.pc_world.specs.Tell.End.{IsImplicit}
use Rattle.pc_world.specs.Views.{anchor_heard, shows_committed, shows_view}

module _ (set : Setting) (session : ℕ) (k : Known) (stages : List SentStage) (commit : Option SentCommit) (t : Txn) (x : OpenTxn) (s : Statement)
    (open_in : IsOpenIn k t) (st : TxnStands k stages commit t x) (opened : k.statement ≡ Some s) (call : s.call ≡ calls.Commit) (is : is_staged_and_proved x.in_flight x.write_ts x.staging ≡ true) where
  writes_at : x.write_ts ≡ t.write_ts
  writes_at = ap (λ x. x.write_ts) st.same

  implicit : IsImplicit k t x.write_ts
  implicit =
      subst (IsImplicit k t) (sym writes_at)
      (may_tell_committed set.splits (actors.Session session) k stages commit t x st (subst (λ n. is_staged_and_proved x.in_flight n x.staging ≡ true) writes_at is))

  -- it may be told committed at its write timestamp
  pub committed_may : HasBeatenIn set.course.loses k t → MayBeTold set session k (answers.Committed x.id x.write_ts)
  committed_may beaten = record {
    may = may_tell set session k s (answers.Committed x.id x.write_ts) opened open_in.is_open (ap (λ call. is_past_range (record { call = call; reading = s.reading })) call) (record {
      t = t;
      opened = open_is k t open_in;
      asked = call;
      whose = ap (λ x. x.id) st.same;
      why = inr (inr implicit);
    });
    written = tt;
    aborts = λ quiet. tt;
    rolled_back = tt;
    restarts = tt;
    eighth =
        any_eighth set.course.loses k (answers.Committed x.id x.write_ts)
        (λ other at.
        let same : s ≡ other = same_Some s other (sym opened ∙ at) in
        record { blocked = λ no r eight. absurd (no (sym (ap (λ (s : Statement). s.call) same) ∙ call)); moved = λ asked eight. inr tt });
    blocked = λ piped other at commits. tt;
    beats = beaten_tells set.course.loses k t (answers.Committed x.id x.write_ts) open_in beaten;
  }

  -- no commit of it was answered that it is committed
  not_told : (ts : ℕ) → list_any (is_commit_told t.id ts) k.heard ≡ false
  not_told ts =
      list_any_none (is_commit_told t.id ts) k.heard
      (all_from_contains (λ h. is_commit_told t.id ts h ≡ false) k.heard (λ h there. by h there (is_commit h.request && shows_committed t.id ts h) refl))
    where
      by : (h : Heard) → Contains k.heard h → (b : Bool) → (is_commit h.request && shows_committed t.id ts h) ≡ b → b ≡ false
      by h there false e = refl
      by h there true e =
          let shows : IsTrue (shows_committed t.id ts h) = (and_parts (is_commit h.request) (shows_committed t.id ts h) e).1 in
          absurd (uncommitted t k.heard st.views ts (there.0, h, there.1, there.2, shows))

  -- Its explicit commit, and what settles it then.
  abbrev finishing : OpenTxn → List ℕ → List Request
  finishing y anchor = own_commit y anchor ∷ finishing_messages y.id (fates.Committed y.epoch y.write_ts) anchor y.locks

  fate_told : (ts : ℕ) → committed_fate k t ts ≡ Some (fates.Committed t.epoch ts)
  fate_told ts = ap (λ o. option_or o (Some (fates.Committed t.epoch ts))) (fate-none t k.heard st.views)

  commit_first : (anchor : List ℕ) (ts : ℕ) → committing k t ts (Some anchor) ≡ requests.Commit (meta_of t anchor) ts t.locks ∷ []
  commit_first anchor ts = ap (λ b. cond b [] (requests.Commit (meta_of t anchor) ts t.locks ∷ [])) (not_told ts)

  left_at_ts : (anchor : List ℕ) (ts : ℕ) → t.anchor ≡ Some anchor → left_committed ts k (Some t) ≡ requests.Commit (meta_of t anchor) ts t.locks ∷ finishing_messages t.id (fates.Committed t.epoch ts) anchor t.locks
  left_at_ts anchor ts anchored =
      ap (λ a. committing k t ts a ++ settling t (committed_fate k t ts) a) anchored
      ∙ ap (λ f. committing k t ts (Some anchor) ++ settling t f (Some anchor)) (fate_told ts)
      ∙ ap (λ l. l ++ finishing_messages t.id (fates.Committed t.epoch ts) anchor t.locks) (commit_first anchor ts)

  -- what is left begins with the commit at the write timestamp
  pub committed_left : (anchor : List ℕ) → t.anchor ≡ Some anchor → left_by (answers.Committed x.id x.write_ts) k ≡ finishing x anchor
  committed_left anchor anchored =
      ap (left_committed x.write_ts k) (open_is k t open_in)
      ∙ ap (λ n. left_committed n k (Some t)) writes_at
      ∙ left_at_ts anchor t.write_ts anchored
      ∙ sym (ap (λ y. finishing y anchor) st.same)

if_named : {A : Type 0} (one other : Option A) → one ≡ other → IfSome one (λ a. Some a ≡ other)
if_named None other e = tt
if_named (Some a) other e = e

-- whichever anchor was heard of it is its own
pub anchor_named : (t : Txn) (heard : List Heard) → All (IsUndecidedOf t) heard → IfSome (anchor_heard t.id heard) (λ a. Some a ≡ t.anchor)
anchor_named t [] undecided = tt
anchor_named t (h ∷ heard) undecided = by (anchor_named t heard (All-tail (IsUndecidedOf t) h heard undecided)) (shows_view t.id h) refl
  where
    by : IfSome (anchor_heard t.id heard) (λ a. Some a ≡ t.anchor) → (b : Bool) → shows_view t.id h ≡ b
        → IfSome (option_and_then (λ (h : Heard). subject_anchor h.request) (cond b (Some h) (find (shows_view t.id) heard))) (λ a. Some a ≡ t.anchor)
    by later true seen = if_named (subject_anchor h.request) t.anchor (All-head (IsUndecidedOf t) h heard undecided (and_parts (is_about t.id h.request) (is_some (view_in h.reply)) seen).0).anchored
    by later false not = later

if_weaker : {A : Type 0} (P Q : A → Type 0) → ((a : A) → P a → Q a) → (o : Option A) → IfSome o P → IfSome o Q
if_weaker P Q on None some = tt
if_weaker P Q on (Some a) some = on a some

-- ---- what is left of it may be done

module _ (set : Setting) (session : ℕ) (k : Known) (stages : List SentStage) (commit : Option SentCommit) (t : Txn) (x : OpenTxn) (s : Statement)
    (open_in : IsOpenIn k t) (st : TxnStands k stages commit t x) (opened : k.statement ≡ Some s) (call : s.call ≡ calls.Commit) (is : is_staged_and_proved x.in_flight x.write_ts x.staging ≡ true) (there : t.read_ts ≡ t.write_ts) (anchor : List ℕ) (anchored : t.anchor ≡ Some anchor) where
  abbrev answer : Answer
  answer = answers.Committed t.id t.write_ts

  abbrev k4 : Known
  k4 = known_told answer k

  abbrev t4 : Txn
  t4 = txn_told answer (replies_to k.sent_now k.heard_now) t

  abbrev left : Left
  left = record { meta = meta_of t anchor; staged = Some t.write_ts; fate = fates.Committed t.epoch t.write_ts; locks = t.locks }

  decides : MayDecide k t t.write_ts
  decides =
      allows.explicit k stages commit t x.staging x.in_flight t.write_ts st.staging st.flight (subst (λ n. is_staged_and_proved x.in_flight n x.staging ≡ true) (ap (λ (x : OpenTxn). x.write_ts) st.same) is)
      (record {
        may = inl (open_is k t open_in, ap call_in opened ∙ ap Some call);
        at_write_ts = refl;
        good = record { begun = omega (arith, st.begun, st.behind); reads = subst (λ n. All (IsGoodAt t.id k.heard n) t.reads) (ap (λ (x : OpenTxn). x.reads.ts) st.same ∙ there) st.reads.good };
      })

  decided_then : MayDecide k4 t4 t.write_ts
  decided_then = record { may = inr refl; at_write_ts = refl; good = record { begun = decides.good.begun; reads = decides.good.reads }; proved = decides.proved; stages = decides.stages; commits = decides.commits }

  first : MayBeCommittedFirst k4 t.write_ts left
  first = record {
    commit = record {
      t = t4;
      mine = subst (λ ts. Contains ts t4) (sym (still_open k answer t open_in.others open_in.is_open open_in.first)) (0, omega arith, refl);
      whose = record { anchored = anchored; same = refl };
      all_locks = refl;
      decided = inl decided_then;
    };
    epoch = t.epoch;
    fate = refl;
    known = inl (refl, decided_then);
    stamps = let low : greatest_of (answer_stamps answer) ≡ max 0 t.write_ts = refl in All-cons (λ ts. ts ≤ k4.top + 1) t.write_ts [] (omega (arith, low)) (All-nil (λ ts. ts ≤ k4.top + 1));
    named = if_weaker (λ a. Some a ≡ t.anchor) (λ a. a ≡ anchor) (λ a same. same_Some a anchor (same ∙ anchored)) (anchor_heard t.id k.heard) (anchor_named t k.heard st.views);
  }

  left_is : left_behind x.anchor (Some x.write_ts) (fates.Committed x.epoch x.write_ts) x ≡ Some left
  left_is =
      ap (λ (x : OpenTxn). left_behind x.anchor (Some x.write_ts) (fates.Committed x.epoch x.write_ts) x) st.same
      ∙ ap (λ a. left_behind a (Some t.write_ts) (fates.Committed t.epoch t.write_ts) (opened_as x.shown x.cause x.reads.spans x.in_flight x.staging t)) anchored

  answer_is : answers.Committed x.id x.write_ts ≡ answer
  answer_is = ap (λ (x : OpenTxn). answers.Committed x.id x.write_ts) st.same

  -- so it may be told, and that is left
  pub by_stage_over : HasBeatenIn set.course.loses k t → MayTellOver set session k (record { answer = answers.Committed x.id x.write_ts; left = left_behind x.anchor (Some x.write_ts) (fates.Committed x.epoch x.write_ts) x })
  by_stage_over beaten = record {
    may = committed_may set session k stages commit t x s open_in st opened call is beaten;
    left =
        ap left_messages left_is
        ∙ sym (ap (λ (y : OpenTxn). own_commit y anchor ∷ finishing_messages y.id (fates.Committed y.epoch y.write_ts) anchor y.locks) st.same)
        ∙ sym (committed_left set session k stages commit t x s open_in st opened call is anchor anchored);
    closed = refl;
    settles =
        subst (λ a. IfSome (left_behind x.anchor (Some x.write_ts) (fates.Committed x.epoch x.write_ts) x) (MayBeSettled (known_told a k))) (sym answer_is)
        (subst (λ l. IfSome l (MayBeSettled k4)) (sym left_is) first);
  }

-- ---- in a call that stages

module _ (k : Known) (stages : List SentStage) (commit : Option SentCommit) (t : Txn) (x : OpenTxn) (st : TxnStands k stages commit t x) (is : is_staged_and_proved x.in_flight t.write_ts x.staging ≡ true) where
  -- the stage by which it is committed is not late
  late_no_more : (y : SentStage) → Contains stages y → y.ts ≡ t.write_ts → IsLate k.heard y → ⊥
  late_no_more y there at late =
      let low : y.ts < t.write_ts = late_below k.heard t st.staging.reached stages x.staging.stages st.staging.kept y there late in
      absurd (omega (arith, at, low))

  staged_by : (y : SentStage) × Contains stages y × (y.ts ≡ t.write_ts)
  staged_by = staged_there k stages commit t x.staging st.staging x.in_flight t.write_ts is

  -- so it reads at its write timestamp
  pub reads_at_stage : (s : Statement) (anchor : List ℕ) (stage : List Message) → StageStands k s t x stages anchor stage → t.read_ts ≡ t.write_ts
  reads_at_stage s anchor [] left = absurd (late_no_more staged_by.0 staged_by.1 staged_by.2 (All-contains (IsLate k.heard) stages staged_by.0 left.late staged_by.1))
  reads_at_stage s anchor (m ∷ []) (inl next) =
      let late = All-contains (λ y. IsLate k.heard y × (y.ts < t.write_ts)) stages staged_by.0 (late_stages k stages commit t x.staging st.staging next.passed) staged_by.1 in
      absurd (late_no_more staged_by.0 staged_by.1 staged_by.2 late.0)
  reads_at_stage s anchor (m ∷ []) (inr out) =
      elim (All-contains (λ other. (other ≡ out.one) ⊎ IsLate k.heard other) stages staged_by.0 out.others staged_by.1) [
        | inl same ↦ out.reads_there ∙ sym (ap (λ (y : SentStage). y.ts) same) ∙ staged_by.2
        | inr late ↦ absurd (late_no_more staged_by.0 staged_by.1 staged_by.2 late)
      ]
  reads_at_stage s anchor (m ∷ other ∷ more) both = absurd both

-- it may be told committed by its stage, once each write is proved and the record was heard to stage at the write timestamp
pub committed_in_call : (set : Setting) (session : ℕ) (k : Known) (x : OpenTxn) (p : Purpose) (ms : List Message) (w : InCall set k x p ms) (n : ℕ) → p ≡ purposes.Stage n → is_staged_and_proved x.in_flight x.write_ts x.staging ≡ true
    → MayTellOver set session k (record { answer = answers.Committed x.id x.write_ts; left = left_behind x.anchor (Some x.write_ts) (fates.Committed x.epoch x.write_ts) x })
committed_in_call set session k x p ms w n e is =
    let stage : ServesStage set.course n k w.s w.t x w.stages ms = subst (λ q. Serves set k w.s w.t x w.stages q ms) e w.serves in
    let at : is_staged_and_proved x.in_flight w.t.write_ts x.staging ≡ true = subst (λ n. is_staged_and_proved x.in_flight n x.staging ≡ true) (ap (λ (x : OpenTxn). x.write_ts) w.stands.same) is in
    by_stage_over set session k w.stages (out_of p ms) w.t x w.s w.open_in w.stands w.opened stage.commits.call is
    (reads_at_stage k w.stages (out_of p ms) w.t x w.stands at w.s stage.commits.anchor stage.wave.stage stage.wave.stands) stage.commits.anchor stage.commits.anchored
    (λ quiet. subst (λ q. HasBeatenBy q k w.t) e (w.beaten quiet))
