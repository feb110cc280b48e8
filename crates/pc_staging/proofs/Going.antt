-- What leaves the evidence as it is.
use Rattle.std.proofs.Common.{◌≡◌, ℕ, ◌<◌, ◌≤◌, Bool, true, false, ◌&&◌, ◌||◌, ◌==◌, not, cond, ◌⊎◌, inl, inr, Option, Some, None, IfSome, List, [], ◌∷◌, ◌++◌, map, zero, suc, refl, sym, ap, ◌∙◌, subst, arith, All, Any, Contains, IsTrue}
use Rattle.std.specs.List.{list_any}
use Rattle.std.proofs.lemmas.Bool.{eq-eqb}
use Rattle.std.proofs.lemmas.List.Elements.{All-append, All-contains, All-weaker}
use Rattle.pc_base.specs.declared.transaction.TxnId.{TxnId}
use Rattle.pc_base.specs.Span.{same_key}
use Rattle.pc_base.specs.Transaction.{same_txn}
use Rattle.pc_lists.proofs.Anywhere.{any_head, any_kept, any_later, any_weaker}
use Rattle.pc_lists.proofs.Lists.{contains_nil}
use Rattle.pc_lists.proofs.Same.{same_key-equal, same_txn-self}
use Rattle.pc_proto.specs.declared.reply.Reply.{Reply}
use Rattle.pc_proto.specs.declared.reply.Reply.TheVariants as replies
use Rattle.pc_proto.specs.declared.request.Request.{Request}
use Rattle.pc_proto.specs.declared.request.Request.TheVariants as requests
use Rattle.pc_proto.specs.declared.view.View.{View}
use Rattle.pc_proto.specs.declared.view.View.TheVariants as views
use Rattle.pc_proto.specs.Replies.{is_undecided_status}
use Rattle.pc_proto.specs.Views.{is_final_view}
use Rattle.pc_staging.proofs.Evidenced.{evidence_on, evidence_step, map_same, ShowsOpen}
use Rattle.pc_staging.proofs.Fates.{behind_more, each_commit-more, each_stage-more, none_more, on_commit-more, on_stage-more}
use Rattle.pc_staging.proofs.Steps.{first_on, last_on}
use Rattle.pc_staging.specs.declared.stage_out.StageOut.{StageOut}
use Rattle.pc_staging.specs.Hearing.{HasGrown}
use Rattle.pc_staging.specs.Kept.{Evidence}
use Rattle.pc_staging.specs.Laws.{LeavesStages, ProvesOn, SendsNothingNew, StagingIsKept, StagingStandsOn, StaysOrIsFree}
use Rattle.pc_staging.specs.Standing.{AreEvidence, HasUnproved, IsBehind, IsCommitOut, IsLastStep, IsPastStageBelow, IsRefusedCommitBelow, AreRefutedBelow, IsUnprovedAt, ListsUnproved, StagingStands, WasStagedAt, WasStageSent}
use Rattle.pc_world.specs.Known.{Known}
use Rattle.pc_world.specs.Known.Traffic.{Heard, Sent}
use Rattle.pc_world.specs.Known.Transactions.{Txn, lists_write}
use Rattle.pc_world.specs.Known.Writes.{Write, asked_again, is_proved, listed_as, proved_at, unproved, with_put, with_put_reply, with_query_reply, writes_replied}
use Rattle.pc_world.specs.StageFate.{EachCommit, EachStage, IsLate, OnCommit, OnStage, RefutesRecord, RefutesWrite, Refuses, SentCommit, SentStage, WasCommitRefused, commit_request, is_past_stage, is_write_refuted, shows_past, stage_request}
use Rattle.pc_world.specs.Tell.End.{shows_staging}
use Rattle.pc_world.specs.Views.{shows_undecided}

-- ---- which writes are listed

unproved_head : (key : List ℕ) (seq : ℕ) (w : Write) (ws : List Write) → HasUnproved key seq (w ∷ ws) → IsUnprovedAt key seq w ⊎ HasUnproved key seq ws
unproved_head key seq w ws (zero, x, there, is, h) = inl (subst (IsUnprovedAt key seq) (sym is) h)
unproved_head key seq w ws (suc k, x, there, is, h) = inr (k, x, omega arith, is, h)

none_unproved : (key : List ℕ) (seq : ℕ) → HasUnproved key seq [] → ⊥
none_unproved key seq (k, x, there, is, h) = contains_nil x (k, there, is)

or_true : (b : Bool) → (b || true) ≡ true
or_true true = refl
or_true false = refl

module _ (key : List ℕ) (seq : ℕ) where
  lists_cons : (b : Bool) (w : Write) (ws : List Write) → lists_write key seq (listed_as ws) ≡ true → lists_write key seq (listed_as (cond b (w ∷ ws) ws)) ≡ true
  lists_cons true w ws h = ap (λ b. (same_key w.key key && w.seq == seq) || b) h ∙ or_true (same_key w.key key && w.seq == seq)
  lists_cons false w ws h = h

  lists_own : (b : Bool) (w : Write) (ws : List Write) → b ≡ true → IsUnprovedAt key seq w → lists_write key seq (listed_as (cond b (w ∷ ws) ws)) ≡ true
  lists_own true w ws is u =
      ap (λ b. (b && w.seq == seq) || lists_write key seq (listed_as ws)) (same_key-equal w.key key u.same_place)
      ∙ ap (λ b. b || lists_write key seq (listed_as ws)) (eq-eqb w.seq seq u.same_sequence)
  lists_own false w ws is u = absurd cc

  lists_all : (ws : List Write) → HasUnproved key seq ws → lists_write key seq (listed_as (unproved ws)) ≡ true
  lists_all [] h = absurd (none_unproved key seq h)
  lists_all (w ∷ ws) h =
      elim (unproved_head key seq w ws h) [
        | inl own ↦ lists_own (not (is_proved w)) w (unproved ws) own.unproved own
        | inr later ↦ lists_cons (not (is_proved w)) w (unproved ws) (lists_all ws later)
      ]

pub lists_in_flight : (s : SentStage) (writes : List Write) → s.writes ≡ listed_as (unproved writes) → ListsUnproved writes s
lists_in_flight s writes is key seq h = ap (lists_write key seq) is ∙ lists_all key seq writes h

-- each write stays as it was, or is proved
module _ (f : Write → Write) (on : (w : Write) → ((f w).key ≡ w.key) × ((f w).seq ≡ w.seq) × (is_proved w ≡ true → is_proved (f w) ≡ true)) where
  back : (key : List ℕ) (seq : ℕ) (w : Write) → IsUnprovedAt key seq (f w) → IsUnprovedAt key seq w
  back key seq w u = record {
    same_place = sym (on w).0 ∙ u.same_place;
    same_sequence = sym (on w).1 ∙ u.same_sequence;
    unproved = by (is_proved w) refl;
  }
    where
      by : (b : Bool) → is_proved w ≡ b → not (is_proved w) ≡ true
      by true is = let more : is_proved (f w) ≡ true = (on w).2 is in let none : not (is_proved (f w)) ≡ true = u.unproved in absurd cc
      by false is = ap not is

  map_proves : (writes : List Write) → ProvesOn writes (map f writes)
  map_proves [] key seq h = absurd (none_unproved key seq h)
  map_proves (w ∷ ws) key seq h =
      elim (unproved_head key seq (f w) (map f ws) h) [
        | inl own ↦ any_head (IsUnprovedAt key seq) w ws (back key seq w own)
        | inr later ↦ any_later (IsUnprovedAt key seq) w ws (map_proves ws key seq later)
      ]

more_proved : (proofs : List ℕ) (ts : ℕ) → list_any (λ ts. true) (proofs ++ ts ∷ []) ≡ true
more_proved [] ts = refl
more_proved (p ∷ ps) ts = refl

pub proves_one : (key : List ℕ) (seq ts : ℕ) (writes : List Write) → ProvesOn writes (map (proved_at key seq ts) writes)
proves_one key seq ts writes = map_proves (proved_at key seq ts) (λ w. by (w.seq == seq && same_key w.key key) w) writes
  where
    by : (b : Bool) (w : Write) → let x : Write = cond b (record w { proofs = w.proofs ++ ts ∷ [] }) w in (x.key ≡ w.key) × (x.seq ≡ w.seq) × (is_proved w ≡ true → is_proved x ≡ true)
    by true w = (refl, refl, λ is. more_proved w.proofs ts)
    by false w = (refl, refl, λ is. is)

again_one : (seq ts : ℕ) (writes : List Write) → ProvesOn writes (map (asked_again seq ts) writes)
again_one seq ts writes = map_proves (asked_again seq ts) (λ w. by (w.seq == seq) w) writes
  where
    by : (b : Bool) (w : Write) → let x : Write = cond b (record w { asked = w.asked ++ ts ∷ [] }) w in (x.key ≡ w.key) × (x.seq ≡ w.seq) × (is_proved w ≡ true → is_proved x ≡ true)
    by true w = (refl, refl, λ is. is)
    by false w = (refl, refl, λ is. is)

pub again_proves : (key : List ℕ) (seq ts : ℕ) (value : Option (List ℕ)) (writes : List Write) → list_any (λ w. w.seq == seq) writes ≡ true → ProvesOn writes (with_put seq ts key value writes)
again_proves key seq ts value writes there =
    let same : with_put seq ts key value writes ≡ map (asked_again seq ts) writes =
    ap (λ b. cond b (map (asked_again seq ts) writes) (writes ++ record { key = key; seq = seq; value = value; asked = ts ∷ []; proofs = [] } ∷ [])) there in
    subst (ProvesOn writes) (sym same) (again_one seq ts writes)

either_proves : (b : Bool) (writes one : List Write) → ProvesOn writes one → ProvesOn writes (cond b one writes)
either_proves true writes one h = h
either_proves false writes one h = λ key seq u. u

put_reply : (key : List ℕ) (seq : ℕ) (reply : Reply) (writes : List Write) → ProvesOn writes (with_put_reply key seq reply writes)
put_reply key seq (replies.Written ts) writes = proves_one key seq ts writes
put_reply key seq reply writes = λ key seq u. u

query_reply : (key : List ℕ) (seq ts : ℕ) (reply : Reply) (writes : List Write) → ProvesOn writes (with_query_reply key seq ts reply writes)
query_reply key seq ts replies.Found writes = proves_one key seq ts writes
query_reply key seq ts reply writes = λ key seq u. u

-- whatever is heard, no write is unproved that was proved
pub reply_proves : (id : TxnId) (epoch : ℕ) (request : Request) (reply : Reply) (writes : List Write) → ProvesOn writes (writes_replied id epoch request reply writes)
reply_proves id epoch (requests.Put meta seq ts key value) reply writes =
    either_proves (same_txn meta.id id && meta.epoch == epoch) writes (with_put_reply key seq reply writes) (put_reply key seq reply writes)
reply_proves id epoch (requests.Query other at_epoch seq ts key by) reply writes =
    either_proves (same_txn other id && at_epoch == epoch) writes (with_query_reply key seq ts reply writes) (query_reply key seq ts reply writes)
reply_proves id epoch request reply writes = λ key seq u. u

pub staging_kept : StagingIsKept
staging_kept = record { lists = lists_in_flight; proves = proves_one; again = again_proves }

-- ---- what is said of a record

undecided_past : (s : SentStage) (view : View) → is_past_stage s view ≡ true → is_final_view view ≡ false
undecided_past s (views.Committed epoch ts locks) is = absurd cc
undecided_past s (views.Aborted epoch why locks) is = absurd cc
undecided_past s (views.Pending epoch ts) is = refl
undecided_past s (views.Staging epoch ts writes) is = refl
undecided_past s views.Nothing is = refl

past_view : (s : SentStage) (reply : Reply) → shows_past s reply ≡ true → (view : View) × (reply ≡ replies.Status view) × (is_past_stage s view ≡ true)
past_view s (replies.Status view) is = (view, refl, is)
past_view s reply is = absurd cc

-- a stage that was told that its record went another way was seen undecided
pub past_open : (id : TxnId) (s : SentStage) (h : Heard) → s.meta.id ≡ id → RefutesRecord s h → ShowsOpen id h
past_open id s h whose r =
    let (view, said, past) = past_view s h.reply r.past in
    subst (λ request. ShowsOpen id (record { number = h.number; request = request; reply = h.reply; step = h.step })) (sym r.asked)
    (subst (λ reply. ShowsOpen id (record { number = h.number; request = stage_request s; reply = reply; step = h.step })) (sym said)
    (ap (λ b. b && not (is_final_view view)) (ap (λ i. same_txn i id) whose ∙ same_txn-self id) ∙ ap not (undecided_past s view past)))

final_undecided : (reply : Reply) → is_undecided_status reply ≡ true → (view : View) × (reply ≡ replies.Status view) × (is_final_view view ≡ false)
final_undecided (replies.Status view) is = (view, refl, by (is_final_view view) refl)
  where
    by : (b : Bool) → is_final_view view ≡ b → is_final_view view ≡ false
    by true final = absurd cc
    by false other = other
final_undecided reply is = absurd cc

-- so was a commit that is refused
pub refused_open : (id : TxnId) (c : SentCommit) (h : Heard) → c.meta.id ≡ id → Refuses c h → ShowsOpen id h
refused_open id c h whose r =
    let (view, said, other) = final_undecided h.reply r.unsettled in
    subst (λ request. ShowsOpen id (record { number = h.number; request = request; reply = h.reply; step = h.step })) (sym r.asked)
    (subst (λ reply. ShowsOpen id (record { number = h.number; request = commit_request c; reply = reply; step = h.step })) (sym said)
    (ap (λ b. b && not (is_final_view view)) (ap (λ i. same_txn i id) whose ∙ same_txn-self id) ∙ ap not other))

-- ---- the parts of the relation, where more was sent and heard

module _ (k now : Known) (stages : List SentStage) (commit : Option SentCommit) (t : Txn) (x : Evidence) (st : StagingStands k stages commit t x) (sent_more : List Sent) (heard_more : List Heard) (grown : HasGrown k now sent_more heard_more) where
  pub each_on : (to : ℕ) → t.write_ts ≤ to → (kept : List SentStage) → ((s : SentStage) → Contains stages s → IsBehind (k.heard ++ heard_more) to s ⊎ Contains kept s)
      → EachStage t.id sent_more (λ s. IsBehind (k.heard ++ heard_more) to s ⊎ Contains kept s) → EachStage t.id now.sent (λ s. IsBehind now.heard to s ⊎ Contains kept s)
  each_on to low kept on new =
      let Q : SentStage → Type 0 = λ s. IsBehind (k.heard ++ heard_more) to s ⊎ Contains kept s in
      let old : EachStage t.id k.sent Q =
      each_stage-more t.id (λ s. IsBehind k.heard t.write_ts s ⊎ Contains stages s) Q
      (λ s h. elim h [ inl behind ↦ inl (behind_more k.heard heard_more t.write_ts to low s behind) | inr there ↦ on s there ])
      k.sent st.each in
      subst (λ hs. EachStage t.id now.sent (λ s. IsBehind hs to s ⊎ Contains kept s)) (sym grown.heard)
      (subst (λ ms. EachStage t.id ms Q) (sym grown.sent) (All-append (λ m. OnStage t.id Q m.request) k.sent sent_more old new))

  pub sent_on : All (WasStageSent now.sent t.id) stages
  sent_on =
      All-weaker (WasStageSent k.sent t.id) (WasStageSent now.sent t.id)
      (λ s w. record { went_out = subst (λ ms. Any (λ m. m.request ≡ stage_request s) ms) (sym grown.sent) (any_kept (λ m. m.request ≡ stage_request s) k.sent sent_more w.went_out); whose = w.whose })
      stages st.sent

  pub reached_on : (to : ℕ) → t.write_ts ≤ to → All (AreRefutedBelow t.id to) heard_more → All (AreRefutedBelow t.id to) now.heard
  reached_on to low new =
      subst (λ hs. All (AreRefutedBelow t.id to) hs) (sym grown.heard)
      (All-append (AreRefutedBelow t.id to) k.heard heard_more
      (All-weaker (AreRefutedBelow t.id t.write_ts) (AreRefutedBelow t.id to) (λ h r s whose refuted. let below : s.ts < t.write_ts = r s whose refuted in omega (arith, below, low)) k.heard st.reached) new)

  -- what refuses no commit of the transaction leaves the refused ones below
  pub passed_on : (to : ℕ) → t.write_ts ≤ to → All (IsRefusedCommitBelow t.id to) heard_more → All (IsRefusedCommitBelow t.id to) now.heard
  passed_on to low new =
      subst (λ hs. All (IsRefusedCommitBelow t.id to) hs) (sym grown.heard)
      (All-append (IsRefusedCommitBelow t.id to) k.heard heard_more
      (All-weaker (IsRefusedCommitBelow t.id t.write_ts) (IsRefusedCommitBelow t.id to) (λ h r c whose refuses. let below : c.ts < t.write_ts = r c whose refuses in omega (arith, below, low)) k.heard st.passed) new)

  -- and what shows no record that went another way leaves the stages of those that did below
  pub went_past_on : (to : ℕ) → t.write_ts ≤ to → All (IsPastStageBelow t.id to) heard_more → All (IsPastStageBelow t.id to) now.heard
  went_past_on to low new =
      subst (λ hs. All (IsPastStageBelow t.id to) hs) (sym grown.heard)
      (All-append (IsPastStageBelow t.id to) k.heard heard_more
      (All-weaker (IsPastStageBelow t.id t.write_ts) (IsPastStageBelow t.id to) (λ h r s whose past. let below : s.ts < t.write_ts = r s whose past in omega (arith, below, low)) k.heard st.went_past) new)

  pub staged_on : (staged : Option ℕ) → IfSome staged (WasStagedAt k.heard t) → IfSome staged (WasStagedAt now.heard t)
  staged_on None h = tt
  staged_on (Some ts) h =
      subst (λ hs. WasStagedAt hs t ts) (sym grown.heard) (any_kept (λ h. IsTrue (shows_staging t.id t.epoch ts h)) k.heard heard_more h)

  pub refused_on : (out : Option SentCommit) → ((c : SentCommit) → commit ≡ Some c → (out ≡ Some c) ⊎ WasCommitRefused (k.heard ++ heard_more) c)
      → EachCommit t.id sent_more (λ c. (out ≡ Some c) ⊎ WasCommitRefused (k.heard ++ heard_more) c) → EachCommit t.id now.sent (λ c. (out ≡ Some c) ⊎ WasCommitRefused now.heard c)
  refused_on out on new =
      let Q : SentCommit → Type 0 = λ c. (out ≡ Some c) ⊎ WasCommitRefused (k.heard ++ heard_more) c in
      let old : EachCommit t.id k.sent Q =
      each_commit-more t.id (λ c. (commit ≡ Some c) ⊎ WasCommitRefused k.heard c) Q
      (λ c h. elim h [ inl is ↦ on c is | inr refused ↦ inr (any_kept (Refuses c) k.heard heard_more refused) ])
      k.sent st.refused in
      subst (λ hs. EachCommit t.id now.sent (λ c. (out ≡ Some c) ⊎ WasCommitRefused hs c)) (sym grown.heard)
      (subst (λ ms. EachCommit t.id ms Q) (sym grown.sent) (All-append (λ m. OnCommit t.id Q m.request) k.sent sent_more old new))

  pub out_on : ((c : SentCommit) → commit ≡ Some c → All (λ h. Refuses c h → ⊥) heard_more) → IfSome commit (IsCommitOut now.sent now.heard t.id)
  out_on none = by commit refl st.out
    where
      by : (o : Option SentCommit) → commit ≡ o → IfSome o (IsCommitOut k.sent k.heard t.id) → IfSome o (IsCommitOut now.sent now.heard t.id)
      by None is h = tt
      by (Some c) is h = record {
        went_out = subst (λ ms. Any (λ m. m.request ≡ commit_request c) ms) (sym grown.sent) (any_kept (λ m. m.request ≡ commit_request c) k.sent sent_more h.went_out);
        whose = h.whose;
        unrefused = λ refused. none_more (Refuses c) k.heard heard_more h.unrefused (none c is) (subst (λ hs. WasCommitRefused hs c) grown.heard refused);
      }

  pub undecided_on : All (λ h. ShowsOpen t.id h → ⊥) heard_more → (last : Option ℕ) → IsLastStep (ShowsOpen t.id) k.heard last → IsLastStep (ShowsOpen t.id) now.heard last
  undecided_on none last l = subst (λ hs. IsLastStep (ShowsOpen t.id) hs last) (sym grown.heard) (last_on (ShowsOpen t.id) last k.heard heard_more l none)

  -- a late stage stays late
  pub late_on : (s : SentStage) → IsLate k.heard s → IsLate now.heard s
  late_on s late = subst (λ hs. IsLate hs s) (sym grown.heard) (any_kept (λ h. RefutesWrite s h ⊎ RefutesRecord s h) k.heard heard_more late)

  pub timely_on : (to : ℕ) → t.write_ts ≤ to → All (λ s. s.ts ≤ to) stages
  timely_on to low = All-weaker (λ s. s.ts ≤ t.write_ts) (λ s. s.ts ≤ to) (λ s below. omega (arith, below, low)) stages st.timely

  pub all_late_on : (c : SentCommit) → commit ≡ Some c → All (IsLate now.heard) stages
  all_late_on c is = All-weaker (IsLate k.heard) (IsLate now.heard) late_on stages (st.behind_commit c is)

-- ---- the law

module _ (k now : Known) (stages : List SentStage) (commit : Option SentCommit) (t : Txn) (to : ℕ) (x : Evidence) (sent_more : List Sent) (heard_more : List Heard) (st : StagingStands k stages commit t x) (grown : HasGrown k now sent_more heard_more)
    (low : t.write_ts ≤ to) (leave : All (λ h. All (λ s. is_write_refuted s h.request h.reply ≡ false) stages × (ShowsOpen t.id h → ⊥) × AreRefutedBelow t.id to h) heard_more) where
  -- What a reply that leaves the stages says.
  abbrev Leaves : Heard → Type 0
  Leaves h = All (λ s. is_write_refuted s h.request h.reply ≡ false) stages × (ShowsOpen t.id h → ⊥) × AreRefutedBelow t.id to h

  unseen : All (λ h. ShowsOpen t.id h → ⊥) heard_more
  unseen = All-weaker Leaves (λ h. ShowsOpen t.id h → ⊥) (λ h l. l.1) heard_more leave

  pub kept_on : (later : Txn) → later.id ≡ t.id → StaysOrIsFree stages x.staged t later → AreEvidence now.heard later stages x.stages
  kept_on later same (inl stays) =
      subst (λ hs. AreEvidence hs later stages x.stages) (sym grown.heard)
      (subst (λ os. AreEvidence (k.heard ++ heard_more) later stages os) (map_same x.stages)
      (evidence_on k.heard heard_more t later (λ o. o) stages x.stages
      (λ s o there e.
      evidence_step k.heard heard_more t later s o o e same stays.0 stays.1 refl
      (first_on (RefutesWrite s) o.refuted k.heard heard_more e.first_refuted
      (All-weaker Leaves (λ h. RefutesWrite s h → ⊥)
      (λ h l r. let none : is_write_refuted s h.request h.reply ≡ false = All-contains (λ s. is_write_refuted s h.request h.reply ≡ false) stages s l.0 there in let is : is_write_refuted s h.request h.reply ≡ true = r.refuted in absurd cc)
      heard_more leave))
      (All-weaker Leaves (λ h. RefutesRecord s h → ⊥) (λ h l r. l.1 (past_open t.id s h e.whose r)) heard_more leave))
      st.kept))
  kept_on later same (inr free) = by stages x.stages free.0 st.kept
    where
      by : (ss : List SentStage) (os : List StageOut) → ss ≡ [] → AreEvidence k.heard t ss os → AreEvidence now.heard later ss os
      by [] [] none e = tt
      by [] (o ∷ os) none e = absurd e
      by (s ∷ ss) os none e = absurd cc

  staged_as : (later : Txn) → later.id ≡ t.id → StaysOrIsFree stages x.staged t later → IfSome x.staged (WasStagedAt now.heard later)
  staged_as later same (inl stays) = by x.staged (staged_on k now stages commit t x st sent_more heard_more grown x.staged st.last_staged)
    where
      by : (o : Option ℕ) → IfSome o (WasStagedAt now.heard t) → IfSome o (WasStagedAt now.heard later)
      by None h = tt
      by (Some ts) h =
          any_weaker (λ h. IsTrue (shows_staging t.id t.epoch ts h)) (λ h. IsTrue (shows_staging later.id later.epoch ts h))
          (λ g is. subst (λ i. IsTrue (shows_staging i later.epoch ts g)) (sym same) (subst (λ e. IsTrue (shows_staging t.id e ts g)) (sym stays.0) is)) now.heard h
  staged_as later same (inr free) = subst (λ o. IfSome o (WasStagedAt now.heard later)) (sym free.1) tt

  pub goes_on : (later : Txn) → later.id ≡ t.id → later.write_ts ≡ to → StaysOrIsFree stages x.staged t later → All (λ m. SendsNothingNew stages commit t.id m.request) sent_more → StagingStands now stages commit later x
  goes_on later same at stays quiet =
      let Q : SentStage → Type 0 = λ s. IsBehind (k.heard ++ heard_more) to s ⊎ Contains stages s in
      let C : SentCommit → Type 0 = λ c. (commit ≡ Some c) ⊎ WasCommitRefused (k.heard ++ heard_more) c in
      let each = each_on k now stages commit t x st sent_more heard_more grown to low stages (λ s there. inr there)
      (All-weaker (λ m. SendsNothingNew stages commit t.id m.request) (λ m. OnStage t.id Q m.request) (λ m n. on_stage-more t.id (Contains stages) Q (λ s there. inr there) m.request n.stage) sent_more quiet) in
      let refused = refused_on k now stages commit t x st sent_more heard_more grown commit (λ c is. inl is)
      (All-weaker (λ m. SendsNothingNew stages commit t.id m.request) (λ m. OnCommit t.id C m.request) (λ m n. on_commit-more t.id (λ c. commit ≡ Some c) C (λ c is. inl is) m.request n.commits) sent_more quiet) in
      record {
        each = subst (λ n. EachStage later.id now.sent (λ s. IsBehind now.heard n s ⊎ Contains stages s)) (sym at)
            (subst (λ i. EachStage i now.sent (λ s. IsBehind now.heard to s ⊎ Contains stages s)) (sym same) each);
        sent = subst (λ i. All (WasStageSent now.sent i) stages) (sym same) (sent_on k now stages commit t x st sent_more heard_more grown);
        kept = kept_on later same stays;
        apart = st.apart;
        timely = subst (λ n. All (λ s. s.ts ≤ n) stages) (sym at) (timely_on k now stages commit t x st sent_more heard_more grown to low);
        older = λ s other there also below. late_on k now stages commit t x st sent_more heard_more grown s (st.older s other there also below);
        staged_by = st.staged_by;
        behind_commit = all_late_on k now stages commit t x st sent_more heard_more grown;
        reached = subst (λ n. All (AreRefutedBelow later.id n) now.heard) (sym at)
            (subst (λ i. All (AreRefutedBelow i to) now.heard) (sym same)
            (reached_on k now stages commit t x st sent_more heard_more grown to low (All-weaker Leaves (AreRefutedBelow t.id to) (λ h l. l.2) heard_more leave)));
        last_staged = staged_as later same stays;
        last_undecided = subst (λ i. IsLastStep (ShowsOpen i) now.heard x.undecided) (sym same) (undecided_on k now stages commit t x st sent_more heard_more grown unseen x.undecided st.last_undecided);
        passed = subst (λ n. All (IsRefusedCommitBelow later.id n) now.heard) (sym at)
            (subst (λ i. All (IsRefusedCommitBelow i to) now.heard) (sym same)
            (passed_on k now stages commit t x st sent_more heard_more grown to low (All-weaker Leaves (IsRefusedCommitBelow t.id to) (λ h l c whose r. absurd (l.1 (refused_open t.id c h whose r))) heard_more leave)));
        went_past = subst (λ n. All (IsPastStageBelow later.id n) now.heard) (sym at)
            (subst (λ i. All (IsPastStageBelow i to) now.heard) (sym same)
            (went_past_on k now stages commit t x st sent_more heard_more grown to low (All-weaker Leaves (IsPastStageBelow t.id to) (λ h l s whose r. absurd (l.1 (past_open t.id s h whose r))) heard_more leave)));
        refused = subst (λ i. EachCommit i now.sent (λ c. (commit ≡ Some c) ⊎ WasCommitRefused now.heard c)) (sym same) refused;
        commit_at = st.commit_at;
        out = subst (λ i. IfSome commit (IsCommitOut now.sent now.heard i)) (sym same)
            (out_on k now stages commit t x st sent_more heard_more grown
            (λ c is. All-weaker Leaves (λ h. Refuses c h → ⊥) (λ h l r. l.1 (refused_open t.id c h (whose_out c is) r)) heard_more leave));
      }
    where
      whose_out : (c : SentCommit) → commit ≡ Some c → c.meta.id ≡ t.id
      whose_out c is = let o : IfSome (Some c) (IsCommitOut k.sent k.heard t.id) = subst (λ o. IfSome o (IsCommitOut k.sent k.heard t.id)) is st.out in o.whose

pub staging_on : StagingStandsOn
staging_on k now stages commit t later x sent_more heard_more st grown on quiet leave =
    goes_on k now stages commit t later.write_ts x sent_more heard_more st grown on.no_earlier
    (All-weaker (LeavesStages stages later) (λ h. All (λ s. is_write_refuted s h.request h.reply ≡ false) stages × (ShowsOpen t.id h → ⊥) × AreRefutedBelow t.id later.write_ts h)
    (λ h l. (
      l.unrefuted,
      (λ shows. let none : shows_undecided t.id h.request h.reply ≡ false = subst (λ i. shows_undecided i h.request h.reply ≡ false) on.same l.unseen in let is : shows_undecided t.id h.request h.reply ≡ true = shows in absurd cc),
      subst (λ i. AreRefutedBelow i later.write_ts h) on.same l.reaches,
    ))
    heard_more leave)
    later on.same refl on.stays quiet
