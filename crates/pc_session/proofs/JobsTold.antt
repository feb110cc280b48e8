-- The jobs that wait at a session may be done after an answer; and one that ends a transaction leaves one more.
use Rattle.std.proofs.Common.{◌≡◌, ℕ, ◌+◌, ◌≤◌, max, Bool, true, false, cond, All, Contains, List, [], ◌∷◌, ◌++◌, map, Option, Some, None, IfSome, ◌⊎◌, inl, inr, refl, sym, ap, subst, ◌∙◌, arith}
use Rattle.std.proofs.lemmas.List.{append_assoc, append-nil}
use Rattle.std.proofs.lemmas.List.{map-append}
use Rattle.std.proofs.lemmas.List.Elements.{All-cons, All-head, All-push, All-tail, All-weaker}
use Rattle.std.specs.Option.{option_or, option_to_list}
use Rattle.pc_base.specs.declared.transaction.TxnId.{TxnId}
use Rattle.pc_coord.specs.declared.job.Job.{Job}
use Rattle.pc_coord.specs.Knows.{MayFinishJob, commit_in_front, messages_left, messages_of_job}
use Rattle.pc_lists.proofs.Lists.{contains_cons, contains_head, contains_tail}
use Rattle.pc_proto.specs.declared.answer.Answer.{Answer}
use Rattle.pc_proto.specs.declared.answer.Answer.TheVariants as answers
use Rattle.pc_proto.specs.declared.fate.Fate.{Fate}
use Rattle.pc_proto.specs.declared.fate.Fate.TheVariants as fates
use Rattle.pc_proto.specs.declared.request.Request.{Request}
use Rattle.pc_proto.specs.declared.request.Request.TheVariants as requests
use Rattle.pc_proto.specs.Stamps.{answer_stamps, fate_stamps, greatest_of}
use Rattle.pc_follows.specs.FinishingJobs.{committing, left_by, left_committed, left_if, settling, with_job}
use Rattle.pc_world.specs.Known.{Known, first_if, open_txn, told_first, txn_begun, txns_told}
use Rattle.pc_world.specs.Known.Statements.{Statement, begun_told, is_open_told}
use Rattle.pc_world.specs.Known.Traffic.{Heard, replies_to}
use Rattle.pc_world.specs.Known.Transactions.{Txn, txn_told}
use Rattle.pc_world.specs.Send.Settling.{MustSettle}
use Rattle.pc_world.specs.Views.{fate_heard}
use Rattle.pc_exchange.specs.Jobs.{IsFinishable}
use Rattle.pc_session.proofs.FirstCommits.{first_told, settles_on}
use Rattle.pc_session.proofs.Jobs.{AreBegun, AreSameTxns, HasJobs, IsNotOpen, same_itself, same_numbers, same_other}
use Rattle.pc_session.proofs.Knowing.{with_told}

-- Of these transactions, what must be settled of one.
abbrev MustBy : List Txn → TxnId → List (List ℕ) → List (List ℕ) → Type 0
MustBy txns id shown locks = ((t : Txn) × Contains txns t × (t.id ≡ id) × (locks ≡ t.locks)) ⊎ (All (λ t. t.id ≡ id → ⊥) txns × (locks ≡ shown))

module _ (answer : Answer) (replied : List Heard) where
  first_same : (ts : List Txn) → AreSameTxns (told_first answer replied ts) ts
  first_same [] = tt
  first_same (t ∷ ts) = (refl, same_itself ts)

  when_same : (b : Bool) (ts : List Txn) → AreSameTxns (cond b (told_first answer replied ts) ts) ts
  when_same true ts = first_same ts
  when_same false ts = same_itself ts

  module _ (id : TxnId) (shown locks : List (List ℕ)) where
    first_must : (ts : List Txn) → MustBy ts id shown locks → MustBy (told_first answer replied ts) id shown locks
    first_must [] must = must
    first_must (t ∷ ts) (inl (u, there, same, own)) = elim (contains_cons t ts u there) [
      | inl is ↦ inl (txn_told answer replied t, contains_head (txn_told answer replied t) ts, ap (λ (t : Txn). t.id) is ∙ same, own ∙ sym (ap (λ (t : Txn). t.locks) is))
      | inr later ↦ inl (u, contains_tail (txn_told answer replied t) ts u later, same, own)
    ]
    first_must (t ∷ ts) (inr (others, is)) =
        let P : Txn → Type 0 = λ t. t.id ≡ id → ⊥ in
        inr (All-cons P (txn_told answer replied t) ts (All-head P t ts others) (All-tail P t ts others), is)

    when_must : (b : Bool) (ts : List Txn) → MustBy ts id shown locks → MustBy (cond b (told_first answer replied ts) ts) id shown locks
    when_must true ts must = first_must ts must
    when_must false ts must = must

begun_id : (s : Option Statement) (id : TxnId) (ts : ℕ) → (txn_begun s id ts).id ≡ id
begun_id None id ts = refl
begun_id (Some s) id ts = refl

-- one more transaction, of another name
more_must : (id : TxnId) (shown locks : List (List ℕ)) (t : Txn) (ts : List Txn) → (t.id ≡ id → ⊥) → MustBy ts id shown locks → MustBy (t ∷ ts) id shown locks
more_must id shown locks t ts differ (inl (u, there, same, own)) = inl (u, contains_tail t ts u there, same, own)
more_must id shown locks t ts differ (inr (others, is)) = inr (All-cons (λ t. t.id ≡ id → ⊥) t ts differ others, is)

-- Where an answer begins a transaction, it is the next one.
abbrev pub BeginsNext : ℕ → Answer → Type 0
BeginsNext begun (answers.Begun id ts) = id.number ≡ begun + 1
BeginsNext begun _ = Unit {0}

-- What an answer makes of the transactions: one more is begun and open, or they keep their names, and none is opened.
module _ (k : Known) where
  numbers_told : (answer : Answer) → BeginsNext k.begun answer → AreBegun k.begun k.txns → AreBegun (begun_told answer k.begun) (txns_told answer k)
  numbers_told (answers.Begun id ts) begins a =
      All-cons (λ t. t.id.number ≤ k.begun + 1) (txn_begun k.statement id ts) k.txns
      (subst (λ (id : TxnId). id.number ≤ k.begun + 1) (sym (begun_id k.statement id ts)) (omega arith))
      (All-weaker (λ t. t.id.number ≤ k.begun) (λ t. t.id.number ≤ k.begun + 1) (λ t le. omega arith) k.txns a)
  numbers_told answer begins a = same_numbers k.begun (txns_told answer k) k.txns (when_same answer (replies_to k.sent_now k.heard_now) k.is_open k.txns) a

  low_next : (begun number next : ℕ) → number ≤ begun → next ≡ begun + 1 → next ≡ number → ⊥
  low_next begun number next low is same = absurd (omega arith)

  not_next : (id other : TxnId) → id.number ≤ k.begun → other.number ≡ k.begun + 1 → other ≡ id → ⊥
  not_next id other low next same = low_next k.begun id.number other.number low next (ap (λ (id : TxnId). id.number) same)

  must_told : (answer : Answer) (id : TxnId) (shown locks : List (List ℕ)) → BeginsNext k.begun answer → id.number ≤ k.begun → MustSettle k id shown locks → MustSettle (with_told answer k) id shown locks
  must_told (answers.Begun other ts) id shown locks begins low must =
      more_must id shown locks (txn_begun k.statement other ts) k.txns (λ e. not_next id other low begins (sym (begun_id k.statement other ts) ∙ e)) must
  must_told answer id shown locks begins low must = when_must answer (replies_to k.sent_now k.heard_now) id shown locks k.is_open k.txns must

  none_opened : (id : TxnId) (before after : Bool) (ts us : List Txn) → (after ≡ true → before ≡ true) → AreSameTxns ts us → IsNotOpen id before us → IsNotOpen id after ts
  none_opened id before true ts us opens same other t is named = same_other id true ts us same (subst (λ b. IsNotOpen id b us) (opens refl) other) t is named
  none_opened id before false [] us opens same other t is named = cc
  none_opened id before false (first ∷ ts) us opens same other t is named = cc

  other_told : (answer : Answer) (id : TxnId) → BeginsNext k.begun answer → id.number ≤ k.begun → IsNotOpen id k.is_open k.txns → IsNotOpen id (is_open_told answer k.is_open) (txns_told answer k)
  other_told (answers.Begun new ts) id begins low other = λ t is named.
      let e : txn_begun k.statement new ts ≡ t = cc in
      not_next id new low begins (sym (named ∙ (sym (ap (λ (t : Txn). t.id) e) ∙ begun_id k.statement new ts)))
  other_told (answers.Committed own ts) id begins low other = none_opened id k.is_open false (txns_told (answers.Committed own ts) k) k.txns (λ e. absurd cc) (when_same (answers.Committed own ts) (replies_to k.sent_now k.heard_now) k.is_open k.txns) other
  other_told (answers.RolledBack own why) id begins low other = none_opened id k.is_open false (txns_told (answers.RolledBack own why) k) k.txns (λ e. absurd cc) (when_same (answers.RolledBack own why) (replies_to k.sent_now k.heard_now) k.is_open k.txns) other
  other_told (answers.Aborted why) id begins low other = none_opened id k.is_open false (txns_told (answers.Aborted why) k) k.txns (λ e. absurd cc) (when_same (answers.Aborted why) (replies_to k.sent_now k.heard_now) k.is_open k.txns) other
  other_told (answers.Unknown own) id begins low other = none_opened id k.is_open false (txns_told (answers.Unknown own) k) k.txns (λ e. absurd cc) (when_same (answers.Unknown own) (replies_to k.sent_now k.heard_now) k.is_open k.txns) other
  other_told answer id begins low other = none_opened id k.is_open k.is_open (txns_told answer k) k.txns (λ e. e) (when_same answer (replies_to k.sent_now k.heard_now) k.is_open k.txns) other

  begun_more : (answer : Answer) → k.begun ≤ begun_told answer k.begun
  begun_more (answers.Begun id ts) = omega arith
  begun_more answer = omega arith

  -- a job that waits may be done after the answer
  left_told : (answer : Answer) (job : Job) → BeginsNext k.begun answer → IsFinishable k job → IsFinishable (with_told answer k) job
  left_told answer job begins left =
      let more = begun_more answer in
      let low = left.begun in
      record {
        may = settles_on k (with_told answer k) job (λ may. record {
          resolve = may.resolve;
          stamps = All-weaker (λ ts. ts ≤ k.top + 1) (λ ts. ts ≤ max k.top (max (greatest_of (answer_stamps answer)) 0) + 1) (λ ts low. omega (arith, low)) (fate_stamps job.fate) may.stamps;
          anchored = may.anchored;
          shown = may.shown;
          final = may.final;
          must = must_told answer job.meta.id may.shown job.locks begins left.begun may.must;
        }) (λ ts first. first_told k job left ts first answer) left.may;
        begun = omega arith;
        other = other_told answer job.meta.id begins left.begun left.other;
      }

-- ---- the job that the answer leaves

last_same : {X : Type 0} (xs ys : List X) (x y : X) → xs ++ x ∷ [] ≡ ys ++ y ∷ [] → x ≡ y
last_same [] [] x y e = cc
last_same [] (b ∷ []) x y e = absurd cc
last_same [] (b ∷ c ∷ ys) x y e = absurd cc
last_same (a ∷ []) [] x y e = absurd cc
last_same (a ∷ b ∷ xs) [] x y e = absurd cc
last_same (a ∷ xs) (b ∷ ys) x y e = let f : xs ++ x ∷ [] ≡ ys ++ y ∷ [] = cc in last_same xs ys x y f

none_last : {X : Type 0} (xs : List X) (x : X) → xs ++ x ∷ [] ≡ [] → ⊥
none_last [] x e = cc
none_last (y ∷ xs) x e = cc

-- The messages of a job before the last, and the last.
abbrev front_of : Job → List Request
front_of job = commit_in_front job.staged job ++ map (λ lock. requests.Resolve job.meta.id lock job.fate) job.locks

abbrev last_of : Job → Request
last_of job = requests.Remove job.meta.id job.meta.anchor

whole_of : (job : Job) → messages_of_job job ≡ front_of job ++ last_of job ∷ []
whole_of job = sym (append_assoc (commit_in_front job.staged job) (map (λ lock. requests.Resolve job.meta.id lock job.fate) job.locks) (last_of job ∷ []))

removed_of : (job : Job) (t : Txn) (fate : Option Fate) (anchor : Option (List ℕ)) → messages_of_job job ≡ settling t fate anchor → job.meta.id ≡ t.id
removed_of job t None anchor e = absurd (none_last (front_of job) (last_of job) (sym (whole_of job) ∙ e))
removed_of job t (Some fate) None e = absurd (none_last (front_of job) (last_of job) (sym (whole_of job) ∙ e))
removed_of job t (Some fate) (Some anchor) e =
    let same = last_same (front_of job) (map (λ lock. requests.Resolve t.id lock fate) t.locks) (last_of job) (requests.Remove t.id anchor) (sym (whole_of job) ∙ e) in
    cc

-- The job is one of the open transaction, which the answer ends.
pub record EndsBy (k : Known) (answer : Answer) (job : Job) : Type 0 where
  pub t : Txn
  pub opened : open_txn k ≡ Some t
  pub named : job.meta.id ≡ t.id
  pub closed : is_open_told answer k.is_open ≡ false
  pub begun : begun_told answer k.begun ≡ k.begun

ends_if : (k : Known) (job : Job) (t : Option Txn) → messages_of_job job ≡ left_if k t → (u : Txn) × (t ≡ Some u) × (job.meta.id ≡ u.id)
ends_if k job None e = absurd (none_last (front_of job) (last_of job) (sym (whole_of job) ∙ e))
ends_if k job (Some t) e = (t, refl, removed_of job t (fate_heard t.id k.heard) t.anchor e)

fate_after_commit : (o : Option Fate) (other : Fate) → (fate : Fate) × (option_or o (Some other) ≡ Some fate)
fate_after_commit None other = (other, refl)
fate_after_commit (Some fate) other = (fate, refl)

-- the last message of what is left names the transaction, whatever stands before its settling
ends_committed : (k : Known) (job : Job) (ts : ℕ) (t : Option Txn) → messages_of_job job ≡ left_committed ts k t → (u : Txn) × (t ≡ Some u) × (job.meta.id ≡ u.id)
ends_committed k job ts None e = absurd (none_last (front_of job) (last_of job) (sym (whole_of job) ∙ e))
ends_committed k job ts (Some t) e =
    let f = fate_after_commit (fate_heard t.id k.heard) (fates.Committed t.epoch ts) in
    (t, refl, by t.anchor f.0 (e ∙ ap (λ o. committing k t ts t.anchor ++ settling t o t.anchor) f.1))
  where
    by : (anchor : Option (List ℕ)) (fate : Fate) → messages_of_job job ≡ committing k t ts anchor ++ settling t (Some fate) anchor → job.meta.id ≡ t.id
    by None fate e = absurd (none_last (front_of job) (last_of job) (sym (whole_of job) ∙ e))
    by (Some anchor) fate e =
        let front = committing k t ts (Some anchor) in
        let locks = map (λ lock. requests.Resolve t.id lock fate) t.locks in
        let same = last_same (front_of job) (front ++ locks) (last_of job) (requests.Remove t.id anchor) (sym (whole_of job) ∙ (e ∙ sym (append_assoc front locks (requests.Remove t.id anchor ∷ [])))) in
        cc

pub ends_by : (answer : Answer) (k : Known) (job : Job) → messages_of_job job ≡ left_by answer k → EndsBy k answer job
ends_by (answers.Committed id ts) k job e = let t = ends_committed k job ts (open_txn k) e in record { t = t.0; opened = t.1; named = t.2; closed = refl; begun = refl }
ends_by (answers.Aborted why) k job e = let t = ends_if k job (open_txn k) e in record { t = t.0; opened = t.1; named = t.2; closed = refl; begun = refl }
ends_by (answers.RolledBack id why) k job e = let t = ends_if k job (open_txn k) e in record { t = t.0; opened = t.1; named = t.2; closed = refl; begun = refl }
ends_by answer k job e = absurd (none_last (front_of job) (last_of job) (sym (whole_of job) ∙ e))

open_number : (begun : ℕ) (b : Bool) (ts : List Txn) (t : Txn) → AreBegun begun ts → first_if b ts ≡ Some t → t.id.number ≤ begun
open_number begun b [] t a is = absurd cc
open_number begun true (first ∷ ts) t a is = let e : first ≡ t = cc in subst (λ (t : Txn). t.id.number ≤ begun) e (All-head (λ t. t.id.number ≤ begun) first ts a)
open_number begun false (first ∷ ts) t a is = absurd cc

closed_none : (b : Bool) (ts : List Txn) (t : Txn) → b ≡ false → first_if b ts ≡ Some t → ⊥
closed_none b [] t e is = cc
closed_none true (first ∷ ts) t e is = cc
closed_none false (first ∷ ts) t e is = cc

-- the job that the answer leaves may be done
left_new : (answer : Answer) (k : Known) (job : Job) → AreBegun k.begun k.txns → messages_of_job job ≡ left_by answer k → MayFinishJob (with_told answer k) job → IsFinishable (with_told answer k) job
left_new answer k job numbers e may =
    let ends = ends_by answer k job e in
    let low = subst (λ (id : TxnId). id.number ≤ k.begun) (sym ends.named) (open_number k.begun k.is_open k.txns ends.t numbers ends.opened) in
    record {
      may = may;
      begun = subst (λ n. job.meta.id.number ≤ n) (sym ends.begun) low;
      other = λ t is named. closed_none (is_open_told answer k.is_open) (txns_told answer k) t ends.closed is;
    }

-- an answer is told
pub jobs_told : (jobs : List Job) (k : Known) (answer : Answer) (left : Option Job) → BeginsNext k.begun answer → messages_left left ≡ left_by answer k → IfSome left (MayFinishJob (with_told answer k)) → HasJobs jobs k
    → HasJobs (jobs ++ option_to_list left) (with_told answer k)
jobs_told jobs k answer left begins is may has = record { numbers = numbers_told k answer begins has.numbers; left = by left is may }
  where
    old : All (IsFinishable (with_told answer k)) jobs
    old = All-weaker (IsFinishable k) (IsFinishable (with_told answer k)) (λ job left. left_told k answer job begins left) jobs has.left

    by : (left : Option Job) → messages_left left ≡ left_by answer k → IfSome left (MayFinishJob (with_told answer k)) → All (IsFinishable (with_told answer k)) (jobs ++ option_to_list left)
    by None is may = subst (All (IsFinishable (with_told answer k))) (sym (append-nil jobs)) old
    by (Some job) is may = All-push (IsFinishable (with_told answer k)) jobs job old (left_new answer k job has.numbers is may)

with_last : (messages : List Request) (last : Request) (jobs : List (List Request)) → with_job (messages ++ last ∷ []) jobs ≡ jobs ++ (messages ++ last ∷ []) ∷ []
with_last [] last jobs = refl
with_last (message ∷ messages) last jobs = refl

-- the jobs that wait after it
pub jobs_after_told : (jobs : List Job) (k : Known) (answer : Answer) (left : Option Job) → messages_left left ≡ left_by answer k → with_job (left_by answer k) (map messages_of_job jobs) ≡ map messages_of_job (jobs ++ option_to_list left)
jobs_after_told jobs k answer None is = ap (λ messages. with_job messages (map messages_of_job jobs)) (sym is) ∙ sym (ap (map messages_of_job) (append-nil jobs))
jobs_after_told jobs k answer (Some job) is =
    ap (λ messages. with_job messages (map messages_of_job jobs)) (sym is)
    ∙ (ap (λ messages. with_job messages (map messages_of_job jobs)) (whole_of job)
    ∙ (with_last (front_of job) (last_of job) (map messages_of_job jobs)
    ∙ (ap (λ messages. map messages_of_job jobs ++ messages ∷ []) (sym (whole_of job)) ∙ sym (map-append messages_of_job jobs (job ∷ [])))))
