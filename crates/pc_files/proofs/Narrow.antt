-- What is so of a transaction by what is filed under it is so by all that was sent and heard.
use Rattle.std.proofs.Common.{◌≡◌, ◌↔◌, ◌⊎◌, ◌&&◌, ◌==◌, zero, suc, Bool, true, false, cond, All, Any, IsTrue, List, [], ◌∷◌, filter, refl, sym, subst, ◌∙◌, inl, inr, arith}
use Rattle.std.proofs.lemmas.List.Elements.{All-cons, All-head, All-nil, All-tail}
use Rattle.std.proofs.lemmas.Bool.{and_parts}
use Rattle.pc_base.specs.declared.transaction.TxnId.{TxnId}
use Rattle.pc_base.specs.Transaction.{same_txn}
use Rattle.pc_files.specs.Filing.{decided_by, deciding_of, is_txn, replies_of, txn_named}
use Rattle.pc_proto.specs.declared.reply.Reply.{Reply}
use Rattle.pc_proto.specs.declared.reply.Reply.TheVariants as replies
use Rattle.pc_proto.specs.declared.request.Request.{Request}
use Rattle.pc_proto.specs.declared.request.Request.TheVariants as requests
use Rattle.pc_proto.specs.Requests.{is_about}
use Rattle.pc_world.specs.Known.Traffic.{Heard, Sent}
use Rattle.pc_world.specs.StageFate.{EachCommit, EachStage, IsDead, IsDeadByWrite, IsLate, IsLateByRecord, IsUncommitted, IsUnsettledAfter, OnCommit, OnStage, Refuses, RefutesRecord, RefutesWrite, SentCommit, SentStage, WasCommitRefused, is_write_refuted}

-- ---- a list, and those of its elements that pass a test

module _ {X : Type 0} (p : X → Bool) where
  module _ (P : X → Type 0) where
    any-head : (x : X) (xs : List X) → P x → Any P (x ∷ xs)
    any-head x xs h = (zero, x, omega arith, refl, h)

    any-tail : (x : X) (xs : List X) → Any P xs → Any P (x ∷ xs)
    any-tail x xs a = (suc a.0, a.1, omega (arith, a.2), a.3, a.4)

    any-parts : (x : X) (xs : List X) → Any P (x ∷ xs) → P x ⊎ Any P xs
    any-parts x xs (zero, y, low, is, h) = let same : x ≡ y = cc in inl (subst P (sym same) h)
    any-parts x xs (suc n, y, low, is, h) = inr (n, y, omega arith, is, h)

    any-more : (b : Bool) (x : X) (xs : List X) → p x ≡ b → Any P (cond b (x ∷ xs) xs) → Any P (x ∷ xs)
    any-more true x xs e a = a
    any-more false x xs e a = any-tail x xs a

  module _ (P : X → Type 0) (passes : (x : X) → P x → p x ≡ true) where
    wide-one : (b : Bool) (y : X) (ys : List X) → (Any P (filter p ys) → Any P ys) → Any P (cond b (y ∷ filter p ys) (filter p ys)) → Any P (y ∷ ys)
    wide-one true y ys later a = elim (any-parts P y (filter p ys) a) [ inl here ↦ any-head P y ys here | inr there ↦ any-tail P y ys (later there) ]
    wide-one false y ys later a = any-tail P y ys (later a)

    wide : (ys : List X) → Any P (filter p ys) → Any P ys
    wide [] a = a
    wide (y ∷ ys) a = wide-one (p y) y ys (wide ys) a

    narrow-one : (b : Bool) (y : X) (ys : List X) → p y ≡ b → (Any P ys → Any P (filter p ys)) → P y ⊎ Any P ys → Any P (cond b (y ∷ filter p ys) (filter p ys))
    narrow-one true y ys e later (inl here) = any-head P y (filter p ys) here
    narrow-one true y ys e later (inr there) = any-tail P y (filter p ys) (later there)
    narrow-one false y ys e later (inl here) = let t : true ≡ false = sym (passes y here) ∙ e in absurd cc
    narrow-one false y ys e later (inr there) = later there

    narrow : (ys : List X) → Any P ys → Any P (filter p ys)
    narrow [] a = a
    narrow (y ∷ ys) a = narrow-one (p y) y ys refl (narrow ys) (any-parts P y ys a)

    -- one that is so is among those that pass
    pub any_narrow : (xs : List X) → Any P (filter p xs) ↔ Any P xs
    any_narrow xs = (wide xs, narrow xs)

  module _ (P Q : X → Type 0) (same : (x : X) → p x ≡ true → P x ↔ Q x) (other : (x : X) → p x ≡ false → Q x) where
    all-wide-one : (b : Bool) (y : X) (ys : List X) → p y ≡ b → (All P (filter p ys) → All Q ys) → All P (cond b (y ∷ filter p ys) (filter p ys)) → All Q (y ∷ ys)
    all-wide-one true y ys e later a = All-cons Q y ys ((same y e).0 (All-head P y (filter p ys) a)) (later (All-tail P y (filter p ys) a))
    all-wide-one false y ys e later a = All-cons Q y ys (other y e) (later a)

    all-wide : (ys : List X) → All P (filter p ys) → All Q ys
    all-wide [] a = All-nil Q
    all-wide (y ∷ ys) a = all-wide-one (p y) y ys refl (all-wide ys) a

    all-narrow-one : (b : Bool) (y : X) (ys : List X) → p y ≡ b → (All Q ys → All P (filter p ys)) → All Q (y ∷ ys) → All P (cond b (y ∷ filter p ys) (filter p ys))
    all-narrow-one true y ys e later a = All-cons P y (filter p ys) ((same y e).1 (All-head Q y ys a)) (later (All-tail Q y ys a))
    all-narrow-one false y ys e later a = later (All-tail Q y ys a)

    all-narrow : (ys : List X) → All Q ys → All P (filter p ys)
    all-narrow [] a = All-nil P
    all-narrow (y ∷ ys) a = all-narrow-one (p y) y ys refl (all-narrow ys) a

    -- where those that do not pass are so anyway
    pub all_narrow : (xs : List X) → All P (filter p xs) ↔ All Q xs
    all_narrow xs = (all-wide xs, all-narrow xs)

-- ---- stages and commits, by what was heard

pub same_is : (one other : TxnId) → same_txn one other ≡ true → one ≡ other
same_is one other h = grind arith

pub itself : (id : TxnId) → same_txn id id ≡ true
itself id = grind arith

-- a request that speaks of the transaction's record names it
pub record_named : (id : TxnId) (request : Request) → is_about id request ≡ true → is_txn id (txn_named request) ≡ true
record_named id (requests.Beat meta ts now) h = h
record_named id (requests.Stage meta ts now writes locks) h = h
record_named id (requests.Commit meta ts locks) h = h
record_named id (requests.Abort meta why locks) h = h
record_named id (requests.Push holder by level now goal) h = h
record_named id (requests.Recover other epoch ts anchor finding) h = h
record_named id (requests.Remove other anchor) h = h
record_named id _ h = let no : false ≡ true = h in absurd (cc no)

module _ (s : SentStage) (id : TxnId) (whose : s.meta.id ≡ id) where
  named : (other : TxnId) → same_txn other s.meta.id ≡ true → same_txn other id ≡ true
  named other same = subst (λ i. same_txn other i ≡ true) whose same

  write_named : (request : Request) (reply : Reply) → IsTrue (is_write_refuted s request reply) → is_txn id (txn_named request) ≡ true
  write_named (requests.Put meta seq at key value) (replies.Written ts) t = named meta.id (and_parts (same_txn meta.id s.meta.id) _ (and_parts (same_txn meta.id s.meta.id && meta.epoch == s.meta.epoch) _ t).0).0
  write_named (requests.Query other epoch seq at key who) replies.Missing t = named other (and_parts (same_txn other s.meta.id) _ (and_parts (same_txn other s.meta.id && epoch == s.meta.epoch) _ t).0).0
  write_named _ _ t = absurd cc

  of_write : (h : Heard) → RefutesWrite s h → is_txn id (txn_named h.request) ≡ true
  of_write h r = write_named h.request h.reply r.refuted

  of_record : (h : Heard) → RefutesRecord s h → is_txn id (txn_named h.request) ≡ true
  of_record h r = subst (λ request. is_txn id (txn_named request) ≡ true) (sym r.asked) (named s.meta.id (itself s.meta.id))

  module _ (heard : List Heard) where
    abbrev about : Heard → Bool
    about h = is_txn id (txn_named h.request)

    pub late_by_record : IsLateByRecord (replies_of id heard) s ↔ IsLateByRecord heard s
    late_by_record = any_narrow about (RefutesRecord s) of_record heard

    pub late : IsLate (replies_of id heard) s ↔ IsLate heard s
    late = any_narrow about (λ h. RefutesWrite s h ⊎ RefutesRecord s h) (λ h r. elim r [ inl w ↦ of_write h w | inr t ↦ of_record h t ]) heard

    unsettled : (h : Heard) → Any (IsUnsettledAfter s h) (replies_of id heard) ↔ Any (IsUnsettledAfter s h) heard
    unsettled h = any_narrow about (IsUnsettledAfter s h) (λ later u. let parts = and_parts (is_about s.meta.id later.request) _ u.unsettled in record_named id later.request (subst (λ i. is_about i later.request ≡ true) whose parts.0)) heard

    dead_by_write : (h : Heard) → IsDeadByWrite (replies_of id heard) s h ↔ IsDeadByWrite heard s h
    dead_by_write h = (λ d. record { refuted = d.refuted; undecided = (unsettled h).0 d.undecided }, λ d. record { refuted = d.refuted; undecided = (unsettled h).1 d.undecided })

    some_dead : Any (IsDeadByWrite (replies_of id heard) s) (replies_of id heard) ↔ Any (IsDeadByWrite heard s) heard
    some_dead = (
      λ a. let b = (any_narrow about (IsDeadByWrite (replies_of id heard) s) (λ h d. of_write h d.refuted) heard).0 a in (b.0, b.1, b.2, b.3, (dead_by_write b.1).0 b.4),
      λ a. (any_narrow about (IsDeadByWrite (replies_of id heard) s) (λ h d. of_write h d.refuted) heard).1 (a.0, a.1, a.2, a.3, (dead_by_write a.1).1 a.4),
    )

    pub dead : IsDead (replies_of id heard) s ↔ IsDead heard s
    dead = (
      λ d. elim d [ inl r ↦ inl (late_by_record.0 r) | inr w ↦ inr (some_dead.0 w) ],
      λ d. elim d [ inl r ↦ inl (late_by_record.1 r) | inr w ↦ inr (some_dead.1 w) ],
    )

-- a commit was refused
pub refused : (c : SentCommit) (id : TxnId) → c.meta.id ≡ id → (heard : List Heard) → WasCommitRefused (replies_of id heard) c ↔ WasCommitRefused heard c
refused c id whose heard =
    any_narrow (λ (h : Heard). is_txn id (txn_named h.request)) (Refuses c)
    (λ h r. subst (λ request. is_txn id (txn_named request) ≡ true) (sym r.asked) (subst (λ i. same_txn c.meta.id i ≡ true) whose (itself c.meta.id))) heard

-- ---- each stage and each commit that was sent

module _ (id : TxnId) (P Q : SentStage → Type 0) (same : (s : SentStage) → s.meta.id ≡ id → P s ↔ Q s) where
  on_stage : (request : Request) → OnStage id P request ↔ OnStage id Q request
  on_stage (requests.Stage meta ts now writes locks) = (λ h t. (same _ (same_is meta.id id t)).0 (h t), λ h t. (same _ (same_is meta.id id t)).1 (h t))
  on_stage _ = (λ h. tt, λ h. tt)

  no_stage : (request : Request) → is_txn id (decided_by request) ≡ false → OnStage id Q request
  no_stage (requests.Stage meta ts now writes locks) off = λ t. let no : true ≡ false = sym t ∙ off in absurd (cc no)
  no_stage _ off = tt

  pub each_stage : (sent : List Sent) → EachStage id (deciding_of id sent) P ↔ EachStage id sent Q
  each_stage sent =
      all_narrow (λ (m : Sent). is_txn id (decided_by m.request)) (λ m. OnStage id P m.request) (λ m. OnStage id Q m.request)
      (λ m t. on_stage m.request) (λ m off. no_stage m.request off) sent

module _ (id : TxnId) (P Q : SentCommit → Type 0) (same : (c : SentCommit) → c.meta.id ≡ id → P c ↔ Q c) where
  on_commit : (request : Request) → OnCommit id P request ↔ OnCommit id Q request
  on_commit (requests.Commit meta ts locks) = (λ h t. (same _ (same_is meta.id id t)).0 (h t), λ h t. (same _ (same_is meta.id id t)).1 (h t))
  on_commit _ = (λ h. tt, λ h. tt)

  no_commit : (request : Request) → is_txn id (decided_by request) ≡ false → OnCommit id Q request
  no_commit (requests.Commit meta ts locks) off = λ t. let no : true ≡ false = sym t ∙ off in absurd (cc no)
  no_commit _ off = tt

  pub each_commit : (sent : List Sent) → EachCommit id (deciding_of id sent) P ↔ EachCommit id sent Q
  each_commit sent =
      all_narrow (λ (m : Sent). is_txn id (decided_by m.request)) (λ m. OnCommit id P m.request) (λ m. OnCommit id Q m.request)
      (λ m t. on_commit m.request) (λ m off. no_commit m.request off) sent

-- no stage and no commit came to anything
pub uncommitted : (id : TxnId) (sent : List Sent) (heard : List Heard) → IsUncommitted id (deciding_of id sent) (replies_of id heard) ↔ IsUncommitted id sent heard
uncommitted id sent heard = (
  λ u. record { stages = stages.0 u.stages; commits = commits.0 u.commits },
  λ u. record { stages = stages.1 u.stages; commits = commits.1 u.commits },
)
  where
    stages : EachStage id (deciding_of id sent) (IsDead (replies_of id heard)) ↔ EachStage id sent (IsDead heard)
    stages = each_stage id (IsDead (replies_of id heard)) (IsDead heard) (λ s whose. dead s id whose heard) sent

    commits : EachCommit id (deciding_of id sent) (WasCommitRefused (replies_of id heard)) ↔ EachCommit id sent (WasCommitRefused heard)
    commits = each_commit id (WasCommitRefused (replies_of id heard)) (WasCommitRefused heard) (λ c whose. refused c id whose heard) sent
