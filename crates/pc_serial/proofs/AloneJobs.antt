-- What a session's finishing jobs are made of: messages that finish transactions, and for the transaction that an answer ends one for each key
-- that it wrote.
use Rattle.std.proofs.Common.{◌≡◌, ℕ, Bool, true, false, cond, if◌then◌else◌, List, [], ◌∷◌, ◌++◌, fold, map, ◌⊎◌, inl, inr, Option, None, Some, Contains, refl, sym, ap, subst, ◌∙◌}
use Rattle.std.proofs.lemmas.Grind.{fold-append}
use Rattle.std.proofs.lemmas.List.Elements.{Contains-append_left, Contains-append_right}
use Rattle.std.specs.List.{AllByRecursion as Each, list_any}
use Rattle.std.specs.Option.{option_and_then, option_or}
use Rattle.std.specs.Prelude.{⊤}
use Rattle.pc_base.specs.declared.transaction.TxnId.{TxnId}
use Rattle.pc_base.specs.Span.{key_below, same_key}
use Rattle.pc_base.specs.Transaction.{same_txn}
use Rattle.pc_history.specs.declared.pair.Pair.{Pair}
use Rattle.pc_implicit.proofs.OwnKeys.{Ends}
use Rattle.pc_lists.proofs.Each.{each-always, each-append, each-map}
use Rattle.pc_lists.proofs.Lists.{contains_cons, contains_head, contains_in_map, contains_map, contains_nil, contains_tail}
use Rattle.pc_lists.proofs.Same.{same_key-is, same_txn-self}
use Rattle.pc_proto.specs.declared.answer.Answer.{Answer}
use Rattle.pc_proto.specs.declared.answer.Answer.TheVariants as answers
use Rattle.pc_proto.specs.declared.event.Event.{Event}
use Rattle.pc_proto.specs.declared.fate.Fate.{Fate}
use Rattle.pc_proto.specs.declared.fate.Fate.TheVariants as fates
use Rattle.pc_proto.specs.declared.meta.TxnMeta.{TxnMeta}
use Rattle.pc_proto.specs.declared.request.Request.{Request}
use Rattle.pc_proto.specs.declared.request.Request.TheVariants as requests
use Rattle.pc_proto.specs.declared.view.View.{View}
use Rattle.pc_proto.specs.declared.view.View.TheVariants as views
use Rattle.pc_proto.specs.Replies.{view_in}
use Rattle.pc_proto.specs.Requests.{is_about}
use Rattle.pc_proto.specs.Views.{final_fate}
use Rattle.pc_follows.specs.FinishingJobs.{Duty, committed_fate, committing, duty_after, first_message, is_commit_told, jobs_after, jobs_of, left_by, left_committed, left_if, settling, with_job, without_first}
use Rattle.pc_world.specs.Known.{Known, learn, nothing_known, open_txn, told_first}
use Rattle.pc_world.specs.Known.Traffic.{Heard, Sent}
use Rattle.pc_world.specs.Known.Transactions.{Txn, meta_of, txn_heard, txn_sent, txn_told, with_lock}
use Rattle.pc_world.specs.Views.{fate_heard, fate_shown}

-- ---- jobs over one more entry

module _ (own : List (Pair Event)) (p : Pair Event) where
  duty-known : (own : List (Pair Event)) (d : Duty) → (fold duty_after d own).known ≡ fold (λ k p. learn p k) d.known own
  duty-known [] d = refl
  duty-known (q ∷ own) d = duty-known own (duty_after d q)

  pub jobs_push : jobs_of (own ++ p ∷ []) ≡ jobs_after p.entry.event (fold (λ k p. learn p k) nothing_known own) (jobs_of own)
  jobs_push =
      let start : Duty = record { known = nothing_known; jobs = [] } in
      ap (λ (d : Duty). d.jobs) (fold-append duty_after start own (p ∷ []))
      ∙ ap (λ k. jobs_after p.entry.event k (jobs_of own)) (duty-known own start)

-- ---- what they have

-- The request finishes a transaction.
abbrev pub IsFinishing : Request → Type 0
IsFinishing (requests.Commit meta ts locks) = ⊤
IsFinishing (requests.Resolve id key fate) = ⊤
IsFinishing (requests.Remove id anchor) = ⊤
IsFinishing _ = ⊥

-- Some job has the message.
abbrev pub HasMessage : List (List Request) → Request → Type 0
HasMessage jobs request = (job : List Request) × Contains jobs job × Contains job request

pub message_none : (request : Request) → HasMessage [] request → ⊥
message_none request (job, there, has) = contains_nil job there

pub message_kept : (left : List Request) (jobs : List (List Request)) (request : Request) → HasMessage jobs request → HasMessage (with_job left jobs) request
message_kept [] jobs request has = has
message_kept (first ∷ left) jobs request (job, there, has) = (job, Contains-append_left jobs ((first ∷ left) ∷ []) job there, has)

pub message_new : (left : List Request) (jobs : List (List Request)) (request : Request) → Contains left request → HasMessage (with_job left jobs) request
message_new [] jobs request has = absurd (contains_nil request has)
message_new (first ∷ left) jobs request has = (first ∷ left, Contains-append_right jobs ((first ∷ left) ∷ []) (first ∷ left) (contains_head (first ∷ left) []), has)

-- once the next message was sent, any other is still there
pub message_left : (jobs : List (List Request)) (request : Request) → HasMessage jobs request → HasMessage (without_first jobs) request ⊎ (first_message jobs ≡ Some request)
message_left [] request (job, there, has) = absurd (contains_nil job there)
message_left ([] ∷ jobs) request (job, there, has) = elim (contains_cons [] jobs job there) [
  | inl same ↦ absurd (contains_nil request (subst (λ l. Contains l request) (sym same) has))
  | inr later ↦ inl (job, later, has)
]
message_left ((first ∷ []) ∷ jobs) request (job, there, has) = elim (contains_cons (first ∷ []) jobs job there) [
  | inl same ↦ elim (contains_cons first [] request (subst (λ l. Contains l request) (sym same) has)) [
    | inl is ↦ inr (ap Some is)
    | inr none ↦ absurd (contains_nil request none)
  ]
  | inr later ↦ inl (job, later, has)
]
message_left ((first ∷ more ∷ messages) ∷ jobs) request (job, there, has) = elim (contains_cons (first ∷ more ∷ messages) jobs job there) [
  | inl same ↦ elim (contains_cons first (more ∷ messages) request (subst (λ l. Contains l request) (sym same) has)) [
    | inl is ↦ inr (ap Some is)
    | inr rest ↦ inl (more ∷ messages, contains_head (more ∷ messages) jobs, rest)
  ]
  | inr later ↦ inl (job, contains_tail (more ∷ messages) jobs job later, has)
]

pub finishing_first : (jobs : List (List Request)) (request : Request) → Each (Each IsFinishing) jobs → first_message jobs ≡ Some request → IsFinishing request
finishing_first [] request a is = absurd cc
finishing_first ([] ∷ jobs) request a is = absurd cc
finishing_first ((first ∷ job) ∷ jobs) request a is = let same : first ≡ request = cc in subst IsFinishing same a.0.0

pub finishing_without : (jobs : List (List Request)) → Each (Each IsFinishing) jobs → Each (Each IsFinishing) (without_first jobs)
finishing_without [] a = tt
finishing_without ([] ∷ jobs) a = a.1
finishing_without ((first ∷ []) ∷ jobs) a = a.1
finishing_without ((first ∷ more ∷ messages) ∷ jobs) a = (a.0.1, a.1)

pub finishing_with : (left : List Request) (jobs : List (List Request)) → Each IsFinishing left → Each (Each IsFinishing) jobs → Each (Each IsFinishing) (with_job left jobs)
finishing_with [] jobs f a = a
finishing_with (first ∷ left) jobs f a = each-append (Each IsFinishing) jobs ((first ∷ left) ∷ []) a (f, tt)

finishing-settling : (t : Txn) (fate : Option Fate) (anchor : Option (List ℕ)) → Each IsFinishing (settling t fate anchor)
finishing-settling t None anchor = tt
finishing-settling t (Some fate) None = tt
finishing-settling t (Some fate) (Some anchor) =
    each-append IsFinishing (map (λ lock. requests.Resolve t.id lock fate) t.locks) (requests.Remove t.id anchor ∷ [])
    (each-map IsFinishing (λ lock. requests.Resolve t.id lock fate) t.locks (each-always (λ lock. IsFinishing (requests.Resolve t.id lock fate)) (λ lock. tt) t.locks)) (tt, tt)

finishing-committing : (k : Known) (t : Txn) (ts : ℕ) (anchor : Option (List ℕ)) → Each IsFinishing (committing k t ts anchor)
finishing-committing k t ts None = tt
finishing-committing k t ts (Some anchor) = by (list_any (is_commit_told t.id ts) k.heard)
  where
    by : (b : Bool) → Each IsFinishing (if b then [] else requests.Commit (meta_of t anchor) ts t.locks ∷ [])
    by true = tt
    by false = (tt, tt)

finishing-if : (k : Known) (t : Option Txn) → Each IsFinishing (left_if k t)
finishing-if k None = tt
finishing-if k (Some t) = finishing-settling t (fate_heard t.id k.heard) t.anchor

finishing-committed : (k : Known) (ts : ℕ) (t : Option Txn) → Each IsFinishing (left_committed ts k t)
finishing-committed k ts None = tt
finishing-committed k ts (Some t) =
    each-append IsFinishing (committing k t ts t.anchor) (settling t (committed_fate k t ts) t.anchor) (finishing-committing k t ts t.anchor) (finishing-settling t (committed_fate k t ts) t.anchor)

-- what an answer leaves finishes
pub finishing_left : (answer : Answer) (k : Known) → Each IsFinishing (left_by answer k)
finishing_left (answers.Committed id ts) k = finishing-committed k ts (open_txn k)
finishing_left (answers.Aborted why) k = finishing-if k (open_txn k)
finishing_left (answers.RolledBack id why) k = finishing-if k (open_txn k)
finishing_left answer k = tt

-- ---- the fate that was heard ends

final-ends : (o : Option View) (fate : Fate) → option_and_then final_fate o ≡ Some fate → Ends fate
final-ends None fate is = absurd cc
final-ends (Some (views.Committed epoch ts locks)) fate is = let same : fates.Committed epoch ts ≡ fate = cc in subst Ends same tt
final-ends (Some (views.Aborted epoch why locks)) fate is = let same : fates.Aborted ≡ fate = cc in subst Ends same tt
final-ends (Some view) fate is = absurd cc

shown-ends : (id : TxnId) (h : Heard) (fate : Fate) → fate_shown id h ≡ Some fate → Ends fate
shown-ends id h fate is = by (is_about id h.request) is
  where
    by : (b : Bool) → (if b then option_and_then final_fate (view_in h.reply) else None) ≡ Some fate → Ends fate
    by true is = final-ends (view_in h.reply) fate is
    by false is = absurd cc

pub heard_ends : (id : TxnId) (heard : List Heard) (fate : Fate) → fate_heard id heard ≡ Some fate → Ends fate
heard_ends id [] fate is = absurd cc
heard_ends id (h ∷ heard) fate is = by (fate_shown id h) refl is (heard_ends id heard fate)
  where
    by : (o : Option Fate) → fate_shown id h ≡ o → option_or o (fate_heard id heard) ≡ Some fate → (fate_heard id heard ≡ Some fate → Ends fate) → Ends fate
    by None shown is rest = rest is
    by (Some first) shown is rest = let same : first ≡ fate = cc in subst Ends same (shown-ends id h first shown)

-- where some reply shows a fate, one was heard
pub fate_there : (id : TxnId) (heard : List Heard) (h : Heard) (fate : Fate) → Contains heard h → fate_shown id h ≡ Some fate → (first : Fate) × (fate_heard id heard ≡ Some first)
fate_there id [] h fate there shown = absurd (contains_nil h there)
fate_there id (x ∷ heard) h fate there shown = elim (contains_cons x heard h there) [
  | inl same ↦ (fate, ap (λ o. option_or o (fate_heard id heard)) (ap (fate_shown id) same ∙ shown))
  | inr later ↦ by (fate_shown id x) (fate_there id heard h fate later shown)
]
  where
    by : (o : Option Fate) → (first : Fate) × (fate_heard id heard ≡ Some first) → (first : Fate) × (option_or o (fate_heard id heard) ≡ Some first)
    by None rest = rest
    by (Some first) rest = (first, refl)

-- ---- what is left has each key

settles : (t : Txn) (fate : Fate) (anchor key : List ℕ) → Contains t.locks key → Contains (settling t (Some fate) (Some anchor)) (requests.Resolve t.id key fate)
settles t fate anchor key held =
    Contains-append_left (map (λ lock. requests.Resolve t.id lock fate) t.locks) (requests.Remove t.id anchor ∷ []) (requests.Resolve t.id key fate)
    (contains_map (λ lock. requests.Resolve t.id lock fate) t.locks key held)

-- of what is heard or else of this
fate-or : (o : Option Fate) (other : Fate) → ((fate : Fate) → o ≡ Some fate → Ends fate) → Ends other → (fate : Fate) × Ends fate × (option_or o (Some other) ≡ Some fate)
fate-or None other ends is = (other, is, refl)
fate-or (Some fate) other ends is = (fate, ends fate refl, refl)

-- The answer leaves a message that settles the transaction's intent at this key.
abbrev pub LeavesSettling : List Request → TxnId → List ℕ → Type 0
LeavesSettling left id key = (fate : Fate) × Ends fate × Contains left (requests.Resolve id key fate)

module _ (k : Known) (t : Txn) (opened : open_txn k ≡ Some t) (anchor key : List ℕ) (anchored : t.anchor ≡ Some anchor) (held : Contains t.locks key) where
  pub leaves_committed : (ts : ℕ) → LeavesSettling (left_committed ts k (open_txn k)) t.id key
  leaves_committed ts =
      let f = fate-or (fate_heard t.id k.heard) (fates.Committed t.epoch ts) (heard_ends t.id k.heard) tt in
      let whole : left_committed ts k (open_txn k) ≡ committing k t ts t.anchor ++ settling t (Some f.0) (Some anchor) =
      ap (left_committed ts k) opened ∙ ap (λ o. committing k t ts t.anchor ++ settling t o t.anchor) f.2 ∙ ap (λ a. committing k t ts t.anchor ++ settling t (Some f.0) a) anchored in
      (f.0, f.1, subst (λ l. Contains l (requests.Resolve t.id key f.0)) (sym whole) (Contains-append_right (committing k t ts t.anchor) (settling t (Some f.0) (Some anchor)) (requests.Resolve t.id key f.0) (settles t f.0 anchor key held)))

  pub leaves_if : (fate : Fate) → fate_heard t.id k.heard ≡ Some fate → LeavesSettling (left_if k (open_txn k)) t.id key
  leaves_if fate is =
      let whole : left_if k (open_txn k) ≡ settling t (Some fate) (Some anchor) = ap (left_if k) opened ∙ ap (λ o. settling t o t.anchor) is ∙ ap (settling t (Some fate)) anchored in
      (fate, heard_ends t.id k.heard fate is, subst (λ l. Contains l (requests.Resolve t.id key fate)) (sym whole) (settles t fate anchor key held))

-- ---- the keys that a transaction wrote

-- The transaction has the key among its locks, and an anchor.
pub record HasLock (t : Txn) (key : List ℕ) : Type 0 where
  pub held : Contains t.locks key
  pub anchor : List ℕ
  pub anchored : t.anchor ≡ Some anchor

-- Whichever of these is the transaction has the lock.
abbrev pub IsLocked : TxnId → List ℕ → List Txn → Type 0
IsLocked id key txns = (t : Txn) → Contains txns t → t.id ≡ id → HasLock t key

lock-new : (key : List ℕ) (locks : List (List ℕ)) → Contains (with_lock key locks) key
lock-new key [] = contains_head key []
lock-new key (lock ∷ locks) = by (key_below key lock) (same_key key lock) refl (lock-new key locks)
  where
    by : (below same : Bool) → same_key key lock ≡ same → Contains (with_lock key locks) key
        → Contains (if below then key ∷ lock ∷ locks else if same then lock ∷ locks else lock ∷ with_lock key locks) key
    by true same is rest = contains_head key (lock ∷ locks)
    by false true is rest = subst (λ l. Contains (l ∷ locks) key) (same_key-is key lock is) (contains_head key locks)
    by false false is rest = contains_tail lock (with_lock key locks) key rest

lock-kept : (key : List ℕ) (locks : List (List ℕ)) (other : List ℕ) → Contains locks other → Contains (with_lock key locks) other
lock-kept key [] other there = absurd (contains_nil other there)
lock-kept key (lock ∷ locks) other there = by (key_below key lock) (same_key key lock) (lock-kept key locks other)
  where
    by : (below same : Bool) → (Contains locks other → Contains (with_lock key locks) other)
        → Contains (if below then key ∷ lock ∷ locks else if same then lock ∷ locks else lock ∷ with_lock key locks) other
    by true same rest = contains_tail key (lock ∷ locks) other there
    by false true rest = there
    by false false rest = elim (contains_cons lock locks other there) [
      | inl is ↦ subst (λ l. Contains (l ∷ with_lock key locks) other) (sym is) (contains_head other (with_lock key locks))
      | inr later ↦ contains_tail lock (with_lock key locks) other (rest later)
    ]

anchor-or : (o : Option (List ℕ)) (key : List ℕ) → (anchor : List ℕ) × (option_or o (Some key) ≡ Some anchor)
anchor-or None key = (key, refl)
anchor-or (Some anchor) key = (anchor, refl)

sent-has : (request : Request) (t : Txn) (key : List ℕ) → HasLock t key → HasLock (txn_sent request t) key
sent-has (requests.Put meta seq ts own value) t key has = by (same_txn meta.id t.id)
  where
    by : (b : Bool) → HasLock (record (txn_sent (requests.Put meta seq ts own value) t) { anchor = if b then option_or t.anchor (Some own) else t.anchor; locks = if b then with_lock own t.locks else t.locks }) key
    by true = record { held = lock-kept own t.locks key has.held; anchor = has.anchor; anchored = ap (λ o. option_or o (Some own)) has.anchored }
    by false = record { held = has.held; anchor = has.anchor; anchored = has.anchored }
sent-has request t key has = record { held = has.held; anchor = has.anchor; anchored = has.anchored }

put-has : (meta : TxnMeta) (seq ts : ℕ) (key : List ℕ) (value : Option (List ℕ)) (t : Txn) → t.id ≡ meta.id → HasLock (txn_sent (requests.Put meta seq ts key value) t) key
put-has meta seq ts key value t same = by (same_txn meta.id t.id) (ap (same_txn meta.id) same ∙ same_txn-self meta.id)
  where
    by : (b : Bool) → b ≡ true → HasLock (record (txn_sent (requests.Put meta seq ts key value) t) { anchor = if b then option_or t.anchor (Some key) else t.anchor; locks = if b then with_lock key t.locks else t.locks }) key
    by true is = let a = anchor-or t.anchor key in record { held = lock-new key t.locks; anchor = a.0; anchored = a.1 }
    by false is = absurd cc

module _ (id : TxnId) (key : List ℕ) where
  pub locked_sent : (request : Request) (txns : List Txn) → IsLocked id key txns → IsLocked id key (map (txn_sent request) txns)
  locked_sent request txns locked u there named =
      let t = contains_in_map (txn_sent request) txns u there in
      subst (λ x. HasLock x key) t.2 (sent-has request t.0 key (locked t.0 t.1 (ap (λ (x : Txn). x.id) t.2 ∙ named)))

  pub locked_heard : (sent : List Sent) (h : Option Heard) (txns : List Txn) → IsLocked id key txns → IsLocked id key (map (txn_heard sent h) txns)
  locked_heard sent h txns locked u there named =
      let t = contains_in_map (txn_heard sent h) txns u there in
      let has = locked t.0 t.1 (ap (λ (x : Txn). x.id) t.2 ∙ named) in
      subst (λ x. HasLock x key) t.2 (record { held = has.held; anchor = has.anchor; anchored = has.anchored })

  locked-first : (answer : Answer) (replied : List Heard) (txns : List Txn) → IsLocked id key txns → IsLocked id key (told_first answer replied txns)
  locked-first answer replied [] locked u there named = locked u there named
  locked-first answer replied (t ∷ ts) locked u there named = elim (contains_cons (txn_told answer replied t) ts u there) [
    | inl first ↦
        let has = locked t (contains_head t ts) (ap (λ (x : Txn). x.id) first ∙ named) in
        subst (λ x. HasLock x key) first (record { held = has.held; anchor = has.anchor; anchored = has.anchored })
    | inr later ↦ locked u (contains_tail t ts u later) named
  ]

  pub locked_told : (answer : Answer) (replied : List Heard) (is_open : Bool) (txns : List Txn) → IsLocked id key txns → IsLocked id key (cond is_open (told_first answer replied txns) txns)
  locked_told answer replied true txns locked = locked-first answer replied txns locked
  locked_told answer replied false txns locked = locked

pub locked_put : (meta : TxnMeta) (seq ts : ℕ) (key : List ℕ) (value : Option (List ℕ)) (txns : List Txn) → IsLocked meta.id key (map (txn_sent (requests.Put meta seq ts key value)) txns)
locked_put meta seq ts key value txns u there named =
    let t = contains_in_map (txn_sent (requests.Put meta seq ts key value)) txns u there in
    subst (λ x. HasLock x key) t.2 (put-has meta seq ts key value t.0 (ap (λ (x : Txn). x.id) t.2 ∙ named))
