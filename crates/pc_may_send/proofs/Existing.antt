-- What a search finds, where it is told just when it finds.
use Rattle.std.proofs.Common.{◌≡◌, ◌↔◌, ℕ, Bool, true, false, Contains, List, Option, None, Some, refl, sym, ap, subst, ◌∙◌, IsTrue, ◌+◌, [], ◌∷◌, length, inl, inr, ◌⊎◌, Any, All, map}
use Rattle.std.proofs.lemmas.List.Elements.{All-contains}
use Rattle.pc_base.specs.declared.span.Span.{Span}
use Rattle.pc_may_send.specs.Again.{IsAnySentAgain}
use Rattle.pc_may_send.specs.Deciding.{IsCommitBy}
use Rattle.pc_base.specs.declared.actor.ActorId.{ActorId}
use Rattle.pc_base.specs.declared.transaction.Who.{Who}
use Rattle.pc_may_send.specs.Listed.{HasFoundAll, HasMissed}
use Rattle.pc_world.specs.Known.Traffic.{Heard}
use Rattle.pc_world.specs.Send.Recovery.{IsOwnName, WasFound, WasMissed, WasStaging}
use Rattle.pc_may_send.specs.Refreshing.{IsRefreshIn}
use Rattle.pc_world.specs.Send.Refresh.{MaySendRefresh}
use Rattle.pc_may_send.specs.Settled.{IsFinalAbout, IsSettledBy, IsSettledFor}
use Rattle.pc_may_send.specs.Staging.{IsNewStage, IsStageAgain, StagesAll}
use Rattle.pc_proto.specs.declared.meta.TxnMeta.{TxnMeta}
use Rattle.pc_proto.specs.declared.call.Call.TheVariants as calls
use Rattle.pc_world.specs.Send.Commit.{MayCommit, MaySendCommit}
use Rattle.pc_world.specs.Send.Put.{MaySendAgain}
use Rattle.pc_world.specs.Send.Settling.{AllResolved, MustSettle}
use Rattle.pc_world.specs.Send.Stage.{MaySendNewStage, MaySendStageAgain}
use Rattle.pc_world.specs.StageFate.{SentCommit, SentStage}
use Rattle.pc_lists.proofs.Lists.{all_from_contains, contains_cons, contains_head, contains_in_map, contains_map, contains_nil}
use Rattle.pc_own.proofs.ByNumber.{stands_at}
use Rattle.pc_own.specs.Numbered.{AreBegunInOrder}
use Rattle.pc_base.specs.declared.transaction.TxnId.{TxnId}
use Rattle.pc_world.specs.Known.{Known, call_of, first_if, open_txn, reading_of}
use Rattle.pc_world.specs.Known.Transactions.{IsMetaOf, Txn}

-- No transaction.
abbrev pub no_txn : Option Txn
no_txn = None

some-same : {W : Type 0} (one other : W) → Some one ≡ Some other → one ≡ other
some-same one other e = cc

module _ {W : Type 0} (P Q : W → Type 0) (b : Bool) where
  abbrev pub nothing : Option W
  nothing = None

  pub through_some : (x : W) → ((w : W) → (Some x ≡ Some w) ↔ P w) → IsTrue b ↔ Q x → IsTrue b ↔ ((w : W) × P w × Q w)
  through_some x found is = (λ h. (x, (found x).0 refl, is.0 h), λ e. is.1 (subst Q (sym (some-same x e.0 ((found e.0).1 e.1))) e.2))

  pub through_none : ((w : W) → (nothing ≡ Some w) ↔ P w) → b ≡ false → IsTrue b ↔ ((w : W) × P w × Q w)
  through_none found off = (λ h. absurd (cc (off, h)), λ e. let none = (found e.0).1 e.1 in absurd (cc none))

pub iff_same : (one other : Bool) → one ≡ other → IsTrue one ↔ IsTrue other
iff_same one other e = (λ h. sym e ∙ h, λ h. e ∙ h)

at-most : (txns : List Txn) (t : Txn) → AreBegunInOrder txns → Contains txns t → (place : ℕ) × (t.id.number ≡ place + 1)
at-most [] t numbered c = absurd (contains_nil t c)
at-most (u ∷ txns) t numbered c =
    elim (contains_cons u txns t c) [
      | inl same ↦ (length txns, ap (λ (x : Txn). x.id.number) (sym same) ∙ numbered.0)
      | inr later ↦ at-most txns t numbered.1 later
    ]

-- one transaction has an id
pub same_own : (txns : List Txn) (t u : Txn) → AreBegunInOrder txns → Contains txns t → Contains txns u → t.id ≡ u.id → t ≡ u
same_own txns t u numbered one other same =
    let at = at-most txns t numbered one in
    some-same t u
    (sym (stands_at txns t at.0 numbered one at.1) ∙ stands_at txns u at.0 numbered other (ap (λ (id : TxnId). id.number) (sym same) ∙ at.1))

-- the open one is one of them
pub open_own : (is_open : Bool) (txns : List Txn) (t : Txn) → first_if is_open txns ≡ Some t → Contains txns t
open_own is_open [] t e = absurd cc
open_own true (u ∷ txns) t e = subst (Contains (u ∷ txns)) (some-same u t e) (contains_head u txns)
open_own false (u ∷ txns) t e = absurd cc

module _ (k : Known) (id : TxnId) where
  -- The actor's own transaction of this id is this one.
  abbrev pub IsOwn : Txn → Type 0
  IsOwn x = (t : Txn) → (Some x ≡ Some t) ↔ (Contains k.txns t × (t.id ≡ id))

  -- It has none.
  abbrev pub HasNone : Type 0
  HasNone = (t : Txn) → (no_txn ≡ Some t) ↔ (Contains k.txns t × (t.id ≡ id))

  own-mine : (x : Txn) → IsOwn x → Contains k.txns x × (x.id ≡ id)
  own-mine x own = (own x).0 refl

  own-is : (x t : Txn) → IsOwn x → Contains k.txns t → t.id ≡ id → t ≡ x
  own-is x t own mine is = sym (some-same x t ((own t).1 (mine, is)))

  none-is : (t : Txn) → HasNone → Contains k.txns t → t.id ≡ id → ⊥
  none-is t none mine is = let e = (none t).1 (mine, is) in absurd (cc e)

-- ---- puts

module _ (k : Known) (meta : TxnMeta) (seq ts : ℕ) (key : List ℕ) (value : Option (List ℕ)) where
  meta-id : (t : Txn) → IsMetaOf t meta → t.id ≡ meta.id
  meta-id t whose = sym (ap (λ (m : TxnMeta). m.id) whose.same)

  pub put_again : (x : Txn) → IsOwn k meta.id x → (IsMetaOf x meta × IsAnySentAgain x seq ts key value) ↔ MaySendAgain k meta seq ts key value
  put_again x own = (
    λ h. record {
      t = x;
      w = h.1.1;
      mine = (own-mine k meta.id x own).0;
      whose = h.0;
      written = (h.1.0, h.1.2, h.1.3);
      unproved = h.1.4.unproved;
      same_sequence = h.1.4.same_sequence;
      same_place = h.1.4.same_place;
      same_value = h.1.4.same_value;
      again_at = h.1.4.again_at;
    },
    λ (m : MaySendAgain k meta seq ts key value).
        let is : m.t ≡ x = own-is k meta.id x m.t own m.mine (meta-id m.t m.whose) in
        let all : IsAnySentAgain m.t seq ts key value =
        (m.written.0, m.w, m.written.1, m.written.2, record { unproved = m.unproved; same_sequence = m.same_sequence; same_place = m.same_place; same_value = m.same_value; again_at = m.again_at }) in
        (subst (λ t. IsMetaOf t meta) is m.whose, subst (λ t. IsAnySentAgain t seq ts key value) is all),
  )

  pub no_put_again : HasNone k meta.id → MaySendAgain k meta seq ts key value → ⊥
  no_put_again none m = none-is k meta.id m.t none m.mine (meta-id m.t m.whose)

-- ---- stages

module _ (k : Known) (s : SentStage) where
  pub stage_again : (x : Txn) → IsOwn k s.meta.id x → IsStageAgain k.sent k.heard x s ↔ MaySendStageAgain k s
  stage_again x own = (
    λ h. let mine = own-mine k s.meta.id x own in record { t = x; mine = mine.0; whose = sym mine.1; epoch_now = h.epoch_now; before = h.before; not_late = h.not_late },
    λ (m : MaySendStageAgain k s).
        let is : m.t ≡ x = own-is k s.meta.id x m.t own m.mine (sym m.whose) in
        subst (λ t. IsStageAgain k.sent k.heard t s) is (record { epoch_now = m.epoch_now; before = m.before; not_late = m.not_late }),
  )

  pub no_stage_again : HasNone k s.meta.id → MaySendStageAgain k s → ⊥
  no_stage_again none m = none-is k s.meta.id m.t none m.mine (sym m.whose)

-- ---- removals

module _ (k : Known) (id : TxnId) where
  pub own_settled : (x : Txn) → IsOwn k id x → (Any (IsFinalAbout id) k.heard × AllResolved k.heard id x.locks) ↔ IsSettledFor k id
  own_settled x own = (
    λ h. let mine = own-mine k id x own in record { shown = h.0.4.0; locks = x.locks; final = (h.0.0, h.0.1, h.0.2, h.0.3, h.0.4.1); must = inl (x, mine.0, mine.1, refl); settled = h.1 },
    λ (m : IsSettledFor k id). ((m.final.0, m.final.1, m.final.2, m.final.3, (m.shown, m.final.4)), by m.locks m.shown m.must m.settled),
  )
    where
      by : (locks shown : List (List ℕ)) → MustSettle k id shown locks → AllResolved k.heard id locks → AllResolved k.heard id x.locks
      by locks shown (inl (t, mine, is, same)) all =
          subst (AllResolved k.heard id) (same ∙ ap (λ (u : Txn). u.locks) (own-is k id x t own mine is)) all
      by locks shown (inr (none, same)) all = let mine = own-mine k id x own in absurd (All-contains (λ t. t.id ≡ id → ⊥) k.txns x none mine.0 mine.1)

  pub other_settled : HasNone k id → Any (IsSettledBy k.heard id) k.heard ↔ IsSettledFor k id
  other_settled none = (
    λ a. record {
      shown = a.4.0;
      locks = a.4.0;
      final = (a.0, a.1, a.2, a.3, a.4.1);
      must = inr (all_from_contains (λ t. t.id ≡ id → ⊥) k.txns (λ t c is. none-is k id t none c is), refl);
      settled = a.4.2;
    },
    λ (m : IsSettledFor k id). (m.final.0, m.final.1, m.final.2, m.final.3, (m.shown, m.final.4, by m.locks m.shown m.must m.settled)),
  )
    where
      by : (locks shown : List (List ℕ)) → MustSettle k id shown locks → AllResolved k.heard id locks → AllResolved k.heard id shown
      by locks shown (inl (t, mine, is, same)) all = absurd (none-is k id t none mine is)
      by locks shown (inr (others, same)) all = subst (AllResolved k.heard id) same all

-- ---- pieces

pub piece_iff : (ps : List (ℕ × Span)) (span : Span) → Any (λ p. p.1 ≡ span) ps ↔ Contains (map (λ p. p.1) ps) span
piece_iff ps span = (
  λ a. subst (Contains (map (λ p. p.1) ps)) a.4 (contains_map (λ p. p.1) ps a.1 (a.0, a.2, a.3)),
  λ c. let b = contains_in_map (λ p. p.1) ps span c in (b.1.0, b.0, b.1.1, b.1.2, b.2),
)

-- ---- commits

pub may_commit_from : (k : Known) (t : Txn) (ts : ℕ) → AreBegunInOrder k.txns → Contains k.txns t
    → (((u : Txn) × (open_txn k ≡ Some u) × (u.id ≡ t.id)) × (call_of k ≡ Some calls.Commit)) ⊎ (t.committed ≡ Some ts) → MayCommit k t ts
may_commit_from k t ts numbered mine (inl h) =
    let o = h.0 in
    let same : o.0 ≡ t = same_own k.txns o.0 t numbered (open_own k.is_open k.txns o.0 o.1) mine o.2 in
    inl (subst (λ u. open_txn k ≡ Some u) same o.1, h.1)
may_commit_from k t ts numbered mine (inr h) = inr h

pub may_commit_to : (k : Known) (t : Txn) (ts : ℕ) → MayCommit k t ts
    → (((u : Txn) × (open_txn k ≡ Some u) × (u.id ≡ t.id)) × (call_of k ≡ Some calls.Commit)) ⊎ (t.committed ≡ Some ts)
may_commit_to k t ts (inl h) = inl ((t, h.0, refl), h.1)
may_commit_to k t ts (inr h) = inr h

module _ (k : Known) (c : SentCommit) where
  commit-id : (t : Txn) → IsMetaOf t c.meta → t.id ≡ c.meta.id
  commit-id t whose = sym (ap (λ (m : TxnMeta). m.id) whose.same)

  pub commit_by : (x : Txn) → IsOwn k c.meta.id x → IsCommitBy k c x ↔ MaySendCommit k c
  commit_by x own = (
    λ h. record { t = x; mine = (own-mine k c.meta.id x own).0; whose = h.0.0; all_locks = h.0.1; decided = h.1 },
    λ (m : MaySendCommit k c).
        subst (IsCommitBy k c) (own-is k c.meta.id x m.t own m.mine (commit-id m.t m.whose)) ((m.whose, m.all_locks), m.decided),
  )

  pub no_commit_by : HasNone k c.meta.id → MaySendCommit k c → ⊥
  no_commit_by none m = none-is k c.meta.id m.t none m.mine (commit-id m.t m.whose)

-- ---- refreshes

pub refresh_in : (k : Known) (x : Txn) → open_txn k ≡ Some x → (id : TxnId) (from to : ℕ) (span : Span)
    → IsRefreshIn (call_of k) x k.heard id from to span ↔ MaySendRefresh k id from to span
refresh_in k x opened id from to span = (
  λ h. record {
    t = x;
    opened = opened;
    asked = h.0.0;
    whose = h.0.1;
    holds_read = h.1.1.0;
    from_read_ts = h.1.0.0;
    good = h.1.1.1;
    forward = h.1.0.1;
    to_write_ts = h.1.0.2;
  },
  λ (m : MaySendRefresh k id from to span).
      let is : m.t ≡ x = some-same m.t x (sym m.opened ∙ opened) in
      subst (λ t. IsRefreshIn (call_of k) t k.heard id from to span) is ((m.asked, m.whose), ((m.from_read_ts, m.forward, m.to_write_ts), (m.holds_read, m.good))),
)

-- ---- recoveries

pub all_found_iff : (heard : List Heard) (id : TxnId) (epoch ts : ℕ)
    → Any (HasFoundAll heard id epoch ts) heard ↔ ((writes : List (List ℕ × ℕ)) × WasStaging heard id epoch ts writes × All (λ w. Any (WasFound id epoch ts w) heard) writes)
all_found_iff heard id epoch ts = (
  λ a. (a.4.0, (a.0, a.1, a.2, a.3, a.4.1), a.4.2),
  λ m. (m.1.0, m.1.1, m.1.2, m.1.3, (m.0, m.1.4, m.2)),
)

pub missed_iff : (actor : ActorId) (k : Known) (id : TxnId) (epoch ts : ℕ) (key : List ℕ) (by : Who)
    → (IsOwnName actor k by × Any (HasMissed k.heard id epoch ts key by) k.heard)
    ↔ ((writes : List (List ℕ × ℕ)) × WasStaging k.heard id epoch ts writes × (IsOwnName actor k by × Any (WasMissed id epoch ts writes key by) k.heard))
missed_iff actor k id epoch ts key by = (
  λ h. (h.1.4.0, (h.1.0, h.1.1, h.1.2, h.1.3, h.1.4.1), (h.0, h.1.4.2)),
  λ m. (m.2.0, (m.1.0, m.1.1, m.1.2, m.1.3, (m.0, m.1.4, m.2.1))),
)

-- ---- new stages

pub new_stage : (k : Known) (x : Txn) → open_txn k ≡ Some x → (s : SentStage)
    → (((call_of k ≡ Some calls.Commit) × (reading_of k ≡ Some s.now)) × IsNewStage k.sent k.heard x s) ↔ MaySendNewStage k s
new_stage k x opened s = (
  λ h. let a = h.1.0.0 in record {
    t = x;
    opened = opened;
    asked = h.0.0;
    whose = a.whose;
    good = h.1.0.1;
    proved = a.proved;
    in_flight = a.in_flight;
    some = a.some;
    at_write_ts = a.at_write_ts;
    read_now = h.0.1;
    all_locks = a.all_locks;
    stages = h.1.1.0;
    commits = h.1.1.1;
  },
  λ (m : MaySendNewStage k s).
      let is : m.t ≡ x = some-same m.t x (sym m.opened ∙ opened) in
      let all : StagesAll m.t s = record { whose = m.whose; at_write_ts = m.at_write_ts; all_locks = m.all_locks; some = m.some; in_flight = m.in_flight; proved = m.proved } in
      ((m.asked, m.read_now), subst (λ t. IsNewStage k.sent k.heard t s) is ((all, m.good), (m.stages, m.commits))),
)
