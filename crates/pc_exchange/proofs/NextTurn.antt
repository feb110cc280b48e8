-- The rounds of a call's conflicts in turn where writes are pipelined: the messages of the next one go out in their places.
use Rattle.std.proofs.Common.{◌≡◌, ℕ, zero, suc, ◌⊎◌, true, false, cond, inl, inr, All, Any, List, [], ◌∷◌, fold, Option, Some, None, refl, sym, ap, ◌∙◌, subst, arith}
use Rattle.std.proofs.lemmas.Grind.{fold-append}
use Rattle.std.proofs.lemmas.List.Elements.{All-head, All-tail}
use Rattle.pc_base.specs.declared.limits.TheConstants.{MOST_CONFLICTS}
use Rattle.pc_base.specs.declared.transaction.TxnId.{TxnId}
use Rattle.pc_coord.specs.Rounds.{IsBehindPush}
use Rattle.pc_exchange.specs.InTurn.{IsFirstConflict}
use Rattle.pc_exchange.specs.Rounding.{WasPushedOnceFor}
use Rattle.pc_follows.specs.PipelinedRounds.{BeginsNextRound, IsInNextRound, IsUnsure, LeavesFateBy, RecoversInRound, SettlesInRound}
use Rattle.pc_follows.specs.Resends.{RecoveredTo}
use Rattle.pc_follows.specs.Rounds.{LeavesFate}
use Rattle.pc_follows.specs.RoundsMade.{RoundCount, gone_on, is_open_one, no_rounds, one_over, recovered_by, rounds_after, rounds_by, rounds_made, with_conflict}
use Rattle.pc_follows.specs.RoundOrder.{with_waiting}
use Rattle.pc_lists.proofs.Same.{same_txn-self}
use Rattle.pc_proto.specs.declared.fate.Fate.{Fate}
use Rattle.pc_proto.specs.declared.fate.Goal.{Goal}
use Rattle.pc_proto.specs.declared.meta.TxnMeta.{TxnMeta}
use Rattle.pc_proto.specs.declared.reply.Reply.{Reply}
use Rattle.pc_proto.specs.declared.reply.Reply.TheVariants as replies
use Rattle.pc_proto.specs.declared.request.Request.{Request}
use Rattle.pc_proto.specs.declared.request.Request.TheVariants as requests
use Rattle.pc_proto.specs.declared.view.View.{View}
use Rattle.pc_proto.specs.declared.view.View.TheVariants as views
use Rattle.pc_proto.specs.Replies.{is_conflict}
use Rattle.pc_proto.specs.Requests.{goal_in, is_resolve_of, round_of}
use Rattle.pc_proto.specs.Views.{final_fate, is_final_view}
use Rattle.pc_push.specs.Pushing.{Pushing}
use Rattle.pc_world.specs.Counting.{AtLeast}
use Rattle.pc_world.specs.Known.{Known, open_txn}
use Rattle.pc_world.specs.Known.Traffic.{Heard}
use Rattle.pc_world.specs.Known.Transactions.{Txn}
use Rattle.pc_world.specs.Send.Push.{goal_for}
use Rattle.pc_world.specs.Tell.Refusal.{IsConflictOf}

-- a reply that is no conflict lets none wait more
unmet-same : (h : Heard) (r : RoundCount) → is_conflict h.reply ≡ false → with_conflict h r ≡ r
unmet-same h r plain = ap (λ b. record r { waiting = cond b (with_waiting h r.waiting) r.waiting }) plain

pushed-by : (opened : Option Txn) (h : Heard) (request : Request) (goal : Goal) (reply : Reply) (r : RoundCount) → goal_in request ≡ Some goal → rounds_by opened h request reply r ≡ record r { push = Some h }
pushed-by opened h (requests.Push holder by level now aims) goal reply r is = refl
pushed-by opened h request goal reply r is = absurd cc

final-is : (view : View) (fate : Fate) → final_fate view ≡ Some fate → is_final_view view ≡ true
final-is (views.Committed epoch ts locks) fate is = refl
final-is (views.Aborted epoch why locks) fate is = refl
final-is view fate is = absurd cc

-- ---- behind a push

module _ (opened : Option Txn) (id : TxnId) (closed : is_open_one opened id ≡ false) (waiting : List Heard) (push : Heard) where
  -- The round goes on: the same conflicts wait, and this was the reply to its push.
  record GoesOn (r : RoundCount) : Type 0 where
    waits : r.waiting ≡ waiting
    pushed : r.push ≡ Some push

  on-still : (r : RoundCount) → GoesOn r → GoesOn (gone_on r)
  on-still r on = record { waits = on.waits; pushed = on.pushed }

  closed-one : (other : TxnId) → Some other ≡ Some id → is_open_one opened other ≡ false
  closed-one other same = let is : other ≡ id = cc in ap (is_open_one opened) is ∙ closed

  resolve-none : {R : Type 0} (other : TxnId) (key : List ℕ) (fate : Fate) → Some other ≡ Some id → is_resolve_of id (requests.Resolve other key fate) ≡ false → R
  resolve-none other key fate same none = let is : other ≡ id = cc in absurd (let both = sym (same_txn-self id) ∙ (sym (ap (λ i. is_resolve_of id (requests.Resolve i key fate)) is) ∙ none) in cc both)

  -- where none recovers it
  step-queried : (h : Heard) (request : Request) (reply : Reply) (r : RoundCount) → round_of request ≡ Some id → goal_in request ≡ None → is_resolve_of id request ≡ false → ((shown : View) → RecoveredTo id shown request reply → ⊥)
      → GoesOn r → r.recovered ≡ None → GoesOn (rounds_by opened h request reply r) × ((rounds_by opened h request reply r).recovered ≡ None)
  step-queried h (requests.Query other epoch seq ts key by) replies.Found r about no_push unsettled none on unrecovered =
      subst (λ b. GoesOn (cond b (one_over r) r) × ((cond b (one_over r) r).recovered ≡ None)) (sym (closed-one other about)) (on, unrecovered)
  step-queried h (requests.Query other epoch seq ts key by) reply r about no_push unsettled none on unrecovered = (on-still r on, unrecovered)
  step-queried h (requests.Recover other epoch ts anchor finding) (replies.Status view) r about no_push unsettled none on unrecovered = absurd (let is : other ≡ id = cc in none view (is, refl))
  step-queried h (requests.Recover other epoch ts anchor finding) reply r about no_push unsettled none on unrecovered = (on-still r on, unrecovered)
  step-queried h (requests.Resolve other key fate) reply r about no_push unsettled none on unrecovered = resolve-none other key fate about unsettled
  step-queried h (requests.Push holder by level now goal) reply r about no_push unsettled none on unrecovered = absurd cc
  step-queried h request reply r about no_push unsettled none on unrecovered = absurd cc

  queried : (heard : List Heard) (r : RoundCount) → All (IsBehindPush id) heard → All (λ (g : Heard). is_resolve_of id g.request ≡ false) heard → All (λ (g : Heard). (shown : View) → RecoveredTo id shown g.request g.reply → ⊥) heard
      → GoesOn r → r.recovered ≡ None → GoesOn (fold (rounds_after opened) r heard) × ((fold (rounds_after opened) r heard).recovered ≡ None)
  queried [] r behind unsettled none on unrecovered = (on, unrecovered)
  queried (h ∷ heard) r behind unsettled none on unrecovered =
      let b = All-head (IsBehindPush id) h heard behind in
      let step = step-queried h h.request h.reply r b.behind.about b.behind.no_push (All-head (λ (g : Heard). is_resolve_of id g.request ≡ false) h heard unsettled) (All-head (λ (g : Heard). (shown : View) → RecoveredTo id shown g.request g.reply → ⊥) h heard none) on unrecovered in
      let same : rounds_after opened r h ≡ rounds_by opened h h.request h.reply r = ap (rounds_by opened h h.request h.reply) (unmet-same h r b.unmet) in
      queried heard (rounds_after opened r h) (All-tail (IsBehindPush id) h heard behind) (All-tail (λ (g : Heard). is_resolve_of id g.request ≡ false) h heard unsettled) (All-tail (λ (g : Heard). (shown : View) → RecoveredTo id shown g.request g.reply → ⊥) h heard none)
      (subst GoesOn (sym same) step.0) (ap (λ (r : RoundCount). r.recovered) same ∙ step.1)

  -- where what recovers it leaves this fate
  module _ (fate : Fate) where
    -- It was recovered so.
    abbrev IsRecovered : RoundCount → Type 0
    IsRecovered r = (view : View) × (r.recovered ≡ Some view) × (final_fate view ≡ Some fate)

    abbrev Recovers : Request → Reply → Type 0
    Recovers request reply = (view : View) × RecoveredTo id view request reply × (final_fate view ≡ Some fate)

    -- What a reply leaves of a round that goes on.
    abbrev Leaves : RoundCount → RoundCount → Request → Reply → Type 0
    Leaves before after request reply = GoesOn after × (IsRecovered before ⊎ Recovers request reply → IsRecovered after)

    final-on : (view : View) (r : RoundCount) → final_fate view ≡ Some fate → GoesOn r → GoesOn (recovered_by view r) × IsRecovered (recovered_by view r)
    final-on view r final on =
        subst (λ b. GoesOn (cond b (record r { recovered = Some view }) (one_over r)) × ((other : View) × ((cond b (record r { recovered = Some view }) (one_over r)).recovered ≡ Some other) × (final_fate other ≡ Some fate))) (sym (final-is view fate final))
        (record { waits = on.waits; pushed = on.pushed }, (view, refl, final))

    step-recovered : (h : Heard) (request : Request) (reply : Reply) (r : RoundCount) → round_of request ≡ Some id → goal_in request ≡ None → is_resolve_of id request ≡ false → ((shown : View) → RecoveredTo id shown request reply → final_fate shown ≡ Some fate)
        → GoesOn r → Leaves r (rounds_by opened h request reply r) request reply
    step-recovered h (requests.Query other epoch seq ts key by) replies.Found r about no_push unsettled final on =
        subst (λ b. Leaves r (cond b (one_over r) r) (requests.Query other epoch seq ts key by) replies.Found) (sym (closed-one other about)) (on, λ is. elim is [ inl was ↦ was | inr now ↦ absurd now.1 ])
    step-recovered h (requests.Query other epoch seq ts key by) reply r about no_push unsettled final on = (on-still r on, λ is. elim is [ inl was ↦ was | inr now ↦ absurd now.1 ])
    step-recovered h (requests.Recover other epoch ts anchor finding) (replies.Status view) r about no_push unsettled final on = let same : other ≡ id = cc in let f = final-on view r (final view (same, refl)) on in (f.0, λ is. f.1)
    step-recovered h (requests.Recover other epoch ts anchor finding) reply r about no_push unsettled final on = (on-still r on, λ is. elim is [ inl was ↦ was | inr now ↦ absurd now.1 ])
    step-recovered h (requests.Resolve other key what) reply r about no_push unsettled final on = resolve-none other key what about unsettled
    step-recovered h (requests.Push holder by level now goal) reply r about no_push unsettled final on = absurd cc
    step-recovered h request reply r about no_push unsettled final on = absurd cc

    all_go : (heard : List Heard) (r : RoundCount) → All (IsBehindPush id) heard → All (λ (g : Heard). is_resolve_of id g.request ≡ false) heard → All (λ (g : Heard). (shown : View) → RecoveredTo id shown g.request g.reply → final_fate shown ≡ Some fate) heard
        → GoesOn r → GoesOn (fold (rounds_after opened) r heard)
    all_go [] r behind unsettled final on = on
    all_go (h ∷ heard) r behind unsettled final on =
        let b = All-head (IsBehindPush id) h heard behind in
        let step = step-recovered h h.request h.reply r b.behind.about b.behind.no_push (All-head (λ (g : Heard). is_resolve_of id g.request ≡ false) h heard unsettled) (All-head (λ (g : Heard). (shown : View) → RecoveredTo id shown g.request g.reply → final_fate shown ≡ Some fate) h heard final) on in
        let same : rounds_after opened r h ≡ rounds_by opened h h.request h.reply r = ap (rounds_by opened h h.request h.reply) (unmet-same h r b.unmet) in
        all_go heard (rounds_after opened r h) (All-tail (IsBehindPush id) h heard behind) (All-tail (λ (g : Heard). is_resolve_of id g.request ≡ false) h heard unsettled)
        (All-tail (λ (g : Heard). (shown : View) → RecoveredTo id shown g.request g.reply → final_fate shown ≡ Some fate) h heard final) (subst GoesOn (sym same) step.0)

    recovered : (heard : List Heard) (r : RoundCount) → All (IsBehindPush id) heard → All (λ (g : Heard). is_resolve_of id g.request ≡ false) heard → All (λ (g : Heard). (shown : View) → RecoveredTo id shown g.request g.reply → final_fate shown ≡ Some fate) heard
        → GoesOn r → IsRecovered r ⊎ Any (λ (g : Heard). Recovers g.request g.reply) heard → GoesOn (fold (rounds_after opened) r heard) × IsRecovered (fold (rounds_after opened) r heard)
    recovered [] r behind unsettled final on (inl is) = (on, is)
    recovered [] r behind unsettled final on (inr (n, x, inside, at, is)) = absurd (omega arith)
    recovered (h ∷ heard) r behind unsettled final on is =
        let b = All-head (IsBehindPush id) h heard behind in
        let step = step-recovered h h.request h.reply r b.behind.about b.behind.no_push (All-head (λ (g : Heard). is_resolve_of id g.request ≡ false) h heard unsettled) (All-head (λ (g : Heard). (shown : View) → RecoveredTo id shown g.request g.reply → final_fate shown ≡ Some fate) h heard final) on in
        let same : rounds_after opened r h ≡ rounds_by opened h h.request h.reply r = ap (rounds_by opened h h.request h.reply) (unmet-same h r b.unmet) in
        let left : Leaves r (rounds_after opened r h) h.request h.reply = subst (λ after. Leaves r after h.request h.reply) (sym same) step in
        recovered heard (rounds_after opened r h) (All-tail (IsBehindPush id) h heard behind) (All-tail (λ (g : Heard). is_resolve_of id g.request ≡ false) h heard unsettled)
        (All-tail (λ (g : Heard). (shown : View) → RecoveredTo id shown g.request g.reply → final_fate shown ≡ Some fate) h heard final) (goes left) (on-with left is)
      where
        goes : Leaves r (rounds_after opened r h) h.request h.reply → GoesOn (rounds_after opened r h)
        goes left = left.0

        on-with : Leaves r (rounds_after opened r h) h.request h.reply → IsRecovered r ⊎ Any (λ (g : Heard). Recovers g.request g.reply) (h ∷ heard) → IsRecovered (rounds_after opened r h) ⊎ Any (λ (g : Heard). Recovers g.request g.reply) heard
        on-with left (inl was) = inl (left.1 (inl was))
        on-with left (inr (zero, x, inside, at, is)) = inl (left.1 (inr (subst (λ (g : Heard). Recovers g.request g.reply) (sym at) is)))
        on-with left (inr (suc n, x, inside, at, is)) = inr (n, x, omega arith, at, is)

-- ---- the next round

module _ (start k : Known) (opened : open_txn k ≡ open_txn start) (conflict : Heard) (next : IsFirstConflict start conflict) (holder : TxnMeta) (ts : ℕ) (key : List ℕ) (met : conflict.reply ≡ replies.Conflict holder ts key) where
  -- its push goes out in its place
  pub push_next : (m : Pushing) → m.holder ≡ holder → m.goal ≡ goal_for conflict.request → k.heard_now ≡ start.heard_now → BeginsNextRound k m.holder m.goal
  push_next m whose aims same =
      let made : rounds_made k ≡ rounds_made start = ap (λ o. fold (rounds_after o) no_rounds k.heard_now) opened ∙ ap (fold (rounds_after (open_txn start)) no_rounds) same in
      record {
        key = key;
        next = record {
          conflict = conflict;
          later = next.later;
          ts = ts;
          waits = ap (λ (r : RoundCount). r.waiting) made ∙ next.waits;
          met = met ∙ ap (λ (h : TxnMeta). replies.Conflict h ts key) (sym whose);
        };
        unbegun = ap (λ (r : RoundCount). r.push) made ∙ next.unbegun;
        below = λ eight. next.below (subst (λ hs. AtLeast (IsConflictOf conflict.request) MOST_CONFLICTS hs) same eight);
        aims = aims;
      }

  module _ (closed : is_open_one (open_txn start) holder.id ≡ false) (goal : Goal) (reply : Reply) (later : List Heard) (was : WasPushedOnceFor holder.id goal reply later start k) (plain : is_conflict reply ≡ false)
      (unsettled : All (λ (g : Heard). is_resolve_of holder.id g.request ≡ false) later) where
    -- How far the rounds are behind the push.
    abbrev begun : RoundCount
    begun = record (rounds_made start) { push = Some was.push }

    begun-is : rounds_after (open_txn start) (rounds_made start) was.push ≡ begun
    begun-is =
        ap (rounds_by (open_txn start) was.push was.push.request was.push.reply) (unmet-same was.push (rounds_made start) (ap is_conflict was.told ∙ plain))
        ∙ pushed-by (open_txn start) was.push was.push.request goal was.push.reply (rounds_made start) was.aims

    made-is : rounds_made k ≡ fold (rounds_after (open_txn start)) begun later
    made-is =
        ap (λ o. fold (rounds_after o) no_rounds k.heard_now) opened
        ∙ (ap (fold (rounds_after (open_txn start)) no_rounds) was.more
        ∙ (fold-append (rounds_after (open_txn start)) no_rounds start.heard_now (was.push ∷ later) ∙ ap (λ r. fold (rounds_after (open_txn start)) r later) begun-is))

    goes-begun : GoesOn (open_txn start) holder.id closed (conflict ∷ next.later) was.push begun
    goes-begun = record { waits = next.waits; pushed = refl }

    round-of : (r : RoundCount) → GoesOn (open_txn start) holder.id closed (conflict ∷ next.later) was.push r → rounds_made k ≡ r → IsInNextRound k holder.id key was.push
    round-of r on is = record {
      holder = holder;
      next = record { conflict = conflict; later = next.later; ts = ts; waits = ap (λ (r : RoundCount). r.waiting) is ∙ on.waits; met = met };
      whose = refl;
      begun = ap (λ (r : RoundCount). r.push) is ∙ on.pushed;
    }

    -- where the push was unsure, and nothing recovered the holder yet, its writes are asked for, and it is recovered
    pub recovers_next : (view : View) → reply ≡ replies.Unsure view → All (λ (g : Heard). (shown : View) → RecoveredTo holder.id shown g.request g.reply → ⊥) later → RecoversInRound k holder.id
    recovers_next view unsure none =
        let q = queried (open_txn start) holder.id closed (conflict ∷ next.later) was.push later begun was.behind unsettled none goes-begun next.unrecovered in
        record {
          key = key;
          push = was.push;
          round = round-of (fold (rounds_after (open_txn start)) begun later) q.0 made-is;
          unsure = subst IsUnsure (sym (was.told ∙ unsure)) tt;
          unrecovered = ap (λ (r : RoundCount). r.recovered) made-is ∙ q.1;
        }

    -- and its intent is settled as the push, or the recovery, left it
    module _ (fate : Fate) (final : All (λ (g : Heard). (shown : View) → RecoveredTo holder.id shown g.request g.reply → final_fate shown ≡ Some fate) later) where
      settled-by : (r : RoundCount) → GoesOn (open_txn start) holder.id closed (conflict ∷ next.later) was.push r → rounds_made k ≡ r → LeavesFateBy goal was.push.reply r.recovered fate → SettlesInRound k holder.id key fate
      settled-by r on is left = record { push = was.push; round = round-of r on is; goal = goal; aims = was.aims; left = subst (λ (r : RoundCount). LeavesFateBy goal was.push.reply r.recovered fate) (sym is) left }

      goes-all : (heard : List Heard) (r : RoundCount) → All (IsBehindPush holder.id) heard → All (λ (g : Heard). is_resolve_of holder.id g.request ≡ false) heard → All (λ (g : Heard). (shown : View) → RecoveredTo holder.id shown g.request g.reply → final_fate shown ≡ Some fate) heard
          → GoesOn (open_txn start) holder.id closed (conflict ∷ next.later) was.push r → GoesOn (open_txn start) holder.id closed (conflict ∷ next.later) was.push (fold (rounds_after (open_txn start)) r heard)
      goes-all heard r behind unsettled final on = all_go (open_txn start) holder.id closed (conflict ∷ next.later) was.push fate heard r behind unsettled final on

      pub settles_next : LeavesFate holder.id goal reply later fate → SettlesInRound k holder.id key fate
      settles_next left = by reply refl left
        where
          by : (told : Reply) → reply ≡ told → LeavesFate holder.id goal told later fate → SettlesInRound k holder.id key fate
          by (replies.Status view) is left =
              settled-by (fold (rounds_after (open_txn start)) begun later) (goes-all later begun was.behind unsettled final goes-begun) made-is (subst (λ y. LeavesFateBy goal y (fold (rounds_after (open_txn start)) begun later).recovered fate) (sym (was.told ∙ is)) left)
          by (replies.Unsure view) is left =
              let f = recovered (open_txn start) holder.id closed (conflict ∷ next.later) was.push fate later begun was.behind unsettled final goes-begun (inr left) in
              settled-by (fold (rounds_after (open_txn start)) begun later) f.0 made-is (subst (λ y. LeavesFateBy goal y (fold (rounds_after (open_txn start)) begun later).recovered fate) (sym (was.told ∙ is)) f.1)
          by told is left = absurd left
