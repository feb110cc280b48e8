-- A conflict's round that was made, as its call sees it.
use Rattle.std.proofs.Common.{◌≡◌, ℕ, zero, suc, ◌+◌, ◌≤◌, Bool, true, false, cond, drop, fold, inl, inr, List, [], ◌∷◌, ◌++◌, refl, sym, ap, ◌∙◌, subst, arith, All, Any, IsTrue, Option, None, Some, count_by, length}
use Rattle.std.proofs.lemmas.Grind.{fold-append}
use Rattle.std.proofs.lemmas.List.{append_cancel_left}
use Rattle.std.proofs.lemmas.List.Elements.{All-cons, All-head, All-nil, All-tail, All-weaker}
use Rattle.pc_base.specs.declared.transaction.TxnId.{TxnId}
use Rattle.pc_base.specs.Transaction.{same_txn}
use Rattle.pc_call.specs.Paced.{IsBehindPushOf, KeepsBehindPushes, was_met, was_pushed}
use Rattle.pc_call.specs.Rounding.{GoesOnBeside, IsPushedOnce, MakesRound, RefusesRound}
use Rattle.pc_coord.proofs.Beside.{heard_goes-beside, more-beside, other-beside, sent_goes-beside, unqueried-beside}
use Rattle.pc_coord.specs.Beside.{IsLaterBeside}
use Rattle.pc_coord.specs.Coordination.{Coordination}
use Rattle.pc_coord.specs.Rounds.{EndsWithReply, IsBehindPush, IsRefusedRound, IsSettledRound, LeavesRoundOn}
use Rattle.pc_follows.specs.RoundOrder.{with_waiting}
use Rattle.pc_follows.specs.RoundsMade.{RoundCount, is_open_one, no_rounds, one_over, rounds_after, rounds_by, rounds_made, with_conflict}
use Rattle.pc_lists.proofs.Counts.{count-append, count-cons, one_if}
use Rattle.std.proofs.lemmas.Bool.{and_parts}
use Rattle.pc_lists.proofs.Same.{same_txn-is, same_txn-self}
use Rattle.pc_proto.specs.declared.fate.Goal.{Goal}
use Rattle.pc_proto.specs.declared.meta.TxnMeta.{TxnMeta}
use Rattle.pc_proto.specs.declared.reply.Reply.{Reply}
use Rattle.pc_proto.specs.declared.reply.Reply.TheVariants as replies
use Rattle.pc_proto.specs.declared.request.Request.{Request}
use Rattle.pc_proto.specs.declared.request.Request.TheVariants as requests
use Rattle.pc_proto.specs.Replies.{is_conflict, is_refused}
use Rattle.pc_proto.specs.declared.view.View.{View}
use Rattle.pc_proto.specs.Requests.{goal_in, is_push_of, round_of}
use Rattle.pc_proto.specs.Views.{is_final_view}
use Rattle.pc_reads.specs.Replies.{unrefreshed_by}
use Rattle.pc_txn.specs.declared.txn.OpenTxn.{OpenTxn}
use Rattle.pc_txn.specs.Standing.{is_query_of}
use Rattle.pc_wave.proofs.Lists.{at_least-before, at_least-fewer}
use Rattle.pc_follows.specs.Resends.{WasDone, WasFollowed}
use Rattle.pc_world.specs.Counting.{AtLeast}
use Rattle.pc_world.specs.Known.{Known, open_txn}
use Rattle.pc_world.specs.Known.Traffic.{Heard}
use Rattle.pc_world.specs.Known.Transactions.{Txn}
use Rattle.pc_world.specs.SameRequest.{IsSamePut, IsSameRequest}
use Rattle.pc_world.specs.Send.Recovery.{was_refused}

-- ---- lists

module _ {X : Type 0} (P : X → Type 0) where
  -- at most one is so among the last ones: so no more than one fewer are so among the first
  pub at_least-but_one : (n : ℕ) (xs ys : List X) → (AtLeast P 2 ys → ⊥) → AtLeast P (suc n) (xs ++ ys) → AtLeast P n xs
  at_least-but_one zero xs ys few h = tt
  at_least-but_one (suc n) [] ys few h = absurd (few (at_least-fewer P 2 (suc (suc n)) ys (omega arith) h))
  at_least-but_one (suc n) (x ∷ xs) ys few (inl (is, h)) = inl (is, at_least-but_one n xs ys few h)
  at_least-but_one (suc n) (x ∷ xs) ys few (inr h) = inr (at_least-but_one (suc n) xs ys few h)

  -- one more that is not so leaves them few
  pub few-more : (n : ℕ) (x : X) (xs : List X) → (P x → ⊥) → (AtLeast P (suc n) xs → ⊥) → AtLeast P (suc n) (x ∷ xs) → ⊥
  few-more n x xs not few (inl (is, h)) = not is
  few-more n x xs not few (inr h) = few h

-- none of those is counted of which none passes
pub counts_none : {X : Type 0} (p : X → Bool) (xs : List X) → All (λ x. p x ≡ false) xs → count_by p xs ≡ 0
counts_none p [] none = refl
counts_none p (x ∷ xs) none =
    let a = count-cons p x xs in
    let b : one_if (p x) ≡ 0 = ap one_if (All-head (λ x. p x ≡ false) x xs none) in
    let d = counts_none p xs (All-tail (λ x. p x ≡ false) x xs none) in
    omega (arith, a, b, d)

-- what is so of all is so of the first ones, and of the last ones
All-first : {X : Type 0} (P : X → Type 0) (xs ys : List X) → All P (xs ++ ys) → All P xs
All-first P [] ys a = All-nil P
All-first P (x ∷ xs) ys a = All-cons P x xs (All-head P x (xs ++ ys) a) (All-first P xs ys (All-tail P x (xs ++ ys) a))

All-second : {X : Type 0} (P : X → Type 0) (xs ys : List X) → All P (xs ++ ys) → All P ys
All-second P [] ys a = a
All-second P (x ∷ xs) ys a = All-second P xs ys (All-tail P x (xs ++ ys) a)

-- ---- requests of a round

push_as : (id : TxnId) (request : Request) → is_push_of id request ≡ true → (other : TxnId) → is_push_of other request ≡ same_txn id other
push_as id (requests.Push holder by level now goal) is other = ap (λ id. same_txn id other) (same_txn-is holder.id id is)
push_as id request is other = absurd cc

no_goal_pushes : (request : Request) → goal_in request ≡ None → (other : TxnId) → is_push_of other request ≡ false
no_goal_pushes (requests.Push holder by level now goal) none other = absurd cc
no_goal_pushes request none other = refl

pub round_no_put : (request other : Request) (id : TxnId) → round_of request ≡ Some id → IsSamePut request other → ⊥
round_no_put (requests.Put meta seq ts key value) other id is put = absurd cc
round_no_put request other id is put = put

-- what stands behind a push is no push
pub behind_no_push : (id : TxnId) (request push : Request) (goal : Goal) → IsBehindPushOf id request → goal_in push ≡ Some goal → IsSameRequest request push → ⊥
behind_no_push id request push goal of aims (inl same) = let e : None ≡ Some goal = sym of.no_push ∙ (ap goal_in same ∙ aims) in cc
behind_no_push id request push goal of aims (inr put) = round_no_put request push id of.about put

-- nor of another transaction
behind_other : (id other : TxnId) (request asked : Request) → same_txn id other ≡ false → IsBehindPushOf other request → IsBehindPushOf id asked → IsSameRequest request asked → ⊥
behind_other id other request asked differ of is (inl same) =
    let both : Some other ≡ Some id = sym of.about ∙ (ap round_of same ∙ is.about) in
    let one : id ≡ other = cc in
    let e : true ≡ false = sym (same_txn-self other) ∙ (ap (λ i. same_txn i other) (sym one) ∙ differ) in cc
behind_other id other request asked differ of is (inr put) = round_no_put request asked other of.about put

-- what was done behind a push is behind no conflict
done_plain : (id : TxnId) (key : List ℕ) (goal : Goal) (reply : Reply) (later : List Heard) → WasDone id key goal reply later → is_conflict reply ≡ false
done_plain id key goal (replies.Conflict holder ts place) later done = absurd done
done_plain id key goal reply later done = refl

-- ---- a round that was made

module _ (id : TxnId) (key : List ℕ) (start k : Known) (round : IsSettledRound id key start k) where
  abbrev made : List Heard
  made = round.push ∷ round.later

  none_pushes : (other : TxnId) → count_by (was_pushed other) round.later ≡ 0
  none_pushes other =
      counts_none (was_pushed other) round.later
      (All-weaker (IsBehindPush id) (λ h. was_pushed other h ≡ false) (λ h is. no_goal_pushes h.request is.behind.no_push other) round.later round.behind)

  counted : (p : Heard → Bool) → count_by p k.heard_now ≡ count_by p start.heard_now + (one_if (p round.push) + count_by p round.later)
  counted p =
      let e : count_by p k.heard_now ≡ count_by p (start.heard_now ++ made) = ap (count_by p) round.more in
      omega (arith, e, count-append p start.heard_now made, count-cons p round.push round.later)

  pushes : (other : TxnId) → count_by (was_pushed other) k.heard_now ≡ count_by (was_pushed other) start.heard_now + one_if (same_txn id other)
  pushes other =
      let a : one_if (was_pushed other round.push) ≡ one_if (same_txn id other) = ap one_if (push_as id round.push.request round.pushed other) in
      omega (arith, counted (was_pushed other), a, none_pushes other)

  -- nothing is asked for twice in it
  made_once : (other : TxnId) (request : Request) → IsBehindPushOf other request → AtLeast (λ h. IsSameRequest request h.request) 2 made → ⊥
  made_once other request of =
      few-more (λ h. IsSameRequest request h.request) 1 round.push round.later (behind_no_push other request round.push.request round.goal of round.aims) (round.once request)

  -- and nothing of another transaction
  made_none : (other : TxnId) (request : Request) → same_txn id other ≡ false → IsBehindPushOf other request → All (λ h. IsSameRequest request h.request → ⊥) made
  made_none other request differ of =
      let N : Heard → Type 0 = λ h. IsSameRequest request h.request → ⊥ in
      All-cons N round.push round.later (behind_no_push other request round.push.request round.goal of round.aims)
      (All-weaker (IsBehindPush id) N (λ h is same. behind_other id other request h.request differ of is.behind same) round.later round.behind)

  kept_behind : ((other : TxnId) → KeepsBehindPushes other start.heard_now) → (other : TxnId) → KeepsBehindPushes other k.heard_now
  kept_behind paced other request of n many = by (same_txn id other) refl n (subst (λ hs. AtLeast Same n hs) round.more many)
    where
      Same : Heard → Type 0
      Same h = IsSameRequest request h.request

      by : (b : Bool) → same_txn id other ≡ b → (n : ℕ) → AtLeast Same n (start.heard_now ++ made) → n ≤ count_by (was_pushed other) k.heard_now
      by b is zero many = omega arith
      by true is (suc n) many =
          let old = paced other request of n (at_least-but_one Same n start.heard_now made (made_once other request of) many) in
          let one : one_if (same_txn id other) ≡ 1 = ap one_if is in
          omega (arith, old, one, pushes other)
      by false is (suc n) many =
          let old = paced other request of (suc n) (at_least-before Same (suc n) start.heard_now made (made_none other request is of) many) in
          omega (arith, old, pushes other)

  -- the holder was pushed once more
  pushed_once : ((other : TxnId) → KeepsBehindPushes other start.heard_now) → IsPushedOnce id start.heard_now k.heard_now
  pushed_once paced = record {
    pushes = pushes;
    met = λ other. omega (arith, counted (was_met other));
    behind = kept_behind paced;
  }

  followed : WasFollowed id key made
  followed = record {
    before = [];
    push = round.push;
    after = round.later;
    whole = refl;
    pushed = round.pushed;
    goal = round.goal;
    aims = round.aims;
    done = round.done;
  }

  pub unmet : All (λ h. is_conflict h.reply ≡ false) made
  unmet =
      let P : Heard → Type 0 = λ h. is_conflict h.reply ≡ false in
      All-cons P round.push round.later (done_plain id key round.goal round.push.reply round.later round.done)
      (All-weaker (IsBehindPush id) P (λ h is. is.unmet) round.later round.behind)

-- ---- how far the rounds are

module _ (opened : Option Txn) where
  abbrev met : RoundCount → Heard → RoundCount
  met r h = rounds_after opened r h

  same_waiting : (r : RoundCount) (h : Heard) → is_conflict h.reply ≡ false → (with_conflict h r).waiting ≡ r.waiting
  same_waiting r h plain = ap (λ b. cond b (with_waiting h r.waiting) r.waiting) plain

  push_waits : (id : TxnId) (r : RoundCount) (h : Heard) → is_push_of id h.request ≡ true → is_conflict h.reply ≡ false → (met r h).waiting ≡ r.waiting
  push_waits id r h is plain = by h.request is ∙ same_waiting r h plain
    where
      by : (q : Request) → is_push_of id q ≡ true → (rounds_by opened h q h.reply (with_conflict h r)).waiting ≡ (with_conflict h r).waiting
      by (requests.Push holder pusher level now goal) is = refl
      by q is = absurd cc

  on_waits : (own : TxnId) (r : RoundCount) (h : Heard) → LeavesRoundOn h.request h.reply → is_conflict h.reply ≡ false → ((id : TxnId) → is_query_of id h.request ≡ true → is_open_one opened id ≡ false) → (met r h).waiting ≡ r.waiting
  on_waits own r h on plain other = by h.request h.reply on other ∙ same_waiting r h plain
    where
      found : (b : Bool) (r : RoundCount) → b ≡ false → (cond b (one_over r) r).waiting ≡ r.waiting
      found true r is = absurd cc
      found false r is = refl

      known : (b : Bool) (view : View) (r : RoundCount) → b ≡ true → (cond b (record r { recovered = Some view }) (one_over r)).waiting ≡ r.waiting
      known true view r is = refl
      known false view r is = absurd cc

      by : (q : Request) (reply : Reply) → LeavesRoundOn q reply → ((id : TxnId) → is_query_of id q ≡ true → is_open_one opened id ≡ false) → (rounds_by opened h q reply (with_conflict h r)).waiting ≡ (with_conflict h r).waiting
      by (requests.Query id epoch seq ts key asker) replies.Found on other = found (is_open_one opened id) (with_conflict h r) (other id (same_txn-self id))
      by (requests.Query id epoch seq ts key asker) reply on other = refl
      by (requests.Recover id epoch ts anchor finding) (replies.Status view) on other = known (is_final_view view) view (with_conflict h r) on
      by q reply on other = absurd on

  end_waits : (r : RoundCount) (h : Heard) → EndsWithReply h.request h.reply → is_conflict h.reply ≡ false → ((met r h).waiting ≡ drop 1 r.waiting) × ((met r h).push ≡ None)
  end_waits r h over plain = let e = by h.request h.reply over in (e.0 ∙ ap (drop 1) (same_waiting r h plain), e.1)
    where
      known : (b : Bool) (view : View) (r : RoundCount) → b ≡ false → ((cond b (record r { recovered = Some view }) (one_over r)).waiting ≡ drop 1 r.waiting) × ((cond b (record r { recovered = Some view }) (one_over r)).push ≡ None)
      known true view r is = absurd cc
      known false view r is = (refl, refl)

      by : (q : Request) (reply : Reply) → EndsWithReply q reply → ((rounds_by opened h q reply (with_conflict h r)).waiting ≡ drop 1 (with_conflict h r).waiting) × ((rounds_by opened h q reply (with_conflict h r)).push ≡ None)
      by (requests.Resolve id key fate) replies.Resolved over = (refl, refl)
      by (requests.Recover id epoch ts anchor finding) (replies.Status view) over = known (is_final_view view) view (with_conflict h r) over
      by q reply over = absurd over

  all_wait : (own : TxnId) (r : RoundCount) (hs : List Heard) → All (λ h. LeavesRoundOn h.request h.reply) hs → All (λ h. is_conflict h.reply ≡ false) hs
      → All (λ h. (id : TxnId) → is_query_of id h.request ≡ true → is_open_one opened id ≡ false) hs → (fold met r hs).waiting ≡ r.waiting
  all_wait own r [] on plain other = refl
  all_wait own r (h ∷ hs) on plain other =
      let O : Heard → Type 0 = λ h. (id : TxnId) → is_query_of id h.request ≡ true → is_open_one opened id ≡ false in
      all_wait own (met r h) hs (All-tail (λ h. LeavesRoundOn h.request h.reply) h hs on) (All-tail (λ h. is_conflict h.reply ≡ false) h hs plain) (All-tail O h hs other)
      ∙ on_waits own r h (All-head (λ h. LeavesRoundOn h.request h.reply) h hs on) (All-head (λ h. is_conflict h.reply ≡ false) h hs plain) (All-head O h hs other)

-- a query that asks for no write of the open transaction is of another
not_open : (own : TxnId) (opened : Option Txn) (request : Request) → ((t : Txn) → opened ≡ Some t → t.id ≡ own) → is_query_of own request ≡ false → (id : TxnId) → is_query_of id request ≡ true → is_open_one opened id ≡ false
not_open own None request whose other id asks = refl
not_open own (Some t) request whose other id asks = by (same_txn t.id id) refl
  where
    by : (b : Bool) → same_txn t.id id ≡ b → b ≡ false
    by true same =
        let mine : own ≡ id = sym (whose t refl) ∙ same_txn-is t.id id same in
        let e : false ≡ true = sym other ∙ ap (λ id. is_query_of id request) mine ∙ asks in
        cc
    by false same = refl

module _ (id : TxnId) (key : List ℕ) (start k : Known) (round : IsSettledRound id key start k) (own : TxnId) (opened : open_txn k ≡ open_txn start) (whose : (t : Txn) → open_txn start ≡ Some t → t.id ≡ own) (unqueried : All (λ h. is_query_of own h.request ≡ false) (made id key start k round)) where
  abbrev first : RoundCount
  first = rounds_made start

  abbrev pushed_then : RoundCount
  pushed_then = rounds_after (open_txn start) first round.push

  abbrev before_last : RoundCount
  before_last = fold (rounds_after (open_txn start)) pushed_then round.ends.before

  rounds_are : rounds_made k ≡ rounds_after (open_txn start) before_last round.ends.last
  rounds_are =
      ap (λ o. fold (rounds_after o) no_rounds k.heard_now) opened
      ∙ ap (fold (rounds_after (open_txn start)) no_rounds) round.more
      ∙ fold-append (rounds_after (open_txn start)) no_rounds start.heard_now (made id key start k round)
      ∙ ap (λ hs. fold (rounds_after (open_txn start)) first (round.push ∷ hs)) round.ends.whole
      ∙ fold-append (rounds_after (open_txn start)) pushed_then round.ends.before (round.ends.last ∷ [])

  plain : All (λ h. is_conflict h.reply ≡ false) (round.ends.before ++ round.ends.last ∷ [])
  plain = subst (λ hs. All (λ h. is_conflict h.reply ≡ false) hs) round.ends.whole (All-tail (λ h. is_conflict h.reply ≡ false) round.push round.later (unmet id key start k round))

  asks : All (λ h. is_query_of own h.request ≡ false) (round.ends.before ++ round.ends.last ∷ [])
  asks = subst (λ hs. All (λ h. is_query_of own h.request ≡ false) hs) round.ends.whole (All-tail (λ h. is_query_of own h.request ≡ false) round.push round.later unqueried)

  still : before_last.waiting ≡ first.waiting
  still =
      all_wait (open_txn start) own pushed_then round.ends.before round.ends.on (All-first (λ h. is_conflict h.reply ≡ false) round.ends.before (round.ends.last ∷ []) plain)
      (All-weaker (λ h. is_query_of own h.request ≡ false) (λ h. (id : TxnId) → is_query_of id h.request ≡ true → is_open_one (open_txn start) id ≡ false) (λ h isnt. not_open own (open_txn start) h.request whose isnt) round.ends.before
      (All-first (λ h. is_query_of own h.request ≡ false) round.ends.before (round.ends.last ∷ []) asks))
      ∙ push_waits (open_txn start) id first round.push round.pushed (All-head (λ h. is_conflict h.reply ≡ false) round.push round.later (unmet id key start k round))

  last : ((rounds_after (open_txn start) before_last round.ends.last).waiting ≡ drop 1 before_last.waiting) × ((rounds_after (open_txn start) before_last round.ends.last).push ≡ None)
  last = end_waits (open_txn start) before_last round.ends.last round.ends.over (All-head (λ h. is_conflict h.reply ≡ false) round.ends.last [] (All-second (λ h. is_conflict h.reply ≡ false) round.ends.before (round.ends.last ∷ []) plain))

  -- the next conflict is over
  pub round_over : (rounds_made k).waiting ≡ drop 1 (rounds_made start).waiting
  round_over = ap (λ r. r.waiting) rounds_are ∙ last.0 ∙ ap (drop 1) still

  -- and no round goes on
  pub round_unpushed : (rounds_made k).push ≡ None
  round_unpushed = ap (λ r. r.push) rounds_are ∙ last.1

done_held : (id : TxnId) (key : List ℕ) (goal : Goal) (reply : Reply) (later : List Heard) → WasDone id key goal reply later → unrefreshed_by reply ≡ None
done_held id key goal (replies.Status view) later done = refl
done_held id key goal (replies.Unsure view) later done = refl
done_held id key goal reply later done = absurd done

-- the round of a conflict was made
pub makes_round : {l : Bool} (c : Coordination) (start k : Known) (x : OpenTxn) (holder : TxnMeta) (ts : ℕ) (key : List ℕ) → c.txn ≡ Some x → (start.statement ≡ None → ⊥) → ((t : Txn) → open_txn start ≡ Some t → t.id ≡ x.id) → IsLaterBeside l c start k
    → IsSettledRound holder.id key start k → ((other : TxnId) → KeepsBehindPushes other start.heard_now) → MakesRound start k x.id (replies.Conflict holder ts key)
makes_round c start k x holder ts key held opened whose later round paced =
    let H : Heard → Type 0 = λ h. unrefreshed_by h.reply ≡ None in
    let same : later.heard_more ≡ made holder.id key start k round = append_cancel_left start.heard_now later.heard_more (made holder.id key start k round) (sym later.heard_now ∙ round.more) in
    record {
      sent_more = later.sent_more;
      heard_more = later.heard_more;
      more = more-beside c start k later;
      sent_beside = sent_goes-beside c start k later opened;
      heard_beside = heard_goes-beside c start k later opened;
      other = other-beside c start k later x held;
      unqueried = unqueried-beside c start k later x held;
      unmet = subst (λ hs. All (λ h. is_conflict h.reply ≡ false) hs) (sym same) (unmet holder.id key start k round);
      unrefreshed =
          subst (λ hs. All H hs) (sym same)
          (All-cons H round.push round.later (done_held holder.id key round.goal round.push.reply round.later round.done) (All-weaker (IsBehindPush holder.id) H (λ h is. is.held) round.later round.behind));
      numbered = later.sent_first;
      over = round_over holder.id key start k round x.id later.txns.first whose (subst (λ hs. All (λ h. is_query_of x.id h.request ≡ false) hs) same (unqueried-beside c start k later x held));
      unpushed = round_unpushed holder.id key start k round x.id later.txns.first whose (subst (λ hs. All (λ h. is_query_of x.id h.request ≡ false) hs) same (unqueried-beside c start k later x held));
      followed = subst (λ hs. WasFollowed holder.id key hs) (sym same) (followed holder.id key start k round);
      pace = pushed_once holder.id key start k round paced;
      statement = later.statement;
      is_open = later.is_open;
      first = later.txns.first;
      begun = omega (arith, later.begun);
      high = later.high;
    }

-- ---- a round whose push was refused

refused_plain : (reply : Reply) → is_refused reply ≡ true → (is_conflict reply ≡ false) × (unrefreshed_by reply ≡ None)
refused_plain (replies.Refused view) is = (refl, refl)
refused_plain reply is = absurd cc

aims_at : (id : TxnId) (request : Request) → is_push_of id request ≡ true → (goal : Goal) × (goal_in request ≡ Some goal)
aims_at id (requests.Push holder by level now goal) is = (goal, refl)
aims_at id request is = absurd cc

push_is : (opened : Option Txn) (id : TxnId) (r : RoundCount) (h : Heard) → is_push_of id h.request ≡ true → (met opened r h).push ≡ Some h
push_is opened id r h is = by h.request is
  where
    by : (q : Request) → is_push_of id q ≡ true → (rounds_by opened h q h.reply (with_conflict h r)).push ≡ Some h
    by (requests.Push holder pusher level now goal) is = refl
    by q is = absurd cc

module _ (id : TxnId) (start k : Known) (round : IsRefusedRound id start k) where
  parts : (is_push_of id round.push.request ≡ true) × (is_refused round.push.reply ≡ true)
  parts = and_parts (is_push_of id round.push.request) (is_refused round.push.reply) round.refused

  refused_counted : (p : Heard → Bool) → count_by p k.heard_now ≡ count_by p start.heard_now + one_if (p round.push)
  refused_counted p =
      let e : count_by p k.heard_now ≡ count_by p (start.heard_now ++ round.push ∷ []) = ap (count_by p) round.more in
      omega (arith, e, count-append p start.heard_now (round.push ∷ []), count-cons p round.push [])

  refused_pace : ((other : TxnId) → KeepsBehindPushes other start.heard_now) → IsPushedOnce id start.heard_now k.heard_now
  refused_pace paced = record {
    pushes = λ other. let a : one_if (was_pushed other round.push) ≡ one_if (same_txn id other) = ap one_if (push_as id round.push.request parts.0 other) in omega (arith, refused_counted (was_pushed other), a);
    met = λ other. omega (arith, refused_counted (was_met other));
    behind = λ other request of n many.
        let Same : Heard → Type 0 = λ h. IsSameRequest request h.request in
        let aims = aims_at id round.push.request parts.0 in
        let old = paced other request of n
        (at_least-before Same n start.heard_now (round.push ∷ []) (All-cons (λ h. Same h → ⊥) round.push [] (behind_no_push other request round.push.request aims.0 of aims.1) (All-nil (λ h. Same h → ⊥))) (subst (λ hs. AtLeast Same n hs) round.more many)) in
        omega (arith, old, refused_counted (was_pushed other));
  }

  module _ (opened : open_txn k ≡ open_txn start) where
    refused_rounds : rounds_made k ≡ rounds_after (open_txn start) (rounds_made start) round.push
    refused_rounds =
        ap (λ o. fold (rounds_after o) no_rounds k.heard_now) opened
        ∙ ap (fold (rounds_after (open_txn start)) no_rounds) round.more
        ∙ fold-append (rounds_after (open_txn start)) no_rounds start.heard_now (round.push ∷ [])

    refused_waits : (rounds_made k).waiting ≡ (rounds_made start).waiting
    refused_waits = ap (λ r. r.waiting) refused_rounds ∙ push_waits (open_txn start) id (rounds_made start) round.push parts.0 (refused_plain round.push.reply parts.1).0

    refused_push : (rounds_made k).push ≡ Some round.push
    refused_push = ap (λ r. r.push) refused_rounds ∙ push_is (open_txn start) id (rounds_made start) round.push parts.0

-- the push of a conflict's round was refused
pub refuses_round : {l : Bool} (c : Coordination) (start k : Known) (x : OpenTxn) (holder : TxnMeta) (ts : ℕ) (key : List ℕ) → c.txn ≡ Some x → (beside : GoesOnBeside start k x.id) → (later : IsLaterBeside l c start k) → beside.heard_more ≡ later.heard_more → beside.sent_more ≡ later.sent_more
    → IsRefusedRound holder.id start k → ((other : TxnId) → KeepsBehindPushes other start.heard_now) → RefusesRound start k x.id (replies.Conflict holder ts key)
refuses_round c start k x holder ts key held beside later heard sent round paced =
    let one : beside.heard_more ≡ round.push ∷ [] = heard ∙ append_cancel_left start.heard_now later.heard_more (round.push ∷ []) (sym later.heard_now ∙ round.more) in
    let C : Heard → Type 0 = λ h. is_conflict h.reply ≡ false in
    let H : Heard → Type 0 = λ h. unrefreshed_by h.reply ≡ None in
    let plain = refused_plain round.push.reply (parts holder.id start k round).1 in
    record {
      beside = beside;
      refused = subst (λ hs. Any (λ h. IsTrue (was_refused holder.id h)) hs) (sym one) (0, round.push, omega arith, refl, round.refused);
      unmet = subst (λ hs. All C hs) (sym one) (All-cons C round.push [] plain.0 (All-nil C));
      unrefreshed = subst (λ hs. All H hs) (sym one) (All-cons H round.push [] plain.1 (All-nil H));
      numbered = subst (λ ms. All (λ m. length start.sent + 1 ≤ m.number) ms) (sym sent) later.sent_first;
      pace = refused_pace holder.id start k round paced;
      waiting = refused_waits holder.id start k round later.txns.first;
      push = round.push;
      pushed = refused_push holder.id start k round later.txns.first;
      push_refused = (parts holder.id start k round).1;
    }
