-- The rounds of a call's conflicts in turn: what more was heard takes nothing from those that are over, and the messages of the next one go
-- out in their places.
use Rattle.std.proofs.Common.{◌≡◌, ℕ, zero, suc, ◌+◌, ◌<◌, Bool, true, false, cond, ◌⊎◌, inl, inr, List, [], ◌∷◌, ◌++◌, Some, All, refl, sym, ap, ◌∙◌, subst, arith, count_by, drop, filter, is_some, length, slice_get, take}
use Rattle.std.proofs.lemmas.List.{append-nil, append_assoc, take-append-drop}
use Rattle.std.proofs.lemmas.List.Elements.{All-head, All-tail, All-weaker, filter-append}
use Rattle.std.proofs.lemmas.List.Sums.{length-filter}
use Rattle.std.proofs.lemmas.Option.{same_Some}
use Rattle.pc_base.specs.declared.limits.TheConstants.{MOST_CONFLICTS}
use Rattle.pc_coord.proofs.Rounds.{counts_none, unmet}
use Rattle.pc_coord.specs.Rounds.{IsBehindPush, IsSettledRound}
use Rattle.pc_exchange.specs.InTurn.{IsNextRound, pushes_answered}
use Rattle.pc_exchange.specs.Rounding.{WasPushedOnceFor}
use Rattle.pc_lists.proofs.Counts.{count-append, count-cons, count-push, one_if}
use Rattle.pc_lists.proofs.Lists.{get_append}
use Rattle.pc_proto.specs.declared.fate.Fate.{Fate}
use Rattle.pc_proto.specs.declared.fate.Goal.{Goal}
use Rattle.pc_proto.specs.declared.meta.TxnMeta.{TxnMeta}
use Rattle.pc_proto.specs.declared.reply.Reply.{Reply}
use Rattle.pc_proto.specs.declared.reply.Reply.TheVariants as replies
use Rattle.pc_proto.specs.Replies.{is_conflict}
use Rattle.pc_proto.specs.Requests.{goal_in}
use Rattle.pc_push.specs.Pushing.{Pushing, push_of}
use Rattle.pc_wave.proofs.Lists.{at_least-kept}
use Rattle.pc_wave.proofs.Standings.{done-more}
use Rattle.pc_world.specs.Counting.{AtLeast}
use Rattle.pc_follows.specs.Eighth.{IsBeforeEighth, IsBelowEighth}
use Rattle.pc_follows.specs.Resends.{WasDone}
use Rattle.pc_follows.specs.Rounds.{AreRoundsOver, IsConflictAt, IsFateOfRound, IsInItsRound, IsInRound, IsRoundOver, LeavesFate, conflicts_now, rounds_begun}
use Rattle.pc_world.specs.Known.{Known}
use Rattle.pc_world.specs.Known.Traffic.{Heard}
use Rattle.pc_world.specs.Send.Push.{goal_for}
use Rattle.pc_world.specs.Tell.Refusal.{IsConflictOf}

-- ---- lists

module _ {X : Type 0} (p : X → Bool) where
  cuts_meet : (xs before : List X) (x y : X) (later after : List X) → xs ++ (x ∷ later) ≡ before ++ (y ∷ after) → p x ≡ true → p y ≡ true → count_by p xs ≡ count_by p before → (x ≡ y) × (later ≡ after)
  cuts_meet [] [] x y later after e one other same = (cc, cc)
  cuts_meet [] (w ∷ before) x y later after e one other same =
      let h : x ≡ w = cc in
      let a = count-cons p w before in
      let b : one_if (p w) ≡ 1 = ap one_if (sym (ap p h) ∙ one) in
      absurd (omega (arith, a, b, same))
  cuts_meet (z ∷ xs) [] x y later after e one other same =
      let h : z ≡ y = cc in
      let a = count-cons p z xs in
      let b : one_if (p z) ≡ 1 = ap one_if (ap p h ∙ other) in
      absurd (omega (arith, a, b, same))
  cuts_meet (z ∷ xs) (w ∷ before) x y later after e one other same =
      let h : z ≡ w = cc in
      let t : xs ++ (x ∷ later) ≡ before ++ (y ∷ after) = cc in
      let a = count-cons p z xs in
      let b = count-cons p w before in
      let d : one_if (p z) ≡ one_if (p w) = ap (λ v. one_if (p v)) h in
      cuts_meet xs before x y later after t one other (omega (arith, a, b, d, same))

  -- a list that is cut at two elements that pass, before which as many pass, is cut at one place
  pub cut_at_one : (xs before : List X) (x y : X) (later after : List X) → xs ++ (x ∷ later) ≡ before ++ (y ∷ after) → p x ≡ true → p y ≡ true → length (filter p xs) ≡ length (filter p before) → (x ≡ y) × (later ≡ after)
  cut_at_one xs before x y later after e one other same = cuts_meet xs before x y later after e one other (sym (length-filter p xs) ∙ (same ∙ length-filter p before))

  -- none is left of those of which none passes
  filter_none : (xs : List X) → All (λ x. p x ≡ false) xs → filter p xs ≡ []
  filter_none [] none = refl
  filter_none (x ∷ xs) none =
      let fails : filter p (x ∷ xs) ≡ cond (p x) (x ∷ filter p xs) (filter p xs) = refl in
      fails ∙ (ap (λ b. cond b (x ∷ filter p xs) (filter p xs)) (All-head (λ x. p x ≡ false) x xs none) ∙ filter_none xs (All-tail (λ x. p x ≡ false) x xs none))

  -- how many pass with one more
  pub passing_more : (xs : List X) (x : X) → length (filter p (xs ++ (x ∷ []))) ≡ length (filter p xs) + one_if (p x)
  passing_more xs x = length-filter p (xs ++ (x ∷ [])) ∙ (count-push p xs x ∙ ap (λ n. n + one_if (p x)) (sym (length-filter p xs)))

  module _ (P : X → Type 0) where
    -- as many are so of all as of those that pass
    pub at_least-filter : (n : ℕ) (xs : List X) → AtLeast P n (filter p xs) → AtLeast P n xs
    at_least-filter zero xs h = tt
    at_least-filter (suc n) [] h = h
    at_least-filter (suc n) (x ∷ xs) h = by (p x) refl (at_least-filter n xs) (at_least-filter (suc n) xs)
      where
        by : (b : Bool) → p x ≡ b → (AtLeast P n (filter p xs) → AtLeast P n xs) → (AtLeast P (suc n) (filter p xs) → AtLeast P (suc n) xs) → AtLeast P (suc n) (x ∷ xs)
        by true is less later = on (subst (AtLeast P (suc n)) passes h)
          where
            passes : filter p (x ∷ xs) ≡ x ∷ filter p xs
            passes = cc

            on : AtLeast P (suc n) (x ∷ filter p xs) → AtLeast P (suc n) (x ∷ xs)
            on (inl (first, rest)) = inl (first, less rest)
            on (inr rest) = inr (later rest)
        by false not less later = let fails : filter p (x ∷ xs) ≡ filter p xs = cc in inr (later (subst (AtLeast P (suc n)) fails h))

-- ---- rounds that are over

module _ (k later : Known) (more : List Heard) (heard : later.heard_now ≡ k.heard_now ++ more) where
  pub conflicts_more : conflicts_now later ≡ conflicts_now k ++ filter (λ h. is_conflict h.reply) more
  conflicts_more = ap (filter (λ (h : Heard). is_conflict h.reply)) heard ∙ filter-append (λ (h : Heard). is_conflict h.reply) k.heard_now more

  -- each conflict keeps its place
  pub conflict_more : (place : ℕ) (holder : TxnMeta) (key : List ℕ) → IsConflictAt k place holder key → IsConflictAt later place holder key
  conflict_more place holder key at = record {
    conflict = at.conflict;
    ts = at.ts;
    placed = ap (λ l. slice_get l place) conflicts_more ∙ get_append (conflicts_now k) (filter (λ h. is_conflict h.reply) more) place at.conflict at.placed;
    met = at.met;
  }

  -- a round that is over stays so
  pub over_more : (place : ℕ) → IsRoundOver k place → IsRoundOver later place
  over_more place o = record {
    before = o.before;
    push = o.push;
    after = o.after ++ more;
    whole = heard ∙ (ap (λ l. l ++ more) o.whole ∙ append_assoc o.before (o.push ∷ o.after) more);
    placed = o.placed;
    holder = o.holder;
    key = o.key;
    of = conflict_more place o.holder o.key o.of;
    goal = o.goal;
    aims = o.aims;
    done = done-more o.holder.id o.key o.goal o.push.reply o.after more o.done;
  }

  -- all do, where no further one was begun
  pub all_over_more : rounds_begun later ≡ rounds_begun k → AreRoundsOver k → AreRoundsOver later
  all_over_more begun over place low = over_more place (over place (subst (λ n. place < n) begun low))

-- ---- the next round

module _ (start k : Known) (conflict : Heard) (next : IsNextRound start conflict) (holder : TxnMeta) (ts : ℕ) (key : List ℕ) (met : conflict.reply ≡ replies.Conflict holder ts key) where
  pub conflict_at : IsConflictAt start (rounds_begun start) holder key
  conflict_at = record { conflict = conflict; ts = ts; placed = next.placed; met = met }

  -- its push goes out in its place
  pub push_in_turn : (m : Pushing) → m.holder ≡ holder → m.goal ≡ goal_for conflict.request → k.heard_now ≡ start.heard_now → rounds_begun k ≡ rounds_begun start → IsInItsRound k (push_of m) × IsBeforeEighth false k (push_of m)
  push_in_turn m whose aims same begun = (
    record {
      key = key;
      next = record {
        conflict = conflict;
        ts = ts;
        placed = ap (λ n. slice_get (conflicts_now k) n) begun ∙ (ap (λ l. slice_get l (rounds_begun start)) (ap (filter (λ (h : Heard). is_conflict h.reply)) same) ∙ next.placed);
        met = met ∙ ap (λ (h : TxnMeta). replies.Conflict h ts key) (sym whose);
      };
      over = all_over_more start k [] none begun next.over;
      aims = aims;
    },
    below,
  )
    where
      none : k.heard_now ≡ start.heard_now ++ []
      none = same ∙ sym (append-nil start.heard_now)

      below : IsBelowEighth k
      below other placed eight =
          let at : slice_get (conflicts_now start) (rounds_begun start) ≡ Some other =
          sym (ap (λ l. slice_get l (rounds_begun start)) (ap (filter (λ (h : Heard). is_conflict h.reply)) same)) ∙ (ap (λ n. slice_get (conflicts_now k) n) (sym begun) ∙ placed) in
          let it : other ≡ conflict = same_Some other conflict (sym at ∙ next.placed) in
          let all : AtLeast (IsConflictOf other.request) MOST_CONFLICTS (conflicts_now k) =
          subst (AtLeast (IsConflictOf other.request) MOST_CONFLICTS) (take-append-drop (rounds_begun k + 1) (conflicts_now k))
          (at_least-kept (IsConflictOf other.request) MOST_CONFLICTS (take (rounds_begun k + 1) (conflicts_now k)) (drop (rounds_begun k + 1) (conflicts_now k)) eight) in
          let ever : AtLeast (IsConflictOf other.request) MOST_CONFLICTS k.heard_now = at_least-filter (λ (h : Heard). is_conflict h.reply) (IsConflictOf other.request) MOST_CONFLICTS k.heard_now all in
          next.below (subst (λ (h : Heard). AtLeast (IsConflictOf h.request) MOST_CONFLICTS start.heard_now) it (subst (AtLeast (IsConflictOf other.request) MOST_CONFLICTS) same ever))

  -- while what its push's reply asks for is not done, it goes on
  module _ (goal : Goal) (reply : Reply) (later : List Heard) (was : WasPushedOnceFor holder.id goal reply later start k) (begun : rounds_begun k ≡ rounds_begun start + 1) where
    abbrev at : IsConflictAt k (rounds_begun start) holder key
    at = conflict_more start k (was.push ∷ later) was.more (rounds_begun start) holder key conflict_at

    done_of : IsRoundOver k (rounds_begun start) → WasDone holder.id key goal reply later
    done_of o =
        let meet = cut_at_one (λ (h : Heard). is_some (goal_in h.request)) start.heard_now o.before was.push o.push later o.after (sym was.more ∙ o.whole) (ap is_some was.aims) (ap is_some o.aims) (next.answered ∙ sym o.placed) in
        let one : o.of.conflict ≡ at.conflict = same_Some o.of.conflict at.conflict (sym o.of.placed ∙ at.placed) in
        let said : replies.Conflict o.holder o.of.ts o.key ≡ replies.Conflict holder at.ts key = sym o.of.met ∙ (ap (λ (h : Heard). h.reply) one ∙ at.met) in
        let holder_is : o.holder ≡ holder = cc in
        let key_is : o.key ≡ key = cc in
        let both : Some o.goal ≡ Some goal = sym o.aims ∙ (ap (λ (h : Heard). goal_in h.request) (sym meet.0) ∙ was.aims) in
        let goal_is : o.goal ≡ goal = cc in
        let reply_is : o.push.reply ≡ reply = ap (λ (h : Heard). h.reply) (sym meet.0) ∙ was.told in
        subst (λ l. WasDone holder.id key goal reply l) (sym meet.1)
        (subst (λ r. WasDone holder.id key goal r o.after) reply_is
        (subst (λ g. WasDone holder.id key g o.push.reply o.after) goal_is
        (subst (λ l. WasDone holder.id l o.goal o.push.reply o.after) key_is (subst (λ (h : TxnMeta). WasDone h.id o.key o.goal o.push.reply o.after) holder_is o.done))))

    pub goes_on : (WasDone holder.id key goal reply later → ⊥) → IsInRound k holder.id key
    goes_on undone = record { place = rounds_begun start; last = begun; holder = holder; of = at; whose = refl; goes_on = λ o. undone (done_of o) }

    -- and what it leaves to the intent is what the reply and what was heard behind it say
    pub fate_of : (fate : Fate) → LeavesFate holder.id goal reply later fate → IsFateOfRound k holder.id fate
    fate_of fate left = record {
      before = start.heard_now;
      push = was.push;
      after = later;
      whole = was.more;
      last = ap (λ n. n + 1) next.answered ∙ sym begun;
      goal = goal;
      aims = was.aims;
      left = subst (λ reply. LeavesFate holder.id goal reply later fate) (sym was.told) left;
    }

  -- ---- its end

  module _ (begun : rounds_begun k ≡ rounds_begun start + 1) where
    -- once its intent was settled, it is over as those before it are
    module _ (round : IsSettledRound holder.id key start k) where
      it_is_over : IsRoundOver k (rounds_begun start)
      it_is_over = record {
        before = start.heard_now;
        push = round.push;
        after = round.later;
        whole = round.more;
        placed = next.answered;
        holder = holder;
        key = key;
        of = conflict_more start k (round.push ∷ round.later) round.more (rounds_begun start) holder key conflict_at;
        goal = round.goal;
        aims = round.aims;
        done = round.done;
      }

      pub settled_over : AreRoundsOver k
      settled_over place low = by_place (below place (rounds_begun start) (subst (λ n. place < n) begun low))
        where
          below : (m n : ℕ) → m < n + 1 → (m < n) ⊎ (m ≡ n)
          below zero zero l = inr refl
          below zero (suc n) l = inl (omega arith)
          below (suc m) zero l = absurd (omega arith)
          below (suc m) (suc n) l = elim (below m n (omega arith)) [ inl less ↦ inl (omega arith) | inr same ↦ inr (ap suc same) ]

          by_place : (place < rounds_begun start) ⊎ (place ≡ rounds_begun start) → IsRoundOver k place
          by_place (inl less) = over_more start k (round.push ∷ round.later) round.more place (next.over place less)
          by_place (inr same) = subst (IsRoundOver k) (sym same) it_is_over

      is_push : is_some (goal_in round.push.request) ≡ true
      is_push = ap is_some round.aims

      no_push : count_by (λ h. is_some (goal_in h.request)) round.later ≡ 0
      no_push =
          counts_none (λ (h : Heard). is_some (goal_in h.request)) round.later
          (All-weaker (IsBehindPush holder.id) (λ (h : Heard). is_some (goal_in h.request) ≡ false) (λ h is. ap is_some is.behind.no_push) round.later round.behind)

      -- each push was answered
      pub settled_answered : pushes_answered k ≡ rounds_begun k
      settled_answered =
          let P : Heard → Bool = λ h. is_some (goal_in h.request) in
          let a : pushes_answered k ≡ length (filter P (start.heard_now ++ (round.push ∷ round.later))) = ap (λ l. length (filter P l)) round.more in
          let b = length-filter P (start.heard_now ++ (round.push ∷ round.later)) in
          let d = length-filter P start.heard_now in
          let e = count-append P start.heard_now (round.push ∷ round.later) in
          let f = count-cons P round.push round.later in
          let g : one_if (P round.push) ≡ 1 = ap one_if is_push in
          let h : pushes_answered start ≡ rounds_begun start = next.answered in
          omega (arith, a, b, d, e, f, g, h, no_push, begun)

      -- and no further conflict was met
      pub settled_conflicts : conflicts_now k ≡ conflicts_now start
      settled_conflicts =
          let none : filter (λ (h : Heard). is_conflict h.reply) (round.push ∷ round.later) ≡ [] = filter_none (λ (h : Heard). is_conflict h.reply) (round.push ∷ round.later) (unmet holder.id key start k round) in
          conflicts_more start k (round.push ∷ round.later) round.more ∙ (ap (λ l. conflicts_now start ++ l) none ∙ append-nil (conflicts_now start))
