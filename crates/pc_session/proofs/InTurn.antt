-- The rounds of an open call stay in turn: when it is asked, sends and hears, and once a round was made.
use Rattle.std.proofs.Common.{◌≡◌, ℕ, zero, suc, ◌+◌, ◌≤◌, Bool, true, false, ◌==◌, ◌⊎◌, inl, inr, List, [], ◌∷◌, ◌++◌, All, Any, Contains, Some, None, cond, count_by, filter, find, is_some, length, length-append, map, slice_get, take, refl, sym, ap, subst, ◌∙◌, arith}
use Rattle.std.proofs.lemmas.Bool.{eq-eqb}
use Rattle.std.proofs.lemmas.List.{append-nil, append_assoc, map-append}
use Rattle.std.proofs.lemmas.List.Elements.{All-contains, Contains-append_right}
use Rattle.std.proofs.lemmas.Option.{same_Some}
use Rattle.std.specs.List.{list_any}
use Rattle.pc_base.specs.declared.actor.ActorId.TheVariants as actors
use Rattle.pc_base.specs.declared.limits.TheConstants.{MOST_CONFLICTS}
use Rattle.pc_base.specs.declared.transaction.TxnId.{TxnId}
use Rattle.pc_call.specs.declared.call.OpenCall.{OpenCall}
use Rattle.pc_coord.specs.Coming.{ComesOf}
use Rattle.pc_coord.specs.declared.due.Due.{Due}
use Rattle.pc_coord.specs.declared.due.Due.TheVariants as dues
use Rattle.pc_desk.proofs.Counting.{counts_any}
use Rattle.pc_desk.specs.Desk.{DeskMeaning, KeepsTrack, heard_as_number}
use Rattle.pc_exchange.proofs.InTurn.{all_over_more, conflicts_more, passing_more}
use Rattle.pc_exchange.specs.InTurn.{pushes_answered}
use Rattle.pc_lists.proofs.Counts.{count-append, count-cons, one_if}
use Rattle.pc_lists.proofs.Lists.{all_from_contains, contains_cons, contains_filter, contains_head, contains_map, contains_nil, contains_tail, get_append, get_push}
use Rattle.pc_proto.specs.declared.answer.Answer.{Answer}
use Rattle.pc_proto.specs.declared.answer.Answer.TheVariants as answers
use Rattle.pc_proto.specs.declared.meta.TxnMeta.{TxnMeta}
use Rattle.pc_proto.specs.declared.reply.Reply.{Reply}
use Rattle.pc_proto.specs.declared.reply.Reply.TheVariants as replies
use Rattle.pc_proto.specs.declared.request.Request.{Request}
use Rattle.pc_proto.specs.Replies.{holder_in, is_conflict}
use Rattle.pc_proto.specs.Requests.{goal_in}
use Rattle.pc_session.proofs.Away.{any_there}
use Rattle.pc_session.proofs.Lost.{row_by}
use Rattle.pc_session.proofs.WaveTurns.{AreAllToSend, IsBelowNumber, IsBlockedFirst, IsFromNumber, IsUnlost, apart_again, apart_unsent, first_blocked, numbers_again, numbers_back, numbers_none, numbers_sent, order_again, order_back, order_sent, order_unsent, sends_no_more, sends_none, sent_none, unsent_none}
use Rattle.pc_session.specs.InCall.{IsApartNow}
use Rattle.pc_session.specs.InTurn.{HasRoundsInTurn, KeepsTurn, number_met, numbers_met}
use Rattle.pc_wave.proofs.Changed.{found_all}
use Rattle.pc_wave.proofs.Lists.{at_least-before, at_least-fewer}
use Rattle.pc_wave.proofs.Rounds.{due_round, first_found}
use Rattle.pc_wave.specs.Course.{Course}
use Rattle.pc_wave.specs.declared.message.Message.{Message}
use Rattle.pc_wave.specs.declared.message.Progress.{Progress}
use Rattle.pc_wave.specs.declared.message.Progress.TheVariants as progresses
use Rattle.pc_wave.specs.declared.step.Step.TheVariants as steps
use Rattle.pc_wave.specs.Messages.{awaits_at, back_with, conflicts_at, first_changed, goes_again, is_in_conflict, is_to_send, sent_under, step_of, wave_awaits}
use Rattle.pc_wave.specs.Standing.{AreOfTwo, IsAsFar, MessageStands, MetConflict, Pairwise, WaveStands}
use Rattle.pc_world.specs.Counting.{AtLeast}
use Rattle.pc_follows.specs.FirstBlock.{IsBlockedBy, TellsFirstBlock}
use Rattle.pc_follows.specs.Rounds.{AreConflictsOver, AreRoundsOver, conflicts_now, rounds_begun}
use Rattle.pc_world.specs.Known.{Known, known_of}
use Rattle.pc_world.specs.Known.Statements.{Statement}
use Rattle.pc_world.specs.Known.Traffic.{Heard, Sent}
use Rattle.pc_world.specs.MayTell.{MayTellIn}
use Rattle.pc_world.specs.SameRequest.{IsSameRequest}
use Rattle.pc_world.specs.Tell.Refusal.{IsConflictOf, MayTellBlocked, MetEight}

-- ---- lists

module _ {X : Type 0} (p : X → Bool) where
  -- of a list that one passes, one is that one
  pub once_only : (xs : List X) (a b : X) → count_by p xs ≤ 1 → Contains xs a → Contains xs b → p a ≡ true → p b ≡ true → a ≡ b
  once_only [] a b once one other pa pb = absurd (contains_nil a one)
  once_only (x ∷ xs) a b once one other pa pb =
      let c = count-cons p x xs in
      by (contains_cons x xs a one) (contains_cons x xs b other) (λ here there. once_only xs a b (omega (arith, c, once)) here there pa pb)
    where
      late : (y : X) → Contains xs y → p y ≡ true → 1 ≤ count_by p xs
      late y there is = counts_any p xs (any_there p xs y is there)

      two : p x ≡ true → 1 ≤ count_by p xs → a ≡ b
      two is l =
          let c = count-cons p x xs in
          let o : one_if (p x) ≡ 1 = ap one_if is in
          absurd (omega (arith, c, o, l, once))

      by : (x ≡ a) ⊎ Contains xs a → (x ≡ b) ⊎ Contains xs b → (Contains xs a → Contains xs b → a ≡ b) → a ≡ b
      by (inl here) (inl there) on = sym here ∙ there
      by (inl here) (inr there) on = two (ap p here ∙ pa) (late b there pb)
      by (inr here) (inl there) on = two (ap p there ∙ pb) (late a here pa)
      by (inr here) (inr there) on = on here there

  count_filter : (q : X → Bool) (xs : List X) → count_by p (filter q xs) ≤ count_by p xs
  count_filter q [] = omega arith
  count_filter q (x ∷ xs) = by (q x) refl (count_filter q xs)
    where
      by : (b : Bool) → q x ≡ b → count_by p (filter q xs) ≤ count_by p xs → count_by p (filter q (x ∷ xs)) ≤ count_by p (x ∷ xs)
      by true is low =
          let e : filter q (x ∷ xs) ≡ x ∷ filter q xs = cc in
          let a : count_by p (filter q (x ∷ xs)) ≡ count_by p (x ∷ filter q xs) = ap (count_by p) e in
          omega (arith, a, count-cons p x (filter q xs), count-cons p x xs, low)
      by false not low =
          let e : filter q (x ∷ xs) ≡ filter q xs = cc in
          let a : count_by p (filter q (x ∷ xs)) ≡ count_by p (filter q xs) = ap (count_by p) e in
          omega (arith, a, count-cons p x xs, low)

module _ {X : Type 0} (P : X → Type 0) (p : X → Bool) (on : (x : X) → P x → p x ≡ true) where
  -- those that are so all pass
  at_least-passing : (n : ℕ) (xs : List X) → AtLeast P n xs → AtLeast P n (filter p xs)
  at_least-passing zero xs h = tt
  at_least-passing (suc n) [] h = h
  at_least-passing (suc n) (x ∷ xs) (inl (is, rest)) =
      let pass : p x ≡ true = on x is in
      let e : filter p (x ∷ xs) ≡ x ∷ filter p xs = cc in
      subst (AtLeast P (suc n)) (sym e) (inl (is, at_least-passing n xs rest))
  at_least-passing (suc n) (x ∷ xs) (inr rest) = by (p x) refl (at_least-passing (suc n) xs rest)
    where
      by : (b : Bool) → p x ≡ b → AtLeast P (suc n) (filter p xs) → AtLeast P (suc n) (filter p (x ∷ xs))
      by true is later = let e : filter p (x ∷ xs) ≡ x ∷ filter p xs = cc in subst (AtLeast P (suc n)) (sym e) (inr later)
      by false not later = let e : filter p (x ∷ xs) ≡ filter p xs = cc in subst (AtLeast P (suc n)) (sym e) later

-- what is found is there
found_contains : {X : Type 0} (test : X → Bool) (xs : List X) (x : X) → find test xs ≡ Some x → Contains xs x
found_contains test [] x found = absurd cc
found_contains test (y ∷ xs) x found = by (test y) found (found_contains test xs x)
  where
    by : (b : Bool) → cond b (Some y) (find test xs) ≡ Some x → (find test xs ≡ Some x → Contains xs x) → Contains (y ∷ xs) x
    by true here on = let same : y ≡ x = cc in subst (λ z. Contains (y ∷ xs) z) same (contains_head y xs)
    by false later on = contains_tail y xs x (on later)

take_front : {X : Type 0} (xs ys : List X) (n : ℕ) → n ≡ length xs → take n (xs ++ ys) ≡ xs
take_front [] [] zero same = refl
take_front [] (y ∷ ys) zero same = refl
take_front [] ys (suc n) same = absurd cc
take_front (x ∷ xs) ys zero same = absurd cc
take_front (x ∷ xs) ys (suc n) same = ap (λ l. x ∷ l) (take_front xs ys n (omega arith))

-- what stands behind these is at their number
get_behind : {X : Type 0} (xs : List X) (y : X) (ys : List X) → slice_get (xs ++ y ∷ ys) (length xs) ≡ Some y
get_behind xs y ys = ap (λ l. slice_get l (length xs)) (sym (append_assoc xs (y ∷ []) ys)) ∙ get_append (xs ++ y ∷ []) ys (length xs) y (get_push xs y)

-- of two elements one stands before the other
pub pairwise_two : {X : Type 0} (R : X → X → Type 0) (xs : List X) (a b : X) → Pairwise R xs → Contains xs a → Contains xs b → (a ≡ b → ⊥) → R a b ⊎ R b a
pairwise_two R [] a b pairs one other differ = absurd (contains_nil a one)
pairwise_two R (x ∷ xs) a b pairs one other differ = by (contains_cons x xs a one) (contains_cons x xs b other) (λ here there. pairwise_two R xs a b pairs.1 here there differ)
  where
    by : (x ≡ a) ⊎ Contains xs a → (x ≡ b) ⊎ Contains xs b → (Contains xs a → Contains xs b → R a b ⊎ R b a) → R a b ⊎ R b a
    by (inl here) (inl there) on = absurd (differ (sym here ∙ there))
    by (inl here) (inr there) on = inl (subst (λ y. R y b) here (All-contains (R x) xs b pairs.0 there))
    by (inr here) (inl there) on = inr (subst (λ y. R y a) there (All-contains (R x) xs a pairs.0 here))
    by (inr here) (inr there) on = on here there

-- ---- replies are heard once

-- To no message two replies were heard in the call.
abbrev pub AreHeardOnce : Known → Type 0
AreHeardOnce k = (number : ℕ) → count_by (λ h. h.number == number) k.heard_now ≤ 1

pub heard_once : {C : Type 0} (d : DeskMeaning C) → KeepsTrack d → IsApartNow (known_of d.log.part.own) → AreHeardOnce (known_of d.log.part.own)
heard_once d track apart number =
    let k = known_of d.log.part.own in
    let P : Heard → Bool = λ h. h.number == number in
    let whole : heard_as_number number k ≡ count_by P (apart.before ++ k.heard_now) = ap (count_by P) apart.split in
    let sum = count-append P apart.before k.heard_now in
    let stages = track.stages number in
    let once = track.once number in
    omega (arith, whole, sum, stages, once)

-- two that were heard under one number are one
pub same_heard : (k : Known) → AreHeardOnce k → (a b : Heard) → Contains k.heard_now a → Contains k.heard_now b → a.number ≡ b.number → a ≡ b
same_heard k once a b one other same = once_only (λ (h : Heard). h.number == a.number) k.heard_now a b (once a.number) one other (eq-eqb a.number a.number refl) (eq-eqb b.number a.number (sym same))

-- ---- the call was asked

pub turn_asked : (k : Known) (ms : List Message) → k.sent_now ≡ [] → k.heard_now ≡ [] → AreAllToSend ms → HasRoundsInTurn k ms
turn_asked k ms sent heard unsent =
    let none : rounds_begun k ≡ 0 = ap (λ l. length (filter (λ (m : Sent). is_some (goal_in m.request)) l)) sent in
    let quiet : pushes_answered k ≡ 0 = ap (λ l. length (filter (λ (h : Heard). is_some (goal_in h.request)) l)) heard in
    record {
      done = [];
      waiting = [];
      conflicts = ap (filter (λ (h : Heard). is_conflict h.reply)) heard;
      begun = none;
      answered = quiet ∙ sym none;
      over = λ place low. absurd (omega (arith, low, none));
      numbers = sym (numbers_none ms (unsent_none ms unsent));
      order = order_unsent ms unsent;
      apart = apart_unsent ms unsent;
    }

-- no holder blocks it yet
pub asked_block : (splits : List (List ℕ)) (session : ℕ) (k : Known) (s : Statement) (answer : Answer) → k.heard_now ≡ [] → MayTellIn splits (actors.Session session) k s answer → (b : Bool) → TellsFirstBlock b k answer
asked_block splits session k s (answers.Blocked holder) heard may b =
    let row : MayTellBlocked k s holder =
    row_by _ _ (answers.Blocked holder ≡ answers.NoTxn) (answers.Blocked holder ≡ answers.Clock s.reading) (MayTellBlocked k s holder) (λ e. absurd cc) (λ e. absurd cc) may in
    absurd (elim row.why [ inl refused ↦ none_any refused | inr eight ↦ none_eight eight ])
  where
    none_any : {P : Heard → Type 0} → Any P k.heard_now → ⊥
    none_any (n, h, there, is, so) = let low : length k.heard_now ≡ 0 = ap length heard in omega (arith, low, there)

    none_eight : MetEight holder k.heard_now → ⊥
    none_eight eight = at_least-fewer (IsConflictOf eight.request) 1 MOST_CONFLICTS [] (omega arith) (subst (AtLeast (IsConflictOf eight.request) MOST_CONFLICTS) heard eight.eight)
asked_block splits session k s answer heard may true = tt
asked_block splits session k s answer heard may false = tt

-- ---- a message goes out

-- what is sent next goes out once no conflict is left
pub conflicts_over : (k : Known) (ms : List Message) (request : Request) → All IsUnlost ms → step_of ms ≡ steps.Send request → HasRoundsInTurn k ms → AreConflictsOver k
conflicts_over k ms request unlost due t = record { all = t.begun ∙ sym (ap length t.conflicts ∙ ap (λ l. length (t.done ++ l)) none ∙ ap length (append-nil t.done)); over = t.over }
  where
    empty : (hs : List Heard) → map (λ (h : Heard). h.number) hs ≡ [] → hs ≡ []
    empty [] e = refl
    empty (h ∷ hs) e = absurd cc

    none : t.waiting ≡ []
    none = empty t.waiting (t.numbers ∙ numbers_none ms (sends_none ms request unlost due t.apart))

pub turn_sent : (k now : Known) (m : Sent) (ms : List Message) → now.sent_now ≡ k.sent_now ++ m ∷ [] → now.heard_now ≡ k.heard_now → goal_in m.request ≡ None → All IsUnlost ms → step_of ms ≡ steps.Send m.request → All (λ x. IsBelowNumber m.number x.progress) ms → HasRoundsInTurn k ms
    → HasRoundsInTurn now (first_changed is_to_send (sent_under m.number) ms)
turn_sent k now m ms sent heard plain unlost due below t =
    let P : Sent → Bool = λ x. is_some (goal_in x.request) in
    let none : list_any is_in_conflict ms ≡ false = sends_none ms m.request unlost due t.apart in
    let zero_more : one_if (P m) ≡ 0 = ap (λ g. one_if (is_some g)) plain in
    let same : rounds_begun now ≡ rounds_begun k =
    (let a : rounds_begun now ≡ length (filter P (k.sent_now ++ m ∷ [])) = ap (λ l. length (filter P l)) sent in let b = passing_more P k.sent_now m in omega (arith, a, b, zero_more)) in
    record {
      done = t.done;
      waiting = t.waiting;
      conflicts = ap (filter (λ (h : Heard). is_conflict h.reply)) heard ∙ t.conflicts;
      begun = same ∙ t.begun;
      answered = ap (λ l. length (filter (λ (h : Heard). is_some (goal_in h.request)) l)) heard ∙ (t.answered ∙ sym same);
      over = all_over_more k now [] (heard ∙ sym (append-nil k.heard_now)) same t.over;
      numbers = t.numbers ∙ sym (numbers_sent m.number ms);
      order = order_sent m.number ms none below t.order;
      apart = λ out met. absurd (let e : false ≡ true = sym (sent_none m.number ms none) ∙ met in cc e);
    }

-- ---- a reply is heard

pub turn_heard : (k now : Known) (h : Heard) (ms : List Message) → now.sent_now ≡ k.sent_now → now.heard_now ≡ k.heard_now ++ h ∷ [] → goal_in h.request ≡ None → wave_awaits h.number ms ≡ true → All (λ m. is_to_send m ≡ false) ms
    → All (λ m. IsFromNumber h.number h.reply m.progress) ms → HasRoundsInTurn k ms → HasRoundsInTurn now (first_changed (awaits_at h.number) (back_with h.number h.reply) ms)
turn_heard k now h ms sent heard plain waits none from t = record {
  done = t.done;
  waiting = t.waiting ++ filter Q (h ∷ []);
  conflicts = conflicts_more k now (h ∷ []) heard ∙ (ap (λ l. l ++ filter Q (h ∷ [])) t.conflicts ∙ append_assoc t.done t.waiting (filter Q (h ∷ [])));
  begun = same ∙ t.begun;
  answered = answered_still;
  over = all_over_more k now (h ∷ []) heard same t.over;
  numbers =
      map-append (λ (x : Heard). x.number) t.waiting (filter Q (h ∷ []))
      ∙ (ap (λ ns. ns ++ map (λ (x : Heard). x.number) (filter Q (h ∷ []))) t.numbers ∙ (ap (λ ns. numbers_met ms ++ ns) (last_number (Q h) refl) ∙ sym (numbers_back h.number h.reply ms waits t.order)));
  order = order_back h.number h.reply ms from t.order;
  apart = λ out met. sends_no_more h.number h.reply ms none;
}
  where
    Q : Heard → Bool
    Q x = is_conflict x.reply

    same : rounds_begun now ≡ rounds_begun k
    same = ap (λ l. length (filter (λ (m : Sent). is_some (goal_in m.request)) l)) sent

    answered_still : pushes_answered now ≡ rounds_begun now
    answered_still =
        let P : Heard → Bool = λ x. is_some (goal_in x.request) in
        let a : pushes_answered now ≡ length (filter P (k.heard_now ++ h ∷ [])) = ap (λ l. length (filter P l)) heard in
        let b = passing_more P k.heard_now h in
        let c : one_if (P h) ≡ 0 = ap (λ g. one_if (is_some g)) plain in
        let d : pushes_answered k ≡ rounds_begun k = t.answered in
        omega (arith, a, b, c, d, same)

    last_number : (b : Bool) → Q h ≡ b → map (λ (x : Heard). x.number) (filter Q (h ∷ [])) ≡ cond (is_conflict h.reply) (h.number ∷ []) []
    last_number true is = let e : filter Q (h ∷ []) ≡ h ∷ [] = cc in ap (map (λ (x : Heard). x.number)) e ∙ sym (ap (λ b. cond b (h.number ∷ []) []) is)
    last_number false not = let e : filter Q (h ∷ []) ≡ [] = cc in ap (map (λ (x : Heard). x.number)) e ∙ sym (ap (λ b. cond b (h.number ∷ []) []) not)

-- ---- the first conflict that waits

-- Of the conflicts that wait this is the first: the first message in conflict met it.
pub record WaitsFirst (k : Known) (ms : List Message) (t : HasRoundsInTurn k ms) (number : ℕ) : Type 0 where
  pub h : Heard
  pub rest : List Heard
  pub waits : t.waiting ≡ h ∷ rest
  pub numbered : h.number ≡ number
  pub others : map (λ x. x.number) rest ≡ numbers_met (first_changed (conflicts_at number) goes_again ms)
  pub there : Contains k.heard_now h
  pub placed : slice_get (conflicts_now k) (rounds_begun k) ≡ Some h

pub waits_first : (k : Known) (ms : List Message) (t : HasRoundsInTurn k ms) (m : Message) (number : ℕ) (conflict : Reply) → find is_in_conflict ms ≡ Some m → m.progress ≡ progresses.Met number conflict → WaitsFirst k ms t number
waits_first k ms t m number conflict found met = by t.waiting refl
  where
    is : map (λ (x : Heard). x.number) t.waiting ≡ number ∷ numbers_met (first_changed (conflicts_at number) goes_again ms)
    is = t.numbers ∙ numbers_again number ms m conflict found met

    by : (waiting : List Heard) → t.waiting ≡ waiting → WaitsFirst k ms t number
    by [] e = let f : [] ≡ number ∷ numbers_met (first_changed (conflicts_at number) goes_again ms) = sym (ap (map (λ (x : Heard). x.number)) e) ∙ is in absurd cc
    by (h ∷ rest) e =
        let f : h.number ∷ map (λ (x : Heard). x.number) rest ≡ number ∷ numbers_met (first_changed (conflicts_at number) goes_again ms) = sym (ap (map (λ (x : Heard). x.number)) e) ∙ is in
        let all : conflicts_now k ≡ t.done ++ h ∷ rest = t.conflicts ∙ ap (λ l. t.done ++ l) e in
        record {
          h = h;
          rest = rest;
          waits = e;
          numbered = cc;
          others = cc;
          there = (contains_filter (λ (x : Heard). is_conflict x.reply) k.heard_now h (subst (λ l. Contains l h) (sym all) (Contains-append_right t.done (h ∷ rest) h (contains_head h rest)))).0;
          placed = ap (λ l. slice_get l (rounds_begun k)) all ∙ (ap (λ n. slice_get (t.done ++ h ∷ rest) n) t.begun ∙ get_behind t.done h rest);
        }

-- once its round was made the others wait
pub turn_again : (start k : Known) (ms : List Message) (number : ℕ) (conflict : Reply) → (t : HasRoundsInTurn start ms) → step_of ms ≡ steps.Round number conflict → conflicts_now k ≡ conflicts_now start → rounds_begun k ≡ rounds_begun start + 1 → pushes_answered k ≡ rounds_begun k → AreRoundsOver k
    → HasRoundsInTurn k (first_changed (conflicts_at number) goes_again ms)
turn_again start k ms number conflict t due same begun answered over =
    let f = due_round ms number conflict due in
    let first = first_found ms f.0 f.1 in
    let w = waits_first start ms t f.0 number conflict first.0 f.2.progress in
    let long : length (t.done ++ w.h ∷ []) ≡ length t.done + 1 = length-append t.done (w.h ∷ []) in
    let were : rounds_begun start ≡ length t.done = t.begun in
    record {
      done = t.done ++ w.h ∷ [];
      waiting = w.rest;
      conflicts = same ∙ (t.conflicts ∙ (ap (λ l. t.done ++ l) w.waits ∙ sym (append_assoc t.done (w.h ∷ []) w.rest)));
      begun = omega (arith, begun, long, were);
      answered = answered;
      over = over;
      numbers = w.others;
      order = order_again number ms first.1 t.order;
      apart = apart_again number ms first.1;
    }

-- ---- what is due next

-- The message with this number in conflict.
record HasMetUnder (ms : List Message) (number : ℕ) : Type 0 where
  m : Message
  conflict : Reply
  there : Contains ms m
  met : m.progress ≡ progresses.Met number conflict

in_number : (p : Progress) (number : ℕ) → Contains (number_met p) number → (conflict : Reply) × (p ≡ progresses.Met number conflict)
in_number progresses.ToSend number there = absurd (contains_nil number there)
in_number (progresses.Sent sent) number there = absurd (contains_nil number there)
in_number (progresses.Met sent conflict) number there = elim (contains_cons sent [] number there) [
  | inl same ↦ (conflict, ap (λ n. progresses.Met n conflict) same)
  | inr none ↦ absurd (contains_nil number none)
]
in_number (progresses.Answered sent reply) number there = absurd (contains_nil number there)

either : {X : Type 0} (xs ys : List X) (a : X) → Contains (xs ++ ys) a → Contains xs a ⊎ Contains ys a
either [] ys a there = inr there
either (x ∷ xs) ys a there = elim (contains_cons x (xs ++ ys) a there) [
  | inl same ↦ inl (subst (λ y. Contains (x ∷ xs) y) same (contains_head x xs))
  | inr later ↦ elim (either xs ys a later) [ inl front ↦ inl (contains_tail x xs a front) | inr behind ↦ inr behind ]
]

met_under : (ms : List Message) (number : ℕ) → Contains (numbers_met ms) number → HasMetUnder ms number
met_under [] number there = absurd (contains_nil number there)
met_under (m ∷ ms) number there = elim (either (number_met m.progress) (numbers_met ms) number there) [
  | inl here ↦ let is = in_number m.progress number here in record { m = m; conflict = is.0; there = contains_head m ms; met = is.1 }
  | inr later ↦ let h = met_under ms number later in record { m = h.m; conflict = h.conflict; there = contains_tail m ms h.m h.there; met = h.met }
]

pub met_as_far : (co : Course) (k : Known) (m : Message) (number : ℕ) (conflict : Reply) → m.progress ≡ progresses.Met number conflict → MessageStands co k m → MetConflict co k number m.request conflict
met_as_far co k m number conflict met s = subst (λ p. IsAsFar co k m.request m.conflicts p) met s.as_far

-- the reply that a message met was heard in the call
pub met_there : (co : Course) (k : Known) (number : ℕ) (request : Request) (conflict : Reply) (met : MetConflict co k number request conflict) → Contains k.heard_now met.h
met_there co k number request conflict met = subst (λ l. Contains l met.h) (sym met.whole) (Contains-append_right met.before (met.h ∷ met.later) met.h (contains_head met.h met.later))

pub holder_is : (conflict : Reply) (meta : TxnMeta) (ts : ℕ) (key : List ℕ) (holder : TxnId) → conflict ≡ replies.Conflict meta ts key → holder_in conflict ≡ Some holder → meta.id ≡ holder
holder_is conflict meta ts key holder is whose = same_Some meta.id holder (sym (ap holder_in is) ∙ whose)

module _ (co : Course) (k : Known) (ms : List Message) (t : HasRoundsInTurn k ms) (stands : WaveStands co k ms) (once : AreHeardOnce k) (holder : TxnId) (b : IsBlockedFirst ms holder) where
  abbrev first : WaitsFirst k ms t b.number
  first = waits_first k ms t b.m b.number b.conflict b.found b.met

  stands_m : MessageStands co k b.m
  stands_m = found_all is_in_conflict (MessageStands co k) ms b.m b.found stands.stand

  abbrev met_m : MetConflict co k b.number b.m.request b.conflict
  met_m = met_as_far co k b.m b.number b.conflict b.met stands_m

  same_h : first.h ≡ met_m.h
  same_h = same_heard k once first.h met_m.h first.there (met_there co k b.number b.m.request b.conflict met_m) (first.numbered ∙ sym met_m.reply.numbered)

  asked_h : first.h.request ≡ b.m.request
  asked_h = ap (λ (x : Heard). x.request) same_h ∙ met_m.reply.asked

  all_conflicts : conflicts_now k ≡ (t.done ++ first.h ∷ []) ++ first.rest
  all_conflicts = t.conflicts ∙ (ap (λ l. t.done ++ l) first.waits ∙ sym (append_assoc t.done (first.h ∷ []) first.rest))

  -- none behind it is to its request
  rest_other : (r : Heard) → Contains first.rest r → IsSameRequest b.m.request r.request → ⊥
  rest_other r there same = by (r.number == b.number) refl
    where
      N : Heard → Bool
      N x = x.number == b.number

      in_all : Contains (conflicts_now k) r
      in_all = subst (λ l. Contains l r) (sym all_conflicts) (Contains-append_right (t.done ++ first.h ∷ []) first.rest r there)

      heard_r : Contains k.heard_now r
      heard_r = (contains_filter (λ (x : Heard). is_conflict x.reply) k.heard_now r in_all).0

      number_there : Contains (numbers_met (first_changed (conflicts_at b.number) goes_again ms)) r.number
      number_there = subst (λ l. Contains l r.number) first.others (contains_map (λ (x : Heard). x.number) first.rest r there)

      all_numbers : numbers_met ms ≡ b.number ∷ numbers_met (first_changed (conflicts_at b.number) goes_again ms)
      all_numbers = numbers_again b.number ms b.m b.conflict b.found b.met

      other : HasMetUnder ms r.number
      other = met_under ms r.number (subst (λ l. Contains l r.number) (sym all_numbers) (contains_tail b.number (numbers_met (first_changed (conflicts_at b.number) goes_again ms)) r.number number_there))

      by : (e : Bool) → (r.number == b.number) ≡ e → ⊥
      by true is =
          let one : 1 ≤ count_by N first.rest = counts_any N first.rest (any_there N first.rest r is there) in
          let it : one_if (N first.h) ≡ 1 = ap one_if (eq-eqb first.h.number b.number first.numbered) in
          let whole : count_by N (conflicts_now k) ≡ count_by N ((t.done ++ first.h ∷ []) ++ first.rest) = ap (count_by N) all_conflicts in
          let sum = count-append N (t.done ++ first.h ∷ []) first.rest in
          let front = count-append N t.done (first.h ∷ []) in
          let here = count-cons N first.h [] in
          let low = count_filter N (λ (x : Heard). is_conflict x.reply) k.heard_now in
          let most = once b.number in
          omega (arith, one, it, whole, sum, front, here, low, most)
      by false not =
          let stands_other : MessageStands co k other.m = All-contains (MessageStands co k) ms other.m stands.stand other.there in
          let met_other = met_as_far co k other.m r.number other.conflict other.met stands_other in
          let same_r : r ≡ met_other.h = same_heard k once r met_other.h heard_r (met_there co k r.number other.m.request other.conflict met_other) (sym met_other.reply.numbered) in
          let asked : r.request ≡ other.m.request = ap (λ (x : Heard). x.request) same_r ∙ met_other.reply.asked in
          let two : IsSameRequest b.m.request other.m.request = subst (IsSameRequest b.m.request) asked same in
          let apart : b.m ≡ other.m → ⊥ = λ e.
          let f : progresses.Met b.number b.conflict ≡ progresses.Met r.number other.conflict = sym b.met ∙ (ap (λ (m : Message). m.progress) e ∙ other.met) in
          let n : r.number ≡ b.number = cc in
          let yes : (r.number == b.number) ≡ true = eq-eqb r.number b.number n in
          (let g : true ≡ false = sym yes ∙ not in cc g) in
          elim (pairwise_two AreOfTwo ms b.m other.m stands.differ (found_contains is_in_conflict ms b.m b.found) other.there apart) [
            | inl of ↦ of.differ two
            | inr of ↦ of.back two
          ]

  eighth_here : AtLeast (IsConflictOf first.h.request) MOST_CONFLICTS (take (rounds_begun k + 1) (conflicts_now k))
  eighth_here =
      let P : Heard → Type 0 = IsConflictOf b.m.request in
      let ever : AtLeast P MOST_CONFLICTS k.heard_now = at_least-fewer P MOST_CONFLICTS b.m.conflicts k.heard_now b.many stands_m.counted.heard in
      let met : AtLeast P MOST_CONFLICTS (conflicts_now k) = at_least-passing P (λ (x : Heard). is_conflict x.reply) (λ x is. is.conflict) MOST_CONFLICTS k.heard_now ever in
      let front : AtLeast P MOST_CONFLICTS (t.done ++ first.h ∷ []) =
      at_least-before P MOST_CONFLICTS (t.done ++ first.h ∷ []) first.rest (all_from_contains (λ (r : Heard). P r → ⊥) first.rest (λ r there is. rest_other r there is.same)) (subst (AtLeast P MOST_CONFLICTS) all_conflicts met) in
      let long : length (t.done ++ first.h ∷ []) ≡ length t.done + 1 = length-append t.done (first.h ∷ []) in
      let were : rounds_begun k ≡ length t.done = t.begun in
      let n : rounds_begun k + 1 ≡ length (t.done ++ first.h ∷ []) = omega (arith, long, were) in
      let cut : take (rounds_begun k + 1) (conflicts_now k) ≡ t.done ++ first.h ∷ [] =
      ap (take (rounds_begun k + 1)) all_conflicts ∙ take_front (t.done ++ first.h ∷ []) first.rest (rounds_begun k + 1) n in
      subst (λ q. AtLeast (IsConflictOf q) MOST_CONFLICTS (take (rounds_begun k + 1) (conflicts_now k))) (sym asked_h) (subst (AtLeast P MOST_CONFLICTS) (sym cut) front)

  -- the eighth conflict of a message blocks the call, where it is the first that waits
  pub eighth_blocks : IsBlockedBy k holder
  eighth_blocks = record {
    place = rounds_begun k;
    meta = met_m.holder;
    key = met_m.key;
    of = record { conflict = first.h; ts = met_m.ts; placed = first.placed; met = ap (λ (x : Heard). x.reply) same_h ∙ (met_m.reply.told ∙ met_m.is) };
    whose = holder_is b.conflict met_m.holder met_m.ts met_m.key holder met_m.is b.whose;
    before = t.over;
    why = inl (refl, eighth_here);
  }

-- what comes of the call's messages keeps the turn, where nothing waited in the outbox
pub turn_comes : (co : Course) (k : Known) (ms : List Message) (due : Due) → ComesOf ms due → ((call : OpenCall) → due ≡ dues.Call call → (call.wave ≡ ms) ⊎ AreAllToSend call.wave) → HasRoundsInTurn k ms → WaveStands co k ms → AreHeardOnce k → KeepsTurn false k due
turn_comes co k ms dues.Nothing comes anew t stands once = tt
turn_comes co k ms (dues.Call call) comes anew t stands once = by comes (anew call refl)
  where
    by : ComesOf ms (dues.Call call) → (call.wave ≡ ms) ⊎ AreAllToSend call.wave → HasRoundsInTurn k call.wave
    by (inl same) new = subst (HasRoundsInTurn k) (sym same) t
    by comes (inl same) = subst (HasRoundsInTurn k) (sym same) t
    by (inr (way, none)) (inr unsent) = record {
      done = t.done;
      waiting = t.waiting;
      conflicts = t.conflicts;
      begun = t.begun;
      answered = t.answered;
      over = t.over;
      numbers = t.numbers ∙ (numbers_none ms none ∙ sym (numbers_none call.wave (unsent_none call.wave unsent)));
      order = order_unsent call.wave unsent;
      apart = apart_unsent call.wave unsent;
    }
turn_comes co k ms (dues.Tell answer) comes anew t stands once = by answer comes
  where
    by : (answer : Answer) → ComesOf ms (dues.Tell answer) → TellsFirstBlock false k answer
    by (answers.Blocked holder) blocks = eighth_blocks co k ms t stands once holder (first_blocked ms holder blocks)
    by answer blocks = tt
