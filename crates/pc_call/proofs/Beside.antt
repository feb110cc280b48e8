-- What was sent in an open call beside what its messages ask for now is of rounds, or done.
use Rattle.std.proofs.Common.{◌≡◌, ◌≢◌, ℕ, zero, suc, ◌+◌, ◌-◌, ◌<◌, ◌≤◌, nat_lt, Bool, true, false, cond, not, ◌⊎◌, inl, inr, List, [], ◌∷◌, filter, find, length, map, take, Some, refl, sym, ap, ◌∙◌, subst, arith, All, Any, Contains, IsTrue, length-append}
use Rattle.std.proofs.Math.Seq.{take-append_seam}
use Rattle.std.proofs.lemmas.Bool.{ltb-false, ltb-true}
use Rattle.std.proofs.lemmas.List.Elements.{All-append, All-contains, All-head, All-tail, All-weaker, Contains-append_right}
use Rattle.pc_base.specs.declared.transaction.TxnId.{TxnId}
use Rattle.pc_call.proofs.Eighths.{at_least-weaker, same_sym, same_trans}
use Rattle.pc_call.specs.Beside.{AreAskedOrDone, ArePastOrBeside, IsAskedOrDone, IsOfProved, IsPastOrNoQuery, is_query}
use Rattle.pc_call.specs.Serving.{IsSplit}
use Rattle.pc_flight.specs.declared.write.WriteInFlight.{WriteInFlight}
use Rattle.pc_follows.specs.AgainInOneWave.{WasSentPastConflicts, sent_for_call}
use Rattle.pc_follows.specs.PipelinedPuts.{heard_before}
use Rattle.pc_lists.proofs.Anywhere.{any_head, any_later}
use Rattle.pc_lists.proofs.Lists.{all_from_contains, contains_filter, contains_in_filter}
use Rattle.pc_proto.specs.declared.request.Request.{Request}
use Rattle.pc_proto.specs.declared.request.Request.TheVariants as requests
use Rattle.pc_proto.specs.Replies.{is_conflict}
use Rattle.pc_wave.proofs.ForCall.{for_call-kept}
use Rattle.pc_wave.proofs.Lists.{at_least-before, at_least-fewer}
use Rattle.pc_wave.specs.declared.message.Message.{Message}
use Rattle.pc_wave.specs.Standing.{AreCounted, HasMore, MessageStands, WaveStands, goes_beside, sends_counted}
use Rattle.pc_wave.specs.Course.{Course}
use Rattle.pc_world.specs.Counting.{AtLeast}
use Rattle.pc_world.specs.Known.{Known}
use Rattle.pc_world.specs.Known.Traffic.{Heard, Sent}
use Rattle.pc_world.specs.SameRequest.{IsSameRequest}
use Rattle.pc_world.specs.Tell.Refusal.{IsConflictOf, is_heard}

-- The message that is sent goes beside the waves, or its request is one of these.
abbrev pub IsAskedOrBeside : List Request → Sent → Type 0
IsAskedOrBeside asked m = IsTrue (goes_beside m.request) ⊎ Any (λ r. IsSameRequest r m.request) asked

-- The message went out once more than it met intents.
abbrev pub IsSentOnceMore : Message → Type 0
IsSentOnceMore m = sends_counted m.conflicts m.progress ≡ m.conflicts + 1

-- the request of a message that is found is one of theirs
pub found_asked : (test : Message → Bool) (ms : List Message) (m : Message) → find test ms ≡ Some m → Any (λ r. IsSameRequest r m.request) (map (λ m. m.request) ms)
found_asked test [] m found = absurd cc
found_asked test (y ∷ ms) m found = by (found_asked test ms m) (test y) found
  where
    by : (find test ms ≡ Some m → Any (λ r. IsSameRequest r m.request) (map (λ m. m.request) ms)) → (b : Bool) → cond b (Some y) (find test ms) ≡ Some m → Any (λ r. IsSameRequest r m.request) (y.request ∷ map (λ m. m.request) ms)
    by later true f = let same : y ≡ m = cc in any_head (λ r. IsSameRequest r m.request) y.request (map (λ (m : Message). m.request) ms) (inl (ap (λ (m : Message). m.request) same))
    by later false f = any_later (λ r. IsSameRequest r m.request) y.request (map (λ (m : Message). m.request) ms) (later f)

-- what is of a proved write is so where fewer writes are in flight
pub proved_in : (test : WriteInFlight → Bool) (id : TxnId) (epoch : ℕ) (flight : List WriteInFlight) (r : Request) → IsOfProved id epoch flight r → IsOfProved id epoch (filter test flight) r
proved_in test id epoch flight r proved = record {
  seq = proved.seq;
  of = proved.of;
  none = all_from_contains (λ w. w.seq ≢ proved.seq) (filter test flight) (λ w there. All-contains (λ w. w.seq ≢ proved.seq) flight w proved.none (contains_filter test flight w there).0);
}

pub same_unasked : (one other : Request) → is_query one ≡ false → IsSameRequest one other → is_query other ≡ false
same_unasked one other plain (inl same) = ap is_query (sym same) ∙ plain
same_unasked (requests.Put meta seq ts key value) (requests.Put other later at place what) plain (inr put) = refl
same_unasked one other plain (inr put) = absurd put

module _ (k k2 : Known) (sent_more : List Sent) (heard_more : List Heard) (more : HasMore k k2 sent_more heard_more) (asked : List Request) where
  past-kept : (r : Request) → All (λ h. IsConflictOf r h → ⊥) heard_more → WasSentPastConflicts k r → (n : ℕ) → AtLeast (IsConflictOf r) n k2.heard_now → AtLeast (λ m. IsSameRequest r m.request) (n + 1) (sent_for_call k2)
  past-kept r none past n met =
      let P : Sent → Type 0 = λ m. IsSameRequest r m.request in
      let before = at_least-before (IsConflictOf r) n k.heard_now heard_more none (subst (λ hs. AtLeast (IsConflictOf r) n hs) more.heard_now met) in
      for_call-kept k k2 sent_more heard_more more P (n + 1) (past n before)

  module _ (waits : Request → Type 0) (plain : (r : Request) → All (λ q. IsSameRequest q r → ⊥) asked → All (λ h. IsConflictOf r h → ⊥) heard_more) where
    old : (m : Sent) → IsAskedOrDone waits k asked m → IsAskedOrDone waits k2 asked m
    old m (inl beside) = inl beside
    old m (inr (inl some)) = inr (inl some)
    old m (inr (inr (inl done))) = inr (inr (inl (record { other = done.other; over = record { past = past-kept m.request (plain m.request done.other) done.over.past; unasked = done.over.unasked } })))
    old m (inr (inr (inr left))) = inr (inr (inr left))

    new : (m : Sent) → IsAskedOrBeside asked m → IsAskedOrDone waits k2 asked m
    new m (inl beside) = inl beside
    new m (inr some) = inr (inl some)

  -- it stays so while the call sends what its messages ask for, and hears intents of theirs alone
  pub asked-kept : (waits : Request → Type 0) → All (IsAskedOrBeside asked) sent_more → ((r : Request) → All (λ q. IsSameRequest q r → ⊥) asked → All (λ h. IsConflictOf r h → ⊥) heard_more) → AreAskedOrDone waits k asked → AreAskedOrDone waits k2 asked
  asked-kept waits news plain done =
      let Q : Sent → Type 0 = IsAskedOrDone waits k2 asked in
      subst (λ ms. All Q ms) (sym more.sent_now) (All-append Q k.sent_now sent_more (All-weaker (IsAskedOrDone waits k asked) Q (old waits plain) k.sent_now done) (All-weaker (IsAskedOrBeside asked) Q (new waits plain) sent_more news))

module _ (k : Known) where
  -- what was sent once more than one message of its request met intents
  pub past_of : (n : ℕ) (one other : Request) → AreCounted k one n → AtLeast (λ m. IsSameRequest one m.request) (n + 1) (sent_for_call k) → IsSameRequest one other
      → (i : ℕ) → AtLeast (IsConflictOf other) i k.heard_now → AtLeast (λ m. IsSameRequest other m.request) (i + 1) (sent_for_call k)
  past_of n one other c sent same i met = by (nat_lt n i) refl
    where
      by : (b : Bool) → nat_lt n i ≡ b → AtLeast (λ m. IsSameRequest other m.request) (i + 1) (sent_for_call k)
      by true is =
          let more : n < i = ltb-true n i is in
          absurd (c.no_more (at_least-fewer (IsConflictOf one) (n + 1) i k.heard_now (omega (arith, more))
          (at_least-weaker (IsConflictOf other) (IsConflictOf one) (λ h x. record { same = same_trans one other h.request same x.same; conflict = x.conflict }) i k.heard_now met)))
      by false is =
          let few : i ≤ n = ltb-false n i is in
          at_least-fewer (λ m. IsSameRequest other m.request) (i + 1) (n + 1) (sent_for_call k) (omega (arith, few))
          (at_least-weaker (λ (m : Sent). IsSameRequest one m.request) (λ m. IsSameRequest other m.request) (λ m x. same_trans other one m.request (same_sym one other same) x) (n + 1) (sent_for_call k) sent)

  of_message : (c : Course) (ms : List Message) → All (MessageStands c k) ms → All IsSentOnceMore ms → (r : Request) → Any (λ q. IsSameRequest q r) (map (λ m. m.request) ms) → WasSentPastConflicts k r
  of_message c [] stand back r some = absurd (omega (arith, some.2))
  of_message c (m ∷ ms) stand back r (zero, q, inside, is, same) =
      let st = All-head (MessageStands c k) m ms stand in
      let often : AtLeast (λ o. IsSameRequest m.request o.request) (m.conflicts + 1) (sent_for_call k) = subst (λ n. AtLeast (λ o. IsSameRequest m.request o.request) n (sent_for_call k)) (All-head IsSentOnceMore m ms back) st.sent in
      past_of m.conflicts m.request r st.counted often (subst (λ q. IsSameRequest q r) (sym is) same)
  of_message c (m ∷ ms) stand back r (suc i, q, inside, is, same) =
      of_message c ms (All-tail (MessageStands c k) m ms stand) (All-tail IsSentOnceMore m ms back) r (i, q, omega arith, is, same)

  -- where each message is on its way or answered, all that was sent in the call and does not wait is past what it met
  pub all_past : (c : Course) (waits : Request → Type 0) (ms : List Message) → WaveStands c k ms → AreAskedOrDone waits k (map (λ m. m.request) ms) → All IsSentOnceMore ms → All (λ m. IsTrue (goes_beside m.request) ⊎ WasSentPastConflicts k m.request ⊎ waits m.request) k.sent_now
  all_past c waits ms w done back =
      All-weaker (IsAskedOrDone waits k (map (λ m. m.request) ms)) (λ m. IsTrue (goes_beside m.request) ⊎ WasSentPastConflicts k m.request ⊎ waits m.request) by k.sent_now done
    where
      by : (m : Sent) → IsAskedOrDone waits k (map (λ m. m.request) ms) m → IsTrue (goes_beside m.request) ⊎ WasSentPastConflicts k m.request ⊎ waits m.request
      by m (inl beside) = inl beside
      by m (inr (inl some)) = inr (inl (of_message c ms w.stand back m.request some))
      by m (inr (inr (inl d))) = inr (inl d.over.past)
      by m (inr (inr (inr left))) = inr (inr left)

  pub unasked_of : (ms : List Message) → All (λ m. is_query m.request ≡ false) ms → (r : Request) → Any (λ q. IsSameRequest q r) (map (λ m. m.request) ms) → is_query r ≡ false
  unasked_of [] plain r some = absurd (omega (arith, some.2))
  unasked_of (m ∷ ms) plain r (zero, q, inside, is, same) = same_unasked q r (subst (λ q. is_query q ≡ false) is (All-head (λ m. is_query m.request ≡ false) m ms plain)) same
  unasked_of (m ∷ ms) plain r (suc i, q, inside, is, same) = unasked_of ms (All-tail (λ m. is_query m.request ≡ false) m ms plain) r (i, q, omega arith, is, same)

  -- and it is over where none of them is a query
  pub all_over : (c : Course) (waits : Request → Type 0) (ms : List Message) → WaveStands c k ms → AreAskedOrDone waits k (map (λ m. m.request) ms) → All IsSentOnceMore ms → All (λ m. is_query m.request ≡ false) ms
      → All (λ m. IsTrue (goes_beside m.request) ⊎ IsPastOrNoQuery k m.request ⊎ waits m.request) k.sent_now
  all_over c waits ms w done back plain =
      All-weaker (IsAskedOrDone waits k (map (λ m. m.request) ms)) (λ m. IsTrue (goes_beside m.request) ⊎ IsPastOrNoQuery k m.request ⊎ waits m.request) by k.sent_now done
    where
      by : (m : Sent) → IsAskedOrDone waits k (map (λ m. m.request) ms) m → IsTrue (goes_beside m.request) ⊎ IsPastOrNoQuery k m.request ⊎ waits m.request
      by m (inl beside) = inl beside
      by m (inr (inl some)) = inr (inl (record { past = of_message c ms w.stand back m.request some; unasked = unasked_of ms plain m.request some }))
      by m (inr (inr (inl d))) = inr (inl d.over)
      by m (inr (inr (inr left))) = inr (inr left)

  -- what a call asks for anew, where nothing of it was sent
  pub asked_anew : (waits : Request → Type 0) (asked : List Request) → All (λ m. IsTrue (goes_beside m.request) ⊎ IsPastOrNoQuery k m.request ⊎ waits m.request) k.sent_now → All (λ r. All (λ m. IsSameRequest r m.request → ⊥) k.sent_now) asked → AreAskedOrDone waits k asked
  asked_anew waits asked past unsent =
      all_from_contains (IsAskedOrDone waits k asked) k.sent_now (λ m there. by m there (All-contains (λ m. IsTrue (goes_beside m.request) ⊎ IsPastOrNoQuery k m.request ⊎ waits m.request) k.sent_now m past there))
    where
      by : (m : Sent) → Contains k.sent_now m → IsTrue (goes_beside m.request) ⊎ IsPastOrNoQuery k m.request ⊎ waits m.request → IsAskedOrDone waits k asked m
      by m there (inl beside) = inl beside
      by m there (inr (inl past)) =
          inr (inr (inl (record {
            other = All-weaker (λ r. All (λ m. IsSameRequest r m.request → ⊥) k.sent_now) (λ r. IsSameRequest r m.request → ⊥) (λ r none. All-contains (λ m. IsSameRequest r m.request → ⊥) k.sent_now m none there) asked unsent;
            over = past;
          })))
      by m there (inr (inr left)) = inr (inr (inr left))

-- what waits may be said otherwise
pub waits_as : (was now : Request → Type 0) (k : Known) (asked : List Request) → ((r : Request) → was r → now r) → AreAskedOrDone was k asked → AreAskedOrDone now k asked
waits_as was now k asked on done = All-weaker (IsAskedOrDone was k asked) (IsAskedOrDone now k asked) by k.sent_now done
  where
    by : (m : Sent) → IsAskedOrDone was k asked m → IsAskedOrDone now k asked m
    by m (inl beside) = inl beside
    by m (inr (inl some)) = inr (inl some)
    by m (inr (inr (inl done))) = inr (inr (inl done))
    by m (inr (inr (inr left))) = inr (inr (inr (on m.request left)))

pub at_least_any : {X : Type 0} (P : X → Type 0) (xs : List X) → Any P xs → AtLeast P 1 xs
at_least_any P [] some = absurd (omega (arith, some.2))
at_least_any P (x ∷ xs) (zero, y, inside, is, h) = inl (subst P (sym is) h, tt)
at_least_any P (x ∷ xs) (suc i, y, inside, is, h) = inr (at_least_any P xs (i, y, omega arith, is, h))

module _ (k : Known) (split : IsSplit k) where
  pub heard_first_is : heard_before k ≡ split.heard_first
  heard_first_is =
      let n : length k.heard - length k.heard_now ≡ length split.heard_first = omega (arith, ap length split.heard, length-append split.heard_first k.heard_now) in
      ap (λ n. take n k.heard) n ∙ ap (take (length split.heard_first)) split.heard ∙ take-append_seam split.heard_first k.heard_now

  -- what was sent in the call, and is not of a round, may be heard in it
  pub for_call : (m : Sent) → Contains k.sent_now m → is_heard split.heard_first m ≡ false → Contains (sent_for_call k) m
  for_call m there unheard =
      let all : Contains k.sent m = subst (λ ms. Contains ms m) (sym split.sent) (Contains-append_right split.sent_first k.sent_now m there) in
      contains_in_filter (λ m. not (is_heard (heard_before k) m)) k.sent m all (ap (λ hs. not (is_heard hs m)) heard_first_is ∙ ap not unheard)

module _ (k : Known) (split : IsSplit k) (unmet : All (λ h. is_conflict h.reply ≡ false) k.heard_now) where
  once : (m : Sent) → Contains (sent_for_call k) m → (n : ℕ) → AtLeast (IsConflictOf m.request) n k.heard_now → AtLeast (λ o. IsSameRequest m.request o.request) (n + 1) (sent_for_call k)
  once m there zero met = at_least_any (λ o. IsSameRequest m.request o.request) (sent_for_call k) (there.0, m, there.1, there.2, inl refl)
  once m there (suc n) met =
      let none : All (λ h. IsConflictOf m.request h → ⊥) k.heard_now =
      All-weaker (λ h. is_conflict h.reply ≡ false) (λ h. IsConflictOf m.request h → ⊥) (λ h plain c. let e : false ≡ true = sym plain ∙ c.conflict in absurd cc) k.heard_now unmet in
      absurd (at_least-before (IsConflictOf m.request) (suc n) [] k.heard_now none met)

  -- where a call met no intent, and asked for no write, each request was sent more often
  pub past_unmet : All (λ m. is_query m.request ≡ false) k.sent_now → ArePastOrBeside k
  past_unmet unasked =
      all_from_contains (λ m. IsTrue (goes_beside m.request) ⊎ IsPastOrNoQuery k m.request) k.sent_now (λ m there.
      elim (All-contains (λ m. IsTrue (goes_beside m.request) ⊎ (is_heard split.heard_first m ≡ false)) k.sent_now m split.unheard there) [
        | inl beside ↦ inl beside
        | inr unheard ↦ inr (record { past = once m (for_call k split m there unheard); unasked = All-contains (λ m. is_query m.request ≡ false) k.sent_now m unasked there })
      ])
