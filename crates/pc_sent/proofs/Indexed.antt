-- An index of sends, one entry further.
use Rattle.std.proofs.Common.{◌≡◌, ℕ, ◌<◌, Bool, true, false, ◌&&◌, ◌==◌, cond, List, [], ◌∷◌, ◌++◌, find, length, slice_get, Option, None, Some, IfSome, refl, sym, ap, subst, ◌∙◌, arith, get_or, length-append}
use Rattle.std.proofs.lemmas.Bool.{and_parts}
use Rattle.std.proofs.lemmas.Grind.{common_steps}
use Rattle.std.proofs.lemmas.List.Folds.{find-append}
use Rattle.std.proofs.lemmas.Option.{slice_get-get_or}
use Rattle.std.specs.Option.{option_and_then, option_or, unwrap_or}
use Rattle.pc_base.specs.declared.actor.ActorId.{ActorId}
use Rattle.pc_base.specs.declared.actor.ActorId.TheVariants as actors
use Rattle.pc_base.specs.declared.entry.Entry.{Entry}
use Rattle.pc_history.proofs.Ids.{same_id-true}
use Rattle.pc_history.specs.Own.{same_id}
use Rattle.pc_lists.proofs.Lists.{get_append, get_push}
use Rattle.pc_proto.specs.declared.event.Event.{Event}
use Rattle.pc_proto.specs.declared.event.Event.TheVariants as events
use Rattle.pc_proto.specs.declared.request.Request.{Request}
use Rattle.pc_sent.specs.declared.sent.MessageName.{MessageName}
use Rattle.pc_sent.specs.declared.sent.Sent.{Sent}
use Rattle.pc_sent.specs.Naming.{message_name}
use Rattle.pc_sent.specs.Sending.{AreSendsOf, same_name, sends_message, sent_place}
use Rattle.pc_world.specs.Named.{is_send_of}

module _ (p : Entry Event → Bool) (history : List (Entry Event)) (e : Entry Event) where
  some-stays : (i : ℕ) → i < length history → slice_get history i ≡ find p history → slice_get (history ++ e ∷ []) i ≡ find p (history ++ e ∷ [])
  some-stays i low is =
      let at : slice_get history i ≡ Some (get_or history i e) = slice_get-get_or history i e low in
      get_append history (e ∷ []) i (get_or history i e) at
      ∙ sym (find-append p history (e ∷ []) ∙ ap (λ o. option_or o (find p (e ∷ []))) (sym is ∙ at))

  none-before : None ≡ find p history → find p (history ++ e ∷ []) ≡ cond (p e) (Some e) None
  none-before is = find-append p history (e ∷ []) ∙ ap (λ o. option_or o (find p (e ∷ []))) (sym is)

  longer : (i : ℕ) → i < length history → i < length (history ++ e ∷ [])
  longer i low = omega (arith, length-append history (e ∷ []))

  stays : (o : Option ℕ) → IfSome o (λ i. i < length history) → option_and_then (slice_get history) o ≡ find p history → p e ≡ false
      → option_and_then (slice_get (history ++ e ∷ [])) o ≡ find p (history ++ e ∷ [])
  stays None low is not = sym (none-before is ∙ ap (λ b. cond b (Some e) None) not)
  stays (Some i) low is not = some-stays i low is

  within-still : (o : Option ℕ) → IfSome o (λ i. i < length history) → IfSome o (λ i. i < length (history ++ e ∷ []))
  within-still None low = tt
  within-still (Some i) low = longer i low

  takes : (o : Option ℕ) → IfSome o (λ i. i < length history) → option_and_then (slice_get history) o ≡ find p history → p e ≡ true
      → (slice_get (history ++ e ∷ []) (unwrap_or o (length history)) ≡ find p (history ++ e ∷ [])) × (unwrap_or o (length history) < length (history ++ e ∷ []))
  takes None low is it =
      (get_push history e ∙ sym (none-before is ∙ ap (λ b. cond b (Some e) None) it), omega (arith, length-append history (e ∷ [])))
  takes (Some i) low is it = (some-stays i low is, longer i low)

no-send : (actor : ActorId) (number : ℕ) (e : Entry Event) → ((sent range : ℕ) (request : Request) → e.event ≡ events.Send sent range request → ⊥) → sends_message actor number e ≡ false
no-send actor number e not = by e.event refl
  where
    nothing : (b : Bool) → (b && false) ≡ false
    nothing true = refl
    nothing false = refl

    by : (event : Event) → e.event ≡ event → (same_id actor e.actor && is_send_of number event) ≡ false
    by (events.Ask call reading) is = nothing (same_id actor e.actor)
    by (events.Send sent range request) is = absurd (not sent range request is)
    by (events.Eval sender told reply) is = nothing (same_id actor e.actor)
    by (events.Hear told step) is = nothing (same_id actor e.actor)
    by (events.Tell answer) is = nothing (same_id actor e.actor)
    by (events.Meet id step) is = nothing (same_id actor e.actor)

-- an entry that sends nothing changes nothing
pub skipped : (history : List (Entry Event)) (e : Entry Event) (s : Sent) → ((sent range : ℕ) (request : Request) → e.event ≡ events.Send sent range request → ⊥) → AreSendsOf history s → AreSendsOf (history ++ e ∷ []) s
skipped history e s not all = record {
  there = λ actor number. stays (sends_message actor number) history e (sent_place s actor number) (all.within actor number) (all.there actor number) (no-send actor number e not);
  within = λ actor number. within-still (sends_message actor number) history e (sent_place s actor number) (all.within actor number);
}

same-names : (one other : ActorId) (m n : ℕ) → same_name (message_name one m) (message_name other n) ≡ (same_id other one && (m == n))
same-names (actors.Range a) (actors.Range b) m n = grind (arith, common_steps)
same-names (actors.Range a) (actors.Session b) m n = refl
same-names (actors.Range a) (actors.Recoverer b) m n = refl
same-names (actors.Session a) (actors.Range b) m n = refl
same-names (actors.Session a) (actors.Session b) m n = grind (arith, common_steps)
same-names (actors.Session a) (actors.Recoverer b) m n = refl
same-names (actors.Recoverer a) (actors.Range b) m n = refl
same-names (actors.Recoverer a) (actors.Session b) m n = refl
same-names (actors.Recoverer a) (actors.Recoverer b) m n = grind (arith, common_steps)

number-same : (m n : ℕ) → (m == n) ≡ true → m ≡ n
number-same m n h = grind arith

-- The place of a message once an entry after so many others has sent it.
abbrev kept_place : Sent → ActorId → ℕ → ℕ → ℕ
kept_place s actor number far = unwrap_or (sent_place s actor number) far

-- an entry that sends a message has its place, unless the message has one
pub added : (history : List (Entry Event)) (e : Entry Event) (old new : Sent) (number range : ℕ) (request : Request) (name : MessageName) (place : ℕ) → e.event ≡ events.Send number range request
    → name ≡ message_name e.actor number → place ≡ kept_place old e.actor number (length history)
    → ((actor : ActorId) (n : ℕ) → sent_place new actor n ≡ cond (same_name name (message_name actor n)) (Some place) (sent_place old actor n))
    → AreSendsOf history old → AreSendsOf (history ++ e ∷ []) new
added history e old new number range request name place is named placed places all = record {
  there = λ actor n. ap (option_and_then (slice_get (history ++ e ∷ []))) (at actor n) ∙ there-by actor n (same_id actor e.actor && (number == n)) (sends-is actor n) refl;
  within = λ actor n. subst (λ o. IfSome o (λ place. place < length (history ++ e ∷ []))) (sym (at actor n)) (within-by actor n (same_id actor e.actor && (number == n)) (sends-is actor n) refl);
}
  where
    at : (actor : ActorId) (n : ℕ) → sent_place new actor n ≡ cond (same_id actor e.actor && (number == n)) (Some (kept_place old e.actor number (length history))) (sent_place old actor n)
    at actor n =
        places actor n
        ∙ (ap (λ k. cond (same_name k (message_name actor n)) (Some place) (sent_place old actor n)) named
        ∙ (ap (λ p. cond (same_name (message_name e.actor number) (message_name actor n)) (Some p) (sent_place old actor n)) placed
        ∙ ap (λ b. cond b (Some (kept_place old e.actor number (length history))) (sent_place old actor n)) (same-names e.actor actor number n)))

    sends-is : (actor : ActorId) (n : ℕ) → sends_message actor n e ≡ (same_id actor e.actor && (number == n))
    sends-is actor n = ap (λ event. same_id actor e.actor && is_send_of n event) is

    own : (actor : ActorId) (n : ℕ) → (same_id actor e.actor && (number == n)) ≡ true → sent_place old e.actor number ≡ sent_place old actor n
    own actor n same =
        let parts = and_parts (same_id actor e.actor) (number == n) same in
        ap (λ a. sent_place old a number) (sym (same_id-true actor e.actor parts.0)) ∙ ap (sent_place old actor) (number-same number n parts.1)

    taken : (actor : ActorId) (n : ℕ) → (same_id actor e.actor && (number == n)) ≡ true → sends_message actor n e ≡ true
        → (slice_get (history ++ e ∷ []) (kept_place old e.actor number (length history)) ≡ find (sends_message actor n) (history ++ e ∷ [])) × (kept_place old e.actor number (length history) < length (history ++ e ∷ []))
    taken actor n same it =
        let o = own actor n same in
        subst (λ o. (slice_get (history ++ e ∷ []) (unwrap_or o (length history)) ≡ find (sends_message actor n) (history ++ e ∷ [])) × (unwrap_or o (length history) < length (history ++ e ∷ []))) (sym o)
        (takes (sends_message actor n) history e (sent_place old actor n) (all.within actor n) (all.there actor n) it)

    there-by : (actor : ActorId) (n : ℕ) (b : Bool) → sends_message actor n e ≡ b → (same_id actor e.actor && (number == n)) ≡ b → option_and_then (slice_get (history ++ e ∷ [])) (cond b (Some (kept_place old e.actor number (length history))) (sent_place old actor n)) ≡ find (sends_message actor n) (history ++ e ∷ [])
    there-by actor n true it same = (taken actor n same it).0
    there-by actor n false not same = stays (sends_message actor n) history e (sent_place old actor n) (all.within actor n) (all.there actor n) not

    within-by : (actor : ActorId) (n : ℕ) (b : Bool) → sends_message actor n e ≡ b → (same_id actor e.actor && (number == n)) ≡ b → IfSome (cond b (Some (kept_place old e.actor number (length history))) (sent_place old actor n)) (λ place. place < length (history ++ e ∷ []))
    within-by actor n true it same = (taken actor n same it).1
    within-by actor n false not same = within-still (sends_message actor n) history e (sent_place old actor n) (all.within actor n)
