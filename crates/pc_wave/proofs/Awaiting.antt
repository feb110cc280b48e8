-- Which messages of a wave are waited for.
use Rattle.std.proofs.Common.{◌≡◌, ℕ, Bool, true, false, cond, not, ◌&&◌, ◌||◌, ◌==◌, inl, List, [], ◌∷◌, find, Some, refl, sym, ap, ◌∙◌, subst, All, IsTrue, ◌<◌}
use Rattle.std.specs.List.{list_all, list_any}
use Rattle.std.proofs.lemmas.Bool.{eqb-true}
use Rattle.std.proofs.lemmas.List.Elements.{All-cons, All-head, All-nil, All-tail}
use Rattle.std.proofs.lemmas.Option.{same_Some}
use Rattle.pc_base.specs.declared.limits.TheConstants.{MOST_CONFLICTS}
use Rattle.pc_proto.specs.declared.reply.Reply.{Reply}
use Rattle.pc_proto.specs.declared.request.Request.{Request}
use Rattle.pc_proto.specs.Replies.{is_conflict}
use Rattle.pc_wave.proofs.Hearing.{awaits_as}
use Rattle.pc_wave.proofs.Rounds.{due_round, first_found}
use Rattle.pc_wave.proofs.Sending.{sends_first}
use Rattle.pc_wave.proofs.Tries.{or_parts}
use Rattle.pc_wave.specs.declared.message.Message.{Message}
use Rattle.pc_wave.specs.declared.message.Progress.{Progress}
use Rattle.pc_wave.specs.declared.message.Progress.TheVariants as progresses
use Rattle.pc_wave.specs.declared.step.Step.TheVariants as steps
use Rattle.pc_wave.specs.Course.{Course}
use Rattle.pc_wave.specs.Messages.{awaits_at, back_with, back_with_by, conflicts_at, first_changed, first_in_conflict, goes_again, has_answer, is_out, is_to_send, lost_of, progress_out, progress_awaits, progress_to_send, step_of, wave_awaits, sent_under}
use Rattle.pc_wave.specs.Standing.{AreOfTwo, IsAsFar, IsOnItsWay, MessageStands, Pairwise, WaveStands}
use Rattle.pc_world.specs.Known.{Known}

to_send_idle : (n : ℕ) (p : Progress) → progress_to_send p ≡ true → progress_awaits n p ≡ false
to_send_idle n progresses.ToSend is = refl
to_send_idle n (progresses.Sent number) is = absurd cc
to_send_idle n (progresses.Met number conflict) is = absurd cc
to_send_idle n (progresses.Answered number reply) is = absurd cc

idle_at : (n : ℕ) (p : Progress) → progress_out p ≡ false → progress_awaits n p ≡ false
idle_at n progresses.ToSend is = refl
idle_at n (progresses.Sent number) is = absurd cc
idle_at n (progresses.Met number conflict) is = refl
idle_at n (progresses.Answered number reply) is = refl

or_swap : (a b c : Bool) → (a || (b || c)) ≡ (b || (a || c))
or_swap true true c = refl
or_swap true false c = refl
or_swap false b c = refl

-- where no reply is waited for, none is under any number
none_awaited : (n : ℕ) (ms : List Message) → list_any is_out ms ≡ false → wave_awaits n ms ≡ false
none_awaited n [] e = refl
none_awaited n (m ∷ ms) e =
    let parts = or_parts (is_out m) (list_any is_out ms) e in
    ap (λ b. b || wave_awaits n ms) (idle_at n m.progress parts.0) ∙ none_awaited n ms parts.1

module _ (number other : ℕ) where
  -- after the first message that is to be sent was sent, it too is waited for
  sent_more : (ms : List Message) (m : Message) → find is_to_send ms ≡ Some m → wave_awaits other (first_changed is_to_send (sent_under number) ms) ≡ (number == other || wave_awaits other ms)
  sent_more [] m found = absurd cc
  sent_more (y ∷ ms) m found = by (sent_more ms m) (is_to_send y) refl found
    where
      by : (find is_to_send ms ≡ Some m → wave_awaits other (first_changed is_to_send (sent_under number) ms) ≡ (number == other || wave_awaits other ms))
          → (b : Bool) → is_to_send y ≡ b → cond b (Some y) (find is_to_send ms) ≡ Some m
          → wave_awaits other (cond b (sent_under number y ∷ ms) (y ∷ first_changed is_to_send (sent_under number) ms)) ≡ (number == other || wave_awaits other (y ∷ ms))
      by later true is here = ap (λ b. number == other || (b || wave_awaits other ms)) (sym (to_send_idle other y.progress is))
      by later false is there = ap (λ b. awaits_at other y || b) (later there) ∙ or_swap (awaits_at other y) (number == other) (wave_awaits other ms)

  pub sent_awaits : (ms : List Message) (request : Request) → step_of ms ≡ steps.Send request → wave_awaits other (first_changed is_to_send (sent_under number) ms) ≡ (number == other || wave_awaits other ms)
  sent_awaits ms request due =
      let f = sends_first (first_in_conflict ms) (find is_to_send ms) (list_all has_answer ms) request due in
      sent_more ms f.0 f.1

-- The two messages do not wait under one number.
abbrev IsApart : Message → Message → Type 0
IsApart m other = (number : ℕ) → IsTrue (awaits_at number m) → IsTrue (awaits_at number other) → ⊥

module _ (c : Course) (k : Known) where
  awaited_far : (m : Message) → MessageStands c k m → (number : ℕ) → IsTrue (awaits_at number m) → IsOnItsWay c k number m.request
  awaited_far m s number is =
      let far : IsOnItsWay c k number m.request × (m.conflicts < MOST_CONFLICTS) = subst (λ p. IsAsFar c k m.request m.conflicts p) (awaits_as number m.progress is) s.as_far in
      far.0

  -- messages of different requests wait under different numbers
  apart : (m other : Message) → MessageStands c k m → MessageStands c k other → AreOfTwo m other → IsApart m other
  apart m other s t two number here there =
      two.differ (inl (same_Some m.request other.request (sym (awaited_far m s number here).out.said ∙ (awaited_far other t number there).out.said)))

  all_apart : (m : Message) (ms : List Message) → MessageStands c k m → All (MessageStands c k) ms → All (AreOfTwo m) ms → All (IsApart m) ms
  all_apart m [] s stand two = All-nil (IsApart m)
  all_apart m (y ∷ ms) s stand two =
      All-cons (IsApart m) y ms (apart m y s (All-head (MessageStands c k) y ms stand) (All-head (AreOfTwo m) y ms two))
      (all_apart m ms s (All-tail (MessageStands c k) y ms stand) (All-tail (AreOfTwo m) y ms two))

  are_apart : (ms : List Message) → All (MessageStands c k) ms → Pairwise AreOfTwo ms → Pairwise IsApart ms
  are_apart [] stand two = tt
  are_apart (m ∷ ms) stand two =
      (all_apart m ms (All-head (MessageStands c k) m ms stand) (All-tail (MessageStands c k) m ms stand) two.0, are_apart ms (All-tail (MessageStands c k) m ms stand) two.1)

none_of : (number : ℕ) (y : Message) → IsTrue (awaits_at number y) → (ms : List Message) → All (IsApart y) ms → wave_awaits number ms ≡ false
none_of number y is [] a = refl
none_of number y is (z ∷ ms) a = by (none_of number y is ms (All-tail (IsApart y) z ms a)) (awaits_at number z) refl
  where
    by : wave_awaits number ms ≡ false → (b : Bool) → awaits_at number z ≡ b → (b || wave_awaits number ms) ≡ false
    by later true there = absurd (All-head (IsApart y) z ms a number is there)
    by later false there = later

and_not : (b e : Bool) → e ≡ false → b ≡ (b && not e)
and_not true e is = sym (ap not is)
and_not false e is = refl

none_left : (b e : Bool) → e ≡ true → false ≡ (b && not e)
none_left true e is = sym (ap not is)
none_left false e is = refl

-- what came back waits no more
came_idle : (n number : ℕ) (reply : Reply) (m : Message) → awaits_at n (back_with number reply m) ≡ false
came_idle n number reply m = elim (is_conflict reply) as (λ b. awaits_at n (back_with_by b number reply m) ≡ false) [ true ↦ refl | false ↦ refl ]

-- A change after which a message is waited for no more.
module _ (number other : ℕ) (change : Message → Message) (idle_then : (n : ℕ) (m : Message) → awaits_at n (change m) ≡ false) where
  abbrev heard_in : List Message → List Message
  heard_in ms = first_changed (awaits_at number) change ms

  here : (y : Message) (ms : List Message) → All (IsApart y) ms → awaits_at number y ≡ true → wave_awaits other (change y ∷ ms) ≡ (wave_awaits other (y ∷ ms) && not (number == other))
  here y ms apart is =
      ap (λ b. b || wave_awaits other ms) (idle_then other y) ∙ by (number == other) refl
    where
      at : awaits_at other y ≡ (number == other)
      at = ap (progress_awaits other) (awaits_as number y.progress is)

      by : (e : Bool) → (number == other) ≡ e → wave_awaits other ms ≡ (wave_awaits other (y ∷ ms) && not (number == other))
      by true e =
          subst (λ n. wave_awaits n ms ≡ false) (eqb-true number other e) (none_of number y is ms apart)
          ∙ none_left (wave_awaits other (y ∷ ms)) (number == other) e
      by false e = sym (ap (λ b. b || wave_awaits other ms) (at ∙ e)) ∙ and_not (wave_awaits other (y ∷ ms)) (number == other) e

  there : (y : Message) (ms : List Message) → awaits_at number y ≡ false → wave_awaits other (heard_in ms) ≡ (wave_awaits other ms && not (number == other))
      → wave_awaits other (y ∷ heard_in ms) ≡ (wave_awaits other (y ∷ ms) && not (number == other))
  there y ms is later = ap (λ b. awaits_at other y || b) later ∙ by (number == other) refl
    where
      both : (b l e : Bool) → (e ≡ true → b ≡ false) → (b || (l && not e)) ≡ ((b || l) && not e)
      both true l true idle = let no_wait : true ≡ false = idle refl in absurd cc
      both true l false idle = refl
      both false l e idle = refl

      by : (e : Bool) → (number == other) ≡ e → (awaits_at other y || (wave_awaits other ms && not (number == other))) ≡ ((awaits_at other y || wave_awaits other ms) && not (number == other))
      by e is-e = both (awaits_at other y) (wave_awaits other ms) (number == other) (λ same. subst (λ n. awaits_at n y ≡ false) (eqb-true number other same) is)

  -- after a message came back, that one alone is waited for no more
  heard_less : (ms : List Message) → Pairwise IsApart ms → wave_awaits number ms ≡ true → wave_awaits other (heard_in ms) ≡ (wave_awaits other ms && not (number == other))
  heard_less [] apart some = absurd cc
  heard_less (y ∷ ms) apart some = by (heard_less ms apart.1) (awaits_at number y) refl
    where
      later : awaits_at number y ≡ false → wave_awaits number ms ≡ true
      later is = sym (ap (λ b. b || wave_awaits number ms) is) ∙ some

      by : (wave_awaits number ms ≡ true → wave_awaits other (heard_in ms) ≡ (wave_awaits other ms && not (number == other))) → (b : Bool) → awaits_at number y ≡ b
          → wave_awaits other (cond b (change y ∷ ms) (y ∷ heard_in ms)) ≡ (wave_awaits other (y ∷ ms) && not (number == other))
      by rest true is = here y ms apart.0 is
      by rest false is = there y ms is (rest (later is))

  less_awaited : (c : Course) (k : Known) (ms : List Message) → WaveStands c k ms → wave_awaits number ms ≡ true → wave_awaits other (heard_in ms) ≡ (wave_awaits other ms && not (number == other))
  less_awaited c k ms w some = heard_less ms (are_apart c k ms w.stand w.differ) some

pub heard_awaits : (number other : ℕ) (reply : Reply) (c : Course) (k : Known) (ms : List Message) → WaveStands c k ms → wave_awaits number ms ≡ true
    → wave_awaits other (first_changed (awaits_at number) (back_with number reply) ms) ≡ (wave_awaits other ms && not (number == other))
heard_awaits number other reply c k ms w some = less_awaited number other (back_with number reply) (λ n m. came_idle n number reply m) c k ms w some

-- so is what was lost
pub lost_awaits : (number other tries : ℕ) (c : Course) (k : Known) (ms : List Message) → WaveStands c k ms → wave_awaits number ms ≡ true
    → wave_awaits other (first_changed (awaits_at number) (lost_of tries) ms) ≡ (wave_awaits other ms && not (number == other))
lost_awaits number other tries c k ms w some = less_awaited number other (lost_of tries) (λ n m. refl) c k ms w some

again_idle : (number : ℕ) (ms : List Message) → list_any is_out ms ≡ false → list_any is_out (first_changed (conflicts_at number) goes_again ms) ≡ false
again_idle number [] e = refl
again_idle number (m ∷ ms) e =
    let parts = or_parts (is_out m) (list_any is_out ms) e in
    elim (conflicts_at number m) as (λ b. list_any is_out (cond b (goes_again m ∷ ms) (m ∷ first_changed (conflicts_at number) goes_again ms)) ≡ false)
    [ true ↦ parts.1 | false ↦ ap (λ b. b || list_any is_out (first_changed (conflicts_at number) goes_again ms)) parts.0 ∙ again_idle number ms parts.1 ]

-- after a round no message is waited for
pub again_awaits : (number other : ℕ) (conflict : Reply) (ms : List Message) → step_of ms ≡ steps.Round number conflict → wave_awaits other (first_changed (conflicts_at number) goes_again ms) ≡ false
again_awaits number other conflict ms due =
    let f = due_round ms number conflict due in
    none_awaited other (first_changed (conflicts_at number) goes_again ms) (again_idle number ms (first_found ms f.0 f.1).1)
