-- The messages of a call go out one after another.
use Rattle.std.proofs.Common.{◌≡◌, ℕ, Bool, true, false, cond, List, [], ◌∷◌, map, refl, ap, All}
use Rattle.std.proofs.lemmas.List.Elements.{All-cons, All-map, All-nil}
use Rattle.pc_call.proofs.Meeting.{all_goes_on}
use Rattle.pc_call.specs.Serving.{IsSentBefore}
use Rattle.pc_proto.specs.declared.reply.Reply.{Reply}
use Rattle.pc_proto.specs.declared.request.Request.{Request}
use Rattle.pc_proto.specs.Replies.{is_conflict}
use Rattle.pc_wave.proofs.Hearing.{awaits_as}
use Rattle.pc_wave.specs.declared.message.Message.{Message}
use Rattle.pc_wave.specs.Messages.{awaits_at, back_with, back_with_by, first_changed, is_to_send, message_to_send, progress_to_send, sent_under}
use Rattle.pc_wave.specs.Standing.{Pairwise}

every : {X : Type 0} (P : X → Type 0) → ((x : X) → P x) → (xs : List X) → All P xs
every P all [] = All-nil P
every P all (x ∷ xs) = All-cons P x xs (all x) (every P all xs)

-- a message that went out comes before any
out_first : (m : Message) → is_to_send m ≡ false → (xs : List Message) → All (IsSentBefore m) xs
out_first m out xs = every (IsSentBefore m) (λ y to_send. absurd cc) xs

-- messages that are all to be sent are in turn
pub turn_begun : (rs : List Request) → Pairwise IsSentBefore (map message_to_send rs)
turn_begun [] = tt
turn_begun (r ∷ rs) = (All-map (IsSentBefore (message_to_send r)) message_to_send rs (every (λ q. IsSentBefore (message_to_send r) (message_to_send q)) (λ q is. refl) rs), turn_begun rs)

-- the first of them goes out
pub turn_sent : (number : ℕ) (ms : List Message) → Pairwise IsSentBefore ms → Pairwise IsSentBefore (first_changed is_to_send (sent_under number) ms)
turn_sent number [] turn = tt
turn_sent number (m ∷ ms) turn = by (is_to_send m) refl (turn_sent number ms turn.1)
  where
    by : (b : Bool) → is_to_send m ≡ b → Pairwise IsSentBefore (first_changed is_to_send (sent_under number) ms) → Pairwise IsSentBefore (cond b (sent_under number m ∷ ms) (m ∷ first_changed is_to_send (sent_under number) ms))
    by true e rest = (out_first (sent_under number m) refl ms, turn.1)
    by false e rest = (out_first m e (first_changed is_to_send (sent_under number) ms), rest)

pub back_out : (number : ℕ) (reply : Reply) (m : Message) → is_to_send (back_with number reply m) ≡ false
back_out number reply m = elim (is_conflict reply) as (λ b. is_to_send (back_with_by b number reply m) ≡ false) [ true ↦ refl | false ↦ refl ]

-- or one comes back
pub turn_heard : (number : ℕ) (reply : Reply) (ms : List Message) → Pairwise IsSentBefore ms → Pairwise IsSentBefore (first_changed (awaits_at number) (back_with number reply) ms)
turn_heard number reply [] turn = tt
turn_heard number reply (m ∷ ms) turn = by (awaits_at number m) refl (turn_heard number reply ms turn.1)
  where
    waits_out : (y : Message) → awaits_at number y ≡ true → IsSentBefore m y → IsSentBefore m (back_with number reply y)
    waits_out y waits before to_send =
        let out : is_to_send y ≡ false = ap progress_to_send (awaits_as number y.progress waits) in
        let is : is_to_send y ≡ true = before to_send in
        absurd cc

    by : (b : Bool) → awaits_at number m ≡ b → Pairwise IsSentBefore (first_changed (awaits_at number) (back_with number reply) ms)
        → Pairwise IsSentBefore (cond b (back_with number reply m ∷ ms) (m ∷ first_changed (awaits_at number) (back_with number reply) ms))
    by true e rest = (out_first (back_with number reply m) (back_out number reply m) ms, turn.1)
    by false e rest = (all_goes_on (awaits_at number) (back_with number reply) (IsSentBefore m) waits_out ms turn.0, rest)
