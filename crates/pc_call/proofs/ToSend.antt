-- Messages that are to be sent.
use Rattle.std.proofs.Common.{◌≡◌, ℕ, true, false, ◌||◌, List, [], ◌∷◌, map, refl, ap, All}
use Rattle.std.proofs.lemmas.List.Elements.{All-cons, All-nil}
use Rattle.pc_base.specs.declared.span.Span.{Span}
use Rattle.pc_call.specs.Pieces.{scan_messages}
use Rattle.pc_proto.specs.declared.request.Request.{Request}
use Rattle.pc_txn.specs.declared.txn.OpenTxn.{OpenTxn}
use Rattle.pc_txn.specs.Opened.{own_scan}
use Rattle.pc_wave.specs.declared.message.Message.{Message}
use Rattle.pc_wave.specs.declared.message.Progress.{Progress}
use Rattle.pc_wave.specs.declared.message.Progress.TheVariants as progresses
use Rattle.pc_wave.specs.Messages.{is_to_send, message_to_send, progress_awaits, progress_to_send, wave_awaits}

pub all_to_send : (rs : List Request) → All (λ m. is_to_send m ≡ true) (map message_to_send rs)
all_to_send [] = All-nil (λ m. is_to_send m ≡ true)
all_to_send (r ∷ rs) = All-cons (λ m. is_to_send m ≡ true) (message_to_send r) (map message_to_send rs) refl (all_to_send rs)

pub scans_to_send : (x : OpenTxn) (spans : List Span) → All (λ m. is_to_send m ≡ true) (scan_messages x spans)
scans_to_send x [] = All-nil (λ m. is_to_send m ≡ true)
scans_to_send x (span ∷ spans) = All-cons (λ m. is_to_send m ≡ true) (message_to_send (own_scan x span)) (scan_messages x spans) refl (scans_to_send x spans)

pub to_send_as : (p : Progress) → progress_to_send p ≡ true → p ≡ progresses.ToSend
to_send_as progresses.ToSend is = refl
to_send_as (progresses.Sent number) is = absurd cc
to_send_as (progresses.Met number conflict) is = absurd cc
to_send_as (progresses.Answered number reply) is = absurd cc

-- of one message that is to be sent none is waited for
pub none_waited : (n : ℕ) (m : Message) → is_to_send m ≡ true → wave_awaits n (m ∷ []) ≡ false
none_waited n m is = ap (λ p. progress_awaits n p || false) (to_send_as m.progress is)
