-- What a session knows after one more entry of its own.
use Rattle.std.proofs.Common.{◌≡◌, ℕ, max, List, [], ◌∷◌, ◌++◌, map, fold, Option, None, Some, refl, ap, ◌∙◌}
use Rattle.std.proofs.lemmas.Grind.{fold-append}
use Rattle.std.proofs.lemmas.List.{append-nil}
use Rattle.pc_base.specs.declared.entry.Entry.{Entry}
use Rattle.pc_coord.specs.Events.{IsOf}
use Rattle.pc_desk.proofs.Making.{added, hear_names_it, known_after_it, own_after}
use Rattle.pc_desk.specs.declared.answered.Answered.{Answered}
use Rattle.pc_desk.specs.Desk.{IsAnsweredBy}
use Rattle.pc_desk.specs.OwnLog.{HasEntered, IsOwnLog, LogMeaning}
use Rattle.pc_history.proofs.Callers.{names-nothing}
use Rattle.pc_history.specs.declared.pair.Pair.{Pair}
use Rattle.pc_history.specs.Own.{pair}
use Rattle.pc_history.specs.Parts.{entry_of}
use Rattle.pc_proto.specs.declared.answer.Answer.{Answer}
use Rattle.pc_proto.specs.declared.call.Call.{Call}
use Rattle.pc_proto.specs.declared.event.Event.{Event}
use Rattle.pc_proto.specs.declared.event.Event.TheVariants as events
use Rattle.pc_proto.specs.declared.request.Request.{Request}
use Rattle.pc_proto.specs.Stamps.{answer_stamps, greatest_of, reply_stamps, request_stamps}
use Rattle.pc_follows.specs.FinishingJobs.{Duty, duty_after, jobs_after, jobs_of}
use Rattle.pc_world.specs.Known.{Known, known_after, known_of, learn, nothing_known, txns_told}
use Rattle.pc_world.specs.Known.Clock.{high_told}
use Rattle.pc_world.specs.Known.Statements.{begun_told, is_open_told}
use Rattle.pc_world.specs.Known.Traffic.{Heard, Sent, heard_as}
use Rattle.pc_world.specs.Known.Transactions.{txn_heard, txn_sent}
use Rattle.pc_world.specs.Run.{protocol}

-- What a session knows once it was asked this.
abbrev pub with_asked : Call → ℕ → Known → Known
with_asked call reading k = record k {
  statement = Some (record { call = call; reading = reading });
  sent_now = [];
  heard_now = [];
  met_now = [];
  top = max k.top 0;
}

-- Once it sent this.
abbrev pub with_sent : ℕ → ℕ → Request → Known → Known
with_sent number range request k = record k {
  sent = k.sent ++ record { number = number; range = range; request = request } ∷ [];
  sent_now = k.sent_now ++ record { number = number; range = range; request = request } ∷ [];
  top = max k.top (max (greatest_of (request_stamps request)) 0);
  txns = map (txn_sent request) k.txns;
}

-- Once it heard this.
abbrev pub with_heard : Heard → Known → Known
with_heard h k = record k {
  heard = k.heard ++ h ∷ [];
  heard_now = k.heard_now ++ h ∷ [];
  top = max k.top (max 0 (greatest_of (reply_stamps h.reply)));
  high = max k.high (greatest_of (reply_stamps h.reply));
  txns = map (txn_heard k.sent (Some h)) k.txns;
}

-- Once it was told this.
abbrev pub with_told : Answer → Known → Known
with_told answer k = record k {
  statement = None;
  top = max k.top (max (greatest_of (answer_stamps answer)) 0);
  high = high_told answer k.high;
  begun = begun_told answer k.begun;
  is_open = is_open_told answer k.is_open;
  txns = txns_told answer k;
}

module _ (e : Entry Event) (k : Known) where
  learn_asked : (call : Call) (reading : ℕ) → learn (pair (record e { event = events.Ask call reading }) None) k ≡ with_asked call reading k
  learn_asked call reading =
      let F : List Sent → List Heard → Known = λ s h. record (with_asked call reading k) { sent = s; heard = h } in
      ap (λ s. F s (k.heard ++ [])) (append-nil k.sent) ∙ ap (F k.sent) (append-nil k.heard)

  learn_sent : (number range : ℕ) (request : Request) → learn (pair (record e { event = events.Send number range request }) None) k ≡ with_sent number range request k
  learn_sent number range request =
      let F : List Heard → List Heard → Known = λ h n. record (with_sent number range request k) { heard = h; heard_now = n } in
      ap (λ h. F h (k.heard_now ++ [])) (append-nil k.heard) ∙ ap (F k.heard) (append-nil k.heard_now)

  learn_told : (answer : Answer) → learn (pair (record e { event = events.Tell answer }) None) k ≡ with_told answer k
  learn_told answer =
      let F : List Sent → List Sent → List Heard → List Heard → Known = λ s n h m. record (with_told answer k) { sent = s; sent_now = n; heard = h; heard_now = m } in
      ap (λ s. F s (k.sent_now ++ []) (k.heard ++ []) (k.heard_now ++ [])) (append-nil k.sent)
      ∙ (ap (λ n. F k.sent n (k.heard ++ []) (k.heard_now ++ [])) (append-nil k.sent_now)
      ∙ (ap (λ h. F k.sent k.sent_now h (k.heard_now ++ [])) (append-nil k.heard)
      ∙ ap (F k.sent k.sent_now k.heard) (append-nil k.heard_now)))

module _ {C : Type 0} (old new : LogMeaning C) where
  -- the entry of a call, a message or an answer names none
  pub of_ask : (call : Call) (reading : ℕ) (entered : HasEntered old new (events.Ask call reading)) → IsOf (events.Ask call reading) (added old new (events.Ask call reading) entered)
  of_ask call reading entered = record { says = refl; names = names-nothing (protocol old.head) old.part (events.Ask call reading) (λ e. refl) }

  pub of_send : (number range : ℕ) (request : Request) (entered : HasEntered old new (events.Send number range request)) → IsOf (events.Send number range request) (added old new (events.Send number range request) entered)
  of_send number range request entered = record { says = refl; names = names-nothing (protocol old.head) old.part (events.Send number range request) (λ e. refl) }

  pub of_tell : (answer : Answer) (entered : HasEntered old new (events.Tell answer)) → IsOf (events.Tell answer) (added old new (events.Tell answer) entered)
  of_tell answer entered = record { says = refl; names = names-nothing (protocol old.head) old.part (events.Tell answer) (λ e. refl) }

  -- what the session knows then
  pub known_asked : (call : Call) (reading : ℕ) → HasEntered old new (events.Ask call reading) → known_of new.part.own ≡ with_asked call reading (known_of old.part.own)
  known_asked call reading entered =
      let k = known_of old.part.own in
      let e = entry_of entered.step old.part.id (events.Ask call reading) in
      known_after_it old new (events.Ask call reading) entered
      ∙ (ap (λ named. learn (pair e named) k) (of_ask call reading entered).names ∙ learn_asked e k call reading)

  pub known_sent : (number range : ℕ) (request : Request) → HasEntered old new (events.Send number range request) → known_of new.part.own ≡ with_sent number range request (known_of old.part.own)
  known_sent number range request entered =
      let k = known_of old.part.own in
      let e = entry_of entered.step old.part.id (events.Send number range request) in
      known_after_it old new (events.Send number range request) entered
      ∙ (ap (λ named. learn (pair e named) k) (of_send number range request entered).names ∙ learn_sent e k number range request)

  pub known_told : (answer : Answer) → HasEntered old new (events.Tell answer) → known_of new.part.own ≡ with_told answer (known_of old.part.own)
  known_told answer entered =
      let k = known_of old.part.own in
      let e = entry_of entered.step old.part.id (events.Tell answer) in
      known_after_it old new (events.Tell answer) entered
      ∙ (ap (λ named. learn (pair e named) k) (of_tell answer entered).names ∙ learn_told e k answer)

  -- and the jobs that wait
  duty-known : (own : List (Pair Event)) (d : Duty) → (fold duty_after d own).known ≡ fold (λ k p. learn p k) d.known own
  duty-known [] d = refl
  duty-known (q ∷ own) d = duty-known own (duty_after d q)

  pub jobs_then : (event : Event) → HasEntered old new event → jobs_of new.part.own ≡ jobs_after event (known_of old.part.own) (jobs_of old.part.own)
  jobs_then event entered =
      let start : Duty = record { known = nothing_known; jobs = [] } in
      let p : Pair Event = added old new event entered in
      ap jobs_of (own_after old new event entered)
      ∙ (ap (λ (d : Duty). d.jobs) (fold-append duty_after start old.part.own (p ∷ []))
      ∙ ap (λ k. jobs_after event k (jobs_of old.part.own)) (duty-known old.part.own start))

module _ {C : Type 0} (old new : LogMeaning C) (a : Answered) (log : IsOwnLog old) (by : IsAnsweredBy old a) (entered : HasEntered old new (events.Hear a.number a.step)) where
  -- What the session heard.
  abbrev pub it : Heard
  it = record { number = a.number; request = by.request; reply = a.reply; step = a.step }

  abbrev hear : Event
  hear = events.Hear a.number a.step

  pub known_heard : known_of new.part.own ≡ with_heard it (known_of old.part.own)
  known_heard =
      let k = known_of old.part.own in
      let e = entry_of entered.step old.part.id hear in
      let F : Option Request → Known = λ r.
      known_after hear (heard_as a.number a.step r (Some a.reply)) (max k.top (max 0 (greatest_of (reply_stamps a.reply)))) (max k.high (greatest_of (reply_stamps a.reply))) k in
      let G : List Sent → List Sent → Known = λ s n. record (with_heard it k) { sent = s; sent_now = n } in
      known_after_it old new hear entered
      ∙ (ap (λ named. learn (pair e named) k) (hear_names_it old a log by)
      ∙ (ap F by.said
      ∙ (ap (λ s. G s (k.sent_now ++ [])) (append-nil k.sent) ∙ ap (G k.sent) (append-nil k.sent_now))))
