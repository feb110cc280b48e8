-- What a session learns from its own events, in short.
use Rattle.std.proofs.Common.{◌≡◌, ℕ, max, List, [], ◌++◌, Option, Some, None, ap, ◌∙◌}
use Rattle.std.proofs.lemmas.List.{append-nil}
use Rattle.pc_base.specs.declared.entry.Entry.{Entry}
use Rattle.pc_call.specs.Learned.{known_asked, known_heard, known_sent, known_told}
use Rattle.pc_coord.specs.Coordination.{Coordination}
use Rattle.pc_coord.specs.Events.{HearsAwaited, IsOf}
use Rattle.pc_coord.specs.Knows.{learned}
use Rattle.pc_history.specs.declared.pair.Pair.{Pair}
use Rattle.pc_proto.specs.declared.answer.Answer.{Answer}
use Rattle.pc_proto.specs.declared.call.Call.{Call}
use Rattle.pc_proto.specs.declared.event.Event.{Event}
use Rattle.pc_proto.specs.declared.event.Event.TheVariants as events
use Rattle.pc_proto.specs.declared.reply.Reply.{Reply}
use Rattle.pc_proto.specs.declared.request.Request.{Request}
use Rattle.pc_proto.specs.Stamps.{event_stamps, greatest_of, reply_stamps}
use Rattle.pc_world.specs.Known.{Known, known_after, learn}
use Rattle.pc_world.specs.Known.Clock.{high_after, top_after}
use Rattle.pc_world.specs.Known.Traffic.{Heard, Sent, heard_as, heard_by, reply_in, request_sent}

pub learn-by : (k : Known) (p : Pair Event) (event : Event) (named : Option (Entry Event)) → p.entry.event ≡ event → p.named ≡ named
    → learn p k ≡ known_after event (heard_by event named k.sent) (top_after event named k.top) (high_after event named k.high) k
learn-by k p event named e n =
    let F : Event → Option (Entry Event) → Known = λ e n. known_after e (heard_by e n k.sent) (top_after e n k.top) (high_after e n k.high) k in
    ap (λ e. F e p.named) e ∙ ap (F event) n

-- an event that names none
pub learn_own : (event : Event) (k : Known) (p : Pair Event) → IsOf event p → learn p k ≡ learned event k
learn_own event k p is = learn-by k p event None is.says is.names

asked_is : (call : Call) (reading : ℕ) (k : Known) → learned (events.Ask call reading) k ≡ known_asked call reading k
asked_is call reading k =
    let F : List Sent → List Heard → Known = λ s h. record (known_asked call reading k) { sent = s; heard = h } in
    ap (λ s. F s (k.heard ++ [])) (append-nil k.sent) ∙ ap (F k.sent) (append-nil k.heard)

sent_is : (number range : ℕ) (request : Request) (k : Known) → learned (events.Send number range request) k ≡ known_sent number range request k
sent_is number range request k =
    let F : List Heard → List Heard → Known = λ h n. record (known_sent number range request k) { heard = h; heard_now = n } in
    ap (λ h. F h (k.heard_now ++ [])) (append-nil k.heard) ∙ ap (F k.heard) (append-nil k.heard_now)

pub told_is : (answer : Answer) (k : Known) → learned (events.Tell answer) k ≡ known_told answer k
told_is answer k =
    let F : List Sent → List Sent → List Heard → List Heard → Known = λ s n h m. record (known_told answer k) { sent = s; sent_now = n; heard = h; heard_now = m } in
    ap (λ s. F s (k.sent_now ++ []) (k.heard ++ []) (k.heard_now ++ [])) (append-nil k.sent)
    ∙ ap (λ n. F k.sent n (k.heard ++ []) (k.heard_now ++ [])) (append-nil k.sent_now)
    ∙ ap (λ h. F k.sent k.sent_now h (k.heard_now ++ [])) (append-nil k.heard)
    ∙ ap (F k.sent k.sent_now k.heard) (append-nil k.heard_now)

abbrev after_heard : Heard → Known → Known
after_heard h k =
    known_after (events.Hear h.number h.step) (Some h) (max k.top (max 0 (greatest_of (reply_stamps h.reply)))) (max k.high (greatest_of (reply_stamps h.reply))) k

heard_is : (h : Heard) (k : Known) → after_heard h k ≡ known_heard h k
heard_is h k =
    let F : List Sent → List Sent → Known = λ s n. record (known_heard h k) { sent = s; sent_now = n } in
    ap (λ s. F s (k.sent_now ++ [])) (append-nil k.sent) ∙ ap (F k.sent) (append-nil k.sent_now)

-- after a call was asked
pub learn_asked : (call : Call) (reading : ℕ) (k : Known) (p : Pair Event) → IsOf (events.Ask call reading) p → learn p k ≡ known_asked call reading k
learn_asked call reading k p is = learn_own (events.Ask call reading) k p is ∙ asked_is call reading k

-- after a message was sent
pub learn_sent : (number range : ℕ) (request : Request) (k : Known) (p : Pair Event) → IsOf (events.Send number range request) p → learn p k ≡ known_sent number range request k
learn_sent number range request k p is = learn_own (events.Send number range request) k p is ∙ sent_is number range request k

-- after a reply was heard
pub learn_heard : (c : Coordination) (k : Known) (p : Pair Event) (number step : ℕ) (reply : Reply) (request : Request) → HearsAwaited c number step reply k p → request_sent number k.sent ≡ Some request
    → learn p k ≡ known_heard (record { number = number; request = request; reply = reply; step = step }) k
learn_heard c k p number step reply request is said =
    let hear = events.Hear number step in
    let G : Event → Option Request → Known = λ e r. known_after hear (heard_as number step r (reply_in e)) (max k.top (max 0 (greatest_of (event_stamps e)))) (max k.high (greatest_of (event_stamps e))) k in
    learn-by k p hear (Some is.evaluation) is.event is.named
    ∙ ap (λ e. G e (request_sent number k.sent)) is.told
    ∙ ap (G (events.Eval is.actor is.asked reply)) said
    ∙ heard_is (record { number = number; request = request; reply = reply; step = step }) k
