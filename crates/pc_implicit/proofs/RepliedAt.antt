-- What was replied was evaluated at a place of the run, after it was sent.
use Rattle.std.proofs.Common.{◌≡◌, List, refl, sym, ap, subst, ◌∙◌}
use Rattle.pc_base.specs.declared.entry.Entry.{Entry}
use Rattle.pc_implicit.proofs.EvaluatedAt.{AnsweredAt, answered_at}
use Rattle.pc_implicit.proofs.Shown.{shown}
use Rattle.pc_implicit.proofs.Written.{one_send}
use Rattle.pc_implicit.specs.Replied.{WasReplied}
use Rattle.pc_proto.specs.declared.event.Event.{Event}
use Rattle.pc_proto.specs.declared.event.Event.TheVariants as events
use Rattle.pc_proto.specs.declared.reply.Reply.{Reply}
use Rattle.pc_proto.specs.declared.request.Request.{Request}
use Rattle.pc_world.specs.Local.{Head}
use Rattle.pc_world.specs.Run.{IsRun}

pub replied_at : (head : Head) (history : List (Entry Event)) → IsRun head history → (request : Request) (reply : Reply) (r : WasReplied history request reply) → AnsweredAt head history r.send.actor r.number r.range request reply
replied_at head history run request reply r =
    let so = shown head history run r.eval r.evaluated r.send.actor r.number reply r.told in
    let a = so.1 in
    let same : a.send ≡ r.send = one_send head history run a.send r.send a.listed r.listed r.send.actor r.number a.whose refl a.range r.range so.0 request a.sends r.sends in
    let both : events.Send r.number a.range so.0 ≡ events.Send r.number r.range request = sym a.sends ∙ ap (λ (x : Entry Event). x.event) same ∙ r.sends in
    let range : a.range ≡ r.range = cc both in
    let asked : so.0 ≡ request = cc both in
    subst (λ n. AnsweredAt head history r.send.actor r.number n request reply) range
    (subst (λ q. AnsweredAt head history r.send.actor r.number a.range q reply) asked (answered_at head history run r.send.actor r.number so.0 reply a))
