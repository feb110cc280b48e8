use Rattle.std.proofs.Common.{◌≡◌, sym, subst, rules}
use Rattle.std.proofs.lemmas.Result.{on_ok_weaker}
use Rattle.pc_files.proofs.refreshed.RefreshedSpans.hear.Goals as goal
use Rattle.pc_files.proofs.Ways.{taken_further}
use Rattle.pc_files.specs.RefreshedSpans.{way_by, way_of}
use Rattle.pc_proto.specs.declared.reply.Reply.{Reply}
use Rattle.pc_proto.specs.declared.reply.Reply.TheVariants as replies
use Rattle.pc_proto.specs.declared.request.Request.{Request}
use Rattle.pc_proto.specs.declared.request.Request.TheVariants as requests

pub returns-in-Refresh-Refreshed : goal.returns-in-Refresh-Refreshed
returns-in-Refresh-Refreshed c =
    let here = c.in-Refresh-Refreshed in
    let h = c.args.hearing.now in
    let old = c.args.self.now in
    let asked : h.request ≡ requests.Refresh here.id here.from here.to here.span = search rules in
    let told : h.reply ≡ replies.Refreshed = search rules in
    on_ok_weaker c.take_further.result
    (λ takes other place.
    subst (λ (r : Request). way_of other place c.take_further.new.self ≡ way_by other place (way_of other place old) r h.reply) (sym asked)
    (subst (λ (r : Reply). way_of other place c.take_further.new.self ≡ way_by other place (way_of other place old) (requests.Refresh here.id here.from here.to here.span) r) (sym told)
    (taken_further here.id here.span here.from here.to old c.take_further.new.self takes other place)))
    c.take_further.ensures
