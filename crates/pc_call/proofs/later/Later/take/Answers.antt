use Rattle.std.proofs.Common.{◌≡◌, Some, get_or, sym, ap, ◌∙◌}
use Rattle.std.specs.List.{remove}
use Rattle.pc_call.proofs.Taken.{found_nowhere, found_there, left_all, left_at}
use Rattle.pc_call.specs.Outbox.{is_later_of}
use Rattle.pc_call.proofs.later.Later.take.Goals as goal

pub returns-in_err-place-clause-found : goal.returns-in_err-place-clause-found
returns-in_err-place-clause-found c =
    c.from_residual.ensures ∙ sym (found_nowhere (is_later_of c.args.seq) c.args.self.now (sym c.place_of.ensures ∙ c.in_err-place.was))

pub returns-in_err-place-clause-left : goal.returns-in_err-place-clause-left
returns-in_err-place-clause-left c = left_all (is_later_of c.args.seq) c.args.self.now (sym c.place_of.ensures ∙ c.in_err-place.was)

pub returns-clause-found : goal.returns-clause-found
returns-clause-found c =
    let view = c.self.view_is in
    let same : c.self.inside.puts.items ≡ c.args.self.now = cc in
    ap Some (c.remove.ensures.value ∙ ap (λ puts. get_or puts c.in_ok-place.place c.remove.result) same)
    ∙ sym (found_there (is_later_of c.args.seq) c.args.self.now c.in_ok-place.place c.remove.result (sym c.place_of.ensures ∙ c.in_ok-place.was))

pub returns-clause-left : goal.returns-clause-left
returns-clause-left c =
    let view = c.self.view_is in
    let same : c.self.inside.puts.items ≡ c.args.self.now = cc in
    c.remove.ensures.items ∙ ap (λ puts. remove puts c.in_ok-place.place) same
    ∙ left_at (is_later_of c.args.seq) c.args.self.now c.in_ok-place.place (sym c.place_of.ensures ∙ c.in_ok-place.was)
