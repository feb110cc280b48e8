use Rattle.std.proofs.Common.{◌≡◌, slice_index_or, subst, sym, ◌∙◌}
use Rattle.pc_lists.proofs.Zips.{zip_at_each}
use Rattle.pc_serving.specs.Delivery.{Became}
use Rattle.pc_serving.proofs.beside.serve_beside.Goals as goal

pub returns : goal.returns
returns g c =
    let limit = c.args.ranges.now.limit in
    let outcomes = c.in_ok-map_vec.field-0 in
    zip_at_each (Became limit) c.args.wave.items outcomes.items (sym outcomes.ok.0 ∙ (c.in_ok-map_vec.ensures.len ∙ c.args.wave.ok.0)) (λ i x y lt.
    let at = (c.in_ok-map_vec.ensures.each i y lt).1 in
    subst (λ d. Became limit d (slice_index_or outcomes.items i y)) (sym (at.job_is x)) at.call.met)
