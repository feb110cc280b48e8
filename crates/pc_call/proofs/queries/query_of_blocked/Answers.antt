use Rattle.std.proofs.Common.{◌≡◌, IfOk, Some, sym, ap, ◌∙◌, subst}
use Rattle.std.specs.Option.{option_copied}
use Rattle.pc_call.specs.Queries.{query_by}
use Rattle.pc_call.proofs.queries.query_of_blocked.Goals as goal

pub returns-in-Some : goal.returns-in-Some
returns-in-Some c =
    subst (λ o. IfOk c.query_of_put.result (λ request. Some request ≡ query_by o c.args.txn.now)) (sym (ap option_copied c.in-Some.is) ∙ c.first_blocked.ensures) c.query_of_put.ensures
