use Rattle.std.proofs.Common.{◌≡◌, ◌∷◌, ℕ, List, true, false, sym, ap, ◌∙◌, rules}
use Rattle.pc_base.specs.Span.{same_key}
use Rattle.pc_known.proofs.Exact.{equal_key_is, same_key_is}
use Rattle.pc_own.proofs.locks.after.Goals as goal

pub returns-then-eq-clause-some : goal.returns-then-eq-clause-some
returns-then-eq-clause-some c later e =
    let first : List ℕ = c.in_ok-first.first.now in
    let rest : List (List ℕ) = c.in_ok-first.later.now in
    let all : c.args.keys.now ≡ first ∷ rest = search rules in
    let hit : same_key first c.args.lock.now ≡ true = search rules in
    let same : rest ≡ later = cc in
    all ∙ ap (λ k. k ∷ rest) (same_key_is first c.args.lock.now hit) ∙ ap (λ l. c.args.lock.now ∷ l) same

pub returns-else-eq-clause-none : goal.returns-else-eq-clause-none
returns-else-eq-clause-none c later e =
    let first : List ℕ = c.in_ok-first.first.now in
    let rest : List (List ℕ) = c.in_ok-first.later.now in
    let all : c.args.keys.now ≡ first ∷ rest = search rules in
    let both : first ∷ rest ≡ c.args.lock.now ∷ later = sym all ∙ e in
    let is : first ≡ c.args.lock.now = cc in
    let hit : same_key first c.args.lock.now ≡ true = equal_key_is first c.args.lock.now is in
    let miss : same_key first c.args.lock.now ≡ false = search rules in
    absurd (let clash : true ≡ false = sym hit ∙ miss in cc)
