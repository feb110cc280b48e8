use Rattle.std.proofs.Common.{◌≡◌, ℕ, true, cond, is_some, None, Some, sym, ap, subst, ◌∙◌}
use Rattle.std.specs.BTreeMap.{get}
use Rattle.pc_base.specs.declared.transaction.TxnId.{TxnId}
use Rattle.pc_files.proofs.Noting.{kept_new, kept_old, none_of, same_write_is, write_equal}
use Rattle.pc_files.proofs.firsts.keep_first.Goals as goal
use Rattle.pc_files.specs.FirstPuts.{is_same_write, write_cmp}

pub returns-in_ok-insert : goal.returns-in_ok-insert
returns-in_ok-insert c id epoch seq =
    let q : TxnId × ℕ × ℕ = (id, epoch, seq) in
    let old = get write_cmp c.args.numbers.now q in
    let free : get write_cmp c.args.numbers.now c.args.write ≡ None = none_of (get write_cmp c.args.numbers.now c.args.write) (sym c.contains_key.ensures ∙ c.if-not-contains_key.true) in
    c.in_ok-insert.ensures.updates.0 q
    ∙ ap (λ b. cond b (Some c.args.number) old) (write_equal c.args.write q)
    ∙ kept_new (is_same_write c.args.write q) c.args.number old (λ same. subst (λ (x : TxnId × ℕ × ℕ). get write_cmp c.args.numbers.now x ≡ None) (same_write_is c.args.write q same) free)

pub returns-else-not-contains_key : goal.returns-else-not-contains_key
returns-else-not-contains_key c id epoch seq =
    let q : TxnId × ℕ × ℕ = (id, epoch, seq) in
    let old = get write_cmp c.args.numbers.now q in
    let had : is_some (get write_cmp c.args.numbers.now c.args.write) ≡ true = sym c.contains_key.ensures ∙ c.if-not-contains_key.false in
    kept_old (is_same_write c.args.write q) c.args.number old (λ same. subst (λ (x : TxnId × ℕ × ℕ). is_some (get write_cmp c.args.numbers.now x) ≡ true) (same_write_is c.args.write q same) had)
