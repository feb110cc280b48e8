use Rattle.std.proofs.Common.{◌≡◌, ℕ, max, List, Some, None, refl, sym, ap, ◌∙◌, rules}
use Rattle.std.specs.BTreeMap.{BTreeMap, insert_entry}
use Rattle.pc_base.proofs.TxnOrder.{txn_lookup}
use Rattle.pc_base.specs.declared.transaction.TxnId.{TxnId}
use Rattle.pc_base.specs.Keyed.{at}
use Rattle.pc_base.specs.Transaction.{same_txn, txn_cmp}
use Rattle.pc_proto.specs.declared.record.Record.{Record}
use Rattle.pc_proto.specs.Place.{Become}
use Rattle.pc_proto.specs.Table.{Table, applied_to}
use Rattle.pc_record.proofs.Tables.{table_is, txn_written}
use Rattle.pc_record.proofs.table.RecordTable.stay_active.Goals as goal

pub returns-in_default : goal.returns-in_default
returns-in_default c =
    let there : at same_txn c.args.id c.args.self.now.records ≡ None =
    ap (λ (t : Table). at same_txn c.args.id t.records) (sym c.self.view_is) ∙ (sym (txn_lookup c.args.id c.self.inside.records.entries) ∙ sym c.in_default.ensures.value) in
    rw there (ap (λ (m : BTreeMap TxnId Record). record { records = m.entries; marks = c.self.inside.marks.entries }) c.get_mut.follows.holds-at-none ∙ c.self.view_is)

pub returns : goal.returns
returns c =
    let es : List (TxnId × Record) = c.self.inside.records.entries in
    let kept : Record = c.in-Some.record.now in
    let there : at same_txn c.args.id c.args.self.now.records ≡ Some kept =
    ap (λ (t : Table). at same_txn c.args.id t.records) (sym c.self.view_is) ∙ (sym (txn_lookup c.args.id es) ∙ sym c.in-Some.ensures.value) in
    let most : c.max-record.result ≡ max kept.activity c.args.now = search rules in
    rw there
    (table_is _ (insert_entry txn_cmp es c.args.id (record kept { activity = max kept.activity c.args.now })) c.self.inside.marks.entries c.self.inside.marks.entries
    ((c.get_mut.follows.holds (record kept { activity = c.max-record.result })).0
    ∙ (txn_written c.args.id kept (record kept { activity = c.max-record.result }) es c.self.invariant (sym c.in-Some.ensures.value)
    ∙ ap (λ (n : ℕ). insert_entry txn_cmp es c.args.id (record kept { activity = n })) most)) refl
    ∙ ap (applied_to c.args.id (Become (record kept { activity = max kept.activity c.args.now }))) c.self.view_is)
