-- Every mark of a range is final.
use Rattle.std.proofs.Common.{◌≡◌, ℕ, Bool, true, false, if◌then◌else◌, List, [], ◌∷◌, fold, Option, None, Some, IfSome, refl, arith}
use Rattle.std.specs.List.{AllByRecursion as Each}
use Rattle.pc_base.specs.declared.transaction.TxnId.{TxnId}
use Rattle.pc_base.specs.Keyed.{at}
use Rattle.pc_base.specs.Transaction.{same_txn, txn_cmp}
use Rattle.pc_history.specs.declared.pair.Pair.{Pair}
use Rattle.pc_lists.proofs.Each.{each-at, each-insert}
use Rattle.pc_proto.specs.declared.event.Event.{Event}
use Rattle.pc_proto.specs.declared.fate.Finding.{Finding}
use Rattle.pc_proto.specs.declared.fate.Goal.TheVariants as goals
use Rattle.pc_proto.specs.declared.meta.TxnMeta.{TxnMeta}
use Rattle.pc_proto.specs.declared.record.Record.{Record}
use Rattle.pc_proto.specs.declared.record.Status.{Status}
use Rattle.pc_proto.specs.declared.request.Request.{Request}
use Rattle.pc_proto.specs.declared.request.Request.TheVariants as requests
use Rattle.pc_proto.specs.Place.{Place, Nothing, Kept, Marked, Change, Stay, Become, Finish, is_decided, is_final}
use Rattle.pc_proto.specs.RecordRows.{place_change, table_for}
use Rattle.pc_proto.specs.RecordRows.Commit.{commit}
use Rattle.pc_proto.specs.RecordRows.Push.{Verdict, There, Refuse, Doubt, Do, on_verdict, push_verdict}
use Rattle.pc_proto.specs.RecordRows.Reached.{is_staged_at}
use Rattle.pc_proto.specs.RecordRows.Recover.{decided}
use Rattle.pc_proto.specs.RecordRows.Stage.{stage}
use Rattle.pc_proto.specs.Requests.{subject}
use Rattle.pc_proto.specs.Table.{Table, applied_to, place_of, record_or_mark}
use Rattle.pc_world.specs.Named.{request_named}
use Rattle.pc_world.specs.RangeState.{RangeState, no_state}
use Rattle.pc_world.specs.StateOf.{evaluated, state_of, state_with}

-- A change leaves no mark but a final one.
abbrev leaves_final : Change → Bool
leaves_final (Finish s) = is_final s.standing
leaves_final Stay = true
leaves_final (Become r) = true

either : (b : Bool) (one other : Change) → leaves_final one ≡ true → leaves_final other ≡ true → leaves_final (if b then one else other) ≡ true
either true one other h k = h
either false one other h k = k

finish_if : (b : Bool) (s : Status) → is_final s.standing ≡ b → leaves_final (if b then Finish s else Stay) ≡ true
finish_if true s is = is
finish_if false s is = refl

decided_final : (finding : Finding) (p : Place) → leaves_final (decided finding p) ≡ true
decided_final finding (Kept r) = refl
decided_final finding Nothing = refl
decided_final finding (Marked s) = refl

pushed_final : (v : Verdict) (c : Change) → leaves_final c ≡ true → leaves_final (on_verdict v c) ≡ true
pushed_final There c h = refl
pushed_final Refuse c h = refl
pushed_final Doubt c h = refl
pushed_final Do c h = h

stage_final : (meta : TxnMeta) (ts now : ℕ) (writes : List (List ℕ × ℕ)) (locks : List (List ℕ)) (p : Place) → leaves_final (stage meta ts now writes locks p) ≡ true
stage_final meta ts now writes locks p = grind arith

commit_final : (meta : TxnMeta) (ts : ℕ) (locks : List (List ℕ)) (p : Place) → leaves_final (commit meta ts locks p) ≡ true
commit_final meta ts locks p = grind arith

change_final : (request : Request) (p : Place) → leaves_final (place_change request p) ≡ true
change_final (requests.Beat meta ts now) Nothing = refl
change_final (requests.Beat meta ts now) (Kept r) = either (is_final r.status.standing) Stay _ refl refl
change_final (requests.Beat meta ts now) (Marked s) = refl
change_final (requests.Stage meta ts now writes locks) p = either (is_decided p) Stay _ refl (stage_final meta ts now writes locks p)
change_final (requests.Commit meta ts locks) p = either (is_decided p) Stay _ refl (commit_final meta ts locks p)
change_final (requests.Abort meta why locks) p = either (is_decided p) Stay _ refl refl
change_final (requests.Push holder by level now goals.Abort) p = either (is_decided p) Stay _ refl (pushed_final (push_verdict holder level now goals.Abort p) _ refl)
change_final (requests.Push holder by level now (goals.Move target)) p = either (is_decided p) Stay _ refl (pushed_final (push_verdict holder level now (goals.Move target) p) _ refl)
change_final (requests.Recover id epoch ts anchor finding) p =
    either (is_decided p) Stay _ refl (either (is_staged_at p epoch ts) (decided finding p) Stay (decided_final finding p) refl)
change_final (requests.Remove id anchor) (Kept r) = finish_if (is_final r.status.standing) r.status refl
change_final (requests.Remove id anchor) Nothing = refl
change_final (requests.Remove id anchor) (Marked s) = refl
change_final request p = refl

-- A mark that is final.
abbrev IsFinalMark : Status → Type 0
IsFinalMark s = is_final s.standing ≡ true

abbrev AreFinal : Table → Type 0
AreFinal table = Each (λ e. IsFinalMark e.1) table.marks

applied_final : (id : TxnId) (c : Change) (table : Table) → leaves_final c ≡ true → AreFinal table → AreFinal (applied_to id c table)
applied_final id Stay table h marks = marks
applied_final id (Become r) table h marks = marks
applied_final id (Finish s) table h marks = each-insert IsFinalMark txn_cmp id s table.marks h marks

table_final : (subject : Option TxnId) (request : Request) (table : Table) → AreFinal table → AreFinal (table_for subject request table)
table_final None request table marks = marks
table_final (Some id) request table marks = applied_final id (place_change request (place_of id table)) table (change_final request (place_of id table)) marks

state_final : (request : Option Request) (s : RangeState) → AreFinal s.table → AreFinal (state_with request s).table
state_final None s marks = marks
state_final (Some request) s marks = table_final (subject request) request s.table marks

final_from : (own : List (Pair Event)) (s : RangeState) → AreFinal s.table → AreFinal (fold evaluated s own).table
final_from [] s marks = marks
final_from (p ∷ ps) s marks = final_from ps (evaluated s p) (state_final (request_named p.named) s marks)

-- What the range has of a transaction is no mark but a final one.
abbrev pub IsFinalPlace : Place → Type 0
IsFinalPlace (Marked s) = is_final s.standing ≡ true
IsFinalPlace Nothing = Unit {0}
IsFinalPlace (Kept r) = Unit {0}

place_when : (r : Option Record) (s : Option Status) → IfSome s IsFinalMark → IsFinalPlace (record_or_mark r s)
place_when (Some r) s h = tt
place_when None (Some s) h = h
place_when None None h = tt

pub place_final : (id : TxnId) (own : List (Pair Event)) → IsFinalPlace (place_of id (state_of own).table)
place_final id own =
    let table = (state_of own).table in
    place_when (at same_txn id table.records) (at same_txn id table.marks)
    (each-at IsFinalMark same_txn id table.marks (final_from own no_state tt))
