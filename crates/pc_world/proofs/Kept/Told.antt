-- What an actor may tell names only timestamps that it knows of, or those of its clock.
use Rattle.std.proofs.Common.{◌≡◌, ℕ, ◌+◌, ◌*◌, ◌/◌, ◌^◌, ◌≤◌, Bool, true, false, ◌&&◌, not, ◌==◌, if◌then◌else◌, inl, inr, List, [], ◌∷◌, map, Any, Option, None, Some, IfSome, IsTrue, MatchBool, refl, sym, subst, arith}
use Rattle.std.proofs.lemmas.List.Elements.{All-from_recursion}
use Rattle.std.specs.List.{AllByRecursion as Each}
use Rattle.std.specs.Option.{option_map_or}
use Rattle.std.specs.Prelude.{nat_lt}
use Rattle.pc_base.specs.declared.actor.ActorId.{ActorId}
use Rattle.pc_base.specs.declared.span.Span.{Span}
use Rattle.pc_base.specs.declared.transaction.Priority.{Priority}
use Rattle.pc_base.specs.declared.transaction.TxnId.{TxnId}
use Rattle.pc_lists.proofs.Each.{each-always, each-append, each-flat_map, each-map}
use Rattle.pc_proto.specs.declared.answer.Answer.{Answer}
use Rattle.pc_proto.specs.declared.answer.Answer.TheVariants as answers
use Rattle.pc_proto.specs.declared.call.Call.{Call}
use Rattle.pc_proto.specs.declared.call.Call.TheVariants as calls
use Rattle.pc_proto.specs.declared.reply.Origin.{Origin}
use Rattle.pc_proto.specs.declared.reply.Reply.{Reply}
use Rattle.pc_proto.specs.declared.reply.Reply.TheVariants as replies
use Rattle.pc_proto.specs.declared.view.View.{View}
use Rattle.pc_proto.specs.declared.view.View.TheVariants as views
use Rattle.pc_proto.specs.declared.why.Why.{Why}
use Rattle.pc_proto.specs.Replies.{status_ts, view_in}
use Rattle.pc_proto.specs.Requests.{is_about}
use Rattle.pc_proto.specs.Stamps.{answer_stamps, origin_stamps, reply_stamps, view_stamps, why_stamps}
use Rattle.pc_proto.specs.Views.{AbortsWith, is_committed_at, is_staging_at, undecided_ts}
use Rattle.pc_world.proofs.Kept.Knowledge.{HeardWithin, KnownWithin, RestartWithin, TxnWithin}
use Rattle.pc_world.proofs.Stamps.Within.{AtMost, at_most-more}
use Rattle.pc_world.specs.Counting.{LastIs}
use Rattle.pc_world.specs.Known.{Known, first_if, open_txn}
use Rattle.pc_world.specs.Known.Statements.{Statement}
use Rattle.pc_world.specs.Known.Traffic.{Heard}
use Rattle.pc_world.specs.Known.Transactions.{Txn}
use Rattle.pc_world.specs.MayTell.{MayTell, MayTellRow, is_begin, is_past_range, needs_txn}
use Rattle.pc_world.specs.RangeOf.{pieces}
use Rattle.pc_world.specs.Run.{clock_end}
use Rattle.pc_world.specs.Send.Abort.{own_cause}
use Rattle.pc_world.specs.Tell.Data.{AreRowsOfAll, told_row}
use Rattle.pc_world.specs.Tell.End.{IsCauseTold, IsUnrefreshed, MayTellCommitted, shows_staging}
use Rattle.pc_world.specs.Tell.Refusal.{WasMoved}
use Rattle.pc_world.specs.Views.{ShowsAborted, WasAborted, WasCommitted, shows_committed}

-- an element that is so, among elements each of which is also so
pub each-any : {X : Type 0} (P Q : X → Type 0) (xs : List X) → Each P xs → Any Q xs → (x : X) × P x × Q x
each-any P Q xs a (k, x, inside, at, holds) = (x, subst P at (All-from_recursion P xs a k x inside), holds)

both : (a b : Bool) → IsTrue (a && b) → IsTrue b
both a b h = grind arith

same-number : (m n : ℕ) → IsTrue (m == n) → m ≡ n
same-number m n h = grind arith

-- rows that are told show no origin
no-origins : (n : ℕ) (k : Known) (pieces : List (ℕ × Span)) (rows : List (List ℕ × Origin × List ℕ)) → AreRowsOfAll k pieces rows → Each (λ row. AtMost n (origin_stamps row.1)) rows
no-origins n k [] rows h = subst (λ r. Each (λ (row : List ℕ × Origin × List ℕ). AtMost n (origin_stamps row.1)) r) (sym h) tt
no-origins n k (p ∷ ps) rows (found, later, heard, same, rest) =
    let P : List ℕ × Origin × List ℕ → Type 0 = λ row. AtMost n (origin_stamps row.1) in
    let told : Each P (map told_row found) = each-map P told_row found (each-always (λ row. P (told_row row)) (λ row. tt) found) in
    subst (λ r. Each P r) (sym same) (each-append P (map told_row found) later told (no-origins n k ps later rest))

module _ (n : ℕ) where
  view-in : (reply : Reply) → AtMost n (reply_stamps reply) → IfSome (view_in reply) (λ view. AtMost n (view_stamps view))
  view-in (replies.Status view) a = a
  view-in (replies.Refused view) a = a
  view-in (replies.Unsure view) a = a
  view-in reply a = tt

  committed-at : (ts : ℕ) (view : View) → AtMost n (view_stamps view) → IsTrue (is_committed_at ts view) → ts ≤ n
  committed-at ts (views.Committed epoch at locks) a h = omega (arith, a.0, same-number at ts h)
  committed-at ts view a h = absurd cc

  staging-at : (epoch ts : ℕ) (view : View) → AtMost n (view_stamps view) → IsTrue (is_staging_at epoch ts view) → ts ≤ n
  staging-at epoch ts (views.Staging at_epoch at writes) a h = omega (arith, a.0, same-number at ts (both (at_epoch == epoch) (at == ts) h))
  staging-at epoch ts view a h = absurd cc

  view-at : (ts : ℕ) (test : View → Bool) (view : Option View) → ((view : View) → AtMost n (view_stamps view) → IsTrue (test view) → ts ≤ n) → IfSome view (λ view. AtMost n (view_stamps view)) → IsTrue (option_map_or test view false) → ts ≤ n
  view-at ts test None on a h = absurd cc
  view-at ts test (Some view) on a h = on view a h

  was-committed : (heard : List Heard) (id : TxnId) (ts : ℕ) → Each (HeardWithin n) heard → WasCommitted heard id ts → ts ≤ n
  was-committed heard id ts a was =
      let h = each-any (HeardWithin n) (λ h. IsTrue (shows_committed id ts h)) heard a was in
      view-at ts (is_committed_at ts) (view_in h.0.reply) (committed-at ts) (view-in h.0.reply h.1) (both (is_about id h.0.request) _ h.2)

  was-staging : (heard : List Heard) (id : TxnId) (epoch ts : ℕ) → Each (HeardWithin n) heard → Any (λ h. IsTrue (shows_staging id epoch ts h)) heard → ts ≤ n
  was-staging heard id epoch ts a was =
      let h = each-any (HeardWithin n) (λ h. IsTrue (shows_staging id epoch ts h)) heard a was in
      view-at ts (is_staging_at epoch ts) (view_in h.0.reply) (staging-at epoch ts) (view-in h.0.reply h.1) (both (is_about id h.0.request) _ h.2)

  aborts-with : (why : Why) (view : View) → AtMost n (view_stamps view) → AbortsWith why view → AtMost n (why_stamps why)
  aborts-with why (views.Aborted epoch cause locks) a h = subst (λ w. AtMost n (why_stamps w)) h a
  aborts-with why view a h = absurd h

  was-aborted : (heard : List Heard) (id : TxnId) (why : Why) → Each (HeardWithin n) heard → WasAborted heard id why → AtMost n (why_stamps why)
  was-aborted heard id why a was =
      let h = each-any (HeardWithin n) (ShowsAborted id why) heard a was in
      let view : AtMost n (view_stamps h.2.view) = subst (λ o. IfSome o (λ view. AtMost n (view_stamps view))) h.2.told (view-in h.0.reply h.1) in
      aborts-with why h.2.view view h.2.cause

  first-within : (is_open : Bool) (txns : List Txn) (t : Txn) → Each (TxnWithin n) txns → first_if is_open txns ≡ Some t → TxnWithin n t
  first-within is_open [] t a e = absurd cc
  first-within true (x ∷ xs) t a e = let same : x ≡ t = cc in subst (TxnWithin n) same a.0
  first-within false (x ∷ xs) t a e = absurd cc

  pub open-within : (k : Known) (t : Txn) → KnownWithin n k → open_txn k ≡ Some t → TxnWithin n t
  open-within k t a e = first-within k.is_open k.txns t a.txns e

  own-cause : (restart : Option (List ℕ × ℕ)) → RestartWithin n restart → AtMost n (why_stamps (own_cause restart))
  own-cause None h = tt
  own-cause (Some w) h = (h, tt)

  unrefreshed : (key : List ℕ) (ts : ℕ) (reply : Reply) → AtMost n (reply_stamps reply) → IsUnrefreshed key ts reply → ts ≤ n
  unrefreshed key ts (replies.Unrefreshed at_key at) a h = omega (arith, a.0, h.1)
  unrefreshed key ts reply a h = absurd h

  unsettled-ts : (view : View) → AtMost n (view_stamps view) → undecided_ts view ≤ n
  unsettled-ts (views.Pending epoch ts) a = a.0
  unsettled-ts (views.Staging epoch ts writes) a = a.0
  unsettled-ts view a = omega arith

  status-ts : (reply : Reply) → AtMost n (reply_stamps reply) → status_ts reply ≤ n
  status-ts (replies.Status view) a = unsettled-ts view a
  status-ts reply a = omega arith

  last-is : (P : Heard → Type 0) (ts : ℕ) (heard : List Heard) → Each (HeardWithin n) heard → LastIs P (λ h. status_ts h.reply ≡ ts) heard → ts ≤ n
  last-is P ts [] a h = absurd h
  last-is P ts (x ∷ xs) a h = elim h [ inl later ↦ last-is P ts xs a.1 later | inr this ↦ omega (arith, status-ts x.reply a.0, this.1) ]

  read-in-range : (call : Call) (priority : Priority) (reading : ℕ) → call ≡ calls.Begin priority → (is_begin call && nat_lt (2 ^ 62) reading) ≡ false → reading ≤ 2 ^ 62
  read-in-range call priority reading e h = grind arith

  either-clock : (b : Bool) (reading high : ℕ) → clock_end ≤ n → reading ≤ 2 ^ 62 → high ≤ n → (if b then reading * 2 ^ 32 else high + 1) ≤ n + 1
  either-clock true reading high e h k = omega arith
  either-clock false reading high e h k = omega arith

  committed-within : (k : Known) (s : Statement) (id : TxnId) (ts : ℕ) → KnownWithin n k → MayTellCommitted k s id ts → ts ≤ n
  committed-within k s id ts a may =
      elim may.why [
        | inl unwritten ↦ omega (arith, unwritten.at_begin, (open-within k may.t a may.opened).begin)
        | inr (inl was) ↦ was-committed k.heard may.t.id ts a.heard was
        | inr (inr implicit) ↦ was-staging k.heard may.t.id may.t.epoch ts a.heard implicit.staging
      ]

  cause-within : (k : Known) (t : Txn) (why : Why) → KnownWithin n k → TxnWithin n t → IsCauseTold k t why → AtMost n (why_stamps why)
  cause-within k t why a b cause =
      elim cause [
        | inl was ↦ was-aborted k.heard_now t.id why a.heard_now was
        | inr own ↦ subst (λ w. AtMost n (why_stamps w)) (sym own.1) (own-cause t.restart b.restart)
      ]

  row-within : (splits : List (List ℕ)) (actor : ActorId) (k : Known) (s : Statement) (answer : Answer) → clock_end ≤ n → KnownWithin n k → is_past_range s ≡ false → MayTellRow splits actor k s answer → AtMost (n + 1) (answer_stamps answer)
  row-within splits actor k s (answers.Begun id ts) e a range may =
      let reading = read-in-range s.call may.priority s.reading may.asked range in
      let clock = either-clock (nat_lt (k.high / 2 ^ 32) s.reading) s.reading k.high e reading a.high in
      (omega (arith, may.at, clock), tt)
  row-within splits actor k s (answers.Rows rows) e a range may =
      each-flat_map (λ ts. ts ≤ n + 1) (λ row. origin_stamps row.1) rows (no-origins (n + 1) k (pieces splits may.span) rows may.heard)
  row-within splits actor k s (answers.Committed id ts) e a range may = (omega (arith, committed-within k s id ts a may), tt)
  row-within splits actor k s (answers.RolledBack id why) e a range may =
      at_most-more n (n + 1) (why_stamps why) (omega arith) (cause-within k may.t why a (open-within k may.t a may.opened) may.cause)
  row-within splits actor k s (answers.Aborted why) e a range may =
      at_most-more n (n + 1) (why_stamps why) (omega arith) (was-aborted k.heard may.t.id why a.heard may.heard)
  row-within splits actor k s (answers.Restart key ts) e a range may =
      let h = each-any (HeardWithin n) (λ h. IsUnrefreshed key ts h.reply) k.heard_now a.heard_now may.heard in
      (omega (arith, unrefreshed key ts h.0.reply h.1 h.2), tt)
  row-within splits actor k s (answers.Moved ts) e a range may = (omega (arith, last-is (WasMoved k) ts k.heard_now a.heard_now may.last), tt)
  row-within splits actor k s answer e a range may = tt

  told-in-range : (splits : List (List ℕ)) (actor : ActorId) (k : Known) (s : Statement) (answer : Answer) (past : Bool) → is_past_range s ≡ past → clock_end ≤ n → KnownWithin n k → MatchBool past (answer ≡ answers.Clock s.reading) (MayTellRow splits actor k s answer) → AtMost (n + 1) (answer_stamps answer)
  told-in-range splits actor k s answer true is e a may = subst (λ x. AtMost (n + 1) (answer_stamps x)) (sym may) tt
  told-in-range splits actor k s answer false is e a may = row-within splits actor k s answer e a is may

  told-in : (splits : List (List ℕ)) (actor : ActorId) (k : Known) (s : Statement) (answer : Answer) (none : Bool) → clock_end ≤ n → KnownWithin n k → MatchBool none (answer ≡ answers.NoTxn) (MatchBool (is_past_range s) (answer ≡ answers.Clock s.reading) (MayTellRow splits actor k s answer)) → AtMost (n + 1) (answer_stamps answer)
  told-in splits actor k s answer true e a may = subst (λ x. AtMost (n + 1) (answer_stamps x)) (sym may) tt
  told-in splits actor k s answer false e a may = told-in-range splits actor k s answer (is_past_range s) refl e a may

  pub told-within : (splits : List (List ℕ)) (actor : ActorId) (k : Known) (answer : Answer) → clock_end ≤ n → KnownWithin n k → MayTell splits actor k answer → AtMost (n + 1) (answer_stamps answer)
  told-within splits actor k answer e a may = told-in splits actor k may.s answer (needs_txn may.s.call && not k.is_open) e a may.told
