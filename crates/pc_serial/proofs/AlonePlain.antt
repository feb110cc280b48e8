-- One session alone is told plain answers.
use Rattle.std.proofs.Common.{◌≡◌, ℕ, ◌+◌, Bool, true, false, ◌&&◌, not, List, ◌∷◌, ◌++◌, inl, inr, Option, None, Some, Contains, refl, sym, ap, subst, ◌∙◌, append_assoc}
use Rattle.std.specs.Bool.{MatchBool}
use Rattle.pc_base.specs.declared.actor.ActorId.TheVariants as actors
use Rattle.pc_base.specs.declared.entry.Entry.{Entry}
use Rattle.pc_base.specs.declared.transaction.TxnId.{TxnId}
use Rattle.pc_history.specs.History.{MayFollow}
use Rattle.pc_implicit.proofs.Agreed.{agreed, open_there, owned}
use Rattle.pc_implicit.proofs.HeardViews.{so_of, view_is_so}
use Rattle.pc_implicit.proofs.Outcomes.{outcomes_are_true}
use Rattle.pc_implicit.specs.Decided.{StaysTrue}
use Rattle.pc_implicit.specs.Outcomes.{IsAbortedFor}
use Rattle.pc_implicit.specs.Writes.{home_of}
use Rattle.pc_lists.proofs.Each.{each-contains}
use Rattle.pc_proto.specs.declared.answer.Answer.{Answer}
use Rattle.pc_proto.specs.declared.answer.Answer.TheVariants as answers
use Rattle.pc_proto.specs.declared.call.Call.{Call}
use Rattle.pc_proto.specs.declared.call.Call.TheVariants as calls
use Rattle.pc_proto.specs.declared.event.Event.{Event}
use Rattle.pc_proto.specs.declared.event.Event.TheVariants as events
use Rattle.pc_proto.specs.declared.record.Standing.TheVariants as standings
use Rattle.pc_proto.specs.declared.view.View.{View}
use Rattle.pc_proto.specs.declared.view.View.TheVariants as views
use Rattle.pc_proto.specs.declared.why.Why.{Why}
use Rattle.pc_proto.specs.declared.why.Why.TheVariants as whys
use Rattle.pc_proto.specs.RecordRows.Reached.{status_of}
use Rattle.pc_proto.specs.Views.{AbortsWith}
use Rattle.pc_serial.proofs.AloneMoved.{not_moved}
use Rattle.pc_serial.proofs.AloneStanding.{now_heard}
use Rattle.pc_serial.proofs.AloneTimes.{IsLowTxn, level}
use Rattle.pc_serial.proofs.AloneTimesRun.{low_at, never-restart}
use Rattle.pc_serial.proofs.AloneTold.{abort_is_own, given_up_itself, not_blocked}
use Rattle.pc_serial.proofs.Quiet.{nothing_lost}
use Rattle.pc_serial.specs.Alone.{IsAlone}
use Rattle.pc_serial.specs.Plain.{IsPlainTo, TellsPlainly}
use Rattle.pc_serial.specs.QuietWire.{the_session}
use Rattle.pc_world.proofs.Prefixes.{run_front, run_may}
use Rattle.pc_world.specs.After.{known_at}
use Rattle.pc_world.specs.Known.{Known, call_in, open_txn}
use Rattle.pc_world.specs.Known.Statements.{Statement}
use Rattle.pc_world.specs.Known.Transactions.{Txn}
use Rattle.pc_world.specs.Local.{Head}
use Rattle.pc_world.specs.MayTell.{IsLearnTold, MayTell, MayTellRow, is_past_range, needs_txn}
use Rattle.pc_world.specs.Run.{IsRun, protocol}
use Rattle.pc_world.specs.Send.Abort.{own_cause}
use Rattle.pc_world.specs.Send.Put.{AsksFor}
use Rattle.pc_world.specs.Tell.End.{IsCauseTold}
use Rattle.pc_world.specs.Views.{WasAborted}

plain-as : (one other : Call) (answer : Answer) → one ≡ other → IsPlainTo other answer → IsPlainTo one answer
plain-as one other answer same is = subst (λ c. IsPlainTo c answer) (sym same) is

written-plain : (call : Call) (key : List ℕ) (value : Option (List ℕ)) → AsksFor (Some call) key value → IsPlainTo call answers.Written
written-plain call key None asks = let same : call ≡ calls.Delete key = cc asks in plain-as call (calls.Delete key) answers.Written same tt
written-plain call key (Some value) asks = let same : call ≡ calls.Put key value = cc asks in plain-as call (calls.Put key value) answers.Written same tt

learnt-plain : (met : Bool) (k : Known) (call : Call) → IsLearnTold met k call → IsPlainTo call answers.Learnt × IsPlainTo call answers.NotYet
learnt-plain met k (calls.Learn id) is = (tt, tt)
learnt-plain met k call is = absurd is

module _ (head : Head) (whole : List (Entry Event)) (run : IsRun head whole) (alone : IsAlone head whole) where
  module _ (before : List (Entry Event)) (e : Entry Event) (later : List (Entry Event)) (split : whole ≡ before ++ e ∷ later) (me : e.actor ≡ the_session) where
    abbrev k : Known
    k = known_at head the_session before

    run_before : IsRun head before
    run_before = run_front head before (e ∷ later) (subst (IsRun head) split run)

    may : MayFollow (protocol head) before e
    may = run_may head before e later (subst (IsRun head) split run)

    low-txn : (history : List (Entry Event)) → IsRun head history → (more : List (Entry Event)) → whole ≡ history ++ more → (t : Txn) → Contains (known_at head the_session history).txns t → t.restart ≡ None
    low-txn history run_history more at t mine =
        (each-contains (IsLowTxn (level (known_at head the_session history).txns)) (known_at head the_session history).txns t (low_at head whole run alone history run_history more at).low.txns mine).unmoved

    -- what is aborted was so at the client's wish
    aborted-client : (t : Txn) (why : Why) → open_txn k ≡ Some t → IsAbortedFor head before t.id why → why ≡ whys.Client
    aborted-client t why opened a =
        let up = given_up_itself head whole run alone before run_before (e ∷ later) split t.id why a in
        let g = up.4 in
        let own : the_session ≡ actors.Session t.id.session = (owned the_session (k.begun + 1) k.txns t (agreed head before run_before the_session).numbered (open_there k t opened)).0 in
        let opened_then : open_txn (known_at head the_session g.front) ≡ Some g.t = subst (λ x. open_txn (known_at head x g.front) ≡ Some g.t) (sym own) g.opened in
        let at : whole ≡ g.front ++ (g.send ∷ (g.back ++ ((up.1 ∷ up.2) ++ (e ∷ later)))) =
        split ∙ ap (λ h. h ++ e ∷ later) up.3 ∙ append_assoc up.0 (up.1 ∷ up.2) (e ∷ later) ∙ ap (λ h. h ++ ((up.1 ∷ up.2) ++ (e ∷ later))) g.sent ∙ append_assoc g.front (g.send ∷ g.back) ((up.1 ∷ up.2) ++ (e ∷ later)) in
        let run_front_at = run_front head g.front (g.send ∷ (g.back ++ ((up.1 ∷ up.2) ++ (e ∷ later)))) (subst (IsRun head) at run) in
        g.cause ∙ ap own_cause (low-txn g.front run_front_at (g.send ∷ (g.back ++ ((up.1 ∷ up.2) ++ (e ∷ later)))) at g.t (open_there (known_at head the_session g.front) g.t opened_then))

    -- what was heard to be aborted is
    heard-aborted : (id : TxnId) (why : Why) → WasAborted k.heard_now id why → IsAbortedFor head before id why
    heard-aborted id why (n, h, inside, at, shows) =
        let there = each-contains (λ g. Contains k.heard g) k.heard_now h (now_heard head before run_before the_session) (n, inside, at) in
        by shows.view shows.cause (view_is_so head before run_before the_session h (so_of head before run_before the_session h there) id shows.view shows.about shows.told)
      where
        by : (view : View) → AbortsWith why view → StaysTrue view (home_of head id before) → IsAbortedFor head before id why
        by (views.Aborted epoch cause locks) same stays = record { epoch = epoch; ts = stays.0; says = stays.1 ∙ ap (λ w. Some (status_of (standings.Aborted w) epoch stays.0)) same }
        by view same stays = absurd same

    rolled-back : (t : Txn) (why : Why) → open_txn k ≡ Some t → IsCauseTold k t why → why ≡ whys.Client
    rolled-back t why opened (inl heard) = aborted-client t why opened (heard-aborted t.id why heard)
    rolled-back t why opened (inr own) = own.1 ∙ ap own_cause (low-txn before run_before (e ∷ later) split t (open_there k t opened))

    plain-row : (s : Statement) (answer : Answer) → k.statement ≡ Some s → e.event ≡ events.Tell answer → MayTellRow head.splits the_session k s answer → IsPlainTo s.call answer
    plain-row s (answers.Begun id ts) opened tells row = plain-as s.call (calls.Begin row.priority) (answers.Begun id ts) row.asked tt
    plain-row s (answers.Value value) opened tells row = plain-as s.call (calls.Get row.key) (answers.Value value) row.asked tt
    plain-row s (answers.Rows rows) opened tells row = plain-as s.call (calls.Scan row.span) (answers.Rows rows) row.asked tt
    plain-row s answers.Written opened tells row = let (n, m, inside, at, f) = row.sent in written-plain s.call f.key f.value f.asked
    plain-row s (answers.Committed id ts) opened tells row = plain-as s.call calls.Commit (answers.Committed id ts) row.asked tt
    plain-row s (answers.RolledBack id why) opened tells row = plain-as s.call calls.Rollback (answers.RolledBack id why) row.asked (rolled-back row.t why row.opened row.cause)
    plain-row s answers.Learnt opened tells row = (learnt-plain true k s.call row).0
    plain-row s answers.NotYet opened tells row = (learnt-plain false k s.call row).1
    plain-row s answers.Done opened tells row = plain-as s.call calls.Round answers.Done row tt
    plain-row s (answers.Blocked holder) opened tells row = absurd (not_blocked head whole run alone before run_before (e ∷ later) split the_session s holder row)
    plain-row s (answers.Unavailable faults) opened tells row =
        absurd (nothing_lost head whole run alone.wire.none_lost before e later split me (answers.Unavailable faults) tells tt)
    plain-row s (answers.Unknown id) opened tells row =
        absurd (nothing_lost head whole run alone.wire.none_lost before e later split me (answers.Unknown id) tells tt)
    plain-row s (answers.Aborted why) opened tells row =
        let call = abort_is_own head whole run alone before e later split row.t why row.opened me tells in
        let same : s.call ≡ calls.Rollback = let both : ◌≡◌ {A = Option Call} (Some s.call) (Some calls.Rollback) = sym (ap call_in opened) ∙ call in cc both in
        let told = (outcomes_are_true head whole run).told before e later row.t.id why split (record { answer = answers.Aborted why; tells = tells; says = refl; t = row.t; opened = subst (λ a. open_txn (known_at head a before) ≡ Some row.t) (sym me) row.opened; named = refl }) in
        plain-as s.call calls.Rollback (answers.Aborted why) same (aborted-client row.t why row.opened told)
    plain-row s (answers.Restart key ts) opened tells row =
        absurd (never-restart head whole run alone before run_before e later split may (low_at head whole run alone before run_before (e ∷ later) split) me key ts row.heard)
    plain-row s (answers.Moved ts) opened tells row = absurd (not_moved head whole run alone before run_before (e ∷ later) split s ts opened row)
    plain-row s (answers.Clock reading) opened tells row = absurd row
    plain-row s answers.NoTxn opened tells row = absurd row

    plain-in : (a b : Bool) (P Q R S : Type 0) → (R → S) → MatchBool a P (MatchBool b Q R) → MatchBool a P (MatchBool b Q S)
    plain-in true b P Q R S on m = m
    plain-in false true P Q R S on m = m
    plain-in false false P Q R S on m = on m

    pub tells_plainly : (answer : Answer) → e.event ≡ events.Tell answer → MayTell head.splits the_session k answer → TellsPlainly head before answer
    tells_plainly answer tells told = record {
      s = told.s;
      opened = told.opened;
      plain =
          plain-in (needs_txn told.s.call && not k.is_open) (is_past_range told.s) (answer ≡ answers.NoTxn) (answer ≡ answers.Clock told.s.reading)
          (MayTellRow head.splits the_session k told.s answer) (IsPlainTo told.s.call answer) (plain-row told.s answer told.opened tells) told.told;
    }
