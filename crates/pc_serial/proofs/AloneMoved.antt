-- One session alone: no commit of the open call meets a record that is past it, so none is moved.
use Rattle.std.proofs.Common.{◌≡◌, ◌≢◌, ℕ, ◌≤◌, ◌<◌, nat_lt, Bool, true, false, ◌==◌, List, [], ◌∷◌, ◌++◌, ◌⊎◌, inl, inr, Option, Some, Contains, IsTrue, refl, sym, ap, subst, ◌∙◌, arith, append-nil, append_assoc}
use Rattle.std.proofs.lemmas.Bool.{and_parts, eqb-true, ltb-true}
use Rattle.std.proofs.lemmas.List.Elements.{Contains-append_left, Contains-push, Contains-push_cases}
use Rattle.std.proofs.lemmas.List.Folds.{Any-from_list_any}
use Rattle.std.specs.List.{AllByRecursion as Each, list_all}
use Rattle.std.specs.Option.{option_or}
use Rattle.std.specs.Prelude.{⊤}
use Rattle.pc_base.specs.declared.actor.ActorId.{ActorId}
use Rattle.pc_base.specs.declared.actor.ActorId.TheVariants as actors
use Rattle.pc_base.specs.declared.entry.Entry.{Entry}
use Rattle.pc_base.specs.declared.transaction.TxnId.{TxnId}
use Rattle.pc_history.specs.History.{MayFollow}
use Rattle.pc_history.specs.Own.{named_in}
use Rattle.pc_implicit.proofs.Agreed.{Agrees, agreed, begun_at, begun_told_in, open_there}
use Rattle.pc_implicit.proofs.Commits.{decided_is_committed, heard_decided}
use Rattle.pc_implicit.proofs.CommitsStay.{committed_push}
use Rattle.pc_implicit.proofs.Deciders.{told-there}
use Rattle.pc_implicit.proofs.Did.{session_at}
use Rattle.pc_implicit.proofs.Doing.{same_or_not}
use Rattle.pc_implicit.proofs.EvaluatedAt.{one_sent}
use Rattle.pc_implicit.proofs.Firsts.{first_push}
use Rattle.pc_implicit.proofs.FirstStages.{first_staged}
use Rattle.pc_implicit.proofs.Hearing.{now_is_so, sent_is_so}
use Rattle.pc_implicit.proofs.Metas.{subject_anchored}
use Rattle.pc_implicit.proofs.OneDecision.{told_committed}
use Rattle.pc_implicit.proofs.Shown.{WasAnswered}
use Rattle.pc_implicit.specs.Decided.{StaysTrue, time_of}
use Rattle.pc_implicit.specs.Stages.{WasStaged}
use Rattle.pc_lists.proofs.Each.{each-append, each-contains, each-weaker}
use Rattle.pc_lists.proofs.Lists.{contains_nil}
use Rattle.pc_proto.specs.declared.call.Call.{Call}
use Rattle.pc_proto.specs.declared.call.Call.TheVariants as calls
use Rattle.pc_proto.specs.declared.event.Event.{Event}
use Rattle.pc_proto.specs.declared.event.Event.TheVariants as events
use Rattle.pc_proto.specs.declared.meta.TxnMeta.{TxnMeta}
use Rattle.pc_proto.specs.declared.record.Standing.{Standing}
use Rattle.pc_proto.specs.declared.record.Standing.TheVariants as standings
use Rattle.pc_proto.specs.declared.reply.Reply.{Reply}
use Rattle.pc_proto.specs.declared.reply.Reply.TheVariants as replies
use Rattle.pc_proto.specs.declared.request.Request.{Request}
use Rattle.pc_proto.specs.declared.request.Request.TheVariants as requests
use Rattle.pc_proto.specs.declared.view.View.{View}
use Rattle.pc_proto.specs.declared.view.View.TheVariants as views
use Rattle.pc_proto.specs.Place.{Place, Nothing, Kept, Marked}
use Rattle.pc_proto.specs.Replies.{is_undecided_status, status_ts, view_in}
use Rattle.pc_serial.proofs.AloneRun.{acts, stands_at, tidy, who}
use Rattle.pc_serial.proofs.AloneTimes.{level, level_map, status-low}
use Rattle.pc_serial.proofs.AloneTimesOver.{RepliesLow, open-first}
use Rattle.pc_serial.proofs.AloneTimesRun.{low_at}
use Rattle.pc_serial.proofs.AloneTold.{last-is}
use Rattle.pc_serial.specs.Alone.{IsAlone, jobs_at}
use Rattle.pc_serial.specs.QuietWire.{the_session}
use Rattle.pc_serial.specs.Tidy.{IsOfOpenTxn, IsTidy}
use Rattle.pc_world.proofs.Knowing.{known_other, known_same}
use Rattle.pc_world.proofs.Prefixes.{run_front, run_induction}
use Rattle.pc_world.specs.After.{known_at, place_at}
use Rattle.pc_world.specs.Committed.{IsCommitted, commit_at, commit_by, commit_in, is_present}
use Rattle.pc_follows.specs.CallMessages.{IsPlainFor}
use Rattle.pc_world.specs.Known.{Known, known_after}
use Rattle.pc_world.specs.Known.Clock.{high_after, top_after}
use Rattle.pc_world.specs.Known.Statements.{Statement}
use Rattle.pc_world.specs.Known.Traffic.{Heard, Sent, heard_by, sent_after, sent_now_after}
use Rattle.pc_world.specs.Known.Transactions.{txn_heard, txn_sent}
use Rattle.pc_world.specs.Local.{Head, MayDo}
use Rattle.pc_world.specs.MaySend.{MaySend}
use Rattle.pc_world.specs.RangeOf.{range_of}
use Rattle.pc_world.specs.Run.{IsRun, protocol}
use Rattle.pc_world.specs.StageFate.{SentStage}
use Rattle.pc_world.specs.Tell.Data.{was_sent_now}
use Rattle.pc_world.specs.Tell.Refusal.{MayTellMoved, WasMoved, is_moved}

-- what was sent since the last call was sent
now_sent : (head : Head) (history : List (Entry Event)) → IsRun head history → (actor : ActorId) → Each (λ m. Contains (known_at head actor history).sent m) (known_at head actor history).sent_now
now_sent head = run_induction head (λ history. (actor : ActorId) → Each (λ m. Contains (known_at head actor history).sent m) (known_at head actor history).sent_now) (λ actor. tt) (λ history e run may all actor.
    let k = known_at head actor history in
    elim (same_or_not e.actor actor) [
      | inl same ↦ subst (λ (l : Known). Each (λ m. Contains l.sent m) l.sent_now) (sym (known_same head actor history e same)) (by e.event k.sent k.sent_now (all actor))
      | inr differ ↦ subst (λ (l : Known). Each (λ m. Contains l.sent m) l.sent_now) (sym (known_other head actor history e differ)) (all actor)
    ])
  where
    grown : (sent more now : List Sent) → Each (λ m. Contains sent m) now → Each (λ m. Contains (sent ++ more) m) now
    grown sent more now a = each-weaker (λ m. Contains sent m) (λ m. Contains (sent ++ more) m) (λ m there. Contains-append_left sent more m there) now a

    by : (event : Event) (sent now : List Sent) → Each (λ m. Contains sent m) now → Each (λ m. Contains (sent_after event sent) m) (sent_now_after event now)
    by (events.Ask call reading) sent now a = tt
    by (events.Send number range request) sent now a =
        let m : Sent = record { number = number; range = range; request = request } in
        each-append (λ x. Contains (sent ++ m ∷ []) x) now (m ∷ []) (grown sent (m ∷ []) now a) (Contains-push sent m, tt)
    by event sent now a = each-append (λ x. Contains (sent ++ []) x) now [] (grown sent [] now a) tt

-- where a transaction began stands
begun-along : (front back : List (Entry Event)) (id : TxnId) (begin : ℕ) → begun_at id front ≡ Some begin → begun_at id (front ++ back) ≡ Some begin
begun-along front [] id begin is = ap (begun_at id) (append-nil front) ∙ is
begun-along front (e ∷ es) id begin is =
    ap (begun_at id) (sym (append_assoc front (e ∷ []) es))
    ∙ begun-along (front ++ e ∷ []) es id begin (first_push (λ x. begun_told_in id x.event) front e ∙ ap (λ o. option_or o (begun_told_in id e.event)) is)

-- A stage goes out no lower than the last begin; so does a commit, or where its transaction is committed at its timestamp.
abbrev Passes : Head → List (Entry Event) → ℕ → Request → Type 0
Passes head history n (requests.Stage meta ts now writes locks) = n ≤ ts
Passes head history n (requests.Commit meta ts locks) = (n ≤ ts) ⊎ IsCommitted head history meta.id ts
Passes head history n request = ⊤

no-stage : (call : Call) (request : Request) → IsPlainFor call request → (meta : TxnMeta) (ts now : ℕ) (writes : List (List ℕ × ℕ)) (locks : List (List ℕ)) → request ≡ requests.Stage meta ts now writes locks → ⊥
no-stage call request is meta ts now writes locks same = by call (subst (IsPlainFor call) same is)
  where
    by : (call : Call) → IsPlainFor call (requests.Stage meta ts now writes locks) → ⊥
    by calls.Commit (inl is) = cc is
    by calls.Commit (inr is) = cc is
    by (calls.Get key) is = cc is
    by (calls.Scan span) is = cc is
    by calls.Rollback is = cc is
    by call is = is

-- a committed transaction's record or mark has its timestamp
committed-time : (head : Head) (history : List (Entry Event)) (id : TxnId) (ts : ℕ) (p : Place) → commit_in head history id p ≡ Some ts → time_of p ≡ ts
committed-time head history id ts Nothing is = absurd cc
committed-time head history id ts (Kept r) is = by r.status.standing (list_all (is_present head history id r.status.epoch r.status.ts) r.writes) is
  where
    by : (standing : Standing) (b : Bool) → commit_by standing r.status.ts b ≡ Some ts → r.status.ts ≡ ts
    by standings.Committed b is = cc
    by standings.Staging true is = cc
    by standings.Staging false is = absurd cc
    by standings.Pending b is = absurd cc
    by (standings.Aborted why) b is = absurd cc
committed-time head history id ts (Marked s) is = by s.standing is
  where
    by : (standing : Standing) → commit_by standing s.ts false ≡ Some ts → s.ts ≡ ts
    by standings.Committed is = cc
    by standings.Staging is = absurd cc
    by standings.Pending is = absurd cc
    by (standings.Aborted why) is = absurd cc

module _ (head : Head) (whole : List (Entry Event)) (run : IsRun head whole) (alone : IsAlone head whole) where
  PassNow : List (Entry Event) → Known → Type 0
  PassNow history k = (s : Statement) → k.statement ≡ Some s → (m : Sent) → Contains k.sent_now m → Passes head history (level k.txns) m.request

  passes-more : (history : List (Entry Event)) (e : Entry Event) → IsRun head history → MayFollow (protocol head) history e → (n m : ℕ) → m ≡ n → (request : Request) → Passes head history n request → Passes head (history ++ e ∷ []) m request
  passes-more history e before may n m same (requests.Stage meta ts now writes locks) is = omega (arith, same, is)
  passes-more history e before may n m same (requests.Commit meta ts locks) is = elim is [
    | inl high ↦ inl (omega (arith, same, high))
    | inr committed ↦ inr (committed_push head history e before may meta.id ts committed)
  ]
  passes-more history e before may n m same request is = tt

  module _ (history : List (Entry Event)) (before : IsRun head history) (e : Entry Event) (later : List (Entry Event)) (split : whole ≡ history ++ e ∷ later) (may : MayFollow (protocol head) history e) where
    abbrev k : Known
    k = known_at head the_session history

    -- a stage of the open transaction is no lower than its begin, also where it was sent before
    stage-high : (number range : ℕ) (meta : TxnMeta) (ts now : ℕ) (writes : List (List ℕ × ℕ)) (locks : List (List ℕ)) → MaySend head.splits the_session k number range (requests.Stage meta ts now writes locks) → IsOfOpenTxn k meta
        → level k.txns ≤ ts
    stage-high number range meta ts now writes locks sends of =
        let first = (low_at head whole run alone history before (e ∷ later) split).low.first in
        elim sends.row [
          | inl new ↦
              let f = open-first k new.t first new.opened in
              let lvl = f.0 in
              let write = f.1 in
              let at = new.at_write_ts in
              omega (arith, lvl, write, at)
          | inr again ↦
              let s : SentStage = record { meta = meta; ts = ts; now = now; writes = writes; locks = locks } in
              let (i, m, inside, there, asks) = again.before in
              let w = each-contains _ k.sent m (sent_is_so head history before the_session) (i, inside, there) in
              let staged : WasStaged history s = record { send = w.send; listed = w.listed; number = m.number; range = m.range; sends = w.sends ∙ ap (events.Send m.number m.range) asks } in
              let f = first_staged head history before s staged in
              let front = run_front head f.before (f.a ∷ f.later) (subst (IsRun head) f.whole before) in
              let there_then = open_there (session_at head meta.id f.before) f.new.t f.new.opened in
              let then = each-contains (Agrees f.before) (session_at head meta.id f.before).txns f.new.t (agreed head f.before front (actors.Session meta.id.session)).agrees there_then in
              let now_agrees = each-contains (Agrees history) k.txns of.t (agreed head history before the_session).agrees (open_there k of.t of.opened) in
              let named : f.new.t.id ≡ of.t.id = sym (ap (λ (x : TxnMeta). x.id) f.new.whose.same) ∙ of.whose in
              let along : begun_at of.t.id history ≡ Some f.new.t.begin =
              ap (begun_at of.t.id) f.whole ∙ begun-along f.before (f.a ∷ f.later) of.t.id f.new.t.begin (ap (λ i. begun_at i f.before) (sym named) ∙ then.begin) in
              let same : f.new.t.begin ≡ of.t.begin = let both : Some f.new.t.begin ≡ Some of.t.begin = sym along ∙ now_agrees.begin in cc both in
              let lvl = (open-first k of.t first of.opened).0 in
              let high = f.new.good.begun in
              omega (arith, lvl, same, high)
        ]

    new-passes : (number range : ℕ) (request : Request) → MaySend head.splits the_session k number range request → IsTidy k (jobs_at head history) (events.Send number range request) → (s : Statement) → k.statement ≡ Some s
        → Passes head history (level k.txns) request
    new-passes number range (requests.Stage meta ts now writes locks) sends tidy s is = elim tidy.calls [
      | inl calls_now ↦ absurd (elim (calls_now s is) [
        | inl for ↦ elim for.kind [
          | inl own ↦ no-stage for.s.call (requests.Stage meta ts now writes locks) own meta ts now writes locks refl
          | inr life ↦ let none = life.1 in cc none
        ]
        | inr round ↦ let none = round.1 in cc none
      ])
      | inr record_now ↦ stage-high number range meta ts now writes locks sends record_now.1
    ]
    new-passes number range (requests.Commit meta ts locks) sends tidy s is =
        let row = sends.row in
        let named : row.t.id ≡ meta.id = sym (ap (λ (x : TxnMeta). x.id) row.whose.same) in
        elim row.decided [
          | inl decides ↦ elim decides.may [
            | inl here ↦
                let f = open-first k row.t (low_at head whole run alone history before (e ∷ later) split).low.first here.0 in
                let lvl = f.0 in
                let write = f.1 in
                let at = decides.at_write_ts in
                inl (omega (arith, lvl, write, at))
            | inr told ↦
                let agrees = each-contains (Agrees history) k.txns row.t (agreed head history before the_session).agrees row.mine in
                let x = told-there row.t.id ts history (agrees.told ∙ told) in
                inr (subst (λ i. IsCommitted head history i ts) named (told_committed head history before x.0 x.1 row.t.id ts x.2))
          ]
          | inr heard ↦ inr (subst (λ i. IsCommitted head history i ts) named (decided_is_committed head history row.t.id ts (heard_decided head history before the_session row.t.id ts heard)))
        ]
    new-passes number range request sends tidy s is = tt

    over-pass : (event : Event) (g : Option Heard) (top high : ℕ) → MayDo head the_session k event → IsTidy k (jobs_at head history) event → PassNow history k → PassNow (history ++ e ∷ []) (known_after event g top high k)
    unfolding PassNow
    over-pass (events.Ask call reading) g top high acts_now tidy_now now s is m there = absurd (contains_nil m there)
    over-pass (events.Send number range request) g top high acts_now tidy_now now s is m there =
        let same = level_map (txn_sent request) (λ t. refl) k.txns in
        let m0 : Sent = record { number = number; range = range; request = request } in
        passes-more history e before may (level k.txns) (level (known_after (events.Send number range request) g top high k).txns) same m.request
        (elim (Contains-push_cases k.sent_now m0 m there) [
          | inl old ↦ now s is m old
          | inr new ↦ subst (λ (x : Sent). Passes head history (level k.txns) x.request) new (new-passes number range request acts_now tidy_now s is)
        ])
    over-pass (events.Eval sender sent told) g top high acts_now tidy_now now s is m there = absurd acts_now
    over-pass (events.Hear number step) g top high acts_now tidy_now now s is m there =
        passes-more history e before may (level k.txns) (level (known_after (events.Hear number step) g top high k).txns) (level_map (txn_heard k.sent g) (λ t. refl) k.txns) m.request
        (now s is m (subst (λ l. Contains l m) (append-nil k.sent_now) there))
    over-pass (events.Tell answer) g top high acts_now tidy_now now s is m there = absurd (cc is)
    over-pass (events.Meet id step) g top high acts_now tidy_now now s is m there =
        passes-more history e before may (level k.txns) (level k.txns) refl m.request (now s is m (subst (λ l. Contains l m) (append-nil k.sent_now) there))

  PassOn : List (Entry Event) → Type 0
  PassOn history = (later : List (Entry Event)) → whole ≡ history ++ later → PassNow history (known_at head the_session history)

  pass-on : (history : List (Entry Event)) → IsRun head history → PassOn history
  unfolding PassOn PassNow
  pass-on = run_induction head PassOn (λ later split s is m there. absurd (contains_nil m there)) (λ history e before may all later split.
      let on : whole ≡ history ++ e ∷ later = split ∙ append_assoc history (e ∷ []) later in
      let k = known_at head the_session history in
      let st = stands_at head whole run alone history before (e ∷ later) on in
      elim (who head whole run alone e.actor may.local.there) [
        | inl me ↦
            let named = named_in (protocol head) history e.event in
            subst (λ (l : Known). (s : Statement) → l.statement ≡ Some s → (m : Sent) → Contains l.sent_now m → Passes head (history ++ e ∷ []) (level l.txns) m.request) (sym (known_same head the_session history e me))
            (over-pass history before e later on may e.event (heard_by e.event named k.sent) (top_after e.event named k.top) (high_after e.event named k.high)
            (acts head whole run alone history before e later on may st me) (tidy head whole run alone history before e later on may st me) (all (e ∷ later) on))
        | inr at ↦
            let differ : e.actor ≢ the_session = λ same. let both = sym at.1 ∙ same in cc both in
            subst (λ (l : Known). (s : Statement) → l.statement ≡ Some s → (m : Sent) → Contains l.sent_now m → Passes head (history ++ e ∷ []) (level l.txns) m.request) (sym (known_other head the_session history e differ))
            (λ s is m there. passes-more history e before may (level k.txns) (level k.txns) refl m.request (all (e ∷ later) on s is m there))
      ])

  module _ (history : List (Entry Event)) (before : IsRun head history) (later : List (Entry Event)) (split : whole ≡ history ++ later) where
    abbrev kn : Known
    kn = known_at head the_session history

    passing : PassNow history kn
    unfolding PassOn
    passing = pass-on history before later split

    -- the request that was answered was sent so, in the open call
    was-sent : (h : Heard) (range : ℕ) (send : Entry Event) → Contains history send → send.actor ≡ the_session → send.event ≡ events.Send h.number range h.request → IsTrue (was_sent_now kn h)
        → (m : Sent) × Contains kn.sent_now m × (m.request ≡ h.request)
    was-sent h range send listed whose sends now =
        let a = Any-from_list_any (λ (m : Sent). m.number == h.number) kn.sent_now now in
        let m = a.1 in
        let here : Contains kn.sent_now m = (a.0, a.2, a.3) in
        let same : m.number ≡ h.number = eqb-true m.number h.number a.4 in
        let there = each-contains (λ x. Contains kn.sent x) kn.sent_now m (now_sent head history before the_session) here in
        let w = each-contains _ kn.sent m (sent_is_so head history before the_session) there in
        let sent : w.send.event ≡ events.Send h.number m.range m.request = w.sends ∙ ap (λ n. events.Send n m.range m.request) same in
        let one = one_sent head history before the_session h.number h.reply w.send send m.range range m.request h.request w.listed listed w.whose whose sent sends in
        let both : events.Send h.number m.range m.request ≡ events.Send h.number range h.request = sym sent ∙ ap (λ (x : Entry Event). x.event) one ∙ sends in
        (m, here, cc both)

    reached : (view : View) (p : Place) (ts : ℕ) → StaysTrue view p → time_of p ≡ ts → status_ts (replies.Status view) ≤ ts
    reached (views.Pending epoch at) p ts stays time = let r = stays.ts_reached in omega (arith, r, time)
    reached (views.Staging epoch at writes) p ts stays time = let r = stays.ts_reached in omega (arith, r, time)
    reached view p ts stays time = omega arith

    -- what a commit of a committed transaction shows is not past it
    shown-low : (number : ℕ) (meta : TxnMeta) (ts : ℕ) (locks : List (List ℕ)) (told : Reply) → WasAnswered head history the_session number (requests.Commit meta ts locks) told
        → IsCommitted head history meta.id ts → status_ts told ≤ ts
    shown-low number meta ts locks told w committed = by told refl
      where
        place-time : time_of (place_at head w.range meta.id history) ≡ ts
        place-time =
            let at = subject_anchored head history before w.send w.listed number w.range (requests.Commit meta ts locks) meta.id w.sends refl in
            let is : commit_in head history meta.id (place_at head (range_of head.splits at.anchor) meta.id history) ≡ Some ts = sym (ap (commit_at head history meta.id) at.anchored) ∙ committed in
            ap (λ r. time_of (place_at head r meta.id history)) at.there ∙ committed-time head history meta.id ts (place_at head (range_of head.splits at.anchor) meta.id history) is

        by : (shown : Reply) → told ≡ shown → status_ts shown ≤ ts
        by (replies.Status view) is = reached view (place_at head w.range meta.id history) ts (w.shows meta.id view refl (ap (λ r. view_in r) is)) place-time
        by shown is = omega arith

    -- no commit of the open call is moved
    pub not_moved : (s : Statement) (ts : ℕ) → kn.statement ≡ Some s → MayTellMoved kn s ts → ⊥
    unfolding PassNow
    not_moved s ts opened row =
        let l = last-is (WasMoved kn) _ kn.heard_now row.last in
        let h = l.0 in
        let parts = and_parts (was_sent_now kn h) (is_moved h.request h.reply) l.2 in
        let w = each-contains _ kn.heard_now h (now_is_so head history before the_session) l.1 in
        let m = was-sent h w.range w.send w.listed w.whose w.sends parts.0 in
        let low : RepliesLow (level kn.txns) (events.Eval the_session h.number h.reply) = subst (RepliesLow (level kn.txns)) w.told ((low_at head whole run alone history before later split).told w.eval w.evaluated) in
        let passes : Passes head history (level kn.txns) h.request = subst (Passes head history (level kn.txns)) m.2 (now-passing m.0 m.1) in
        by h.request h.reply h.number parts.1 w (status-low (level kn.txns) h.reply low) passes
      where
        now-passing : (m : Sent) → Contains kn.sent_now m → Passes head history (level kn.txns) m.request
        now-passing m there = passing s opened m there

        by : (request : Request) (told : Reply) (number : ℕ) → is_moved request told ≡ true → WasAnswered head history the_session number request told → status_ts told ≤ level kn.txns → Passes head history (level kn.txns) request → ⊥
        by (requests.Stage meta at now writes locks) told number moved w low passes =
            let past : at < status_ts told = ltb-true at (status_ts told) (and_parts (is_undecided_status told) (nat_lt at (status_ts told)) moved).1 in
            let nothing : ⊥ = omega (arith, low, passes, past) in nothing
        by (requests.Commit meta at locks) told number moved w low passes =
            let parts = and_parts (is_undecided_status told) (nat_lt at (status_ts told)) moved in
            let past : at < status_ts told = ltb-true at (status_ts told) parts.1 in
            elim passes [
              | inl high ↦ absurd (let nothing : ⊥ = omega (arith, low, high, past) in nothing)
              | inr committed ↦ let shown = shown-low number meta at locks told w committed in absurd (let nothing : ⊥ = omega (arith, shown, past) in nothing)
            ]
        by request told number moved w low passes = cc moved
