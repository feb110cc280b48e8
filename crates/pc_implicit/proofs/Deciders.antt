-- What decided that a transaction is committed.
use Rattle.std.proofs.Common.{◌≡◌, ℕ, ◌+◌, true, false, ◌⊎◌, inl, inr, List, [], ◌∷◌, ◌++◌, filter_map, slice_get, length, map, Option, None, Some, Any, Contains, IsTrue, refl, sym, ap, subst, ◌∙◌, arith, length-append}
use Rattle.std.proofs.lemmas.Bool.{and_parts}
use Rattle.std.proofs.lemmas.List.{append_assoc}
use Rattle.std.proofs.lemmas.List.Elements.{Contains-append_left, Contains-append_right}
use Rattle.std.specs.List.{cons_option}
use Rattle.std.specs.Option.{option_map_or, option_or}
use Rattle.std.specs.Prelude.{⊤}
use Rattle.pc_base.specs.declared.actor.ActorId.{ActorId}
use Rattle.pc_base.specs.declared.actor.ActorId.TheVariants as actors
use Rattle.pc_base.specs.declared.entry.Entry.{Entry}
use Rattle.pc_base.specs.declared.transaction.TxnId.{TxnId}
use Rattle.pc_history.specs.History.{MayFollow}
use Rattle.pc_implicit.proofs.Agreed.{Agrees, agreed, committed_row, open_there, owned}
use Rattle.pc_implicit.proofs.Anchored.{commit_anchored}
use Rattle.pc_implicit.proofs.CommitCalls.{IsSettled, commit-asks, settled_along}
use Rattle.pc_implicit.proofs.Did.{moved_on, session_at}
use Rattle.pc_implicit.proofs.Doing.{Does}
use Rattle.pc_implicit.proofs.EvaluatedAt.{sent_at}
use Rattle.pc_implicit.proofs.Firsts.{first_push}
use Rattle.pc_implicit.proofs.Moves.{Moves, Puts, Reads, Restarts, Stays, TellsRead, open_is_first}
use Rattle.pc_implicit.proofs.Refusals.{never_refused}
use Rattle.pc_implicit.specs.Decided.{decision}
use Rattle.pc_lists.proofs.Each.{each-contains}
use Rattle.pc_lists.proofs.Lists.{contains_head, contains_tail}
use Rattle.pc_proto.specs.declared.answer.Answer.{Answer}
use Rattle.pc_proto.specs.declared.answer.Answer.TheVariants as answers
use Rattle.pc_proto.specs.declared.call.Call.TheVariants as calls
use Rattle.pc_proto.specs.declared.event.Event.{Event}
use Rattle.pc_proto.specs.declared.event.Event.TheVariants as events
use Rattle.pc_proto.specs.declared.meta.TxnMeta.{TxnMeta}
use Rattle.pc_proto.specs.declared.record.Standing.TheVariants as standings
use Rattle.pc_proto.specs.declared.request.Request.{Request}
use Rattle.pc_proto.specs.declared.request.Request.TheVariants as requests
use Rattle.pc_proto.specs.Replies.{view_in}
use Rattle.pc_proto.specs.Requests.{is_about, subject}
use Rattle.pc_proto.specs.Views.{is_staging_at}
use Rattle.pc_world.proofs.Knowing.{known_same}
use Rattle.pc_world.proofs.Prefixes.{run_front, run_may}
use Rattle.pc_world.specs.After.{known_at, place_at}
use Rattle.pc_world.specs.Committed.{IsCommitted, anchor_in, commit_at, commit_point, commit_ts, committed_in, key_sent, told_at}
use Rattle.pc_world.specs.Known.{Known, call_in, call_of, open_txn}
use Rattle.pc_world.specs.Known.Statements.{is_open_after, is_open_told}
use Rattle.pc_world.specs.Known.Transactions.{IsGood, Txn}
use Rattle.pc_world.specs.Local.{Head}
use Rattle.pc_world.specs.Operations.{Operation, Read, ReadAll, Write, operations_of}
use Rattle.pc_world.specs.Run.{IsRun, protocol}
use Rattle.pc_world.specs.Send.Commit.{MayCommit, MayDecide, MaySendCommit}
use Rattle.pc_world.specs.StageFate.{IsUncommitted}
use Rattle.pc_world.specs.Tell.End.{IsImplicit, IsUnwritten}
use Rattle.pc_world.specs.Views.{WasCommitted}
use Rattle.pc_implicit.proofs.Because.{because}
use Rattle.pc_implicit.proofs.CommitPoint.{ByCommit, ByRecovery, DecidesNow, decides_how}
use Rattle.pc_implicit.proofs.Commits.{act_of}
use Rattle.pc_implicit.proofs.CommitsSent.{decided_or_not}
use Rattle.pc_implicit.proofs.FirstStages.{dead_along, first_staged}
use Rattle.pc_implicit.proofs.CommitsStay.{commits_stay}
use Rattle.pc_implicit.proofs.Recovered.{recoveries_agree}
use Rattle.pc_implicit.proofs.OneDecision.{told_committed}
use Rattle.pc_implicit.proofs.HeardViews.{heard_decides, so_of}
use Rattle.pc_implicit.proofs.Homes.{home_along, home_commits, home_is, home_on}
use Rattle.pc_implicit.proofs.Metas.{subject_anchored}
use Rattle.pc_implicit.proofs.NeverDead.{never_dead}
use Rattle.pc_implicit.proofs.Points.{or-first, point_of, told-what}
use Rattle.pc_implicit.proofs.Settled.{answers-commit}
use Rattle.pc_implicit.proofs.SessionCommits.{BySend, ByStage, ByTell, Decides, IsDecidedBy, IsStill, written}
use Rattle.pc_implicit.proofs.StagesKnown.{stage_of}
use Rattle.pc_implicit.proofs.StagesSent.{has_sent_stage}
use Rattle.pc_implicit.proofs.StageWords.{ByDecision, ByStaging, ByTelling, CommitsBy}
use Rattle.pc_implicit.proofs.Views.{subject-is}
use Rattle.pc_implicit.specs.Stages.{WasStaged}
use Rattle.pc_implicit.specs.Writes.{home_of, place_under}
use Rattle.pc_proto.specs.RecordRows.Reached.{status_of}
use Rattle.pc_proto.specs.Place.{Nothing}
use Rattle.pc_world.specs.StageFate.{IsDead, SentStage, stage_request}
use Rattle.pc_world.specs.Tell.End.{shows_staging}

pub told-there : (id : TxnId) (ts : ℕ) (history : List (Entry Event)) → told_at id history ≡ Some ts → (x : Entry Event) × Contains history x × (x.event ≡ events.Tell (answers.Committed id ts))
told-there id ts [] h = absurd cc
told-there id ts (e ∷ es) h = by (committed_in id e.event) refl h (told-there id ts es)
  where
    by : (o : Option ℕ) → committed_in id e.event ≡ o → slice_get (cons_option o (filter_map (λ x. committed_in id x.event) es)) 0 ≡ Some ts
        → (told_at id es ≡ Some ts → (x : Entry Event) × Contains es x × (x.event ≡ events.Tell (answers.Committed id ts)))
        → (x : Entry Event) × Contains (e ∷ es) x × (x.event ≡ events.Tell (answers.Committed id ts))
    by (Some at) is h rest = let same : at ≡ ts = cc h in (e, contains_head e es, told-what id ts e.event (is ∙ ap Some same))
    by None is h rest = let r = rest h in (r.0, contains_tail e es r.0 r.1, r.2)

-- A run, and the entry after which the transaction is committed.
module _ (head : Head) (front : List (Entry Event)) (e : Entry Event) (back : List (Entry Event)) (run : IsRun head (front ++ e ∷ back))
    (id : TxnId) (ts : ℕ) (none : commit_ts head front id ≡ None) (now : IsCommitted head (front ++ e ∷ []) id ts) where
  run-front : IsRun head front
  run-front = run_front head front (e ∷ back) run

  may-now : MayFollow (protocol head) front e
  may-now = run_may head front e back run

  joined : (front ++ e ∷ []) ++ back ≡ front ++ e ∷ back
  joined = append_assoc front (e ∷ []) back

  run-now : IsRun head (front ++ e ∷ [])
  unfolding joined
  run-now = run_front head (front ++ e ∷ []) back (subst (IsRun head) (sym joined) run)

  -- it was not committed earlier
  not-earlier : (early more : List (Entry Event)) → front ≡ early ++ more → (at : ℕ) → IsCommitted head early id at → ⊥
  unfolding run-front
  not-earlier early more whole at is =
      let stays : IsCommitted head (early ++ more) id at = (commits_stay head early more id at (subst (IsRun head) whole run-front) is).0 in
      let both : None ≡ Some at = sym none ∙ ap (λ h. commit_ts head h id) whole ∙ stays in
      cc both

  -- An entry of the session, in an open commit, after which it never knows the transaction to be uncommitted.
  record IsDecisive : Type 0 where
    before : List (Entry Event)
    a : Entry Event
    later : List (Entry Event)
    whole : front ++ e ∷ [] ≡ before ++ a ∷ later
    number : ℕ
    range : ℕ
    request : Request
    sends : a.event ≡ events.Send number range request
    t : Txn
    named : t.id ≡ id
    whose : a.actor ≡ actors.Session t.id.session
    opened : open_txn (session_at head t.id before) ≡ Some t
    call : call_of (session_at head t.id before) ≡ Some calls.Commit
    good : IsGood (session_at head t.id before).heard t ts
    decides : Decides (session_at head t.id before) t ts a
    never : (h rest : List (Entry Event)) → h ++ rest ≡ front ++ e ∷ back → Contains h a → IsUncommitted t.id (session_at head t.id h).sent (session_at head t.id h).heard → ⊥

  -- ---- nothing more is done

  module _ (s : IsDecisive) where
    whole-last : s.before ++ s.a ∷ (s.later ++ back) ≡ front ++ e ∷ back
    unfolding joined
    whole-last = sym (append_assoc s.before (s.a ∷ s.later) back) ∙ ap (λ h. h ++ back) (sym s.whole) ∙ joined

    begins-still : IsSettled head s.before s.t ⊤ s.before
    begins-still =
        let first = open_is_first (session_at head s.t.id s.before) s.t s.opened in
        record {
          still = record { now = s.t; mine = open_there (session_at head s.t.id s.before) s.t s.opened; named = refl; epoch = refl; reads = refl; writes = refl; operations = refl };
          mode = inl (record { first = first.0; is_open = first.1; call = s.call }, tt);
        }

    module _ (since rest : List (Entry Event)) (whole : s.later ++ back ≡ since ++ rest) where
      split-last : (s.before ++ s.a ∷ since) ++ rest ≡ front ++ e ∷ back
      unfolding whole-last
      split-last = append_assoc s.before (s.a ∷ since) rest ∙ ap (λ l. s.before ++ s.a ∷ l) (sym whole) ∙ whole-last

      never-told : (middle : List (Entry Event)) (x : Entry Event) (others : List (Entry Event)) → s.a ∷ since ≡ middle ++ x ∷ others → ⊤ → (answer : Answer) → x.event ≡ events.Tell answer → is_open_told answer true ≡ true
          → IsUncommitted s.t.id (session_at head s.t.id (s.before ++ middle)).sent (session_at head s.t.id (s.before ++ middle)).heard → ⊥
      unfolding split-last
      never-told [] x others is p answer told stays uncommitted =
          let same : s.a ≡ x = cc is in
          let both : events.Send s.number s.range s.request ≡ events.Tell answer = sym s.sends ∙ ap (λ (y : Entry Event). y.event) same ∙ told in
          cc both
      never-told (y ∷ middle) x others is p answer told stays uncommitted =
          let same : s.a ≡ y = cc is in
          let there : Contains (s.before ++ y ∷ middle) s.a =
          Contains-append_right s.before (y ∷ middle) s.a (subst (λ z. Contains (z ∷ middle) s.a) same (contains_head s.a middle)) in
          let all : (s.before ++ y ∷ middle) ++ (x ∷ others ++ rest) ≡ front ++ e ∷ back =
          sym (append_assoc (s.before ++ y ∷ middle) (x ∷ others) rest) ∙ ap (λ h. h ++ rest) (append_assoc s.before (y ∷ middle) (x ∷ others) ∙ ap (λ l. s.before ++ l) (sym is)) ∙ split-last in
          s.never (s.before ++ y ∷ middle) (x ∷ others ++ rest) all there uncommitted

      still-since : IsStill head s.before (s.before ++ s.a ∷ since) s.t
      unfolding split-last
      still-since =
          (settled_along head s.before s.t ⊤ s.before (s.a ∷ since) (run_front head (s.before ++ s.a ∷ since) rest (subst (IsRun head) (sym split-last) run)) never-told begins-still).still

    decided-by : commit_point head (front ++ e ∷ back) id ≡ length front + 1 → IsDecidedBy head (front ++ e ∷ back) id ts
    unfolding whole-last
    decided-by point =
        let actor : actors.Session s.t.id.session ≡ actors.Session id.session = ap (λ (i : TxnId). actors.Session i.session) s.named in
        let here : length (front ++ e ∷ []) ≡ length front + 1 = length-append front (e ∷ []) in
        let longer : length (front ++ e ∷ []) ≡ length s.before + length (s.a ∷ s.later) = ap length s.whole ∙ length-append s.before (s.a ∷ s.later) in
        record {
          before = s.before;
          e = s.a;
          later = s.later ++ back;
          whole = sym whole-last;
          whose = s.whose ∙ actor;
          t = s.t;
          named = s.named;
          opened = subst (λ w. open_txn (known_at head w s.before) ≡ Some s.t) actor s.opened;
          in_commit = subst (λ w. call_of (known_at head w s.before) ≡ Some calls.Commit) actor s.call;
          good = subst (λ w. IsGood (known_at head w s.before).heard s.t ts) actor s.good;
          decides = subst (λ w. Decides (known_at head w s.before) s.t ts s.a) actor s.decides;
          early = omega (arith, here, longer, point);
          still = λ since f. still-since since f.rest f.whole;
        }

  -- ---- by a commit

  -- the entry evaluates the commit that decided
  commit-decides : (epoch : ℕ) → decision (home_of head id (front ++ e ∷ [])) ≡ Some (status_of standings.Committed epoch ts) → DecidesNow head front e id epoch ts
  unfolding run-front may-now joined
  commit-decides epoch decided =
      elim (decided_or_not (home_of head id front)) [
        | inl before ↦
            let both : Some before.0 ≡ Some (status_of standings.Committed epoch ts) = sym ((home_on head id front e).decided before.0 before.1) ∙ decided in
            let early : IsCommitted head front id ts = home_commits head id front epoch ts (before.1 ∙ both) in
            absurd (let no_more : None ≡ Some ts = sym none ∙ early in cc no_more)
        | inr open_yet ↦ elim (decides_how head front run-front e may-now id epoch ts open_yet decided) [
          | ByCommit n ↦ n
          | ByRecovery r ↦
              let early = recoveries_agree head front e back id ts run (answers-commit head front run-front e may-now id epoch ts open_yet r) in
              absurd (let no_more : None ≡ Some ts = sym none ∙ early in cc no_more)
        ]
      ]

  module _ (epoch : ℕ) (decided : decision (home_of head id (front ++ e ∷ [])) ≡ Some (status_of standings.Committed epoch ts)) (n : DecidesNow head front e id epoch ts) where
    sends-commit : n.ev.send.event ≡ events.Send n.number n.ev.range (requests.Commit n.meta ts n.locks)
    sends-commit = n.ev.sends ∙ ap (events.Send n.number n.ev.range) n.asks

    -- the commit's range has it committed in the end
    decided-last : (h rest : List (Entry Event)) → h ++ rest ≡ front ++ e ∷ back → Contains h n.ev.send → decision (place_at head n.ev.range n.meta.id (h ++ rest)) ≡ Some (status_of standings.Committed n.meta.epoch ts)
    unfolding sends-commit joined
    decided-last h rest whole there =
        let all : IsRun head (h ++ rest) = subst (IsRun head) (sym whole) run in
        let a = subject_anchored head (h ++ rest) all n.ev.send (Contains-append_left h rest n.ev.send there) n.number n.ev.range (requests.Commit n.meta ts n.locks) n.meta.id sends-commit refl in
        let home : home_of head n.meta.id (h ++ rest) ≡ place_at head n.ev.range n.meta.id (h ++ rest) = home_is head n.meta.id (h ++ rest) a.anchor a.anchored ∙ ap (λ r. place_at head r n.meta.id (h ++ rest)) (sym a.there) in
        ap decision (sym home) ∙ ap (λ i. decision (home_of head i (h ++ rest))) n.whose ∙ ap (λ x. decision (home_of head id x)) (whole ∙ sym joined)
        ∙ (home_along head id (front ++ e ∷ []) back).decided (status_of standings.Committed epoch ts) decided ∙ ap (λ m. Some (status_of standings.Committed m ts)) (sym n.epoch_is)

    module _ (before later : List (Entry Event)) (whole : front ≡ before ++ n.ev.send ∷ later) where
      run-sent : IsRun head before
      unfolding run-front
      run-sent = run_front head before (n.ev.send ∷ later) (subst (IsRun head) whole run-front)

      -- what its session knew was not that it is committed
      not-heard : (actor : ActorId) (t : Txn) → t.id ≡ id → (MayDecide (known_at head actor before) t ts) ⊎ WasCommitted (known_at head actor before).heard t.id ts → MayDecide (known_at head actor before) t ts
      unfolding run-sent
      not-heard actor t named why = elim why [
        | inl decides ↦ decides
        | inr heard ↦
            let d = heard_decides head before run-sent actor t.id ts heard in
            absurd (not-earlier before (n.ev.send ∷ later) whole ts (subst (λ i. IsCommitted head before i ts) named (home_commits head t.id before d.0 ts d.1)))
      ]

      not-told : (actor : ActorId) (t : Txn) → t.id ≡ id → Contains (known_at head actor before).txns t → MayCommit (known_at head actor before) t ts → (open_txn (known_at head actor before) ≡ Some t) × (call_of (known_at head actor before) ≡ Some calls.Commit)
      unfolding run-sent
      not-told actor t named mine may = elim may [
        | inl open_now ↦ open_now
        | inr told ↦
            let agrees : Agrees before t = each-contains (Agrees before) (known_at head actor before).txns t (agreed head before run-sent actor).agrees mine in
            let x = told-there t.id ts before (agrees.told ∙ told) in
            let is = told_committed head before run-sent x.0 x.1 t.id ts x.2 in
            absurd (not-earlier before (n.ev.send ∷ later) whole ts (subst (λ i. IsCommitted head before i ts) named is))
      ]

    by-commit : IsDecisive
    unfolding run-front sends-commit
    by-commit =
        let s = sent_at head front run-front n.ev.send n.ev.listed in
        let a = n.ev.send in
        let may : Does head a.actor (known_at head a.actor s.before) (events.Send n.number n.ev.range (requests.Commit n.meta ts n.locks)) = subst (Does head a.actor (known_at head a.actor s.before)) sends-commit s.does in
        let row : MaySendCommit (known_at head a.actor s.before) (record { meta = n.meta; ts = ts; locks = n.locks }) = may.row in
        let same : n.meta.id ≡ row.t.id = ap (λ (x : TxnMeta). x.id) row.whose.same in
        let named : row.t.id ≡ id = sym same ∙ n.whose in
        let own = (commit_anchored head front run-front a n.ev.listed n.number n.ev.range n.meta ts n.locks sends-commit).whose in
        let whose : a.actor ≡ actors.Session row.t.id.session = own ∙ ap (λ (i : TxnId). actors.Session i.session) same in
        let decides = not-heard s.before s.later s.whole a.actor row.t named row.decided in
        let open_now = not-told s.before s.later s.whole a.actor row.t named row.mine decides.may in
        let mine : MayDecide (session_at head row.t.id s.before) row.t ts = subst (λ w. MayDecide (known_at head w s.before) row.t ts) whose decides in
        record {
          before = s.before;
          a = a;
          later = s.later ++ e ∷ [];
          whole = ap (λ h. h ++ e ∷ []) s.whole ∙ append_assoc s.before (a ∷ s.later) (e ∷ []);
          number = n.number;
          range = n.ev.range;
          request = requests.Commit n.meta ts n.locks;
          sends = sends-commit;
          t = row.t;
          named = named;
          whose = whose;
          opened = subst (λ w. open_txn (known_at head w s.before) ≡ Some row.t) whose open_now.0;
          call = subst (λ w. call_of (known_at head w s.before) ≡ Some calls.Commit) whose open_now.1;
          good = mine.good;
          decides = BySend (record { number = n.number; range = n.ev.range; meta = n.meta; locks = n.locks; sends = sends-commit; whose = row.whose; decides = mine; proved = mine.proved });
          never = λ h rest is there uncommitted.
              never_refused head h rest (subst (IsRun head) (sym is) run) a there n.number n.ev.range n.meta ts n.locks sends-commit (decided-last h rest is there)
              (subst (λ w. IsUncommitted n.meta.id (known_at head w h).sent (known_at head w h).heard) (sym own)
              (subst (λ i. IsUncommitted i (session_at head i h).sent (session_at head i h).heard) (sym same) uncommitted));
        }

  -- ---- by a stage

  module _ (s : SentStage) (c : CommitsBy head (front ++ e ∷ []) s) (whose : s.meta.id ≡ id) (at : s.ts ≡ ts) where
    by-stage : IsDecisive
    unfolding run-now joined
    by-stage =
        let f = first_staged head (front ++ e ∷ []) run-now s c.sent in
        let new = f.new in
        let same : s.meta.id ≡ new.t.id = ap (λ (x : TxnMeta). x.id) new.whose.same in
        let actor : actors.Session s.meta.id.session ≡ actors.Session new.t.id.session = ap (λ (i : TxnId). actors.Session i.session) same in
        record {
          before = f.before;
          a = f.a;
          later = f.later;
          whole = f.whole;
          number = f.number;
          range = f.range;
          request = stage_request s;
          sends = f.sends;
          t = new.t;
          named = sym same ∙ whose;
          whose = f.whose ∙ actor;
          opened = subst (λ w. open_txn (known_at head w f.before) ≡ Some new.t) actor new.opened;
          call = subst (λ w. call_of (known_at head w f.before) ≡ Some calls.Commit) actor new.asked;
          good = subst (λ w. IsGood (known_at head w f.before).heard new.t ts) actor (subst (IsGood (session_at head s.meta.id f.before).heard new.t) at new.good);
          decides = subst (λ w. Decides (known_at head w f.before) new.t ts f.a) actor (ByStage (record { number = f.number; range = f.range; stage = s; sends = f.sends; new = new; own = refl; at = at }));
          never = λ h rest is there uncommitted.
              let run_h : IsRun head h = run_front head h rest (subst (IsRun head) (sym is) run) in
              let sent : WasStaged h s = record { send = f.a; listed = there; number = f.number; range = f.range; sends = f.sends } in
              let own : IsUncommitted s.meta.id (session_at head s.meta.id h).sent (session_at head s.meta.id h).heard = subst (λ i. IsUncommitted i (session_at head i h).sent (session_at head i h).heard) (sym same) uncommitted in
              let dead : IsDead (session_at head s.meta.id h).heard s = stage_of s.meta.id (IsDead (session_at head s.meta.id h).heard) (session_at head s.meta.id h).sent own.stages s refl (has_sent_stage head h run_h s sent) in
              let dead_last : IsDead (session_at head s.meta.id ((front ++ e ∷ []) ++ back)).heard s =
              subst (λ x. IsDead (session_at head s.meta.id x).heard s) (is ∙ sym joined) (dead_along head (actors.Session s.meta.id.session) h rest s dead) in
              never_dead head (front ++ e ∷ []) back (subst (IsRun head) (sym joined) run) s c dead_last;
        }

  -- ---- where it was told, with nothing put

  module _ (unanchored : anchor_in id (front ++ e ∷ []) ≡ None) (told : told_at id (front ++ e ∷ []) ≡ Some ts) where
    no-anchor : anchor_in id front ≡ None
    no-anchor = or-first (anchor_in id front) (key_sent id e.event) (sym (first_push (λ x. key_sent id x.event) front e) ∙ unanchored)

    no-home : home_of head id front ≡ Nothing
    no-home = ap (place_under head id front) no-anchor

    -- nobody heard of a record of it
    none-staged : (actor : ActorId) (t : Txn) → t.id ≡ id → Any (λ h. IsTrue (shows_staging t.id t.epoch ts h)) (known_at head actor front).heard → ⊥
    none-staged actor t named (n, h, inside, at, shows) =
        let so = so_of head front run-front actor h (n, inside, at) in
        let parts = and_parts (is_about t.id h.request) (option_map_or (is_staging_at t.epoch ts) (view_in h.reply) false) shows in
        let a = subject_anchored head front run-front so.send so.listed h.number so.range h.request t.id so.sends (subject-is t.id (subject h.request) parts.0) in
        let both : None ≡ Some a.anchor = sym no-anchor ∙ ap (λ i. anchor_in i front) (sym named) ∙ a.anchored in cc both

    tells : e.event ≡ events.Tell (answers.Committed id ts)
    tells =
        let untold : told_at id front ≡ None = sym (ap (commit_at head front id) no-anchor) ∙ none in
        told-what id ts e.event (sym (first_push (λ x. committed_in id x.event) front e ∙ ap (λ o. option_or o (committed_in id e.event)) untold) ∙ told)

    act-told : Does head e.actor (known_at head e.actor front) (events.Tell (answers.Committed id ts))
    act-told = subst (Does head e.actor (known_at head e.actor front)) tells (act_of head front e may-now)

    -- The telling is of the open transaction, which has put nothing.
    record IsTold : Type 0 where
      t : Txn
      named : t.id ≡ id
      whose : e.actor ≡ actors.Session t.id.session
      opened : open_txn (session_at head t.id front) ≡ Some t
      call : call_of (session_at head t.id front) ≡ Some calls.Commit
      unwritten : IsUnwritten (session_at head t.id front) t ts

    is-unwritten : (actor : ActorId) (t : Txn) → t.id ≡ id → IsUnwritten (known_at head actor front) t ts ⊎ (WasCommitted (known_at head actor front).heard t.id ts ⊎ IsImplicit (known_at head actor front) t ts) → IsUnwritten (known_at head actor front) t ts
    is-unwritten actor t named why = elim why [
      | inl unwritten ↦ unwritten
      | inr other ↦ elim other [
        | inl heard ↦
            let d = heard_decides head front run-front actor t.id ts heard in
            absurd (let both : None ≡ Some (status_of standings.Committed d.0 ts) = sym (ap decision no-home) ∙ ap (λ i. decision (home_of head i front)) (sym named) ∙ d.1 in cc both)
        | inr implicit ↦ absurd (none-staged actor t named implicit.staging)
      ]
    ]

    is-told : IsTold
    is-told =
        let k = known_at head e.actor front in
        let row = committed_row head e.actor k id ts act-told in
        let named : row.t.id ≡ id = sym row.whose in
        let whose : e.actor ≡ actors.Session row.t.id.session = (owned e.actor (k.begun + 1) k.txns row.t (agreed head front run-front e.actor).numbered (open_there k row.t row.opened)).0 in
        let call : call_of k ≡ Some calls.Commit = ap call_in act-told.opened ∙ ap Some row.asked in
        record {
          t = row.t;
          named = named;
          whose = whose;
          opened = subst (λ w. open_txn (known_at head w front) ≡ Some row.t) whose row.opened;
          call = subst (λ w. call_of (known_at head w front) ≡ Some calls.Commit) whose call;
          unwritten = subst (λ w. IsUnwritten (known_at head w front) row.t ts) whose (is-unwritten e.actor row.t named row.why);
        }

    module _ (s : IsTold) where
      told-still : (u : Txn) (done after : List Operation) → Moves (session_at head s.t.id front) e.event s.t u done after → (u.epoch ≡ s.t.epoch) × (u.reads ≡ s.t.reads) × (map written u.writes ≡ map written s.t.writes) × (after ≡ done)
      told-still u done after (Stays epoch reads writes is) = (epoch, reads, writes, is)
      told-still u done after (Puts key seq value opened asked epoch reads writes is next) = absurd (commit-asks (call_of (session_at head s.t.id front)) s.call key value asked)
      told-still u done after (Reads answer o opened says tells_read epoch reads writes is) =
          let same : answers.Committed id ts ≡ answer = let both : events.Tell (answers.Committed id ts) ≡ events.Tell answer = sym tells ∙ says in cc both in
          absurd (no-read o (subst (λ a. TellsRead a (call_of (session_at head s.t.id front)) o) (sym same) tells_read))
        where
          no-read : (o : Operation) → TellsRead (answers.Committed id ts) (call_of (session_at head s.t.id front)) o → ⊥
          no-read (Read key value) h = h
          no-read (ReadAll span rows) h = h
          no-read (Write key seq value) h = h
      told-still u done after (Restarts key at opened says epoch reads writes is) =
          let both : events.Tell (answers.Committed id ts) ≡ events.Tell (answers.Restart key at) = sym tells ∙ says in absurd (cc both)

      ends-still : IsSettled head front s.t ⊥ (front ++ e ∷ [])
      ends-still =
          let m = moved_on head front e run-front may-now s.t.id s.t (open_there (session_at head s.t.id front) s.t s.opened) refl in
          let same = told-still m.u (operations_of front s.t.id) (operations_of (front ++ e ∷ []) s.t.id) m.moves in
          let is_open : (session_at head s.t.id (front ++ e ∷ [])).is_open ≡ false =
          ap (λ (x : Known). x.is_open) (known_same head (actors.Session s.t.id.session) front e s.whose) ∙ ap (λ event. is_open_after event (session_at head s.t.id front).is_open) tells in
          record {
            still = record { now = m.u; mine = m.there; named = m.named; epoch = same.0; reads = same.1; writes = same.2; operations = same.3 };
            mode = inr (λ first opened. let both : true ≡ false = sym opened ∙ is_open in cc both);
          }

      told-since : (since rest : List (Entry Event)) → back ≡ since ++ rest → IsStill head front (front ++ e ∷ since) s.t
      told-since since rest whole =
          let all : ((front ++ e ∷ []) ++ since) ++ rest ≡ front ++ e ∷ back =
          append_assoc (front ++ e ∷ []) since rest ∙ ap (λ l. (front ++ e ∷ []) ++ l) (sym whole) ∙ append_assoc front (e ∷ []) back in
          subst (λ h. IsStill head front h s.t) (append_assoc front (e ∷ []) since)
          (settled_along head front s.t ⊥ (front ++ e ∷ []) since (run_front head ((front ++ e ∷ []) ++ since) rest (subst (IsRun head) (sym all) run))
          (λ middle x others is p answer says stays uncommitted. p) ends-still).still

      decided-told : commit_point head (front ++ e ∷ back) id ≡ length front + 1 → IsDecidedBy head (front ++ e ∷ back) id ts
      decided-told point =
          let actor : actors.Session s.t.id.session ≡ actors.Session id.session = ap (λ (i : TxnId). actors.Session i.session) s.named in
          record {
            before = front;
            e = e;
            later = back;
            whole = refl;
            whose = s.whose ∙ actor;
            t = s.t;
            named = s.named;
            opened = subst (λ w. open_txn (known_at head w front) ≡ Some s.t) actor s.opened;
            in_commit = subst (λ w. call_of (known_at head w front) ≡ Some calls.Commit) actor s.call;
            good = subst (λ w. IsGood (known_at head w front).heard s.t ts) actor s.unwritten.good;
            decides = ByTell (record { tells = tells ∙ ap (λ i. events.Tell (answers.Committed i ts)) (sym s.named); no_put = s.unwritten.no_put; at_begin = s.unwritten.at_begin });
            early = omega (arith, point);
            still = λ since f. told-since since f.rest f.whole;
          }

-- what decided that a transaction is committed
pub decided_by : (head : Head) (history : List (Entry Event)) → IsRun head history → (id : TxnId) (ts : ℕ) → IsCommitted head history id ts → IsDecidedBy head history id ts
decided_by head history run id ts is =
    let p = point_of head id history ts is in
    let split : IsRun head (p.front ++ p.e ∷ p.back) = subst (IsRun head) (sym p.whole) run in
    let joined : (p.front ++ p.e ∷ []) ++ p.back ≡ p.front ++ p.e ∷ p.back = append_assoc p.front (p.e ∷ []) p.back in
    let run_joined : IsRun head ((p.front ++ p.e ∷ []) ++ p.back) = subst (IsRun head) (sym joined) split in
    let last : IsCommitted head ((p.front ++ p.e ∷ []) ++ p.back) id p.ts = (commits_stay head (p.front ++ p.e ∷ []) p.back id p.ts run_joined p.now).0 in
    let both : Some p.ts ≡ Some ts = sym last ∙ ap (λ h. commit_ts head h id) (joined ∙ p.whole) ∙ is in
    let same : p.ts ≡ ts = cc both in
    let now : IsCommitted head (p.front ++ p.e ∷ []) id ts = subst (IsCommitted head (p.front ++ p.e ∷ []) id) same p.now in
    let run_now : IsRun head (p.front ++ p.e ∷ []) = run_front head (p.front ++ p.e ∷ []) p.back run_joined in
    let point : commit_point head (p.front ++ p.e ∷ p.back) id ≡ length p.front + 1 = ap (λ h. commit_point head h id) p.whole ∙ p.at in
    subst (λ h. IsDecidedBy head h id ts) p.whole
    (elim (because head (p.front ++ p.e ∷ []) run_now id ts now) [
      | ByDecision epoch decided ↦
          decided-by head p.front p.e p.back split id ts p.before now
          (by-commit head p.front p.e p.back split id ts p.before now epoch decided (commit-decides head p.front p.e p.back split id ts p.before now epoch decided)) point
      | ByStaging s c whose at ↦ decided-by head p.front p.e p.back split id ts p.before now (by-stage head p.front p.e p.back split id ts p.before now s c whose at) point
      | ByTelling none told ↦
          decided-told head p.front p.e p.back split id ts p.before now none told (is-told head p.front p.e p.back split id ts p.before now none told) point
    ])
