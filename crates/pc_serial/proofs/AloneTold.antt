-- One session alone pushes nobody and recovers nobody, so it is never told that it is blocked, and that it was aborted only in a rollback, by which
-- it aborted itself.
use Rattle.std.proofs.Common.{◌≡◌, ℕ, ◌+◌, true, false, List, [], ◌∷◌, ◌++◌, inl, inr, Option, None, Some, IfSome, Any, Contains, IsTrue, refl, sym, ap, subst, ◌∙◌, append_assoc, ◌≤◌, arith}
use Rattle.std.proofs.lemmas.Bool.{and_parts, eqb-true}
use Rattle.std.proofs.lemmas.List.Elements.{All-contains_itself, Contains-append_left, Contains-push, Contains-push_cases, recursion_from_All}
use Rattle.std.specs.Option.{option_map_or}
use Rattle.pc_base.specs.declared.actor.ActorId.{ActorId}
use Rattle.pc_base.specs.declared.actor.ActorId.TheVariants as actors
use Rattle.pc_base.specs.declared.entry.Entry.{Entry}
use Rattle.pc_base.specs.declared.transaction.TxnId.{TxnId}
use Rattle.pc_history.specs.History.{MayFollow}
use Rattle.pc_history.specs.Own.{named_in}
use Rattle.pc_implicit.proofs.AbortCauses.{aborts_have_causes}
use Rattle.pc_implicit.proofs.AbortsSent.{given_up}
use Rattle.pc_implicit.proofs.Agreed.{agreed, open_there, owned}
use Rattle.pc_implicit.proofs.Commits.{act_of}
use Rattle.pc_implicit.proofs.Did.{session_at}
use Rattle.pc_implicit.proofs.Doing.{Does, same_or_not}
use Rattle.pc_implicit.proofs.Evals.{range_evaluates}
use Rattle.pc_implicit.proofs.Fronts.{split_there}
use Rattle.pc_implicit.proofs.Hearing.{heard_is_so, now_is_so}
use Rattle.pc_implicit.proofs.Moves.{is_first, open_is_first}
use Rattle.pc_implicit.proofs.Outcomes.{outcomes_are_true}
use Rattle.pc_implicit.proofs.StagesKnown.{HasSent}
use Rattle.pc_implicit.specs.Causes.{IsCauseAt, IsGivenUpBy}
use Rattle.pc_implicit.specs.Outcomes.{IsAbortedFor}
use Rattle.pc_lists.proofs.Each.{each-contains, each-find}
use Rattle.pc_lists.proofs.Lists.{contains_head, contains_nil, contains_tail}
use Rattle.pc_proto.specs.declared.answer.Answer.TheVariants as answers
use Rattle.pc_proto.specs.declared.call.Call.TheVariants as calls
use Rattle.pc_proto.specs.declared.event.Event.{Event}
use Rattle.pc_proto.specs.declared.event.Event.TheVariants as events
use Rattle.pc_proto.specs.declared.fate.Finding.{Finding}
use Rattle.pc_proto.specs.declared.fate.Goal.{Goal}
use Rattle.pc_proto.specs.declared.meta.TxnMeta.{TxnMeta}
use Rattle.pc_proto.specs.declared.reply.Reply.{Reply}
use Rattle.pc_proto.specs.declared.reply.Reply.TheVariants as replies
use Rattle.pc_proto.specs.declared.request.Request.{Request}
use Rattle.pc_proto.specs.declared.request.Request.TheVariants as requests
use Rattle.pc_proto.specs.declared.view.View.{View}
use Rattle.pc_proto.specs.declared.view.View.TheVariants as views
use Rattle.pc_proto.specs.declared.why.Why.{Why}
use Rattle.pc_proto.specs.declared.why.Why.TheVariants as whys
use Rattle.pc_proto.specs.Replies.{ConflictsWith, is_conflict, is_refused, view_in}
use Rattle.pc_proto.specs.Requests.{is_about, is_push_of}
use Rattle.pc_proto.specs.Stamps.{reply_stamps}
use Rattle.pc_proto.specs.Views.{is_committed_at}
use Rattle.pc_serial.proofs.AloneRun.{meets_nothing, who}
use Rattle.pc_serial.proofs.AloneStanding.{MeetsNone, contains_split}
use Rattle.pc_serial.proofs.AloneTimes.{viewed-low}
use Rattle.pc_serial.specs.Alone.{IsAlone}
use Rattle.pc_serial.specs.QuietWire.{the_session}
use Rattle.pc_world.proofs.Knowing.{known_other, known_same}
use Rattle.pc_world.proofs.Prefixes.{run_front, run_induction, run_may}
use Rattle.pc_world.proofs.Stamps.Within.{AtMost}
use Rattle.pc_world.specs.After.{known_at}
use Rattle.pc_world.specs.Counting.{LastIs}
use Rattle.pc_world.specs.Known.{Known, call_of, open_txn}
use Rattle.pc_world.specs.Known.Traffic.{Heard, Sent, sent_by}
use Rattle.pc_world.specs.Known.Transactions.{Txn}
use Rattle.pc_world.specs.Local.{Head}
use Rattle.pc_world.specs.MaySend.{MaySend}
use Rattle.pc_world.specs.Named.{names, request_in, request_named}
use Rattle.pc_world.specs.Run.{IsRun, protocol}
use Rattle.pc_world.specs.Send.Abort.{MaySendAbort}
use Rattle.pc_world.specs.Send.Push.{SessionPush, StoodInTheWay}
use Rattle.pc_world.specs.Send.Recovery.{MaySendRecover, MetStaging}
use Rattle.pc_world.specs.Tell.Refusal.{IsConflictOf, MayTellBlocked}
use Rattle.pc_world.specs.Views.{shows_committed}

-- what an actor sent it knows that it sent
pub sent_known : (head : Head) (history : List (Entry Event)) → IsRun head history → (x : Entry Event) → Contains history x → (number range : ℕ) (request : Request) → x.event ≡ events.Send number range request
    → HasSent (known_at head x.actor history).sent request
sent_known head = run_induction head (λ history. (x : Entry Event) → Contains history x → (number range : ℕ) (request : Request) → x.event ≡ events.Send number range request → HasSent (known_at head x.actor history).sent request)
    (λ x there number range request is. absurd (contains_nil x there)) (λ history e run may all x there number range request is.
    elim (Contains-push_cases history e x there) [
      | inl old ↦ more history e x.actor request (all x old number range request is)
      | inr new ↦ subst (λ (y : Entry Event). HasSent (known_at head y.actor (history ++ e ∷ [])).sent request) new (now history e number range request (ap (λ (y : Entry Event). y.event) new ∙ is))
    ])
  where
    kept : (sent more : List Sent) (request : Request) → HasSent sent request → HasSent (sent ++ more) request
    kept sent more request (n, m, inside, at, asks) = let c = Contains-append_left sent more m (n, inside, at) in (c.0, m, c.1, c.2, asks)

    more : (history : List (Entry Event)) (e : Entry Event) (actor : ActorId) (request : Request) → HasSent (known_at head actor history).sent request → HasSent (known_at head actor (history ++ e ∷ [])).sent request
    more history e actor request has = elim (same_or_not e.actor actor) [
      | inl same ↦ subst (λ (l : Known). HasSent l.sent request) (sym (known_same head actor history e same)) (kept (known_at head actor history).sent (sent_by e.event) request has)
      | inr differ ↦ subst (λ (l : Known). HasSent l.sent request) (sym (known_other head actor history e differ)) has
    ]

    now : (history : List (Entry Event)) (e : Entry Event) (number range : ℕ) (request : Request) → e.event ≡ events.Send number range request → HasSent (known_at head e.actor (history ++ e ∷ [])).sent request
    now history e number range request is =
        let m : Sent = record { number = number; range = range; request = request } in
        let last : HasSent ((known_at head e.actor history).sent ++ sent_by e.event) request =
        subst (λ event. HasSent ((known_at head e.actor history).sent ++ sent_by event) request) (sym is)
        (let c = Contains-push (known_at head e.actor history).sent m in (c.0, m, c.1, c.2, refl)) in
        subst (λ (l : Known). HasSent l.sent request) (sym (known_same head e.actor history e refl)) last

pub last-is : {X : Type 0} (P Q : X → Type 0) (xs : List X) → LastIs P Q xs → (x : X) × Contains xs x × P x
last-is P Q [] is = absurd is
last-is P Q (x ∷ xs) (inl later) = let r = last-is P Q xs later in (r.0, contains_tail x xs r.0 r.1, r.2)
last-is P Q (x ∷ xs) (inr here) = (x, contains_head x xs, here.0)

pub conflict-is : (holder : TxnMeta) (told : Reply) → ConflictsWith holder told → is_conflict told ≡ false → ⊥
conflict-is holder (replies.Conflict other ts key) with is = cc is
conflict-is holder told with is = with

-- a view that shows a commit is at or above its timestamp
pub committed-shown : (n : ℕ) (id : TxnId) (ts : ℕ) (h : Heard) → IsTrue (shows_committed id ts h) → AtMost n (reply_stamps h.reply) → ts ≤ n
committed-shown n id ts h shows low =
    let parts = and_parts (is_about id h.request) (option_map_or (is_committed_at ts) (view_in h.reply) false) shows in
    by (view_in h.reply) refl parts.1
  where
    by : (o : Option View) → view_in h.reply ≡ o → option_map_or (is_committed_at ts) o false ≡ true → ts ≤ n
    by None is shows = absurd cc
    by (Some (views.Committed epoch at locks)) is shows =
        let l = (viewed-low n h.reply (views.Committed epoch at locks) is low).0 in
        let same : at ≡ ts = eqb-true at ts shows in
        omega (arith, l, same)
    by (Some view) is shows = absurd cc

push-is : (id : TxnId) (request : Request) → IsTrue (is_push_of id request) → (P : Type 0)
    → ((holder : TxnMeta) (by : _) (level : _) (now : ℕ) (goal : Goal) → request ≡ requests.Push holder by level now goal → P) → P
push-is id (requests.Push holder by level now goal) is P on = on holder by level now goal refl
push-is id request is P on = absurd cc

module _ (head : Head) (whole : List (Entry Event)) (run : IsRun head whole) (alone : IsAlone head whole) where
  -- nothing that was heard met an intent
  pub heard-clear : (history : List (Entry Event)) → IsRun head history → (more : List (Entry Event)) → whole ≡ history ++ more → (actor : ActorId) (h : Heard) → Contains (known_at head actor history).heard_now h → is_conflict h.reply ≡ false
  heard-clear history before more split actor h there =
      let w = each-contains _ (known_at head actor history).heard_now h (now_is_so head history before actor) there in
      let inside : Contains whole w.eval = subst (λ l. Contains l w.eval) (sym split) (Contains-append_left history more w.eval w.evaluated) in
      subst MeetsNone w.told (meets_nothing head whole run alone w.eval inside)

  -- nobody is pushed
  pub pushes_none : (x : Entry Event) → Contains whole x → (number range : ℕ) (holder : TxnMeta) (by : _) (level : _) (now : ℕ) (goal : Goal) → x.event ≡ events.Send number range (requests.Push holder by level now goal) → ⊥
  pushes_none x there number range holder by level now goal sends =
      let s = split_there whole x there in
      let before = run_front head s.before (x ∷ s.later) (subst (IsRun head) s.whole run) in
      let may : MayFollow (protocol head) s.before x = run_may head s.before x s.later (subst (IsRun head) s.whole run) in
      let act : Does head x.actor (known_at head x.actor s.before) (events.Send number range (requests.Push holder by level now goal)) = subst (Does head x.actor (known_at head x.actor s.before)) sends (act_of head s.before x may) in
      elim (who head whole run alone x.actor may.local.there) [
        | inl me ↦
            let k = known_at head the_session s.before in
            let mine : MaySend head.splits the_session k number range (requests.Push holder by level now goal) =
            subst (λ a. MaySend head.splits a (known_at head a s.before) number range (requests.Push holder by level now goal)) me act in
            let row : SessionPush k holder by level now goal = mine.row in
            stood s.before before (x ∷ s.later) s.whole row.conflict
        | inr at ↦
            let there_act : MaySend head.splits (actors.Range at.0) (known_at head (actors.Range at.0) s.before) number range (requests.Push holder by level now goal) =
            subst (λ a. MaySend head.splits a (known_at head a s.before) number range (requests.Push holder by level now goal)) at.1 act in
            there_act.row
      ]
    where
      stood : (history : List (Entry Event)) → IsRun head history → (more : List (Entry Event)) → whole ≡ history ++ more → Any (StoodInTheWay holder goal) (known_at head the_session history).heard_now → ⊥
      stood history before more split (n, h, inside, at, stands) =
          conflict-is holder h.reply stands.conflict (heard-clear history before more split the_session h (n, inside, at))

  -- no push was answered
  pub pushed-none : (history : List (Entry Event)) → IsRun head history → (more : List (Entry Event)) → whole ≡ history ++ more → (actor : ActorId) (h : Heard) → Contains (known_at head actor history).heard h → (id : TxnId) → IsTrue (is_push_of id h.request) → ⊥
  pushed-none history before more split actor h there id is =
      let w = each-contains _ (known_at head actor history).heard h (heard_is_so head history before actor) there in
      let inside : Contains whole w.send = subst (λ l. Contains l w.send) (sym split) (Contains-append_left history more w.send w.listed) in
      push-is id h.request is ⊥ (λ holder by level now goal asks.
      pushes_none w.send inside h.number w.range holder by level now goal (w.sends ∙ ap (events.Send h.number w.range) asks))

  -- nobody is recovered
  pub recovers_none : (x : Entry Event) → Contains whole x → (number range : ℕ) (id : TxnId) (epoch ts : ℕ) (anchor : List ℕ) (finding : Finding) → x.event ≡ events.Send number range (requests.Recover id epoch ts anchor finding) → ⊥
  recovers_none x there number range id epoch ts anchor finding sends =
      let s = split_there whole x there in
      let before = run_front head s.before (x ∷ s.later) (subst (IsRun head) s.whole run) in
      let may : MayFollow (protocol head) s.before x = run_may head s.before x s.later (subst (IsRun head) s.whole run) in
      let act : Does head x.actor (known_at head x.actor s.before) (events.Send number range (requests.Recover id epoch ts anchor finding)) = subst (Does head x.actor (known_at head x.actor s.before)) sends (act_of head s.before x may) in
      let row : MaySendRecover x.actor (known_at head x.actor s.before) id epoch ts anchor finding = act.row in
      met s.before before (x ∷ s.later) s.whole x.actor row.writes row.staging
    where
      met : (history : List (Entry Event)) → IsRun head history → (more : List (Entry Event)) → whole ≡ history ++ more → (actor : ActorId) (writes : List (List ℕ × ℕ)) → Any (MetStaging id epoch ts writes) (known_at head actor history).heard → ⊥
      met history before more split actor writes (n, h, inside, at, is) = pushed-none history before more split actor h (n, inside, at) id is.pushed

  -- nobody is told that it is blocked
  pub not_blocked : (history : List (Entry Event)) → IsRun head history → (more : List (Entry Event)) → whole ≡ history ++ more → (actor : ActorId) → (s : _) (holder : TxnId) → MayTellBlocked (known_at head actor history) s holder → ⊥
  not_blocked history before more split actor s holder row =
      let k = known_at head actor history in
      elim row.why [
        | inl refused ↦
            let h = refused.1 in
            let parts = and_parts (is_push_of holder h.request) (is_refused h.reply) refused.4 in
            let w = each-contains _ k.heard_now h (now_is_so head history before actor) (refused.0, refused.2, refused.3) in
            let inside : Contains whole w.send = subst (λ l. Contains l w.send) (sym split) (Contains-append_left history more w.send w.listed) in
            push-is holder h.request parts.0 ⊥ (λ holder by level now goal asks.
            pushes_none w.send inside h.number w.range holder by level now goal (w.sends ∙ ap (events.Send h.number w.range) asks))
        | inr eight ↦
            let l = last-is (IsConflictOf eight.request) _ k.heard_now eight.last in
            let clear = heard-clear history before more split actor l.0 l.1 in
            let both = sym l.2.conflict ∙ clear in cc both
      ]

  -- the send that an evaluation names
  named-send : (history : List (Entry Event)) (more : List (Entry Event)) → whole ≡ history ++ more → (event : Event) (request : Request) → request_named (named_in (protocol head) history event) ≡ Some request
      → (x : Entry Event) × Contains whole x × ((number : ℕ) × (range : ℕ) × (x.event ≡ events.Send number range request))
  named-send history more split event request asked =
      by (named_in (protocol head) history event)
      (each-find (λ x. Contains history x) (λ x. names event x) history (recursion_from_All (λ x. Contains history x) history (All-contains_itself history))) asked
    where
      sends : (x : Entry Event) (event : Event) → x.event ≡ event → request_in event ≡ Some request → (number : ℕ) × (range : ℕ) × (x.event ≡ events.Send number range request)
      sends x (events.Send number range own) is asked = (number, range, is ∙ ap (events.Send number range) (let same : own ≡ request = cc in same))
      sends x event is asked = absurd cc

      by : (o : Option (Entry Event)) → IfSome o (λ x. Contains history x) → request_named o ≡ Some request → (x : Entry Event) × Contains whole x × ((number : ℕ) × (range : ℕ) × (x.event ≡ events.Send number range request))
      by None there asked = absurd cc
      by (Some x) there asked = (x, subst (λ l. Contains l x) (sym split) (Contains-append_left history more x there), sends x x.event refl asked)

  -- what is aborted its session gave up by itself
  pub given_up_itself : (before : List (Entry Event)) → IsRun head before → (more : List (Entry Event)) → whole ≡ before ++ more → (id : TxnId) (why : Why) → IsAbortedFor head before id why
      → (b : List (Entry Event)) × (x : Entry Event) × (l : List (Entry Event)) × (before ≡ b ++ x ∷ l) × IsGivenUpBy head b x id why
  given_up_itself before run_before more split id why a =
      let cause = aborts_have_causes head before id why a.epoch a.ts run_before a.says in
      of-cause why cause.before cause.e cause.later cause.whole cause.cause
    where
      of-cause : (why : Why) (b : List (Entry Event)) (x : Entry Event) (l : List (Entry Event)) → before ≡ b ++ x ∷ l → IsCauseAt head b x id why
          → (b : List (Entry Event)) × (x : Entry Event) × (l : List (Entry Event)) × (before ≡ b ++ x ∷ l) × IsGivenUpBy head b x id why
      of-cause (whys.Pushed by) b x l at cause =
          let p = cause.push in
          let whole_at : whole ≡ b ++ ((x ∷ l) ++ more) = split ∙ ap (λ h. h ++ more) at ∙ append_assoc b (x ∷ l) more in
          let s = named-send b ((x ∷ l) ++ more) whole_at x.event p.request p.asked in
          absurd (pushes_none s.0 s.1 s.2.0 s.2.1 cause.holder by cause.level cause.now _ (s.2.2 ∙ ap (events.Send s.2.0 s.2.1) p.is))
      of-cause (whys.Missing key by) b x l at cause =
          let p = cause.recovery in
          let whole_at : whole ≡ b ++ ((x ∷ l) ++ more) = split ∙ ap (λ h. h ++ more) at ∙ append_assoc b (x ∷ l) more in
          let s = named-send b ((x ∷ l) ++ more) whole_at x.event p.request p.asked in
          absurd (recovers_none s.0 s.1 s.2.0 s.2.1 id cause.epoch cause.ts cause.anchor _ (s.2.2 ∙ ap (events.Send s.2.0 s.2.1) p.is))
      of-cause (whys.Refresh key ts) b x l at cause = (b, x, l, at, cause.0)
      of-cause whys.Client b x l at cause = (b, x, l, at, cause)

  -- an abort that it hears of is its own
  pub abort_is_own : (before : List (Entry Event)) (e : Entry Event) (later : List (Entry Event)) → whole ≡ before ++ e ∷ later → (t : Txn) (why : Why) → open_txn (known_at head the_session before) ≡ Some t
      → e.actor ≡ the_session → e.event ≡ events.Tell (answers.Aborted why) → call_of (known_at head the_session before) ≡ Some calls.Rollback
  abort_is_own before e later split t why opened me tells =
      let k = known_at head the_session before in
      let run_before = run_front head before (e ∷ later) (subst (IsRun head) split run) in
      let outcomes = outcomes_are_true head whole run in
      let told = outcomes.told before e later t.id why split (record { answer = answers.Aborted why; tells = tells; says = refl; t = t; opened = subst (λ a. open_txn (known_at head a before) ≡ Some t) (sym me) opened; named = refl }) in
      let up = given_up_itself before run_before (e ∷ later) split t.id why told in
      own-abort why up.0 up.1 up.2 up.3 up.4
    where
      own-abort : (why : Why) (b : List (Entry Event)) (x : Entry Event) (l : List (Entry Event)) → before ≡ b ++ x ∷ l → IsGivenUpBy head b x t.id why → call_of (known_at head the_session before) ≡ Some calls.Rollback
      own-abort why b x l at g =
          let k = known_at head the_session before in
          let run_before = run_front head before (e ∷ later) (subst (IsRun head) split run) in
          let own = (owned the_session (k.begun + 1) k.txns t (agreed head before run_before the_session).numbered (open_there k t opened)).0 in
          let whole_at : whole ≡ g.front ++ g.send ∷ (g.back ++ ((x ∷ l) ++ (e ∷ later))) =
          split ∙ ap (λ h. h ++ e ∷ later) at ∙ append_assoc b (x ∷ l) (e ∷ later) ∙ ap (λ h. h ++ ((x ∷ l) ++ (e ∷ later))) g.sent ∙ append_assoc g.front (g.send ∷ g.back) ((x ∷ l) ++ (e ∷ later)) in
          let split_run = subst (IsRun head) whole_at run in
          let may = run_may head g.front g.send (g.back ++ ((x ∷ l) ++ (e ∷ later))) split_run in
          let act : Does head g.send.actor (known_at head g.send.actor g.front) (events.Send g.number g.range (requests.Abort g.meta why g.locks)) = subst (Does head g.send.actor (known_at head g.send.actor g.front)) g.sends (act_of head g.front g.send may) in
          elim (who head whole run alone g.send.actor may.local.there) [
            | inr at_range ↦
                let what = range_evaluates head g.front g.send at_range.0 may at_range.1 in absurd (let both = sym g.sends ∙ what.3 in cc both)
            | inl mine ↦
                let row : MaySendAbort (known_at head the_session g.front) g.meta why g.locks = subst (λ a. MaySendAbort (known_at head a g.front) g.meta why g.locks) mine act.row in
                let opened_then : open_txn (known_at head the_session g.front) ≡ Some g.t = subst (λ a. open_txn (known_at head a g.front) ≡ Some g.t) (sym own) g.opened in
                let one : row.t ≡ g.t = let both = sym row.opened ∙ opened_then in cc both in
                let named : g.meta.id ≡ t.id = ap (λ (m : TxnMeta). m.id) row.whose.same ∙ ap (λ (y : Txn). y.id) one ∙ g.whose in
                let there : Contains before g.send = subst (λ h. Contains h g.send) (sym (at ∙ ap (λ h. h ++ x ∷ l) g.sent ∙ append_assoc g.front (g.send ∷ g.back) (x ∷ l))) (contains_split g.front g.send (g.back ++ x ∷ l)) in
                let sent = sent_known head before run_before g.send there g.number g.range (requests.Abort g.meta why g.locks) g.sends in
                let actor : g.send.actor ≡ actors.Session g.meta.id.session = mine ∙ own ∙ ap (λ (i : TxnId). actors.Session i.session) (sym named) in
                let up = given_up head before run_before g.meta why g.locks (subst (λ a. HasSent (known_at head a before).sent (requests.Abort g.meta why g.locks)) actor sent) in
                let same : session_at head g.meta.id before ≡ k = ap (λ a. known_at head a before) (sym actor ∙ mine) in
                let first = open_is_first k t opened in
                sym (ap call_of same)
                ∙ up.ends (subst (λ i. is_first i (session_at head g.meta.id before).txns ≡ true) (sym named) (subst (λ (l : Known). is_first t.id l.txns ≡ true) (sym same) first.0)) (subst (λ (l : Known). l.is_open ≡ true) (sym same) first.1)
          ]
