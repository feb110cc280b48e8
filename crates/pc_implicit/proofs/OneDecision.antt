-- No two decisions differ.
use Rattle.std.proofs.Common.{◌≡◌, ℕ, ◌+◌, ◌⊎◌, if◌then◌else◌, inl, inr, List, [], ◌∷◌, ◌++◌, None, Some, Contains, refl, sym, ap, subst, ◌∙◌}
use Rattle.std.proofs.lemmas.List.Elements.{Contains-push_cases}
use Rattle.std.specs.Option.{option_or}
use Rattle.pc_base.specs.declared.actor.ActorId.{ActorId}
use Rattle.pc_base.specs.declared.actor.ActorId.TheVariants as actors
use Rattle.pc_base.specs.declared.entry.Entry.{Entry}
use Rattle.pc_base.specs.declared.transaction.TxnId.{TxnId}
use Rattle.pc_history.specs.History.{MayFollow}
use Rattle.pc_history.specs.Own.{named_in}
use Rattle.pc_implicit.proofs.Agreed.{agreed, begun_at, committed_row, open_there, owned}
use Rattle.pc_implicit.proofs.Commits.{act_of, decided_is_committed, open_agrees, shown_decided}
use Rattle.pc_implicit.proofs.CommitsStay.{committed_push, committed_stays}
use Rattle.pc_implicit.proofs.Doing.{Does}
use Rattle.pc_implicit.proofs.Evals.{of_entry}
use Rattle.pc_implicit.proofs.Firsts.{first_push}
use Rattle.pc_implicit.proofs.HeardViews.{heard_decides}
use Rattle.pc_implicit.proofs.Homes.{home_commits}
use Rattle.pc_implicit.proofs.ImplicitCommitted.{implicit_is_committed}
use Rattle.pc_implicit.proofs.Recovered.{recovered_so, replies_what}
use Rattle.pc_implicit.proofs.Shown.{answer_shows}
use Rattle.pc_lists.proofs.Lists.{contains_nil}
use Rattle.pc_lists.proofs.Same.{same_txn-self}
use Rattle.pc_proto.specs.declared.answer.Answer.TheVariants as answers
use Rattle.pc_proto.specs.declared.call.Call.TheVariants as calls
use Rattle.pc_proto.specs.declared.event.Event.{Event}
use Rattle.pc_proto.specs.declared.event.Event.TheVariants as events
use Rattle.pc_proto.specs.declared.request.Request.{Request}
use Rattle.pc_proto.specs.declared.request.Request.TheVariants as requests
use Rattle.pc_proto.specs.Requests.{Commits, subject}
use Rattle.pc_world.proofs.Knowing.{run_push}
use Rattle.pc_world.proofs.Prefixes.{run_front, run_induction, run_may}
use Rattle.pc_world.specs.After.{known_at}
use Rattle.pc_world.specs.Committed.{IsCommitted, anchor_in, commit_at, committed_in, key_sent, told_at}
use Rattle.pc_world.specs.Decisions.{Acknowledges, AnswersCommitted, HasOneDecision, TellsCommit}
use Rattle.pc_world.specs.Known.{Known, call_in, call_of, open_txn}
use Rattle.pc_world.specs.Known.Transactions.{Txn}
use Rattle.pc_world.specs.Local.{Head}
use Rattle.pc_world.specs.Named.{request_in, request_named}
use Rattle.pc_world.specs.Run.{IsRun, protocol}
use Rattle.pc_world.specs.Tell.End.{IsImplicit}
use Rattle.pc_world.specs.Views.{WasCommitted}

tells-what : (id : TxnId) (ts : ℕ) (event : Event) → TellsCommit id ts event → event ≡ events.Tell (answers.Committed id ts)
tells-what id ts (events.Tell (answers.Committed other at)) h = ap (λ i. events.Tell (answers.Committed i at)) h.0 ∙ ap (λ t. events.Tell (answers.Committed id t)) h.1
tells-what id ts event h = absurd h

commits-what : (id : TxnId) (request : Request) → Commits id request → subject request ≡ Some id
commits-what id (requests.Commit meta ts locks) h = ap Some h
commits-what id request h = absurd h

module _ (head : Head) where
  implicit-committed : (history : List (Entry Event)) → IsRun head history → (actor : ActorId) (t : Txn) (ts : ℕ) → actor ≡ actors.Session t.id.session → (k : Known) → k ≡ known_at head actor history
      → open_txn k ≡ Some t → call_of k ≡ Some calls.Commit → IsImplicit k t ts → IsCommitted head history t.id ts
  implicit-committed history run actor t ts own k knows opened asked is =
      let same : k ≡ known_at head (actors.Session t.id.session) history = knows ∙ ap (λ a. known_at head a history) own in
      implicit_is_committed head history run t ts (subst (λ (l : Known). open_txn l ≡ Some t) same opened) (subst (λ (l : Known). call_of l ≡ Some calls.Commit) same asked) (subst (λ (l : Known). IsImplicit l t ts) same is)

  -- what may be told committed is committed, or it has no anchor and is told so where it began
  pub tell_means : (history : List (Entry Event)) → IsRun head history → (actor : ActorId) (id : TxnId) (ts : ℕ) → Does head actor (known_at head actor history) (events.Tell (answers.Committed id ts))
      → IsCommitted head history id ts ⊎ ((anchor_in id history ≡ None) × (told_at id history ≡ None) × (begun_at id history ≡ Some ts))
  tell_means history run actor id ts may =
      let k = known_at head actor history in
      let row = committed_row head actor k id ts may in
      let knows = agreed head history run actor in
      let agrees = open_agrees history actor k row.t knows row.opened in
      elim row.why [
        | inl unwritten ↦
            inr (
              ap (λ i. anchor_in i history) row.whose ∙ agrees.0.anchor ∙ unwritten.no_put,
              ap (λ i. told_at i history) row.whose ∙ agrees.0.told ∙ agrees.1,
              ap (λ i. begun_at i history) row.whose ∙ agrees.0.begin ∙ ap Some (sym unwritten.at_begin),
            )
        | inr other ↦ elim other [
          | inl heard ↦
              let d = heard_decides head history run actor id ts (subst (λ i. WasCommitted k.heard i ts) (sym row.whose) heard) in
              inl (home_commits head id history d.0 ts d.1)
          | inr staged ↦
              let own = (owned actor (k.begun + 1) k.txns row.t knows.numbered (open_there k row.t row.opened)).0 in
              let asked : call_of k ≡ Some calls.Commit = ap call_in may.opened ∙ ap Some row.asked in
              let is = implicit-committed history run actor row.t ts own k refl row.opened asked staged in
              inl (subst (λ i. IsCommitted head history i ts) (sym row.whose) is)
        ]
      ]

  -- One more entry.
  module _ (before : List (Entry Event)) (e : Entry Event) (run : IsRun head before) (may : MayFollow (protocol head) before e) where
    told-now : (id : TxnId) (ts : ℕ) → e.event ≡ events.Tell (answers.Committed id ts) → anchor_in id before ≡ None → told_at id before ≡ None → IsCommitted head (before ++ e ∷ []) id ts
    told-now id ts is none untold =
        let anchor : anchor_in id (before ++ e ∷ []) ≡ None = first_push (λ x. key_sent id x.event) before e ∙ ap (λ o. option_or o (key_sent id e.event)) none ∙ ap (key_sent id) is in
        ap (commit_at head (before ++ e ∷ []) id) anchor ∙ first_push (λ x. committed_in id x.event) before e ∙ ap (λ o. option_or o (committed_in id e.event)) untold ∙ ap (committed_in id) is
        ∙ ap (λ b. if b then Some ts else None) (same_txn-self id)

    -- what is told committed is committed
    pub tell_committed : (id : TxnId) (ts : ℕ) → e.event ≡ events.Tell (answers.Committed id ts) → IsCommitted head (before ++ e ∷ []) id ts
    tell_committed id ts is =
        elim (tell_means before run e.actor id ts (subst (Does head e.actor (known_at head e.actor before)) is (act_of head before e may))) [
          | inl committed ↦ committed_push head before e run may id ts committed
          | inr begun ↦ told-now id ts is begun.0 begun.1
        ]

    -- what a commit is answered committed is committed
    answer-committed : (id : TxnId) (ts : ℕ) → AnswersCommitted head before ts (Commits id) e → IsCommitted head (before ++ e ∷ []) id ts
    answer-committed id ts a =
        let what = replies_what e.event a.reply a.told in
        let ev = of_entry head before e what.0 what.1 a.reply run may what.2 in
        let same : ev.request ≡ a.request =
        let eq : Some ev.request ≡ Some a.request = sym (ap request_named (ap (named_in (protocol head) before) what.2 ∙ ev.named) ∙ ap request_in ev.sends) ∙ a.asked in cc eq in
        let whole = run_push head before e run may in
        let w = answer_shows head before e what.0 what.1 a.reply whole may what.2 ev in
        let about : subject ev.request ≡ Some id = ap subject same ∙ commits-what id a.request a.kind in
        decided_is_committed head (before ++ e ∷ []) id ts (shown_decided head (before ++ e ∷ []) whole what.0 what.1 ev.request a.reply id ts w about a.shown)

    acknowledged-committed : (id : TxnId) (ts : ℕ) → Acknowledges head before id ts e → IsCommitted head (before ++ e ∷ []) id ts
    acknowledged-committed id ts a =
        elim a [
          | inl told ↦ tell_committed id ts (tells-what id ts e.event told)
          | inr other ↦ elim other [
            | inl answered ↦ answer-committed id ts answered
            | inr recovered ↦ committed_push head before e run may id ts (recovered_so head before run e may id ts recovered)
          ]
        ]

  -- a transaction that anybody was told committed is committed at that timestamp
  pub told_committed : (history : List (Entry Event)) → IsRun head history → (x : Entry Event) → Contains history x → (id : TxnId) (ts : ℕ)
      → x.event ≡ events.Tell (answers.Committed id ts) → IsCommitted head history id ts
  told_committed =
      run_induction head (λ history. (x : Entry Event) → Contains history x → (id : TxnId) (ts : ℕ) → x.event ≡ events.Tell (answers.Committed id ts) → IsCommitted head history id ts)
      (λ x there. absurd (contains_nil x there)) (λ history e run may all x there id ts is.
      elim (Contains-push_cases history e x there) [
        | inl before ↦ committed_push head history e run may id ts (all x before id ts is)
        | inr now ↦ tell_committed history e run may id ts (ap (λ (y : Entry Event). y.event) now ∙ is)
      ])

  -- no two decisions differ
  pub decisions_do_not_differ : (history : List (Entry Event)) → IsRun head history → HasOneDecision head history
  decisions_do_not_differ history run = record {
    acknowledged = λ before e later id ts whole a. let u = until before e later whole in acknowledged-committed before e u.0 u.1 id ts a;
    recovered = λ before e later id ts whole a. let u = until before e later whole in recovered_so head before u.0 e u.1 id ts a;
    stays = stays-so;
    once = λ front middle back id ts other whole is also.
        let both : Some other ≡ Some ts = sym also ∙ stays-so front middle back id ts whole is in cc both;
  }
    where
      until : (before : List (Entry Event)) (e : Entry Event) (later : List (Entry Event)) → history ≡ before ++ e ∷ later → IsRun head before × MayFollow (protocol head) before e
      until before e later whole =
          let split = subst (IsRun head) whole run in
          (run_front head before (e ∷ later) split, run_may head before e later split)

      stays-so : (front middle back : List (Entry Event)) (id : TxnId) (ts : ℕ) → history ≡ front ++ middle ++ back → IsCommitted head front id ts → IsCommitted head (front ++ middle) id ts
      stays-so front middle back id ts whole is = committed_stays head front middle (run_front head (front ++ middle) back (subst (IsRun head) whole run)) id ts is
