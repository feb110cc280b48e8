-- Where one session is alone and knows of each commit, its committed transactions stand in the order of their begins.
use Rattle.std.proofs.Common.{◌≡◌, ℕ, ◌+◌, ◌<◌, ◌≤◌, if◌then◌else◌, List, [], ◌∷◌, ◌++◌, append-nil, ◌⊎◌, map, filter, filter_map, Option, None, Some, Contains, inl, inr, refl, sym, ap, subst, ◌∙◌, arith}
use Rattle.std.proofs.lemmas.List.Elements.{filter_map-append}
use Rattle.std.specs.List.{AllByRecursion as Each, cons_option}
use Rattle.std.specs.Option.{option_map}
use Rattle.std.specs.Prelude.{is_some}
use Rattle.std.specs.declared.cmp.Ordering.TheVariants.{Less}
use Rattle.pc_base.specs.declared.actor.ActorId.TheVariants as actors
use Rattle.pc_base.specs.declared.entry.Entry.{Entry}
use Rattle.pc_base.specs.declared.transaction.TxnId.{TxnId}
use Rattle.pc_history.specs.History.{MayFollow}
use Rattle.pc_implicit.proofs.Agreed.{begun-grows, begun_next}
use Rattle.pc_implicit.proofs.Begins.{committed_above}
use Rattle.pc_implicit.proofs.Commits.{act_of}
use Rattle.pc_implicit.proofs.Doing.{Does, same_or_not}
use Rattle.pc_lists.proofs.Each.{each-append, each-weaker}
use Rattle.pc_proto.specs.declared.answer.Answer.TheVariants as answers
use Rattle.pc_proto.specs.declared.event.Event.{Event}
use Rattle.pc_proto.specs.declared.event.Event.TheVariants as events
use Rattle.pc_serial.proofs.InOrder.{Rises, in_order-rising}
use Rattle.pc_serial.proofs.InTurn.{began_after}
use Rattle.pc_serial.proofs.Legal.{is-legal}
use Rattle.pc_serial.proofs.Order.{entry_of, rank-less, rank-total, ranked-of}
use Rattle.pc_serial.specs.Laws.{RunsInTurn, committed_as_begun}
use Rattle.pc_world.proofs.Knowing.{known_other, known_same}
use Rattle.pc_world.proofs.Prefixes.{run_induction}
use Rattle.pc_world.specs.After.{known_at}
use Rattle.pc_world.specs.CommitOrder.{Rank, all_begun, begun_in, rank_cmp, ranked}
use Rattle.pc_world.specs.Committed.{commit_ts}
use Rattle.pc_world.specs.Known.{Known}
use Rattle.pc_world.specs.Known.Statements.{begun_after}
use Rattle.pc_world.specs.Legal.{committed_in_order}
use Rattle.pc_world.specs.Local.{Head, IsActorOf}
use Rattle.pc_world.specs.MapRun.{IsMapRun}
use Rattle.pc_world.specs.Operations.{operations_of}
use Rattle.pc_world.specs.Run.{IsRun, protocol}

-- ---- the transactions of one session, in the order of their begins

-- Each transaction has a lesser number than those after it.
abbrev pub Ascends : List TxnId → Type 0
Ascends [] = Unit {0}
Ascends (x ∷ xs) = Each (λ y. x.number < y.number) xs × Ascends xs

ascends-push : (xs : List TxnId) (new : TxnId) → Ascends xs → Each (λ x. x.number < new.number) xs → Ascends (xs ++ new ∷ [])
ascends-push [] new a low = (tt, tt)
ascends-push (x ∷ xs) new a low = (each-append (λ y. x.number < y.number) xs (new ∷ []) a.0 (low.0, tt), ascends-push xs new a.1 low.1)

-- The transaction is of the first session, and one of its first ones up to this number.
record IsFirstOf (begun : ℕ) (id : TxnId) : Type 0 where
  session : id.session ≡ 1
  low : id.number ≤ begun

begun-what : (event : Event) → ((id : TxnId) × (ts : ℕ) × (event ≡ events.Tell (answers.Begun id ts))) ⊎ (begun_in event ≡ None)
begun-what (events.Tell (answers.Begun id ts)) = inl (id, ts, refl)
begun-what (events.Tell answer) = inr refl
begun-what event = inr refl

module _ (head : Head) (alone : head.sessions ≡ 1) where
  -- What one session began.
  record IsInTurn (history : List (Entry Event)) : Type 0 where
    each : Each (IsFirstOf (known_at head (actors.Session 1) history).begun) (all_begun history)
    ascends : Ascends (all_begun history)

  begun-more : (history : List (Entry Event)) (e : Entry Event) → (known_at head (actors.Session 1) history).begun ≤ (known_at head (actors.Session 1) (history ++ e ∷ [])).begun
  begun-more history e =
      elim (same_or_not e.actor (actors.Session 1)) [
        | inl same ↦
            let grown : (known_at head (actors.Session 1) history).begun ≤ begun_after e.event (known_at head (actors.Session 1) history).begun = begun-grows e.event (known_at head (actors.Session 1) history).begun in
            let is : (known_at head (actors.Session 1) (history ++ e ∷ [])).begun ≡ begun_after e.event (known_at head (actors.Session 1) history).begun = ap (λ (k : Known). k.begun) (known_same head (actors.Session 1) history e same) in
            omega (arith, grown, is)
        | inr differ ↦
            let is : (known_at head (actors.Session 1) (history ++ e ∷ [])).begun ≡ (known_at head (actors.Session 1) history).begun = ap (λ (k : Known). k.begun) (known_other head (actors.Session 1) history e differ) in
            omega (arith, is)
      ]

  in-turn-more : (history : List (Entry Event)) (e : Entry Event) → MayFollow (protocol head) history e → IsInTurn history → IsInTurn (history ++ e ∷ [])
  in-turn-more history e may t =
      let k = known_at head (actors.Session 1) history in
      let later = known_at head (actors.Session 1) (history ++ e ∷ []) in
      let grown : k.begun ≤ later.begun = begun-more history e in
      let whole : all_begun (history ++ e ∷ []) ≡ all_begun history ++ cons_option (begun_in e.event) [] = filter_map-append (λ x. begun_in x.event) history (e ∷ []) in
      let old : Each (IsFirstOf later.begun) (all_begun history) =
      each-weaker (IsFirstOf k.begun) (IsFirstOf later.begun) (λ id f. let low = f.low in record { session = f.session; low = omega (arith, low, grown) }) (all_begun history) t.each in
      elim (begun-what e.event) [
        | inl new ↦
            let next = begun_next head e.actor (known_at head e.actor history) new.0 new.1 (subst (Does head e.actor (known_at head e.actor history)) new.2 (act_of head history e may)) in
            let there : (1 ≤ new.0.session) × (new.0.session ≤ head.sessions) = subst (IsActorOf head) next.0 may.local.there in
            let some = there.0 in
            let most = there.1 in
            let session : new.0.session ≡ 1 = omega (arith, some, most, alone) in
            let actor : e.actor ≡ actors.Session 1 = next.0 ∙ ap actors.Session session in
            let number : new.0.number ≡ k.begun + 1 = next.1 ∙ ap (λ a. (known_at head a history).begun + 1) actor in
            let now : later.begun ≡ k.begun + 1 = ap (λ (x : Known). x.begun) (known_same head (actors.Session 1) history e actor) ∙ ap (λ event. begun_after event k.begun) new.2 in
            let is : all_begun (history ++ e ∷ []) ≡ all_begun history ++ new.0 ∷ [] = whole ∙ ap (λ event. all_begun history ++ cons_option (begun_in event) []) new.2 in
            record {
              each = subst (Each (IsFirstOf later.begun)) (sym is) (each-append (IsFirstOf later.begun) (all_begun history) (new.0 ∷ []) old (record { session = session; low = omega (arith, number, now) }, tt));
              ascends =
                  subst Ascends (sym is)
                  (ascends-push (all_begun history) new.0 t.ascends
                  (each-weaker (IsFirstOf k.begun) (λ x. x.number < new.0.number) (λ x f. let low = f.low in omega (arith, low, number)) (all_begun history) t.each));
            }
        | inr none ↦
            let is : all_begun (history ++ e ∷ []) ≡ all_begun history = whole ∙ ap (λ o. all_begun history ++ cons_option o []) none ∙ append-nil (all_begun history) in
            record { each = subst (Each (IsFirstOf later.begun)) (sym is) old; ascends = subst Ascends (sym is) t.ascends }
      ]

  in_turn : (history : List (Entry Event)) → IsRun head history → IsInTurn history
  in_turn = run_induction head IsInTurn (record { each = tt; ascends = tt }) (λ history e run may t. in-turn-more history e may t)

-- ---- so they rise in the commit order

module _ (head : Head) (history : List (Entry Event)) (run : IsRun head history) (known : (e : Entry Event) (id : TxnId) → Contains history e → e.event ≡ events.Tell (answers.Unknown id) → ⊥) (begun : ℕ) where
  -- of those begun later, the committed ones rank later
  rank-later : (x : TxnId) (r : Rank × TxnId) → ranked head history x ≡ Some r → x.session ≡ 1 → (ys : List TxnId) → Each (IsFirstOf begun) ys → Each (λ y. x.number < y.number) ys
      → Each (λ (e : Rank × TxnId). rank_cmp r.0 e.0 ≡ Less) (filter_map (ranked head history) ys)
  rank-later x r is session [] each later = tt
  rank-later x r is session (y ∷ ys) each later = by (ranked head history y) refl (rank-later x r is session ys each.1 later.1)
    where
      by : (o : Option (Rank × TxnId)) → ranked head history y ≡ o → Each (λ (e : Rank × TxnId). rank_cmp r.0 e.0 ≡ Less) (filter_map (ranked head history) ys)
          → Each (λ (e : Rank × TxnId). rank_cmp r.0 e.0 ≡ Less) (cons_option o (filter_map (ranked head history) ys))
      by None none rest = rest
      by (Some e) some rest =
          let one = ranked-of head history x (commit_ts head history x) r is in
          let other = ranked-of head history y (commit_ts head history y) e some in
          let after = began_after head history x y r.0.ts e.0.ts run (session ∙ sym each.0.session) later.0 (λ a there told. known a x there told) one.0 other.0 in
          let less : r.0.ts < e.0.ts = committed_above head history run x y r.0.ts e.0.ts after one.0 other.0 in
          (rank-less r.0 e.0 less, rest)

  ranks-rise : (ids : List TxnId) → Each (IsFirstOf begun) ids → Ascends ids → Rises rank_cmp (filter_map (ranked head history) ids)
  ranks-rise [] each a = tt
  ranks-rise (x ∷ xs) each a = by (ranked head history x) refl (ranks-rise xs each.1 a.1)
    where
      by : (o : Option (Rank × TxnId)) → ranked head history x ≡ o → Rises rank_cmp (filter_map (ranked head history) xs) → Rises rank_cmp (cons_option o (filter_map (ranked head history) xs))
      by None none rest = rest
      by (Some r) some rest = (rank-later x r some each.0.session xs each.1 a.0, rest)

-- the names of those that are ranked are those of the committed ones
ranked-names : (head : Head) (history : List (Entry Event)) (ids : List TxnId)
    → map (λ (e : Rank × TxnId). e.1) (filter_map (ranked head history) ids) ≡ filter (λ id. is_some (commit_ts head history id)) ids
ranked-names head history [] = refl
ranked-names head history (x ∷ xs) = by (commit_ts head history x) (ranked-names head history xs)
  where
    by : (o : Option ℕ) → map (λ (e : Rank × TxnId). e.1) (filter_map (ranked head history) xs) ≡ filter (λ id. is_some (commit_ts head history id)) xs
        → map (λ (e : Rank × TxnId). e.1) (cons_option (option_map (λ (ts : ℕ). entry_of head history x ts) o) (filter_map (ranked head history) xs))
        ≡ (if is_some o then x ∷ filter (λ id. is_some (commit_ts head history id)) xs else filter (λ id. is_some (commit_ts head history id)) xs)
    by None rest = rest
    by (Some ts) rest = ap (λ l. x ∷ l) rest

-- one session alone runs in turn
pub one_session_runs_in_turn : (head : Head) (history : List (Entry Event)) → IsRun head history → head.sessions ≡ 1
    → ((e : Entry Event) (id : TxnId) → Contains history e → e.event ≡ events.Tell (answers.Unknown id) → ⊥) → RunsInTurn head history
one_session_runs_in_turn head history run alone known =
    let t = in_turn head alone history run in
    let k = known_at head (actors.Session 1) history in
    let rises = ranks-rise head history run known k.begun (all_begun history) t.each t.ascends in
    let order : committed_in_order head history ≡ committed_as_begun head history =
    ap (map (λ (e : Rank × TxnId). e.1)) (in_order-rising rank_cmp rank-total (filter_map (ranked head history) (all_begun history)) rises) ∙ ranked-names head history (all_begun history) in
    record { order = order; plain = subst (λ ids. IsMapRun [] (map (operations_of history) ids)) order (is-legal head history run).serial }
