-- Each put of a transaction's present epoch that was sent is among what it did, and none is of a later epoch.
use Rattle.std.proofs.Common.{◌≡◌, ℕ, ◌<◌, ◌≤◌, true, inl, inr, List, [], ◌∷◌, ◌++◌, None, Some, Contains, refl, sym, ap, subst, ◌∙◌, arith}
use Rattle.std.proofs.lemmas.List.Elements.{Contains-append_left, Contains-push_cases}
use Rattle.std.specs.Prelude.{⊤}
use Rattle.pc_base.specs.declared.actor.ActorId.TheVariants as actors
use Rattle.pc_base.specs.declared.entry.Entry.{Entry}
use Rattle.pc_base.specs.declared.transaction.TxnId.{TxnId}
use Rattle.pc_base.specs.Transaction.{same_txn}
use Rattle.pc_history.specs.History.{MayFollow}
use Rattle.pc_implicit.proofs.Agreed.{agreed, says_own}
use Rattle.pc_implicit.proofs.Anchored.{put_anchored}
use Rattle.pc_implicit.proofs.Commits.{act_of}
use Rattle.pc_implicit.proofs.Did.{CameFrom, came_from, does_agree, newly_fresh, numbered-at, session_at}
use Rattle.pc_implicit.proofs.Doing.{Does}
use Rattle.pc_implicit.proofs.Doings.{doing-same, doing_at}
use Rattle.pc_implicit.proofs.Moves.{IsListed, Moves, Puts, Reads, Restarts, Stays, put_among}
use Rattle.pc_implicit.proofs.SessionReads.{IsAmong}
use Rattle.pc_lists.proofs.Lists.{contains_nil}
use Rattle.pc_lists.proofs.Same.{same_txn-self}
use Rattle.pc_proto.specs.declared.answer.Answer.TheVariants as answers
use Rattle.pc_proto.specs.declared.event.Event.{Event}
use Rattle.pc_proto.specs.declared.event.Event.TheVariants as events
use Rattle.pc_proto.specs.declared.request.Request.TheVariants as requests
use Rattle.pc_world.proofs.Prefixes.{run_induction}
use Rattle.pc_world.specs.After.{known_at}
use Rattle.pc_world.specs.Committed.{anchor_in}
use Rattle.pc_world.specs.Known.{Known}
use Rattle.pc_world.specs.Known.Transactions.{Txn}
use Rattle.pc_world.specs.Local.{Head}
use Rattle.pc_world.specs.Operations.{Doing, Operation, Write, done_after, done_sent, operations_of}
use Rattle.pc_world.specs.Run.{IsRun, protocol}

-- The message is no put of the transaction of a later epoch, and a put of this epoch is among these operations.
abbrev pub IsDone : TxnId → ℕ → List Operation → Event → Type 0
IsDone id epoch done (events.Send number range (requests.Put meta seq ts key value)) =
    meta.id ≡ id → (meta.epoch ≤ epoch) × (meta.epoch ≡ epoch → Contains done (Write key seq value))
IsDone id epoch done event = ⊤

done-among : (id : TxnId) (epoch : ℕ) (done : List Operation) (event : Event) → IsDone id epoch done event → IsAmong id epoch done event
done-among id epoch done (events.Send number range (requests.Put meta seq ts key value)) is = λ named same. (is named).1 same
done-among id epoch done event is = tt

-- what was done stays so
done-after : (k : Known) (event x : Event) (id : TxnId) (t u : Txn) (done after : List Operation) → Moves k event t u done after → IsDone id t.epoch done x → IsDone id u.epoch after x
done-after k event (events.Send number range (requests.Put meta seq ts key value)) id t u done after moves is = λ named. by moves (is named)
  where
    by : Moves k event t u done after → (meta.epoch ≤ t.epoch) × (meta.epoch ≡ t.epoch → Contains done (Write key seq value)) → (meta.epoch ≤ u.epoch) × (meta.epoch ≡ u.epoch → Contains after (Write key seq value))
    by (Stays epoch reads writes done_is) w =
        let low : meta.epoch ≤ t.epoch = w.0 in
        (omega (arith, low, epoch), λ same. subst (λ os. Contains os (Write key seq value)) (sym done_is) (w.1 (same ∙ epoch)))
    by (Puts own at found opened asked epoch reads writes done_is next) w =
        let low : meta.epoch ≤ t.epoch = w.0 in
        (omega (arith, low, epoch), λ same. subst (λ os. Contains os (Write key seq value)) (sym done_is) (Contains-append_left done (Write own at found ∷ []) (Write key seq value) (w.1 (same ∙ epoch))))
    by (Reads answer o opened told tells epoch reads writes done_is) w =
        let low : meta.epoch ≤ t.epoch = w.0 in
        (omega (arith, low, epoch), λ same. subst (λ os. Contains os (Write key seq value)) (sym done_is) (Contains-append_left done (o ∷ []) (Write key seq value) (w.1 (same ∙ epoch))))
    by (Restarts own at opened told epoch reads writes done_is) w =
        let low : meta.epoch ≤ t.epoch = w.0 in
        (omega (arith, low, epoch), λ same. absurd (let no : ⊥ = omega (arith, low, epoch, same) in no))
done-after k event x id t u done after moves is = tt

module _ (head : Head) where
  AreDone : List (Entry Event) → Type 0
  AreDone history = (id : TxnId) (t : Txn) → Contains (session_at head id history).txns t → t.id ≡ id → (a : Entry Event) → Contains history a → IsDone id t.epoch (operations_of history id) a.event

  -- nothing of a transaction was sent before its begin
  none-before : (history : List (Entry Event)) → IsRun head history → (id : TxnId) → (session_at head id history).begun < id.number → (epoch : ℕ) (done : List Operation) (a : Entry Event) → Contains history a → (event : Event) → a.event ≡ event → IsDone id epoch done event
  none-before history run id fresh epoch done a there (events.Send number range (requests.Put meta seq ts key value)) is = λ named.
      let at = put_anchored head history run a there number range meta seq ts key value is in
      let none = (agreed head history run (actors.Session id.session)).fresh id refl fresh in
      absurd (let both : None ≡ Some meta.anchor = sym none.anchor ∙ ap (λ i. anchor_in i history) (sym named) ∙ at.anchor in cc both)
  none-before history run id fresh epoch done a there event is = tt

  -- the put that is sent is among what was done
  sent-done : (history : List (Entry Event)) (e : Entry Event) → IsRun head history → MayFollow (protocol head) history e → (id : TxnId) (u : Txn) → CameFrom head history e id u → (event : Event) → e.event ≡ event → IsDone id u.epoch (operations_of (history ++ e ∷ []) id) event
  sent-done history e run may id u c (events.Send number range (requests.Put meta seq ts key value)) is = λ named.
      let k = session_at head id history in
      let t = c.t in
      let act : Does head e.actor (known_at head e.actor history) (events.Send number range (requests.Put meta seq ts key value)) = subst (Does head e.actor (known_at head e.actor history)) is (act_of head history e may) in
      let own = (says_own head e.actor (known_at head e.actor history) (events.Send number range (requests.Put meta seq ts key value)) (agreed head history run e.actor).numbered act).0 in
      let same : e.actor ≡ actors.Session id.session = own ∙ ap (λ (i : TxnId). actors.Session i.session) named in
      let acts : Does head (actors.Session id.session) k (events.Send number range (requests.Put meta seq ts key value)) = subst (λ a. Does head a (known_at head a history) (events.Send number range (requests.Put meta seq ts key value))) same act in
      let listed : IsListed t (operations_of history id) = (does_agree head history run id).listed t c.mine c.named in
      let it : same_txn meta.id t.id ≡ true = ap (λ i. same_txn meta.id i) (c.named ∙ sym named) ∙ same_txn-self meta.id in
      let among = put_among head (actors.Session id.session) k (numbered-at head history run id) t c.mine meta seq ts key value (operations_of history id) listed acts.row it in
      let done : operations_of (history ++ e ∷ []) id ≡ done_sent t.id (requests.Put meta seq ts key value) (operations_of history id) =
      ap (λ (x : Doing). x.done) (doing-same id history e same) ∙ ap (λ event. done_after id event (doing_at id history)) is
      ∙ ap (λ i. done_sent i (requests.Put meta seq ts key value) (operations_of history id)) (sym c.named) in
      by c.moves among.0 (subst (λ os. Contains os (Write key seq value)) (sym done) among.1)
    where
      by : Moves (session_at head id history) e.event c.t u (operations_of history id) (operations_of (history ++ e ∷ []) id) → meta.epoch ≡ c.t.epoch → Contains (operations_of (history ++ e ∷ []) id) (Write key seq value)
          → (meta.epoch ≤ u.epoch) × (meta.epoch ≡ u.epoch → Contains (operations_of (history ++ e ∷ []) id) (Write key seq value))
      by (Stays epoch reads writes done_is) same there = (omega (arith, epoch, same), λ eq. there)
      by (Puts own at found opened asked epoch reads writes done_is next) same there = (omega (arith, epoch, same), λ eq. there)
      by (Reads answer o opened told tells epoch reads writes done_is) same there = (omega (arith, epoch, same), λ eq. there)
      by (Restarts own at opened told epoch reads writes done_is) same there = (omega (arith, epoch, same), λ eq. there)
  sent-done history e run may id u c event is = tt

  begun-done : (id other : TxnId) (ts epoch : ℕ) (done : List Operation) (event : Event) → event ≡ events.Tell (answers.Begun other ts) → IsDone id epoch done event
  begun-done id other ts epoch done event is = subst (IsDone id epoch done) (sym is) tt

  are-done : (history : List (Entry Event)) → IsRun head history → AreDone history
  unfolding AreDone
  are-done = run_induction head AreDone (λ id t mine named a there. absurd (contains_nil a there)) (λ history e run may all id u mine named a there.
      elim (came_from head history e run may id u mine named) [
        | inl new ↦
            elim (Contains-push_cases history e a there) [
              | inl before ↦ none-before history run id (newly_fresh head history e may id u named new.0 new.1) u.epoch (operations_of (history ++ e ∷ []) id) a before a.event refl
              | inr now ↦ begun-done id new.1.id new.1.ts u.epoch (operations_of (history ++ e ∷ []) id) a.event (ap (λ (x : Entry Event). x.event) (sym now) ∙ new.1.told)
            ]
        | inr c ↦
            elim (Contains-push_cases history e a there) [
              | inl before ↦ done-after (session_at head id history) e.event a.event id c.t u (operations_of history id) (operations_of (history ++ e ∷ []) id) c.moves (all id c.t c.mine c.named a before)
              | inr now ↦ subst (λ (x : Entry Event). IsDone id u.epoch (operations_of (history ++ e ∷ []) id) x.event) now (sent-done history e run may id u c e.event refl)
            ]
      ])

  -- each put of the present epoch that was sent is among what was done
  pub puts_are_done : (history : List (Entry Event)) → IsRun head history → (id : TxnId) (t : Txn) → Contains (session_at head id history).txns t → t.id ≡ id → (a : Entry Event) → Contains history a → IsAmong id t.epoch (operations_of history id) a.event
  unfolding AreDone
  puts_are_done history run id t mine named a there = done-among id t.epoch (operations_of history id) a.event (are-done history run id t mine named a there)
