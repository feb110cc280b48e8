-- What stands at a step of a run, and which earlier entry causes an event.
use Rattle.std.proofs.Common.{◌≡◌, ℕ, ◌<◌, Bool, true, false, ◌&&◌, ◌==◌, ◌↔◌, Any, Contains, List, Option, None, Some, IsTrue, cond, find, [], ◌∷◌, refl, sym, ap, subst, ◌∙◌, slice_get, length}
use Rattle.std.proofs.lemmas.Bool.{and_from, and_parts, eq-eqb, eqb-true}
use Rattle.std.proofs.lemmas.Option.{same_Some, slice_get-get_or, slice_get_within}
use Rattle.pc_base.specs.declared.actor.ActorId.{ActorId}
use Rattle.pc_base.specs.declared.actor.ActorId.TheVariants as actors
use Rattle.pc_base.specs.declared.entry.Entry.{Entry}
use Rattle.pc_base.specs.declared.transaction.TxnId.{TxnId}
use Rattle.pc_history.proofs.Ids.{same_id-equal, same_id-true}
use Rattle.pc_history.specs.Own.{named_in, same_id}
use Rattle.pc_lists.proofs.Lists.{contains_head, contains_tail, find_none, find_some}
use Rattle.pc_proto.specs.declared.event.Event.{Event}
use Rattle.pc_proto.specs.declared.event.Event.TheVariants as events
use Rattle.pc_proto.specs.declared.reply.Reply.{Reply}
use Rattle.pc_world.proofs.Prefixes.{run_step}
use Rattle.pc_world.proofs.World.{names_one}
use Rattle.pc_world.specs.Caused.{Evaluates, IsCommittedTold, IsEvalOf, IsSendTo, SendsTo, TellsCommitted}
use Rattle.pc_world.specs.Local.{Head}
use Rattle.pc_world.specs.Named.{is_eval, is_send_of, is_tell, names}
use Rattle.pc_world.specs.Run.{IsRun, protocol}

-- What a test finds is in the list, and passes.
record IsFound (p : Entry Event → Bool) (xs : List (Entry Event)) (x : Entry Event) : Type 0 where
  there : Contains xs x
  passes : p x ≡ true

found_there : (p : Entry Event → Bool) (xs : List (Entry Event)) (x : Entry Event) → find p xs ≡ Some x → IsFound p xs x
found_there p [] x e = absurd cc
found_there p (y ∷ ys) x e = by (p y) refl e (found_there p ys x)
  where
    by : (b : Bool) → p y ≡ b → cond b (Some y) (find p ys) ≡ Some x → (find p ys ≡ Some x → IsFound p ys x) → IsFound p (y ∷ ys) x
    by true t is rest = let same : y ≡ x = same_Some y x is in record { there = subst (Contains (y ∷ ys)) same (contains_head y ys); passes = subst (λ z. p z ≡ true) same t }
    by false t is rest = let later = rest is in record { there = contains_tail y ys x later.there; passes = later.passes }

-- An event that no entry is named by names none.
pub names_nothing : (head : Head) (before : List (Entry Event)) (event : Event) → ((e : Entry Event) → names event e ≡ false) → None ≡ named_in (protocol head) before event
names_nothing head before event none = sym (find_none (λ e. names event e) before none)

module _ (head : Head) (before : List (Entry Event)) (run : IsRun head before) where
  -- The entry at a place has that step.
  at_there : (step : ℕ) (e : Entry Event) → Some e ≡ slice_get before step → Contains before e × (e.step ≡ step)
  at_there step e at =
      let within : step < length before = slice_get_within before step e (sym at) in
      ((step, within, same_Some _ _ (sym (slice_get-get_or before step e within) ∙ sym at)), run_step head before step e run (sym at))

  there_at : (step : ℕ) (e : Entry Event) → Contains before e → e.step ≡ step → slice_get before step ≡ Some e
  there_at step e (k, inside, is) at =
      let got : slice_get before k ≡ Some e = slice_get-get_or before k e inside ∙ ap Some is in
      let place : e.step ≡ k = run_step head before k e run got in
      ap (slice_get before) (sym at ∙ place) ∙ got

  -- ---- a hearing's and a meeting's cause

  pub eval_there : (actor : ActorId) (number step : ℕ) (e : Entry Event) (b : Bool) → Some e ≡ slice_get before step → IsTrue b ↔ Evaluates actor number e.event → IsTrue b ↔ Any (IsEvalOf actor number step) before
  eval_there actor number step e b at same = (
    λ hit. let there = at_there step e at in (there.0.0, e, there.0.1, there.0.2, record { at = there.1; eval = same.0 hit }),
    λ (k, x, inside, is, p).
        let same_entry : e ≡ x = same_Some e x (at ∙ there_at step x (k, inside, is) p.at) in
        same.1 (subst (λ y. Evaluates actor number y.event) (sym same_entry) p.eval),
  )

  pub no_eval : (actor : ActorId) (number step : ℕ) → None ≡ slice_get before step → IsTrue false ↔ Any (IsEvalOf actor number step) before
  no_eval actor number step none = (λ hit. absurd cc, λ (k, x, inside, is, p). absurd (cc (none, there_at step x (k, inside, is) p.at)))

  pub told_there : (id : TxnId) (step : ℕ) (e : Entry Event) (b : Bool) → Some e ≡ slice_get before step → IsTrue b ↔ TellsCommitted id e.event → IsTrue b ↔ Any (IsCommittedTold id step) before
  told_there id step e b at same = (
    λ hit. let there = at_there step e at in (there.0.0, e, there.0.1, there.0.2, record { at = there.1; tell = same.0 hit }),
    λ (k, x, inside, is, p).
        let same_entry : e ≡ x = same_Some e x (at ∙ there_at step x (k, inside, is) p.at) in
        same.1 (subst (λ y. TellsCommitted id y.event) (sym same_entry) p.tell),
  )

  pub none_told : (id : TxnId) (step : ℕ) → None ≡ slice_get before step → IsTrue false ↔ Any (IsCommittedTold id step) before
  none_told id step none = (λ hit. absurd cc, λ (k, x, inside, is, p). absurd (cc (none, there_at step x (k, inside, is) p.at)))

  -- ---- an evaluation's cause

  sends : (range : ActorId) (number : ℕ) (event : Event) → SendsTo range number event → is_send_of number event ≡ true
  sends (actors.Range range) number (events.Send sent to request) h = eq-eqb sent number h.0
  sends range number event h = absurd h

  names_send : (actor range : ActorId) (number : ℕ) (reply : Reply) (x : Entry Event) → IsSendTo range actor number x → names (events.Eval actor number reply) x ≡ true
  names_send actor range number reply x p =
      and_from (same_id actor x.actor) (is_send_of number x.event) (same_id-equal actor x.actor (sym p.whose)) (sends range number x.event p.send)

  pub send_there : (actor range : ActorId) (number : ℕ) (reply : Reply) (e : Entry Event) (b : Bool) → Some e ≡ named_in (protocol head) before (events.Eval actor number reply) → IsTrue b ↔ SendsTo range number e.event → IsTrue b ↔ Any (IsSendTo range actor number) before
  send_there actor range number reply e b named same =
      let event = events.Eval actor number reply in
      let found = found_there (λ x. names event x) before e (sym named) in
      let whose : actor ≡ e.actor = same_id-true actor e.actor (and_parts (same_id actor e.actor) (is_send_of number e.event) found.passes).0 in
      let there = found.there in (
        λ hit. (there.0, e, there.1, there.2, record { whose = sym whose; send = same.0 hit }),
        λ (k, x, inside, is, p).
            let same_entry : e ≡ x = names_one head before event run e x there (k, inside, is) found.passes (names_send actor range number reply x p) in
            same.1 (subst (λ y. SendsTo range number y.event) (sym same_entry) p.send),
      )

  pub no_send : (actor range : ActorId) (number : ℕ) (reply : Reply) → None ≡ named_in (protocol head) before (events.Eval actor number reply) → IsTrue false ↔ Any (IsSendTo range actor number) before
  no_send actor range number reply none = (
    λ hit. absurd cc,
    λ (k, x, inside, is, p).
        let found = find_some (λ y. names (events.Eval actor number reply) y) before x (k, inside, is) (names_send actor range number reply x p) in
        absurd (cc (none, found.1)),
  )

  -- ---- what stands at the step that is named

  module _ (test : Event → Bool) (event : Event) (step : ℕ) (one : (x : Entry Event) → names event x ≡ (x.step == step && test x.event)) where
    named_at : (e : Entry Event) → Some e ≡ slice_get before step → test e.event ≡ true → find (λ x. names event x) before ≡ Some e
    named_at e at passes =
        let there = at_there step e at in
        let named : names event e ≡ true = one e ∙ and_from (e.step == step) (test e.event) (eq-eqb e.step step there.1) passes in
        let found = find_some (λ x. names event x) before e there.0 named in
        found.1 ∙ ap Some (names_one head before event run found.0 e found.2 there.0 found.3 named)

    not_named : (o : Option (Entry Event)) → o ≡ slice_get before step → ((e : Entry Event) → o ≡ Some e → test e.event ≡ true → ⊥) → find (λ x. names event x) before ≡ None
    not_named o at contra = by (find (λ x. names event x) before) refl
      where
        by : (found : Option (Entry Event)) → find (λ x. names event x) before ≡ found → found ≡ None
        by None e = refl
        by (Some x) e =
            let there = found_there (λ y. names event y) before x e in
            let parts = and_parts (x.step == step) (test x.event) (sym (one x) ∙ there.passes) in
            absurd (contra x (at ∙ there_at step x there.there (eqb-true x.step step parts.0)) parts.1)

  pub evaluated_at : (number step : ℕ) (e : Entry Event) → Some e ≡ slice_get before step → is_eval e.event ≡ true → Some e ≡ named_in (protocol head) before (events.Hear number step)
  evaluated_at number step e at passes = sym (named_at is_eval (events.Hear number step) step (λ x. refl) e at passes)

  pub none_evaluated : (number step : ℕ) (o : Option (Entry Event)) → o ≡ slice_get before step → ((e : Entry Event) → o ≡ Some e → is_eval e.event ≡ true → ⊥) → None ≡ named_in (protocol head) before (events.Hear number step)
  none_evaluated number step o at contra = sym (not_named is_eval (events.Hear number step) step (λ x. refl) o at contra)

  pub told_at_step : (id : TxnId) (step : ℕ) (e : Entry Event) → Some e ≡ slice_get before step → is_tell e.event ≡ true → Some e ≡ named_in (protocol head) before (events.Meet id step)
  told_at_step id step e at passes = sym (named_at is_tell (events.Meet id step) step (λ x. refl) e at passes)

  pub none_told_at : (id : TxnId) (step : ℕ) (o : Option (Entry Event)) → o ≡ slice_get before step → ((e : Entry Event) → o ≡ Some e → is_tell e.event ≡ true → ⊥) → None ≡ named_in (protocol head) before (events.Meet id step)
  none_told_at id step o at contra = sym (not_named is_tell (events.Meet id step) step (λ x. refl) o at contra)
