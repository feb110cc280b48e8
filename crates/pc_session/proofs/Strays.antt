-- What was set aside of the open transaction's epoch waits still, or is waited for, or is left by an answer that ends the epoch.
use Rattle.std.proofs.Common.{◌≡◌, ℕ, ◌-◌, Bool, true, false, ◌==◌, ◌||◌, ◌⊎◌, inl, inr, cond, All, Any, Contains, IsTrue, List, [], ◌∷◌, Option, None, Some, drop, length, take, take-append-drop, refl, sym, ap, subst, ◌∙◌}
use Rattle.std.proofs.lemmas.Bool.{eq-eqb}
use Rattle.std.proofs.lemmas.List.Elements.{All-contains, Contains-append_cases}
use Rattle.std.proofs.lemmas.List.Folds.{list_any-append}
use Rattle.std.proofs.lemmas.Option.{same_Some}
use Rattle.std.specs.List.{list_any}
use Rattle.pc_base.specs.declared.transaction.TxnId.{TxnId}
use Rattle.pc_call.proofs.Facts.{before_is}
use Rattle.pc_call.specs.declared.call.OpenCall.{OpenCall}
use Rattle.pc_call.specs.declared.later.LaterPut.{LaterPut}
use Rattle.pc_call.specs.Learned.{known_told}
use Rattle.pc_call.specs.Outbox.{IsHeardOrLeft, IsReplyToMessage, IsSentAs, has_waited}
use Rattle.pc_call.specs.Serving.{IsSplit}
use Rattle.pc_call.specs.Stages.{HasOutboxBetween}
use Rattle.pc_coord.proofs.Learned.{told_is}
use Rattle.pc_coord.specs.Coordination.{Coordination, awaits_number}
use Rattle.pc_coord.specs.declared.due.Due.{Due}
use Rattle.pc_coord.specs.declared.due.Due.TheVariants as dues
use Rattle.pc_coord.specs.Knows.{HasCallDue, IsHeld, IsOutboxOf, Knows, KnowsAt, TellsNow, learned}
use Rattle.pc_follows.specs.PipelinedPuts.{heard_before}
use Rattle.pc_proto.specs.declared.answer.Answer.{Answer}
use Rattle.pc_proto.specs.declared.answer.Answer.TheVariants as answers
use Rattle.pc_proto.specs.declared.call.Call.{Call}
use Rattle.pc_lists.proofs.Lists.{contains_nil}
use Rattle.pc_proto.specs.declared.call.Call.TheVariants as calls
use Rattle.pc_proto.specs.declared.event.Event.TheVariants as events
use Rattle.pc_proto.specs.declared.request.Request.{Request}
use Rattle.pc_proto.specs.declared.request.Request.TheVariants as requests
use Rattle.pc_proto.specs.Requests.{is_put, is_put_of}
use Rattle.pc_session.proofs.Away.{any_there}
use Rattle.pc_session.specs.InCall.{IsApartNow, IsPutOfEpoch, LeavesStrays, ends_epoch}
use Rattle.pc_txn.specs.declared.txn.OpenTxn.{OpenTxn}
use Rattle.pc_wave.specs.Messages.{awaits_at}
use Rattle.pc_wave.specs.Standing.{goes_beside}
use Rattle.pc_world.specs.Known.{Known, call_of, first_if, open_txn, told_first, txns_told}
use Rattle.pc_world.specs.Known.Statements.{Statement, is_open_told}
use Rattle.pc_world.specs.Known.Traffic.{Heard, Sent, replies_to}
use Rattle.pc_world.specs.Known.Transactions.{Txn, epoch_told, txn_told}
use Rattle.pc_world.specs.Tell.Refusal.{is_heard}

pub put_beside : (r : Request) → is_put r ≡ true → goes_beside r ≡ false
put_beside (requests.Put meta seq ts key value) is = refl
put_beside r is = absurd cc

put_of_is : (t : Txn) (seq : ℕ) (r : Request) → IsTrue (is_put_of t.id t.epoch seq r) → is_put r ≡ true
put_of_is t seq (requests.Put meta own ts key value) is = refl
put_of_is t seq r is = absurd cc

-- what was heard before was heard
pub heard_front : (n : ℕ) (hs : List Heard) (m : Sent) → is_heard (take n hs) m ≡ true → is_heard hs m ≡ true
heard_front n hs m is =
    let p : Heard → Bool = λ h. h.number == m.number in
    ap (list_any p) (sym (take-append-drop n hs)) ∙ (list_any-append p (take n hs) (drop n hs) ∙ ap (λ b. b || list_any p (drop n hs)) is)

pub reply_heard : (m : Sent) (hs : List Heard) → Any (IsReplyToMessage m) hs → is_heard hs m ≡ true
reply_heard m hs any = any_there (λ (h : Heard). h.number == m.number) hs any.1 (eq-eqb any.1.number m.number any.4.numbered) (any.0, any.2, any.3)

-- what was heard in the call was heard
pub heard_since : (k : Known) → IsApartNow k → (m : Sent) → is_heard k.heard_now m ≡ true → is_heard k.heard m ≡ true
heard_since k apart m now =
    let p : Heard → Bool = λ h. h.number == m.number in
    ap (list_any p) apart.split ∙ (list_any-append p apart.before k.heard_now ∙ or_last (list_any p apart.before) (list_any p k.heard_now) now)
  where
    or_last : (a b : Bool) → b ≡ true → (a || b) ≡ true
    or_last true b e = refl
    or_last false b e = e

leaves : (o : Option Call) (answer : Answer) → ends_epoch answer ≡ true → LeavesStrays o (dues.Tell answer)
leaves (Some calls.Rollback) answer is = tt
leaves None answer is = is
leaves (Some call) answer is = is

-- an answer that ends no epoch keeps the transaction and its epoch
still_epoch : (answer : Answer) (epoch : ℕ) → ends_epoch answer ≡ false → epoch_told answer epoch ≡ epoch
still_epoch (answers.Restart key ts) epoch isnt = absurd cc
still_epoch answer epoch isnt = refl

still_open : (answer : Answer) → ends_epoch answer ≡ false → is_open_told answer true ≡ true
still_open (answers.Committed id ts) isnt = absurd cc
still_open (answers.RolledBack id why) isnt = absurd cc
still_open (answers.Aborted why) isnt = absurd cc
still_open (answers.Unknown id) isnt = absurd cc
still_open (answers.Begun id ts) isnt = refl
still_open answer isnt = refl

-- what is open is open
pub is_open_by : (b : Bool) (ts : List Txn) (t : Txn) → first_if b ts ≡ Some t → b ≡ true
is_open_by true ts t first = refl
is_open_by false (x ∷ ts) t first = absurd cc
is_open_by false [] t first = absurd cc

-- The answer begins no transaction.
abbrev pub IsNoBegin : Answer → Type 0
IsNoBegin answer = (id : TxnId) (ts : ℕ) → answer ≡ answers.Begun id ts → ⊥

pub txns_plain : (answer : Answer) (k : Known) → IsNoBegin answer → txns_told answer k ≡ cond k.is_open (told_first answer (replies_to k.sent_now k.heard_now) k.txns) k.txns
txns_plain (answers.Begun id ts) k isnt = absurd (isnt id ts refl)
txns_plain answer k isnt = refl

opened_told : (answer : Answer) (replied : List Heard) (t : Txn) → ends_epoch answer ≡ false → (b : Bool) (ts : List Txn) → first_if b ts ≡ Some t → first_if (is_open_told answer b) (cond b (told_first answer replied ts) ts) ≡ Some (txn_told answer replied t)
opened_told answer replied t on true (x ∷ ts) first = ap (λ b. first_if b (told_first answer replied (x ∷ ts))) (still_open answer on) ∙ ap (λ (y : Txn). Some (txn_told answer replied y)) (same_Some x t first)
opened_told answer replied t on true [] first = absurd cc
opened_told answer replied t on false (x ∷ ts) first = absurd cc
opened_told answer replied t on false [] first = absurd cc

module _ (c : Coordination) (k : Known) (knows : Knows false c k) (s : Statement) (opened_s : k.statement ≡ Some s) (begins : (id : TxnId) (ts : ℕ) → c.due ≡ dues.Tell (answers.Begun id ts) → ⊥) (apart : IsApartNow k)
    (t : Txn) (opened : open_txn k ≡ Some t) (m : Sent) (there : Contains k.sent m) (unheard : is_heard k.heard m ≡ false) (own : IsPutOfEpoch t m) where
  -- It waits still, or is waited for, or is left.
  abbrev Waits : Due → Type 0
  Waits due = (has_waited m.number c.later ≡ true) ⊎ (awaits_number m.number due ≡ true) ⊎ LeavesStrays (call_of k) due

  not_beside : goes_beside m.request ≡ true → ⊥
  not_beside is = let e : false ≡ true = sym (put_beside m.request (put_of_is t own.seq m.request own.put)) ∙ is in cc e

  waited_later : Any (IsSentAs m) c.later → has_waited m.number c.later ≡ true
  waited_later any = any_there (λ (put : LaterPut). put.number == m.number) c.later any.1 (eq-eqb any.1.number m.number any.4.numbered) (any.0, any.2, any.3)

  unreplied : Any (IsReplyToMessage m) k.heard_now → ⊥
  unreplied reply = let e : true ≡ false = sym (heard_since k apart m (reply_heard m k.heard_now reply)) ∙ unheard in cc e

  call_waits : (call : OpenCall) → HasCallDue false c k call → list_any (λ (x : Sent). x.number == m.number) k.sent_now ≡ false → Waits (dues.Call call)
  call_waits call at before =
      let w = at.in_call in
      let split : IsSplit k = w.split in
      let front : Contains split.sent_first m = elim (Contains-append_cases split.sent_first k.sent_now m (subst (λ ms. Contains ms m) split.sent there)) [
        | inl here ↦ here
        | inr now ↦ absurd (let e : true ≡ false = sym (any_there (λ (x : Sent). x.number == m.number) k.sent_now m (eq-eqb m.number m.number refl) now) ∙ before in cc e)
      ] in
      let has = at.aside.outbox.has in
      let same : has.t ≡ t = same_Some has.t t (sym has.opened ∙ opened) in
      let left = All-contains (IsHeardOrLeft (heard_before k) k.heard_now has.t c.later call.wave) split.sent_first m (subst (All (IsHeardOrLeft (heard_before k) k.heard_now has.t c.later call.wave)) (before_is k split) (has.left refl)) front in
      elim left [
        | inl heard ↦ absurd (let e : true ≡ false = sym (heard_front (length k.heard - length k.heard_now) k.heard m heard) ∙ unheard in cc e)
        | inr (inl beside) ↦ absurd (not_beside beside)
        | inr (inr put) ↦ elim (put.waits own.seq (subst (λ (t : Txn). IsTrue (is_put_of t.id t.epoch own.seq m.request)) (sym same) own.put)) [
          | inl later ↦ inl (waited_later later)
          | inr (inl way) ↦ inr (inl (any_there (awaits_at m.number) call.wave way.1 way.4.waited (way.0, way.2, way.3)))
          | inr (inr reply) ↦ absurd (unreplied reply)
        ]
      ]

  module _ (answer : Answer) (on : ends_epoch answer ≡ false) (no_begin : IsNoBegin answer) where
    abbrev told : Known
    told = known_told answer k

    abbrev u : Txn
    u = txn_told answer (replies_to k.sent_now k.heard_now) t

    -- the transaction stays open
    opened_then : open_txn told ≡ Some u
    opened_then =
        ap (λ ts. first_if (is_open_told answer k.is_open) ts) (txns_plain answer k no_begin)
        ∙ opened_told answer (replies_to k.sent_now k.heard_now) t on k.is_open k.txns opened

    no_left : (x : OpenTxn) → HasOutboxBetween false (learned (events.Tell answer) k) x c.later → has_waited m.number c.later ≡ true
    no_left x box =
        let has = subst (λ (n : Known). HasOutboxBetween false n x c.later) (told_is answer k) box in
        let same : has.t ≡ u = same_Some has.t u (sym has.opened ∙ opened_then) in
        let left = All-contains (IsHeardOrLeft k.heard [] has.t c.later []) k.sent m (has.left refl) there in
        let own_then : IsTrue (is_put_of u.id u.epoch own.seq m.request) = subst (λ e. IsTrue (is_put_of t.id e own.seq m.request)) (sym (still_epoch answer t.epoch on)) own.put in
        elim left [
          | inl heard ↦ absurd (let e : true ≡ false = sym heard ∙ unheard in cc e)
          | inr (inl beside) ↦ absurd (not_beside beside)
          | inr (inr put) ↦ elim (put.waits own.seq (subst (λ (v : Txn). IsTrue (is_put_of v.id v.epoch own.seq m.request)) (sym same) own_then)) [
            | inl later ↦ waited_later later
            | inr (inl way) ↦ absurd (contains_nil way.1 (way.0, way.2, way.3))
            | inr (inr reply) ↦ absurd (contains_nil reply.1 (reply.0, reply.2, reply.3))
          ]
        ]

    waits_rest : TellsNow false c k answer → has_waited m.number c.later ≡ true
    waits_rest at = by c.txn refl at.after.held at.after.outbox
      where
        closed_never : (learned (events.Tell answer) k).is_open ≡ false → ⊥
        closed_never closed =
            let open_then : (known_told answer k).is_open ≡ false = sym (ap (λ (n : Known). n.is_open) (told_is answer k)) ∙ closed in
            let both : is_open_told answer true ≡ false = ap (is_open_told answer) (sym (is_open_by k.is_open k.txns t opened)) ∙ open_then in
            let e : true ≡ false = sym (still_open answer on) ∙ both in
            cc e

        by : (txn : Option OpenTxn) → c.txn ≡ txn → IsHeld txn (learned (events.Tell answer) k) → IsOutboxOf false txn c.later (learned (events.Tell answer) k) → has_waited m.number c.later ≡ true
        by None is held box = absurd (closed_never held)
        by (Some x) is held box = no_left x box

  tell_waits : (answer : Answer) → c.due ≡ dues.Tell answer → TellsNow false c k answer → Waits (dues.Tell answer)
  tell_waits answer due at = by (ends_epoch answer) refl
    where
      by : (b : Bool) → ends_epoch answer ≡ b → Waits (dues.Tell answer)
      by true is = inr (inr (leaves (call_of k) answer is))
      by false on = inl (waits_rest answer on (λ id ts is. begins id ts (due ∙ ap (λ (a : Answer). dues.Tell a) is)) at)

  -- whatever is due
  pub waits_still : ((call : OpenCall) → c.due ≡ dues.Call call → list_any (λ (x : Sent). x.number == m.number) k.sent_now ≡ false) → Waits c.due
  waits_still before = by c.due refl knows.stands
    where
      by : (due : Due) → c.due ≡ due → KnowsAt false c k due → Waits due
      by dues.Nothing is at = absurd (let both : None ≡ Some s = sym at.none_open ∙ opened_s in cc both)
      by (dues.Call call) is at = call_waits call at (before call is)
      by (dues.Tell answer) is at = tell_waits answer is at
