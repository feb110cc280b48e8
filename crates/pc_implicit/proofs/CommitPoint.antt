-- The entry that decides a transaction committed evaluates a commit that was in force, or a recovery of its staging that found all.
use Rattle.std.proofs.Common.{◌≡◌, ℕ, ◌≤◌, nat_le, Bool, true, false, cond, ◌&&◌, inl, inr, List, [], ◌∷◌, ◌++◌, Option, None, Some, refl, sym, ap, subst, ◌∙◌, arith}
use Rattle.std.proofs.lemmas.Bool.{and_parts, leb-true}
use Rattle.pc_base.specs.declared.actor.ActorId.{ActorId}
use Rattle.pc_base.specs.declared.actor.ActorId.TheVariants as actors
use Rattle.pc_base.specs.declared.entry.Entry.{Entry}
use Rattle.pc_base.specs.declared.transaction.TxnId.{TxnId}
use Rattle.pc_history.specs.History.{MayFollow}
use Rattle.pc_implicit.proofs.Anchored.{commit_anchored}
use Rattle.pc_implicit.proofs.Doing.{same_or_not}
use Rattle.pc_implicit.proofs.Evals.{NamedMessage, evaluated_state, of_entry, range_evaluates}
use Rattle.pc_implicit.proofs.Homes.{home_is}
use Rattle.pc_implicit.proofs.Made.{made_by, status_same}
use Rattle.pc_implicit.proofs.Metas.{place_anchored, subject_anchored}
use Rattle.pc_implicit.proofs.Places.{place_after, place_kept}
use Rattle.pc_implicit.specs.Decided.{decision, epoch_of, time_of}
use Rattle.pc_implicit.specs.Writes.{home_of, place_under}
use Rattle.pc_proto.specs.declared.event.Event.{Event}
use Rattle.pc_proto.specs.declared.event.Event.TheVariants as events
use Rattle.pc_proto.specs.declared.fate.Finding.TheVariants as findings
use Rattle.pc_proto.specs.declared.meta.TxnMeta.{TxnMeta}
use Rattle.pc_proto.specs.declared.record.Standing.TheVariants as standings
use Rattle.pc_proto.specs.declared.reply.Reply.{Reply}
use Rattle.pc_proto.specs.declared.request.Request.{Request}
use Rattle.pc_proto.specs.declared.request.Request.TheVariants as requests
use Rattle.pc_proto.specs.Place.{Place, Nothing, Kept, Marked, Stay, Become, after, is_final}
use Rattle.pc_proto.specs.RecordRows.{place_change, table_after}
use Rattle.pc_proto.specs.RecordRows.Reached.{is_staged_at, status_of}
use Rattle.pc_proto.specs.Requests.{subject}
use Rattle.pc_proto.specs.Table.{Table, applied_to, place_of}
use Rattle.pc_world.proofs.Knowing.{state_other}
use Rattle.pc_world.specs.After.{place_at, state_at}
use Rattle.pc_world.specs.Committed.{anchor_in}
use Rattle.pc_world.specs.Evaluation.{state_after}
use Rattle.pc_world.specs.Local.{Head}
use Rattle.pc_world.specs.RangeOf.{range_of}
use Rattle.pc_world.specs.RangeState.{RangeState}
use Rattle.pc_world.specs.Run.{IsRun, protocol}

-- A commit decides a place that it reaches.
pub record Reaches (meta : TxnMeta) (at : ℕ) (epoch ts : ℕ) (p : Place) : Type 0 where
  pub epoch_is : meta.epoch ≡ epoch
  pub ts_is : at ≡ ts
  pub epoch_low : epoch_of p ≤ epoch
  pub ts_low : time_of p ≤ ts

-- what a commit decides it reaches
commit-reaches : (meta : TxnMeta) (at : ℕ) (locks : List (List ℕ)) (epoch ts : ℕ) (p : Place) → decision p ≡ None
    → decision (after p (place_change (requests.Commit meta at locks) p)) ≡ Some (status_of standings.Committed epoch ts) → Reaches meta at epoch ts p
commit-reaches meta at locks epoch ts Nothing none is =
    let same = status_same meta.epoch epoch at ts is in
    record { epoch_is = same.0; ts_is = same.1; epoch_low = omega arith; ts_low = omega arith }
commit-reaches meta at locks epoch ts (Kept r) none is = by (is_final r.status.standing) refl (nat_le r.status.epoch meta.epoch && nat_le r.status.ts at) refl is
  where
    by : (b : Bool) → is_final r.status.standing ≡ b → (c : Bool) → (nat_le r.status.epoch meta.epoch && nat_le r.status.ts at) ≡ c
        → decision (after (Kept r) (cond b Stay (cond c (Become (record { meta = meta; status = status_of standings.Committed meta.epoch at; activity = r.activity; writes = []; locks = locks })) Stay))) ≡ Some (status_of standings.Committed epoch ts)
        → Reaches meta at epoch ts (Kept r)
    by true final c reached is = let both : None ≡ Some (status_of standings.Committed epoch ts) = sym none ∙ is in absurd cc
    by false final true reached is =
        let same = status_same meta.epoch epoch at ts is in
        let epochs = same.0 in
        let times = same.1 in
        let parts = and_parts (nat_le r.status.epoch meta.epoch) (nat_le r.status.ts at) reached in
        let low : r.status.epoch ≤ meta.epoch = leb-true r.status.epoch meta.epoch parts.0 in
        let early : r.status.ts ≤ at = leb-true r.status.ts at parts.1 in
        record { epoch_is = epochs; ts_is = times; epoch_low = omega (arith, low, epochs); ts_low = omega (arith, early, times) }
    by false final false reached is = let both : None ≡ Some (status_of standings.Committed epoch ts) = sym none ∙ is in absurd cc
commit-reaches meta at locks epoch ts (Marked s) none is = let both : None ≡ Some s = sym none in absurd cc

-- The entry evaluates a commit of the transaction at this epoch and timestamp, which its record had not passed.
pub record DecidesNow (head : Head) (history : List (Entry Event)) (e : Entry Event) (id : TxnId) (epoch ts : ℕ) : Type 0 where
  pub actor : ActorId
  pub number : ℕ
  pub reply : Reply
  pub is : e.event ≡ events.Eval actor number reply
  pub ev : NamedMessage head history e.actor actor number reply
  pub meta : TxnMeta
  pub locks : List (List ℕ)
  pub asks : ev.request ≡ requests.Commit meta ts locks
  pub whose : meta.id ≡ id
  pub epoch_is : meta.epoch ≡ epoch
  pub epoch_low : epoch_of (home_of head id history) ≤ epoch
  pub ts_low : time_of (home_of head id history) ≤ ts

-- The entry evaluates a recovery of the transaction at this epoch and timestamp that found all, where its record staged so.
pub record RecoversNow (head : Head) (history : List (Entry Event)) (e : Entry Event) (id : TxnId) (epoch ts : ℕ) : Type 0 where
  pub actor : ActorId
  pub number : ℕ
  pub reply : Reply
  pub is : e.event ≡ events.Eval actor number reply
  pub ev : NamedMessage head history e.actor actor number reply
  pub anchor : List ℕ
  pub asks : ev.request ≡ requests.Recover id epoch ts anchor findings.All
  pub staged : is_staged_at (home_of head id history) epoch ts ≡ true
  pub later : decision (place_at head ev.range id (history ++ e ∷ [])) ≡ Some (status_of standings.Committed epoch ts)

-- How an entry decides a transaction committed.
pub data DecidesSo (head : Head) (history : List (Entry Event)) (e : Entry Event) (id : TxnId) (epoch ts : ℕ) : Type 0 where
  ByCommit : DecidesNow head history e id epoch ts → DecidesSo head history e id epoch ts
  ByRecovery : RecoversNow head history e id epoch ts → DecidesSo head history e id epoch ts

-- The request is a commit of the transaction, or a recovery of it that found all where this place is staged so.
pub data IsDecisive (id : TxnId) (epoch ts : ℕ) (p : Place) (request : Request) : Type 0 where
  ACommit : (meta : TxnMeta) (at : ℕ) (locks : List (List ℕ)) → request ≡ requests.Commit meta at locks → meta.id ≡ id → IsDecisive id epoch ts p request
  ARecovery : (anchor : List ℕ) → request ≡ requests.Recover id epoch ts anchor findings.All → is_staged_at p epoch ts ≡ true → IsDecisive id epoch ts p request

module _ (head : Head) (history : List (Entry Event)) (run : IsRun head history) (e : Entry Event) (may : MayFollow (protocol head) history e)
    (id : TxnId) (epoch ts : ℕ) (none : decision (home_of head id history) ≡ None) where
  none-anywhere : (range : ℕ) → decision (place_at head range id history) ≡ Some (status_of standings.Committed epoch ts) → ⊥
  none-anywhere range decided =
      elim (place_anchored head history run range id) [
        | inl nothing ↦ let both : decision Nothing ≡ Some (status_of standings.Committed epoch ts) = ap decision (sym nothing) ∙ decided in absurd cc
        | inr at ↦
            let there : place_at head range id history ≡ home_of head id history = ap (λ r. place_at head r id history) at.there ∙ sym (home_is head id history at.anchor at.anchored) in
            let both : None ≡ Some (status_of standings.Committed epoch ts) = sym none ∙ ap decision (sym there) ∙ decided in absurd cc
      ]

  decisive : (actor : ActorId) (number : ℕ) (reply : Reply) (ev : NamedMessage head history e.actor actor number reply)
      → decision (place_of id (state_after ev.request (state_at head ev.range history)).table) ≡ Some (status_of standings.Committed epoch ts)
      → IsDecisive id epoch ts (place_at head ev.range id history) ev.request
  decisive actor number reply ev decided =
      let s = state_at head ev.range history in
      let p = place_of id s.table in
      place_kept (λ q. decision q ≡ Some (status_of standings.Committed epoch ts) → IsDecisive id epoch ts p ev.request) ev.request id s.table
      (λ about old. made_by epoch ts p (IsDecisive id epoch ts p ev.request) old ev.request
      (λ meta at locks asked.
      let whose : meta.id ≡ id = let both : Some meta.id ≡ Some id = sym (ap subject asked) ∙ about in cc in
      ACommit meta at locks asked whose)
      (λ other anchor asked staged.
      let whose : other ≡ id = let both : Some other ≡ Some id = sym (ap subject asked) ∙ about in cc in
      ARecovery anchor (asked ∙ ap (λ i. requests.Recover i epoch ts anchor findings.All) whose) staged))
      (λ before. absurd (none-anywhere ev.range before)) decided

  commit-place : (meta : TxnMeta) (at : ℕ) (locks : List (List ℕ)) (t : Table) → meta.id ≡ id → place_of id (table_after (requests.Commit meta at locks) t) ≡ after (place_of id t) (place_change (requests.Commit meta at locks) (place_of id t))
  commit-place meta at locks t whose =
      subst (λ i. place_of i (applied_to meta.id (place_change (requests.Commit meta at locks) (place_of meta.id t)) t) ≡ after (place_of i t) (place_change (requests.Commit meta at locks) (place_of i t))) whose
      (place_after meta.id (place_change (requests.Commit meta at locks) (place_of meta.id t)) t)

  at-home : (range : ℕ) (anchor : List ℕ) → range ≡ range_of head.splits anchor → anchor_in id history ≡ Some anchor → place_at head range id history ≡ home_of head id history
  at-home range anchor there anchored = ap (λ r. place_at head r id history) there ∙ sym (home_is head id history anchor anchored)

  commit-decides : (actor : ActorId) (number : ℕ) (reply : Reply) (ev : NamedMessage head history e.actor actor number reply) → e.event ≡ events.Eval actor number reply
      → decision (place_of id (state_after ev.request (state_at head ev.range history)).table) ≡ Some (status_of standings.Committed epoch ts)
      → (meta : TxnMeta) (at : ℕ) (locks : List (List ℕ)) → ev.request ≡ requests.Commit meta at locks → meta.id ≡ id → DecidesNow head history e id epoch ts
  commit-decides actor number reply ev is decided meta at locks asks whose =
      let s = state_at head ev.range history in
      let sends : ev.send.event ≡ events.Send number ev.range (requests.Commit meta at locks) = ev.sends ∙ ap (events.Send number ev.range) asks in
      let anchored = commit_anchored head history run ev.send ev.listed number ev.range meta at locks sends in
      let here : place_at head ev.range id history ≡ home_of head id history = at-home ev.range meta.anchor anchored.there (ap (λ i. anchor_in i history) (sym whose) ∙ anchored.anchor) in
      let undecided : decision (place_of id s.table) ≡ None = ap decision here ∙ none in
      let made : decision (after (place_of id s.table) (place_change (requests.Commit meta at locks) (place_of id s.table))) ≡ Some (status_of standings.Committed epoch ts) =
      ap decision (sym (commit-place meta at locks s.table whose)) ∙ ap (λ r. decision (place_of id (state_after r s).table)) (sym asks) ∙ decided in
      let r = commit-reaches meta at locks epoch ts (place_of id s.table) undecided made in
      record {
        actor = actor;
        number = number;
        reply = reply;
        is = is;
        ev = ev;
        meta = meta;
        locks = locks;
        asks = asks ∙ ap (λ n. requests.Commit meta n locks) r.ts_is;
        whose = whose;
        epoch_is = r.epoch_is;
        epoch_low = subst (λ p. epoch_of p ≤ epoch) here r.epoch_low;
        ts_low = subst (λ p. time_of p ≤ ts) here r.ts_low;
      }

  decides-there : (actor : ActorId) (number : ℕ) (reply : Reply) (ev : NamedMessage head history e.actor actor number reply) → e.event ≡ events.Eval actor number reply
      → decision (place_at head ev.range id (history ++ e ∷ [])) ≡ Some (status_of standings.Committed epoch ts) → DecidesSo head history e id epoch ts
  decides-there actor number reply ev is later =
      let decided : decision (place_of id (state_after ev.request (state_at head ev.range history)).table) ≡ Some (status_of standings.Committed epoch ts) =
      ap (λ (s : RangeState). decision (place_of id s.table)) (sym (evaluated_state head history e actor number ev.range reply ev is)) ∙ later in
      elim (decisive actor number reply ev decided) [
        | ACommit meta at locks asks whose ↦ ByCommit (commit-decides actor number reply ev is decided meta at locks asks whose)
        | ARecovery anchor asks staged ↦
            let sends : ev.send.event ≡ events.Send number ev.range (requests.Recover id epoch ts anchor findings.All) = ev.sends ∙ ap (events.Send number ev.range) asks in
            let anchored = subject_anchored head history run ev.send ev.listed number ev.range (requests.Recover id epoch ts anchor findings.All) id sends refl in
            ByRecovery (record {
              actor = actor;
              number = number;
              reply = reply;
              is = is;
              ev = ev;
              anchor = anchor;
              asks = asks;
              staged = subst (λ p. is_staged_at p epoch ts ≡ true) (at-home ev.range anchored.anchor anchored.there anchored.anchored) staged;
              later = later;
            })
      ]

  decides-at : (range : ℕ) → decision (place_at head range id (history ++ e ∷ [])) ≡ Some (status_of standings.Committed epoch ts) → DecidesSo head history e id epoch ts
  decides-at range decided =
      elim (same_or_not e.actor (actors.Range range)) [
        | inl at ↦
            let what = range_evaluates head history e range may at in
            let ev = of_entry head history e what.0 what.1 what.2 run may what.3 in
            let same : ev.range ≡ range = let both = sym ev.there ∙ at in cc both in
            let there : decision (place_at head ev.range id (history ++ e ∷ [])) ≡ Some (status_of standings.Committed epoch ts) = ap (λ r. decision (place_at head r id (history ++ e ∷ []))) same ∙ decided in
            decides-there what.0 what.1 what.2 ev what.3 there
        | inr differ ↦
            absurd (none-anywhere range (ap (λ (s : RangeState). decision (place_of id s.table)) (sym (state_other head (actors.Range range) history e differ)) ∙ decided))
      ]

  -- what is decided committed after the entry, and was not decided before it
  pub decides_how : decision (home_of head id (history ++ e ∷ [])) ≡ Some (status_of standings.Committed epoch ts) → DecidesSo head history e id epoch ts
  decides_how decided = by (anchor_in id (history ++ e ∷ [])) decided
    where
      by : (o : Option (List ℕ)) → decision (place_under head id (history ++ e ∷ []) o) ≡ Some (status_of standings.Committed epoch ts) → DecidesSo head history e id epoch ts
      by None decided = absurd cc
      by (Some anchor) decided = decides-at (range_of head.splits anchor) decided
