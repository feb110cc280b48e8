-- A transaction that an entry doesn't touch is committed after it just as before.
use Rattle.std.proofs.Common.{◌≡◌, ◌≢◌, ℕ, Bool, true, false, cond, List, [], ◌∷◌, ◌++◌, Option, None, Some, refl, sym, ap, subst, ◌∙◌, arith, slice_get}
use Rattle.std.proofs.lemmas.List.Elements.{filter_map-append}
use Rattle.std.specs.List.{filter_map, list_all}
use Rattle.pc_base.specs.declared.actor.ActorId.TheVariants as actors
use Rattle.pc_base.specs.declared.entry.Entry.{Entry}
use Rattle.pc_base.specs.declared.transaction.TxnId.{TxnId}
use Rattle.pc_history.proofs.Ids.{same_id-equal, same_id-true}
use Rattle.pc_history.specs.Own.{same_id}
use Rattle.pc_implicit.proofs.Places.{place_other}
use Rattle.pc_proto.specs.declared.answer.Answer.{Answer}
use Rattle.pc_proto.specs.declared.answer.Answer.TheVariants as answers
use Rattle.pc_proto.specs.declared.event.Event.{Event}
use Rattle.pc_proto.specs.declared.event.Event.TheVariants as events
use Rattle.pc_proto.specs.declared.request.Request.{Request}
use Rattle.pc_proto.specs.declared.request.Request.TheVariants as requests
use Rattle.pc_proto.specs.Intents.{own_at}
use Rattle.pc_proto.specs.Place.{Place, Nothing, Kept, Marked}
use Rattle.pc_proto.specs.RecordRows.{place_change, table_for}
use Rattle.pc_proto.specs.Requests.{subject}
use Rattle.pc_proto.specs.Table.{Table, place_of}
use Rattle.pc_report.proofs.Intents.{is_one, own_stays}
use Rattle.pc_report.proofs.Naming.{asked_send}
use Rattle.pc_report.specs.Replaying.{asked_in, first_of, touched, touched_by, touched_in}
use Rattle.pc_world.proofs.Knowing.{state_other, state_same}
use Rattle.pc_world.specs.After.{place_at, state_at}
use Rattle.pc_world.specs.Committed.{anchor_in, commit_at, commit_by, commit_in, commit_ts, committed_in, is_present, key_sent, told_at}
use Rattle.pc_world.specs.Evaluation.Query.{is_found}
use Rattle.pc_world.specs.Local.{Head}
use Rattle.pc_world.specs.RangeOf.{range_of}
use Rattle.pc_world.specs.RangeState.{RangeState}
use Rattle.pc_world.specs.StateOf.{state_with}

-- the first of what a history gives, one entry further
first-joined : {V : Type 0} (xs ys : List V) → slice_get (xs ++ ys) 0 ≡ first_of (slice_get xs 0) (slice_get ys 0)
first-joined [] ys = refl
first-joined (x ∷ xs) ys = refl

first-alone : {V : Type 0} (f : Entry Event → Option V) (e : Entry Event) (o : Option V) → f e ≡ o → slice_get (filter_map f (e ∷ [])) 0 ≡ o
first-alone f e None h = grind arith
first-alone f e (Some v) h = grind arith

pub first_push : {V : Type 0} (f : Entry Event → Option V) (history : List (Entry Event)) (e : Entry Event) → slice_get (filter_map f (history ++ e ∷ [])) 0 ≡ first_of (slice_get (filter_map f history) 0) (f e)
first_push f history e =
    ap (λ xs. slice_get xs 0) (filter_map-append f history (e ∷ []))
    ∙ first-joined (filter_map f history) (filter_map f (e ∷ []))
    ∙ ap (first_of (slice_get (filter_map f history) 0)) (first-alone f e (f e) refl)

pub first_none : {V : Type 0} (o : Option V) → first_of o None ≡ o
first_none None = refl
first_none (Some v) = refl

-- the range has of the transaction what it had
pub record IsAs (id : TxnId) (s t : RangeState) : Type 0 where
  pub place : place_of id t.table ≡ place_of id s.table
  pub own : (key : List ℕ) → own_at id key t.intents ≡ own_at id key s.intents

module _ (id : TxnId) where
  place-for : (one : Option TxnId) (request : Request) (t : Table) → is_one id one ≡ false → place_of id (table_for one request t) ≡ place_of id t
  place-for None request t h = refl
  place-for (Some one) request t h = place_other one id (place_change request (place_of one t)) t h

  subject-apart : (request : Request) → is_one id (touched request) ≡ false → is_one id (subject request) ≡ false
  subject-apart (requests.Put meta seq ts key value) h = refl
  subject-apart (requests.Resolve one key fate) h = refl
  subject-apart request h = h

  with-stays : (asked : Option Request) (s : RangeState) → is_one id (touched_by asked) ≡ false → IsAs id s (state_with asked s)
  with-stays None s h = record { place = refl; own = λ key. refl }
  with-stays (Some request) s h = record {
    place = place-for (subject request) request s.table (subject-apart request h);
    own = λ key. own_stays id key request s h;
  }

  asked-apart : (history : List (Entry Event)) (event : Event) → is_one id (touched_in (asked_in history event) event) ≡ false → is_one id (touched_by (asked_in history event)) ≡ false
  asked-apart history (events.Send number range request) h = ap (λ o. is_one id (touched_by o)) (asked_send history number range request)
  asked-apart history (events.Tell answer) h = ap (λ o. is_one id (touched_by o)) (asked_none history answer)
    where
      asked_none : (history : List (Entry Event)) (answer : Answer) → asked_in history (events.Tell answer) ≡ None
      asked_none history answer = asked_send history 0 0 requests.Records
  asked-apart history event h = h

  module _ (head : Head) (history : List (Entry Event)) (e : Entry Event) where
    state-stays : (range : ℕ) → is_one id (touched_by (asked_in history e.event)) ≡ false → IsAs id (state_at head range history) (state_at head range (history ++ e ∷ []))
    state-stays range h = by (same_id (actors.Range range) e.actor) refl
      where
        by : (b : Bool) → same_id (actors.Range range) e.actor ≡ b → IsAs id (state_at head range history) (state_at head range (history ++ e ∷ []))
        by true t =
            subst (IsAs id (state_at head range history)) (sym (state_same head (actors.Range range) history e (sym (same_id-true (actors.Range range) e.actor t))))
            (with-stays (asked_in history e.event) (state_at head range history) h)
        by false t =
            let apart : e.actor ≢ actors.Range range = λ same. let yes : same_id (actors.Range range) e.actor ≡ true = same_id-equal (actors.Range range) e.actor (sym same) in absurd cc in
            subst (IsAs id (state_at head range history)) (sym (state_other head (actors.Range range) history e apart)) (with-stays None (state_at head range history) refl)

    key-apart : is_one id (touched_in (asked_in history e.event) e.event) ≡ false → key_sent id e.event ≡ None
    key-apart = by e.event
      where
        by : (event : Event) → is_one id (touched_in (asked_in history event) event) ≡ false → key_sent id event ≡ None
        by (events.Send number range (requests.Put meta seq ts key value)) h = ap (λ b. cond b (Some key) None) h
        by event h = refl

    told-apart : is_one id (touched_in (asked_in history e.event) e.event) ≡ false → committed_in id e.event ≡ None
    told-apart = by e.event
      where
        by : (event : Event) → is_one id (touched_in (asked_in history event) event) ≡ false → committed_in id event ≡ None
        by (events.Tell (answers.Committed one ts)) h = ap (λ b. cond b (Some ts) None) h
        by event h = refl

    module _ (stays : (range : ℕ) → IsAs id (state_at head range history) (state_at head range (history ++ e ∷ []))) where
      present-stays : (epoch ts : ℕ) (write : List ℕ × ℕ) → is_present head (history ++ e ∷ []) id epoch ts write ≡ is_present head history id epoch ts write
      present-stays epoch ts write = ap (is_found epoch write.1 ts) ((stays (range_of head.splits write.0)).own write.0)

      in-stays : (p : Place) → commit_in head (history ++ e ∷ []) id p ≡ commit_in head history id p
      in-stays Nothing = refl
      in-stays (Kept r) =
          let all : list_all (is_present head (history ++ e ∷ []) id r.status.epoch r.status.ts) r.writes ≡ list_all (is_present head history id r.status.epoch r.status.ts) r.writes =
          ap (λ test. list_all test r.writes) (λ i write. present-stays r.status.epoch r.status.ts write i) in
          ap (commit_by r.status.standing r.status.ts) all
      in-stays (Marked s) = refl

      at-stays : told_at id (history ++ e ∷ []) ≡ told_at id history → (anchor : Option (List ℕ)) → commit_at head (history ++ e ∷ []) id anchor ≡ commit_at head history id anchor
      at-stays told None = told
      at-stays told (Some anchor) =
          in-stays (place_at head (range_of head.splits anchor) id (history ++ e ∷ []))
          ∙ ap (commit_in head history id) ((stays (range_of head.splits anchor)).place)

    -- what an entry doesn't touch is committed as before
    pub commit_stays : is_one id (touched_in (asked_in history e.event) e.event) ≡ false → commit_ts head (history ++ e ∷ []) id ≡ commit_ts head history id
    commit_stays h =
        let anchor : anchor_in id (history ++ e ∷ []) ≡ anchor_in id history = first_push (λ e. key_sent id e.event) history e ∙ (ap (first_of (anchor_in id history)) (key-apart h) ∙ first_none (anchor_in id history)) in
        let told : told_at id (history ++ e ∷ []) ≡ told_at id history = first_push (λ e. committed_in id e.event) history e ∙ (ap (first_of (told_at id history)) (told-apart h) ∙ first_none (told_at id history)) in
        ap (commit_at head (history ++ e ∷ []) id) anchor
        ∙ at-stays (λ range. state-stays range (asked-apart history e.event h)) told (anchor_in id history)
