-- A commit by which its transaction is committed is never refused.
use Rattle.std.proofs.Common.{◌≡◌, ℕ, ◌≤◌, Bool, true, false, not, nat_le, if◌then◌else◌, inl, inr, List, [], ◌∷◌, ◌++◌, None, Some, Contains, refl, sym, ap, subst, ◌∙◌, arith}
use Rattle.std.proofs.lemmas.Bool.{and_from, le-leb}
use Rattle.std.proofs.lemmas.List.{append_assoc}
use Rattle.std.proofs.lemmas.List.Elements.{All-contains, Contains-append_left, Contains-push, Contains-push_cases}
use Rattle.pc_lists.proofs.Same.{same_txn-self}
use Rattle.pc_lists.proofs.Each.{each-contains}
use Rattle.pc_base.specs.declared.actor.ActorId.{ActorId}
use Rattle.pc_base.specs.declared.entry.Entry.{Entry}
use Rattle.pc_implicit.proofs.Doing.{same_or_not}
use Rattle.pc_implicit.proofs.EvaluatedAt.{goes_to}
use Rattle.pc_implicit.proofs.Hearing.{IsSo, heard_is_so}
use Rattle.pc_implicit.proofs.Lift.{over}
use Rattle.pc_implicit.proofs.Runs.{kept-status}
use Rattle.pc_implicit.proofs.Views.{Stands, places_go_on}
use Rattle.pc_implicit.specs.Decided.{decision, epoch_of, time_of}
use Rattle.pc_lists.proofs.Lists.{contains_nil}
use Rattle.pc_proto.specs.declared.event.Event.{Event}
use Rattle.pc_proto.specs.declared.event.Event.TheVariants as events
use Rattle.pc_proto.specs.declared.meta.TxnMeta.{TxnMeta}
use Rattle.pc_proto.specs.declared.record.Record.{Record}
use Rattle.pc_proto.specs.declared.record.Standing.TheVariants as standings
use Rattle.pc_proto.specs.declared.record.Status.{Status}
use Rattle.pc_proto.specs.declared.reply.Reply.TheVariants as replies
use Rattle.pc_proto.specs.declared.request.Request.{Request}
use Rattle.pc_proto.specs.declared.request.Request.TheVariants as requests
use Rattle.pc_proto.specs.Place.{Place, Nothing, Kept, Marked, Become, Stay, after, is_final, status_view, view_of}
use Rattle.pc_proto.specs.RecordRows.{answer}
use Rattle.pc_proto.specs.RecordRows.Commit.{commit}
use Rattle.pc_proto.specs.RecordRows.Reached.{activity_of, is_reached, status_of}
use Rattle.pc_proto.specs.Replies.{is_undecided_status}
use Rattle.pc_proto.specs.Views.{is_final_view}
use Rattle.pc_world.proofs.Knowing.{known_other, known_same}
use Rattle.pc_world.proofs.Prefixes.{run_front, run_induction}
use Rattle.pc_world.specs.After.{known_at, place_at, state_at}
use Rattle.pc_world.specs.Evaluation.{reply as reply_of}
use Rattle.pc_world.specs.Known.{Known}
use Rattle.pc_world.specs.Known.Traffic.{Heard, Sent, sent_by}
use Rattle.pc_world.specs.Local.{Head}
use Rattle.pc_world.specs.RangeOf.{range_of}
use Rattle.pc_world.specs.Run.{IsRun}
use Rattle.pc_world.specs.StageFate.{IsUncommitted, OnCommit, WasCommitRefused}

-- the epoch and the timestamp of a decided place
pub decided-at : (q : Place) (s : Status) → decision q ≡ Some s → (epoch_of q ≡ s.epoch) × (time_of q ≡ s.ts)
decided-at Nothing s is = absurd cc
decided-at (Kept r) s is = let same : r.status ≡ s = kept-status (is_final r.status.standing) r.status s is in (ap (λ (x : Status). x.epoch) same, ap (λ (x : Status). x.ts) same)
decided-at (Marked m) s is = let same : m ≡ s = cc in (ap (λ (x : Status). x.epoch) same, ap (λ (x : Status). x.ts) same)

-- A range whose place the commit decides in the end.
module _ (meta : TxnMeta) (ts : ℕ) (locks : List (List ℕ)) (q : Place) (decided : decision q ≡ Some (status_of standings.Committed meta.epoch ts)) where
  final-view : (s : Status) (writes : List (List ℕ × ℕ)) (own : List (List ℕ)) → decision q ≡ Some s → not (is_final_view (status_view s.standing s.epoch s.ts writes own)) ≡ true → ⊥
  final-view s writes own also more =
      let both : Some s ≡ Some (status_of standings.Committed meta.epoch ts) = sym also ∙ decided in
      let same : s ≡ status_of standings.Committed meta.epoch ts = cc both in
      let no : false ≡ true = ap (λ (x : Status). not (is_final_view (status_view x.standing x.epoch x.ts writes own))) (sym same) ∙ more in
      cc no

  kept-answer : (r : Record) → Stands (Kept r) q → (b : Bool) → is_final r.status.standing ≡ b
      → is_undecided_status (replies.Status (view_of (after (Kept r) (if b then Stay else commit meta ts locks (Kept r))))) ≡ true → ⊥
  kept-answer r stands true final more = final-view r.status r.writes r.locks (stands.decided r.status (ap (λ b. if b then Some r.status else None) final)) more
  kept-answer r stands false pending more =
      let at = decided-at q (status_of standings.Committed meta.epoch ts) decided in
      let epoch : r.status.epoch ≤ epoch_of q = stands.rises.epoch in
      let time : r.status.ts ≤ time_of q = stands.rises.ts in
      let epoch_is : epoch_of q ≡ meta.epoch = at.0 in
      let time_is : time_of q ≡ ts = at.1 in
      let reached : is_reached (Kept r) meta.epoch ts ≡ true =
      and_from (nat_le r.status.epoch meta.epoch) (nat_le r.status.ts ts) (le-leb r.status.epoch meta.epoch (omega (arith, epoch, epoch_is))) (le-leb r.status.ts ts (omega (arith, time, time_is))) in
      let no : false ≡ true =
      ap
      (λ b. is_undecided_status (replies.Status (view_of (after (Kept r)
      (if b
      then Become (record { meta = meta; status = status_of standings.Committed meta.epoch ts; activity = activity_of (Kept r) meta.born; writes = []; locks = locks })
      else Stay))))) (sym reached) ∙ more in
      cc no

  -- it is answered with a final view wherever the place goes on to that
  pub answered-final : (p : Place) → Stands p q → is_undecided_status (answer (requests.Commit meta ts locks) p) ≡ true → ⊥
  answered-final Nothing stands more = cc more
  answered-final (Kept r) stands more = kept-answer r stands (is_final r.status.standing) refl more
  answered-final (Marked s) stands more = final-view s [] [] (stands.decided s refl) more

module _ (head : Head) where
  KnowsSent : List (Entry Event) → Type 0
  KnowsSent history =
      (a : Entry Event) → Contains history a → (number range : ℕ) (request : Request) → a.event ≡ events.Send number range request
      → Contains (known_at head a.actor history).sent (record { number = number; range = range; request = request })

  -- an actor knows what it sent
  pub sent_known : (history : List (Entry Event)) → IsRun head history → (a : Entry Event) → Contains history a → (number range : ℕ) (request : Request) → a.event ≡ events.Send number range request
      → Contains (known_at head a.actor history).sent (record { number = number; range = range; request = request })
  unfolding KnowsSent
  sent_known = run_induction head KnowsSent (λ a there. absurd (contains_nil a there)) (λ history e run may all a there number range request is.
      let m : Sent = record { number = number; range = range; request = request } in
      elim (Contains-push_cases history e a there) [
        | inl before ↦
            let old : Contains (known_at head a.actor history).sent m = all a before number range request is in
            elim (same_or_not e.actor a.actor) [
              | inl same ↦
                  subst (λ (k : Known). Contains k.sent m) (sym (known_same head a.actor history e same))
                  (Contains-append_left (known_at head a.actor history).sent (sent_by e.event) m old)
              | inr differ ↦ subst (λ (k : Known). Contains k.sent m) (sym (known_other head a.actor history e differ)) old
            ]
        | inr now ↦
            subst (λ (x : Entry Event). Contains (known_at head x.actor (history ++ e ∷ [])).sent m) now
            (subst (λ (k : Known). Contains k.sent m) (sym (known_same head e.actor history e refl))
            (subst (λ event. Contains ((known_at head e.actor history).sent ++ sent_by event) m) (sym (ap (λ (x : Entry Event). x.event) now ∙ is)) (Contains-push (known_at head e.actor history).sent m)))
      ])

  -- A commit as which its range decided in the end.
  module _ (front back : List (Entry Event)) (run : IsRun head (front ++ back)) (a : Entry Event) (there : Contains front a) (number range : ℕ) (meta : TxnMeta) (ts : ℕ) (locks : List (List ℕ))
      (sends : a.event ≡ events.Send number range (requests.Commit meta ts locks)) (decided : decision (place_at head range meta.id (front ++ back)) ≡ Some (status_of standings.Committed meta.epoch ts)) where
    run-before : IsRun head front
    run-before = run_front head front back run

    -- no answer to it was unsettled
    answered-settled : (actor : ActorId) (h : Heard) → IsSo head front actor h → h.request ≡ requests.Commit meta ts locks → is_undecided_status h.reply ≡ true → ⊥
    answered-settled actor h w asked unsettled =
        let commit : Request = requests.Commit meta ts locks in
        let one : range ≡ range_of head.splits meta.anchor = goes_to head front run-before a there number range commit sends in
        let other : w.range ≡ range_of head.splits meta.anchor = goes_to head front run-before w.send w.listed h.number w.range commit (w.sends ∙ ap (events.Send h.number w.range) asked) in
        let same : w.range ≡ range = other ∙ sym one in
        let told : h.reply ≡ answer commit (place_at head range meta.id w.front) =
        w.answers ∙ ap (λ q. reply_of q (state_at head w.range w.front)) asked ∙ ap (λ n. answer commit (place_at head n meta.id w.front)) same in
        let whole : w.front ++ (w.back ++ back) ≡ front ++ back = sym (append_assoc w.front w.back back) ∙ ap (λ l. l ++ back) w.whole in
        let stands : Stands (place_at head range meta.id w.front) (place_at head range meta.id (front ++ back)) =
        subst (λ l. Stands (place_at head range meta.id w.front) (place_at head range meta.id l)) whole (over _ (places_go_on meta.id) head range w.front (w.back ++ back)) in
        answered-final meta ts locks (place_at head range meta.id (front ++ back)) decided (place_at head range meta.id w.front) stands (ap is_undecided_status (sym told) ∙ unsettled)

    -- so it is not known refused
    pub not_refused : WasCommitRefused (known_at head a.actor front).heard (record { meta = meta; ts = ts; locks = locks }) → ⊥
    not_refused (n, h, inside, at, r) =
        answered-settled a.actor h (each-contains (IsSo head front a.actor) (known_at head a.actor front).heard h (heard_is_so head front run-before a.actor) (n, inside, at)) r.asked r.unsettled

    -- nor is its transaction known uncommitted
    pub never_refused : IsUncommitted meta.id (known_at head a.actor front).sent (known_at head a.actor front).heard → ⊥
    never_refused uncommitted =
        let k = known_at head a.actor front in
        let m : Sent = record { number = number; range = range; request = requests.Commit meta ts locks } in
        let sent : Contains k.sent m = sent_known front run-before a there number range (requests.Commit meta ts locks) sends in
        let on : OnCommit meta.id (WasCommitRefused k.heard) (requests.Commit meta ts locks) = All-contains (λ (x : Sent). OnCommit meta.id (WasCommitRefused k.heard) x.request) k.sent m uncommitted.commits sent in
        not_refused (on (same_txn-self meta.id))
