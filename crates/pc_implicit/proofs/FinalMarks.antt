-- A mark is final: only a removal leaves one, of a final record.
use Rattle.std.proofs.Common.{Bool, List, None, Option, Some, [], false, if◌then◌else◌, not, refl, subst, true, ℕ, ◌&&◌, ◌≡◌}
use Rattle.pc_world.specs.RangeOf.{range_of}
use Rattle.pc_world.specs.Committed.{anchor_in}
use Rattle.pc_implicit.specs.Writes.{home_of, place_under}
use Rattle.pc_base.specs.declared.entry.Entry.{Entry}
use Rattle.pc_base.specs.declared.transaction.TxnId.{TxnId}
use Rattle.pc_base.specs.declared.transaction.Who.{Who}
use Rattle.pc_implicit.proofs.Lift.{GoesOn, over}
use Rattle.pc_implicit.proofs.Places.{at_place}
use Rattle.pc_proto.specs.declared.event.Event.{Event}
use Rattle.pc_proto.specs.declared.fate.Finding.{Finding}
use Rattle.pc_proto.specs.declared.fate.Goal.{Goal}
use Rattle.pc_proto.specs.declared.fate.Goal.TheVariants as goals
use Rattle.pc_proto.specs.declared.meta.TxnMeta.{TxnMeta}
use Rattle.pc_proto.specs.declared.record.Standing.TheVariants as standings
use Rattle.pc_proto.specs.declared.record.Status.{Status}
use Rattle.pc_proto.specs.declared.request.Request.{Request}
use Rattle.pc_proto.specs.declared.request.Request.TheVariants as requests
use Rattle.pc_proto.specs.Place.{Place, Nothing, Kept, Marked, Change, Become, Finish, Stay, after, is_decided, is_final}
use Rattle.pc_proto.specs.RecordRows.{place_change}
use Rattle.pc_proto.specs.RecordRows.Abort.{abort}
use Rattle.pc_proto.specs.RecordRows.Beat.{beat}
use Rattle.pc_proto.specs.RecordRows.Commit.{commit}
use Rattle.pc_proto.specs.RecordRows.Push.{Verdict, There, Refuse, Doubt, Do, on_verdict, push, push_verdict, pushed}
use Rattle.pc_proto.specs.RecordRows.Reached.{activity_of, alive_at, is_reached, is_staged_at, status_of}
use Rattle.pc_proto.specs.RecordRows.Recover.{decided, recover}
use Rattle.pc_proto.specs.RecordRows.Remove.{remove}
use Rattle.pc_proto.specs.RecordRows.Stage.{stage}
use Rattle.pc_proto.specs.Table.{place_of}
use Rattle.pc_world.specs.After.{place_at}
use Rattle.pc_world.specs.Local.{Head}

-- Where there is a mark it is final.
abbrev MarksFinal : Place → Type 0
MarksFinal (Marked s) = is_final s.standing ≡ true
MarksFinal p = Unit {0}

either : (b : Bool) (p : Place) (c d : Change) → MarksFinal (after p c) → MarksFinal (after p d) → MarksFinal (after p (if b then c else d))
either true p c d h k = h
either false p c d h k = k

beat-marks : (meta : TxnMeta) (ts now : ℕ) (p : Place) → MarksFinal p → MarksFinal (after p (beat meta ts now p))
beat-marks meta ts now Nothing h = tt
beat-marks meta ts now (Kept r) h = tt
beat-marks meta ts now (Marked s) h = h

push-marks : (holder : TxnMeta) (by : Who) (goal : Goal) (v : Verdict) (p : Place) → MarksFinal p → MarksFinal (after p (on_verdict v (pushed holder by goal p)))
push-marks holder by goal There p h = h
push-marks holder by goal Refuse p h = h
push-marks holder by goal Doubt p h = h
push-marks holder by goals.Abort Do p h = tt
push-marks holder by (goals.Move target) Do p h = tt

decided-marks : (finding : Finding) (p : Place) → MarksFinal p → MarksFinal (after p (decided finding p))
decided-marks finding Nothing h = h
decided-marks finding (Kept r) h = tt
decided-marks finding (Marked s) h = h

remove-marks : (p : Place) → MarksFinal p → MarksFinal (after p (remove p))
remove-marks Nothing h = h
remove-marks (Kept r) h = by (is_final r.status.standing) refl
  where
    by : (b : Bool) → is_final r.status.standing ≡ b → MarksFinal (after (Kept r) (if b then Finish r.status else Stay))
    by true final = final
    by false open_yet = tt
remove-marks (Marked s) h = h

mark-row : (request : Request) (p : Place) → MarksFinal p → MarksFinal (after p (place_change request p))
mark-row (requests.Beat meta ts now) p h = either (is_decided p) p Stay (beat meta ts now p) h (beat-marks meta ts now p h)
mark-row (requests.Stage meta ts now writes locks) p h = either (is_decided p) p Stay (stage meta ts now writes locks p) h
    (either (is_reached p meta.epoch ts && not (is_staged_at p meta.epoch ts)) p
    (Become (record { meta = meta; status = status_of standings.Staging meta.epoch ts; activity = alive_at p now; writes = writes; locks = locks })) Stay tt h)
mark-row (requests.Commit meta ts locks) p h = either (is_decided p) p Stay (commit meta ts locks p) h
    (either (is_reached p meta.epoch ts) p
    (Become (record { meta = meta; status = status_of standings.Committed meta.epoch ts; activity = activity_of p meta.born; writes = []; locks = locks })) Stay tt h)
mark-row (requests.Abort meta why locks) p h = either (is_decided p) p Stay (abort meta why locks p) h tt
mark-row (requests.Push holder by level now goal) p h =
    either (is_decided p) p Stay (push holder by level now goal p) h (push-marks holder by goal (push_verdict holder level now goal p) p h)
mark-row (requests.Recover id epoch ts anchor finding) p h = either (is_decided p) p Stay (recover epoch ts finding p) h (either (is_staged_at p epoch ts) p (decided finding p) Stay (decided-marks finding p h) h)
mark-row (requests.Remove id anchor) p h = remove-marks p h
mark-row request p h = h

marks-go-on : (id : TxnId) → GoesOn (λ s t. MarksFinal (place_of id s.table) → MarksFinal (place_of id t.table))
marks-go-on id = record {
  same = λ s h. h;
  on = λ s t u h k x. k (h x);
  step = λ request s. at_place (λ p q. MarksFinal p → MarksFinal q) (λ p h. h) mark-row id request s.table;
}

-- a mark is final after every history
pub marks_final : (head : Head) (range : ℕ) (id : TxnId) (history : List (Entry Event)) (s : Status) → place_at head range id history ≡ Marked s → is_final s.standing ≡ true
marks_final head range id history s is =
    let final : MarksFinal (place_at head range id history) = over _ (marks-go-on id) head range [] history tt in
    subst MarksFinal is final

module _ (head : Head) where
  -- a mark that the range of its transaction's anchor has is final
  pub marks_at_home : (id : TxnId) (history : List (Entry Event)) (m : Status) → home_of head id history ≡ Marked m → is_final m.standing ≡ true
  marks_at_home id history m is = by (anchor_in id history) is
    where
      by : (o : Option (List ℕ)) → place_under head id history o ≡ Marked m → is_final m.standing ≡ true
      by None is = absurd cc
      by (Some anchor) is = marks_final head (range_of head.splits anchor) id history m is
