-- A recovery is answered with another view than that of the record that it was sent for.
use Rattle.std.proofs.Common.{◌≡◌, ℕ, Bool, true, false, ◌&&◌, ◌==◌, cond, List, [], refl, sym, subst, arith}
use Rattle.pc_base.specs.declared.transaction.TxnId.{TxnId}
use Rattle.pc_proto.specs.declared.fate.Finding.{Finding}
use Rattle.pc_proto.specs.declared.fate.Finding.TheVariants as findings
use Rattle.pc_proto.specs.declared.record.Record.{Record}
use Rattle.pc_proto.specs.declared.record.Standing.{Standing}
use Rattle.pc_proto.specs.declared.record.Standing.TheVariants as standings
use Rattle.pc_proto.specs.declared.reply.Reply.{Reply}
use Rattle.pc_proto.specs.declared.reply.Reply.TheVariants as replies
use Rattle.pc_proto.specs.declared.request.Request.TheVariants as requests
use Rattle.pc_proto.specs.declared.view.View.{View}
use Rattle.pc_proto.specs.declared.view.View.TheVariants as views
use Rattle.pc_proto.specs.Place.{Place, Nothing, Kept, Marked, Stay, after, is_final, status_view, view_of}
use Rattle.pc_proto.specs.RecordRows.{unless_decided}
use Rattle.pc_proto.specs.RecordRows.Recover.{decided, recover, standing_found}
use Rattle.pc_proto.specs.Table.{place_of}
use Rattle.pc_world.proofs.FinalMarks.{IsFinalPlace, place_final}
use Rattle.pc_world.specs.Exchange.{IsPossibleReply}
use Rattle.pc_world.specs.StateOf.{state_of}

module _ (epoch ts : ℕ) (writes : List (List ℕ × ℕ)) where
  -- It stages these writes at this epoch and timestamp.
  abbrev IsIt : View → Type 0
  IsIt view = view ≡ views.Staging epoch ts writes

  decided_differs : (finding : Finding) (e t : ℕ) (locks : List (List ℕ)) → IsIt (status_view (standing_found finding) e t [] locks) → ⊥
  decided_differs findings.All e t locks is = absurd cc
  decided_differs (findings.Missing key by) e t locks is = absurd cc

  marked_differs : (s : Standing) (e t : ℕ) → is_final s ≡ true → IsIt (status_view s e t [] []) → ⊥
  marked_differs standings.Pending e t final is = cc
  marked_differs standings.Staging e t final is = cc
  marked_differs standings.Committed e t final is = cc
  marked_differs (standings.Aborted why) e t final is = cc

  module _ (finding : Finding) (r : Record) where
    -- The record, in this standing.
    abbrev standing_so : Standing → Place
    standing_so s = Kept (record r { status = record r.status { standing = s } })

    staged_differs : (here : Bool) → (r.status.epoch == epoch && r.status.ts == ts) ≡ here → IsIt (view_of (after (standing_so standings.Staging) (cond here (decided finding (standing_so standings.Staging)) Stay))) → ⊥
    staged_differs true at is = decided_differs finding r.status.epoch r.status.ts r.locks is
    staged_differs false at is = grind arith

    kept_differs : (s : Standing) → IsIt (view_of (after (standing_so s) (unless_decided (standing_so s) (recover epoch ts finding (standing_so s))))) → ⊥
    kept_differs standings.Pending is = cc
    kept_differs standings.Staging is = staged_differs (r.status.epoch == epoch && r.status.ts == ts) refl is
    kept_differs standings.Committed is = cc
    kept_differs (standings.Aborted why) is = cc

  place_differs : (finding : Finding) (p : Place) → IsFinalPlace p → IsIt (view_of (after p (unless_decided p (recover epoch ts finding p)))) → ⊥
  place_differs finding Nothing final is = cc
  place_differs finding (Kept r) final is = kept_differs finding r r.status.standing is
  place_differs finding (Marked s) final is = marked_differs s.standing s.epoch s.ts final is

  -- What a recovery that was sent for this record is answered.
  abbrev pub IsOtherStatus : Reply → Type 0
  IsOtherStatus (replies.Status view) = IsIt view → ⊥
  IsOtherStatus _ = ⊥

  pub recovery_differs : (id : TxnId) (anchor : List ℕ) (finding : Finding) (told : Reply) → IsPossibleReply (requests.Recover id epoch ts anchor finding) told → IsOtherStatus told
  recovery_differs id anchor finding told is =
      subst IsOtherStatus (sym is.is) (place_differs finding (place_of id (state_of is.own).table) (place_final id is.own))
