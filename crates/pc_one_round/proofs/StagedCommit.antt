-- The commit of the history that stages is answered as it was staged.
use Rattle.std.proofs.Common.{◌≡◌, false, inl, inr, ◌⊎◌, ◌∷◌, [], codes, refl, arith}
use Rattle.std.proofs.lemmas.List.Elements.{All-from_recursion}
use Rattle.pc_one_round.specs.OneRound.{IsStagedSo, IsWrittenBy, stages_txn}
use Rattle.pc_one_round.specs.StagedCommit.{StagedRowCommitsAsStaged, known_at_replies, staged_txn}
use Rattle.pc_serial.specs.FirstRow.{first_meta, first_ts, first_txn}
use Rattle.pc_world.specs.Tell.Data.{sent_before}

pub staged_row_ok : StagedRowCommitsAsStaged
staged_row_ok = record {
  opened = refl;
  asked = refl;
  heard = λ none. cc none;
  staged = All-from_recursion (λ h. IsWrittenBy first_ts h ⊎ IsStagedSo staged_txn first_ts h) known_at_replies.heard_now (
    inl (record { put = refl; at = first_ts; written = refl; low = omega arith }),
    (
      inr (record {
        stage = record { meta = first_meta; ts = first_ts; now = 12; writes = (codes "a", 1) ∷ []; locks = codes "a" ∷ [] };
        asked = refl;
        at = refl;
        staging = refl;
      }),
      tt,
    ),
  );
  unstaged = All-from_recursion (λ m. stages_txn first_txn m.request ≡ false) (sent_before known_at_replies) (refl, tt);
}
