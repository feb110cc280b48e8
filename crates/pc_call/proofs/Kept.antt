-- The stages that are kept for a purpose.
use Rattle.std.proofs.Common.{◌≡◌, true, ◌&&◌, List, [], None, refl, ap, ◌∙◌, All}
use Rattle.std.specs.List.{list_all}
use Rattle.std.specs.Option.{is_none}
use Rattle.std.proofs.lemmas.List.Elements.{All-nil, All-weaker}
use Rattle.pc_call.specs.declared.purpose.Purpose.{Purpose}
use Rattle.pc_call.specs.declared.purpose.Purpose.TheVariants as purposes
use Rattle.pc_call.specs.Serving.{KeepsStages}
use Rattle.pc_staging.proofs.Evidenced.{late_all}
use Rattle.pc_staging.specs.Kept.{Evidence, is_passed_by, is_refuted}
use Rattle.pc_staging.specs.Standing.{StagingStands}
use Rattle.pc_world.specs.Known.{Known}
use Rattle.pc_world.specs.Known.Transactions.{Txn}
use Rattle.pc_world.specs.StageFate.{IsLate, SentStage}

-- where there is none, none is kept
pub none_kept : (p : Purpose) (k : Known) → KeepsStages p k []
none_kept (purposes.Beat call reading) k = refl
none_kept (purposes.Prove call all) k = refl
none_kept purposes.Read k = refl
none_kept purposes.Write k = refl
none_kept (purposes.Refresh refusals puts) k = All-nil (IsLate k.heard)
none_kept (purposes.Stage refusals) k = tt
none_kept (purposes.Query refusals holder puts) k = tt
none_kept (purposes.Commit refusals) k = All-nil (IsLate k.heard)
none_kept (purposes.LastBeat answer reading) k = All-nil (IsLate k.heard)
none_kept (purposes.Abort why) k = refl

-- they are kept on where those that were late are so still
pub kept_on : (p : Purpose) (k now : Known) (stages : List SentStage) → ((s : SentStage) → IsLate k.heard s → IsLate now.heard s) → KeepsStages p k stages → KeepsStages p now stages
kept_on (purposes.Beat call reading) k now stages on kept = kept
kept_on (purposes.Prove call all) k now stages on kept = kept
kept_on purposes.Read k now stages on kept = kept
kept_on purposes.Write k now stages on kept = kept
kept_on (purposes.Refresh refusals puts) k now stages on kept = All-weaker (IsLate k.heard) (IsLate now.heard) on stages kept
kept_on (purposes.Stage refusals) k now stages on kept = tt
kept_on (purposes.Query refusals holder puts) k now stages on kept = tt
kept_on (purposes.Commit refusals) k now stages on kept = All-weaker (IsLate k.heard) (IsLate now.heard) on stages kept
kept_on (purposes.LastBeat answer reading) k now stages on kept = All-weaker (IsLate k.heard) (IsLate now.heard) on stages kept
kept_on (purposes.Abort why) k now stages on kept = kept

-- where each is late, and no commit is out, none stands in the way
pub late_passed : (k : Known) (stages : List SentStage) (t : Txn) (e : Evidence) → StagingStands k stages None t e → All (IsLate k.heard) stages → is_passed_by e ≡ true
late_passed k stages t e st late =
    ap (λ c. is_none c && list_all is_refuted e.stages) st.commit_at ∙ late_all k.heard t stages e.stages st.kept late
