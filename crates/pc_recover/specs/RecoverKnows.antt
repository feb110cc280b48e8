-- How a recovery stands beside what its actor knows: a session in a conflict's round, or a recoverer.
use Rattle.std.specs.Prelude.{◌≡◌, ℕ, ◌+◌, ◌≤◌, true, false, Some, List, All, IsTrue, take}
use Rattle.pc_base.specs.declared.actor.ActorId.{ActorId}
use Rattle.pc_proto.specs.declared.fate.Finding.{Finding}
use Rattle.pc_proto.specs.declared.fate.Finding.TheVariants as findings
use Rattle.pc_proto.specs.declared.reply.Reply.TheVariants as replies
use Rattle.pc_proto.specs.declared.view.View.{View}
use Rattle.pc_proto.specs.declared.view.View.TheVariants as views
use Rattle.pc_proto.specs.Views.{is_final_view}
use Rattle.pc_recover.specs.declared.progress.Progress.{Progress}
use Rattle.pc_recover.specs.declared.progress.Progress.TheVariants as progress
use Rattle.pc_recover.specs.Recovering.{Recovering, query_of, recover_of}
use Rattle.pc_proto.specs.declared.machine.MachineNext.{MachineNext}
use Rattle.pc_proto.specs.declared.machine.MachineNext.TheVariants as nexts
use Rattle.pc_world.specs.Exchange.{HeardSince, IsAllowed, IsLater}
use Rattle.pc_world.specs.Known.{Known}
use Rattle.pc_world.specs.Known.Transactions.{lists_write}
use Rattle.pc_world.specs.Send.Recovery.{IsOwnName, WasStaging}
use Rattle.pc_world.specs.Views.{anchor_heard}

-- The recovery may be run now: a push met the record staging so, its anchor was heard, and `by` is the actor's own name.
pub record MayRecover (actor : ActorId) (k : Known) (m : Recovering) : Type 0 where
  pub own : IsOwnName actor k m.by
  pub staging : WasStaging k.heard m.holder.id m.epoch m.ts m.writes
  pub anchored : anchor_heard m.holder.id k.heard ≡ Some m.holder.anchor
  pub stamps : m.ts ≤ k.top + 1

-- Each of these writes was found by a query of the machine.
abbrev pub AreFound : Known → Known → Recovering → List (List ℕ × ℕ) → Type 0
AreFound start k m writes = All (λ w. HeardSince start k (query_of m w) replies.Found) writes

-- A query of the machine missed a listed write of this key.
pub record IsMissing (start k : Known) (m : Recovering) (key : List ℕ) : Type 0 where
  pub seq : ℕ
  pub listed : IsTrue (lists_write key seq m.writes)
  pub heard : HeardSince start k (query_of m (key, seq)) replies.Missing

-- The machine found this of the listed writes: each of them, or that one is missing.
abbrev pub HasFound : Known → Known → Recovering → Finding → Type 0
HasFound start k m findings.All = AreFound start k m m.writes
HasFound start k m (findings.Missing key by) = (by ≡ m.by) × IsMissing start k m key

-- The request that decides, with what was found, was answered with this view, which is not the one that the push met.
pub record HasDecided (start k : Known) (m : Recovering) (view : View) : Type 0 where
  pub finding : Finding
  pub found : HasFound start k m finding
  pub heard : HeardSince start k (recover_of m finding) (replies.Status view)
  pub changed : view ≡ views.Staging m.epoch m.ts m.writes → ⊥

abbrev pub RecoveryStands : Known → Known → Recovering → Progress → Type 0
RecoveryStands start k m (progress.Found found) = AreFound start k m (take found m.writes)
RecoveryStands start k m (progress.Missing key) = IsMissing start k m key
RecoveryStands start k m (progress.Over view) = HasDecided start k m view

-- The machine stands by what its actor knew when it was made, and by what it knows now.
pub record RecoverKnows (actor : ActorId) (start k : Known) (m : Recovering) : Type 0 where
  pub may : MayRecover actor start m
  pub since : IsLater start k
  pub stands : RecoveryStands start k m m.progress

-- What comes next is allowed: a request may be sent; the recovery ends with the view that it was answered with, as settled where
-- that is final, and as changed where it is not and differs from the one that the push met.
abbrev pub RecoveringMayCome : List (List ℕ) → ActorId → Known → Known → Recovering → MachineNext → Type 0
RecoveringMayCome splits actor start k m (nexts.Send request) = IsAllowed splits actor k request
RecoveringMayCome splits actor start k m (nexts.Settled view) = (is_final_view view ≡ true) × HasDecided start k m view
RecoveringMayCome splits actor start k m (nexts.Changed view) = (is_final_view view ≡ false) × HasDecided start k m view
RecoveringMayCome splits actor start k m (nexts.Refused id) = ⊥
RecoveringMayCome splits actor start k m nexts.Finished = ⊥
