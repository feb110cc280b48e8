-- A recovery whose machine says settled or changed is over, by that view.
use Rattle.std.proofs.Common.{◌≡◌, ◌⊎◌, Bool, true, false, inl, inr, ap}
use Rattle.pc_proto.specs.declared.machine.MachineNext.TheVariants as machine
use Rattle.pc_proto.specs.declared.view.View.{View}
use Rattle.pc_proto.specs.Views.{is_final_view}
use Rattle.pc_recover.specs.declared.progress.Progress.{Progress}
use Rattle.pc_recover.specs.declared.progress.Progress.TheVariants as progresses
use Rattle.pc_recover.specs.Recovering.{Recovering, over_by, recovering_due}

pub is_over_with : (p : Progress) (m : Recovering) (view : View) → (recovering_due p m ≡ machine.Settled view) ⊎ (recovering_due p m ≡ machine.Changed view) → p ≡ progresses.Over view
is_over_with (progresses.Found n) m view (inl e) = absurd cc
is_over_with (progresses.Found n) m view (inr e) = absurd cc
is_over_with (progresses.Missing key) m view (inl e) = absurd cc
is_over_with (progresses.Missing key) m view (inr e) = absurd cc
is_over_with (progresses.Over shown) m view is = by (is_final_view shown) is
  where
    by : (b : Bool) → (over_by b shown ≡ machine.Settled view) ⊎ (over_by b shown ≡ machine.Changed view) → progresses.Over shown ≡ progresses.Over view
    by true (inl e) = let same : shown ≡ view = cc in ap (λ v. progresses.Over v) same
    by true (inr e) = absurd cc
    by false (inl e) = absurd cc
    by false (inr e) = let same : shown ≡ view = cc in ap (λ v. progresses.Over v) same
