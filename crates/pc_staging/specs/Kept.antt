-- What is kept of a transaction's stages and commits, and what one more message makes of it. RFC 20180324; own profile.
use Rattle.std.specs.Prelude.{ℕ, max, min, nat_lt, Bool, false, ◌&&◌, ◌==◌, not, if◌then◌else◌, is_none, is_some, Option, None, Some, List, [], length, filter}
use Rattle.std.specs.List.{list_all, list_any}
use Rattle.pc_flight.specs.declared.write.WriteInFlight.{WriteInFlight}
use Rattle.pc_proto.specs.declared.view.View.{View}
use Rattle.pc_proto.specs.Views.{is_final_view, is_staging_at}
use Rattle.pc_staging.specs.declared.stage_out.StageOut.{StageOut}

-- What is kept: the stages whose record did not go another way; where the transaction was last heard to be staged in this epoch; the last
-- step at which its record was seen that is not final; and where a commit went out that was not refused.
pub record Evidence : Type 0 where
  pub stages : List StageOut
  pub staged : Option ℕ
  pub undecided : Option ℕ
  pub commit : Option ℕ

-- A transaction that has sent no stage and no commit.
abbrev pub nothing_kept : Evidence
nothing_kept = record { stages = []; staged = None; undecided = None; commit = None }

-- The earlier of the two steps, if there is a first one.
abbrev pub earlier_step : Option ℕ → ℕ → ℕ
earlier_step None step = step
earlier_step (Some first) step = min first step

-- The later of the two steps, if there is a first one.
abbrev pub later_step : Option ℕ → ℕ → ℕ
later_step None step = step
later_step (Some last) step = max last step

-- One of the stage's writes was refuted.
abbrev pub is_refuted : StageOut → Bool
is_refuted o = is_some o.refuted

-- The first step is before the last.
abbrev pub is_step_before : Option ℕ → Option ℕ → Bool
is_step_before (Some first) (Some last) = nat_lt first last
is_step_before (Some first) None = false
is_step_before None last = false

-- One of its writes was refuted, and the record was seen undecided after that.
abbrev pub is_dead_by : Option ℕ → StageOut → Bool
is_dead_by undecided o = is_step_before o.refuted undecided

-- The stage, once one of its writes was refuted at this step.
abbrev pub refuted_by : ℕ → StageOut → StageOut
refuted_by step o = record o { refuted = Some (earlier_step o.refuted step) }

-- The stage, once one of its writes was written at this timestamp.
abbrev pub refuted_above : ℕ → ℕ → StageOut → StageOut
refuted_above ts step o = if nat_lt o.ts ts then refuted_by step o else o

-- The stage, once one of its writes was missing at this timestamp.
abbrev pub refuted_at : ℕ → ℕ → StageOut → StageOut
refuted_at ts step o = if o.ts == ts then refuted_by step o else o

-- Each stage is late, and no commit is out.
abbrev pub is_passed_by : Evidence → Bool
is_passed_by e = is_none e.commit && list_all is_refuted e.stages

-- Each stage is dead, and no commit is out.
abbrev pub is_over : Evidence → Bool
is_over e = is_none e.commit && list_all (is_dead_by e.undecided) e.stages

-- A stage at this timestamp is not late.
abbrev pub is_live_at : ℕ → Evidence → Bool
is_live_at ts e = list_any (λ o. o.ts == ts && not (is_refuted o)) e.stages

-- It is just this timestamp.
abbrev pub is_just : ℕ → Option ℕ → Bool
is_just ts None = false
is_just ts (Some at) = at == ts

-- No write is in flight, and the transaction was heard to be staged at this timestamp.
abbrev pub is_staged_and_proved : List WriteInFlight → ℕ → Evidence → Bool
is_staged_and_proved flight ts e = (length flight == 0) && is_just ts e.staged

abbrev pub with_stages : List StageOut → Evidence → Evidence
with_stages stages e = record e { stages = stages }

-- What is kept once all stages are dead.
abbrev pub without_stages : Evidence → Evidence
without_stages e = record e { stages = []; staged = None }

-- The stages that are not at this timestamp.
abbrev pub stages_elsewhere : ℕ → List StageOut → List StageOut
stages_elsewhere ts stages = filter (λ o. not (o.ts == ts)) stages

-- What is kept once the stage at this timestamp is dead.
abbrev pub without_stage : ℕ → Evidence → Evidence
without_stage ts e = record e { stages = stages_elsewhere ts e.stages; staged = None }

-- The record was seen at this step, and was not final.
abbrev pub seen_undecided : ℕ → Evidence → Evidence
seen_undecided step e = record e { undecided = Some (later_step e.undecided step) }

-- The record was seen at this step.
abbrev pub after_view : ℕ → View → Evidence → Evidence
after_view step view e = if is_final_view view then e else seen_undecided step e

-- The stage at this timestamp was heard to be staged, or its record to have gone another way.
abbrev pub after_stage : ℕ → ℕ → ℕ → View → Evidence → Evidence
after_stage epoch ts step view e =
    if is_final_view view then e
    else if is_staging_at epoch ts view then record (seen_undecided step e) { staged = Some ts }
    else without_stage ts (seen_undecided step e)

-- The commit was heard to be refused, where the record is not final.
abbrev pub after_commit : ℕ → View → Evidence → Evidence
after_commit step view e = if is_final_view view then e else record (seen_undecided step e) { commit = None }
