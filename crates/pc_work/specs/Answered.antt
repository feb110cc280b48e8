-- What is answered to a value of JSON.
use Rattle.std.specs.Prelude.{◌≡◌, Some, Result, Ok, Err}
use Rattle.serde_json.specs.Data.{Data}
use Rattle.pc_work.specs.Workload.{refusal_of, workload_of}
use Rattle.pc_work.specs.declared.fault.WorkFault.{WorkFault}
use Rattle.pc_work.specs.declared.fault.WorkFault.TheVariants as faults
use Rattle.pc_work.specs.declared.workload.Workload.{Workload}

-- The workload that the value states, or the number of its refusal; where memory ran out nothing is said.
abbrev pub AnswersValue : Result Workload WorkFault → Data → Type 0
AnswersValue (Ok work) value = workload_of value ≡ Some work
AnswersValue (Err (faults.Refused number)) value = refusal_of value ≡ Some number
AnswersValue (Err faults.NoMemory) value = Unit {0}
