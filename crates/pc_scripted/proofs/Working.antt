-- Each entry of a session that goes by its script keeps its script and its clock.
use Rattle.std.proofs.Common.{◌≡◌, ℕ, Bool, List, [], ◌∷◌, ◌++◌, sym, subst}
use Rattle.pc_desk.specs.Asks.{ReadsClock, asks_in}
use Rattle.pc_desk.specs.Keeping.{EachAfter, ReadsEach}
use Rattle.pc_history.specs.declared.pair.Pair.{Pair}
use Rattle.pc_proto.specs.declared.event.Event.{Event}
use Rattle.pc_script.specs.Clocks.{clock_rule}
use Rattle.pc_script.specs.Script.{AsksNext, script_position}
use Rattle.pc_script.specs.Steps.{KeepsWork}
use Rattle.pc_scripted.specs.Scripted.{AskInOrder, IsScripted, ScriptedMeaning, own_list}
use Rattle.pc_scripted.specs.Taking.{DoesWork}
use Rattle.pc_work.specs.declared.session.SessionWork.{SessionWork}
use Rattle.pc_work.specs.declared.workload.Workload.{Workload}

module _ (work : Workload) (session : SessionWork) (rule : ℕ → ℕ → Bool) where
  each-works : (before own : List (Pair Event)) → EachAfter (λ before p. ReadsClock (clock_rule session.clock rule) (asks_in before) p.entry.event) before own
      → EachAfter (λ before p. AsksNext (script_position work.reruns session.script before) p.entry.event) before own → EachAfter (KeepsWork work session rule) before own
  each-works before [] reads asks = tt
  each-works before (p ∷ ps) reads asks = (
    record { clock = reads.0; script = asks.0 },
    each-works (before ++ p ∷ []) ps reads.1 asks.1,
  )

-- the whole list
pub keeps_work : {C : Type 0} (work : Workload) (session : SessionWork) (rule clock : ℕ → ℕ → Bool) (s : ScriptedMeaning C) → IsScripted s → ReadsEach clock (own_list s) → DoesWork work session s → clock ≡ clock_rule session.clock rule
    → EachAfter (KeepsWork work session rule) [] (own_list s)
keeps_work work session rule clock s scripted reads does same =
    each-works work session rule [] (own_list s) (subst (λ r. ReadsEach r (own_list s)) same reads)
    (subst (λ n. AskInOrder n session.script (own_list s)) (sym does.reruns) (subst (λ sc. AskInOrder s.at.reruns sc (own_list s)) (sym does.script) scripted.asks))
