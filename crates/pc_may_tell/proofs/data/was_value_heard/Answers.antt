use Rattle.std.proofs.Common.{◌↔◌, Any, IsTrue, sym, subst, ◌∙◌}
use Rattle.std.specs.Option.{option_copied}
use Rattle.pc_known.proofs.Exact.{both}
use Rattle.pc_known.proofs.Marked.{number_now}
use Rattle.pc_lists.proofs.Anywhere.{any_weaker}
use Rattle.pc_may_tell.proofs.data.was_value_heard.Goals as goal
use Rattle.pc_may_tell.specs.Heard.{HasValueNow}
use Rattle.pc_world.specs.Known.Traffic.{Heard}
use Rattle.pc_world.specs.Tell.Data.{IsValueOf, was_sent_now}

pub returns : goal.returns
returns c k keeps =
    let x = c.sends.result.now in
    let value = option_copied c.args.value in
    let P : Heard → Type 0 = HasValueNow x value in
    let Q : Heard → Type 0 = λ h. IsTrue (was_sent_now k h) × IsValueOf value h.request h.reply in
    let stands = c.sends.ensures k keeps in
    let known : IsTrue c.some_has_value_now.result ↔ Any P k.heard_now =
    subst (λ hs. IsTrue c.some_has_value_now.result ↔ Any P hs) (c.heard_now.ensures k keeps) c.some_has_value_now.ensures in
    both known (
      any_weaker P Q (λ h p. (sym (number_now k x h.number stands) ∙ p.0, p.1)) k.heard_now,
      any_weaker Q P (λ h q. (number_now k x h.number stands ∙ q.0, q.1)) k.heard_now,
    )
