use Rattle.std.proofs.Common.{◌≡◌, true, filter, sym, ap, ◌∙◌, subst}
use Rattle.std.specs.List.{list_any}
use Rattle.pc_call.proofs.Outboxes.{proofs_go, proofs_keep}
use Rattle.pc_call.proofs.Proving.{prove_begins}
use Rattle.pc_call.proofs.Takes.{proofs_some, takes_proofs}
use Rattle.pc_call.specs.declared.purpose.Purpose.TheVariants as purposes
use Rattle.pc_call.specs.Outbox.{AreToSendOrOnWay, TakesFrom, proofs_in, without_puts}
use Rattle.pc_call.specs.Serving.{InCall}
use Rattle.pc_call.specs.Stages.{KeepsOutbox}
use Rattle.pc_call.specs.Waiting.{waits_on}
use Rattle.pc_call.proofs.call.OpenCall.prove.Goals as goal

pub returns : goal.returns
returns c =
    let x = c.args.txn.now in
    let later = c.args.later.now in
    let anchor = c.args.anchor.now in
    let call = c.args.call in
    let e : c.in_ok-wave.wave ≡ proofs_in call c.waits_for_all-all.result x later anchor x.in_flight = c.in_ok-wave.ensures.made in
    record {
      purpose = ap (λ all. purposes.Prove call all) c.waits_for_all-all.ensures;
      takes = subst (λ l. TakesFrom later l c.in_ok-wave.wave) (sym c.in_ok-wave.ensures.left)
          (subst (λ ms. TakesFrom later (without_puts (filter (λ w. waits_on call c.waits_for_all-all.result w.key) x.in_flight) later) ms) (sym e) (takes_proofs call c.waits_for_all-all.result x later anchor));
      some = λ some none. proofs_some x later anchor call c.waits_for_all-all.result x.in_flight (subst (λ all. list_any (λ w. waits_on call all w.key) x.in_flight ≡ true) (sym c.waits_for_all-all.ensures) some) (sym e ∙ none);
      unsent = subst AreToSendOrOnWay (sym e) (proofs_go x later anchor call c.waits_for_all-all.result x.in_flight);
      outbox = λ loses k o.
          subst (λ l. KeepsOutbox loses k x l c.in_ok-wave.wave) (sym c.in_ok-wave.ensures.left)
          (subst (λ ms. KeepsOutbox loses k x (without_puts (filter (λ w. waits_on call c.waits_for_all-all.result w.key) x.in_flight) later) ms) (sym e) (proofs_keep x later anchor call c.waits_for_all-all.result k o));
      stands = λ set k s why fresh suits is begins anchored o may many.
          subst (λ ms. InCall set k x (purposes.Prove call c.waits_for_all-all.result) ms) (sym e)
          (prove_begins set k x s why fresh later o may anchor anchored call c.waits_for_all-all.result is begins c.waits_for_all-all.ensures suits many);
    }
