use Rattle.std.proofs.Common.{◌≡◌, ap, subst, ◌∙◌}
use Rattle.std.proofs.lemmas.Result.{on_ok_weaker}
use Rattle.std.specs.Option.{option_copied}
use Rattle.pc_files.specs.Filing.{KeepsFiles}
use Rattle.pc_known.specs.Calls.{BeginsNext}
use Rattle.pc_known.specs.Heards.{KeepsHeards}
use Rattle.pc_knowledge.proofs.Begun.{so_many_after}
use Rattle.pc_knowledge.proofs.knowledge.Knowledge.learn.Goals as goal
use Rattle.pc_world.specs.Known.{known_after, txns_after}
use Rattle.pc_world.specs.Known.Clock.{high_after, top_after}
use Rattle.pc_world.specs.Known.Traffic.{heard_by}

pub returns : goal.returns
returns c k keeps next =
    let event = c.args.entry.now.event in
    let named = option_copied c.args.named in
    let top = top_after event named k.top in
    let high = high_after event named k.high in
    let h : c.heard_by-heard.result ≡ heard_by event named k.sent = c.heard_by-heard.ensures k keeps.sends in
    let begins : BeginsNext k.begun event = subst (λ n. BeginsNext n event) keeps.calls.begun c.requires in
    let txns : c.learn_txns.new.txns ≡ txns_after event (heard_by event named k.sent) k =
    c.in_ok-learn_txns.ensures k keeps.calls keeps.sends keeps.heards keeps.files keeps.txns keeps.numbered ∙ ap (λ o. txns_after event o k) (c.as_ref.ensures.value ∙ h) in
    let heards : KeepsHeards (known_after event (heard_by event named k.sent) top high k) c.learn-3.new.self =
    subst (λ o. KeepsHeards (known_after event o top high k) c.learn-3.new.self) h (c.in_ok-learn-3.ensures k top high keeps.heards) in
    let files : KeepsFiles (known_after event (heard_by event named k.sent) top high k) c.learn.new.self =
    subst (λ o. KeepsFiles (known_after event o top high k) c.learn.new.self) (c.as_ref-2.ensures.value ∙ h) (c.in_ok-learn.ensures k top high keeps.files) in
    let many = so_many_after event (heard_by event named k.sent) k begins keeps.numbered keeps.counted in
    on_ok_weaker c.learn-4.result
    (λ calls. record {
      calls = calls;
      sends = c.in_ok-learn-2.ensures k named top high keeps.sends (c.as_ref-3.ensures.value ∙ h) next;
      heards = heards;
      files = files;
      txns = txns;
      numbered = many.0;
      counted = many.1;
      good = c.good_after-self.ensures k (heard_by event named k.sent) top high keeps.files keeps.txns keeps.good;
    })
    (c.learn-4.ensures k keeps.calls)
