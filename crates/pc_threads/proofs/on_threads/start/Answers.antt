use Rattle.std.proofs.Common.{All, subst, ◌∙◌}
use Rattle.std.proofs.lemmas.List.Elements.{All-head, All-tail}
use Rattle.pc_scripted.specs.Scripted.{IsScripted, own_list}
use Rattle.pc_threads.proofs.Places.{is_cut}
use Rattle.pc_threads.specs.Lanes.{LeadsIn}
use Rattle.pc_threads.specs.RoundLanes.{WaitInLanes}
use Rattle.pc_threads.proofs.on_threads.start.Goals as goal

pub open-requires-clause-scripted : goal.open-requires-clause-scripted
open-requires-clause-scripted g c κs within =
    let cut = is_cut c.args.sessions.items c.remove-first.new.self.items c.remove-first.result c.requires.some c.remove-first.ensures.value c.remove-first.ensures.items in
    All-head IsScripted c.remove-first.result c.remove-first.new.self.items (subst (All IsScripted) cut c.requires.scripted)

pub line_up-requires : goal.line_up-requires
line_up-requires g c =
    let cut = is_cut c.args.sessions.items c.remove-first.new.self.items c.remove-first.result c.requires.some c.remove-first.ensures.value c.remove-first.ensures.items in
    All-tail IsScripted c.remove-first.result c.remove-first.new.self.items (subst (All IsScripted) cut c.requires.scripted)

pub returns : goal.returns
returns g c = (
  record {
    first = c.remove-first.result;
    others = c.remove-first.new.self.items;
    whole = is_cut c.args.sessions.items c.remove-first.new.self.items c.remove-first.result c.requires.some c.remove-first.ensures.value c.remove-first.ensures.items;
    opened = c.open.new.self;
    opens = c.in_ok-open.ensures.ok;
    kept = c.in_ok-open.ensures.rule;
    rest = c.in_ok-others.others.items;
    leads = subst (λ f. LeadsIn f c.in_ok-others.others.items c.in_ok-put_in_front.field-0.items) (c.in_ok-behind.ensures.same ∙ c.in_ok-others.ensures.same) c.in_ok-put_in_front.ensures;
    follow = c.in_ok-others.ensures.follow;
  },
  subst (λ f. WaitInLanes (own_list f) c.args.recoverers.items c.in_ok-behind.behind.items) c.in_ok-others.ensures.same c.in_ok-behind.ensures.follow,
)
