use Rattle.std.proofs.Common.{◌≡◌, ◌+◌, ◌-◌, ◌<◌, [], length, subst, sym, ◌∙◌, arith}
use Rattle.pc_history.specs.Parts.{noted}
use Rattle.pc_in_turns.proofs.Following.{none_if, recoverer_as_was, recoverer_none, recoverer_tells, session_as_was, session_none, session_tells, tells_if}
use Rattle.pc_in_turns.specs.Moving.{HasNoLast, TellsLast}
use Rattle.pc_rounds.specs.Counted.{entries_made}
use Rattle.pc_scripted.specs.Scripted.{own_list}
use Rattle.pc_in_turns.proofs.in_turns.InTurns.last_mark.Goals as goal

pub returns-then-self-sessions-clause-note : goal.returns-then-self-sessions-clause-note
returns-then-self-sessions-clause-note g c =
    let s = c.index_mut.result.now in
    let lt = subst (λ n. c.self.inside.last < n) (c.len-sessions.ensures ∙ c.self.inside.sessions.ok.0) c.if-self-sessions.true in
    tells_if c.mark.result (λ n. n.known ≡ noted (length (own_list s) - 1) 0 s.session.desk.log.part) (λ n. TellsLast c.args.self.now n.known) c.mark.ensures.note
    (λ n marks. session_tells _ c.args.self.now c.self.view_is s c.mark.new.self lt c.index_mut.ensures.value c.mark.ensures.same n.known marks)

pub returns-then-self-sessions-clause-none : goal.returns-then-self-sessions-clause-none
returns-then-self-sessions-clause-none g c =
    let s = c.index_mut.result.now in
    let lt = subst (λ n. c.self.inside.last < n) (c.len-sessions.ensures ∙ c.self.inside.sessions.ok.0) c.if-self-sessions.true in
    none_if c.mark.result (own_list s ≡ []) (HasNoLast c.args.self.now) c.mark.ensures.none (session_none _ c.args.self.now c.self.view_is s c.mark.new.self lt c.index_mut.ensures.value c.mark.ensures.same)

pub returns-then-self-sessions-clause-same : goal.returns-then-self-sessions-clause-same
returns-then-self-sessions-clause-same g c =
    let s = c.index_mut.result.now in
    let lt = subst (λ n. c.self.inside.last < n) (c.len-sessions.ensures ∙ c.self.inside.sessions.ok.0) c.if-self-sessions.true in
    session_as_was _ c.args.self.now c.self.view_is s c.mark.new.self lt c.index_mut.ensures.value c.mark.ensures.same

pub returns-else-self-sessions-clause-note : goal.returns-else-self-sessions-clause-note
returns-else-self-sessions-clause-note g c =
    let r = c.index_mut-else-self-sessions.result.now in
    let many = c.len-sessions.ensures ∙ c.self.inside.sessions.ok.0 in
    let old = subst (λ t. t.last < length t.sessions + length t.recoverers) (sym c.self.view_is) c.requires.there in
    let here : c.self.inside.last ≡ length c.self.inside.sessions.items + (c.self.inside.last - c.len-sessions.result) = omega (arith, many, c.if-self-sessions.false) in
    let lt : c.self.inside.last - c.len-sessions.result < length c.self.inside.recoverers.items = omega (arith, many, old, c.if-self-sessions.false) in
    tells_if c.mark-else-self-sessions.result (λ n. n.known ≡ noted (length (entries_made r) - 1) 0 r.recoverer.desk.log.part) (λ n. TellsLast c.args.self.now n.known) c.mark-else-self-sessions.ensures.note
    (λ n marks. recoverer_tells _ c.args.self.now c.self.view_is r c.mark-else-self-sessions.new.self (c.self.inside.last - c.len-sessions.result) here lt c.index_mut-else-self-sessions.ensures.value c.mark-else-self-sessions.ensures.same n.known marks)

pub returns-else-self-sessions-clause-none : goal.returns-else-self-sessions-clause-none
returns-else-self-sessions-clause-none g c =
    let r = c.index_mut-else-self-sessions.result.now in
    let many = c.len-sessions.ensures ∙ c.self.inside.sessions.ok.0 in
    let old = subst (λ t. t.last < length t.sessions + length t.recoverers) (sym c.self.view_is) c.requires.there in
    let here : c.self.inside.last ≡ length c.self.inside.sessions.items + (c.self.inside.last - c.len-sessions.result) = omega (arith, many, c.if-self-sessions.false) in
    let lt : c.self.inside.last - c.len-sessions.result < length c.self.inside.recoverers.items = omega (arith, many, old, c.if-self-sessions.false) in
    none_if c.mark-else-self-sessions.result (entries_made r ≡ []) (HasNoLast c.args.self.now) c.mark-else-self-sessions.ensures.none
    (recoverer_none _ c.args.self.now c.self.view_is r c.mark-else-self-sessions.new.self (c.self.inside.last - c.len-sessions.result) here lt c.index_mut-else-self-sessions.ensures.value c.mark-else-self-sessions.ensures.same)

pub returns-else-self-sessions-clause-same : goal.returns-else-self-sessions-clause-same
returns-else-self-sessions-clause-same g c =
    let r = c.index_mut-else-self-sessions.result.now in
    let many = c.len-sessions.ensures ∙ c.self.inside.sessions.ok.0 in
    let old = subst (λ t. t.last < length t.sessions + length t.recoverers) (sym c.self.view_is) c.requires.there in
    let here : c.self.inside.last ≡ length c.self.inside.sessions.items + (c.self.inside.last - c.len-sessions.result) = omega (arith, many, c.if-self-sessions.false) in
    let lt : c.self.inside.last - c.len-sessions.result < length c.self.inside.recoverers.items = omega (arith, many, old, c.if-self-sessions.false) in
    recoverer_as_was _ c.args.self.now c.self.view_is r c.mark-else-self-sessions.new.self (c.self.inside.last - c.len-sessions.result) here lt c.index_mut-else-self-sessions.ensures.value c.mark-else-self-sessions.ensures.same
