use Rattle.std.proofs.Common.{◌+◌, [], ◌∷◌, arith}
use Rattle.pc_base.specs.declared.actor.ActorId.TheVariants.{Range}
use Rattle.pc_range.proofs.Seating.{IsReady, ready, seated-both}
use Rattle.pc_range.specs.Seats.{HasSeated}
use Rattle.pc_range.proofs.eight.Eight.start.Goals as goal

pub start-requires-2 : goal.start-requires-2
start-requires-2 g c =
    let h1 : HasSeated c.args.count (g.row.A + 1) (Range g.row.A ∷ []) c.args.opener.now c.start.new.opener = c.in_ok-first.ensures.seated in
    let r : IsReady c.args.count g.row.B c.start.new.opener = ready c.args.count (g.row.A + 1) g.row.B (Range g.row.A ∷ []) c.args.opener.now c.start.new.opener h1 c.requires.row.0 c.requires.count c.requires.few (omega arith) in
    (omega arith, (r.counts, (r.free, r.few)))

pub start-requires-3 : goal.start-requires-3
start-requires-3 g c =
    let h1 : HasSeated c.args.count (g.row.A + 1) (Range g.row.A ∷ []) c.args.opener.now c.start.new.opener = c.in_ok-first.ensures.seated in
    let h2 : HasSeated c.args.count (g.row.B + 1) (Range g.row.A ∷ Range g.row.B ∷ []) c.args.opener.now c.start-2.new.opener = seated-both c.args.count (g.row.A + 1) (g.row.B + 1) (Range g.row.A ∷ []) (Range g.row.B ∷ []) c.args.opener.now c.start.new.opener c.start-2.new.opener h1 c.in_ok-second.ensures.seated in
    let r : IsReady c.args.count g.row.C c.start-2.new.opener = ready c.args.count (g.row.B + 1) g.row.C (Range g.row.A ∷ Range g.row.B ∷ []) c.args.opener.now c.start-2.new.opener h2 c.requires.row.1 c.requires.count c.requires.few (omega arith) in
    (omega arith, (r.counts, (r.free, r.few)))

pub start-requires-4 : goal.start-requires-4
start-requires-4 g c =
    let h1 : HasSeated c.args.count (g.row.A + 1) (Range g.row.A ∷ []) c.args.opener.now c.start.new.opener = c.in_ok-first.ensures.seated in
    let h2 : HasSeated c.args.count (g.row.B + 1) (Range g.row.A ∷ Range g.row.B ∷ []) c.args.opener.now c.start-2.new.opener = seated-both c.args.count (g.row.A + 1) (g.row.B + 1) (Range g.row.A ∷ []) (Range g.row.B ∷ []) c.args.opener.now c.start.new.opener c.start-2.new.opener h1 c.in_ok-second.ensures.seated in
    let h3 : HasSeated c.args.count (g.row.C + 1) (Range g.row.A ∷ Range g.row.B ∷ Range g.row.C ∷ []) c.args.opener.now c.start-3.new.opener = seated-both c.args.count (g.row.B + 1) (g.row.C + 1) (Range g.row.A ∷ Range g.row.B ∷ []) (Range g.row.C ∷ []) c.args.opener.now c.start-2.new.opener c.start-3.new.opener h2 c.in_ok-third.ensures.seated in
    let r : IsReady c.args.count g.row.D c.start-3.new.opener = ready c.args.count (g.row.C + 1) g.row.D (Range g.row.A ∷ Range g.row.B ∷ Range g.row.C ∷ []) c.args.opener.now c.start-3.new.opener h3 c.requires.row.2 c.requires.count c.requires.few (omega arith) in
    (omega arith, (r.counts, (r.free, r.few)))

pub start-requires-5 : goal.start-requires-5
start-requires-5 g c =
    let h1 : HasSeated c.args.count (g.row.A + 1) (Range g.row.A ∷ []) c.args.opener.now c.start.new.opener = c.in_ok-first.ensures.seated in
    let h2 : HasSeated c.args.count (g.row.B + 1) (Range g.row.A ∷ Range g.row.B ∷ []) c.args.opener.now c.start-2.new.opener = seated-both c.args.count (g.row.A + 1) (g.row.B + 1) (Range g.row.A ∷ []) (Range g.row.B ∷ []) c.args.opener.now c.start.new.opener c.start-2.new.opener h1 c.in_ok-second.ensures.seated in
    let h3 : HasSeated c.args.count (g.row.C + 1) (Range g.row.A ∷ Range g.row.B ∷ Range g.row.C ∷ []) c.args.opener.now c.start-3.new.opener = seated-both c.args.count (g.row.B + 1) (g.row.C + 1) (Range g.row.A ∷ Range g.row.B ∷ []) (Range g.row.C ∷ []) c.args.opener.now c.start-2.new.opener c.start-3.new.opener h2 c.in_ok-third.ensures.seated in
    let h4 : HasSeated c.args.count (g.row.D + 1) (Range g.row.A ∷ Range g.row.B ∷ Range g.row.C ∷ Range g.row.D ∷ []) c.args.opener.now c.start-4.new.opener = seated-both c.args.count (g.row.C + 1) (g.row.D + 1) (Range g.row.A ∷ Range g.row.B ∷ Range g.row.C ∷ []) (Range g.row.D ∷ []) c.args.opener.now c.start-3.new.opener c.start-4.new.opener h3 c.in_ok-fourth.ensures.seated in
    let r : IsReady c.args.count g.row.E c.start-4.new.opener = ready c.args.count (g.row.D + 1) g.row.E (Range g.row.A ∷ Range g.row.B ∷ Range g.row.C ∷ Range g.row.D ∷ []) c.args.opener.now c.start-4.new.opener h4 c.requires.row.3 c.requires.count c.requires.few (omega arith) in
    (omega arith, (r.counts, (r.free, r.few)))

pub start-requires-6 : goal.start-requires-6
start-requires-6 g c =
    let h1 : HasSeated c.args.count (g.row.A + 1) (Range g.row.A ∷ []) c.args.opener.now c.start.new.opener = c.in_ok-first.ensures.seated in
    let h2 : HasSeated c.args.count (g.row.B + 1) (Range g.row.A ∷ Range g.row.B ∷ []) c.args.opener.now c.start-2.new.opener = seated-both c.args.count (g.row.A + 1) (g.row.B + 1) (Range g.row.A ∷ []) (Range g.row.B ∷ []) c.args.opener.now c.start.new.opener c.start-2.new.opener h1 c.in_ok-second.ensures.seated in
    let h3 : HasSeated c.args.count (g.row.C + 1) (Range g.row.A ∷ Range g.row.B ∷ Range g.row.C ∷ []) c.args.opener.now c.start-3.new.opener = seated-both c.args.count (g.row.B + 1) (g.row.C + 1) (Range g.row.A ∷ Range g.row.B ∷ []) (Range g.row.C ∷ []) c.args.opener.now c.start-2.new.opener c.start-3.new.opener h2 c.in_ok-third.ensures.seated in
    let h4 : HasSeated c.args.count (g.row.D + 1) (Range g.row.A ∷ Range g.row.B ∷ Range g.row.C ∷ Range g.row.D ∷ []) c.args.opener.now c.start-4.new.opener = seated-both c.args.count (g.row.C + 1) (g.row.D + 1) (Range g.row.A ∷ Range g.row.B ∷ Range g.row.C ∷ []) (Range g.row.D ∷ []) c.args.opener.now c.start-3.new.opener c.start-4.new.opener h3 c.in_ok-fourth.ensures.seated in
    let h5 : HasSeated c.args.count (g.row.E + 1) (Range g.row.A ∷ Range g.row.B ∷ Range g.row.C ∷ Range g.row.D ∷ Range g.row.E ∷ []) c.args.opener.now c.start-5.new.opener = seated-both c.args.count (g.row.D + 1) (g.row.E + 1) (Range g.row.A ∷ Range g.row.B ∷ Range g.row.C ∷ Range g.row.D ∷ []) (Range g.row.E ∷ []) c.args.opener.now c.start-4.new.opener c.start-5.new.opener h4 c.in_ok-fifth.ensures.seated in
    let r : IsReady c.args.count g.row.F c.start-5.new.opener = ready c.args.count (g.row.E + 1) g.row.F (Range g.row.A ∷ Range g.row.B ∷ Range g.row.C ∷ Range g.row.D ∷ Range g.row.E ∷ []) c.args.opener.now c.start-5.new.opener h5 c.requires.row.4 c.requires.count c.requires.few (omega arith) in
    (omega arith, (r.counts, (r.free, r.few)))

pub start-requires-7 : goal.start-requires-7
start-requires-7 g c =
    let h1 : HasSeated c.args.count (g.row.A + 1) (Range g.row.A ∷ []) c.args.opener.now c.start.new.opener = c.in_ok-first.ensures.seated in
    let h2 : HasSeated c.args.count (g.row.B + 1) (Range g.row.A ∷ Range g.row.B ∷ []) c.args.opener.now c.start-2.new.opener = seated-both c.args.count (g.row.A + 1) (g.row.B + 1) (Range g.row.A ∷ []) (Range g.row.B ∷ []) c.args.opener.now c.start.new.opener c.start-2.new.opener h1 c.in_ok-second.ensures.seated in
    let h3 : HasSeated c.args.count (g.row.C + 1) (Range g.row.A ∷ Range g.row.B ∷ Range g.row.C ∷ []) c.args.opener.now c.start-3.new.opener = seated-both c.args.count (g.row.B + 1) (g.row.C + 1) (Range g.row.A ∷ Range g.row.B ∷ []) (Range g.row.C ∷ []) c.args.opener.now c.start-2.new.opener c.start-3.new.opener h2 c.in_ok-third.ensures.seated in
    let h4 : HasSeated c.args.count (g.row.D + 1) (Range g.row.A ∷ Range g.row.B ∷ Range g.row.C ∷ Range g.row.D ∷ []) c.args.opener.now c.start-4.new.opener = seated-both c.args.count (g.row.C + 1) (g.row.D + 1) (Range g.row.A ∷ Range g.row.B ∷ Range g.row.C ∷ []) (Range g.row.D ∷ []) c.args.opener.now c.start-3.new.opener c.start-4.new.opener h3 c.in_ok-fourth.ensures.seated in
    let h5 : HasSeated c.args.count (g.row.E + 1) (Range g.row.A ∷ Range g.row.B ∷ Range g.row.C ∷ Range g.row.D ∷ Range g.row.E ∷ []) c.args.opener.now c.start-5.new.opener = seated-both c.args.count (g.row.D + 1) (g.row.E + 1) (Range g.row.A ∷ Range g.row.B ∷ Range g.row.C ∷ Range g.row.D ∷ []) (Range g.row.E ∷ []) c.args.opener.now c.start-4.new.opener c.start-5.new.opener h4 c.in_ok-fifth.ensures.seated in
    let h6 : HasSeated c.args.count (g.row.F + 1) (Range g.row.A ∷ Range g.row.B ∷ Range g.row.C ∷ Range g.row.D ∷ Range g.row.E ∷ Range g.row.F ∷ []) c.args.opener.now c.start-6.new.opener = seated-both c.args.count (g.row.E + 1) (g.row.F + 1) (Range g.row.A ∷ Range g.row.B ∷ Range g.row.C ∷ Range g.row.D ∷ Range g.row.E ∷ []) (Range g.row.F ∷ []) c.args.opener.now c.start-5.new.opener c.start-6.new.opener h5 c.in_ok-sixth.ensures.seated in
    let r : IsReady c.args.count g.row.G c.start-6.new.opener = ready c.args.count (g.row.F + 1) g.row.G (Range g.row.A ∷ Range g.row.B ∷ Range g.row.C ∷ Range g.row.D ∷ Range g.row.E ∷ Range g.row.F ∷ []) c.args.opener.now c.start-6.new.opener h6 c.requires.row.5 c.requires.count c.requires.few (omega arith) in
    (omega arith, (r.counts, (r.free, r.few)))

pub start-requires-8 : goal.start-requires-8
start-requires-8 g c =
    let h1 : HasSeated c.args.count (g.row.A + 1) (Range g.row.A ∷ []) c.args.opener.now c.start.new.opener = c.in_ok-first.ensures.seated in
    let h2 : HasSeated c.args.count (g.row.B + 1) (Range g.row.A ∷ Range g.row.B ∷ []) c.args.opener.now c.start-2.new.opener = seated-both c.args.count (g.row.A + 1) (g.row.B + 1) (Range g.row.A ∷ []) (Range g.row.B ∷ []) c.args.opener.now c.start.new.opener c.start-2.new.opener h1 c.in_ok-second.ensures.seated in
    let h3 : HasSeated c.args.count (g.row.C + 1) (Range g.row.A ∷ Range g.row.B ∷ Range g.row.C ∷ []) c.args.opener.now c.start-3.new.opener = seated-both c.args.count (g.row.B + 1) (g.row.C + 1) (Range g.row.A ∷ Range g.row.B ∷ []) (Range g.row.C ∷ []) c.args.opener.now c.start-2.new.opener c.start-3.new.opener h2 c.in_ok-third.ensures.seated in
    let h4 : HasSeated c.args.count (g.row.D + 1) (Range g.row.A ∷ Range g.row.B ∷ Range g.row.C ∷ Range g.row.D ∷ []) c.args.opener.now c.start-4.new.opener = seated-both c.args.count (g.row.C + 1) (g.row.D + 1) (Range g.row.A ∷ Range g.row.B ∷ Range g.row.C ∷ []) (Range g.row.D ∷ []) c.args.opener.now c.start-3.new.opener c.start-4.new.opener h3 c.in_ok-fourth.ensures.seated in
    let h5 : HasSeated c.args.count (g.row.E + 1) (Range g.row.A ∷ Range g.row.B ∷ Range g.row.C ∷ Range g.row.D ∷ Range g.row.E ∷ []) c.args.opener.now c.start-5.new.opener = seated-both c.args.count (g.row.D + 1) (g.row.E + 1) (Range g.row.A ∷ Range g.row.B ∷ Range g.row.C ∷ Range g.row.D ∷ []) (Range g.row.E ∷ []) c.args.opener.now c.start-4.new.opener c.start-5.new.opener h4 c.in_ok-fifth.ensures.seated in
    let h6 : HasSeated c.args.count (g.row.F + 1) (Range g.row.A ∷ Range g.row.B ∷ Range g.row.C ∷ Range g.row.D ∷ Range g.row.E ∷ Range g.row.F ∷ []) c.args.opener.now c.start-6.new.opener = seated-both c.args.count (g.row.E + 1) (g.row.F + 1) (Range g.row.A ∷ Range g.row.B ∷ Range g.row.C ∷ Range g.row.D ∷ Range g.row.E ∷ []) (Range g.row.F ∷ []) c.args.opener.now c.start-5.new.opener c.start-6.new.opener h5 c.in_ok-sixth.ensures.seated in
    let h7 : HasSeated c.args.count (g.row.G + 1) (Range g.row.A ∷ Range g.row.B ∷ Range g.row.C ∷ Range g.row.D ∷ Range g.row.E ∷ Range g.row.F ∷ Range g.row.G ∷ []) c.args.opener.now c.start-7.new.opener = seated-both c.args.count (g.row.F + 1) (g.row.G + 1) (Range g.row.A ∷ Range g.row.B ∷ Range g.row.C ∷ Range g.row.D ∷ Range g.row.E ∷ Range g.row.F ∷ []) (Range g.row.G ∷ []) c.args.opener.now c.start-6.new.opener c.start-7.new.opener h6 c.in_ok-seventh.ensures.seated in
    let r : IsReady c.args.count g.row.H c.start-7.new.opener = ready c.args.count (g.row.G + 1) g.row.H (Range g.row.A ∷ Range g.row.B ∷ Range g.row.C ∷ Range g.row.D ∷ Range g.row.E ∷ Range g.row.F ∷ Range g.row.G ∷ []) c.args.opener.now c.start-7.new.opener h7 c.requires.row.6 c.requires.count c.requires.few (omega arith) in
    (omega arith, (r.counts, (r.free, r.few)))

pub returns-clause-seated : goal.returns-clause-seated
returns-clause-seated g c =
    let h1 : HasSeated c.args.count (g.row.A + 1) (Range g.row.A ∷ []) c.args.opener.now c.start.new.opener = c.in_ok-first.ensures.seated in
    let h2 : HasSeated c.args.count (g.row.B + 1) (Range g.row.A ∷ Range g.row.B ∷ []) c.args.opener.now c.start-2.new.opener = seated-both c.args.count (g.row.A + 1) (g.row.B + 1) (Range g.row.A ∷ []) (Range g.row.B ∷ []) c.args.opener.now c.start.new.opener c.start-2.new.opener h1 c.in_ok-second.ensures.seated in
    let h3 : HasSeated c.args.count (g.row.C + 1) (Range g.row.A ∷ Range g.row.B ∷ Range g.row.C ∷ []) c.args.opener.now c.start-3.new.opener = seated-both c.args.count (g.row.B + 1) (g.row.C + 1) (Range g.row.A ∷ Range g.row.B ∷ []) (Range g.row.C ∷ []) c.args.opener.now c.start-2.new.opener c.start-3.new.opener h2 c.in_ok-third.ensures.seated in
    let h4 : HasSeated c.args.count (g.row.D + 1) (Range g.row.A ∷ Range g.row.B ∷ Range g.row.C ∷ Range g.row.D ∷ []) c.args.opener.now c.start-4.new.opener = seated-both c.args.count (g.row.C + 1) (g.row.D + 1) (Range g.row.A ∷ Range g.row.B ∷ Range g.row.C ∷ []) (Range g.row.D ∷ []) c.args.opener.now c.start-3.new.opener c.start-4.new.opener h3 c.in_ok-fourth.ensures.seated in
    let h5 : HasSeated c.args.count (g.row.E + 1) (Range g.row.A ∷ Range g.row.B ∷ Range g.row.C ∷ Range g.row.D ∷ Range g.row.E ∷ []) c.args.opener.now c.start-5.new.opener = seated-both c.args.count (g.row.D + 1) (g.row.E + 1) (Range g.row.A ∷ Range g.row.B ∷ Range g.row.C ∷ Range g.row.D ∷ []) (Range g.row.E ∷ []) c.args.opener.now c.start-4.new.opener c.start-5.new.opener h4 c.in_ok-fifth.ensures.seated in
    let h6 : HasSeated c.args.count (g.row.F + 1) (Range g.row.A ∷ Range g.row.B ∷ Range g.row.C ∷ Range g.row.D ∷ Range g.row.E ∷ Range g.row.F ∷ []) c.args.opener.now c.start-6.new.opener = seated-both c.args.count (g.row.E + 1) (g.row.F + 1) (Range g.row.A ∷ Range g.row.B ∷ Range g.row.C ∷ Range g.row.D ∷ Range g.row.E ∷ []) (Range g.row.F ∷ []) c.args.opener.now c.start-5.new.opener c.start-6.new.opener h5 c.in_ok-sixth.ensures.seated in
    let h7 : HasSeated c.args.count (g.row.G + 1) (Range g.row.A ∷ Range g.row.B ∷ Range g.row.C ∷ Range g.row.D ∷ Range g.row.E ∷ Range g.row.F ∷ Range g.row.G ∷ []) c.args.opener.now c.start-7.new.opener = seated-both c.args.count (g.row.F + 1) (g.row.G + 1) (Range g.row.A ∷ Range g.row.B ∷ Range g.row.C ∷ Range g.row.D ∷ Range g.row.E ∷ Range g.row.F ∷ []) (Range g.row.G ∷ []) c.args.opener.now c.start-6.new.opener c.start-7.new.opener h6 c.in_ok-seventh.ensures.seated in
    let h8 : HasSeated c.args.count (g.row.H + 1) (Range g.row.A ∷ Range g.row.B ∷ Range g.row.C ∷ Range g.row.D ∷ Range g.row.E ∷ Range g.row.F ∷ Range g.row.G ∷ Range g.row.H ∷ []) c.args.opener.now c.start-8.new.opener = seated-both c.args.count (g.row.G + 1) (g.row.H + 1) (Range g.row.A ∷ Range g.row.B ∷ Range g.row.C ∷ Range g.row.D ∷ Range g.row.E ∷ Range g.row.F ∷ Range g.row.G ∷ []) (Range g.row.H ∷ []) c.args.opener.now c.start-7.new.opener c.start-8.new.opener h7 c.in_ok-eighth.ensures.seated in
    h8
