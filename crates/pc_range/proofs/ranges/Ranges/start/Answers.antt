use Rattle.std.proofs.Common.{◌≡◌, ℕ, ◌+◌, ◌++◌, length, refl, arith, ap, subst, ◌∙◌}
use Rattle.pc_range.proofs.Seating.{AreRangesReady, ranges-ready, seated-both}
use Rattle.pc_range.specs.Seats.{HasSeated, eight_ids, range_ids}
use Rattle.pc_range.proofs.ranges.Ranges.start.Goals as goal

pub start-requires-2 : goal.start-requires-2
start-requires-2 g c =
    let n = c.len.result + 1 in
    let h1 : HasSeated n 8 (eight_ids 0 1 2 3 4 5 6 7) c.args.opener.now c.start.new.opener = c.in_ok-first.ensures.seated in
    let r : AreRangesReady n 8 c.start.new.opener = ranges-ready n 8 (eight_ids 0 1 2 3 4 5 6 7) c.args.opener.now c.start.new.opener h1 (ap (λ (k : ℕ). k + 1) (c.len.ensures ∙ ap length c.requires.splits)) c.requires.few_seats (omega arith) in
    (omega arith, ((refl, refl, refl, refl, refl, refl, refl), (r.counts, (r.free, r.few))))

pub start-requires-3 : goal.start-requires-3
start-requires-3 g c =
    let n = c.len.result + 1 in
    let h1 : HasSeated n 8 (eight_ids 0 1 2 3 4 5 6 7) c.args.opener.now c.start.new.opener = c.in_ok-first.ensures.seated in
    let h2 : HasSeated n 16 (eight_ids 0 1 2 3 4 5 6 7 ++ eight_ids 8 9 10 11 12 13 14 15) c.args.opener.now c.start-2.new.opener = seated-both n 8 16 (eight_ids 0 1 2 3 4 5 6 7) (eight_ids 8 9 10 11 12 13 14 15) c.args.opener.now c.start.new.opener c.start-2.new.opener h1 c.in_ok-second.ensures.seated in
    let r : AreRangesReady n 16 c.start-2.new.opener = ranges-ready n 16 (eight_ids 0 1 2 3 4 5 6 7 ++ eight_ids 8 9 10 11 12 13 14 15) c.args.opener.now c.start-2.new.opener h2 (ap (λ (k : ℕ). k + 1) (c.len.ensures ∙ ap length c.requires.splits)) c.requires.few_seats (omega arith) in
    (omega arith, ((refl, refl, refl, refl, refl, refl, refl), (r.counts, (r.free, r.few))))

pub start-requires-4 : goal.start-requires-4
start-requires-4 g c =
    let n = c.len.result + 1 in
    let h1 : HasSeated n 8 (eight_ids 0 1 2 3 4 5 6 7) c.args.opener.now c.start.new.opener = c.in_ok-first.ensures.seated in
    let h2 : HasSeated n 16 (eight_ids 0 1 2 3 4 5 6 7 ++ eight_ids 8 9 10 11 12 13 14 15) c.args.opener.now c.start-2.new.opener = seated-both n 8 16 (eight_ids 0 1 2 3 4 5 6 7) (eight_ids 8 9 10 11 12 13 14 15) c.args.opener.now c.start.new.opener c.start-2.new.opener h1 c.in_ok-second.ensures.seated in
    let h3 : HasSeated n 24 (eight_ids 0 1 2 3 4 5 6 7 ++ eight_ids 8 9 10 11 12 13 14 15 ++ eight_ids 16 17 18 19 20 21 22 23) c.args.opener.now c.start-3.new.opener = seated-both n 16 24 (eight_ids 0 1 2 3 4 5 6 7 ++ eight_ids 8 9 10 11 12 13 14 15) (eight_ids 16 17 18 19 20 21 22 23) c.args.opener.now c.start-2.new.opener c.start-3.new.opener h2 c.in_ok-third.ensures.seated in
    let r : AreRangesReady n 24 c.start-3.new.opener = ranges-ready n 24 (eight_ids 0 1 2 3 4 5 6 7 ++ eight_ids 8 9 10 11 12 13 14 15 ++ eight_ids 16 17 18 19 20 21 22 23) c.args.opener.now c.start-3.new.opener h3 (ap (λ (k : ℕ). k + 1) (c.len.ensures ∙ ap length c.requires.splits)) c.requires.few_seats (omega arith) in
    (omega arith, ((refl, refl, refl, refl, refl, refl, refl), (r.counts, (r.free, r.few))))

pub returns-clause-seated : goal.returns-clause-seated
returns-clause-seated g c =
    let n = c.len.result + 1 in
    let h1 : HasSeated n 8 (eight_ids 0 1 2 3 4 5 6 7) c.args.opener.now c.start.new.opener = c.in_ok-first.ensures.seated in
    let h2 : HasSeated n 16 (eight_ids 0 1 2 3 4 5 6 7 ++ eight_ids 8 9 10 11 12 13 14 15) c.args.opener.now c.start-2.new.opener = seated-both n 8 16 (eight_ids 0 1 2 3 4 5 6 7) (eight_ids 8 9 10 11 12 13 14 15) c.args.opener.now c.start.new.opener c.start-2.new.opener h1 c.in_ok-second.ensures.seated in
    let h3 : HasSeated n 24 (eight_ids 0 1 2 3 4 5 6 7 ++ eight_ids 8 9 10 11 12 13 14 15 ++ eight_ids 16 17 18 19 20 21 22 23) c.args.opener.now c.start-3.new.opener = seated-both n 16 24 (eight_ids 0 1 2 3 4 5 6 7 ++ eight_ids 8 9 10 11 12 13 14 15) (eight_ids 16 17 18 19 20 21 22 23) c.args.opener.now c.start-2.new.opener c.start-3.new.opener h2 c.in_ok-third.ensures.seated in
    let h4 : HasSeated n 32 (eight_ids 0 1 2 3 4 5 6 7 ++ eight_ids 8 9 10 11 12 13 14 15 ++ eight_ids 16 17 18 19 20 21 22 23 ++ eight_ids 24 25 26 27 28 29 30 31) c.args.opener.now c.start-4.new.opener = seated-both n 24 32 (eight_ids 0 1 2 3 4 5 6 7 ++ eight_ids 8 9 10 11 12 13 14 15 ++ eight_ids 16 17 18 19 20 21 22 23) (eight_ids 24 25 26 27 28 29 30 31) c.args.opener.now c.start-3.new.opener c.start-4.new.opener h3 c.in_ok-fourth.ensures.seated in
    subst (λ (k : ℕ). c.start-4.new.opener ≡ record c.args.opener.now { seated = c.args.opener.now.seated ++ range_ids (k + 1) }) c.len.ensures h4.seated
