use Rattle.std.proofs.Common.{ℕ, ◌+◌, ◌++◌, OnOk, length, subst}
use Rattle.std.proofs.lemmas.Result.{on_ok_weaker}
use Rattle.pc_range.proofs.Seating.{hands-further}
use Rattle.pc_range.specs.Seats.{HandsIn, RangesMeaning, eight_ids, range_ids, ranges_there}
use Rattle.pc_range.proofs.ranges.Ranges.close.Goals as goal

pub returns-clause-handed : goal.returns-clause-handed
returns-clause-handed g c =
    let n = length c.self.inside.splits + 1 in
    let h1 : HandsIn (ranges_there n (eight_ids 0 1 2 3 4 5 6 7)) c.args.opener.now c.close.new.opener = subst (λ (count : ℕ). HandsIn (ranges_there count (eight_ids 0 1 2 3 4 5 6 7)) c.args.opener.now c.close.new.opener) c.self.invariant.3 c.in_ok-close.ensures.handed in
    let h2 : HandsIn (ranges_there n (eight_ids 0 1 2 3 4 5 6 7 ++ eight_ids 8 9 10 11 12 13 14 15)) c.args.opener.now c.close-2.new.opener = hands-further n (eight_ids 0 1 2 3 4 5 6 7) (eight_ids 8 9 10 11 12 13 14 15) c.args.opener.now c.close.new.opener c.close-2.new.opener h1 (subst (λ (count : ℕ). HandsIn (ranges_there count (eight_ids 8 9 10 11 12 13 14 15)) c.close.new.opener c.close-2.new.opener) c.self.invariant.4 c.in_ok-close-2.ensures.handed) in
    let h3 : HandsIn (ranges_there n (eight_ids 0 1 2 3 4 5 6 7 ++ eight_ids 8 9 10 11 12 13 14 15 ++ eight_ids 16 17 18 19 20 21 22 23)) c.args.opener.now c.close-3.new.opener = hands-further n (eight_ids 0 1 2 3 4 5 6 7 ++ eight_ids 8 9 10 11 12 13 14 15) (eight_ids 16 17 18 19 20 21 22 23) c.args.opener.now c.close-2.new.opener c.close-3.new.opener h2 (subst (λ (count : ℕ). HandsIn (ranges_there count (eight_ids 16 17 18 19 20 21 22 23)) c.close-2.new.opener c.close-3.new.opener) c.self.invariant.5 c.in_ok-close-3.ensures.handed) in
    let last : OnOk c.close-4.result (HandsIn (ranges_there n (eight_ids 24 25 26 27 28 29 30 31)) c.close-3.new.opener c.close-4.new.opener) = subst (λ (count : ℕ). OnOk c.close-4.result (HandsIn (ranges_there count (eight_ids 24 25 26 27 28 29 30 31)) c.close-3.new.opener c.close-4.new.opener)) c.self.invariant.6 c.close-4.ensures.handed in
    subst (λ (m : RangesMeaning). OnOk c.close-4.result (HandsIn (range_ids (length m.splits + 1)) c.args.opener.now c.close-4.new.opener)) c.self.view_is
    (on_ok_weaker c.close-4.result (hands-further n (eight_ids 0 1 2 3 4 5 6 7 ++ eight_ids 8 9 10 11 12 13 14 15 ++ eight_ids 16 17 18 19 20 21 22 23) (eight_ids 24 25 26 27 28 29 30 31) c.args.opener.now c.close-3.new.opener c.close-4.new.opener h3) last)
