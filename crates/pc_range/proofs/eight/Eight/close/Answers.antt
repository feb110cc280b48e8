use Rattle.std.proofs.Common.{ℕ, [], ◌∷◌, OnOk, is_some, subst}
use Rattle.std.proofs.lemmas.Result.{on_ok_weaker}
use Rattle.pc_base.specs.declared.actor.ActorId.TheVariants.{Range}
use Rattle.pc_range.proofs.Seating.{hands-first, hands-more}
use Rattle.pc_range.specs.Seats.{HandsIn, eight_ids, ranges_there}
use Rattle.pc_range.proofs.eight.Eight.close.Goals as goal

pub returns-clause-handed : goal.returns-clause-handed
returns-clause-handed g c =
    let n = c.self.inside.count in
    let h1 : HandsIn (ranges_there n (Range g.row.A ∷ [])) c.args.opener.now c.close.new.opener = hands-first n g.row.A (is_some c.self.inside.first) c.args.opener.now c.close.new.opener c.self.invariant.0 c.in_ok-close.ensures.handed in
    let h2 : HandsIn (ranges_there n (Range g.row.A ∷ Range g.row.B ∷ [])) c.args.opener.now c.close-2.new.opener = hands-more n g.row.B (Range g.row.A ∷ []) (is_some c.self.inside.second) c.args.opener.now c.close.new.opener c.close-2.new.opener h1 c.self.invariant.1 c.in_ok-close-2.ensures.handed in
    let h3 : HandsIn (ranges_there n (Range g.row.A ∷ Range g.row.B ∷ Range g.row.C ∷ [])) c.args.opener.now c.close-3.new.opener = hands-more n g.row.C (Range g.row.A ∷ Range g.row.B ∷ []) (is_some c.self.inside.third) c.args.opener.now c.close-2.new.opener c.close-3.new.opener h2 c.self.invariant.2 c.in_ok-close-3.ensures.handed in
    let h4 : HandsIn (ranges_there n (Range g.row.A ∷ Range g.row.B ∷ Range g.row.C ∷ Range g.row.D ∷ [])) c.args.opener.now c.close-4.new.opener = hands-more n g.row.D (Range g.row.A ∷ Range g.row.B ∷ Range g.row.C ∷ []) (is_some c.self.inside.fourth) c.args.opener.now c.close-3.new.opener c.close-4.new.opener h3 c.self.invariant.3 c.in_ok-close-4.ensures.handed in
    let h5 : HandsIn (ranges_there n (Range g.row.A ∷ Range g.row.B ∷ Range g.row.C ∷ Range g.row.D ∷ Range g.row.E ∷ [])) c.args.opener.now c.close-5.new.opener = hands-more n g.row.E (Range g.row.A ∷ Range g.row.B ∷ Range g.row.C ∷ Range g.row.D ∷ []) (is_some c.self.inside.fifth) c.args.opener.now c.close-4.new.opener c.close-5.new.opener h4 c.self.invariant.4 c.in_ok-close-5.ensures.handed in
    let h6 : HandsIn (ranges_there n (Range g.row.A ∷ Range g.row.B ∷ Range g.row.C ∷ Range g.row.D ∷ Range g.row.E ∷ Range g.row.F ∷ [])) c.args.opener.now c.close-6.new.opener = hands-more n g.row.F (Range g.row.A ∷ Range g.row.B ∷ Range g.row.C ∷ Range g.row.D ∷ Range g.row.E ∷ []) (is_some c.self.inside.sixth) c.args.opener.now c.close-5.new.opener c.close-6.new.opener h5 c.self.invariant.5 c.in_ok-close-6.ensures.handed in
    let h7 : HandsIn (ranges_there n (Range g.row.A ∷ Range g.row.B ∷ Range g.row.C ∷ Range g.row.D ∷ Range g.row.E ∷ Range g.row.F ∷ Range g.row.G ∷ [])) c.args.opener.now c.close-7.new.opener = hands-more n g.row.G (Range g.row.A ∷ Range g.row.B ∷ Range g.row.C ∷ Range g.row.D ∷ Range g.row.E ∷ Range g.row.F ∷ []) (is_some c.self.inside.seventh) c.args.opener.now c.close-6.new.opener c.close-7.new.opener h6 c.self.invariant.6 c.in_ok-close-7.ensures.handed in
    subst (λ (count : ℕ). OnOk c.close-8.result (HandsIn (ranges_there count (eight_ids g.row.A g.row.B g.row.C g.row.D g.row.E g.row.F g.row.G g.row.H)) c.args.opener.now c.close-8.new.opener)) c.self.view_is
    (on_ok_weaker c.close-8.result (hands-more n g.row.H (Range g.row.A ∷ Range g.row.B ∷ Range g.row.C ∷ Range g.row.D ∷ Range g.row.E ∷ Range g.row.F ∷ Range g.row.G ∷ []) (is_some c.self.inside.eighth) c.args.opener.now c.close-7.new.opener c.close-8.new.opener h7 c.self.invariant.7) c.close-8.ensures.handed)
