-- Turns, sessions that go to their ends, and recoverers that make their rounds, one more behind others.
use Rattle.std.proofs.Common.{◌≡◌, ℕ, zero, suc, ◌+◌, Bool, List, [], ◌∷◌, ◌++◌, Option, refl, sym, ap, subst, ◌∙◌, arith, add-zero}
use Rattle.std.proofs.lemmas.List.{append-nil, append_assoc}
use Rattle.pc_history.specs.declared.pair.Pair.{Pair}
use Rattle.pc_proto.specs.declared.call.Call.{Call}
use Rattle.pc_proto.specs.declared.event.Event.{Event}
use Rattle.pc_turns.specs.Order.{AreTakenIn, GoToEnds, GoesByItself, IsTakenIn, MakeRoundsLeft, is_at_end, recoverer_turns}
use Rattle.pc_work.specs.declared.turn.Turn.{Turn}
use Rattle.pc_work.specs.declared.turn.Turn.TheVariants as turns

module _ (next : ℕ → List (Pair Event) → Option Call) (ended : ℕ → List (Pair Event) → Bool) where
  pub taken_next : (halted : ℕ → List (Pair Event) → Bool) (rounds : ℕ → ℕ) (done : List Turn) (turn : Turn) (before part more : List (Pair Event)) → AreTakenIn next ended halted rounds done before part → IsTakenIn next ended halted rounds turn (before ++ part) more
      → AreTakenIn next ended halted rounds (done ++ turn ∷ []) before (part ++ more)
  taken_next halted rounds [] turn before part more none taken =
      let here : IsTakenIn next ended halted rounds turn before more = subst (λ b. IsTakenIn next ended halted rounds turn b more) (ap (λ p. before ++ p) none ∙ append-nil before) taken in (
        more,
        [],
        ap (λ p. p ++ more) none ∙ sym (append-nil more),
        here,
        refl,
      )
  taken_next halted rounds (first ∷ done) turn before part more (mine, rest, whole, is, are) taken = (
    mine,
    rest ++ more,
    ap (λ p. p ++ more) whole ∙ append_assoc mine rest more,
    is,
    taken_next halted rounds done turn (before ++ mine) rest more are
        (subst (λ b. IsTakenIn next ended halted rounds turn b more) (ap (λ p. before ++ p) whole ∙ sym (append_assoc before mine rest)) taken),
  )

  pub gone_out_next : (number count : ℕ) (before part more : List (Pair Event)) → GoToEnds next ended number count before part
      → GoesByItself next ended (number + count) (is_at_end next (number + count)) (before ++ part) more → GoToEnds next ended number (suc count) before (part ++ more)
  gone_out_next number zero before part more none goes =
      let here : GoesByItself next ended number (is_at_end next number) before more =
      subst (λ b. GoesByItself next ended number (is_at_end next number) b more) (ap (λ p. before ++ p) none ∙ append-nil before)
      (subst (λ n. GoesByItself next ended n (is_at_end next n) (before ++ part) more) (add-zero number) goes) in (
        more,
        [],
        ap (λ p. p ++ more) none ∙ sym (append-nil more),
        here,
        refl,
      )
  gone_out_next number (suc count) before part more (mine, rest, whole, is, are) goes =
      let same : number + suc count ≡ (number + 1) + count = omega arith in (
        mine,
        rest ++ more,
        ap (λ p. p ++ more) whole ∙ append_assoc mine rest more,
        is,
        gone_out_next (number + 1) count (before ++ mine) rest more are
            (subst (λ b. GoesByItself next ended ((number + 1) + count) (is_at_end next ((number + 1) + count)) b more) (ap (λ p. before ++ p) whole ∙ sym (append_assoc before mine rest))
            (subst (λ n. GoesByItself next ended n (is_at_end next n) (before ++ part) more) same goes)),
      )

  -- one more turn of a recoverer
  pub one_more_turn : (number count : ℕ) → recoverer_turns number (count + 1) ≡ recoverer_turns number count ++ turns.Recoverer number ∷ []
  one_more_turn number zero = refl
  one_more_turn number (suc count) =
      let same : suc count + 1 ≡ suc (count + 1) = omega arith in
      ap (recoverer_turns number) same ∙ ap (λ ts. turns.Recoverer number ∷ ts) (one_more_turn number count)

  pub recovered_next : (halted : ℕ → List (Pair Event) → Bool) (rounds : ℕ → ℕ) (number count : ℕ) (before part more : List (Pair Event)) → MakeRoundsLeft next ended halted rounds number count before part
      → AreTakenIn next ended halted rounds (recoverer_turns (number + count) (rounds (number + count))) (before ++ part) more → MakeRoundsLeft next ended halted rounds number (suc count) before (part ++ more)
  recovered_next halted rounds number zero before part more none taken =
      let T : ℕ → List (Pair Event) → Type 0 = λ n b. AreTakenIn next ended halted rounds (recoverer_turns n (rounds n)) b more in
      let here : T number before = subst (λ b. T number b) (ap (λ p. before ++ p) none ∙ append-nil before) (subst (λ n. T n (before ++ part)) (add-zero number) taken) in (
        more,
        [],
        ap (λ p. p ++ more) none ∙ sym (append-nil more),
        here,
        refl,
      )
  recovered_next halted rounds number (suc count) before part more (mine, rest, whole, is, are) taken =
      let T : ℕ → List (Pair Event) → Type 0 = λ n b. AreTakenIn next ended halted rounds (recoverer_turns n (rounds n)) b more in
      let same : number + suc count ≡ (number + 1) + count = omega arith in (
        mine,
        rest ++ more,
        ap (λ p. p ++ more) whole ∙ append_assoc mine rest more,
        is,
        recovered_next halted rounds (number + 1) count (before ++ mine) rest more are
            (subst (λ b. T ((number + 1) + count) b) (ap (λ p. before ++ p) whole ∙ sym (append_assoc before mine rest)) (subst (λ n. T n (before ++ part)) same taken)),
      )
