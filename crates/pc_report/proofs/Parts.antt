-- Three texts that were appended one behind the other are one text behind what stood there.
use Rattle.std.proofs.Common.{◌≡◌, ℕ, List, ◌++◌, ap, ◌∙◌, append_assoc}

pub three_parts : (old first second third after_first after_second after_third : List ℕ) → after_first ≡ old ++ first → after_second ≡ after_first ++ second → after_third ≡ after_second ++ third → after_third ≡ old ++ (first ++ (second ++ third))
three_parts old first second third after_first after_second after_third e f g =
    let regroup : ((old ++ first) ++ second) ++ third ≡ old ++ (first ++ (second ++ third)) = simp append_assoc in
    g ∙ ap (λ bytes. bytes ++ third) (f ∙ ap (λ bytes. bytes ++ second) e) ∙ regroup
