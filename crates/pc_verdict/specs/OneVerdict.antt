-- A law of verdicts: of each text at most one is right. Own profile.
use Rattle.std.specs.Prelude.{◌≡◌, ℕ, List}
use Rattle.pc_verdict.specs.declared.verdict.Verdict.{Verdict}
use Rattle.pc_verdict.specs.Verdicts.{IsVerdictOf}

-- Two verdicts that are right of one text are the same.
abbrev pub OneVerdictIsRight : Type 0
OneVerdictIsRight = (bytes : List ℕ) (one other : Verdict) → IsVerdictOf bytes one → IsVerdictOf bytes other → one ≡ other
