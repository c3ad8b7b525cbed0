-- The words after `refused: `.
use Rattle.std.proofs.Common.{◌≡◌, ◌≤◌, ℕ, List, [], ◌∷◌, ◌++◌, drop, length, refl, arith}
use Rattle.cx_job.specs.declared.fault.JobFault.{JobFault}
use Rattle.cx_run.specs.FaultWords.{fault_words, refused_text}

pub long_enough : (fault : JobFault) → 9 ≤ length (refused_text fault)
long_enough fault = by (fault_words fault ++ 10 ∷ [])
  where
    by : (rest : List ℕ)
        → 9 ≤ length (114 ∷ 101 ∷ 102 ∷ 117 ∷ 115 ∷ 101 ∷ 100 ∷ 58 ∷ 32 ∷ rest)
    by rest = omega arith

pub after_is : (fault : JobFault) → drop 9 (refused_text fault) ≡ fault_words fault ++ 10 ∷ []
after_is fault = refl
