-- Why a call failed, of calls one after another.
use Rattle.std.specs.Prelude.{ℕ, ◌+◌, ◌≤◌, min, Result, IsErrOf}
use Rattle.std.proofs.Common.{arith}
use Rattle.cx_disk.specs.Cause.{HasCause}

rose_least : (a b c most : ℕ) → a ≤ b → min (b + 1) most ≤ c → min (a + 1) most ≤ c
rose_least a b c most le rose = grind arith

-- after a call that was right
pub cause_then : {A E : Type 0} (fault : E) (a b c : ℕ) (result : Result A E) → a ≤ b
    → HasCause fault b c result → HasCause fault a c result
cause_then fault a b c result le cause = record {
  later = omega (arith, le, cause.later);
  failed = λ is. rose_least a b c (18446744073709551615) le (cause.failed is);
}

-- of a call that didn't fail so
pub cause_never : {A E : Type 0} (fault : E) (a b : ℕ) (result : Result A E) → a ≤ b
    → (IsErrOf result fault → ⊥) → HasCause fault a b result
cause_never fault a b result le never = record { later = le; failed = λ is. absurd (never is) }
