-- Routines that are handed in.
use Rattle.std.specs.Prelude.{◌≡◌, true, ℕ, List, Some, slice_get}
use Rattle.cx_text.specs.Lexemes.{same_name}
use Rattle.cx_rule.specs.declared.spec.Spec.{Spec}
use Rattle.cx_rule.specs.Routine.{Rule, rule_at}

-- of each routine that is one of this thorn, by its name in any case, this holds: of what it
-- computes, and of what it says of itself
abbrev pub EachOf : List ℕ → (Rule → Spec → Type 0) → List Rule → List Spec → Type 0
EachOf thorn Is rules specs = (k : ℕ) (spec : Spec) → slice_get specs k ≡ Some spec
    → same_name spec.thorn thorn ≡ true → Is (rule_at rules k) spec
