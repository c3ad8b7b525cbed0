-- What names stand for.
use Rattle.std.specs.Prelude.{ℕ, ℤ, List, Option}
use Rattle.cx_expr.specs.declared.evaluate.Found.{Found}
use Rattle.cx_expr.specs.declared.evaluate.Found.TheVariants.{Number, Text, Missing}

pub data Known : Type 0 where
  NumberOf : ℤ → Known
  TextOf : List ℕ → Known
  Nothing : Known

abbrev pub known : Found → Known
known (Number n) = NumberOf n
known (Text t) = TextOf t.now
known Missing = Nothing

-- what each name stands for, with an index or without one
abbrev pub Names : Type 0
Names = List ℕ → Option ℕ → Known
