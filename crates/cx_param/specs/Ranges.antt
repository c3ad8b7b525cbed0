-- The values that ranges hold.
use Rattle.std.specs.Prelude.{ℕ, ◌%◌, Bool, true, false, ◌&&◌, ◌||◌, ◌==◌, ℤ, ◌-ℤ◌, int_lt, unsigned_abs, if◌then◌else◌, List, length, nat_lt, Option, Some, None}
use Rattle.std.specs.List.{list_any}
use Rattle.std.specs.Ordering.{int_eq}
use Rattle.cx_text.specs.Lexemes.{same_name}
use Rattle.cx_param.specs.declared.ranges.Range.{Range}
use Rattle.cx_param.specs.declared.ranges.Range.TheVariants.{Ints, Word, AnyText, SomeText, Other}
use Rattle.cx_param.specs.declared.ranges.Value.{Value}
use Rattle.cx_param.specs.declared.ranges.Value.TheVariants.{Number, Flag, Text}

-- above a low end, which is in the range or not; with no low end every number is
abbrev pub is_above : Option ℤ → Bool → ℤ → Bool
is_above None is_in n = true
is_above (Some low) is_in n = int_lt low n || (is_in && int_eq low n)

abbrev pub is_below : Option ℤ → Bool → ℤ → Bool
is_below None is_in n = true
is_below (Some high) is_in n = int_lt n high || (is_in && int_eq high n)

-- A step counts from the low end: the number lies so many steps above it. With no low end there is
-- no step.
abbrev pub is_on_step : Option ℤ → ℕ → ℤ → Bool
is_on_step None step n = true
is_on_step (Some low) step n = if step == 0 then int_eq n low
    else unsigned_abs (n -ℤ low) % step == 0

-- Whether a range holds a value. Texts name one word without regard to case, any text, or any text
-- that is not empty.
abbrev pub holds : Range → Value → Bool
holds (Ints low low_in high high_in step) (Number n) =
    is_above low low_in n && (is_below high high_in n && is_on_step low step n)
holds (Word word) (Text t) = same_name word t
holds AnyText (Text t) = true
holds SomeText (Text t) = nat_lt 0 (length t)
holds (Ints low low_in high high_in step) (Flag b) = false
holds (Ints low low_in high high_in step) (Text t) = false
holds (Word word) (Number n) = false
holds (Word word) (Flag b) = false
holds AnyText (Number n) = false
holds AnyText (Flag b) = false
holds SomeText (Number n) = false
holds SomeText (Flag b) = false
holds (Other tokens) v = false

-- whether one of the ranges holds a value
abbrev pub any_holds : List Range → Value → Bool
any_holds ranges v = list_any (λ r. holds r v) ranges

-- Whether some ranges allow a value. A BOOLEAN takes either value, whatever texts its block has.
abbrev pub allows : List Range → Value → Bool
allows ranges (Number n) = any_holds ranges (Number n)
allows ranges (Text t) = any_holds ranges (Text t)
allows ranges (Flag b) = true
