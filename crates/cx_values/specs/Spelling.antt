-- The values that texts spell, by the type of a parameter.
use Rattle.std.specs.Prelude.{ℕ, ◌==◌, Bool, true, false, ℤ, pos, neg_ℤ, List, [], ◌∷◌, codes, Option, Some, None, find, position, if◌then◌else◌}
use Rattle.std.specs.Option.{option_map, unwrap_or}
use Rattle.cx_text.specs.Lexemes.{same_name, among}
use Rattle.cx_text.specs.Digits.{natural_in}
use Rattle.cx_param.specs.Numbers.{lowest, highest}
use Rattle.cx_param.specs.declared.declarations.PType.{PType}
use Rattle.cx_param.specs.declared.declarations.PType.TheVariants.{Boolean, Int, Keyword, String, Real}
use Rattle.cx_param.specs.declared.ranges.Range.{Range}
use Rattle.cx_param.specs.declared.ranges.Range.TheVariants.{Ints, Word, AnyText, SomeText, Other}
use Rattle.cx_param.specs.declared.ranges.Value.{Value}
use Rattle.cx_param.specs.declared.ranges.Value.TheVariants.{Number, Flag, Text}
use Rattle.cx_values.specs.declared.values.Held.{Held}

-- ---- numbers

-- a number of 64 signed bits: digits, or `-` and digits
abbrev pub number_in : List ℕ → Option ℤ
number_in [] = None
number_in (b ∷ bs) = if b == 45 then option_map (λ n. neg_ℤ (pos n)) (natural_in lowest bs)
    else option_map (λ n. pos n) (natural_in highest (b ∷ bs))

-- ---- flags

abbrev pub yes_words : List (List ℕ)
yes_words = codes "yes" ∷ codes "true" ∷ codes "y" ∷ codes "t" ∷ codes "1" ∷ []

abbrev pub no_words : List (List ℕ)
no_words = codes "no" ∷ codes "false" ∷ codes "n" ∷ codes "f" ∷ codes "0" ∷ []

abbrev pub flag_in : List ℕ → Option Bool
flag_in text = if among yes_words text then Some true
    else (if among no_words text then Some false else None)

-- ---- values

-- the value that a text spells, if it spells one
abbrev pub spelled : PType → List ℕ → Option Value
spelled Boolean text = option_map (λ b. Flag b) (flag_in text)
spelled Int text = option_map (λ n. Number n) (number_in text)
spelled Keyword text = Some (Text text)
spelled String text = Some (Text text)
spelled Real text = None

-- a word of a KEYWORD, in any case
abbrev pub is_word : List ℕ → Range → Bool
is_word text (Word w) = same_name w text
is_word text (Ints low low_in high high_in step) = false
is_word text AnyText = false
is_word text SomeText = false
is_word text (Other tokens) = false

abbrev pub word_or : List ℕ → Option Range → List ℕ
word_or text (Some (Word w)) = w
word_or text (Some (Ints low low_in high high_in step)) = text
word_or text (Some AnyText) = text
word_or text (Some SomeText) = text
word_or text (Some (Other tokens)) = text
word_or text None = text

-- a KEYWORD's value is the word as it is declared
abbrev pub as_declared : PType → List Range → Value → Value
as_declared Keyword ranges (Text text) = Text (word_or text (find (is_word text) ranges))
as_declared Keyword ranges (Number n) = Number n
as_declared Keyword ranges (Flag b) = Flag b
as_declared Boolean ranges v = v
as_declared Int ranges v = v
as_declared String ranges v = v
as_declared Real ranges v = v

abbrev pub flag_number : Bool → ℤ
flag_number b = if b then pos 1 else pos 0

-- the number of a value: an INT's own, 0 or 1 of a BOOLEAN, and of a KEYWORD its place among the
-- words
abbrev pub number_by : PType → List Range → Value → Option ℤ
number_by Int ranges (Number n) = Some n
number_by Int ranges (Flag b) = None
number_by Int ranges (Text text) = None
number_by Boolean ranges (Flag b) = Some (flag_number b)
number_by Boolean ranges (Number n) = None
number_by Boolean ranges (Text text) = None
number_by Keyword ranges (Text text) = option_map (λ k. pos k) (position (is_word text) ranges)
number_by Keyword ranges (Number n) = None
number_by Keyword ranges (Flag b) = None
number_by String ranges v = None
number_by Real ranges v = None

abbrev pub held : PType → List Range → Value → Held
held ptype ranges v = record {
  value = as_declared ptype ranges v;
  number = number_by ptype ranges v;
}

-- what a parameter holds where a text gives its value
abbrev pub held_by : PType → List Range → List ℕ → Held
held_by ptype ranges text = held ptype ranges (unwrap_or (spelled ptype text) (Text []))
