-- What stands between a parameter's braces.
use Rattle.std.specs.Prelude.{ℕ, Bool, true, false, cond, ◌&&◌, ◌||◌, List, [], ◌∷◌, ◌++◌, ℤ, codes, Option, Some, None, is_none}
use Rattle.std.specs.Str.{bytes_eq}
use Rattle.cx_text.specs.declared.token.Token.{Token}
use Rattle.cx_text.specs.Rules.{Rule, nothing, ◌>>=◌, choice, loop, is_sign, sign, sign_here}
use Rattle.cx_text.specs.Lexemes.{is_number, is_quoted, quoted, is_sign_pair, sign_pair, is_inside, kept_while}
use Rattle.cx_param.specs.declared.declarations.PType.{PType}
use Rattle.cx_param.specs.declared.declarations.PType.TheVariants.{Boolean, Int, Keyword, String, Real}
use Rattle.cx_param.specs.declared.ranges.Range.{Range}
use Rattle.cx_param.specs.declared.ranges.Range.TheVariants.{Ints, Word, AnyText, SomeText, Other}
use Rattle.cx_param.specs.declared.blocks.Span.{Span}
use Rattle.cx_param.specs.Numbers.{number, begins_number, step}

-- [ "::" Quoted ]
abbrev pub description : Rule (Unit {0})
description = choice (is_sign_pair 58 58) (do u ← sign_pair 58 58; t ← quoted; nothing tt)
    (nothing tt)

-- ---- ranges of numbers

-- the ranges before, and the one that is being read
pub record Open : Type 0 where
  pub ranges : List Range
  pub span : Span

abbrev pub opened : List Range → Span → Open
opened rs s = record { ranges = rs; span = s }

-- a low end that is in the range or not, behind which nothing is read yet: one number, or all of
-- them
abbrev pub begun : Option ℤ → Bool → Span
begun low low_in = record { low = low; low_in = low_in; high = low; high_in = true; step = None }

abbrev pub one_or : Option ℕ → ℕ
one_or None = 1
one_or (Some n) = n

abbrev pub range_of : Span → Range
range_of s = Ints s.low s.low_in s.high s.high_in (one_or s.step)

abbrev pub is_colon : Token → Bool
is_colon t = is_sign 58 t

abbrev pub is_bracket : Token → Bool
is_bracket t = is_sign 40 t || is_sign 91 t

abbrev pub is_close : Token → Bool
is_close t = is_sign 41 t || is_sign 93 t

abbrev pub is_end : Token → Bool
is_end t = is_sign 42 t || begins_number t

-- "(" | "[": whether the end is in the range
abbrev pub bracket : Rule Bool
bracket = choice (is_sign 40) (sign 40 >>= λ u. nothing false) (sign 91 >>= λ u. nothing true)

-- ")" | "]"
abbrev pub close_bracket : Rule Bool
close_bracket = choice (is_sign 41) (sign 41 >>= λ u. nothing false) (sign 93 >>= λ u. nothing true)

-- end = number | "*"
abbrev pub end : Rule (Option ℤ)
end = choice (is_sign 42) (sign 42 >>= λ u. nothing None) (number >>= λ n. nothing (Some n))

-- [ end ]
abbrev pub bound : Rule (Option ℤ)
bound = choice is_end end (nothing None)

-- [ ")" | "]" ]
abbrev pub closing : Rule Bool
closing = choice is_close close_bracket (nothing true)

-- the range is whole
abbrev pub ended : Open → Bool → List Range
ended o high_in = o.ranges ++ range_of (record o.span { high_in = high_in }) ∷ []

abbrev pub closed : Open → Rule (List Range)
closed o = do
  high_in ← closing
  nothing (ended o high_in)

-- ":" [ end ]
abbrev pub upper : Open → Rule Open
upper o = do
  u ← sign 58
  high ← bound
  nothing (opened o.ranges (record o.span { high = high }))

-- a step, where there is none yet
abbrev pub is_step : Span → Token → Bool
is_step s t = is_none s.step && is_number t

abbrev pub stepped : Open → Rule Open
stepped o = do
  n ← step o.span.low
  nothing (opened o.ranges (record o.span { step = Some n }))

-- the range ends before the colon, which begins another
abbrev pub next_span : Open → Rule Open
next_span o = do
  high ← bound
  nothing (opened (ended o o.span.high_in)
      (record { low = None; low_in = true; high = high; high_in = true; step = None }))

-- Behind a further colon the next token decides: a number is the step, if there is none yet. Else
-- the colon begins a range of its own, as in 0:5:-3.
abbrev pub further : Open → Rule Open
further o = do
  u ← sign 58
  choice (is_step o.span) (stepped o) (next_span o)

-- ":" [ end ] [ ":" Number ], and ranges that begin with a colon behind it
abbrev pub uppers : Open → Rule Open
uppers o = do
  p ← upper o
  loop is_colon further p

-- what follows the low end
abbrev pub behind_low : Open → Rule (List Range)
behind_low o = do
  p ← choice is_colon (uppers o) (nothing o)
  closed p

abbrev pub bracketed : List Range → Rule (List Range)
bracketed rs = do
  low_in ← bracket
  low ← bound
  behind_low (opened rs (begun low low_in))

abbrev pub from_low : List Range → Rule (List Range)
from_low rs = do
  low ← end
  behind_low (opened rs (begun low true))

abbrev pub from_colon : List Range → Rule (List Range)
from_colon rs = do
  p ← uppers (opened rs (begun None true))
  closed p

abbrev pub from_close : List Range → Rule (List Range)
from_close rs = do
  high_in ← close_bracket
  nothing (ended (opened rs (begun None true)) high_in)

-- ints = [ "(" | "[" ] [ end ] [ ":" [ end ] [ ":" Number ] ] [ ")" | "]" ], by its first token, so
-- that it isn't empty
abbrev pub ints : List Range → Rule (List Range)
ints rs = choice is_bracket (bracketed rs)
    (choice is_colon (from_colon rs) (choice is_close (from_close rs) (from_low rs)))

abbrev pub is_ints : Token → Bool
is_ints t = is_bracket t || is_colon t || is_close t || is_end t

-- ints [ "::" Quoted ]
abbrev pub number_range : List Range → Rule (List Range)
number_range rs = do
  ss ← ints rs
  u ← description
  nothing ss

-- ---- ranges of texts

-- in a STRING block "" and ".*" stand for every text, and ".+" for every one but the empty one
abbrev pub string_range : List ℕ → Range
string_range t = cond (bytes_eq t [] || bytes_eq t (codes ".*")) AnyText
    (cond (bytes_eq t (codes ".+")) SomeText (Word t))

abbrev pub text_range : PType → List ℕ → Range
text_range String t = string_range t
text_range Boolean t = Word t
text_range Int t = Word t
text_range Keyword t = Word t
text_range Real t = Word t

-- Quoted
abbrev pub one_text : PType → List Range → Rule (List Range)
one_text p rs = do
  t ← quoted
  nothing (rs ++ text_range p t ∷ [])

-- "," Quoted
abbrev pub more_text : PType → List Range → Rule (List Range)
more_text p rs = do
  u ← sign 44
  one_text p rs

-- Quoted { "," Quoted } [ "::" Quoted ]: each text is a range of its own
abbrev pub texts : PType → List Range → Rule (List Range)
texts p rs = do
  ss ← one_text p rs
  qs ← loop (is_sign 44) (more_text p) ss
  u ← description
  nothing qs

-- ---- blocks

-- "{" { range } "}"
abbrev pub number_block : Rule (List Range)
number_block = do
  u ← sign 123
  rs ← loop is_ints number_range []
  v ← sign 125
  nothing rs

-- a STRING block without texts allows every text
abbrev pub or_any : PType → List Range → List Range
or_any String [] = AnyText ∷ []
or_any String (r ∷ rs) = r ∷ rs
or_any Boolean rs = rs
or_any Int rs = rs
or_any Keyword rs = rs
or_any Real rs = rs

abbrev pub text_block : PType → Rule (List Range)
text_block p = do
  u ← sign 123
  rs ← loop is_quoted (texts p) []
  v ← sign 125
  nothing (or_any p rs)

-- a REAL block is kept as it stands
abbrev pub kept_block : Rule (List Range)
kept_block = do
  u ← sign_here 123
  ts ← kept_while is_inside
  v ← sign 125
  nothing (Other ts ∷ [])

abbrev pub block : PType → Rule (List Range)
block Int = number_block
block Real = kept_block
block Boolean = text_block Boolean
block Keyword = text_block Keyword
block String = text_block String
