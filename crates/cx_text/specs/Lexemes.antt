-- Rules for single tokens and short lists of them, which several grammars share.
use Rattle.std.specs.Prelude.{ℕ, ◌+◌, ◌-◌, ◌*◌, Bool, true, false, cond, not, ◌&&◌, ◌||◌, nat_lt, List, [], ◌∷◌, ◌++◌, map, Option, Some, None, Result, Ok, Err}
use Rattle.std.specs.List.{list_any}
use Rattle.std.specs.Str.{bytes_eq}
use Rattle.std.specs.Char.{to_ascii_lowercase}
use Rattle.cx_text.specs.declared.token.Kind.{Kind}
use Rattle.cx_text.specs.declared.token.Kind.TheVariants.{Word, Number, Quoted, Sign, LineEnd}
use Rattle.cx_text.specs.declared.stop.Mark.{Mark}
use Rattle.cx_text.specs.declared.stop.Mark.TheVariants.{Repeated, BadNumber, Limit}
use Rattle.cx_text.specs.declared.stop.Stop.{Stop}
use Rattle.cx_text.specs.declared.fault.CclFault.{CclFault}
use Rattle.cx_text.specs.declared.fault.CclFault.TheVariants as faults
use Rattle.cx_text.specs.declared.token.Token.{Token}
use Rattle.cx_text.specs.Tokens.{is_word, is_line_end}
use Rattle.cx_text.specs.Grammar.{line_at}
use Rattle.cx_text.specs.Reading.{fault_of}
use Rattle.cx_text.specs.Rules.{Rule, token, nothing, ◌>>=◌, choice, loop, if_is, unmarked, is_sign_kind, is_sign, is_named, name_of, name_mark, lexeme, sign, name, name_here}

-- ---- marks

-- this mark where it holds, else another
abbrev pub first_mark : Bool → Mark → Option Mark → Option Mark
first_mark true m other = Some m
first_mark false m other = other

-- every token is past the limit
abbrev pub too_deep : Token → Option Mark
too_deep t = Some Limit

-- what goes deeper than it may is marked, and then nothing more is asked of it
abbrev pub beyond : {A : Type 0} → (Token → Bool) → A → Rule A
beyond test x = do
  u ← lexeme (if_is test) too_deep
  nothing x

-- ---- names

-- one name, in any case
abbrev pub same_name : List ℕ → List ℕ → Bool
same_name a b = bytes_eq (map to_ascii_lowercase a) (map to_ascii_lowercase b)

abbrev pub among : List (List ℕ) → List ℕ → Bool
among names name = list_any (same_name name) names

-- a keyword that may stand once, and what follows it on its line
abbrev pub once_here : List ℕ → Bool → Rule (Unit {0})
once_here name seen = token (if_is (is_named name)) (λ t. first_mark seen Repeated None)

-- a keyword that may stand once
abbrev pub once : List ℕ → Bool → Rule (Unit {0})
once name seen = lexeme (if_is (is_named name)) (λ t. first_mark seen Repeated None)

-- a keyword that begins what is counted, where as many as may stand are there already
abbrev pub counted_keyword_here : List ℕ → Bool → Rule (Unit {0})
counted_keyword_here name full = token (if_is (is_named name)) (λ t. first_mark full Limit None)

abbrev pub counted_keyword : List ℕ → Bool → Rule (Unit {0})
counted_keyword name full = lexeme (if_is (is_named name)) (λ t. first_mark full Limit None)

-- a name that isn't yet among these
abbrev pub new_name_here : List (List ℕ) → Rule (List ℕ)
new_name_here names = token name_of (λ t. first_mark (among names t.text) Repeated (name_mark t))

abbrev pub new_name : List (List ℕ) → Rule (List ℕ)
new_name names = lexeme name_of (λ t. first_mark (among names t.text) Repeated (name_mark t))

-- a word that is no name, so of any length
abbrev pub word : Rule (List ℕ)
word = lexeme name_of unmarked

-- ---- signs of two bytes

abbrev pub is_sign_pair : ℕ → ℕ → Token → Bool
is_sign_pair a b t = is_sign_kind t.kind && bytes_eq t.text (a ∷ b ∷ [])

abbrev pub sign_pair : ℕ → ℕ → Rule (Unit {0})
sign_pair a b = lexeme (if_is (is_sign_pair a b)) unmarked

-- ---- numbers

-- the number of a run of digits, behind those that make n
abbrev pub decimal_from : ℕ → List ℕ → ℕ
decimal_from n [] = n
decimal_from n (b ∷ bs) = decimal_from (n * 10 + (b - 48)) bs

abbrev pub is_number_kind : Kind → Bool
is_number_kind Number = true
is_number_kind Word = false
is_number_kind LineEnd = false
is_number_kind Quoted = false
is_number_kind Sign = false

abbrev pub is_number : Token → Bool
is_number t = is_number_kind t.kind

abbrev pub number_of : Token → Option ℕ
number_of t = cond (is_number t) (Some (decimal_from 0 t.text)) None

abbrev pub number_mark : ℕ → ℕ → Token → Option Mark
number_mark low high t =
    first_mark (nat_lt (decimal_from 0 t.text) low || nat_lt high (decimal_from 0 t.text))
    BadNumber None

-- a number from low to high
abbrev pub number_in : ℕ → ℕ → Rule ℕ
number_in low high = lexeme number_of (number_mark low high)

-- ---- quoted texts

abbrev pub is_quoted_kind : Kind → Bool
is_quoted_kind Quoted = true
is_quoted_kind Word = false
is_quoted_kind Number = false
is_quoted_kind Sign = false
is_quoted_kind LineEnd = false

abbrev pub is_quoted : Token → Bool
is_quoted t = is_quoted_kind t.kind

abbrev pub quoted_of : Token → Option (List ℕ)
quoted_of t = cond (is_quoted t) (Some t.text) None

abbrev pub quoted : Rule (List ℕ)
quoted = lexeme quoted_of unmarked

-- ---- lists of names

abbrev pub is_comma_or_word : Token → Bool
is_comma_or_word t = is_sign 44 t || is_word t

-- [","]
abbrev pub comma : Rule (Unit {0})
comma = choice (is_sign 44) (sign 44) (nothing tt)

-- [","] Word, where LineEnd may come next
abbrev pub more_names : List (List ℕ) → Rule (List (List ℕ))
more_names ns = do
  u ← comma
  n ← name_here
  nothing (ns ++ n ∷ [])

-- Word { [","] Word }, where LineEnd may come next
abbrev pub some_names : List (List ℕ) → Rule (List (List ℕ))
some_names ns = do
  n ← name_here
  loop is_comma_or_word more_names (ns ++ n ∷ [])

-- names = [ Word { [","] Word } ]
abbrev pub names : List (List ℕ) → Rule (List (List ℕ))
names ns = choice is_word (some_names ns) (nothing ns)

-- [","] Word
abbrev pub more_listed : List (List ℕ) → Rule (List (List ℕ))
more_listed ns = do
  u ← comma
  n ← name
  nothing (ns ++ n ∷ [])

-- Word { [","] Word }
abbrev pub listed : List (List ℕ) → Rule (List (List ℕ))
listed ns = do
  n ← name
  loop is_comma_or_word more_listed (ns ++ n ∷ [])

-- ---- tokens of any kind

-- what a line goes on with
abbrev pub in_line : Token → Bool
in_line t = not (is_line_end t)

-- as a tree keeps it
abbrev pub kept : Token → Token
kept t = record t { line = 0 }

abbrev pub kept_if : (Token → Bool) → Token → Option Token
kept_if test t = cond (test t) (Some (kept t)) None

abbrev pub more_kept : (Token → Bool) → List Token → Rule (List Token)
more_kept test ts = do
  t ← token (kept_if test) unmarked
  nothing (ts ++ t ∷ [])

-- all tokens that pass, kept
abbrev pub kept_while : (Token → Bool) → Rule (List Token)
kept_while test = loop test (more_kept test) []

abbrev pub is_inside : Token → Bool
is_inside t = not (is_sign 125 t)

abbrev pub inside : Unit {0} → Rule (Unit {0})
inside u = token (if_is is_inside) unmarked

-- "{" tokens "}"
abbrev pub braces : Rule (Unit {0})
braces = do
  u ← sign 123
  v ← loop is_inside inside tt
  sign 125

-- ---- a whole list

-- what a reader answers where it stopped, or where it read a value and `rest` is left
abbrev pub finished : {X : Type 0} → List Token → List Token → Result X Stop → Result X CclFault
finished ts [] (Ok x) = Ok x
finished ts (t ∷ rest) (Ok x) = Err (faults.Unexpected t.line)
finished ts rest (Err stop) = Err (fault_of stop (line_at ts rest))
