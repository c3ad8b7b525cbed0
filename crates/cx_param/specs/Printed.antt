-- Declarations as tokens.
use Rattle.std.specs.Prelude.{ℕ, ◌==◌, Bool, if◌then◌else◌, List, [], ◌∷◌, ◌++◌, ℤ, pos, int_lt, unsigned_abs, codes, Option, Some, None}
use Rattle.std.specs.Fmt.{decimal}
use Rattle.cx_text.specs.declared.token.Token.{Token}
use Rattle.cx_text.specs.Written.{word, quoted, sign, line_end}
use Rattle.cx_text.specs.Written as written
use Rattle.cx_param.specs.declared.declarations.PType.{PType}
use Rattle.cx_param.specs.declared.declarations.PType.TheVariants.{Boolean, Int, Keyword, String, Real}
use Rattle.cx_param.specs.declared.declarations.Steer.{Steer}
use Rattle.cx_param.specs.declared.declarations.Steer.TheVariants.{Never, Always, Recover}
use Rattle.cx_param.specs.declared.declarations.Scope.{Scope}
use Rattle.cx_param.specs.declared.declarations.Scope.TheVariants as scopes
use Rattle.cx_param.specs.declared.declarations.ParamDecl.{ParamDecl}
use Rattle.cx_param.specs.declared.ranges.Range.{Range}
use Rattle.cx_param.specs.declared.ranges.Range.TheVariants as ranges

abbrev pub number : ℕ → Token
number n = written.number (decimal n)

-- ---- blocks

abbrev pub signed : ℤ → List Token
signed n = if int_lt n (pos 0) then (sign 45 ∷ number (unsigned_abs n) ∷ [])
    else (number (unsigned_abs n) ∷ [])

abbrev pub bound : Option ℤ → List Token
bound None = sign 42 ∷ []
bound (Some n) = signed n

-- a step of 1 stands where none is given
abbrev pub step : ℕ → List Token
step n = if n == 1 then [] else (sign 58 ∷ number n ∷ [])

abbrev pub opening : Bool → Token
opening is_in = sign (if is_in then 91 else 40)

abbrev pub closing : Bool → Token
closing is_in = sign (if is_in then 93 else 41)

-- both ends and their brackets, so that no range reaches into the next
abbrev pub range : Range → List Token
range (ranges.Ints low low_in high high_in n) =
    opening low_in ∷ bound low ++ sign 58 ∷ bound high ++ step n ++ closing high_in ∷ []
range (ranges.Word text) = quoted text ∷ []
range ranges.AnyText = quoted (codes ".*") ∷ []
range ranges.SomeText = quoted (codes ".+") ∷ []
range (ranges.Other ts) = ts

abbrev pub each_range : List Range → List Token
each_range [] = []
each_range (r ∷ rs) = range r ++ each_range rs

abbrev pub block : List Range → List Token
block rs = sign 123 ∷ each_range rs ++ sign 125 ∷ []

-- no block is printed for a use or an extension that has no ranges
abbrev pub shared_block : List Range → List Token
shared_block [] = []
shared_block (r ∷ rs) = block (r ∷ rs)

-- ---- declarations

abbrev pub type_name : PType → List ℕ
type_name Boolean = codes "BOOLEAN"
type_name Int = codes "INT"
type_name Keyword = codes "KEYWORD"
type_name String = codes "STRING"
type_name Real = codes "REAL"

abbrev pub length : Option ℕ → List Token
length None = []
length (Some n) = sign 91 ∷ number n ∷ sign 93 ∷ []

abbrev pub alias : Option (List ℕ) → List Token
alias None = []
alias (Some name) = word (codes "AS") ∷ word name ∷ []

abbrev pub steer_name : Steer → List ℕ
steer_name Never = codes "NEVER"
steer_name Always = codes "ALWAYS"
steer_name Recover = codes "RECOVER"

abbrev pub steering : Steer → List Token
steering s = word (codes "STEERABLE") ∷ sign 61 ∷ word (steer_name s) ∷ []

abbrev pub heading : ParamDecl → List Token
heading d = word (type_name d.ptype) ∷ word d.name ∷ length d.length ++ alias d.alias
    ++ steering d.steer

-- the line behind which it stands
abbrev pub access : Scope → List Token
access scopes.Private = word (codes "private") ∷ sign 58 ∷ line_end ∷ []
access scopes.Restricted = word (codes "restricted") ∷ sign 58 ∷ line_end ∷ []
access scopes.Global = word (codes "global") ∷ sign 58 ∷ line_end ∷ []
access (scopes.Uses name) =
    word (codes "shares") ∷ sign 58 ∷ word name ∷ line_end ∷ word (codes "USES") ∷ []
access (scopes.Extends name) =
    word (codes "shares") ∷ sign 58 ∷ word name ∷ line_end ∷ word (codes "EXTENDS") ∷ []

-- The text of a REAL default stands as it is, in one piece.
abbrev pub default : PType → List ℕ → Token
default Real text = word text
default Boolean text = quoted text
default Int text = quoted text
default Keyword text = quoted text
default String text = quoted text

abbrev pub body : PType → List Range → Option (List ℕ) → List Token
body p rs None = shared_block rs
body p rs (Some text) = block rs ++ default p text ∷ []

-- each behind its access line, on a line of its own
abbrev pub decl : ParamDecl → List Token
decl d = access d.scope ++ heading d ++ body d.ptype d.ranges d.default ++ line_end ∷ []

abbrev pub decls : List ParamDecl → List Token
decls [] = []
decls (d ∷ ds) = decl d ++ decls ds
