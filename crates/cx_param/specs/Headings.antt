-- The types of parameters, and what stands before a parameter's block.
use Rattle.std.specs.Prelude.{ℕ, Bool, false, cond, ◌||◌, List, codes, Option, Some, None}
use Rattle.cx_text.specs.declared.token.Token.{Token}
use Rattle.cx_text.specs.declared.stop.Mark.TheVariants.{Limit}
use Rattle.cx_text.specs.Rules.{Rule, nothing, ◌>>=◌, choice, unmarked, is_sign, is_named, lexeme, keyword, sign, name}
use Rattle.cx_text.specs.Lexemes.{first_mark, number_in, is_quoted, quoted}
use Rattle.cx_param.specs.declared.declarations.PType.{PType}
use Rattle.cx_param.specs.declared.declarations.PType.TheVariants.{Boolean, Int, Keyword, String, Real}
use Rattle.cx_param.specs.declared.declarations.Steer.{Steer}
use Rattle.cx_param.specs.declared.declarations.Steer.TheVariants.{Never, Always, Recover}
use Rattle.cx_param.specs.declared.headings.Heading.{Heading}

-- ---- words

-- ptype = BOOLEAN | BOOL | INT | KEYWORD | STRING | REAL, with or without CCTK_
abbrev pub is_boolean : Token → Bool
is_boolean t = is_named (codes "BOOLEAN") t || is_named (codes "BOOL") t
    || is_named (codes "CCTK_BOOLEAN") t || is_named (codes "CCTK_BOOL") t

abbrev pub is_int : Token → Bool
is_int t = is_named (codes "INT") t || is_named (codes "CCTK_INT") t

abbrev pub is_keyword : Token → Bool
is_keyword t = is_named (codes "KEYWORD") t || is_named (codes "CCTK_KEYWORD") t

abbrev pub is_string : Token → Bool
is_string t = is_named (codes "STRING") t || is_named (codes "CCTK_STRING") t

abbrev pub is_real : Token → Bool
is_real t = is_named (codes "REAL") t || is_named (codes "CCTK_REAL") t

abbrev pub ptype_of : Token → Option PType
ptype_of t = cond (is_boolean t) (Some Boolean)
    (cond (is_int t) (Some Int)
    (cond (is_keyword t) (Some Keyword)
    (cond (is_string t) (Some String) (cond (is_real t) (Some Real) None))))

abbrev pub is_ptype : Token → Bool
is_ptype t = is_boolean t || is_int t || is_keyword t || is_string t || is_real t

-- one that begins what is counted, where as many as may stand are there already
abbrev pub counted_ptype : Bool → Rule PType
counted_ptype full = lexeme ptype_of (λ t. first_mark full Limit None)

abbrev pub ptype : Rule PType
ptype = counted_ptype false

abbrev pub steer_of : Token → Option Steer
steer_of t = cond (is_named (codes "NEVER") t) (Some Never)
    (cond (is_named (codes "ALWAYS") t) (Some Always)
    (cond (is_named (codes "RECOVER") t) (Some Recover) None))

-- ---- the head of a declaration

-- [ "[" Number "]" ], from 1 to 1,024
abbrev pub in_brackets : Rule (Option ℕ)
in_brackets = do
  u ← sign 91
  n ← number_in 1 1024
  v ← sign 93
  nothing (Some n)

abbrev pub length_of : Rule (Option ℕ)
length_of = choice (is_sign 91) in_brackets (nothing None)

-- [ Quoted ]
abbrev pub comment : Rule (Unit {0})
comment = choice is_quoted (quoted >>= λ t. nothing tt) (nothing tt)

-- [ AS Word ]
abbrev pub other_name : Rule (Option (List ℕ))
other_name = do
  u ← keyword (codes "AS")
  n ← name
  nothing (Some n)

abbrev pub alias_of : Rule (Option (List ℕ))
alias_of = choice (is_named (codes "AS")) other_name (nothing None)

-- [ STEERABLE "=" Word ], where the word is NEVER, ALWAYS or RECOVER
abbrev pub steered : Rule Steer
steered = do
  u ← keyword (codes "STEERABLE")
  v ← sign 61
  lexeme steer_of unmarked

abbrev pub steering : Rule Steer
steering = choice (is_named (codes "STEERABLE")) steered (nothing Never)

-- Word [ "[" Number "]" ] [ Quoted ] [ AS Word ] [ STEERABLE "=" Word ]
abbrev pub heading : Rule Heading
heading = do
  n ← name
  l ← length_of
  u ← comment
  a ← alias_of
  s ← steering
  nothing (record { name = n; length = l; alias = a; steer = s })
