-- The attributes of a group.
use Rattle.std.specs.Prelude.{ℕ, Bool, true, false, ◌||◌, is_some, List, [], ◌∷◌, ◌++◌, Option, Some, None, codes}
use Rattle.cx_text.specs.declared.stop.Mark.{Mark}
use Rattle.cx_text.specs.declared.stop.Mark.TheVariants.{Repeated}
use Rattle.cx_text.specs.declared.token.Token.{Token}
use Rattle.cx_text.specs.Tokens.{is_word}
use Rattle.cx_text.specs.Rules.{Rule, nothing, ◌>>=◌, choice, loop, unmarked, is_sign, is_named, lexeme, sign}
use Rattle.cx_text.specs.Lexemes.{first_mark, once, number_in, is_number, is_quoted, kept_if}
use Rattle.cx_iface.specs.declared.attributes.Attributes.{Attributes}
use Rattle.cx_iface.specs.declared.attributes.Kept.{Kept}
use Rattle.cx_iface.specs.declared.attributes.Kept.TheVariants as forms
use Rattle.cx_iface.specs.Words.{TYPE, DIM, TIMELEVELS, DISTRIB, SIZE, GHOSTSIZE, TAGS, gtype_of}

abbrev pub no_attributes : Attributes
no_attributes = record {
  gtype = None;
  dim = None;
  levels = None;
  distrib = false;
  size = false;
  ghostsize = false;
  tags = false;
  rest = [];
}

-- ---- tokens that are kept behind others

abbrev pub keep : (Token → Bool) → (Token → Option Mark) → List Token → Rule (List Token)
keep test mark ts = do
  t ← lexeme (kept_if test) mark
  nothing (ts ++ t ∷ [])

-- a keyword that may stand once
abbrev pub keep_once : List ℕ → Bool → List Token → Rule (List Token)
keep_once name seen ts = keep (is_named name) (λ t. first_mark seen Repeated None) ts

abbrev pub is_distribution : Token → Bool
is_distribution t = is_named (codes "DEFAULT") t || is_named (codes "CONSTANT") t

abbrev pub is_size : Token → Bool
is_size t = is_word t || is_number t

-- the forms of a token that is kept, as the code names them
abbrev pub has_form : Kept → Token → Bool
has_form (forms.Sign byte) t = is_sign byte t
has_form forms.Distribution t = is_distribution t
has_form forms.Size t = is_size t
has_form forms.Quoted t = is_quoted t

-- "," (Word | Number)
abbrev pub more_sizes : List Token → Rule (List Token)
more_sizes ts = do
  us ← keep (is_sign 44) unmarked ts
  keep is_size unmarked us

-- sizes = (Word | Number) { "," (Word | Number) }
abbrev pub sizes : List Token → Rule (List Token)
sizes ts = do
  us ← keep is_size unmarked ts
  loop (is_sign 44) more_sizes us

-- ---- attributes

-- TYPE "=" (GF | ARRAY | SCALAR)
abbrev pub type_ : Attributes → Rule Attributes
type_ a = do
  u ← once TYPE (is_some a.gtype)
  v ← sign 61
  g ← lexeme gtype_of unmarked
  nothing (record a { gtype = Some g })

-- DIM "=" Number, from 1 to 3
abbrev pub dim : Attributes → Rule Attributes
dim a = do
  u ← once DIM (is_some a.dim)
  v ← sign 61
  n ← number_in 1 3
  nothing (record a { dim = Some n })

-- TIMELEVELS "=" Number, from 1 to 8
abbrev pub levels : Attributes → Rule Attributes
levels a = do
  u ← once TIMELEVELS (is_some a.levels)
  v ← sign 61
  n ← number_in 1 8
  nothing (record a { levels = Some n })

-- DISTRIB "=" (DEFAULT | CONSTANT)
abbrev pub distrib : Attributes → Rule Attributes
distrib a = do
  ts ← keep_once DISTRIB a.distrib a.rest
  us ← keep (is_sign 61) unmarked ts
  vs ← keep is_distribution unmarked us
  nothing (record a { distrib = true; rest = vs })

-- SIZE "=" sizes
abbrev pub size : Attributes → Rule Attributes
size a = do
  ts ← keep_once SIZE a.size a.rest
  us ← keep (is_sign 61) unmarked ts
  vs ← sizes us
  nothing (record a { size = true; rest = vs })

-- GHOSTSIZE "=" sizes
abbrev pub ghostsize : Attributes → Rule Attributes
ghostsize a = do
  ts ← keep_once GHOSTSIZE a.ghostsize a.rest
  us ← keep (is_sign 61) unmarked ts
  vs ← sizes us
  nothing (record a { ghostsize = true; rest = vs })

-- TAGS "=" Quoted
abbrev pub tags : Attributes → Rule Attributes
tags a = do
  ts ← keep_once TAGS a.tags a.rest
  us ← keep (is_sign 61) unmarked ts
  vs ← keep is_quoted unmarked us
  nothing (record a { tags = true; rest = vs })

abbrev pub has_effect : Token → Bool
has_effect t = is_named TYPE t || is_named DIM t || is_named TIMELEVELS t

abbrev pub has_none : Token → Bool
has_none t = is_named DISTRIB t || is_named SIZE t || is_named GHOSTSIZE t || is_named TAGS t

abbrev pub is_attribute : Token → Bool
is_attribute t = has_effect t || has_none t

-- an attribute with effect
abbrev pub effective : Attributes → Rule Attributes
effective a = choice (is_named TYPE) (type_ a) (choice (is_named DIM) (dim a) (levels a))

-- an attribute that is kept and has none
abbrev pub idle : Attributes → Rule Attributes
idle a = choice (is_named DISTRIB) (distrib a)
    (choice (is_named SIZE) (size a) (choice (is_named GHOSTSIZE) (ghostsize a) (tags a)))

-- one attribute behind others, of which each kind may stand once
abbrev pub attribute : Attributes → Rule Attributes
attribute a = choice has_effect (effective a) (idle a)
