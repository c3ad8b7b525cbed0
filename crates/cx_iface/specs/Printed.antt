-- An interface file, as tokens: the lines that are kept, the headers, and a line for each group
-- with its access. The lines stand first, since a function's type may be called as a header.
use Rattle.std.specs.Prelude.{ℕ, List, [], ◌∷◌, ◌++◌, map, Option, Some, None, codes}
use Rattle.std.specs.List.{flat_map}
use Rattle.std.specs.Fmt.{decimal}
use Rattle.cx_text.specs.declared.ctype.CType.{CType}
use Rattle.cx_text.specs.declared.ctype.CType.TheVariants.{Char, Byte, Int, Int2, Int4, Int8, Real, Complex}
use Rattle.cx_text.specs.declared.token.Token.{Token}
use Rattle.cx_text.specs.Lexemes.{kept}
use Rattle.cx_text.specs.Written.{word, words, number, quoted, sign, line_end}
use Rattle.cx_iface.specs.declared.tree.Access.{Access}
use Rattle.cx_iface.specs.declared.tree.Access.TheVariants.{Public, Protected, Private}
use Rattle.cx_iface.specs.declared.tree.GType.{GType}
use Rattle.cx_iface.specs.declared.tree.GType.TheVariants.{Gf, Array, Scalar}
use Rattle.cx_iface.specs.declared.tree.Group.{Group}
use Rattle.cx_iface.specs.declared.tree.Interface.{Interface}
use Rattle.cx_iface.specs.Words.{IMPLEMENTS, INHERITS, FRIEND, TYPE, DIM, TIMELEVELS}

-- ---- words

abbrev pub access_word : Access → List ℕ
access_word Public = codes "PUBLIC"
access_word Protected = codes "PROTECTED"
access_word Private = codes "PRIVATE"

abbrev pub ctype_word : CType → List ℕ
ctype_word Char = codes "CCTK_CHAR"
ctype_word Byte = codes "CCTK_BYTE"
ctype_word Int = codes "CCTK_INT"
ctype_word Int2 = codes "CCTK_INT2"
ctype_word Int4 = codes "CCTK_INT4"
ctype_word Int8 = codes "CCTK_INT8"
ctype_word Real = codes "CCTK_REAL"
ctype_word Complex = codes "CCTK_COMPLEX"

abbrev pub gtype_word : GType → List ℕ
gtype_word Gf = codes "GF"
gtype_word Array = codes "ARRAY"
gtype_word Scalar = codes "SCALAR"

-- ---- headers

-- keyword ":" { Word } LineEnd
abbrev pub header : List ℕ → List (List ℕ) → List Token
header keyword ns = word keyword ∷ sign 58 ∷ (words ns ++ line_end ∷ [])

-- keyword ":" Word LineEnd
abbrev pub name_line : List ℕ → List ℕ → List Token
name_line keyword n = word keyword ∷ sign 58 ∷ word n ∷ line_end ∷ []

abbrev pub headers : Interface → List Token
headers v = name_line IMPLEMENTS v.implements
    ++ (header INHERITS v.inherits ++ header FRIEND v.friends)

-- ---- groups

-- access ":" ctype Word
abbrev pub opening : Group → List Token
opening g = word (access_word g.access) ∷ sign 58 ∷ word (ctype_word g.ctype) ∷ word g.name ∷ []

-- [ "[" Number "]" ]
abbrev pub copies : Option ℕ → List Token
copies None = []
copies (Some k) = sign 91 ∷ number (decimal k) ∷ sign 93 ∷ []

-- keyword "=" Number
abbrev pub numbered : List ℕ → ℕ → List Token
numbered keyword n = word keyword ∷ sign 61 ∷ number (decimal n) ∷ []

-- TYPE "=" Word DIM "=" Number TIMELEVELS "=" Number
abbrev pub effects : Group → List Token
effects g = word TYPE ∷ sign 61 ∷ word (gtype_word g.gtype)
    ∷ (numbered DIM g.dim ++ numbered TIMELEVELS g.levels)

-- "{" { Word } "}" Quoted LineEnd
abbrev pub block : Group → List Token
block g = sign 123 ∷ (words g.variables ++ sign 125 ∷ quoted g.text ∷ line_end ∷ [])

abbrev pub group : Group → List Token
group g = opening g ++ (copies g.copies ++ (effects g ++ (map kept g.rest ++ block g)))

-- ---- the file

-- a line that is kept
abbrev pub line : List Token → List Token
line ts = map kept ts ++ line_end ∷ []

abbrev pub interface_tokens : Interface → List Token
interface_tokens v = flat_map line v.others ++ (headers v ++ flat_map group v.groups)
