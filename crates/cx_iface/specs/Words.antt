-- The words of an interface file, each in any case.
use Rattle.std.specs.Prelude.{ℕ, Bool, cond, ◌||◌, List, Option, Some, None, codes}
use Rattle.cx_text.specs.declared.ctype.CType.{CType}
use Rattle.cx_text.specs.declared.ctype.CType.TheVariants.{Char, Byte, Int, Int2, Int4, Int8, Real, Complex}
use Rattle.cx_text.specs.declared.token.Token.{Token}
use Rattle.cx_text.specs.Rules.{is_named}
use Rattle.cx_iface.specs.declared.tree.Access.TheVariants.{Public, Protected, Private}
use Rattle.cx_iface.specs.declared.tree.GType.{GType}
use Rattle.cx_iface.specs.declared.tree.GType.TheVariants.{Gf, Array, Scalar}
use Rattle.cx_iface.specs.declared.words.First.{First}
use Rattle.cx_iface.specs.declared.words.First.TheVariants as firsts

abbrev pub FUNCTION : List ℕ
FUNCTION = codes "FUNCTION"

-- ---- headers

abbrev pub IMPLEMENTS : List ℕ
IMPLEMENTS = codes "IMPLEMENTS"

abbrev pub INHERITS : List ℕ
INHERITS = codes "INHERITS"

abbrev pub FRIEND : List ℕ
FRIEND = codes "FRIEND"

-- ---- attributes

abbrev pub TYPE : List ℕ
TYPE = codes "TYPE"

abbrev pub DIM : List ℕ
DIM = codes "DIM"

abbrev pub TIMELEVELS : List ℕ
TIMELEVELS = codes "TIMELEVELS"

abbrev pub DISTRIB : List ℕ
DISTRIB = codes "DISTRIB"

abbrev pub SIZE : List ℕ
SIZE = codes "SIZE"

abbrev pub GHOSTSIZE : List ℕ
GHOSTSIZE = codes "GHOSTSIZE"

abbrev pub TAGS : List ℕ
TAGS = codes "TAGS"

-- ---- what a word means

-- the first word of a line that is kept as it stands
abbrev pub is_line_word : Token → Bool
is_line_word t = is_named (codes "USES") t || is_named (codes "INCLUDE") t
    || is_named (codes "INCLUDES") t || is_named (codes "PROVIDES") t
    || is_named (codes "REQUIRES") t || is_named (codes "SUBROUTINE") t

abbrev pub ctype_of : Token → Option CType
ctype_of t =
    cond (is_named (codes "CHAR") t || is_named (codes "CCTK_CHAR") t) (Some Char)
    (cond (is_named (codes "BYTE") t || is_named (codes "CCTK_BYTE") t) (Some Byte)
    (cond (is_named (codes "INT") t || is_named (codes "CCTK_INT") t) (Some Int)
    (cond (is_named (codes "INT2") t || is_named (codes "CCTK_INT2") t) (Some Int2)
    (cond (is_named (codes "INT4") t || is_named (codes "CCTK_INT4") t) (Some Int4)
    (cond (is_named (codes "INT8") t || is_named (codes "CCTK_INT8") t) (Some Int8)
    (cond (is_named (codes "REAL") t || is_named (codes "CCTK_REAL") t) (Some Real)
    (cond (is_named (codes "COMPLEX") t || is_named (codes "CCTK_COMPLEX") t) (Some Complex)
    None)))))))

abbrev pub group_or_other : Option CType → First
group_or_other (Some ctype) = firsts.Group ctype
group_or_other None = firsts.Other

-- what a part begins with, by its first word
abbrev pub begins_with : Token → First
begins_with t =
    cond (is_named IMPLEMENTS t) firsts.Implements
    (cond (is_named INHERITS t) firsts.Inherits
    (cond (is_named FRIEND t) firsts.Friend
    (cond (is_named (codes "PUBLIC") t) (firsts.Access Public)
    (cond (is_named (codes "PROTECTED") t) (firsts.Access Protected)
    (cond (is_named (codes "PRIVATE") t) (firsts.Access Private) (group_or_other (ctype_of t)))))))

-- the kind of group that a word names
abbrev pub gtype_of : Token → Option GType
gtype_of t = cond (is_named (codes "GF") t) (Some Gf)
    (cond (is_named (codes "ARRAY") t) (Some Array)
    (cond (is_named (codes "SCALAR") t) (Some Scalar) None))
