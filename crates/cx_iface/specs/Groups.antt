-- The groups of variables.
use Rattle.std.specs.Prelude.{ℕ, Bool, cond, not, ◌&&◌, List, [], ◌∷◌, ◌++◌, Option, Some, None, unwrap_or}
use Rattle.cx_text.specs.declared.ctype.CType.{CType}
use Rattle.cx_text.specs.declared.stop.Mark.TheVariants.{Limit}
use Rattle.cx_text.specs.declared.token.Token.{Token}
use Rattle.cx_text.specs.Tokens.{is_word}
use Rattle.cx_text.specs.Rules.{Rule, nothing, ◌>>=◌, choice, loop, is_sign, is_named, name_mark, line_ends, lexeme, sign}
use Rattle.cx_text.specs.Lexemes.{first_mark, new_name, number_in, is_quoted, quoted, is_comma_or_word, comma}
use Rattle.cx_iface.specs.declared.tree.Access.{Access}
use Rattle.cx_iface.specs.declared.tree.GType.TheVariants.{Scalar}
use Rattle.cx_iface.specs.declared.tree.Group.{Group}
use Rattle.cx_iface.specs.declared.group.Contents.{Contents}
use Rattle.cx_iface.specs.Words.{FUNCTION}
use Rattle.cx_iface.specs.Attributes.{no_attributes, is_attribute, attribute}

-- a group's name isn't FUNCTION
abbrev pub group_name_of : Token → Option (List ℕ)
group_name_of t = cond (is_word t && not (is_named FUNCTION t)) (Some t.text) None

-- It is marked where as many groups as may stand are there already.
abbrev pub group_name : Bool → Rule (List ℕ)
group_name full = lexeme group_name_of (λ t. first_mark full Limit (name_mark t))

-- "[" Number "]", from 1 to 64
abbrev pub copies : Rule (Option ℕ)
copies = do
  u ← sign 91
  n ← number_in 1 64
  v ← sign 93
  nothing (Some n)

-- [","] Word, that isn't yet among these
abbrev pub more_variables : List (List ℕ) → Rule (List (List ℕ))
more_variables vs = do
  u ← comma
  v ← new_name vs
  nothing (vs ++ v ∷ [])

-- Word { [","] Word }
abbrev pub variables : Rule (List (List ℕ))
variables = do
  v ← new_name []
  loop is_comma_or_word more_variables (v ∷ [])

-- "{" [ Word { [","] Word } ] "}" [ Quoted ], where the text before it is `text`
abbrev pub block : List ℕ → Rule Contents
block text = do
  u ← sign 123
  vs ← choice is_word variables (nothing [])
  v ← sign 125
  s ← choice is_quoted quoted (nothing text)
  nothing (record { variables = vs; text = s })

-- without a block there is one variable, of the group's own name
abbrev pub block_or_name : List ℕ → List ℕ → Rule Contents
block_or_name name text =
    choice (is_sign 123) (block text) (nothing (record { variables = name ∷ []; text = text }))

-- Word [ "[" Number "]" ] { attribute } [ Quoted ] [ "{" [ Word { [","] Word } ] "}" [ Quoted ] ],
-- behind the type
abbrev pub group : Access → CType → Bool → Rule Group
group access ctype full = do
  u ← line_ends
  name ← group_name full
  k ← choice (is_sign 91) copies (nothing None)
  a ← loop is_attribute attribute no_attributes
  s ← choice is_quoted quoted (nothing [])
  c ← block_or_name name s
  nothing (record {
    access = access;
    ctype = ctype;
    name = name;
    copies = k;
    gtype = unwrap_or a.gtype Scalar;
    dim = unwrap_or a.dim 3;
    levels = unwrap_or a.levels 1;
    rest = a.rest;
    variables = c.variables;
    text = c.text;
  })
