-- The interface file of a thorn.
use Rattle.std.specs.Prelude.{◌≡◌, ℕ, ◌-◌, Bool, true, false, ◌||◌, ◌&&◌, nat_eq, List, [], ◌∷◌, ◌++◌, Option, None, cond, Result, Ok, Err}
use Rattle.cx_text.specs.declared.ctype.CType.{CType}
use Rattle.cx_text.specs.declared.stop.Mark.{Mark}
use Rattle.cx_text.specs.declared.stop.Mark.TheVariants.{Repeated, Limit}
use Rattle.cx_text.specs.declared.fault.CclFault.{CclFault}
use Rattle.cx_text.specs.declared.fault.CclFault.TheVariants as faults
use Rattle.cx_text.specs.declared.token.Token.{Token}
use Rattle.cx_text.specs.Tokens.{is_word}
use Rattle.cx_text.specs.Grammar.{Grammar}
use Rattle.cx_text.specs.Rules.{Rule, token, nothing, ◌>>=◌, lookahead, choice, loop, is_named, line_ends, sign, name_here, sign_here, line_end}
use Rattle.cx_text.specs.Lexemes.{first_mark, names, kept_if, more_kept, in_line}
use Rattle.cx_iface.specs.declared.tree.Access.{Access}
use Rattle.cx_iface.specs.declared.tree.Access.TheVariants.{Private}
use Rattle.cx_iface.specs.declared.tree.Interface.{Interface}
use Rattle.cx_iface.specs.declared.interface.Read.{Read}
use Rattle.cx_iface.specs.declared.words.First.{First}
use Rattle.cx_iface.specs.declared.words.First.TheVariants as firsts
use Rattle.cx_iface.specs.Words.{FUNCTION, IMPLEMENTS, INHERITS, FRIEND, is_line_word, begins_with}
use Rattle.cx_iface.specs.Groups.{group}

-- What stands before any access line is private. So many groups and lines may stand.
abbrev pub nobody : Read
nobody = record {
  access = Private;
  implements = false;
  inherits = false;
  friend = false;
  groups = 4096;
  lines = 4096;
  tree = record { implements = []; inherits = []; friends = []; groups = []; others = [] };
}

-- ---- headers, behind their first word

-- ":" Word LineEnd
abbrev pub implements : Read → Rule Read
implements s = do
  u ← line_ends
  v ← sign 58
  n ← name_here
  w ← line_end
  nothing (record s { implements = true; tree = record s.tree { implements = n } })

-- ":" names LineEnd
abbrev pub inherits : Read → Rule Read
inherits s = do
  u ← line_ends
  v ← sign_here 58
  ns ← names []
  w ← line_end
  nothing (record s { inherits = true; tree = record s.tree { inherits = ns } })

-- ":" names LineEnd
abbrev pub friends : Read → Rule Read
friends s = do
  u ← line_ends
  v ← sign_here 58
  ns ← names []
  w ← line_end
  nothing (record s { friend = true; tree = record s.tree { friends = ns } })

-- ---- access lines and groups, behind their first word

-- ":"
abbrev pub access : Access → Read → Rule Read
access a s = do
  u ← line_ends
  v ← sign 58
  nothing (record s { access = a })

abbrev pub grouped : CType → Read → Rule Read
grouped c s = do
  g ← group s.access c (nat_eq s.groups 0)
  nothing
      (record s {
        groups = s.groups - 1;
        tree = record s.tree { groups = s.tree.groups ++ g ∷ [] };
      })

-- ---- lines that are kept as they stand

-- what follows these tokens up to LineEnd
abbrev pub line : List Token → Read → Rule Read
line ts s = do
  us ← loop in_line (more_kept in_line) ts
  w ← line_end
  nothing
      (record s { lines = s.lines - 1; tree = record s.tree { others = s.tree.others ++ us ∷ [] } })

-- a line that one of six words begins
abbrev pub kept_line : Read → Rule Read
kept_line s = do
  w ← token (kept_if is_line_word) (λ t. first_mark (nat_eq s.lines 0) Limit None)
  line (w ∷ []) s

-- a line whose second word is FUNCTION, behind its first: it isn't known to be one before that word
abbrev pub function : Token → Read → Rule Read
function w s = do
  f ← token (kept_if (is_named FUNCTION)) (λ t. first_mark (nat_eq s.lines 0) Limit None)
  line (w ∷ f ∷ []) s

-- ---- the file

-- that, or a line whose second word is FUNCTION, in the line of its first
abbrev pub or_function : Token → Read → Rule Read → Rule Read
or_function w s r = choice (is_named FUNCTION) (function w s) r

-- what a word begins
abbrev pub part : First → Token → Read → Rule Read
part firsts.Implements w s = or_function w s (implements s)
part firsts.Inherits w s = or_function w s (inherits s)
part firsts.Friend w s = or_function w s (friends s)
part (firsts.Access a) w s = or_function w s (access a s)
part (firsts.Group c) w s = or_function w s (grouped c s)
part firsts.Other w s = function w s

-- the first word of a header of which one stands already
abbrev pub is_again : Read → Token → Bool
is_again s t = (s.implements && is_named IMPLEMENTS t) || (s.inherits && is_named INHERITS t)
    || (s.friend && is_named FRIEND t)

-- It is repeated, unless FUNCTION stands behind it.
abbrev pub again_mark : Read → Bool → Token → Option Mark
again_mark s true t = None
again_mark s false t = first_mark (is_again s t) Repeated None

abbrev pub worded : Read → Rule Read
worded s = lookahead (kept_if is_word) (is_named FUNCTION) (again_mark s)
    (λ w. part (begins_with w) w s)

-- header | access | group | other
abbrev pub item : Read → Rule Read
item s = choice is_line_word (kept_line s) (worded s)

-- { header | access | group | other }
abbrev pub file : Rule Read
file = do
  u ← line_ends
  loop is_word item nobody

-- A file says what its thorn implements.
abbrev pub interface : Grammar Interface
interface tree ms next =
    (s : Read) × file.derives s ms next × (s.implements ≡ true) × (tree ≡ s.tree)

-- what is answered for what was read of a file whose end has this line
abbrev pub implemented : ℕ → Result Read CclFault → Result Interface CclFault
implemented line (Ok s) = cond s.implements (Ok s.tree) (Err (faults.Unexpected line))
implemented line (Err fault) = Err fault
