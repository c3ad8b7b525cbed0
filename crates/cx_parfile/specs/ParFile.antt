-- The parameter file. LineEnd is never skipped.
use Rattle.std.specs.Prelude.{ℕ, ◌-◌, Bool, true, false, cond, not, ◌&&◌, ◌||◌, nat_eq, nat_lt, List, [], ◌∷◌, ◌++◌, length, Option, Some, None, codes}
use Rattle.std.specs.List.{list_all, list_any}
use Rattle.std.specs.Char.{is_ascii_digit}
use Rattle.cx_text.specs.declared.stop.Mark.{Mark}
use Rattle.cx_text.specs.declared.stop.Mark.TheVariants.{Limit, BadNumber}
use Rattle.cx_text.specs.declared.token.Token.{Token}
use Rattle.cx_text.specs.Tokens.{is_word}
use Rattle.cx_text.specs.Rules.{Rule, token, nothing, ◌>>=◌, choice, loop, unmarked, is_sign, sign_here, one_line_end}
use Rattle.cx_text.specs.Lexemes.{first_mark, same_name, decimal_from, is_quoted}
use Rattle.cx_parfile.specs.declared.settings.Settings.{Settings}
use Rattle.cx_parfile.specs.declared.reader.Name.{Name}
use Rattle.cx_parfile.specs.declared.reader.Read.{Read}
use Rattle.cx_parfile.specs.Values.{Named, is_empty, named_in, value_in, thorns_in, activate_all}

abbrev pub ACTIVETHORNS : List ℕ
ACTIVETHORNS = codes "ActiveThorns"

abbrev pub is_long : List ℕ → Bool
is_long name = nat_lt 64 (length name)

-- ---- tokens

abbrev pub name_with : ℕ → Option Named → Option Name
name_with line None = None
name_with line (Some n) = Some (record { owner = n.0; name = n.1; line = line })

-- a Word that is `name` or `owner::name`
abbrev pub name_of : Token → Option Name
name_of t = cond (is_word t) (name_with t.line (named_in t.text)) None

abbrev pub is_long_owner : Option (List ℕ) → Bool
is_long_owner None = false
is_long_owner (Some owner) = is_long owner

abbrev pub is_long_name : Option Name → Bool
is_long_name None = false
is_long_name (Some n) = is_long_owner n.owner || is_long n.name

-- where so many settings are left that may stand
abbrev pub name_mark : ℕ → Token → Option Mark
name_mark left t = first_mark (nat_eq left 0 || is_long_name (name_of t)) Limit None

abbrev pub is_index : Token → Bool
is_index t = is_word t && (not (is_empty t.text) && list_all is_ascii_digit t.text)

-- a Word of digits
abbrev pub index_of : Token → Option ℕ
index_of t = cond (is_index t) (Some (decimal_from 0 t.text)) None

abbrev pub index_mark : Token → Option Mark
index_mark t = first_mark (nat_lt 1023 (decimal_from 0 t.text)) BadNumber None

-- Quoted | Word
abbrev pub value_of : List ℕ → Token → Option (List ℕ)
value_of base t = cond (is_quoted t || is_word t) (Some (value_in base t.text)) None

-- each of its thorns is a name
abbrev pub thorns_mark : List ℕ → Token → Option Mark
thorns_mark base t = first_mark (list_any is_long (thorns_in (value_in base t.text))) Limit None

-- ---- settings

-- "[" Word "]"
abbrev pub bracketed : Rule (Option ℕ)
bracketed = do
  u ← sign_here 91
  i ← token index_of index_mark
  v ← sign_here 93
  nothing (Some i)

-- [ "[" Word "]" ]
abbrev pub index : Rule (Option ℕ)
index = choice (is_sign 91) bracketed (nothing None)

-- "=" (Quoted | Word), behind ActiveThorns
abbrev pub active : List ℕ → Settings → Rule Settings
active base s = do
  u ← sign_here 61
  v ← token (value_of base) (thorns_mark base)
  nothing (record s { active = activate_all s.active (thorns_in v) })

-- [ "[" Word "]" ] "=" (Quoted | Word), behind another Word
abbrev pub setting : List ℕ → Name → Settings → Rule Settings
setting base n s = do
  i ← index
  u ← sign_here 61
  v ← token (value_of base) unmarked
  nothing
      (record s {
        list = s.list
            ++ record { owner = n.owner; name = n.name; index = i; value = v; line = n.line } ∷ [];
      })

abbrev pub is_alone : Option (List ℕ) → Bool
is_alone None = true
is_alone (Some owner) = false

abbrev pub is_active : Name → Bool
is_active n = is_alone n.owner && same_name n.name ACTIVETHORNS

-- behind the word ActiveThorns, or behind another Word
abbrev pub behind_word : List ℕ → Bool → Name → Settings → Rule Settings
behind_word base true n s = choice (is_sign 91) (setting base n s) (active base s)
behind_word base false n s = setting base n s

-- setting = ActiveThorns "=" (Quoted | Word) | Word [ "[" Word "]" ] "=" (Quoted | Word), behind
-- its first Word
abbrev pub behind : List ℕ → Name → Settings → Rule Settings
behind base n s = behind_word base (is_active n) n s

-- setting LineEnd
abbrev pub line : List ℕ → Read → Rule Read
line base r = do
  n ← token name_of (name_mark r.left)
  s ← behind base n r.settings
  u ← one_line_end tt
  nothing (record { left = r.left - 1; settings = s })

-- file = { setting LineEnd }
abbrev pub parameter_file : List ℕ → Rule Settings
parameter_file base = do
  r ← loop is_word (line base)
      (record { left = 4096; settings = record { active = []; list = [] } })
  nothing r.settings
