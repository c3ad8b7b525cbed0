-- The parameter file, as tokens: one line for all active thorns, and a line for each setting, with
-- its value quoted.
use Rattle.std.specs.Prelude.{◌≡◌, ℕ, List, [], ◌∷◌, ◌++◌, map, Option, Some, None}
use Rattle.std.specs.List.{flat_map}
use Rattle.std.specs.Fmt.{decimal}
use Rattle.cx_text.specs.declared.token.Token.{Token}
use Rattle.cx_text.specs.declared.token.Style.TheVariants.{Par}
use Rattle.cx_text.specs.Printing.{HasSpelling, TextSpells}
use Rattle.cx_text.specs.Written.{word, sign, quoted, line_end}
use Rattle.cx_parfile.specs.declared.settings.Setting.{Setting}
use Rattle.cx_parfile.specs.declared.settings.Settings.{Settings}
use Rattle.cx_parfile.specs.ParFile.{ACTIVETHORNS, parameter_file}

-- each thorn with a blank behind it, so that none of them makes the value `$parfile`
abbrev pub blank_behind : List ℕ → List ℕ
blank_behind thorn = thorn ++ 32 ∷ []

abbrev pub joined : List (List ℕ) → List ℕ
joined thorns = flat_map blank_behind thorns

-- "=" Quoted
abbrev pub value_tokens : List ℕ → List Token
value_tokens value = sign 61 ∷ quoted value ∷ line_end ∷ []

-- ActiveThorns "=" Quoted
abbrev pub thorns_line : List (List ℕ) → List Token
thorns_line ns = word ACTIVETHORNS ∷ value_tokens (joined ns)

-- where thorns are active
abbrev pub active_line : List (List ℕ) → List Token
active_line [] = []
active_line (n ∷ ns) = thorns_line (n ∷ ns)

-- `name` or `owner::name`
abbrev pub full_name : Option (List ℕ) → List ℕ → List ℕ
full_name None name = name
full_name (Some owner) name = owner ++ 58 ∷ 58 ∷ name

-- [ "[" Word "]" ]
abbrev pub index_tokens : Option ℕ → List Token
index_tokens None = []
index_tokens (Some i) = sign 91 ∷ word (decimal i) ∷ sign 93 ∷ []

-- Word [ "[" Word "]" ] "=" Quoted
abbrev pub setting_line : Setting → List Token
setting_line s = word (full_name s.owner s.name) ∷ (index_tokens s.index ++ value_tokens s.value)

abbrev pub settings_tokens : Settings → List Token
settings_tokens v = active_line v.active ++ flat_map setting_line v.list

-- ---- read again

abbrev pub without_line : Setting → Setting
without_line s = record s { line = 0 }

-- without the lines of its settings
abbrev pub unlined : Settings → Settings
unlined v = record v { list = map without_line v.list }

-- some text spells these settings, in a file of this base name
abbrev pub SpelledUnder : List ℕ → Settings → Type 0
SpelledUnder base v = HasSpelling Par (parameter_file base).derives v

-- under each base name under which some text spells these settings, this text spells them too, but
-- for their lines
abbrev pub SpellsAgain : List ℕ → Settings → Type 0
SpellsAgain text v = (base : List ℕ) → SpelledUnder base v
    → (w : Settings) × TextSpells Par (parameter_file base).derives text w × (unlined w ≡ unlined v)
