-- The configuration file.
use Rattle.std.specs.Prelude.{ℕ, ◌-◌, Bool, ◌||◌, nat_eq, List, [], ◌∷◌, ◌++◌, codes}
use Rattle.cx_conf.specs.declared.configuration.Configuration.{Configuration}
use Rattle.cx_conf.specs.declared.configuration.Read.{Read}
use Rattle.cx_text.specs.declared.token.Token.{Token}
use Rattle.cx_text.specs.Rules.{Rule, nothing, ◌>>=◌, choice, loop, is_named, line_ends, keyword, name, sign_here, line_end}
use Rattle.cx_text.specs.Lexemes.{counted_keyword, some_names, names, braces}

abbrev pub no_configuration : Configuration
no_configuration = record { provides = []; requires_ = []; thorns = []; optional = [] }

abbrev pub PROVIDES : List ℕ
PROVIDES = codes "PROVIDES"

abbrev pub OPTIONAL : List ℕ
OPTIONAL = codes "OPTIONAL"

abbrev pub REQUIRES : List ℕ
REQUIRES = codes "REQUIRES"

abbrev pub THORNS : List ℕ
THORNS = codes "THORNS"

-- PROVIDES Word "{" tokens "}"
abbrev pub provides : ℕ → Configuration → Rule Configuration
provides left c = do
  u ← counted_keyword PROVIDES (nat_eq left 0)
  n ← name
  v ← braces
  nothing (record c { provides = c.provides ++ n ∷ [] })

-- OPTIONAL Word "{" tokens "}"
abbrev pub optional : ℕ → Configuration → Rule Configuration
optional left c = do
  u ← counted_keyword OPTIONAL (nat_eq left 0)
  n ← name
  v ← braces
  nothing (record c { optional = c.optional ++ n ∷ [] })

-- THORNS ":" names LineEnd
abbrev pub thorns : Configuration → Rule Configuration
thorns c = do
  u ← keyword THORNS
  v ← sign_here 58
  ns ← names c.thorns
  w ← line_end
  nothing (record c { thorns = ns })

-- Word { [","] Word } LineEnd
abbrev pub capabilities : Configuration → Rule Configuration
capabilities c = do
  ns ← some_names c.requires_
  w ← line_end
  nothing (record c { requires_ = ns })

-- REQUIRES THORNS ":" names LineEnd | REQUIRES Word { [","] Word } LineEnd, where that first Word
-- isn't THORNS
abbrev pub requires_ : ℕ → Configuration → Rule Configuration
requires_ left c = do
  u ← counted_keyword REQUIRES (nat_eq left 0)
  choice (is_named THORNS) (thorns c) (capabilities c)

abbrev pub is_entry : Token → Bool
is_entry t = is_named PROVIDES t || is_named OPTIONAL t || is_named REQUIRES t

-- one entry, where so many are left that may stand
abbrev pub entry : ℕ → Configuration → Rule Configuration
entry left c = choice (is_named PROVIDES) (provides left c)
    (choice (is_named OPTIONAL) (optional left c) (requires_ left c))

-- one of them behind others: one less may then stand
abbrev pub more : Read → Rule Read
more s = do
  c ← entry s.left s.tree
  nothing (record { left = s.left - 1; tree = c })

-- file = { entry }
abbrev pub configuration : Rule Configuration
configuration = do
  u ← line_ends
  s ← loop is_entry more (record { left = 4096; tree = no_configuration })
  nothing s.tree
