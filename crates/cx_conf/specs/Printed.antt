-- A configuration, as tokens: a line for each capability that is provided or optional, and one line
-- for all that are required, and for all thorns.
use Rattle.std.specs.Prelude.{ℕ, List, [], ◌∷◌, ◌++◌}
use Rattle.std.specs.List.{flat_map}
use Rattle.cx_text.specs.declared.token.Token.{Token}
use Rattle.cx_text.specs.Written.{word, words, sign, line_end}
use Rattle.cx_conf.specs.declared.configuration.Configuration.{Configuration}
use Rattle.cx_conf.specs.Conf.{PROVIDES, OPTIONAL, REQUIRES, THORNS}

-- PROVIDES Word "{" "}", or with another keyword
abbrev pub braced_line : List ℕ → List ℕ → List Token
braced_line keyword n = word keyword ∷ word n ∷ sign 123 ∷ sign 125 ∷ line_end ∷ []

-- REQUIRES Word { Word }
abbrev pub capabilities_line : List (List ℕ) → List Token
capabilities_line [] = []
capabilities_line (n ∷ ns) = word REQUIRES ∷ (words (n ∷ ns) ++ line_end ∷ [])

-- REQUIRES THORNS ":" Word { Word }
abbrev pub thorns_line : List (List ℕ) → List Token
thorns_line [] = []
thorns_line (n ∷ ns) = word REQUIRES ∷ word THORNS ∷ sign 58 ∷ (words (n ∷ ns) ++ line_end ∷ [])

abbrev pub configuration_tokens : Configuration → List Token
configuration_tokens c =
    flat_map (braced_line PROVIDES) c.provides
    ++ (flat_map (braced_line OPTIONAL) c.optional
    ++ (capabilities_line c.requires_ ++ thorns_line c.thorns))
