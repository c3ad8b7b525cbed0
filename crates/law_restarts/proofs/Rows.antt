-- Worked rows: which settings are those of starred parameters.
use Rattle.std.specs.Prelude.{◌≡◌, refl, ℕ, true, false, List, [], ◌∷◌, codes, Some, None}
use Rattle.cx_parfile.specs.declared.settings.Setting.{Setting}
use Rattle.cx_values.specs.Naming.{names}
use Rattle.law_restarts.specs.Settings.{sets_starred, names_starred, other_settings}

abbrev line : List ℕ → List ℕ → List ℕ → ℕ → Setting
line owner name value number =
    record { owner = Some owner; name = name; index = None; value = value; line = number }

abbrev lead : ℕ → Setting
lead n = line (codes "driver") (codes "lead") (codes "3") n

abbrev weight : ℕ → Setting
weight n = line (codes "driver") (codes "weight") (codes "diff::u") n

abbrev parts : ℕ → Setting
parts n = line (codes "PUGH") (codes "Parts_X") (codes "4") n

abbrev every : ℕ → Setting
every n = line (codes "IO") (codes "out_every") (codes "2") n

a-lead : sets_starred [] (lead 1) ≡ true
unfolding names
a-lead = refl

a-weight : sets_starred [] (weight 1) ≡ true
unfolding names
a-weight = refl

by-thorn : sets_starred [] (parts 1) ≡ true
unfolding names
by-thorn = refl

full-name : names_starred (lead 1) ≡ true
full-name = refl

another-name : names_starred (parts 1) ≡ false
another-name = refl

an-output : sets_starred [] (every 1) ≡ false
unfolding names
an-output = refl

left : other_settings [] (lead 1 ∷ every 2 ∷ parts 3 ∷ weight 4 ∷ [])
    ≡ other_settings [] (every 7 ∷ [])
unfolding names
left = refl
