-- The built-in parameters whose values have rules of their own.
use Rattle.std.specs.Prelude.{ℕ, ◌==◌, nat_eq, Bool, true, false, not, ◌&&◌, ◌||◌, List, [], ◌∷◌, length, codes, Option, Some, None, is_some, if◌then◌else◌}
use Rattle.std.specs.List.{list_all, slice_split}
use Rattle.std.specs.Option.{unwrap_or}
use Rattle.std.specs.Str.{bytes_eq}
use Rattle.cx_text.specs.Bytes.{is_blank}
use Rattle.cx_text.specs.Digits.{natural_in}
use Rattle.cx_text.specs.Lexemes.{same_name, among}
use Rattle.cx_plan.specs.Lists.{first_of_each}
use Rattle.cx_param.specs.declared.ranges.Value.{Value}
use Rattle.cx_param.specs.declared.ranges.Value.TheVariants.{Number, Flag, Text}
use Rattle.cx_parfile.specs.declared.settings.Setting.{Setting}
use Rattle.cx_bind.specs.declared.thorns.Param.{Param}
use Rattle.cx_values.specs.Naming.{Names, Target, target}

-- ---- the widths of parts: numbers from 0 to 16777216 with blanks between

abbrev pub widths_names : List (List ℕ)
widths_names = codes "driver::widths_x" ∷ codes "driver::widths_y" ∷ codes "driver::widths_z" ∷ []

abbrev pub is_width : List ℕ → Bool
is_width word = nat_eq (length word) 0 || is_some (natural_in 16777216 word)

abbrev pub is_widths : List ℕ → Bool
is_widths text = list_all is_width (slice_split is_blank text)

-- a text that a parameter of this name can't have
abbrev pub is_misspelled : List ℕ → List ℕ → Bool
is_misspelled full text = among widths_names full && not (is_widths text)

-- ---- the folder of checkpoints, which is that of recovery too

abbrev pub is_target : ℕ → ℕ → Option Target → Bool
is_target n k None = false
is_target n k (Some at) = at.0 == n && at.1 == k

-- a setting of this element of this parameter
abbrev pub sets : List Param → Names → ℕ → ℕ → Setting → Bool
sets ps names n k s = is_target n k (target ps names s)

abbrev pub text_by : List Param → Names → ℕ → Setting → Option (List ℕ)
text_by ps names n s = if sets ps names n 0 s then Some s.value else None

-- what the first setting of a parameter says
abbrev pub text_set : List Param → Names → List Setting → Option ℕ → Option (List ℕ)
text_set ps names settings None = None
text_set ps names settings (Some n) = first_of_each (text_by ps names n) settings

abbrev pub checkpoint_dir : List Param → Names → List Setting → List ℕ
checkpoint_dir ps names settings =
    unwrap_or (text_set ps names settings (names (codes "IO::checkpoint_dir"))) (codes ".")

-- ---- values that are stated beside the ranges

abbrev pub is_text : List ℕ → Value → Bool
is_text text (Text other) = bytes_eq text other
is_text text (Number n) = false
is_text text (Flag b) = false

abbrev pub is_off : Value → Bool
is_off (Flag b) = not b
is_off (Number n) = false
is_off (Text text) = false

-- the folder of recovery is that of checkpoints alone, and checkpoints have no ID
abbrev pub is_stated : List ℕ → List ℕ → Value → Bool
is_stated dir full v =
    if same_name full (codes "IO::recover_dir") then is_text dir v
    else (if same_name full (codes "IO::checkpoint_ID") then is_off v else true)
