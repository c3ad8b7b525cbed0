-- The schedule as text.
use Rattle.std.specs.Prelude.{ℕ, zero, suc, nat_lt, List, [], ◌∷◌, ◌++◌, codes, slice_get, Option, Some, None, if◌then◌else◌}
use Rattle.std.specs.List.{flat_map}
use Rattle.cx_plan.specs.Names.{full_name, region_text, level_text}
use Rattle.cx_plan.specs.declared.variable.VarId.{VarId}
use Rattle.cx_plan.specs.declared.variable.VarInfo.{VarInfo}
use Rattle.cx_plan.specs.declared.item.Touch.{Touch}
use Rattle.cx_bind.specs.Variables.{variable_infos}
use Rattle.cx_plan.specs.Lookups.{bin_name, run_bin_count}
use Rattle.cx_order_entries.specs.Counted.{Entry}
use Rattle.cx_order.specs.declared.meaning.Meaning.{Meaning}
use Rattle.cx_order.specs.Meanings.{World, names_of}
use Rattle.cx_order.specs.Plans.{Forest, Done, Then}
use Rattle.cx_order.specs.Files.{thorn_name}

abbrev pub line_feed : List ℕ
line_feed = 10 ∷ []

abbrev pub level_in : Option VarInfo → ℕ → List ℕ
level_in None level = []
level_in (Some v) level = level_text v.full level

abbrev pub level_name : World → VarId → ℕ → List ℕ
level_name w v level = level_in (slice_get (variable_infos w.thorns) v.0) level

abbrev pub touch_text : World → Touch → List ℕ
touch_text w t = codes " " ++ level_name w t.var t.level ++ codes "(" ++ region_text t.region
    ++ codes ")"

abbrev pub touches_text : List ℕ → World → List Touch → List ℕ
touches_text word w [] = []
touches_text word w (t ∷ ts) = word ++ flat_map (touch_text w) (t ∷ ts)

abbrev pub name_text : List ℕ → Option (List ℕ) → List ℕ
name_text word None = []
name_text word (Some name) = word ++ name

abbrev pub test_text : List ℕ → World → Option VarId → List ℕ
test_text word w None = []
test_text word w (Some v) = word ++ level_name w v 0

abbrev pub sync_text : World → List VarId → List ℕ
sync_text w [] = []
sync_text w (v ∷ vs) = codes " sync" ++ flat_map (λ u. codes " " ++ level_name w u 0) (v ∷ vs)

abbrev pub head_text : World → Entry → List ℕ
head_text w e = if e.block.group then codes "group " ++ e.block.name
    else codes "call " ++ full_name (thorn_name w.thorns e.thorn) e.block.name

-- by what its names stand for
abbrev pub text_by : World → Entry → Meaning → List ℕ
text_by w e m =
    head_text w e ++ name_text (codes " as ") e.block.alias ++ test_text (codes " if ") w m.test
    ++ test_text (codes " while ") w m.turn
    ++ touches_text (codes " reads") w m.reads ++ touches_text (codes " writes") w m.writes
    ++ sync_text w m.sync

abbrev pub entry_text : World → Entry → List ℕ
entry_text w e = text_by w e (names_of w e)

-- two blanks for each bin or group around it
abbrev pub blanks : ℕ → List ℕ
blanks zero = []
blanks (suc n) = codes "  " ++ blanks n

abbrev pub forest_text : World → ℕ → Forest → List ℕ
forest_text w depth Done = []
forest_text w depth (Then e path inside rest) =
    blanks depth ++ entry_text w e ++ line_feed ++ forest_text w (suc depth) inside
    ++ forest_text w depth rest

abbrev pub bin_text : World → ℕ → Forest → List ℕ
bin_text w b f = codes "bin " ++ bin_name b
    ++ (if nat_lt b run_bin_count then [] else codes " not run") ++ line_feed ++ forest_text w 1 f

abbrev pub bins_text : World → ℕ → List Forest → List ℕ
bins_text w b [] = []
bins_text w b (f ∷ fs) = bin_text w b f ++ bins_text w (suc b) fs

abbrev pub schedule_text : World → List Forest → List ℕ
schedule_text w fs = bins_text w 0 fs
