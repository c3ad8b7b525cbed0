-- What counts of the files of all thorns.
use Rattle.std.specs.Prelude.{ℕ, ◌+◌, List, [], ◌∷◌, slice_get, Option, Some, None, Result, Ok}
use Rattle.cx_expr.specs.Known.{Names}
use Rattle.cx_sched.specs.declared.tree.ScheduleFile.{ScheduleFile}
use Rattle.cx_bind.specs.declared.thorns.Thorn.{Thorn}
use Rattle.cx_values.specs.declared.values.Values.{Values}
use Rattle.cx_values.specs.Assigned.{thorn_finds}
use Rattle.cx_order.specs.declared.fault.OrderFault.{OrderFault}
use Rattle.cx_order_entries.specs.Counted.{Counted, nothing, joined, counted_of}
use Rattle.cx_order.specs.Blocks.{by_thorn}

-- what names mean in a thorn's expressions
abbrev pub thorn_names : Values → ℕ → Names
thorn_names values n name index = thorn_finds values n name index

-- what counts of a thorn's file
abbrev pub counted_in : Values → ℕ → Thorn → ScheduleFile → Result Counted OrderFault
counted_in values n thorn file =
    by_thorn thorn.name (counted_of n (thorn_names values n) file.items)

-- Of thorns that are numbered from one on, each with its file, by what names mean in a thorn's
-- expressions.
abbrev pub counted_from : (ℕ → Names) → ℕ → List Thorn → List ScheduleFile
    → Result Counted OrderFault
counted_from names n [] files = Ok nothing
counted_from names n (t ∷ ts) [] = Ok nothing
counted_from names n (t ∷ ts) (f ∷ fs) =
    joined (by_thorn t.name (counted_of n (names n) f.items)) (counted_from names (n + 1) ts fs)

-- what is known before the run: the thorns, a schedule file for each, and the values of parameters
pub record Input : Type 0 where
  pub thorns : List Thorn
  pub files : List ScheduleFile
  pub values : Values

abbrev pub input_of : List Thorn → List ScheduleFile → Values → Input
input_of thorns files values = record { thorns = thorns; files = files; values = values }

-- what counts, in the order of activation and of the files, or the first fault
abbrev pub all_counted : Input → Result Counted OrderFault
all_counted input = counted_from (thorn_names input.values) 0 input.thorns input.files

abbrev pub name_in : Option Thorn → List ℕ
name_in None = []
name_in (Some t) = t.name

-- a thorn's name by its number
abbrev pub thorn_name : List Thorn → ℕ → List ℕ
thorn_name thorns n = name_in (slice_get thorns n)
