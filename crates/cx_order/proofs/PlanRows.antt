-- Worked rows of schedules.
use Rattle.std.specs.Prelude.{◌≡◌, refl, ℕ, zero, suc, true, false, List, [], ◌∷◌, map, codes, Result, Some, None, Ok, Err}
use Rattle.cx_plan.specs.declared.item.Region.TheVariants.{Interior, Boundary, Everywhere}
use Rattle.cx_sched.specs.declared.tree.Ref.{Ref}
use Rattle.cx_sched.specs.declared.tree.Spot.{Spot}
use Rattle.cx_sched.specs.declared.tree.Spot.TheVariants.{At, Inside}
use Rattle.cx_sched.specs.declared.tree.Block.{Block}
use Rattle.cx_sched.specs.declared.tree.Node.{Storage}
use Rattle.cx_sched.specs.declared.tree.Node as node
use Rattle.cx_sched.specs.declared.tree.ScheduleFile.{ScheduleFile}
use Rattle.cx_bind.specs.declared.thorns.Thorn.{Thorn}
use Rattle.cx_bind.proofs.Samples.{thorn, elem_ca}
use Rattle.cx_scope.specs.declared.fault.ScopeFault.TheVariants.{NotFound}
use Rattle.cx_scope.specs.Sight.{Sight}
use Rattle.cx_order.specs.declared.fault.OrderFault.{OrderFault}
use Rattle.cx_order.specs.declared.fault.OrderFault.TheVariants.{Scope}
use Rattle.cx_order_entries.specs.declared.fault.EntryFault.TheVariants.{TwoNames, UnknownBin}
use Rattle.cx_order_entries.specs.Counted.{Counted, Entry, nothing}
use Rattle.cx_order.specs.Files.{Input, all_counted}
use Rattle.cx_order_entries.specs.Entries.{Bin, Group, entries_at, entry_name, bin_fault, names_fault}
use Rattle.cx_order_entries.specs.PlaceNumbers.{Orders}
use Rattle.cx_order_entries.specs.Cycles.{IsGroupCycle}
use Rattle.cx_order.specs.Ordering.{planned, scope_fault}

abbrev bare : List ℕ → Ref
bare name = record { owner = None; name = name; copy = None }

abbrev of : List ℕ → List ℕ → Ref
of owner name = record { owner = Some owner; name = name; copy = None }

abbrev block : List ℕ → Spot → Block
block name spot =
    record {
      group = false;
      name = name;
      spot = spot;
      alias = None;
      test = None;
      turn = None;
      before = [];
      after = [];
      storage = [];
      sync = [];
      reads = [];
      writes = [];
      rest = [];
      text = [];
    }

abbrev evol : List ℕ → Block
evol name = block name (At (codes "EVOL"))

-- the automaton's schedule file
abbrev ca_schedule : ScheduleFile
ca_schedule =
    record {
      items =
          Storage ((bare (codes "cells"), Some 1) ∷ (bare (codes "counts"), Some 1) ∷ [])
          ∷ node.Block (record (block (codes "ca_init") (At (codes "INITIAL")))
          { writes = (of (codes "ca") (codes "cell"), Everywhere) ∷ [] })
          ∷ node.Block (record (evol (codes "ca_step")) {
            sync = bare (codes "cells") ∷ [];
            reads = (of (codes "ca") (codes "cell"), Everywhere) ∷ [];
            writes = (of (codes "ca") (codes "cell"), Interior) ∷ [];
          })
          ∷ node.Block (record (evol (codes "ca_zero")) {
            after = codes "ca_step" ∷ [];
            writes = (of (codes "ca") (codes "cell"), Boundary) ∷ [];
          })
          ∷ node.Block (record (block (codes "ca_count") (At (codes "CCTK_POSTSTEP"))) {
            reads = (of (codes "ca") (codes "cell"), Everywhere) ∷ [];
            writes = (of (codes "ca") (codes "live"), Everywhere) ∷ [];
          })
          ∷ [];
    }

abbrev input : List Thorn → List ScheduleFile → Input
input thorns files = record {
  thorns = thorns;
  files = files;
  values = record { slots = []; given = []; uses = []; globals = [] };
}

abbrev in_file : List Block → ScheduleFile
in_file blocks = record { items = map (λ b. node.Block b) blocks }

abbrev or_nothing : Result Counted OrderFault → Counted
or_nothing (Ok c) = c
or_nothing (Err e) = nothing

abbrev what_counts : Input → Counted
what_counts i = or_nothing (all_counted i)

abbrev entries : Input → List Entry
entries i = (what_counts i).entries

-- nobody inherits or befriends anything here
abbrev alone : Sight
alone = record { is_ancestor = λ t u. false; is_friend = λ t u. false }

-- in each place as they stand
abbrev as_they_stand : Orders
as_they_stand (Bin zero) = []
as_they_stand (Bin (suc b)) = 0 ∷ 1 ∷ []
as_they_stand (Group g) = []

abbrev ca : Input
ca = input (elem_ca ∷ []) (ca_schedule ∷ [])

row_scope : scope_fault ca (what_counts ca) alone as_they_stand ≡ None
row_scope = refl

pub row_text : (planned ca (what_counts ca) alone as_they_stand).text
    ≡ codes
    "bin STARTUP\nbin WRAGH\nbin PARAMCHECK\nbin BASEGRID\nbin INITIAL\n  call ElemCA::ca_init writes ca::cell(everywhere)\nbin POSTINITIAL\nbin PRESTEP\nbin EVOL\n  call ElemCA::ca_step reads ca::cell(everywhere) writes ca::cell(interior) sync ca::cell\n  call ElemCA::ca_zero writes ca::cell(boundary)\nbin POSTSTEP\n  call ElemCA::ca_count reads ca::cell(everywhere) writes ca::live(everywhere)\nbin CHECKPOINT\nbin ANALYSIS\nbin TERMINATE\nbin SHUTDOWN\nbin CPINITIAL not run\nbin RECOVER_PARAMETERS not run\nbin RECOVER_VARIABLES not run\nbin POST_RECOVER_VARIABLES not run\n"
row_text = refl

row_storage : (planned ca (what_counts ca) alone as_they_stand).storage ≡ 1 ∷ 1 ∷ []
row_storage = refl

abbrev one_file : List Block → Input
one_file blocks = input (elem_ca ∷ []) (in_file blocks ∷ [])

-- P in Q and Q in P
abbrev nested : Input
nested =
    one_file
    (record (block (codes "P") (Inside (codes "Q"))) { group = true }
    ∷ record (block (codes "Q") (Inside (codes "P"))) { group = true }
    ∷ [])

row_nested : IsGroupCycle (entries nested) (codes "P" ∷ codes "Q" ∷ [])
row_nested = record {
  cycle = refl;
  differ = (refl, (refl, _));
  begins = refl;
  spelled = (refl, (refl, _));
}

-- two thorns, one entry each
abbrev one : Thorn
one = thorn (codes "One") (codes "one") [] [] []

abbrev two : Thorn
two = thorn (codes "Two") (codes "two") [] [] []

abbrev m_first : Input
m_first = input (one ∷ two ∷ [])
    (in_file (evol (codes "M") ∷ []) ∷ in_file (evol (codes "N") ∷ []) ∷ [])

row_m_first : map entry_name (entries_at (entries m_first) (Bin 7)) ≡ codes "M" ∷ codes "N" ∷ []
row_m_first = refl

row_names : names_fault (entries
    (input (one ∷ two ∷ [])
    (in_file (evol (codes "M") ∷ []) ∷ in_file (evol (codes "m") ∷ []) ∷ [])))
    ≡ Some (TwoNames (codes "EVOL/m"))
row_names = refl

row_bin : bin_fault (entries (one_file (block (codes "A") (At (codes "NEVER")) ∷ [])))
    ≡ Some (UnknownBin (codes "NEVER"))
row_bin = refl

-- a STORAGE line with a group that nobody has
abbrev lost : Input
lost = input (elem_ca ∷ [])
    (record { items = Storage ((bare (codes "cellz"), None) ∷ []) ∷ [] } ∷ [])

row_lost : scope_fault lost (what_counts lost) alone as_they_stand
    ≡ Some (Scope (codes "ElemCA") (NotFound (codes "cellz")))
row_lost = refl
