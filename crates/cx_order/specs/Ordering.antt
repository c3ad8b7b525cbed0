-- What ordering answers.
use Rattle.std.specs.Prelude.{◌≡◌, ◌⊎◌, ℕ, List, [], Option, Some, None, option_map, Result, Ok, Err}
use Rattle.std.specs.List.{flat_map}
use Rattle.cx_plan.specs.Lists.{or_else}
use Rattle.cx_sched.specs.declared.tree.ScheduleFile.{ScheduleFile}
use Rattle.cx_bind.specs.declared.thorns.Thorn.{Thorn}
use Rattle.cx_values.specs.declared.values.Values.{Values}
use Rattle.cx_scope.specs.Sight.{Sight, IsSightOf}
use Rattle.cx_order.specs.declared.ordered.Ordered.{Ordered}
use Rattle.cx_order.specs.declared.fault.OrderFault.{OrderFault}
use Rattle.cx_order.specs.declared.fault.OrderFault.TheVariants.{Expr, UnknownBin, TwoNames, GroupCycle, Cycle, Scope, Limit, Memory}
use Rattle.cx_order_entries.specs.Counted.{Counted, Entry}
use Rattle.cx_order.specs.Files.{Input, input_of, all_counted}
use Rattle.cx_order.specs.Faults.{from_entry}
use Rattle.cx_order_entries.specs.Entries.{bin_fault, names_fault}
use Rattle.cx_order_entries.specs.PlaceNumbers.{Orders, AreLeast}
use Rattle.cx_order_entries.specs.Cycles.{IsGroupCycle, NoGroupCycle, IsEntryCycle}
use Rattle.cx_order.specs.Storage.{storage, storage_fault}
use Rattle.cx_order.specs.Meanings.{World}
use Rattle.cx_order.specs.Plans.{forests, forest_items, entry_fault, bin_trees, limit_fault}
use Rattle.cx_order.specs.Texts.{schedule_text}

-- what the thorns see, and what is stored
abbrev pub world : Input → Counted → Sight → World
world input c sight = record {
  thorns = input.thorns;
  sight = sight;
  storage = storage input.thorns sight c.lines;
}

-- the plan by these orders
abbrev pub planned : Input → Counted → Sight → Orders → Ordered
planned input c sight orders =
    record {
      plan = record { bins = bin_trees (world input c sight) 0 (forests c.entries orders) };
      items = flat_map (forest_items (world input c sight)) (forests c.entries orders);
      storage = storage input.thorns sight c.lines;
      text = schedule_text (world input c sight) (forests c.entries orders);
    }

-- first the STORAGE lines, then the entries in the order of the trees
abbrev pub scope_fault : Input → Counted → Sight → Orders → Option OrderFault
scope_fault input c sight orders =
    or_else (storage_fault input.thorns sight c.lines)
    (entry_fault (world input c sight) (forests c.entries orders))

-- what counts, without a fault of bins and names
pub record AreEntries (input : Input) (c : Counted) : Type 0 where
  pub counted : all_counted input ≡ Ok c
  pub bins : bin_fault c.entries ≡ None
  pub names : names_fault c.entries ≡ None

-- no group contains itself, there are least orders, and the sight is that of the least sets
pub record AreOrders (input : Input) (c : Counted) (sight : Sight) (orders : Orders) : Type 0 where
  pub are_entries : AreEntries input c
  pub groups : NoGroupCycle c.entries
  pub least : AreLeast c.entries orders
  pub told : IsSightOf input.thorns sight

pub record IsPlan (input : Input) (ordered : Ordered) : Type 0 where
  pub c : Counted
  pub sight : Sight
  pub orders : Orders
  pub are_orders : AreOrders input c sight orders
  pub scope : scope_fault input c sight orders ≡ None
  pub limits : limit_fault (planned input c sight orders).plan.bins ≡ None
  pub is_planned : ordered ≡ planned input c sight orders

-- a fault of bins, or else of names
abbrev pub entries_fault : List Entry → Option OrderFault
entries_fault es = option_map from_entry (or_else (bin_fault es) (names_fault es))

-- what counts has such a fault
pub record IsEntryFault (input : Input) (fault : OrderFault) : Type 0 where
  pub c : Counted
  pub counted : all_counted input ≡ Ok c
  pub first : entries_fault c.entries ≡ Some fault

pub record IsOfGroups (input : Input) (fault : OrderFault) : Type 0 where
  pub c : Counted
  pub are_entries : AreEntries input c
  pub names : List (List ℕ)
  pub cycle : IsGroupCycle c.entries names
  pub told : fault ≡ GroupCycle names

pub record IsOfEntries (input : Input) (fault : OrderFault) : Type 0 where
  pub c : Counted
  pub are_entries : AreEntries input c
  pub groups : NoGroupCycle c.entries
  pub names : List (List ℕ)
  pub cycle : IsEntryCycle c.entries names
  pub told : fault ≡ Cycle names

pub record IsScopeFault (input : Input) (fault : OrderFault) : Type 0 where
  pub c : Counted
  pub sight : Sight
  pub orders : Orders
  pub are_orders : AreOrders input c sight orders
  pub scope : scope_fault input c sight orders ≡ Some fault

pub record IsLimitFault (input : Input) (fault : OrderFault) : Type 0 where
  pub c : Counted
  pub sight : Sight
  pub orders : Orders
  pub are_orders : AreOrders input c sight orders
  pub scope : scope_fault input c sight orders ≡ None
  pub limits : limit_fault (planned input c sight orders).plan.bins ≡ Some fault

-- the first fault, in the order of its kinds: each kind asks that there is none of those before it
pub data IsFault (input : Input) (fault : OrderFault) : Type 0 where
  of_expression : all_counted input ≡ Err fault → IsFault input fault
  of_entry : IsEntryFault input fault → IsFault input fault
  of_groups : IsOfGroups input fault → IsFault input fault
  of_entries : IsOfEntries input fault → IsFault input fault
  of_scope : IsScopeFault input fault → IsFault input fault
  of_limit : IsLimitFault input fault → IsFault input fault

-- What a fault tells beside the cycle that it shows: of several cycles any may be shown.
abbrev pub without_cycle : OrderFault → OrderFault
without_cycle (GroupCycle names) = GroupCycle []
without_cycle (Cycle names) = Cycle []
without_cycle (Expr thorn fault) = Expr thorn fault
without_cycle (UnknownBin name) = UnknownBin name
without_cycle (TwoNames name) = TwoNames name
without_cycle (Scope path fault) = Scope path fault
without_cycle (Limit name count) = Limit name count
without_cycle Memory = Memory

-- a plan, and a fault, whatever the files and values are of which this counts
abbrev pub IsPlanFrom : List Thorn → Counted → Ordered → Type 0
IsPlanFrom thorns c ordered = (files : List ScheduleFile) (values : Values)
    → AreEntries (input_of thorns files values) c → IsPlan (input_of thorns files values) ordered

abbrev pub IsFaultFrom : List Thorn → Counted → OrderFault → Type 0
IsFaultFrom thorns c e = (files : List ScheduleFile) (values : Values)
    → AreEntries (input_of thorns files values) c → IsFault (input_of thorns files values) e

abbrev pub OrderAnswers : Input → Result Ordered OrderFault → Type 0
OrderAnswers input (Ok ordered) = IsPlan input ordered
OrderAnswers input (Err fault) = (fault ≡ Memory) ⊎ IsFault input fault
