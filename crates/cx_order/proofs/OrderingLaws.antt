-- What the stages of ordering tell, joined.
use Rattle.std.proofs.Common.{◌≡◌, ◌⊎◌, inl, inr, ℕ, List, Option, None, Some, option_map, Ok, Err, refl, ◌∙◌, ap, subst}
use Rattle.cx_plan.specs.Lists.{or_else}
use Rattle.cx_plan.specs.declared.item.Item.{Item}
use Rattle.cx_plan.specs.declared.tree.Tree.{Tree}
use Rattle.cx_sched.specs.declared.tree.ScheduleFile.{ScheduleFile}
use Rattle.cx_bind.specs.declared.thorns.Thorn.{Thorn}
use Rattle.cx_values.specs.declared.values.Values.{Values}
use Rattle.cx_scope.specs.Sight.{Sight, IsSightOf}
use Rattle.cx_order.specs.declared.ordered.Ordered.{Ordered}
use Rattle.cx_order.specs.declared.planning.Planned.{Planned}
use Rattle.cx_order.specs.declared.fault.OrderFault.{OrderFault}
use Rattle.cx_order.specs.declared.fault.OrderFault.TheVariants.{Memory}
use Rattle.cx_order_entries.specs.declared.fault.EntryFault.{EntryFault}
use Rattle.cx_order_entries.specs.declared.fault.EntryFault.TheVariants as entries
use Rattle.cx_order_entries.specs.declared.fault.PlaceFault.{PlaceFault}
use Rattle.cx_order_entries.specs.declared.fault.PlaceFault.TheVariants as places
use Rattle.cx_order_entries.specs.declared.fault.PlaceFault.TheVariants.{GroupCycle, Cycle}
use Rattle.cx_order.specs.Faults.{from_entry, from_place}
use Rattle.cx_order_entries.specs.Entries.{bin_fault, names_fault}
use Rattle.cx_order_entries.specs.Counted.{Counted}
use Rattle.cx_order.specs.Files.{Input, input_of, all_counted}
use Rattle.cx_order_entries.specs.PlaceNumbers.{Orders, AreLeast}
use Rattle.cx_order_entries.specs.Cycles.{NoGroupCycle}
use Rattle.cx_order.specs.Storage.{storage, storage_fault}
use Rattle.cx_order.specs.Meanings.{World}
use Rattle.cx_order.specs.Plans.{Forest, forests, entry_fault, limit_fault, bin_trees}
use Rattle.cx_order_entries.specs.Placement.{ArePlaced}
use Rattle.cx_order.specs.PlanSteps.{IsPlanOf}
use Rattle.cx_order.specs.Ordering.{AreEntries, AreOrders, IsPlan, IsFault, IsFaultFrom, of_entry, of_groups, of_entries, of_scope, of_limit, planned}

-- want of memory is handed on
pub memory-or : {A B : Type 0} (e : OrderFault) → (A → B) → (e ≡ Memory) ⊎ A → (e ≡ Memory) ⊎ B
memory-or e f (inl is) = inl is
memory-or e f (inr a) = inr (f a)

pub placed-fault : (thorns : List Thorn) (c : Counted) (e : PlaceFault)
    → ArePlaced c.entries (Err e) → (from_place e ≡ Memory) ⊎ IsFaultFrom thorns c (from_place e)
placed-fault thorns c (GroupCycle names) h =
    inr (λ files values are.
    of_groups (record { c = c; are_entries = are; names = names; cycle = h; told = refl }))
placed-fault thorns c (Cycle names) h =
    inr (λ files values are.
    of_entries
    (record { c = c; are_entries = are; groups = h.0; names = names; cycle = h.1; told = refl }))
placed-fault thorns c places.Memory h = inl refl

-- a fault of bins or names, or want of memory
module _ (input : Input) (c : Counted) (is : all_counted input ≡ Ok c) where
  first-fault : (e : EntryFault) → or_else (bin_fault c.entries) (names_fault c.entries) ≡ Some e
      → (from_entry e ≡ Memory) ⊎ IsFault input (from_entry e)
  first-fault e first = inr
      (of_entry (record { c = c; counted = is; first = ap (option_map from_entry) first }))

  pub bin-fault : (e : EntryFault) → (e ≡ entries.Memory) ⊎ (bin_fault c.entries ≡ Some e)
      → (from_entry e ≡ Memory) ⊎ IsFault input (from_entry e)
  bin-fault e (inl is) = inl (ap from_entry is)
  bin-fault e (inr told) = first-fault e (ap (λ o. or_else o (names_fault c.entries)) told)

  pub name-fault : (e : EntryFault) → bin_fault c.entries ≡ None
      → (e ≡ entries.Memory) ⊎ (names_fault c.entries ≡ Some e)
      → (from_entry e ≡ Memory) ⊎ IsFault input (from_entry e)
  name-fault e none (inl is) = inl (ap from_entry is)
  name-fault e none (inr told) =
      first-fault e (ap (λ o. or_else o (names_fault c.entries)) none ∙ told)

pub same-ordered : (a b : Ordered) → a.plan.bins ≡ b.plan.bins → a.items ≡ b.items
    → a.storage ≡ b.storage → a.text ≡ b.text → a ≡ b
same-ordered a b bins items stored text =
    let F : List Tree → Ordered =
    λ x. record {
      plan = record { bins = x };
      items = a.items;
      storage = a.storage;
      text = a.text;
    } in
    let G : List Item → Ordered =
    λ x. record { plan = b.plan; items = x; storage = a.storage; text = a.text } in
    let H : List ℕ → Ordered =
    λ x. record { plan = b.plan; items = b.items; storage = x; text = a.text } in
    let I : List ℕ → Ordered =
    λ x. record { plan = b.plan; items = b.items; storage = b.storage; text = x } in
    ap F bins ∙ ap G items ∙ ap H stored ∙ ap I text

module _ (thorns : List Thorn) (c : Counted) (sight : Sight) (orders : Orders)
    (groups : NoGroupCycle c.entries) (least : AreLeast c.entries orders)
    (told : IsSightOf thorns sight) where
  abbrev are : (files : List ScheduleFile) (values : Values)
      → AreEntries (input_of thorns files values) c
      → AreOrders (input_of thorns files values) c sight orders
  are files values entries =
      record { are_entries = entries; groups = groups; least = least; told = told }

  abbrev fs : List Forest
  fs = forests c.entries orders

  abbrev worlds : List ℕ → World
  worlds stored = record { thorns = thorns; sight = sight; storage = stored }

  abbrev w : World
  w = worlds (storage thorns sight c.lines)

  abbrev rest : Option OrderFault
  rest = entry_fault w fs

  pub storage-fault : (e : OrderFault) → storage_fault thorns sight c.lines ≡ Some e
      → IsFaultFrom thorns c e
  storage-fault e is files values entries =
      of_scope
      (record {
        c = c;
        sight = sight;
        orders = orders;
        are_orders = are files values entries;
        scope = ap (λ o. or_else o rest) is;
      })

  module _ (stored : List ℕ) (levels : stored ≡ storage thorns sight c.lines)
      (no_storage : storage_fault thorns sight c.lines ≡ None) where
    names-fault : (e : OrderFault) → rest ≡ Some e → IsFaultFrom thorns c e
    names-fault e is files values entries =
        of_scope
        (record {
          c = c;
          sight = sight;
          orders = orders;
          are_orders = are files values entries;
          scope = ap (λ o. or_else o rest) no_storage ∙ is;
        })

    size-fault : (e : OrderFault) → rest ≡ None → limit_fault (bin_trees w 0 fs) ≡ Some e
        → IsFaultFrom thorns c e
    size-fault e none is files values entries =
        of_limit
        (record {
          c = c;
          sight = sight;
          orders = orders;
          are_orders = are files values entries;
          scope = ap (λ o. or_else o rest) no_storage ∙ none;
          limits = is;
        })

    either : (e : OrderFault) (o : Option OrderFault) → rest ≡ o
        → or_else o (limit_fault (bin_trees w 0 fs)) ≡ Some e → IsFaultFrom thorns c e
    either e None at is = size-fault e at is
    either e (Some f) at is = names-fault e (at ∙ is)

    pub entry-fault : (e : OrderFault)
        → or_else (entry_fault (worlds stored) fs) (limit_fault (bin_trees (worlds stored) 0 fs))
        ≡ Some e → IsFaultFrom thorns c e
    entry-fault e is =
        let P : List ℕ → Type 0 =
        λ s. or_else (entry_fault (worlds s) fs) (limit_fault (bin_trees (worlds s) 0 fs))
        ≡ Some e in
        either e rest refl (subst P levels is)

    pub is-plan : (p : Planned) → entry_fault (worlds stored) fs ≡ None
        → limit_fault (bin_trees (worlds stored) 0 fs) ≡ None → IsPlanOf (worlds stored) fs p
        → (files : List ScheduleFile) (values : Values)
        → AreEntries (input_of thorns files values) c
        → IsPlan (input_of thorns files values)
        (record { plan = p.plan; items = p.items; storage = stored; text = p.text })
    is-plan p no_names no_sizes made files values entries =
        let N : List ℕ → Type 0 = λ s. entry_fault (worlds s) fs ≡ None in
        let L : List ℕ → Type 0 = λ s. limit_fault (bin_trees (worlds s) 0 fs) ≡ None in
        let M : List ℕ → Type 0 = λ s. IsPlanOf (worlds s) fs p in
        let of : IsPlanOf w fs p = subst M levels made in
        record {
          c = c;
          sight = sight;
          orders = orders;
          are_orders = are files values entries;
          scope = ap (λ o. or_else o rest) no_storage ∙ subst N levels no_names;
          limits = subst L levels no_sizes;
          is_planned = same-ordered
              (record { plan = p.plan; items = p.items; storage = stored; text = p.text })
              (planned (input_of thorns files values) c sight orders)
              of.of_bins of.of_items levels of.of_text;
        }
