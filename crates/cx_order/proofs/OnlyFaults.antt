-- Where ordering has a fault, it is one, but for the cycle that is shown.
use Rattle.std.proofs.Common.{◌≡◌, sym, ◌∙◌, ap, subst, Option, option_map, None, Some, Result, Ok, Err}
use Rattle.cx_plan.specs.Lists.{or_else}
use Rattle.cx_scope.specs.Sight.{Sight}
use Rattle.cx_order.specs.declared.ordered.Ordered.{Ordered}
use Rattle.cx_order.specs.declared.fault.OrderFault.{OrderFault}
use Rattle.cx_order_entries.specs.Counted.{Counted}
use Rattle.cx_order.specs.Files.{Input, all_counted}
use Rattle.cx_order_entries.specs.Entries.{names_fault}
use Rattle.cx_order_entries.specs.PlaceNumbers.{Orders, AreLeast}
use Rattle.cx_order_entries.specs.Cycles.{NoGroupCycle}
use Rattle.cx_order.specs.Plans.{limit_fault}
use Rattle.cx_order.specs.Faults.{from_entry}
use Rattle.cx_order.specs.Ordering.{planned, scope_fault, entries_fault, AreEntries, AreOrders, IsEntryFault, IsOfGroups, IsOfEntries, IsScopeFault, IsLimitFault, IsFault, of_expression, of_entry, of_groups, of_entries, of_scope, of_limit, without_cycle}
use Rattle.cx_order_entries.proofs.OnlyOrders.{no-entry-cycle}
use Rattle.cx_order.proofs.OnlyPlan.{one-counted, same, none-and-some, ok-and-err}

err-is : (r : Result Counted OrderFault) (a b : OrderFault) → r ≡ Err a → r ≡ Err b → a ≡ b
err-is r a b h k = cc (h, k)

some-is : (o : Option OrderFault) (a b : OrderFault) → o ≡ Some a → o ≡ Some b → a ≡ b
some-is o a b h k = cc (h, k)

module _ (input : Input) where
  abbrev first : Counted → Option OrderFault
  first c = entries_fault c.entries

  not-counted : (e : OrderFault) (c : Counted) → all_counted input ≡ Err e
      → all_counted input ≡ Ok c → ⊥
  not-counted e c h k = ok-and-err input (all_counted input) c e k h

  no-entry-fault : (e : OrderFault) → IsEntryFault input e → (c : Counted) → AreEntries input c → ⊥
  no-entry-fault e f c are =
      let none : first c ≡ None =
      ap (option_map from_entry)
      (ap (λ o. or_else o (names_fault c.entries)) are.bins ∙ are.names) in
      none-and-some input (first f.c) e
      (ap first (one-counted input f.c c f.counted are.counted) ∙ none) f.first

  one-entry : (a b : OrderFault) → IsEntryFault input a → IsEntryFault input b → a ≡ b
  one-entry a b f g = some-is (first f.c) a b f.first
      (ap first (one-counted input f.c g.c f.counted g.counted) ∙ g.first)

  no-group-cycle : (e : OrderFault) → IsOfGroups input e → (c : Counted) → AreEntries input c
      → NoGroupCycle c.entries → ⊥
  no-group-cycle e f c are groups =
      let N : Counted → Type 0 = λ z. NoGroupCycle z.entries in
      subst N (one-counted input c f.c are.counted f.are_entries.counted)
      groups f.names f.cycle.cycle

  no-cycle : (e : OrderFault) → IsOfEntries input e
      → (c : Counted) (sight : Sight) (orders : Orders) → AreOrders input c sight orders → ⊥
  no-cycle e f c sight orders are =
      let L : Counted → Type 0 = λ z. AreLeast z.entries orders in
      no-entry-cycle f.c.entries orders f.names
      (subst L (one-counted input c f.c are.are_entries.counted f.are_entries.counted)
      are.least) f.cycle

  one-scope : (a b : OrderFault) → IsScopeFault input a → IsScopeFault input b → a ≡ b
  one-scope a b f g =
      let s = same input f.c g.c f.sight g.sight f.orders g.orders f.are_orders g.are_orders in
      some-is (scope_fault input g.c g.sight g.orders) a b (sym s.faults ∙ f.scope) g.scope

  no-scope-fault : (a b : OrderFault) → IsScopeFault input a → IsLimitFault input b → ⊥
  no-scope-fault a b f g =
      let s = same input f.c g.c f.sight g.sight f.orders g.orders f.are_orders g.are_orders in
      none-and-some input (scope_fault input g.c g.sight g.orders) a g.scope
      (sym s.faults ∙ f.scope)

  one-limit : (a b : OrderFault) → IsLimitFault input a → IsLimitFault input b → a ≡ b
  one-limit a b f g =
      let s = same input f.c g.c f.sight g.sight f.orders g.orders f.are_orders g.are_orders in
      some-is (limit_fault (planned input g.c g.sight g.orders).plan.bins) a b
      (sym (ap (λ (o : Ordered). limit_fault o.plan.bins) s.plans) ∙ f.limits) g.limits

  pub one-fault : (a b : OrderFault) → IsFault input a → IsFault input b
      → without_cycle a ≡ without_cycle b
  one-fault a b (of_expression f) (of_expression g) =
      ap without_cycle (err-is (all_counted input) a b f g)
  one-fault a b (of_expression f) (of_entry g) = absurd (not-counted a g.c f g.counted)
  one-fault a b (of_expression f) (of_groups g) = absurd (not-counted a g.c f g.are_entries.counted)
  one-fault a b (of_expression f) (of_entries g) =
      absurd (not-counted a g.c f g.are_entries.counted)
  one-fault a b (of_expression f) (of_scope g) =
      absurd (not-counted a g.c f g.are_orders.are_entries.counted)
  one-fault a b (of_expression f) (of_limit g) =
      absurd (not-counted a g.c f g.are_orders.are_entries.counted)
  one-fault a b (of_entry f) (of_expression g) = absurd (not-counted b f.c g f.counted)
  one-fault a b (of_entry f) (of_entry g) = ap without_cycle (one-entry a b f g)
  one-fault a b (of_entry f) (of_groups g) = absurd (no-entry-fault a f g.c g.are_entries)
  one-fault a b (of_entry f) (of_entries g) = absurd (no-entry-fault a f g.c g.are_entries)
  one-fault a b (of_entry f) (of_scope g) = absurd (no-entry-fault a f g.c g.are_orders.are_entries)
  one-fault a b (of_entry f) (of_limit g) = absurd (no-entry-fault a f g.c g.are_orders.are_entries)
  one-fault a b (of_groups f) (of_expression g) = absurd (not-counted b f.c g f.are_entries.counted)
  one-fault a b (of_groups f) (of_entry g) = absurd (no-entry-fault b g f.c f.are_entries)
  one-fault a b (of_groups f) (of_groups g) =
      ap without_cycle f.told ∙ sym (ap without_cycle g.told)
  one-fault a b (of_groups f) (of_entries g) =
      absurd (no-group-cycle a f g.c g.are_entries g.groups)
  one-fault a b (of_groups f) (of_scope g) =
      absurd (no-group-cycle a f g.c g.are_orders.are_entries g.are_orders.groups)
  one-fault a b (of_groups f) (of_limit g) =
      absurd (no-group-cycle a f g.c g.are_orders.are_entries g.are_orders.groups)
  one-fault a b (of_entries f) (of_expression g) =
      absurd (not-counted b f.c g f.are_entries.counted)
  one-fault a b (of_entries f) (of_entry g) = absurd (no-entry-fault b g f.c f.are_entries)
  one-fault a b (of_entries f) (of_groups g) =
      absurd (no-group-cycle b g f.c f.are_entries f.groups)
  one-fault a b (of_entries f) (of_entries g) =
      ap without_cycle f.told ∙ sym (ap without_cycle g.told)
  one-fault a b (of_entries f) (of_scope g) =
      absurd (no-cycle a f g.c g.sight g.orders g.are_orders)
  one-fault a b (of_entries f) (of_limit g) =
      absurd (no-cycle a f g.c g.sight g.orders g.are_orders)
  one-fault a b (of_scope f) (of_expression g) =
      absurd (not-counted b f.c g f.are_orders.are_entries.counted)
  one-fault a b (of_scope f) (of_entry g) = absurd (no-entry-fault b g f.c f.are_orders.are_entries)
  one-fault a b (of_scope f) (of_groups g) =
      absurd (no-group-cycle b g f.c f.are_orders.are_entries f.are_orders.groups)
  one-fault a b (of_scope f) (of_entries g) =
      absurd (no-cycle b g f.c f.sight f.orders f.are_orders)
  one-fault a b (of_scope f) (of_scope g) = ap without_cycle (one-scope a b f g)
  one-fault a b (of_scope f) (of_limit g) = absurd (no-scope-fault a b f g)
  one-fault a b (of_limit f) (of_expression g) =
      absurd (not-counted b f.c g f.are_orders.are_entries.counted)
  one-fault a b (of_limit f) (of_entry g) = absurd (no-entry-fault b g f.c f.are_orders.are_entries)
  one-fault a b (of_limit f) (of_groups g) =
      absurd (no-group-cycle b g f.c f.are_orders.are_entries f.are_orders.groups)
  one-fault a b (of_limit f) (of_entries g) =
      absurd (no-cycle b g f.c f.sight f.orders f.are_orders)
  one-fault a b (of_limit f) (of_scope g) = absurd (no-scope-fault b a g f)
  one-fault a b (of_limit f) (of_limit g) = ap without_cycle (one-limit a b f g)
