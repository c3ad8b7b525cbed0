-- There is one plan, or there is a fault.
use Rattle.std.proofs.Common.{◌≡◌, ◌⊎◌, inl, inr, sym, ◌∙◌, ap, subst, ℕ, List, Option, option_map, None, Some, Result, Ok, Err}
use Rattle.std.specs.Prelude.{MatchResult, IfOk, IfErr}
use Rattle.std.specs.List.{flat_map}
use Rattle.cx_plan.specs.Lists.{or_else}
use Rattle.cx_sched.specs.declared.tree.ScheduleFile.{ScheduleFile}
use Rattle.cx_bind.specs.declared.thorns.Thorn.{Thorn}
use Rattle.cx_values.specs.declared.values.Values.{Values}
use Rattle.cx_values.specs.Assigned.{thorn_finds}
use Rattle.cx_scope.specs.Sight.{Sight, IsSightOf}
use Rattle.cx_order.specs.declared.ordered.Ordered.{Ordered}
use Rattle.cx_order.specs.declared.fault.OrderFault.{OrderFault}
use Rattle.cx_order.specs.declared.fault.OrderFault.TheVariants.{Memory}
use Rattle.cx_order_entries.specs.Counted.{Counted, Entry, Line}
use Rattle.cx_order.specs.Files.{Input, input_of, all_counted}
use Rattle.cx_order_entries.specs.Entries.{names_fault}
use Rattle.cx_order_entries.specs.PlaceNumbers.{Orders, AreLeast}
use Rattle.cx_order_entries.specs.Cycles.{NoGroupCycle}
use Rattle.cx_order.specs.Storage.{storage, storage_fault}
use Rattle.cx_order.specs.Meanings.{World, meaning}
use Rattle.cx_order.specs.Plans.{Forest, forests, forest_items, entry_fault, bin_trees, limit_fault}
use Rattle.cx_order.specs.Texts.{schedule_text}
use Rattle.cx_order.specs.Faults.{from_entry}
use Rattle.cx_order.specs.Ordering.{planned, scope_fault, entries_fault, AreEntries, AreOrders, IsPlan, IsFault, of_expression, of_entry, of_groups, of_entries, of_scope, of_limit, OrderAnswers}
use Rattle.cx_order.proofs.FileLaws.{counted-below}
use Rattle.cx_order.proofs.OrderingLaws.{memory-or, same-ordered}
use Rattle.cx_order_entries.proofs.OnlyOrders.{same-orders, no-entry-cycle}
use Rattle.cx_order.proofs.OnlySights.{Each, IsThere}
use Rattle.cx_order.proofs.OnlyMeanings.{each-of, Grows, forests-grow, same-fault, same-items, same-trees, same-text, same-meaning, same-storage, same-storage-fault}

-- the same plan and the same fault
pub record Same (input : Input) (c : Counted) (a : Sight) (o : Orders) (d : Counted) (b : Sight)
    (q : Orders) : Type 0 where
  pub plans : planned input c a o ≡ planned input d b q
  pub faults : scope_fault input c a o ≡ scope_fault input d b q

module _ (input : Input) (c : Counted) (a b : Sight) (orders : Orders) (are : AreEntries input c)
    (told : IsSightOf input.thorns a) (again : IsSightOf input.thorns b) where
  abbrev HasThorn : Entry → Type 0
  HasThorn e = IsThere input.thorns e.thorn

  abbrev fs : List Forest
  fs = forests c.entries orders

  abbrev stored : List ℕ
  stored = storage input.thorns b c.lines

  abbrev worlds : List ℕ → World
  worlds s = record { thorns = input.thorns; sight = a; storage = s }

  lines-there : Each c.lines (λ (l : Line). IsThere input.thorns l.thorn)
  lines-there = each-of (λ (l : Line). IsThere input.thorns l.thorn) c.lines
      (counted-below (λ n name index. thorn_finds input.values n name index)
      input.thorns input.files c are.counted).0

  grows : Each fs (Grows HasThorn)
  grows = forests-grow HasThorn c.entries orders
      (each-of HasThorn c.entries
      (counted-below (λ n name index. thorn_finds input.values n name index)
      input.thorns input.files c are.counted).1)

  levels : storage input.thorns a c.lines ≡ stored
  levels = same-storage input.thorns a b told again c.lines lines-there

  agree : (e : Entry) → HasThorn e
      → meaning (worlds stored) e
      ≡ meaning (record { thorns = input.thorns; sight = b; storage = stored }) e
  agree = same-meaning input.thorns a b stored told again

  one-sight : Same input c a orders c b orders
  one-sight =
      record {
        plans =
            same-ordered (planned input c a orders) (planned input c b orders)
            (ap (λ s. bin_trees (worlds s) 0 fs) levels
            ∙ same-trees input.thorns a b stored HasThorn agree 0 fs grows)
            (ap (λ s. flat_map (forest_items (worlds s)) fs) levels
            ∙ same-items input.thorns a b stored HasThorn agree fs grows)
            levels
            (ap (λ s. schedule_text (worlds s) fs) levels
            ∙ same-text input.thorns a b stored HasThorn agree fs grows);
        faults =
            ap (λ s. or_else (storage_fault input.thorns a c.lines) (entry_fault (worlds s) fs))
            levels
            ∙ ap (λ o. or_else o (entry_fault (worlds stored) fs))
            (same-storage-fault input.thorns a b told again c.lines lines-there)
            ∙ ap (λ o. or_else (storage_fault input.thorns b c.lines) o)
            (same-fault input.thorns a b stored HasThorn agree fs grows);
      }

one-ok : (r : Result Counted OrderFault) (c d : Counted) → r ≡ Ok c → r ≡ Ok d → c ≡ d
one-ok r c d h k = cc (h, k)

module _ (input : Input) where
  pub one-counted : (c d : Counted) → all_counted input ≡ Ok c → all_counted input ≡ Ok d → c ≡ d
  one-counted c d h k = one-ok (all_counted input) c d h k

  pub same : (c d : Counted) (a b : Sight) (o q : Orders) → AreOrders input c a o
      → AreOrders input d b q → Same input c a o d b q
  same c d a b o q x y =
      let entries : c ≡ d = one-counted c d x.are_entries.counted y.are_entries.counted in
      let L : Counted → Type 0 = λ z. AreLeast z.entries q in
      let orders : o ≡ q = same-orders c.entries o q x.least (subst L (sym entries) y.least) in
      let O : Orders → Type 0 = λ z. Same input c a o c b z in
      let C : Counted → Type 0 = λ z. Same input c a o z b q in
      subst C entries (subst O orders (one-sight input c a b o x.are_entries x.told y.told))

  pub only : (a b : Ordered) → IsPlan input a → IsPlan input b → a ≡ b
  only a b x y =
      let s = same x.c y.c x.sight y.sight x.orders y.orders x.are_orders y.are_orders in
      x.is_planned ∙ s.plans ∙ sym y.is_planned

  pub none-and-some : (o : Option OrderFault) (e : OrderFault) → o ≡ None → o ≡ Some e → ⊥
  none-and-some o e h k = cc (h, k)

  pub ok-and-err : (r : Result Counted OrderFault) (c : Counted) (e : OrderFault) → r ≡ Ok c
      → r ≡ Err e → ⊥
  ok-and-err r c e h k = cc (h, k)

  -- where there is a plan there is no fault
  pub never-both : (ordered : Ordered) (e : OrderFault) → IsPlan input ordered → IsFault input e → ⊥
  never-both ordered e p (of_expression h) =
      ok-and-err (all_counted input) p.c e p.are_orders.are_entries.counted h
  never-both ordered e p (of_entry f) =
      let are = p.are_orders.are_entries in
      let first : Counted → Option OrderFault = λ z. entries_fault z.entries in
      let none : first p.c ≡ None =
      ap (option_map from_entry)
      (ap (λ o. or_else o (names_fault p.c.entries)) are.bins ∙ are.names) in
      none-and-some (first f.c) e
      (sym (ap first (one-counted p.c f.c are.counted f.counted)) ∙ none) f.first
  never-both ordered e p (of_groups f) =
      let N : Counted → Type 0 = λ z. NoGroupCycle z.entries in
      subst N (one-counted p.c f.c p.are_orders.are_entries.counted f.are_entries.counted)
      p.are_orders.groups f.names f.cycle.cycle
  never-both ordered e p (of_entries f) =
      let L : Counted → Type 0 = λ z. AreLeast z.entries p.orders in
      no-entry-cycle f.c.entries p.orders f.names
      (subst L (one-counted p.c f.c p.are_orders.are_entries.counted f.are_entries.counted)
      p.are_orders.least) f.cycle
  never-both ordered e p (of_scope f) =
      let s = same p.c f.c p.sight f.sight p.orders f.orders p.are_orders f.are_orders in
      none-and-some (scope_fault input f.c f.sight f.orders) e (sym s.faults ∙ p.scope) f.scope
  never-both ordered e p (of_limit f) =
      let s = same p.c f.c p.sight f.sight p.orders f.orders p.are_orders f.are_orders in
      none-and-some (limit_fault (planned input f.c f.sight f.orders).plan.bins) e
      (sym (ap (λ (o : Ordered). limit_fault o.plan.bins) s.plans) ∙ p.limits) f.limits

  -- where there is a plan, only want of memory is told
  pub memory-alone : (ordered : Ordered) (e : OrderFault) → IsPlan input ordered
      → (e ≡ Memory) ⊎ IsFault input e → e ≡ Memory
  memory-alone ordered e p (inl is) = is
  memory-alone ordered e p (inr f) = absurd (never-both ordered e p f)

  pub only-answer : (result : Result Ordered OrderFault) → OrderAnswers input result
      → (ordered : Ordered) → IsPlan input ordered
      → MatchResult result (λ found. found ≡ ordered) (λ e. e ≡ Memory)
  only-answer (Ok found) answer ordered p = only found ordered answer p
  only-answer (Err e) answer ordered p = memory-alone ordered e p answer

-- what a plan is made of counts, so what is told of all files and values is told of these
pub planned-answers : (thorns : List Thorn) (files : List ScheduleFile) (values : Values)
    (c : Counted) (result : Result Ordered OrderFault) → AreEntries (input_of thorns files values) c
    → IfOk result (λ ordered. (fs : List ScheduleFile) (vs : Values)
    → AreEntries (input_of thorns fs vs) c → IsPlan (input_of thorns fs vs) ordered)
    → IfErr result (λ e. (e ≡ Memory)
    ⊎ ((fs : List ScheduleFile) (vs : Values) → AreEntries (input_of thorns fs vs) c
    → IsFault (input_of thorns fs vs) e))
    → OrderAnswers (input_of thorns files values) result
planned-answers thorns files values c (Ok ordered) are plan fault = plan files values are
planned-answers thorns files values c (Err e) are plan fault =
    memory-or e (λ f. f files values are) fault
