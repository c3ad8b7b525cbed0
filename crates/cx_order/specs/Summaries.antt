-- What is known of the trees of some entries.
use Rattle.std.specs.Prelude.{◌≡◌, ℕ, ◌+◌, ◌≤◌, true, List, [], ◌∷◌, ◌++◌, length, map, filter_map, slice_get, Option, Some, None, option_map, Result}
use Rattle.std.specs.Option.{option_and_then}
use Rattle.cx_order.specs.declared.fault.OrderFault.{OrderFault}
use Rattle.cx_order.specs.declared.fault.OrderFault.TheVariants.{Scope}
use Rattle.cx_order.specs.declared.summary.Found.{Found}
use Rattle.cx_order.specs.declared.summary.Summary.{Summary}
use Rattle.cx_order_entries.specs.declared.placement.Placed.{Placed}
use Rattle.cx_plan.specs.Lookups.{bin_name}
use Rattle.cx_order_entries.specs.Counted.{Entry}
use Rattle.cx_order_least.specs.Links.{has, row}
use Rattle.cx_order.specs.Meanings.{World, meaning}
use Rattle.cx_order.specs.declared.meaning.Meaning.{Meaning}
use Rattle.cx_scope.specs.declared.fault.ScopeFault.{ScopeFault}
use Rattle.cx_order_entries.specs.Members.{entries_of}
use Rattle.cx_plan.specs.Lookups.{bin_count}
use Rattle.cx_order.specs.PlanSteps.{contents_at, forests_in}
use Rattle.cx_order.specs.Plans.{Forest, Done, Then, path_of, row_of, forest_fault, trees}
use Rattle.cx_order.specs.TreeSizes.{AreSizes}
use Rattle.cx_plan.specs.Lists.{or_else}
use Rattle.cx_order.specs.Storage.{error_of}

-- a fault that was found from a place on, by the path of that place
abbrev pub told : List ℕ → Found → OrderFault
told path found = Scope (path ++ found.path) found.fault.now

abbrev pub fault_in : Option Summary → Option Found
fault_in None = None
fault_in (Some s) = s.fault

-- the first fault of an entry of this path, by its own names and what is known of its contents
abbrev pub first_found : List ℕ → Result Meaning ScopeFault → Option Summary → Option OrderFault
first_found inner m inside =
    or_else (option_map (λ e. Scope inner e) (error_of m))
    (option_map (told inner) (fault_in inside))

-- of the entries of a place, by the path of that place
pub record IsSummary (w : World) (path : List ℕ) (f : Forest) (s : Summary) : Type 0 where
  pub sizes : (k : ℕ) → AreSizes (trees w k f) s.sizes
  pub fault : forest_fault w f ≡ option_map (told path) s.fault

-- of an entry's contents, which are nothing where nothing is known of them
abbrev pub IsInside : World → List ℕ → Forest → Option Summary → Type 0
IsInside w path f None = f ≡ Done
IsInside w path f (Some s) = IsSummary w path f s

-- the numbers of a place's entries among all, in the order in which they run
abbrev pub numbers_at : Placed → ℕ → List ℕ
numbers_at p k = filter_map (λ j. slice_get (row p.members k) j) (row p.orders k)

-- what is known of the contents of an entry by its number, from what is known of places
abbrev pub inside_at : List (Option ℕ) → List Summary → ℕ → Option Summary
inside_at places table i =
    option_and_then (λ (place : Option ℕ). option_and_then (slice_get table) place)
    (slice_get places i)

-- of the contents of each of some entries
abbrev pub AreInside : World → List Entry → List (Option ℕ) → List Summary → List ℕ
    → (Entry → List ℕ → Forest) → List ℕ → Type 0
AreInside w es places table path inside numbers =
    (i : ℕ) (e : Entry) → has numbers i ≡ true → slice_get es i ≡ Some e
    → IsInside w (path_of path e) (inside e (path_of path e)) (inside_at places table i)

-- of groups by their numbers, nested as deep as there are of them or deeper
abbrev pub AreGroupSummaries : World → List Entry → Placed → List Summary → List ℕ → Type 0
AreGroupSummaries w es p table groups =
    (path : List ℕ) (g n : ℕ) (s : Summary) → has groups g ≡ true → length groups ≤ n
    → slice_get table (bin_count + g) ≡ Some s
    → IsSummary w path (contents_at n es p.orders path (Some (bin_count + g))) s

-- of each bin from one on
abbrev pub AreBinSummaries : World → ℕ → List Forest → List Summary → Type 0
AreBinSummaries w b [] [] = Unit {0}
AreBinSummaries w b (f ∷ fs) [] = ⊥
AreBinSummaries w b [] (s ∷ ss) = ⊥
AreBinSummaries w b (f ∷ fs) (s ∷ ss) =
    IsSummary w (bin_name b) f s × AreBinSummaries w (b + 1) fs ss

-- ---- whatever the world is in which names have these meanings

abbrev pub Meanings : Type 0
Meanings = List (Result Meaning ScopeFault)

abbrev pub IsEntrySummary : Result Meaning ScopeFault → Entry → Option Summary → Summary → Type 0
IsEntrySummary m e inside s =
    (w : World) (path : List ℕ) (f : Forest) → m ≡ meaning w e
    → IsInside w (path_of path e) f inside → IsSummary w path (Then e (path_of path e) f Done) s

-- of an entry by its number
abbrev pub IsNumberSummary : Meanings → List Entry → ℕ → Option Summary → Summary → Type 0
IsNumberSummary meanings es number inside s =
    (w : World) (path : List ℕ) (e : Entry) (f : Forest) → meanings ≡ map (meaning w) es
    → slice_get es number ≡ Some e → IsInside w (path_of path e) f inside
    → IsSummary w path (Then e (path_of path e) f Done) s

-- of the entries of a place, by what is known of places
abbrev pub IsPlaceSummary : Meanings → List Entry → Placed → List Summary → ℕ → Summary → Type 0
IsPlaceSummary meanings es p table place s =
    (w : World) (path : List ℕ) (inside : Entry → List ℕ → Forest) → meanings ≡ map (meaning w) es
    → AreInside w es p.inside table path inside (numbers_at p place)
    → IsSummary w path (row_of inside path (entries_of es (numbers_at p place))) s

-- of all groups
abbrev pub AreOfGroups : Meanings → List Entry → Placed → List Summary → Type 0
AreOfGroups meanings es p table = (w : World) → meanings ≡ map (meaning w) es
    → AreGroupSummaries w es p table p.nested

-- of all bins
abbrev pub AreOfBins : Meanings → List Entry → Placed → List Summary → Type 0
AreOfBins meanings es p bins = (w : World) → meanings ≡ map (meaning w) es
    → AreBinSummaries w 0 (forests_in es p) bins
