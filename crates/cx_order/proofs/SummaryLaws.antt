-- What is known of an entry, and of entries behind one another.
use Rattle.std.proofs.Common.{◌≡◌, refl, sym, ◌∙◌, ap, subst, ℕ, ◌+◌, List, [], ◌∷◌, ◌++◌, if◌then◌else◌, Option, Some, None, option_map, Result}
use Rattle.std.specs.Option.{option_or}
use Rattle.cx_plan.specs.Lists.{or_else}
use Rattle.cx_plan.specs.declared.tree.Tree.{Tree, Seq}
use Rattle.cx_scope.specs.declared.fault.ScopeFault.{ScopeFault}
use Rattle.cx_order.specs.declared.fault.OrderFault.{OrderFault}
use Rattle.cx_order.specs.declared.fault.OrderFault.TheVariants.{Scope}
use Rattle.cx_order.specs.declared.meaning.Meaning.{Meaning}
use Rattle.cx_order.specs.declared.summary.Summary.{Summary}
use Rattle.cx_order_entries.specs.Counted.{Entry}
use Rattle.cx_order.specs.Storage.{error_of}
use Rattle.cx_order.specs.Meanings.{World, meaning, meaning_or_none, names_of}
use Rattle.cx_order.specs.Plans.{Forest, Done, Then, forest_fault, trees, calls, wrapped, sync_tree, call_tree}
use Rattle.cx_order.specs.TreeSizes.{AreSizes}
use Rattle.cx_order.specs.Summaries.{told, fault_in, IsSummary, IsInside}

or_else-none : {X : Type 0} (a : Option X) → or_else a None ≡ a
or_else-none None = refl
or_else-none (Some x) = refl

or_else-assoc : {X : Type 0} (a b c : Option X) → or_else (or_else a b) c ≡ or_else a (or_else b c)
or_else-assoc None b c = refl
or_else-assoc (Some x) b c = refl

map-or_else : {X Y : Type 0} (f : X → Y) (a b : Option X)
    → option_map f (or_else a b) ≡ or_else (option_map f a) (option_map f b)
map-or_else f None b = refl
map-or_else f (Some x) b = refl

-- what is told of an entry's contents
pub inside-fault : (w : World) (path : List ℕ) (f : Forest) (inside : Option Summary)
    → IsInside w path f inside → option_map (told path) (fault_in inside) ≡ forest_fault w f
inside-fault w path f None none = ap (forest_fault w) (sym none)
inside-fault w path f (Some s) is = sym is.fault

-- the tree of an entry, by what its names stand for and the trees of its contents
abbrev pub tree_by : Meaning → Entry → List ℕ → ℕ → List Tree → Tree
tree_by m e path k inside =
    wrapped m path (if e.block.group then Seq (inside ++ sync_tree path m.sync)
    else call_tree path m.sync k)

pub one-entry : (w : World) (path inner : List ℕ) (e : Entry) (f : Forest)
    (m : Result Meaning ScopeFault) (s : Summary) (inside : Option Summary) → m ≡ meaning w e
    → ((k : ℕ) → AreSizes (tree_by (meaning_or_none m) e inner k (trees w k f) ∷ []) s.sizes)
    → option_map (told path) s.fault
    ≡ or_else (option_map (λ x. Scope inner x) (error_of m))
    (option_map (told inner) (fault_in inside))
    → IsInside w inner f inside → IsSummary w path (Then e inner f Done) s
one-entry w path inner e f m s inside is sizes fault known =
    record {
      sizes = λ k. let P : Result Meaning ScopeFault
          → Type 0 = λ m. AreSizes (tree_by (meaning_or_none m) e inner k (trees w k f) ∷ [])
          s.sizes in subst P is (sizes k);
      fault =
          ap (λ (o : Option OrderFault).
          or_else (option_map (λ x. Scope inner x) (error_of (meaning w e))) o)
          (or_else-none (forest_fault w f) ∙ sym (inside-fault w inner f inside known))
          ∙ ap (λ (m : Result Meaning ScopeFault).
          or_else (option_map (λ x. Scope inner x) (error_of m))
          (option_map (told inner) (fault_in inside))) (sym is)
          ∙ sym fault;
    }

abbrev own : World → List ℕ → Entry → Option OrderFault
own w inner e = option_map (λ x. Scope inner x) (error_of (meaning w e))

-- an entry and those behind it
pub entry-before : (w : World) (path inner : List ℕ) (e : Entry) (inside behind : Forest)
    (first rest all : Summary)
    → ((tree : Tree) (ts : List Tree) → AreSizes (tree ∷ []) first.sizes → AreSizes ts rest.sizes
    → AreSizes (tree ∷ ts) all.sizes) → all.fault ≡ or_else first.fault rest.fault
    → IsSummary w path (Then e inner inside Done) first → IsSummary w path behind rest
    → IsSummary w path (Then e inner inside behind) all
entry-before w path inner e inside behind first rest all sizes fault f r =
    record {
      sizes = λ k. sizes (tree_by (names_of w e) e inner k (trees w k inside))
          (trees w (k + (if e.block.group then calls inside else 1)) behind) (f.sizes k)
          (r.sizes (k + (if e.block.group then calls inside else 1)));
      fault =
          ap (λ (o : Option OrderFault).
          or_else (own w inner e) (or_else (forest_fault w inside) o)) r.fault
          ∙ ap (λ (o : Option OrderFault).
          or_else (own w inner e) (or_else o (option_map (told path) rest.fault)))
          (sym (or_else-none (forest_fault w inside)))
          ∙ sym (or_else-assoc (own w inner e) (or_else (forest_fault w inside) None)
          (option_map (told path) rest.fault))
          ∙ ap (λ (o : Option OrderFault). or_else o (option_map (told path) rest.fault)) f.fault
          ∙ sym (map-or_else (told path) first.fault rest.fault)
          ∙ ap (option_map (told path)) (sym fault);
    }

pub option_or-else : {X : Type 0} (a b c : Option X) → c ≡ option_or a b → c ≡ or_else a b
option_or-else None b c e = e
option_or-else (Some x) b c e = e
