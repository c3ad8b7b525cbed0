-- The entries of a place in order, by its number.
use Rattle.std.proofs.Common.{◌≡◌, refl, sym, ◌∙◌, ap, subst, ℕ, zero, suc, ◌+◌, ◌-◌, ◌<◌, Bool, true, false, List, [], ◌∷◌, map, filter, length, get_or, Option, Some, None, if◌then◌else◌, arith, lt-ltb, ltb}
use Rattle.std.specs.Prelude.{All, IfSome}
use Rattle.std.specs.Char.{to_ascii_lowercase}
use Rattle.std.specs.List.{filter_map, cons_option, slice_get, position}
use Rattle.std.specs.Option.{option_map}
use Rattle.std.specs.Str.{bytes_eq}
use Rattle.std.proofs.Math.Path.{fun_ext}
use Rattle.std.proofs.lemmas.Option.{slice_get_within, get_or_from_slice_get}
use Rattle.std.proofs.lemmas.List.Quantifiers.{position-Some}
use Rattle.std.proofs.lemmas.Slice.Eq.{bytes_eq-Decides}
use Rattle.cx_text.specs.Lexemes.{same_name}
use Rattle.cx_sched.specs.declared.tree.Spot.{Spot}
use Rattle.cx_sched.specs.declared.tree.Spot.TheVariants.{At, Inside}
use Rattle.cx_order_entries.specs.declared.placement.Placed.{Placed}
use Rattle.cx_order_entries.specs.Counted.{Entry}
use Rattle.cx_order_entries.specs.Entries.{Bin, Group, stands_at, entries_at}
use Rattle.cx_order_least.specs.Links.{row}
use Rattle.cx_order_entries.specs.PlaceNumbers.{group_names, group_number, place, place_count, row_or_none, orders_by}
use Rattle.cx_plan.specs.Lookups.{bin_count}
use Rattle.cx_order_entries.specs.Members.{entries_of}
use Rattle.cx_order_entries.specs.Placement.{IsPlaced, contained}
use Rattle.cx_order.specs.Plans.{Done, in_order, contents}
use Rattle.cx_order.specs.PlanSteps.{ordered, inside_of, row_with, contents_at}

-- ---- elements by number

module _ {X : Type 0} (xs : List X) where
  abbrev at : Option ℕ → Option X
  at None = None
  at (Some i) = slice_get xs i

  abbrev those : List ℕ → List X
  those ks = filter_map (λ k. slice_get xs k) ks

  tail_within : (m : ℕ) (ms : List ℕ) → All (λ i. i < length xs) (m ∷ ms)
      → All (λ i. i < length xs) ms
  tail_within m ms all k d h = all (suc k) d (omega arith)

  missing : (ys : List X) (i : ℕ) → i < length ys → slice_get ys i ≡ None → ⊥
  missing [] i h none = absurd (omega arith)
  missing (y ∷ ys) zero h none = absurd (cc none)
  missing (y ∷ ys) (suc i) h none = missing ys i (omega arith) none

  by_place : (m : ℕ) (ms : List ℕ) (x : X)
      → ((k : ℕ) → slice_get (those ms) k ≡ at (slice_get ms k)) → slice_get xs m ≡ Some x → (k : ℕ)
      → slice_get (x ∷ those ms) k ≡ at (slice_get (m ∷ ms) k)
  by_place m ms x rest is zero = sym is
  by_place m ms x rest is (suc k) = rest k

  by_first : (m : ℕ) (ms : List ℕ) (o : Option X) → m < length xs
      → ((k : ℕ) → slice_get (those ms) k ≡ at (slice_get ms k)) → slice_get xs m ≡ o → (k : ℕ)
      → slice_get (cons_option (slice_get xs m) (those ms)) k ≡ at (slice_get (m ∷ ms) k)
  by_first m ms None h rest is k = absurd (missing xs m h is)
  by_first m ms (Some x) h rest is k =
      ap (λ (o : Option X). slice_get (cons_option o (those ms)) k) is ∙ by_place m ms x rest is k

  got : (ms : List ℕ) → All (λ i. i < length xs) ms → (k : ℕ)
      → slice_get (those ms) k ≡ at (slice_get ms k)
  got [] all k = refl
  got (m ∷ ms) all k = by_first m ms (slice_get xs m) (all 0 m (omega arith))
      (got ms (tail_within m ms all)) refl k

  cons_at : (o : Option ℕ) (ks : List ℕ) → those (cons_option o ks) ≡ cons_option (at o) (those ks)
  cons_at None ks = refl
  cons_at (Some k) ks = refl

  pub those_picked : (ms ks : List ℕ) → All (λ i. i < length xs) ms
      → those (filter_map (λ k. slice_get ms k) ks) ≡ filter_map (λ k. slice_get (those ms) k) ks
  those_picked ms [] all = refl
  those_picked ms (k ∷ ks) all =
      cons_at (slice_get ms k) (filter_map (λ k. slice_get ms k) ks)
      ∙ (ap (λ rest. cons_option (at (slice_get ms k)) rest) (those_picked ms ks all)
      ∙ ap (λ o. cons_option o (filter_map (λ k. slice_get (those ms) k) ks)) (sym (got ms all k)))

all_cons : {X : Type 0} (P : X → Type 0) (x : X) (xs : List X) → P x → All P xs → All P (x ∷ xs)
all_cons P x xs one rest zero d h = one
all_cons P x xs one rest (suc k) d h = rest k d (omega arith)

within_option : (n : ℕ) (ms : List ℕ) (k : ℕ) (rest : List ℕ) (o : Option ℕ) → All (λ i. i < n) ms
    → All (λ i. i < n) rest → slice_get ms k ≡ o → All (λ i. i < n) (cons_option o rest)
within_option n ms k rest None all more is = more
within_option n ms k rest (Some i) all more is =
    let here : i < n = subst (λ j. j < n) (get_or_from_slice_get ms k i i is)
    (all k i (slice_get_within ms k i is)) in
    all_cons (λ i. i < n) i rest here more

pub picked_within : (n : ℕ) (ms ks : List ℕ) → All (λ i. i < n) ms
    → All (λ i. i < n) (filter_map (λ k. slice_get ms k) ks)
picked_within n ms [] all = λ k d h. absurd (omega arith)
picked_within n ms (k ∷ ks) all =
    within_option n ms k (filter_map (λ k. slice_get ms k) ks) (slice_get ms k) all
    (picked_within n ms ks all) refl

-- ---- a group's name in any case

same_low : (a b : List ℕ) → same_name a b ≡ true
    → map to_ascii_lowercase a ≡ map to_ascii_lowercase b
same_low a b h = (bytes_eq-Decides (map to_ascii_lowercase a) (map to_ascii_lowercase b)).0 h

same_stands : (a b : List ℕ) → same_name a b ≡ true → (s : Spot)
    → stands_at (Group a) s ≡ stands_at (Group b) s
same_stands a b h (At name) = refl
same_stands a b h (Inside name) =
    ap (λ l. bytes_eq l (map to_ascii_lowercase name)) (same_low a b h)

same_entries : (es : List Entry) (a b : List ℕ) → same_name a b ≡ true
    → entries_at es (Group a) ≡ entries_at es (Group b)
same_entries es a b h = ap (λ (test : Entry → Bool). filter test es)
    (fun_ext (λ (e : Entry). same_stands a b h e.block.spot))

-- ---- places by number

module _ (es : List Entry) (rows : List (List ℕ)) where
  abbrev G : Option ℕ → List Entry
  G o = ordered es rows (option_map (λ k. bin_count + k) o)

  abbrev L : List ℕ → Option ℕ → List Entry
  L name o = filter_map (λ j. slice_get (entries_at es (Group name)) j)
      (row_or_none rows (option_map (λ k. bin_count + k) o))

  bin_ordered : (b : ℕ) → b < bin_count
      → in_order es (orders_by es rows) (Bin b) ≡ ordered es rows (Some b)
  bin_ordered b h =
      let F : Bool → Type 0 =
      λ t. filter_map (λ j. slice_get (entries_at es (Bin b)) j)
      (row_or_none rows (if t then Some b else None))
      ≡ filter_map (λ j. slice_get
      (entries_at es (if t then Bin b else Group (get_or (group_names es) (b - bin_count) [])))
      j) (row rows b) in
      subst F (sym (lt-ltb b bin_count h)) refl

  group_ordered : (name : List ℕ)
      → in_order es (orders_by es rows) (Group name) ≡ ordered es rows (group_number es name)
  group_ordered name = by_position (position (same_name name) (group_names es)) refl
    where
      past_bins : (j : ℕ) → ltb (bin_count + j) bin_count ≡ false
      past_bins j = grind arith

      is_place : (j : ℕ) → place es (bin_count + j) ≡ Group (get_or (group_names es) j [])
      is_place j =
          let back : (bin_count + j) - bin_count ≡ j = omega arith in
          ap (λ t. if t then Bin (bin_count + j)
          else Group (get_or (group_names es) ((bin_count + j) - bin_count) [])) (past_bins j)
          ∙ ap (λ i. Group (get_or (group_names es) i [])) back

      by_position : (o : Option ℕ) → position (same_name name) (group_names es) ≡ o
          → L name (position (same_name name) (group_names es))
          ≡ G (position (same_name name) (group_names es))
      by_position None is = let F : Option ℕ → Type 0 = λ o. L name o ≡ G o in subst F (sym is) refl
      by_position (Some j) is =
          let F : Option ℕ → Type 0 = λ o. L name o ≡ G o in
          let same : same_name name (get_or (group_names es) j []) ≡ true =
          (position-Some (same_name name) (group_names es) j [] is).1 in
          subst F (sym is)
          (ap (λ (all : List Entry). filter_map (λ i. slice_get all i) (row rows (bin_count + j)))
          (same_entries es name (get_or (group_names es) j []) same
          ∙ ap (entries_at es) (sym (is_place j))))

  pub bin_contents : (n : ℕ) (path : List ℕ) (b : ℕ) → b < bin_count
      → contents n es (orders_by es rows) path (Bin b) ≡ contents_at n es rows path (Some b)
  bin_contents zero path b h = refl
  bin_contents (suc n) path b h = ap (row_with n es (orders_by es rows) path) (bin_ordered b h)

  pub group_contents : (n : ℕ) (path : List ℕ) (e : Entry) → e.block.group ≡ true
      → contents_at n es rows path (contained es e) ≡ inside_of n es (orders_by es rows) e path
  group_contents n path e group =
      ap (λ (g : Bool). contents_at n es rows path
      (if g then group_number es e.block.name else None)) group
      ∙ (by_fuel n
      ∙ ap (λ (g : Bool). if g then contents n es (orders_by es rows) path (Group e.block.name)
      else Done) (sym group))
    where
      by_fuel : (n : ℕ) → contents_at n es rows path (group_number es e.block.name)
          ≡ contents n es (orders_by es rows) path (Group e.block.name)
      by_fuel zero = refl
      by_fuel (suc n) = ap (row_with n es (orders_by es rows) path)
          (sym (group_ordered e.block.name))

pub contained_within : (es : List Entry) (e : Entry) (o : Option ℕ) → o ≡ contained es e
    → IfSome o (λ k. k < place_count es)
contained_within es e o is =
    subst (λ (o : Option ℕ). IfSome o (λ k. k < place_count es)) (sym is) (by_group e.block.group)
  where
    by_position : (o : Option ℕ) → position (same_name e.block.name) (group_names es) ≡ o
        → IfSome (option_map (λ k. bin_count + k) o) (λ k. k < place_count es)
    by_position None is = tt
    by_position (Some j) is =
        let below : j < length (group_names es) =
        (position-Some (same_name e.block.name) (group_names es) j [] is).0 in
        let F : bin_count + j < bin_count + length (group_names es) = omega arith in F

    by_group : (g : Bool) → IfSome (if g then group_number es e.block.name else None)
        (λ k. k < place_count es)
    by_group true = by_position (position (same_name e.block.name) (group_names es)) refl
    by_group false = tt

-- ---- the entries of a place

pub members_ordered : (es : List Entry) (p : Placed) (k : ℕ) (picked : List ℕ) → IsPlaced es p
    → k < place_count es → picked ≡ filter_map (λ j. slice_get (row p.members k) j) (row p.orders k)
    → entries_of es picked ≡ ordered es p.orders (Some k)
members_ordered es p k picked placed within is =
    ap (entries_of es) is
    ∙ (those_picked es (row p.members k) (row p.orders k) (placed.within k)
    ∙ ap (λ (all : List Entry). filter_map (λ j. slice_get all j) (row p.orders k))
    (placed.members k within))

pub members_within : (es : List Entry) (p : Placed) (k n : ℕ) (picked : List ℕ) → IsPlaced es p
    → n ≡ length es → picked ≡ filter_map (λ j. slice_get (row p.members k) j) (row p.orders k)
    → All (λ i. i < n) picked
members_within es p k n picked placed count is =
    let A : List ℕ → Type 0 = λ ks. All (λ i. i < n) ks in
    subst A (sym is) (picked_within n (row p.members k) (row p.orders k)
    (subst (λ m. All (λ i. i < m) (row p.members k)) (sym count) (placed.within k)))
