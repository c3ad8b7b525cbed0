-- What is known of the entries of places.
use Rattle.std.proofs.Common.{◌≡◌, ◌⊎◌, inl, inr, refl, sym, ◌∙◌, ap, subst, ℕ, zero, suc, ◌+◌, ◌-◌, ◌<◌, ◌≤◌, Bool, true, false, eqb, eqb-true, ltb, if◌then◌else◌, List, [], ◌∷◌, ◌++◌, map, length, get_or, set, drop, Option, Some, None, option_map, Result, add-zero, zero-add, arith}
use Rattle.std.specs.List.{filter_map, position, slice_get, list_any, cons_option, range_with_len}
use Rattle.cx_plan.specs.Lookups.{bin_name}
use Rattle.std.specs.Option.{option_and_then}
use Rattle.std.proofs.lemmas.Bool.{and_from, eqb-false}
use Rattle.std.proofs.lemmas.List.{get_or-set_same, get_or-set_other, length-set, length-map, drop_more, drop_all}
use Rattle.std.proofs.lemmas.Option.{slice_get-map, slice_get_cases, slice_get_within, slice_get-get_or, get_or_from_slice_get}
use Rattle.cx_text.specs.Lexemes.{same_name}
use Rattle.cx_order_entries.specs.declared.placement.Placed.{Placed}
use Rattle.cx_order.specs.declared.summary.Summary.{Summary}
use Rattle.cx_order_entries.specs.Counted.{Entry}
use Rattle.cx_order_entries.specs.Entries.{Bin, Group, entries_at, is_group}
use Rattle.cx_order_least.specs.Links.{has, row}
use Rattle.cx_scope.specs.declared.fault.ScopeFault.{ScopeFault}
use Rattle.cx_order.specs.declared.meaning.Meaning.{Meaning}
use Rattle.cx_order.specs.Meanings.{World, meaning}
use Rattle.cx_order_entries.specs.Members.{entries_of}
use Rattle.cx_order_entries.specs.Placement.{IsPlaced, contained, name_of_group, group_inside}
use Rattle.cx_order_entries.specs.PlaceNumbers.{group_names, group_number, place, place_count, orders_by}
use Rattle.cx_plan.specs.Lookups.{bin_count}
use Rattle.cx_order_least.specs.Orders.{IsOrder, numbers}
use Rattle.cx_order.specs.Plans.{Forest, Done, Then, path_of, row_of, contents, bin_forest, forests}
use Rattle.cx_order.specs.Summaries.{IsSummary, IsInside, numbers_at, inside_at, AreInside, AreGroupSummaries, AreBinSummaries}
use Rattle.std.proofs.lemmas.List.Quantifiers.{position-Some}
use Rattle.cx_order.specs.PlanSteps.{inside_of, contents_at}
use Rattle.cx_order.proofs.MemberLaws.{bin_contents, group_contents, members_ordered}
use Rattle.cx_order_least.proofs.Nestings.{has-later, whole-length, whole-has, at-below, order-behind}
use Rattle.cx_order_least.proofs.Rest.{same_or_not}
use Rattle.cx_order_least.proofs.CandidateLaws.{has-first, has-All}
use Rattle.cx_scope.proofs.ReachLaws.{or-left, or-right, or-cases}
use Rattle.std.proofs.lemmas.Bool.Decides.{nat_tests}

some-same : {X : Type 0} {x y : X} → Some x ≡ Some y → x ≡ y
some-same {X} {x} {y} e = cc

-- ---- entries by their numbers

pub within-some : (es : List Entry) (i : ℕ) → i < length es
    → (e : Entry) × (slice_get es i ≡ Some e)
within-some es i h = elim (slice_get_cases es i).1 [
  | inl there ↦ (there.0, there.2)
  | inr past ↦ (let far = past.0 in absurd (let no : ⊥ = omega (arith, h, far) in no))
]

get-has : (xs : List ℕ) (j i : ℕ) → slice_get xs j ≡ Some i → has xs i ≡ true
get-has [] j i e = absurd (cc)
get-has (x ∷ xs) zero i e = let P : ℕ → Type 0 = λ m. has (x ∷ xs) m ≡ true in
    subst P (some-same e) (has-first x xs)
get-has (x ∷ xs) (suc j) i e = has-later x xs i (get-has xs j i e)

numbers-has : (is js : List ℕ) (i : ℕ) → has (filter_map (λ j. slice_get is j) js) i ≡ true
    → has is i ≡ true
numbers-has is [] i there = absurd (cc)
numbers-has is (j ∷ js) i there = by_option (numbers-has is js i) (slice_get is j) refl there
  where
    by_option : (has (filter_map (λ j. slice_get is j) js) i ≡ true → has is i ≡ true)
        → (o : Option ℕ) → slice_get is j ≡ o
        → has (cons_option o (filter_map (λ j. slice_get is j) js)) i ≡ true → has is i ≡ true
    by_option rest None e h = rest h
    by_option rest (Some k) e h =
        elim (or-cases (eqb k i) (has (filter_map (λ j. slice_get is j) js) i) h) [
          | inl same ↦ (let P : ℕ → Type 0 = λ m. has is m ≡ true in
              subst P (eqb-true k i same) (get-has is j k e))
          | inr later ↦ rest later
        ]

any-numbered : (es : List Entry) (test : Entry → Bool) (is : List ℕ) (i : ℕ) (e : Entry)
    → has is i ≡ true → slice_get es i ≡ Some e → test e ≡ true
    → list_any test (entries_of es is) ≡ true
any-numbered es test [] i e there at passes = absurd (cc)
any-numbered es test (k ∷ ks) i e there at passes = elim (or-cases (eqb k i) (has ks i) there) [
  | inl same ↦ (let P : Option Entry
      → Type 0 = λ o. list_any test (cons_option o (entries_of es ks)) ≡ true in
      let at-k : slice_get es k ≡ Some e = ap (slice_get es) (eqb-true k i same) ∙ at in
      subst P (sym at-k) (or-left (test e) (list_any test (entries_of es ks)) passes))
  | inr later ↦ any-cons test (slice_get es k) (entries_of es ks)
      (any-numbered es test ks i e later at passes)
]
  where
    any-cons : (test : Entry → Bool) (o : Option Entry) (rest : List Entry)
        → list_any test rest ≡ true → list_any test (cons_option o rest) ≡ true
    any-cons test None rest h = h
    any-cons test (Some x) rest h = or-right (test x) (list_any test rest) h

-- ---- summaries by places

summary-at : (table : List Summary) (k : ℕ) → k < length table
    → (s : Summary) × (slice_get table k ≡ Some s)
summary-at table k h = elim (slice_get_cases table k).1 [
  | inl there ↦ (there.0, there.2)
  | inr past ↦ (let far = past.0 in absurd (let no : ⊥ = omega (arith, h, far) in no))
]

set-here : (table : List Summary) (k : ℕ) (s t : Summary) → slice_get (set table k s) k ≡ Some t
    → s ≡ t
set-here table k s t at =
    let within = slice_get_within (set table k s) k t at in
    sym (get_or-set_same table k s t (omega (arith, within, length-set table k s)))
    ∙ get_or_from_slice_get (set table k s) k t t at

set-other : (table : List Summary) (k j : ℕ) (s t : Summary) → (j ≡ k → ⊥)
    → slice_get (set table k s) j ≡ Some t → slice_get table j ≡ Some t
set-other table k j s t other at =
    let within = slice_get_within (set table k s) j t at in
    slice_get-get_or table j t (omega (arith, within, length-set table k s))
    ∙ ap (λ (u : Summary). Some u)
    (sym (get_or-set_other table k j s t other)
    ∙ get_or_from_slice_get (set table k s) j t t at)

-- ---- one entry more in front

pub row-step : (w : World) (es : List Entry) (path : List ℕ) (inside : Entry → List ℕ → Forest)
    (numbers rest : List ℕ) (i : ℕ) (e : Entry) (s : Summary) → numbers ≡ i ∷ rest
    → slice_get es i ≡ Some e
    → IsSummary w path (Then e (path_of path e) (inside e (path_of path e))
    (row_of inside path (entries_of es rest))) s
    → IsSummary w path (row_of inside path (entries_of es numbers)) s
row-step w es path inside numbers rest i e s first at is =
    let P : List ℕ → Type 0 = λ ns. IsSummary w path (row_of inside path (entries_of es ns)) s in
    let Q : Option Entry → Type 0 =
    λ o. IsSummary w path (row_of inside path (cons_option o (entries_of es rest))) s in
    subst P (sym first) (subst Q (sym at) is)

-- ---- places

pub place-group : (es : List Entry) (g : ℕ) → place es (bin_count + g) ≡ Group (name_of_group es g)
place-group es g =
    let above : ltb (bin_count + g) bin_count ≡ false = grind (arith, nat_tests) in
    let back : (bin_count + g) - bin_count ≡ g = omega arith in
    ap (λ (t : Bool). if t then Bin (bin_count + g)
    else Group (get_or (group_names es) ((bin_count + g) - bin_count) [])) above
    ∙ ap (λ (k : ℕ). Group (get_or (group_names es) k [])) back

no-contents : (n : ℕ) (es : List Entry) (rows : List (List ℕ)) (path : List ℕ)
    → contents_at n es rows path None ≡ Done
no-contents zero es rows path = refl
no-contents (suc n) es rows path = refl

module _ (es : List Entry) (p : Placed) (placed : IsPlaced es p) (groups : List ℕ)
    (all : groups ≡ p.nested) where
  pub as-many : bin_count + length groups ≡ place_count es
  as-many = let l = whole-length (group_inside es) (length (group_names es))
      p.nested placed.nested in omega (arith, l, ap length all)

  -- the place of a group that stands before one in the order
  pub place-below : (at : ℕ) → 0 < at → at ≤ length groups
      → bin_count + get_or groups (at - 1) 0 < place_count es
  place-below at low high =
      let O : List ℕ → Type 0 =
      λ ns. IsOrder (group_inside es) (numbers (length (group_names es))) ns in
      let below = at-below (group_inside es) (length (group_names es)) groups (at - 1)
      (subst O (sym all) placed.nested) (omega (arith, low, high)) in
      omega (arith, below)

module _ (w : World) (es : List Entry) (p : Placed) (placed : IsPlaced es p) where
  abbrev rows : List (List ℕ)
  rows = p.orders

  abbrev inside : ℕ → Entry → List ℕ → Forest
  inside n = inside_of n es (orders_by es rows)

  contained-at : (i : ℕ) (e : Entry) → slice_get es i ≡ Some e
      → slice_get p.inside i ≡ Some (contained es e)
  contained-at i e at = ap (λ (places : List (Option ℕ)). slice_get places i) placed.inside
      ∙ slice_get-map (contained es) es i ∙ ap (option_map (contained es)) at

  -- the contents of an entry, where its group is known
  known-inside : (table : List Summary) (xs : List ℕ) (n : ℕ) (path : List ℕ) (i : ℕ) (e : Entry)
      → length table ≡ place_count es → AreGroupSummaries w es p table xs → length xs ≤ n
      → slice_get es i ≡ Some e
      → ((h : ℕ) → e.block.group ≡ true
      → position (same_name e.block.name) (group_names es) ≡ Some h → has xs h ≡ true)
      → IsInside w path (inside n e path) (inside_at p.inside table i)
  known-inside table xs n path i e size groups deep at reached =
      let P : Option (Option ℕ)
      → Type 0 = λ o. IsInside w path (inside n e path)
      (option_and_then (λ (place : Option ℕ). option_and_then (slice_get table) place) o) in
      subst P (sym (contained-at i e at)) (by_group e.block.group refl)
    where
      by_number : (o : Option ℕ) → e.block.group ≡ true
          → position (same_name e.block.name) (group_names es) ≡ o
          → IsInside w path (contents_at n es rows path (option_map (λ k. bin_count + k) o))
          (option_and_then (slice_get table) (option_map (λ k. bin_count + k) o))
      by_number None is none = no-contents n es rows path
      by_number (Some h) is some =
          let below = (position-Some (same_name e.block.name) (group_names es) h [] some).0 in
          let there = summary-at table (bin_count + h) (omega (arith, size, below)) in
          let P : Option Summary
          → Type 0 = λ o. IsInside w path (contents_at n es rows path (Some (bin_count + h)))
          o in
          subst P (sym there.1) (groups path h n there.0 (reached h is some) deep there.1)

      by_group : (t : Bool) → e.block.group ≡ t
          → IsInside w path (inside n e path) (option_and_then (slice_get table) (contained es e))
      by_group false is =
          let P : Bool → Type 0 =
          λ t. IsInside w path (if t
          then contents n es (orders_by es rows) path (Group e.block.name) else Done)
          (option_and_then (slice_get table) (if t then group_number es e.block.name else None))
          in
          subst P (sym is) refl
      by_group true is =
          let P : Bool → Type 0 =
          λ t. IsInside w path (contents_at n es rows path
          (if t then group_number es e.block.name else None))
          (option_and_then (slice_get table) (if t then group_number es e.block.name else None))
          in
          let Q : Forest → Type 0 =
          λ f. IsInside w path f (option_and_then (slice_get table) (contained es e)) in
          subst Q (group_contents es rows n path e is)
          (subst P (sym is) (by_number (position (same_name e.block.name) (group_names es))
          is refl))

  -- an entry of a group is inside it
  is-inside : (x h i : ℕ) (e : Entry) → x < length (group_names es)
      → has (numbers_at p (bin_count + x)) i ≡ true → slice_get es i ≡ Some e → e.block.group ≡ true
      → same_name e.block.name (name_of_group es h) ≡ true → group_inside es x h ≡ true
  is-inside x h i e below there at group named =
      let members : entries_of es (row p.members (bin_count + x))
      ≡ entries_at es (Group (name_of_group es x)) =
      placed.members (bin_count + x) (omega (arith, below))
      ∙ ap (entries_at es) (place-group es x) in
      ap (list_any (is_group (name_of_group es h))) (sym members)
      ∙ any-numbered es (is_group (name_of_group es h)) (row p.members (bin_count + x)) i e
      (numbers-has (row p.members (bin_count + x)) (row rows (bin_count + x)) i there) at
      (and_from e.block.group (same_name e.block.name (name_of_group es h)) group named)

  -- a row of entries, each of which is known
  abbrev IsRow : List Summary → ℕ → Summary → Type 0
  IsRow table k s = (path : List ℕ) (inside : Entry → List ℕ → Forest)
      → AreInside w es p.inside table path inside (numbers_at p k)
      → IsSummary w path (row_of inside path (entries_of es (numbers_at p k))) s

  module _ (table : List Summary) (x : ℕ) (xs : List ℕ) (s : Summary)
      (size : length table ≡ place_count es) (below : x < length (group_names es))
      (behind : (h : ℕ) → group_inside es x h ≡ true → h < length (group_names es)
      → has xs h ≡ true) (groups : AreGroupSummaries w es p table xs)
      (known : IsRow table (bin_count + x) s) where
    here : (path : List ℕ) (n : ℕ) → length xs ≤ n
        → IsSummary w path (contents_at (suc n) es rows path (Some (bin_count + x))) s
    here path n deep =
        let P : List Entry → Type 0 = λ row. IsSummary w path (row_of (inside n) path row) s in
        subst P (members_ordered es p (bin_count + x) (numbers_at p (bin_count + x)) placed
        (omega (arith, below)) refl)
        (known path (inside n)
        (λ i e there at. known-inside table xs n (path_of path e) i e size groups deep at
        (λ h group found. let its =
        position-Some (same_name e.block.name) (group_names es) h [] found in
        behind h (is-inside x h i e below there at group its.1) its.0)))

    deep-enough : (path : List ℕ) (n : ℕ) → length (x ∷ xs) ≤ n
        → IsSummary w path (contents_at n es rows path (Some (bin_count + x))) s
    deep-enough path zero deep = absurd (let no : ⊥ = omega (arith, deep) in no)
    deep-enough path (suc n) deep = here path n (omega (arith, deep))

    pub group-step : AreGroupSummaries w es p (set table (bin_count + x) s) (x ∷ xs)
    group-step = λ path g n t there deep at. elim (same_or_not g x) [
      | inl same ↦ (let P : ℕ
          → Type 0 = λ m. slice_get (set table (bin_count + x) s) (bin_count + m) ≡ Some t in
          let is : s ≡ t = set-here table (bin_count + x) s t (subst P same at) in
          let Q : ℕ → Type 0 = λ m.
          IsSummary w path (contents_at n es rows path (Some (bin_count + m))) t in
          let R : Summary → Type 0 =
          λ u. IsSummary w path (contents_at n es rows path (Some (bin_count + x))) u in
          subst Q (sym same) (subst R is (deep-enough path n deep)))
      | inr other ↦ (let differ = eqb-false g x other in
          groups path g n t (later g other there) (omega (arith, deep))
          (set-other table (bin_count + x) (bin_count + g) s t
          (λ e. differ (let same : g ≡ x = omega (arith, e) in same)) at))
    ]
      where
        later : (g : ℕ) → eqb g x ≡ false → has (x ∷ xs) g ≡ true → has xs g ≡ true
        later g other there = elim (or-cases (eqb x g) (has xs g) there) [
          | inl e ↦ absurd (eqb-false g x other (sym (eqb-true x g e)))
          | inr h ↦ h
        ]

  -- the group before a place in the order
  pub group-next : (table : List Summary) (groups : List ℕ) (at : ℕ) (s : Summary)
      → length table ≡ place_count es → groups ≡ p.nested → 0 < at → at ≤ length groups
      → AreGroupSummaries w es p table (drop at p.nested)
      → IsRow table (bin_count + get_or groups (at - 1) 0) s
      → AreGroupSummaries w es p (set table (bin_count + get_or groups (at - 1) 0) s)
      (drop (at - 1) p.nested)
  group-next table groups at s size all low high known row =
      let count = length (group_names es) in
      let x = get_or groups (at - 1) 0 in
      let same : (at - 1) + 1 ≡ at = omega (arith, low) in
      let within : at - 1 < length groups = omega (arith, low, high) in
      let parts : drop (at - 1) p.nested ≡ x ∷ drop at p.nested =
      ap (drop (at - 1)) (sym all) ∙ drop_more groups (at - 1) 0 within
      ∙ ap (λ (k : ℕ). x ∷ drop k groups) same ∙ ap (λ (ns : List ℕ). x ∷ drop at ns) all in
      let O : List ℕ → Type 0 = λ ns. IsOrder (group_inside es) (numbers count) ns in
      let below = at-below (group_inside es) count groups (at - 1) (subst O (sym all) placed.nested)
      within in
      let G : List ℕ → Type 0 = λ ns. AreGroupSummaries w es p (set table (bin_count + x) s) ns in
      subst G (sym parts)
      (group-step table x (drop at p.nested) s size below
      (order-behind (group_inside es) count p.nested (drop at p.nested) (at - 1)
      x placed.nested parts) known row)

  pub no-groups : (table : List Summary) (i : ℕ) → length p.nested ≤ i
      → AreGroupSummaries w es p table (drop i p.nested)
  no-groups table i past =
      let G : List ℕ → Type 0 = λ ns. AreGroupSummaries w es p table ns in
      subst G (sym (drop_all i p.nested past)) (λ path g n s there deep at. absurd (cc))

  -- the bins stand around all groups
  pub bin-known : (table : List Summary) (b : ℕ) (s : Summary) → length table ≡ place_count es
      → b < bin_count → AreGroupSummaries w es p table p.nested → IsRow table b s
      → IsSummary w (bin_name b) (bin_forest es (orders_by es rows) b) s
  bin-known table b s size below groups known =
      let count = length (group_names es) in
      let fuel : place_count es ≡ suc (16 + count) = omega arith in
      let deep : length p.nested ≤ 16 + count =
      (let l = whole-length (group_inside es) count p.nested placed.nested in omega (arith, l))
      in
      let P : ℕ → Type 0 = λ n.
      IsSummary w (bin_name b) (contents n es (orders_by es rows) (bin_name b) (Bin b)) s in
      let Q : Forest → Type 0 = λ f. IsSummary w (bin_name b) f s in
      let R : List Entry → Type 0 =
      λ row. IsSummary w (bin_name b) (row_of (inside (16 + count)) (bin_name b) row) s in
      subst P (sym fuel)
      (subst Q (sym (bin_contents es rows (suc (16 + count)) (bin_name b) b below))
      (subst R (members_ordered es p b (numbers_at p b) placed (omega (arith, below)) refl)
      (known (bin_name b) (inside (16 + count))
      (λ i e there at. known-inside table p.nested (16 + count) (path_of (bin_name b) e)
      i e size groups deep at
      (λ h group found. whole-has (group_inside es) count p.nested placed.nested h
      (position-Some (same_name e.block.name) (group_names es) h [] found).0)))))

-- ---- all bins

are-bins : (w : World) (forest : ℕ → Forest) (n from : ℕ) (ss : List Summary) → length ss ≡ n
    → ((j : ℕ) (s : Summary) → slice_get ss j ≡ Some s
    → IsSummary w (bin_name (from + j)) (forest (from + j)) s)
    → AreBinSummaries w from (map forest (range_with_len from n)) ss
are-bins w forest zero from [] size each = tt
are-bins w forest zero from (s ∷ ss) size each = absurd (let no : ⊥ = omega (arith, size) in no)
are-bins w forest (suc n) from [] size each = absurd (let no : ⊥ = omega (arith, size) in no)
are-bins w forest (suc n) from (s ∷ ss) size each = (
  let P : ℕ → Type 0 = λ b. IsSummary w (bin_name b) (forest b) s in
      subst P (add-zero from) (each 0 s refl),
  are-bins w forest n (from + 1) ss (omega (arith, size))
      (λ j t at. let P : ℕ → Type 0 = λ b. IsSummary w (bin_name b) (forest b) t in
      subst P (let same : from + suc j ≡ (from + 1) + j = omega arith in same)
      (each (suc j) t at)),
)

pub all-bins : (w : World) (es : List Entry) (rows : List (List ℕ)) (ss : List Summary)
    → length ss ≡ bin_count
    → ((b : ℕ) (s : Summary) → slice_get ss b ≡ Some s
    → IsSummary w (bin_name b) (bin_forest es (orders_by es rows) b) s)
    → AreBinSummaries w 0 (forests es (orders_by es rows)) ss
all-bins w es rows ss size each =
    are-bins w (bin_forest es (orders_by es rows)) bin_count 0 ss size
    (λ j s at. let P : ℕ → Type 0 =
    λ b. IsSummary w (bin_name b) (bin_forest es (orders_by es rows) b) s in
    subst P (sym (zero-add j)) (each j s at))

-- ---- what is lent, at a number

pub mapped-at : {A B : Type 0} (f : A → B) (xs : List A) (i : ℕ) (x : A) (y : B) → x ≡ get_or xs i x
    → slice_get (map f xs) i ≡ Some y → f x ≡ y
mapped-at f xs i x y is at =
    let within = slice_get_within (map f xs) i y at in
    let there : slice_get xs i ≡ Some (get_or xs i x) =
    slice_get-get_or xs i x (omega (arith, within, length-map xs f)) in
    ap f is ∙ some-same (sym (ap (option_map f) there) ∙ sym (slice_get-map f xs i) ∙ at)

pub meaning-at : (w : World) (es : List Entry) (ms : List (Result Meaning ScopeFault)) (i : ℕ)
    (m : Result Meaning ScopeFault) (e : Entry) → ms ≡ map (meaning w) es → m ≡ get_or ms i m
    → slice_get es i ≡ Some e → m ≡ meaning w e
meaning-at w es ms i m e all is at =
    is ∙ get_or_from_slice_get ms i (meaning w e) m
    (ap (λ (ms : List (Result Meaning ScopeFault)). slice_get ms i) all
    ∙ slice_get-map (meaning w) es i ∙ ap (option_map (meaning w)) at)

pub number-within : (es : List Entry) (p : Placed) (k i : ℕ) → IsPlaced es p
    → has (numbers_at p k) i ≡ true → i < length es
number-within es p k i placed there =
    has-All (λ i. i < length es) (row p.members k) i (placed.within k)
    (numbers-has (row p.members k) (row p.orders k) i there)

pub has-read : (xs : List ℕ) (j i : ℕ) → j < length xs → i ≡ get_or xs j i → has xs i ≡ true
has-read xs j i h is = get-has xs j i (slice_get-get_or xs j i h ∙ ap (λ (k : ℕ). Some k) (sym is))

-- one entry before those from a place on
pub row-before : (w : World) (es : List Entry) (path : List ℕ) (inside : Entry → List ℕ → Forest)
    (xs : List ℕ) (at i : ℕ) (e : Entry) (first rest all : Summary) → 0 < at → at ≤ length xs
    → i ≡ get_or xs (at - 1) i → slice_get es i ≡ Some e
    → ((inner : List ℕ) (within behind : Forest) → IsSummary w path (Then e inner within Done) first
    → IsSummary w path behind rest → IsSummary w path (Then e inner within behind) all)
    → IsSummary w path (Then e (path_of path e) (inside e (path_of path e)) Done) first
    → IsSummary w path (row_of inside path (entries_of es (drop at xs))) rest
    → IsSummary w path (row_of inside path (entries_of es (drop (at - 1) xs))) all
row-before w es path inside xs at i e first rest all low high is there joined one others =
    let same : (at - 1) + 1 ≡ at = omega (arith, low) in
    let parts : drop (at - 1) xs ≡ i ∷ drop at xs =
    drop_more xs (at - 1) i (omega (arith, low, high))
    ∙ ap (λ (k : ℕ). k ∷ drop ((at - 1) + 1) xs) (sym is)
    ∙ ap (λ (k : ℕ). i ∷ drop k xs) same in
    row-step w es path inside (drop (at - 1) xs) (drop at xs) i e all parts there
    (joined (path_of path e) (inside e (path_of path e))
    (row_of inside path (entries_of es (drop at xs))) one others)

-- the number before a place in a list
pub before-has : (xs : List ℕ) (at count i : ℕ) → 0 < at → at ≤ count → count ≡ length xs
    → i ≡ get_or xs (at - 1) i → has xs i ≡ true
before-has xs at count i low high size is =
    has-read xs (at - 1) i (omega (arith, low, high, size)) is

pub before-within : (es : List Entry) (p : Placed) (k : ℕ) (xs : List ℕ) (at count i : ℕ)
    → IsPlaced es p → xs ≡ numbers_at p k → 0 < at → at ≤ count → count ≡ length xs
    → i ≡ get_or xs (at - 1) i → i < length es
before-within es p k xs at count i placed all low high size is =
    let P : List ℕ → Type 0 = λ numbers. has numbers i ≡ true in
    number-within es p k i placed (subst P all (before-has xs at count i low high size is))

pub get-push : (ss : List Summary) (x s : Summary) (b : ℕ) → slice_get (ss ++ x ∷ []) b ≡ Some s
    → (slice_get ss b ≡ Some s) ⊎ ((b ≡ length ss) × (x ≡ s))
get-push [] x s zero at = inr (refl, some-same at)
get-push [] x s (suc b) at = absurd (cc)
get-push (t ∷ ts) x s zero at = inl at
get-push (t ∷ ts) x s (suc b) at = elim (get-push ts x s b at) [
  | inl there ↦ inl there
  | inr last ↦ inr (let same = last.0 in omega (arith, same), last.1)
]

-- ---- the loop over groups

pub record Turn (ms : List (Result Meaning ScopeFault)) (es : List Entry) (p : Placed)
    (table : List Summary) (groups : List ℕ) : Type 0 where
  pub size : length table ≡ place_count es
  pub known : (w : World) → ms ≡ map (meaning w) es → AreGroupSummaries w es p table groups

pub next-turn : (ms : List (Result Meaning ScopeFault)) (es : List Entry) (p : Placed)
    (table lent : List Summary) (groups : List ℕ) (at : ℕ) (s : Summary) → IsPlaced es p
    → groups ≡ p.nested → 0 < at → at ≤ length groups → lent ≡ table
    → Turn ms es p table (drop at p.nested)
    → ((w : World) (path : List ℕ) (inside : Entry → List ℕ → Forest) → ms ≡ map (meaning w) es
    → AreInside w es p.inside lent path inside
    (numbers_at p (bin_count + get_or groups (at - 1) 0))
    → IsSummary w path (row_of inside path
    (entries_of es (numbers_at p (bin_count + get_or groups (at - 1) 0)))) s)
    → Turn ms es p (set table (bin_count + get_or groups (at - 1) 0) s) (drop (at - 1) p.nested)
next-turn ms es p table lent groups at s placed all low high same t row =
    let place = bin_count + get_or groups (at - 1) 0 in
    record {
      size = length-set table place s ∙ t.size;
      known =
          λ w told.
          group-next w es p placed table groups at s t.size all low high (t.known w told)
          (λ path inside known. let I : List Summary
          → Type 0 = λ table. AreInside w es p.inside table path inside (numbers_at p place) in
          row w path inside told (subst I (sym same) known));
    }
