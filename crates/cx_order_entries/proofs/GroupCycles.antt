-- Cycles of groups by name, and by number.
use Rattle.std.proofs.Common.{◌≡◌, refl, sym, ◌∙◌, ap, subst, ℕ, zero, suc, ◌+◌, ◌<◌, ◌≤◌, Bool, true, false, ◌||◌, ◌&&◌, ltb, ltb-true, ltb-false, List, [], ◌∷◌, ◌++◌, map, filter, filter_map, length, get_or, Option, Some, None, arith}
use Rattle.std.specs.Prelude.{slice_get}
use Rattle.std.specs.List.{list_any, position}
use Rattle.std.specs.Option.{option_map, unwrap_or}
use Rattle.std.proofs.lemmas.Bool.{false≢true, and_parts, and_from}
use Rattle.std.proofs.lemmas.List.Folds.{list_any-append}
use Rattle.std.proofs.lemmas.List.Quantifiers.{position-Some}
use Rattle.std.proofs.lemmas.Option.{slice_get-get_or, slice_get_within}
use Rattle.cx_text.specs.Lexemes.{same_name}
use Rattle.cx_order_entries.specs.Counted.{Entry}
use Rattle.cx_order_entries.specs.Entries.{Group, stands_at, entries_at, is_group}
use Rattle.cx_order_least.specs.Orders.{count, IsOrder, leads, is_cycle, numbers, numbers_from}
use Rattle.cx_order_entries.specs.PlaceNumbers.{inside_name, group_names}
use Rattle.cx_plan.specs.Lookups.{bin_count}
use Rattle.cx_order_entries.specs.Cycles.{is_inside, NoGroupCycle}
use Rattle.cx_order_entries.specs.Nested.{both_inside, contains_at}
use Rattle.cx_order_least.proofs.Counts.{count-first, count-later}
use Rattle.cx_order_least.proofs.NoCycle.{no-cycle}
use Rattle.cx_order_entries.proofs.OnceLaws.{name_same, any-agree}
use Rattle.cx_order_entries.proofs.PlaceLaws.{once-any, none-any, nowhere, filter-agree, same-group}
use Rattle.cx_order_entries.proofs.NestedLaws.{any-filter}

-- ---- cycles carried over

module _ {X Y : Type 0} (before : X → X → Bool) (after : Y → Y → Bool) (f : X → Y)
    (step : (x y : X) → before x y ≡ true → after (f x) (f y) ≡ true) where
  leads-map : (x : X) (ys : List X) (end : X) → leads before x ys end ≡ true
      → leads after (f x) (map f ys) (f end) ≡ true
  leads-map x [] end h = step x end h
  leads-map x (y ∷ ys) end h =
      let parts = and_parts (before x y) (leads before y ys end) h in
      and_from (after (f x) (f y)) (leads after (f y) (map f ys) (f end)) (step x y parts.0)
      (leads-map y ys end parts.1)

  pub cycle-map : (xs : List X) → is_cycle before xs ≡ true → is_cycle after (map f xs) ≡ true
  cycle-map [] h = absurd (false≢true h)
  cycle-map (x ∷ xs) h = leads-map x xs x h

or_no : (a b : Bool) → (a || b) ≡ false → (a ≡ false) × (b ≡ false)
or_no false b e = (refl, e)
or_no true b e = absurd (false≢true (sym e))

and_no : (a b : Bool) → ((a && false) || b) ≡ b
and_no true b = refl
and_no false b = refl

-- ---- numbers in order

pub counted : (a n k : ℕ) → a ≤ k → k < a + n → 0 < count k (numbers_from a n)
counted a zero k low high = absurd (let no : ⊥ = omega (arith, low, high) in no)
counted a (suc n) k low high = by (ltb a k) refl (counted (a + 1) n k)
  where
    by : (t : Bool) → ltb a k ≡ t
        → (a + 1 ≤ k → k < a + 1 + n → 0 < count k (numbers_from (a + 1) n))
        → 0 < count k (a ∷ numbers_from (a + 1) n)
    by true e rest = let l = ltb-true a k e in
        count-later a k (numbers_from (a + 1) n) (rest (omega (arith, l)) (omega (arith, high)))
    by false e rest =
        let l = ltb-false a k e in
        let same : a ≡ k = omega (arith, low, l) in
        let C : ℕ → Type 0 = λ j. 0 < count j (a ∷ numbers_from (a + 1) n) in
        subst C same (let f = count-first a (numbers_from (a + 1) n) in omega (arith, f))

module _ (es : List Entry) where
  abbrev number : List ℕ → ℕ
  number name = unwrap_or (position (same_name name) (group_names es)) 0

  pub within : (a b : ℕ) → contains_at es a b ≡ true
      → (a < length (group_names es)) × (b < length (group_names es))
  within a b h = by (slice_get (group_names es) a) (slice_get (group_names es) b) refl refl
    where
      by : (o q : Option (List ℕ)) → slice_get (group_names es) a ≡ o
          → slice_get (group_names es) b ≡ q
          → (a < length (group_names es)) × (b < length (group_names es))
      by None q e f =
          absurd
          (false≢true (sym (ap (λ o. both_inside es o (slice_get (group_names es) b)) e) ∙ h))
      by (Some x) None e f = absurd
          (false≢true
          (sym (ap (λ o. both_inside es o (slice_get (group_names es) b)) e
          ∙ ap (λ q. both_inside es (Some x) q) f) ∙ h))
      by (Some x) (Some y) e f =
          (slice_get_within (group_names es) a x e, slice_get_within (group_names es) b y f)

  pub contains-is : (a b : ℕ) → a < length (group_names es) → b < length (group_names es)
      → contains_at es a b ≡ is_inside es (get_or (group_names es) a [])
      (get_or (group_names es) b [])
  contains-is a b la lb =
      ap (λ o. both_inside es o (slice_get (group_names es) b))
      (slice_get-get_or (group_names es) a [] la)
      ∙ ap (λ q. both_inside es (Some (get_or (group_names es) a [])) q)
      (slice_get-get_or (group_names es) b [] lb)

  -- groups of one name contain the same ones
  inside-agree : (x y m n : List ℕ) → same_name x m ≡ true → same_name y n ≡ true
      → is_inside es m n ≡ is_inside es x y
  inside-agree x y m n h k =
      ap (list_any (is_group n))
      (filter-agree (λ e. stands_at (Group m) e.block.spot)
      (λ e. stands_at (Group x) e.block.spot) (λ e. same-group x m h e.block.spot) es)
      ∙ any-agree (is_group n) (is_group y)
      (λ e. ap (λ t. e.block.group && t)
      (name_same.turn e.block.name n ∙ sym (name_same.agree y n e.block.name k)
      ∙ name_same.turn y e.block.name)) (entries_at es (Group x))

  pub no-block : (y : List ℕ) (s : Entry → Bool) (l : List Entry)
      → list_any (same_name y) (map (λ e. e.block.name) (filter (λ e. e.block.group) l)) ≡ false
      → list_any (is_group y) (filter s l) ≡ false
  no-block y s l h = any-filter (is_group y) s l ∙ by l h
    where
      apart : (e : Entry) (rest : List Entry)
          → list_any (same_name y)
          (map (λ e. e.block.name) (filter (λ e. e.block.group) (e ∷ rest))) ≡ false
          → (is_group y e ≡ false)
          × (list_any (same_name y) (map (λ e. e.block.name) (filter (λ e. e.block.group) rest))
          ≡ false)
      apart e rest h = cases e.block.group refl
        where
          cases : (t : Bool) → e.block.group ≡ t
              → (is_group y e ≡ false)
              × (list_any (same_name y) (map (λ e. e.block.name) (filter (λ e. e.block.group) rest))
              ≡ false)
          cases true f =
              let g : (same_name y e.block.name
              || list_any (same_name y)
              (map (λ e. e.block.name) (filter (λ e. e.block.group) rest))) ≡ false =
              (rw f at h) in
              let n = or_no (same_name y e.block.name)
              (list_any (same_name y)
              (map (λ e. e.block.name) (filter (λ e. e.block.group) rest))) g in (
                ap (λ t. t && same_name e.block.name y) f ∙ (name_same.turn e.block.name y ∙ n.0),
                n.1,
              )
          cases false f = (ap (λ t. t && same_name e.block.name y) f, (rw f at h))

      by : (l : List Entry) → list_any (same_name y)
          (map (λ e. e.block.name) (filter (λ e. e.block.group) l)) ≡ false
          → list_any (λ e. s e && is_group y e) l ≡ false
      by [] h = refl
      by (e ∷ rest) h = (let a = apart e rest h in
          ap (λ t. (s e && t) || list_any (λ e. s e && is_group y e) rest) a.0
          ∙ and_no (s e) (list_any (λ e. s e && is_group y e) rest) ∙ by rest a.1)

  -- the groups of one that is inside another have numbers
  step : (x y : List ℕ) → is_inside es x y ≡ true → contains_at es (number x) (number y) ≡ true
  step x y h = by (position (same_name x) (group_names es))
      (position (same_name y) (group_names es)) refl refl
    where
      by : (o q : Option ℕ) → position (same_name x) (group_names es) ≡ o
          → position (same_name y) (group_names es) ≡ q
          → contains_at es (number x) (number y) ≡ true
      by None q e f =
          absurd
          (false≢true
          (sym (ap (list_any (is_group y))
          (nowhere es (Group x) (ap (option_map (λ j. bin_count + j)) e))) ∙ h))
      by (Some i) None e f =
          let blocks = map (λ e. e.block.name) (filter (λ e. e.block.group) es) in
          let spots = filter_map (λ e. inside_name e.block.spot) es in
          let none : list_any (same_name y) (blocks ++ spots) ≡ false =
          sym (once-any same_name name_same y (blocks ++ spots))
          ∙ none-any (same_name y) (group_names es) f in
          let out = or_no (list_any (same_name y) blocks) (list_any (same_name y) spots)
          (sym (list_any-append (same_name y) blocks spots) ∙ none) in
          absurd
          (false≢true (sym (no-block y (λ e. stands_at (Group x) e.block.spot) es out.0) ∙ h))
      by (Some i) (Some j) e f =
          let a = position-Some (same_name x) (group_names es) i [] e in
          let b = position-Some (same_name y) (group_names es) j [] f in
          ap (λ k. contains_at es k (number y)) (ap (λ o. unwrap_or o 0) e)
          ∙ ap (λ k. contains_at es i k) (ap (λ o. unwrap_or o 0) f)
          ∙ contains-is i j a.0 b.0
          ∙ inside-agree x y (get_or (group_names es) i []) (get_or (group_names es) j []) a.1 b.1
          ∙ h

  pub no-groups : (xs : List ℕ) → IsOrder (contains_at es) (numbers (length (group_names es))) xs
      → NoGroupCycle es
  no-groups xs order = λ names h.
      no-cycle (contains_at es) xs order.respects inside (map number names)
      (cycle-map (is_inside es) (contains_at es) number step names h)
    where
      there : (k : ℕ) → k < length (group_names es) → 0 < count k xs
      there k l = let P : ℕ → Type 0 = λ n. 0 < n in
          subst P (order.same k)
          (counted 0 (length (group_names es)) k (omega arith) (omega (arith, l)))

      inside : (a b : ℕ) → contains_at es a b ≡ true → (0 < count a xs) × (0 < count b xs)
      inside a b h = (let w = within a b h in (there a w.0, there b w.1))
