-- Orders by place numbers are orders of all places.
use Rattle.std.proofs.Common.{◌≡◌, refl, sym, ◌∙◌, ap, subst, ℕ, ◌+◌, ◌-◌, ◌<◌, ◌≤◌, Bool, true, false, cond, ◌||◌, ltb, ltb-true, ltb-false, List, [], ◌∷◌, ◌++◌, map, filter, filter_map, length, get_or, Option, Some, None, arith}
use Rattle.std.specs.List.{list_any, position, position_from}
use Rattle.std.specs.Option.{option_map}
use Rattle.std.proofs.lemmas.Bool.{false≢true}
use Rattle.std.proofs.lemmas.List.Folds.{list_any-append}
use Rattle.std.proofs.lemmas.List.Quantifiers.{position-Some}
use Rattle.std.proofs.lemmas.Iterator.Adapters.{position_from-zero}
use Rattle.cx_text.specs.Lexemes.{same_name}
use Rattle.cx_plan.specs.Lists.{once, once_behind}
use Rattle.cx_sched.specs.declared.tree.Spot.{Spot}
use Rattle.cx_sched.specs.declared.tree.Spot.TheVariants.{At, Inside}
use Rattle.cx_order_entries.specs.Bins.{bin_of}
use Rattle.cx_order_entries.specs.Counted.{Entry}
use Rattle.cx_order_entries.specs.Entries.{Place, Bin, Group, stands_at, entries_at}
use Rattle.cx_order_least.specs.Orders.{numbers, IsLeastOrder}
use Rattle.cx_order_least.specs.Links.{row}
use Rattle.cx_order_entries.specs.PlaceNumbers.{inside_name, group_names, place_count, place, place_number, AreLeast, row_or_none, orders_by}
use Rattle.cx_plan.specs.Lookups.{bin_count}
use Rattle.cx_order_entries.specs.Members.{before_in}
use Rattle.cx_order_least.proofs.LeastOrders.{none-is-least}
use Rattle.cx_order_entries.proofs.RowLaws.{no-bin}
use Rattle.cx_order_entries.proofs.OnceLaws.{IsSame, name_same, any-agree}

-- ---- what is kept once

pub or_parts : (a b : Bool) → (a || b) ≡ false → (a ≡ false) × (b ≡ false)
or_parts false b e = (refl, e)
or_parts true b e = absurd (false≢true (sym e))

or_true : (t : Bool) → (t || true) ≡ true
or_true true = refl
or_true false = refl

regroup : (t s a b : Bool) → ((t || (s || false)) || a) ≡ ((t || (s || false)) || b)
    → (t || (s || a)) ≡ (t || (s || b))
regroup true s a b h = refl
regroup false true a b h = refl
regroup false false a b h = h

module _ {X : Type 0} (same : X → X → Bool) (s : IsSame same) (q : X) where
  once-has : (there xs : List X)
      → (list_any (same q) there || list_any (same q) (once_behind same there xs))
      ≡ (list_any (same q) there || list_any (same q) xs)
  once-has there [] = refl
  once-has there (x ∷ xs) =
      by (list_any (same x) there) refl (same q x) refl (once-has there xs)
      (once-has (there ++ x ∷ []) xs)
    where
      by : (t : Bool) → list_any (same x) there ≡ t → (u : Bool) → same q x ≡ u
          → (list_any (same q) there || list_any (same q) (once_behind same there xs))
          ≡ (list_any (same q) there || list_any (same q) xs)
          → (list_any (same q) (there ++ x ∷ [])
          || list_any (same q) (once_behind same (there ++ x ∷ []) xs))
          ≡ (list_any (same q) (there ++ x ∷ []) || list_any (same q) xs)
          → (list_any (same q) there || list_any (same q) (once_behind same there (x ∷ xs)))
          ≡ (list_any (same q) there || (same q x || list_any (same q) xs))
      by true e true f passed more = let h =
          any-agree (same q) (same x) (λ y. s.agree q x y f) there ∙ e in rw h refl
      by true e false f passed more = rw (e, f) passed
      by false e u f passed more =
          rw e
          (regroup (list_any (same q) there) (same q x)
          (list_any (same q) (once_behind same (there ++ x ∷ []) xs)) (list_any (same q) xs)
          (ap (λ t. t || list_any (same q) (once_behind same (there ++ x ∷ []) xs))
          (sym (list_any-append (same q) there (x ∷ [])))
          ∙ more
          ∙ ap (λ t. t || list_any (same q) xs) (list_any-append (same q) there (x ∷ []))))

  pub once-any : (xs : List X) → list_any (same q) (once same xs) ≡ list_any (same q) xs
  once-any xs = once-has [] xs

none-from : {X : Type 0} (p : X → Bool) (from : ℕ) (xs : List X) → position_from p from xs ≡ None
    → list_any p xs ≡ false
none-from p from [] h = refl
none-from p from (x ∷ xs) h = by (p x) refl (none-from p (from + 1) xs)
  where
    by : (t : Bool) → p x ≡ t → (position_from p (from + 1) xs ≡ None → list_any p xs ≡ false)
        → (p x || list_any p xs) ≡ false
    by true e rest = absurd (let g : Some from ≡ None = (rw e at h) in cc g)
    by false e rest = rw e (rest (rw e at h))

pub none-any : {X : Type 0} (p : X → Bool) (xs : List X) → position p xs ≡ None
    → list_any p xs ≡ false
none-any p xs h = none-from p 0 xs (sym (position_from-zero p xs) ∙ h)

-- ---- places and their numbers

pub filter-agree : {X : Type 0} (p q : X → Bool) → ((x : X) → p x ≡ q x) → (xs : List X)
    → filter p xs ≡ filter q xs
filter-agree p q h [] = refl
filter-agree p q h (x ∷ xs) =
    ap (λ t. cond t (x ∷ filter p xs) (filter p xs)) (h x)
    ∙ ap (λ r. cond (q x) (x ∷ r) r) (filter-agree p q h xs)

filter-none : {X : Type 0} (p : X → Bool) → ((x : X) → p x ≡ false) → (xs : List X)
    → filter p xs ≡ []
filter-none p h [] = refl
filter-none p h (x ∷ xs) = let e = h x in rw e (filter-none p h xs)

pub same-group : (name other : List ℕ) → same_name name other ≡ true → (s : Spot)
    → stands_at (Group other) s ≡ stands_at (Group name) s
same-group name other h (At m) = refl
same-group name other h (Inside m) = sym (name_same.agree name other m h)

far-bin : (b : ℕ) → bin_count ≤ b → (s : Spot) → stands_at (Bin b) s ≡ false
far-bin b h (At m) = no-bin b m h (bin_of m) refl
far-bin b h (Inside m) = refl

no-inside : (name : List ℕ) (es : List Entry)
    → list_any (same_name name) (filter_map (λ e. inside_name e.block.spot) es) ≡ false
    → entries_at es (Group name) ≡ []
no-inside name [] h = refl
no-inside name (e ∷ es) h = by e.block.spot refl (no-inside name es)
  where
    by : (s : Spot) → e.block.spot ≡ s
        → (list_any (same_name name) (filter_map (λ e. inside_name e.block.spot) es) ≡ false
        → entries_at es (Group name) ≡ []) → entries_at (e ∷ es) (Group name) ≡ []
    by (At m) f rest = rw f (rest (rw f at h))
    by (Inside m) f rest =
        let g : (same_name name m
        || list_any (same_name name) (filter_map (λ e. inside_name e.block.spot) es)) ≡ false =
        (rw f at h) in
        let parts = or_parts (same_name name m)
        (list_any (same_name name) (filter_map (λ e. inside_name e.block.spot) es)) g in
        let n = parts.0 in
        rw (f, n) (rest parts.1)

not-below : (j : ℕ) → ltb (bin_count + j) bin_count ≡ false
not-below j = by (ltb (bin_count + j) bin_count) refl
  where
    by : (t : Bool) → ltb (bin_count + j) bin_count ≡ t → ltb (bin_count + j) bin_count ≡ false
    by true f = absurd (let l = ltb-true (bin_count + j) bin_count f in
        let no : ⊥ = omega (arith, l) in no)
    by false f = f

module _ (es : List Entry) where
  abbrev Numbers : Place → ℕ → Type 0
  Numbers p k = (k < place_count es) × (entries_at es (place es k) ≡ entries_at es p)

  there : (p : Place) (k : ℕ) → place_number es p ≡ Some k → Numbers p k
  there (Bin b) k e = by (ltb b bin_count) refl
    where
      by : (t : Bool) → ltb b bin_count ≡ t → Numbers (Bin b) k
      by true f =
          let g : Some b ≡ Some k = (rw f at e) in
          let same : b ≡ k = cc g in
          let N : ℕ → Type 0 = λ j. Numbers (Bin b) j in
          subst N same ((let l = ltb-true b bin_count f in omega (arith, l)), rw f refl)
      by false f = absurd (let g : None ≡ Some k = (rw f at e) in cc g)
  there (Group name) k e = by (position (same_name name) (group_names es)) refl
    where
      by : (o : Option ℕ) → position (same_name name) (group_names es) ≡ o → Numbers (Group name) k
      by None f = absurd (let g : None ≡ Some k =
          sym (ap (option_map (λ j. bin_count + j)) f) ∙ e in cc g)
      by (Some j) f =
          let g : Some (bin_count + j) ≡ Some k =
          sym (ap (option_map (λ j. bin_count + j)) f) ∙ e in
          let same : bin_count + j ≡ k = cc g in
          let N : ℕ → Type 0 = λ j. Numbers (Group name) j in
          let found = position-Some (same_name name) (group_names es) j [] f in
          let at : bin_count + j - bin_count ≡ j = omega arith in
          let above : ltb (bin_count + j) bin_count ≡ false = not-below j in
          let G : ℕ → Type 0 = λ i. entries_at es (Group (get_or (group_names es) i []))
          ≡ entries_at es (Group name) in
          subst N same (
            (let l = found.0 in omega (arith, l)),
            rw above (subst G (sym at)
                (filter-agree (λ e. stands_at (Group (get_or (group_names es) j [])) e.block.spot)
                (λ e. stands_at (Group name) e.block.spot)
                (λ e. same-group name (get_or (group_names es) j []) found.1 e.block.spot) es)),
          )

  pub nowhere : (p : Place) → place_number es p ≡ None → entries_at es p ≡ []
  nowhere (Bin b) e = by (ltb b bin_count) refl
    where
      by : (t : Bool) → ltb b bin_count ≡ t → entries_at es (Bin b) ≡ []
      by true f = absurd (let g : Some b ≡ None = (rw f at e) in cc g)
      by false f = filter-none (λ e. stands_at (Bin b) e.block.spot)
          (λ e. far-bin b (ltb-false b bin_count f) e.block.spot) es
  nowhere (Group name) e = by (position (same_name name) (group_names es)) refl
    where
      by : (o : Option ℕ) → position (same_name name) (group_names es) ≡ o
          → entries_at es (Group name) ≡ []
      by (Some j) f = absurd (let g : Some (bin_count + j) ≡ None =
          sym (ap (option_map (λ j. bin_count + j)) f) ∙ e in cc g)
      by None f =
          let blocks = map (λ e. e.block.name) (filter (λ e. e.block.group) es) in
          let spots = filter_map (λ e. inside_name e.block.spot) es in
          let none : list_any (same_name name) (blocks ++ spots) ≡ false =
          sym (once-any same_name name_same name (blocks ++ spots))
          ∙ none-any (same_name name) (group_names es) f in
          no-inside name es (or_parts (list_any (same_name name) blocks)
          (list_any (same_name name) spots)
          (sym (list_any-append (same_name name) blocks spots) ∙ none)).1

  abbrev IsLeast : List Entry → List ℕ → Type 0
  IsLeast l xs = IsLeastOrder (before_in l) (numbers (length l)) xs

  pub least-all : (rows : List (List ℕ))
      → ((k : ℕ) → k < place_count es → IsLeast (entries_at es (place es k)) (row rows k))
      → AreLeast es (orders_by es rows)
  least-all rows least = λ p. by p (place_number es p) refl
    where
      by : (p : Place) → (o : Option ℕ) → place_number es p ≡ o
          → IsLeast (entries_at es p) (row_or_none rows (place_number es p))
      by p None e =
          let O : Option ℕ → Type 0 = λ o. IsLeast (entries_at es p) (row_or_none rows o) in
          let L : List Entry → Type 0 = λ l. IsLeast l [] in
          subst O (sym e) (subst L (sym (nowhere p e)) (none-is-least (before_in [])))
      by p (Some k) e =
          let O : Option ℕ → Type 0 = λ o. IsLeast (entries_at es p) (row_or_none rows o) in
          let L : List Entry → Type 0 = λ l. IsLeast l (row rows k) in
          let n = there p k e in
          subst O (sym e) (subst L n.1 (least k n.0))
