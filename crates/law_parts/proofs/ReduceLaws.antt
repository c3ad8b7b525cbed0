-- A reduction over a whole grid is that of its parts' numbers.
use Rattle.std.proofs.Common.{◌≡◌, ℕ, zero, suc, ◌+◌, ◌-◌, ◌*◌, ◌<◌, ◌≤◌, true, List, [], ◌∷◌, ◌++◌, length, length-append, map, arith, refl, sym, ap, ◌∙◌, ℤ, pos, ◌+ℤ◌, Option, Some, None}
use Rattle.std.specs.List.{reduce, fold, filter, range_with_len}
use Rattle.std.specs.Option.{unwrap_or}
use Rattle.std.specs.Int.{int_min, int_max, int_gap}
use Rattle.std.proofs.lemmas.Int.{ints, clamps}
use Rattle.std.proofs.lemmas.List.FromFn.{map-range_with_len_more}
use Rattle.std.proofs.lemmas.List.Elements.{filter-append}
use Rattle.cx_grid.specs.declared.boxes.Point.{Point}
use Rattle.cx_grid.specs.Boxes.{point_count, point_in, numbers_in, extent}
use Rattle.cx_grid.specs.Grid.{whole}
use Rattle.cx_plan.specs.declared.item.ItemKind.{ItemKind}
use Rattle.cx_plan.specs.declared.item.ItemKind.TheVariants.{Cell, Scalar, Sum, Least, Greatest, Count}
use Rattle.cx_model.specs.Turns.{reduced}
use Rattle.cx_cut.specs.Axis.{start_at, IsAxisCut}
use Rattle.cx_cut.specs.Cuts.{Parts, part_count, place_along, IsCut, owned}
use Rattle.cx_cut.proofs.AxisFacts.{start_more}
use Rattle.cx_cut.proofs.Boxed.{place_below}
use Rattle.cx_cut.proofs.Folds.{fold_to, fold_same, fold_tiles}
use Rattle.law_parts.specs.Holding.{joined}
use Rattle.law_parts.specs.Operations.{is_reduction}
use Rattle.cx_text.specs.Numbers.{is_not_zero}

-- ---- lists that grow at their end

fold_last : (f : ℤ → ℤ → ℤ) (a : ℤ) (xs : List ℤ) (x : ℤ)
    → fold f a (xs ++ x ∷ []) ≡ f (fold f a xs) x
fold_last f a [] x = refl
fold_last f a (y ∷ ys) x = fold_last f (f a y) ys x

abbrev pub over : (ℤ → ℤ → ℤ) → Option ℤ → Option ℤ → Option ℤ
over f None b = b
over f (Some a) None = Some a
over f (Some a) (Some b) = Some (f a b)

reduce_last : (f : ℤ → ℤ → ℤ) (xs : List ℤ) (x : ℤ)
    → reduce f (xs ++ x ∷ []) ≡ over f (reduce f xs) (Some x)
reduce_last f [] x = refl
reduce_last f (y ∷ ys) x = ap Some (fold_last f y ys x)

map_last : (g : ℕ → ℤ) (n : ℕ)
    → map g (range_with_len 0 (suc n)) ≡ map g (range_with_len 0 n) ++ g n ∷ []
map_last g n =
    let more : suc n ≡ n + 1 = omega arith in
    ap (λ j. map g (range_with_len 0 j)) more ∙ map-range_with_len_more g 0 n n (omega arith)

-- ---- a part has a point

times_some : (a b : ℕ) → 1 ≤ a → 1 ≤ b → 1 ≤ a * b
times_some a zero h k = absurd (omega (arith, k))
times_some a (suc b) h k = let s : a * suc b ≡ a * b + a = omega arith in omega (arith, s, h)

width_some : (n g : ℤ) (ws : List ℕ) (a : ℕ) → IsAxisCut n g ws → a < length ws
    → 1 ≤ int_gap (pos (start_at ws a)) (pos (start_at ws (suc a)))
width_some n g ws a w h =
    let m = start_more ws a h in
    let s = w.some a h in
    let z : 1 ≤ start_at ws (suc a) - start_at ws a = omega (arith, m, s) in z

pub owns_some : (c : Parts) → IsCut c → (k : ℕ) → k < part_count c → 1 ≤ point_count (owned c k)
owns_some c w k l =
    times_some (extent (owned c k) 0 * extent (owned c k) 1) (extent (owned c k) 2)
    (times_some (extent (owned c k) 0) (extent (owned c k) 1)
    (width_some c.shape.n.x c.shape.ghost_.x c.x (place_along c k 0) w.x
    (place_below c k l 0 (omega arith)))
    (width_some c.shape.n.y c.shape.ghost_.y c.y (place_along c k 1) w.y
    (place_below c k l 1 (omega arith))))
    (width_some c.shape.n.z c.shape.ghost_.z c.z (place_along c k 2) w.z
    (place_below c k l 2 (omega arith)))

-- ---- the least and the greatest

module _ (f : ℤ → ℤ → ℤ) (assoc : (a b c : ℤ) → f (f a b) c ≡ f a (f b c))
    (comm : (a b : ℤ) → f a b ≡ f b a) where
  over_assoc : (a b c : Option ℤ) → over f (over f a b) c ≡ over f a (over f b c)
  over_assoc None b c = refl
  over_assoc (Some a) None c = refl
  over_assoc (Some a) (Some b) None = refl
  over_assoc (Some a) (Some b) (Some c) = ap Some (assoc a b c)

  over_comm : (a b : Option ℤ) → over f a b ≡ over f b a
  over_comm None None = refl
  over_comm None (Some b) = refl
  over_comm (Some a) None = refl
  over_comm (Some a) (Some b) = ap Some (comm a b)

  over_none : (a : Option ℤ) → over f None a ≡ a
  over_none a = refl

  abbrev all_over : ℕ → (ℕ → Option ℤ) → Option ℤ
  all_over n h = fold_to (Option ℤ) (over f) None over_assoc over_comm over_none n h

  reduce_is : (n : ℕ) (g : ℕ → ℤ)
      → reduce f (map g (range_with_len 0 n)) ≡ all_over n (λ i. Some (g i))
  reduce_is zero g = refl
  reduce_is (suc n) g = ap (reduce f) (map_last g n)
      ∙ reduce_last f (map g (range_with_len 0 n)) (g n)
      ∙ ap (λ z. over f z (Some (g n))) (reduce_is n g)

  some_is : (n : ℕ) (g : ℕ → ℤ) → 1 ≤ n
      → Some (unwrap_or (reduce f (map g (range_with_len 0 n))) (pos 0))
      ≡ reduce f (map g (range_with_len 0 n))
  some_is zero g h = absurd (omega (arith, h))
  some_is (suc n) g h = refl

  pub parts_reduce : (c : Parts) → IsCut c → (g : Point → ℤ)
      → reduce f (map (λ k. unwrap_or (reduce f (numbers_in (owned c k) g)) (pos 0))
      (range_with_len 0 (part_count c))) ≡ reduce f (numbers_in (whole c.shape) g)
  parts_reduce c w g =
      reduce_is (part_count c) (λ k. unwrap_or (reduce f (numbers_in (owned c k) g)) (pos 0))
      ∙ fold_same (Option ℤ) (over f) None over_assoc over_comm over_none (part_count c)
      (λ k. Some (unwrap_or (reduce f (numbers_in (owned c k) g)) (pos 0)))
      (λ k. all_over (point_count (owned c k)) (λ i. Some (g (point_in (owned c k) i))))
      (λ k l. some_is (point_count (owned c k)) (λ i. g (point_in (owned c k) i))
      (owns_some c w k l) ∙ reduce_is (point_count (owned c k))
      (λ i. g (point_in (owned c k) i)))
      ∙ sym (fold_tiles (Option ℤ) (over f) None over_assoc over_comm over_none c w
      (λ p. Some (g p)))
      ∙ sym (reduce_is (point_count (whole c.shape)) (λ i. g (point_in (whole c.shape) i)))

-- ---- sums and counts

abbrev plus : ℤ → ℤ → ℤ
plus a b = a +ℤ b

plus_assoc : (a b c : ℤ) → plus (plus a b) c ≡ plus a (plus b c)
plus_assoc a b c = omega (arith, ints)

plus_comm : (a b : ℤ) → plus a b ≡ plus b a
plus_comm a b = omega (arith, ints)

plus_zero : (a : ℤ) → plus (pos 0) a ≡ a
plus_zero a = omega (arith, ints)

abbrev total : ℕ → (ℕ → ℤ) → ℤ
total n g = fold_to ℤ plus (pos 0) plus_assoc plus_comm plus_zero n g

over_plus : (o : Option ℤ) (x : ℤ)
    → unwrap_or (over plus o (Some x)) (pos 0) ≡ plus (unwrap_or o (pos 0)) x
over_plus None x = sym (plus_zero x)
over_plus (Some a) x = refl

sum_is : (n : ℕ) (g : ℕ → ℤ) → reduced Sum (map g (range_with_len 0 n)) ≡ total n g
sum_is zero g = refl
sum_is (suc n) g =
    ap (reduced Sum) (map_last g n)
    ∙ ap (λ (o : Option ℤ). unwrap_or o (pos 0))
    (reduce_last plus (map g (range_with_len 0 n)) (g n))
    ∙ over_plus (reduce plus (map g (range_with_len 0 n))) (g n)
    ∙ ap (λ z. plus z (g n)) (sum_is n g)

abbrev counted : ℤ → ℤ
counted x = reduced Count (x ∷ [])

count_last : (xs : List ℤ) (x : ℤ)
    → reduced Count (xs ++ x ∷ []) ≡ plus (reduced Count xs) (counted x)
count_last xs x =
    ap (λ (ys : List ℤ). pos (length ys)) (filter-append is_not_zero xs (x ∷ []))
    ∙ ap pos (length-append (filter is_not_zero xs) (filter is_not_zero (x ∷ [])))

count_is : (n : ℕ) (g : ℕ → ℤ)
    → reduced Count (map g (range_with_len 0 n)) ≡ total n (λ i. counted (g i))
count_is zero g = refl
count_is (suc n) g =
    ap (reduced Count) (map_last g n)
    ∙ count_last (map g (range_with_len 0 n)) (g n)
    ∙ ap (λ z. plus z (counted (g n))) (count_is n g)

parts_sum : (c : Parts) → IsCut c → (g : Point → ℤ)
    → reduced Sum (map (λ k. reduced Sum (numbers_in (owned c k) g))
    (range_with_len 0 (part_count c))) ≡ reduced Sum (numbers_in (whole c.shape) g)
parts_sum c w g =
    sum_is (part_count c) (λ k. reduced Sum (numbers_in (owned c k) g))
    ∙ fold_same ℤ plus (pos 0) plus_assoc plus_comm plus_zero (part_count c)
    (λ k. reduced Sum (numbers_in (owned c k) g))
    (λ k. total (point_count (owned c k)) (λ i. g (point_in (owned c k) i)))
    (λ k l. sum_is (point_count (owned c k)) (λ i. g (point_in (owned c k) i)))
    ∙ sym (fold_tiles ℤ plus (pos 0) plus_assoc plus_comm plus_zero c w g)
    ∙ sym (sum_is (point_count (whole c.shape)) (λ i. g (point_in (whole c.shape) i)))

parts_count : (c : Parts) → IsCut c → (g : Point → ℤ)
    → reduced Sum (map (λ k. reduced Count (numbers_in (owned c k) g))
    (range_with_len 0 (part_count c))) ≡ reduced Count (numbers_in (whole c.shape) g)
parts_count c w g =
    sum_is (part_count c) (λ k. reduced Count (numbers_in (owned c k) g))
    ∙ fold_same ℤ plus (pos 0) plus_assoc plus_comm plus_zero (part_count c)
    (λ k. reduced Count (numbers_in (owned c k) g))
    (λ k. total (point_count (owned c k)) (λ i. counted (g (point_in (owned c k) i))))
    (λ k l. count_is (point_count (owned c k)) (λ i. g (point_in (owned c k) i)))
    ∙ sym (fold_tiles ℤ plus (pos 0) plus_assoc plus_comm plus_zero c w (λ p. counted (g p)))
    ∙ sym (count_is (point_count (whole c.shape)) (λ i. g (point_in (whole c.shape) i)))

least_assoc : (a b c : ℤ) → int_min (int_min a b) c ≡ int_min a (int_min b c)
least_assoc a b c = omega (arith, ints, clamps)

least_comm : (a b : ℤ) → int_min a b ≡ int_min b a
least_comm a b = omega (arith, ints, clamps)

greatest_assoc : (a b c : ℤ) → int_max (int_max a b) c ≡ int_max a (int_max b c)
greatest_assoc a b c = omega (arith, ints, clamps)

greatest_comm : (a b : ℤ) → int_max a b ≡ int_max b a
greatest_comm a b = omega (arith, ints, clamps)

-- what the parts give, joined, is the number of the whole grid
pub tiles_reduce : (c : Parts) → IsCut c → (g : Point → ℤ) (kind : ItemKind)
    → is_reduction kind ≡ true
    → joined kind (map (λ k. reduced kind (numbers_in (owned c k) g))
    (range_with_len 0 (part_count c))) ≡ reduced kind (numbers_in (whole c.shape) g)
tiles_reduce c w g Cell h = absurd cc
tiles_reduce c w g Scalar h = absurd cc
tiles_reduce c w g Sum h = parts_sum c w g
tiles_reduce c w g Least h =
    ap (λ (o : Option ℤ). unwrap_or o (pos 0)) (parts_reduce int_min least_assoc least_comm c w g)
tiles_reduce c w g Greatest h =
    ap (λ (o : Option ℤ). unwrap_or o (pos 0))
    (parts_reduce int_max greatest_assoc greatest_comm c w g)
tiles_reduce c w g Count h = parts_count c w g
