-- How many points all parts compute in one turn: over their zones, each interior point once.
use Rattle.std.proofs.Common.{◌≡◌, ℕ, zero, suc, ◌+◌, ◌<◌, Bool, true, false, ◌&&◌, [], ◌∷◌, ◌++◌, length, length-append, map, arith, refl, sym, ap, ◌∙◌, subst, cond, eqb}
use Rattle.std.specs.Prelude.{if◌then◌else◌}
use Rattle.std.specs.List.{filter, range_with_len}
use Rattle.std.proofs.lemmas.Bool.{eqb-true, eq-eqb, both_ways}
use Rattle.std.proofs.lemmas.List.FromFn.{map-range_with_len_more}
use Rattle.std.proofs.lemmas.List.Elements.{filter-append}
use Rattle.cx_grid.specs.declared.boxes.Point.{Point}
use Rattle.cx_grid.specs.declared.boxes.Box3.{Box3}
use Rattle.cx_grid.specs.Boxes.{IsIn, has_point, point_count, index_in, point_in, points_in}
use Rattle.cx_grid.specs.Grid.{whole}
use Rattle.cx_grid.proofs.Places.{index_below, point_at_index, point_inside, index_at_point}
use Rattle.cx_cut.specs.Cuts.{Parts, part_count, IsCut, owned, local}
use Rattle.cx_cut.proofs.Folds.{fold_to, fold_tiles}
use Rattle.law_parts.proofs.CountLaws.{sum_same, sum_none, sum_one, sum_swap}
use Rattle.law_parts.proofs.PairLaws.{bool_same}
use Rattle.law_parts.proofs.ZoneLaws.{in_is, in_from}
use Rattle.law_network.specs.Machine.{sum_below}

-- ---- lists as sums

map_last : {A : Type 0} (g : ℕ → A) (n : ℕ)
    → map g (range_with_len 0 (suc n)) ≡ map g (range_with_len 0 n) ++ g n ∷ []
map_last g n =
    let more : suc n ≡ n + 1 = omega arith in
    ap (λ j. map g (range_with_len 0 j)) more ∙ map-range_with_len_more g 0 n n (omega arith)

one_counted : {A : Type 0} (test : A → Bool) (x : A)
    → length (filter test (x ∷ [])) ≡ cond (test x) 1 0
one_counted test x = go (test x)
  where
    go : (b : Bool) → length (if b then x ∷ [] else []) ≡ cond b 1 0
    go true = refl
    go false = refl

counted : {A : Type 0} (test : A → Bool) (g : ℕ → A) (n : ℕ)
    → length (filter test (map g (range_with_len 0 n))) ≡ sum_below n (λ i. cond (test (g i)) 1 0)
counted test g zero = refl
counted test g (suc n) =
    ap (λ ls. length (filter test ls)) (map_last g n)
    ∙ ap length (filter-append test (map g (range_with_len 0 n)) (g n ∷ []))
    ∙ length-append (filter test (map g (range_with_len 0 n))) (filter test (g n ∷ []))
    ∙ (rw (counted test g n, one_counted test (g n)) refl)

-- ---- a box within a box

module _ (a b : Box3) (test : Point → Bool) (inside : (p : Point) → IsIn a p → IsIn b p) where
  abbrev worth : ℕ → ℕ
  worth j = cond (test (point_in a j)) 1 0

  -- the point at a place of the inner box is that at this place of the outer one
  same_place : (i j : ℕ) → j < point_count a → index_in b (point_in a j) ≡ i
      → point_in a j ≡ point_in b i
  same_place i j m e = sym
      (point_at_index b (point_in a j) (inside (point_in a j) (point_inside a j m)))
      ∙ ap (point_in b) e

  at_place : (i : ℕ) → i < point_count b → (h : Bool) → has_point a (point_in b i) ≡ h
      → cond (has_point a (point_in b i) && test (point_in b i)) 1 0
      ≡ sum_below (point_count a) (λ j. cond (eqb (index_in b (point_in a j)) i) (worth j) 0)
  at_place i l true e =
      ap (λ h. cond (h && test (point_in b i)) 1 0) e
      ∙ sym (sum_same (point_count a) _ (λ j. cond (eqb (index_in a (point_in b i)) j) (worth j) 0)
      (λ j m. ap (λ h. cond h (worth j) 0) (same j m))
      ∙ sum_one (point_count a) (index_in a (point_in b i)) worth
      (index_below a (point_in b i) here)
      ∙ ap (λ q. cond (test q) 1 0) (point_at_index a (point_in b i) here))
    where
      here : IsIn a (point_in b i)
      here = in_is a (point_in b i) e

      same : (j : ℕ) → j < point_count a
          → eqb (index_in b (point_in a j)) i ≡ eqb (index_in a (point_in b i)) j
      same j m = bool_same _ _
          (λ t. eq-eqb (index_in a (point_in b i)) j
          (ap (index_in a) (sym (same_place i j m (eqb-true (index_in b (point_in a j)) i t)))
          ∙ index_at_point a j m))
          (λ t. eq-eqb (index_in b (point_in a j)) i
          (ap (λ q. index_in b q)
          (ap (point_in a) (sym (eqb-true (index_in a (point_in b i)) j t))
          ∙ point_at_index a (point_in b i) here) ∙ index_at_point b i l))
  at_place i l false e =
      ap (λ h. cond (h && test (point_in b i)) 1 0) e
      ∙ sym (sum_same (point_count a) _ (λ j. 0) (λ j m. ap (λ h. cond h (worth j) 0) (none j m))
      ∙ sum_none (point_count a))
    where
      none : (j : ℕ) → j < point_count a → eqb (index_in b (point_in a j)) i ≡ false
      none j m = bool_same _ _
          (λ t. absurd (both_ways (has_point a (point_in b i)) e
          (subst (λ q. has_point a q ≡ true)
          (same_place i j m (eqb-true (index_in b (point_in a j)) i t))
          (in_from a (point_in a j) (point_inside a j m)))))
          (λ t. absurd cc)

  pub within_box : length (filter (λ p. has_point a p && test p) (points_in b))
      ≡ sum_below (point_count a) worth
  within_box =
      counted (λ p. has_point a p && test p) (point_in b) (point_count b)
      ∙ sum_same (point_count b) _
      (λ i. sum_below (point_count a)
      (λ j. cond (eqb (index_in b (point_in a j)) i) (worth j) 0))
      (λ i l. at_place i l (has_point a (point_in b i)) refl)
      ∙ sum_swap (point_count b) (point_count a)
      (λ i j. cond (eqb (index_in b (point_in a j)) i) (worth j) 0)
      ∙ sum_same (point_count a) _ _
      (λ j m. sum_one (point_count b) (index_in b (point_in a j)) (λ i. worth j)
      (index_below b (point_in a j) (inside (point_in a j) (point_inside a j m))))

-- ---- over all parts

plus_assoc : (a b c : ℕ) → (a + b) + c ≡ a + (b + c)
plus_assoc a b c = omega arith

plus_comm : (a b : ℕ) → a + b ≡ b + a
plus_comm a b = omega arith

plus_zero : (a : ℕ) → 0 + a ≡ a
plus_zero a = omega arith

abbrev total : ℕ → (ℕ → ℕ) → ℕ
total n f = fold_to ℕ (λ a b. a + b) 0 plus_assoc plus_comm plus_zero n f

sum_is : (n : ℕ) (f : ℕ → ℕ) → sum_below n f ≡ total n f
sum_is zero f = refl
sum_is (suc n) f = ap (λ z. z + f n) (sum_is n f)

-- each point of the grid is owned by one part
pub each_once : (c : Parts) → IsCut c
    → ((k : ℕ) → k < part_count c → (p : Point) → IsIn (owned c k) p → IsIn (local c k) p)
    → (test : Point → Bool)
    → sum_below (part_count c)
    (λ k. length (filter (λ p. has_point (owned c k) p && test p) (points_in (local c k))))
    ≡ length (filter test (points_in (whole c.shape)))
each_once c w lies test =
    sum_same (part_count c) _
    (λ k. total (point_count (owned c k)) (λ i. cond (test (point_in (owned c k) i)) 1 0))
    (λ k l. within_box (owned c k) (local c k) test (lies k l)
    ∙ sum_is (point_count (owned c k)) (λ i. cond (test (point_in (owned c k) i)) 1 0))
    ∙ sum_is (part_count c)
    (λ k. total (point_count (owned c k)) (λ i. cond (test (point_in (owned c k) i)) 1 0))
    ∙ sym (fold_tiles ℕ (λ a b. a + b) 0 plus_assoc plus_comm plus_zero c w
    (λ p. cond (test p) 1 0))
    ∙ sym (sum_is (point_count (whole c.shape)) (λ i. cond (test (point_in (whole c.shape) i)) 1 0))
    ∙ sym (counted test (point_in (whole c.shape)) (point_count (whole c.shape)))
