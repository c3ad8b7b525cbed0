-- Sweeps by points: what is staged at each point of a zone and then committed is the sweep.
use Rattle.std.proofs.Common.{◌≡◌, ℕ, suc, ◌+◌, ◌<◌, Bool, true, false, not, ◌&&◌, ◌||◌, refl, sym, ap, ◌∙◌, subst, arith, cond, ℤ, List, [], ◌∷◌, map, length, get_or, Option, Some, None}
use Rattle.std.specs.Prelude.{All, is_some}
use Rattle.std.specs.List.{list_all, range_with_len}
use Rattle.std.proofs.lemmas.List.FromFn.{length-map-range_with_len, get_or-map-range_with_len, length-range_with_len, get_or-range_with_len}
use Rattle.cx_grid.specs.declared.boxes.Point.{Point}
use Rattle.cx_grid.specs.declared.boxes.Box3.{Box3}
use Rattle.cx_grid.specs.Boxes.{IsIn, point_count, index_in, point_in, points_in, numbers_in}
use Rattle.cx_grid.proofs.Places.{index_below, point_at_index, point_inside}
use Rattle.cx_plan.specs.declared.item.Touch.{Touch}
use Rattle.cx_rule.specs.States.{State, with_level}
use Rattle.cx_rule.specs.Sweeps.{Values, number_or, level_after, levels_after, sweep}
use Rattle.cx_rule.proofs.PartPoints.{each_passes}

-- ---- the points of a box

pub point_there : (b : Box3) (i : ℕ) (d : Point) → i < point_count b
    → get_or (points_in b) i d ≡ point_in b i
point_there b i d l = let z : 0 + i ≡ i = omega arith in
    get_or-map-range_with_len (point_in b) 0 (point_count b) i i d l z

-- what holds of each of a box's points in their list holds at each point that the box holds
pub each_point : (b : Box3) (P : Point → Type 0) → All P (points_in b) → (p : Point) → IsIn b p
    → P p
each_point b P all p h =
    let l = index_below b p h in
    let m = length-map-range_with_len (point_in b) 0 (point_count b) in
    let is : get_or (points_in b) (index_in b p) p ≡ p =
    point_there b (index_in b p) p l ∙ point_at_index b p h in
    subst P is (all (index_in b p) p (subst (λ n. index_in b p < n) (sym m) l))

-- a test that all of a box's points pass
pub point_passes : (b : Box3) (test : Point → Bool) → list_all test (points_in b) ≡ true
    → (p : Point) → IsIn b p → test p ≡ true
point_passes b test h = each_point b (λ p. test p ≡ true)
    (λ i d l. each_passes test (points_in b) h i d l)

-- ---- two functions that agree

all_same : {A : Type 0} (f g : A → Bool) (xs : List A)
    → ((i : ℕ) (d : A) → i < length xs → f (get_or xs i d) ≡ g (get_or xs i d))
    → list_all f xs ≡ list_all g xs
all_same f g [] h = refl
all_same f g (x ∷ xs) h =
    ap (λ b. b && list_all f xs) (h 0 x (omega arith))
    ∙ ap (λ b. g x && b) (all_same f g xs (λ i d l. h (suc i) d (omega arith)))

map_same : {A : Type 0} {B : Type 0} (f g : A → B) (xs : List A)
    → ((i : ℕ) (d : A) → i < length xs → f (get_or xs i d) ≡ g (get_or xs i d))
    → map f xs ≡ map g xs
map_same f g [] h = refl
map_same f g (x ∷ xs) h =
    ap (λ y. y ∷ map f xs) (h 0 x (omega arith))
    ∙ ap (λ ys. g x ∷ ys) (map_same f g xs (λ i d l. h (suc i) d (omega arith)))

-- over a box
tests_same : (b : Box3) (f g : Point → Bool) → ((p : Point) → IsIn b p → f p ≡ g p)
    → list_all f (points_in b) ≡ list_all g (points_in b)
tests_same b f g h =
    let m = length-map-range_with_len (point_in b) 0 (point_count b) in
    all_same f g (points_in b) (λ i d l.
    let j : i < point_count b = subst (λ n. i < n) m l in
    ap f (point_there b i d j) ∙ h (point_in b i) (point_inside b i j)
    ∙ ap g (sym (point_there b i d j)))

place_there : (n i d : ℕ) → i < length (range_with_len 0 n)
    → (get_or (range_with_len 0 n) i d ≡ i) × (i < n)
place_there n i d l =
    let m : length (range_with_len 0 n) ≡ n = length-range_with_len 0 n in
    let j : i < n = subst (λ k. i < k) m l in
    (get_or-range_with_len 0 n i d j ∙ omega arith, j)

numbers_same : (b : Box3) (f g : Point → ℤ) → ((p : Point) → IsIn b p → f p ≡ g p)
    → numbers_in b f ≡ numbers_in b g
numbers_same b f g h =
    map_same (λ i. f (point_in b i)) (λ i. g (point_in b i)) (range_with_len 0 (point_count b))
    (λ i d l.
    let t = place_there (point_count b) i d l in
    let same : f (point_in b i) ≡ g (point_in b i) = h (point_in b i) (point_inside b i t.1) in
    subst (λ k. f (point_in b k) ≡ g (point_in b k)) (sym t.0) same)

-- ---- sweeps

module _ (b : Box3) (values : Values) (zone : Point → Bool) (f g : Point → Option (List ℤ))
    (same : (p : Point) → IsIn b p → zone p ≡ true → f p ≡ g p) where
  test_same : (p : Point) → IsIn b p
      → (not (zone p) || is_some (f p)) ≡ (not (zone p) || is_some (g p))
  test_same p h = go (zone p) refl
    where
      go : (z : Bool) → zone p ≡ z
          → (not (zone p) || is_some (f p)) ≡ (not (zone p) || is_some (g p))
      go true e = ap (λ o. not (zone p) || is_some o) (same p h e)
      go false e = rw e refl

  level_same : (k : ℕ) (old : Point → ℤ) → level_after b zone f k old ≡ level_after b zone g k old
  level_same k old = numbers_same b _ _ (λ p h. go p h (zone p) refl)
    where
      go : (p : Point) → IsIn b p → (z : Bool) → zone p ≡ z
          → cond (zone p) (number_or (f p) k (old p)) (old p)
          ≡ cond (zone p) (number_or (g p) k (old p)) (old p)
      go p h true e = ap (λ o. cond (zone p) (number_or o k (old p)) (old p)) (same p h e)
      go p h false e = rw e refl

  levels_same : (k : ℕ) (writes : List Touch) (state : State)
      → levels_after b values zone f k writes state ≡ levels_after b values zone g k writes state
  levels_same k [] state = refl
  levels_same k (w ∷ ws) state =
      ap (λ level. levels_after b values zone f (k + 1) ws (with_level state w.var w.level level))
      (level_same k (values w.var w.level))
      ∙ levels_same (k + 1) ws
      (with_level state w.var w.level (level_after b zone g k (values w.var w.level)))

  -- the same numbers at each point of the zone make the same sweep
  pub sweep_same : (writes : List Touch) (state : State)
      → sweep b values zone f writes state ≡ sweep b values zone g writes state
  sweep_same writes state =
      ap (λ t. cond t (Some (levels_after b values zone f 0 writes state)) None)
      (tests_same b _ _ test_same)
      ∙ ap (λ s. cond (list_all (λ p. not (zone p) || is_some (g p)) (points_in b)) (Some s) None)
      (levels_same 0 writes state)

-- a point of the zone without numbers stops a sweep
pub sweep_none : (b : Box3) (values : Values) (zone : Point → Bool) (f : Point → Option (List ℤ))
    (writes : List Touch) (state : State) (p : Point)
    → IsIn b p → zone p ≡ true → f p ≡ None → sweep b values zone f writes state ≡ None
sweep_none b values zone f writes state p h z e =
    go (list_all (λ q. not (zone q) || is_some (f q)) (points_in b)) refl
  where
    go : (t : Bool) → list_all (λ q. not (zone q) || is_some (f q)) (points_in b) ≡ t
        → sweep b values zone f writes state ≡ None
    go false s = rw s refl
    go true s =
        let bad : (not (zone p) || is_some (f p)) ≡ true =
        point_passes b (λ q. not (zone q) || is_some (f q)) s p h in
        let worse : false ≡ true = rw (z, e) at bad in
        absurd cc

-- two zones that hold the same of a box's points
module _ (b : Box3) (values : Values) (one other : Point → Bool) (f : Point → Option (List ℤ))
    (same : (p : Point) → IsIn b p → one p ≡ other p) where
  level_in : (k : ℕ) (old : Point → ℤ) → level_after b one f k old ≡ level_after b other f k old
  level_in k old = numbers_same b _ _
      (λ p h. ap (λ z. cond z (number_or (f p) k (old p)) (old p)) (same p h))

  levels_in : (k : ℕ) (writes : List Touch) (state : State)
      → levels_after b values one f k writes state ≡ levels_after b values other f k writes state
  levels_in k [] state = refl
  levels_in k (w ∷ ws) state =
      ap (λ level. levels_after b values one f (k + 1) ws (with_level state w.var w.level level))
      (level_in k (values w.var w.level))
      ∙ levels_in (k + 1) ws (with_level state w.var w.level
      (level_after b other f k (values w.var w.level)))

  pub sweep_in : (writes : List Touch) (state : State)
      → sweep b values one f writes state ≡ sweep b values other f writes state
  sweep_in writes state =
      ap (λ t. cond t (Some (levels_after b values one f 0 writes state)) None)
      (tests_same b _ _ (λ p h. ap (λ z. not z || is_some (f p)) (same p h)))
      ∙ ap (λ s. cond (list_all (λ p. not (other p) || is_some (f p)) (points_in b)) (Some s) None)
      (levels_in 0 writes state)
