-- The points of a part: what it owns, what it holds, and what is seen from there.
use Rattle.std.proofs.Common.{◌≡◌, ℕ, ◌+◌, ◌<◌, Bool, true, false, not, ◌&&◌, ◌||◌, refl, ◌∙◌, subst, zero, suc, List, [], ◌∷◌, length, arith, cond, ℤ, pos, neg_ℤ, ◌+ℤ◌, ◌-ℤ◌, ◌*ℤ◌, ◌≤ℤ◌, ◌<ℤ◌, int_le, int_lt, get_or, ◌⊎◌, inl, inr, IsTrue}
use Rattle.std.specs.Prelude.{nat_lt}
use Rattle.std.specs.List.{range_with_len, list_all}
use Rattle.std.specs.Int.{int_rem_euclid, int_min, int_max}
use Rattle.std.proofs.lemmas.Int.{ints, clamps}
use Rattle.std.proofs.lemmas.Bool.{and_parts, or_parts, ltb-true}
use Rattle.std.proofs.lemmas.List.FromFn.{get_or-range_with_len, length-range_with_len}
use Rattle.cx_grid.specs.declared.boxes.Point.{Point}
use Rattle.cx_grid.specs.declared.boxes.Box3.{Box3}
use Rattle.cx_grid.specs.declared.shapes.Shape.{Shape}
use Rattle.cx_grid.specs.Boxes.{along, shifted, IsOn, IsIn}
use Rattle.cx_grid.specs.Grid.{IsAxis, in_face, is_boundary, source, wrap, whole}
use Rattle.cx_grid.specs.Windows.{reach_box}
use Rattle.cx_grid.proofs.WrapLaws.{rem_on}
use Rattle.cx_plan.specs.Regions.{within_ghosts}
use Rattle.cx_cut.specs.Axis.{widened_from, widened_to}
use Rattle.cx_rule.specs.Patches.{IsOwnSpan, IsPart}

-- ---- one direction of n points and ghost width g, of which a part owns those from a on and below
-- b

record Owns (n g a b : ℤ) : Type 0 where
  from : pos 0 ≤ℤ a
  to : b ≤ℤ n
  some : a <ℤ b
  wide : (a +ℤ g) ≤ℤ b

abbrev Holds : Bool → (n g a b c : ℤ) → Type 0
Holds periodic n g a b c = IsOn (widened_from periodic g a) (widened_to periodic n g b) c

own_axis : (periodic : Bool) (n g a b c : ℤ) → IsAxis n g → Owns n g a b → IsOn a b c
    → Holds periodic n g a b c
own_axis true n g a b c axis s h =
    record {
      from = omega (arith, ints, axis.least_ghosts, h.from);
      below = omega (arith, ints, axis.least_ghosts, h.below);
    }
own_axis false n g a b c axis s h = record {
  from = omega (arith, ints, clamps, axis.least_ghosts, s.from, h.from);
  below = omega (arith, ints, clamps, axis.least_ghosts, s.to, h.below);
}

names_axis : (periodic : Bool) (n g a b c : ℤ) → IsAxis n g → Owns n g a b
    → Holds periodic n g a b c
    → IsOn (pos 0) n (cond periodic (int_rem_euclid c n) c)
names_axis true n g a b c axis s h = rem_on c n axis.some
names_axis false n g a b c axis s h =
    record {
      from = omega (arith, ints, clamps, h.from);
      below = omega (arith, ints, clamps, h.below);
    }

-- an offset, where the reach is at most the ghost width
window_axis : (periodic there : Bool) (n g a b c o : ℤ) (reach : ℕ) → IsAxis n g → Owns n g a b
    → (there ≡ true → pos reach ≤ℤ g)
    → IsOn a b c → (not periodic && (int_lt c g || int_le (n -ℤ g) c)) ≡ false
    → IsOn (cond there (neg_ℤ (pos reach)) (pos 0)) (cond there (pos (reach + 1)) (pos 1)) o
    → Holds periodic n g a b (c +ℤ o)
window_axis true true n g a b c o reach axis s few h inner on =
    let l = few refl in
    record {
      from = omega (arith, ints, l, h.from, on.from, on.below);
      below = omega (arith, ints, l, h.below, on.from, on.below);
    }
window_axis true false n g a b c o reach axis s few h inner on = record {
  from = omega (arith, ints, axis.least_ghosts, h.from, on.from, on.below);
  below = omega (arith, ints, axis.least_ghosts, h.below, on.from, on.below);
}
window_axis false true n g a b c o reach axis s few h inner on =
    let l = few refl in
    let f = or_parts (int_lt c g) (int_le (n -ℤ g) c) inner in
    record {
      from = omega (arith, ints, clamps, l, s.from, h.from, f.0, on.from, on.below);
      below = omega (arith, ints, clamps, l, s.to, h.below, f.1, on.from, on.below);
    }
window_axis false false n g a b c o reach axis s few h inner on = record {
  from = omega (arith, ints, clamps, axis.least_ghosts, s.from, h.from, on.from, on.below);
  below = omega (arith, ints, clamps, axis.least_ghosts, s.to, h.below, on.from, on.below);
}

-- the nearest interior coordinate
source_axis : (periodic : Bool) (n g a b c : ℤ) → IsAxis n g
    → IsTrue periodic ⊎ ((pos 2 *ℤ g +ℤ pos 1) ≤ℤ n) → Owns n g a b
    → Holds periodic n g a b c
    → Holds periodic n g a b (cond periodic c (int_max g (int_min c (n -ℤ g -ℤ pos 1))))
source_axis true n g a b c axis wide s h = h
source_axis false n g a b c axis (inl w) s h = absurd cc
source_axis false n g a b c axis (inr w) s h = record {
  from = omega (
    arith,
    ints,
    clamps,
    axis.least_ghosts,
    s.from,
    s.to,
    s.some,
    s.wide,
    w,
    h.from,
    h.below,
  );
  below = omega (
    arith,
    ints,
    clamps,
    axis.least_ghosts,
    s.from,
    s.to,
    s.some,
    s.wide,
    w,
    h.from,
    h.below,
  );
}

-- ---- all directions

-- what holds of all elements holds of each
pub each_passes : {A : Type 0} (test : A → Bool) (xs : List A) → list_all test xs ≡ true
    → (i : ℕ) (d : A) → i < length xs → test (get_or xs i d) ≡ true
each_passes test [] h i d l = absurd (omega arith)
each_passes test (x ∷ xs) h zero d l = (and_parts (test x) (list_all test xs) h).0
each_passes test (x ∷ xs) h (suc i) d l =
    each_passes test xs (and_parts (test x) (list_all test xs) h).1 i d (omega arith)

-- the reach in a direction that the grid has
few_there : (s : Shape) (reach d : ℕ) → within_ghosts s reach ≡ true → nat_lt d s.dims ≡ true
    → pos reach ≤ℤ along s.ghost_ d
few_there s reach d h there =
    let l : d < s.dims = ltb-true d s.dims there in
    let e : get_or (range_with_len 0 s.dims) d d ≡ d =
    get_or-range_with_len 0 s.dims d d l ∙ omega arith in
    let m = length-range_with_len 0 s.dims in
    let test = λ (c : ℕ). int_le (pos reach) (along s.ghost_ c) in
    let t : test (get_or (range_with_len 0 s.dims) d d) ≡ true =
    each_passes test (range_with_len 0 s.dims) h d d (omega (arith, l, m)) in
    let u : int_le (pos reach) (along s.ghost_ d) ≡ true =
    subst (λ c. int_le (pos reach) (along s.ghost_ c) ≡ true) e t in
    omega (arith, ints, u)

owns : (s : Shape) (owned : Box3) (d : ℕ) → IsOwnSpan s owned d
    → Owns (along s.n d) (along s.ghost_ d) (along owned.low d) (along owned.high d)
owns s owned d h = record { from = h.from; to = h.to; some = h.some; wide = h.wide }

module _ (s : Shape) (owned local : Box3) (part : IsPart s owned local) where
  -- a part's own points are local
  pub own_local : (y : Point) → IsIn owned y → IsIn local y
  own_local y h = rw part.local_is (record {
    x = own_axis _ _ _ _ _ _ part.shape.x (owns s owned 0 part.x) h.x;
    y = own_axis _ _ _ _ _ _ part.shape.y (owns s owned 1 part.y) h.y;
    z = own_axis _ _ _ _ _ _ part.shape.z (owns s owned 2 part.z) h.z;
  })

  -- a local point names a point of the grid
  pub names_grid : (y : Point) → IsIn local y → IsIn (whole s) (wrap s y)
  names_grid y h =
      let on = rw part.local_is at h in
      record {
        x = names_axis _ _ _ _ _ _ part.shape.x (owns s owned 0 part.x) on.x;
        y = names_axis _ _ _ _ _ _ part.shape.y (owns s owned 1 part.y) on.y;
        z = names_axis _ _ _ _ _ _ part.shape.z (owns s owned 2 part.z) on.z;
      }

  -- what is seen within the ghost width from an own interior point is local
  pub window_local : (reach : ℕ) (y o : Point) → within_ghosts s reach ≡ true → IsIn owned y
      → is_boundary s y ≡ false
      → IsIn (reach_box s.dims reach) o → IsIn local (shifted y o)
  window_local reach y o few h inner on =
      let f = or_parts (in_face s 0 y.x) (in_face s 1 y.y || in_face s 2 y.z) inner in
      let g = or_parts (in_face s 1 y.y) (in_face s 2 y.z) f.1 in
      rw part.local_is (record {
        x = window_axis _ (nat_lt 0 s.dims) _ _ _ _ _ _ reach part.shape.x (owns s owned 0 part.x)
            (few_there s reach 0 few) h.x f.0 on.x;
        y = window_axis _ (nat_lt 1 s.dims) _ _ _ _ _ _ reach part.shape.y (owns s owned 1 part.y)
            (few_there s reach 1 few) h.y g.0 on.y;
        z = window_axis _ (nat_lt 2 s.dims) _ _ _ _ _ _ reach part.shape.z (owns s owned 2 part.z)
            (few_there s reach 2 few) h.z g.1 on.z;
      })

  -- the interior point next to a local one is local
  pub source_local : (y : Point) → IsIn local y → IsIn local (source s y)
  source_local y h =
      let on = rw part.local_is at h in
      rw part.local_is (record {
        x = source_axis _ _ _ _ _ _ part.shape.x part.interior.x (owns s owned 0 part.x) on.x;
        y = source_axis _ _ _ _ _ _ part.shape.y part.interior.y (owns s owned 1 part.y) on.y;
        z = source_axis _ _ _ _ _ _ part.shape.z part.interior.z (owns s owned 2 part.z) on.z;
      })
