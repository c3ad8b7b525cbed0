-- What a cut owes of a part follows from its owned and local ends, direction by direction.
use Rattle.std.proofs.Common.{◌≡◌, ℕ, ◌+◌, ◌<◌, Bool, true, false, not, ◌&&◌, ◌||◌, refl, ◌∙◌, subst, arith, cond, ℤ, pos, neg_ℤ, ◌+ℤ◌, ◌-ℤ◌, ◌*ℤ◌, ◌≤ℤ◌, int_le, int_lt, get_or}
use Rattle.std.specs.Prelude.{nat_lt}
use Rattle.std.specs.List.{range_with_len}
use Rattle.std.specs.Int.{int_rem_euclid, int_min, int_max}
use Rattle.std.proofs.lemmas.Int.{ints, clamps}
use Rattle.std.proofs.lemmas.Bool.{or_parts, ltb-true}
use Rattle.std.proofs.lemmas.List.FromFn.{get_or-range_with_len, length-range_with_len}
use Rattle.cx_grid.specs.declared.boxes.Box3.{Box3}
use Rattle.cx_grid.specs.declared.shapes.Shape.{Shape}
use Rattle.cx_grid.specs.Boxes.{along, IsOn}
use Rattle.cx_grid.specs.Grid.{IsAxis, IsShape, is_periodic, in_face}
use Rattle.cx_plan.specs.Regions.{within_ghosts}
use Rattle.cx_cut.specs.Cuts.{Parts, owned, local}
use Rattle.cx_grid.proofs.WrapLaws.{rem_on}
use Rattle.law_parts.proofs.ZoneLaws.{Lies, all_places}

-- of one direction: n points and ghost width g, owned from a on and below b, local from c on and
-- below e
pub record IsPartAxis (periodic : Bool) (n g a b c e : ℤ) : Type 0 where
  pub from : pos 0 ≤ℤ a
  pub to : b ≤ℤ n
  pub some : (a +ℤ pos 1) ≤ℤ b
  pub wide : (a +ℤ g) ≤ℤ b
  pub inner : periodic ≡ false → (pos 2 *ℤ g +ℤ pos 1) ≤ℤ n
  pub low : c ≡ cond periodic (a -ℤ g) (int_max (pos 0) (a -ℤ g))
  pub high : e ≡ cond periodic (b +ℤ g) (int_min n (b +ℤ g))

pub record IsPart (s : Shape) (owned near : Box3) : Type 0 where
  pub x : IsPartAxis (is_periodic s 0)
      s.n.x s.ghost_.x owned.low.x owned.high.x near.low.x near.high.x
  pub y : IsPartAxis (is_periodic s 1)
      s.n.y s.ghost_.y owned.low.y owned.high.y near.low.y near.high.y
  pub z : IsPartAxis (is_periodic s 2)
      s.n.z s.ghost_.z owned.low.z owned.high.z near.low.z near.high.z

own_axis : (periodic : Bool) (n g a b c e p : ℤ) → IsAxis n g → IsPartAxis periodic n g a b c e
    → IsOn a b p → IsOn c e p
own_axis true n g a b c e p axis s h =
    record {
      from = omega (arith, ints, axis.least_ghosts, s.low, h.from);
      below = omega (arith, ints, axis.least_ghosts, s.high, h.below);
    }
own_axis false n g a b c e p axis s h = record {
  from = omega (arith, ints, clamps, axis.least_ghosts, s.low, s.from, h.from);
  below = omega (arith, ints, clamps, axis.least_ghosts, s.high, s.to, h.below);
}

names_axis : (periodic : Bool) (n g a b c e p : ℤ) → IsAxis n g → IsPartAxis periodic n g a b c e
    → IsOn c e p → IsOn (pos 0) n (cond periodic (int_rem_euclid p n) p)
names_axis true n g a b c e p axis s h = rem_on p n axis.some
names_axis false n g a b c e p axis s h =
    record {
      from = omega (arith, ints, clamps, s.low, h.from);
      below = omega (arith, ints, clamps, s.high, h.below);
    }

-- an offset of a direction, where the reach is at most the ghost width
window_axis : (periodic there : Bool) (n g a b c e p o : ℤ) (reach : ℕ) → IsAxis n g
    → IsPartAxis periodic n g a b c e → (there ≡ true → pos reach ≤ℤ g) → IsOn a b p
    → (not periodic && (int_lt p g || int_le (n -ℤ g) p)) ≡ false
    → IsOn (cond there (neg_ℤ (pos reach)) (pos 0)) (cond there (pos (reach + 1)) (pos 1)) o
    → IsOn c e (p +ℤ o)
window_axis true true n g a b c e p o reach axis s few h inner on =
    let l = few refl in
    record {
      from = omega (arith, ints, l, s.low, h.from, on.from, on.below);
      below = omega (arith, ints, l, s.high, h.below, on.from, on.below);
    }
window_axis true false n g a b c e p o reach axis s few h inner on =
    record {
      from = omega (arith, ints, axis.least_ghosts, s.low, h.from, on.from, on.below);
      below = omega (arith, ints, axis.least_ghosts, s.high, h.below, on.from, on.below);
    }
window_axis false true n g a b c e p o reach axis s few h inner on =
    let l = few refl in
    let f = or_parts (int_lt p g) (int_le (n -ℤ g) p) inner in
    record {
      from = omega (arith, ints, clamps, l, s.low, s.from, h.from, f.0, on.from, on.below);
      below = omega (arith, ints, clamps, l, s.high, s.to, h.below, f.1, on.from, on.below);
    }
window_axis false false n g a b c e p o reach axis s few h inner on =
    record {
      from = omega (
        arith,
        ints,
        clamps,
        axis.least_ghosts,
        s.low,
        s.from,
        h.from,
        on.from,
        on.below,
      );
      below = omega (
        arith,
        ints,
        clamps,
        axis.least_ghosts,
        s.high,
        s.to,
        h.below,
        on.from,
        on.below,
      );
    }

source_axis : (periodic : Bool) (n g a b c e p : ℤ) → IsAxis n g → IsPartAxis periodic n g a b c e
    → IsOn c e p → IsOn c e (cond periodic p (int_max g (int_min p (n -ℤ g -ℤ pos 1))))
source_axis true n g a b c e p axis s h = h
source_axis false n g a b c e p axis s h =
    let w = s.inner refl in
    record {
      from = omega (
        arith,
        ints,
        clamps,
        axis.least_ghosts,
        s.low,
        s.high,
        s.from,
        s.to,
        s.some,
        s.wide,
        w,
        h.from,
        h.below,
      );
      below = omega (
        arith,
        ints,
        clamps,
        axis.least_ghosts,
        s.low,
        s.high,
        s.from,
        s.to,
        s.some,
        s.wide,
        w,
        h.from,
        h.below,
      );
    }

-- the reach in a direction that the grid has
few_there : (s : Shape) (reach d : ℕ) → within_ghosts s reach ≡ true → nat_lt d s.dims ≡ true
    → pos reach ≤ℤ along s.ghost_ d
few_there s reach d h there =
    let l : d < s.dims = ltb-true d s.dims there in
    let e : get_or (range_with_len 0 s.dims) d d ≡ d =
    get_or-range_with_len 0 s.dims d d l ∙ omega arith in
    let t = all_places (λ c. int_le (pos reach) (along s.ghost_ c)) (range_with_len 0 s.dims) h d d
    (let m = length-range_with_len 0 s.dims in omega (arith, l, m)) in
    let u : int_le (pos reach) (along s.ghost_ d) ≡ true =
    subst (λ c. int_le (pos reach) (along s.ghost_ c) ≡ true) e t in
    omega (arith, ints, u)

pub part_lies : (s : Shape) (cut : Parts) (k : ℕ) → IsShape s → IsPart s (owned cut k) (local cut k)
    → Lies s cut k
part_lies s cut k shape part =
    record {
      own = λ p h. record {
        x = own_axis _ _ _ _ _ _ _ _ shape.x part.x h.x;
        y = own_axis _ _ _ _ _ _ _ _ shape.y part.y h.y;
        z = own_axis _ _ _ _ _ _ _ _ shape.z part.z h.z;
      };
      names = λ p h. record {
        x = names_axis _ _ _ _ _ _ _ _ shape.x part.x h.x;
        y = names_axis _ _ _ _ _ _ _ _ shape.y part.y h.y;
        z = names_axis _ _ _ _ _ _ _ _ shape.z part.z h.z;
      };
      window = λ reach p o w h inner on.
          let f = or_parts (in_face s 0 p.x) (in_face s 1 p.y || in_face s 2 p.z) inner in
          let g = or_parts (in_face s 1 p.y) (in_face s 2 p.z) f.1 in
          record {
            x = window_axis _ (nat_lt 0 s.dims) _ _ _ _ _ _ _ _ reach shape.x part.x
                (few_there s reach 0 w) h.x f.0 on.x;
            y = window_axis _ (nat_lt 1 s.dims) _ _ _ _ _ _ _ _ reach shape.y part.y
                (few_there s reach 1 w) h.y g.0 on.y;
            z = window_axis _ (nat_lt 2 s.dims) _ _ _ _ _ _ _ _ reach shape.z part.z
                (few_there s reach 2 w) h.z g.1 on.z;
          };
      source_is = λ p h b. record {
        x = source_axis _ _ _ _ _ _ _ _ shape.x part.x h.x;
        y = source_axis _ _ _ _ _ _ _ _ shape.y part.y h.y;
        z = source_axis _ _ _ _ _ _ _ _ shape.z part.z h.z;
      };
    }
