-- Which part a message goes to and comes from.
use Rattle.std.proofs.Common.{◌≡◌, ℕ, ◌<◌, Bool, true, false, refl, sym, ap, Option, Some, None, eq-eqb}
use Rattle.std.proofs.lemmas.Bool.{eqb-true}
use Rattle.cx_grid.specs.declared.shapes.Side.{Side}
use Rattle.cx_grid.specs.declared.shapes.Side.TheVariants.{Low, High}
use Rattle.cx_cut.specs.Cuts.{Parts, IsCut, part_count, neighbour}
use Rattle.cx_cut.specs.Neighbours.{partner, Neighbours}
use Rattle.cx_cut.proofs.Symmetry.{neighbour_there}
use Rattle.cx_ghost.specs.Posts.{IsBelow}
use Rattle.cx_plan.specs.Lists.{is_at}

pub at_some : (o : Option ℕ) (b : ℕ) → is_at o b ≡ true → o ≡ Some b
at_some None b e = absurd cc
at_some (Some j) b e = ap Some (eqb-true j b e)

pub some_at : (o : Option ℕ) (b : ℕ) → o ≡ Some b → is_at o b ≡ true
some_at o b e = rw e (eq-eqb b b refl)

bool_same : (x y : Bool) → (x ≡ true → y ≡ true) → (y ≡ true → x ≡ true) → x ≡ y
bool_same true y f g = sym (f refl)
bool_same false true f g = g refl
bool_same false false f g = refl

module _ (c : Parts) (law : Neighbours c) (d : ℕ) (hd : d < 3) (a k : ℕ) (ha : a < part_count c)
    (hk : k < part_count c) where
  -- part a sends part k its low face where it is part k's high neighbour, and its high face where
  -- it is the low one
  pub to_high : is_at (partner c a d Low) k ≡ is_at (partner c k d High) a
  to_high = bool_same _ _
      (λ e. some_at (partner c k d High) a
      (law.back a d Low k ha hd (at_some (partner c a d Low) k e)))
      (λ e. some_at (partner c a d Low) k
      (law.back k d High a hk hd (at_some (partner c k d High) a e)))

  pub to_low : is_at (partner c a d High) k ≡ is_at (partner c k d Low) a
  to_low = bool_same _ _
      (λ e. some_at (partner c k d Low) a
      (law.back a d High k ha hd (at_some (partner c a d High) k e)))
      (λ e. some_at (partner c a d High) k
      (law.back k d Low a hk hd (at_some (partner c k d Low) a e)))

pub neighbour_below : (c : Parts) → IsCut c → (k : ℕ) → k < part_count c → (d : ℕ) → d < 3
    → (side : Side) (o : Option ℕ) → o ≡ neighbour c k d side → IsBelow (part_count c) o
neighbour_below c w k l d hd side None e = tt
neighbour_below c w k l d hd side (Some j) e = neighbour_there c w k l d hd side j (sym e)
