-- As many numbers are taken as are sent, and they have the same sum.
use Rattle.std.proofs.Common.{◌≡◌, ℕ, zero, suc, ◌+◌, ◌*◌, ◌<◌, ◌≤◌, Bool, true, false, List, [], ◌∷◌, length, arith, refl, sym, ap, ◌∙◌, Option, Some, None, cond, eqb, ◌⊎◌, inl, inr}
use Rattle.std.specs.Prelude.{is_some}
use Rattle.std.proofs.lemmas.Bool.{cases_eq, ne_eqb, eq-eqb}
use Rattle.cx_grid.specs.Boxes.{point_count, numbers_in}
use Rattle.cx_plan.specs.declared.variable.VarId.{VarId}
use Rattle.cx_model.specs.States.{State}
use Rattle.cx_model.specs.Turns.{values_of}
use Rattle.cx_model.specs.Traces.{Exchanged}
use Rattle.cx_flat.specs.declared.op.Op.TheVariants.{Take}
use Rattle.cx_grid.specs.declared.shapes.Side.{Side}
use Rattle.cx_grid.specs.declared.shapes.Side.TheVariants.{Low, High}
use Rattle.cx_cut.specs.Cuts.{face_of, halo_of}
use Rattle.cx_cut.specs.Neighbours.{partner, Neighbours}
use Rattle.law_parts.specs.Runs.{Run, parts_in, cut_of}
use Rattle.law_parts.specs.Nets.{side_values, values_of_op}
use Rattle.law_parts.specs.Work.{side_count, side_sum, over_variables, entry_count, entry_sum}
use Rattle.cx_cut.specs.Exchange.{other}
use Rattle.law_parts.proofs.Counts.{face_sum, taken_sum, posted_sum, from_partner}
use Rattle.cx_cut.proofs.NeighbourLaws.{same_size}
use Rattle.law_parts.proofs.PairLaws.{both_ways}
use Rattle.law_network.specs.Machine.{sum_below}
use Rattle.cx_plan.specs.Lists.{is_at}
use Rattle.cx_text.specs.Numbers.{word_sum}

-- ---- sums

pub sum_same : (n : ℕ) (f g : ℕ → ℕ) → ((i : ℕ) → i < n → f i ≡ g i) → sum_below n f ≡ sum_below n g
sum_same zero f g h = refl
sum_same (suc n) f g h = rw (sum_same n f g (λ i l. h i (omega (arith, l))), h n (omega arith)) refl

four : (a b c d : ℕ) → (a + b) + (c + d) ≡ (a + c) + (b + d)
four a b c d = omega arith

pub sum_add : (n : ℕ) (f g : ℕ → ℕ) → sum_below n (λ i. f i + g i) ≡ sum_below n f + sum_below n g
sum_add zero f g = refl
sum_add (suc n) f g = rw (sum_add n f g) (four (sum_below n f) (sum_below n g) (f n) (g n))

pub sum_none : (n : ℕ) → sum_below n (λ i. 0) ≡ 0
sum_none zero = refl
sum_none (suc n) = rw (sum_none n) refl

-- the order of two sums is of no account
pub sum_swap : (n m : ℕ) (f : ℕ → ℕ → ℕ)
    → sum_below n (λ i. sum_below m (f i)) ≡ sum_below m (λ j. sum_below n (λ i. f i j))
sum_swap zero m f = sym (sum_none m)
sum_swap (suc n) m f = ap (λ z. z + sum_below m (f n)) (sum_swap n m f)
    ∙ sym (sum_add m (λ j. sum_below n (λ i. f i j)) (f n))

-- one of several
sum_beyond : (n j : ℕ) (f : ℕ → ℕ) → n ≤ j → sum_below n (λ i. cond (eqb j i) (f i) 0) ≡ 0
sum_beyond zero j f h = refl
sum_beyond (suc n) j f h =
    let other_one = ne_eqb j n (λ e. omega (arith, e, h)) in
    let rest = sum_beyond n j f (omega (arith, h)) in
    rw (other_one, rest) refl

pub sum_one : (n j : ℕ) (f : ℕ → ℕ) → j < n → sum_below n (λ i. cond (eqb j i) (f i) 0) ≡ f j
sum_one zero j f h = absurd (omega (arith, h))
sum_one (suc n) j f h = go (cases_eq j n) (sum_one n j f)
  where
    plain : (a : ℕ) → 0 + a ≡ a
    plain a = omega arith

    plain_right : (a : ℕ) → a + 0 ≡ a
    plain_right a = omega arith

    go : (j ≡ n) ⊎ (j ≡ n → ⊥) → (j < n → sum_below n (λ i. cond (eqb j i) (f i) 0) ≡ f j)
        → sum_below (suc n) (λ i. cond (eqb j i) (f i) 0) ≡ f j
    go (inl e) ih =
        let yes = eq-eqb j n e in
        let rest = sum_beyond n j f (omega (arith, e)) in
        rw (rest, yes) (plain (f n) ∙ ap f (sym e))
    go (inr r) ih = let no = ne_eqb j n r in let here = ih (omega (arith, h, r)) in
        rw (no, here) (plain_right (f j))

-- ---- counts

over_add : (f g : VarId → ℕ) (vars : List VarId)
    → over_variables (λ v. f v + g v) vars ≡ over_variables f vars + over_variables g vars
over_add f g [] = refl
over_add f g (v ∷ vars) =
    rw (over_add f g vars) (four (f v) (g v) (over_variables f vars) (over_variables g vars))

over_none : (vars : List VarId) → over_variables (λ v. 0) vars ≡ 0
over_none [] = refl
over_none (v ∷ vars) = rw (over_none vars) refl

pub over_swap : (n : ℕ) (f : ℕ → VarId → ℕ) (vars : List VarId)
    → sum_below n (λ i. over_variables (f i) vars)
    ≡ over_variables (λ v. sum_below n (λ i. f i v)) vars
over_swap zero f vars = sym (over_none vars)
over_swap (suc n) f vars =
    ap (λ z. z + over_variables (f n) vars) (over_swap n f vars)
    ∙ sym (over_add (λ v. sum_below n (λ i. f i v)) (f n) vars)

over_length : (n : ℕ) (vars : List VarId) → length vars * n ≡ over_variables (λ v. n) vars
over_length n [] = omega arith
over_length n (v ∷ vars) = let e : suc (length vars) * n ≡ n + length vars * n = omega arith in
    e ∙ ap (λ z. n + z) (over_length n vars)

module _ (r : Run) (vars : List VarId) where
  side_is : (k d : ℕ) (side : Side)
      → side_values r k d side vars
      ≡ over_variables (λ v. side_count r.setup (cut_of r) k d side) vars
  side_is k d side = go (is_some (partner (cut_of r) k d side))
    where
      go : (b : Bool) → cond b (length vars * point_count (halo_of (cut_of r) k d side)) 0
          ≡ over_variables (λ v. cond b (point_count (face_of (cut_of r) k d side)) 0) vars
      go true = ap (λ n. length vars * n) (sym (same_size (cut_of r) k d side))
          ∙ over_length (point_count (face_of (cut_of r) k d side)) vars
      go false = sym (over_none vars)

  -- what all parts receive in all directions of an exchange is what its entry counts: the faces
  -- that are sent
  pub exchange_count : (path : List ℕ) (state : State)
      → sum_below r.setup.shape.dims
      (λ d. sum_below (parts_in r) (λ k. values_of_op r k (Take d vars path)))
      ≡ entry_count r.setup (cut_of r) (Exchanged vars path state)
  exchange_count path state =
      sum_same r.setup.shape.dims _ _ (λ d l.
      sum_same (parts_in r) _ _
      (λ k m. (rw (side_is k d Low, side_is k d High) refl)
      ∙ sym (over_add (λ v. side_count r.setup (cut_of r) k d Low)
      (λ v. side_count r.setup (cut_of r) k d High) vars))
      ∙ over_swap (parts_in r)
      (λ k v. side_count r.setup (cut_of r) k d Low + side_count r.setup (cut_of r) k d High)
      vars)
      ∙ over_swap r.setup.shape.dims
      (λ d v. sum_below (parts_in r)
      (λ k. side_count r.setup (cut_of r) k d Low + side_count r.setup (cut_of r) k d High))
      vars

-- ---- sums of values

module _ (r : Run) (law : Neighbours (cut_of r)) (d : ℕ) (hd : d < 3) (f : ℕ → Side → ℕ) where
  -- a partner is one of the parts
  from_one : (k : ℕ) → k < parts_in r → (side : Side) (g : ℕ → ℕ)
      → from_partner (partner (cut_of r) k d side) g
      ≡ sum_below (parts_in r) (λ j. cond (is_at (partner (cut_of r) k d side) j) (g j) 0)
  from_one k l side g = go (partner (cut_of r) k d side) refl
    where
      go : (o : Option ℕ) → partner (cut_of r) k d side ≡ o
          → from_partner o g ≡ sum_below (parts_in r) (λ j. cond (is_at o j) (g j) 0)
      go None e = sym (sum_none (parts_in r))
      go (Some j) e = sym (sum_one (parts_in r) j g (law.there k d side j l hd e))

  to_one : (j : ℕ) → j < parts_in r → (side : Side) (n : ℕ)
      → sum_below (parts_in r) (λ k. cond (is_at (partner (cut_of r) j d side) k) n 0)
      ≡ cond (is_some (partner (cut_of r) j d side)) n 0
  to_one j l side n = go (partner (cut_of r) j d side) refl
    where
      go : (o : Option ℕ) → partner (cut_of r) j d side ≡ o
          → sum_below (parts_in r) (λ k. cond (is_at o k) n 0) ≡ cond (is_some o) n 0
      go None e = sum_none (parts_in r)
      go (Some k) e = sum_one (parts_in r) k (λ i. n) (law.there j d side k l hd e)

  -- whatever numbers faces have: over all parts, what is taken at a side is what is sent from the
  -- other one
  pub all_sent : (side : Side)
      → sum_below (parts_in r)
      (λ k. from_partner (partner (cut_of r) k d side) (λ j. f j (other side)))
      ≡ sum_below (parts_in r)
      (λ j. cond (is_some (partner (cut_of r) j d (other side))) (f j (other side)) 0)
  all_sent side =
      sum_same (parts_in r) _ _ (λ k l. from_one k l side (λ j. f j (other side)))
      ∙ sum_swap (parts_in r) (parts_in r)
      (λ k j. cond (is_at (partner (cut_of r) k d side) j) (f j (other side)) 0)
      ∙ sum_same (parts_in r) _ _
      (λ j h. sum_same (parts_in r) _ _
      (λ k l. ap (λ b. cond b (f j (other side)) 0) (both_ways r law d hd j k h l side))
      ∙ to_one j h (other side) (f j (other side)))

module _ (r : Run) (law : Neighbours (cut_of r)) (few : r.setup.shape.dims ≤ 3) (state : State)
    (vars : List VarId) where
  pub taken_is_posted : (d : ℕ) → d < 3
      → sum_below (parts_in r)
      (λ k. taken_sum r state vars d k Low + taken_sum r state vars d k High)
      ≡ sum_below (parts_in r)
      (λ k. posted_sum r state vars d k Low + posted_sum r state vars d k High)
  taken_is_posted d hd =
      let low = all_sent r law d hd (face_sum r state vars d) Low in
      let high = all_sent r law d hd (face_sum r state vars d) High in
      sum_add (parts_in r) (λ k. taken_sum r state vars d k Low)
      (λ k. taken_sum r state vars d k High)
      ∙ (rw (low, high) (turn (sum_below (parts_in r) (λ k. posted_sum r state vars d k High))
      (sum_below (parts_in r) (λ k. posted_sum r state vars d k Low))))
      ∙ sym (sum_add (parts_in r) (λ k. posted_sum r state vars d k Low)
      (λ k. posted_sum r state vars d k High))
    where
      turn : (a b : ℕ) → a + b ≡ b + a
      turn a b = omega arith

  posted_is : (d k : ℕ) (side : Side)
      → posted_sum r state vars d k side
      ≡ over_variables (λ v. side_sum r.setup (cut_of r) state v k d side) vars
  posted_is d k side = go (is_some (partner (cut_of r) k d side))
    where
      go : (b : Bool) → cond b (face_sum r state vars d k side) 0
          ≡ over_variables (λ v.
          cond b (word_sum (numbers_in (face_of (cut_of r) k d side) (values_of r.setup state v 0)))
          0) vars
      go true = refl
      go false = sym (over_none vars)

  -- the values that all parts take in all directions have the sum of the exchange's entry
  pub exchange_sum : (path : List ℕ)
      → sum_below r.setup.shape.dims
      (λ d. sum_below (parts_in r)
      (λ k. taken_sum r state vars d k Low + taken_sum r state vars d k High))
      ≡ entry_sum r.setup (cut_of r) (Exchanged vars path state)
  exchange_sum path =
      sum_same r.setup.shape.dims _ _ (λ d l.
      taken_is_posted d (omega (arith, l, few))
      ∙ sum_same (parts_in r) _ _
      (λ k m. (rw (posted_is d k Low, posted_is d k High) refl)
      ∙ sym (over_add (λ v. side_sum r.setup (cut_of r) state v k d Low)
      (λ v. side_sum r.setup (cut_of r) state v k d High) vars))
      ∙ over_swap (parts_in r)
      (λ k v. side_sum r.setup (cut_of r) state v k d Low
      + side_sum r.setup (cut_of r) state v k d High) vars)
      ∙ over_swap r.setup.shape.dims
      (λ d v. sum_below (parts_in r)
      (λ k. side_sum r.setup (cut_of r) state v k d Low
      + side_sum r.setup (cut_of r) state v k d High)) vars
