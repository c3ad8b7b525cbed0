-- What is sent is taken by the next operation of the partner, and nothing else is taken.
use Rattle.std.proofs.Common.{◌≡◌, ℕ, zero, suc, ◌+◌, ◌<◌, Bool, true, false, List, [], ◌∷◌, ◌++◌, length, refl, sym, ap, Option, Some, None, ◌==◌, ◌&&◌, eq-eqb, cond}
use Rattle.std.proofs.lemmas.Bool.{eqb-true, lt-ltb}
use Rattle.std.specs.Prelude.{if◌then◌else◌}
use Rattle.cx_plan.specs.declared.variable.VarId.{VarId}
use Rattle.cx_plan.specs.Setups.{Setup}
use Rattle.cx_flat.specs.declared.op.Op.{Op}
use Rattle.cx_flat.specs.declared.op.Op.TheVariants.{Sweep, Apply, Give, Join, Post, Take, Test, Open, Turn, Again, Rotate, Due, Written, Skip, Next, Piece, Save, Halt}
use Rattle.cx_flat.specs.Flats.{Exchange, Onward, begins_pair, ends_pair}
use Rattle.cx_grid.specs.declared.shapes.Side.{Side}
use Rattle.cx_grid.specs.declared.shapes.Side.TheVariants.{Low, High}
use Rattle.cx_cut.specs.Neighbours.{partner, Neighbours}
use Rattle.law_parts.specs.Moves.{Channel, sender, receiver, is_there}
use Rattle.law_parts.specs.Runs.{Run, parts_in, cut_of}
use Rattle.cx_cut.specs.Exchange.{other}
use Rattle.cx_plan.specs.Lists.{only, is_at}

-- ---- what a pair tells of operations

pub ends_onward : (o : Op) (d : ℕ) (vars : List VarId) → ends_pair o ≡ Some (Onward d vars)
    → o ≡ Post d vars
ends_onward (Sweep k) d vars h = absurd cc
ends_onward (Apply k) d vars h = absurd cc
ends_onward (Give k) d vars h = absurd cc
ends_onward (Join k) d vars h = absurd cc
ends_onward (Post zero us) d vars h = absurd cc
ends_onward (Post (suc e) us) d vars h = cc
ends_onward (Take e us q) d vars h = absurd cc
ends_onward (Test v q s) d vars h = absurd cc
ends_onward Open d vars h = absurd cc
ends_onward (Turn v q s) d vars h = absurd cc
ends_onward (Again b) d vars h = absurd cc
ends_onward Rotate d vars h = absurd cc
ends_onward (Due s) d vars h = absurd cc
ends_onward (Written s) d vars h = absurd cc
ends_onward (Skip s) d vars h = absurd cc
ends_onward (Next b) d vars h = absurd cc
ends_onward (Piece v) d vars h = absurd cc
ends_onward Save d vars h = absurd cc
ends_onward Halt d vars h = absurd cc

pub begins_exchange : (setup : Setup) (o : Op) (d : ℕ) (vars : List VarId)
    → begins_pair setup o ≡ Some (Exchange d vars) → o ≡ Post d vars
begins_exchange setup (Sweep k) d vars h = absurd cc
begins_exchange setup (Apply k) d vars h = absurd cc
begins_exchange setup (Give k) d vars h = absurd cc
begins_exchange setup (Join k) d vars h = absurd cc
begins_exchange setup (Post e us) d vars h = cc
begins_exchange setup (Take e us q) d vars h = go (suc e == setup.shape.dims) h
  where
    go : (b : Bool) → (if b then None else Some (Onward (suc e) us)) ≡ Some (Exchange d vars)
        → Take e us q ≡ Post d vars
    go true h = absurd cc
    go false h = absurd cc
begins_exchange setup (Test v q s) d vars h = absurd cc
begins_exchange setup Open d vars h = absurd cc
begins_exchange setup (Turn v q s) d vars h = absurd cc
begins_exchange setup (Again b) d vars h = absurd cc
begins_exchange setup Rotate d vars h = absurd cc
begins_exchange setup (Due s) d vars h = absurd cc
begins_exchange setup (Written s) d vars h = absurd cc
begins_exchange setup (Skip s) d vars h = absurd cc
begins_exchange setup (Next b) d vars h = absurd cc
begins_exchange setup (Piece v) d vars h = absurd cc
begins_exchange setup Save d vars h = absurd cc
begins_exchange setup Halt d vars h = absurd cc

same_cond : (b : Bool) → ◌≡◌ {A = ℕ} (cond b 0 0) 0
same_cond true = refl
same_cond false = refl

-- ---- sender and receiver

at_some : (o : Option ℕ) (b : ℕ) → is_at o b ≡ true → o ≡ Some b
at_some None b e = absurd cc
at_some (Some j) b e = ap Some (eqb-true j b e)

pub some_at : (o : Option ℕ) (b : ℕ) → o ≡ Some b → is_at o b ≡ true
some_at o b e = rw e (eq-eqb b b refl)

pub bool_same : (x y : Bool) → (x ≡ true → y ≡ true) → (y ≡ true → x ≡ true) → x ≡ y
bool_same true y f g = sym (f refl)
bool_same false true f g = g refl
bool_same false false f g = refl

other_again : (side : Side) → other (other side) ≡ side
other_again Low = refl
other_again High = refl

module _ (r : Run) (law : Neighbours (cut_of r)) (d : ℕ) (hd : d < 3) where
  -- a part takes at a side exactly where the other one sends from its other side
  pub both_ways : (a b : ℕ) → a < parts_in r → b < parts_in r → (side : Side)
      → is_at (partner (cut_of r) b d side) a ≡ is_at (partner (cut_of r) a d (other side)) b
  both_ways a b ha hb side = bool_same _ _
      (λ t. some_at _ b (law.back b d side a hb hd (at_some _ a t)))
      (λ t. some_at _ a (again (law.back a d (other side) b ha hd (at_some _ b t))))
    where
      again : partner (cut_of r) b d (other (other side)) ≡ Some a
          → partner (cut_of r) b d side ≡ Some a
      again e = let o = other_again side in rw o at e

  counted : {M : Type 0} (x y : Bool) (m n : M)
      → (cond x 1 0 + cond y 1 0) ≡ length (only x (m ∷ []) ++ only y (n ∷ []))
  counted true true m n = refl
  counted true false m n = refl
  counted false true m n = refl
  counted false false m n = refl

-- ---- the pairs of a run

pub and_left : (x y : Bool) → (x && y) ≡ true → x ≡ true
and_left true y e = refl
and_left false y e = e

pub and_right : (x y : Bool) → (x && y) ≡ true → y ≡ true
and_right true y e = e
and_right false y e = absurd cc

pub are_there : (r : Run) (c : Channel) → sender c < parts_in r → receiver c < parts_in r
    → is_there r c ≡ true
are_there r c a b = let x = lt-ltb (sender c) (parts_in r) a in
    let y = lt-ltb (receiver c) (parts_in r) b in rw (x, y) refl
