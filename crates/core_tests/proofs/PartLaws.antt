-- The parts of a cut, as patches of one field.
use Rattle.std.proofs.Common.{◌≡◌, ℕ, zero, suc, ◌+◌, ◌<◌, List, [], ◌∷◌, ◌++◌, length, arith, refl, sym, ap, ◌∙◌, subst, ℤ, pos, ◌+ℤ◌, ◌≤ℤ◌, ◌<ℤ◌, ◌⊎◌, inl, inr, All, false, Option, Some, None, IfNone, is_some}
use Rattle.std.specs.Prelude.{slice_index_or, slice_set}
use Rattle.std.proofs.Math.ListN.{get_or-append}
use Rattle.std.proofs.lemmas.Int.{ints}
use Rattle.std.proofs.lemmas.Bool.{cases_eq}
use Rattle.std.proofs.lemmas.List.{get_or-set_same, get_or-set_other, length-set, length-append, get_or-append-add}
use Rattle.cx_cut.specs.Axis.{own_low, own_high, IsAxisCut}
use Rattle.cx_cut.specs.Cuts.{Parts, IsWhole, part_count, owned, local}
use Rattle.cx_cut.proofs.AxisFacts.{start_more, start_le}
use Rattle.cx_cut.proofs.Boxed.{place_below}
use Rattle.cx_field.specs.Patches.{PatchValue, IsPart, IsGridLevel, with_numbers}
use Rattle.cx_field.proofs.FaceLaws.{face_small}
use Rattle.cx_ghost.specs.Posts.{CanExchange}
use Rattle.core_tests.specs.Parts.{cell_vars, cell, IsPartOf, AreParts, HaveCells}

-- what a part owns of a direction
record Span (n g low high : ℤ) : Type 0 where
  from : pos 0 ≤ℤ low
  to : high ≤ℤ n
  some : low <ℤ high
  wide : (low +ℤ g) ≤ℤ high

span : (n g : ℤ) (ws : List ℕ) (a : ℕ) → IsAxisCut n g ws → a < length ws
    → Span n g (own_low ws a) (own_high ws a)
span n g ws a w l =
    let more = start_more ws a l in
    let end = start_le ws (suc a) in
    let total = w.total in
    let wide = w.wide a l in
    let some = w.some a l in
    record {
      from = omega (arith, ints);
      to = omega (arith, ints, total, end);
      some = omega (arith, ints, more, some);
      wide = omega (arith, ints, more, wide);
    }

module _ (c : Parts) (w : IsWhole c) (k : ℕ) (hk : k < part_count c) where
  pub part_is : IsPart c.shape (owned c k) (local c k)
  part_is =
      let x = span _ _ c.x _ w.cut.x (place_below c k hk 0 (omega arith)) in
      let y = span _ _ c.y _ w.cut.y (place_below c k hk 1 (omega arith)) in
      let z = span _ _ c.z _ w.cut.z (place_below c k hk 2 (omega arith)) in
      record {
        shape = w.shape;
        interior = w.interior;
        x = record { from = x.from; to = x.to; some = x.some; wide = x.wide };
        y = record { from = y.from; to = y.to; some = y.some; wide = y.wide };
        z = record { from = z.from; to = z.to; some = z.some; wide = z.wide };
        local_is = refl;
      }

  module _ (p : PatchValue) (is : IsPartOf c k p) where
    vars : p.vars ≡ cell_vars
    vars = ap (λ (q : PatchValue). q.vars) is

    one_below : 0 < 1
    one_below = omega arith

    level : IsGridLevel p (record { 0 = 0 }) 0
    level = record { var = rw vars one_below; stored = rw vars one_below; grid = rw vars refl }

    levels : All (λ v. IsGridLevel p v 0) cell
    levels zero d l = level
    levels (suc i) d l = absurd (omega (arith, l))

    pub can : (d : ℕ) → d < c.shape.dims → CanExchange c k d cell p
    can d hd =
        let h3 : d < 3 = omega (arith, hd, w.shape.most) in
        record {
          whole = w;
          part = hk;
          shape_is = ap (λ (q : PatchValue). q.shape) is;
          owned_is = ap (λ (q : PatchValue). q.owned) is;
          local_is = ap (λ (q : PatchValue). q.local) is;
          direction = hd;
          stored = record { levels = levels; differ = λ i j d a b. absurd (omega (arith, a, b)) };
          few = λ side. let small = face_small c.shape (owned c k) (local c k) part_is d h3 side in
              omega (arith, small);
        }

-- a patch with other numbers is still that of the part
pub still : (c : Parts) (k : ℕ) (old new : PatchValue) → with_numbers new old.numbers ≡ old
    → IsPartOf c k old → IsPartOf c k new
still c k old new e is = ap (λ (p : PatchValue). with_numbers p []) e ∙ is

-- one part more
pub one_more : (c : Parts) (n : ℕ) (ps : List PatchValue) (p : PatchValue) → AreParts c n ps
    → IsPartOf c n p → AreParts c (n + 1) (ps ++ p ∷ [])
one_more c n ps p are is =
    record {
      count = let count = are.count in length-append ps (p ∷ []) ∙ omega (arith, count);
      each = λ k d l. go k d l (cases_eq k n);
    }
  where
    go : (k : ℕ) (d : PatchValue) → k < n + 1 → (k ≡ n) ⊎ (k ≡ n → ⊥)
        → IsPartOf c k (slice_index_or (ps ++ p ∷ []) k d)
    go k d l (inl e) =
        let count = are.count in
        let at_end : length ps + 0 ≡ k = omega (arith, count, e) in
        subst (λ i. IsPartOf c k (slice_index_or (ps ++ p ∷ []) i d)) at_end
        (rw (get_or-append-add ps (p ∷ []) 0 d, e) is)
    go k d l (inr m) =
        let count = are.count in
        let below : k < n = omega (arith, l, m) in
        let short : k < length ps = omega (arith, below, count) in
        rw (get_or-append ps (p ∷ []) d k short) (are.each k d below)

-- one patch changed
pub one_changed : (c : Parts) (n k : ℕ) (ps : List PatchValue) (p : PatchValue) → AreParts c n ps
    → IsPartOf c k p → AreParts c n (slice_set ps k p)
one_changed c n k ps p are is =
    record {
      count = length-set ps k p ∙ are.count;
      each = λ i d l. go i d l (cases_eq i k);
    }
  where
    go : (i : ℕ) (d : PatchValue) → i < n → (i ≡ k) ⊎ (i ≡ k → ⊥)
        → IsPartOf c i (slice_index_or (slice_set ps k p) i d)
    go i d l (inl e) =
        let count = are.count in
        let short : k < length ps = omega (arith, l, e, count) in
        rw (e, get_or-set_same ps k p d short) is
    go i d l (inr m) = rw (get_or-set_other ps k i p d m) (are.each i d l)

pub have_cells : (c : Parts) (n : ℕ) (ps : List PatchValue) → AreParts c n ps → HaveCells ps
have_cells c n ps are k d l =
    let count = are.count in
    ap (λ (q : PatchValue). q.vars) (are.each k d (omega (arith, count, l)))

-- a patch of the list is that of its part
pub part_at : (c : Parts) (n : ℕ) (ps : List PatchValue) → AreParts c n ps → (k : ℕ) → k < n
    → (p : PatchValue) → p ≡ slice_index_or ps k p → IsPartOf c k p
part_at c n ps are k l p e = subst (λ (q : PatchValue). IsPartOf c k q) (sym e) (are.each k p l)

pub none_gives : {X P : Type 0} (o : Option X) → is_some o ≡ false → IfNone o P → P
none_gives None e h = h
none_gives (Some x) e h = absurd cc
