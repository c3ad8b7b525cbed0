-- Staged numbers set at once.
use Rattle.std.proofs.Common.{◌≡◌, ℕ, zero, suc, ◌-◌, ◌<◌, ◌≤◌, ◌⊎◌, inl, inr, Bool, true, false, not, if◌then◌else◌, arith, refl, sym, ap, ◌∙◌, ℤ, pos, List, [], ◌∷◌, length, take, map, get_or, Some, eq-eqb}
use Rattle.std.proofs.Math.Path.{fun_ext}
use Rattle.std.specs.Prelude.{slice_index_or, ◌==◌}
use Rattle.std.specs.List.{range_with_len, list_all, list_any}
use Rattle.std.proofs.lemmas.List.{get_or-map, get_or-take}
use Rattle.std.proofs.lemmas.List.FromFn.{fill_by_all}
use Rattle.std.proofs.lemmas.List.Folds.{list_any_at}
use Rattle.std.proofs.lemmas.Bool.{cases_eq, and_parts}
use Rattle.cx_grid.specs.declared.boxes.Point.{Point}
use Rattle.cx_grid.specs.declared.boxes.Box3.{Box3}
use Rattle.cx_grid.specs.Boxes.{point_count, point_in, numbers_in, index_in}
use Rattle.cx_plan.specs.declared.item.Touch.{Touch}
use Rattle.cx_plan.specs.Regions.{are_distinct, same_level}
use Rattle.cx_rule.specs.States.{level_of}
use Rattle.cx_rule.specs.Sweeps.{number_or, level_after}
use Rattle.cx_rule.specs.Patches.{PatchValue, IsGridLevel, values_in}
use Rattle.cx_rule.specs.Staging.{mixed_at, numbers_staged}
use Rattle.cx_rule.specs.Zones.{in_zone}
use Rattle.cx_rule.specs.declared.zone.Zone.{Zone}

-- ---- a level set at a zone's points

pub record ZoneTo (b : Box3) (zone : Zone) (within old now : List ℤ) (i : ℕ) : Type 0 where
  pub count : length now ≡ length old
  pub done : (j : ℕ) → j < i → j < point_count b
      → slice_index_or now j (pos 0) ≡ mixed_at b zone within old (point_in b j)
  pub rest : (j : ℕ) → i ≤ j → slice_index_or now j (pos 0) ≡ slice_index_or old j (pos 0)

pub zone_none : (b : Box3) (zone : Zone) (within old : List ℤ) → ZoneTo b zone within old old 0
zone_none b zone within old =
    record { count = refl; done = λ j l. absurd (omega (arith, l)); rest = λ j l. refl }

pub zone_all : (b : Box3) (zone : Zone) (within old now : List ℤ) (n : ℕ) → n ≡ point_count b
    → length old ≡ point_count b → ZoneTo b zone within old now n
    → now ≡ numbers_in b (mixed_at b zone within old)
zone_all b zone within old now n e room f =
    fill_by_all (λ j. mixed_at b zone within old (point_in b j)) now (point_count b) (pos 0)
    (f.count ∙ room) (λ j l. f.done j (rw e l) l)

-- ---- a whole list tested point by point

abbrev pub rest_of_points : Box3 → ℕ → List Point
rest_of_points b i = map (point_in b) (range_with_len i (point_count b - i))

pub tested_none : (b : Box3) (test : Point → Bool) (i : ℕ) → i ≡ point_count b
    → list_all test (rest_of_points b i) ≡ true
tested_none b test i e =
    let z : point_count b - i ≡ 0 = omega (arith, e) in
    rw z refl

-- ---- staged numbers

pub staged_number : (buffers : List (List ℤ)) (count at k : ℕ) (d : ℤ) → k < count
    → count ≤ length buffers
    → get_or (numbers_staged buffers count at) k d
    ≡ slice_index_or (slice_index_or buffers k []) at (pos 0)
staged_number buffers count at k d h l =
    let long : k < length (take count buffers) = shorter buffers count k h l in
    get_or-map (λ buffer. slice_index_or buffer at (pos 0)) (take count buffers) k [] d long
    ∙ ap (λ buffer. slice_index_or buffer at (pos 0)) (get_or-take count buffers k [] h)
  where
    shorter : (bs : List (List ℤ)) (n k : ℕ) → k < n → n ≤ length bs → k < length (take n bs)
    shorter [] n k h l = absurd (omega (arith, h, l))
    shorter (b ∷ bs) zero k h l = absurd (omega (arith, h))
    shorter (b ∷ bs) (suc n) zero h l = omega arith
    shorter (b ∷ bs) (suc n) (suc k) h l = let r =
        shorter bs n k (omega (arith, h)) (omega (arith, l)) in omega (arith, r)

-- ---- levels

-- two writes of which no level is the same
pub distinct_at : (ws : List Touch) (d : Touch) → are_distinct ws ≡ true → (i j : ℕ) → i < j
    → j < length ws
    → ((get_or ws j d).var.0 ≡ (get_or ws i d).var.0 → ⊥)
    ⊎ ((get_or ws j d).level ≡ (get_or ws i d).level → ⊥)
distinct_at [] d e i j h l = absurd (omega (arith, l))
distinct_at (w ∷ ws) d e i zero h l = absurd (omega (arith, h))
distinct_at (w ∷ ws) d e zero (suc j) h l =
    let first = (and_parts (not (list_any (same_level w) ws)) (are_distinct ws) e).0 in
    go (cases_eq (get_or ws j d).var.0 w.var.0) (cases_eq (get_or ws j d).level w.level)
  where
    go : ((get_or ws j d).var.0 ≡ w.var.0) ⊎ ((get_or ws j d).var.0 ≡ w.var.0 → ⊥)
        → ((get_or ws j d).level ≡ w.level) ⊎ ((get_or ws j d).level ≡ w.level → ⊥)
        → ((get_or ws j d).var.0 ≡ w.var.0 → ⊥) ⊎ ((get_or ws j d).level ≡ w.level → ⊥)
    go (inr a) b = inl a
    go (inl a) (inr b) = inr b
    go (inl a) (inl b) =
        let u : (w.var.0 == (get_or ws j d).var.0) ≡ true =
        eq-eqb w.var.0 (get_or ws j d).var.0 (sym a) in
        let v : (w.level == (get_or ws j d).level) ≡ true =
        eq-eqb w.level (get_or ws j d).level (sym b) in
        let s : same_level w (get_or ws j d) ≡ true = rw (u, v) refl in
        let t : list_any (same_level w) ws ≡ true =
        list_any_at (same_level w) ws j d (omega (arith, l)) s in
        let n = (and_parts (not (list_any (same_level w) ws)) (are_distinct ws) e).0 in
        absurd cc
distinct_at (w ∷ ws) d e (suc i) (suc j) h l =
    distinct_at ws d (and_parts (not (list_any (same_level w) ws)) (are_distinct ws) e).1 i j
    (omega (arith, h)) (omega (arith, l))

-- the k-th write's level is the next one of the whole turn
pub put_is_after : (p : PatchValue) (zone : Zone) (buffers : List (List ℤ)) (count k : ℕ)
    (w : Touch) (cur : List ℤ) → IsGridLevel p w.var w.level
    → k < count → count ≤ length buffers → cur ≡ level_of p.numbers w.var w.level
    → numbers_in p.local (mixed_at p.local zone (slice_index_or buffers k []) cur)
    ≡ level_after p.local (in_zone zone)
    (λ y. Some (numbers_staged buffers count (index_in p.local y))) k
    (values_in p w.var w.level)
put_is_after p zone buffers count k w cur g h l e =
    ap (λ (f : ℕ → ℤ). map f (range_with_len 0 (point_count p.local)))
    (fun_ext (λ i. by_zone (point_in p.local i) (in_zone zone (point_in p.local i)) refl))
  where
    by_zone : (y : Point) (t : Bool) → in_zone zone y ≡ t
        → mixed_at p.local zone (slice_index_or buffers k []) cur y
        ≡ (if in_zone zone y then number_or
        (Some (numbers_staged buffers count (index_in p.local y))) k
        (values_in p w.var w.level y) else values_in p w.var w.level y)
    by_zone y true is = rw is
        (sym (staged_number buffers count (index_in p.local y) k (values_in p w.var w.level y) h l))
    by_zone y false is = rw (is, g.grid, e) refl
