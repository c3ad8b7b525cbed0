-- The patch of a part in a run, with its numbers.
use Rattle.std.proofs.Common.{◌≡◌, ℕ, suc, ◌<◌, List, [], length, map, replicate, arith, refl, sym, ap, ◌∙◌, subst, ℤ, pos, ◌+ℤ◌, ◌≤ℤ◌, ◌<ℤ◌}
use Rattle.std.specs.Prelude.{slice_index_or}
use Rattle.std.proofs.lemmas.Int.{ints}
use Rattle.std.proofs.lemmas.List.{get_or-map, get_or-replicate, length-map, length-replicate}
use Rattle.cx_grid.specs.declared.boxes.Box3.{Box3}
use Rattle.cx_grid.specs.Boxes.{IsBox, IsSmall}
use Rattle.cx_plan.specs.declared.variable.VarInfo.{VarInfo}
use Rattle.cx_plan.specs.Lookups.{no_variable}
use Rattle.cx_plan.specs.Setups.{Setup}
use Rattle.cx_rule.specs.States.{State}
use Rattle.cx_cut.specs.Axis.{own_low, own_high, IsAxisCut}
use Rattle.cx_cut.specs.Cuts.{owned, local}
use Rattle.cx_cut.proofs.AxisFacts.{start_more, start_le}
use Rattle.cx_cut.proofs.Boxed.{place_below}
use Rattle.cx_field.specs.Patches.{PatchValue, IsPart, number_count, unstaged}
use Rattle.cx_field.proofs.PartLaws.{local_box, local_small}
use Rattle.law_parts.specs.Holding.{IsHeld}
use Rattle.law_parts.specs.Runs.{Run, parts_in, cut_of}
use Rattle.law_parts.proofs.WholeRun.{IsRun, shape}
use Rattle.cx_core_part.specs.Frames.{IsPatchOf}
use Rattle.law_parts.proofs.FilledLaws.{same_list}
use Rattle.cx_core_buffers.proofs.PieceLaws.{IsPartOf}

-- what a part owns of a direction
record Span (n g low high : ℤ) : Type 0 where
  from : pos 0 ≤ℤ low
  to : high ≤ℤ n
  some : low <ℤ high
  wide : (low +ℤ g) ≤ℤ high

span : (n g : ℤ) (ws : List ℕ) (a : ℕ) → IsAxisCut n g ws → a < length ws
    → Span n g (own_low ws a) (own_high ws a)
span n g ws a w l =
    let more = start_more ws a l in
    let end = start_le ws (suc a) in
    let total = w.total in
    let wide = w.wide a l in
    let some = w.some a l in
    record {
      from = omega (arith, ints);
      to = omega (arith, ints, total, end);
      some = omega (arith, ints, more, some);
      wide = omega (arith, ints, more, wide);
    }

pub part_is : (r : Run) → IsRun r → (k : ℕ) → k < parts_in r
    → IsPart r.setup.shape (owned (cut_of r) k) (local (cut_of r) k)
part_is r run k l =
    let x = span _ _ (cut_of r).x _ run.cut.x (place_below (cut_of r) k l 0 (omega arith)) in
    let y = span _ _ (cut_of r).y _ run.cut.y (place_below (cut_of r) k l 1 (omega arith)) in
    let z = span _ _ (cut_of r).z _ run.cut.z (place_below (cut_of r) k l 2 (omega arith)) in
    record {
      shape = shape r run;
      interior = run.interior;
      x = record { from = x.from; to = x.to; some = x.some; wide = x.wide };
      y = record { from = y.from; to = y.to; some = y.some; wide = y.wide };
      z = record { from = z.from; to = z.to; some = z.some; wide = z.wide };
      local_is = refl;
    }

-- each variable has its levels, and each level its numbers
sized : (setup : Setup) (b : Box3) (numbers : State) → IsHeld setup b numbers
    → map (map length) numbers
    ≡ map (λ (v : VarInfo). replicate v.levels (number_count b v)) setup.vars
sized setup b numbers held =
    let many = held.vars in
    let all = length-map numbers (map length) in
    same_list (map (map length) numbers)
    (map (λ (v : VarInfo). replicate v.levels (number_count b v)) setup.vars) []
    (length-map numbers (map length) ∙ held.vars
    ∙ sym (length-map setup.vars (λ (v : VarInfo). replicate v.levels (number_count b v))))
    (λ v l. variable v (omega (arith, l, all, many)) (omega (arith, l, all)))
  where
    variable : (v : ℕ) → v < length setup.vars → v < length numbers
        → slice_index_or (map (map length) numbers) v []
        ≡ slice_index_or (map (λ (v : VarInfo). replicate v.levels (number_count b v))
        setup.vars) v []
    variable v l m =
        let info = slice_index_or setup.vars v no_variable in
        let levels = slice_index_or numbers v [] in
        let count : length levels ≡ info.levels = held.levels (record { 0 = v }) l in
        get_or-map (map length) numbers v [] [] m
        ∙ same_list (map length levels) (replicate info.levels (number_count b info)) 0
        (length-map levels length ∙ count
        ∙ sym (length-replicate info.levels (number_count b info)))
        (λ i h.
        let long = length-map levels length in
        let inside : i < length levels = omega (arith, h, long) in
        let stored : i < info.levels = omega (arith, inside, count) in
        get_or-map length levels i [] 0 inside
        ∙ held.sizes (record { 0 = v }) i l stored
        ∙ sym (get_or-replicate info.levels i (number_count b info) 0 stored))
        ∙ sym (get_or-map (λ (v : VarInfo). replicate v.levels (number_count b v))
        setup.vars v no_variable [] l)

-- without the buffers beside its numbers it is that of a part of the cut
pub part_of_cut : (r : Run) → IsRun r → (k : ℕ) → k < parts_in r → (p : PatchValue)
    → IsPatchOf r.setup (cut_of r) k p → IsHeld r.setup (local (cut_of r) k) p.numbers
    → IsPartOf r.setup (cut_of r) k (unstaged p)
part_of_cut r run k l p frame held =
    let part = part_is r run k l in
    let owned_is = frame.owned_is in
    record {
      patch = record {
        part = subst (λ s. IsPart s p.owned p.local) (sym frame.patch.shape)
            (subst (λ b. IsPart r.setup.shape b p.local) (sym frame.owned_is)
            (subst (λ b. IsPart r.setup.shape (owned (cut_of r) k) b) (sym frame.local_is)
            part));
        box = subst IsBox (sym frame.local_is)
            (local_box r.setup.shape (owned (cut_of r) k) (local (cut_of r) k) part);
        small = subst IsSmall (sym frame.local_is)
            (local_small r.setup.shape (owned (cut_of r) k) (local (cut_of r) k) part);
        sized = sized r.setup (local (cut_of r) k) p.numbers held
            ∙ ap (λ b. map (λ (v : VarInfo). replicate v.levels (number_count b v)) r.setup.vars)
            (sym frame.local_is)
            ∙ ap (map (λ (v : VarInfo). replicate v.levels (number_count p.local v)))
            (sym frame.patch.vars);
        buffers = refl;
      };
      of = record { shape = frame.patch.shape; vars = frame.patch.vars };
      owned_is = frame.owned_is;
      local_is = frame.local_is;
      part = l;
    }
