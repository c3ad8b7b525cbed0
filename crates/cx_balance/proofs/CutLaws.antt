-- What weights choose is a cut.
use Rattle.std.proofs.Common.{◌≡◌, ℕ, zero, suc, ◌+◌, ◌*◌, ◌≤◌, Bool, true, false, ltb, eqb, cond, arith, refl, sym, ap, ◌∙◌, List, [], ◌∷◌, length, Option, Some, None}
use Rattle.std.specs.Prelude.{max, All}
use Rattle.std.proofs.Math.Nat.{suc-mul}
use Rattle.std.proofs.lemmas.Bool.{le-ltb, eqb-true, ltb-false, eq-eqb}
use Rattle.std.proofs.lemmas.List.Elements.{All-head, All-tail}
use Rattle.cx_grid.specs.declared.shapes.Shape.{Shape}
use Rattle.cx_grid.specs.Grid.{is_periodic}
use Rattle.cx_plan.specs.declared.job.Cuts.{Cuts}
use Rattle.cx_plan.specs.Lists.{or_else}
use Rattle.cx_cut.specs.Axis.{sum_of}
use Rattle.cx_cut.specs.Cuts.{part_count}
use Rattle.cx_cut.specs.declared.faults.CutFault.{CutFault}
use Rattle.cx_cut.specs.declared.faults.CutFault.TheVariants.{WidthsDiffer, PartTooThin}
use Rattle.cx_cut.specs.Faults.{parts_of, points, ghosts, small_fault, axis_fault, many_fault, thin_fault, axes_fault, widths_fault}
use Rattle.cx_text.specs.Numbers.{in_64_bits}
use Rattle.cx_balance.specs.Choosing.{chosen, WidthsFit}
use Rattle.cx_balance.specs.Cutting.{chosen_cut, CutsAgain}
use Rattle.cx_balance.proofs.ChooseLaws.{chosen_fits}

-- ---- options

pub some_none : {A : Type 0} (x : A) → Some x ≡ None → ⊥
some_none x e = cc

pub none_first : {A : Type 0} (a b : Option A) → or_else a b ≡ None → a ≡ None
none_first None b e = refl
none_first (Some x) b e = e

pub none_next : {A : Type 0} (a b : Option A) → or_else a b ≡ None → b ≡ None
none_next None b e = e
none_next (Some x) b e = absurd (some_none x e)

both_none : {A : Type 0} (a b : Option A) → a ≡ None → b ≡ None → or_else a b ≡ None
both_none a b e f = ap (λ x. or_else x b) e ∙ f

-- ---- one direction

pub thin : (least : ℕ) (ws : List ℕ) → thin_fault least ws ≡ None → length ws * least ≤ sum_of ws
thin least [] e = omega arith
thin least (w ∷ ws) e = go (ltb w least) refl (thin least ws)
  where
    go : (b : Bool) → ltb w least ≡ b → (thin_fault least ws ≡ None → length ws * least ≤ sum_of ws)
        → suc (length ws) * least ≤ w + sum_of ws
    go true t more = absurd
        (some_none (PartTooThin w least)
        (sym (ap (λ b. cond b (Some (PartTooThin w least)) (thin_fault least ws)) t) ∙ e))
    go false f more =
        let l = ltb-false w least f in
        let m = more (sym (ap (λ b. cond b (Some (PartTooThin w least)) (thin_fault least ws)) f)
        ∙ e) in
        let s = suc-mul (length ws) least in
        omega (arith, l, m, s)

wide : (least : ℕ) (ws : List ℕ) → All (λ w. least ≤ w) ws → thin_fault least ws ≡ None
wide least [] all = refl
wide least (w ∷ ws) all =
    ap (λ b. cond b (Some (PartTooThin w least)) (thin_fault least ws))
    (le-ltb w least (All-head (λ w. least ≤ w) w ws all))
    ∙ wide least ws (All-tail (λ w. least ≤ w) w ws all)

-- the widths together are the points, and the direction has an interior
pub axis_sum : (ring : Bool) (n g : ℕ) (ws : List ℕ) → axis_fault ring n g ws ≡ None
    → (sum_of ws ≡ n) × (small_fault ring n g ≡ None)
axis_sum ring n g ws e = go (eqb (sum_of ws) n) refl
  where
    go : (b : Bool) → eqb (sum_of ws) n ≡ b → (sum_of ws ≡ n) × (small_fault ring n g ≡ None)
    go true t = (
      eqb-true (sum_of ws) n t,
      sym (ap (λ b. cond b (small_fault ring n g)
          (Some (WidthsDiffer (in_64_bits (sum_of ws)) n))) t) ∙ e,
    )
    go false f =
        absurd (some_none (WidthsDiffer (in_64_bits (sum_of ws)) n)
        (sym (ap (λ b. cond b (small_fault ring n g)
        (Some (WidthsDiffer (in_64_bits (sum_of ws)) n))) f) ∙ e))

axis_again : (ring : Bool) (n g : ℕ) (ws : List ℕ) → sum_of ws ≡ n → small_fault ring n g ≡ None
    → axis_fault ring n g ws ≡ None
axis_again ring n g ws e small =
    ap (λ b. cond b (small_fault ring n g) (Some (WidthsDiffer (in_64_bits (sum_of ws)) n)))
    (eq-eqb (sum_of ws) n e) ∙ small

-- no fault of a direction, by its own widths and then by those that are chosen
pub record Again (ring : Bool) (n g parts : ℕ) (ws : List ℕ) : Type 0 where
  pub axis : axis_fault ring n g ws ≡ None
  pub widths : thin_fault (max g 1) ws ≡ None
  pub count : length ws ≡ parts

again : (ring : Bool) (n g : ℕ) (own planes : List ℕ) → 1 ≤ n → length planes ≡ n
    → All (λ w. 1 ≤ w) planes
    → axis_fault ring n g own ≡ None → thin_fault (max g 1) own ≡ None
    → Again ring n g (length own) (chosen planes (length own) (max g 1))
again ring n g own planes some count weights axis widths =
    record {
      axis = axis_again ring n g (chosen planes (length own) (max g 1)) (fits.sum ∙ count)
          a.1;
      widths = wide (max g 1) (chosen planes (length own) (max g 1)) fits.each;
      count = fits.count;
    }
  where
    a : (sum_of own ≡ n) × (small_fault ring n g ≡ None)
    a = axis_sum ring n g own axis

    parts_there : (own : List ℕ) → sum_of own ≡ n → 1 ≤ length own
    parts_there [] e = absurd (omega (arith, e, some))
    parts_there (w ∷ ws) e = omega arith

    room : length own * max g 1 ≤ length planes
    room = let l = thin (max g 1) own widths in let e = a.0 in omega (arith, l, e, count)

    fits : WidthsFit planes (length own) (max g 1) (chosen planes (length own) (max g 1))
    fits = chosen_fits planes (length own) (max g 1)
        (record { some_part = parts_there own a.0; some_width = omega arith; room = room })

-- ---- all directions

pub cuts_again : (s : Shape) (own : Cuts) → ((d : ℕ) → 1 ≤ points (parts_of s own) d)
    → CutsAgain s own
cuts_again s own some planes none are =
    both_none (axes_fault (parts_of s (chosen_cut s own planes)))
    (or_else (many_fault (part_count (parts_of s (chosen_cut s own planes))))
    (widths_fault (parts_of s (chosen_cut s own planes))))
    (both_none (axis_fault (is_periodic s 0) (points (parts_of s own) 0) (ghosts (parts_of s own) 0)
    (chosen_cut s own planes).x)
    (or_else (axis_fault (is_periodic s 1) (points (parts_of s own) 1)
    (ghosts (parts_of s own) 1) (chosen_cut s own planes).y)
    (axis_fault (is_periodic s 2) (points (parts_of s own) 2) (ghosts (parts_of s own) 2)
    (chosen_cut s own planes).z))
    x.axis
    (both_none (axis_fault (is_periodic s 1) (points (parts_of s own) 1)
    (ghosts (parts_of s own) 1) (chosen_cut s own planes).y)
    (axis_fault (is_periodic s 2) (points (parts_of s own) 2) (ghosts (parts_of s own) 2)
    (chosen_cut s own planes).z) y.axis z.axis))
    (both_none (many_fault (part_count (parts_of s (chosen_cut s own planes))))
    (widths_fault (parts_of s (chosen_cut s own planes)))
    (ap many_fault same_count ∙ few)
    (both_none (thin_fault (max (ghosts (parts_of s own) 0) 1) (chosen_cut s own planes).x)
    (or_else (thin_fault (max (ghosts (parts_of s own) 1) 1) (chosen_cut s own planes).y)
    (thin_fault (max (ghosts (parts_of s own) 2) 1) (chosen_cut s own planes).z))
    x.widths (both_none (thin_fault (max (ghosts (parts_of s own) 1) 1) (chosen_cut s own planes).y)
    (thin_fault (max (ghosts (parts_of s own) 2) 1) (chosen_cut s own planes).z)
    y.widths z.widths)))
  where
    axes : axes_fault (parts_of s own) ≡ None
    axes = none_first (axes_fault (parts_of s own))
        (or_else (many_fault (part_count (parts_of s own))) (widths_fault (parts_of s own))) none

    others : or_else (many_fault (part_count (parts_of s own))) (widths_fault (parts_of s own))
        ≡ None
    others = none_next (axes_fault (parts_of s own))
        (or_else (many_fault (part_count (parts_of s own))) (widths_fault (parts_of s own))) none

    few : many_fault (part_count (parts_of s own)) ≡ None
    few = none_first (many_fault (part_count (parts_of s own))) (widths_fault (parts_of s own))
        others

    widths : widths_fault (parts_of s own) ≡ None
    widths = none_next (many_fault (part_count (parts_of s own))) (widths_fault (parts_of s own))
        others

    axis : ℕ → Option CutFault
    axis zero = axis_fault (is_periodic s 0) (points (parts_of s own) 0) (ghosts (parts_of s own) 0)
        own.x
    axis (suc zero) = axis_fault (is_periodic s 1) (points (parts_of s own) 1)
        (ghosts (parts_of s own) 1) own.y
    axis (suc (suc d)) = axis_fault (is_periodic s 2) (points (parts_of s own) 2)
        (ghosts (parts_of s own) 2) own.z

    thin_one : ℕ → Option CutFault
    thin_one zero = thin_fault (max (ghosts (parts_of s own) 0) 1) own.x
    thin_one (suc zero) = thin_fault (max (ghosts (parts_of s own) 1) 1) own.y
    thin_one (suc (suc d)) = thin_fault (max (ghosts (parts_of s own) 2) 1) own.z

    x : Again (is_periodic s 0) (points (parts_of s own) 0) (ghosts (parts_of s own) 0)
        (length own.x) (chosen_cut s own planes).x
    x = again (is_periodic s 0) (points (parts_of s own) 0) (ghosts (parts_of s own) 0) own.x
        (planes 0) (some 0) (are.count 0) (are.weights 0)
        (none_first (axis 0) (or_else (axis 1) (axis 2)) axes)
        (none_first (thin_one 0) (or_else (thin_one 1) (thin_one 2)) widths)

    y : Again (is_periodic s 1) (points (parts_of s own) 1) (ghosts (parts_of s own) 1)
        (length own.y) (chosen_cut s own planes).y
    y = again (is_periodic s 1) (points (parts_of s own) 1) (ghosts (parts_of s own) 1) own.y
        (planes 1) (some 1) (are.count 1) (are.weights 1)
        (none_first (axis 1) (axis 2) (none_next (axis 0) (or_else (axis 1) (axis 2)) axes))
        (none_first (thin_one 1) (thin_one 2)
        (none_next (thin_one 0) (or_else (thin_one 1) (thin_one 2)) widths))

    z : Again (is_periodic s 2) (points (parts_of s own) 2) (ghosts (parts_of s own) 2)
        (length own.z) (chosen_cut s own planes).z
    z = again (is_periodic s 2) (points (parts_of s own) 2) (ghosts (parts_of s own) 2) own.z
        (planes 2) (some 2) (are.count 2) (are.weights 2)
        (none_next (axis 1) (axis 2) (none_next (axis 0) (or_else (axis 1) (axis 2)) axes))
        (none_next (thin_one 1) (thin_one 2)
        (none_next (thin_one 0) (or_else (thin_one 1) (thin_one 2)) widths))

    same_count : part_count (parts_of s (chosen_cut s own planes)) ≡ part_count (parts_of s own)
    same_count =
        ap (λ n. n * length (chosen_cut s own planes).y * length (chosen_cut s own planes).z)
        x.count
        ∙ ap (λ n. length own.x * n * length (chosen_cut s own planes).z) y.count
        ∙ ap (λ n. length own.x * length own.y * n) z.count
