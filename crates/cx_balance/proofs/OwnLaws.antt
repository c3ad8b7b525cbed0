-- A job's own cut, and the one that the weights of a checkpoint choose in its place.
use Rattle.std.proofs.Common.{◌≡◌, ℕ, zero, suc, ◌-◌, ◌*◌, ◌<◌, ◌≤◌, Bool, true, false, ltb, cond, refl, sym, ap, subst, ◌∙◌, arith, List, [], ◌∷◌, length, Option, Some, None, Result, Ok, Err, ◌⊎◌, inl, inr}
use Rattle.std.specs.Prelude.{max, unsigned_abs, IfOk}
use Rattle.std.proofs.Math.Nat.{mul-le-mul, mul-le-mul_left}
use Rattle.std.proofs.lemmas.Bool.{cases_lt, ltb-false}
use Rattle.cx_grid.specs.declared.shapes.Shape.{Shape}
use Rattle.cx_grid.specs.Boxes.{along}
use Rattle.cx_grid.specs.Grid.{IsShape, is_periodic}
use Rattle.cx_plan.specs.declared.job.Cuts.{Cuts}
use Rattle.cx_plan.specs.declared.job.Job.{Job}
use Rattle.cx_plan.specs.Lists.{or_else}
use Rattle.cx_plan.specs.Whole.{IsWhole}
use Rattle.cx_cut.specs.Axis.{sum_of}
use Rattle.cx_cut.specs.Cuts.{part_count, parts_along, widths}
use Rattle.cx_cut.specs.declared.faults.CutFault.{CutFault}
use Rattle.cx_cut.specs.declared.faults.CutFault.TheVariants.{TooMany}
use Rattle.cx_cut.specs.Faults.{parts_of, points, ghosts, axis_fault, many_fault, thin_fault, axes_fault, widths_fault, cut_fault}
use Rattle.cx_text.specs.Numbers.{in_64_bits}
use Rattle.cx_chk.specs.declared.checkpoint.Checkpoint.{Checkpoint}
use Rattle.cx_balance.specs.Choosing.{chosen, CanChoose, AreWeights}
use Rattle.cx_balance.specs.Cutting.{chosen_cut, least_width, HasAsManyParts}
use Rattle.cx_balance.specs.Weighing.{planes}
use Rattle.cx_balance.proofs.ChooseLaws.{chosen_fits}
use Rattle.cx_balance.proofs.CutLaws.{some_none, none_first, none_next, thin, axis_sum, cuts_again}
use Rattle.cx_balance.proofs.PlaneLaws.{points_along}
use Rattle.cx_balance.proofs.WeightLaws.{planes_count, are_weights}

-- ---- the own cut

-- the widths of a direction of n points, each at least so wide
record IsOwn (n least : ℕ) (ws : List ℕ) : Type 0 where
  some : 1 ≤ length ws
  room : length ws * least ≤ n

own_axis : (ring : Bool) (n g : ℕ) (ws : List ℕ) → 1 ≤ n → axis_fault ring n g ws ≡ None
    → thin_fault (max g 1) ws ≡ None → IsOwn n (max g 1) ws
own_axis ring n g ws some axis wide =
    record {
      some = there ws (axis_sum ring n g ws axis).0;
      room = let l = thin (max g 1) ws wide in let e = (axis_sum ring n g ws axis).0 in
          omega (arith, l, e);
    }
  where
    there : (ws : List ℕ) → sum_of ws ≡ n → 1 ≤ length ws
    there [] e = absurd (omega (arith, e, some))
    there (w ∷ ws) e = omega arith

few_parts : (count : ℕ) → many_fault count ≡ None → count ≤ 512
few_parts count e = go (ltb 512 count) refl
  where
    go : (b : Bool) → ltb 512 count ≡ b → count ≤ 512
    go true t = absurd
        (some_none (TooMany (in_64_bits count) 512)
        (sym (ap (λ b. cond b (Some (TooMany (in_64_bits count) 512)) None) t) ∙ e))
    go false f = ltb-false 512 count f

module _ (s : Shape) (own : Cuts) (is : IsShape s) (none : cut_fault (parts_of s own) ≡ None) where
  axes : axes_fault (parts_of s own) ≡ None
  axes = none_first (axes_fault (parts_of s own))
      (or_else (many_fault (part_count (parts_of s own))) (widths_fault (parts_of s own))) none

  others : or_else (many_fault (part_count (parts_of s own))) (widths_fault (parts_of s own)) ≡ None
  others = none_next (axes_fault (parts_of s own))
      (or_else (many_fault (part_count (parts_of s own))) (widths_fault (parts_of s own))) none

  wide : widths_fault (parts_of s own) ≡ None
  wide = none_next (many_fault (part_count (parts_of s own))) (widths_fault (parts_of s own)) others

  few : part_count (parts_of s own) ≤ 512
  few = few_parts (part_count (parts_of s own))
      (none_first (many_fault (part_count (parts_of s own))) (widths_fault (parts_of s own)) others)

  abbrev axis_x : Option CutFault
  axis_x = axis_fault (is_periodic s 0) (points (parts_of s own) 0) (ghosts (parts_of s own) 0)
      own.x

  abbrev axis_y : Option CutFault
  axis_y = axis_fault (is_periodic s 1) (points (parts_of s own) 1) (ghosts (parts_of s own) 1)
      own.y

  abbrev axis_z : Option CutFault
  axis_z = axis_fault (is_periodic s 2) (points (parts_of s own) 2) (ghosts (parts_of s own) 2)
      own.z

  abbrev thin_x : Option CutFault
  thin_x = thin_fault (max (ghosts (parts_of s own) 0) 1) own.x

  abbrev thin_y : Option CutFault
  thin_y = thin_fault (max (ghosts (parts_of s own) 1) 1) own.y

  abbrev thin_z : Option CutFault
  thin_z = thin_fault (max (ghosts (parts_of s own) 2) 1) own.z

  -- each direction
  is_own : (d : ℕ) → IsOwn (points (parts_of s own) d) (least_width (parts_of s own) d)
      (widths (parts_of s own) d)
  is_own zero =
      own_axis (is_periodic s 0) (points (parts_of s own) 0) (ghosts (parts_of s own) 0) own.x
      (points_along s is 0).0 (none_first axis_x (or_else axis_y axis_z) axes)
      (none_first thin_x (or_else thin_y thin_z) wide)
  is_own (suc zero) =
      own_axis (is_periodic s 1) (points (parts_of s own) 1) (ghosts (parts_of s own) 1) own.y
      (points_along s is 1).0
      (none_first axis_y axis_z (none_next axis_x (or_else axis_y axis_z) axes))
      (none_first thin_y thin_z (none_next thin_x (or_else thin_y thin_z) wide))
  is_own (suc (suc d)) =
      own_axis (is_periodic s 2) (points (parts_of s own) 2) (ghosts (parts_of s own) 2) own.z
      (points_along s is 2).0
      (none_next axis_y axis_z (none_next axis_x (or_else axis_y axis_z) axes))
      (none_next thin_y thin_z (none_next thin_x (or_else thin_y thin_z) wide))

  -- one of the factors
  few_x : (a b c : ℕ) → a * b * c ≤ 512 → 1 ≤ b → 1 ≤ c → a ≤ 512
  few_x a b c all some_b some_c =
      let l : a * 1 * 1 ≤ a * b * c = mul-le-mul (mul-le-mul_left a some_b) some_c in
      omega (arith, l, all)

  few_y : (a b c : ℕ) → a * b * c ≤ 512 → 1 ≤ a → 1 ≤ c → b ≤ 512
  few_y a b c all some_a some_c =
      let own : b ≤ b = omega arith in
      let l : 1 * b * 1 ≤ a * b * c = mul-le-mul (mul-le-mul some_a own) some_c in
      omega (arith, l, all)

  few_z : (a b c : ℕ) → a * b * c ≤ 512 → 1 ≤ a → 1 ≤ b → c ≤ 512
  few_z a b c all some_a some_b =
      let own : c ≤ c = omega arith in
      let l : 1 * 1 * c ≤ a * b * c = mul-le-mul (mul-le-mul some_a some_b) own in
      omega (arith, l, all)

  pub few_along : (d : ℕ) → length (widths (parts_of s own) d) ≤ 512
  few_along zero = few_x (length own.x) (length own.y) (length own.z) few (is_own 1).some
      (is_own 2).some
  few_along (suc zero) = few_y (length own.x) (length own.y) (length own.z) few (is_own 0).some
      (is_own 2).some
  few_along (suc (suc d)) = few_z (length own.x) (length own.y) (length own.z) few (is_own 0).some
      (is_own 1).some

-- ---- what `choose` is asked

pub can_choose : (job : Job) (state : Checkpoint) → IsWhole job
    → cut_fault (parts_of job.shape job.cut) ≡ None → (d : ℕ)
    → CanChoose (planes job state d) (length (widths (parts_of job.shape job.cut) d))
    (least_width (parts_of job.shape job.cut) d)
can_choose job state whole none d =
    record {
      room = record {
        some_part = own.some;
        some_width = at_least_one (ghosts (parts_of job.shape job.cut) d);
        room = let l = own.room in let e = planes_count job state d in omega (arith, l, e);
      };
      few_parts = few_along job.shape job.cut whole.shape none d;
      few_planes = weights.few;
      some_weight = weights.some;
      most_weight = weights.most;
    }
  where
    own : IsOwn (points (parts_of job.shape job.cut) d) (least_width (parts_of job.shape job.cut) d)
        (widths (parts_of job.shape job.cut) d)
    own = is_own job.shape job.cut whole.shape none d

    weights : AreWeights (planes job state d)
    weights = are_weights job state whole d

    at_least_one : (g : ℕ) → 1 ≤ max g 1
    at_least_one g = omega arith

-- the same, of equal lists and widths
pub can_choose_by : (job : Job) (state : Checkpoint) (d : ℕ) (weights own : List ℕ) (least : ℕ)
    → IsWhole job → cut_fault (parts_of job.shape job.cut) ≡ None
    → weights ≡ planes job state d → own ≡ widths (parts_of job.shape job.cut) d
    → least ≡ least_width (parts_of job.shape job.cut) d → CanChoose weights (length own) least
can_choose_by job state d weights own least whole none e f g =
    subst (λ ws. CanChoose ws (length own) least) (sym e)
    (subst (λ ws. CanChoose (planes job state d) (length ws) least) (sym f)
    (subst (CanChoose (planes job state d) (length (widths (parts_of job.shape job.cut) d)))
    (sym g) (can_choose job state whole none d)))

-- ---- the widths of a direction

one_chosen : (ws : List ℕ) (parts least n : ℕ) → length ws ≡ n → parts ≡ 1
    → chosen ws parts least ≡ n ∷ []
one_chosen ws parts least n e f =
    let all : n - 0 ≡ n = omega arith in
    ap (λ m. chosen ws m least) f ∙ ap (λ m. (m - 0) ∷ []) e ∙ ap (λ m. m ∷ []) all

-- of a direction that the own cut leaves whole
pub whole_widths : {E : Type 0} (job : Job) (state : Checkpoint) (d : ℕ) (own : List ℕ) (n : ℕ)
    (r : Result (List ℕ) E) → own ≡ widths (parts_of job.shape job.cut) d → length own ≡ 1
    → n ≡ unsigned_abs (along job.shape.n d) → IfOk r (λ ws. ws ≡ n ∷ [])
    → IfOk r (λ ws. ws ≡ chosen (planes job state d)
    (parts_along (parts_of job.shape job.cut) d) (least_width (parts_of job.shape job.cut) d))
whole_widths job state d own n (Err e) same one points is = tt
whole_widths job state d own n (Ok ws) same one points is =
    is ∙ sym (one_chosen (planes job state d) (length (widths (parts_of job.shape job.cut) d))
    (least_width (parts_of job.shape job.cut) d) n (planes_count job state d ∙ sym points)
    (sym (ap length same) ∙ one))

one_point : (s : Shape) → IsShape s → (d : ℕ) → d < 3 → s.dims ≤ d
    → unsigned_abs (along s.n d) ≡ 1
one_point s is zero low past = let some = is.some in absurd (omega (arith, some, past))
one_point s is (suc zero) low past = ap unsigned_abs (is.no_y (omega (arith, past))).one
one_point s is (suc (suc zero)) low past = ap unsigned_abs (is.no_z (omega (arith, past))).one
one_point s is (suc (suc (suc d))) low past = absurd (omega (arith, low))

-- a direction that the grid doesn't have is left whole
absent_one : (job : Job) (d : ℕ) → IsWhole job → cut_fault (parts_of job.shape job.cut) ≡ None
    → d < 3 → job.shape.dims ≤ d → length (widths (parts_of job.shape job.cut) d) ≡ 1
absent_one job d whole none low past =
    one_part (length (widths (parts_of job.shape job.cut) d))
    (ghosts (parts_of job.shape job.cut) d) own.some
    (subst (λ n. length (widths (parts_of job.shape job.cut) d)
    * least_width (parts_of job.shape job.cut) d ≤ n)
    (one_point job.shape whole.shape d low past) own.room)
  where
    own : IsOwn (points (parts_of job.shape job.cut) d) (least_width (parts_of job.shape job.cut) d)
        (widths (parts_of job.shape job.cut) d)
    own = is_own job.shape job.cut whole.shape none d

    one_part : (parts g : ℕ) → 1 ≤ parts → parts * max g 1 ≤ 1 → parts ≡ 1
    one_part parts g some room =
        let l : parts * 1 ≤ parts * max g 1 = mul-le-mul_left parts (omega arith) in
        omega (arith, l, some, room)

-- so the grid has each direction that the own cut cuts
pub cut_there : (job : Job) (d : ℕ) (own : List ℕ) → IsWhole job
    → cut_fault (parts_of job.shape job.cut) ≡ None → d < 3
    → own ≡ widths (parts_of job.shape job.cut) d → (length own ≡ 1 → ⊥) → d < job.shape.dims
cut_there job d own whole none low same more = go (cases_lt d job.shape.dims)
  where
    go : (d < job.shape.dims) ⊎ (job.shape.dims ≤ d) → d < job.shape.dims
    go (inl l) = l
    go (inr past) =
        absurd (more (ap length same ∙ absent_one job d whole none low past))

-- ---- the chosen cut

pub chosen_accepted : (job : Job) (state : Checkpoint) (cuts : Cuts) → IsWhole job
    → cut_fault (parts_of job.shape job.cut) ≡ None
    → cuts ≡ chosen_cut job.shape job.cut (planes job state)
    → cut_fault (parts_of job.shape cuts) ≡ None
chosen_accepted job state cuts whole none is =
    ap (λ (c : Cuts). cut_fault (parts_of job.shape c)) is
    ∙ cuts_again job.shape job.cut (λ d. (points_along job.shape whole.shape d).0)
    (planes job state) none
    (record {
      count = planes_count job state;
      weights = λ d. (are_weights job state whole d).some;
    })

pub chosen_parts : (job : Job) (state : Checkpoint) (cuts : Cuts) → IsWhole job
    → cut_fault (parts_of job.shape job.cut) ≡ None
    → cuts ≡ chosen_cut job.shape job.cut (planes job state)
    → HasAsManyParts job.cut cuts
chosen_parts job state cuts whole none is =
    subst (HasAsManyParts job.cut) (sym is)
    (record { x = as_many 0; y = as_many 1; z = as_many 2 })
  where
    as_many : (d : ℕ) → length (chosen (planes job state d)
        (length (widths (parts_of job.shape job.cut) d))
        (least_width (parts_of job.shape job.cut) d))
        ≡ length (widths (parts_of job.shape job.cut) d)
    as_many d =
        (chosen_fits (planes job state d) (length (widths (parts_of job.shape job.cut) d))
        (least_width (parts_of job.shape job.cut) d)
        (can_choose job state whole none d).room).count
