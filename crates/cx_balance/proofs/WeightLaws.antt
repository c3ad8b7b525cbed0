-- What points and planes weigh.
use Rattle.std.proofs.Common.{◌≡◌, ℕ, ◌+◌, ◌*◌, ◌^◌, ◌<◌, ◌≤◌, refl, sym, ap, subst, ◌∙◌, arith, ℤ, List, [], ◌∷◌, length, get_or, Option, Some, None, Result, Ok, Err, ◌⊎◌, inl, inr, false, cond}
use Rattle.std.specs.Prelude.{min, unsigned_abs, IfOk, IfSome}
use Rattle.std.specs.List.{range_with_len, sum_by}
use Rattle.std.proofs.Math.Nat.{mul-le-mul}
use Rattle.std.proofs.lemmas.Bool.{cases_lt}
use Rattle.std.proofs.lemmas.List.{get_or_past}
use Rattle.std.proofs.lemmas.List.Sums.{sum_by-cons, sum_by-le, sum_by-take-le, sum_by_more}
use Rattle.std.proofs.lemmas.List.Elements.{All-map}
use Rattle.std.proofs.lemmas.List.FromFn.{length-map-range_with_len}
use Rattle.cx_grid.specs.declared.boxes.Point.{Point}
use Rattle.cx_grid.specs.declared.boxes.Box3.{Box3}
use Rattle.cx_grid.specs.Boxes.{along, point_count, point_in, points_in}
use Rattle.cx_grid.specs.Grid.{whole}
use Rattle.cx_plan.specs.declared.variable.VarId.{VarId}
use Rattle.cx_plan.specs.declared.job.Job.{Job}
use Rattle.cx_plan.specs.Setups.{setup_of}
use Rattle.cx_plan.specs.Lookups.{is_scalar, levels_of, variable, no_variable}
use Rattle.cx_plan.specs.Whole.{level_count, IsStoredGrid, IsWhole}
use Rattle.cx_chk.specs.declared.checkpoint.Checkpoint.{Checkpoint}
use Rattle.cx_balance.specs.Choosing.{AreWeights}
use Rattle.cx_balance.specs.Weighing.{plane, planes, levels_before, current_level, number_weight, number_at, point_weight, HasWeight, HoldsLevels}
use Rattle.cx_balance.proofs.PlaneLaws.{plane_some, plane_few, points_along, whole_some}

-- ---- sums over lists

-- where each weighs 1
pub ones : {X : Type 0} (xs : List X) → sum_by (λ x. 1) xs ≡ length xs
ones [] = refl
ones (x ∷ xs) =
    let e = sum_by-cons (λ x. 1) x xs in
    let l = ones xs in
    omega (arith, e, l)

pub points_count : (b : Box3) → length (points_in b) ≡ point_count b
points_count b = length-map-range_with_len (point_in b) 0 (point_count b)

pub counted : (b : Box3) → sum_by (λ (p : Point). 1) (points_in b) ≡ point_count b
counted b = ones (points_in b) ∙ points_count b

-- where each weighs something
at_least : {X : Type 0} (f : X → ℕ) → ((x : X) → 1 ≤ f x) → (xs : List X) → length xs ≤ sum_by f xs
at_least f some [] = omega arith
at_least f some (x ∷ xs) =
    let l = at_least f some xs in
    let one = some x in
    let e = sum_by-cons f x xs in
    omega (arith, l, one, e)

-- ---- what a point weighs

number_some : (factor : ℕ) (n : ℤ) → 1 ≤ number_weight factor n
number_some factor n = go (factor * min (unsigned_abs n) (2 ^ 20))
  where
    go : (m : ℕ) → 1 ≤ 1 + m
    go m = omega arith

pub number_most : (factor : ℕ) (n : ℤ) → factor ≤ 2 ^ 20 → number_weight factor n ≤ 1 + 2 ^ 40
number_most factor n small = go (factor * min (unsigned_abs n) (2 ^ 20))
    (mul-le-mul small (least (unsigned_abs n)))
  where
    least : (m : ℕ) → min m (2 ^ 20) ≤ 2 ^ 20
    least m = omega arith

    go : (m : ℕ) → m ≤ 2 ^ 20 * 2 ^ 20 → 1 + m ≤ 1 + 2 ^ 40
    go m l = omega (arith, l)

point_some : (job : Job) (state : Checkpoint) (v : Option VarId) (p : Point)
    → 1 ≤ point_weight job state v p
point_some job state None p = omega arith
point_some job state (Some v) p =
    number_some job.weight_factor (number_at job.shape (current_level job state v) p)

point_most : (job : Job) (state : Checkpoint) (v : Option VarId) (p : Point)
    → job.weight_factor ≤ 2 ^ 20 → point_weight job state v p ≤ 1 + 2 ^ 40
point_most job state None p small = omega arith
point_most job state (Some v) p small =
    number_most job.weight_factor (number_at job.shape (current_level job state v) p) small

-- ---- what planes weigh

pub planes_count : (job : Job) (state : Checkpoint) (d : ℕ)
    → length (planes job state d) ≡ unsigned_abs (along job.shape.n d)
planes_count job state d =
    length-map-range_with_len
    (λ k. sum_by (point_weight job state job.weight) (points_in (plane job.shape d k))) 0
    (unsigned_abs (along job.shape.n d))

module _ (job : Job) (state : Checkpoint) (whole : IsWhole job) (d : ℕ) where
  abbrev weigh : Point → ℕ
  weigh = point_weight job state job.weight

  plane_weighs : (k : ℕ) → 1 ≤ sum_by weigh (points_in (plane job.shape d k))
  plane_weighs k =
      let l = at_least weigh (point_some job state job.weight) (points_in (plane job.shape d k)) in
      let count = points_count (plane job.shape d k) in
      let some = plane_some job.shape whole.shape d k in
      omega (arith, l, count, some)

  plane_small : (k : ℕ) → sum_by weigh (points_in (plane job.shape d k)) ≤ 2 ^ 70
  plane_small k =
      go (length (points_in (plane job.shape d k)))
      (sum_by weigh (points_in (plane job.shape d k)))
      (sum_by-le weigh (1 + 2 ^ 40) (points_in (plane job.shape d k))
      (λ i p below. point_most job state job.weight
      (get_or (points_in (plane job.shape d k)) i p) whole.weight_factor))
      (let count = points_count (plane job.shape d k) in
      let few = plane_few job.shape whole.shape d k in
      omega (arith, count, few))
    where
      go : (count weight : ℕ) → weight ≤ count * (1 + 2 ^ 40) → count ≤ 2 ^ 24 → weight ≤ 2 ^ 70
      go count weight l few = omega (arith, l, few)

  pub are_weights : AreWeights (planes job state d)
  are_weights =
      record {
        few = let e = planes_count job state d in
            let l = (points_along job.shape whole.shape d).1 in
            omega (arith, e, l);
        some = All-map (λ w. 1 ≤ w) (λ k. sum_by weigh (points_in (plane job.shape d k)))
            (range_with_len 0 (unsigned_abs (along job.shape.n d)))
            (λ i k below. plane_weighs
            (get_or (range_with_len 0 (unsigned_abs (along job.shape.n d))) i k));
        most = All-map (λ w. w ≤ 2 ^ 70) (λ k. sum_by weigh (points_in (plane job.shape d k)))
            (range_with_len 0 (unsigned_abs (along job.shape.n d)))
            (λ i k below. plane_small
            (get_or (range_with_len 0 (unsigned_abs (along job.shape.n d))) i k));
      }

-- what `planes` answers
pub answer_weighs : {E : Type 0} (job : Job) (state : Checkpoint) (d : ℕ) (r : Result (List ℕ) E)
    → IsWhole job → IfOk r (λ weights. weights ≡ planes job state d) → IfOk r AreWeights
answer_weighs job state d (Ok weights) whole is =
    subst AreWeights (sym is) (are_weights job state whole d)
answer_weighs job state d (Err e) whole is = tt

-- ---- where the level is that weighs

pub level_there : (job : Job) (state : Checkpoint) (v : VarId) → IsWhole job → HasWeight job state
    → job.weight ≡ Some v → levels_before job.vars v < length state.levels
level_there job state v is has e =
    go (cases_lt (levels_before job.vars v) (length state.levels))
  where
    points : length (current_level job state v) ≡ point_count (whole job.shape)
    points =
        subst (λ (o : Option VarId).
        IfSome o (λ w. length (current_level job state w) ≡ point_count (whole job.shape)))
        e has

    go : (levels_before job.vars v < length state.levels)
        ⊎ (length state.levels ≤ levels_before job.vars v)
        → levels_before job.vars v < length state.levels
    go (inl l) = l
    go (inr past) =
        let none : length (current_level job state v) ≡ 0 =
        ap length (get_or_past state.levels (levels_before job.vars v) [] past) in
        let some = whole_some job.shape is.shape in
        absurd (omega (arith, points, none, some))

-- of a checkpoint that holds the levels of all grid variables
pub levels_weigh : (job : Job) (state : Checkpoint) → IsWhole job → HoldsLevels job state
    → HasWeight job state
levels_weigh job state is holds = go job.weight is.weight
  where
    counts : (v : VarId) → is_scalar (setup_of job) v ≡ false
        → level_count (variable (setup_of job) v) ≡ levels_of (setup_of job) v
    counts v e = ap (λ b. cond b 0 (levels_of (setup_of job) v)) e

    there : (v : VarId) → IsStoredGrid job v → levels_before job.vars v < length state.levels
    there v is =
        let more = sum_by_more level_count job.vars v.0 no_variable is.0.0 in
        let few = sum_by-take-le level_count job.vars (v.0 + 1) in
        let some = is.0.1 in
        let own = counts v is.1 in
        let all = holds.count in
        omega (arith, more, few, some, own, all)

    go : (o : Option VarId) → IfSome o (IsStoredGrid job)
        → IfSome o (λ v. length (current_level job state v) ≡ point_count (whole job.shape))
    go None is = tt
    go (Some v) is = holds.points (levels_before job.vars v) [] (there v is)
