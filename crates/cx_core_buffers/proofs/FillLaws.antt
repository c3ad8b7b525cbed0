-- What each step of filling a part from a checkpoint leaves, and of a checkpoint from a part.
use Rattle.std.proofs.Common.{◌≡◌, ℕ, zero, suc, ◌+◌, ◌-◌, ◌<◌, ◌≤◌, ◌⊎◌, inl, inr, Bool, true, false, arith, refl, sym, ap, ◌∙◌, subst, ℤ, pos, ◌+ℤ◌, ◌≤ℤ◌, List, [], ◌∷◌, length, map, take, drop, replicate}
use Rattle.std.specs.Prelude.{slice_index_or, slice_set, if◌then◌else◌, All}
use Rattle.std.specs.List.{range_with_len}
use Rattle.std.proofs.lemmas.Bool.{cases_lt}
use Rattle.std.proofs.lemmas.List.{get_or-set_same, get_or-map, get_or-take, get_or-drop, length-map, length-replicate, length-take-le, length-drop}
use Rattle.std.proofs.lemmas.List.FromFn.{fill_by_all, length-map-range_with_len, get_or-map-range_with_len}
use Rattle.cx_grid.specs.declared.boxes.Point.{Point}
use Rattle.cx_grid.specs.Boxes.{IsIn, point_count, index_in, point_in, numbers_in}
use Rattle.cx_grid.specs.Grid.{at}
use Rattle.cx_grid.proofs.Places.{point_at_index}
use Rattle.cx_plan.specs.declared.variable.VarId.{VarId}
use Rattle.cx_plan.specs.declared.variable.VarInfo.{VarInfo}
use Rattle.cx_plan.specs.Lookups.{no_variable}
use Rattle.cx_plan.specs.Setups.{Setup}
use Rattle.cx_rule.specs.States.{State, level_of, scalar_of, with_level}
use Rattle.cx_model.specs.Turns.{values_of}
use Rattle.cx_field.specs.Patches.{PatchValue, IsPatch, IsGridLevel, IsScalar, number_count, beside, with_numbers}
use Rattle.cx_rule.specs.Staging.{put_from, with_row}
use Rattle.cx_field.proofs.NumberLaws.{var_count, level_same, grid_size, scalar_size}
use Rattle.cx_field.proofs.FaceLaws.{row_index, row_inside, row_end}
use Rattle.cx_rule.proofs.BufferLaws.{put_from_size}
use Rattle.cx_rule.proofs.RowSweeps.{put_before, put_within, put_behind}
use Rattle.cx_chk.specs.declared.checkpoint.Checkpoint.{Checkpoint}
use Rattle.law_parts.proofs.ListLaws.{numbers_length, number_in, numbers_same}
use Rattle.law_parts.proofs.StateIn.{var, vars_in, scalar_in, grid_in}
use Rattle.cx_core_buffers.specs.Checkpoints.{HoldsState, before, state_of}
use Rattle.cx_core_buffers.specs.Gathering.{scattered}
use Rattle.cx_core_buffers.specs.Filling.{local_level, levels_filled, scalar_filled, numbers_from}
use Rattle.law_parts.proofs.FilledLaws.{filled, filled_length, filled_later, filled_step, filled_all, set_none, set_again, same_list}
use Rattle.cx_core_buffers.proofs.CheckpointLaws.{info, HasLevels, HasScalars, before_none, before_next, before_room, total_few, scalars_few, levels_few, from_length, from_grid, from_scalar}
use Rattle.cx_plan.specs.Whole.{scalar_count, level_count}

-- ---- levels of a state

module _ (n : State) (v : VarId) (l : ℕ) where
  pub level_kept : with_level n v l (level_of n v l) ≡ n
  level_kept = ap (slice_set n v.0) (set_none (slice_index_or n v.0 []) l []) ∙ set_none n v.0 []

  pub level_again : (xs ys : List ℤ) → v.0 < length n
      → with_level (with_level n v l xs) v l ys ≡ with_level n v l ys
  level_again xs ys there =
      let was = slice_index_or n v.0 [] in
      let one = slice_set was l xs in
      let e : slice_index_or (slice_set n v.0 one) v.0 [] ≡ one =
      get_or-set_same n v.0 one [] there in
      ap (λ ls. slice_set (slice_set n v.0 one) v.0 (slice_set ls l ys)) e
      ∙ ap (slice_set (slice_set n v.0 one) v.0) (set_again was l xs ys)
      ∙ set_again n v.0 one (slice_set was l ys)

-- the patch has what its variables say
module _ (p : PatchValue) (s : IsPatch p) where
  pub held_levels : HasLevels p.vars p.numbers
  held_levels = record { vars_are = var_count p s; levels = each }
    where
      each : (v : ℕ) → v < length p.vars
          → length (slice_index_or p.numbers v []) ≡ (info p.vars v).levels
      each v l =
          let there : v < length p.numbers = let e = var_count p s in omega (arith, e, l) in
          sym (length-map (slice_index_or p.numbers v []) length)
          ∙ ap length (sym (get_or-map (map length) p.numbers v [] [] there)
          ∙ ap (λ ls. slice_index_or ls v []) s.sized
          ∙ get_or-map (λ (x : VarInfo). replicate x.levels (number_count p.local x))
          p.vars v no_variable [] l)
          ∙ length-replicate (info p.vars v).levels (number_count p.local (info p.vars v))

  pub held_scalars : ((v : ℕ) → v < length p.vars → (info p.vars v).scalar ≡ true
      → (info p.vars v).levels ≤ 1) → HasScalars p.vars p.numbers
  held_scalars one = record {
    has = held_levels;
    one_level = one;
    one_number = λ v l e some.
        scalar_size p (var v) s (record { var = l; stored = some; scalar = e });
  }

  pub held_as : (vars : List VarInfo) → p.vars ≡ vars
      → All (λ (x : VarInfo). x.scalar ≡ true → x.levels ≤ 1) vars → HasScalars vars p.numbers
  held_as vars e one =
      subst (λ vs. HasScalars vs p.numbers) e
      (held_scalars
      (subst (λ vs. (v : ℕ) → v < length vs → (info vs v).scalar ≡ true
      → (info vs v).levels ≤ 1) (sym e) (λ v l. one v no_variable l)))

  pub levels_as : (vars : List VarInfo) → p.vars ≡ vars → HasLevels vars p.numbers
  levels_as vars e = subst (λ vs. HasLevels vs p.numbers) e held_levels

-- what is stored of a variable
pub scalar_there : (vars : List VarInfo) (q : PatchValue) → q.vars ≡ vars → (v n : ℕ)
    → v < length vars → n ≡ scalar_count (info vars v) → 0 < n → IsScalar q (var v)
scalar_there vars q e v n l a some = go (info vars v).scalar refl
  where
    go : (b : Bool) → (info vars v).scalar ≡ b → IsScalar q (var v)
    go true s =
        let z : scalar_count (info vars v) ≡ (info vars v).levels = rw s refl in
        let lv : (info q.vars v).levels ≡ (info vars v).levels = ap (λ vs. (info vs v).levels) e in
        let ln = ap length e in
        record {
          var = omega (arith, ln, l);
          stored = omega (arith, a, z, lv, some);
          scalar = ap (λ vs. (info vs v).scalar) e ∙ s;
        }
    go false s = let z : scalar_count (info vars v) ≡ 0 = rw s refl in
        absurd (omega (arith, a, z, some))

pub grid_there : (vars : List VarInfo) (q : PatchValue) → q.vars ≡ vars → (v n : ℕ)
    → v < length vars → n ≡ level_count (info vars v) → (k : ℕ) → k < n → IsGridLevel q (var v) k
grid_there vars q e v n l a k m = go (info vars v).scalar refl
  where
    go : (b : Bool) → (info vars v).scalar ≡ b → IsGridLevel q (var v) k
    go true s = let z : level_count (info vars v) ≡ 0 = rw s refl in absurd (omega (arith, a, z, m))
    go false s =
        let z : level_count (info vars v) ≡ (info vars v).levels = rw s refl in
        let lv : (info q.vars v).levels ≡ (info vars v).levels = ap (λ vs. (info vs v).levels) e in
        let ln = ap length e in
        record {
          var = omega (arith, ln, l);
          stored = omega (arith, a, z, lv, m);
          grid = ap (λ vs. (info vs v).scalar) e ∙ s;
        }

-- ---- a list by runs

filled_before : (n i : ℕ) (whole old : List ℤ) → length whole ≡ length old → i < length old → i < n
    → slice_index_or (filled n whole old) i (pos 0) ≡ slice_index_or whole i (pos 0)
filled_before zero i whole old e l h = absurd (omega (arith, h))
filled_before (suc n) i [] old e l h = absurd (omega (arith, e, l))
filled_before (suc n) i (x ∷ whole) [] e l h = absurd (omega (arith, e))
filled_before (suc n) zero (x ∷ whole) (y ∷ old) e l h = refl
filled_before (suc n) (suc i) (x ∷ whole) (y ∷ old) e l h =
    filled_before n i whole old (omega (arith, e)) (omega (arith, l)) (omega (arith, h))

-- a run of the whole's numbers behind the first ones
module _ (k : ℕ) (whole old run : List ℤ) (size : length whole ≡ length old)
    (room : k + length run ≤ length old)
    (numbers : (i : ℕ) → i < length run
    → slice_index_or run i (pos 0) ≡ slice_index_or whole (k + i) (pos 0)) where
  abbrev so_far : List ℤ
  so_far = filled k whole old

  run_fits : k + length run ≤ length so_far
  run_fits = let e = filled_length k whole old in omega (arith, room, e)

  run_length : length (put_from k so_far run) ≡ length old
  run_length = put_from_size so_far run k run_fits ∙ filled_length k whole old

  run_number : (i : ℕ) → i < length old
      → slice_index_or (put_from k so_far run) i (pos 0)
      ≡ slice_index_or (filled (k + length run) whole old) i (pos 0)
  run_number i l = go (cases_lt i k) (cases_lt i (k + length run))
    where
      go : (i < k) ⊎ (k ≤ i) → (i < k + length run) ⊎ (k + length run ≤ i)
          → slice_index_or (put_from k so_far run) i (pos 0)
          ≡ slice_index_or (filled (k + length run) whole old) i (pos 0)
      go (inl h) m =
          put_before k so_far run run_fits i h
          ∙ filled_before k i whole old size l h
          ∙ sym (filled_before (k + length run) i whole old size l (omega (arith, h)))
      go (inr h) (inl m) =
          let e : i ≡ k + (i - k) = omega (arith, h) in
          let j : i - k < length run = omega (arith, h, m) in
          ap (λ n. slice_index_or (put_from k so_far run) n (pos 0)) e
          ∙ put_within k so_far run run_fits (i - k) j
          ∙ numbers (i - k) j
          ∙ ap (λ n. slice_index_or whole n (pos 0)) (sym e)
          ∙ sym (filled_before (k + length run) i whole old size l m)
      go (inr h) (inr m) =
          put_behind k so_far run run_fits i m
          ∙ filled_later k i whole old (pos 0) h
          ∙ sym (filled_later (k + length run) i whole old (pos 0) m)

  filled_run : put_from k so_far run ≡ filled (k + length run) whole old
  filled_run =
      same_list (put_from k so_far run) (filled (k + length run) whole old) (pos 0)
      (run_length ∙ sym (filled_length (k + length run) whole old))
      (λ i l. run_number i (let e = run_length in omega (arith, l, e)))

-- ---- a part's levels by runs

module _ (p cur : PatchValue) (v : VarId) (l k : ℕ) (whole_level : List ℤ) (low : Point)
    (run : List ℤ) (s : IsPatch p) (g : IsGridLevel p v l) (inside : IsIn p.local low)
    (place : index_in p.local low ≡ k)
    (high : (low.x +ℤ pos (length run)) ≤ℤ p.local.high.x) where
  abbrev target_level : List ℤ
  target_level = local_level p whole_level

  abbrev old_level : List ℤ
  old_level = level_of p.numbers v l

  abbrev some_level : List ℤ
  some_level = filled k target_level old_level

  abbrev some_numbers : State
  some_numbers = with_level p.numbers v l some_level

  old_size : length old_level ≡ point_count p.local
  old_size = grid_size p v l s g

  target_size : length target_level ≡ point_count p.local
  target_size = numbers_length p.local (at p.shape whole_level)

  var_there : v.0 < length p.numbers
  var_there = let e = var_count p s in let m = g.var in omega (arith, e, m)

  level_there : l < length (slice_index_or p.numbers v.0 [])
  level_there = let e = (held_levels p s).levels v.0 g.var in let m = g.stored in
      omega (arith, e, m)

  some_is : level_of some_numbers v l ≡ some_level
  some_is = level_same p.numbers v l some_level var_there level_there

  fill_room : k + length run ≤ point_count p.local
  fill_room = let e = row_end p.local low (length run) inside high in omega (arith, e, place)

  -- the points of the run, by their places
  run_point : (i : ℕ) → i < length run → point_in p.local (k + i) ≡ beside low i
  run_point i m =
      let e : index_in p.local (beside low i) ≡ k + i =
      row_index p.local low i inside.x.from ∙ ap (λ n. n + i) place in
      ap (point_in p.local) (sym e)
      ∙ point_at_index p.local (beside low i)
      (row_inside p.local low (length run) i inside high m)

  -- one more run of a level
  pub fill_run : run ≡ numbers_from p.shape whole_level low (length run)
      → cur ≡ with_numbers p some_numbers
      → with_row cur v l low run
      ≡ with_numbers p
      (with_level p.numbers v l (filled (k + length run) target_level old_level))
  fill_run numbers e =
      ap (λ (q : PatchValue). with_row q v l low run) e
      ∙ ap (with_numbers p)
      (ap (λ ns. with_level some_numbers v l (put_from (index_in p.local low) ns run)) some_is
      ∙ ap (λ n. with_level some_numbers v l (put_from n some_level run)) place
      ∙ ap (with_level some_numbers v l)
      (filled_run k target_level old_level run (target_size ∙ sym old_size)
      (let r = fill_room in omega (arith, r, old_size)) each_number)
      ∙ level_again p.numbers v l some_level (filled (k + length run) target_level old_level)
      var_there)
    where
      each_number : (i : ℕ) → i < length run
          → slice_index_or run i (pos 0) ≡ slice_index_or target_level (k + i) (pos 0)
      each_number i m =
          ap (λ ns. slice_index_or ns i (pos 0)) numbers
          ∙ get_or-map-range_with_len (λ j. at p.shape whole_level (beside low j)) 0 (length run)
          i i (pos 0) m (omega arith)
          ∙ ap (at p.shape whole_level) (sym (run_point i m))
          ∙ sym (number_in p.local (at p.shape whole_level) (k + i)
          (let r = fill_room in omega (arith, r, m)))

pub fill_none : (p : PatchValue) (v : VarId) (l : ℕ) (whole_level : List ℤ)
    → p ≡ with_numbers p (with_level p.numbers v l
    (filled 0 (local_level p whole_level) (level_of p.numbers v l)))
fill_none p v l whole_level = ap (with_numbers p) (sym (level_kept p.numbers v l))

pub fill_all : (p : PatchValue) (v : VarId) (l i : ℕ) (whole_level : List ℤ) → IsPatch p
    → IsGridLevel p v l → point_count p.local ≤ i
    → with_numbers p (with_level p.numbers v l
    (filled i (local_level p whole_level) (level_of p.numbers v l)))
    ≡ with_numbers p (with_level p.numbers v l (local_level p whole_level))
fill_all p v l i whole_level s g h =
    let long = numbers_length p.local (at p.shape whole_level) in
    let size = grid_size p v l s g in
    ap (λ ns. with_numbers p (with_level p.numbers v l ns))
    (filled_all i (local_level p whole_level) (level_of p.numbers v l) (long ∙ sym size)
    (omega (arith, size, h)))

-- ---- a part's variables by levels

-- a variable's levels by whole ones from a place on
abbrev pub variable_levels : PatchValue → ℕ → ℕ → List (List ℤ) → List (List ℤ)
variable_levels p from n all =
    map (λ l. local_level p (slice_index_or all (from + l) [])) (range_with_len 0 n)

module _ (p : PatchValue) (v : VarId) (from n : ℕ) (all : List (List ℤ)) (state : State)
    (there : v.0 < length state) (size : length (slice_index_or state v.0 []) ≡ n) where
  abbrev was : List (List ℤ)
  was = slice_index_or state v.0 []

  abbrev levels : List (List ℤ)
  levels = variable_levels p from n all

  many : length levels ≡ n
  many = length-map-range_with_len (λ l. local_level p (slice_index_or all (from + l) [])) 0 n

  some_filled : (k : ℕ) → k ≤ n
      → levels_filled p v from k all state ≡ slice_set state v.0 (filled k levels was)
  some_filled zero h = sym (set_none state v.0 [])
  some_filled (suc k) h =
      let now = slice_set state v.0 (filled k levels was) in
      let next = local_level p (slice_index_or all (from + k) []) in
      let number : next ≡ slice_index_or levels k [] =
      sym (get_or-map-range_with_len (λ l. local_level p (slice_index_or all (from + l) [])) 0 n k k
      [] (omega (arith, h)) (omega arith)) in
      ap (λ (t : State). with_level t v k next) (some_filled k (omega (arith, h)))
      ∙ ap (λ ls. slice_set now v.0 (slice_set ls k next))
      (get_or-set_same state v.0 (filled k levels was) [] there)
      ∙ set_again state v.0 (filled k levels was) (slice_set (filled k levels was) k next)
      ∙ ap (λ ns. slice_set state v.0 (slice_set (filled k levels was) k ns)) number
      ∙ ap (slice_set state v.0)
      (filled_step k levels was [] (omega (arith, many, h)) (omega (arith, size, h)))

  pub all_filled : levels_filled p v from n all state ≡ slice_set state v.0 levels
  all_filled = some_filled n (omega arith)
      ∙ ap (slice_set state v.0) (filled_all n levels was (many ∙ sym size) (omega (arith, size)))

-- ---- the whole part

module _ (setup : Setup) (c : Checkpoint) (h : HoldsState setup c) (p : PatchValue) (s : IsPatch p)
    (shape : p.shape ≡ setup.shape) (vars : p.vars ≡ setup.vars)
    (one : (v : ℕ) → v < length setup.vars → (info setup.vars v).scalar ≡ true
    → (info setup.vars v).levels ≤ 1) where
  abbrev state : State
  state = state_of setup.vars c

  abbrev target : State
  target = scattered setup c p

  target_vars : length target ≡ length setup.vars
  target_vars = vars_in setup (values_of setup state) p.local 0 state
      ∙ from_length setup.vars c.scalars c.levels

  held_vars : length p.numbers ≡ length setup.vars
  held_vars = var_count p s ∙ ap length vars

  held_many : (v : ℕ) → v < length setup.vars
      → length (slice_index_or p.numbers v []) ≡ (info setup.vars v).levels
  held_many v l =
      let m : v < length p.vars = let e = ap length vars in omega (arith, e, l) in
      (held_levels p s).levels v m ∙ ap (λ xs. (info xs v).levels) vars

  module _ (v : ℕ) (l : v < length setup.vars) where
    state_there : v < length state
    state_there = let e = from_length setup.vars c.scalars c.levels in omega (arith, e, l)

    -- of a grid variable
    module _ (grid : (info setup.vars v).scalar ≡ false) where
      abbrev from : ℕ
      from = before level_count setup.vars v

      abbrev count : ℕ
      count = (info setup.vars v).levels

      grid_count : level_count (info setup.vars v) ≡ count
      grid_count = rw grid refl

      state_grid : slice_index_or state v [] ≡ take count (drop from c.levels)
      state_grid = from_grid setup.vars c.scalars c.levels v l grid

      state_many : length (slice_index_or state v []) ≡ count
      state_many =
          let room = before_room level_count setup.vars v l in
          let d = length-drop from c.levels in
          let t = h.levels in
          ap length state_grid ∙ length-take-le count (drop from c.levels)
          (omega (arith, room, d, t, grid_count))

      state_level : (k : ℕ) → k < count
          → slice_index_or (slice_index_or state v []) k [] ≡ slice_index_or c.levels (from + k) []
      state_level k m =
          ap (λ ls. slice_index_or ls k []) state_grid
          ∙ get_or-take count (drop from c.levels) k [] m ∙ get_or-drop from c.levels k []

      values_at : (k : ℕ) (y : Point) → k < count
          → values_of setup state (var v) k y ≡ at p.shape (slice_index_or c.levels (from + k) []) y
      values_at k y m =
          ap (λ (b : Bool). if b then scalar_of state (var v)
          else at setup.shape (level_of state (var v) k) y) grid
          ∙ ap (λ ns. at setup.shape ns y) (state_level k m)
          ∙ ap (λ sh. at sh (slice_index_or c.levels (from + k) []) y) (sym shape)

      pub target_grid : slice_index_or target v [] ≡ variable_levels p from count c.levels
      target_grid =
          grid_in setup (values_of setup state) p.local 0 v v state (omega arith) grid state_there
          ∙ ap (λ n. map (λ k. numbers_in p.local (values_of setup state (var v) k))
          (range_with_len 0 n)) state_many
          ∙ levels_same count (λ k. numbers_in p.local (values_of setup state (var v) k))
          (λ k. local_level p (slice_index_or c.levels (from + k) []))
          (λ k m. numbers_same p.local (values_of setup state (var v) k)
          (at p.shape (slice_index_or c.levels (from + k) [])) (λ y i. values_at k y m))
        where
          levels_same : (n : ℕ) (f g : ℕ → List ℤ) → ((k : ℕ) → k < n → f k ≡ g k)
              → map f (range_with_len 0 n) ≡ map g (range_with_len 0 n)
          levels_same n f g each =
              fill_by_all g (map f (range_with_len 0 n)) n [] (length-map-range_with_len f 0 n)
              (λ k m. get_or-map-range_with_len f 0 n k k [] m (omega arith) ∙ each k m)

    -- of a scalar
    module _ (scalar : (info setup.vars v).scalar ≡ true) where
      pub target_scalar : slice_index_or target v []
          ≡ map (λ (n : ℤ). n ∷ [])
          (take (info setup.vars v).levels (drop (before scalar_count setup.vars v) c.scalars))
      target_scalar =
          scalar_in setup (values_of setup state) p.local 0 v v state (omega arith) scalar
          ∙ from_scalar setup.vars c.scalars c.levels v l scalar

    -- one more variable
    abbrev first : State
    first = filled v target p.numbers

    first_there : v < length first
    first_there = let e = filled_length v target p.numbers in let m = held_vars in
        omega (arith, e, m, l)

    first_levels : slice_index_or first v [] ≡ slice_index_or p.numbers v []
    first_levels = filled_later v v target p.numbers [] (omega arith)

    step : (ls : List (List ℤ)) → ls ≡ slice_index_or target v []
        → slice_set first v ls ≡ filled (v + 1) target p.numbers
    step ls e =
        let q : suc v ≡ v + 1 = omega arith in
        let a = target_vars in
        let b = held_vars in
        ap (slice_set first v) e
        ∙ filled_step v target p.numbers [] (omega (arith, a, l)) (omega (arith, b, l))
        ∙ ap (λ k. filled k target p.numbers) q

    scalar_step : (n : ℕ) → n ≡ (info setup.vars v).levels → n ≤ 1
        → (info setup.vars v).scalar ≡ true
        → scalar_filled (var v) (before scalar_count setup.vars v) n c.scalars first
        ≡ filled (v + 1) target p.numbers
    scalar_step zero e few scalar =
        let t : slice_index_or target v [] ≡ [] =
        target_scalar scalar ∙ ap
        (λ k. map (λ (n : ℤ). n ∷ [])
        (take k (drop (before scalar_count setup.vars v) c.scalars))) (sym e)
        ∙ none (drop (before scalar_count setup.vars v) c.scalars) in
        let f : slice_index_or first v [] ≡ [] =
        first_levels ∙ empty (slice_index_or p.numbers v []) (held_many v l ∙ sym e) in
        sym (set_none first v []) ∙ step (slice_index_or first v []) (f ∙ sym t)
      where
        none : (ns : List ℤ) → map (λ (n : ℤ). n ∷ []) (take 0 ns) ≡ []
        none [] = refl
        none (n ∷ ns) = refl

        empty : (ls : List (List ℤ)) → length ls ≡ 0 → ls ≡ []
        empty [] e = refl
        empty (x ∷ ls) e = absurd (omega (arith, e))
    scalar_step (suc zero) e few scalar =
        let room = before_room scalar_count setup.vars v l in
        let d = length-drop (before scalar_count setup.vars v) c.scalars in
        let total_is = h.scalars in
        let count_is : scalar_count (info setup.vars v) ≡ (info setup.vars v).levels =
        rw scalar refl in
        let number = slice_index_or c.scalars (before scalar_count setup.vars v) (pos 0) in
        let t : slice_index_or target v [] ≡ (number ∷ []) ∷ [] =
        target_scalar scalar ∙ ap
        (λ k. map (λ (n : ℤ). n ∷ [])
        (take k (drop (before scalar_count setup.vars v) c.scalars))) (sym e)
        ∙ single (drop (before scalar_count setup.vars v) c.scalars) number
        (omega (arith, room, d, total_is, count_is, e))
        (get_or-drop (before scalar_count setup.vars v) c.scalars 0 (pos 0)
        ∙ ap (λ k. slice_index_or c.scalars k (pos 0))
        (plus (before scalar_count setup.vars v))) in
        let f : slice_set (slice_index_or first v []) 0 (number ∷ []) ≡ (number ∷ []) ∷ [] =
        ap (λ ls. slice_set ls 0 (number ∷ [])) first_levels
        ∙ one_level (slice_index_or p.numbers v []) (number ∷ []) (held_many v l ∙ sym e) in
        step (slice_set (slice_index_or first v []) 0 (number ∷ [])) (f ∙ sym t)
      where
        plus : (n : ℕ) → n + 0 ≡ n
        plus n = omega arith

        single : (ns : List ℤ) (n : ℤ) → 0 < length ns → slice_index_or ns 0 (pos 0) ≡ n
            → map (λ (m : ℤ). m ∷ []) (take 1 ns) ≡ (n ∷ []) ∷ []
        single [] n some e = absurd (omega (arith, some))
        single (m ∷ []) n some e = ap (λ k. (k ∷ []) ∷ []) e
        single (m ∷ k ∷ ns) n some e = ap (λ k. (k ∷ []) ∷ []) e

        one_level : (ls : List (List ℤ)) (ns : List ℤ) → length ls ≡ 1 → slice_set ls 0 ns ≡ ns ∷ []
        one_level [] ns e = absurd (omega (arith, e))
        one_level (x ∷ []) ns e = refl
        one_level (x ∷ y ∷ ls) ns e = absurd (omega (arith, e))
    scalar_step (suc (suc n)) e few scalar = absurd (omega (arith, few))

    pub more : levels_filled p (var v) (before level_count setup.vars v)
        (level_count (info setup.vars v)) c.levels
        (scalar_filled (var v) (before scalar_count setup.vars v) (scalar_count (info setup.vars v))
        c.scalars first)
        ≡ filled (v + 1) target p.numbers
    more = go (info setup.vars v).scalar refl
      where
        go : (b : Bool) → (info setup.vars v).scalar ≡ b
            → levels_filled p (var v) (before level_count setup.vars v)
            (level_count (info setup.vars v)) c.levels
            (scalar_filled (var v) (before scalar_count setup.vars v)
            (scalar_count (info setup.vars v)) c.scalars first)
            ≡ filled (v + 1) target p.numbers
        go true e =
            let a : level_count (info setup.vars v) ≡ 0 = rw e refl in
            let b : scalar_count (info setup.vars v) ≡ (info setup.vars v).levels = rw e refl in
            ap (λ k. levels_filled p (var v) (before level_count setup.vars v) k c.levels
            (scalar_filled (var v) (before scalar_count setup.vars v)
            (scalar_count (info setup.vars v)) c.scalars first)) a
            ∙ scalar_step (scalar_count (info setup.vars v)) b
            (let m = one v l e in omega (arith, b, m)) e
        go false e =
            let a : scalar_count (info setup.vars v) ≡ 0 = rw e refl in
            let b : level_count (info setup.vars v) ≡ (info setup.vars v).levels = rw e refl in
            let size : length (slice_index_or first v []) ≡ (info setup.vars v).levels =
            ap length first_levels ∙ held_many v l in
            ap (λ k. levels_filled p (var v) (before level_count setup.vars v)
            (level_count (info setup.vars v)) c.levels
            (scalar_filled (var v) (before scalar_count setup.vars v) k c.scalars first)) a
            ∙ ap (λ k. levels_filled p (var v) (before level_count setup.vars v) k c.levels first) b
            ∙ all_filled p (var v) (before level_count setup.vars v)
            (info setup.vars v).levels c.levels first first_there size
            ∙ step (variable_levels p (before level_count setup.vars v)
            (info setup.vars v).levels c.levels) (sym (target_grid e))

  pub scatter_all : (v : ℕ) → length setup.vars ≤ v → filled v target p.numbers ≡ target
  scatter_all v m = let a = target_vars in let b = held_vars in
      filled_all v target p.numbers (a ∙ sym b) (omega (arith, b, m))

-- ---- the first so many levels of a variable

pub filled_next : (p : PatchValue) (v : VarId) (from n : ℕ) (all : List (List ℤ)) (state : State)
    → with_level (levels_filled p v from n all state) v n
    (local_level p (slice_index_or all (from + n) []))
    ≡ levels_filled p v from (n + 1) all state
filled_next p v from n all state = let e : suc n ≡ n + 1 = omega arith in
    ap (λ k. levels_filled p v from k all state) e

pub levels_step : (p cur new : PatchValue) (v : VarId) (from n : ℕ) (all : List (List ℤ))
    (ns : List ℤ)
    → cur ≡ with_numbers p (levels_filled p v from n all p.numbers)
    → ns ≡ slice_index_or all (from + n) []
    → new ≡ with_numbers cur (with_level cur.numbers v n (local_level cur ns))
    → new ≡ with_numbers p (levels_filled p v from (n + 1) all p.numbers)
levels_step p cur new v from n all ns e number is =
    is ∙ ap (λ (q : PatchValue). with_numbers q (with_level q.numbers v n (local_level q ns))) e
    ∙ ap (λ ms. with_numbers p
    (with_level (levels_filled p v from n all p.numbers) v n (local_level p ms))) number
    ∙ ap (with_numbers p) (filled_next p v from n all p.numbers)

-- a patch with other numbers is of the same part
pub same_frame : (p q : PatchValue) (state : State) → q ≡ with_numbers p state
    → with_numbers q p.numbers ≡ p
same_frame p q state e = ap (λ (t : PatchValue). with_numbers t p.numbers) e

-- ---- a part's variables, one after another

-- the first so many variables are filled
pub record ScatteredTo (setup : Setup) (c : Checkpoint) (p cur : PatchValue)
    (scalars levels v : ℕ) : Type 0 where
  pub scalars_are : scalars ≡ before scalar_count setup.vars v
  pub levels_are : levels ≡ before level_count setup.vars v
  pub patch : cur ≡ with_numbers p (filled v (scattered setup c p) p.numbers)

pub scattered_none : (setup : Setup) (c : Checkpoint) (p : PatchValue)
    → ScatteredTo setup c p p 0 0 0
scattered_none setup c p =
    record {
      scalars_are = before_none scalar_count setup.vars;
      levels_are = before_none level_count setup.vars;
      patch = refl;
    }

pub scattered_more : (setup : Setup) (c : Checkpoint) → HoldsState setup c → (p : PatchValue)
    → IsPatch p → p.shape ≡ setup.shape → p.vars ≡ setup.vars
    → All (λ (x : VarInfo). x.scalar ≡ true → x.levels ≤ 1) setup.vars
    → (cur mid new : PatchValue) (scalars levels v a b : ℕ) → v < length setup.vars
    → a ≡ scalar_count (info setup.vars v) → b ≡ level_count (info setup.vars v)
    → ScatteredTo setup c p cur scalars levels v
    → mid ≡ with_numbers cur (scalar_filled (var v) scalars a c.scalars cur.numbers)
    → new ≡ with_numbers mid (levels_filled mid (var v) levels b c.levels mid.numbers)
    → ScatteredTo setup c p new (scalars + a) (levels + b) (v + 1)
scattered_more setup c h p s shape vars one cur mid new scalars levels v a b l ea eb f em en =
    record {
      scalars_are = let d = before_next scalar_count setup.vars v l in let g = f.scalars_are in
          omega (arith, d, ea, g);
      levels_are = let d = before_next level_count setup.vars v l in let g = f.levels_are in
          omega (arith, d, eb, g);
      patch =
          en ∙ ap (λ (q : PatchValue).
          with_numbers q (levels_filled q (var v) levels b c.levels q.numbers)) middle
          ∙ ap (λ k. with_numbers p
          (levels_filled p (var v) k b c.levels
          (scalar_filled (var v) (before scalar_count setup.vars v)
          (scalar_count (info setup.vars v)) c.scalars (filled v (scattered setup c p) p.numbers))))
          f.levels_are
          ∙ ap (λ k. with_numbers p
          (levels_filled p (var v) (before level_count setup.vars v) k c.levels
          (scalar_filled (var v) (before scalar_count setup.vars v)
          (scalar_count (info setup.vars v)) c.scalars (filled v (scattered setup c p) p.numbers))))
          eb
          ∙ ap (with_numbers p) (more setup c h p s shape vars (λ u m. one u no_variable m) v l);
    }
  where
    middle : mid ≡ with_numbers p
        (scalar_filled (var v) (before scalar_count setup.vars v) (scalar_count (info setup.vars v))
        c.scalars (filled v (scattered setup c p) p.numbers))
    middle =
        em ∙ ap (λ (q : PatchValue).
        with_numbers q (scalar_filled (var v) scalars a c.scalars q.numbers)) f.patch
        ∙ ap (λ k. with_numbers p
        (scalar_filled (var v) k a c.scalars (filled v (scattered setup c p) p.numbers)))
        f.scalars_are
        ∙ ap (λ k. with_numbers p
        (scalar_filled (var v) (before scalar_count setup.vars v) k c.scalars
        (filled v (scattered setup c p) p.numbers))) ea

pub scattered_all : (setup : Setup) (c : Checkpoint) → HoldsState setup c → (p : PatchValue)
    → IsPatch p → p.shape ≡ setup.shape → p.vars ≡ setup.vars
    → All (λ (x : VarInfo). x.scalar ≡ true → x.levels ≤ 1) setup.vars
    → (cur : PatchValue) (scalars levels v : ℕ) → length setup.vars ≤ v
    → ScatteredTo setup c p cur scalars levels v → cur ≡ with_numbers p (scattered setup c p)
scattered_all setup c h p s shape vars one cur scalars levels v m f =
    f.patch ∙ ap (with_numbers p)
    (scatter_all setup c h p s shape vars (λ u k. one u no_variable k) v m)

-- how much room the numbers of a variable have
pub scalars_room : (setup : Setup) (c : Checkpoint) → HoldsState setup c → (scalars a v : ℕ)
    → v < length setup.vars → scalars ≡ before scalar_count setup.vars v
    → a ≡ scalar_count (info setup.vars v)
    → scalars + a ≤ length c.scalars
scalars_room setup c h scalars a v l e f = let r = before_room scalar_count setup.vars v l in
    let t = h.scalars in omega (arith, r, t, e, f)

pub levels_room : (setup : Setup) (c : Checkpoint) → HoldsState setup c → (levels b v : ℕ)
    → v < length setup.vars → levels ≡ before level_count setup.vars v
    → b ≡ level_count (info setup.vars v)
    → levels + b ≤ length c.levels
levels_room setup c h levels b v l e f = let r = before_room level_count setup.vars v l in
    let t = h.levels in omega (arith, r, t, e, f)

-- and how few they are
pub scalars_small : (vars : List VarInfo) → length vars ≤ 256
    → All (λ (x : VarInfo). x.levels ≤ 8) vars → (scalars a v : ℕ) → v < length vars
    → scalars ≡ before scalar_count vars v → a ≡ scalar_count (info vars v) → scalars + a ≤ 2048
scalars_small vars many few scalars a v l e f =
    let r = before_room scalar_count vars v l in
    let t = total_few scalar_count vars 8
    (λ u m. let g = few u no_variable m in let h = scalars_few (info vars u) in
    omega (arith, g, h)) in
    omega (arith, r, t, e, f, many)

pub levels_small : (vars : List VarInfo) → length vars ≤ 256
    → All (λ (x : VarInfo). x.levels ≤ 8) vars → (levels b v : ℕ) → v < length vars
    → levels ≡ before level_count vars v → b ≡ level_count (info vars v) → levels + b ≤ 2048
levels_small vars many few levels b v l e f =
    let r = before_room level_count vars v l in
    let t = total_few level_count vars 8
    (λ u m. let g = few u no_variable m in let h = levels_few (info vars u) in
    omega (arith, g, h)) in
    omega (arith, r, t, e, f, many)
