-- Pieces that have been put stand in the buffers, stay there while other parts put theirs, and make
-- the whole.
use Rattle.std.proofs.Common.{◌≡◌, ℕ, zero, suc, ◌+◌, ◌<◌, ◌≤◌, Bool, true, false, arith, refl, sym, ap, ◌∙◌, subst, ℤ, pos, List, [], ◌∷◌, length, map, take, drop, ◌==◌}
use Rattle.std.specs.Prelude.{slice_index_or, if◌then◌else◌, All}
use Rattle.std.proofs.lemmas.Bool.{ne_eqb}
use Rattle.std.proofs.lemmas.List.{get_or-set_same, get_or-take, get_or-drop, length-map, length-take-le, length-drop}
use Rattle.std.proofs.lemmas.List.Elements.{All-get_or, All-nil, All-cons}
use Rattle.cx_grid.specs.declared.boxes.Point.{Point}
use Rattle.cx_grid.specs.Boxes.{IsIn, has_point, point_count, index_in, numbers_in}
use Rattle.cx_grid.specs.Grid.{whole, at}
use Rattle.cx_grid.proofs.Points.{in_is, in_from}
use Rattle.cx_plan.specs.declared.variable.VarId.{VarId}
use Rattle.cx_plan.specs.declared.job.Job.{Job}
use Rattle.cx_plan.specs.Setups.{Setup, setup_of}
use Rattle.cx_plan.specs.Lookups.{variable, is_scalar, levels_of}
use Rattle.cx_rule.specs.Routine.{Rule}
use Rattle.cx_rule.specs.States.{State, level_of, scalar_of}
use Rattle.cx_rule.specs.Sweeps.{first_point}
use Rattle.cx_model.specs.States.{IsState, number_count}
use Rattle.cx_model.specs.Turns.{values_of}
use Rattle.cx_model.proofs.PointLaws.{wrap-own}
use Rattle.cx_ascii.specs.Output.{section, line}
use Rattle.cx_cut.specs.Cuts.{Parts, part_count, owned, local}
use Rattle.cx_cut.specs.Tiling.{Tiles}
use Rattle.cx_chk.specs.declared.checkpoint.Checkpoint.{Checkpoint}
use Rattle.cx_field.specs.Patches.{PatchValue, IsPatch}
use Rattle.cx_model.specs.Runs.{Lengths}
use Rattle.law_parts.specs.Holding.{number_at, local_values, state_in}
use Rattle.law_parts.specs.Beginnings.{From, run_of}
use Rattle.law_parts.specs.Moves.{Message}
use Rattle.law_parts.specs.Nets.{only_level, IsGathered, IsTextOf, held_first}
use Rattle.law_parts.specs.Runs.{Run, cut_of, parts_in}
use Rattle.law_parts.proofs.StateIn.{var, scalar_in, level_in}
use Rattle.cx_core_buffers.specs.Checkpoints.{HoldsState, total, before, state_of, state_from, scalars_in, levels_in}
use Rattle.cx_core_buffers.specs.Gathering.{Buffers, piece_of, put, put_all, piece_put, with_piece, state_put, HasPiece, IsPatchOf, scattered}
use Rattle.cx_core_buffers.specs.Pieces.{HoldsPiece, HoldsPart}
use Rattle.law_parts.proofs.FilledLaws.{same_list}
use Rattle.cx_core_buffers.proofs.RowLaws.{of_list, by_points, at_point}
use Rattle.cx_core_buffers.proofs.CheckpointLaws.{info, HasLevels, HasScalars, before_room, levels_length, levels_at, scalars_length, scalars_at, from_length, from_grid, from_scalar}
use Rattle.cx_core_buffers.proofs.FillLaws.{held_levels, held_scalars}
use Rattle.cx_core_buffers.proofs.PutLaws.{put_length, all_length, all_at}
use Rattle.cx_plan.specs.Whole.{scalar_count, level_count}

-- a patch of part k of a cut of a setup's grid
pub record IsPartOf (setup : Setup) (c : Parts) (k : ℕ) (p : PatchValue) : Type 0 where
  pub patch : IsPatch p
  pub of : IsPatchOf setup p
  pub owned_is : p.owned ≡ owned c k
  pub local_is : p.local ≡ local c k
  pub part : k < part_count c

-- a part's pieces: of a variable's current level, and of a state
abbrev pub piece_from : Setup → Parts → ℕ → State → VarId → List ℤ
piece_from setup c k numbers v =
    if is_scalar setup v
    then local_values setup (local c k) numbers v 0 first_point ∷ []
    else numbers_in (owned c k) (local_values setup (local c k) numbers v 0)

abbrev pub state_piece : Setup → Parts → ℕ → State → State
state_piece setup c k numbers =
    state_in setup (local_values setup (local c k) numbers) (owned c k) 0 numbers

module _ (setup : Setup) (c : Parts) (shape : c.shape ≡ setup.shape) (tiles : Tiles c) where
  in_whole : (k : ℕ) → k < part_count c → (y : Point) → IsIn (owned c k) y
      → IsIn (whole setup.shape) y
  in_whole k l y h = subst (λ s. IsIn (whole s) y) shape (tiles.within y k l h)

  -- ---- one level

  module _ (k : ℕ) (p : PatchValue) (is : IsPartOf setup c k p) where
    -- it has the part's number at a point that the part owns
    put_own : (part level : List ℤ) (y : Point) → IsIn (owned c k) y
        → number_at (whole setup.shape) (put p part level) y ≡ number_at (local c k) part y
    put_own part level y h =
        let o = subst (λ b. IsIn b y) (sym is.owned_is) h in
        let w = subst (λ s. IsIn (whole s) y) (sym is.of.shape) (in_whole k is.part y h) in
        ap (λ s. number_at (whole s) (put p part level) y) (sym is.of.shape)
        ∙ at_point (whole p.shape)
        (λ z. if has_point p.owned z then number_at p.local part z
        else number_at (whole p.shape) level z) y w
        ∙ ap (λ (b : Bool). if b then number_at p.local part y
        else number_at (whole p.shape) level y) (in_from p.owned y o)
        ∙ ap (λ b. number_at b part y) is.local_is

    -- and at a point of another part the number that it had
    put_other : (part level : List ℤ) (j : ℕ) (y : Point) → j < part_count c → (j ≡ k → ⊥)
        → IsIn (owned c j) y
        → number_at (whole setup.shape) (put p part level) y ≡ number_at (whole setup.shape) level y
    put_other part level j y m apart h =
        let w = subst (λ s. IsIn (whole s) y) (sym is.of.shape) (in_whole j m y h) in
        let off : has_point p.owned y ≡ false =
        not_in p.owned y (λ o.
        apart (tiles.once y j k m is.part h (subst (λ b. IsIn b y) is.owned_is o))) in
        ap (λ s. number_at (whole s) (put p part level) y) (sym is.of.shape)
        ∙ at_point (whole p.shape)
        (λ z. if has_point p.owned z then number_at p.local part z
        else number_at (whole p.shape) level z) y w
        ∙ ap (λ (b : Bool). if b then number_at p.local part y
        else number_at (whole p.shape) level y) off
        ∙ ap (λ s. number_at (whole s) level y) is.of.shape
      where
        not_in : (b : _) (q : Point) → (IsIn b q → ⊥) → has_point b q ≡ false
        not_in b q n = go (has_point b q) refl
          where
            go : (t : Bool) → has_point b q ≡ t → t ≡ false
            go true e = absurd (n (in_is b q e))
            go false e = refl

    -- ---- a piece of output

    module _ (b : Buffers) (v : VarId) (room : HasPiece setup b v) where
      now_is : piece_of (with_piece setup k p v b) v
          ≡ piece_put (is_scalar setup v) k p v (piece_of b v)
      now_is = get_or-set_same b.pieces v.0 (piece_put (is_scalar setup v) k p v (piece_of b v)) []
          room.there

      grid_is : is_scalar setup v ≡ false
          → piece_of (with_piece setup k p v b) v ≡ put p (level_of p.numbers v 0) (piece_of b v)
      grid_is e = now_is ∙ ap (λ t. piece_put t k p v (piece_of b v)) e

      scalar_is : is_scalar setup v ≡ true
          → piece_of (with_piece setup k p v b) v
          ≡ (if k == 0 then scalar_of p.numbers v ∷ [] else piece_of b v)
      scalar_is e = now_is ∙ ap (λ t. piece_put t k p v (piece_of b v)) e

      -- the part's piece stands in the buffer
      pub piece_holds : HoldsPiece setup c (with_piece setup k p v b) v k
          (piece_from setup c k p.numbers v)
      piece_holds = record { scalar = scalar; grid = grid }
        where
          scalar : is_scalar setup v ≡ true → k ≡ 0
              → slice_index_or (piece_of (with_piece setup k p v b) v) 0 (pos 0)
              ≡ slice_index_or (piece_from setup c k p.numbers v) 0 (pos 0)
          scalar e z =
              ap (λ ns. slice_index_or ns 0 (pos 0))
              (scalar_is e ∙ ap (λ n. if n == 0 then scalar_of p.numbers v ∷ []
              else piece_of b v) z)
              ∙ sym
              (ap (λ (t : Bool). if t then scalar_of p.numbers v
              else number_at (local c k) (level_of p.numbers v 0) first_point) e)
              ∙ sym
              (ap (λ (t : Bool). slice_index_or
              (if t then local_values setup (local c k) p.numbers v 0 first_point ∷ []
              else numbers_in (owned c k) (local_values setup (local c k) p.numbers v 0)) 0
              (pos 0)) e)

          grid : is_scalar setup v ≡ false → (y : Point) → IsIn (owned c k) y
              → number_at (whole setup.shape) (piece_of (with_piece setup k p v b) v) y
              ≡ number_at (owned c k) (piece_from setup c k p.numbers v) y
          grid e y h =
              ap (λ ns. number_at (whole setup.shape) ns y) (grid_is e)
              ∙ put_own (level_of p.numbers v 0) (piece_of b v) y h
              ∙ sym
              (ap (λ (t : Bool). if t then scalar_of p.numbers v
              else number_at (local c k) (level_of p.numbers v 0) y) e)
              ∙ sym (at_point (owned c k) (local_values setup (local c k) p.numbers v 0) y h)
              ∙ sym
              (ap (λ (t : Bool). number_at (owned c k)
              (if t then local_values setup (local c k) p.numbers v 0 first_point ∷ []
              else numbers_in (owned c k) (local_values setup (local c k) p.numbers v 0)) y) e)

      -- and that of another part stays there
      pub piece_stays : (j : ℕ) (piece : List ℤ) → j < part_count c → (j ≡ k → ⊥)
          → HoldsPiece setup c b v j piece → HoldsPiece setup c (with_piece setup k p v b) v j piece
      piece_stays j piece m apart holds = record {
        scalar = λ e z.
            ap (λ ns. slice_index_or ns 0 (pos 0))
            (scalar_is e ∙ ap (λ (t : Bool). if t then scalar_of p.numbers v ∷ []
            else piece_of b v) (ne_eqb k 0 (λ q. apart (z ∙ sym q))))
            ∙ holds.scalar e z;
        grid = λ e y h. ap (λ ns. number_at (whole setup.shape) ns y) (grid_is e)
            ∙ put_other (level_of p.numbers v 0) (piece_of b v) j y m apart h ∙ holds.grid e y h;
      }

    -- ---- a piece of a checkpoint

    module _ (chk : Checkpoint) (room : HoldsState setup chk)
        (one : (v : ℕ) → v < length setup.vars → (info setup.vars v).scalar ≡ true
        → (info setup.vars v).levels ≤ 1) where
      abbrev new : Checkpoint
      new = state_put setup k p chk

      has : HasLevels setup.vars p.numbers
      has = subst (λ vs. HasLevels vs p.numbers) is.of.vars (held_levels p is.patch)

      scalars : HasScalars setup.vars p.numbers
      scalars = subst (λ vs. HasScalars vs p.numbers) is.of.vars
          (held_scalars p is.patch
          (subst (λ vs. (v : ℕ) → v < length vs → (info vs v).scalar ≡ true
          → (info vs v).levels ≤ 1) (sym is.of.vars) one))

      abbrev parts : List (List ℤ)
      parts = levels_in setup.vars p.numbers

      -- a level of the state of a checkpoint
      from_at : (ss : List ℤ) (ls : List (List ℤ)) (v : VarId) (l : ℕ) → is_scalar setup v ≡ false
          → v.0 < length setup.vars → l < levels_of setup v
          → level_of (state_from setup.vars ss ls) v l
          ≡ slice_index_or ls (before level_count setup.vars v.0 + l) []
      from_at ss ls v l e there stored =
          ap (λ ns. slice_index_or ns l []) (from_grid setup.vars ss ls v.0 there e)
          ∙ get_or-take (levels_of setup v) (drop (before level_count setup.vars v.0) ls) l []
          stored
          ∙ get_or-drop (before level_count setup.vars v.0) ls l []

      level_is : (v : VarId) (l : ℕ) → is_scalar setup v ≡ false → v.0 < length setup.vars
          → l < levels_of setup v
          → level_of (state_of setup.vars new) v l
          ≡ put p (level_of p.numbers v l) (level_of (state_of setup.vars chk) v l)
      level_is v l e there stored =
          let place = before level_count setup.vars v.0 + l in
          let r = before_room level_count setup.vars v.0 there in
          let n : level_count (info setup.vars v.0) ≡ levels_of setup v = rw e refl in
          let long = levels_length setup.vars p.numbers has in
          let many = room.levels in
          from_at new.scalars new.levels v l e there stored
          ∙ all_at p parts chk.levels place (omega (arith, r, n, long, stored))
          (omega (arith, r, n, many, stored))
          ∙ ap (λ ns. put p ns (slice_index_or chk.levels place []))
          (levels_at setup.vars p.numbers v.0 l has there e stored)
          ∙ ap (put p (level_of p.numbers v l))
          (sym (from_at chk.scalars chk.levels v l e there stored))

      held_grid : (v : VarId) (l : ℕ) (y : Point) → is_scalar setup v ≡ false
          → v.0 < length setup.vars → l < levels_of setup v → IsIn (owned c k) y
          → number_at (owned c k) (level_of (state_piece setup c k p.numbers) v l) y
          ≡ number_at (local c k) (level_of p.numbers v l) y
      held_grid v l y e there stored h =
          let a = has.vars_are in
          let b = has.levels v.0 there in
          ap (λ ns. number_at (owned c k) ns y)
          (level_in setup (local_values setup (local c k) p.numbers) (owned c k) v l p.numbers e
          (omega (arith, a, there)) (omega (arith, b, stored)))
          ∙ at_point (owned c k) (local_values setup (local c k) p.numbers v l) y h
          ∙ ap (λ (t : Bool). if t then scalar_of p.numbers v
          else number_at (local c k) (level_of p.numbers v l) y) e

      abbrev singles : List ℤ → List (List ℤ)
      singles ns = map (λ (n : ℤ). n ∷ []) ns

      -- a scalar's levels are at most one, of its number
      as_single : (n : ℕ) (levels : List (List ℤ)) (ns : List ℤ) → n ≤ 1 → length levels ≡ n
          → n ≤ length ns
          → (0 < n → length (slice_index_or levels 0 []) ≡ 1)
          → (0 < n → slice_index_or ns 0 (pos 0)
          ≡ slice_index_or (slice_index_or levels 0 []) 0 (pos 0))
          → singles (take n ns) ≡ levels
      as_single zero [] [] few many long number same = refl
      as_single zero [] (m ∷ ns) few many long number same = refl
      as_single zero (x ∷ levels) ns few many long number same = absurd (omega (arith, many))
      as_single (suc zero) [] ns few many long number same = absurd (omega (arith, many))
      as_single (suc zero) (x ∷ y ∷ levels) ns few many long number same =
          absurd (omega (arith, many))
      as_single (suc zero) (x ∷ []) [] few many long number same = absurd (omega (arith, long))
      as_single (suc zero) (x ∷ []) (m ∷ []) few many long number same =
          ap (λ z. z ∷ []) (only x m (number (omega arith)) (same (omega arith)))
        where
          only : (x : List ℤ) (m : ℤ) → length x ≡ 1 → m ≡ slice_index_or x 0 (pos 0) → m ∷ [] ≡ x
          only [] m e f = absurd (omega (arith, e))
          only (n ∷ []) m e f = ap (λ z. z ∷ []) f
          only (n ∷ k ∷ x) m e f = absurd (omega (arith, e))
      as_single (suc zero) (x ∷ []) (m ∷ a ∷ ns) few many long number same =
          ap (λ z. z ∷ []) (only x m (number (omega arith)) (same (omega arith)))
        where
          only : (x : List ℤ) (m : ℤ) → length x ≡ 1 → m ≡ slice_index_or x 0 (pos 0) → m ∷ [] ≡ x
          only [] m e f = absurd (omega (arith, e))
          only (n ∷ []) m e f = ap (λ z. z ∷ []) f
          only (n ∷ k ∷ x) m e f = absurd (omega (arith, e))
      as_single (suc (suc n)) levels ns few many long number same = absurd (omega (arith, few))

      -- a scalar of the state behind part 0
      scalar_of_first : k ≡ 0 → (v : VarId) → is_scalar setup v ≡ true → v.0 < length setup.vars
          → slice_index_or (state_of setup.vars new) v.0 [] ≡ slice_index_or p.numbers v.0 []
      scalar_of_first z v e there =
          let from = before scalar_count setup.vars v.0 in
          let all = scalars_in setup.vars p.numbers in
          let mine : new.scalars ≡ all = ap (λ n. if n == 0 then all else chk.scalars) z in
          let r = before_room scalar_count setup.vars v.0 there in
          let n : scalar_count (info setup.vars v.0) ≡ levels_of setup v = rw e refl in
          let long = scalars_length setup.vars p.numbers scalars in
          let d = length-drop from all in
          from_scalar setup.vars new.scalars new.levels v.0 there e
          ∙ ap (λ ns. singles (take (levels_of setup v) (drop from ns))) mine
          ∙ as_single (levels_of setup v) (slice_index_or p.numbers v.0 []) (drop from all)
          (one v.0 there e) (has.levels v.0 there) (omega (arith, d, r, n, long))
          (λ some. scalars.one_number v.0 there e some)
          (λ some. get_or-drop from all 0 (pos 0)
          ∙ ap (λ i. slice_index_or all i (pos 0)) (plus from)
          ∙ scalars_at setup.vars p.numbers v.0 scalars there e some)
        where
          plus : (n : ℕ) → n + 0 ≡ n
          plus n = omega arith

      pub state_holds : HoldsPart setup c new k (state_piece setup c k p.numbers)
      state_holds = record {
        scalars = λ z v e there. scalar_of_first z v e there
            ∙ sym (scalar_in setup (local_values setup (local c k) p.numbers) (owned c k)
            0 v.0 v.0 p.numbers (omega arith) e);
        levels = λ v l y e there stored h.
            ap (λ ns. number_at (whole setup.shape) ns y) (level_is v l e there stored)
            ∙ put_own (level_of p.numbers v l) (level_of (state_of setup.vars chk) v l) y h
            ∙ sym (held_grid v l y e there stored h);
      }

      -- the scalars of a state stay where part 0 isn't put
      scalar_stays : (k ≡ 0 → ⊥) → (v : VarId) → is_scalar setup v ≡ true → v.0 < length setup.vars
          → slice_index_or (state_of setup.vars new) v.0 []
          ≡ slice_index_or (state_of setup.vars chk) v.0 []
      scalar_stays off v e there =
          let mine : new.scalars ≡ chk.scalars =
          ap (λ (t : Bool). if t then scalars_in setup.vars p.numbers else chk.scalars)
          (ne_eqb k 0 off) in
          from_scalar setup.vars new.scalars new.levels v.0 there e
          ∙ ap (λ ns. singles (take (levels_of setup v)
          (drop (before scalar_count setup.vars v.0) ns))) mine
          ∙ sym (from_scalar setup.vars chk.scalars chk.levels v.0 there e)

      pub state_stays : (j : ℕ) (piece : State) → j < part_count c → (j ≡ k → ⊥)
          → HoldsPart setup c chk j piece → HoldsPart setup c new j piece
      state_stays j piece m apart holds = record {
        scalars = λ z v e there. scalar_stays (λ q. apart (z ∙ sym q)) v e there
            ∙ holds.scalars z v e there;
        levels = λ v l y e there stored h.
            ap (λ ns. number_at (whole setup.shape) ns y) (level_is v l e there stored)
            ∙ put_other (level_of p.numbers v l) (level_of (state_of setup.vars chk) v l)
            j y m apart h
            ∙ holds.levels v l y e there stored h;
      }

      -- the checkpoint holds a whole state still
      pub state_room : HoldsState setup new
      state_room = record {
        scalars = go (k == 0);
        levels = all_length p parts chk.levels long ∙ room.levels;
        points = each;
      }
        where
          long : length parts ≡ length chk.levels
          long = levels_length setup.vars p.numbers has ∙ sym room.levels

          go : (t : Bool) → length (if t then scalars_in setup.vars p.numbers else chk.scalars)
              ≡ total scalar_count setup.vars
          go true = scalars_length setup.vars p.numbers scalars
          go false = room.scalars

          each : All (λ (level : List ℤ). length level ≡ point_count (whole setup.shape)) new.levels
          each = all_put parts chk.levels long
            where
              size : (a b : List ℤ) → length (put p a b) ≡ point_count (whole setup.shape)
              size a b = put_length p a b ∙ ap (λ s. point_count (whole s)) is.of.shape

              all_put : (one two : List (List ℤ)) → length one ≡ length two
                  → All (λ (level : List ℤ). length level ≡ point_count (whole setup.shape))
                  (put_all p one two)
              all_put [] [] e = All-nil
                  (λ (level : List ℤ). length level ≡ point_count (whole setup.shape))
              all_put [] (b ∷ two) e = absurd (omega (arith, e))
              all_put (a ∷ one) [] e =
                  All-nil (λ (level : List ℤ). length level ≡ point_count (whole setup.shape))
              all_put (a ∷ one) (b ∷ two) e =
                  All-cons (λ (level : List ℤ). length level ≡ point_count (whole setup.shape))
                  (put p a b) (put_all p one two) (size a b)
                  (all_put one two (omega (arith, e)))

  -- ---- the whole state

  module _ (chk : Checkpoint) (room : HoldsState setup chk) (some : 0 < part_count c) (s : State)
      (is : IsState setup s) (pieces : ℕ → State)
      (holds : (k : ℕ) → k < part_count c → HoldsPart setup c chk k (pieces k))
      (truth : (k : ℕ) → k < part_count c
      → pieces k ≡ state_in setup (values_of setup s) (owned c k) 0 s) where
    many : length (state_of setup.vars chk) ≡ length s
    many = from_length setup.vars chk.scalars chk.levels ∙ sym is.vars

    module _ (v : ℕ) (l : v < length setup.vars) where
      there : v < length s
      there = let e = is.vars in omega (arith, e, l)

      scalar_same : is_scalar setup (var v) ≡ true
          → slice_index_or (state_of setup.vars chk) v [] ≡ slice_index_or s v []
      scalar_same e =
          (holds 0 some).scalars refl (var v) e l
          ∙ ap (λ (t : State). slice_index_or t v []) (truth 0 some)
          ∙ scalar_in setup (values_of setup s) (owned c 0) 0 v v s (omega arith) e

      module _ (e : is_scalar setup (var v) ≡ false) where
        abbrev from : ℕ
        from = before level_count setup.vars v

        levels_many : length (slice_index_or (state_of setup.vars chk) v [])
            ≡ levels_of setup (var v)
        levels_many =
            let r = before_room level_count setup.vars v l in
            let n : level_count (info setup.vars v) ≡ levels_of setup (var v) = rw e refl in
            let t = room.levels in
            let d = length-drop from chk.levels in
            ap length (from_grid setup.vars chk.scalars chk.levels v l e)
            ∙ length-take-le (levels_of setup (var v)) (drop from chk.levels)
            (omega (arith, d, r, n, t))

        module _ (i : ℕ) (stored : i < levels_of setup (var v)) where
          abbrev level : List ℤ
          level = level_of (state_of setup.vars chk) (var v) i

          place : from + i < length chk.levels
          place =
              let r = before_room level_count setup.vars v l in
              let n : level_count (info setup.vars v) ≡ levels_of setup (var v) = rw e refl in
              let t = room.levels in
              omega (arith, r, n, t, stored)

          level_at : level ≡ slice_index_or chk.levels (from + i) []
          level_at =
              ap (λ ns. slice_index_or ns i []) (from_grid setup.vars chk.scalars chk.levels v l e)
              ∙ get_or-take (levels_of setup (var v)) (drop from chk.levels) i [] stored
              ∙ get_or-drop from chk.levels i []

          level_size : length level ≡ point_count (whole setup.shape)
          level_size = ap length level_at
              ∙ All-get_or (λ (ns : List ℤ). length ns ≡ point_count (whole setup.shape)) chk.levels
              (from + i) [] place room.points

          true_size : length (level_of s (var v) i) ≡ point_count (whole setup.shape)
          true_size = is.numbers (var v) i l stored
              ∙ ap (λ (t : Bool). if t then 1 else point_count (whole setup.shape)) e

          number_same : (y : Point) → IsIn (whole setup.shape) y
              → number_at (whole setup.shape) level y
              ≡ number_at (whole setup.shape) (level_of s (var v) i) y
          number_same y h =
              let (k, m, own) = tiles.each y (subst (λ t. IsIn (whole t) y) (sym shape) h) in
              let enough = is.levels (var v) l in
              (holds k m).levels (var v) i y e l stored own
              ∙ ap (λ (t : State). number_at (owned c k) (level_of t (var v) i) y) (truth k m)
              ∙ ap (λ ns. number_at (owned c k) ns y)
              (level_in setup (values_of setup s) (owned c k) (var v) i s e there
              (omega (arith, enough, stored)))
              ∙ at_point (owned c k) (values_of setup s (var v) i) y own
              ∙ ap (λ (t : Bool). if t then scalar_of s (var v)
              else at setup.shape (level_of s (var v) i) y) e
              ∙ ap (λ q. slice_index_or (level_of s (var v) i) (index_in (whole setup.shape) q)
              (pos 0)) (wrap-own setup.shape y h)

          level_same : level ≡ level_of s (var v) i
          level_same =
              by_points (whole setup.shape) (number_at (whole setup.shape) (level_of s (var v) i))
              level level_size number_same
              ∙ of_list (whole setup.shape) (level_of s (var v) i) true_size

        grid_same : slice_index_or (state_of setup.vars chk) v [] ≡ slice_index_or s v []
        grid_same =
            let a = levels_many in
            same_list (slice_index_or (state_of setup.vars chk) v []) (slice_index_or s v []) []
            (levels_many ∙ sym (is.levels (var v) l))
            (λ i m. level_same i (omega (arith, a, m)))

      var_same : slice_index_or (state_of setup.vars chk) v [] ≡ slice_index_or s v []
      var_same = go (is_scalar setup (var v)) refl
        where
          go : (b : Bool) → is_scalar setup (var v) ≡ b
              → slice_index_or (state_of setup.vars chk) v [] ≡ slice_index_or s v []
          go true e = scalar_same e
          go false e = grid_same e

    -- where each part's piece stands, and is that of a state, the checkpoint holds this state
    pub state_is : state_of setup.vars chk ≡ s
    state_is =
        let n = from_length setup.vars chk.scalars chk.levels in
        same_list (state_of setup.vars chk) s [] many (λ v m. var_same v (omega (arith, n, m)))

-- ---- the state that a checkpoint holds

module _ (setup : Setup) (chk : Checkpoint) (h : HoldsState setup chk) where
  pub holds_is_state : IsState setup (state_of setup.vars chk)
  holds_is_state = record {
    vars = from_length setup.vars chk.scalars chk.levels;
    levels = levels;
    numbers = numbers;
  }
    where
      by_grid : (v : ℕ) → v < length setup.vars → is_scalar setup (var v) ≡ false
          → length (slice_index_or (state_of setup.vars chk) v []) ≡ levels_of setup (var v)
      by_grid v l e =
          let r = before_room level_count setup.vars v l in
          let n : level_count (info setup.vars v) ≡ levels_of setup (var v) = rw e refl in
          let t = h.levels in
          let d = length-drop (before level_count setup.vars v) chk.levels in
          ap length (from_grid setup.vars chk.scalars chk.levels v l e)
          ∙ length-take-le (levels_of setup (var v))
          (drop (before level_count setup.vars v) chk.levels) (omega (arith, d, r, n, t))

      by_scalar : (v : ℕ) → v < length setup.vars → is_scalar setup (var v) ≡ true
          → length (slice_index_or (state_of setup.vars chk) v []) ≡ levels_of setup (var v)
      by_scalar v l e =
          let r = before_room scalar_count setup.vars v l in
          let n : scalar_count (info setup.vars v) ≡ levels_of setup (var v) = rw e refl in
          let t = h.scalars in
          let d = length-drop (before scalar_count setup.vars v) chk.scalars in
          ap length (from_scalar setup.vars chk.scalars chk.levels v l e)
          ∙ length-map (take (levels_of setup (var v))
          (drop (before scalar_count setup.vars v) chk.scalars)) (λ (n : ℤ). n ∷ [])
          ∙ length-take-le (levels_of setup (var v))
          (drop (before scalar_count setup.vars v) chk.scalars) (omega (arith, d, r, n, t))

      levels : (v : VarId) → v.0 < length setup.vars
          → length (slice_index_or (state_of setup.vars chk) v.0 []) ≡ levels_of setup v
      levels v l = go (is_scalar setup v) refl
        where
          go : (b : Bool) → is_scalar setup v ≡ b
              → length (slice_index_or (state_of setup.vars chk) v.0 []) ≡ levels_of setup v
          go true e = by_scalar v.0 l e
          go false e = by_grid v.0 l e

      single_size : (ns : List ℤ) (i : ℕ) → i < length ns
          → length (slice_index_or (map (λ (n : ℤ). n ∷ []) ns) i []) ≡ 1
      single_size [] i l = absurd (omega (arith, l))
      single_size (n ∷ ns) zero l = refl
      single_size (n ∷ ns) (suc i) l = single_size ns i (omega (arith, l))

      numbers : (v : VarId) (level : ℕ) → v.0 < length setup.vars → level < levels_of setup v
          → length (level_of (state_of setup.vars chk) v level)
          ≡ number_count setup (variable setup v)
      numbers v level l stored = go (is_scalar setup v) refl
        where
          go : (b : Bool) → is_scalar setup v ≡ b
              → length (level_of (state_of setup.vars chk) v level)
              ≡ (if is_scalar setup v then 1 else point_count (whole setup.shape))
          go true e =
              let ns = take (levels_of setup v)
              (drop (before scalar_count setup.vars v.0) chk.scalars) in
              let many : length ns ≡ levels_of setup v =
              sym (length-map ns (λ (n : ℤ). n ∷ []))
              ∙ sym (ap length (from_scalar setup.vars chk.scalars chk.levels v.0 l e))
              ∙ by_scalar v.0 l e in
              ap (λ ls. length (slice_index_or ls level []))
              (from_scalar setup.vars chk.scalars chk.levels v.0 l e)
              ∙ single_size ns level (omega (arith, many, stored))
              ∙ sym (ap (λ (t : Bool). if t then 1 else point_count (whole setup.shape)) e)
          go false e =
              let r = before_room level_count setup.vars v.0 l in
              let n : level_count (info setup.vars v.0) ≡ levels_of setup v = rw e refl in
              let t = h.levels in
              ap (λ ls. length (slice_index_or ls level []))
              (from_grid setup.vars chk.scalars chk.levels v.0 l e)
              ∙ ap length (get_or-take (levels_of setup v)
              (drop (before level_count setup.vars v.0) chk.levels) level [] stored
              ∙ get_or-drop (before level_count setup.vars v.0) chk.levels level [])
              ∙ All-get_or (λ (ns : List ℤ). length ns ≡ point_count (whole setup.shape)) chk.levels
              (before level_count setup.vars v.0 + level) [] (omega (arith, r, n, t, stored))
              h.points
              ∙ sym (ap (λ (b : Bool). if b then 1 else point_count (whole setup.shape)) e)

-- ---- a run that goes on from a checkpoint

-- a part that is filled from it holds what a part holds at the beginning of the run
pub scattered_first : (job : Job) (rules : List Rule) (chk : Checkpoint)
    (so_far : Lengths) (k : ℕ) (p : PatchValue)
    → p.local
    ≡ local (cut_of (run_of job rules (From chk.iteration (state_of job.vars chk) so_far))) k
    → scattered (setup_of job) chk p
    ≡ (held_first (run_of job rules (From chk.iteration (state_of job.vars chk) so_far))
    k).numbers
scattered_first job rules chk so_far k p e =
    ap (λ b. state_in (setup_of job) (values_of (setup_of job) (state_of job.vars chk)) b 0
    (state_of job.vars chk)) e

-- ---- the text of a work

module _ {tells : Type 0} (t : tells) (r : Run) (b : Buffers) (v : VarId)
    (room : HasPiece r.setup b v) (some : 0 < parts_in r) (pieces : ℕ → List (Message tells))
    (holds : (k : ℕ) → k < parts_in r
    → HoldsPiece r.setup (cut_of r) b v k (only_level t (pieces k))) where
  pub gathered : is_scalar r.setup v ≡ false → IsGathered t r pieces (piece_of b v)
  gathered e = record {
    count = room.room ∙ ap (λ (c : Bool). if c then 1 else point_count (whole r.setup.shape)) e;
    each = λ k y l h. (holds k l).grid e y h;
  }

  -- the text of what stands in the buffer is that of the pieces
  pub text_of_piece : (iteration : ℕ) → IsTextOf (is_scalar r.setup v) t r v iteration pieces
      (if is_scalar r.setup v
      then line (variable r.setup v).full iteration (slice_index_or (piece_of b v) 0 (pos 0))
      else section (variable r.setup v).full iteration r.setup.shape (piece_of b v))
  text_of_piece iteration = go (is_scalar r.setup v) refl
    where
      go : (c : Bool) → is_scalar r.setup v ≡ c → IsTextOf c t r v iteration pieces
          (if c then line (variable r.setup v).full iteration
          (slice_index_or (piece_of b v) 0 (pos 0))
          else section (variable r.setup v).full iteration r.setup.shape (piece_of b v))
      go true e = ap (line (variable r.setup v).full iteration) ((holds 0 some).scalar e refl)
      go false e = (piece_of b v, gathered e, refl)
