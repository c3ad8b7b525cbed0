-- What the parts give for a reduction makes the undivided run's number.
use Rattle.std.proofs.Common.{◌≡◌, ℕ, zero, suc, ◌<◌, Bool, true, false, List, length, map, refl, sym, ap, ◌∙◌, pos, Option, Some, None}
use Rattle.std.specs.Prelude.{slice_index_or, if◌then◌else◌, ◌==◌}
use Rattle.std.specs.List.{range_with_len}
use Rattle.std.proofs.lemmas.List.FromFn.{fill_by_all}
use Rattle.cx_grid.specs.Boxes.{point_count, point_in, index_in, numbers_in}
use Rattle.cx_grid.specs.Grid.{whole, at}
use Rattle.cx_grid.proofs.Places.{point_inside, index_at_point}
use Rattle.cx_plan.specs.declared.variable.VarId.{VarId}
use Rattle.cx_plan.specs.declared.item.Touch.{Touch}
use Rattle.cx_plan.specs.declared.item.ItemKind.{ItemKind}
use Rattle.cx_plan.specs.Setups.{Setup}
use Rattle.cx_plan.specs.Lookups.{item, is_scalar, levels_of}
use Rattle.cx_model.specs.States.{State, IsState, level_of, scalar_of}
use Rattle.cx_model.specs.Turns.{values_of, reduced, first_read}
use Rattle.cx_flat.specs.declared.op.Op.{Op}
use Rattle.cx_flat.specs.declared.op.Op.TheVariants.{Sweep, Apply, Give, Join, Post, Take, Test, Open, Turn, Again, Rotate, Due, Written, Skip, Next, Piece, Save, Halt}
use Rattle.cx_flat.specs.Flats.{state_after, Pair, Reduction, Onward, begins_pair, ends_pair}
use Rattle.cx_cut.specs.Cuts.{IsCut, owned}
use Rattle.law_parts.specs.Holding.{joined, first_numbers}
use Rattle.law_parts.specs.Runs.{Run, undivided, op_of, joined_at, given_before, parts_in, cut_of}
use Rattle.law_parts.specs.Truths.{truth, given_by}
use Rattle.law_parts.specs.Moves.{number_by}
use Rattle.law_parts.specs.Operations.{is_reduction}
use Rattle.law_parts.proofs.TruthLaws.{Folds}
use Rattle.law_parts.proofs.Reductions.{ReadsGrid, Reduces}
use Rattle.law_parts.proofs.ReduceLaws.{tiles_reduce}
use Rattle.cx_model.proofs.PointLaws.{wrap-own}
use Rattle.law_parts.proofs.ListLaws.{range_same}

-- ---- a whole level by its points

pub level_is : (setup : Setup) (state : State) (v : VarId) (level : ℕ) → IsState setup state
    → is_scalar setup v ≡ false → v.0 < length setup.vars → level < levels_of setup v
    → level_of state v level ≡ numbers_in (whole setup.shape) (values_of setup state v level)
level_is setup state v level is grid there stored =
    fill_by_all (λ i. values_of setup state v level (point_in (whole setup.shape) i))
    (level_of state v level) (point_count (whole setup.shape)) (pos 0)
    (is.numbers v level there stored ∙ (rw grid refl))
    (λ i l. each i l)
  where
    each : (i : ℕ) → i < point_count (whole setup.shape)
        → slice_index_or (level_of state v level) i (pos 0)
        ≡ values_of setup state v level (point_in (whole setup.shape) i)
    each i l =
        ap (λ j. slice_index_or (level_of state v level) j (pos 0))
        (sym (index_at_point (whole setup.shape) i l)
        ∙ ap (index_in (whole setup.shape))
        (sym (wrap-own setup.shape (point_in (whole setup.shape) i)
        (point_inside (whole setup.shape) i l))))
        ∙ sym
        (ap (λ (b : Bool). if b then scalar_of state v
        else at setup.shape (level_of state v level) (point_in (whole setup.shape) i)) grid)

-- ---- what a result follows

begins_reduction : (setup : Setup) (o : Op) (i : ℕ) → begins_pair setup o ≡ Some (Reduction i)
    → o ≡ Give i
begins_reduction setup (Sweep k) i h = absurd cc
begins_reduction setup (Apply k) i h = absurd cc
begins_reduction setup (Give k) i h = cc
begins_reduction setup (Join k) i h = absurd cc
begins_reduction setup (Post e us) i h = absurd cc
begins_reduction setup (Take e us q) i h = go (suc e == setup.shape.dims) h
  where
    go : (b : Bool) → (if b then None else Some (Onward (suc e) us)) ≡ Some (Reduction i)
        → Take e us q ≡ Give i
    go true h = absurd cc
    go false h = absurd cc
begins_reduction setup (Test v q s) i h = absurd cc
begins_reduction setup Open i h = absurd cc
begins_reduction setup (Turn v q s) i h = absurd cc
begins_reduction setup (Again b) i h = absurd cc
begins_reduction setup Rotate i h = absurd cc
begins_reduction setup (Due s) i h = absurd cc
begins_reduction setup (Written s) i h = absurd cc
begins_reduction setup (Skip s) i h = absurd cc
begins_reduction setup (Next b) i h = absurd cc
begins_reduction setup (Piece v) i h = absurd cc
begins_reduction setup Save i h = absurd cc
begins_reduction setup Halt i h = absurd cc

-- ---- what the parts give

module _ (r : Run) (w : IsCut (cut_of r)) (reduces : Reduces r) where
  -- the number of a whole level by the parts' owned points
  number_is : (kind : ItemKind) (state : State) (reads : List Touch) → is_reduction kind ≡ true
      → IsState r.setup state → ReadsGrid r.setup reads
      → joined kind
      (map (λ a. reduced kind
      (first_numbers (values_of r.setup state) (owned (cut_of r) a) reads))
      (range_with_len 0 (parts_in r))) ≡ reduced kind (first_read state reads)
  number_is kind state reads red is g =
      ap (λ (rs : List Touch).
      joined kind
      (map (λ a. reduced kind (first_numbers (values_of r.setup state) (owned (cut_of r) a) rs))
      (range_with_len 0 (parts_in r)))) g.reads_are
      ∙ tiles_reduce (cut_of r) w (values_of r.setup state g.touch.var g.touch.level) kind red
      ∙ ap (reduced kind) (sym
      (level_is r.setup state g.touch.var g.touch.level is g.grid g.there g.stored))
      ∙ ap (λ (rs : List Touch). reduced kind (first_read state rs)) (sym g.reads_are)

  given_is : (m i : ℕ) → op_of r (suc m) ≡ Join i → op_of r m ≡ Give i
  given_is m i e = begins_reduction r.setup (op_of r m) i (sym (reduces.pairs m) ∙ ap ends_pair e)

  number_at_join : (n i : ℕ) → op_of r n ≡ Join i
      → joined_at r (truth r) i n
      ≡ reduced (item r.setup i).kind (first_read (undivided r n).state (item r.setup i).reads)
  number_at_join zero i e = let bad : ◌≡◌ {A = Option Pair} (Some (Reduction i)) None =
      sym (ap ends_pair e) ∙ reduces.first in absurd cc
  number_at_join (suc m) i e =
      let given = given_is m i e in
      let kept : (undivided r (suc m)).state ≡ (undivided r m).state =
      ap (λ o. state_after r.setup r.rules o (undivided r m).control.iteration
      (undivided r m).state) given in
      ap (joined (item r.setup i).kind)
      (range_same (parts_in r) (given_before (truth r) (suc m))
      (λ a. number_by r a (values_of r.setup (undivided r m).state) i)
      (λ a l. ap (given_by r a (undivided r m).state) given))
      ∙ number_is (item r.setup i).kind (undivided r m).state (item r.setup i).reads
      (reduces.kind (suc m) i e) (reduces.states m) (reduces.reads (suc m) i e)
      ∙ ap (λ s. reduced (item r.setup i).kind (first_read s (item r.setup i).reads)) (sym kept)

  pub folds : Folds r
  folds = record { kind = reduces.kind; number = number_at_join }
