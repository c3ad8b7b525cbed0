-- The text that the pieces of all parts make is the undivided run's.
use Rattle.std.proofs.Common.{◌≡◌, ℕ, suc, ◌<◌, Bool, true, false, List, [], ◌∷◌, length, get_or, refl, sym, ap, ◌∙◌, ℤ, pos}
use Rattle.std.specs.Prelude.{if◌then◌else◌}
use Rattle.cx_grid.specs.declared.boxes.Point.{Point}
use Rattle.cx_grid.specs.Boxes.{IsIn, index_in, point_count, numbers_in}
use Rattle.cx_grid.specs.Grid.{at, whole}
use Rattle.cx_grid.proofs.Places.{index_below, point_at_index}
use Rattle.cx_plan.specs.declared.variable.VarId.{VarId}
use Rattle.cx_plan.specs.Lookups.{is_scalar, variable}
use Rattle.cx_rule.specs.States.{State, level_of, scalar_of}
use Rattle.cx_rule.specs.Sweeps.{first_point}
use Rattle.cx_model.specs.Runs.{text_of, grown_by, lengths_behind}
use Rattle.cx_model.specs.Turns.{values_of}
use Rattle.cx_model.proofs.PointLaws.{wrap-own}
use Rattle.cx_ascii.specs.Output.{section, line}
use Rattle.cx_cut.specs.Cuts.{owned}
use Rattle.cx_cut.proofs.Tiled.{tiles}
use Rattle.cx_flat.specs.declared.op.Op.TheVariants.{Piece, Save}
use Rattle.cx_flat.specs.Flats.{notes_at}
use Rattle.law_parts.specs.Holding.{number_at}
use Rattle.law_parts.specs.Moves.{Message, op_hands, piece_by, state_by}
use Rattle.law_parts.specs.Nets.{only_level, IsGathered, IsTextOf}
use Rattle.law_parts.specs.Operations.{IsCurrent}
use Rattle.law_parts.specs.Runs.{Run, Oracle, cut_of, parts_in, undivided, guided}
use Rattle.law_parts.specs.Truths.{piece_at, entries_of, lengths_before}
use Rattle.law_parts.proofs.ListLaws.{number_in}
use Rattle.law_parts.proofs.MoveLaws.{IsTrueOracle, same, op_same}
use Rattle.law_parts.proofs.Places.{guided_op}
use Rattle.law_parts.proofs.WholeRun.{IsRun, names, true_states}

abbrev pub only_piece : {tells : Type 0} → tells → Run → ℕ → State → VarId → List ℤ
only_piece t r k state v = piece_by r k (values_of r.setup state) v t

module _ (tells : Type 0) (r : Run) (run : IsRun r) (oracle : Oracle)
    (is_true : IsTrueOracle tells r oracle) (some_part : 0 < parts_in r) (n : ℕ) (t : tells)
    (pieces : ℕ → List (Message tells))
    (given : (k : ℕ) → k < parts_in r → pieces k ≡ piece_at tells r oracle k n) where
  abbrev now : State
  now = (undivided r n).state

  module _ (v : VarId) (there : guided_op r oracle n ≡ Piece v) where
    piece_is : (k : ℕ) → k < parts_in r → only_level t (pieces k) ≡ only_piece t r k now v
    piece_is k l =
        ap (only_level t) (given k l)
        ∙ ap (λ o. only_level t
        (op_hands r o n (piece_by r k (values_of r.setup now))
        (state_by r k (values_of r.setup now) now))) there

    current : IsCurrent r.setup v
    current = names r run (Piece v) (guided r oracle n).control.pc there

    -- the text of the undivided run is the one that the pieces make
    pub text_is : (iteration : ℕ)
        → IsTextOf (is_scalar r.setup v) t r v iteration pieces (text_of r.setup iteration now v)
    text_is iteration = go (is_scalar r.setup v) refl
      where
        scalar_number : is_scalar r.setup v ≡ true
            → get_or (only_level t (pieces 0)) 0 (pos 0) ≡ scalar_of now v
        scalar_number e =
            ap (λ ns. get_or ns 0 (pos 0)) (piece_is 0 some_part)
            ∙ ap (λ (b : Bool). get_or
            (if b then values_of r.setup now v 0 first_point ∷ []
            else numbers_in (owned (cut_of r) 0) (values_of r.setup now v 0)) 0 (pos 0)) e
            ∙ ap (λ (b : Bool). if b then scalar_of now v
            else at r.setup.shape (level_of now v 0) first_point) e

        owned_number : is_scalar r.setup v ≡ false → (k : ℕ) (p : Point) → k < parts_in r
            → IsIn (owned (cut_of r) k) p
            → number_at (whole r.setup.shape) (level_of now v 0) p
            ≡ number_at (owned (cut_of r) k) (only_level t (pieces k)) p
        owned_number e k p l inside =
            ap (λ q. get_or (level_of now v 0) (index_in (whole r.setup.shape) q) (pos 0))
            (sym (wrap-own r.setup.shape p ((tiles (cut_of r) run.cut).within p k l inside)))
            ∙ sym
            (ap (λ (b : Bool). if b then scalar_of now v
            else at r.setup.shape (level_of now v 0) p) e)
            ∙ sym (ap (values_of r.setup now v 0) (point_at_index (owned (cut_of r) k) p inside))
            ∙ sym (number_in (owned (cut_of r) k) (values_of r.setup now v 0)
            (index_in (owned (cut_of r) k) p) (index_below (owned (cut_of r) k) p inside))
            ∙ sym
            (ap (λ (b : Bool). number_at (owned (cut_of r) k)
            (if b then values_of r.setup now v 0 first_point ∷ []
            else numbers_in (owned (cut_of r) k) (values_of r.setup now v 0)) p) e)
            ∙ sym (ap (λ ns. number_at (owned (cut_of r) k) ns p) (piece_is k l))

        gathered : is_scalar r.setup v ≡ false → IsGathered t r pieces (level_of now v 0)
        gathered e = record {
          count = (true_states r run n).numbers v 0 current.0 current.1
              ∙ ap (λ (b : Bool). if b then 1 else point_count (whole r.setup.shape)) e;
          each = owned_number e;
        }

        go : (b : Bool) → is_scalar r.setup v ≡ b → IsTextOf b t r v iteration pieces
            (if b then line (variable r.setup v).full iteration (scalar_of now v)
            else section (variable r.setup v).full iteration r.setup.shape (level_of now v 0))
        go true e = ap (line (variable r.setup v).full iteration) (sym (scalar_number e))
        go false e = (level_of now v 0, gathered e, refl)

    pub grew : lengths_before r (suc n)
        ≡ grown_by (lengths_before r n) v
        (length (text_of r.setup (guided r oracle n).control.iteration now v))
    grew =
        ap (λ o. lengths_behind (lengths_before r n)
        (entries_of (notes_at r.setup r.rules o (undivided r n).control now)))
        (op_same tells r run oracle is_true n (Piece v) there t)
        ∙ ap (λ g. grown_by (lengths_before r n) v
        (length (text_of r.setup g.control.iteration now v)))
        (sym (same tells r run oracle is_true t n))

  pub stays : guided_op r oracle n ≡ Save → lengths_before r (suc n) ≡ lengths_before r n
  stays e =
      ap (λ o. lengths_behind (lengths_before r n)
      (entries_of (notes_at r.setup r.rules o (undivided r n).control now)))
      (op_same tells r run oracle is_true n Save e t)
