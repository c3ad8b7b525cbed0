-- What the pieces of the writer's next work make, where wires tell.
use Rattle.std.proofs.Common.{◌≡◌, ℕ, ◌<◌, Bool, true, false, List, [], ◌∷◌, sym, ap, ◌∙◌, ℤ, pos, get_or}
use Rattle.std.specs.Prelude.{if◌then◌else◌}
use Rattle.cx_grid.specs.declared.boxes.Point.{Point}
use Rattle.cx_grid.specs.Boxes.{IsIn, index_in, point_count, numbers_in}
use Rattle.cx_grid.specs.Grid.{at, whole}
use Rattle.cx_grid.proofs.Places.{index_below, point_at_index}
use Rattle.cx_plan.specs.declared.variable.VarId.{VarId}
use Rattle.cx_plan.specs.Lookups.{is_scalar, variable}
use Rattle.cx_rule.specs.States.{State, level_of, scalar_of}
use Rattle.cx_rule.specs.Sweeps.{first_point}
use Rattle.cx_model.specs.Runs.{text_of}
use Rattle.cx_model.specs.Traces.{Wrote}
use Rattle.cx_model.specs.Turns.{values_of}
use Rattle.cx_model.proofs.PointLaws.{wrap-own, same-numbers}
use Rattle.cx_ascii.specs.Output.{section}
use Rattle.cx_cut.specs.Cuts.{owned}
use Rattle.cx_cut.proofs.Tiled.{tiles}
use Rattle.cx_flat.specs.declared.op.Op.{Op}
use Rattle.cx_flat.specs.declared.op.Op.TheVariants.{Piece, Save}
use Rattle.cx_flat.specs.Flats.{Flat, notes_at}
use Rattle.law_parts.specs.Holding.{number_at}
use Rattle.law_parts.specs.Laws.{IsOracle}
use Rattle.law_parts.specs.Moves.{Message, op_hands, piece_by, state_by}
use Rattle.law_parts.specs.Nets.{IsGathered, IsTextOf, only_level, piece_levels}
use Rattle.law_parts.specs.Operations.{IsCurrent}
use Rattle.law_parts.specs.Runs.{Run, Oracle, cut_of, parts_in, next_op, undivided, op_of, notes_of, guided}
use Rattle.law_parts.specs.Truths.{entries_of, piece_at}
use Rattle.law_parts.proofs.FitLaws.{some_part}
use Rattle.law_parts.proofs.ListLaws.{number_in}
use Rattle.law_parts.proofs.TextLaws.{only_piece, text_is}
use Rattle.law_parts.proofs.WholeRun.{IsRun, names, true_states}
use Rattle.law_reached.specs.Works.{MakesWork}
use Rattle.law_reached.proofs.TellLaws.{way}

module _ (tells : Type 0) (r : Run) (run : IsRun r) (t : tells) (pieces : ℕ → List (Message tells))
  where
    -- pieces make one level, and one text
    one_level : (a b : List ℤ) → IsGathered t r pieces a → IsGathered t r pieces b → a ≡ b
    one_level a b g h = same-numbers r.setup.shape a b g.count h.count (λ p inside.
        let owner = (tiles (cut_of r) run.cut).each p inside in
        ap (λ q. get_or a (index_in (whole r.setup.shape) q) (pos 0))
        (wrap-own r.setup.shape p inside)
        ∙ g.each owner.0 p owner.1 owner.2 ∙ sym (h.each owner.0 p owner.1 owner.2)
        ∙ sym (ap (λ q. get_or b (index_in (whole r.setup.shape) q) (pos 0))
        (wrap-own r.setup.shape p inside)))

    one_text : (scalar : Bool) (v : VarId) (iteration : ℕ) (a b : List ℕ)
        → IsTextOf scalar t r v iteration pieces a → IsTextOf scalar t r v iteration pieces b
        → a ≡ b
    one_text true v iteration a b g h = g ∙ sym h
    one_text false v iteration a b g h =
        g.2 ∙ ap (section (variable r.setup v).full iteration r.setup.shape)
        (one_level g.0 h.0 g.1 h.1) ∙ sym h.2

module _ (tells : Type 0) (r : Run) (run : IsRun r) (o : Oracle) (is : IsOracle tells r o)
    (t : tells)
    (n : ℕ) (pieces : ℕ → List (Message tells))
    (given : (k : ℕ) → k < parts_in r → pieces k ≡ piece_at tells r o k n) where
  abbrev now : State
  now = (undivided r n).state

  op_is : (p : Op) → op_of r n ≡ p → next_op r (guided r o n).control ≡ p
  op_is p e = ap (λ (g : Flat). next_op r g.control) (way tells r run o is t n) ∙ e

  noted_is : (p : Op) → op_of r n ≡ p
      → entries_of (notes_of r n)
      ≡ entries_of (notes_at r.setup r.rules p (undivided r n).control now)
  noted_is p e =
      ap (λ (q : Op). entries_of (notes_at r.setup r.rules q (undivided r n).control now)) e

  module _ (v : VarId) (there : op_of r n ≡ Piece v) where
    piece_is : (k : ℕ) → k < parts_in r → only_level t (pieces k) ≡ only_piece t r k now v
    piece_is k l =
        ap (only_level t) (given k l)
        ∙ ap (λ q. only_level t
        (op_hands r q n (piece_by r k (values_of r.setup now))
        (state_by r k (values_of r.setup now) now))) (op_is (Piece v) there)

    current : IsCurrent r.setup v
    current = names r run (Piece v) (undivided r n).control.pc there

    scalar_piece : is_scalar r.setup v ≡ true → only_level t (pieces 0) ≡ scalar_of now v ∷ []
    scalar_piece e =
        piece_is 0 (some_part r run)
        ∙ ap (λ (b : Bool). if b then values_of r.setup now v 0 first_point ∷ []
        else numbers_in (owned (cut_of r) 0) (values_of r.setup now v 0)) e
        ∙ ap (λ (b : Bool). (if b then scalar_of now v
        else at r.setup.shape (level_of now v 0) first_point) ∷ []) e

    owned_number : is_scalar r.setup v ≡ false → (k : ℕ) (p : Point) → k < parts_in r
        → IsIn (owned (cut_of r) k) p
        → number_at (whole r.setup.shape) (level_of now v 0) p
        ≡ number_at (owned (cut_of r) k) (only_level t (pieces k)) p
    owned_number e k p l inside =
        ap (λ q. get_or (level_of now v 0) (index_in (whole r.setup.shape) q) (pos 0))
        (sym (wrap-own r.setup.shape p ((tiles (cut_of r) run.cut).within p k l inside)))
        ∙ sym
        (ap (λ (b : Bool). if b then scalar_of now v else at r.setup.shape (level_of now v 0) p)
        e)
        ∙ sym (ap (values_of r.setup now v 0) (point_at_index (owned (cut_of r) k) p inside))
        ∙ sym (number_in (owned (cut_of r) k) (values_of r.setup now v 0)
        (index_in (owned (cut_of r) k) p) (index_below (owned (cut_of r) k) p inside))
        ∙ sym
        (ap (λ (b : Bool). number_at (owned (cut_of r) k)
        (if b then values_of r.setup now v 0 first_point ∷ []
        else numbers_in (owned (cut_of r) k) (values_of r.setup now v 0)) p) e)
        ∙ sym (ap (λ ns. number_at (owned (cut_of r) k) ns p) (piece_is k l))

    gathered : is_scalar r.setup v ≡ false → IsGathered t r pieces (level_of now v 0)
    gathered e = record {
      count = (true_states r run n).numbers v 0 current.0 current.1
          ∙ ap (λ (b : Bool). if b then 1 else point_count (whole r.setup.shape)) e;
      each = owned_number e;
    }

    text_there : (text : List ℕ)
        → IsTextOf (is_scalar r.setup v) t r v (undivided r n).control.iteration pieces text
        → text_of r.setup (undivided r n).control.iteration now v ≡ text
    text_there text made =
        one_text tells r run t pieces (is_scalar r.setup v) v (undivided r n).control.iteration
        (text_of r.setup (undivided r n).control.iteration now v) text
        (text_is tells r run o is.told (some_part r run) n t pieces given v (op_is (Piece v) there)
        (undivided r n).control.iteration) made

  pub makes_work : MakesWork t r n pieces
  makes_work = record {
    text = λ v text e made.
        noted_is (Piece v) e ∙ ap
        (λ (xs : List ℕ). Wrote v (undivided r n).control.iteration xs now ∷ [])
        (text_there v e text made);
    level = λ v level e grid made.
        one_level tells r run t pieces level (level_of now v 0) made (gathered v e grid);
    scalar = scalar_piece;
    entry = λ e. noted_is Save e;
    state = λ e k l.
        ap (piece_levels t) (given k l)
        ∙ ap (λ (q : Op). piece_levels t
        (op_hands r q n (piece_by r k (values_of r.setup now))
        (state_by r k (values_of r.setup now) now))) (op_is Save e);
  }
