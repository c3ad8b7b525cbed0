-- The pieces of the writer's next work make what the undivided run's entry there says.
use Rattle.std.proofs.Common.{◌≡◌, ℕ, ◌<◌, Bool, true, false, List, [], ◌∷◌, refl, sym, ap, ◌∙◌, ℤ, pos, get_or}
use Rattle.cx_grid.specs.Boxes.{index_in}
use Rattle.cx_grid.specs.Grid.{whole}
use Rattle.cx_plan.specs.declared.variable.VarId.{VarId}
use Rattle.cx_plan.specs.Lookups.{is_scalar, variable}
use Rattle.cx_model.specs.Runs.{text_of}
use Rattle.cx_model.specs.Traces.{Wrote}
use Rattle.cx_model.specs.Turns.{values_of}
use Rattle.cx_model.proofs.PointLaws.{wrap-own, same-numbers}
use Rattle.cx_ascii.specs.Output.{section}
use Rattle.cx_cut.proofs.Tiled.{tiles}
use Rattle.cx_flat.specs.declared.op.Op.{Op}
use Rattle.cx_flat.specs.declared.op.Op.TheVariants.{Piece, Save}
use Rattle.cx_flat.specs.Flats.{Flat, notes_at}
use Rattle.law_network.specs.Machine.{fronts}
use Rattle.law_network.specs.Agreement.{Fits}
use Rattle.law_network.proofs.Writer.{next_piece}
use Rattle.law_parts.specs.Laws.{EachOrder}
use Rattle.law_parts.specs.Moves.{Message, op_hands, piece_by, state_by}
use Rattle.law_parts.specs.Nets.{Nearness, net, IsGathered, IsTextOf, piece_levels, within_lead, in_lockstep}
use Rattle.law_parts.specs.Runs.{Run, cut_of, parts_in, next_op, undivided, op_of, notes_of, guided}
use Rattle.law_parts.specs.Truths.{truth, script, entries_of, piece_at, Agrees, GivesAt, Books}
use Rattle.law_parts.specs.Works.{IsOneWork, OneWork}
use Rattle.law_parts.proofs.FitLaws.{some_part, lead_fits, lockstep_fits}
use Rattle.law_parts.proofs.TextLaws.{text_is}
use Rattle.law_parts.proofs.ToldLaws.{is_truth}
use Rattle.law_parts.proofs.TruthLaws.{guided_truth}
use Rattle.law_parts.proofs.WholeRun.{IsRun, all_folds}

module _ (r : Run) (run : IsRun r) (pieces : ℕ → List (Message (Unit {0}))) where
  -- pieces make one level
  one_level : (a b : List ℤ) → IsGathered tt r pieces a → IsGathered tt r pieces b → a ≡ b
  one_level a b g h = same-numbers r.setup.shape a b g.count h.count (λ p inside.
      let owner = (tiles (cut_of r) run.cut).each p inside in
      ap (λ q. get_or a (index_in (whole r.setup.shape) q) (pos 0))
      (wrap-own r.setup.shape p inside)
      ∙ g.each owner.0 p owner.1 owner.2 ∙ sym (h.each owner.0 p owner.1 owner.2)
      ∙ sym (ap (λ q. get_or b (index_in (whole r.setup.shape) q) (pos 0))
      (wrap-own r.setup.shape p inside)))

  one_text : (scalar : Bool) (v : VarId) (iteration : ℕ) (a b : List ℕ)
      → IsTextOf scalar tt r v iteration pieces a → IsTextOf scalar tt r v iteration pieces b
      → a ≡ b
  one_text true v iteration a b g h = g ∙ sym h
  one_text false v iteration a b g h =
      g.2 ∙ ap (section (variable r.setup v).full iteration r.setup.shape)
      (one_level g.0 h.0 g.1 h.1) ∙ sym h.2

  module _ (n : ℕ) (given : (k : ℕ) → k < parts_in r
      → pieces k ≡ piece_at (Unit {0}) r (truth r) k n) where
    op_is : (o : Op) → op_of r n ≡ o → next_op r (guided r (truth r) n).control ≡ o
    op_is o e = ap (λ (g : Flat). next_op r g.control) (guided_truth r (all_folds r run) n) ∙ e

    noted_is : (o : Op) → op_of r n ≡ o
        → entries_of (notes_of r n)
        ≡ entries_of (notes_at r.setup r.rules o (undivided r n).control (undivided r n).state)
    noted_is o e =
        ap (λ (p : Op). entries_of
        (notes_at r.setup r.rules p (undivided r n).control (undivided r n).state)) e

    pub work_is : IsOneWork r n pieces
    work_is = record {
      text = λ v text e made.
          noted_is (Piece v) e
          ∙ ap (λ (t : List ℕ). Wrote v (undivided r n).control.iteration t (undivided r n).state
          ∷ [])
          (one_text (is_scalar r.setup v) v (undivided r n).control.iteration
          (text_of r.setup (undivided r n).control.iteration (undivided r n).state v) text
          (text_is (Unit {0}) r run (truth r) (is_truth r run) (some_part r run) n tt pieces given v
          (op_is (Piece v) e) (undivided r n).control.iteration) made);
      entry = λ e. noted_is Save e;
      state = λ e k l.
          ap (piece_levels tt) (given k l)
          ∙ ap (λ (o : Op). piece_levels tt
          (op_hands r o n (piece_by r k (values_of r.setup (undivided r n).state))
          (state_by r k (values_of r.setup (undivided r n).state) (undivided r n).state)))
          (op_is Save e);
    }

module _ (r : Run) (run : IsRun r) where
  one_work : (Near : Nearness)
      → Fits (net (Unit {0}) Near r (truth r)) (script (Unit {0}) r (truth r))
      (Agrees (Unit {0}) r (truth r)) (GivesAt r (truth r)) (Books (Unit {0}) r)
      → EachOrder Near r → OneWork Near r
  one_work Near fits orders = λ events w order n can.
      work_is r run (fronts w) n
      (λ k l. (next_piece (net (Unit {0}) Near r (truth r)) (script (Unit {0}) r (truth r))
      (Agrees (Unit {0}) r (truth r)) (GivesAt r (truth r)) (Books (Unit {0}) r) fits w
      (orders events w order).woven n can k l).0)

  pub lead_works : EachOrder within_lead r → OneWork within_lead r
  lead_works = one_work within_lead
      (lead_fits (Unit {0}) r run (truth r) (is_truth r run) (λ k l. refl))

  pub lockstep_works : EachOrder in_lockstep r → OneWork in_lockstep r
  lockstep_works = one_work in_lockstep
      (lockstep_fits (Unit {0}) r run (truth r) (is_truth r run) (λ k l. refl))
