-- What a part that agrees hands in is what the script says, and what it gives next is the truth
-- where wires tell.
use Rattle.std.proofs.Common.{◌≡◌, ℕ, ◌<◌, [], ◌∷◌, refl, ap, ◌∙◌}
use Rattle.std.proofs.Math.Path.{fun_ext}
use Rattle.cx_rule.specs.States.{State, scalar_of}
use Rattle.cx_model.specs.Turns.{values_of}
use Rattle.cx_flat.specs.declared.op.Op.{Op}
use Rattle.cx_flat.specs.declared.op.Op.TheVariants.{Sweep, Apply, Give, Join, Post, Take, Test, Open, Turn, Again, Rotate, Due, Written, Skip, Next, Piece, Save, Halt}
use Rattle.law_parts.specs.Holding.{Held}
use Rattle.law_parts.specs.Moves.{Handed, held_values, op_hands, piece_by, state_by}
use Rattle.law_parts.specs.Nets.{Nearness, net}
use Rattle.law_parts.specs.Runs.{Run, Oracle, cut_of, parts_in, next_op, undivided, guided, synced}
use Rattle.law_parts.specs.Truths.{piece_at, Stands}
use Rattle.law_parts.proofs.MoveLaws.{IsTrueOracle, same}
use Rattle.law_parts.proofs.NumberLaws.{OwnsTrue, SameScalars, piece_same, state_same}
use Rattle.law_parts.proofs.Places.{guided_op}
use Rattle.law_parts.proofs.WholeRun.{IsRun, lies, names, true_states}
use Rattle.law_parts.proofs.ZoneLaws.{own_reached}

module _ (tells : Type 0) (r : Run) (run : IsRun r) (oracle : Oracle)
    (is_true : IsTrueOracle tells r oracle) (k n : ℕ) (x : Held) (part : k < parts_in r)
    (a : Stands tells r oracle k n x) where
  -- at its own place a part's owned numbers and its scalars are the undivided run's
  pub owns_true : tells → OwnsTrue r k x.numbers (undivided r n).state
  owns_true t v level p grid there stored inside =
      a.numbers t v level p grid there stored
      (own_reached r.setup (cut_of r) k (lies r run k part) (synced r n v level) p inside)

  pub scalars_true : tells → SameScalars r x.numbers (undivided r n).state
  scalars_true t v s = a.scalars v s
      ∙ ap (λ g. scalar_of g.state v) (same tells r run oracle is_true t n)

  by_op : (o : Op) → guided_op r oracle n ≡ o
      → op_hands {tells = tells} r o n (piece_by r k (held_values r k x.numbers))
      (state_by r k (held_values r k x.numbers) x.numbers)
      ≡ op_hands r o n (piece_by r k (values_of r.setup (undivided r n).state))
      (state_by r k (values_of r.setup (undivided r n).state) (undivided r n).state)
  by_op (Piece v) e =
      ap (λ (s : tells → State). Handed n s ∷ [])
      (fun_ext (λ t. ap (λ ns. (ns ∷ []) ∷ [])
      (piece_same r run k x.numbers (undivided r n).state (true_states r run n) (owns_true t)
      (scalars_true t) v (names r run (Piece v) (guided r oracle n).control.pc e) t)))
  by_op Save e = ap (λ (s : tells → State). Handed n s ∷ [])
      (fun_ext (λ t. state_same r run k x.numbers (undivided r n).state (true_states r run n)
      (owns_true t) (scalars_true t) a.sized t))
  by_op (Sweep i) e = refl
  by_op (Apply i) e = refl
  by_op (Give i) e = refl
  by_op (Join i) e = refl
  by_op (Post d vars) e = refl
  by_op (Take d vars path) e = refl
  by_op (Test v path skip) e = refl
  by_op Open e = refl
  by_op (Turn v path skip) e = refl
  by_op (Again back) e = refl
  by_op Rotate e = refl
  by_op (Due skip) e = refl
  by_op (Written skip) e = refl
  by_op (Skip skip) e = refl
  by_op (Next back) e = refl
  by_op Halt e = refl

  pub hands_on : (Near : Nearness)
      → (net tells Near r oracle).hands k x ≡ piece_at tells r oracle k n
  hands_on Near =
      ap (λ c. op_hands {tells = tells} r (next_op r c) x.count
      (piece_by r k (held_values r k x.numbers))
      (state_by r k (held_values r k x.numbers) x.numbers)) a.control
      ∙ ap (λ m. op_hands {tells = tells} r (guided_op r oracle n) m
      (piece_by r k (held_values r k x.numbers))
      (state_by r k (held_values r k x.numbers) x.numbers)) a.count
      ∙ by_op (guided_op r oracle n) refl
