-- By the oracle that tells the truth the way of all parts is the undivided run.
use Rattle.std.proofs.Common.{◌≡◌, ℕ, zero, suc, ◌<◌, true, List, refl, sym, ap, ◌∙◌}
use Rattle.cx_plan.specs.declared.item.Item.{Item}
use Rattle.cx_plan.specs.declared.item.ItemKind.{ItemKind}
use Rattle.cx_plan.specs.declared.item.ItemKind.TheVariants.{Cell, Scalar, Sum, Least, Greatest, Count}
use Rattle.cx_plan.specs.Setups.{Setup}
use Rattle.cx_plan.specs.Lookups.{item}
use Rattle.cx_plan.specs.Steering.{item_at}
use Rattle.cx_rule.specs.Routine.{Rule}
use Rattle.cx_model.specs.States.{State, scalar_of}
use Rattle.cx_model.specs.Turns.{reduced, first_read, reduce_turn}
use Rattle.cx_flat.specs.declared.op.Op.{Op}
use Rattle.cx_flat.specs.declared.op.Op.TheVariants.{Sweep, Apply, Give, Join, Post, Take, Test, Open, Turn, Again, Rotate, Due, Written, Skip, Next, Piece, Save, Halt}
use Rattle.cx_model.specs.Courses.{state_or, turned_by}
use Rattle.cx_flat.specs.Flats.{control_after, state_after}
use Rattle.law_parts.specs.Holding.{join_turn}
use Rattle.law_parts.specs.Runs.{Run, Oracle, next_op, undivided, op_of, joined_at, guided_state, guided_step, guided, parts_in}
use Rattle.law_parts.specs.Truths.{truth}
use Rattle.law_parts.specs.Operations.{is_reduction}
use Rattle.law_parts.proofs.GuideLaws.{guided_same}

-- what reductions over parts owe: a result stands for a reduction, and what the parts gave for it
-- makes the number of the whole list
pub record Folds (r : Run) : Type 0 where
  pub kind : (n k : ℕ) → op_of r n ≡ Join k → is_reduction (item r.setup k).kind ≡ true
  pub number : (n k : ℕ) → op_of r n ≡ Join k
      → joined_at r (truth r) k n
      ≡ reduced (item r.setup k).kind (first_read (undivided r n).state (item r.setup k).reads)

pub turned_is : (kind : ItemKind) (setup : Setup) (rules : List Rule) (x : Item) (state : State)
    (iteration : ℕ) → is_reduction kind ≡ true
    → turned_by kind setup rules x state iteration ≡ state_or (reduce_turn setup x state) state
turned_is Cell setup rules x state iteration h = absurd cc
turned_is Scalar setup rules x state iteration h = absurd cc
turned_is Sum setup rules x state iteration h = refl
turned_is Least setup rules x state iteration h = refl
turned_is Greatest setup rules x state iteration h = refl
turned_is Count setup rules x state iteration h = refl

state_is : (r : Run) (folds : Folds r) (n : ℕ) (o : Op) → op_of r n ≡ o
    → guided_state r (truth r) n o (undivided r n).control.iteration (undivided r n).state
    ≡ state_after r.setup r.rules o (undivided r n).control.iteration (undivided r n).state
state_is r folds n (Join k) e =
    ap (λ z. state_or (join_turn r.setup (item r.setup k) (undivided r n).state z)
    (undivided r n).state) (folds.number n k e)
    ∙ sym (turned_is (item r.setup k).kind r.setup r.rules
    (item_at r.setup k (undivided r n).control.iteration) (undivided r n).state
    (undivided r n).control.iteration (folds.kind n k e))
state_is r folds n (Sweep k) e = refl
state_is r folds n (Apply k) e = refl
state_is r folds n (Give k) e = refl
state_is r folds n (Post d vars) e = refl
state_is r folds n (Take d vars path) e = refl
state_is r folds n (Test v path skip) e = refl
state_is r folds n Open e = refl
state_is r folds n (Turn v path skip) e = refl
state_is r folds n (Again back) e = refl
state_is r folds n Rotate e = refl
state_is r folds n (Due skip) e = refl
state_is r folds n (Written skip) e = refl
state_is r folds n (Skip skip) e = refl
state_is r folds n (Next back) e = refl
state_is r folds n (Piece v) e = refl
state_is r folds n Save e = refl
state_is r folds n Halt e = refl

pub guided_truth : (r : Run) → Folds r → (n : ℕ) → guided r (truth r) n ≡ undivided r n
guided_truth r folds zero = refl
guided_truth r folds (suc n) =
    ap (λ g. guided_step r (truth r) n (next_op r g.control) g) (guided_truth r folds n)
    ∙ ap (λ s. record {
      control =
          control_after r.setup (op_of r n) (scalar_of (undivided r n).state)
          (undivided r n).control;
      state = s;
    }) (state_is r folds n (op_of r n) refl)

-- an oracle that tells the truth of the parts that there are
pub guided_true : (r : Run) → Folds r → (o : Oracle)
    → ((k n : ℕ) → k < parts_in r → o k n ≡ truth r k n) → (n : ℕ) → guided r o n ≡ undivided r n
guided_true r folds o h n =
    guided_same r (truth r) o n (λ a i l m. h a i l) ∙ guided_truth r folds n
