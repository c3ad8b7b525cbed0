-- The beginning: each local point has the number of the point of the grid that it names, and so the
-- part agrees.
use Rattle.std.proofs.Common.{◌≡◌, ℕ, ◌<◌, Bool, true, false, [], length, get_or, arith, refl, sym, ap, ◌∙◌, subst, pos}
use Rattle.std.specs.Prelude.{if◌then◌else◌}
use Rattle.cx_grid.specs.declared.boxes.Point.{Point}
use Rattle.cx_grid.specs.Boxes.{IsIn, index_in, point_count, numbers_in}
use Rattle.cx_grid.specs.Grid.{at}
use Rattle.cx_grid.proofs.Places.{index_below, point_at_index}
use Rattle.cx_plan.specs.declared.variable.VarId.{VarId}
use Rattle.cx_plan.specs.Lookups.{is_scalar, levels_of}
use Rattle.cx_rule.specs.States.{State, level_of, scalar_of}
use Rattle.cx_model.specs.Turns.{values_of}
use Rattle.cx_cut.specs.Cuts.{local}
use Rattle.cx_flat.specs.declared.op.Op.{Op}
use Rattle.cx_flat.specs.declared.op.Op.TheVariants.{Sweep, Apply, Give, Join, Post, Take, Test, Open, Turn, Again, Rotate, Due, Written, Skip, Next, Piece, Save, Halt}
use Rattle.law_parts.specs.Holding.{Held, IsHeld, number_at, state_in}
use Rattle.law_parts.specs.Moves.{held_values, number_by}
use Rattle.law_parts.specs.Nets.{Nearness, net}
use Rattle.law_parts.specs.Runs.{Run, Oracle, cut_of, parts_in, op_of}
use Rattle.law_parts.specs.Truths.{truth, given_by, gives_by, Agrees}
use Rattle.law_parts.proofs.ListLaws.{number_in, numbers_length}
use Rattle.law_parts.proofs.NumberLaws.{number_same}
use Rattle.law_parts.proofs.StateIn.{vars_in, scalar_in, level_in, levels_in}
use Rattle.law_parts.proofs.WholeRun.{IsRun, lies, names}

-- a part that gives a number gives the truth, where its number is
pub gives_truth : (r : Run) (k : ℕ) (x : Held) (o : Op) (state : State)
    → ((i : ℕ) → o ≡ Give i
    → number_by r k (held_values r k x.numbers) i ≡ number_by r k (values_of r.setup state) i)
    → gives_by r k x o (given_by r k state o)
gives_truth r k x (Give i) state h = h i refl
gives_truth r k x (Sweep i) state h = tt
gives_truth r k x (Apply i) state h = tt
gives_truth r k x (Join i) state h = tt
gives_truth r k x (Post d vars) state h = tt
gives_truth r k x (Take d vars path) state h = tt
gives_truth r k x (Test v path skip) state h = tt
gives_truth r k x Open state h = tt
gives_truth r k x (Turn v path skip) state h = tt
gives_truth r k x (Again back) state h = tt
gives_truth r k x Rotate state h = tt
gives_truth r k x (Due skip) state h = tt
gives_truth r k x (Written skip) state h = tt
gives_truth r k x (Skip skip) state h = tt
gives_truth r k x (Next back) state h = tt
gives_truth r k x (Piece v) state h = tt
gives_truth r k x Save state h = tt
gives_truth r k x Halt state h = tt

module _ (tells : Type 0) (Near : Nearness) (r : Run) (run : IsRun r) (oracle : Oracle) (k : ℕ)
    (part : k < parts_in r) where
  abbrev first : State
  first = r.first.state

  abbrev begun : State
  begun = state_in r.setup (values_of r.setup first) (local (cut_of r) k) 0 first

  there_of : (v : VarId) → v.0 < length r.setup.vars → v.0 < length first
  there_of v l = let e = run.first.vars in omega (arith, e, l)

  stored_of : (v : VarId) (level : ℕ) → v.0 < length r.setup.vars → level < levels_of r.setup v
      → level < length (get_or first v.0 [])
  stored_of v level l m = let e = run.first.levels v l in omega (arith, e, m)

  level_is : (v : VarId) (level : ℕ) → is_scalar r.setup v ≡ false → v.0 < length r.setup.vars
      → level < levels_of r.setup v
      → level_of begun v level ≡ numbers_in (local (cut_of r) k) (values_of r.setup first v level)
  level_is v level e l m =
      level_in r.setup (values_of r.setup first) (local (cut_of r) k) v level first e (there_of v l)
      (stored_of v level l m)

  scalar_level : (v : VarId) → is_scalar r.setup v ≡ true
      → get_or begun v.0 [] ≡ get_or first v.0 []
  scalar_level v e = scalar_in r.setup (values_of r.setup first) (local (cut_of r) k)
      0 v.0 v.0 first (omega arith) e

  begun_held : IsHeld r.setup (local (cut_of r) k) begun
  begun_held = record {
    vars = vars_in r.setup (values_of r.setup first) (local (cut_of r) k) 0 first ∙ run.first.vars;
    levels = λ v l. levels_in r.setup (values_of r.setup first) (local (cut_of r) k) v first
        (there_of v l) ∙ run.first.levels v l;
    sizes = λ v level l m. go v level l m (is_scalar r.setup v) refl;
  }
    where
      go : (v : VarId) (level : ℕ) → v.0 < length r.setup.vars → level < levels_of r.setup v
          → (b : Bool) → is_scalar r.setup v ≡ b
          → length (level_of begun v level)
          ≡ (if is_scalar r.setup v then 1 else point_count (local (cut_of r) k))
      go v level l m true e =
          ap (λ ls. length (get_or ls level [])) (scalar_level v e) ∙ run.first.numbers v level l m
          ∙ (rw e refl)
      go v level l m false e =
          ap length (level_is v level e l m)
          ∙ numbers_length (local (cut_of r) k) (values_of r.setup first v level)
          ∙ sym (ap (λ (b : Bool). if b then 1 else point_count (local (cut_of r) k)) e)

  -- each local point has the number that it names
  begun_true : (v : VarId) (level : ℕ) (p : Point) → is_scalar r.setup v ≡ false
      → v.0 < length r.setup.vars → level < levels_of r.setup v → IsIn (local (cut_of r) k) p
      → held_values r k begun v level p ≡ at r.setup.shape (level_of first v level) p
  begun_true v level p e l m inside =
      ap (λ (b : Bool). if b then scalar_of begun v
      else number_at (local (cut_of r) k) (level_of begun v level) p) e
      ∙ ap (λ ns. number_at (local (cut_of r) k) ns p) (level_is v level e l m)
      ∙ number_in (local (cut_of r) k) (values_of r.setup first v level)
      (index_in (local (cut_of r) k) p) (index_below (local (cut_of r) k) p inside)
      ∙ ap (values_of r.setup first v level) (point_at_index (local (cut_of r) k) p inside)
      ∙ ap (λ (b : Bool). if b then scalar_of first v
      else at r.setup.shape (level_of first v level) p) e

  begun_gives : oracle k 0 ≡ truth r k 0
      → gives_by r k ((net tells Near r oracle).start k) (op_of r 0) (oracle k 0)
  begun_gives e =
      subst (λ z. gives_by r k ((net tells Near r oracle).start k) (op_of r 0) z) (sym e)
      (gives_truth r k ((net tells Near r oracle).start k) (op_of r 0) first
      (λ i h. number_same r run k begun first run.first
      (λ v level p g l m inside. begun_true v level p g l m ((lies r run k part).own p inside))
      i (names r run (Give i) r.first.control.pc h)))

  pub starts_on : oracle k 0 ≡ truth r k 0
      → Agrees tells r oracle k 0 ((net tells Near r oracle).start k)
  starts_on e = record {
    stands = record {
      count = refl;
      control = refl;
      scalars = λ v s. ap (λ ls. get_or (get_or ls 0 []) 0 (pos 0)) (scalar_level v s);
      sized = begun_held;
      numbers = λ t v level p grid l m reached. begun_true v level p grid l m reached.inside;
    };
    gives = begun_gives e;
  }
