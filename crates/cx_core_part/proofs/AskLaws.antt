-- What the calls ask for follows from what is known of the operations of a job.
use Rattle.std.proofs.Common.{◌≡◌, ℕ, ◌*◌, ◌<◌, ◌≤◌, arith, true, cond, sym, ap, ◌∙◌, subst, List, length}
use Rattle.std.specs.Prelude.{◌^◌}
use Rattle.std.proofs.lemmas.List.Elements.{All-from_get_or}
use Rattle.cx_grid.specs.declared.shapes.Shape.{Shape}
use Rattle.cx_grid.specs.Boxes.{point_count}
use Rattle.cx_grid.specs.Grid.{whole}
use Rattle.cx_plan.specs.declared.job.Job.{Job}
use Rattle.cx_plan.specs.declared.variable.VarId.{VarId}
use Rattle.cx_plan.specs.Setups.{Setup, setup_of}
use Rattle.cx_plan.specs.Lookups.{is_scalar, levels_of}
use Rattle.cx_plan.specs.Whole.{IsStored, grid_levels}
use Rattle.cx_cut.specs.Cuts.{Parts, part_count, owned, local}
use Rattle.cx_field.specs.Patches.{PatchValue, IsScalar, IsGridLevel}
use Rattle.cx_ghost.specs.Posts.{CanExchange}
use Rattle.cx_flat.specs.declared.op.Op.{Op}
use Rattle.cx_flat.specs.declared.op.Op.TheVariants.{Sweep, Apply, Give, Join, Post, Take, Test, Open, Turn, Again, Rotate, Due, Written, Skip, Next, Piece, Save, Halt}
use Rattle.law_parts.specs.Operations.{NamesWell, IsExchange}
use Rattle.cx_core_part.specs.Jobs.{IsChecked, IsCutOf, IsOperation}
use Rattle.cx_core_part.proofs.Known.{AreDifferent, IsKnown}
use Rattle.cx_core_part.specs.Frames.{IsPatchFor, IsPatchOf}
use Rattle.cx_core_part.specs.Tests.{CanTest}
use Rattle.cx_core_part.proofs.FrameLaws.{same_patch, names_well, is_known}
use Rattle.cx_core_part.proofs.FewLaws.{face_few, vars_few, values_few}
use Rattle.cx_rule.proofs.CutParts.{part_is}
use Rattle.cx_rule.specs.Faces.{variable_at}

module _ (job : Job) (checked : IsChecked job) where
  abbrev S : Setup
  S = setup_of job

  -- ---- exchanges

  module _ (cut : Parts) (is : IsCutOf job cut) (k : ℕ) (part : k < part_count cut) (p : PatchValue)
      (patch : IsPatchOf S cut k p) where
    shape_is : cut.shape ≡ job.shape
    shape_is = ap (λ (c : Parts). c.shape) is.parts

    can_exchange : (d : ℕ) (vars : List VarId) → IsExchange S d vars → AreDifferent vars
        → CanExchange cut k d vars p
    can_exchange d vars names differ = record {
      whole = is.whole;
      part = part;
      shape_is = patch.patch.shape ∙ sym shape_is;
      owned_is = patch.owned_is;
      local_is = patch.local_is;
      direction = subst (λ (s : Shape). d < s.dims) (sym shape_is) names.direction;
      stored = record {
        levels = All-from_get_or (λ v. IsGridLevel p v 0) vars (record { 0 = 0 })
            (λ i l. subst (λ q. IsGridLevel q (variable_at vars i) 0)
            (same_patch S p patch.patch.shape patch.patch.vars) (record {
              var = (names.current i l).0;
              stored = (names.current i l).1;
              grid = names.grid i l;
            }));
        differ = differ;
      };
      few = λ side.
          let direction = names.direction in
          let most = checked.whole.shape.most in
          values_few (length vars) _ (point_count (whole cut.shape)) (grid_levels job.vars)
          (face_few cut.shape (owned cut k) (local cut k) (part_is cut is.whole k part) d
          (omega (arith, direction, most)) side)
          (vars_few job.vars vars differ (λ i l. (names.current i l).0)
          (λ i l. subst (λ b. 1 ≤ cond b 0 (levels_of S (variable_at vars i)))
          (sym (names.grid i l)) (let some = (names.current i l).1 in omega (arith, some))))
          (subst (λ s. grid_levels job.vars * point_count (whole s) ≤ 2 ^ 26) (sym shape_is)
          checked.whole.cells_limit);
    }

    pub can_post : (d : ℕ) (vars : List VarId) → IsOperation S (Post d vars)
        → CanExchange cut k d vars p
    can_post d vars here = can_exchange d vars (names_well job checked (Post d vars) here)
        (is_known job checked (Post d vars) here)

    pub can_take : (d : ℕ) (vars : List VarId) (path : List ℕ) → IsOperation S (Take d vars path)
        → CanExchange cut k d vars p
    can_take d vars path here =
        can_exchange d vars (names_well job checked (Take d vars path) here)
        (is_known job checked (Take d vars path) here)

  -- ---- tests

  module _ (p : PatchValue) (patch : IsPatchFor S p) where
    scalar_in : (v : VarId) → is_scalar S v ≡ true → IsStored job v 0 → IsScalar p v
    scalar_in v e stored = subst (λ q. IsScalar q v) (same_patch S p patch.shape patch.vars)
        (record { var = stored.0; stored = stored.1; scalar = e })

    can_by : (o : Op) → NamesWell S o → IsKnown job o → CanTest o p
    can_by (Sweep i) names known = tt
    can_by (Apply i) names known = tt
    can_by (Give i) names known = tt
    can_by (Join i) names known = tt
    can_by (Post d vars) names known = tt
    can_by (Take d vars path) names known = tt
    can_by (Test v path skip) names known = scalar_in v names known
    can_by Open names known = tt
    can_by (Turn v path skip) names known = scalar_in v names known
    can_by (Again back) names known = tt
    can_by Rotate names known = tt
    can_by (Due skip) names known = tt
    can_by (Written skip) names known = tt
    can_by (Skip skip) names known = tt
    can_by (Next back) names known = tt
    can_by (Piece v) names known = tt
    can_by Save names known = tt
    can_by Halt names known = tt

    pub can_test : (o : Op) → IsOperation S o → CanTest o p
    can_test o here = can_by o (names_well job checked o here) (is_known job checked o here)
