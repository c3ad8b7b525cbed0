-- The jobs of the tests are whole.
use Rattle.std.proofs.Common.{◌≡◌, ◌≢◌, ℕ, ◌^◌, ◌<◌, ◌≤◌, Bool, true, false, refl, sym, ap, subst, List, [], ◌∷◌, get_or, pos, arith}
use Rattle.std.specs.Prelude.{All, AllPairs, IfSome}
use Rattle.std.proofs.lemmas.Int.{ints}
use Rattle.std.proofs.lemmas.List.{get_or_past}
use Rattle.std.proofs.lemmas.List.Kept.{AllPairs-cons}
use Rattle.std.proofs.lemmas.List.Elements.{All-nil, All-from_recursion}
use Rattle.cx_grid.specs.declared.shapes.Shape.{Shape}
use Rattle.cx_grid.specs.Grid.{IsAxis, IsShape}
use Rattle.cx_plan.specs.declared.variable.VarId.{VarId}
use Rattle.cx_plan.specs.declared.variable.VarInfo.{VarInfo}
use Rattle.cx_plan.specs.declared.job.Cuts.{Cuts}
use Rattle.cx_plan.specs.Setups.{setup_of}
use Rattle.cx_plan.specs.Lookups.{item, no_item, no_variable}
use Rattle.cx_plan.specs.Regions.{run_items}
use Rattle.cx_plan.specs.Steering.{IsSteer}
use Rattle.cx_plan.specs.Whole.{IsTree, IsName, IsItem, IsSmall, IsStored, IsStoredGrid, IsWhole}
use Rattle.sharing_tests.specs.Samples.{sample, sample_variables, weighing}

-- ---- shapes

axis : (n g : ℕ) → 1 ≤ n → n ≤ 16777216 → g ≤ 8 → IsAxis (pos n) (pos g)
axis n g some most ghosts =
    record {
      some = omega (arith, ints, some);
      most = omega (arith, ints, most);
      least_ghosts = omega (arith, ints);
      most_ghosts = omega (arith, ints, ghosts);
    }

one : IsAxis (pos 1) (pos 0)
one = axis 1 0 (omega arith) (omega arith) (omega arith)

pub ring-shape : (n : ℕ) → 1 ≤ n → n ≤ 100 → IsShape (record {
  dims = 1;
  n = record { x = pos n; y = pos 1; z = pos 1 };
  ghost_ = record { x = pos 1; y = pos 0; z = pos 0 };
  periodic = true ∷ false ∷ false ∷ [];
})
ring-shape n some most =
    record {
      some = omega arith;
      most = omega arith;
      x = axis n 1 some (omega (arith, most)) (omega arith);
      y = one;
      z = one;
      no_y = λ h. record { one = refl; no_ghosts = refl };
      no_z = λ h. record { one = refl; no_ghosts = refl };
      few = omega (arith, most);
    }

pub sheet-shape : IsShape (record {
  dims = 2;
  n = record { x = pos 8; y = pos 8; z = pos 1 };
  ghost_ = record { x = pos 1; y = pos 1; z = pos 0 };
  periodic = true ∷ true ∷ false ∷ [];
})
sheet-shape =
    record {
      some = omega arith;
      most = omega arith;
      x = axis 8 1 (omega arith) (omega arith) (omega arith);
      y = axis 8 1 (omega arith) (omega arith) (omega arith);
      z = one;
      no_y = λ h. absurd (omega (arith, h));
      no_z = λ h. record { one = refl; no_ghosts = refl };
      few = omega arith;
    }

two : IsAxis (pos 8) (pos 2)
two = axis 8 2 (omega arith) (omega arith) (omega arith)

pub x-shape : IsShape (record {
  dims = 3;
  n = record { x = pos 8; y = pos 1; z = pos 1 };
  ghost_ = record { x = pos 2; y = pos 0; z = pos 0 };
  periodic = true ∷ true ∷ true ∷ [];
})
x-shape =
    record {
      some = omega arith;
      most = omega arith;
      x = two;
      y = one;
      z = one;
      no_y = λ h. absurd (omega (arith, h));
      no_z = λ h. absurd (omega (arith, h));
      few = omega arith;
    }

pub y-shape : IsShape (record {
  dims = 3;
  n = record { x = pos 1; y = pos 8; z = pos 1 };
  ghost_ = record { x = pos 0; y = pos 2; z = pos 0 };
  periodic = true ∷ true ∷ true ∷ [];
})
y-shape =
    record {
      some = omega arith;
      most = omega arith;
      x = one;
      y = two;
      z = one;
      no_y = λ h. absurd (omega (arith, h));
      no_z = λ h. absurd (omega (arith, h));
      few = omega arith;
    }

pub z-shape : IsShape (record {
  dims = 3;
  n = record { x = pos 1; y = pos 1; z = pos 8 };
  ghost_ = record { x = pos 0; y = pos 0; z = pos 2 };
  periodic = true ∷ true ∷ true ∷ [];
})
z-shape =
    record {
      some = omega arith;
      most = omega arith;
      x = one;
      y = one;
      z = two;
      no_y = λ h. absurd (omega (arith, h));
      no_z = λ h. absurd (omega (arith, h));
      few = omega arith;
    }

-- ---- the job

no_item-small : IsSmall no_item
no_item-small = record { reads = omega arith; writes = omega arith; params = omega arith }

pairs-none : {X : Type 0} (R : X → X → Type 0) → AllPairs R []
pairs-none R = λ i j d low high. absurd (omega (arith, high))

pairs-of-one : {X : Type 0} (R : X → X → Type 0) (x : X) → AllPairs R (x ∷ [])
pairs-of-one R x = AllPairs-cons R x [] (All-nil (R x)) (pairs-none R)

letters : All (λ (v : VarInfo). IsName v.full) sample_variables
letters =
    let is = λ (b : ℕ). (33 ≤ b) × (b ≤ 126) in
    All-from_recursion (λ (v : VarInfo). IsName v.full) sample_variables (
      (omega arith, All-from_recursion is (97 ∷ []) ((omega arith, omega arith), tt)),
      ((omega arith, All-from_recursion is (98 ∷ []) ((omega arith, omega arith), tt)), tt),
    )

letters-apart : AllPairs (λ (v w : VarInfo). v.full ≢ w.full) sample_variables
letters-apart =
    let apart = λ (v w : VarInfo). v.full ≢ w.full in
    let first = get_or sample_variables 0 no_variable in
    let second = get_or sample_variables 1 no_variable in
    AllPairs-cons apart first (second ∷ [])
    (All-from_recursion (apart first) (second ∷ [])
    ((λ e. absurd (omega (arith, ap (λ (l : List ℕ). get_or l 0 0) e))), tt))
    (pairs-of-one apart second)

module _ (shape : Shape) (own : Cuts) (weighed : Bool) (factor : ℕ) where
  item-small : (k : ℕ) → IsSmall (item (setup_of (sample shape own weighed factor)) k)
  item-small k = subst IsSmall (sym (get_or_past [] k no_item (omega arith))) no_item-small

weight-stored : (shape : Shape) (own : Cuts) (weighed : Bool) (factor : ℕ)
    → IfSome (weighing weighed) (IsStoredGrid (sample shape own weighed factor))
weight-stored shape own true factor = (((omega arith), (omega arith)), refl)
weight-stored shape own false factor = tt

pub sample-whole : (shape : Shape) (own : Cuts) (weighed : Bool) (factor : ℕ) → IsShape shape
    → factor ≤ 2 ^ 20 → IsWhole (sample shape own weighed factor)
unfolding Rattle.cx_plan.specs.declared.tree.Tree.TheBlock.hidden-the_row-Tree-0
    denote.Hole.Carrier.hidden
sample-whole shape own weighed factor is small =
    let job = sample shape own weighed factor in
    record {
      shape = is;
      names = letters;
      names_differ = letters-apart;
      one_level = All-from_recursion (λ (v : VarInfo). v.scalar ≡ true → v.levels ≤ 1)
          sample_variables ((λ e. absurd (cc)), ((λ e. absurd (cc)), tt));
      levels_limit = All-from_recursion (λ (v : VarInfo). v.levels ≤ 8) sample_variables
          (omega arith, (omega arith, tt));
      items = All-nil (IsItem job);
      run_items = λ i k below. item-small shape own weighed factor
          (get_or (run_items (setup_of job)) i k);
      bins = refl;
      trees = All-from_recursion (IsTree job) job.plan.bins (
        tt,
        (
          tt,
          (
            tt,
            (
              tt,
              (tt, (tt, (tt, (tt, (tt, (tt, (tt, (tt, (tt, (tt, (tt, (tt, (tt, tt))))))))))))),
            ),
          ),
        ),
      );
      nodes_limit = omega arith;
      depth_limit = omega arith;
      outputs = All-nil (λ v. IsStored job v 0);
      steers = All-nil (IsSteer (setup_of job));
      weight = weight-stored shape own weighed factor;
      weight_factor = small;
      outputs_rise = pairs-none (λ (v w : VarId). v.0 < w.0);
      variables_limit = omega arith;
      itlast_limit = omega arith;
      some_turn = omega arith;
      while_limit = omega arith;
      lead_limit = omega arith;
      some_keep = omega arith;
      keep_limit = omega arith;
      output_least = omega (arith, ints);
      output_limit = omega (arith, ints);
      checkpoint_least = omega (arith, ints);
      checkpoint_limit = omega (arith, ints);
      cells_limit = let few = is.few in omega (arith, few);
      key_limit = omega arith;
    }
