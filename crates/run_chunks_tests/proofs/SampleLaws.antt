-- The job of the tests is whole, and its cut has no fault.
use Rattle.std.proofs.Common.{◌≡◌, ◌≢◌, ℕ, ◌<◌, ◌≤◌, true, refl, sym, ap, subst, List, [], ◌∷◌, length, get_or, None, arith}
use Rattle.std.specs.Prelude.{All, AllPairs, codes}
use Rattle.std.proofs.lemmas.Int.{ints}
use Rattle.std.proofs.lemmas.List.{get_or_past}
use Rattle.std.proofs.lemmas.List.Kept.{AllPairs-cons}
use Rattle.std.proofs.lemmas.List.Elements.{All-nil, All-from_recursion}
use Rattle.cx_grid.specs.Grid.{IsShape}
use Rattle.cx_plan.specs.declared.variable.VarId.{VarId}
use Rattle.cx_plan.specs.declared.variable.VarInfo.{VarInfo}
use Rattle.cx_plan.specs.Setups.{setup_of}
use Rattle.cx_plan.specs.Lookups.{item, no_item, no_variable}
use Rattle.cx_plan.specs.Regions.{run_items}
use Rattle.cx_plan.specs.Steering.{IsSteer}
use Rattle.cx_plan.specs.Whole.{IsTree, IsName, IsItem, IsSmall, IsStored, IsWhole}
use Rattle.cx_cut.specs.Faults.{cut_fault}
use Rattle.cx_run_chunks.specs.Commands.{parts_in}
use Rattle.run_chunks_tests.specs.Samples.{sample, sample_variables}

whole-shape : IsShape sample.shape
whole-shape =
    record {
      some = omega arith;
      most = omega arith;
      x = record {
        some = omega (arith, ints);
        most = omega (arith, ints);
        least_ghosts = omega (arith, ints);
        most_ghosts = omega (arith, ints);
      };
      y = record {
        some = omega (arith, ints);
        most = omega (arith, ints);
        least_ghosts = omega (arith, ints);
        most_ghosts = omega (arith, ints);
      };
      z = record {
        some = omega (arith, ints);
        most = omega (arith, ints);
        least_ghosts = omega (arith, ints);
        most_ghosts = omega (arith, ints);
      };
      no_y = λ h. record { one = refl; no_ghosts = refl };
      no_z = λ h. record { one = refl; no_ghosts = refl };
      few = omega arith;
    }

no_item-small : IsSmall no_item
no_item-small = record { reads = omega arith; writes = omega arith; params = omega arith }

item-small : (k : ℕ) → IsSmall (item (setup_of sample) k)
item-small k = subst IsSmall (sym (get_or_past [] k no_item (omega arith))) no_item-small

pairs-none : {X : Type 0} (R : X → X → Type 0) → AllPairs R []
pairs-none R = λ i j d low high. absurd (omega (arith, high))

pairs-of-one : {X : Type 0} (R : X → X → Type 0) (x : X) → AllPairs R (x ∷ [])
pairs-of-one R x = AllPairs-cons R x [] (All-nil (R x)) (pairs-none R)

is_printed : (b : ℕ) → Type 0
is_printed b = (33 ≤ b) × (b ≤ 126)

names-are : All (λ (v : VarInfo). IsName v.full) sample_variables
names-are =
    let is = λ (b : ℕ). (33 ≤ b) × (b ≤ 126) in
    All-from_recursion (λ (v : VarInfo). IsName v.full) sample_variables (
      (
        omega arith,
        All-from_recursion is (codes "ca::cell") (
          (omega arith, omega arith),
          (
            (omega arith, omega arith),
            (
              (omega arith, omega arith),
              (
                (omega arith, omega arith),
                (
                  (omega arith, omega arith),
                  (
                    (omega arith, omega arith),
                    ((omega arith, omega arith), ((omega arith, omega arith), tt)),
                  ),
                ),
              ),
            ),
          ),
        ),
      ),
      (
        (
          omega arith,
          All-from_recursion is (codes "ca::live") (
            (omega arith, omega arith),
            (
              (omega arith, omega arith),
              (
                (omega arith, omega arith),
                (
                  (omega arith, omega arith),
                  (
                    (omega arith, omega arith),
                    (
                      (omega arith, omega arith),
                      ((omega arith, omega arith), ((omega arith, omega arith), tt)),
                    ),
                  ),
                ),
              ),
            ),
          ),
        ),
        tt,
      ),
    )

names-apart : AllPairs (λ (v w : VarInfo). v.full ≢ w.full) sample_variables
names-apart =
    let apart = λ (v w : VarInfo). v.full ≢ w.full in
    let cell = get_or sample_variables 0 no_variable in
    let live = get_or sample_variables 1 no_variable in
    AllPairs-cons apart cell (live ∷ [])
    (All-from_recursion (apart cell) (live ∷ [])
    ((λ e. absurd (omega (arith, ap (λ (l : List ℕ). get_or l 4 0) e))), tt))
    (pairs-of-one apart live)

pub sample-whole : IsWhole sample
unfolding Rattle.cx_plan.specs.declared.tree.Tree.TheBlock.hidden-the_row-Tree-0
    denote.Hole.Carrier.hidden
sample-whole =
    let job = sample in
    record {
      shape = whole-shape;
      names = names-are;
      names_differ = names-apart;
      one_level = All-from_recursion (λ (v : VarInfo). v.scalar ≡ true → v.levels ≤ 1)
          sample_variables ((λ e. absurd (cc)), ((λ e. omega arith), tt));
      levels_limit = All-from_recursion (λ (v : VarInfo). v.levels ≤ 8) sample_variables
          (omega arith, (omega arith, tt));
      items = All-nil (IsItem job);
      run_items = λ i k below. item-small (get_or (run_items (setup_of job)) i k);
      bins = refl;
      trees = All-from_recursion (IsTree job) job.plan.bins (
        tt,
        (
          tt,
          (
            tt,
            (
              tt,
              (tt, (tt, (tt, (tt, (tt, (tt, (tt, (tt, (tt, (tt, (tt, (tt, (tt, tt))))))))))))),
            ),
          ),
        ),
      );
      nodes_limit = omega arith;
      depth_limit = omega arith;
      outputs = All-from_recursion (λ v. IsStored job v 0) job.out_vars
          ((omega arith, omega arith), ((omega arith, omega arith), tt));
      steers = All-nil (IsSteer (setup_of job));
      weight = tt;
      weight_factor = omega arith;
      outputs_rise = AllPairs-cons (λ (v w : VarId). v.0 < w.0) (record { 0 = 0 })
          (record { 0 = 1 } ∷ [])
          (All-from_recursion (λ (w : VarId). 0 < w.0) (record { 0 = 1 } ∷ []) (omega arith, tt))
          (pairs-of-one (λ (v w : VarId). v.0 < w.0) (record { 0 = 1 }));
      variables_limit = omega arith;
      itlast_limit = omega arith;
      some_turn = omega arith;
      while_limit = omega arith;
      lead_limit = omega arith;
      some_keep = omega arith;
      keep_limit = omega arith;
      output_least = omega (arith, ints);
      output_limit = omega (arith, ints);
      checkpoint_least = omega (arith, ints);
      checkpoint_limit = omega (arith, ints);
      cells_limit = omega arith;
      key_limit = omega arith;
    }

pub sample-cut : cut_fault (parts_in sample) ≡ None
sample-cut = refl
