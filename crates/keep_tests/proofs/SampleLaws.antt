-- The job of the tests is whole.
use Rattle.std.proofs.Common.{◌≡◌, ◌≢◌, inr, ℕ, ◌<◌, ◌≤◌, Bool, true, false, ◌&&◌, refl, sym, ap, subst, List, [], ◌∷◌, length, get_or, arith, rules}
use Rattle.std.specs.Prelude.{All, AllPairs, codes, nat_le}
use Rattle.std.proofs.lemmas.Bool.{and_parts}
use Rattle.std.proofs.lemmas.Bool.Decides.{nat_tests}
use Rattle.std.proofs.lemmas.Int.{ints}
use Rattle.std.proofs.lemmas.List.{get_or_past}
use Rattle.std.proofs.lemmas.List.Kept.{AllPairs-cons}
use Rattle.std.proofs.lemmas.List.Elements.{All-nil, All-cons, All-from_recursion}
use Rattle.cx_grid.specs.Grid.{IsShape}
use Rattle.cx_plan.specs.declared.variable.VarId.{VarId}
use Rattle.cx_plan.specs.declared.variable.VarInfo.{VarInfo}
use Rattle.cx_plan.specs.declared.job.Recover.{Recover}
use Rattle.cx_plan.specs.Setups.{setup_of}
use Rattle.cx_plan.specs.Lookups.{item, no_item, no_variable}
use Rattle.cx_plan.specs.Regions.{run_items}
use Rattle.cx_chk.specs.Encoding.{IsCheckpoint}
use Rattle.cx_plan.specs.Steering.{IsSteer}
use Rattle.cx_plan.specs.Whole.{IsTree, IsName, IsItem, IsSmall, IsStored, IsWhole}
use Rattle.keep_tests.specs.Samples.{sample, sample_variables, sample_checkpoint, written_variables}

whole-shape : (b : Bool) (r : Recover) → IsShape (sample b r).shape
whole-shape b r =
    record {
      some = omega arith;
      most = omega arith;
      x = record {
        some = omega (arith, ints);
        most = omega (arith, ints);
        least_ghosts = omega (arith, ints);
        most_ghosts = omega (arith, ints);
      };
      y = record {
        some = omega (arith, ints);
        most = omega (arith, ints);
        least_ghosts = omega (arith, ints);
        most_ghosts = omega (arith, ints);
      };
      z = record {
        some = omega (arith, ints);
        most = omega (arith, ints);
        least_ghosts = omega (arith, ints);
        most_ghosts = omega (arith, ints);
      };
      no_y = λ h. record { one = refl; no_ghosts = refl };
      no_z = λ h. record { one = refl; no_ghosts = refl };
      few = omega arith;
    }

no_item-small : IsSmall no_item
no_item-small = record { reads = omega arith; writes = omega arith; params = omega arith }

item-small : (b : Bool) (r : Recover) (k : ℕ) → IsSmall (item (setup_of (sample b r)) k)
item-small b r k = subst IsSmall (sym (get_or_past [] k no_item (omega arith))) no_item-small

pairs-none : {X : Type 0} (R : X → X → Type 0) → AllPairs R []
pairs-none R = λ i j d low high. absurd (omega (arith, high))

pairs-of-one : {X : Type 0} (R : X → X → Type 0) (x : X) → AllPairs R (x ∷ [])
pairs-of-one R x = AllPairs-cons R x [] (All-nil (R x)) (pairs-none R)

abbrev printable : List ℕ → Bool
printable [] = true
printable (b ∷ bytes) = (nat_le 33 b && nat_le b 126) && printable bytes

printable-is : (bytes : List ℕ) → printable bytes ≡ true
    → All (λ (b : ℕ). (33 ≤ b) × (b ≤ 126)) bytes
printable-is [] e = All-nil (λ (b : ℕ). (33 ≤ b) × (b ≤ 126))
printable-is (b ∷ bytes) e =
    let p = and_parts (nat_le 33 b && nat_le b 126) (printable bytes) e in
    let q = and_parts (nat_le 33 b) (nat_le b 126) p.0 in
    let low = q.0 in
    let high = q.1 in
    All-cons (λ (b : ℕ). (33 ≤ b) × (b ≤ 126)) b bytes
    (grind (arith, nat_tests), grind (arith, nat_tests)) (printable-is bytes p.1)

names-are : All (λ (v : VarInfo). IsName v.full) sample_variables
names-are =
    All-from_recursion (λ (v : VarInfo). IsName v.full) sample_variables (
      (omega arith, printable-is (codes "wave::phi") refl),
      ((omega arith, printable-is (codes "wave::total") refl), tt),
    )

names-apart : AllPairs (λ (v w : VarInfo). v.full ≢ w.full) sample_variables
names-apart =
    let apart = λ (v w : VarInfo). v.full ≢ w.full in
    let phi = get_or sample_variables 0 no_variable in
    let on = get_or sample_variables 1 no_variable in
    AllPairs-cons apart phi (on ∷ [])
    (All-from_recursion (apart phi) (on ∷ [])
    ((λ e. absurd (omega (arith, ap (λ (l : List ℕ). length l) e))), tt))
    (pairs-of-one apart on)

outputs-stored : (b : Bool) (r : Recover)
    → All (λ v. IsStored (sample b r) v 0) (written_variables b)
outputs-stored false r = All-nil (λ v. IsStored (sample false r) v 0)
outputs-stored true r =
    All-from_recursion (λ v. IsStored (sample true r) v 0) (written_variables true)
    ((omega arith, omega arith), ((omega arith, omega arith), tt))

outputs-rising : (b : Bool) → AllPairs (λ (v w : VarId). v.0 < w.0) (written_variables b)
outputs-rising false = pairs-none (λ (v w : VarId). v.0 < w.0)
outputs-rising true =
    let below = λ (v w : VarId). v.0 < w.0 in
    let first : VarId = record { 0 = 0 } in
    let second : VarId = record { 0 = 1 } in
    AllPairs-cons below first (second ∷ [])
    (All-from_recursion (below first) (second ∷ []) (omega arith, tt)) (pairs-of-one below second)

pub sample-whole : (b : Bool) (r : Recover) → IsWhole (sample b r)
unfolding Rattle.cx_plan.specs.declared.tree.Tree.TheBlock.hidden-the_row-Tree-0
    denote.Hole.Carrier.hidden
sample-whole b r =
    let job = sample b r in
    record {
      shape = whole-shape b r;
      names = names-are;
      names_differ = names-apart;
      one_level = All-from_recursion (λ (v : VarInfo). v.scalar ≡ true → v.levels ≤ 1)
          sample_variables ((λ e. absurd (cc)), ((λ e. omega arith), tt));
      levels_limit = All-from_recursion (λ (v : VarInfo). v.levels ≤ 8) sample_variables
          (omega arith, (omega arith, tt));
      items = All-nil (IsItem job);
      run_items = λ i k below. item-small b r (get_or (run_items (setup_of job)) i k);
      bins = refl;
      trees = All-from_recursion (IsTree job) job.plan.bins (
        tt,
        (
          tt,
          (
            tt,
            (
              tt,
              (tt, (tt, (tt, (tt, (tt, (tt, (tt, (tt, (tt, (tt, (tt, (tt, (tt, tt))))))))))))),
            ),
          ),
        ),
      );
      nodes_limit = omega arith;
      depth_limit = omega arith;
      outputs = outputs-stored b r;
      steers = All-nil (IsSteer (setup_of job));
      weight = tt;
      weight_factor = omega arith;
      outputs_rise = outputs-rising b;
      variables_limit = omega arith;
      itlast_limit = omega arith;
      some_turn = omega arith;
      while_limit = omega arith;
      lead_limit = omega arith;
      some_keep = omega arith;
      keep_limit = omega arith;
      output_least = omega (arith, ints);
      output_limit = omega (arith, ints);
      checkpoint_least = omega (arith, ints);
      checkpoint_limit = omega (arith, ints);
      cells_limit = omega arith;
      key_limit = omega arith;
    }

-- and its checkpoint has a spelling
pub sample-fits : IsCheckpoint sample_checkpoint
sample-fits =
    record {
      version = inr (refl, refl, (omega arith, (omega arith, tt)));
      iteration = omega arith;
      key = omega arith;
      lengths = (omega arith, (omega arith, (omega arith, tt)));
      scalars = (omega arith, ((search rules), tt));
      levels = (omega arith, ((omega arith, ((search rules), ((search rules), tt))), tt));
    }
