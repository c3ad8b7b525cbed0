-- The jobs of tests are whole.
use Rattle.std.proofs.Common.{◌≡◌, ◌≢◌, ℕ, zero, suc, ◌+◌, ◌<◌, ◌≤◌, true, refl, sym, ap, subst, ◌∙◌, List, [], ◌∷◌, length, get_or, arith, ◌⊎◌, inl, inr}
use Rattle.std.specs.Prelude.{All, AllPairs, max, codes}
use Rattle.std.proofs.lemmas.Bool.{cases_lt}
use Rattle.std.proofs.lemmas.Int.{ints}
use Rattle.std.proofs.lemmas.List.{get_or_past}
use Rattle.std.proofs.lemmas.List.Kept.{AllPairs-cons}
use Rattle.std.proofs.lemmas.List.Elements.{All-nil, All-cons, All-from_recursion}
use Rattle.cx_grid.specs.Grid.{IsShape}
use Rattle.cx_plan.specs.declared.variable.VarId.{VarId}
use Rattle.cx_plan.specs.declared.variable.VarInfo.{VarInfo}
use Rattle.cx_plan.specs.declared.item.Touch.{Touch}
use Rattle.cx_plan.specs.declared.item.Region.TheVariants.{Interior, Boundary, Everywhere}
use Rattle.cx_plan.specs.declared.tree.Tree.{Tree, Seq, Call, Sync, If, While}
use Rattle.cx_plan.specs.Setups.{setup_of}
use Rattle.cx_plan.specs.Lookups.{item, no_item, no_variable}
use Rattle.cx_plan.specs.Regions.{run_items}
use Rattle.cx_plan.specs.Steering.{IsSteer}
use Rattle.cx_plan.specs.Sizes.{nodes, depth}
use Rattle.cx_plan.specs.Whole.{IsTree, IsName, IsTouch, IsItem, IsSmall, IsStored, IsStoredGrid, IsWhole}
use Rattle.front_tests.specs.RegionSamples.{wave, switch, touch, sample, sample_items, sample_variables, nothing, whiles}

-- a tree that stands in a job of tests, at most so large
pub record Fits (t : Tree) (most_nodes most_depth : ℕ) : Type 0 where
  pub is : (a b : Tree) → IsTree (sample a b) t
  pub nodes : nodes t ≤ most_nodes
  pub depth : depth t ≤ most_depth

pub fits-nothing : Fits nothing 1 1
unfolding Rattle.cx_plan.specs.declared.tree.Tree.TheBlock.hidden-the_row-Tree-0
    denote.Hole.Carrier.hidden
fits-nothing = record { is = λ a b. tt; nodes = omega arith; depth = omega arith }

pub fits-call : (k : ℕ) → k < 5 → Fits (Call k) 1 1
fits-call k below = record { is = λ a b. below; nodes = omega arith; depth = omega arith }

pub fits-both : (s t : Tree) (m n d e : ℕ) → Fits s m d → Fits t n e
    → Fits (Seq (s ∷ t ∷ [])) (1 + m + n) (1 + max d e)
unfolding Rattle.cx_plan.specs.declared.tree.Tree.TheBlock.hidden-the_row-Tree-0
    denote.Hole.Carrier.hidden
fits-both s t m n d e one two =
    record {
      is = λ a b. (one.is a b, (two.is a b, tt));
      nodes = omega (arith, one.nodes, two.nodes);
      depth = grind (arith, one.depth, two.depth);
    }

pub fits-while : (path : List ℕ) (t : Tree) (n d : ℕ) → Fits t n d
    → Fits (While switch path t) (1 + n) (1 + d)
unfolding Rattle.cx_plan.specs.declared.tree.Tree.TheBlock.hidden-the_row-Tree-1
    denote.Hole.Carrier.hidden
fits-while path t n d one =
    record {
      is = λ a b. (((omega arith, omega arith), refl), (one.is a b, tt));
      nodes = omega (arith, one.nodes);
      depth = grind (arith, one.depth);
    }

pub fits-if : (path : List ℕ) (t : Tree) (n d : ℕ) → Fits t n d
    → Fits (If switch path t) (1 + n) (1 + d)
unfolding Rattle.cx_plan.specs.declared.tree.Tree.TheBlock.hidden-the_row-Tree-1
    denote.Hole.Carrier.hidden
fits-if path t n d one =
    record {
      is = λ a b. (((omega arith, omega arith), refl), (one.is a b, tt));
      nodes = omega (arith, one.nodes);
      depth = grind (arith, one.depth);
    }

pub fits-sync : (path : List ℕ) → Fits (Sync (wave ∷ []) path) 1 1
fits-sync path =
    record {
      is = λ a b. (
        All-cons (IsStoredGrid (sample a b)) wave [] ((omega arith, omega arith), refl)
            (All-nil (IsStoredGrid (sample a b))),
        (λ i j d low high. absurd (omega (arith, low, high))),
      );
      nodes = omega arith;
      depth = omega arith;
    }

pub fits-whiles : (n : ℕ) (t : Tree) (m d : ℕ) → Fits t m d → Fits (whiles n t) (n + m) (n + d)
fits-whiles zero t m d fits =
    record { is = fits.is; nodes = omega (arith, fits.nodes); depth = omega (arith, fits.depth) }
fits-whiles (suc n) t m d fits =
    let one = fits-while (codes "EVOL/w") (whiles n t) (n + m) (n + d) (fits-whiles n t m d fits) in
    record { is = one.is; nodes = omega (arith, one.nodes); depth = omega (arith, one.depth) }

-- ---- the job

touches : (a b : Tree) (r : Touch) → IsTouch (sample a b) r → (rs : List Touch)
    → All (IsTouch (sample a b)) rs → All (IsTouch (sample a b)) (r ∷ rs)
touches a b r here rs rest = All-cons (IsTouch (sample a b)) r rs here rest

none : (a b : Tree) → All (IsTouch (sample a b)) []
none a b = All-nil (IsTouch (sample a b))

items-are : (a b : Tree) → All (IsItem (sample a b)) sample_items
items-are a b =
    let job = sample a b in
    let is = All-cons (IsItem job) in
    let on = touches a b (touch switch 0 Everywhere 0) (omega arith, omega arith) [] (none a b) in
    let init = touches a b (touch wave 0 Everywhere 0) (omega arith, omega arith)
    (touch wave 1 Everywhere 0 ∷ [])
    (touches a b (touch wave 1 Everywhere 0) (omega arith, omega arith) [] (none a b)) in
    let old = touches a b (touch wave 1 Everywhere 1) (omega arith, omega arith)
    (touch wave 2 Interior 0 ∷ [])
    (touches a b (touch wave 2 Interior 0) (omega arith, omega arith) [] (none a b)) in
    let inner = touches a b (touch wave 0 Interior 0) (omega arith, omega arith) [] (none a b) in
    let outer = touches a b (touch wave 0 Boundary 0) (omega arith, omega arith) [] (none a b) in
    All-from_recursion (IsItem job) sample_items (
      record { reads = none a b; writes = on },
      (
        record { reads = none a b; writes = init },
        (
          record { reads = old; writes = inner },
          (
            record { reads = inner; writes = outer },
            (record { reads = none a b; writes = outer }, tt),
          ),
        ),
      ),
    )

whole-shape : (a b : Tree) → IsShape (sample a b).shape
whole-shape a b =
    record {
      some = omega arith;
      most = omega arith;
      x = record {
        some = omega (arith, ints);
        most = omega (arith, ints);
        least_ghosts = omega (arith, ints);
        most_ghosts = omega (arith, ints);
      };
      y = record {
        some = omega (arith, ints);
        most = omega (arith, ints);
        least_ghosts = omega (arith, ints);
        most_ghosts = omega (arith, ints);
      };
      z = record {
        some = omega (arith, ints);
        most = omega (arith, ints);
        least_ghosts = omega (arith, ints);
        most_ghosts = omega (arith, ints);
      };
      no_y = λ h. record { one = refl; no_ghosts = refl };
      no_z = λ h. record { one = refl; no_ghosts = refl };
      few = omega arith;
    }

items-small : All IsSmall sample_items
items-small =
    All-from_recursion IsSmall sample_items (
      record { reads = omega arith; writes = omega arith; params = omega arith },
      (
        record { reads = omega arith; writes = omega arith; params = omega arith },
        (
          record { reads = omega arith; writes = omega arith; params = omega arith },
          (
            record { reads = omega arith; writes = omega arith; params = omega arith },
            (record { reads = omega arith; writes = omega arith; params = omega arith }, tt),
          ),
        ),
      ),
    )

no_item-small : IsSmall no_item
no_item-small = record { reads = omega arith; writes = omega arith; params = omega arith }

item-small : (a b : Tree) (k : ℕ) → IsSmall (item (setup_of (sample a b)) k)
item-small a b k = by (cases_lt k (length sample_items))
  where
    by : (k < length sample_items) ⊎ (length sample_items ≤ k)
        → IsSmall (get_or sample_items k no_item)
    by (inl less) = items-small k no_item less
    by (inr past) = subst IsSmall (sym (get_or_past sample_items k no_item past)) no_item-small

pairs-none : {X : Type 0} (R : X → X → Type 0) → AllPairs R []
pairs-none R = λ i j d low high. absurd (omega (arith, high))

pairs-of-one : {X : Type 0} (R : X → X → Type 0) (x : X) → AllPairs R (x ∷ [])
pairs-of-one R x = AllPairs-cons R x [] (All-nil (R x)) (pairs-none R)

names-are : All (λ (v : VarInfo). IsName v.full) sample_variables
names-are =
    let is = λ (b : ℕ). (33 ≤ b) × (b ≤ 126) in
    All-from_recursion (λ (v : VarInfo). IsName v.full) sample_variables (
      (
        omega arith,
        All-from_recursion is (codes "phi") (
          (omega arith, omega arith),
          ((omega arith, omega arith), ((omega arith, omega arith), tt)),
        ),
      ),
      (
        (
          omega arith,
          All-from_recursion is (codes "on")
              ((omega arith, omega arith), ((omega arith, omega arith), tt)),
        ),
        tt,
      ),
    )

names-apart : AllPairs (λ (v w : VarInfo). v.full ≢ w.full) sample_variables
names-apart =
    let apart = λ (v w : VarInfo). v.full ≢ w.full in
    let phi = get_or sample_variables 0 no_variable in
    let on = get_or sample_variables 1 no_variable in
    AllPairs-cons apart phi (on ∷ [])
    (All-from_recursion (apart phi) (on ∷ [])
    ((λ e. absurd (omega (arith, ap (λ (l : List ℕ). length l) e))), tt))
    (pairs-of-one apart on)

pub sample-whole : (a b : Tree) (m n d e : ℕ) → Fits a m d → Fits b n e → m + n ≤ 4000 → d ≤ 32
    → e ≤ 32 → IsWhole (sample a b)
unfolding Rattle.cx_plan.specs.declared.tree.Tree.TheBlock.hidden-the_row-Tree-0
    denote.Hole.Carrier.hidden
sample-whole a b m n d e one two few low high =
    let job = sample a b in
    record {
      shape = whole-shape a b;
      names = names-are;
      names_differ = names-apart;
      one_level = All-from_recursion (λ (v : VarInfo). v.scalar ≡ true → v.levels ≤ 1)
          sample_variables ((λ e. absurd (cc)), ((λ e. omega arith), tt));
      levels_limit = All-from_recursion (λ (v : VarInfo). v.levels ≤ 8) sample_variables
          (omega arith, (omega arith, tt));
      items = items-are a b;
      run_items = λ i k below. item-small a b (get_or (run_items (setup_of job)) i k);
      bins = refl;
      trees = All-from_recursion (IsTree job) job.plan.bins (
        tt,
        (
          tt,
          (
            tt,
            (
              tt,
              (
                one.is a b,
                (tt, (tt, (two.is a b, (tt, (tt, (tt, (tt, (tt, (tt, (tt, (tt, (tt, tt)))))))))))),
              ),
            ),
          ),
        ),
      );
      nodes_limit = omega (arith, one.nodes, two.nodes);
      depth_limit = grind (arith, one.depth, two.depth);
      outputs = All-from_recursion (λ v. IsStored job v 0) (wave ∷ [])
          ((omega arith, omega arith), tt);
      steers = All-nil (IsSteer (setup_of job));
      weight = tt;
      weight_factor = omega arith;
      outputs_rise = pairs-of-one (λ (v w : VarId). v.0 < w.0) wave;
      variables_limit = omega arith;
      itlast_limit = omega arith;
      some_turn = omega arith;
      while_limit = omega arith;
      lead_limit = omega arith;
      some_keep = omega arith;
      keep_limit = omega arith;
      output_least = omega (arith, ints);
      output_limit = omega (arith, ints);
      checkpoint_least = omega (arith, ints);
      checkpoint_limit = omega (arith, ints);
      cells_limit = omega arith;
      key_limit = omega arith;
    }

pub whole-at : (a b s t : Tree) → a ≡ s → b ≡ t → IsWhole (sample s t) → IsWhole (sample a b)
whole-at a b s t first second is =
    subst (λ (x : Tree). IsWhole (sample x b)) (sym first)
    (subst (λ (x : Tree). IsWhole (sample s x)) (sym second) is)

-- the same tree
pub fits-at : (t s : Tree) (n d : ℕ) → t ≡ s → Fits s n d → Fits t n d
fits-at t s n d is fits = subst (λ (x : Tree). Fits x n d) (sym is) fits

-- a job that takes the wave's step, with this before it and that within it
pub step-whole : (first evol one between : Tree) (m d n e : ℕ) → first ≡ Seq (Call 0 ∷ one ∷ [])
    → evol ≡ Seq (Seq (Call 2 ∷ between ∷ []) ∷ Call 3 ∷ []) → Fits one m d → Fits between n e
    → m + n ≤ 1000 → d ≤ 8 → e ≤ 8 → IsWhole (sample first evol)
step-whole first evol one between m d n e at_first at_evol is_one is_between few low high =
    let before = fits-both (Call 0) one 1 m 1 d (fits-call 0 (omega arith)) is_one in
    let moved = fits-both (Call 2) between 1 n 1 e (fits-call 2 (omega arith)) is_between in
    let all = fits-both (Seq (Call 2 ∷ between ∷ [])) (Call 3) (1 + 1 + n) 1 (1 + max 1 e) 1 moved
    (fits-call 3 (omega arith)) in
    whole-at first evol (Seq (Call 0 ∷ one ∷ [])) (Seq (Seq (Call 2 ∷ between ∷ []) ∷ Call 3 ∷ []))
    at_first at_evol
    (sample-whole (Seq (Call 0 ∷ one ∷ [])) (Seq (Seq (Call 2 ∷ between ∷ []) ∷ Call 3 ∷ []))
    (1 + 1 + m) (1 + (1 + 1 + n) + 1) (1 + max 1 d) (1 + max (1 + max 1 e) 1) before all
    (omega (arith, few)) (grind (arith, low)) (grind (arith, high)))

-- a job of WHILEs in one another
pub turns-whole : (first turns evol : Tree) → first ≡ Seq (Call 0 ∷ Call 1 ∷ [])
    → turns ≡ whiles 30 (Call 2) → evol ≡ Seq (turns ∷ Call 1 ∷ []) → IsWhole (sample first evol)
turns-whole first turns evol at_first at_turns at_evol =
    let before = fits-both (Call 0) (Call 1) 1 1 1 1 (fits-call 0 (omega arith))
    (fits-call 1 (omega arith)) in
    let within = fits-at turns (whiles 30 (Call 2)) (30 + 1) (30 + 1) at_turns
    (fits-whiles 30 (Call 2) 1 1 (fits-call 2 (omega arith))) in
    let all = fits-both turns (Call 1) (30 + 1) 1 (30 + 1) 1 within (fits-call 1 (omega arith)) in
    whole-at first evol (Seq (Call 0 ∷ Call 1 ∷ [])) (Seq (turns ∷ Call 1 ∷ [])) at_first at_evol
    (sample-whole (Seq (Call 0 ∷ Call 1 ∷ [])) (Seq (turns ∷ Call 1 ∷ [])) (1 + 1 + 1)
    (1 + (30 + 1) + 1) (1 + max 1 1) (1 + max (30 + 1) 1) before all (omega arith) (omega arith)
    (omega arith))

pub whiles-next : (n : ℕ) (work tree new : Tree) → tree ≡ whiles n work
    → new ≡ While switch (codes "EVOL/w") tree → new ≡ whiles (n + 1) work
whiles-next n work tree new is next =
    let one_more : suc n ≡ n + 1 = omega arith in
    next ∙ ap (λ (t : Tree). While switch (codes "EVOL/w") t) is ∙ ap (λ k. whiles k work) one_more

-- a job that begins the wave, and then does this in each iteration
pub evol-whole : (first evol one two : Tree) (m d n e : ℕ) → first ≡ Seq (Call 0 ∷ Call 1 ∷ [])
    → evol ≡ Seq (one ∷ two ∷ []) → Fits one m d → Fits two n e → m + n ≤ 1000 → d ≤ 8 → e ≤ 8
    → IsWhole (sample first evol)
evol-whole first evol one two m d n e at_first at_evol is_one is_two few low high =
    let before = fits-both (Call 0) (Call 1) 1 1 1 1 (fits-call 0 (omega arith))
    (fits-call 1 (omega arith)) in
    let all = fits-both one two m n d e is_one is_two in
    whole-at first evol (Seq (Call 0 ∷ Call 1 ∷ [])) (Seq (one ∷ two ∷ [])) at_first at_evol
    (sample-whole (Seq (Call 0 ∷ Call 1 ∷ [])) (Seq (one ∷ two ∷ [])) (1 + 1 + 1) (1 + m + n)
    (1 + max 1 1) (1 + max d e) before all (omega (arith, few)) (omega arith)
    (grind (arith, low, high)))
