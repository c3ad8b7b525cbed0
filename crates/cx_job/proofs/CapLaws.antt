-- The largest part of a cut, and the objects that sweep it.
use Rattle.std.proofs.Common.{◌≡◌, refl, ap, sym, subst, ◌∙◌, ℕ, zero, suc, ◌+◌, ◌<◌, ◌≤◌, ◌^◌, Bool, true, false, nat_lt, ltb-false, List, [], ◌∷◌, length, map, take, get_or, Option, Some, None, option_map, if◌then◌else◌, arith, zero-add, ℤ, pos, ◌+ℤ◌, ◌≤ℤ◌, ◌<ℤ◌}
use Rattle.std.specs.Prelude.{All, fold, max}
use Rattle.std.specs.List.{range_with_len}
use Rattle.std.proofs.lemmas.Int.{ints}
use Rattle.std.proofs.lemmas.List.{length-take, get_or-take}
use Rattle.std.proofs.lemmas.List.FromFn.{get_or-range_with_len, length-range_with_len}
use Rattle.std.proofs.lemmas.List.Sums.{fold-append}
use Rattle.std.proofs.lemmas.Option.{slice_get-map, slice_get_read}
use Rattle.cx_grid.specs.Boxes.{point_count}
use Rattle.cx_plan.specs.Lookups.{item, no_item}
use Rattle.cx_plan.specs.Regions.{run_items}
use Rattle.cx_plan.specs.Setups.{setup_of}
use Rattle.cx_plan.specs.declared.item.Item.{Item}
use Rattle.cx_plan.specs.declared.job.Job.{Job}
use Rattle.cx_cut.specs.Cuts.{Parts, IsWhole, part_count, owned, local}
use Rattle.cx_cut.specs.Faults.{parts_of}
use Rattle.cx_rule.specs.Jobs.{HasRoutine, FitItem, FitJob}
use Rattle.cx_rule.specs.declared.spec.Spec.{Spec}
use Rattle.cx_rule.proofs.CutParts.{part_is}
use Rattle.cx_rule.proofs.PartLaws.{local_small}
use Rattle.cx_job_values.proofs.NoneLaws.{some_none}
use Rattle.cx_job.specs.Caps.{part_points, greatest_part, too_large, cap_fault, caps_fault}
use Rattle.cx_job.specs.JobLimits.{run_count}
use Rattle.cx_job.specs.LocalCells.{greatest}
use Rattle.cx_job.specs.declared.fault.JobFault.{JobFault}
use Rattle.cx_job.specs.declared.fault.JobFault.TheVariants.{TooLarge}
use Rattle.cx_job.proofs.LineLaws.{numbers_more}
use Rattle.cx_job.proofs.MeantLaws.{all_none}
use Rattle.cx_text.specs.Numbers.{in_64_bits}

-- ---- the points of a part

held_all : (n : ℕ) → n < 2 ^ 32 → in_64_bits n ≡ n
held_all n l = omega (arith, l)

-- they fit in 64 bits
pub held_part : (c : Parts) (k : ℕ) → IsWhole c → k < part_count c
    → in_64_bits (part_points c k) ≡ part_points c k
held_part c k w l = held_all (part_points c k)
    (local_small c.shape (owned c k) (local c k) (part_is c w k l))

-- ---- the greatest number of some

-- of one part more
pub greatest_more : (f : ℕ → ℕ) (n most : ℕ) → most ≡ greatest f (range_with_len 0 n)
    → max most (f n) ≡ greatest f (range_with_len 0 (n + 1))
greatest_more f n most is =
    ap (λ m. max m (f n)) is
    ∙ sym (fold-append (λ m k. max m (f k)) 0 (range_with_len 0 n) (n ∷ []))
    ∙ ap (greatest f) (sym (numbers_more n))

greatest_from : {X : Type 0} (f : X → ℕ) (a : ℕ) (xs : List X) → a ≤ fold (λ n x. max n (f x)) a xs
greatest_from f a [] = omega arith
greatest_from f a (x ∷ xs) = (let more = greatest_from f (max a (f x)) xs in omega (arith, more))

among_from : {X : Type 0} (f : X → ℕ) (a : ℕ) (xs : List X) (i : ℕ) (d : X) → i < length xs
    → f (get_or xs i d) ≤ fold (λ n x. max n (f x)) a xs
among_from f a [] i d l = absurd (omega (arith, l))
among_from f a (x ∷ xs) zero d l =
    (let more = greatest_from f (max a (f x)) xs in omega (arith, more))
among_from f a (x ∷ xs) (suc i) d l = among_from f (max a (f x)) xs i d (omega (arith, l))

-- no part has more points
pub part_within : (c : Parts) (k : ℕ) → k < part_count c → point_count (local c k) ≤ greatest_part c
part_within c k l =
    let n = part_count c in
    let long = length-range_with_len 0 n in
    subst (λ j. part_points c j ≤ greatest_part c) (get_or-range_with_len 0 n k 0 l ∙ zero-add k)
    (among_from (part_points c) 0 (range_with_len 0 n) k 0 (omega (arith, long, l)))

-- ---- objects

-- an item with this object
pub its_object : {X : Type 0} (specs : List X) (f : X → Spec) (points : ℕ) (x : Item) (s : X)
    → x.routine < length specs → s ≡ get_or specs x.routine s
    → cap_fault (map f specs) points x ≡ too_large points x.path (Some (f s))
its_object specs f points x s there is =
    ap (too_large points x.path)
    (slice_get-map f specs x.routine
    ∙ ap (option_map f) (slice_get_read specs (length specs) x.routine s refl there is))

not_large : (points : ℕ) (path : List ℕ) (s : Spec) → too_large points path (Some s) ≡ None
    → points ≤ s.cap
not_large points path s none = by (nat_lt s.cap points) refl none
  where
    by : (b : Bool) → nat_lt s.cap points ≡ b
        → (if b then Some (TooLarge path points s.cap) else None) ≡ None → points ≤ s.cap
    by true e none = some_none none
    by false e none = ltb-false s.cap points e

at_most : (a b c : ℕ) → a ≤ b → b ≤ c → a ≤ c
at_most a b c l m = omega (arith, l, m)

item_fits : (specs : List Spec) (c : Parts) (x : Item) → HasRoutine specs x
    → cap_fault specs (greatest_part c) x ≡ None → FitItem specs c x
item_fits specs c x has none =
    let few = not_large (greatest_part c) x.path has.spec
    (subst (λ o. too_large (greatest_part c) x.path o ≡ None) has.object none) in
    record {
      routine = has;
      parts = λ k l. at_most (point_count (local c k)) (greatest_part c) has.spec.cap
          (part_within c k l) few;
    }

-- ---- jobs

-- the item of a number has its object, and is one of the first, which are run
pub record IsRunWith (specs : List Spec) (job : Job) (k : ℕ) : Type 0 where
  pub routine : HasRoutine specs (item (setup_of job) k)
  pub run : k < run_count job.plan
  pub there : k < length job.items

-- the objects sweep each part where none is too large
pub job_fits : (specs : List Spec) (job : Job)
    → All (IsRunWith specs job) (run_items (setup_of job)) → caps_fault specs job ≡ None
    → FitJob specs job
job_fits specs job has none i d within =
    let k : ℕ = get_or (run_items (setup_of job)) i d in
    let h : IsRunWith specs job k = has i d within in
    let low = h.run in
    let there = h.there in
    let run = run_count job.plan in
    let c = parts_of job.shape job.cut in
    let f : Item → Option JobFault = cap_fault specs (greatest_part c) in
    let long = length-take run job.items in
    let at : get_or (take run job.items) k no_item ≡ get_or job.items k no_item =
    get_or-take run job.items k no_item low in
    item_fits specs c (item (setup_of job) k) h.routine
    (subst (λ x. f x ≡ None) at
    (all_none f (take run job.items) none k no_item (omega (arith, long, low, there))))
