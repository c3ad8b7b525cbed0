-- Each checkpoint of a run's course fits the job, and has a spelling.
use Rattle.std.proofs.Common.{◌≡◌, ◌∙◌, sym, ap, subst, refl, ℕ, zero, suc, ◌+◌, ◌-◌, ◌*◌, ◌<◌, ◌≤◌, ◌^◌, Bool, true, false, ◌&&◌, ◌==◌, ℤ, pos, negsuc, int_le, List, [], ◌∷◌, ◌++◌, map, length, get_or, replicate, inr, codes, bytes_eq, All, if◌then◌else◌, lt_of_le_of_lt, arith, true≢false, leb-true, eqb-true, SFits, w64}
use Rattle.std.specs.List.{list_all, AllByRecursion}
use Rattle.std.proofs.lemmas.Bool.{eq-eqb}
use Rattle.std.proofs.lemmas.Slice.Eq.{bytes_eq-Decides}
use Rattle.std.proofs.lemmas.List.Elements.{All-head, All-tail}
use Rattle.cx_text.specs.declared.ctype.CType.{CType}
use Rattle.cx_text.specs.declared.ctype.CType.TheVariants.{Char, Byte, Int, Int2, Int4, Int8, Real, Complex}
use Rattle.cx_grid.specs.Boxes.{point_count}
use Rattle.cx_grid.specs.Grid.{whole}
use Rattle.cx_plan.specs.declared.job.Job.{Job}
use Rattle.cx_plan.specs.declared.variable.VarId.{VarId}
use Rattle.cx_plan.specs.declared.variable.VarInfo.{VarInfo}
use Rattle.cx_plan.specs.Dues.{is_due}
use Rattle.cx_plan.specs.Lookups.{variable, no_variable}
use Rattle.cx_plan.specs.Setups.{Setup, setup_of}
use Rattle.cx_plan.specs.Types.{least, greatest}
use Rattle.cx_plan.specs.Whole.{IsWhole, scalar_count, level_count}
use Rattle.cx_rule.specs.Routine.{Rule}
use Rattle.cx_rule.specs.States.{State}
use Rattle.cx_rule.specs.Sweeps.{fits}
use Rattle.cx_model.specs.Checkpoints.{Continues}
use Rattle.cx_model.specs.Runs.{Lengths, greatest_output}
use Rattle.cx_model.specs.Values.{KeepsStates}
use Rattle.cx_chk.specs.declared.checkpoint.Checkpoint.{Checkpoint}
use Rattle.cx_chk.specs.Encoding.{IsLevel, IsWord}
use Rattle.cx_outputs.specs.Names.{output_names, lengths_in}
use Rattle.cx_keep.specs.Fits.{scalars_fit, levels_fit, variables_by, each_fits, holds_value, holds_level, same_texts}
use Rattle.cx_core_buffers.specs.Checkpoints.{total, scalars_in, levels_in}
use Rattle.law_course.specs.Courses.{checkpoint_of, IsPlace, FitsJob, CourseFits}
use Rattle.law_course.proofs.OutputLaws.{IsAmong, count_in, rise_from, few_among, among_all}
use Rattle.law_course.proofs.PlaceLaws.{has_places}
use Rattle.law_course.proofs.StateLaws.{AreStored, is_stored, due_within, fits_each, joined, AreSingles, singles_of, joined_count, scalars_count, levels_count, both_true}
use Rattle.law_course.proofs.TypeLaws.{IsTypedLevel, AreTypedLevels, reached_typed}

-- ---- typed values, one after another

abbrev AreTypedNumbers : CType → List ℤ → Type 0
AreTypedNumbers t level = AllByRecursion (λ n. fits t n ≡ true) level

numbers_typed : (t : CType) (level : List ℤ) → IsTypedLevel t level → AreTypedNumbers t level
numbers_typed t [] is = tt
numbers_typed t (n ∷ ns) is = (is 0, numbers_typed t ns (λ k. is (suc k)))

abbrev AreTypedAll : CType → List (List ℤ) → Type 0
AreTypedAll t levels = AllByRecursion (AreTypedNumbers t) levels

all_typed : (t : CType) (levels : List (List ℤ)) → AreTypedLevels t levels → AreTypedAll t levels
all_typed t [] is = tt
all_typed t (l ∷ ls) is = (numbers_typed t l (is 0), all_typed t ls (λ k. is (suc k)))

abbrev AreTyped : List VarInfo → State → Type 0
AreTyped [] state = Unit {0}
AreTyped (v ∷ vs) [] = Unit {0}
AreTyped (v ∷ vs) (l ∷ state) = AreTypedAll v.ctype l × AreTyped vs state

typed_from : (vs : List VarInfo) (state : State)
    → ((i : ℕ) → AreTypedLevels (get_or vs i no_variable).ctype (get_or state i []))
    → AreTyped vs state
typed_from [] state each = tt
typed_from (v ∷ vs) [] each = tt
typed_from (v ∷ vs) (l ∷ state) each =
    (all_typed v.ctype l (each 0), typed_from vs state (λ i. each (suc i)))

-- ---- each fits

and_true : (a b : Bool) → a ≡ true → b ≡ true → (a && b) ≡ true
and_true a b e f = rw e f

each_both : {A : Type 0} (test : VarInfo → A → Bool) (us vs : List VarInfo) (xs ys : List A)
    → each_fits test us xs ≡ true → each_fits test vs ys ≡ true
    → each_fits test (us ++ vs) (xs ++ ys) ≡ true
each_both test [] vs [] ys one two = two
each_both test [] vs (x ∷ xs) ys one two = absurd (true≢false (sym one))
each_both test (u ∷ us) vs [] ys one two = absurd (true≢false (sym one))
each_both test (u ∷ us) vs (x ∷ xs) ys one two =
    let b = both_true (test u x) (each_fits test us xs) one in
    and_true (test u x) (each_fits test (us ++ vs) (xs ++ ys)) b.0
    (each_both test us vs xs ys b.1 two)

each_same : {A : Type 0} (test : VarInfo → A → Bool) (v : VarInfo) (n : ℕ) (xs : List A)
    → length xs ≡ n → AllByRecursion (λ x. test v x ≡ true) xs
    → each_fits test (replicate n v) xs ≡ true
each_same test v zero [] count all = refl
each_same test v zero (x ∷ xs) count all = absurd (omega (arith, count))
each_same test v (suc n) [] count all = absurd (omega (arith, count))
each_same test v (suc n) (x ∷ xs) count all =
    and_true (test v x) (each_fits test (replicate n v) xs) all.0
    (each_same test v n xs (omega (arith, count)) all.1)

numbers_both : (t : CType) (a b : List ℤ) → AreTypedNumbers t a → AreTypedNumbers t b
    → AreTypedNumbers t (a ++ b)
numbers_both t [] b one two = two
numbers_both t (n ∷ ns) b one two = (one.0, numbers_both t ns b one.1 two)

joined_typed : (t : CType) (levels : List (List ℤ)) → AreTypedAll t levels
    → AreTypedNumbers t (joined levels)
joined_typed t [] all = tt
joined_typed t (l ∷ ls) all = numbers_both t l (joined ls) all.0 (joined_typed t ls all.1)

scalars_one : (v : VarInfo) (scalar : Bool) (l : List (List ℤ)) → length l ≡ v.levels
    → (scalar ≡ true → AreSingles l) → AreTypedAll v.ctype l
    → each_fits holds_value (replicate (if scalar then v.levels else 0) v)
    (if scalar then joined l else []) ≡ true
scalars_one v true l count singles typed =
    each_same holds_value v v.levels (joined l) (joined_count l (singles refl) ∙ count)
    (joined_typed v.ctype l typed)
scalars_one v false l count singles typed = refl

scalars_all : (setup : Setup) (vs : List VarInfo) (state : State) → AreStored setup vs state
    → AreTyped vs state
    → each_fits holds_value (variables_by scalar_count vs) (scalars_in vs state) ≡ true
scalars_all setup [] [] are typed = refl
scalars_all setup [] (l ∷ state) are typed = absurd are
scalars_all setup (v ∷ vs) [] are typed = absurd are
scalars_all setup (v ∷ vs) (l ∷ state) are typed =
    each_both holds_value (replicate (scalar_count v) v) (variables_by scalar_count vs)
    (if v.scalar then joined l else []) (scalars_in vs state)
    (scalars_one v v.scalar l are.0.count (singles_of setup v l are.0) typed.0)
    (scalars_all setup vs state are.1 typed.1)

values_hold : (v : VarInfo) (level : List ℤ) → AreTypedNumbers v.ctype level
    → list_all (holds_value v) level ≡ true
values_hold v [] all = refl
values_hold v (n ∷ ns) all =
    and_true (holds_value v n) (list_all (holds_value v) ns) all.0 (values_hold v ns all.1)

level_holds : (points : ℕ) (v : VarInfo) (level : List ℤ) → length level ≡ points
    → AreTypedNumbers v.ctype level → holds_level points v level ≡ true
level_holds points v level count typed =
    and_true (length level == points) (list_all (holds_value v) level)
    (eq-eqb (length level) points count) (values_hold v level typed)

levels_hold : (points : ℕ) (v : VarInfo) (levels : List (List ℤ))
    → AllByRecursion (λ (level : List ℤ). length level ≡ points) levels → AreTypedAll v.ctype levels
    → AllByRecursion (λ (level : List ℤ). holds_level points v level ≡ true) levels
levels_hold points v [] counts typed = tt
levels_hold points v (l ∷ ls) counts typed =
    (level_holds points v l counts.0 typed.0, levels_hold points v ls counts.1 typed.1)

levels_one : (points : ℕ) (v : VarInfo) (scalar : Bool) (l : List (List ℤ)) → length l ≡ v.levels
    → AllByRecursion (λ (level : List ℤ). length level ≡ (if scalar then 1 else points)) l
    → AreTypedAll v.ctype l
    → each_fits (holds_level points) (replicate (if scalar then 0 else v.levels) v)
    (if scalar then [] else l) ≡ true
levels_one points v true l count numbers typed = refl
levels_one points v false l count numbers typed =
    each_same (holds_level points) v v.levels l count (levels_hold points v l numbers typed)

levels_all : (setup : Setup) (vs : List VarInfo) (state : State) → AreStored setup vs state
    → AreTyped vs state
    → each_fits (holds_level (point_count (whole setup.shape))) (variables_by level_count vs)
    (levels_in vs state) ≡ true
levels_all setup [] [] are typed = refl
levels_all setup [] (l ∷ state) are typed = absurd are
levels_all setup (v ∷ vs) [] are typed = absurd are
levels_all setup (v ∷ vs) (l ∷ state) are typed =
    each_both (holds_level (point_count (whole setup.shape))) (replicate (level_count v) v)
    (variables_by level_count vs) (if v.scalar then [] else l) (levels_in vs state)
    (levels_one (point_count (whole setup.shape)) v v.scalar l are.0.count are.0.numbers typed.0)
    (levels_all setup vs state are.1 typed.1)

-- ---- the widths of a spelling

high_fits : (k h : ℕ) → int_le (pos k) (pos h) ≡ true → h < 2 ^ 63 → SFits w64 (pos k)
high_fits k h e l = record { sfits = lt_of_le_of_lt (leb-true k h e) l }

low_fits : (k h : ℕ) → int_le (negsuc h) (negsuc k) ≡ true → h < 2 ^ 63 → SFits w64 (negsuc k)
low_fits k h e l = record { sfits = lt_of_le_of_lt (leb-true k h e) l }

number_width : (t : CType) (n : ℤ) → int_le (least t) n ≡ true → int_le n (greatest t) ≡ true
    → SFits w64 n
number_width Byte (pos k) low high = high_fits k 255 high (omega arith)
number_width Byte (negsuc k) low high = absurd (true≢false (sym low))
number_width Int2 (pos k) low high = high_fits k (2 ^ 15 - 1) high (omega arith)
number_width Int2 (negsuc k) low high = low_fits k (2 ^ 15 - 1) low (omega arith)
number_width Int4 (pos k) low high = high_fits k (2 ^ 31 - 1) high (omega arith)
number_width Int4 (negsuc k) low high = low_fits k (2 ^ 31 - 1) low (omega arith)
number_width Int8 (pos k) low high = high_fits k (2 ^ 63 - 1) high (omega arith)
number_width Int8 (negsuc k) low high = low_fits k (2 ^ 63 - 1) low (omega arith)
number_width Int (pos k) low high = high_fits k (2 ^ 63 - 1) high (omega arith)
number_width Int (negsuc k) low high = low_fits k (2 ^ 63 - 1) low (omega arith)
number_width Char (pos k) low high = high_fits k (2 ^ 63 - 1) high (omega arith)
number_width Char (negsuc k) low high = low_fits k (2 ^ 63 - 1) low (omega arith)
number_width Real (pos k) low high = high_fits k (2 ^ 63 - 1) high (omega arith)
number_width Real (negsuc k) low high = low_fits k (2 ^ 63 - 1) low (omega arith)
number_width Complex (pos k) low high = high_fits k (2 ^ 63 - 1) high (omega arith)
number_width Complex (negsuc k) low high = low_fits k (2 ^ 63 - 1) low (omega arith)

value_width : (v : VarInfo) (n : ℤ) → holds_value v n ≡ true → SFits w64 n
value_width v n e = let b = both_true (int_le (least v.ctype) n) (int_le n (greatest v.ctype)) e in
    number_width v.ctype n b.0 b.1

values_width : (v : VarInfo) (level : List ℤ) → list_all (holds_value v) level ≡ true
    → AllByRecursion (SFits w64) level
values_width v [] e = tt
values_width v (n ∷ ns) e = let b = both_true (holds_value v n) (list_all (holds_value v) ns) e in
    (value_width v n b.0, values_width v ns b.1)

wide : (n m : ℕ) → n ≡ m → m ≤ 2 ^ 24 → n < 2 ^ 64
wide n m e l = omega (arith, e, l)

level_width : (points : ℕ) → points ≤ 2 ^ 24 → (v : VarInfo) (level : List ℤ)
    → holds_level points v level ≡ true → IsLevel level
level_width points few v level e =
    let b = both_true (length level == points) (list_all (holds_value v) level) e in
    (wide (length level) points (eqb-true (length level) points b.0) few, values_width v level b.1)

sum_most : (a t l : ℕ) → a ≤ 8 → t ≤ 8 * l → a + t ≤ 8 * suc l
sum_most a t l h k = omega (arith, h, k)

scalar_most : (b : Bool) (n : ℕ) → n ≤ 8 → (if b then n else 0) ≤ 8
scalar_most true n h = h
scalar_most false n h = omega arith

level_most : (b : Bool) (n : ℕ) → n ≤ 8 → (if b then 0 else n) ≤ 8
level_most true n h = omega arith
level_most false n h = h

total_most : (count : VarInfo → ℕ) → ((v : VarInfo) → v.levels ≤ 8 → count v ≤ 8)
    → (vs : List VarInfo) → All (λ (v : VarInfo). v.levels ≤ 8) vs → total count vs ≤ 8 * length vs
total_most count each [] all = omega arith
total_most count each (v ∷ vs) all =
    sum_most (count v) (total count vs) (length vs)
    (each v (All-head (λ (w : VarInfo). w.levels ≤ 8) v vs all))
    (total_most count each vs (All-tail (λ (w : VarInfo). w.levels ≤ 8) v vs all))

few_of : (n t l : ℕ) → n ≡ t → t ≤ 8 * l → l ≤ 256 → n < 2 ^ 32
few_of n t l e h k = omega (arith, e, h, k)

turns_few : (i most : ℕ) → i ≤ most → most ≤ 1000000 → i < 2 ^ 64
turns_few i most h l = omega (arith, h, l)

output_few : (n : ℕ) → n ≤ greatest_output → n < 2 ^ 64
output_few n h = omega (arith, h)

-- ---- the outputs

texts_same : (ts : List (List ℕ)) → same_texts ts ts ≡ true
texts_same [] = refl
texts_same (t ∷ ts) =
    and_true (bytes_eq t t) (same_texts ts ts) ((bytes_eq-Decides t t).1 refl) (texts_same ts)

words_few : (vs : List VarId) (so_far : Lengths) → ((v : ℕ) → so_far v ≤ greatest_output)
    → AllByRecursion IsWord (lengths_in vs so_far)
words_few [] so_far small = tt
words_few (v ∷ vs) so_far small = (output_few (so_far v.0) (small v.0), words_few vs so_far small)

count_named : (setup : Setup) (vs : List VarId) (so_far : Lengths)
    → length (map (λ (v : VarId). (variable setup v).full ++ codes ".asc") vs)
    ≡ length (lengths_in vs so_far)
count_named setup [] so_far = refl
count_named setup (v ∷ vs) so_far = ap suc (count_named setup vs so_far)

pub stored_outputs : (job : Job) → IsWhole job → (v : VarId) → IsAmong job.out_vars v
    → v.0 < length job.vars
stored_outputs job job_is v there =
    among_all (λ (n : ℕ). n < length job.vars) job.out_vars
    (λ k d within. (job_is.outputs k d within).0) v there

few_outputs : (job : Job) → IsWhole job → (so_far : Lengths)
    → length (lengths_in job.out_vars so_far) < 2 ^ 32
few_outputs job job_is so_far =
    let few = few_among (length job.vars) job.out_vars
    (rise_from job.out_vars job_is.outputs_rise) (stored_outputs job job_is) in
    let many = count_in job.out_vars so_far in
    let limit = job_is.variables_limit in
    omega (arith, few, many, limit)

-- ---- a checkpoint of the course

module _ (job : Job) (job_is : IsWhole job) (rules : List Rule)
    (laws : Continues (setup_of job) rules) (keeps : KeepsStates (setup_of job) rules) where
  place_fits : (c : Checkpoint) (p : IsPlace (setup_of job) job.key rules c)
      → FitsJob job (checkpoint_of (setup_of job) job.key c.iteration p.state p.so_far)
  place_fits c p =
      let setup = setup_of job in
      let points = point_count (whole job.shape) in
      let are = is_stored setup p.state
      (keeps.reached c.iteration p.state p.so_far p.reached) in
      let typed = typed_from job.vars p.state
      (reached_typed setup rules c.iteration p.state p.so_far p.reached) in
      let due = laws.due c.iteration p.state p.so_far p.reached in
      let scalars = scalars_all setup job.vars p.state are typed in
      let levels = levels_all setup job.vars p.state are typed in
      record {
        key = refl;
        fits = and_true (is_due setup c.iteration) _ due
            (and_true (same_texts (output_names setup) (output_names setup)) _
            (texts_same (output_names setup))
            (and_true (scalars_fit job.vars (scalars_in job.vars p.state))
            (levels_fit points job.vars (levels_in job.vars p.state)) scalars levels));
        in_range = λ short. record {
          version = inr (refl, count_named setup job.out_vars p.so_far, short);
          iteration = turns_few c.iteration job.itlast (due_within setup c.iteration due)
              job_is.itlast_limit;
          key = job_is.key_limit;
          lengths = (
            few_outputs job job_is p.so_far,
            words_few job.out_vars p.so_far
                (laws.within c.iteration p.state p.so_far p.reached),
          );
          scalars = (
            few_of (length (scalars_in job.vars p.state)) (total scalar_count job.vars)
                (length job.vars) (scalars_count setup job.vars p.state are)
                (total_most scalar_count (λ v h. scalar_most v.scalar v.levels h)
                job.vars job_is.levels_limit) job_is.variables_limit,
            fits_each holds_value (SFits w64) value_width (variables_by scalar_count job.vars)
                (scalars_in job.vars p.state) scalars,
          );
          levels = (
            few_of (length (levels_in job.vars p.state)) (total level_count job.vars)
                (length job.vars) (levels_count setup job.vars p.state are)
                (total_most level_count (λ v h. level_most v.scalar v.levels h)
                job.vars job_is.levels_limit) job_is.variables_limit,
            fits_each (holds_level points) IsLevel (level_width points job_is.shape.few)
                (variables_by level_count job.vars) (levels_in job.vars p.state) levels,
          );
        };
      }

  pub course_fits : CourseFits job rules
  course_fits c h =
      let p : IsPlace (setup_of job) job.key rules c =
      (has_places (setup_of job) rules laws job.key).places c h in
      subst (FitsJob job) (sym p.packed) (place_fits c p)
