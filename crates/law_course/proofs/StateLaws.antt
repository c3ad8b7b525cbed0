-- Whole states and the checkpoints that hold them.
use Rattle.std.proofs.Common.{◌≡◌, ℕ, zero, suc, ◌+◌, ◌-◌, ◌<◌, ◌≤◌, refl, sym, ap, ap₂, ◌∙◌, subst, Bool, true, false, ◌&&◌, ◌==◌, nat_le, ℤ, List, [], ◌∷◌, ◌++◌, map, length, length-append, take, drop, get_or, replicate, take-append-drop, append_assoc, append-nil, zero-add, if◌then◌else◌, arith, true≢false, eqb-true, leb-true}
use Rattle.std.specs.List.{flat_map, AllByRecursion}
use Rattle.std.proofs.lemmas.List.{take_at, drop_at, length-map, length-replicate, length-take-le, length-drop}
use Rattle.std.proofs.lemmas.List.Elements.{All-from_recursion}
use Rattle.cx_grid.specs.Boxes.{point_count}
use Rattle.cx_grid.specs.Grid.{whole}
use Rattle.cx_plan.specs.declared.job.Job.{Job}
use Rattle.cx_plan.specs.declared.variable.VarInfo.{VarInfo}
use Rattle.cx_plan.specs.Dues.{is_due}
use Rattle.cx_plan.specs.Lookups.{no_variable}
use Rattle.cx_plan.specs.Setups.{Setup, setup_of}
use Rattle.cx_rule.specs.States.{State}
use Rattle.cx_model.specs.States.{IsState, number_count}
use Rattle.cx_model.specs.Runs.{Lengths}
use Rattle.cx_outputs.specs.Names.{output_names, lengths_in}
use Rattle.cx_keep.specs.Fits.{scalars_fit, levels_fit, variables_by, each_fits, holds_value, holds_level, outputs_fit}
use Rattle.cx_core_buffers.specs.Checkpoints.{total, state_from, scalars_in, levels_in, HoldsState}
use Rattle.law_course.specs.Courses.{checkpoint_of, StatesUnpack, StatesPackAgain}
use Rattle.law_course.specs.Beginnings.{FittingCanBegin}
use Rattle.cx_plan.specs.Whole.{scalar_count, level_count}

-- ---- states variable by variable

-- the stored levels of a variable
pub record AreLevels (setup : Setup) (v : VarInfo) (levels : List (List ℤ)) : Type 0 where
  pub count : length levels ≡ v.levels
  pub numbers : AllByRecursion (λ (level : List ℤ). length level ≡ number_count setup v) levels

abbrev pub AreStored : Setup → List VarInfo → State → Type 0
AreStored setup [] [] = Unit {0}
AreStored setup [] (l ∷ state) = ⊥
AreStored setup (v ∷ vs) [] = ⊥
AreStored setup (v ∷ vs) (l ∷ state) = AreLevels setup v l × AreStored setup vs state

each_from : (n : ℕ) (levels : List (List ℤ))
    → ((k : ℕ) → k < length levels → length (get_or levels k []) ≡ n)
    → AllByRecursion (λ (level : List ℤ). length level ≡ n) levels
each_from n [] each = tt
each_from n (l ∷ ls) each =
    (each 0 (omega arith), each_from n ls (λ k h. each (suc k) (omega (arith, h))))

each_at : (n : ℕ) (levels : List (List ℤ))
    → AllByRecursion (λ (level : List ℤ). length level ≡ n) levels
    → (k : ℕ) → k < length levels → length (get_or levels k []) ≡ n
each_at n [] each k h = absurd (omega (arith, h))
each_at n (l ∷ ls) each zero h = each.0
each_at n (l ∷ ls) each (suc k) h = each_at n ls each.1 k (omega (arith, h))

stored_from : (setup : Setup) (vs : List VarInfo) (state : State) → length state ≡ length vs
    → ((i : ℕ) → i < length vs → AreLevels setup (get_or vs i no_variable) (get_or state i []))
    → AreStored setup vs state
stored_from setup [] [] count each = tt
stored_from setup [] (l ∷ state) count each = absurd (omega (arith, count))
stored_from setup (v ∷ vs) [] count each = absurd (omega (arith, count))
stored_from setup (v ∷ vs) (l ∷ state) count each = (
  each 0 (omega arith),
  stored_from setup vs state (omega (arith, count))
      (λ i h. each (suc i) (omega (arith, h))),
)

stored_count : (setup : Setup) (vs : List VarInfo) (state : State) → AreStored setup vs state
    → length state ≡ length vs
stored_count setup [] [] are = refl
stored_count setup [] (l ∷ state) are = absurd are
stored_count setup (v ∷ vs) [] are = absurd are
stored_count setup (v ∷ vs) (l ∷ state) are = ap suc (stored_count setup vs state are.1)

stored_at : (setup : Setup) (vs : List VarInfo) (state : State) → AreStored setup vs state
    → (i : ℕ) → i < length vs → AreLevels setup (get_or vs i no_variable) (get_or state i [])
stored_at setup [] state are i h = absurd (omega (arith, h))
stored_at setup (v ∷ vs) [] are i h = absurd are
stored_at setup (v ∷ vs) (l ∷ state) are zero h = are.0
stored_at setup (v ∷ vs) (l ∷ state) are (suc i) h =
    stored_at setup vs state are.1 i (omega (arith, h))

pub is_stored : (setup : Setup) (state : State) → IsState setup state
    → AreStored setup setup.vars state
is_stored setup state is =
    stored_from setup setup.vars state is.vars
    (λ i h. record {
      count = is.levels (record { 0 = i }) h;
      numbers = each_from (number_count setup (get_or setup.vars i no_variable)) (get_or state i [])
          (λ k l. is.numbers (record { 0 = i }) k h
          (subst (λ n. k < n) (is.levels (record { 0 = i }) h) l));
    })

pub is_state : (setup : Setup) (state : State) → AreStored setup setup.vars state
    → IsState setup state
is_state setup state are =
    record {
      vars = stored_count setup setup.vars state are;
      levels = λ v h. (stored_at setup setup.vars state are v.0 h).count;
      numbers = λ v level h l.
          let s = stored_at setup setup.vars state are v.0 h in
          each_at (number_count setup (get_or setup.vars v.0 no_variable)) (get_or state v.0 [])
          s.numbers level (subst (λ n. level < n) (sym s.count) l);
    }

-- ---- packed and unpacked

abbrev single : ℤ → List ℤ
single n = n ∷ []

abbrev pub joined : List (List ℤ) → List ℤ
joined levels = flat_map (λ (level : List ℤ). level) levels

abbrev pub AreSingles : List (List ℤ) → Type 0
AreSingles levels = AllByRecursion (λ (level : List ℤ). length level ≡ 1) levels

one_number : (l : List ℤ) → length l ≡ 1 → (n : ℤ) × (l ≡ n ∷ [])
one_number [] e = absurd (omega (arith, e))
one_number (n ∷ []) e = (n, refl)
one_number (n ∷ m ∷ l) e = absurd (omega (arith, e))

joined_singles : (levels : List (List ℤ)) → AreSingles levels → map single (joined levels) ≡ levels
joined_singles [] are = refl
joined_singles (l ∷ ls) are =
    let o = one_number l are.0 in
    ap (λ (x : List ℤ). map single (x ++ joined ls)) o.1
    ∙ ap₂ (λ (x : List ℤ) (xs : List (List ℤ)). x ∷ xs) (sym o.1) (joined_singles ls are.1)

pub joined_count : (levels : List (List ℤ)) → AreSingles levels
    → length (joined levels) ≡ length levels
joined_count [] are = refl
joined_count (l ∷ ls) are =
    let o = one_number l are.0 in
    ap (λ (x : List ℤ). length (x ++ joined ls)) o.1 ∙ ap suc (joined_count ls are.1)

-- one variable, whose scalars and levels stand in front of others
unpack_one : (scalar : Bool) (n : ℕ) (vs : List VarInfo) (l : List (List ℤ)) (state : State)
    (ms : List ℤ) (ls : List (List ℤ))
    → length l ≡ n → (scalar ≡ true → AreSingles l) → state_from vs ms ls ≡ state
    → (if scalar
    then map single (take n ((if scalar then joined l else []) ++ ms))
    ∷ state_from vs (drop n ((if scalar then joined l else []) ++ ms))
    ((if scalar then [] else l) ++ ls)
    else take n ((if scalar then [] else l) ++ ls)
    ∷ state_from vs ((if scalar then joined l else []) ++ ms)
    (drop n ((if scalar then [] else l) ++ ls)))
    ≡ l ∷ state
unpack_one true n vs l state ms ls count singles rest =
    let c = joined_count l (singles refl) ∙ count in
    ap₂ (λ (x : List (List ℤ)) (xs : State). x ∷ xs)
    (ap (map single) (take_at (joined l) ms n c) ∙ joined_singles l (singles refl))
    (ap (λ (x : List ℤ). state_from vs x ls) (drop_at (joined l) ms n c) ∙ rest)
unpack_one false n vs l state ms ls count singles rest =
    ap₂ (λ (x : List (List ℤ)) (xs : State). x ∷ xs)
    (take_at l ls n count) (ap (state_from vs ms) (drop_at l ls n count) ∙ rest)

pub singles_of : (setup : Setup) (v : VarInfo) (l : List (List ℤ)) → AreLevels setup v l
    → v.scalar ≡ true → AreSingles l
singles_of setup v l are e =
    subst (λ (n : ℕ). AllByRecursion (λ (level : List ℤ). length level ≡ n) l)
    (ap (λ (b : Bool). if b then 1 else point_count (whole setup.shape)) e) are.numbers

unpacked : (setup : Setup) (vs : List VarInfo) (state : State) (ms : List ℤ) (ls : List (List ℤ))
    → AreStored setup vs state
    → state_from vs (scalars_in vs state ++ ms) (levels_in vs state ++ ls) ≡ state
unpacked setup [] [] ms ls are = refl
unpacked setup [] (l ∷ state) ms ls are = absurd are
unpacked setup (v ∷ vs) [] ms ls are = absurd are
unpacked setup (v ∷ vs) (l ∷ state) ms ls are =
    ap₂ (state_from (v ∷ vs))
    (append_assoc (if v.scalar then joined l else []) (scalars_in vs state) ms)
    (append_assoc (if v.scalar then [] else l) (levels_in vs state) ls)
    ∙ unpack_one v.scalar v.levels vs l state (scalars_in vs state ++ ms) (levels_in vs state ++ ls)
    are.0.count
    (singles_of setup v l are.0) (unpacked setup vs state ms ls are.1)

unpacked_all : (setup : Setup) (vs : List VarInfo) (state : State) → AreStored setup vs state
    → state_from vs (scalars_in vs state) (levels_in vs state) ≡ state
unpacked_all setup vs state are =
    ap₂ (state_from vs) (sym (append-nil (scalars_in vs state)))
    (sym (append-nil (levels_in vs state))) ∙ unpacked setup vs state [] [] are

-- ---- how many

added : (a b c d : ℕ) → a ≡ c → b ≡ d → a + b ≡ c + d
added a b c d e f = ap₂ (λ (x y : ℕ). x + y) e f

scalars_of_one : (scalar : Bool) (n : ℕ) (l : List (List ℤ)) → length l ≡ n
    → (scalar ≡ true → AreSingles l)
    → length (if scalar then joined l else []) ≡ (if scalar then n else 0)
scalars_of_one true n l count singles = joined_count l (singles refl) ∙ count
scalars_of_one false n l count singles = refl

levels_of_one : (scalar : Bool) (n : ℕ) (l : List (List ℤ)) → length l ≡ n
    → length (if scalar then [] else l) ≡ (if scalar then 0 else n)
levels_of_one true n l count = refl
levels_of_one false n l count = count

pub scalars_count : (setup : Setup) (vs : List VarInfo) (state : State) → AreStored setup vs state
    → length (scalars_in vs state) ≡ total scalar_count vs
scalars_count setup [] [] are = refl
scalars_count setup [] (l ∷ state) are = absurd are
scalars_count setup (v ∷ vs) [] are = absurd are
scalars_count setup (v ∷ vs) (l ∷ state) are =
    length-append (if v.scalar then joined l else []) (scalars_in vs state)
    ∙ added _ _ _ _ (scalars_of_one v.scalar v.levels l are.0.count (singles_of setup v l are.0))
    (scalars_count setup vs state are.1)

pub levels_count : (setup : Setup) (vs : List VarInfo) (state : State) → AreStored setup vs state
    → length (levels_in vs state) ≡ total level_count vs
levels_count setup [] [] are = refl
levels_count setup [] (l ∷ state) are = absurd are
levels_count setup (v ∷ vs) [] are = absurd are
levels_count setup (v ∷ vs) (l ∷ state) are =
    length-append (if v.scalar then [] else l) (levels_in vs state)
    ∙ added _ _ _ _ (levels_of_one v.scalar v.levels l are.0.count)
    (levels_count setup vs state are.1)

abbrev pub HavePoints : ℕ → List (List ℤ) → Type 0
HavePoints n levels = AllByRecursion (λ (level : List ℤ). length level ≡ n) levels

points_both : (n : ℕ) (a b : List (List ℤ)) → HavePoints n a → HavePoints n b
    → HavePoints n (a ++ b)
points_both n [] b one two = two
points_both n (l ∷ ls) b one two = (one.0, points_both n ls b one.1 two)

points_of_one : (scalar : Bool) (n : ℕ) (l : List (List ℤ)) → HavePoints (if scalar then 1 else n) l
    → HavePoints n (if scalar then [] else l)
points_of_one true n l have = tt
points_of_one false n l have = have

pub levels_points : (setup : Setup) (vs : List VarInfo) (state : State) → AreStored setup vs state
    → HavePoints (point_count (whole setup.shape)) (levels_in vs state)
levels_points setup [] state are = tt
levels_points setup (v ∷ vs) [] are = absurd are
levels_points setup (v ∷ vs) (l ∷ state) are =
    points_both (point_count (whole setup.shape)) (if v.scalar then [] else l) (levels_in vs state)
    (points_of_one v.scalar (point_count (whole setup.shape)) l are.0.numbers)
    (levels_points setup vs state are.1)

pub packed_holds : (setup : Setup) (key : List ℕ) (iteration : ℕ) (state : State)
    (so_far : Lengths) → AreStored setup setup.vars state
    → HoldsState setup (checkpoint_of setup key iteration state so_far)
packed_holds setup key iteration state so_far are =
    record {
      scalars = scalars_count setup setup.vars state are;
      levels = levels_count setup setup.vars state are;
      points = All-from_recursion
          (λ (level : List ℤ). length level ≡ point_count (whole setup.shape))
          (levels_in setup.vars state) (levels_points setup setup.vars state are);
    }

pub states_unpack : (setup : Setup) → StatesUnpack setup
states_unpack setup key iteration state so_far is =
    let are = is_stored setup state is in
    record {
      state_is = unpacked_all setup setup.vars state are;
      holds = packed_holds setup key iteration state so_far are;
    }

-- ---- unpacked and packed again

left_of : (d l n m : ℕ) → d ≡ l - n → l ≡ n + m → d ≡ m
left_of d l n m e f = omega (arith, e, f)

joined_again : (ms : List ℤ) → joined (map single ms) ≡ ms
joined_again [] = refl
joined_again (m ∷ ms) = ap (λ (xs : List ℤ). m ∷ xs) (joined_again ms)

none_left : {A : Type 0} (xs : List A) → length xs ≡ 0 → [] ≡ xs
none_left [] e = refl
none_left (x ∷ xs) e = absurd (omega (arith, e))

abbrev IsPacked : List VarInfo → List ℤ → List (List ℤ) → State → Type 0
IsPacked vs ms ls state = (scalars_in vs state ≡ ms) × (levels_in vs state ≡ ls)

pack_one : (v : VarInfo) (vs : List VarInfo) (scalar : Bool) → v.scalar ≡ scalar
    → (ms : List ℤ) (ls : List (List ℤ))
    → length ms ≡ (if scalar then v.levels else 0) + total scalar_count vs
    → length ls ≡ (if scalar then 0 else v.levels) + total level_count vs
    → ((ns : List ℤ) (ks : List (List ℤ)) → length ns ≡ total scalar_count vs
    → length ks ≡ total level_count vs → IsPacked vs ns ks (state_from vs ns ks))
    → IsPacked (v ∷ vs) ms ls
    (if scalar then map single (take v.levels ms) ∷ state_from vs (drop v.levels ms) ls
    else take v.levels ls ∷ state_from vs ms (drop v.levels ls))
pack_one v vs true e ms ls count counts again =
    let xs = map single (take v.levels ms) in
    let state = state_from vs (drop v.levels ms) ls in
    let rest = again (drop v.levels ms) ls
    (left_of (length (drop v.levels ms)) (length ms) v.levels (total scalar_count vs)
    (length-drop v.levels ms) count)
    (counts ∙ zero-add (total level_count vs)) in (
      ap (λ (b : Bool). (if b then joined xs else []) ++ scalars_in vs state) e
          ∙ ap₂ (λ (a b : List ℤ). a ++ b) (joined_again (take v.levels ms)) rest.0
          ∙ take-append-drop v.levels ms,
      ap (λ (b : Bool). (if b then [] else xs) ++ levels_in vs state) e ∙ rest.1,
    )
pack_one v vs false e ms ls count counts again =
    let xs = take v.levels ls in
    let state = state_from vs ms (drop v.levels ls) in
    let rest = again ms (drop v.levels ls) (count ∙ zero-add (total scalar_count vs))
    (left_of (length (drop v.levels ls)) (length ls) v.levels (total level_count vs)
    (length-drop v.levels ls) counts) in (
      ap (λ (b : Bool). (if b then joined xs else []) ++ scalars_in vs state) e ∙ rest.0,
      ap (λ (b : Bool). (if b then [] else xs) ++ levels_in vs state) e
          ∙ ap (λ (b : List (List ℤ)). take v.levels ls ++ b) rest.1 ∙ take-append-drop v.levels ls,
    )

packed_again : (vs : List VarInfo) (ms : List ℤ) (ls : List (List ℤ))
    → length ms ≡ total scalar_count vs → length ls ≡ total level_count vs
    → IsPacked vs ms ls (state_from vs ms ls)
packed_again [] ms ls count counts = (none_left ms count, none_left ls counts)
packed_again (v ∷ vs) ms ls count counts =
    pack_one v vs v.scalar refl ms ls count counts (λ ns ks c d. packed_again vs ns ks c d)

pub states_pack_again : (setup : Setup) → StatesPackAgain setup
states_pack_again setup c so_far holds second named lengths =
    let p = packed_again setup.vars c.scalars c.levels holds.scalars holds.levels in
    ap (λ (n : ℕ). record c { version = n }) second
    ∙ ap (λ (ns : List (List ℕ)). record c { version = 2; names = ns }) named
    ∙ ap (λ (ls : List ℕ). record c { version = 2; names = output_names setup; lengths = ls })
    lengths
    ∙ ap₂ (λ (ms : List ℤ) (ls : List (List ℤ)).
    record {
      version = 2;
      iteration = c.iteration;
      key = c.key;
      names = output_names setup;
      lengths = lengths_in setup.out_vars so_far;
      scalars = ms;
      levels = ls;
    })
    (sym p.0) (sym p.1)

-- ---- a checkpoint that fits

pub both_true : (a b : Bool) → (a && b) ≡ true → (a ≡ true) × (b ≡ true)
both_true true b e = (refl, e)
both_true false b e = absurd (true≢false (sym e))

fits_count : {A : Type 0} (test : VarInfo → A → Bool) (vs : List VarInfo) (xs : List A)
    → each_fits test vs xs ≡ true → length xs ≡ length vs
fits_count test [] [] e = refl
fits_count test [] (x ∷ xs) e = absurd (true≢false (sym e))
fits_count test (v ∷ vs) [] e = absurd (true≢false (sym e))
fits_count test (v ∷ vs) (x ∷ xs) e =
    ap suc (fits_count test vs xs (both_true (test v x) (each_fits test vs xs) e).1)

pub fits_each : {A : Type 0} (test : VarInfo → A → Bool) (P : A → Type 0)
    → ((v : VarInfo) (x : A) → test v x ≡ true → P x)
    → (vs : List VarInfo) (xs : List A) → each_fits test vs xs ≡ true → AllByRecursion P xs
fits_each test P each [] [] e = tt
fits_each test P each [] (x ∷ xs) e = absurd (true≢false (sym e))
fits_each test P each (v ∷ vs) [] e = absurd (true≢false (sym e))
fits_each test P each (v ∷ vs) (x ∷ xs) e =
    let b = both_true (test v x) (each_fits test vs xs) e in
    (each v x b.0, fits_each test P each vs xs b.1)

by_count : (count : VarInfo → ℕ) (vs : List VarInfo)
    → length (variables_by count vs) ≡ total count vs
by_count count [] = refl
by_count count (v ∷ vs) =
    length-append (replicate (count v) v) (variables_by count vs)
    ∙ added _ _ _ _ (length-replicate (count v) v) (by_count count vs)

singles_made : (ms : List ℤ) → AreSingles (map single ms)
singles_made [] = tt
singles_made (m ∷ ms) = (refl, singles_made ms)

points_take : (n k : ℕ) (ls : List (List ℤ)) → HavePoints n ls → HavePoints n (take k ls)
points_take n zero [] have = tt
points_take n zero (l ∷ ls) have = tt
points_take n (suc k) [] have = tt
points_take n (suc k) (l ∷ ls) have = (have.0, points_take n k ls have.1)

points_drop : (n k : ℕ) (ls : List (List ℤ)) → HavePoints n ls → HavePoints n (drop k ls)
points_drop n zero [] have = tt
points_drop n zero (l ∷ ls) have = have
points_drop n (suc k) [] have = tt
points_drop n (suc k) (l ∷ ls) have = points_drop n k ls have.1

within : (l n m : ℕ) → l ≡ n + m → n ≤ l
within l n m e = omega (arith, e)

-- the levels of one variable from the front of what is left, and what is left behind it
stored_one : (setup : Setup) (v : VarInfo) (vs : List VarInfo) (scalar : Bool) → v.scalar ≡ scalar
    → (ms : List ℤ) (ls : List (List ℤ))
    → length ms ≡ (if scalar then v.levels else 0) + total scalar_count vs
    → length ls ≡ (if scalar then 0 else v.levels) + total level_count vs
    → HavePoints (point_count (whole setup.shape)) ls
    → ((ns : List ℤ) (ks : List (List ℤ)) → length ns ≡ total scalar_count vs
    → length ks ≡ total level_count vs
    → HavePoints (point_count (whole setup.shape)) ks → AreStored setup vs (state_from vs ns ks))
    → AreStored setup (v ∷ vs)
    (if scalar then map single (take v.levels ms) ∷ state_from vs (drop v.levels ms) ls
    else take v.levels ls ∷ state_from vs ms (drop v.levels ls))
stored_one setup v vs true e ms ls count counts have again =
    let is : number_count setup v ≡ 1 =
    ap (λ (b : Bool). if b then 1 else point_count (whole setup.shape)) e in (
      record {
        count = length-map (take v.levels ms) single
            ∙ length-take-le v.levels ms
            (within (length ms) v.levels (total scalar_count vs) count);
        numbers = subst (λ (n : ℕ). HavePoints n (map single (take v.levels ms))) (sym is)
            (singles_made (take v.levels ms));
      },
      again (drop v.levels ms) ls
          (left_of (length (drop v.levels ms)) (length ms) v.levels (total scalar_count vs)
          (length-drop v.levels ms) count) (counts ∙ zero-add (total level_count vs)) have,
    )
stored_one setup v vs false e ms ls count counts have again =
    let is : number_count setup v ≡ point_count (whole setup.shape) =
    ap (λ (b : Bool). if b then 1 else point_count (whole setup.shape)) e in (
      record {
        count = length-take-le v.levels ls
            (within (length ls) v.levels (total level_count vs) counts);
        numbers = subst (λ (n : ℕ). HavePoints n (take v.levels ls)) (sym is)
            (points_take (point_count (whole setup.shape)) v.levels ls have);
      },
      again ms (drop v.levels ls) (count ∙ zero-add (total scalar_count vs))
          (left_of (length (drop v.levels ls)) (length ls) v.levels (total level_count vs)
          (length-drop v.levels ls) counts)
          (points_drop (point_count (whole setup.shape)) v.levels ls have),
    )

stored_made : (setup : Setup) (vs : List VarInfo) (ms : List ℤ) (ls : List (List ℤ))
    → length ms ≡ total scalar_count vs → length ls ≡ total level_count vs
    → HavePoints (point_count (whole setup.shape)) ls → AreStored setup vs (state_from vs ms ls)
stored_made setup [] ms ls count counts have = tt
stored_made setup (v ∷ vs) ms ls count counts have =
    stored_one setup v vs v.scalar refl ms ls count counts have
    (λ ns ks c d h. stored_made setup vs ns ks c d h)

pub due_within : (setup : Setup) (n : ℕ) → is_due setup n ≡ true → n ≤ setup.itlast
due_within setup zero due = omega arith
due_within setup (suc n) due =
    leb-true (suc n) setup.itlast (both_true (nat_le (suc n) setup.itlast) _ due).0

pub fitting_can_begin : (job : Job) → FittingCanBegin job
fitting_can_begin job c fits =
    let due = both_true (is_due (setup_of job) c.iteration)
    (outputs_fit job c
    && (scalars_fit job.vars c.scalars
    && levels_fit (point_count (whole job.shape)) job.vars c.levels)) fits in
    let counts = both_true (outputs_fit job c)
    (scalars_fit job.vars c.scalars
    && levels_fit (point_count (whole job.shape)) job.vars c.levels) due.1 in
    let values = both_true (scalars_fit job.vars c.scalars)
    (levels_fit (point_count (whole job.shape)) job.vars c.levels) counts.1 in
    let ms = fits_count holds_value (variables_by scalar_count job.vars) c.scalars values.0
    ∙ by_count scalar_count job.vars in
    let ls = fits_count (holds_level (point_count (whole job.shape)))
    (variables_by level_count job.vars) c.levels values.1 ∙ by_count level_count job.vars in
    let have : HavePoints (point_count (whole job.shape)) c.levels =
    fits_each (holds_level (point_count (whole job.shape)))
    (λ (level : List ℤ). length level ≡ point_count (whole job.shape))
    (λ v level e. eqb-true (length level) (point_count (whole job.shape))
    (both_true (length level == point_count (whole job.shape)) _ e).0)
    (variables_by level_count job.vars) c.levels values.1 in
    record {
      holds = record {
        scalars = ms;
        levels = ls;
        points = All-from_recursion
            (λ (level : List ℤ). length level ≡ point_count (whole job.shape)) c.levels have;
      };
      begins = (
        due_within (setup_of job) c.iteration due.0,
        is_state (setup_of job) (state_from job.vars c.scalars c.levels)
            (stored_made (setup_of job) job.vars c.scalars c.levels ms ls have),
      );
    }
