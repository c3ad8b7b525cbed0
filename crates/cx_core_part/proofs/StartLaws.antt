-- The numbers of a part at the start of a run are 0.
use Rattle.std.proofs.Common.{◌≡◌, ℕ, zero, suc, ◌+◌, arith, Bool, true, false, cond, refl, sym, ap, ◌∙◌, subst, pos, List, [], ◌∷◌, length, map, replicate, get_or, ◌<◌, Result, Ok, Err}
use Rattle.std.specs.Prelude.{IfOk}
use Rattle.std.specs.List.{range_with_len}
use Rattle.std.proofs.lemmas.List.{length-replicate}
use Rattle.cx_grid.specs.declared.boxes.Point.{Point}
use Rattle.cx_grid.specs.declared.boxes.Box3.{Box3}
use Rattle.cx_grid.specs.Boxes.{point_count, index_in, numbers_in}
use Rattle.cx_grid.specs.Grid.{whole, wrap}
use Rattle.cx_plan.specs.declared.variable.VarId.{VarId}
use Rattle.cx_plan.specs.declared.variable.VarInfo.{VarInfo}
use Rattle.cx_plan.specs.declared.job.Job.{Job}
use Rattle.cx_plan.specs.Setups.{Setup, setup_of}
use Rattle.cx_plan.specs.Lookups.{no_variable, is_scalar}
use Rattle.cx_rule.specs.States.{level_of, scalar_of}
use Rattle.cx_rule.specs.Sweeps.{Values}
use Rattle.cx_model.specs.States.{start, zeros as whole_zeros, number_count as whole_count}
use Rattle.cx_model.specs.Turns.{values_of}
use Rattle.cx_text.specs.declared.memory.Memory.{Memory}
use Rattle.cx_rule.specs.Routine.{Rule}
use Rattle.cx_cut.specs.Cuts.{Parts, part_count, owned, local}
use Rattle.cx_cut.specs.Faults.{parts_of}
use Rattle.cx_field.specs.Patches.{PatchValue, IsPart, zeros, new_patch}
use Rattle.law_parts.specs.Holding.{state_in}
use Rattle.law_parts.specs.Beginnings.{run_of, Afresh}
use Rattle.law_parts.specs.Nets.{held_first}
use Rattle.law_parts.proofs.ListLaws.{numbers_same}
use Rattle.cx_core_part.specs.Jobs.{IsChecked, IsCutOf}
use Rattle.cx_core_part.specs.Frames.{IsPatchOf}
use Rattle.cx_core_part.proofs.FrameLaws.{AreNear, new_rooms}
use Rattle.cx_rule.proofs.CutParts.{part_is}

-- ---- lists of 0

zero_at : (n i : ℕ) → get_or (replicate n (pos 0)) i (pos 0) ≡ pos 0
zero_at zero i = refl
zero_at (suc n) zero = refl
zero_at (suc n) (suc i) = zero_at n i

zero_level : (m n l i : ℕ)
    → get_or (get_or (replicate m (replicate n (pos 0))) l []) i (pos 0) ≡ pos 0
zero_level zero n l i = refl
zero_level (suc m) n zero i = zero_at n i
zero_level (suc m) n (suc l) i = zero_level m n l i

zero_state : (setup : Setup) (vs : List VarInfo) (v l i : ℕ)
    → get_or (get_or (get_or (map (whole_zeros setup) vs) v []) l []) i (pos 0) ≡ pos 0
zero_state setup [] v l i = refl
zero_state setup (x ∷ xs) zero l i = zero_level x.levels (whole_count setup x) l i
zero_state setup (x ∷ xs) (suc v) l i = zero_state setup xs v l i

zero_values : (setup : Setup) (v : VarId) (level : ℕ) (p : Point)
    → values_of setup (start setup) v level p ≡ pos 0
zero_values setup v level p = go (is_scalar setup v)
  where
    go : (b : Bool) → cond b (scalar_of (start setup) v)
        (get_or (level_of (start setup) v level) (index_in (whole setup.shape) (wrap setup.shape p))
        (pos 0)) ≡ pos 0
    go true = zero_state setup setup.vars v.0 0 0
    go false = zero_state setup setup.vars v.0 level
        (index_in (whole setup.shape) (wrap setup.shape p))

-- ---- levels

same_each : {A : Type 0} (x : A) (a n : ℕ) → map (λ (i : ℕ). x) (range_with_len a n) ≡ replicate n x
same_each x a zero = refl
same_each x a (suc n) = ap (λ xs. x ∷ xs) (same_each x (a + 1) n)

map_alike : {A : Type 0} (f g : ℕ → A) → ((i : ℕ) → f i ≡ g i) → (ns : List ℕ) → map f ns ≡ map g ns
map_alike f g h [] = refl
map_alike f g h (n ∷ ns) = ap (λ x. x ∷ map f ns) (h n) ∙ ap (λ xs. g n ∷ xs) (map_alike f g h ns)

module _ (setup : Setup) (values : Values)
    (none : (v : VarId) (level : ℕ) (p : Point) → values v level p ≡ pos 0) (b : Box3) where
  zero_box : (v : VarId) (level : ℕ)
      → numbers_in b (values v level) ≡ replicate (point_count b) (pos 0)
  zero_box v level = numbers_same b (values v level) (λ p. pos 0) (λ p h. none v level p)
      ∙ same_each (pos 0) 0 (point_count b)

  zero_levels : (v : ℕ) (x : VarInfo) → is_scalar setup (record { 0 = v }) ≡ x.scalar
      → cond (is_scalar setup (record { 0 = v })) (whole_zeros setup x)
      (map (λ level. numbers_in b (values (record { 0 = v }) level))
      (range_with_len 0 (length (whole_zeros setup x)))) ≡ zeros b x
  zero_levels v x e =
      ap (λ s. cond s (whole_zeros setup x)
      (map (λ level. numbers_in b (values (record { 0 = v }) level))
      (range_with_len 0 (length (whole_zeros setup x))))) e
      ∙ go x.scalar refl
    where
      go : (s : Bool) → x.scalar ≡ s
          → cond x.scalar (whole_zeros setup x)
          (map (λ level. numbers_in b (values (record { 0 = v }) level))
          (range_with_len 0 (length (whole_zeros setup x)))) ≡ zeros b x
      go true e = rw e refl
      go false e =
          ap (λ s. cond s (whole_zeros setup x)
          (map (λ level. numbers_in b (values (record { 0 = v }) level))
          (range_with_len 0 (length (whole_zeros setup x))))) e
          ∙ map_alike (λ level. numbers_in b (values (record { 0 = v }) level))
          (λ level. replicate (point_count b) (pos 0))
          (λ level. zero_box (record { 0 = v }) level)
          (range_with_len 0 (length (whole_zeros setup x)))
          ∙ same_each (replicate (point_count b) (pos 0)) 0 (length (whole_zeros setup x))
          ∙ ap (λ n. replicate n (replicate (point_count b) (pos 0)))
          (length-replicate x.levels (replicate (whole_count setup x) (pos 0)))
          ∙ sym (ap (λ s. replicate x.levels (replicate (cond s 1 (point_count b)) (pos 0))) e)

  zero_in : (v : ℕ) (vs : List VarInfo)
      → ((i : ℕ) → get_or setup.vars (v + i) no_variable ≡ get_or vs i no_variable)
      → state_in setup values b v (map (whole_zeros setup) vs) ≡ map (zeros b) vs
  zero_in v [] h = refl
  zero_in v (x ∷ xs) h =
      let z : v + 0 ≡ v = omega arith in
      let here : get_or setup.vars v no_variable ≡ x =
      subst (λ n. get_or setup.vars n no_variable ≡ x) z (h 0) in
      ap (λ ls. ls ∷ state_in setup values b (suc v) (map (whole_zeros setup) xs))
      (zero_levels v x (ap (λ (i : VarInfo). i.scalar) here))
      ∙ ap (λ ls. zeros b x ∷ ls)
      (zero_in (suc v) xs (λ i. let n : suc v + i ≡ v + suc i = omega arith in
      ap (λ m. get_or setup.vars m no_variable) n ∙ h (suc i)))

-- the state at the start, over any box
pub start_numbers : (setup : Setup) (b : Box3)
    → map (zeros b) setup.vars ≡ state_in setup (values_of setup (start setup)) b 0 (start setup)
start_numbers setup b =
    sym (zero_in setup (values_of setup (start setup)) (zero_values setup) b 0 setup.vars
    (λ i. let n : 0 + i ≡ i = omega arith in ap (λ m. get_or setup.vars m no_variable) n))

-- a new patch of part k is that of the start
pub starts_for : (job : Job) → IsChecked job → (cut : Parts) (k : ℕ) → (most : ℕ) → most < 256
    → AreNear job.items most
    → IsPatchOf (setup_of job) cut k
    (new_patch job.shape (owned cut k) (local cut k) job.vars job.items)
starts_for job checked cut k most below near =
    record {
      patch = new_rooms job checked most below near (owned cut k) (local cut k);
      owned_is = refl;
      local_is = refl;
    }

pub starts_with : (job : Job) (rules : List Rule) (cut : Parts) (k : ℕ)
    → cut ≡ parts_of job.shape job.cut
    → (new_patch job.shape (owned cut k) (local cut k) job.vars job.items).numbers
    ≡ (held_first (run_of job rules Afresh) k).numbers
starts_with job rules cut k is =
    start_numbers (setup_of job) (local cut k)
    ∙ ap (λ c. state_in (setup_of job) (values_of (setup_of job) (start (setup_of job))) (local c k)
    0 (start (setup_of job))) is

-- ---- in the code's terms

pub start_part : (job : Job) (cut : Parts) (k : ℕ) → IsCutOf job cut → k < part_count cut
    → (own near : Box3) → own ≡ owned cut k → near ≡ local cut k
    → IsPart job.shape own near
start_part job cut k is l own near o n =
    subst (λ s. IsPart s own near) (ap (λ (c : Parts). c.shape) is.parts)
    (subst (λ b. IsPart cut.shape b near) (sym o)
    (subst (λ b. IsPart cut.shape (owned cut k) b) (sym n) (part_is cut is.whole k l)))

abbrev Made : Job → Box3 → Box3 → Result PatchValue Memory → Type 0
Made job own near result =
    IfOk result (λ patch. patch ≡ new_patch job.shape own near job.vars job.items)

pub start_for : (job : Job) → IsChecked job → (cut : Parts) (k : ℕ) → (own near : Box3)
    → own ≡ owned cut k → near ≡ local cut k
    → (most : ℕ) → most < 256 → AreNear job.items most → (result : Result PatchValue Memory)
    → Made job own near result → IfOk result (IsPatchOf (setup_of job) cut k)
start_for job checked cut k own near o n most below far (Ok p) made =
    subst (IsPatchOf (setup_of job) cut k)
    (ap (λ b. new_patch job.shape b (local cut k) job.vars job.items) (sym o)
    ∙ ap (λ b. new_patch job.shape own b job.vars job.items) (sym n) ∙ sym made)
    (starts_for job checked cut k most below far)
start_for job checked cut k own near o n most below far (Err e) made = tt

pub start_with : (job : Job) (rules : List Rule) (cut : Parts) (k : ℕ)
    → cut ≡ parts_of job.shape job.cut → (own near : Box3) → own ≡ owned cut k → near ≡ local cut k
    → (result : Result PatchValue Memory) → Made job own near result
    → IfOk result (λ patch. patch.numbers ≡ (held_first (run_of job rules Afresh) k).numbers)
start_with job rules cut k is own near o n (Ok p) made =
    ap (λ (q : PatchValue). q.numbers) made
    ∙ ap (λ b. (new_patch job.shape b near job.vars job.items).numbers) o
    ∙ ap (λ b. (new_patch job.shape (owned cut k) b job.vars job.items).numbers) n
    ∙ starts_with job rules cut k is
start_with job rules cut k is own near o n (Err e) made = tt
