-- What keeps a state whole: the start, a rotation, and other numbers of the right length.
use Rattle.std.proofs.Common.{◌≡◌, ◌∙◌, sym, ap, subst, refl, inl, inr, ℕ, ◌+◌, ◌-◌, ◌<◌, ◌≤◌, true, ℤ, pos, List, [], ◌∷◌, ◌++◌, length, take, drop, set, get_or, replicate, arith}
use Rattle.std.specs.List.{list_all}
use Rattle.std.proofs.lemmas.Bool.{cases_eq, cases_lt, and_parts}
use Rattle.std.proofs.lemmas.List.{length-map, get_or-map, length-set, get_or-set_same, get_or-set_other, get_or-replicate, length-replicate, length-append, length-drop, length-take, get_or-append_right, get_or_append_left, get_or-drop, get_or-take}
use Rattle.cx_plan.specs.declared.variable.VarId.{VarId}
use Rattle.cx_plan.specs.declared.item.Touch.{Touch}
use Rattle.cx_plan.specs.Setups.{Setup}
use Rattle.cx_plan.specs.Lookups.{variable, no_variable, levels_of, is_scalar}
use Rattle.cx_rule.specs.States.{State, with_level, with_scalar, rotated_levels, rotate}
use Rattle.cx_model.specs.States.{number_count, zeros, start, IsState}
use Rattle.cx_rule.specs.Sweeps.{scalars_after}

-- ---- the start

-- the levels of a variable at the start
zeros_at : (setup : Setup) (v : VarId) → v.0 < length setup.vars
    → get_or (start setup) v.0 [] ≡ zeros setup (variable setup v)
zeros_at setup v h = get_or-map (zeros setup) setup.vars v.0 no_variable [] h

pub start_is_state : (setup : Setup) → IsState setup (start setup)
start_is_state setup =
    record {
      vars = length-map setup.vars (zeros setup);
      levels = λ v h. ap length (zeros_at setup v h)
          ∙ length-replicate (levels_of setup v)
          (replicate (number_count setup (variable setup v)) (pos 0));
      numbers = λ v level h k.
          ap (λ levels. length (get_or levels level [])) (zeros_at setup v h)
          ∙ ap length (get_or-replicate (levels_of setup v) level
          (replicate (number_count setup (variable setup v)) (pos 0)) [] k)
          ∙ length-replicate (number_count setup (variable setup v)) (pos 0);
    }

-- ---- rotation

-- the last elements before the first ones are as many
length-rotated : {A : Type 0} (xs : List A) (k : ℕ) → length (drop k xs ++ take k xs) ≡ length xs
length-rotated xs k =
    let both = length-append (drop k xs) (take k xs) in
    let last = length-drop k xs in
    let first = length-take k xs in
    omega (arith, both, last, first)

-- and lists of one length among them
rotated-lengths : {A : Type 0} (xs : List (List A)) (k n l : ℕ)
    → ((j : ℕ) → j < length xs → length (get_or xs j []) ≡ n)
    → k ≤ length xs
    → l < length xs
    → length (get_or (drop k xs ++ take k xs) l []) ≡ n
rotated-lengths xs k n l each within h =
    let last = length-drop k xs in
    elim (cases_lt l (length xs - k)) [
      | inl front ↦
          let here : l < length (drop k xs) = omega (arith, last, front) in
          ap length (get_or_append_left (drop k xs) (take k xs) [] l here ∙ get_or-drop k xs l [])
          ∙ each (k + l) (omega (arith, front))
      | inr behind ↦
          ap length (get_or-append_right (drop k xs) (take k xs) (length xs - k) l [] last behind
          ∙ get_or-take k xs (l - (length xs - k)) [] (omega (arith, behind)))
          ∙ each (l - (length xs - k)) (omega (arith, behind))
    ]

-- the levels of a variable after a rotation
rotated_at : (state : State) (i : ℕ) → i < length state
    → get_or (rotate state) i [] ≡ rotated_levels (get_or state i [])
rotated_at state i h = get_or-map rotated_levels state i [] [] h

pub rotate_keeps : (setup : Setup) (state : State) → IsState setup state
    → IsState setup (rotate state)
rotate_keeps setup state is =
    record {
      vars = length-map state rotated_levels ∙ is.vars;
      levels = λ v h.
          ap length (rotated_at state v.0 (subst (λ n. v.0 < n) (sym is.vars) h))
          ∙ length-rotated (get_or state v.0 []) (length (get_or state v.0 []) - 1)
          ∙ is.levels v h;
      numbers = λ v level h k.
          let there : v.0 < length state = subst (λ n. v.0 < n) (sym is.vars) h in
          let many = is.levels v h in
          ap (λ levels. length (get_or levels level [])) (rotated_at state v.0 there)
          ∙ rotated-lengths (get_or state v.0 []) (length (get_or state v.0 []) - 1)
          (number_count setup (variable setup v)) level
          (λ j below. is.numbers v j h (subst (λ n. j < n) many below)) (omega arith)
          (subst (λ n. level < n) (sym many) k);
    }

-- ---- other numbers

-- the levels of a variable after a write to those of another one, or to its own
levels-set : (state : State) (i k : ℕ) (levels : List (List ℤ))
    → i < length state
    → length levels ≡ length (get_or state k [])
    → length (get_or (set state k levels) i []) ≡ length (get_or state i [])
levels-set state i k levels h e =
    elim (cases_eq i k) [
      | inl same ↦
          let here : k < length state = subst (λ i. i < length state) same h in
          subst (λ i. length (get_or (set state k levels) i []) ≡ length (get_or state i []))
          (sym same) (ap length (get_or-set_same state k levels [] here) ∙ e)
      | inr other ↦ ap length (get_or-set_other state k i levels [] other)
    ]

-- the numbers of a level after a write to another one, or to itself
numbers-set : (levels : List (List ℤ)) (l level : ℕ) (numbers : List ℤ) (n : ℕ)
    → l < length levels
    → length (get_or levels l []) ≡ n
    → length numbers ≡ n
    → length (get_or (set levels level numbers) l []) ≡ n
numbers-set levels l level numbers n h was now =
    elim (cases_eq l level) [
      | inl same ↦
          let here : level < length levels = subst (λ l. l < length levels) same h in
          subst (λ l. length (get_or (set levels level numbers) l []) ≡ n) (sym same)
          (ap length (get_or-set_same levels level numbers [] here) ∙ now)
      | inr other ↦ ap length (get_or-set_other levels level l numbers [] other) ∙ was
    ]

-- the same in a state
all-set : (state : State) (i k l level : ℕ) (numbers : List ℤ) (n : ℕ)
    → i < length state
    → l < length (get_or state i [])
    → length (get_or (get_or state i []) l []) ≡ n
    → (i ≡ k → length numbers ≡ n)
    → length (get_or (get_or (set state k (set (get_or state k []) level numbers)) i []) l []) ≡ n
all-set state i k l level numbers n h below was now =
    elim (cases_eq i k) [
      | inl same ↦
          let here : k < length state = subst (λ i. i < length state) same h in
          subst
          (λ i.
          length (get_or (get_or (set state k (set (get_or state k []) level numbers)) i []) l
          []) ≡ n) (sym same)
          (ap (λ levels. length (get_or levels l []))
          (get_or-set_same state k (set (get_or state k []) level numbers) [] here)
          ∙ numbers-set (get_or state k []) l level numbers n
          (subst (λ i. l < length (get_or state i [])) same below)
          (subst (λ i. length (get_or (get_or state i []) l []) ≡ n) same was) (now same))
      | inr other ↦ ap (λ levels. length (get_or levels l []))
          (get_or-set_other state k i (set (get_or state k []) level numbers) [] other) ∙ was
    ]

pub with_level_keeps : (setup : Setup) (state : State) (v : VarId) (level : ℕ) (numbers : List ℤ)
    → IsState setup state
    → length numbers ≡ number_count setup (variable setup v)
    → IsState setup (with_level state v level numbers)
with_level_keeps setup state v level numbers is size =
    record {
      vars = length-set state v.0 (set (get_or state v.0 []) level numbers) ∙ is.vars;
      levels = λ w h.
          levels-set state w.0 v.0 (set (get_or state v.0 []) level numbers)
          (subst (λ n. w.0 < n) (sym is.vars) h)
          (length-set (get_or state v.0 []) level numbers)
          ∙ is.levels w h;
      numbers = λ w l h k.
          all-set state w.0 v.0 l level numbers (number_count setup (variable setup w))
          (subst (λ n. w.0 < n) (sym is.vars) h) (subst (λ n. l < n) (sym (is.levels w h)) k)
          (is.numbers w l h k)
          (λ same. size ∙ ap (λ i. number_count setup (get_or setup.vars i no_variable))
          (sym same));
    }

pub with_scalar_keeps : (setup : Setup) (state : State) (v : VarId) (number : ℤ)
    → IsState setup state
    → is_scalar setup v ≡ true
    → IsState setup (with_scalar state v number)
with_scalar_keeps setup state v number is scalar =
    with_level_keeps setup state v 0 (number ∷ []) is (rw scalar refl)

-- scalars that an item writes
pub scalars_after_keeps : (setup : Setup) (ws : List Touch) (ns : List ℤ) (state : State)
    → list_all (λ (w : Touch). is_scalar setup w.var) ws ≡ true
    → IsState setup state
    → IsState setup (scalars_after ws ns state)
scalars_after_keeps setup [] ns state scalars is = is
scalars_after_keeps setup (w ∷ ws) [] state scalars is = is
scalars_after_keeps setup (w ∷ ws) (n ∷ ns) state scalars is =
    let both = and_parts (is_scalar setup w.var)
    (list_all (λ (w : Touch). is_scalar setup w.var) ws) scalars in
    scalars_after_keeps setup ws ns (with_scalar state w.var n) both.1
    (with_scalar_keeps setup state w.var n is both.0)
