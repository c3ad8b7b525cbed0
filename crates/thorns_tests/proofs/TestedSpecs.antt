-- The thorns' Cell routines whose sweeps are tested.
use Rattle.std.proofs.Common.{◌≡◌, ℕ, zero, suc, ◌≤◌, true, ℤ, List, [], ◌∷◌, length, arith, refl}
use Rattle.cx_text.specs.Lexemes.{same_name}
use Rattle.cx_grid.specs.declared.shapes.Shape.{Shape}
use Rattle.cx_plan.specs.declared.item.ItemKind.TheVariants.{Cell}
use Rattle.cx_plan.specs.Regions.{has_shape, within_ghosts}
use Rattle.cx_rule.specs.Patches.{value_count}
use Rattle.cx_rule.specs.Seen.{volumes}
use Rattle.cx_rule.specs.Specs.{most_points}
use Rattle.cx_rule.specs.declared.spec.Spec.{Spec}
use Rattle.cx_thorn_ca.specs.Automaton.{ca_init_spec, ca_step_spec, ca_zero_spec}
use Rattle.cx_thorn_ca.specs.Life.{life_init_spec, life_step_spec, life_zero_spec}
use Rattle.cx_thorn_pde.specs.Wave.{wave_init_spec, wave_step_spec, wave_flat_spec, wave_copy_spec, wave_scalar_spec}
use Rattle.cx_thorn_pde.specs.Heat.{diff_init_spec, diff_step_spec, diff_flat_spec, diff_scalar_spec}
use Rattle.thorns_tests.specs.Fields.{field_on, field_vars, item_for, IsTested}

-- ---- how many numbers are seen around a point

few : (n m : ℕ) → n ≡ m → m ≤ 99 → n ≤ 99
few n m e h = omega (arith, e, h)

none : (d : ℕ) → d ≤ 3 → volumes d [] ≤ 99
none d h = few (volumes d []) 0 refl (omega arith)

here : (d : ℕ) → d ≤ 3 → volumes d (0 ∷ []) ≤ 99
here zero h = few (volumes 0 (0 ∷ [])) 1 refl (omega arith)
here (suc zero) h = few (volumes 1 (0 ∷ [])) 1 refl (omega arith)
here (suc (suc zero)) h = few (volumes 2 (0 ∷ [])) 1 refl (omega arith)
here (suc (suc (suc zero))) h = few (volumes 3 (0 ∷ [])) 1 refl (omega arith)
here (suc (suc (suc (suc d)))) h = absurd (omega (arith, h))

near : (d : ℕ) → d ≤ 3 → volumes d (1 ∷ []) ≤ 99
near zero h = few (volumes 0 (1 ∷ [])) 1 refl (omega arith)
near (suc zero) h = few (volumes 1 (1 ∷ [])) 3 refl (omega arith)
near (suc (suc zero)) h = few (volumes 2 (1 ∷ [])) 9 refl (omega arith)
near (suc (suc (suc zero))) h = few (volumes 3 (1 ∷ [])) 27 refl (omega arith)
near (suc (suc (suc (suc d)))) h = absurd (omega (arith, h))

wave : (d : ℕ) → d ≤ 3 → volumes d (1 ∷ 0 ∷ []) ≤ 99
wave zero h = few (volumes 0 (1 ∷ 0 ∷ [])) 2 refl (omega arith)
wave (suc zero) h = few (volumes 1 (1 ∷ 0 ∷ [])) 4 refl (omega arith)
wave (suc (suc zero)) h = few (volumes 2 (1 ∷ 0 ∷ [])) 10 refl (omega arith)
wave (suc (suc (suc zero))) h = few (volumes 3 (1 ∷ 0 ∷ [])) 28 refl (omega arith)
wave (suc (suc (suc (suc d)))) h = absurd (omega (arith, h))

-- ---- routines

tested : (s : Spec) (params writes : ℕ) → same_name s.thorn s.thorn ≡ true
    → same_name s.name s.name ≡ true → s.kind ≡ Cell
    → length s.params ≡ params → params ≤ 4 → length s.writes ≡ writes → writes ≤ 2
    → s.cap ≡ most_points
    → ((g : Shape) (ns : List ℤ) → within_ghosts g 1 ≡ true
    → has_shape (field_on g field_vars) (item_for s ns) ≡ true)
    → ((d : ℕ) → d ≤ 3 → value_count d (item_for s []) ≤ 99) → IsTested s
tested s params writes thorn name kind p p4 w w2 most declared values =
    record {
      thorn = thorn;
      name = name;
      kind = kind;
      params = omega (arith, p, p4);
      writes = omega (arith, w, w2);
      declared = declared;
      cap = omega (arith, most);
      values = values;
    }

pub ca_init : IsTested ca_init_spec
ca_init = tested ca_init_spec 2 1 refl refl refl refl (omega arith) refl (omega arith) refl
    (λ g ns e. refl) none

pub ca_step : IsTested ca_step_spec
ca_step = tested ca_step_spec 1 1 refl refl refl refl (omega arith) refl (omega arith) refl
    (λ g ns e. rw e refl) near

pub ca_zero : IsTested ca_zero_spec
ca_zero = tested ca_zero_spec 0 1 refl refl refl refl (omega arith) refl (omega arith) refl
    (λ g ns e. refl) none

pub life_init : IsTested life_init_spec
life_init = tested life_init_spec 2 1 refl refl refl refl (omega arith) refl (omega arith) refl
    (λ g ns e. refl) none

pub life_step : IsTested life_step_spec
life_step = tested life_step_spec 2 1 refl refl refl refl (omega arith) refl (omega arith) refl
    (λ g ns e. rw e refl) near

pub life_zero : IsTested life_zero_spec
life_zero = tested life_zero_spec 0 1 refl refl refl refl (omega arith) refl (omega arith) refl
    (λ g ns e. refl) none

pub wave_init : IsTested wave_init_spec
wave_init = tested wave_init_spec 4 2 refl refl refl refl (omega arith) refl (omega arith) refl
    (λ g ns e. refl) none

pub wave_step : IsTested wave_step_spec
wave_step = tested wave_step_spec 1 1 refl refl refl refl (omega arith) refl (omega arith) refl
    (λ g ns e. rw e refl) wave

pub wave_flat : IsTested wave_flat_spec
wave_flat = tested wave_flat_spec 0 1 refl refl refl refl (omega arith) refl (omega arith) refl
    (λ g ns e. refl) here

pub wave_copy : IsTested wave_copy_spec
wave_copy = tested wave_copy_spec 0 1 refl refl refl refl (omega arith) refl (omega arith) refl
    (λ g ns e. refl) here

pub wave_scalar : IsTested wave_scalar_spec
wave_scalar = tested wave_scalar_spec 1 1 refl refl refl refl (omega arith) refl (omega arith) refl
    (λ g ns e. refl) none

pub diff_init : IsTested diff_init_spec
diff_init = tested diff_init_spec 4 1 refl refl refl refl (omega arith) refl (omega arith) refl
    (λ g ns e. refl) none

pub diff_step : IsTested diff_step_spec
diff_step = tested diff_step_spec 1 1 refl refl refl refl (omega arith) refl (omega arith) refl
    (λ g ns e. rw e refl) near

pub diff_flat : IsTested diff_flat_spec
diff_flat = tested diff_flat_spec 0 1 refl refl refl refl (omega arith) refl (omega arith) refl
    (λ g ns e. refl) here

pub diff_scalar : IsTested diff_scalar_spec
diff_scalar = tested diff_scalar_spec 1 1 refl refl refl refl (omega arith) refl (omega arith) refl
    (λ g ns e. refl) none
