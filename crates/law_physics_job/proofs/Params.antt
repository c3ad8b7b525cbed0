-- The parameters of an item that no steer reaches.
use Rattle.std.proofs.Common.{◌≡◌, sym, ap, ◌∙◌, ℕ, ◌<◌, true, List, [], ◌∷◌, length, take, get_or, Option, Some, slice_get}
use Rattle.std.proofs.lemmas.List.{get_or-take}
use Rattle.std.proofs.lemmas.Option.{get_or_from_slice_get}
use Rattle.cx_plan.specs.Lookups.{item, no_item}
use Rattle.cx_plan.specs.Setups.{Setup, setup_of}
use Rattle.cx_plan.specs.Steering.{item_at, steered}
use Rattle.cx_plan.specs.declared.item.Item.{Item}
use Rattle.cx_plan.specs.declared.job.Job.{Job}
use Rattle.cx_plan.specs.declared.steered.Steered.{Steered}
use Rattle.cx_sched.specs.declared.tree.ScheduleFile.{ScheduleFile}
use Rattle.cx_bind.specs.Parameters.{parameters}
use Rattle.cx_bind.specs.declared.thorns.Thorn.{Thorn}
use Rattle.cx_values.specs.Steering.{steps}
use Rattle.cx_values.specs.declared.values.Values.{Values}
use Rattle.cx_rule.specs.declared.spec.Spec.{Spec}
use Rattle.cx_job_items.specs.Steered.{params_of, slot_names, steers_of}
use Rattle.cx_job.specs.JobLimits.{run_count}
use Rattle.law_physics_job.proofs.Matched.{items_are}
use Rattle.law_physics_job.proofs.Stages.{IsMadeOf}
use Rattle.law_physics_job.proofs.Steers.{keeps_params}
use Rattle.law_physics_job.proofs.Trees.{are_quiet}

module _ (specs : List Spec) (t : Thorn) (schedules : List ScheduleFile) (values : Values)
    (job : Job) (m : IsMadeOf specs (t ∷ []) schedules values job) (slots : List (List ℕ))
    (quiet : are_quiet slots t ≡ true) (k : ℕ) (below : k < run_count m.ordered.plan)
    (spec : Spec) (object : slice_get specs (item (setup_of job) k).routine ≡ Some spec)
    (named : spec.params ≡ slots) where
  abbrev setup : Setup
  setup = setup_of job

  abbrev first : List Item
  first = take (run_count m.ordered.plan) m.items

  abbrev given : List Steered
  given = steers_of specs (parameters (t ∷ [])) first (steps (t ∷ []) m.lines)

  steers_are : setup.steers ≡ given
  steers_are = ap (λ (j : Job). j.steers) m.is

  item_is : (x : Item) → slice_get first k ≡ Some x → item setup k ≡ x
  item_is x there =
      ap (λ (xs : List Item). get_or xs k no_item)
      (items_are specs t schedules values job m)
      ∙ sym (get_or-take (run_count m.ordered.plan) m.items k no_item below)
      ∙ get_or_from_slice_get first k x no_item there

  slots_are : (x : Item) → slice_get first k ≡ Some x
      → (n : ℕ) × (slot_names specs x ≡ take n slots)
  slots_are x there =
      let is = item_is x there in
      let its : slice_get specs x.routine ≡ Some spec =
      sym (ap (λ (y : Item). slice_get specs y.routine) is) ∙ object in (
        length x.params,
        ap (λ (o : Option Spec). take (length x.params) (params_of o)) its
            ∙ ap (take (length x.params)) named,
      )

  pub keeps : (n : ℕ) → (item_at setup k n).params ≡ (item setup k).params
  keeps n =
      ap (λ (ss : List Steered). steered ss k n (item setup k).params) steers_are
      ∙ keeps_params specs (t ∷ []) values m.lines first k slots m.steers quiet slots_are n
      (item setup k).params
