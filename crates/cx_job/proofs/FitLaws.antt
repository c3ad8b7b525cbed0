-- The routines that items were matched with fit the job.
use Rattle.std.proofs.Common.{◌≡◌, refl, ap, sym, subst, ◌∙◌, ℕ, Bool, true, false, ◌&&◌, List, get_or, Option, Some, None, Ok, arith}
use Rattle.std.specs.Prelude.{All}
use Rattle.std.proofs.lemmas.List.Quantifiers.{position-Some}
use Rattle.std.proofs.lemmas.Option.{get_or_from_slice_get}
use Rattle.cx_text.specs.Lexemes.{same_name}
use Rattle.cx_plan.specs.Setups.{Setup, setup_of}
use Rattle.cx_plan.specs.Lookups.{no_item}
use Rattle.cx_plan.specs.Regions.{run_items}
use Rattle.cx_plan.specs.declared.variable.VarId.{VarId}
use Rattle.cx_plan.specs.declared.item.Touch.{Touch}
use Rattle.cx_plan.specs.declared.item.Item.{Item}
use Rattle.cx_sched.specs.declared.tree.ScheduleFile.{ScheduleFile}
use Rattle.cx_bind.specs.declared.thorns.Thorn.{Thorn}
use Rattle.cx_bind.specs.Parameters.{parameters}
use Rattle.cx_values.specs.declared.steering.SteerStep.{SteerStep}
use Rattle.cx_values.specs.declared.values.Values.{Values}
use Rattle.cx_order.specs.Meanings.{World}
use Rattle.cx_order.specs.declared.ordered.Ordered.{Ordered}
use Rattle.cx_order.specs.Files.{input_of}
use Rattle.cx_order.specs.Ordering.{IsPlan}
use Rattle.cx_rule.specs.declared.spec.Spec.{Spec}
use Rattle.cx_rule.specs.declared.spec.Want.{Want}
use Rattle.cx_rule.specs.Jobs.{of_touch, of_want, HasRoutine}
use Rattle.cx_job.specs.Jobs.{job_of, steered_job}
use Rattle.cx_job.specs.JobLimits.{run_count}
use Rattle.cx_job.specs.Making.{Matches}
use Rattle.cx_job_items.specs.Matching.{thorn_number, level_of, touch_by, touch_of, param_number, is_for, all_matched}
use Rattle.cx_job_values.proofs.NoneLaws.{no_some, some_same, both_first}
use Rattle.cx_job.proofs.MatchedLaws.{answered_below, IsMatched, as_many_matched, matched_at}
use Rattle.cx_job.proofs.TouchLaws.{some_keep, as_many_some, is_offer}
use Rattle.cx_job.proofs.RunLaws.{called_of_plan}
use Rattle.cx_job.proofs.CapLaws.{IsRunWith}

both_second : (a b : Bool) → (a && b) ≡ true → b ≡ true
both_second true b e = e
both_second false b e = absurd cc

-- a touch has its name's region and reach
touch_kept : (w : World) (t : Option ℕ) (want : Want) (z : Touch) → touch_of w t want ≡ Some z
    → of_touch z ≡ of_want want
touch_kept w t want z told = by (level_of w t want.name) told
  where
    by : (o : Option (VarId × ℕ)) → touch_by want o ≡ Some z → of_touch z ≡ of_want want
    by None told = no_some told
    by (Some l) told = ap of_touch
        (sym (some_same (record {
          var = l.0;
          level = l.1;
          region = want.region;
          reach = want.reach;
        }) z told))

has_routine : (w : World) (v : Values) (specs : List Spec) (x y : Item) → IsMatched w v specs x y
    → HasRoutine specs y
has_routine w v specs x y m =
    let t : Option ℕ = thorn_number w.thorns x.thorn in
    let s : Spec = m.spec in
    let o = is_offer w v t s m.given m.offered in
    let met : is_for x s ≡ true =
    ap (is_for x) (sym (get_or_from_slice_get specs m.number s s m.object))
    ∙ (position-Some (is_for x) specs m.number s m.first).1 in
    subst (λ z. HasRoutine specs z) (sym m.is)
    (record {
      spec = s;
      object = m.object;
      its =
          record {
            thorn = both_first (same_name s.thorn x.thorn) (same_name s.name x.name) met;
            name = both_second (same_name s.thorn x.thorn) (same_name s.name x.name) met;
            kind = refl;
            reads = some_keep (touch_of w t) of_touch of_want (touch_kept w t)
                s.reads m.given.reads o.reads;
            writes = some_keep (touch_of w t) of_touch of_want (touch_kept w t)
                s.writes m.given.writes o.writes;
            params = as_many_some (param_number v) s.params m.given.params o.params;
          };
    })

-- each item that is run was matched, and is one of the first
pub fits : (thorns : List Thorn) (files : List ScheduleFile) (values : Values) (specs : List Spec)
    (steps : List SteerStep) (ordered : Ordered) (items : List Item) (out_vars : List VarId)
    → IsPlan (input_of thorns files values) ordered → Matches thorns values specs ordered (Ok items)
    → (let job = steered_job specs (parameters thorns) steps
    (job_of thorns values ordered items out_vars) in
    All (IsRunWith specs job) (run_items (setup_of job)))
fits thorns files values specs steps ordered items out_vars planned matches i d within =
    let setup : Setup = setup_of (steered_job specs (parameters thorns) steps
    (job_of thorns values ordered items out_vars)) in
    let w : World = record { thorns = thorns; sight = matches.sight; storage = ordered.storage } in
    let k : ℕ = get_or (run_items setup) i d in
    let at = called_of_plan (input_of thorns files values) ordered planned setup refl i d within in
    let told = answered_below (all_matched w values specs (run_count ordered.plan) ordered.items)
    items matches.items in
    let as_many = as_many_matched w values specs (run_count ordered.plan)
    ordered.items items told in
    record {
      routine =
          has_routine w values specs (get_or ordered.items k no_item) (get_or items k no_item)
          (matched_at w values specs (run_count ordered.plan)
          ordered.items items told k no_item no_item at.1 at.0);
      run = at.0;
      there = let l = at.1 in omega (arith, l, as_many);
    }
