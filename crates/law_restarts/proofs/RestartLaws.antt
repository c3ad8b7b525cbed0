-- Each start is on trails, and so the last one ends as the undivided run.
use Rattle.std.proofs.Math.Path.{fun_ext}
use Rattle.std.proofs.Common.{inl, inr, ℕ, zero, suc, ◌<◌, ◌≤◌, List, Option, Some, None, sym, subst, arith}
use Rattle.cx_disk.specs.Disk.{Files}
use Rattle.cx_disk.specs.Files.{slot_count}
use Rattle.cx_chk.specs.Slots.{newest_below, NewestBelow}
use Rattle.cx_chk.proofs.Choosing.{newest_law}
use Rattle.cx_rule.specs.Routine.{Rule}
use Rattle.cx_plan.specs.declared.job.Job.{Job}
use Rattle.cx_keep.specs.Trails.{IsTrail, NewestIs}
use Rattle.law_course.specs.Starts.{course_in, AreAlikeTo}
use Rattle.law_course.proofs.OutputLaws.{Rise}
use Rattle.law_course.proofs.StartLaws.{empty_is_trail}
use Rattle.law_course.proofs.SteerLaws.{one_course_to}
use Rattle.law_restarts.specs.Restarts.{Start, IsStart, GoesOn, MayLeave, BeginsOnTrails, EndsAlike}
use Rattle.law_restarts.proofs.StageLaws.{made_rises}

-- files have a newest checkpoint, or none
newest_of : (files : Files) → (o : Option ℕ) × NewestIs files o
newest_of files = by (newest_below slot_count files) (newest_law slot_count files)
  where
    by : (o : Option (ℕ × ℕ)) → NewestBelow slot_count files o → (p : Option ℕ) × NewestIs files p
    by None none = (None, none)
    by (Some found) top = (
      Some found.1,
      record {
        slot = found.0;
        known = top.known;
        header = top.header;
        greatest = top.greatest;
      },
    )

-- a trail of one job is one of another that goes on with it
pub trail_of_other : (a b : Job) (rules : List Rule) (image : Files) → Rise a.out_vars
    → ((newest : ℕ) → NewestIs image (Some newest) → AreAlikeTo newest a b)
    → IsTrail (course_in a rules) image → IsTrail (course_in b rules) image
trail_of_other a b rules image rise alike trail =
    let found = newest_of image in by found.0 found.1
  where
    by : (o : Option ℕ) → NewestIs image o → IsTrail (course_in b rules) image
    by None none = empty_is_trail (course_in b rules) image none
    by (Some n) is = (one_course_to a b rules n rise (alike n is)).trails image n is
        (omega arith) trail

-- a crash leaves trails of a start on trails
left_is_trail : (s : Start) → IsStart s → BeginsOnTrails s → (image : Files) → MayLeave s image
    → IsTrail (course_in s.job s.call.work.rules) image
left_is_trail s is trails image left =
    let old = s.call.work.disk.old in
    elim ((is.obeys.trails is.told s.job is.run trails).each old.moment image (omega arith) left)
    as (λ _. IsTrail (course_in s.job s.call.work.rules) image)
    [ inl past ↦ trails image (is.view.only_now image past) | inr then ↦ then.trail ]

-- so the next start is on trails
next_on_trails : (before after : Start) → IsStart before → GoesOn before after
    → BeginsOnTrails before → BeginsOnTrails after
next_on_trails before after is on trails image now =
    let left = on.disk image now in
    let was : IsTrail (course_in before.job before.call.work.rules) image =
    subst (λ (f : Files). IsTrail (course_in before.job before.call.work.rules) f)
    (fun_ext (λ file. sym (left.2 file))) (left_is_trail before is trails left.0 left.1) in
    subst (λ (rs : List Rule). IsTrail (course_in after.job rs) image) on.rules
    (trail_of_other before.job after.job before.call.work.rules image
    (made_rises before.job before.call is.run) (λ n newest. on.job image n now newest) was)

on_trails :
    (start : ℕ → Start) (times : ℕ) → ((n : ℕ) → n ≤ times → IsStart (start n))
    → ((n : ℕ) → n < times → GoesOn (start n) (start (suc n))) → BeginsOnTrails (start 0)
    → (n : ℕ) → n ≤ times → BeginsOnTrails (start n)
on_trails start times is on trails zero le = trails
on_trails start times is on trails (suc n) le =
    next_on_trails (start n) (start (suc n)) (is n (omega arith)) (on n (omega arith))
    (on_trails start times is on trails n (omega arith))

-- a start on trails ends as the undivided run of its job
ends_alike : (last : Start) → IsStart last → BeginsOnTrails last → EndsAlike last
ends_alike last is trails =
    let leaves = is.obeys.run is.told last.job is.run (inl trails) in
    record {
      began = trails;
      ends = record {
        output = leaves.output;
        last_is = leaves.last;
        done = leaves.done;
        ended = leaves.ended;
      };
      work = leaves.work;
    }

pub restarts_end :
    (start : ℕ → Start) (times : ℕ) → ((n : ℕ) → n ≤ times → IsStart (start n))
    → ((n : ℕ) → n < times → GoesOn (start n) (start (suc n))) → BeginsOnTrails (start 0)
    → EndsAlike (start times)
restarts_end start times is on trails =
    ends_alike (start times) (is times (omega arith))
    (on_trails start times is on trails times (omega arith))
