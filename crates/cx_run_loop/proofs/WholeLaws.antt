-- A whole run: from what its start found to what its end leaves.
use Rattle.std.proofs.Common.{◌≡◌, ◌≢◌, ℕ, ◌+◌, ◌≤◌, ◌<◌, List, [], length, take, refl, sym, ◌∙◌, ap, subst, arith, inl, inr, append-nil}
use Rattle.std.proofs.lemmas.List.{get_or-replicate}
use Rattle.std.specs.Prelude.{Option, Some, None, IfSome, ◌⊎◌, Ok, Err, slice_index, ◌%◌, ◌^◌}
use Rattle.cx_plan.specs.declared.job.Recover.TheVariants.{No}
use Rattle.cx_plan.specs.Setups.{setup_of}
use Rattle.cx_outputs.specs.Names.{output_count}
use Rattle.cx_rule.specs.Meter.{raised}
use Rattle.cx_model.specs.Checkpoints.{Continues}
use Rattle.cx_model.specs.Runs.{no_lengths, undivided_run}
use Rattle.cx_model.specs.Traces.{Entry, Trace}
use Rattle.cx_cut.specs.Cuts.{Parts}
use Rattle.cx_cut.specs.Faults.{parts_of}
use Rattle.cx_disk.specs.Disk.{Files, View, LeavesOnly}
use Rattle.cx_disk.proofs.Moments.{joins, weaker}
use Rattle.cx_wire.specs.Received.{counted}
use Rattle.law_parts.specs.Beginnings.{Beginning}
use Rattle.law_parts.specs.Totals.{undivided_from}
use Rattle.cx_chk.specs.declared.checkpoint.Checkpoint.{Checkpoint}
use Rattle.cx_chk.specs.Slots.{newest_below}
use Rattle.cx_keep.specs.Beginning.{CanStart, HasLengths, IsOfNewest, IsStarted, IsWithinStart, StartMoments, length_left, lengths_left, newest_left}
use Rattle.cx_keep.specs.Resuming.{AreTrails}
use Rattle.cx_keep.specs.Tests.{begun, greatest_former}
use Rattle.cx_keep.specs.Trails.{AreWithin, Has, NewestIs, Stands, former_length, length_in, text_of, file_of_output}
use Rattle.cx_keep.specs.declared.fault.BeginFault.TheVariants as begin_faults
use Rattle.cx_keep.proofs.Stays.{newest_same}
use Rattle.law_course.proofs.PlaceLaws.{has_places}
use Rattle.law_course.specs.Beginnings.{GoesOn, IsFound, entries_from, run_from}
use Rattle.law_course.specs.Courses.{checkpoint_of}
use Rattle.law_course.specs.Starts.{BeginsOn}
use Rattle.law_course.specs.Works.{KeptRun, IsAllDone, IsAtLeast, WorksFollow, course_by, works_by, newest_of, next_of}
use Rattle.cx_core.specs.Cores.{Cores}
use Rattle.cx_core.specs.Hands.{ended_as}
use Rattle.cx_core.specs.declared.answers.Outcome.TheVariants.{Done}
use Rattle.cx_core.specs.Steps.{Counts, counts, stands_at}
use Rattle.cx_run_loop.specs.Drives.{Drive, AreTold, FitsOld, StartsWell, HasEnded, HasRun, HasScalarsOf, HasWorked, IsFirstCut, ResumesFrom, KeepsTrail, LeavesTrails, LendsScalars, IsNotBelow, again_in, course}
use Rattle.cx_run_loop.specs.Going.{Setting, Place, IsDriven, IsImageOf, RunLeaves, trace_in, kept_in}
use Rattle.cx_run_loop.specs.Laws.{DriveLaws}
use Rattle.cx_run_loop.specs.Recuts.{first_cut}
use Rattle.cx_run_loop.specs.Segments.{IsDoneBy, RunsBy, Start}
use Rattle.cx_run_loop.specs.Sums.{carried_in, sum_in, work_in}
use Rattle.cx_run_loop.proofs.FoundLaws.{found_is, found_none, only_newest, not_below_same, resumes_from_newest, resumes_from_none}
use Rattle.cx_run_loop.proofs.RecutLaws.{next_same}
use Rattle.cx_run_loop.proofs.TurnLaws.{same_beginning}
use Rattle.cx_disk.specs.Files.{slot_count}
use Rattle.cx_disk.specs.MemoryLaws.{cases_le}
use Rattle.cx_run_loop.proofs.Works.{output_count_is}

-- the length that a start leaves of an output
left_at : (count : ℕ) (found : Option Checkpoint) (j : ℕ) → j < count
    → slice_index (lengths_left count found) j ≡ length_left found j
left_at count None j lt = get_or-replicate count j 0 0 lt
left_at count (Some c) j lt = refl

-- at least, by place
at_least : (newest : Option ℕ) (n : ℕ) → IsAtLeast newest n → IsNotBelow newest (Some n)
at_least newest n h = subst (λ (m : Option ℕ). IsNotBelow m (Some n)) (sym h.is) h.least

-- the setting of a drive
abbrev pub setting : Drive → Setting
setting d = record { job = d.job; rules = d.rules; wire = d.wire.tells; disk = d.disk.tells }

-- where its counts began, and where it has come with this core
abbrev pub counts_before : Drive → Counts
counts_before d = counts d.meter.old d.wire.old.received d.wire.old.sum

abbrev pub place_behind : (d : Drive) → Cores → Place (setting d)
place_behind d core = record {
  is = stands_at core d.wire.new.queue d.meter.new d.wire.new.received d.wire.new.sum;
  view = d.disk.new;
}

-- where it began, from what was found on a disk that was seen so
abbrev pub start_at : Drive → Option Checkpoint → View → Start
start_at d found mid = record {
  cut = first_cut d.specs d.job found;
  found = found;
  counts = counts_before d;
  view = mid;
}

module _ (d : Drive) (laws : DriveLaws d.wire.tells d.job d.rules) where
  pub can_start : (d.job.recover ≢ No → AreTrails (course d) d.disk.old)
      → CanStart (setup_of d.job) (course d) d.job.recover d.disk.old
  can_start trails = record {
    monotone = laws.rises.monotone;
    outputs = laws.rises.outputs;
    fronts = laws.splits.fronts;
    splits = laws.splits.splits;
    trails = trails;
  }

  -- from trails, or where old checkpoints are given up
  pub trails_or_given : StartsWell d → d.job.recover ≢ No → AreTrails (course d) d.disk.old
  trails_or_given well not = elim well as (λ _. AreTrails (course d) d.disk.old)
      [ inl trails ↦ trails.0 | inr given ↦ absurd (not given) ]

  -- an output that is longer than at a checkpoint, and no longer than at the newest one, is of a
  -- newer one
  newer_by : (image : Files) (c : Checkpoint) (j : ℕ) → Has (course d).checkpoints c
      → j < length (course d).outputs → length_in c j < length (image (file_of_output j))
      → IsOfNewest (course d) j image → (n : Option ℕ) → NewestIs image n
      → IsNotBelow n (Some c.iteration)
  newer_by image c j has lt long of n is =
      subst (λ (x : Option ℕ). IsNotBelow x (Some c.iteration))
      (only_newest image (Some of.checkpoint.iteration) n of.newest is)
      (let both : length (image (file_of_output j)) ≤ length_in of.checkpoint j = of.within in
      elim (cases_le of.checkpoint.iteration c.iteration)
      as (λ _. c.iteration ≤ of.checkpoint.iteration) [
        | inl less ↦ let same : length_in of.checkpoint j ≤ length_in c j =
            laws.rises.monotone of.checkpoint c of.of_run has less j lt in
            let bad : ⊥ = omega arith in absurd bad
        | inr more ↦ more
      ])

  within_start : (image : Files) → IsWithinStart (course d) d.job.recover d.disk.old image
      → KeepsTrail d image
  within_start image w = record {
    trail = w.trail;
    not_behind = λ not. record {
      first = w.before;
      was = w.was;
      not_below = λ n m one other. subst (λ (x : Option ℕ). IsNotBelow n x)
          (only_newest image n m one (w.newest not m other)) (not_below_same n);
    };
    pace = λ c j has lt long longer n is.
        elim (w.outputs j lt) as (λ _. IsNotBelow n (Some c.iteration)) [
          | inl shorter ↦
              let a : length (w.before (file_of_output j)) < length (image (file_of_output j)) =
              longer w.before w.was in
              let b : length (image (file_of_output j)) ≤ length (w.before (file_of_output j)) =
              shorter in
              let bad : ⊥ = omega arith in absurd bad
          | inr of ↦ newer_by image c j has lt long of n is
        ];
  }

  -- a start that leaves no run
  pub start_trails : (new : View) → (d.disk.tells → StartMoments d.job d.job.recover d.disk.old new)
      → d.disk.tells → AreTrails (course d) d.disk.old → LeavesOnly d.disk.old new (KeepsTrail d)
  start_trails new moments t trails =
      weaker (KeepsTrail d) (moments t (course d) (can_start (λ not. trails)) trails) within_start

-- the first cut is that after the place of what was found
cut_first : (d : Drive) → Continues (setup_of d.job) d.rules → (found : Option Checkpoint)
    → IsFound (setup_of d.job) d.job.key d.rules found
    → IsFirstCut d.job d.rules d.specs (newest_left found)
    (parts_of d.job.shape (first_cut d.specs d.job found))
cut_first d continues None is = refl
cut_first d continues (Some c) is =
    let place = (has_places (setup_of d.job) d.rules continues d.job.key).places c is in (
      place.state,
      place.so_far,
      place.reached,
      ap (parts_of d.job.shape)
          (next_same d.specs d.job c
          (checkpoint_of (setup_of d.job) d.job.key 0 place.state no_lengths)
          (ap (λ (k : Checkpoint). k.levels) place.packed)),
    )

module _ (d : Drive) (laws : DriveLaws d.wire.tells d.job d.rules) (mid : View)
    (found : Option Checkpoint)
    (reads : d.disk.tells → d.disk.old.images d.disk.old.seen)
    (is_begun : d.disk.tells → begun d.job d.disk.old.seen ≡ Ok found) where
  abbrev r : KeptRun
  r = kept_in (setting d) found

  -- ---- what was found

  -- either old checkpoints are given up, or the newest one was found, of a trail
  abbrev pub Finds : Type 0
  Finds = ((found ≡ None) × (d.job.recover ≡ No))
      ⊎ ((b : BeginsOn d.job d.rules d.disk.old.seen) × (found ≡ b.newest) × (d.job.recover ≢ No))

  finds : StartsWell d → d.disk.tells → Finds
  finds (inl trails) t =
      let b : BeginsOn d.job d.rules d.disk.old.seen =
      laws.begin d.disk.old.seen (trails.0 d.disk.old.seen (reads t)) in
      elim b.begun_is as (λ _. Finds) [
        | inl begun_is ↦
            elim (found_is d.job.recover b.newest found (sym begun_is ∙ is_begun t))
            as (λ _. Finds) [
              | inl none ↦ inl none
              | inr same ↦ inr (b, same.0, same.1)
            ]
        | inr long ↦ absurd (trails.1 (former_length long.checkpoint) greatest_former long.begun_is)
      ]
  finds (inr given) t = inl (
    found_none d.job d.disk.old.seen d.job.recover (newest_below slot_count d.disk.old.seen)
        found given (is_begun t),
    given,
  )

  of_run : Finds → IsFound (setup_of d.job) d.job.key d.rules found
  of_run (inl h) = subst (λ (f : Option Checkpoint). IsFound (setup_of d.job) d.job.key d.rules f)
      (sym h.0) tt
  of_run (inr h) = subst (λ (f : Option Checkpoint). IsFound (setup_of d.job) d.job.key d.rules f)
      (sym h.1) h.0.of_run

  newest_found : Finds → d.job.recover ≢ No → NewestIs d.disk.old.seen (newest_left found)
  newest_found (inl h) not = absurd (not h.1)
  newest_found (inr h) not = subst (λ (n : Option ℕ). NewestIs d.disk.old.seen n)
      (sym (ap newest_left h.1)) h.0.newest_is

  start_found : Finds → ResumesFrom d.job.recover d.disk.old.seen (newest_left found)
  start_found (inl h) = subst (λ (n : Option ℕ). ResumesFrom d.job.recover d.disk.old.seen n)
      (sym (ap newest_left h.0)) (resumes_from_none d.job.recover d.disk.old.seen h.1)
  start_found (inr h) = resumes_from_newest d.job.recover d.disk.old.seen (newest_left found) h.2
      (newest_found (inr h) h.2)

  -- ---- the disk as the run begins

  module _ (lengths : HasLengths (output_count (setup_of d.job)) found)
      (started : d.disk.tells → IsStarted d.job d.job.recover found d.disk.old mid) where
    pub begins_driven : StartsWell d → d.disk.tells → IsDriven r [] mid
    begins_driven well t =
        let fs : Finds = finds well t in
        let follow : WorksFollow r = laws.follow found (of_run fs) in
        let st : Stands (course_by r) (newest_left found) (next_of r [] (works_by r)) mid =
        (started t).stands (course d) (can_start d laws (trails_or_given d laws well))
        (next_of r [] (works_by r)) follow.begun.later in
        record {
          of_run = of_run fs;
          left = works_by r;
          has = refl;
          files = λ j lt.
              let counted_is : length_left found j ≡ length (mid.seen (file_of_output j)) =
              sym (left_at (output_count (setup_of d.job)) found j lt)
              ∙ (started t).left.counts j (subst (λ (n : ℕ). j < n) (sym lengths) lt) in
              st.fronts j (subst (λ (n : ℕ). j < n) (sym (output_count_is r)) lt)
              ∙ ap (λ (n : ℕ). take n (text_of (course d) j)) (sym counted_is)
              ∙ sym (follow.begun.outputs j lt);
          stands = st;
        }

  -- ---- each moment

  within_run : Finds → d.disk.tells → (image : Files) → IsImageOf r image → KeepsTrail d image
  within_run fs t image w =
      let follow : WorksFollow r = laws.follow found (of_run fs) in
      record {
        trail = w.trail.trail;
        not_behind = λ not. record {
          first = d.disk.old.seen;
          was = reads t;
          not_below = λ n m one other. subst (λ (x : Option ℕ). IsNotBelow x m)
              (only_newest image (newest_of r w.done) n w.trail.newest_is one)
              (subst (λ (x : Option ℕ). IsNotBelow (newest_of r w.done) x)
              (only_newest d.disk.old.seen (newest_left found) m (newest_found fs not) other)
              (behind found refl follow));
        };
        pace = λ c j has lt long longer n is.
            subst (λ (x : Option ℕ). IsNotBelow x (Some c.iteration))
            (only_newest image (newest_of r w.done) n w.trail.newest_is is)
            (at_least (newest_of r w.done) c.iteration
            (follow.pace w.done w.left c j (length (image (file_of_output j))) w.has
            (subst (λ (k : ℕ). j < k) (output_count_is r) lt)
            (bound j lt (next_of r w.done w.left) w.trail.within) has long));
      }
    where
      bound : (j : ℕ) → j < length (course d).outputs → (next : Option Checkpoint)
          → AreWithin (course d) next image
          → IfSome next (λ e. length (image (file_of_output j)) ≤ length_in e j)
      bound j lt None h = tt
      bound j lt (Some e) h = h j lt

      behind : (f : Option Checkpoint) → found ≡ f → WorksFollow r
          → IsNotBelow (newest_of r w.done) (newest_left f)
      behind None is follow = tt
      behind (Some c) is follow =
          at_least (newest_of r w.done) c.iteration
          (follow.not_behind w.done w.left c w.has is)

  -- a start that is done has split its former output
  fits_old : d.disk.tells → FitsOld d
  fits_old t a b long =
      let bad : Ok found ≡ Err (begin_faults.OldTooLong a b) = sym (is_begun t) ∙ long in absurd cc

  pub leaves_trails : HasLengths (output_count (setup_of d.job)) found
      → (d.disk.tells → IsStarted d.job d.job.recover found d.disk.old mid)
      → (d.disk.tells → StartMoments d.job d.job.recover d.disk.old mid)
      → RunLeaves (setting d) found mid d.disk.new
      → AreTold d → AreTrails (course d) d.disk.old → LeavesTrails d
  leaves_trails lengths started moments runs told trails =
      let well : StartsWell d = inl (trails, fits_old told.0) in
      let fs : Finds = finds well told.0 in
      joins (KeepsTrail d)
      (start_trails d laws mid moments told.0 trails)
      (runs told.0 told.1 (begins_driven lengths started well told.0))
      (within_run fs told.0)

  -- ---- the end

  trace_is : trace_in (setting d) found ≡ run_from (setup_of d.job) d.rules found
  trace_is = ap (λ (b : Beginning). undivided_from (setup_of d.job) d.rules b)
      (same_beginning (setup_of d.job) found)

  module _ (core : Cores) (runs : RunsBy (setting d) (again_in d) (start_at d found mid)
      (place_behind d core)) where
    ended_by : d.wire.tells
        → core.outcome ≡ ended_as (run_from (setup_of d.job) d.rules found).outcome
    ended_by t = runs.ended t ∙ ap (λ (u : Trace). ended_as u.outcome) trace_is

    has_scalars : d.wire.tells → core.outcome ≡ Done → (run : Trace)
        → (trace_in (setting d) found).outcome ≡ run.outcome → HasScalarsOf run d core
    has_scalars t is run same state v goes scalar =
        (runs.done t is).last state v (same ∙ goes) scalar

    pub has_run : HasRun d core
    has_run = record {
      over = runs.over;
      found = found;
      began = is_begun;
      ended = λ told. ended_by told.1;
      scalars = λ told is. has_scalars told.1 is (run_from (setup_of d.job) d.rules found)
          (ap (λ (u : Trace). u.outcome) trace_is);
      length_is = λ t. record {
        count = runs.lengths;
        each = λ j lt. runs.counts t j (subst (λ (n : ℕ). j < n) (sym runs.lengths) lt);
      };
    }

    -- nothing is left of the works
    all_done : Finds → IsAllDone r (works_by r)
    all_done fs =
        (laws.follow found (of_run fs)).all_done (works_by r) (sym (append-nil (works_by r)))

    goes_on : Finds → GoesOn (setup_of d.job) d.rules found
    goes_on fs = laws.goes_on found (of_run fs)

    abbrev entries_left : List Entry
    entries_left = entries_from (setup_of d.job) d.rules (newest_left found)

    entries : Finds → (trace_in (setting d) found).entries ≡ entries_left
    entries fs = ap (λ (u : Trace). u.entries) trace_is ∙ (goes_on fs).entries

    outcome : Finds → (trace_in (setting d) found).outcome
        ≡ (undivided_run (setup_of d.job) d.rules).outcome
    outcome fs = ap (λ (u : Trace). u.outcome) trace_is ∙ (goes_on fs).outcome

    abbrev cut : Parts
    cut = parts_of d.job.shape (first_cut d.specs d.job found)

    same_work : (fs : Finds) (f : List Entry → ℕ)
        → f (trace_in (setting d) found).entries ≡ f entries_left
    same_work fs f = ap f (entries fs)

    has_worked : (fs : Finds)
        → IsDoneBy (setting d) (again_in d) (start_at d found mid) (place_behind d core)
        → Continues (setup_of d.job) d.rules → HasWorked d
    has_worked fs done continues = record {
      start = newest_left found;
      start_is = start_found fs;
      cut = cut;
      cut_is = cut_first d continues found (of_run fs);
      done = record {
        points = done.totals.points
            ∙ ap (λ (n : ℕ). raised d.meter.old n)
            (same_work fs (work_in (setup_of d.job) (again_in d) cut));
        values = done.totals.values
            ∙ ap (λ (n : ℕ). counted d.wire.old.received n)
            (same_work fs (carried_in (setup_of d.job) (again_in d) cut));
        sum = done.totals.sum
            ∙ ap (λ (n : ℕ). (d.wire.old.sum + n) % 2 ^ 64)
            (same_work fs (sum_in (setup_of d.job) (again_in d) cut));
        none_left = done.none_left;
      };
    }

    pub has_ended : Continues (setup_of d.job) d.rules
        → HasLengths (output_count (setup_of d.job)) found
        → (d.disk.tells → IsStarted d.job d.job.recover found d.disk.old mid)
        → AreTold d → StartsWell d → HasEnded d core
    has_ended continues lengths started told well =
        let fs : Finds = finds well told.0 in
        let driven : IsDriven r (works_by r) d.disk.new =
        runs.driven told.0 told.1 (begins_driven lengths started well told.0) in
        let all : IsAllDone r (works_by r) = all_done fs in
        record {
          output = λ j lt.
              let file_is : d.disk.new.seen (file_of_output j) ≡ text_of (course d) j =
              driven.files j lt ∙ all.outputs j lt in
              record {
                reads = file_is;
                images = λ image now. runs.settled told.0 j lt image now ∙ file_is;
              };
          end = runs.ended told.1 ∙ ap ended_as (outcome fs);
          work = λ is. has_worked fs (runs.done told.1 is) continues;
          scalars = λ is. has_scalars told.1 is (undivided_run (setup_of d.job) d.rules)
              (outcome fs);
          last = λ image now. (
            newest_of r (works_by r),
            newest_same d.disk.new.seen image (λ s lt. driven.stands.slots s lt image now)
                (newest_of r (works_by r)) driven.stands.newest_is,
            all.newest,
          );
        }

    pub lends : LendsScalars d.job core
    lends v var level scalar = runs.scalars v var level scalar
