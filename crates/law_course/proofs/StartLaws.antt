-- A start on a trail of a run is not refused, and jobs of one setup and one key have one course.
use Rattle.std.proofs.Common.{◌≡◌, ◌⊎◌, inl, inr, ℕ, suc, ◌+◌, ◌<◌, ◌≤◌, refl, sym, ap, ap₂, ◌∙◌, subst, Bool, true, false, ◌&&◌, List, [], ◌∷◌, map, length, take, Option, Some, None, Ok, Err, nat_le, le-leb, arith, true≢false, if◌then◌else◌}
use Rattle.std.specs.Prelude.{slice_index, slice_index_or}
use Rattle.std.proofs.lemmas.Bool.Decides.{nat_tests}
use Rattle.std.proofs.lemmas.List.{length-take-le}
use Rattle.cx_disk.specs.Disk.{Files}
use Rattle.cx_disk.specs.Files.{slot_count, old_output_file}
use Rattle.cx_plan.specs.declared.job.Job.{Job}
use Rattle.cx_plan.specs.declared.job.Recover.{Recover}
use Rattle.cx_plan.specs.declared.job.Recover.TheVariants.{No, Auto, Autoprobe}
use Rattle.cx_plan.specs.Dues.{is_due}
use Rattle.cx_plan.specs.Setups.{Setup, setup_of}
use Rattle.cx_rule.specs.Routine.{Rule}
use Rattle.cx_model.specs.Runs.{undivided_run}
use Rattle.cx_outputs.specs.Names.{full_names, output_names}
use Rattle.cx_ascii_read.specs.Splitting.{split_of}
use Rattle.cx_chk.specs.declared.checkpoint.Checkpoint.{Checkpoint}
use Rattle.cx_chk.specs.Encoding.{SpellsSlot}
use Rattle.cx_chk.specs.Slots.{is_second, newest_below, NewestBelow}
use Rattle.cx_chk.proofs.Choosing.{newest_law}
use Rattle.cx_keep.specs.declared.fault.BeginFault.{BeginFault}
use Rattle.cx_keep.specs.declared.fault.BeginFault.TheVariants as faults
use Rattle.cx_keep.specs.Fits.{fits_job, outputs_fit}
use Rattle.cx_keep.specs.Renewing.{fronts_in, fronts_at}
use Rattle.cx_keep.specs.Tests.{SpellsAgreeing, begun_from, resumed, tested, outputs_judged, former_judged, greatest_former, renewed, or_short, short_in, short_from}
use Rattle.cx_keep.specs.Trails.{Course, Has, IsOfRun, IsTrail, NewestIs, Reaches, OutputsReach, GoesAsFar, former_of, former_length, in_version, with_key, length_in, file_of_output}
use Rattle.cx_keep.proofs.Saves.{header_of_run}
use Rattle.cx_keep.proofs.Tested.{passed}
use Rattle.law_course.specs.Courses.{course_of, CourseFits, CourseSplits, FitsJob}
use Rattle.law_course.specs.Starts.{course_in, begun_with, BeginsOn, IsTooLong, TrailsBegin, HaveOneCourse}

-- ---- one course

pub one_course : (a b : Job) (rules : List Rule) → setup_of a ≡ setup_of b → a.key ≡ b.key
    → HaveOneCourse a b rules
one_course a b rules one_setup one_key =
    let course = ap₂ (λ (setup : Setup) (key : List ℕ). course_of setup key rules)
    one_setup one_key in
    record {
      run = ap (λ (setup : Setup). undivided_run setup rules) one_setup;
      course = course;
      trails = λ files trail. subst (λ (c : Course). IsTrail c files) course trail;
    }

-- ---- what a start comes to

begun_none : (job : Job) (files : Files) (recover : Recover)
    → begun_from job files recover None ≡ begun_with recover None
begun_none job files No = refl
begun_none job files Auto = refl
begun_none job files Autoprobe = refl

begun_some : (job : Job) (files : Files) (recover : Recover) (found : ℕ × ℕ) (c : Checkpoint)
    → tested job files found.0 ≡ Ok c
    → begun_from job files recover (Some found) ≡ begun_with recover (Some c)
begun_some job files No found c e = refl
begun_some job files Auto found c e = ap resumed e
begun_some job files Autoprobe found c e = ap resumed e

begun_fault : (job : Job) (files : Files) (recover : Recover) (found : ℕ × ℕ) (c : Checkpoint)
    (fault : BeginFault) → tested job files found.0 ≡ Err fault
    → (begun_from job files recover (Some found) ≡ begun_with recover (Some c))
    ⊎ (begun_from job files recover (Some found) ≡ Err fault)
begun_fault job files No found c fault e = inl refl
begun_fault job files Auto found c fault e = inr (ap resumed e)
begun_fault job files Autoprobe found c fault e = inr (ap resumed e)

some_is : {A : Type 0} (x y : A) → Some x ≡ Some y → x ≡ y
some_is x y e = cc

-- ---- the tests of outputs

-- no output is short where each is long enough
none_short : (k : ℕ) (ns : List ℕ) (files : Files)
    → ((j : ℕ) → j < length ns → slice_index ns j ≤ length (files (file_of_output (k + j))))
    → short_from k ns files ≡ None
none_short k [] files each = refl
none_short k (n ∷ ns) files each =
    by (nat_le n (length (files (file_of_output k)))) (length (files (file_of_output k)), n)
    (le-leb n (length (files (file_of_output k))) first)
    (none_short (k + 1) ns files rest)
  where
    first : n ≤ length (files (file_of_output k))
    first = let e : k + 0 ≡ k = omega arith in
        subst (λ (i : ℕ). n ≤ length (files (file_of_output i))) e (each 0 (omega arith))

    rest : (j : ℕ) → j < length ns → slice_index ns j ≤ length (files (file_of_output (k + 1 + j)))
    rest j lt = let e : k + suc j ≡ k + 1 + j = omega arith in
        subst (λ (i : ℕ). slice_index ns j ≤ length (files (file_of_output i))) e
        (each (suc j) (omega (arith, lt)))

    by : (b : Bool) (short : ℕ × ℕ) → b ≡ true → short_from (k + 1) ns files ≡ None
        → (if b then short_from (k + 1) ns files else Some short) ≡ None
    by true short e none = none
    by false short e none = absurd (true≢false (sym e))

-- fronts have the lengths that are recorded
fronts_sizes : (ns : List ℕ) (ts : List (List ℕ)) → length ns ≡ length ts
    → ((j : ℕ) → j < length ts → slice_index ns j ≤ length (slice_index_or ts j []))
    → map (λ (t : List ℕ). length t) (fronts_in ns ts) ≡ ns
fronts_sizes [] [] e within = refl
fronts_sizes [] (t ∷ ts) e within = absurd (omega (arith, e))
fronts_sizes (n ∷ ns) [] e within = absurd (omega (arith, e))
fronts_sizes (n ∷ ns) (t ∷ ts) e within =
    let first : length (take n t) ≡ n = length-take-le n t (within 0 (omega arith)) in
    let rest : map (λ (u : List ℕ). length u) (fronts_in ns ts) ≡ ns =
    fronts_sizes ns ts (omega (arith, e)) (λ j lt. within (suc j) (omega (arith, lt))) in
    (λ i. first i ∷ rest i)

and_first : (a b : Bool) → (a && b) ≡ true → a ≡ true
and_first true b e = refl
and_first false b e = absurd (true≢false (sym e))

and_second : (a b : Bool) → (a && b) ≡ true → b ≡ true
and_second true b e = e
and_second false b e = absurd (true≢false (sym e))

and_both : (a b : Bool) → a ≡ true → b ≡ true → (a && b) ≡ true
and_both a b e f = rw e f

-- what fits in version 2 fits in version 1
former_fits : (job : Job) (c : Checkpoint) → fits_job job c ≡ true
    → fits_job job (former_of c) ≡ true
former_fits job c fits =
    let due = and_first (is_due (setup_of job) c.iteration) _ fits in
    let rest = and_second (is_due (setup_of job) c.iteration) _ fits in
    and_both (is_due (setup_of job) c.iteration) _ due
    (and_both (outputs_fit job (former_of c)) _ refl (and_second (outputs_fit job c) _ rest))

more_than : (n limit : ℕ) → nat_le n limit ≡ false → limit < n
more_than n limit e = grind (arith, nat_tests)

-- ---- a trail

module _ (job : Job) (rules : List Rule) (fits : CourseFits job rules)
    (splits : CourseSplits (setup_of job) (course_in job rules)) (files : Files)
    (trail : IsTrail (course_in job rules) files) where
  -- a slot spells a version of the run's checkpoint under a key that agrees with its own
  spelled_in : (slot : ℕ) (s : IsOfRun (course_in job rules) (files slot)) (second : Bool)
      → is_second (files slot) ≡ second
      → SpellsAgreeing (files slot) (in_version second s.checkpoint)
  spelled_in slot s true is =
      record {
        key = s.key;
        agrees = s.key_fits;
        spelled = subst
            (λ (b : Bool). SpellsSlot (files slot) (with_key s.key (in_version b s.checkpoint))) is
            s.spelled;
      }
  spelled_in slot s false is =
      record {
        key = s.key;
        agrees = s.key_fits;
        spelled = subst
            (λ (b : Bool). SpellsSlot (files slot) (with_key s.key (in_version b s.checkpoint))) is
            s.spelled;
      }

  -- in version 2 all tests pass
  second_passes : (slot : ℕ) (c : Checkpoint) → Has (course_in job rules).checkpoints c
      → SpellsAgreeing (files slot) c → OutputsReach (course_in job rules) c files
      → tested job files slot ≡ Ok c
  second_passes slot c has spelled reach =
      let f : FitsJob job c = fits c has in
      let second : c.version ≡ 2 = splits.fronts.version c has in
      let many = splits.fronts.counts c has in
      let none : short_in c files ≡ None =
      none_short 0 c.lengths files
      (λ j lt. let e : 0 + j ≡ j = omega arith in
      subst (λ (i : ℕ). length_in c j ≤ length (files (file_of_output i))) (sym e)
      (reach j (subst (λ (n : ℕ). j < n) many lt)).long_enough) in
      let outputs : outputs_judged job files slot c ≡ or_short c (short_in c files) =
      rw second refl in
      passed job files slot c spelled f.key f.fits ∙ outputs ∙ ap (or_short c) none

  -- a checkpoint of version 1 is made anew as the run's own
  renewed_is : (c : Checkpoint) → Has (course_in job rules).checkpoints c
      → renewed job (former_of c) (fronts_at (course_in job rules) c) ≡ c
  renewed_is c has =
      let sizes : map (λ (t : List ℕ). length t) (fronts_at (course_in job rules) c) ≡ c.lengths =
      fronts_sizes c.lengths (course_in job rules).outputs (splits.fronts.counts c has)
      (λ j lt. splits.fronts.within c j has lt) in
      ap (λ (ns : List ℕ).
      record c { version = 2; names = output_names (setup_of job); lengths = ns }) sizes
      ∙ ap (λ (ns : List (List ℕ)). record c { version = 2; names = ns })
      (sym (splits.splits.named c has))
      ∙ ap (λ (n : ℕ). record c { version = n }) (sym (splits.fronts.version c has))

  -- in version 1 they pass unless the former output is too long
  abbrev TooLong : ℕ → Checkpoint → Type 0
  TooLong slot c = (greatest_former < former_length c)
      × (tested job files slot ≡ Err (faults.OldTooLong (former_length c) greatest_former))

  first_passes : (slot : ℕ) (c : Checkpoint) → Has (course_in job rules).checkpoints c
      → SpellsAgreeing (files slot) (former_of c)
      → GoesAsFar (former_length c) (course_in job rules).former (files old_output_file)
      → (tested job files slot ≡ Ok c) ⊎ TooLong slot c
  first_passes slot c has spelled reach =
      by (nat_le (former_length c) greatest_former) refl
    where
      f : FitsJob job c
      f = fits c has

      long : nat_le (former_length c) (length (files old_output_file)) ≡ true
      long = le-leb (former_length c) (length (files old_output_file)) reach.long_enough

      texts : split_of (take (former_length c) (files old_output_file)) (full_names (setup_of job))
          ≡ Some (fronts_at (course_in job rules) c)
      texts = ap (λ (t : List ℕ). split_of t (full_names (setup_of job))) reach.front
          ∙ splits.splits.split_is c has

      outputs : tested job files slot
          ≡ former_judged job files slot (former_of c) (former_length c)
      outputs = passed job files slot (former_of c) spelled f.key (former_fits job c f.fits)

      by : (b : Bool) → nat_le (former_length c) greatest_former ≡ b
          → (tested job files slot ≡ Ok c) ⊎ TooLong slot c
      by true is =
          let judged_is : former_judged job files slot (former_of c) (former_length c)
          ≡ Ok (renewed job (former_of c) (fronts_at (course_in job rules) c)) =
          rw (long, is, texts) refl in
          inl (outputs ∙ judged_is ∙ ap (λ (d : Checkpoint). Ok d) (renewed_is c has))
      by false is =
          let judged_is : former_judged job files slot (former_of c) (former_length c)
          ≡ Err (faults.OldTooLong (former_length c) greatest_former) =
          rw (long, is) refl in
          inr (more_than (former_length c) greatest_former is, outputs ∙ judged_is)

  passes : (slot : ℕ) (s : IsOfRun (course_in job rules) (files slot)) (second : Bool)
      → is_second (files slot) ≡ second → Reaches (course_in job rules) second s.checkpoint files
      → (tested job files slot ≡ Ok s.checkpoint) ⊎ TooLong slot s.checkpoint
  passes slot s true is reach =
      inl (second_passes slot s.checkpoint s.of_run (spelled_in slot s true is) reach)
  passes slot s false is reach =
      first_passes slot s.checkpoint s.of_run (spelled_in slot s false is) reach

  -- what a start comes to with this newest slot
  comes_to : (found : ℕ × ℕ) (c : Checkpoint) → newest_below slot_count files ≡ Some found
      → (tested job files found.0 ≡ Ok c) ⊎ TooLong found.0 c
      → (begun_from job files job.recover (newest_below slot_count files)
      ≡ begun_with job.recover (Some c)) ⊎ IsTooLong job files (Some c)
  comes_to found c e (inl passed) =
      inl (ap (begun_from job files job.recover) e
      ∙ begun_some job files job.recover found c passed)
  comes_to found c e (inr long) = by (begun_fault job files job.recover found c
      (faults.OldTooLong (former_length c) greatest_former) long.1)
    where
      by : (begun_from job files job.recover (Some found) ≡ begun_with job.recover (Some c))
          ⊎ (begun_from job files job.recover (Some found)
          ≡ Err (faults.OldTooLong (former_length c) greatest_former))
          → (begun_from job files job.recover (newest_below slot_count files)
          ≡ begun_with job.recover (Some c)) ⊎ IsTooLong job files (Some c)
      by (inl same) = inl (ap (begun_from job files job.recover) e ∙ same)
      by (inr fault) = inr (record {
        checkpoint = c;
        is_newest = refl;
        long = long.0;
        begun_is = ap (begun_from job files job.recover) e ∙ fault;
      })

  begins : BeginsOn job rules files
  begins = by (newest_below slot_count files) refl (newest_law slot_count files)
    where
      by : (o : Option (ℕ × ℕ)) → newest_below slot_count files ≡ o → NewestBelow slot_count files o
          → BeginsOn job rules files
      by None e none =
          record {
            newest = None;
            of_run = tt;
            newest_is = none;
            reached = tt;
            begun_is = inl (ap (begun_from job files job.recover) e
                ∙ begun_none job files job.recover);
          }
      by (Some found) e top =
          let t = trail found.0 found.1 top.known top.header in
          let c = t.0.checkpoint in
          let at : found.1 ≡ c.iteration =
          some_is found.1 c.iteration
          (sym top.header ∙ header_of_run (course_in job rules) (files found.0) t.0) in
          record {
            newest = Some c;
            of_run = t.0.of_run;
            newest_is = record {
              slot = found.0;
              known = top.known;
              header = top.header ∙ ap (λ (k : ℕ). Some k) at;
              greatest = λ other m lt head.
                  subst (λ (k : ℕ). m ≤ k) at (top.greatest other m lt head);
            };
            reached = (is_second (files found.0), t.1);
            begun_is = comes_to found c e
                (passes found.0 t.0 (is_second (files found.0)) refl t.1);
          }

pub trails_begin : (job : Job) (rules : List Rule) → CourseFits job rules
    → CourseSplits (setup_of job) (course_in job rules) → TrailsBegin job rules
trails_begin job rules fits splits files trail = begins job rules fits splits files trail

-- ---- files without a checkpoint

none_some : {A : Type 0} (x : A) → None ≡ Some x → ⊥
none_some x e = cc

pub empty_is_trail : (course : Course) (files : Files) → NewestIs files None → IsTrail course files
empty_is_trail course files none slot n lt head = absurd (none_some n (sym (none slot lt) ∙ head))
