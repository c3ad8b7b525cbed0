-- Jobs that are steered alike up to an iteration have one course up to there.
use Rattle.std.proofs.Common.{◌≡◌, ℕ, ◌<◌, ◌≤◌, refl, sym, ap, ◌∙◌, subst, Bool, true, false, List, ◌∷◌, length, take, Some, arith}
use Rattle.cx_disk.specs.Disk.{Files}
use Rattle.cx_plan.specs.declared.job.Job.{Job}
use Rattle.cx_plan.specs.declared.steered.Steered.{Steered}
use Rattle.cx_plan.specs.declared.variable.VarId.{VarId}
use Rattle.cx_plan.specs.Setups.{Setup, setup_of}
use Rattle.cx_rule.specs.Routine.{Rule}
use Rattle.cx_model.specs.Runs.{Lengths, output, former_output, old_output, Reaches}
use Rattle.cx_model.specs.Steers.{steered_as, steers_to, SameUpTo}
use Rattle.cx_model.specs.Traces.{Entry, Saved}
use Rattle.cx_model.proofs.CheckpointLaws.{run-continues}
use Rattle.cx_model.proofs.SteerLaws.{steered_alike}
use Rattle.cx_model.proofs.WalkLaws.{Each}
use Rattle.cx_chk.specs.declared.checkpoint.Checkpoint.{Checkpoint}
use Rattle.cx_chk.specs.Encoding.{SpellsSlot}
use Rattle.cx_chk.specs.Slots.{is_second}
use Rattle.cx_outputs.specs.Names.{lengths_in}
use Rattle.cx_keep.specs.Agreement.{Agree}
use Rattle.cx_keep.specs.Trails.{Course, Has, IsTrail, NewestIs, Reaches as FilesReach, former_length, in_version, length_in, text_of, total, with_key}
use Rattle.cx_keep.proofs.AgreementLaws.{earlier}
use Rattle.cx_keep.proofs.Saves.{header_of_run}
use Rattle.law_course.specs.Courses.{course_of, IsPlace}
use Rattle.law_course.specs.Starts.{AreAlikeTo, HaveOneCourseTo}
use Rattle.law_course.proofs.OutputLaws.{Rise, WritesTo, run_writes, each_front, var_at, length_at, text_at, count_of, former_size, former_front}
use Rattle.law_course.proofs.PlaceLaws.{has_places}

some_is : (x y : ℕ) → Some x ≡ Some y → x ≡ y
some_is x y e = cc

-- a version of a checkpoint under one key or another
one_version : (b : Bool) (k own : List ℕ) (chk : Checkpoint)
    → with_key k (in_version b (with_key own chk)) ≡ with_key k (in_version b chk)
one_version true k own chk = refl
one_version false k own chk = refl

module _ (setup : Setup) (other : List Steered) (rules : List Rule) (rise : Rise setup.out_vars)
    (key own : List ℕ) (c : ℕ) (same : steers_to c setup.steers ≡ steers_to c other)
    (agree : Agree c key own) where
  abbrev two : Setup
  two = steered_as setup other

  abbrev first : Course
  first = course_of setup key rules

  abbrev second : Course
  second = course_of two own rules

  same_run : SameUpTo setup other rules c
  same_run = steered_alike setup rules other c same

  place : (chk : Checkpoint) → Has first.checkpoints chk → IsPlace setup key rules chk
  place chk has = (has_places setup rules (run-continues setup rules) key).places chk has

  -- a checkpoint is one of the other run too
  also : (chk : Checkpoint) → Has first.checkpoints chk → chk.iteration ≤ c
      → Has second.checkpoints (with_key own chk)
  also chk has le =
      let p = place chk has in
      subst (λ (d : Checkpoint). Has second.checkpoints (with_key own d)) (sym p.packed)
      ((has_places two rules (run-continues two rules) own).all chk.iteration p.state p.so_far
      (same_run.places chk.iteration p.state p.so_far le p.reached).0)

  module _ (chk : Checkpoint) (has : Has first.checkpoints chk) (le : chk.iteration ≤ c) where
    p : IsPlace setup key rules chk
    p = place chk has

    -- so much of each output is the same
    one_text : (j : ℕ) → j < length setup.out_vars
        → take (length_in chk j) (text_of first j) ≡ take (length_in chk j) (text_of second j)
    one_text j lt =
        let v : VarId = var_at setup.out_vars j in
        let far : length_in chk j ≡ p.so_far v.0 =
        ap (λ (d : Checkpoint). length_in d j) p.packed
        ∙ length_at setup.out_vars p.so_far j lt in
        ap (λ (n : ℕ). take n (text_of first j)) far
        ∙ ap (take (p.so_far v.0)) (text_at setup.out_vars (output setup rules) j lt)
        ∙ same_run.output chk.iteration p.state p.so_far le p.reached v
        ∙ ap (take (p.so_far v.0)) (sym (text_at setup.out_vars (output two rules) j lt))
        ∙ ap (λ (n : ℕ). take n (text_of second j)) (sym far)

    -- and so much of all outputs together
    front_at : (s : Setup) (q : Reaches s rules chk.iteration p.state p.so_far)
        → former_length chk ≡ length (former_output q.earlier)
        → take (former_length chk) (old_output s rules) ≡ former_output q.earlier
    front_at s q long =
        ap (λ (n : ℕ). take n (old_output s rules)) long
        ∙ ap (λ (es : List Entry). take (length (former_output q.earlier)) (former_output es))
        q.there
        ∙ former_front q.earlier (Saved chk.iteration p.state ∷ q.later)

    one_former : take (former_length chk) first.former ≡ take (former_length chk) second.former
    one_former =
        let both = same_run.places chk.iteration p.state p.so_far le p.reached in
        let write : Each (WritesTo setup.out_vars) p.reached.earlier =
        each_front (WritesTo setup.out_vars) p.reached.earlier
        (Saved chk.iteration p.state ∷ p.reached.later)
        (subst (Each (WritesTo setup.out_vars)) p.reached.there (run_writes setup rules)) in
        let long : former_length chk ≡ length (former_output p.reached.earlier) =
        ap (λ (d : Checkpoint). total d.lengths) p.packed
        ∙ ap (λ (n : Lengths). total (lengths_in setup.out_vars n)) p.reached.lengths_there
        ∙ former_size setup.out_vars p.reached.earlier rise write in
        front_at setup p.reached long
        ∙ ap former_output (sym both.1)
        ∙ sym (front_at two both.0
        (long ∙ ap (λ (es : List Entry). length (former_output es)) (sym both.1)))

    reach : (b : Bool) (files : Files) → FilesReach first b chk files
        → FilesReach second b (with_key own chk) files
    reach true files r = λ j lt.
        let known : j < length setup.out_vars =
        subst (λ (n : ℕ). j < n) (count_of setup.out_vars (output two rules)) lt in
        let was = r j (subst (λ (n : ℕ). j < n)
        (sym (count_of setup.out_vars (output setup rules))) known) in
        record { long_enough = was.long_enough; front = was.front ∙ one_text j known }
    reach false files r =
        record { long_enough = r.long_enough; front = r.front ∙ one_former }

    -- a slot's key agrees with the other's too
    one_key : (k : List ℕ) → Agree chk.iteration k chk.key → Agree chk.iteration k own
    one_key k fits =
        let keyed : chk.key ≡ key = ap (λ (d : Checkpoint). d.key) p.packed in
        subst (λ (l : List ℕ). Agree chk.iteration k l) keyed fits
        ∙ earlier chk.iteration c key own le agree

  one_trail : (files : Files) (newest : ℕ) → NewestIs files (Some newest) → newest ≤ c
      → IsTrail first files → IsTrail second files
  one_trail files newest is le trail slot n lt head =
      let t = trail slot n lt head in
      let s = t.0 in
      let at : n ≡ s.checkpoint.iteration =
      some_is n s.checkpoint.iteration (sym head ∙ header_of_run first (files slot) s) in
      let top : n ≤ newest = is.greatest slot n lt head in
      let low : s.checkpoint.iteration ≤ c = omega (arith, at, top, le) in (
        record {
          checkpoint = with_key own s.checkpoint;
          of_run = also s.checkpoint s.of_run low;
          key = s.key;
          key_fits = one_key s.checkpoint s.of_run low s.key s.key_fits;
          spelled = subst (SpellsSlot (files slot))
              (sym (one_version (is_second (files slot)) s.key own s.checkpoint)) s.spelled;
        },
        reach s.checkpoint s.of_run low (is_second (files slot)) files t.1,
      )

pub one_course_to : (a b : Job) (rules : List Rule) (c : ℕ) → Rise a.out_vars → AreAlikeTo c a b
    → HaveOneCourseTo c a b rules
one_course_to a b rules c rise alike =
    record {
      run = same_run (setup_of a) b.steers rules rise a.key b.key c alike.steers alike.key;
      checkpoints = λ chk has le.
          subst (λ (s : Setup). Has (course_of s b.key rules).checkpoints (with_key b.key chk))
          (sym alike.setup)
          (also (setup_of a) b.steers rules rise a.key b.key c alike.steers alike.key chk has le);
      trails = λ files newest is le trail.
          subst (λ (s : Setup). IsTrail (course_of s b.key rules) files) (sym alike.setup)
          (one_trail (setup_of a) b.steers rules rise a.key b.key c alike.steers alike.key files
          newest is le trail);
    }
