-- A trail of the program before this one is a trail of this program.
use Rattle.std.proofs.Common.{◌≡◌, ℕ, ◌+◌, ◌≤◌, refl, sym, ap, ◌∙◌, subst, Bool, true, false, ◌==◌, nat_le, List, [], ◌∷◌, ◌++◌, length, take, append_assoc, Option, Some, None, if◌then◌else◌, arith, le-leb, leb-true}
use Rattle.cx_disk.specs.Disk.{Files}
use Rattle.cx_disk.specs.Files.{old_output_file}
use Rattle.cx_plan.specs.declared.job.Job.{Job}
use Rattle.cx_plan.specs.declared.variable.VarId.{VarId}
use Rattle.cx_plan.specs.Setups.{setup_of}
use Rattle.cx_plan.specs.Whole.{IsWhole}
use Rattle.cx_rule.specs.Routine.{Rule}
use Rattle.cx_model.specs.States.{start}
use Rattle.cx_model.specs.Stages.{stages}
use Rattle.cx_model.specs.Traces.{Entry, Turned, Overflowed, Exchanged, Tested, Rotated, Wrote, Saved, Outcome, Trace, after}
use Rattle.cx_model.specs.Runs.{Lengths, no_lengths, lengths_after, lengths_behind, greatest_output, text_to, text_added, former_output, old_output, passing, stop_or, within_limit, run_stages, undivided_run}
use Rattle.cx_model.proofs.WalkLaws.{Each}
use Rattle.cx_chk.specs.declared.checkpoint.Checkpoint.{Checkpoint}
use Rattle.cx_chk.specs.Encoding.{SpellsSlot}
use Rattle.cx_chk.specs.Slots.{is_second}
use Rattle.cx_keep.specs.Trails.{Has, GoesAsFar, IsOfRun, Reaches, former_length, in_version, with_key}
use Rattle.law_course.specs.Courses.{checkpoint_of, checkpoints_in, course_of}
use Rattle.law_course.specs.Formers.{within_former, former_run, former_checkpoint, IsOfFormerRun, FormerIsTrail}
use Rattle.law_course.proofs.OutputLaws.{WritesTo, run_writes, each_front, after_is, rise_from, former_size, former_front}
use Rattle.law_course.proofs.PlaceLaws.{has_there}

-- ---- its run is the first of this program's

no_more : (b : Bool) (text : List ℕ) → length (if b then text else []) ≤ length text
no_more true text = omega arith
no_more false text = omega arith

text_within : (e : Entry) (v : VarId) → length (text_to v e) ≤ length (text_added e)
text_within (Wrote w i text state) v = no_more (w.0 == v.0) text
text_within (Turned k i state) v = omega arith
text_within (Overflowed k i state) v = omega arith
text_within (Exchanged vars path state) v = omega arith
text_within (Tested w path state) v = omega arith
text_within (Rotated state) v = omega arith
text_within (Saved i state) v = omega arith

-- no output is longer than all are together
small_after : (e : Entry) (n : ℕ) (so_far : Lengths) → ((v : ℕ) → so_far v ≤ n) → (v : ℕ)
    → lengths_after so_far e v ≤ n + length (text_added e)
small_after e n so_far small v =
    let one = after_is so_far e (record { 0 = v }) in
    let text = text_within e (record { 0 = v }) in
    let was = small v in
    omega (arith, one, text, was)

sum_within : (a b n limit : ℕ) → a ≤ n → n + b ≤ limit → a + b ≤ limit
sum_within a b n limit h l = omega (arith, h, l)

-- what all outputs together have room for, each of them has
has_room : (e : Entry) (n : ℕ) (so_far : Lengths) → ((v : ℕ) → so_far v ≤ n)
    → nat_le (n + length (text_added e)) greatest_output ≡ true → passing so_far e ≡ None
has_room (Wrote w i text state) n so_far small is =
    ap (λ (b : Bool). if b then None else Some i)
    (le-leb (so_far w.0 + length text) greatest_output
    (sum_within (so_far w.0) (length text) n greatest_output (small w.0)
    (leb-true (n + length text) greatest_output is)))
has_room (Turned k i state) n so_far small is = refl
has_room (Overflowed k i state) n so_far small is = refl
has_room (Exchanged vars path state) n so_far small is = refl
has_room (Tested w path state) n so_far small is = refl
has_room (Rotated state) n so_far small is = refl
has_room (Saved i state) n so_far small is = refl

abbrev IsFirst : List Entry → List Entry → Type 0
IsFirst first all = (rest : List Entry) × (all ≡ first ++ rest)

former_first : (es : List Entry) (n : ℕ) (so_far : Lengths) (o : Outcome)
    → ((v : ℕ) → so_far v ≤ n)
    → IsFirst (within_former n es) (within_limit so_far es o).entries
former_first [] n so_far o small = ([], refl)
former_first (e ∷ es) n so_far o small =
    by (nat_le (n + length (text_added e)) greatest_output) refl
    (former_first es (n + length (text_added e)) (lengths_after so_far e) o
    (small_after e n so_far small))
  where
    inner : Trace
    inner = within_limit (lengths_after so_far e) es o

    by : (b : Bool) → nat_le (n + length (text_added e)) greatest_output ≡ b
        → IsFirst (within_former (n + length (text_added e)) es)
        (within_limit (lengths_after so_far e) es o).entries
        → IsFirst (if b then e ∷ within_former (n + length (text_added e)) es else [])
        (stop_or (passing so_far e)
        (after (e ∷ []) (within_limit (lengths_after so_far e) es o))).entries
    by true is more = (
      more.0,
      ap (λ (p : Option ℕ).
          (stop_or p (after (e ∷ []) (within_limit (lengths_after so_far e) es o))).entries)
          (has_room e n so_far small is)
          ∙ ap (λ (l : List Entry). e ∷ l) more.1,
    )
    by false is more = (
      (stop_or (passing so_far e)
          (after (e ∷ []) (within_limit (lengths_after so_far e) es o))).entries,
      refl,
    )

-- ---- its trails

module _ (job : Job) (job_is : IsWhole job) (rules : List Rule) (files : Files) (bytes : List ℕ)
    (s : IsOfFormerRun (setup_of job) job.key rules files bytes) where
  run_first : IsFirst (former_run (setup_of job) rules) (undivided_run (setup_of job) rules).entries
  run_first =
      let t = run_stages (setup_of job) rules (stages (setup_of job)) (start (setup_of job)) in
      former_first t.entries 0 no_lengths t.outcome (λ v. omega arith)

  abbrev here : Checkpoint
  here = checkpoint_of (setup_of job) job.key s.iteration s.state
      (lengths_behind no_lengths s.earlier)

  there : (undivided_run (setup_of job) rules).entries
      ≡ s.earlier ++ Saved s.iteration s.state ∷ (s.later ++ run_first.0)
  there = run_first.1 ∙ ap (λ (l : List Entry). l ++ run_first.0) s.there
      ∙ append_assoc s.earlier (Saved s.iteration s.state ∷ s.later) run_first.0

  of_run : Has (course_of (setup_of job) job.key rules).checkpoints here
  of_run = subst (λ (es : List Entry). Has (checkpoints_in (setup_of job) job.key no_lengths es)
      (checkpoint_of (setup_of job) job.key s.iteration s.state
      (lengths_behind no_lengths s.earlier))) (sym there)
      (has_there (setup_of job) job.key s.earlier (s.later ++ run_first.0) no_lengths s.iteration
      s.state)

  count_is : former_length here ≡ length (former_output s.earlier)
  count_is = former_size job.out_vars s.earlier (rise_from job.out_vars job_is.outputs_rise)
      (each_front (WritesTo job.out_vars) s.earlier
      (Saved s.iteration s.state ∷ (s.later ++ run_first.0))
      (subst (Each (WritesTo job.out_vars)) there (run_writes (setup_of job) rules)))

  first : is_second bytes ≡ false
  first = ap is_second s.spelled.spelled

  spelled : SpellsSlot bytes (in_version false here)
  spelled = subst (λ (n : ℕ). SpellsSlot bytes
      (former_checkpoint (setup_of job) job.key s.iteration s.state n)) (sym count_is) s.spelled

  same_front : take (length (former_output s.earlier))
      (former_output (former_run (setup_of job) rules))
      ≡ take (length (former_output s.earlier)) (old_output (setup_of job) rules)
  same_front =
      ap (λ (es : List Entry). take (length (former_output s.earlier)) (former_output es)) s.there
      ∙ former_front s.earlier (Saved s.iteration s.state ∷ s.later)
      ∙ sym (ap (λ (es : List Entry). take (length (former_output s.earlier)) (former_output es))
      there ∙ former_front s.earlier (Saved s.iteration s.state ∷ (s.later ++ run_first.0)))

  reaches : Reaches (course_of (setup_of job) job.key rules) false here files
  reaches = subst (λ (n : ℕ). GoesAsFar n (old_output (setup_of job) rules) (files old_output_file))
      (sym count_is)
      (record { long_enough = s.reached.long_enough; front = s.reached.front ∙ same_front })

  pub is_of_run : (r : IsOfRun (course_of (setup_of job) job.key rules) bytes)
      × Reaches (course_of (setup_of job) job.key rules) (is_second bytes) r.checkpoint files
  is_of_run = (
    record {
      checkpoint = here;
      of_run = of_run;
      key = job.key;
      key_fits = refl;
      spelled = subst (λ (b : Bool). SpellsSlot bytes (with_key job.key (in_version b here)))
          (sym first) spelled;
    },
    subst (λ (b : Bool). Reaches (course_of (setup_of job) job.key rules) b here files) (sym first)
        reaches,
  )

pub former_is_trail : (job : Job) → IsWhole job → (rules : List Rule) → FormerIsTrail job rules
former_is_trail job job_is rules files former slot n known head =
    is_of_run job job_is rules files (files slot) (former slot n known head)
