-- What a run has written up to a checkpoint place splits into the fronts of its outputs.
use Rattle.std.proofs.Common.{◌≡◌, ◌⊎◌, inl, inr, ℕ, zero, suc, ◌<◌, ◌≤◌, refl, sym, ap, ◌∙◌, subst, Bool, true, false, ◌==◌, ◌||◌, List, [], ◌∷◌, ◌++◌, map, length, take, append-nil, Some, bytes_eq, if◌then◌else◌, arith, eqb-true}
use Rattle.std.specs.List.{flat_map, list_all, list_any, AllByRecursion}
use Rattle.std.proofs.lemmas.Bool.{and_from, eq-eqb}
use Rattle.std.proofs.lemmas.Grind.{flat_map-append}
use Rattle.std.proofs.lemmas.List.Elements.{All-nil, All-cons, All-from_recursion, recursion_from_All}
use Rattle.std.proofs.lemmas.Slice.Eq.{bytes_eq-Decides}
use Rattle.cx_plan.specs.declared.job.Job.{Job}
use Rattle.cx_plan.specs.declared.variable.VarId.{VarId}
use Rattle.cx_plan.specs.Lookups.{variable, no_variable, is_scalar}
use Rattle.cx_plan.specs.Setups.{Setup, setup_of}
use Rattle.cx_plan.specs.Whole.{IsWhole}
use Rattle.cx_rule.specs.Routine.{Rule}
use Rattle.cx_rule.specs.States.{State, level_of, scalar_of}
use Rattle.cx_model.specs.States.{IsState, start}
use Rattle.cx_model.specs.Traces.{Entry, Turned, Overflowed, Exchanged, Tested, Rotated, Wrote, Saved}
use Rattle.cx_model.specs.Runs.{Lengths, no_lengths, lengths_behind, text_to, output, output_of, former_output, old_output, undivided_run}
use Rattle.cx_model.specs.Checkpoints.{Continues}
use Rattle.cx_model.specs.Values.{state_before, KeepsStates}
use Rattle.cx_model.proofs.WalkLaws.{Each}
use Rattle.cx_ascii_read.specs.declared.record.Record.{Record}
use Rattle.cx_ascii_read.specs.Records.{record_text}
use Rattle.cx_ascii_read.specs.Printed.{level_record, value_record}
use Rattle.cx_ascii_read.specs.Splitting.{is_named, text_named, texts_named, split_of, SpelledIsSplit}
use Rattle.law_output_read.specs.RunRecords.{record_of, records_added, former_records}
use Rattle.law_output_read.proofs.RecordLaws.{Laws, former_spelled}
use Rattle.law_output_read.proofs.WalkLaws.{IsText, IsTold, run_told}
use Rattle.cx_chk.specs.declared.checkpoint.Checkpoint.{Checkpoint}
use Rattle.cx_outputs.specs.Names.{full_names, lengths_in}
use Rattle.cx_keep.specs.Renewing.{fronts_in, fronts_at}
use Rattle.cx_keep.specs.Trails.{Has, former_length, length_in, text_of, total}
use Rattle.law_course.specs.Courses.{course_of, IsPlace, CourseSplits}
use Rattle.law_course.proofs.OutputLaws.{IsAmong, WritesTo, run_writes, each_front, first_behind, front_at, front_within, var_at, length_at, text_at, count_in, count_of, rise_from, former_size, former_front, former_within}
use Rattle.law_course.proofs.FitLaws.{stored_outputs}
use Rattle.law_course.proofs.PlaceLaws.{has_places}

-- ---- names

full_by : (b : Bool) (x y : Record) (name : List ℕ) → x.full ≡ name → y.full ≡ name
    → (if b then x else y).full ≡ name
full_by true x y name one two = one
full_by false x y name one two = two

record_full : (setup : Setup) (n : ℕ) (state : State) (v : VarId)
    → (record_of setup n state v).full ≡ (variable setup v).full
record_full setup n state v =
    full_by (is_scalar setup v)
    (value_record (variable setup v).full n (scalar_of state v))
    (level_record (variable setup v).full n setup.shape (level_of state v 0))
    (variable setup v).full refl refl

one_or_other : (a b : ℕ) → (a ≡ b → ⊥) → (a < b) ⊎ (b < a)
one_or_other zero zero ne = absurd (ne refl)
one_or_other zero (suc b) ne = inl (omega arith)
one_or_other (suc a) zero ne = inr (omega arith)
one_or_other (suc a) (suc b) ne = by (one_or_other a b (λ e. ne (ap suc e)))
  where
    by : (a < b) ⊎ (b < a) → (suc a < suc b) ⊎ (suc b < suc a)
    by (inl l) = inl (omega (arith, l))
    by (inr l) = inr (omega (arith, l))

names_differ : (job : Job) → IsWhole job → (v w : VarId) → v.0 < length job.vars
    → w.0 < length job.vars
    → (variable (setup_of job) v).full ≡ (variable (setup_of job) w).full → v.0 ≡ w.0
names_differ job job_is v w known also same = by (v.0 == w.0) refl
  where
    apart : (v.0 < w.0) ⊎ (w.0 < v.0) → ⊥
    apart (inl l) = job_is.names_differ v.0 w.0 no_variable l also same
    apart (inr l) = job_is.names_differ w.0 v.0 no_variable l known (sym same)

    by : (b : Bool) → (v.0 == w.0) ≡ b → v.0 ≡ w.0
    by true is = eqb-true v.0 w.0 is
    by false is = absurd (apart (one_or_other v.0 w.0
        (λ e. let bad : true ≡ false = sym (eq-eqb v.0 w.0 e) ∙ is in cc)))

or_right : (a b : Bool) → b ≡ true → (a || b) ≡ true
or_right true b e = refl
or_right false b e = e

or_left : (a b : Bool) → a ≡ true → (a || b) ≡ true
or_left true b e = refl
or_left false b e = absurd cc

all_front : {A : Type 0} (P : A → Type 0) (a b : List A) → AllByRecursion P (a ++ b)
    → AllByRecursion P a
all_front P [] b all = tt
all_front P (x ∷ a) b all = (all.0, all_front P a b all.1)

-- ---- the entries of a run

module _ (job : Job) (job_is : IsWhole job) (laws : Laws) where
  abbrev IsWholeBefore : Entry → Type 0
  IsWholeBefore e = IsState (setup_of job) (state_before e)

  -- a text is that of its record
  record_is : (v : VarId) (n : ℕ) (text : List ℕ) (state : State)
      → IsText job v n text state → IsState (setup_of job) state
      → record_text (record_of (setup_of job) n state v) ≡ text
  record_is v n text state told is =
      let spelled = former_spelled job job_is laws (Wrote v n text state ∷ []) (told, tt)
      (All-cons IsWholeBefore (Wrote v n text state) [] is (All-nil IsWholeBefore)) in
      sym (sym (append-nil text) ∙ spelled.spelled
      ∙ append-nil (record_text (record_of (setup_of job) n state v)))

  same_name : (v w : VarId) → IsAmong job.out_vars v → IsAmong job.out_vars w
      → bytes_eq (variable (setup_of job) w).full (variable (setup_of job) v).full ≡ (w.0 == v.0)
  same_name v w there also = by (w.0 == v.0) refl
      (bytes_eq (variable (setup_of job) w).full (variable (setup_of job) v).full) refl
    where
      by : (b : Bool) → (w.0 == v.0) ≡ b → (c : Bool)
          → bytes_eq (variable (setup_of job) w).full (variable (setup_of job) v).full ≡ c → c ≡ b
      by true is true e = refl
      by false is false e = refl
      by true is false e =
          absurd (let bad : true ≡ false =
          sym ((bytes_eq-Decides (variable (setup_of job) w).full
          (variable (setup_of job) v).full).1
          (ap (λ (k : ℕ). (variable (setup_of job) (record { 0 = k })).full)
          (eqb-true w.0 v.0 is))) ∙ e in cc)
      by false is true e =
          absurd (let bad : true ≡ false =
          sym (eq-eqb w.0 v.0 (names_differ job job_is w v (stored_outputs job job_is w also)
          (stored_outputs job job_is v there)
          ((bytes_eq-Decides (variable (setup_of job) w).full
          (variable (setup_of job) v).full).0 e))) ∙ is in cc)

  -- what a record adds to the text of a name
  named_one : (v : VarId) → IsAmong job.out_vars v → (e : Entry) → IsTold job e
      → IsState (setup_of job) (state_before e) → WritesTo job.out_vars e
      → flat_map (text_named (variable (setup_of job) v).full) (records_added (setup_of job) e)
      ≡ text_to v e
  named_one v there (Wrote w n text state) told is writes =
      let r = record_of (setup_of job) n state w in
      let name = (variable (setup_of job) v).full in
      append-nil (text_named name r)
      ∙ ap (λ (full : List ℕ). if bytes_eq full name then record_text r else [])
      (record_full (setup_of job) n state w)
      ∙ ap (λ (b : Bool). if b then record_text r else []) (same_name v w there writes)
      ∙ ap (λ (t : List ℕ). if w.0 == v.0 then t else []) (record_is w n text state told is)
  named_one v there (Turned k n state) told is writes = refl
  named_one v there (Overflowed k n state) told is writes = refl
  named_one v there (Exchanged vars path state) told is writes = refl
  named_one v there (Tested w path state) told is writes = refl
  named_one v there (Rotated state) told is writes = refl
  named_one v there (Saved n state) told is writes = refl

  named_all : (v : VarId) → IsAmong job.out_vars v → (es : List Entry) → Each (IsTold job) es
      → AllByRecursion IsWholeBefore es → Each (WritesTo job.out_vars) es
      → flat_map (text_named (variable (setup_of job) v).full) (former_records (setup_of job) es)
      ≡ output_of v es
  named_all v there [] told are write = refl
  named_all v there (e ∷ es) told are write =
      let name = (variable (setup_of job) v).full in
      flat_map-append (text_named name) (records_added (setup_of job) e)
      (former_records (setup_of job) es)
      ∙ ap (λ (t : List ℕ). t ++ flat_map (text_named name) (former_records (setup_of job) es))
      (named_one v there e told.0 are.0 write.0)
      ∙ ap (λ (t : List ℕ). text_to v e ++ t) (named_all v there es told.1 are.1 write.1)

  split_texts : (us : List VarId) → ((u : VarId) → IsAmong us u → IsAmong job.out_vars u)
      → (es : List Entry) → Each (IsTold job) es → AllByRecursion IsWholeBefore es
      → Each (WritesTo job.out_vars) es
      → texts_named (map (λ (v : VarId). (variable (setup_of job) v).full) us)
      (former_records (setup_of job) es)
      ≡ map (λ (v : VarId). output_of v es) us
  split_texts [] some es told are write = refl
  split_texts (u ∷ us) some es told are write =
      let first = named_all u (some u (inl refl)) es told are write in
      let rest = split_texts us (λ v there. some v (inr there)) es told are write in
      (λ i. first i ∷ rest i)

  any_named : (us : List VarId) (w : VarId) → IsAmong us w
      → list_any (λ (name : List ℕ). bytes_eq (variable (setup_of job) w).full name)
      (map (λ (v : VarId). (variable (setup_of job) v).full) us) ≡ true
  any_named [] w there = absurd there
  any_named (u ∷ us) w (inl is) =
      or_left (bytes_eq (variable (setup_of job) w).full (variable (setup_of job) u).full) _
      ((bytes_eq-Decides (variable (setup_of job) w).full (variable (setup_of job) u).full).1
      (ap (λ (k : ℕ). (variable (setup_of job) (record { 0 = k })).full) is))
  any_named (u ∷ us) w (inr there) =
      or_right (bytes_eq (variable (setup_of job) w).full (variable (setup_of job) u).full) _
      (any_named us w there)

  all_named : (es : List Entry) → Each (WritesTo job.out_vars) es
      → list_all (is_named (full_names (setup_of job))) (former_records (setup_of job) es) ≡ true
  all_named [] write = refl
  all_named (Wrote w n text state ∷ es) write =
      and_from (is_named (full_names (setup_of job)) (record_of (setup_of job) n state w))
      (list_all (is_named (full_names (setup_of job))) (former_records (setup_of job) es))
      (ap (λ (full : List ℕ).
      list_any (λ (name : List ℕ). bytes_eq full name) (full_names (setup_of job)))
      (record_full (setup_of job) n state w)
      ∙ any_named job.out_vars w write.0)
      (all_named es write.1)
  all_named (Turned k n state ∷ es) write = all_named es write.1
  all_named (Overflowed k n state ∷ es) write = all_named es write.1
  all_named (Exchanged vars path state ∷ es) write = all_named es write.1
  all_named (Tested w path state ∷ es) write = all_named es write.1
  all_named (Rotated state ∷ es) write = all_named es write.1
  all_named (Saved n state ∷ es) write = all_named es write.1

  -- what these entries write, all in one, splits into what each variable has
  all_split : SpelledIsSplit → (es : List Entry) → Each (IsTold job) es
      → AllByRecursion IsWholeBefore es → Each (WritesTo job.out_vars) es
      → split_of (former_output es) (full_names (setup_of job))
      ≡ Some (map (λ (v : VarId). output_of v es) job.out_vars)
  all_split is_split es told are write =
      is_split (former_output es) (full_names (setup_of job)) (former_records (setup_of job) es)
      (former_spelled job job_is laws es told (All-from_recursion IsWholeBefore es are))
      (all_named es write)
      ∙ ap (λ (ts : List (List ℕ)). Some ts)
      (split_texts job.out_vars (λ u there. there) es told are write)

-- ---- fronts

fronts_are : (vs : List VarId) (so_far : Lengths) (whole part : VarId → List ℕ)
    → ((v : VarId) → take (so_far v.0) (whole v) ≡ part v)
    → fronts_in (lengths_in vs so_far) (map whole vs) ≡ map part vs
fronts_are [] so_far whole part each = refl
fronts_are (v ∷ vs) so_far whole part each =
    let first = each v in
    let rest = fronts_are vs so_far whole part each in
    (λ i. first i ∷ rest i)

module _ (job : Job) (job_is : IsWhole job) (key : List ℕ) (rules : List Rule)
    (laws : Continues (setup_of job) rules) (keeps : KeepsStates (setup_of job) rules)
    (told : Laws) (is_split : SpelledIsSplit)
    (c : Checkpoint) (p : IsPlace (setup_of job) key rules c) where
  write : Each (WritesTo job.out_vars) p.reached.earlier
  write = each_front (WritesTo job.out_vars) p.reached.earlier
      (Saved c.iteration p.state ∷ p.reached.later)
      (subst (Each (WritesTo job.out_vars)) p.reached.there (run_writes (setup_of job) rules))

  lengths_are : c.lengths ≡ lengths_in job.out_vars (lengths_behind no_lengths p.reached.earlier)
  lengths_are = ap (λ (d : Checkpoint). d.lengths) p.packed
      ∙ ap (λ (n : Lengths). lengths_in job.out_vars n) p.reached.lengths_there

  former_is : former_length c ≡ length (former_output p.reached.earlier)
  former_is = ap (λ (ns : List ℕ). total ns) lengths_are
      ∙ former_size job.out_vars p.reached.earlier
      (rise_from job.out_vars job_is.outputs_rise) write

  pub counts_are : length c.lengths ≡ length (course_of (setup_of job) key rules).outputs
  counts_are = ap (λ (ns : List ℕ). length ns) lengths_are
      ∙ count_in job.out_vars (lengths_behind no_lengths p.reached.earlier)
      ∙ sym (count_of job.out_vars (output (setup_of job) rules))

  pub within_each : (j : ℕ) → j < length (course_of (setup_of job) key rules).outputs
      → length_in c j ≤ length (text_of (course_of (setup_of job) key rules) j)
  within_each j lt =
      let known : j < length job.out_vars =
      subst (λ (n : ℕ). j < n) (count_of job.out_vars (output (setup_of job) rules)) lt in
      let v = var_at job.out_vars j in
      let one : length_in c j ≡ length (output_of v p.reached.earlier) =
      ap (λ (ns : List ℕ). length_in (record c { lengths = ns }) j) lengths_are
      ∙ length_at job.out_vars (lengths_behind no_lengths p.reached.earlier) j known
      ∙ first_behind p.reached.earlier v in
      let all : length (text_of (course_of (setup_of job) key rules) j)
      ≡ length (output_of v
      (p.reached.earlier ++ Saved c.iteration p.state ∷ p.reached.later)) =
      ap (λ (t : List ℕ). length t) (text_at job.out_vars (output (setup_of job) rules) j known)
      ∙ ap (λ (es : List Entry). length (output_of v es)) p.reached.there in
      let le = front_within v p.reached.earlier (Saved c.iteration p.state ∷ p.reached.later) in
      omega (arith, one, all, le)

  pub within_former : former_length c ≤ length (old_output (setup_of job) rules)
  within_former =
      let one = former_is in
      let all : length (old_output (setup_of job) rules)
      ≡ length (former_output
      (p.reached.earlier ++ Saved c.iteration p.state ∷ p.reached.later)) =
      ap (λ (es : List Entry). length (former_output es)) p.reached.there in
      let le = former_within p.reached.earlier (Saved c.iteration p.state ∷ p.reached.later) in
      omega (arith, one, all, le)

  pub front_splits : split_of (take (former_length c) (old_output (setup_of job) rules))
      (full_names (setup_of job))
      ≡ Some (fronts_at (course_of (setup_of job) key rules) c)
  front_splits =
      let after = Saved c.iteration p.state ∷ p.reached.later in
      let front : take (former_length c) (old_output (setup_of job) rules)
      ≡ former_output p.reached.earlier =
      ap (λ (n : ℕ). take n (old_output (setup_of job) rules)) former_is
      ∙ ap (λ (es : List Entry). take (length (former_output p.reached.earlier)) (former_output es))
      p.reached.there
      ∙ former_front p.reached.earlier after in
      let fronts : fronts_at (course_of (setup_of job) key rules) c
      ≡ map (λ (v : VarId). output_of v p.reached.earlier) job.out_vars =
      ap (λ (ns : List ℕ). fronts_in ns (map (output (setup_of job) rules) job.out_vars))
      lengths_are
      ∙ fronts_are job.out_vars (lengths_behind no_lengths p.reached.earlier)
      (output (setup_of job) rules) (λ (v : VarId). output_of v p.reached.earlier)
      (λ v. ap (λ (n : ℕ). take n (output (setup_of job) rules v))
      (first_behind p.reached.earlier v)
      ∙ ap (λ (es : List Entry). take (length (output_of v p.reached.earlier)) (output_of v es))
      p.reached.there
      ∙ front_at v p.reached.earlier after) in
      ap (λ (t : List ℕ). split_of t (full_names (setup_of job))) front
      ∙ all_split job job_is told is_split p.reached.earlier
      (each_front (IsTold job) p.reached.earlier after
      (subst (Each (IsTold job)) p.reached.there (run_told job job_is.outputs rules)))
      (all_front (λ (e : Entry). IsState (setup_of job) (state_before e)) p.reached.earlier after
      (subst (AllByRecursion (λ (e : Entry). IsState (setup_of job) (state_before e)))
      p.reached.there
      (recursion_from_All (λ (e : Entry). IsState (setup_of job) (state_before e))
      (undivided_run (setup_of job) rules).entries
      (keeps.run (start (setup_of job)) keeps.begins)))) write
      ∙ ap (λ (ts : List (List ℕ)). Some ts) (sym fronts)

pub course_splits : (job : Job) → IsWhole job → (key : List ℕ) (rules : List Rule)
    → Continues (setup_of job) rules → KeepsStates (setup_of job) rules → Laws → SpelledIsSplit
    → CourseSplits (setup_of job) (course_of (setup_of job) key rules)
course_splits job job_is key rules laws keeps told is_split =
    record {
      fronts = record {
        version = λ c has. ap (λ (d : Checkpoint). d.version) (place c has).packed;
        counts = λ c has. counts_are job job_is key rules laws keeps told is_split c (place c has);
        within = λ c j has lt.
            within_each job job_is key rules laws keeps told is_split c (place c has) j lt;
        former = λ c has.
            within_former job job_is key rules laws keeps told is_split c (place c has);
      };
      splits = record {
        named = λ c has. ap (λ (d : Checkpoint). d.names) (place c has).packed;
        split_is = λ c has.
            front_splits job job_is key rules laws keeps told is_split c (place c has);
      };
    }
  where
    place : (c : Checkpoint) → Has (course_of (setup_of job) key rules).checkpoints c
        → IsPlace (setup_of job) key rules c
    place c has = (has_places (setup_of job) rules laws key).places c has
