-- The run from a checkpoint of the course, or from the start, is what is left of the undivided run.
use Rattle.std.proofs.Common.{◌≡◌, ℕ, ◌<◌, ◌≤◌, refl, sym, ap, ◌∙◌, subst, Bool, true, false, ◌==◌, List, [], ◌∷◌, ◌++◌, length, take, append_assoc, Option, Some, None, if◌then◌else◌, lt_trans, arith}
use Rattle.std.specs.Prelude.{slice_index}
use Rattle.std.proofs.lemmas.Bool.{eq-eqb, ne_eqb}
use Rattle.cx_plan.specs.declared.variable.VarId.{VarId}
use Rattle.cx_plan.specs.Setups.{Setup}
use Rattle.cx_rule.specs.Routine.{Rule}
use Rattle.cx_rule.specs.States.{State}
use Rattle.cx_model.specs.Traces.{Entry, Turned, Overflowed, Exchanged, Tested, Rotated, Wrote, Saved, Trace}
use Rattle.cx_model.specs.Runs.{Lengths, no_lengths, lengths_behind, output, output_of, undivided_run, continued_run, Reaches}
use Rattle.cx_model.specs.Checkpoints.{Continues}
use Rattle.cx_model.specs.Values.{KeepsStates}
use Rattle.cx_model.proofs.SaveLaws.{output-both, lengths-both}
use Rattle.cx_model.proofs.WalkLaws.{Each}
use Rattle.law_parts.specs.Beginnings.{IsBeginning}
use Rattle.cx_chk.specs.declared.checkpoint.Checkpoint.{Checkpoint}
use Rattle.cx_outputs.specs.Names.{lengths_in, lengths_by}
use Rattle.cx_keep.specs.Beginning.{length_left, newest_left}
use Rattle.cx_core_buffers.specs.Checkpoints.{state_of}
use Rattle.law_course.specs.Courses.{IsPlace}
use Rattle.law_course.specs.Beginnings.{lengths_found, beginning_of, run_from, behind_place, entries_from, IsFound, GoesOn, CourseGoesOn}
use Rattle.law_course.specs.Works.{newest_after}
use Rattle.law_course.proofs.OutputLaws.{WritesTo, run_writes, each_front, first_behind, lengths_again, var_at, length_at, front_at, front_within}
use Rattle.law_course.proofs.PlaceLaws.{Rises, run_rises, has_places}
use Rattle.law_course.proofs.StateLaws.{states_unpack, due_within}

-- ---- the newest place

pub newest_both : (m : Option ℕ) (a b : List Entry)
    → newest_after m (a ++ b) ≡ newest_after (newest_after m a) b
newest_both m [] b = refl
newest_both m (Saved i s ∷ es) b = newest_both (Some i) es b
newest_both m (Wrote v i text s ∷ es) b = newest_both m es b
newest_both m (Turned k i s ∷ es) b = newest_both m es b
newest_both m (Overflowed k i s ∷ es) b = newest_both m es b
newest_both m (Exchanged vars path s ∷ es) b = newest_both m es b
newest_both m (Tested v path s ∷ es) b = newest_both m es b
newest_both m (Rotated s ∷ es) b = newest_both m es b

-- ---- behind a place

pub below_place : (a : List Entry) (b c : ℕ) (s : State) (rest : List Entry)
    → Rises b (a ++ Saved c s ∷ rest) → b < c
below_place [] b c s rest r = r.0
below_place (Saved i t ∷ es) b c s rest r = lt_trans r.0 (below_place es i c s rest r.1)
below_place (Wrote v i text t ∷ es) b c s rest r = below_place es b c s rest r
below_place (Turned k i t ∷ es) b c s rest r = below_place es b c s rest r
below_place (Overflowed k i t ∷ es) b c s rest r = below_place es b c s rest r
below_place (Exchanged vars path t ∷ es) b c s rest r = below_place es b c s rest r
below_place (Tested v path t ∷ es) b c s rest r = below_place es b c s rest r
below_place (Rotated t ∷ es) b c s rest r = below_place es b c s rest r

at_true : (b : Bool) (x y : List Entry) → b ≡ true → (if b then x else y) ≡ x
at_true b x y e = rw e refl

at_false : (b : Bool) (x y : List Entry) → b ≡ false → (if b then x else y) ≡ y
at_false b x y e = rw e refl

not_same : (i c : ℕ) → i < c → i ≡ c → ⊥
not_same i c h e = omega (arith, h, e)

behind_is : (a : List Entry) (b c : ℕ) (s : State) (rest : List Entry)
    → Rises b (a ++ Saved c s ∷ rest) → behind_place c (a ++ Saved c s ∷ rest) ≡ rest
behind_is [] b c s rest r = at_true (c == c) rest (behind_place c rest) (eq-eqb c c refl)
behind_is (Saved i t ∷ es) b c s rest r =
    at_false (i == c) (es ++ Saved c s ∷ rest) (behind_place c (es ++ Saved c s ∷ rest))
    (ne_eqb i c (not_same i c (below_place es i c s rest r.1)))
    ∙ behind_is es i c s rest r.1
behind_is (Wrote v i text t ∷ es) b c s rest r = behind_is es b c s rest r
behind_is (Turned k i t ∷ es) b c s rest r = behind_is es b c s rest r
behind_is (Overflowed k i t ∷ es) b c s rest r = behind_is es b c s rest r
behind_is (Exchanged vars path t ∷ es) b c s rest r = behind_is es b c s rest r
behind_is (Tested v path t ∷ es) b c s rest r = behind_is es b c s rest r
behind_is (Rotated t ∷ es) b c s rest r = behind_is es b c s rest r

-- ---- what stood before a beginning

pub record Behind (setup : Setup) (rules : List Rule) (found : Option Checkpoint) : Type 0 where
  pub earlier : List Entry
  pub all : (undivided_run setup rules).entries ≡ earlier ++ (run_from setup rules found).entries
  pub lengths : lengths_found setup found ≡ lengths_behind no_lengths earlier
  pub left : (j : ℕ) → j < length setup.out_vars
      → length_left found j ≡ lengths_found setup found (var_at setup.out_vars j).0
  pub outcome : (run_from setup rules found).outcome ≡ (undivided_run setup rules).outcome
  pub newest : newest_after None earlier ≡ newest_left found
  pub begins : IsBeginning setup (beginning_of setup found)
  pub entries : (run_from setup rules found).entries ≡ entries_from setup rules (newest_left found)

module _ (setup : Setup) (key : List ℕ) (rules : List Rule) (laws : Continues setup rules)
    (keeps : KeepsStates setup rules) where
  -- the lengths at the place of a checkpoint of the course
  found_lengths : (c : Checkpoint) (p : IsPlace setup key rules c)
      → lengths_found setup (Some c) ≡ p.so_far
  found_lengths c p =
      ap (λ (d : Checkpoint). lengths_by setup.out_vars d.lengths) p.packed
      ∙ ap (λ (n : Lengths). lengths_by setup.out_vars (lengths_in setup.out_vars n))
      p.reached.lengths_there
      ∙ lengths_again setup.out_vars p.reached.earlier
      (each_front (WritesTo setup.out_vars) p.reached.earlier
      (Saved c.iteration p.state ∷ p.reached.later)
      (subst (Each (WritesTo setup.out_vars)) p.reached.there (run_writes setup rules)))
      ∙ sym p.reached.lengths_there

  -- the place, in the state that it holds, with its lengths
  found_place : (c : Checkpoint) → IsPlace setup key rules c
      → Reaches setup rules c.iteration (state_of setup.vars c) (lengths_found setup (Some c))
  found_place c p =
      let is : state_of setup.vars c ≡ p.state =
      ap (state_of setup.vars) p.packed
      ∙ (states_unpack setup key c.iteration p.state p.so_far
      (keeps.reached c.iteration p.state p.so_far p.reached)).state_is in
      subst (λ (s : State). Reaches setup rules c.iteration s (lengths_found setup (Some c)))
      (sym is)
      (subst (λ (n : Lengths). Reaches setup rules c.iteration p.state n)
      (sym (found_lengths c p)) p.reached)

  found_left : (c : Checkpoint) → IsPlace setup key rules c → (j : ℕ) → j < length setup.out_vars
      → length_left (Some c) j ≡ lengths_found setup (Some c) (var_at setup.out_vars j).0
  found_left c p j lt =
      ap (λ (d : Checkpoint). slice_index d.lengths j) p.packed
      ∙ length_at setup.out_vars p.so_far j lt
      ∙ ap (λ (n : Lengths). n (var_at setup.out_vars j).0) (sym (found_lengths c p))

  behind_found : (c : Checkpoint)
      → Reaches setup rules c.iteration (state_of setup.vars c) (lengths_found setup (Some c))
      → ((j : ℕ) → j < length setup.out_vars
      → length_left (Some c) j ≡ lengths_found setup (Some c) (var_at setup.out_vars j).0)
      → Behind setup rules (Some c)
  behind_found c r left =
      let i = c.iteration in
      let s = state_of setup.vars c in
      let n : Lengths = lengths_found setup (Some c) in
      let run = laws.run i s n r in
      let there : (undivided_run setup rules).entries
      ≡ r.earlier ++ Saved i s ∷ (continued_run setup rules i s n).entries =
      ap (λ (t : Trace). t.entries) run
      ∙ append_assoc r.earlier (Saved i s ∷ []) (continued_run setup rules i s n).entries in
      record {
        earlier = r.earlier ++ Saved i s ∷ [];
        all = ap (λ (t : Trace). t.entries) run;
        lengths = r.lengths_there ∙ sym (lengths-both r.earlier (Saved i s ∷ []) no_lengths);
        left = left;
        outcome = sym (ap (λ (t : Trace). t.outcome) run);
        newest = newest_both None r.earlier (Saved i s ∷ []);
        begins = (due_within setup i (laws.due i s n r), keeps.reached i s n r);
        entries = sym (ap (behind_place i) there
            ∙ behind_is r.earlier 0 i s (continued_run setup rules i s n).entries
            (subst (Rises 0) there (run_rises setup rules laws)));
      }

  pub behind : (found : Option Checkpoint) → IsFound setup key rules found
      → Behind setup rules found
  behind None is =
      record {
        earlier = [];
        all = refl;
        lengths = refl;
        left = λ j lt. refl;
        outcome = refl;
        newest = refl;
        begins = tt;
        entries = refl;
      }
  behind (Some c) is =
      let p : IsPlace setup key rules c = (has_places setup rules laws key).places c is in
      behind_found c (found_place c p) (found_left c p)

-- ---- the outputs

module _ (setup : Setup) (rules : List Rule) (found : Option Checkpoint)
    (b : Behind setup rules found) (v : VarId) where
  split : output setup rules v
      ≡ output_of v b.earlier ++ output_of v (run_from setup rules found).entries
  split = ap (output_of v) b.all ∙ output-both v b.earlier (run_from setup rules found).entries

  pub length_earlier : lengths_found setup found v.0 ≡ length (output_of v b.earlier)
  length_earlier = ap (λ (n : Lengths). n v.0) b.lengths ∙ first_behind b.earlier v

  pub front_earlier : take (lengths_found setup found v.0) (output setup rules v)
      ≡ output_of v b.earlier
  front_earlier =
      ap (λ (n : ℕ). take n (output setup rules v)) length_earlier
      ∙ ap (λ (es : List Entry). take (length (output_of v b.earlier)) (output_of v es)) b.all
      ∙ front_at v b.earlier (run_from setup rules found).entries

  pub within_output : lengths_found setup found v.0 ≤ length (output setup rules v)
  within_output =
      let e = length_earlier in
      let all : length (output setup rules v)
      ≡ length (output_of v (b.earlier ++ (run_from setup rules found).entries)) =
      ap (λ (es : List Entry). length (output_of v es)) b.all in
      let le = front_within v b.earlier (run_from setup rules found).entries in
      omega (arith, e, all, le)

pub goes_on : (setup : Setup) (rules : List Rule) (found : Option Checkpoint)
    → Behind setup rules found → GoesOn setup rules found
goes_on setup rules found b =
    record {
      begins = b.begins;
      entries = b.entries;
      outcome = b.outcome;
      within = within_output setup rules found b;
      output = λ v. split setup rules found b v
          ∙ ap (λ (front : List ℕ). front ++ output_of v (run_from setup rules found).entries)
          (sym (front_earlier setup rules found b v));
    }

pub course_goes_on : (setup : Setup) (key : List ℕ) (rules : List Rule) → Continues setup rules
    → KeepsStates setup rules → CourseGoesOn setup key rules
course_goes_on setup key rules laws keeps found is =
    goes_on setup rules found (behind setup key rules laws keeps found is)
