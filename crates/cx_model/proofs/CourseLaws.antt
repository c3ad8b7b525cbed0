-- The path of its job that a run follows which goes on past ends.
use Rattle.std.proofs.Common.{◌≡◌, ℕ, zero, suc, ◌+◌, append_assoc, ◌-◌, ◌%◌, ◌==◌, ℤ, pos, negsuc, int_lt, arith, refl, sym, ap, subst, ◌∙◌, Bool, true, false, cond, List, [], ◌∷◌, ◌++◌, flat_map, ◌⊎◌, inl, inr, MatchBool}
use Rattle.std.specs.List.{range_with_len}
use Rattle.std.proofs.lemmas.List.Elements.{All-nil}
use Rattle.cx_plan.specs.declared.variable.VarId.{VarId}
use Rattle.cx_plan.specs.Setups.{Setup}
use Rattle.cx_plan.specs.Dues.{is_due, is_each, is_written}
use Rattle.cx_plan.specs.Lookups.{bin, is_empty, CHECKPOINT, ANALYSIS, start_bins, step_bins, end_bins}
use Rattle.cx_plan.specs.Regions.{Rotates, Outputs, Flags, Need, cleared, output_needs, is_met}
use Rattle.cx_plan.specs.Paths.{Mark, Letter, Meets, letter_i, letter_y, letter_n, Then, Just, Path, PathOfBins, PathOfAnalysis, PathOfCheckpoint, PathOfStart, PathOfIteration, PathOfIterations, PathOfJob, Sound}
use Rattle.cx_rule.specs.Routine.{Rule}
use Rattle.cx_rule.specs.States.{State}
use Rattle.cx_model.specs.Stages.{Stage, Bin, Rotate, Save, Write, bins, checkpoint, before_analysis, from_analysis, iteration, rest_behind, stages, stages_after}
use Rattle.cx_model.specs.Courses.{Course, behind, goes_on, course_tree, write_notes, course_stage, course_stages}
use Rattle.cx_model.specs.Agreement.{Met}
use Rattle.cx_model.proofs.ListLaws.{all-left, all-right}
use Rattle.cx_model.proofs.Guides.{PathMet, path_leaves, path-split, path-met, then-nothing, then-right, then-left, then-map}
use Rattle.cx_model.proofs.RunGuides.{empty-path, analysis, is_positive, outputs_if}
use Rattle.cx_model.specs.Needs.{notes_leave, NotesMet, all_set, stages_before, NeedsMet}
use Rattle.cx_model.proofs.MoreLaws.{path-more}
use Rattle.cx_model.proofs.CourseGuides.{Led, led-map, led-rests, led-then, led-tree}

-- ---- stages, one after another

pub course_both : (setup : Setup) (rules : List Rule) (a b : List Stage) (state : State)
    → course_stages setup rules (a ++ b) state
    ≡ goes_on (course_stages setup rules a state) (course_stages setup rules b)
course_both setup rules [] b state = refl
course_both setup rules (s ∷ ss) b state =
    let first = course_stage setup rules s state in
    let more = course_stages setup rules ss first.state in
    ap (behind first.notes) (course_both setup rules ss b first.state)
    ∙ ap (λ xs. record { notes = xs; state = (course_stages setup rules b more.state).state })
    (sym (append_assoc first.notes more.notes (course_stages setup rules b more.state).notes))

abbrev Follow : Setup → List Rule → (List Mark → Type 0) → List Stage → Type 0
Follow setup rules P ss = (state : State) → Led setup P (course_stages setup rules ss state)

follow-both : (setup : Setup) (rules : List Rule) (P Q : List Mark → Type 0) (xs ys : List Stage)
    → Follow setup rules P xs → Follow setup rules Q ys → Follow setup rules (Then P Q) (xs ++ ys)
follow-both setup rules P Q xs ys one two state =
    subst (Led setup (Then P Q)) (sym (course_both setup rules xs ys state))
    (led-then setup P Q (course_stages setup rules xs state) (course_stages setup rules ys)
    (one state) two)

follow-map : (setup : Setup) (rules : List Rule) (P Q : List Mark → Type 0) (ss : List Stage)
    → ((marks : List Mark) → P marks → Q marks) → Follow setup rules P ss → Follow setup rules Q ss
follow-map setup rules P Q ss to one state =
    led-map setup P Q (course_stages setup rules ss state) to (one state)

follow-bins : (setup : Setup) (rules : List Rule) (n : ℕ) (bs : List ℕ)
    → Follow setup rules (PathOfBins setup bs) (bins bs n)
follow-bins setup rules n [] state = led-rests setup state
follow-bins setup rules n (b ∷ bs) state =
    led-then setup (Path (bin setup b)) (PathOfBins setup bs)
    (course_tree setup rules n (bin setup b) state) (course_stages setup rules (bins bs n))
    (led-tree setup rules n (bin setup b) state) (follow-bins setup rules n bs)

-- one stage alone
alone : (setup : Setup) (rules : List Rule) (P : List Mark → Type 0) (s : Stage) (state : State)
    → Led setup P (course_stage setup rules s state)
    → Led setup P (course_stages setup rules (s ∷ []) state)
alone setup rules P s state one =
    led-map setup (Then P (Just [])) P (course_stages setup rules (s ∷ []) state) (then-nothing P)
    (led-then setup P (Just []) (course_stage setup rules s state) (course_stages setup rules [])
    one (led-rests setup))

-- ---- output

met-written : (setup : Setup) (n : ℕ) (state : State) (flags : Flags) (vs : List VarId)
    → Met setup flags (flat_map (output_needs setup) vs)
    → NotesMet setup flags (write_notes setup n state vs)
met-written setup n state flags [] met = tt
met-written setup n state flags (v ∷ vs) met =
    let P = λ (need : Need). is_met setup flags need ≡ true in (
      all-left P (output_needs setup v) (flat_map (output_needs setup) vs) met,
      met-written setup n state flags vs
          (all-right P (output_needs setup v) (flat_map (output_needs setup) vs) met),
    )

written-leave : (setup : Setup) (n : ℕ) (state : State) (flags : Flags) (vs : List VarId)
    → notes_leave setup (write_notes setup n state vs) flags ≡ flags
written-leave setup n state flags [] = refl
written-leave setup n state flags (v ∷ vs) = written-leave setup n state flags vs

led-write : (setup : Setup) (rules : List Rule) (n : ℕ) (state : State)
    → Led setup (Just (Meets Outputs ∷ [])) (course_stage setup rules (Write n) state)
led-write setup rules n state =
    record {
      marks = Meets Outputs ∷ [];
      path = refl;
      met = λ flags met. met-written setup n state flags setup.out_vars met.0;
      left = λ flags. written-leave setup n state flags setup.out_vars;
    }

follow-output : (setup : Setup) (rules : List Rule) (n : ℕ) (z : ℤ)
    → Follow setup rules (Just (outputs_if (int_lt (pos 0) z)))
    (cond (is_each z n) (Write n ∷ []) [])
follow-output setup rules n (pos zero) state = led-rests setup state
follow-output setup rules n (negsuc k) state = led-rests setup state
follow-output setup rules n (pos (suc k)) state =
    subst (λ b. Led setup (Just (outputs_if b))
    (course_stages setup rules (cond (is_each (pos (suc k)) n) (Write n ∷ []) []) state))
    (is_positive k) (by (n % suc k == 0))
  where
    by : (b : Bool) → Led setup (Just (Meets Outputs ∷ []))
        (course_stages setup rules (cond b (Write n ∷ []) []) state)
    by true = alone setup rules (Just (Meets Outputs ∷ [])) (Write n) state
        (led-write setup rules n state)
    by false = record {
      marks = Meets Outputs ∷ [];
      path = refl;
      met = λ flags met. tt;
      left = λ flags. refl;
    }

abbrev Written : Setup → List Mark → Type 0
Written setup = Just (outputs_if (int_lt (pos 0) setup.out_every))

follow-analysis : (setup : Setup) (rules : List Rule) (n : ℕ)
    → Follow setup rules (PathOfAnalysis setup) (from_analysis setup n)
follow-analysis setup rules n state =
    let t = course_tree setup rules n (bin setup ANALYSIS) state in
    let next = course_stages setup rules (cond (is_written setup n) (Write n ∷ []) []) in
    led-map setup (Then (Path (bin setup ANALYSIS)) (Written setup)) (PathOfAnalysis setup)
    (goes_on t next) (analysis setup setup.out_every)
    (led-then setup (Path (bin setup ANALYSIS)) (Written setup) t next
    (led-tree setup rules n (bin setup ANALYSIS) state)
    (follow-output setup rules n setup.out_every))

-- ---- checkpoints

led-letter : (setup : Setup) (c : ℕ) (P : List Mark → Type 0) (t : Course) → Led setup P t
    → Led setup (Then (Just (Letter c ∷ [])) P) t
led-letter setup c P t g =
    record {
      marks = Letter c ∷ g.marks;
      path = (Letter c ∷ [], g.marks, refl, g.path, refl);
      met = g.met;
      left = g.left;
    }

led-save : (setup : Setup) (rules : List Rule) (n : ℕ) (state : State)
    → Led setup (Just []) (course_stages setup rules (Save n ∷ []) state)
led-save setup rules n state =
    record {
      marks = [];
      path = refl;
      met = λ flags met. (All-nil (λ need. is_met setup flags need ≡ true), tt);
      left = λ flags. refl;
    }

follow-due : (setup : Setup) (rules : List Rule) (n : ℕ)
    → Follow setup rules (Path (bin setup CHECKPOINT)) (Bin CHECKPOINT n ∷ Save n ∷ [])
follow-due setup rules n state =
    let tree = bin setup CHECKPOINT in
    led-map setup (Then (Path tree) (Just [])) (Path tree)
    (course_stages setup rules (Bin CHECKPOINT n ∷ Save n ∷ []) state)
    (then-nothing (Path tree))
    (led-then setup (Path tree) (Just []) (course_tree setup rules n tree state)
    (course_stages setup rules (Save n ∷ [])) (led-tree setup rules n tree state)
    (led-save setup rules n))

abbrev Bin-or-letter : Setup → Bool → List Mark → Type 0
Bin-or-letter setup b marks =
    MatchBool b (Just [] marks)
    (Then (Just (letter_y ∷ [])) (Path (bin setup CHECKPOINT)) marks ⊎ Just (letter_n ∷ []) marks)

follow-checkpoint : (setup : Setup) (rules : List Rule) (n : ℕ)
    → Follow setup rules (PathOfCheckpoint setup) (checkpoint setup n)
follow-checkpoint setup rules n state = by (is_empty (bin setup CHECKPOINT)) refl (is_due setup n)
  where
    by : (b : Bool) → is_empty (bin setup CHECKPOINT) ≡ b → (due : Bool)
        → Led setup (Bin-or-letter setup b)
        (course_stages setup rules (cond due (Bin CHECKPOINT n ∷ Save n ∷ []) []) state)
    by true none true =
        led-map setup (Path (bin setup CHECKPOINT)) (Bin-or-letter setup true)
        (course_stages setup rules (Bin CHECKPOINT n ∷ Save n ∷ []) state)
        (λ marks. empty-path (bin setup CHECKPOINT) marks none) (follow-due setup rules n state)
    by true none false = record {
      marks = [];
      path = refl;
      met = λ flags met. tt;
      left = λ flags. refl;
    }
    by false none true =
        led-map setup (Then (Just (letter_y ∷ [])) (Path (bin setup CHECKPOINT)))
        (Bin-or-letter setup false)
        (course_stages setup rules (Bin CHECKPOINT n ∷ Save n ∷ []) state)
        (λ marks way. inl way)
        (led-letter setup 121 (Path (bin setup CHECKPOINT))
        (course_stages setup rules (Bin CHECKPOINT n ∷ Save n ∷ []) state)
        (follow-due setup rules n state))
    by false none false = record {
      marks = letter_n ∷ [];
      path = inr refl;
      met = λ flags met. tt;
      left = λ flags. refl;
    }

-- ---- iterations

abbrev Begins : List Mark → Type 0
Begins = Just (letter_i ∷ Meets Rotates ∷ [])

abbrev Evolves : Setup → List Mark → Type 0
Evolves setup = PathOfBins setup step_bins

-- an iteration up to its checkpoint place
abbrev Before : Setup → List Mark → Type 0
Before setup = Then (Then Begins (Evolves setup)) (PathOfCheckpoint setup)

led-rotate : (setup : Setup) (rules : List Rule) (state : State)
    → Led setup Begins (course_stage setup rules Rotate state)
led-rotate setup rules state =
    record {
      marks = letter_i ∷ Meets Rotates ∷ [];
      path = refl;
      met = λ flags met. met;
      left = λ flags. refl;
    }

follow-before : (setup : Setup) (rules : List Rule) (n : ℕ)
    → Follow setup rules (Before setup) (before_analysis setup (suc n))
follow-before setup rules n =
    let evolving = bins step_bins (suc n) in
    follow-both setup rules (Then Begins (Evolves setup)) (PathOfCheckpoint setup)
    (Rotate ∷ evolving) (checkpoint setup (suc n))
    (λ state. led-then setup Begins (Evolves setup) (course_stage setup rules Rotate state)
    (course_stages setup rules evolving) (led-rotate setup rules state)
    (follow-bins setup rules (suc n) step_bins))
    (follow-checkpoint setup rules (suc n))

whole-iteration : (setup : Setup) (marks : List Mark)
    → Then (Before setup) (PathOfAnalysis setup) marks → PathOfIteration setup marks
whole-iteration setup marks way =
    let B = Evolves setup in
    let C = PathOfCheckpoint setup in
    let A = PathOfAnalysis setup in
    then-right Begins B (Then C A) marks (then-right (Then Begins B) C A marks way)

follow-iteration : (setup : Setup) (rules : List Rule) (n : ℕ)
    → Follow setup rules (PathOfIteration setup) (iteration setup (suc n))
follow-iteration setup rules n =
    follow-map setup rules (Then (Before setup) (PathOfAnalysis setup)) (PathOfIteration setup)
    (iteration setup (suc n)) (whole-iteration setup)
    (follow-both setup rules (Before setup) (PathOfAnalysis setup) (before_analysis setup (suc n))
    (from_analysis setup (suc n)) (follow-before setup rules n)
    (follow-analysis setup rules (suc n)))

follow-iterations : (setup : Setup) (rules : List Rule) (c count : ℕ)
    → Follow setup rules (PathOfIterations setup count)
    (flat_map (iteration setup) (range_with_len (c + 1) count))
follow-iterations setup rules c zero = led-rests setup
follow-iterations setup rules c (suc count) =
    follow-both setup rules (PathOfIteration setup) (PathOfIterations setup count)
    (iteration setup (c + 1)) (flat_map (iteration setup) (range_with_len (c + 1 + 1) count))
    (subst (λ n. Follow setup rules (PathOfIteration setup) (iteration setup n)) next
    (follow-iteration setup rules c)) (follow-iterations setup rules (c + 1) count)
  where
    next : suc c ≡ c + 1
    next = omega arith

-- ---- the run, in two parts

abbrev Start : Setup → List Mark → Type 0
Start setup = PathOfBins setup start_bins

abbrev End : Setup → List Mark → Type 0
End setup = PathOfBins setup end_bins

-- any number of iterations, and the end
abbrev Rest : Setup → List Mark → Type 0
Rest setup = Then (λ marks. (n : ℕ) × PathOfIterations setup n marks) (End setup)

follow-start : (setup : Setup) (rules : List Rule)
    → Follow setup rules (Start setup) (before_analysis setup 0)
follow-start setup rules = follow-bins setup rules 0 start_bins

follow-rest : (setup : Setup) (rules : List Rule) (c count : ℕ)
    → Follow setup rules (Rest setup) (rest_behind setup c count)
follow-rest setup rules c count =
    follow-map setup rules (Then (PathOfIterations setup count) (End setup)) (Rest setup)
    (rest_behind setup c count)
    (λ marks way. (way.0, way.1, (count, way.2), way.3, way.4))
    (follow-both setup rules (PathOfIterations setup count) (End setup)
    (flat_map (iteration setup) (range_with_len (c + 1) count)) (bins end_bins setup.itlast)
    (follow-iterations setup rules c count) (follow-bins setup rules setup.itlast end_bins))

abbrev Behind : Setup → List Mark → Type 0
Behind setup = Then (PathOfAnalysis setup) (Rest setup)

follow-behind : (setup : Setup) (rules : List Rule) (c : ℕ)
    → Follow setup rules (Behind setup) (stages_after setup c)
follow-behind setup rules c =
    follow-both setup rules (PathOfAnalysis setup) (Rest setup) (from_analysis setup c)
    (rest_behind setup c (setup.itlast - c)) (follow-analysis setup rules c)
    (follow-rest setup rules c (setup.itlast - c))

follow-job : (setup : Setup) (rules : List Rule)
    → Follow setup rules (PathOfJob setup) (stages setup)
follow-job setup rules =
    follow-both setup rules (PathOfStart setup) (Rest setup) (iteration setup 0)
    (rest_behind setup 0 setup.itlast)
    (follow-both setup rules (Start setup) (PathOfAnalysis setup) (before_analysis setup 0)
    (from_analysis setup 0) (follow-start setup rules) (follow-analysis setup rules 0))
    (follow-rest setup rules 0 setup.itlast)

-- up to the checkpoint place of an iteration
abbrev Up : Setup → ℕ → List Mark → Type 0
Up setup zero = Start setup
Up setup (suc c) = Then (PathOfStart setup) (Then (PathOfIterations setup c) (Before setup))

follow-up : (setup : Setup) (rules : List Rule) (c : ℕ)
    → Follow setup rules (Up setup c) (stages_before setup c)
follow-up setup rules zero = follow-start setup rules
follow-up setup rules (suc c) =
    follow-both setup rules (PathOfStart setup) (Then (PathOfIterations setup c) (Before setup))
    (iteration setup 0) (flat_map (iteration setup) (range_with_len 1 c)
    ++ before_analysis setup (suc c))
    (follow-both setup rules (Start setup) (PathOfAnalysis setup) (before_analysis setup 0)
    (from_analysis setup 0) (follow-start setup rules) (follow-analysis setup rules 0))
    (follow-both setup rules (PathOfIterations setup c) (Before setup)
    (flat_map (iteration setup) (range_with_len 1 c)) (before_analysis setup (suc c))
    (follow-iterations setup rules 0 c) (follow-before setup rules c))

-- iterations and further ones
more-iterations : (setup : Setup) (c : ℕ) (marks : List Mark)
    → Then (PathOfIterations setup c) (λ marks. (n : ℕ) × PathOfIterations setup n marks) marks
    → (n : ℕ) × PathOfIterations setup n marks
more-iterations setup zero marks way = (
  way.3.0,
  subst (PathOfIterations setup way.3.0)
      (sym (way.4 ∙ ap (λ (a : List Mark). a ++ way.1) way.2)) way.3.1,
)
more-iterations setup (suc c) marks way =
    let q = then-right (PathOfIteration setup) (PathOfIterations setup c)
    (λ marks. (n : ℕ) × PathOfIterations setup n marks) marks way in
    let r = more-iterations setup c q.1 q.3 in
    (suc r.0, (q.0, q.1, q.2, r.1, q.4))

-- both parts are a path of the job
whole-path : (setup : Setup) (c : ℕ) (marks : List Mark) → Then (Up setup c) (Behind setup) marks
    → PathOfJob setup marks
whole-path setup zero marks way =
    then-left (Start setup) (PathOfAnalysis setup) (Rest setup) marks way
whole-path setup (suc c) marks way =
    let It = PathOfIterations setup c in
    let Some' = λ (marks : List Mark). (n : ℕ) × PathOfIterations setup n marks in
    let A = PathOfAnalysis setup in
    then-map (PathOfStart setup) (Then (Then It (Before setup)) (Behind setup)) (Rest setup)
    (λ ms one.
    let two : Then It (Then (Before setup) (Behind setup)) ms =
    then-right It (Before setup) (Behind setup) ms one in
    let three : Then It (Then (Then (Before setup) A) (Rest setup)) ms =
    then-map It (Then (Before setup) (Behind setup)) (Then (Then (Before setup) A) (Rest setup))
    (then-left (Before setup) A (Rest setup)) ms two in
    let four : Then It (Then (PathOfIteration setup) (Rest setup)) ms =
    then-map It (Then (Then (Before setup) A) (Rest setup))
    (Then (PathOfIteration setup) (Rest setup))
    (λ ns w. (w.0, w.1, whole-iteration setup w.0 w.2, w.3, w.4)) ms three
    in
    let five : Then It (Then Some' (End setup)) ms =
    then-map It (Then (PathOfIteration setup) (Rest setup)) (Then Some' (End setup))
    (λ ns w. first-of ns (then-left (PathOfIteration setup) Some' (End setup) ns w)) ms four
    in
    let six = then-left It Some' (End setup) ms five in
    (six.0, six.1, more-iterations setup c six.0 six.2, six.3, six.4))
    marks (then-right (PathOfStart setup) (Then It (Before setup)) (Behind setup) marks way)
  where
    first-of : (ns : List Mark)
        → Then (Then (PathOfIteration setup) (λ marks. (n : ℕ) × PathOfIterations setup n marks))
        (End setup) ns → Then (λ marks. (n : ℕ) × PathOfIterations setup n marks) (End setup) ns
    first-of ns w = (w.0, w.1, (suc w.2.3.0, (w.2.0, w.2.1, w.2.2, w.2.3.1, w.2.4)), w.3, w.4)

-- ---- needs along a sound job

pub needs-met : (setup : Setup) (rules : List Rule) → Sound setup → NeedsMet setup rules
needs-met setup rules sound =
    record {
      whole = λ first. let g = follow-job setup rules first in
          g.met cleared (path-met setup [] cleared g.marks (sound g.marks g.path));
      behind = λ c first state.
          let g = follow-up setup rules c first in
          let h = follow-behind setup rules c state in
          subst (λ f. NotesMet setup f
          (course_stages setup rules (stages_after setup c) state).notes) (sym (g.left cleared))
          (h.met (path_leaves setup g.marks cleared) (both c g h));
      from_whole_state = λ c state.
          let g = follow-up setup rules c state in
          let h = follow-behind setup rules c state in
          h.met all_set (path-more setup h.marks (path_leaves setup g.marks cleared) all_set
          (λ v level x e. refl) (both c g h));
    }
  where
    both : (c : ℕ) {a b : Course} (g : Led setup (Up setup c) a) (h : Led setup (Behind setup) b)
        → PathMet setup (path_leaves setup g.marks cleared) h.marks
    both c g h =
        (path-split setup g.marks h.marks cleared
        (path-met setup [] cleared (g.marks ++ h.marks)
        (sound (g.marks ++ h.marks)
        (whole-path setup c (g.marks ++ h.marks) (g.marks, h.marks, g.path, h.path, refl))))).1
