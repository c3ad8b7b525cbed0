-- The operations of a whole run.
use Rattle.std.proofs.Common.{◌≡◌, ℕ, suc, ◌+◌, ◌-◌, ◌≤◌, List, [], ◌∷◌, ◌++◌, length, refl, sym, ap, ◌∙◌, subst, arith, append-nil, length-append}
use Rattle.std.specs.List.{flat_map, range_with_len}
use Rattle.cx_plan.specs.Setups.{Setup}
use Rattle.cx_plan.specs.Lookups.{STARTUP, WRAGH, PARAMCHECK, BASEGRID, INITIAL, POSTINITIAL, POSTSTEP, TERMINATE, SHUTDOWN}
use Rattle.cx_rule.specs.Routine.{Rule}
use Rattle.cx_model.specs.States.{State, start}
use Rattle.cx_model.specs.Stages.{Stage, bins, before_analysis, from_analysis, iteration, rest_behind, stages, stages_after}
use Rattle.cx_model.specs.Runs.{Lengths, no_lengths, run_stages, limited}
use Rattle.cx_flat.specs.declared.op.Op.{Op}
use Rattle.cx_flat.specs.declared.op.Op.TheVariants as op
use Rattle.cx_model.specs.Courses.{Note, cut, course_stages}
use Rattle.cx_flat.specs.Code.{op_at, bins_code, start_code, before_code, from_code, loop_code, end_code, code, analysis_place}
use Rattle.cx_flat.specs.Flats.{Flat, flat_from, is_halt, first_flat, flat_after}
use Rattle.cx_flat.specs.Laws.{RunsAs, NotesAs, FlatIsRun}
use Rattle.cx_model.proofs.CutLaws.{cut_stages}
use Rattle.cx_flat.proofs.RunLaws.{StandsAt, stands_first, stands_then, stands_all, Runs, runs_one}
use Rattle.cx_flat.proofs.TreeLaws.{placed}
use Rattle.cx_flat.proofs.StageLaws.{DoesStages, stages_then, stages_to, stages_from, does_bins, in_turn, does_from, at_from, does_iterations}

module _ (setup : Setup) (rules : List Rule) (dims : ℕ) (some_dims : setup.shape.dims ≡ suc dims)
  where
    ops : List Op
    ops = code setup

    skip : Op
    skip = op.Skip (suc (length (before_code setup)))

    -- where the iterations begin, and where their end stands
    loop : ℕ
    loop = suc (length (start_code setup))

    behind : ℕ
    behind = suc (loop + length (before_code setup) + length (from_code setup))

    stands : StandsAt (code setup) 0 (code setup)
    stands = stands_all [] (code setup)

    pub at_start : StandsAt (code setup) 0 (start_code setup)
    at_start = stands_first (code setup) 0 (start_code setup)
        (op.Skip (suc (length (before_code setup))) ∷ (loop_code setup ++ end_code setup)) stands

    pub at_skip : StandsAt (code setup) (length (start_code setup))
        (op.Skip (suc (length (before_code setup))) ∷ (loop_code setup ++ end_code setup))
    at_skip =
        let e : 0 + length (start_code setup) ≡ length (start_code setup) = omega arith in
        subst (λ n. StandsAt (code setup) n
        (op.Skip (suc (length (before_code setup))) ∷ (loop_code setup ++ end_code setup))) e
        (stands_then (code setup) 0 (start_code setup)
        (op.Skip (suc (length (before_code setup))) ∷ (loop_code setup ++ end_code setup)) stands)

    pub at_loop : StandsAt (code setup) (suc (length (start_code setup))) (loop_code setup)
    at_loop = stands_first (code setup) (suc (length (start_code setup))) (loop_code setup)
        (end_code setup) at_skip.1

    loop_length : length (loop_code setup)
        ≡ suc (length (before_code setup) + length (from_code setup))
    loop_length = omega (
      arith,
      length-append (before_code setup)
          (from_code setup ++ op.Next (length (before_code setup) + length (from_code setup)) ∷ []),
      length-append (from_code setup)
          (op.Next (length (before_code setup) + length (from_code setup)) ∷ []),
    )

    pub at_end : StandsAt (code setup)
        (suc (suc (length (start_code setup)) + length (before_code setup)
        + length (from_code setup))) (end_code setup)
    at_end =
        let e : suc (length (start_code setup)) + length (loop_code setup)
        ≡ suc (suc (length (start_code setup)) + length (before_code setup)
        + length (from_code setup)) = omega (arith, loop_length) in
        subst (λ n. StandsAt (code setup) n (end_code setup)) e
        (stands_then (code setup) (suc (length (start_code setup))) (loop_code setup)
        (end_code setup) at_skip.1)

    abbrev pub end_bins : List Op
    end_bins = bins_code setup (TERMINATE ∷ SHUTDOWN ∷ [])

    abbrev pub end_place : ℕ
    end_place =
        suc (suc (length (start_code setup)) + length (before_code setup)
        + length (from_code setup))

    abbrev pub analysis : ℕ
    analysis = suc (length (start_code setup)) + length (before_code setup)

    pub at_halt : op_at (code setup) (end_place + length end_bins) ≡ op.Halt
    at_halt = (stands_then (code setup) end_place end_bins (op.Halt ∷ []) at_end).0

    -- from the jump back behind an iteration to the last operation
    does_rest : (c count : ℕ) → c + count ≡ setup.itlast
        → DoesStages setup rules (code setup) dims some_dims
        (in_turn setup rules (code setup) dims some_dims c) (analysis + length (from_code setup))
        (in_turn setup rules (code setup) dims some_dims setup.itlast)
        (end_place + length end_bins) (rest_behind setup c count)
    does_rest c count sum =
        stages_then setup rules (code setup) dims some_dims
        (in_turn setup rules (code setup) dims some_dims c) (analysis + length (from_code setup))
        (in_turn setup rules (code setup) dims some_dims setup.itlast) end_place
        (in_turn setup rules (code setup) dims some_dims setup.itlast)
        (end_place + length end_bins)
        (flat_map (iteration setup) (range_with_len (c + 1) count))
        (bins (TERMINATE ∷ SHUTDOWN ∷ []) setup.itlast)
        (does_iterations setup rules (code setup) dims some_dims (suc (length (start_code setup)))
        at_loop count c (c + 1) (omega arith) sum)
        (does_bins setup rules (code setup) dims some_dims
        (in_turn setup rules (code setup) dims some_dims setup.itlast) end_place
        (TERMINATE ∷ SHUTDOWN ∷ [])
        (stands_first (code setup) end_place end_bins (op.Halt ∷ []) at_end))

    -- from ANALYSIS of an iteration
    does_after : (c : ℕ) → c ≤ setup.itlast
        → DoesStages setup rules (code setup) dims some_dims
        (in_turn setup rules (code setup) dims some_dims c) analysis
        (in_turn setup rules (code setup) dims some_dims setup.itlast)
        (end_place + length end_bins) (stages_after setup c)
    does_after c l =
        stages_then setup rules (code setup) dims some_dims
        (in_turn setup rules (code setup) dims some_dims c) analysis
        (in_turn setup rules (code setup) dims some_dims c) (analysis + length (from_code setup))
        (in_turn setup rules (code setup) dims some_dims setup.itlast)
        (end_place + length end_bins)
        (from_analysis setup c) (rest_behind setup c (setup.itlast - c))
        (does_from setup rules (code setup) dims some_dims c analysis
        (at_from setup rules (code setup) dims some_dims (suc (length (start_code setup)))
        at_loop))
        (does_rest c (setup.itlast - c) (omega arith))

    -- the start and the jump over what stands before ANALYSIS
    does_start : DoesStages setup rules (code setup) dims some_dims
        (in_turn setup rules (code setup) dims some_dims 0) 0
        (in_turn setup rules (code setup) dims some_dims 0) analysis (before_analysis setup 0)
    does_start =
        let e : 0 + length (start_code setup) ≡ length (start_code setup) = omega arith in
        let f : length (start_code setup) + suc (length (before_code setup)) ≡ analysis =
        omega arith in
        subst (DoesStages setup rules (code setup) dims some_dims
        (in_turn setup rules (code setup) dims some_dims 0) 0
        (in_turn setup rules (code setup) dims some_dims 0) analysis)
        (append-nil (before_analysis setup 0))
        (stages_then setup rules (code setup) dims some_dims
        (in_turn setup rules (code setup) dims some_dims 0) 0
        (in_turn setup rules (code setup) dims some_dims 0) (length (start_code setup))
        (in_turn setup rules (code setup) dims some_dims 0) analysis (before_analysis setup 0) []
        (stages_to setup rules (code setup) dims some_dims
        (in_turn setup rules (code setup) dims some_dims 0) 0
        (in_turn setup rules (code setup) dims some_dims 0) (0 + length (start_code setup))
        (length (start_code setup)) (before_analysis setup 0)
        (does_bins setup rules (code setup) dims some_dims
        (in_turn setup rules (code setup) dims some_dims 0) 0
        (STARTUP ∷ WRAGH ∷ PARAMCHECK ∷ BASEGRID ∷ INITIAL ∷ POSTINITIAL ∷ POSTSTEP ∷ [])
        at_start) e)
        (stages_to setup rules (code setup) dims some_dims
        (in_turn setup rules (code setup) dims some_dims 0) (length (start_code setup))
        (in_turn setup rules (code setup) dims some_dims 0)
        (length (start_code setup) + suc (length (before_code setup))) analysis []
        (λ state. runs_one setup rules (code setup)
        (placed (in_turn setup rules (code setup) dims some_dims 0) (length (start_code setup))
        state) (op.Skip (suc (length (before_code setup)))) at_skip.0 refl) f))

    does_all : DoesStages setup rules (code setup) dims some_dims
        (in_turn setup rules (code setup) dims some_dims 0) 0
        (in_turn setup rules (code setup) dims some_dims setup.itlast) (end_place + length end_bins)
        (stages setup)
    does_all =
        stages_then setup rules (code setup) dims some_dims
        (in_turn setup rules (code setup) dims some_dims 0) 0
        (in_turn setup rules (code setup) dims some_dims 0) (analysis + length (from_code setup))
        (in_turn setup rules (code setup) dims some_dims setup.itlast)
        (end_place + length end_bins)
        (iteration setup 0) (rest_behind setup 0 setup.itlast)
        (stages_then setup rules (code setup) dims some_dims
        (in_turn setup rules (code setup) dims some_dims 0) 0
        (in_turn setup rules (code setup) dims some_dims 0) analysis
        (in_turn setup rules (code setup) dims some_dims 0) (analysis + length (from_code setup))
        (before_analysis setup 0) (from_analysis setup 0)
        does_start
        (does_from setup rules (code setup) dims some_dims 0 analysis
        (at_from setup rules (code setup) dims some_dims (suc (length (start_code setup)))
        at_loop)))
        (does_rest 0 setup.itlast (omega arith))

    runs_as : (first : Flat) (goal : Flat) (so_far : Lengths) (ss : List Stage) (state : State)
        → Runs setup rules (code setup) first goal (course_stages setup rules ss state).notes
        → goal.state ≡ (course_stages setup rules ss state).state
        → op_at (code setup) goal.control.pc ≡ op.Halt
        → RunsAs setup rules first so_far (limited so_far (run_stages setup rules ss state))
    runs_as first goal so_far ss state r s h =
        record {
          count = r.count;
          goes_on = r.goes_on;
          paired = r.paired;
          halts = ap (λ g. is_halt (op_at (code setup) g.control.pc)) r.arrives ∙ ap is_halt h;
          run_is = ap (limited so_far)
              (cut_stages setup rules ss state
              ∙ ap (cut (course_stages setup rules ss state).notes)
              (sym s ∙ ap (λ g. g.state) (sym r.arrives))
              ∙ ap (λ ns. cut ns (flat_from setup rules (code setup) r.count first).state)
              (sym r.noted));
        }

    pub flat_run : FlatIsRun setup rules
    flat_run =
        record {
          undivided = runs_as (first_flat setup)
              (placed (in_turn setup rules (code setup) dims some_dims setup.itlast)
              (end_place + length end_bins)
              (course_stages setup rules (stages setup) (start setup)).state) no_lengths
              (stages setup) (start setup) (does_all (start setup)) refl at_halt;
          continued = λ c state so_far l.
              let e : analysis ≡ analysis_place setup = omega arith in
              runs_as (flat_after setup c state)
              (placed (in_turn setup rules (code setup) dims some_dims setup.itlast)
              (end_place + length end_bins)
              (course_stages setup rules (stages_after setup c) state).state) so_far
              (stages_after setup c) state
              (stages_from setup rules (code setup) dims some_dims
              (in_turn setup rules (code setup) dims some_dims c) analysis (analysis_place setup)
              (in_turn setup rules (code setup) dims some_dims setup.itlast)
              (end_place + length end_bins) (stages_after setup c) (does_after c l) e state)
              refl at_halt;
        }

    notes_as : (first goal : Flat) (notes : List Note)
        → Runs setup rules (code setup) first goal notes
        → op_at (code setup) goal.control.pc ≡ op.Halt → NotesAs setup rules first notes
    notes_as first goal notes r h =
        record {
          count = r.count;
          noted = r.noted;
          stops = ap (λ g. op_at (code setup) g.control.pc) r.arrives ∙ h;
        }

    pub whole_notes : NotesAs setup rules (first_flat setup)
        (course_stages setup rules (stages setup) (start setup)).notes
    whole_notes =
        notes_as (first_flat setup)
        (placed (in_turn setup rules (code setup) dims some_dims setup.itlast)
        (end_place + length end_bins)
        (course_stages setup rules (stages setup) (start setup)).state)
        (course_stages setup rules (stages setup) (start setup)).notes (does_all (start setup))
        at_halt

    pub continued_notes : (c : ℕ) (state : State) → c ≤ setup.itlast
        → NotesAs setup rules (flat_after setup c state)
        (course_stages setup rules (stages_after setup c) state).notes
    continued_notes c state l =
        let e : analysis ≡ analysis_place setup = omega arith in
        notes_as (flat_after setup c state)
        (placed (in_turn setup rules (code setup) dims some_dims setup.itlast)
        (end_place + length end_bins)
        (course_stages setup rules (stages_after setup c) state).state)
        (course_stages setup rules (stages_after setup c) state).notes
        (stages_from setup rules (code setup) dims some_dims
        (in_turn setup rules (code setup) dims some_dims c) analysis (analysis_place setup)
        (in_turn setup rules (code setup) dims some_dims setup.itlast)
        (end_place + length end_bins) (stages_after setup c) (does_after c l) e state) at_halt
