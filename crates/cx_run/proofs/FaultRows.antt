-- Worked rows: the words of faults.
use Rattle.std.specs.Prelude.{◌≡◌, refl, [], ◌∷◌, ◌++◌, codes}
use Rattle.std.specs.Fmt.{digits}
use Rattle.cx_text.specs.declared.fault.TextFault.TheVariants as texts
use Rattle.cx_text.specs.declared.fault.CclFault.TheVariants as trees
use Rattle.cx_expr.specs.declared.tree.ExprFault.TheVariants as exprs
use Rattle.cx_plan.specs.declared.flag.Flag.TheVariants.{I, B, G, S}
use Rattle.cx_bind.specs.declared.thorns.BindFault.TheVariants as binds
use Rattle.cx_values.specs.declared.fault.ValueFault.TheVariants as values
use Rattle.cx_scope.specs.declared.fault.ScopeFault.TheVariants as scopes
use Rattle.cx_order.specs.declared.fault.OrderFault.TheVariants as orders
use Rattle.cx_region.specs.declared.fault.RegionFault.TheVariants as regions
use Rattle.cx_cut.specs.declared.faults.CutFault.TheVariants as cuts
use Rattle.cx_job.specs.declared.fault.JobFault.TheVariants as jobs
use Rattle.cx_run.specs.FaultWords.{fault_words, refused_text}

-- ---- what is printed

-- no file of this name
row_no_file : refused_text (jobs.NoFile (codes "none.par"))
    ≡ codes "refused: NoFile none.par" ++ 10 ∷ []
row_no_file = refl

-- an active thorn that isn't listed
row_unknown_thorn : refused_text (jobs.Bind (binds.UnknownThorn (codes "Xyz")))
    ≡ codes "refused: UnknownThorn Xyz" ++ 10 ∷ []
row_unknown_thorn = refl

-- ghost points that no SYNC sets
row_unset_ghosts : refused_text
    (jobs.Region (regions.Unset (codes "i") (codes "EVOL/wave_flat") (codes "wave::phi") 0 G))
    ≡ codes "refused: Unset i EVOL/wave_flat wave::phi 0 G" ++ 10 ∷ []
unfolding digits
row_unset_ghosts = refl

-- an older level that no item fills
row_unset_level : refused_text
    (jobs.Region (regions.Unset (codes "i") (codes "EVOL/wave_step") (codes "wave::phi") 2 I))
    ≡ codes "refused: Unset i EVOL/wave_step wave::phi 2 I" ++ 10 ∷ []
unfolding digits
row_unset_level = refl

-- boundary points in the second iteration
row_unset_boundary : refused_text
    (jobs.Region (regions.Unset (codes "ii") (codes "EVOL/wave_step") (codes "wave::phi") 1 B))
    ≡ codes "refused: Unset ii EVOL/wave_step wave::phi 1 B" ++ 10 ∷ []
unfolding digits
row_unset_boundary = refl

-- ---- files

row_bad_byte : fault_words (jobs.Text (codes "a.par") (texts.BadByte 2)) ≡ codes "a.par BadByte 2"
unfolding digits
row_bad_byte = refl

row_open_quote : fault_words (jobs.Text (codes "interface.ccl") (texts.OpenQuote 4))
    ≡ codes "interface.ccl OpenQuote 4"
unfolding digits
row_open_quote = refl

row_too_long : fault_words (jobs.Text (codes "a.par") texts.TooLong) ≡ codes "a.par TooLong"
row_too_long = refl

row_unexpected : fault_words (jobs.Ccl (codes "schedule.ccl") (trees.Unexpected 1))
    ≡ codes "schedule.ccl Unexpected 1"
unfolding digits
row_unexpected = refl

row_repeated : fault_words (jobs.Ccl (codes "interface.ccl") (trees.Repeated 3))
    ≡ codes "interface.ccl Repeated 3"
unfolding digits
row_repeated = refl

row_bad_number : fault_words (jobs.Ccl (codes "interface.ccl") (trees.BadNumber 2))
    ≡ codes "interface.ccl BadNumber 2"
unfolding digits
row_bad_number = refl

row_limit_of_files : fault_words (jobs.Ccl (codes "param.ccl") (trees.Limit 5))
    ≡ codes "param.ccl Limit 5"
unfolding digits
row_limit_of_files = refl

-- ---- thorns and parameters

row_two_thorns : fault_words (jobs.Bind (binds.TwoThorns (codes "WaveInt")))
    ≡ codes "TwoThorns WaveInt"
row_two_thorns = refl

row_two_providers : fault_words
    (jobs.Bind (binds.TwoProviders (codes "ca") (codes "ElemCA") (codes "Other")))
    ≡ codes "TwoProviders ca ElemCA Other"
row_two_providers = refl

row_missing_implementation : fault_words
    (jobs.Bind (binds.MissingImplementation (codes "WaveInt") (codes "grid")))
    ≡ codes "MissingImplementation WaveInt grid"
row_missing_implementation = refl

row_missing_capability : fault_words
    (jobs.Bind (binds.MissingCapability (codes "WaveInt") (codes "MPI")))
    ≡ codes "MissingCapability WaveInt MPI"
row_missing_capability = refl

row_missing_thorn : fault_words (jobs.Bind (binds.MissingThorn (codes "WaveInt") (codes "Control")))
    ≡ codes "MissingThorn WaveInt Control"
row_missing_thorn = refl

row_no_parameter : fault_words
    (jobs.Bind (binds.NoParameter (codes "WaveInt") (codes "ca") (codes "ruler")))
    ≡ codes "NoParameter WaveInt ca ruler"
row_no_parameter = refl

row_wrong_type : fault_words (jobs.Bind (binds.WrongType (codes "WaveInt") (codes "rule")))
    ≡ codes "WrongType WaveInt rule"
row_wrong_type = refl

row_two_variables : fault_words (jobs.Bind (binds.TwoVariables (codes "wave::phi")))
    ≡ codes "TwoVariables wave::phi"
row_two_variables = refl

row_two_parameters : fault_words (jobs.Bind (binds.TwoParameters (codes "wave::factor")))
    ≡ codes "TwoParameters wave::factor"
row_two_parameters = refl

row_unsupported : fault_words (jobs.Bind (binds.Unsupported (codes "WaveInt") (codes "field")))
    ≡ codes "Unsupported WaveInt field"
row_unsupported = refl

row_two_dims : fault_words (jobs.Bind (binds.TwoDims (codes "ca::cells") (codes "life::cells")))
    ≡ codes "TwoDims ca::cells life::cells"
row_two_dims = refl

row_limit_of_thorns : fault_words (jobs.Bind (binds.Limit (codes "thorns") 65))
    ≡ codes "Limit thorns 65"
unfolding digits
row_limit_of_thorns = refl

row_bad_default : fault_words (jobs.Value (values.BadDefault (codes "ca::rule")))
    ≡ codes "BadDefault ca::rule"
row_bad_default = refl

row_unknown_param : fault_words (jobs.Value (values.UnknownParam 3)) ≡ codes "UnknownParam 3"
unfolding digits
row_unknown_param = refl

row_index : fault_words (jobs.Value (values.Index 3)) ≡ codes "Index 3"
unfolding digits
row_index = refl

row_bad_spelling : fault_words (jobs.Value (values.BadSpelling 3)) ≡ codes "BadSpelling 3"
unfolding digits
row_bad_spelling = refl

row_out_of_range : fault_words (jobs.Value (values.OutOfRange 3)) ≡ codes "OutOfRange 3"
unfolding digits
row_out_of_range = refl

row_twice : fault_words (jobs.Value (values.Twice 4)) ≡ codes "Twice 4"
unfolding digits
row_twice = refl

row_not_steerable : fault_words (jobs.Steer (codes "s.txt") (values.NotSteerable 1))
    ≡ codes "s.txt NotSteerable 1"
unfolding digits
row_not_steerable = refl

row_steer_order : fault_words (jobs.Steer (codes "s.txt") (values.SteerOrder 2))
    ≡ codes "s.txt SteerOrder 2"
unfolding digits
row_steer_order = refl

-- ---- schedules

row_unknown_name : fault_words
    (jobs.Order (orders.Expr (codes "WaveInt") (exprs.UnknownName (codes "edge"))))
    ≡ codes "WaveInt UnknownName edge"
row_unknown_name = refl

row_not_number : fault_words
    (jobs.Order (orders.Expr (codes "WaveInt") (exprs.NotNumber (codes "pattern"))))
    ≡ codes "WaveInt NotNumber pattern"
row_not_number = refl

row_not_text : fault_words
    (jobs.Order (orders.Expr (codes "WaveInt") (exprs.NotText (codes "factor"))))
    ≡ codes "WaveInt NotText factor"
row_not_text = refl

row_range : fault_words (jobs.Order (orders.Expr (codes "WaveInt") (exprs.Range (codes "/"))))
    ≡ codes "WaveInt Range /"
row_range = refl

row_unknown_bin : fault_words (jobs.Order (orders.UnknownBin (codes "EVOLVE")))
    ≡ codes "UnknownBin EVOLVE"
row_unknown_bin = refl

row_two_names : fault_words (jobs.Order (orders.TwoNames (codes "EVOL/wave_step")))
    ≡ codes "TwoNames EVOL/wave_step"
row_two_names = refl

row_group_cycle : fault_words (jobs.Order (orders.GroupCycle (codes "P" ∷ codes "Q" ∷ [])))
    ≡ codes "GroupCycle P,Q"
row_group_cycle = refl

row_cycle : fault_words (jobs.Order (orders.Cycle (codes "A" ∷ codes "B" ∷ codes "C" ∷ [])))
    ≡ codes "Cycle A,B,C"
row_cycle = refl

row_not_found : fault_words
    (jobs.Order (orders.Scope (codes "EVOL/wave_step") (scopes.NotFound (codes "psi"))))
    ≡ codes "EVOL/wave_step NotFound psi"
row_not_found = refl

row_hidden : fault_words
    (jobs.Order (orders.Scope (codes "EVOL/wave_step") (scopes.Hidden (codes "ca::cell"))))
    ≡ codes "EVOL/wave_step Hidden ca::cell"
row_hidden = refl

row_no_storage : fault_words
    (jobs.Order (orders.Scope (codes "EVOL/wave_step") (scopes.NoStorage (codes "phi"))))
    ≡ codes "EVOL/wave_step NoStorage phi"
row_no_storage = refl

row_no_level : fault_words
    (jobs.Order (orders.Scope (codes "EVOL/wave_step") (scopes.NoLevel (codes "phi_p"))))
    ≡ codes "EVOL/wave_step NoLevel phi_p"
row_no_level = refl

row_not_scalar : fault_words
    (jobs.Order (orders.Scope (codes "EVOL/wave_step") (scopes.NotScalar (codes "phi"))))
    ≡ codes "EVOL/wave_step NotScalar phi"
row_not_scalar = refl

row_not_grid : fault_words
    (jobs.Order (orders.Scope (codes "EVOL/wave_step") (scopes.NotGrid (codes "energy"))))
    ≡ codes "EVOL/wave_step NotGrid energy"
row_not_grid = refl

row_limit_of_schedules : fault_words (jobs.Order (orders.Limit (codes "nodes") 4097))
    ≡ codes "Limit nodes 4097"
unfolding digits
row_limit_of_schedules = refl

-- ---- jobs

row_unknown_routine : fault_words (jobs.UnknownRoutine (codes "EVOL/wave_step"))
    ≡ codes "UnknownRoutine EVOL/wave_step"
row_unknown_routine = refl

row_mismatch : fault_words
    (jobs.RoutineMismatch (codes "EVOL/ca_step") (codes "(reads ca::cell(everywhere))")
    (codes "()"))
    ≡ codes "RoutineMismatch EVOL/ca_step (reads ca::cell(everywhere)) ()"
row_mismatch = refl

row_limit_of_jobs : fault_words (jobs.Limit (codes "owned cells") 67108865)
    ≡ codes "Limit owned cells 67108865"
unfolding digits
row_limit_of_jobs = refl

row_widths_differ : fault_words (jobs.Cut (cuts.WidthsDiffer 8 10)) ≡ codes "WidthsDiffer 8 10"
unfolding digits
row_widths_differ = refl

row_grid_too_small : fault_words (jobs.Cut (cuts.GridTooSmall 4 5)) ≡ codes "GridTooSmall 4 5"
unfolding digits
row_grid_too_small = refl

row_too_many : fault_words (jobs.Cut (cuts.TooMany 513 512)) ≡ codes "TooMany 513 512"
unfolding digits
row_too_many = refl

row_part_too_thin : fault_words (jobs.Cut (cuts.PartTooThin 1 2)) ≡ codes "PartTooThin 1 2"
unfolding digits
row_part_too_thin = refl

row_too_large : fault_words (jobs.TooLarge (codes "EVOL/ca_step") 10 9)
    ≡ codes "TooLarge EVOL/ca_step 10 9"
unfolding digits
row_too_large = refl

-- an item that writes nothing
row_shape : fault_words (jobs.Region (regions.Shape (codes "EVOL/wave_step") []))
    ≡ codes "Shape EVOL/wave_step -"
row_shape = refl

-- a path of no letters
row_unset_scalar : fault_words
    (jobs.Region (regions.Unset [] (codes "INITIAL/control_drop") (codes "control::left") 0 S))
    ≡ codes "Unset - INITIAL/control_drop control::left 0 S"
unfolding digits
row_unset_scalar = refl

-- ---- the faults of devices have the words of their names

row_shelf : fault_words jobs.Shelf ≡ codes "Shelf"
row_shelf = refl

row_memory : fault_words jobs.Memory ≡ codes "Memory"
row_memory = refl
