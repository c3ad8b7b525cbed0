-- What following one flag along all paths of a job answers.
use Rattle.std.specs.Prelude.{ℕ, List, [], ◌∷◌, Result, Ok, Err, Vec}
use Rattle.std.specs.declared.alloc.Global.{Global}
use Rattle.cx_plan.specs.Setups.{Setup}
use Rattle.cx_plan.specs.Regions.{cleared}
use Rattle.cx_plan.specs.declared.flag.Flag.{Flag}
use Rattle.cx_plan.specs.declared.variable.VarId.{VarId}
use Rattle.cx_plan.specs.Paths.{Mark, Letter, Then, Just, PathOfJob, IsUnset}
use Rattle.cx_plan.specs.declared.job.Job.{Job}
use Rattle.cx_region.specs.declared.one_flag_tree.Search.{Search}
use Rattle.cx_region.specs.declared.one_flag_tree.Rounds.{Rounds}
use Rattle.cx_region.specs.declared.one_flag_tree.Rounds.TheVariants.{Once, Settled}
use Rattle.cx_region.specs.declared.witness.Followed.{Followed}
use Rattle.cx_region.specs.declared.witness.Witness.{Witness}
use Rattle.cx_region.specs.declared.witness.WitnessStop.{WitnessStop}
use Rattle.cx_region.specs.declared.witness.WitnessStop.TheVariants.{Unset, Memory}
use Rattle.cx_region_flags.specs.Unmet.{seen}
use Rattle.cx_region.specs.Witnesses.{GoesOn, AreMet, IsAmong, GoOn, Stop}

-- a letter, and then this
abbrev pub Behind : ℕ → (List Mark → Type 0) → List Mark → Type 0
Behind letter P = Then (Just (Letter letter ∷ [])) P

-- each new way is an old one that has gone on
abbrev pub Come : Job → (List Mark → Type 0) → List Witness → List Witness → Type 0
Come job Q old new = (new_way : Witness) → IsAmong new new_way
    → (way : Witness) × IsAmong old way × GoesOn job Q way new_way

-- where each WHILE takes one turn at most, nothing is said of where the flag is cleared
abbrev pub GoOnBy : Job → Rounds → Followed → (List Mark → Type 0) → List Witness → List Witness
    → Type 0
GoOnBy job Once x Q old new = Come job Q old new
GoOnBy job Settled x Q old new = GoOn job x Q old new

abbrev pub GoesBy : Job → Rounds → Followed → (List Mark → Type 0) → List Witness
    → Result (Vec Witness Global) WitnessStop → Type 0
GoesBy job rounds x Q old (Ok new) = GoOnBy job rounds x Q old new.items
GoesBy job rounds x Q old (Err stop) = Stop job Q old stop

-- where a search leads the ways
abbrev pub GoesOnBy : Job → Search → (List Mark → Type 0) → List Witness
    → Result (Vec Witness Global) WitnessStop → Type 0
GoesOnBy job search Q old result = GoesBy job search.rounds search.followed Q old result

-- each need of the flag is met on all paths
abbrev pub IsAlwaysMet : Setup → Followed → Type 0
IsAlwaysMet setup x = (marks : List Mark) → PathOfJob setup marks → AreMet setup x cleared marks

-- each need of each flag of a variable is met on all paths
abbrev pub AreAlwaysMet : Setup → VarId → Type 0
AreAlwaysMet setup v = (f : Flag) → IsAlwaysMet setup (record { variable = v; flag = f })

-- each need of the flag is always met, memory is wanting, or a need isn't met on some path of these
-- letters
abbrev pub Follows : {X : Type 0} → Setup → Followed → Result X WitnessStop → Type 0
Follows setup x (Ok y) = IsAlwaysMet setup x
Follows setup x (Err Memory) = Unit {0}
Follows setup x (Err (Unset letters unmet)) = IsUnset setup letters (seen unmet)
