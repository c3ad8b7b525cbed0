-- What is known of the operations of a job.
use Rattle.std.specs.Prelude.{◌≢◌, List, [], ◌∷◌, Contains, AllPairs, ⊤}
use Rattle.cx_plan.specs.declared.variable.VarId.{VarId}
use Rattle.cx_plan.specs.declared.job.Job.{Job}
use Rattle.cx_plan.specs.Setups.{setup_of}
use Rattle.cx_plan.specs.Regions.{run_items}
use Rattle.cx_plan.specs.Whole.{IsStored}
use Rattle.cx_flat.specs.declared.op.Op.{Op}
use Rattle.cx_flat.specs.declared.op.Op.TheVariants.{Sweep, Apply, Give, Join, Post, Take, Test, Open, Turn, Again, Rotate, Due, Written, Skip, Next, Piece, Save, Halt}

abbrev pub AreDifferent : List VarId → Type 0
AreDifferent vars = AllPairs (λ (a b : VarId). a.0 ≢ b.0) vars

-- an item that is run; different variables; a stored variable
abbrev pub IsKnown : Job → Op → Type 0
IsKnown job (Sweep k) = Contains (run_items (setup_of job)) k
IsKnown job (Apply k) = Contains (run_items (setup_of job)) k
IsKnown job (Give k) = Contains (run_items (setup_of job)) k
IsKnown job (Join k) = Contains (run_items (setup_of job)) k
IsKnown job (Post d vars) = AreDifferent vars
IsKnown job (Take d vars path) = AreDifferent vars
IsKnown job (Test v path skip) = IsStored job v 0
IsKnown job Open = ⊤
IsKnown job (Turn v path skip) = IsStored job v 0
IsKnown job (Again back) = ⊤
IsKnown job Rotate = ⊤
IsKnown job (Due skip) = ⊤
IsKnown job (Written skip) = ⊤
IsKnown job (Skip skip) = ⊤
IsKnown job (Next back) = ⊤
IsKnown job (Piece v) = IsStored job v 0
IsKnown job Save = ⊤
IsKnown job Halt = ⊤

abbrev pub AllKnown : Job → List Op → Type 0
AllKnown job [] = ⊤
AllKnown job (o ∷ os) = IsKnown job o × AllKnown job os
