-- The end of a run in parts whose wires tell.
use Rattle.std.specs.Prelude.{ℕ, ◌<◌, ◌≡◌, true, Option, Some, None}
use Rattle.cx_plan.specs.declared.variable.VarId.{VarId}
use Rattle.cx_plan.specs.Lookups.{item, is_scalar}
use Rattle.cx_rule.specs.States.{State, scalar_of}
use Rattle.cx_model.specs.declared.ends.End.{End}
use Rattle.cx_model.specs.declared.ends.End.TheVariants.{Overflow, WhileLimit, OutputLimit}
use Rattle.cx_model.specs.Traces.{Trace, Goes}
use Rattle.cx_flat.specs.declared.op.Op.{Op}
use Rattle.cx_flat.specs.declared.op.Op.TheVariants.{Sweep, Apply, Give, Join, Post, Take, Test, Open, Turn, Again, Rotate, Due, Written, Skip, Next, Piece, Save, Halt}
use Rattle.cx_model.specs.Runs.{Lengths}
use Rattle.law_network.specs.Machine.{World}
use Rattle.law_parts.specs.Ends.{EndsBy, EndsAt}
use Rattle.law_parts.specs.Holding.{Held}
use Rattle.law_parts.specs.Laws.{IsReachedState}
use Rattle.law_parts.specs.Moves.{Message, Channel}
use Rattle.law_parts.specs.Runs.{Run, Oracle, parts_in, undivided, op_of, last_of}
use Rattle.law_reached.specs.Works.{works_of, handed_out}

-- the end that an operation in an iteration meets, where it meets one
abbrev pub end_met_by : Run → Op → ℕ → Option End
end_met_by r (Sweep i) iteration = Some (Overflow iteration (item r.setup i).path)
end_met_by r (Apply i) iteration = Some (Overflow iteration (item r.setup i).path)
end_met_by r (Join i) iteration = Some (Overflow iteration (item r.setup i).path)
end_met_by r (Turn v path skip) iteration = Some (WhileLimit iteration path)
end_met_by r (Piece v) iteration = Some (OutputLimit iteration)
end_met_by r (Give i) iteration = None
end_met_by r (Post d vars) iteration = None
end_met_by r (Take d vars path) iteration = None
end_met_by r (Test v path skip) iteration = None
end_met_by r Open iteration = None
end_met_by r (Again back) iteration = None
end_met_by r Rotate iteration = None
end_met_by r (Due skip) iteration = None
end_met_by r (Written skip) iteration = None
end_met_by r (Skip skip) iteration = None
end_met_by r (Next back) iteration = None
end_met_by r Save iteration = None
end_met_by r Halt iteration = None

-- A run in parts that is over at a place: the undivided run ends there too, by the end that its
-- operation there meets or, at its last place, by none, and all its works have been handed out.
-- Behind the last place all parts hold the scalars of its last state.
pub record EndsAsRun {tells : Type 0} (r : Run) (trace : Trace) (oracle : Oracle)
    (w : World Held (Message tells) Channel Lengths) (n : ℕ) : Type 0 where
  pub ends : EndsAt r trace n
  pub works : works_of trace.entries ≡ handed_out r w
  pub last : n ≡ last_of r oracle → EndsBy None trace.outcome
  pub earlier : (n ≡ last_of r oracle → ⊥)
      → (end : End) × (end_met_by r (op_of r n) (undivided r n).control.iteration ≡ Some end)
      × EndsBy (Some end) trace.outcome
  pub scalars : n ≡ last_of r oracle → (state : State) → trace.outcome ≡ Goes state
      → (k : ℕ) (v : VarId) → k < parts_in r → is_scalar r.setup v ≡ true
      → scalar_of (w.held k).numbers v ≡ scalar_of state v

-- of each state that is reached and over
abbrev pub EndIsTheRuns : Type 0 → Run → Trace → Type 0
EndIsTheRuns tells r trace =
    tells → (oracle : Oracle) (w : World Held (Message tells) Channel Lengths)
    → IsReachedState tells r oracle w
    → (n : ℕ) → w.over ≡ Some n → EndsAsRun r trace oracle w n
