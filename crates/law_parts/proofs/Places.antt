-- What the exchange of a run rests on: its operations go in pairs, name grid variables, and are the
-- undivided run's where wires tell.
use Rattle.std.proofs.Common.{ℕ, suc, ◌<◌, ◌≤◌, ◌≡◌, List, None}
use Rattle.cx_plan.specs.declared.variable.VarId.{VarId}
use Rattle.cx_flat.specs.declared.op.Op.{Op}
use Rattle.cx_flat.specs.declared.op.Op.TheVariants.{Post}
use Rattle.cx_flat.specs.Flats.{begins_pair, ends_pair}
use Rattle.law_parts.specs.Runs.{Run, Oracle, next_op, undivided, guided, last_of}
use Rattle.law_parts.specs.Operations.{IsExchange}

-- the operation at a place of the way of all parts
abbrev pub guided_op : Run → Oracle → ℕ → Op
guided_op r oracle n = next_op r (guided r oracle n).control

pub record Exchanges (tells : Type 0) (r : Run) (oracle : Oracle) : Type 0 where
  pub few : r.setup.shape.dims ≤ 3
  -- what begins a pair is followed by what ends it
  pub first : ends_pair (guided_op r oracle 0) ≡ None
  pub pairs : tells → (n : ℕ) → n < last_of r oracle
      → ends_pair (guided_op r oracle (suc n)) ≡ begins_pair r.setup (guided_op r oracle n)
  pub posts : (n d : ℕ) (vars : List VarId) → guided_op r oracle n ≡ Post d vars
      → IsExchange r.setup d vars
  -- where wires tell, the way is the undivided run's
  pub true_control : tells → (n : ℕ) → (guided r oracle n).control ≡ (undivided r n).control
