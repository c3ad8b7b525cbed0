-- A run in parts: what it is of, how its places are numbered, and the way that its parts go by what
-- they give for reductions.
use Rattle.std.specs.Prelude.{ℕ, zero, suc, Bool, ◌&&◌, ◌==◌, ℤ, pos, List, map, cond}
use Rattle.std.specs.List.{range_with_len}
use Rattle.cx_plan.specs.declared.job.Cuts.{Cuts}
use Rattle.cx_plan.specs.declared.variable.VarId.{VarId}
use Rattle.cx_plan.specs.declared.flag.Flag.TheVariants.{G}
use Rattle.cx_plan.specs.Setups.{Setup}
use Rattle.cx_plan.specs.Lookups.{item}
use Rattle.cx_plan.specs.Regions.{Flags, cleared, is_among}
use Rattle.cx_rule.specs.Routine.{Rule}
use Rattle.cx_rule.specs.States.{State, scalar_of}
use Rattle.cx_model.specs.Courses.{Note, state_or}
use Rattle.cx_model.specs.Runs.{Lengths, no_lengths}
use Rattle.cx_model.specs.Needs.{all_set}
use Rattle.cx_cut.specs.Cuts.{Parts, part_count}
use Rattle.cx_cut.specs.Faults.{parts_of}
use Rattle.cx_flat.specs.declared.op.Op.{Op}
use Rattle.cx_flat.specs.declared.op.Op.TheVariants.{Sweep, Apply, Give, Join, Post, Take, Test, Open, Turn, Again, Rotate, Due, Written, Skip, Next, Piece, Save, Halt}
use Rattle.cx_flat.specs.Code.{op_at, code}
use Rattle.cx_flat.specs.Flats.{Control, Flat, control_after, state_after, is_halt, first_flat, flat_after}
use Rattle.cx_flat.specs.Ways.{most_operations, most_after}
use Rattle.cx_flat.specs.Places as places
use Rattle.law_parts.specs.Holding.{joined, join_turn}

-- a run of a setup by these rules over this cut, from a beginning with outputs of these lengths
pub record Run : Type 0 where
  pub setup : Setup
  pub rules : List Rule
  pub cuts : Cuts
  -- how many iterations a part may be ahead of another one
  pub lead : ℕ
  pub first : Flat
  pub so_far : Lengths
  -- no way from there has more operations
  pub most : ℕ
  -- the flags at the beginning: none, or all where it is continued from a whole state
  pub flags : Flags

-- its parts, and how many they are
abbrev pub cut_of : Run → Parts
cut_of r = parts_of r.setup.shape r.cuts

abbrev pub parts_in : Run → ℕ
parts_in r = part_count (cut_of r)

abbrev pub from_start : Setup → List Rule → Cuts → ℕ → Run
from_start setup rules cuts lead =
    record {
      setup = setup;
      rules = rules;
      cuts = cuts;
      lead = lead;
      first = first_flat setup;
      so_far = no_lengths;
      most = most_operations setup;
      flags = cleared;
    }

-- continued from a state of the checkpoint place of an iteration
abbrev pub from_state : Setup → List Rule → Cuts → ℕ → ℕ → State → Lengths → Run
from_state setup rules cuts lead c state so_far =
    record {
      setup = setup;
      rules = rules;
      cuts = cuts;
      lead = lead;
      first = flat_after setup c state;
      so_far = so_far;
      most = most_after setup c;
      flags = all_set;
    }

-- the operation that a control stands at
abbrev pub next_op : Run → Control → Op
next_op r c = op_at (code r.setup) c.pc

-- ---- the undivided run by places

-- control and state before operation n, the operation, what it notes, and the flags before it
abbrev pub undivided : Run → ℕ → Flat
undivided r n = places.flat_at r.setup r.rules r.first n

abbrev pub op_of : Run → ℕ → Op
op_of r n = next_op r (undivided r n).control

abbrev pub notes_of : Run → ℕ → List Note
notes_of r n = places.notes_of r.setup r.rules (undivided r n)

abbrev pub flags_at : Run → ℕ → Flags
flags_at r n = places.flags_at r.setup r.rules r.first r.flags n

-- in how many directions the local points of a variable's level are those of the undivided run: in
-- all where G is set, and within a SYNC of it in those that are done
abbrev pub done_directions : Op → VarId → ℕ → ℕ
done_directions (Post d vars) v level = cond (is_among v vars && level == 0) d 0
done_directions (Take d vars path) v level = cond (is_among v vars && level == 0) d 0
done_directions (Sweep k) v level = 0
done_directions (Apply k) v level = 0
done_directions (Give k) v level = 0
done_directions (Join k) v level = 0
done_directions (Test w path skip) v level = 0
done_directions Open v level = 0
done_directions (Turn w path skip) v level = 0
done_directions (Again back) v level = 0
done_directions Rotate v level = 0
done_directions (Due skip) v level = 0
done_directions (Written skip) v level = 0
done_directions (Skip skip) v level = 0
done_directions (Next back) v level = 0
done_directions (Piece w) v level = 0
done_directions Save v level = 0
done_directions Halt v level = 0

abbrev pub synced : Run → ℕ → VarId → ℕ → ℕ
synced r n v level = cond (flags_at r n v level G) 3 (done_directions (op_of r n) v level)

-- ---- the way, by what the parts give

-- what a part gives at a place
abbrev pub Oracle : Type 0
Oracle = ℕ → ℕ → ℤ

-- what a part gives at the place before this one
abbrev pub given_before : Oracle → ℕ → ℕ → ℤ
given_before oracle zero a = pos 0
given_before oracle (suc n) a = oracle a n

-- the number of a reduction whose result stands at place n
abbrev pub joined_at : Run → Oracle → ℕ → ℕ → ℤ
joined_at r oracle k n =
    joined (item r.setup k).kind (map (given_before oracle n) (range_with_len 0 (parts_in r)))

abbrev pub guided_state : Run → Oracle → ℕ → Op → ℕ → State → State
guided_state r oracle n (Join k) iteration state =
    state_or (join_turn r.setup (item r.setup k) state (joined_at r oracle k n)) state
guided_state r oracle n (Sweep k) iteration state =
    state_after r.setup r.rules (Sweep k) iteration state
guided_state r oracle n (Apply k) iteration state =
    state_after r.setup r.rules (Apply k) iteration state
guided_state r oracle n (Give k) iteration state = state
guided_state r oracle n (Post d vars) iteration state = state
guided_state r oracle n (Take d vars path) iteration state = state
guided_state r oracle n (Test v path skip) iteration state = state
guided_state r oracle n Open iteration state = state
guided_state r oracle n (Turn v path skip) iteration state = state
guided_state r oracle n (Again back) iteration state = state
guided_state r oracle n Rotate iteration state = state_after r.setup r.rules Rotate iteration state
guided_state r oracle n (Due skip) iteration state = state
guided_state r oracle n (Written skip) iteration state = state
guided_state r oracle n (Skip skip) iteration state = state
guided_state r oracle n (Next back) iteration state = state
guided_state r oracle n (Piece v) iteration state = state
guided_state r oracle n Save iteration state = state
guided_state r oracle n Halt iteration state = state

abbrev pub guided_step : Run → Oracle → ℕ → Op → Flat → Flat
guided_step r oracle n o g =
    record {
      control = control_after r.setup o (scalar_of g.state) g.control;
      state = guided_state r oracle n o g.control.iteration g.state;
    }

-- its control and its scalars are those of all parts; its grid variables count for nothing
abbrev pub guided : Run → Oracle → ℕ → Flat
guided r oracle zero = r.first
guided r oracle (suc n) =
    guided_step r oracle n (next_op r (guided r oracle n).control) (guided r oracle n)

-- ---- where a run ends

-- the first of so many numbers from s on at which p holds, or the one behind them
abbrev pub first_from : ℕ → ℕ → (ℕ → Bool) → ℕ
first_from zero s p = s
first_from (suc f) s p = cond (p s) s (first_from f (suc s) p)

abbrev pub halts : Run → Control → Bool
halts r c = is_halt (next_op r c)

abbrev pub last_of : Run → Oracle → ℕ
last_of r oracle = first_from r.most 0 (λ n. halts r (guided r oracle n).control)
