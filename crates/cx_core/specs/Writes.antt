-- What the writer's events leave of a core.
use Rattle.std.specs.Prelude.{ℕ, ◌+◌, ◌<◌, ◌≡◌, Bool, nat_le, length, slice_index, slice_set, Option, Some, None, if◌then◌else◌}
use Rattle.cx_plan.specs.declared.variable.VarId.{VarId}
use Rattle.cx_plan.specs.Setups.{Setup}
use Rattle.cx_model.specs.Runs.{greatest_output}
use Rattle.cx_outputs.specs.Names.{place_in}
use Rattle.cx_core_buffers.specs.Gathering.{HasPiece, piece_of, with_name}
use Rattle.cx_core_events.specs.declared.standing.Work.{Work}
use Rattle.cx_core_events.specs.Steps.{wrote_one, over_now}
use Rattle.cx_core.specs.declared.answers.Event.{Event}
use Rattle.cx_core.specs.declared.answers.Event.TheVariants.{Section, Save, End}
use Rattle.cx_core.specs.declared.answers.Outcome.{Outcome}
use Rattle.cx_core.specs.declared.answers.Outcome.TheVariants.{Going, Done, Overflow, WhileLimit, OutputLimit}
use Rattle.cx_core.specs.Cores.{Cores}
use Rattle.cx_core.specs.Texts.{text_of_piece}

-- a buffer for a text, and one for checkpoints; and a length for the output
abbrev pub HasBuffer : Setup → Cores → Option VarId → Type 0
HasBuffer setup core None = length core.buffers.state.lengths ≡ length core.lengths
HasBuffer setup core (Some v) =
    HasPiece setup core.buffers v × (place_in setup.out_vars v < length core.lengths)

-- how long a variable's output is behind its text, and whether that is within its limit
abbrev pub length_behind : Setup → VarId → ℕ → Cores → ℕ
length_behind setup v iteration core =
    slice_index core.lengths (place_in setup.out_vars v)
    + length (text_of_piece setup iteration v (piece_of core.buffers v))

abbrev pub has_space : Setup → VarId → ℕ → Cores → Bool
has_space setup v iteration core = nat_le (length_behind setup v iteration core) greatest_output

-- the text comes next, or its output would pass the limit
abbrev pub text_written : Setup → VarId → ℕ → Cores → Cores
text_written setup v iteration core =
    record core {
      pace = wrote_one core.pace;
      lengths = slice_set core.lengths (place_in setup.out_vars v)
          (length_behind setup v iteration core);
      section = v;
    }

abbrev pub limit_met : ℕ → Cores → Cores
limit_met iteration core =
    record core { pace = over_now core.pace; outcome = OutputLimit iteration }

abbrev pub piece_written : Setup → VarId → ℕ → Cores → Cores
piece_written setup v iteration core =
    if has_space setup v iteration core then text_written setup v iteration core
    else limit_met iteration core

abbrev pub piece_event : Setup → VarId → ℕ → Cores → Event
piece_event setup v iteration core = if has_space setup v iteration core then Section v iteration
    else End

-- a checkpoint comes next
abbrev pub state_written : ℕ → Cores → Cores
state_written iteration core =
    record core {
      pace = wrote_one core.pace;
      buffers = with_name iteration core.lengths core.buffers;
    }

-- the run is over, by the end that a part has met, or by none
abbrev pub ended_by : Outcome → Outcome
ended_by Going = Done
ended_by Done = Done
ended_by (Overflow iteration path) = Overflow iteration path
ended_by (WhileLimit iteration path) = WhileLimit iteration path
ended_by (OutputLimit iteration) = OutputLimit iteration

abbrev pub run_ended : Cores → Cores
run_ended core = record core { pace = over_now core.pace; outcome = ended_by core.met }

-- ---- the first work

-- the buffers have room for it
abbrev pub CanWrite : Setup → Cores → Option Work → Type 0
CanWrite setup core None = ⊥
CanWrite setup core (Some work) = HasBuffer setup core work.var

-- what is written, and what is answered
abbrev pub WritesTo : Setup → Option VarId → ℕ → Cores → Cores → Event → Type 0
WritesTo setup None iteration old new event =
    (new ≡ state_written iteration old) × (event ≡ Save iteration)
WritesTo setup (Some v) iteration old new event =
    (new ≡ piece_written setup v iteration old) × (event ≡ piece_event setup v iteration old)

abbrev pub Writes : Setup → Option Work → Cores → Cores → Event → Type 0
Writes setup None old new event = ⊥
Writes setup (Some work) old new event = WritesTo setup work.var work.iteration old new event
