-- What a run that goes on past ends needs, and the flags that it leaves.
use Rattle.std.specs.Prelude.{ℕ, zero, suc, true, List, [], ◌∷◌, ◌++◌, flat_map}
use Rattle.std.specs.List.{range_with_len}
use Rattle.cx_plan.specs.Setups.{Setup}
use Rattle.cx_plan.specs.Regions.{Flags, Turns, leaves, cleared}
use Rattle.cx_rule.specs.Routine.{Rule}
use Rattle.cx_rule.specs.States.{State}
use Rattle.cx_model.specs.Traces.{Entry, Turned, Overflowed, Exchanged, Tested, Rotated, Wrote, Saved}
use Rattle.cx_model.specs.Stages.{Stage, before_analysis, iteration, stages, stages_after}
use Rattle.cx_model.specs.Uses.{entry_needs, entry_leaves}
use Rattle.cx_model.specs.Courses.{Note, course_stages}
use Rattle.cx_model.specs.Agreement.{Met}

-- the flags that an entry leaves; behind an Overflow the run goes on as behind a turn
abbrev pub goes_on_with : Setup → Entry → Flags → Flags
goes_on_with setup (Turned k iteration state) flags = leaves setup (Turns k) flags
goes_on_with setup (Overflowed k iteration state) flags = leaves setup (Turns k) flags
goes_on_with setup (Exchanged vars path state) flags =
    entry_leaves setup (Exchanged vars path state) flags
goes_on_with setup (Tested v path state) flags = flags
goes_on_with setup (Rotated state) flags = entry_leaves setup (Rotated state) flags
goes_on_with setup (Wrote v iteration text state) flags = flags
goes_on_with setup (Saved iteration state) flags = flags

-- the flags that several notes leave, one after another
abbrev pub notes_leave : Setup → List Note → Flags → Flags
notes_leave setup [] flags = flags
notes_leave setup (n ∷ ns) flags = notes_leave setup ns (goes_on_with setup n.entry flags)

-- each need of some notes is met, from these flags on
abbrev pub NotesMet : Setup → Flags → List Note → Type 0
NotesMet setup flags [] = Unit {0}
NotesMet setup flags (n ∷ ns) =
    Met setup flags (entry_needs setup n.entry)
    × NotesMet setup (goes_on_with setup n.entry flags) ns

-- flags that are all set
abbrev pub all_set : Flags
all_set v level f = true

-- the stages before the checkpoint place of an iteration ends, those behind which a continued run
-- begins
abbrev pub stages_before : Setup → ℕ → List Stage
stages_before setup zero = before_analysis setup 0
stages_before setup (suc c) =
    iteration setup 0 ++ (flat_map (iteration setup) (range_with_len 1 c)
    ++ before_analysis setup (suc c))

-- each need is met along the run that goes on past ends: from the start, and from the checkpoint
-- place of each iteration, by the flags that any course leaves there and by flags that are all set;
-- from any states
pub record NeedsMet (setup : Setup) (rules : List Rule) : Type 0 where
  pub whole : (first : State)
      → NotesMet setup cleared (course_stages setup rules (stages setup) first).notes
  pub behind : (c : ℕ) (first state : State)
      → NotesMet setup (notes_leave setup
      (course_stages setup rules (stages_before setup c) first).notes cleared)
      (course_stages setup rules (stages_after setup c) state).notes
  pub from_whole_state : (c : ℕ) (state : State)
      → NotesMet setup all_set (course_stages setup rules (stages_after setup c) state).notes
