-- What an undivided run uses, and the flags that it leaves.
use Rattle.std.specs.Prelude.{◌≡◌, List, [], ◌∷◌, ◌++◌}
use Rattle.cx_plan.specs.Setups.{Setup}
use Rattle.cx_plan.specs.Regions.{Turns, Syncs, Tests, Rotates, Flags, Need, cleared, needs, leaves, output_needs}
use Rattle.cx_rule.specs.Routine.{Rule}
use Rattle.cx_model.specs.Traces.{Entry, Turned, Overflowed, Exchanged, Tested, Rotated, Wrote, Saved}
use Rattle.cx_model.specs.Runs.{undivided_run}
use Rattle.cx_model.specs.Agreement.{Met}

-- what an entry needs
abbrev pub entry_needs : Setup → Entry → List Need
entry_needs setup (Turned k iteration state) = needs setup (Turns k)
entry_needs setup (Overflowed k iteration state) = needs setup (Turns k)
entry_needs setup (Exchanged vars path state) = needs setup (Syncs vars path)
entry_needs setup (Tested v path state) = needs setup (Tests v path)
entry_needs setup (Rotated state) = []
entry_needs setup (Wrote v iteration text state) = output_needs setup v
entry_needs setup (Saved iteration state) = []

-- the flags that an entry leaves
abbrev pub entry_leaves : Setup → Entry → Flags → Flags
entry_leaves setup (Turned k iteration state) flags = leaves setup (Turns k) flags
entry_leaves setup (Overflowed k iteration state) flags = flags
entry_leaves setup (Exchanged vars path state) flags = leaves setup (Syncs vars path) flags
entry_leaves setup (Tested v path state) flags = flags
entry_leaves setup (Rotated state) flags = leaves setup Rotates flags
entry_leaves setup (Wrote v iteration text state) flags = flags
entry_leaves setup (Saved iteration state) flags = flags

-- the flags that several entries leave, one after another
abbrev pub entries_leave : Setup → List Entry → Flags → Flags
entries_leave setup [] flags = flags
entries_leave setup (e ∷ es) flags = entries_leave setup es (entry_leaves setup e flags)

-- each need of an entry is met by the flags that the entries before it leave
abbrev pub UsesSet : Setup → List Entry → Type 0
UsesSet setup entries =
    (earlier : List Entry) (e : Entry) (later : List Entry) → entries ≡ earlier ++ e ∷ later
    → Met setup (entries_leave setup earlier cleared) (entry_needs setup e)

-- the undivided run never uses a value of a region that no write has set since its flag was last
-- cleared
abbrev pub UsesOnlySet : Setup → List Rule → Type 0
UsesOnlySet setup rules = UsesSet setup (undivided_run setup rules).entries
