-- What a keeper is, and where its calls lead.
use Rattle.std.specs.Prelude.{ℕ, ◌+◌, ◌<◌, ◌≤◌, ◌≡◌, ◌⊎◌, List, ◌++◌, length, take, slice_index, slice_set, Option, Some}
use Rattle.cx_disk.specs.Disk.{Files, View, Changes, LeavesOnly}
use Rattle.cx_plan.specs.declared.job.Job.{Job}
use Rattle.cx_chk.specs.declared.checkpoint.Checkpoint.{Checkpoint}
use Rattle.cx_chk.specs.Slots.{SlotsSettled}
use Rattle.cx_plan.specs.declared.variable.VarId.{VarId}
use Rattle.cx_outputs.specs.Names.{place_in}
use Rattle.cx_keep.specs.Trails.{Course, Stands, IsTrailOf, IsNextPiece, IsNextCheckpoint, file_of_output}
use Rattle.cx_keep.specs.Beginning.{lengths_left, IsLater}

-- the number of the last slot that it saves to, the variables that are written, and the length of
-- each one's output by its own count
pub record Keeper : Type 0 where
  pub keep : ℕ
  pub vars : List VarId
  pub lengths : List ℕ

-- it saves to two slots at least, and counts each output
pub record IsKeeper (k : Keeper) : Type 0 where
  pub some_slots : 1 ≤ k.keep
  pub slots_limit : k.keep ≤ 7
  pub few_outputs : length k.vars ≤ 256
  pub outputs : length k.lengths ≡ length k.vars

-- the keeper of a job behind a start
abbrev pub keeper_of : Job → Option Checkpoint → Keeper
keeper_of job found = record {
  keep = job.keep;
  vars = job.out_vars;
  lengths = lengths_left (length job.out_vars) found;
}

-- a variable that it writes, the place of its output, and the count of that
abbrev pub HasOutputOf : Keeper → VarId → Type 0
HasOutputOf k v = place_in k.vars v < length k.vars

abbrev pub place_of : Keeper → VarId → ℕ
place_of k v = place_in k.vars v

abbrev pub written : Keeper → VarId → ℕ
written k v = slice_index k.lengths (place_of k v)

-- the keeper behind a piece of so many bytes
abbrev pub grown : Keeper → VarId → ℕ → Keeper
grown k v count = record k { lengths = slice_set k.lengths (place_of k v) (written k v + count) }

-- ---- a piece

-- the bytes stand behind what an output had, and no other file is changed
abbrev pub Appends : ℕ → List ℕ → Files → Files → Type 0
Appends j bytes old new = Changes (λ was now. now ≡ was ++ bytes) (file_of_output j) old new

-- what an output had is there, and no other file is changed
abbrev pub KeepsOutput : ℕ → Files → Files → Type 0
KeepsOutput j old new = Changes (λ was now. take (length was) now ≡ was) (file_of_output j) old new

-- what a keeper keeps between two calls, and that these bytes come next in an output
pub record CanAppend (course : Course) (newest : Option ℕ) (next : Option Checkpoint) (j : ℕ)
    (bytes : List ℕ) (v : View) : Type 0 where
  pub stands : Stands course newest next v
  pub piece : IsNextPiece course next j bytes (v.seen (file_of_output j))

abbrev pub AppendStands : ℕ → List ℕ → View → View → Type 0
AppendStands j bytes old new = (course : Course) (newest : Option ℕ) (next : Option Checkpoint)
    → CanAppend course newest next j bytes old → Stands course newest next new

-- a piece that is appended: its bytes, and where the run's keeper stands
pub record IsAppended (j : ℕ) (piece : List ℕ) (old new : View) : Type 0 where
  pub bytes : Appends j piece old.seen new.seen
  pub stands : AppendStands j piece old new

-- what stays, also where the call failed
pub record KeepsRest (j : ℕ) (old new : View) : Type 0 where
  pub output : KeepsOutput j old.seen new.seen
  pub slots : SlotsSettled old → SlotsSettled new

-- at each moment each image is a trail with the newest that was, and not past the next checkpoint
abbrev pub AppendMoments : ℕ → List ℕ → View → View → Type 0
AppendMoments j bytes old new = (course : Course) (newest : Option ℕ) (next : Option Checkpoint)
    → CanAppend course newest next j bytes old → LeavesOnly old new (IsTrailOf course newest next)

-- ---- a checkpoint

-- what a keeper keeps between two calls, and that this checkpoint comes next
pub record CanSave (course : Course) (newest : Option ℕ) (next : Option Checkpoint) (c : Checkpoint)
    (v : View) : Type 0 where
  pub stands : Stands course newest next v
  pub outputs : length course.outputs ≡ length c.lengths
  pub comes : IsNextCheckpoint course newest c v

abbrev pub SaveStands : Checkpoint → View → View → Type 0
SaveStands c old new = (course : Course) (newest : Option ℕ) (next later : Option Checkpoint)
    → CanSave course newest next c old → IsLater course (Some c) later
    → Stands course (Some c.iteration) later new

-- at each moment each image is a trail with the newest that was, or with this one, and not past the
-- next checkpoint
abbrev pub SaveMoments : Checkpoint → View → View → Type 0
SaveMoments c old new = (course : Course) (newest : Option ℕ) (next : Option Checkpoint)
    → CanSave course newest next c old
    → LeavesOnly old new (λ f. IsTrailOf course newest next f
    ⊎ IsTrailOf course (Some c.iteration) next f)
