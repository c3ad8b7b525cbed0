-- Cells that are sure of flags: what they have set is set on every way.
use Rattle.std.specs.Prelude.{ℕ, ◌≡◌, ◌*◌, ◌⊎◌, Bool, true, false, ◌&&◌, ◌||◌, not, pos, int_lt, List, [], ◌∷◌, length, None}
use Rattle.std.specs.List.{list_all, range_with_len}
use Rattle.cx_plan.specs.declared.flag.Flag.{Flag}
use Rattle.cx_plan.specs.declared.variable.VarId.{VarId}
use Rattle.cx_plan.specs.declared.job.Job.{Job}
use Rattle.cx_plan.specs.Setups.{Setup, setup_of}
use Rattle.cx_plan.specs.Regions.{Flags, Act, Outputs, leaves}
use Rattle.cx_plan.specs.declared.tree.Tree.{Tree}
use Rattle.cx_plan.specs.Lookups.{bin}
use Rattle.cx_plan.specs.Paths.{Mark, Letter, Meets, letter_y, letter_n, Then, Just, Loop, Path, PathOfIterations, first_unmet}
use Rattle.cx_plan.specs.Whole.{IsStored}
use Rattle.cx_region_flags.specs.declared.flags.LevelFlags.{LevelFlags}
use Rattle.cx_region_flags.specs.Cells.{flag_of, cell, flags_in}

-- ---- cells and cells

-- the flags that are set in both
abbrev pub both : LevelFlags → LevelFlags → LevelFlags
both a b =
    record {
      interior = a.interior && b.interior;
      boundary = a.boundary && b.boundary;
      ghosts = a.ghosts && b.ghosts;
      scalar = a.scalar && b.scalar;
    }

-- in each cell the flags are set that are set in both
pub record Meet (a b both : List LevelFlags) : Type 0 where
  pub same_length : length both ≡ length a
  pub set : (k : ℕ) (f : Flag)
      → flag_of (cell both k) f ≡ (flag_of (cell a k) f && flag_of (cell b k) f)

-- what is set in a cell's flags is set in the other's
abbrev pub is_within : LevelFlags → LevelFlags → Bool
is_within a b =
    (not a.interior || b.interior) && (not a.boundary || b.boundary) && (not a.ghosts || b.ghosts)
    && (not a.scalar || b.scalar)

-- in each of these cells what is set is set in the other's
abbrev pub is_below : List LevelFlags → List LevelFlags → Bool
is_below low high = list_all (λ k. is_within (cell low k) (cell high k))
    (range_with_len 0 (length low))

-- what is set in the low cells is set in the high ones
pub record IsBelow (low high : List LevelFlags) : Type 0 where
  pub same_length : length low ≡ length high
  pub set : (k : ℕ) (f : Flag) → flag_of (cell low k) f ≡ true → flag_of (cell high k) f ≡ true

-- ---- cells and flags

-- the flags that marks leave
abbrev pub flags_after : Setup → Flags → List Mark → Flags
flags_after setup flags [] = flags
flags_after setup flags (Letter c ∷ marks) = flags_after setup flags marks
flags_after setup flags (Meets act ∷ marks) = flags_after setup (leaves setup act flags) marks

-- what the cells of stored levels have set is set
pub record IsSure (job : Job) (cells : List LevelFlags) (flags : Flags) : Type 0 where
  pub size : length cells ≡ 8 * length job.vars
  pub set : (v : VarId) (level : ℕ) (f : Flag) → IsStored job v level
      → flags_in cells v level f ≡ true → flags v level f ≡ true

-- From any flags that the old cells are sure of, each of these ways meets set flags alone, and ends
-- with flags that the new cells are sure of.
pub record Leads (job : Job) (Way : List Mark → Type 0) (old new : List LevelFlags) : Type 0 where
  pub same_length : length new ≡ length old
  pub passes : (marks : List Mark) (flags : Flags) (letters : List ℕ) → Way marks
      → IsSure job old flags → first_unmet (setup_of job) letters flags marks ≡ None
  pub ends : (marks : List Mark) (flags : Flags) → Way marks → IsSure job old flags
      → IsSure job new (flags_after (setup_of job) flags marks)

-- ---- ways

-- this step and nothing else
abbrev pub Only : Act → List Mark → Type 0
Only act = Just (Meets act ∷ [])

-- the paths through the work of an IF or a WHILE, a row of one tree
abbrev pub PathOfWork : Tree → List Mark → Type 0
PathOfWork work = Then (Path work) (Just [])

-- the tree of a bin, and the paths through it
abbrev pub tree_in : Job → ℕ → Tree
tree_in job b = bin (setup_of job) b

abbrev pub PathOfBin : Job → ℕ → List Mark → Type 0
PathOfBin job b = Path (tree_in job b)

-- a test, and this or nothing
abbrev pub Branch : Act → (List Mark → Type 0) → List Mark → Type 0
Branch test Body marks =
    Then (Just (Meets test ∷ letter_y ∷ [])) Body marks ⊎ Just (Meets test ∷ letter_n ∷ []) marks

-- any number of turns
abbrev pub Turning : Act → (List Mark → Type 0) → List Mark → Type 0
Turning test Body marks = (turns : ℕ) × Loop test Body turns marks

-- the paths through trees, one after another
abbrev pub PathOfTrees : List Tree → List Mark → Type 0
PathOfTrees [] = Just []
PathOfTrees (tree ∷ trees) = Then (Path tree) (PathOfTrees trees)

-- the paths through any number of iterations
abbrev pub PathOfAllIterations : Setup → List Mark → Type 0
PathOfAllIterations setup marks = (n : ℕ) × PathOfIterations setup n marks

-- output, where there is any
abbrev pub outputs_if : Bool → List Mark
outputs_if true = Meets Outputs ∷ []
outputs_if false = []

-- the output of a job, where there is any
abbrev pub PathOfOutput : Job → List Mark → Type 0
PathOfOutput job = Just (outputs_if (int_lt (pos 0) job.out_every))
