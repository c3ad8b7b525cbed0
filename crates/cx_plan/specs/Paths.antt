-- All paths through a job's plan, and soundness over them.
use Rattle.std.specs.Prelude.{ℕ, zero, suc, ◌≡◌, ◌⊎◌, Bool, true, false, not, int_lt, pos, List, [], ◌∷◌, ◌++◌, find, Option, Some, None, MatchBool}
use Rattle.cx_plan.specs.Setups.{Setup}
use Rattle.cx_plan.specs.declared.tree.Tree.{Tree, Seq', Call, Sync, If', While', Row_of-Tree, end_of-Tree, more_of-Tree}
use Rattle.cx_plan.specs.Lookups.{bin, is_empty, start_bins, step_bins, end_bins, CHECKPOINT, ANALYSIS}
use Rattle.cx_plan.specs.Regions.{Act, Turns, Syncs, Tests, Rotates, Outputs, Flags, Need, cleared, needs, leaves, is_met}

-- a path is a list of marks: a letter says which way it takes, and the rest is what it meets
pub data Mark : Type 0 where
  Letter : ℕ → Mark
  Meets : Act → Mark

-- i: an iteration begins. y, n: an IF or the CHECKPOINT bin is taken or not. w, x: a WHILE turn is
-- entered, a WHILE is left
abbrev pub letter_i : Mark
letter_i = Letter 105

abbrev pub letter_y : Mark
letter_y = Letter 121

abbrev pub letter_n : Mark
letter_n = Letter 110

abbrev pub letter_w : Mark
letter_w = Letter 119

abbrev pub letter_x : Mark
letter_x = Letter 120

-- one path after another
abbrev pub Then : (List Mark → Type 0) → (List Mark → Type 0) → List Mark → Type 0
Then P Q marks = (a : List Mark) × (b : List Mark) × P a × Q b × (marks ≡ a ++ b)

-- this and nothing else
abbrev pub Just : List Mark → List Mark → Type 0
Just these marks = marks ≡ these

-- so many turns, each with its test, and then the test that leaves
abbrev pub Loop : Act → (List Mark → Type 0) → ℕ → List Mark → Type 0
Loop test Body zero = Just (Meets test ∷ letter_x ∷ [])
Loop test Body (suc turns) =
    Then (Just (Meets test ∷ letter_w ∷ [])) (Then Body (Loop test Body turns))

-- the paths through a tree; the row of an IF or a WHILE has one tree
abbrev mutual
  pub Path : Tree → List Mark → Type 0
  Path (Seq' shape all) marks = PathIn all marks
  Path (Call k) marks = Just (Meets (Turns k) ∷ []) marks
  Path (Sync vars path) marks = Just (Meets (Syncs vars path) ∷ []) marks
  Path (If' v path shape one) marks =
      Then (Just (Meets (Tests v path) ∷ letter_y ∷ [])) (PathIn one) marks
      ⊎ Just (Meets (Tests v path) ∷ letter_n ∷ []) marks
  Path (While' v path shape one) marks = (turns : ℕ) × Loop (Tests v path) (PathIn one) turns marks

  pub PathIn : {m : _} → Row_of-Tree m → List Mark → Type 0
  PathIn end_of-Tree marks = Just [] marks
  PathIn (more_of-Tree tree rest) marks = Then (Path tree) (PathIn rest) marks

-- the paths through bins, one after another
abbrev pub PathOfBins : Setup → List ℕ → List Mark → Type 0
PathOfBins setup [] = Just []
PathOfBins setup (b ∷ bs) = Then (Path (bin setup b)) (PathOfBins setup bs)

-- ANALYSIS, and output where there is any
abbrev pub PathOfAnalysis : Setup → List Mark → Type 0
PathOfAnalysis setup =
    Then (Path (bin setup ANALYSIS)) (Just (if_output (int_lt (pos 0) setup.out_every)))
  where
    if_output : Bool → List Mark
    if_output true = Meets Outputs ∷ []
    if_output false = []

-- the CHECKPOINT bin either way; where it is empty there is no choice
abbrev pub PathOfCheckpoint : Setup → List Mark → Type 0
PathOfCheckpoint setup marks =
    MatchBool (is_empty (bin setup CHECKPOINT)) (Just [] marks)
    (Then (Just (letter_y ∷ [])) (Path (bin setup CHECKPOINT)) marks ⊎ Just (letter_n ∷ []) marks)

abbrev pub PathOfStart : Setup → List Mark → Type 0
PathOfStart setup = Then (PathOfBins setup start_bins) (PathOfAnalysis setup)

abbrev pub PathOfIteration : Setup → List Mark → Type 0
PathOfIteration setup =
    Then (Just (letter_i ∷ Meets Rotates ∷ []))
    (Then (PathOfBins setup step_bins) (Then (PathOfCheckpoint setup) (PathOfAnalysis setup)))

abbrev pub PathOfIterations : Setup → ℕ → List Mark → Type 0
PathOfIterations setup zero = Just []
PathOfIterations setup (suc n) = Then (PathOfIteration setup) (PathOfIterations setup n)

-- the paths of a job: the start, any number of iterations, and the end
abbrev pub PathOfJob : Setup → List Mark → Type 0
PathOfJob setup =
    Then (PathOfStart setup)
    (Then (λ marks. (n : ℕ) × PathOfIterations setup n marks) (PathOfBins setup end_bins))

-- the first need on a path that meets a cleared flag, with the letters before it
abbrev pub or_go_on : List ℕ → Option Need → Option (List ℕ × Need) → Option (List ℕ × Need)
or_go_on letters None rest = rest
or_go_on letters (Some need) rest = Some (letters, need)

abbrev pub first_unmet : Setup → List ℕ → Flags → List Mark → Option (List ℕ × Need)
first_unmet setup letters flags [] = None
first_unmet setup letters flags (Letter c ∷ marks) =
    first_unmet setup (letters ++ c ∷ []) flags marks
first_unmet setup letters flags (Meets act ∷ marks) =
    let rest = first_unmet setup letters (leaves setup act flags) marks
    in or_go_on letters (find (λ n. not (is_met setup flags n)) (needs setup act)) rest

-- on no path a need meets a cleared flag
abbrev pub Sound : Setup → Type 0
Sound setup = (marks : List Mark) → PathOfJob setup marks
    → first_unmet setup [] cleared marks ≡ None

-- on some path with these letters this need is the first that is not met
abbrev pub IsUnset : Setup → List ℕ → Need → Type 0
IsUnset setup letters need =
    (marks : List Mark) × PathOfJob setup marks
    × (first_unmet setup [] cleared marks ≡ Some (letters, need))
