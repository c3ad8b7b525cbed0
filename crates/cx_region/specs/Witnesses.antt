-- Witnesses: ways up to a place, each with the flags that are set on it, while one flag is
-- followed.
use Rattle.std.specs.Prelude.{ℕ, ◌≡◌, ◌<◌, ◌⊎◌, ◌++◌, ◌==◌, ◌&&◌, ◌||◌, not, Bool, true, false, List, [], ◌∷◌, length, slice_get, Some, None, Result, Ok, Err, Vec, All}
use Rattle.std.specs.List.{list_any, list_all, range_with_len}
use Rattle.std.specs.declared.alloc.Global.{Global}
use Rattle.cx_plan.specs.declared.flag.Flag.{Flag}
use Rattle.cx_plan.specs.declared.flag.Flag.TheVariants.{I, B, G, S}
use Rattle.cx_plan.specs.declared.job.Job.{Job}
use Rattle.cx_plan.specs.Setups.{Setup, setup_of}
use Rattle.cx_plan.specs.Regions.{Flags, Act, Turns, Syncs, Tests, Rotates, Outputs, Need, needs, leaves, is_met}
use Rattle.cx_plan.specs.Paths.{Mark, Letter, Meets, first_unmet}
use Rattle.cx_plan.specs.Whole.{IsStored}
use Rattle.cx_region.specs.declared.witness.Witness.{Witness}
use Rattle.cx_region.specs.declared.witness.Step.{Step}
use Rattle.cx_region.specs.declared.witness.Step.TheVariants.{Turn, Exchange, Test, Rotate, Output}
use Rattle.cx_region.specs.declared.witness.Followed.{Followed}
use Rattle.cx_region.specs.declared.witness.WitnessStop.{WitnessStop}
use Rattle.cx_region.specs.declared.witness.WitnessStop.TheVariants.{Unset, Memory}
use Rattle.cx_region_flags.specs.Cells.{flags_in, none_set_of, Holds}
use Rattle.cx_region_flags.specs.Agreeing.{Agrees, IsAct}
use Rattle.cx_region_flags.specs.AllPaths.{flags_after, Only}
use Rattle.cx_region_flags.specs.Unmet.{seen, first_unmet_of}

abbrev pub act_of : Step → Act
act_of (Turn k) = Turns k
act_of (Exchange variables path) = Syncs variables.now path.now
act_of (Test variable path) = Tests variable path.now
act_of Rotate = Rotates
act_of Output = Outputs

-- ---- one witness

-- the beginning of all ways: no letter, and no flag is set
abbrev pub start_of : Job → Witness
start_of job = record { letters = []; flags = none_set_of (length job.vars) }

-- the letters of marks
abbrev pub letters_of : List Mark → List ℕ
letters_of [] = []
letters_of (Letter c ∷ marks) = c ∷ letters_of marks
letters_of (Meets act ∷ marks) = letters_of marks

-- A way goes on by marks of this kind: it has their letters, it ends with the flags that they
-- leave, and each need on them is met.
pub record GoesOn (job : Job) (Q : List Mark → Type 0) (old new : Witness) : Type 0 where
  pub marks : List Mark
  pub on : Q marks
  pub letters : new.letters ≡ old.letters ++ letters_of marks
  pub flags : (F : Flags) → Agrees job old.flags F
      → Agrees job new.flags (flags_after (setup_of job) F marks)
  pub met : (F : Flags) → Agrees job old.flags F
      → first_unmet (setup_of job) old.letters F marks ≡ None

-- A way goes on by marks of this kind up to a need that isn't met.
pub record StopsAt (job : Job) (Q : List Mark → Type 0) (old : Witness) (letters : List ℕ)
    (need : Need) : Type 0 where
  pub marks : List Mark
  pub on : Q marks
  pub unmet : (F : Flags) → Agrees job old.flags F
      → first_unmet (setup_of job) old.letters F marks ≡ Some (letters, need)

-- what a way comes to: it has gone on, memory is wanting, or a need isn't met
abbrev pub Comes : Job → (List Mark → Type 0) → Witness → Result Witness WitnessStop → Type 0
Comes job Q old (Ok new) = GoesOn job Q old new
Comes job Q old (Err Memory) = Unit {0}
Comes job Q old (Err (Unset letters unmet)) = StopsAt job Q old letters (seen unmet)

-- A way has taken a step: each need of it is met there, and its flags are those that the step
-- leaves.
pub record IsTaken (job : Job) (act : Act) (old new : Witness) : Type 0 where
  pub letters : new.letters ≡ old.letters
  pub met : first_unmet_of (setup_of job) (flags_in old.flags) (needs (setup_of job) act) ≡ None
  pub flags : Holds old.flags new.flags (leaves (setup_of job) act (flags_in old.flags))

-- a step is taken, or a need of it isn't met
abbrev pub Takes : Job → Act → Witness → Result Witness WitnessStop → Type 0
Takes job act old (Ok new) = IsTaken job act old new
Takes job act old (Err Memory) = ⊥
Takes job act old (Err (Unset letters unmet)) =
    (letters ≡ old.letters)
    × (first_unmet_of (setup_of job) (flags_in old.flags) (needs (setup_of job) act)
    ≡ Some (seen unmet))

-- a way with one more letter
abbrev pub with_letter : ℕ → Witness → Witness
with_letter c way = record { letters = way.letters ++ c ∷ []; flags = way.flags }

-- ---- the flag that is followed

abbrev pub same_flag : Flag → Flag → Bool
same_flag I I = true
same_flag B B = true
same_flag G G = true
same_flag S S = true
same_flag I B = false
same_flag I G = false
same_flag I S = false
same_flag B I = false
same_flag B G = false
same_flag B S = false
same_flag G I = false
same_flag G B = false
same_flag G S = false
same_flag S I = false
same_flag S B = false
same_flag S G = false

abbrev pub is_followed : Followed → Need → Bool
is_followed x n = n.var.0 == x.variable.0 && same_flag n.flag x.flag

-- each need of the flag on these marks is met
abbrev pub AreMet : Setup → Followed → Flags → List Mark → Type 0
AreMet setup x F [] = Unit {0}
AreMet setup x F (Letter c ∷ marks) = AreMet setup x F marks
AreMet setup x F (Meets act ∷ marks) =
    All (λ n. is_followed x n ≡ true → is_met setup F n ≡ true) (needs setup act)
    × AreMet setup x (leaves setup act F) marks

-- ---- several witnesses

-- one of the ways is this
abbrev pub IsAmong : List Witness → Witness → Type 0
IsAmong ways way = (k : ℕ) × (slice_get ways k ≡ Some way)

-- on one of the ways the flag of a level is cleared
abbrev pub IsClearedOn : Followed → List Witness → ℕ → Type 0
IsClearedOn x ways level =
    (way : Witness) × IsAmong ways way × (flags_in way.flags x.variable level x.flag ≡ false)

-- where the followed flag is cleared, it is on one of the ways
abbrev pub IsCovered : Job → Followed → List Witness → Flags → Type 0
IsCovered job x ways F = (level : ℕ) → IsStored job x.variable level
    → F x.variable level x.flag ≡ false → IsClearedOn x ways level

-- whether the flag of a level is cleared on one of the ways
abbrev pub is_cleared_on : Followed → List Witness → ℕ → Bool
is_cleared_on x ways level =
    list_any (λ (way : Witness). not (flags_in way.flags x.variable level x.flag)) ways

-- whether the flag is cleared on one of the ways at each level at which it is on this one
abbrev pub covers_one : Followed → List Witness → Witness → Bool
covers_one x ways way = list_all
    (λ level. flags_in way.flags x.variable level x.flag || is_cleared_on x ways level)
    (range_with_len 0 8)

-- whether the flag is cleared on one of the first at each level at which it is on one of the second
abbrev pub covers : Followed → List Witness → List Witness → Bool
covers x first second = list_all (covers_one x first) second

-- Some of the ways of two lists: the first of all stays, and where the flag is cleared on one of
-- all, it is on one that stays.
pub record Joins (x : Followed) (first second new : List Witness) : Type 0 where
  pub among : (way : Witness) → IsAmong new way → IsAmong first way ⊎ IsAmong second way
  pub stays : slice_get new 0 ≡ slice_get (first ++ second) 0
  pub cleared : (level : ℕ) → level < 8 → IsClearedOn x first level ⊎ IsClearedOn x second level
      → IsClearedOn x new level

-- The ways go on: each new one is an old one that has gone on. From flags that the old ways cover,
-- all marks of this kind meet the needs of the followed flag, and end with flags that the new ways
-- cover.
pub record GoOn (job : Job) (x : Followed) (Q : List Mark → Type 0)
    (old new : List Witness) : Type 0 where
  pub each : (new_way : Witness) → IsAmong new new_way
      → (way : Witness) × IsAmong old way × GoesOn job Q way new_way
  pub met : (F : Flags) (marks : List Mark) → Q marks → IsCovered job x old F
      → AreMet (setup_of job) x F marks
  pub covered : (F : Flags) (marks : List Mark) → Q marks → IsCovered job x old F
      → IsCovered job x new (flags_after (setup_of job) F marks)

-- want of memory, or one of the ways goes on up to a need that isn't met
abbrev pub Stop : Job → (List Mark → Type 0) → List Witness → WitnessStop → Type 0
Stop job Q old Memory = Unit {0}
Stop job Q old (Unset letters unmet) =
    (way : Witness) × IsAmong old way × StopsAt job Q way letters (seen unmet)

abbrev pub Goes : Job → Followed → (List Mark → Type 0) → List Witness
    → Result (Vec Witness Global) WitnessStop → Type 0
Goes job x Q old (Ok new) = GoOn job x Q old new.items
Goes job x Q old (Err stop) = Stop job Q old stop

-- where the step is one of the job, the ways take it, or one of them stops
abbrev pub AllTake : Job → Act → List Witness → Result (Vec Witness Global) WitnessStop → Type 0
AllTake job act old result = (x : Followed) → IsAct job act → Goes job x (Only act) old result
