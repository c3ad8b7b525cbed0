-- Parameter files that differ only in how and where a run is done, and steer files that differ only
-- in later iterations.
use Rattle.std.specs.Prelude.{◌≡◌, ℕ, nat_le, List, map, filter, codes, Ok}
use Rattle.cx_parfile.specs.Printed.{without_line}
use Rattle.cx_parfile.specs.declared.settings.Settings.{Settings}
use Rattle.cx_parfile.specs.declared.steer.SteerLine.{SteerLine}
use Rattle.cx_values.specs.Assigned.{assigned}
use Rattle.cx_job_values.specs.RunNumbers.{steer_file}
use Rattle.cx_job_files.specs.declared.configuring.Configured.{Configured}
use Rattle.cx_job_files.specs.Shelf.{Held}
use Rattle.cx_job_files.specs.Reading.{thorn_file, SaysSettings, SaysSteers}
use Rattle.cx_job_files.specs.Configuring.{Configures}
use Rattle.law_restarts.specs.Settings.{other_settings, unnamed_settings}

-- The same active thorns, and the same settings but for those of starred parameters: the parameters
-- that only say how and where a run is done.
pub record DifferInStarred (a b : Configured) : Type 0 where
  pub active : a.settings.active ≡ b.settings.active
  pub others : other_settings a.thorns a.settings.list ≡ other_settings a.thorns b.settings.list

-- the list of thorns and the thorns' files are the same
pub record HaveSameThorns (a b : Held) : Type 0 where
  pub list : a (codes "ThornList") ≡ b (codes "ThornList")
  pub thorns :
      (place : List ℕ × List ℕ) (file : List ℕ)
      → a (thorn_file place file) ≡ b (thorn_file place file)

-- ---- the lines of steer files up to an iteration

-- on whatever line of its file
abbrev pub unplaced : SteerLine → SteerLine
unplaced l = record l { setting = without_line l.setting }

abbrev pub lines_up_to : ℕ → List SteerLine → List SteerLine
lines_up_to c lines = map unplaced (filter (λ (l : SteerLine). nat_le l.at c) lines)

-- the lines of the steer file that a configuration names
abbrev pub SaysSteersOf : Configured → Held → List SteerLine → Type 0
SaysSteersOf x files lines =
    SaysSteers (steer_file (assigned x.thorns x.settings.list)) files (Ok lines)

-- the steer files that two parameter files name have the same lines up to an iteration
abbrev pub HaveSteersTo : ℕ → List ℕ → List ℕ → Held → Held → Type 0
HaveSteersTo c name_a name_b a b =
    (x y : Configured) (one other : List SteerLine) → Configures name_a a (Ok x)
    → Configures name_b b (Ok y) → SaysSteersOf x a one → SaysSteersOf y b other
    → lines_up_to c one ≡ lines_up_to c other

-- ---- chained files

-- The files beside the two parameter files are the same, and so is what these say, but for starred
-- parameters.
pub record AreChained (name_a name_b : List ℕ) (a b : Held) : Type 0 where
  pub files : HaveSameThorns a b
  pub settings :
      (x y : Configured) → Configures name_a a (Ok x) → Configures name_b b (Ok y)
      → DifferInStarred x y

-- The same of what two parameter files say, whatever thorns there are: starred parameters stand
-- there under their full names.
pub record DifferInNames (a b : Settings) : Type 0 where
  pub active : a.active ≡ b.active
  pub others : unnamed_settings a.list ≡ unnamed_settings b.list

pub record AreChainedByNames (name_a name_b : List ℕ) (a b : Held) : Type 0 where
  pub files : HaveSameThorns a b
  pub settings :
      (s t : Settings) → SaysSettings name_a a (Ok s) → SaysSettings name_b b (Ok t)
      → DifferInNames s t
