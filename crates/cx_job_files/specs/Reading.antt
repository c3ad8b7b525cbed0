-- What the files of a configuration say, or what is wrong first.
use Rattle.std.specs.Prelude.{Bool, true, false, not, ◌≡◌, ◌≢◌, ◌≤◌, ◌⊎◌, ℕ, List, [], length, codes, ◌++◌, Option, Some, None, Result, Ok, Err}
use Rattle.cx_text.specs.declared.token.Token.{Token}
use Rattle.cx_text.specs.declared.token.Style.{Style}
use Rattle.cx_text.specs.declared.token.Style.TheVariants.{Ccl, Par, Thorns}
use Rattle.cx_text.specs.declared.fault.TextFault.{TextFault}
use Rattle.cx_text.specs.declared.fault.TextFault.TheVariants as texts
use Rattle.cx_text.specs.declared.fault.CclFault.{CclFault}
use Rattle.cx_text.specs.declared.fault.CclFault.TheVariants as trees
use Rattle.cx_text.specs.Pieces.{Spelled, IsCause, max_text}
use Rattle.cx_text.specs.Grammar.{Grammar, Spells, IsFault}
use Rattle.cx_disk.specs.Cause.{HasCause}
use Rattle.cx_iface.specs.declared.tree.Interface.{Interface}
use Rattle.cx_iface.specs.File.{interface}
use Rattle.cx_param.specs.declared.declarations.ParamDecl.{ParamDecl}
use Rattle.cx_param.specs.Params.{params}
use Rattle.cx_sched.specs.declared.tree.ScheduleFile.{ScheduleFile}
use Rattle.cx_sched.specs.Nodes.{schedule}
use Rattle.cx_conf.specs.declared.configuration.Configuration.{Configuration}
use Rattle.cx_conf.specs.Conf.{configuration, no_configuration}
use Rattle.cx_conf.specs.declared.thorn_list.ThornList.{ThornList}
use Rattle.cx_conf.specs.Thorns.{thorn_list}
use Rattle.cx_parfile.specs.declared.settings.Settings.{Settings}
use Rattle.cx_parfile.specs.ParFile.{parameter_file}
use Rattle.cx_parfile.specs.SteerFile.{steer_file}
use Rattle.cx_parfile.specs.Values.{base_of, is_empty}
use Rattle.cx_parfile.specs.declared.steer.SteerLine.{SteerLine}
use Rattle.cx_bind.specs.declared.thorns.Thorn.{Thorn}
use Rattle.cx_job_files.specs.declared.fault.ConfigFault.{ConfigFault}
use Rattle.cx_job_files.specs.declared.fault.ConfigFault.TheVariants as faults
use Rattle.cx_job_files.specs.declared.reading.FileNames.{FileNames}
use Rattle.cx_job_files.specs.declared.reading.ThornFiles.{ThornFiles}
use Rattle.cx_job_files.specs.declared.reading.Trees.{Trees}
use Rattle.cx_job_files.specs.declared.shelf.Shelf.{Ghosts}
use Rattle.cx_job_files.specs.Shelf.{Held}
use Rattle.cx_text.specs.Telling.{Stage, Then}
use Rattle.cx_job_files.specs.Stages.{Is}

-- ---- one file

-- the tokens of the bytes under a name, or the first fault of their text
abbrev pub TextTokens : Style → List ℕ → List ℕ → Stage (List Token) ConfigFault
TextTokens style name bytes (Ok tokens) = (length bytes ≤ max_text) × Spelled bytes style tokens
TextTokens style name bytes (Err e) =
    (fault : TextFault) × (e ≡ faults.Text name fault) × (fault ≢ texts.Memory)
    × IsCause bytes style fault

-- what tokens spell, or their first fault
abbrev pub Tree : {A : Type 0} → Grammar A → List ℕ → List Token → Stage A ConfigFault
Tree S name tokens (Ok x) = Spells S tokens x
Tree S name tokens (Err e) =
    (fault : CclFault) × (e ≡ faults.Ccl name fault) × (fault ≢ trees.Memory)
    × IsFault S tokens fault

-- the tokens of a file, and of one that may be absent
abbrev pub Tokens : Style → List ℕ → Option (List ℕ) → Stage (List Token) ConfigFault
Tokens style name None result = result ≡ Err (faults.NoFile name)
Tokens style name (Some bytes) result = TextTokens style name bytes result

abbrev pub TokensIfAny : Style → List ℕ → Option (List ℕ) → Stage (Option (List Token)) ConfigFault
TokensIfAny style name None result = result ≡ Ok None
TokensIfAny style name (Some bytes) result =
    Then (TextTokens style name bytes) (λ tokens found. found ≡ Ok (Some tokens)) result

-- the bytes under a name, and their tokens
abbrev pub Finds : List ℕ → Held → Stage (Option (List ℕ)) ConfigFault
Finds name files found = found ≡ Ok (files name)

abbrev pub TokensOf : Style → List ℕ → Held → Stage (List Token) ConfigFault
TokensOf style name files = Tokens style name (files name)

abbrev pub TokensOfAny : Style → List ℕ → Held → Stage (Option (List Token)) ConfigFault
TokensOfAny style name files = TokensIfAny style name (files name)

-- what a file says: its bytes have tokens, which spell this
abbrev pub File : {A : Type 0} → Style → Grammar A → List ℕ → Held → Stage A ConfigFault
File style S name files = Then (Tokens style name (files name)) (Tree S name)

abbrev pub TreeIfAny : {A : Type 0} → A → Grammar A → List ℕ → Option (List Token)
    → Stage A ConfigFault
TreeIfAny absent S name None result = result ≡ Ok absent
TreeIfAny absent S name (Some tokens) result = Tree S name tokens result

-- what a file says, and where it is absent this
abbrev pub FileOr : {A : Type 0} → A → Style → Grammar A → List ℕ → Held → Stage A ConfigFault
FileOr absent style S name files =
    Then (TokensIfAny style name (files name)) (TreeIfAny absent S name)

-- ---- a thorn's files

abbrev pub SaysInterface : List ℕ → Held → Stage Interface ConfigFault
SaysInterface name = File Ccl interface name

abbrev pub SaysParams : List ℕ → Held → Stage (List ParamDecl) ConfigFault
SaysParams name = File Ccl params.derives name

abbrev pub SaysSchedule : List ℕ → Held → Stage ScheduleFile ConfigFault
SaysSchedule name = File Ccl schedule.derives name

abbrev pub SaysConfiguration : List ℕ → Held → Stage Configuration ConfigFault
SaysConfiguration name = FileOr no_configuration Ccl configuration.derives name

-- ---- the files beside the thorns'

abbrev pub SaysThornList : List ℕ → Held → Stage ThornList ConfigFault
SaysThornList name = File Thorns thorn_list.derives name

abbrev pub SaysSettings : List ℕ → Held → Stage Settings ConfigFault
SaysSettings name = File Par (parameter_file (base_of name)).derives name

abbrev pub SaysSteerFile : List ℕ → Held → Stage (List SteerLine) ConfigFault
SaysSteerFile name = File Par steer_file.derives name

abbrev pub SaysSteersIf : Bool → List ℕ → Held → Stage (List SteerLine) ConfigFault
SaysSteersIf true name files = SaysSteerFile name files
SaysSteersIf false name files = Is (Ok [])

-- the lines of the steer file of this name; without a name there are none
abbrev pub SaysSteers : List ℕ → Held → Stage (List SteerLine) ConfigFault
SaysSteers name files = SaysSteersIf (not (is_empty name)) name files

-- ---- a thorn

-- arrangements/Arrangement/Thorn/file
abbrev pub thorn_file : List ℕ × List ℕ → List ℕ → List ℕ
thorn_file place file = codes "arrangements/" ++ place.0 ++ codes "/" ++ place.1 ++ codes "/"
    ++ file

abbrev pub file_names : List ℕ × List ℕ → FileNames
file_names place = record {
  interface = thorn_file place (codes "interface.ccl");
  params = thorn_file place (codes "param.ccl");
  schedule = thorn_file place (codes "schedule.ccl");
  conf = thorn_file place (codes "configuration.ccl");
}

abbrev pub thorn_of : List ℕ × List ℕ → Trees → Configuration → Thorn
thorn_of place trees conf =
    record {
      arrangement = place.0;
      name = place.1;
      interface = trees.interface;
      params = trees.params;
      conf = conf;
    }

abbrev pub files_of : List ℕ × List ℕ → Trees → Configuration → ThornFiles
files_of place trees conf = record { thorn = thorn_of place trees conf; schedule = trees.schedule }

-- a thorn's files in this order, of which that of its configuration may be absent
abbrev pub ConfAnd : List ℕ × List ℕ → FileNames → Trees → Held → Stage ThornFiles ConfigFault
ConfAnd place names trees files =
    Then (SaysConfiguration names.conf files) (λ conf. Is (Ok (files_of place trees conf)))

abbrev pub ScheduleAnd : List ℕ × List ℕ → FileNames → Interface → List ParamDecl → Held
    → Stage ThornFiles ConfigFault
ScheduleAnd place names i ps files =
    Then (SaysSchedule names.schedule files)
    (λ s. ConfAnd place names (record { interface = i; params = ps; schedule = s }) files)

abbrev pub ParamsAnd : List ℕ × List ℕ → FileNames → Interface → Held → Stage ThornFiles ConfigFault
ParamsAnd place names i files =
    Then (SaysParams names.params files) (λ ps. ScheduleAnd place names i ps files)

abbrev pub ThornSays : List ℕ × List ℕ → FileNames → Held → Stage ThornFiles ConfigFault
ThornSays place names files =
    Then (SaysInterface names.interface files) (λ i. ParamsAnd place names i files)

-- ---- answers

-- An answer from what has been read: what the stage comes to, but for want of memory.
pub record Comes {A : Type 0} (stage : Stage A ConfigFault)
    (result : Result A ConfigFault) : Type 0 where
  pub answers : (result ≡ Err faults.Memory) ⊎ stage result
  pub no_shelf : result ≢ Err faults.Shelf

-- An answer over a shelf that held these files, with its counts of faults before and after. Where
-- the shelf tells its files, the answer is what the stage comes to, but for want of memory and
-- failures of the shelf, and they are as they were.
pub record Follows {A : Type 0} (tells : Type 0) (stage : Held → Stage A ConfigFault)
    (old new : Held) (before now : ℕ) (result : Result A ConfigFault) : Type 0 where
  pub answers : tells → (result ≡ Err faults.Memory) ⊎ (result ≡ Err faults.Shelf)
      ⊎ stage old result
  pub same : tells → new ≡ old
  pub cause : HasCause faults.Shelf before now result

-- the same of a shelf before and after a call
abbrev pub ComesFrom : {S A : Type 0} → Ghosts S → (Held → Stage A ConfigFault) → S → S
    → Result A ConfigFault → Type 0
ComesFrom shelf stage old new result =
    Follows shelf.tells stage (shelf.held old) (shelf.held new) (shelf.faults old)
    (shelf.faults new) result

-- why a text under a name has no tokens, or tokens make no tree: this fault of theirs, or want of
-- memory
abbrev pub NamedText : List ℕ → TextFault → ConfigFault → Type 0
NamedText name fault e =
    (e ≡ faults.Memory) ⊎ ((e ≡ faults.Text name fault) × (fault ≢ texts.Memory))

abbrev pub NamedTree : List ℕ → CclFault → ConfigFault → Type 0
NamedTree name fault e =
    (e ≡ faults.Memory) ⊎ ((e ≡ faults.Ccl name fault) × (fault ≢ trees.Memory))

abbrev pub IsTreeFault : List ℕ → CclFault → ConfigFault → Type 0
IsTreeFault name fault e = NamedTree name fault e × (fault ≡ trees.Memory → e ≡ faults.Memory)

-- what was read of the tokens under a name, with the name in its fault
abbrev pub IsTree : {A : Type 0} → List ℕ → Result A CclFault → Result A ConfigFault → Type 0
IsTree name (Ok x) result = result ≡ Ok x
IsTree name (Err fault) result = (e : ConfigFault) × (result ≡ Err e) × IsTreeFault name fault e
