-- Parameter files of one thorn, with the files that it is shipped with.
use Rattle.std.specs.Prelude.{◌≡◌, true, ℕ, List, [], ◌∷◌, map, codes, Some, Ok}
use Rattle.cx_text.specs.Lexemes.{same_name}
use Rattle.cx_bind.specs.Selecting.{Place}
use Rattle.cx_bind.specs.declared.thorns.Thorn.{Thorn}
use Rattle.cx_job_files.specs.declared.configuring.Configured.{Configured}
use Rattle.cx_job_files.specs.Configuring.{Configures}
use Rattle.cx_job_files.specs.Reading.{file_names}
use Rattle.cx_job_files.specs.Shelf.{Held}
use Rattle.law_physics_job.specs.Texts.{heat_interface, heat_params, heat_schedule, gas_interface, gas_params, gas_schedule}

-- where the list of thorns has a thorn
abbrev pub place_of : Thorn → Place
place_of t = (t.arrangement, t.name)

-- The files say a configuration with one thorn beside the built-in ones. It has this name, in any
-- case, is in whatever arrangement, and its three files are these bytes.
pub record IsAlone (thorn interface params schedule name : List ℕ) (files : Held) : Type 0 where
  pub configured : Configured
  pub says : Configures name files (Ok configured)
  pub place : Place
  pub only : map place_of configured.thorns ≡ place ∷ []
  pub named : same_name place.1 thorn ≡ true
  pub interface_is : files (file_names place).interface ≡ Some interface
  pub params_are : files (file_names place).params ≡ Some params
  pub schedule_is : files (file_names place).schedule ≡ Some schedule

-- the parameter file of this name runs HeatFlux alone, or LatticeGas alone, as it is shipped
abbrev pub RunsHeatFlux : List ℕ → Held → Type 0
RunsHeatFlux name files =
    IsAlone (codes "HeatFlux") heat_interface heat_params heat_schedule name files

abbrev pub RunsLatticeGas : List ℕ → Held → Type 0
RunsLatticeGas name files =
    IsAlone (codes "LatticeGas") gas_interface gas_params gas_schedule name files
