-- What the files of a configuration say, from the parameter file on.
use Rattle.std.specs.Prelude.{ℕ, List, [], ◌∷◌, map, codes, Ok}
use Rattle.cx_parfile.specs.declared.settings.Settings.{Settings}
use Rattle.cx_conf.specs.declared.thorn_list.ThornList.{ThornList}
use Rattle.cx_bind.specs.Selecting.{select}
use Rattle.cx_job_files.specs.declared.fault.ConfigFault.{ConfigFault}
use Rattle.cx_job_files.specs.declared.fault.ConfigFault.TheVariants as faults
use Rattle.cx_job_files.specs.declared.reading.ThornFiles.{ThornFiles}
use Rattle.cx_job_files.specs.declared.configuring.Configured.{Configured}
use Rattle.cx_job_files.specs.Shelf.{Held}
use Rattle.cx_text.specs.Telling.{Stage, Then}
use Rattle.cx_job_files.specs.Stages.{Is, or_fault}
use Rattle.cx_job_files.specs.Reading.{SaysSettings, SaysThornList, ThornSays, file_names}

-- what the files of thorns at these places say, one thorn after another
abbrev pub ThornsSay : List (List ℕ × List ℕ) → Held → Stage (List ThornFiles) ConfigFault
ThornsSay [] files = Is (Ok [])
ThornsSay (place ∷ places) files =
    Then (ThornSays place (file_names place) files)
    (λ t. Then (ThornsSay places files) (λ ts. Is (Ok (t ∷ ts))))

abbrev pub configuration_of : Settings → List ThornFiles → Configured
configuration_of settings ts =
    record {
      settings = settings;
      thorns = map (λ t. t.thorn) ts;
      schedules = map (λ t. t.schedule) ts;
    }

-- The parameter file, the list of thorns, the places of the active thorns in it, and their files in
-- the order of activation: a stage stands behind what it takes from those before it.
abbrev pub ThornsAnd : Settings → List (List ℕ × List ℕ) → Held → Stage Configured ConfigFault
ThornsAnd settings places files =
    Then (ThornsSay places files) (λ ts. Is (Ok (configuration_of settings ts)))

abbrev pub PlacesAnd : Settings → ThornList → Held → Stage Configured ConfigFault
PlacesAnd settings list files =
    Then (Is (or_fault faults.Bind (select list settings.active)))
    (λ places. ThornsAnd settings places files)

abbrev pub ListAnd : Settings → Held → Stage Configured ConfigFault
ListAnd settings files =
    Then (SaysThornList (codes "ThornList") files) (λ list. PlacesAnd settings list files)

abbrev pub Configures : List ℕ → Held → Stage Configured ConfigFault
Configures name files = Then (SaysSettings name files) (λ settings. ListAnd settings files)
