use Rattle.std.proofs.Common.{◌≡◌, drop}
use Rattle.cx_plan.specs.Lists.{first_of_each}
use Rattle.cx_bind.specs.NamePlaces.{place_of}
use Rattle.cx_values.specs.Special.{text_by}
use Rattle.cx_values.proofs.settings.text_set.Given as goal

abbrev pub invariant-loop-setting : goal.invariant-loop-setting
invariant-loop-setting l =
    first_of_each (text_by l.params (place_of l.names) l.place) (drop l.setting-index l.settings)
    ≡ first_of_each (text_by l.params (place_of l.names) l.place) l.settings
