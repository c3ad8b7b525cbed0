use Rattle.std.proofs.Common.{◌≡◌, take, drop, []}
use Rattle.std.specs.List.{flat_map}
use Rattle.cx_bind.specs.NamePlaces.{place_of}
use Rattle.cx_values.specs.Faults.{settings_fault}
use Rattle.cx_values.specs.Assigned.{given_by}
use Rattle.cx_values.proofs.given.all_given.Given as goal

abbrev pub invariant-settings : goal.invariant-settings
invariant-settings l = record {
  given : l.given ≡ flat_map (given_by l.params (place_of l.names))
      (take l.setting-index l.settings);
  left : settings_fault l.params (place_of l.names) l.dir (take l.setting-index l.settings)
      (drop l.setting-index l.settings)
      ≡ settings_fault l.params (place_of l.names) l.dir [] l.settings;
}
