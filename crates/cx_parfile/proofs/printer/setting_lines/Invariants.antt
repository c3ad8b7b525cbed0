use Rattle.std.proofs.Common.{◌≡◌, ◌++◌, take}
use Rattle.std.specs.List.{flat_map}
use Rattle.cx_parfile.specs.Printed.{setting_line}
use Rattle.cx_parfile.proofs.printer.setting_lines.Given as goal

abbrev pub invariant-loop-setting : goal.invariant-loop-setting
invariant-loop-setting l =
    l.tokens ≡ l.fn.tokens ++ flat_map setting_line (take l.setting-index l.settings)
