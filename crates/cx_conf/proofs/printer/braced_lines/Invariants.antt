use Rattle.std.proofs.Common.{◌≡◌, ◌++◌, take}
use Rattle.std.specs.List.{flat_map}
use Rattle.cx_conf.specs.Printed.{braced_line}
use Rattle.cx_conf.proofs.printer.braced_lines.Given as goal

abbrev pub invariant-loop-name : goal.invariant-loop-name
invariant-loop-name l = l.tokens
    ≡ l.fn.tokens ++ flat_map (braced_line l.keyword) (take l.name-index l.names)
