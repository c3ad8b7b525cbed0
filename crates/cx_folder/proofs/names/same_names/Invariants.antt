use Rattle.std.proofs.Common.{◌≡◌, take}
use Rattle.cx_folder.proofs.names.same_names.Given as goal

abbrev pub invariant-names : goal.invariant-names
invariant-names l = take l.k l.fn.names ≡ take l.k l.fn.others
