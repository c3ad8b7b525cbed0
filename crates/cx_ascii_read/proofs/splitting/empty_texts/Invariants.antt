use Rattle.std.proofs.Common.{◌≡◌, ◌++◌, drop, []}
use Rattle.cx_ascii_read.specs.Splitting.{texts_named}
use Rattle.cx_ascii_read.proofs.splitting.empty_texts.Given as goal

abbrev pub invariant-each : goal.invariant-each
invariant-each l = l.texts.items ++ texts_named (drop l.index l.names) [] ≡ texts_named l.names []
