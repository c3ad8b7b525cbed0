use Rattle.std.proofs.Common.{◌≡◌, ◌++◌, map, length, drop}
use Rattle.cx_keep.proofs.splitting.lengths_of.Given as goal

abbrev pub invariant-each : goal.invariant-each
invariant-each l = record {
  so_far : map (λ text. length text) l.texts
      ≡ l.lengths ++ map (λ text. length text) (drop l.text-index l.texts);
}
