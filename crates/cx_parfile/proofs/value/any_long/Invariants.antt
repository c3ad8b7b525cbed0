use Rattle.std.proofs.Common.{◌≡◌, drop, map}
use Rattle.std.specs.List.{list_any}
use Rattle.cx_parfile.specs.ParFile.{is_long}
use Rattle.cx_parfile.proofs.value.any_long.Given as goal

abbrev pub invariant-loop-part : goal.invariant-loop-part
invariant-loop-part l = list_any is_long (map (λ x. x.now) (drop l.part-index l.parts))
    ≡ list_any is_long (map (λ x. x.now) l.parts)
