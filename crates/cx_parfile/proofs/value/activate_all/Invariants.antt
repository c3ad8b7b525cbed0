use Rattle.std.proofs.Common.{◌≡◌, drop, map, filter, not}
use Rattle.cx_parfile.specs.Values.{is_empty, activate_all}
use Rattle.cx_parfile.proofs.value.activate_all.Given as goal

abbrev pub invariant-loop-part : goal.invariant-loop-part
invariant-loop-part l = activate_all l.active
    (filter (λ n. not (is_empty n)) (map (λ x. x.now) (drop l.part-index l.parts)))
    ≡ activate_all l.fn.active (filter (λ n. not (is_empty n)) (map (λ x. x.now) l.parts))
