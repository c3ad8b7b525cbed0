use Rattle.std.proofs.Common.{◌≡◌, ◌++◌, take}
use Rattle.std.specs.List.{flat_map}
use Rattle.cx_bind.specs.NamePlaces.{place_of}
use Rattle.cx_bind.specs.Parameters.{shared_by}
use Rattle.cx_values.specs.Assigned.{used_by}
use Rattle.cx_values.proofs.uses.push_all_shared.Given as goal

abbrev pub invariant-decls : goal.invariant-decls
invariant-decls l = l.uses
    ≡ l.fn.uses ++ flat_map (λ d. used_by (place_of l.names) d (shared_by d.scope))
    (take l.decl-index l.decls)
