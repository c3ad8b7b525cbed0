use Rattle.std.proofs.Common.{◌≡◌, drop}
use Rattle.std.specs.Prelude.{not}
use Rattle.std.specs.List.{list_all}
use Rattle.cx_plan.specs.Lookups.{is_scalar}
use Rattle.cx_rule.specs.Patches.{setup_in}
use Rattle.cx_rule.proofs.rows.are_grids.Given as goal

abbrev pub invariant-reads : goal.invariant-reads
invariant-reads l =
    list_all (λ r. not (is_scalar (setup_in l.part) r.var)) (drop l.read-index l.reads)
    ≡ list_all (λ r. not (is_scalar (setup_in l.part) r.var)) l.reads
