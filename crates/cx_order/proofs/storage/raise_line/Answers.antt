use Rattle.std.proofs.Common.{◌≡◌, ◌⊎◌, ◌∙◌, ap, sym, max, get_or, Ok, Err}
use Rattle.cx_scope.specs.declared.fault.ScopeFault.TheVariants as scope_faults
use Rattle.cx_scope.specs.Closures.{sight_in}
use Rattle.cx_scope.specs.Resolving.{group_of}
use Rattle.cx_order_entries.specs.Seen.{seen_line}
use Rattle.cx_order.proofs.StorageLaws.{line-ok, line-levels, line-err}
use Rattle.cx_order.proofs.storage.raise_line.Goals as goal

pub returns-in-Ok : goal.returns-in-Ok
returns-in-Ok c =
    let told : group_of c.args.bound.now (sight_in c.args.scope.now)
    c.args.line.now.thorn c.args.line.now.group.now ≡ Ok c.in-Ok.group =
    ap (λ ts. group_of ts (sight_in c.args.scope.now)
    c.args.line.now.thorn c.args.line.now.group.now) (sym c.requires.thorns) ∙ c.in-Ok.ensures
    in
    record {
      told = line-ok c.args.bound.now (sight_in c.args.scope.now) (seen_line c.args.line.now)
          c.in-Ok.group told;
      length = c.raise_group.ensures.length;
      levels =
          λ v. c.raise_group.ensures.levels v
          ∙ ap (λ n. max (get_or c.args.stored.now v 0) n)
          (line-levels c.args.bound.now (sight_in c.args.scope.now) (seen_line c.args.line.now)
          c.as_slice-variables.result.now c.as_slice.result.now c.in-Ok.group
          (c.as_slice-variables.ensures ∙ c.variables.ensures.variables) c.as_slice.ensures told v);
    }

pub returns-in-Err-clause-told : goal.returns-in-Err-clause-told
returns-in-Err-clause-told c =
    let told : (c.in-Err.fault ≡ scope_faults.Memory)
    ⊎ (group_of c.args.bound.now (sight_in c.args.scope.now)
    c.args.line.now.thorn c.args.line.now.group.now ≡ Err c.in-Err.fault) =
    rw (sym c.requires.thorns) c.in-Err.ensures
    in
    line-err c.args.bound.now (sight_in c.args.scope.now) (seen_line c.args.line.now)
    c.in-Err.fault c.name_fault.result told c.name_fault.ensures.memory
    (rw (sym c.thorn_name.ensures) c.name_fault.ensures.told)
