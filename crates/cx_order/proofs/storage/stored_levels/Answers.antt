use Rattle.std.proofs.Common.{◌≡◌, ◌∙◌, ap, length, replicate, drop, map}
use Rattle.cx_bind.specs.Variables.{variable_infos}
use Rattle.cx_scope.specs.Closures.{sight_in}
use Rattle.cx_order_entries.specs.Seen.{seen_line}
use Rattle.cx_order.proofs.StorageLaws.{all-written, from-none}
use Rattle.cx_order.proofs.storage.stored_levels.Goals as goal

pub returns-clause-levels : goal.returns-clause-levels
returns-clause-levels c =
    let count : c.len.result ≡ length (variable_infos c.args.bound.now) =
    c.len.ensures ∙ ap length c.variables.ensures.variables in
    let none : c.deref_mut.result.now ≡ replicate (length (variable_infos c.args.bound.now)) 0 =
    c.deref_mut.ensures.value ∙ c.in_ok-stored.ensures ∙ ap (λ n. replicate n 0) count in
    c.new.ensures
    ∙ all-written c.in_ok-stored.stored.len c.raise_lines.new.stored
    (drop (length c.raise_lines.new.stored) c.in_ok-stored.stored.items)
    (c.in_ok-raise_lines.ensures.length ∙ c.deref_mut.ensures.len)
    ∙ from-none c.args.bound.now (sight_in c.args.scope.now) (map seen_line c.args.lines.now)
    c.raise_lines.new.stored c.deref_mut.result.now none c.in_ok-raise_lines.ensures.length
    c.in_ok-raise_lines.ensures.levels
