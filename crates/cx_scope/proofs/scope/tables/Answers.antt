use Rattle.std.proofs.Common.{◌∙◌}
use Rattle.cx_scope.proofs.ClosureLaws.{are_of}
use Rattle.cx_scope.proofs.scope.tables.Goals as goal

pub returns : goal.returns
returns c =
    are_of c.args.thorns.now
    (record {
      groups = c.in_ok-groups.groups;
      variables = c.in_ok-variables.variables;
      ancestors = c.in_ok-ancestors.ancestors;
      friends = c.in_ok-friends.friends;
    }) c.requires
    (c.in_ok-groups.ensures ∙ c.in_ok-named_groups.ensures)
    c.in_ok-variables.ensures c.in_ok-ancestors.ensures c.in_ok-friends.ensures
