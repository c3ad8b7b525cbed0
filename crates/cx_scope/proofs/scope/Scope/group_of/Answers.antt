use Rattle.std.proofs.Common.{subst}
use Rattle.cx_scope.specs.Closures.{View, thorns_in, sight_in}
use Rattle.cx_text.specs.Telling.{Answers}
use Rattle.cx_scope.specs.declared.fault.ScopeFault.TheVariants.{Memory}
use Rattle.cx_scope.specs.Resolving.{group_of}
use Rattle.cx_scope.proofs.ClosureLaws.{grouped}
use Rattle.cx_scope.proofs.scope.Scope.group_of.Goals as goal

pub returns : goal.returns
returns c =
    let A : View → Type 0 =
    λ view. Answers Memory
    (group_of (thorns_in view) (sight_in view) c.args.thorn c.args.name.now)
    c.group_members.result in
    subst A c.self.view_is (grouped c.self.inside.bound.now c.self.inside.tables c.self.invariant
    c.args.thorn c.args.name.now c.group_members.result c.group_members.ensures)
