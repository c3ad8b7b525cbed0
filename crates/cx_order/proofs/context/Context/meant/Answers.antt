use Rattle.std.proofs.Common.{subst, List}
use Rattle.cx_bind.specs.declared.thorns.Thorn.{Thorn}
use Rattle.cx_scope.specs.Closures.{sight_in}
use Rattle.cx_scope.specs.Resolving.{resolve}
use Rattle.cx_text.specs.Telling.{Answers}
use Rattle.cx_scope.specs.declared.fault.ScopeFault.TheVariants.{Memory}
use Rattle.cx_order.proofs.context.Context.meant.Goals as goal

pub returns : goal.returns
returns c =
    let self = c.args.self.now in
    subst (λ (thorns : List Thorn).
    Answers Memory (resolve thorns (sight_in self.scope.now)
    self.storage.now c.args.thorn c.args.name.now) c.resolve.result)
    c.requires.scope c.resolve.ensures
