use Rattle.std.proofs.Common.{subst, List}
use Rattle.cx_bind.specs.declared.thorns.Thorn.{Thorn}
use Rattle.cx_scope.specs.Closures.{sight_in}
use Rattle.cx_text.specs.Telling.{Answers}
use Rattle.cx_scope.specs.declared.fault.ScopeFault.TheVariants.{Memory}
use Rattle.cx_scope.specs.Resolving.{resolve}
use Rattle.cx_scope.proofs.ClosureLaws.{by_sight}
use Rattle.cx_scope.proofs.scope.resolve.Goals as goal

pub returns : goal.returns
returns c =
    let A : List Thorn → Type 0 =
    λ ts. Answers Memory (resolve ts (sight_in c.in_ok-scope.scope)
    c.args.storage.now c.args.thorn c.args.name.now) c.resolve.result in
    by_sight c.args.bound.now
    (λ sight. resolve c.args.bound.now sight c.args.storage.now c.args.thorn c.args.name.now)
    (sight_in c.in_ok-scope.scope) c.resolve.result c.in_ok-scope.ensures.tells
    (subst A c.in_ok-scope.ensures.thorns c.resolve.ensures)
