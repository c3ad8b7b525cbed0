use Rattle.std.proofs.Common.{subst, ℕ, List}
use Rattle.cx_scope.specs.Closures.{View, thorns_in, sight_in, sight_of}
use Rattle.cx_text.specs.Telling.{Answers}
use Rattle.cx_scope.specs.declared.fault.ScopeFault.TheVariants.{Memory}
use Rattle.cx_scope.specs.Resolving.{resolve}
use Rattle.cx_scope.proofs.ClosureLaws.{resolved}
use Rattle.cx_scope.proofs.scope.Scope.resolve.Goals as goal

pub returns : goal.returns
returns c =
    let A : View → Type 0 =
    λ view. Answers Memory
    (resolve (thorns_in view) (sight_in view) c.args.storage.now c.args.thorn c.args.name.now)
    c.levels.result in
    let B : List ℕ → Type 0 =
    λ storage. Answers Memory
    (resolve c.self.inside.bound.now (sight_of c.self.inside.tables)
    storage c.args.thorn c.args.name.now) c.levels.result in
    subst A c.self.view_is (subst B c.as_slice.ensures
    (resolved c.self.inside.bound.now c.self.inside.tables c.self.invariant
    c.as_slice.result.now c.args.thorn c.args.name.now c.levels.result c.levels.ensures))
