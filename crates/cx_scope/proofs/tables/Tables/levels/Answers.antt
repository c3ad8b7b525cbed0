use Rattle.std.proofs.Common.{◌∙◌, sym, arith}
use Rattle.cx_scope.specs.Closures.{sight_of}
use Rattle.cx_scope.specs.Sight.{seen}
use Rattle.cx_scope.proofs.SuffixLaws.{place_within}
use Rattle.cx_scope.proofs.tables.Tables.levels.Goals as goal

pub overflow_cast-place : goal.overflow_cast-place
overflow_cast-place c =
    let within = place_within (sight_of c.args.self.now)
    c.args.thorn seen c.args.self.now.variables c.args.name.now
    (c.in-Some.place, c.in-Some.level) (sym c.find_variable.ensures ∙ c.in-Some.is) in
    let few = c.requires in omega (arith, within, few)
