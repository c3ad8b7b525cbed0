use Rattle.std.proofs.Common.{◌∙◌, ap, sym, subst, ℕ, List, length, arith}
use Rattle.cx_scope.specs.Closures.{sight_of}
use Rattle.cx_scope.proofs.SuffixLaws.{Left, begins, ends_empty, goes_on, gets_shorter}
use Rattle.cx_scope.proofs.sought.find_variable.Goals as goal

pub levels-init : goal.levels-init
levels-init c = record {
  left =
      (let L : List ℕ → Type 0 =
      λ base. Left (sight_of c.args.tables.now)
      c.args.thorn c.args.tiers.now c.args.tables.now.variables c.args.name.now 0 base in
      subst L (sym c.as_slice-base.ensures)
      (begins (sight_of c.args.tables.now)
      c.args.thorn c.args.tiers.now c.args.tables.now.variables c.args.name.now));
  within = (let same = ap length c.as_slice-base.ensures in omega (arith, same));
}

pub returns-in-None : goal.returns-in-None
returns-in-None c =
    sym (ends_empty (sight_of c.args.tables.now)
    c.args.thorn c.args.tiers.now c.args.tables.now.variables c.args.name.now c.levels.level
    c.levels.base.now c.levels.invariant.left (sym c.variable_at.ensures ∙ c.in_default.is)
    (sym c.in-None.ensures))

pub levels-preserved : goal.levels-preserved
levels-preserved c = record {
  left = goes_on (sight_of c.args.tables.now)
      c.args.thorn c.args.tiers.now c.args.tables.now.variables c.args.name.now c.levels.level
      c.levels.base.now c.in-Some-without_suffix.shorter.now c.levels.invariant.left
      (sym c.variable_at.ensures ∙ c.in_default.is) (sym c.in-Some-without_suffix.ensures);
  within =
      (let less = gets_shorter (sight_of c.args.tables.now)
      c.args.thorn c.args.tiers.now c.args.tables.now.variables c.args.name.now c.levels.base.now
      c.in-Some-without_suffix.shorter.now (sym c.in-Some-without_suffix.ensures) in
      let before = c.levels.invariant.within in omega (arith, less, before));
}
