use Rattle.std.proofs.Common.{ℕ, ◌≡◌, ◌<◌, List, get_or, subst}
use Rattle.cx_plan.specs.declared.tree.Tree.{Tree}
use Rattle.cx_plan.specs.Bins.{bin_number}
use Rattle.cx_plan.specs.Lookups.{bin_count}
use Rattle.cx_flat.proofs.FlattenLaws.{pushed_bin}
use Rattle.cx_flat.proofs.operations.push_bin.Goals as goal

pub returns : goal.returns
returns c =
    let t = c.index-bins-number.result in
    pushed_bin c.args.job.now c.requires (bin_number c.args.bin)
    (subst (λ (n : ℕ). n < bin_count) c.number.ensures.number c.number.ensures.below) t
    (subst (λ (ts : List Tree). t ≡ get_or ts (bin_number c.args.bin) t) c.as_slice-bins.ensures
    (subst (λ (n : ℕ). t ≡ get_or c.as_slice-bins.result.now n t)
    c.number.ensures.number c.index-bins-number.is))
    c.push_tree.result c.args.ops.now.items c.push_tree.new.ops.items c.push_tree.ensures
