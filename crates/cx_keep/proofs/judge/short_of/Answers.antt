use Rattle.std.proofs.Common.{◌≡◌, ◌∙◌, ℕ, ap, subst, length, arith}
use Rattle.cx_disk.proofs.Moments.{quiet_more, quiet_call}
use Rattle.cx_keep.proofs.Tested.{short_step}
use Rattle.cx_keep.specs.Trails.{file_of_output}
use Rattle.cx_keep.proofs.judge.short_of.Goals as goal

pub each-preserved : goal.each-preserved
each-preserved g c = record {
  mounted = c.length.ensures.mounted;
  folders = c.length.ensures.folders ∙ c.each.invariant.folders;
  count = c.length.ensures.count ∙ c.each.invariant.count;
  faults = let a = c.each.invariant.faults in let b = c.length.ensures.cause.later in omega arith;
  quiet = λ tells. quiet_more (c.each.invariant.quiet tells)
      (quiet_call (c.length.ensures.same tells) (c.length.ensures.after tells));
  short = λ tells.
      let is : c.in_ok-count.count
      ≡ length ((g.D.Disk.view c.each.disk).seen (file_of_output c.each.output)) =
      subst (λ (f : ℕ). c.in_ok-count.count ≡ length ((g.D.Disk.view c.each.disk).seen f))
      c.named_output.ensures (c.in_ok-count.ensures.length tells) in
      let was : length ((g.D.Disk.view c.each.disk).seen (file_of_output c.each.output))
      ≡ length ((g.D.Disk.view c.args.disk.now).seen (file_of_output c.each.output)) =
      ap length ((c.each.invariant.quiet tells).same (file_of_output c.each.output)) in
      let le = c.if-count-lengths.false in
      let lt = c.each-test.true in
      short_step c.each.output c.each.output c.args.lengths.now (g.D.Disk.view c.args.disk.now).seen
      (omega arith) (omega arith) ∙ c.each.invariant.short tells;
}
