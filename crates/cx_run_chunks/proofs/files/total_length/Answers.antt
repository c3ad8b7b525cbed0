use Rattle.std.proofs.Common.{◌≡◌, ◌∙◌, ◌+◌, ap, length, arith}
use Rattle.cx_disk.proofs.Moments.{quiet_more}
use Rattle.cx_run_chunks.proofs.CountLaws.{length_more}
use Rattle.cx_run_chunks.proofs.files.total_length.Goals as goal

pub files-preserved : goal.files-preserved
files-preserved g c = record {
  mounted = c.length_at.ensures.kept.mounted;
  folders = c.length_at.ensures.kept.folders ∙ c.files.invariant.folders;
  count = c.length_at.ensures.kept.count ∙ c.files.invariant.count;
  faults = let a = c.files.invariant.faults in let b = c.length_at.ensures.kept.cause.later in
      omega arith;
  quiet = λ tells. quiet_more (c.files.invariant.quiet tells) (c.length_at.ensures.quiet tells);
  total = λ tells.
      let first = g.D.Disk.view c.args.disk.now in
      let here : c.in_ok-more.more ≡ length (first.seen (c.args.first + c.files.place)) =
      c.in_ok-more.ensures.length tells
      ∙ ap length ((c.files.invariant.quiet tells).same (c.args.first + c.files.place)) in
      length_more first.seen c.args.first c.files.place c.in_ok-more.more c.files.total
      c.saturating_add-total.result (c.files.invariant.total tells) here
      c.saturating_add-total.ensures;
}
