use Rattle.std.proofs.Common.{◌≡◌, ◌∙◌, ◌+◌, ◌-◌, ◌^◌, ℕ, List, [], ap, arith, length, map, min, refl, subst}
use Rattle.std.specs.List.{range_with_len}
use Rattle.std.proofs.lemmas.Result.{err_from_is_err_and}
use Rattle.cx_disk.specs.Disk.{Files}
use Rattle.cx_disk.proofs.Moments.{quiet_at_start, quiet_more}
use Rattle.cx_plan.specs.Setups.{setup_of}
use Rattle.cx_ascii_read.specs.declared.record.Record.{Record}
use Rattle.cx_chunks.specs.Cutting.{chunk_texts, AddsVariable}
use Rattle.cx_chunks.proofs.TextLaws.{texts_many}
use Rattle.cx_run_chunks.specs.Commands.{records_at}
use Rattle.cx_run_chunks.specs.Next.{total_of}
use Rattle.cx_run_chunks.proofs.LoopLaws.{output_more, output_told, seen_same, texts_more, total_more, total_none}
use Rattle.cx_run_chunks.proofs.outputs.cut_each.Goals as goal

pub outputs-init : goal.outputs-init
outputs-init g c = record {
  mounted = c.requires.mounted;
  folders = refl;
  count = refl;
  faults = omega arith;
  quiet = λ tells. quiet_at_start (g.D.Disk.view c.args.disk.now);
  place = refl;
  told = λ tells. refl;
  records = λ tells. total_none (2 ^ 64 - 1);
  texts = λ tells. c.requires.texts;
  many = texts_many c.args.cut.now [] c.args.texts.now c.requires.texts;
}

pub outputs-preserved : goal.outputs-preserved
outputs-preserved g c =
    let first = g.D.Disk.view c.args.disk.now in
    let same : g.D.Disk.tells → (g.D.Disk.view c.outputs.disk).seen ≡ first.seen = λ tells.
    seen_same (c.outputs.invariant.quiet tells) in
    let read : g.D.Disk.tells → records_at (g.D.Disk.view c.outputs.disk).seen c.outputs.place
    ≡ records_at first.seen c.outputs.v-index = λ tells.
    ap (λ (files : Files). records_at files c.outputs.place) (same tells)
    ∙ ap (records_at first.seen) c.outputs.invariant.place in
    record {
      mounted = c.cut_one.ensures.kept.mounted;
      folders = c.cut_one.ensures.kept.folders ∙ c.outputs.invariant.folders;
      count = c.cut_one.ensures.kept.count ∙ c.outputs.invariant.count;
      faults = let a = c.outputs.invariant.faults in let b = c.cut_one.ensures.kept.cause.later in
          omega arith;
      quiet = λ tells. quiet_more (c.outputs.invariant.quiet tells)
          (c.cut_one.ensures.quiet tells);
      place = ap (λ n. n + 1) c.outputs.invariant.place;
      told = λ tells. output_more (setup_of c.args.job.now) first.seen
          (g.D.Disk.view c.outputs.disk).seen c.args.job.now.out_vars
          c.as_slice-v-items.result.now c.outputs.v-index c.outputs.place _ _ (same tells)
          c.as_slice-v-items.ensures c.outputs.invariant.place c.outputs-test.true
          (c.in_ok-count.ensures.told tells) (c.outputs.invariant.told tells);
      records = λ tells. total_more (records_at first.seen) c.outputs.v-index
          c.in_ok-count.count c.outputs.records c.saturating_add-records.result
          (c.outputs.invariant.records tells)
          (subst (λ (rs : List Record). c.in_ok-count.count ≡ min (length rs) (2 ^ 64 - 1))
          (read tells) (c.in_ok-count.ensures.count tells)) c.saturating_add-records.ensures;
      texts = λ tells. texts_more c.args.cut.now (records_at first.seen) c.outputs.v-index
          c.outputs.texts c.cut_one.new.texts (c.outputs.invariant.texts tells)
          (subst (λ (rs : List Record).
          AddsVariable c.args.cut.now rs c.outputs.texts c.cut_one.new.texts)
          (read tells) (c.in_ok-count.ensures.texts tells));
      many = c.in_ok-count.ensures.many;
    }

pub returns-clause-count : goal.returns-clause-count
returns-clause-count g c = λ tells.
    let all : c.outputs.v-index ≡ length c.args.job.now.out_vars =
    omega (
      arith,
      c.outputs-test.false,
      c.outputs.auto.v-index-end,
      ap length c.as_slice-v-items.ensures,
    ) in
    c.outputs.invariant.records tells
    ∙ ap (λ (n : ℕ). total_of (map (records_at (g.D.Disk.view c.args.disk.now).seen)
    (range_with_len 0 n))) all

pub returns-clause-texts : goal.returns-clause-texts
returns-clause-texts g c = λ tells.
    let all : c.outputs.v-index ≡ length c.args.job.now.out_vars =
    omega (
      arith,
      c.outputs-test.false,
      c.outputs.auto.v-index-end,
      ap length c.as_slice-v-items.ensures,
    ) in
    c.outputs.invariant.texts tells
    ∙ ap (λ (n : ℕ). chunk_texts c.args.cut.now
    (map (records_at (g.D.Disk.view c.args.disk.now).seen) (range_with_len 0 n))) all

pub returns-in_err-count-clause-told : goal.returns-in_err-count-clause-told
returns-in_err-count-clause-told g c = λ tells.
    let first = g.D.Disk.view c.args.disk.now in
    let p = err_from_is_err_and c.from_residual.result c.from_residual.ensures.1 in
    rw (p.1, p.2) (output_told (setup_of c.args.job.now) first.seen
    (g.D.Disk.view c.outputs.disk).seen c.args.job.now.out_vars c.as_slice-v-items.result.now
    c.outputs.v-index c.outputs.place _ _ c.in_err-count.field-0.0
    (seen_same (c.outputs.invariant.quiet tells)) c.as_slice-v-items.ensures
    c.outputs.invariant.place c.outputs-test.true (c.in_err-count.ensures.told tells)
    (c.outputs.invariant.told tells))

pub returns-in_err-count-clause-quiet : goal.returns-in_err-count-clause-quiet
returns-in_err-count-clause-quiet g c = λ tells.
    quiet_more (c.outputs.invariant.quiet tells) (c.cut_one.ensures.quiet tells)
