use Rattle.std.proofs.Common.{◌≡◌, ◌∙◌, List, ℕ, Some, subst}
use Rattle.std.proofs.lemmas.Result.{err_from_is_err_and}
use Rattle.cx_plan.specs.Setups.{setup_of}
use Rattle.cx_ascii_read.specs.Reading.{Stops}
use Rattle.cx_ascii_read.proofs.SplitLaws.{none_left}
use Rattle.cx_run_chunks.specs.Next.{next_record}
use Rattle.cx_run_chunks.proofs.TakeLaws.{less_left, some_left, taken_count, taken_more, taken_none, taken_output, taken_stops, taken_texts}
use Rattle.cx_run_chunks.proofs.outputs.cut_bytes.Goals as goal

pub returns-in_err-entry-clause-told : goal.returns-in_err-entry-clause-told
returns-in_err-entry-clause-told c =
    let p = err_from_is_err_and c.from_residual-in_err-entry.result
    c.from_residual-in_err-entry.ensures.1 in
    let e = c.in_err-entry.field-0.0 in
    rw (p.1, p.2) (taken_stops (setup_of c.args.job.now) c.args.info.now c.args.cut.now
    c.args.bytes.now c.args.texts.now c.records.texts c.records.rest.now c.records.last
    c.records.count c.records.invariant.taken e
    (some_left c.records.rest.now c.is_empty.result c.is_empty.ensures c.records-test.true)
    (subst (λ (size : List ℕ). Stops e
    (next_record c.args.info.now.full size c.records.last c.records.rest.now))
    (c.as_slice.ensures ∙ c.in_ok-sizes.ensures) c.in_err-entry.ensures))

pub records-init : goal.records-init
records-init c = record {
  taken = taken_none (setup_of c.args.job.now) c.args.info.now c.args.cut.now c.args.bytes.now
      c.args.texts.now;
  many = c.requires.texts;
}

pub records-smaller : goal.records-smaller
records-smaller c =
    less_left c.args.info.now.full c.as_slice.result.now c.records.last c.records.rest.now
    c.in_ok-entry.entry c.in_ok-entry.after.now c.in_ok-entry.ensures

pub records-preserved : goal.records-preserved
records-preserved c = record {
  taken = taken_more (setup_of c.args.job.now) c.args.info.now c.args.cut.now c.args.bytes.now
      c.args.texts.now c.records.texts c.records.rest.now c.records.last c.records.count
      c.records.invariant.taken c.in_ok-entry.entry c.in_ok-entry.after.now
      c.push_record.new.texts c.saturating_add-count.result
      (some_left c.records.rest.now c.is_empty.result c.is_empty.ensures c.records-test.true)
      (subst (λ (size : List ℕ).
      next_record c.args.info.now.full size c.records.last c.records.rest.now
      ≡ Some (c.in_ok-entry.entry, c.in_ok-entry.after.now))
      (c.as_slice.ensures ∙ c.in_ok-sizes.ensures) c.in_ok-entry.ensures)
      c.in_ok-push_record.ensures.texts c.saturating_add-count.ensures;
  many = c.in_ok-push_record.ensures.many;
}

pub returns-clause-told : goal.returns-clause-told
returns-clause-told c =
    taken_output (setup_of c.args.job.now) c.args.info.now c.args.cut.now c.args.bytes.now
    c.args.texts.now c.records.texts c.records.rest.now c.records.last c.records.count
    c.records.invariant.taken
    (none_left c.records.rest.now c.is_empty.result c.is_empty.ensures c.records-test.false)

pub returns-clause-count : goal.returns-clause-count
returns-clause-count c =
    taken_count (setup_of c.args.job.now) c.args.info.now c.args.cut.now c.args.bytes.now
    c.args.texts.now c.records.texts c.records.rest.now c.records.last c.records.count
    c.records.invariant.taken
    (none_left c.records.rest.now c.is_empty.result c.is_empty.ensures c.records-test.false)

pub returns-clause-texts : goal.returns-clause-texts
returns-clause-texts c =
    taken_texts (setup_of c.args.job.now) c.args.info.now c.args.cut.now c.args.bytes.now
    c.args.texts.now c.records.texts c.records.rest.now c.records.last c.records.count
    c.records.invariant.taken
    (none_left c.records.rest.now c.is_empty.result c.is_empty.ensures c.records-test.false)
