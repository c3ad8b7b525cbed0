use Rattle.cx_chunks.proofs.TextLaws.{next_record, none_yet}
use Rattle.cx_chunks.proofs.cutting.push_records.Goals as goal

pub records-init : goal.records-init
records-init c = record {
  many = c.requires.texts;
  texts = none_yet c.args.cut.now c.args.texts.now;
}

pub records-preserved : goal.records-preserved
records-preserved c = record {
  many = c.in_ok-push_record.ensures.many;
  texts = next_record c.args.cut.now c.args.records.now c.records.entry-index c.entry-item.result
      c.args.texts.now c.records.texts c.push_record.new.texts c.records-test.true
      c.entry-item.is c.records.invariant.texts c.in_ok-push_record.ensures.texts;
}
