use Rattle.cx_run.proofs.Clauses as clauses
use Rattle.cx_run.proofs.TurnLaws as turned
use Rattle.cx_run.proofs.call.cactus.Goals as goal

pub returns-clause-obeys : goal.returns-clause-obeys
returns-clause-obeys g c =
    let x = c.answer_to-answer.ensures.explained in
    let said = c.reply.ensures.said in
    record {
      run = clauses.runs_well _ _ c.answer_to-answer.result _ x said;
      trails = clauses.keeps_trails _ c.answer_to-answer.result x;
      all_trails = clauses.keeps_all_trails _ c.answer_to-answer.result x;
      within = clauses.counts_within _ c.answer_to-answer.result x;
      summed = clauses.sums_up _ _ c.answer_to-answer.result _ x said;
      printed = record { answer = c.answer_to-answer.result; cause = x; said = said };
      untouched = clauses.spares _ _ c.answer_to-answer.result _ x said;
      owed = clauses.owes _ _ c.answer_to-answer.result _ x said;
      kept = record {
        held = c.answer_to-answer.ensures.held;
        shelf = c.answer_to-answer.ensures.shelf_count;
        disk = c.answer_to-answer.ensures.disk_count;
        wire = c.answer_to-answer.ensures.wire_count;
        sink_ = c.reply.ensures.later;
        points = c.answer_to-answer.ensures.points;
        values = c.answer_to-answer.ensures.values;
      };
    }

pub returns-clause-turned : goal.returns-clause-turned
returns-clause-turned g c =
    turned.as_said g.T.Turns _ _ c.answer_to-answer.result _ _ _ c.reply.ensures.said
    c.answer_to-answer.ensures.turned
