use Rattle.std.proofs.Common.{◌++◌, ◌∙◌, ap}
use Rattle.cx_several.specs.Texts.{line}
use Rattle.cx_several.proofs.members.push_member.Goals as goal

pub returns : goal.returns
returns c = record {
  answer = c.answer_to-answer.result;
  is = c.answer_to-answer.ensures.answers;
  text_is = c.in_ok-push_line.ensures
      ∙ ap (λ printed. c.args.text.now ++ line c.args.file.now printed) c.in_ok-printed.ensures;
  status_is = c.status-status.ensures;
}
