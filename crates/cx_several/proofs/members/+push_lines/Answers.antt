use Rattle.std.proofs.Common.{◌∙◌}
use Rattle.cx_several.proofs.LineLaws.{lines_first, none_added}
use Rattle.cx_several.proofs.members.+push_lines.Goals as goal

pub returns : goal.returns
returns t c =
    lines_first c.args.files.now c.in-Some-split_first.more.now c.in-Some-split_first.file.now
    c.args.members.now c.in-Some.others.now c.in-Some.member.now c.args.text.now
    c.push_member.new.text c.push_lines.new.text
    c.in_ok-others_status.others_status c.first_status.result c.in_ok-status.status
    c.in-Some-split_first.ensures.cases.0 c.in-Some.ensures.cases.0 c.in_ok-status.ensures
    c.in_ok-others_status.ensures c.first_status.ensures

pub returns-in_default : goal.returns-in_default
returns-in_default t c =
    none_added c.args.files.now c.args.members.now c.args.text.now c.requires
    (c.requires ∙ c.in_default.ensures.cases)
