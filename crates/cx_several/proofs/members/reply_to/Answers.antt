use Rattle.cx_several.proofs.LineLaws.{replies_with}
use Rattle.cx_several.proofs.members.reply_to.Goals as goal

pub returns : goal.returns
returns c =
    replies_with c.args.files.now c.args.members.now c.in_ok-text.text
    c.push_lines.new.text c.in_ok-status.status c.in_ok-text.ensures c.in_ok-status.ensures
