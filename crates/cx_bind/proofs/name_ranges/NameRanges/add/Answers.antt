use Rattle.cx_bind.proofs.RangeLaws.{put_back}
use Rattle.cx_bind.proofs.name_ranges.NameRanges.add.Goals as goal
use Rattle.cx_text.specs.Bytes.{folded}

pub returns : goal.returns
returns c =
    put_back c.args.self.now c.take.new.self c.put.new.self (folded c.args.name.now)
    c.in_ok-ranges.ranges c.push_ranges.new.ranges c.args.more.now c.in_ok-ranges.ensures.had
    c.in_ok-ranges.ensures.put c.in_ok-push_ranges.ensures c.in_ok-put.ensures.put
