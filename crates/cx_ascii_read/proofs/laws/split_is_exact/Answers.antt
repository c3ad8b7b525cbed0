use Rattle.cx_ascii_read.proofs.SplitLaws.{spelled_split, split_spelled}
use Rattle.cx_ascii_read.proofs.laws.split_is_exact.Goals as goal

pub returns-clause-spelled : goal.returns-clause-spelled
returns-clause-spelled c = spelled_split

pub returns-clause-split : goal.returns-clause-split
returns-clause-split c = split_spelled
