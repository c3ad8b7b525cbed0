use Rattle.std.specs.Option.{option_copied}
use Rattle.cx_bind.proofs.PlaceLaws.{got_named}
use Rattle.cx_bind.proofs.name_ranges.NameRanges.get.Goals as goal
use Rattle.cx_text.specs.Bytes.{folded}

pub returns : goal.returns
returns c =
    got_named (λ v. v.items) c.in_ok-key.key c.self.inside.ranges.entries (folded c.args.name.now)
    c.args.self.now (option_copied c.get.result)
    c.in_ok-key.ensures c.self.view_is c.get.ensures.value
