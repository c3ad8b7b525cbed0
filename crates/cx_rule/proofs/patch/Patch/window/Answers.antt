use Rattle.cx_rule.proofs.patch.Patch.window.Goals as goal

pub returns-clause-seen : goal.returns-clause-seen
returns-clause-seen c = rw (← c.self.view_is) c.show.ensures.seen
