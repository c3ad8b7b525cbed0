use Rattle.cx_core.proofs.starting.cut_of.Goals as goal

pub cut-requires : goal.cut-requires
cut-requires c = c.requires.whole.shape

pub returns-in-Ok : goal.returns-in-Ok
returns-in-Ok c = record { parts = c.in-Ok.ensures.value; whole = c.in-Ok.ensures.whole }
