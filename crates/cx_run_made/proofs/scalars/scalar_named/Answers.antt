use Rattle.std.proofs.Common.{◌∙◌, ap, sym, option_map}
use Rattle.cx_run_made.specs.Summaries.{numbered}
use Rattle.cx_run_made.proofs.scalars.scalar_named.Goals as goal

pub returns-in-Some-clause-named : goal.returns-in-Some-clause-named
returns-in-Some-clause-named c =
    ap (option_map numbered) (sym c.in-Some.is ∙ c.place_named.ensures.place)

pub returns-in-None-clause-named : goal.returns-in-None-clause-named
returns-in-None-clause-named c =
    ap (option_map numbered) (sym c.in-None.is ∙ c.place_named.ensures.place)
