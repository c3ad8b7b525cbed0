use Rattle.cx_balance.specs.Walking.{IsChoosing}
use Rattle.cx_balance.proofs.choosing.choose_by.Given as goal

abbrev pub invariant-parts : goal.invariant-parts
invariant-parts l =
    IsChoosing l.planes l.parts l.least l.j l.place l.widths l.walk.end l.walk.weight
