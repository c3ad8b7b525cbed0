use Rattle.std.proofs.Common.{◌≡◌, ◌*◌}
use Rattle.std.specs.List.{list_all}
use Rattle.cx_grid.specs.Boxes.{extent, points_in}
use Rattle.cx_rule.specs.Runs.{fits_at}
use Rattle.cx_rule.proofs.CommitLaws.{rest_of_points}
use Rattle.cx_rule.proofs.commit.fits_rows.Given as goal

abbrev pub invariant-rows : goal.invariant-rows
invariant-rows l =
    list_all (fits_at l.b l.zone l.values l.low l.high) (rest_of_points l.b (l.row * extent l.b 0))
    ≡ list_all (fits_at l.b l.zone l.values l.low l.high) (points_in l.b)
