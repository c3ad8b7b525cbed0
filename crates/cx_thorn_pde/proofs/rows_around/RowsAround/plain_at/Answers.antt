use Rattle.std.proofs.Common.{◌≡◌, pos, rules, ◌∙◌, ap, SFits, w64, to_z-of_z}
use Rattle.cx_thorn_pde.proofs.Ranges.{fits}
use Rattle.cx_thorn_pde.specs.Exact.{in_64_bits}
use Rattle.cx_thorn_pde.specs.Rows.{next_of, number_at, star_at}
use Rattle.cx_thorn_pde.proofs.rows_around.RowsAround.plain_at.Goals as goal

pub returns : goal.returns
returns c =
    let f : SFits w64 c.next_plain.result = search rules in
    let same : c.next_plain.result
    ≡ next_of (pos c.args.factor) (number_at c.args.self.now.before c.args.i)
    (star_at c.args.self.now c.args.i) = search rules in
    rw (to_z-of_z f) (fits c.next_plain.result f ∙ ap in_64_bits same)
