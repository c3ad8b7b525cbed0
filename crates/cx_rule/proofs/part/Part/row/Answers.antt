use Rattle.std.proofs.Common.{◌≡◌, ◌+◌, ◌-◌, ◌∙◌, arith}
use Rattle.cx_rule.proofs.NumberLaws.{grid_count}
use Rattle.cx_rule.proofs.FaceLaws.{row_end, row_numbers}
use Rattle.cx_rule.proofs.part.Part.row.Goals as goal

pub slice_bounds-result-end : goal.slice_bounds-result-end
slice_bounds-result-end c =
    let e = rw c.local.ensures.value at c.index_of-at.ensures.value in
    let n = row_end c.args.self.now.local c.args.low c.args.n c.requires.low c.requires.high in
    let m = c.level.ensures.count
    ∙ grid_count c.args.self.now c.args.v c.args.level c.requires.level in
    omega (arith, e, n, m)

pub returns : goal.returns
returns c =
    let e = rw c.local.ensures.value at c.index_of-at.ensures.value in
    let n = row_end c.args.self.now.local c.args.low c.args.n c.requires.low c.requires.high in
    let m = c.level.ensures.count
    ∙ grid_count c.args.self.now c.args.v c.args.level c.requires.level in
    let k : c.index_of-at.result + c.args.n - c.index_of-at.result ≡ c.args.n = omega arith in
    row_numbers c.args.self.now c.args.v c.args.level c.args.low c.args.n c.index_of-at.result _
    c.level.result.now c.level.ensures.value e k c.requires.low
    (omega (arith, e, n, m))
