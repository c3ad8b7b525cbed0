use Rattle.std.proofs.Common.{◌≡◌, ◌<◌, ◌≤◌, true, false, sym, length, arith, rules, below_more}
use Rattle.cx_region_flags.specs.Cells.{cell}
use Rattle.cx_region_flags.specs.AllPaths.{is_within}
use Rattle.cx_region_flags.proofs.RangeLaws.{all_of_range, not_all_of_range}
use Rattle.cx_region_flags.proofs.flag_table.FlagTable.is_below.Goals as goal

pub returns-then-not-is_within : goal.returns-then-not-is_within
returns-then-not-is_within c =
    let below : c.loop-place.place < length c.args.self.now = search rules in
    let here : is_within (cell c.args.self.now c.loop-place.place)
    (cell c.args.other.now c.loop-place.place) ≡ false = search rules in
    sym (not_all_of_range (λ k. is_within (cell c.args.self.now k) (cell c.args.other.now k))
    (length c.args.self.now) c.loop-place.place below here)

pub loop-place-preserved : goal.loop-place-preserved
loop-place-preserved c =
    let here : is_within (cell c.args.self.now c.loop-place.place)
    (cell c.args.other.now c.loop-place.place) ≡ true = search rules in
    below_more _ _ c.loop-place.invariant here

pub returns : goal.returns
returns c =
    let all : length c.args.self.now ≤ c.loop-place.place = search rules in
    sym (all_of_range (λ k. is_within (cell c.args.self.now k) (cell c.args.other.now k))
    (length c.args.self.now) 0
    (λ k low high. let below : k < c.loop-place.place = omega (arith, all) in
    c.loop-place.invariant k below))
