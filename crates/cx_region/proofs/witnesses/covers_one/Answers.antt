use Rattle.std.proofs.Common.{◌≡◌, ◌<◌, ◌||◌, Bool, true, false, not, sym, ◌∙◌, rules}
use Rattle.cx_region_flags.specs.Cells.{flags_in}
use Rattle.cx_region.specs.Witnesses.{is_cleared_on}
use Rattle.cx_region_flags.proofs.RangeLaws.{not_all_of_range}
use Rattle.cx_region.proofs.witnesses.covers_one.Goals as goal

neither : (a b : Bool) → not a ≡ true → b ≡ false → (a || b) ≡ false
neither true b set none = absurd (cc)
neither false b set none = none

pub returns-then-not-is_cleared_on : goal.returns-then-not-is_cleared_on
returns-then-not-is_cleared_on c =
    let x = c.args.followed in
    let below : c.loop-level.level < 8 = search rules in
    let here : (flags_in c.args.way.now.flags x.variable c.loop-level.level x.flag
    || is_cleared_on x c.args.ways.now c.loop-level.level) ≡ false =
    neither (flags_in c.args.way.now.flags x.variable c.loop-level.level x.flag)
    (is_cleared_on x c.args.ways.now c.loop-level.level)
    (sym c.is_cleared.ensures ∙ c.if-is_cleared.true)
    (sym c.is_cleared_on.ensures ∙ c.if-not-is_cleared_on.true) in
    sym (not_all_of_range (λ k. flags_in c.args.way.now.flags x.variable k x.flag
    || is_cleared_on x c.args.ways.now k) 8 c.loop-level.level below here)
