use Rattle.std.proofs.Common.{◌≡◌, ◌<◌, ℕ, Bool, true, false, arith, sym, ◌∙◌, subst}
use Rattle.cx_core.specs.Cores.{enabled_in}
use Rattle.cx_run_loop.specs.Turning.{Picks}
use Rattle.cx_run_loop.proofs.picking.pick.Goals as goal

pub pick-requires : goal.pick-requires
pick-requires g c =
    let some = c.requires.some in
    let below : some.0 < enabled_in c.args.core.now = some.1 in
    subst (λ (n : ℕ). 0 < n) (sym c.enabled.ensures) (omega (arith, below))

pub returns-then-job-clause-picks : goal.returns-then-job-clause-picks
returns-then-job-clause-picks g c =
    subst (λ (z : Bool). Picks g.T.Turns z c.args.core.now c.args.turns.now
    c.pick_waiting.result c.pick_waiting.new.turns) (sym c.if-job.true)
    c.pick_waiting.ensures.picks

pub returns-else-job-clause-picks : goal.returns-else-job-clause-picks
returns-else-job-clause-picks g c =
    subst (λ (z : Bool). Picks g.T.Turns z c.args.core.now c.args.turns.now c.pick.result
    c.pick.new.self) (sym c.if-job.false)
    (subst (λ (n : ℕ). g.T.Turns.picks c.args.turns.now n c.pick.result c.pick.new.self)
    c.enabled.ensures c.pick.ensures.picks)

pub returns-else-job-clause-waits : goal.returns-else-job-clause-waits
returns-else-job-clause-waits g c = λ same.
    let both : true ≡ false = sym same ∙ c.if-job.false in
    absurd (let bad : ⊥ = cc in bad)
