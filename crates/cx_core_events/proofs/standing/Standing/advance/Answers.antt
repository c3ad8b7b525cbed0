use Rattle.std.proofs.Common.{◌∙◌, ◌+◌, ◌%◌, sym, w64, SFits, rules}
use Rattle.std.proofs.lemmas.Int.{to_z-of_z}
use Rattle.cx_plan.specs.Setups.{setup_of}
use Rattle.cx_flat.specs.Flats.{control_after}
use Rattle.cx_core_events.proofs.PaceLaws.{placed}
use Rattle.cx_core_events.proofs.standing.Standing.advance.Goals as goal

pub returns : goal.returns
returns c = λ scalars tested.
    let fits : SFits w64 c.args.scalar = search rules in
    placed c.advance.new.self
    (control_after (setup_of c.args.job.now) c.args.op.now scalars c.args.self.now.place)
    ((c.args.self.now.count + 1) % 18446744073709551616) c.args.handed
    (c.advance.ensures scalars (λ v e. tested v e ∙ sym (to_z-of_z w64 c.args.scalar fits)))
