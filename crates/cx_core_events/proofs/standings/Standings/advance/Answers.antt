use Rattle.std.proofs.Common.{◌∙◌, sym, ap, w64, SFits, rules}
use Rattle.std.proofs.lemmas.Int.{to_z-of_z}
use Rattle.cx_plan.specs.Setups.{setup_of}
use Rattle.cx_core_events.specs.Steps.{gone_on, with_hind}
use Rattle.cx_core_events.proofs.AloneLaws.{alone_by}
use Rattle.cx_core_events.proofs.standings.Standings.advance.Goals as goal

pub returns-clause-ok : goal.returns-clause-ok
returns-clause-ok c =
    let fits : SFits w64 c.args.scalar = search rules in
    λ scalars asked.
    c.set_hind.ensures
    ∙ ap (λ q. with_hind q c.other_hind-other.result)
    (c.in_ok-go_on.ensures.ok scalars
    (λ v e. asked v e ∙ sym (to_z-of_z w64 c.args.scalar fits)))
    ∙ ap (with_hind (gone_on (setup_of c.args.job.now) c.args.self.now c.args.k scalars))
    c.other_hind-other.ensures

pub returns-clause-alone : goal.returns-clause-alone
returns-clause-alone c =
    let fits : SFits w64 c.args.scalar = search rules in
    let new = c.set_hind.ensures
    ∙ ap (λ q. with_hind q c.other_hind-other.result)
    (c.in_ok-go_on.ensures.ok (λ v. c.args.scalar)
    (λ v e. sym (to_z-of_z w64 c.args.scalar fits)))
    ∙ ap (with_hind (gone_on (setup_of c.args.job.now) c.args.self.now c.args.k
    (λ v. c.args.scalar))) c.other_hind-other.ensures in
    λ told.
    let all = c.is_alone.ensures told in
    alone_by (setup_of c.args.job.now) c.args.self.now c.set_hind.new.self c.args.k
    (λ v. c.args.scalar) c.other_hind-other.result c.is_stop-stop.result
    c.requires.part c.other_hind-other.ensures all.0 new
    (sym c.work_count.ensures ∙ all.1 ∙ c.work_count-known.ensures) c.is_stop-stop.ensures.1 all.2
