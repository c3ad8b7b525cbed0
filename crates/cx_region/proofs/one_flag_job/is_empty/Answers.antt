use Rattle.std.proofs.Common.{◌≡◌, ◌≤◌, ◌∙◌, sym, length, rules}
use Rattle.cx_plan.specs.Bins.{bin_number}
use Rattle.cx_plan.specs.Setups.{setup_of}
use Rattle.cx_plan.specs.Lookups.{bin}
use Rattle.cx_region.proofs.OneFlagTreeLaws.{empty-told}
use Rattle.cx_region.proofs.OneFlagJobLaws.{empty-past}
use Rattle.cx_region.proofs.one_flag_job.is_empty.Goals as goal

pub returns-in-Some-Seq : goal.returns-in-Some-Seq
returns-in-Some-Seq c =
    let at : c.in-Some-Seq.field-0.now ≡ bin (setup_of c.args.job.now) (bin_number c.args.bin) =
    search rules in
    empty-told (bin (setup_of c.args.job.now) (bin_number c.args.bin))
    c.in-Some-Seq.trees c.is_empty.result (sym at ∙ c.in-Some-Seq.field-0-is)
    (λ e. sym c.in-Some-Seq.trees-is ∙ c.is_empty.ensures.0 e)
    (λ e. c.is_empty.ensures.1 (c.in-Some-Seq.trees-is ∙ e))

pub returns-in-None : goal.returns-in-None
returns-in-None c =
    let past : length c.args.job.now.plan.bins ≤ bin_number c.args.bin = search rules in
    empty-past c.args.job.now (bin_number c.args.bin) past
