use Rattle.std.proofs.Common.{◌∙◌, sym}
use Rattle.cx_job_items.specs.Matching.{is_for}
use Rattle.cx_job_items.proofs.MatchLaws.{position_through}
use Rattle.cx_job_items.proofs.matching.routine_number.Goals as goal

pub returns-clause-number : goal.returns-clause-number
returns-clause-number c =
    c.place_for.ensures.place
    ∙ sym (position_through (is_for c.args.item.now) (λ s. s.now) c.args.specs.now)
