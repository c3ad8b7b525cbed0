use Rattle.std.proofs.Common.{rules}
use Rattle.cx_several.proofs.CellLaws.{pushed_cuttable}
use Rattle.cx_several.proofs.MakingLaws.{checked_members, why_unmade}
use Rattle.cx_several.proofs.jobs.members_of.Goals as goal

pub checked-requires : goal.checked-requires
checked-requires g c =
    pushed_cuttable _ _ c.args.files.now c.new-members.result.items c.make_all.new.members.items
    (search rules) c.in-Ok.ensures.pushes

pub returns-in-Ok-clause-made : goal.returns-in-Ok-clause-made
returns-in-Ok-clause-made g c =
    checked_members (λ v. v.items) _ _ c.args.files.now c.new-members.result.items
    c.make_all.new.members.items c.checked.result (search rules) c.in-Ok.ensures.pushes
    c.checked.ensures

pub returns-in-Err-clause-made : goal.returns-in-Err-clause-made
returns-in-Err-clause-made g c =
    why_unmade _ _ c.args.files.now c.in-Err.fault c.in-Err.ensures.pushes
