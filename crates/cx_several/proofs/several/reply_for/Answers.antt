use Rattle.std.proofs.Common.{◌∙◌, ap, inl, inr, refl, arith}
use Rattle.cx_run_batch.specs.Members.{jobs_of}
use Rattle.cx_several.proofs.ClauseLaws.{are_named}
use Rattle.cx_several.proofs.MakingLaws.{as_many, few_members, jobs_waiting, runnable}
use Rattle.cx_several.proofs.MemberLaws.{turned}
use Rattle.cx_several.proofs.several.reply_for.Goals as goal

pub run_members-requires-clause-runnable : goal.run_members-requires-clause-runnable
run_members-requires-clause-runnable g c =
    runnable _ _ c.args.files.now c.in-Ok.members.items c.in-Ok.ensures.made

pub run_members-requires-clause-files : goal.run_members-requires-clause-files
run_members-requires-clause-files g c =
    as_many _ _ c.args.files.now c.in-Ok.members.items c.in-Ok.ensures.made

pub run_members-requires-clause-disks : goal.run_members-requires-clause-disks
run_members-requires-clause-disks g c =
    few_members _ _ c.args.files.now c.in-Ok.members.items _ c.requires.files c.in-Ok.ensures.made
    c.requires.disks

pub run_members-requires-clause-wires : goal.run_members-requires-clause-wires
run_members-requires-clause-wires g c =
    few_members _ _ c.args.files.now c.in-Ok.members.items _ c.requires.files c.in-Ok.ensures.made
    c.requires.wires

pub returns-in-Ok-clause-replies : goal.returns-in-Ok-clause-replies
returns-in-Ok-clause-replies g c =
    let x = c.in-Ok.ensures.made in
    inr (turned _ c.run_members.ensures.begun c.in-Ok.ensures.kept g.met.D.Disk.sound
    c.args.files.now x.jobs c.in-Ok.members.items c.run_members.result
    (are_named c.args.files.now c.requires.files) x.are
    (ap jobs_of x.members ∙ jobs_waiting x.jobs) c.run_members.ensures.ended)

pub returns-in-Err-clause-replies : goal.returns-in-Err-clause-replies
returns-in-Err-clause-replies g c =
    inl (record {
      fault = c.in-Err.fault;
      why = c.in-Err.ensures.made;
      untouched = record { disks = refl; wires = refl; meter = refl; turns = refl };
      reply_is = c.refused.ensures;
    })

pub returns-in-Ok-clause-points : goal.returns-in-Ok-clause-points
returns-in-Ok-clause-points g c =
    let counts = c.run_members.ensures.ended.counts in omega (arith, counts)
