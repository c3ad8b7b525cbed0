use Rattle.std.proofs.Common.{ap, ◌∙◌, map}
use Rattle.cx_plan.specs.Setups.{setup_of}
use Rattle.cx_plan.specs.Regions.{flags_or_none}
use Rattle.cx_region_flags.specs.Cells.{flags_in}
use Rattle.cx_region_flags.specs.Unmet.{first_unmet_of}
use Rattle.cx_region_flags.proofs.unmet.unmet_read.Goals as goal

pub returns-in-Some : goal.returns-in-Some
returns-in-Some c =
    let setup = setup_of c.args.job.now in
    let set = flags_in c.args.table.now in
    let read = c.args.read.now in
    c.unmet_flag.ensures
    ∙ ap (λ path. first_unmet_of setup set
    (map (λ f. record { place = path; var = read.var; level = read.level; flag = f })
    c.in-Some.flags.now)) c.as_slice.ensures
    ∙ ap (λ o. first_unmet_of setup set
    (map (λ f. record {
      place = c.args.item.now.path;
      var = read.var;
      level = read.level;
      flag = f;
    }) (flags_or_none o))) c.in-Some.ensures
