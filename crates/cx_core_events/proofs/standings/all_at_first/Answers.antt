use Rattle.std.proofs.Common.{◌∙◌, sym, ap, length}
use Rattle.std.proofs.lemmas.List.{length-replicate}
use Rattle.cx_plan.specs.Setups.{setup_of}
use Rattle.cx_core_events.specs.Steps.{standing_at, first_place}
use Rattle.cx_core_events.proofs.PaceLaws.{made_first}
use Rattle.cx_core_events.proofs.standings.all_at_first.Goals as goal

pub invariant_of-result : goal.invariant_of-result
invariant_of-result c =
    let parts = c.in_ok-parts.ensures c.args.job.now c.requires.whole
    (c.as_slice.ensures ∙ c.requires.ops) in
    record {
      shape_is = sym c.requires.shape;
      count_is = ap length parts
          ∙ length-replicate c.count.result
          (standing_at (first_place (setup_of c.args.job.now) c.args.from)) ∙ c.count.ensures.value;
      whole = c.requires.cut;
    }

pub returns : goal.returns
returns c =
    let parts = c.in_ok-parts.ensures c.args.job.now c.requires.whole
    (c.as_slice.ensures ∙ c.requires.ops) in
    made_first c.args.cut c.args.ops c.args.job.now.lead c.count.result
    (first_place (setup_of c.args.job.now) c.args.from)
    c.in_ok-parts.parts.items c.new.result.items parts c.count.ensures.value c.new.ensures.items
