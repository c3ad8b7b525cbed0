use Rattle.cx_plan.specs.Setups.{setup_of}
use Rattle.cx_flat.specs.Code.{analysis_place}
use Rattle.cx_flat.specs.Ways.{at_place, most_operations, most_after}
use Rattle.cx_core_place.proofs.KeyLaws.{in_order}
use Rattle.cx_core_place.proofs.law.places_in_order.Goals as goal

pub returns : goal.returns
returns c =
    let setup = setup_of c.args.job.now in
    record {
      whole = λ scalars way. in_order setup scalars (at_place 0 0) (most_operations setup) way;
      continued = λ n scalars way.
          in_order setup scalars (at_place (analysis_place setup) n) (most_after setup n) way;
    }
