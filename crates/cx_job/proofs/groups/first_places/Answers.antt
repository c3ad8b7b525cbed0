use Rattle.std.proofs.Common.{ℕ, List, ◌∙◌, ◌-◌, ap, sym, true, arith}
use Rattle.std.specs.Str.{bytes_eq}
use Rattle.indexmap.specs.IndexMap.{insert_entry}
use Rattle.cx_bind.proofs.PlaceLaws.{bytes_eq_sym, place_noted}
use Rattle.cx_job.specs.declared.groups.FullGroup.{FullGroup}
use Rattle.cx_job.specs.Outputs.{has_full_name}
use Rattle.cx_job.proofs.groups.first_places.Goals as goal
use Rattle.cx_text.specs.Bytes.{folded}

pub groups-preserved : goal.groups-preserved
groups-preserved c =
    let group = c.index-groups-place.result in
    record {
      within = omega arith;
      lead = place_noted has_full_name c.args.groups.now c.groups.firsts c.insert.new.self group
          (c.groups.place - 1) c.groups.place group.full true
          (λ name. bytes_eq_sym (folded name) (folded group.full)) (omega arith) (omega arith)
          c.index-groups-place.is c.groups.invariant.lead
          (c.in_ok-insert.ensures.put
          ∙ ap (λ (full : List ℕ).
          insert_entry bytes_eq c.groups.firsts (folded full) (c.groups.place - 1))
          (c.as_slice.ensures ∙ ap (λ (g : FullGroup). g.full) (sym c.index-groups-place.is)));
    }
