use Rattle.std.proofs.Common.{◌∙◌, ap, sym, subst, length, ◌<◌, ◌^◌, List}
use Rattle.cx_bind.specs.declared.thorns.Thorn.{Thorn}
use Rattle.cx_job.specs.declared.groups.GroupPlace.{GroupPlace}
use Rattle.cx_job.specs.Outputs.{full_groups, group_places}
use Rattle.cx_job.proofs.OutputLaws.{few_places, as_told}
use Rattle.cx_job.proofs.outputs.output_variables.Goals as goal

pub written_by-requires : goal.written_by-requires
written_by-requires c =
    let Few : List GroupPlace → Type 0 = λ places. length places < 2 ^ 32 in
    subst Few
    (sym (c.as_slice-2.ensures ∙ c.in_ok-places.ensures
    ∙ ap (λ (ts : List Thorn). group_places ts)
    (c.as_slice-thorns.ensures ∙ c.thorns.ensures.thorns)))
    (few_places c.args.bound.now c.thorns.ensures.fit)

pub returns : goal.returns
returns c =
    let thorns = c.as_slice-thorns.ensures ∙ c.thorns.ensures.thorns in
    as_told c.args.bound.now c.args.values.now c.args.storage.now c.written_by.result
    (c.as_slice-4.ensures ∙ c.in_ok-names.ensures)
    (c.as_slice.ensures ∙ c.variables.ensures.variables)
    (c.in_ok-groups.ensures ∙ ap (λ (ts : List Thorn). full_groups ts) thorns)
    (c.as_slice-2.ensures ∙ c.in_ok-places.ensures
    ∙ ap (λ (ts : List Thorn). group_places ts) thorns)
    c.as_slice-3.ensures c.written_by.ensures
