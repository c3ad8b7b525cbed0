use Rattle.std.specs.Prelude.{string_bytes}
use Rattle.std.specs.List.{All}
use Rattle.std.specs.Str.{IsUtf8}
use Rattle.std.proofs.Common.{refl, ◌∙◌, ap, map}
use Rattle.std.proofs.lemmas.Result.{err_from_is_err_and}
use Rattle.cx_disk.specs.declared.disk.DiskFault.TheVariants.{Failed}
use Rattle.cx_folder.specs.Names.{folders_named}
use Rattle.cx_folder.proofs.NamesLaws.{fit_by, clash_of, told_as}
use Rattle.cx_folder.proofs.names.Places.new.Goals as goal

pub returns-in_err-paths-clause-refused : goal.returns-in_err-paths-clause-refused
returns-in_err-paths-clause-refused c = λ is fit.
    let p = err_from_is_err_and c.from_residual-in_err-paths.result
    c.from_residual-in_err-paths.ensures.1 in
    let names : All IsUtf8 c.as_slice.result.now = rw c.as_slice.ensures fit.names in
    c.in_err-paths.ensures.refused
    (told_as c.from_residual-in_err-paths.result p.0 c.in_err-paths.field-0.0 Failed p.1 p.2 is)
    names

pub returns-then-not-are_distinct-clause-refused :
    goal.returns-then-not-are_distinct-clause-refused
returns-then-not-are_distinct-clause-refused c = λ is.
    clash_of c.deref.result.now c.deref-2.result.now c.as_slice.result.now
    (map string_bytes c.deref-3.result.now)
    (folders_named c.args.output.now c.args.names.now c.args.checkpoints.now)
    (c.deref.ensures ∙ c.in_ok-output_folder.ensures.path)
    (c.deref-2.ensures ∙ c.in_ok-checkpoint_folder.ensures.path)
    c.as_slice.ensures (ap (map string_bytes) c.deref-3.ensures.value ∙ c.in_ok-paths.ensures.paths)
    (c.if-not-are_distinct.ensures.clash refl)

pub returns-clause-fit : goal.returns-clause-fit
returns-clause-fit c =
    fit_by c.deref.result.now c.deref-2.result.now c.as_slice.result.now
    (map string_bytes c.deref-3.result.now)
    (folders_named c.args.output.now c.args.names.now c.args.checkpoints.now)
    (c.deref.ensures ∙ c.in_ok-output_folder.ensures.path)
    (c.deref-2.ensures ∙ c.in_ok-checkpoint_folder.ensures.path)
    c.as_slice.ensures (ap (map string_bytes) c.deref-3.ensures.value ∙ c.in_ok-paths.ensures.paths)
    c.in_ok-output_folder.ensures.text c.in_ok-paths.ensures.texts
    c.in_ok-checkpoint_folder.ensures.text (c.if-not-are_distinct.ensures.distinct refl)
