use Rattle.std.specs.Prelude.{◌≤◌, length, string_bytes}
use Rattle.std.proofs.Common.{arith}
use Rattle.std.proofs.lemmas.Result.{err_from_is_err_and}
use Rattle.cx_disk.specs.declared.disk.DiskFault.TheVariants.{Failed}
use Rattle.cx_folder.specs.Names.{named_path}
use Rattle.cx_folder.proofs.NamesLaws.{named_more, text_more, all_texts, no_text, told_as}
use Rattle.cx_folder.proofs.names.add_names.Goals as goal

pub names-preserved : goal.names-preserved
names-preserved c = (
  named_more string_bytes (named_path c.args.folder.now) c.args.paths.now.items
      c.names.paths.items c.push.new.self.items c.args.names.now c.names.name-index
      c.name-item.result c.in_ok-named.field-0 c.names-test.true c.name-item.is
      c.names.invariant.0 c.in_ok-push.ensures.items c.in_ok-named.ensures.path,
  text_more c.args.names.now c.names.name-index c.name-item.result c.names-test.true
      c.name-item.is c.in_ok-named.ensures.text c.names.invariant.1,
)

pub returns-in_err-named-clause-refused : goal.returns-in_err-named-clause-refused
returns-in_err-named-clause-refused c = λ is.
    let p = err_from_is_err_and c.from_residual.result c.from_residual.ensures.1 in
    no_text c.args.names.now c.names.name-index c.name-item.result c.names-test.true c.name-item.is
    (c.in_err-named.ensures.refused
    (told_as c.from_residual.result p.0 c.in_err-named.field-0.0 Failed p.1 p.2 is))

pub returns-clause-texts : goal.returns-clause-texts
returns-clause-texts c =
    let all : length c.args.names.now ≤ c.names.name-index = omega arith in
    all_texts c.args.names.now (λ k lt. c.names.invariant.1 k (omega (arith, lt, all)))
