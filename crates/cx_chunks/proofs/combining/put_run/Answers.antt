use Rattle.std.proofs.Common.{◌≡◌, arith, length}
use Rattle.std.specs.Prelude.{option_copied}
use Rattle.cx_chunks.specs.Combining.{found_values}
use Rattle.cx_chunks.proofs.RowPlaces.{vec_row}
use Rattle.cx_chunks.proofs.combining.put_run.Goals as goal

pub returns : goal.returns
returns c =
    let len : c.args.level.now.len ≡ length c.args.level.now.items =
    omega (arith, c.args.level.now.ok.0) in
    vec_row c.args.level.now.items c.deref_mut.result.now c.set_run.new.row
    (found_values (option_copied c.args.piece)) c.args.level.now.len c.args.at c.args.count
    c.args.from c.deref_mut.ensures.value len c.requires c.set_run.ensures
