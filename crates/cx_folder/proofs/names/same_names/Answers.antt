use Rattle.std.proofs.Common.{◌≡◌, arith, rules}
use Rattle.std.proofs.lemmas.Slice.Eq.{bytes_eq-Decides}
use Rattle.cx_folder.proofs.NamesLaws.{same_more}
use Rattle.cx_folder.proofs.names.same_names.Goals as goal

pub names-preserved : goal.names-preserved
names-preserved c =
    let same : c.index-names-k.result ≡ c.index-others-k.result =
    search (rules, bytes_eq-Decides) in
    same_more c.args.names.now c.args.others.now c.names.k c.index-names-k.result
    c.index-others-k.result (omega arith) (omega arith) c.names.invariant c.index-names-k.is
    c.index-others-k.is same
