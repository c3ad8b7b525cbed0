use Rattle.std.specs.Prelude.{string_bytes}
use Rattle.std.proofs.Common.{ℕ, ◌<◌, length, map, refl, sym, subst, arith}
use Rattle.std.proofs.lemmas.List.{length-map}
use Rattle.cx_folder.proofs.NamesLaws.{clash_at}
use Rattle.cx_folder.proofs.names.are_distinct.Goals as goal

pub returns-then-not-is_new-clause-clash : goal.returns-then-not-is_new-clause-clash
returns-then-not-is_new-clause-clash c = λ is.
    let within : c.places.k < length c.args.paths.now = omega arith in
    clash_at (map string_bytes c.args.paths.now) c.places.k
    (subst (λ (n : ℕ). c.places.k < n) (sym (length-map c.args.paths.now string_bytes)) within)
    (c.if-not-is_new.ensures.taken refl)
