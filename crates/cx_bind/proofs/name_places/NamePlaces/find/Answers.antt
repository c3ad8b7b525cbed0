use Rattle.std.proofs.Common.{◌∙◌, ap}
use Rattle.std.specs.Map.{lookup}
use Rattle.std.specs.Str.{bytes_eq}
use Rattle.cx_bind.proofs.PlaceLaws.{found_named, named}
use Rattle.cx_bind.proofs.name_places.NamePlaces.find.Goals as goal
use Rattle.cx_text.specs.Bytes.{folded}

pub returns : goal.returns
returns c =
    c.copied.ensures
    ∙ c.get.ensures.value
    ∙ found_named (λ v. v.items) c.fold_into-folded.result.now c.self.inside.places.entries
    ∙ ap (λ n. lookup (bytes_eq n) (named (λ v. v.items) c.self.inside.places.entries))
    c.fold_into-folded.ensures
    ∙ ap (λ ns. lookup (bytes_eq (folded c.args.name.now)) ns) c.self.view_is
