use Rattle.std.proofs.Common.{◌≡◌, ℕ, not, List, [], ◌∷◌, filter, refl, sym, ◌∙◌, length}
use Rattle.std.proofs.Math.Dec.{eqb-suc-zero}
use Rattle.std.specs.List.{list_any, slice_split}
use Rattle.cx_parfile.specs.Values.{is_empty, is_separator}
use Rattle.cx_parfile.specs.ParFile.{is_long}
use Rattle.cx_parfile.proofs.value.has_long_thorn.Goals as goal

-- a part without bytes isn't long
long_kept : (parts : List (List ℕ))
    → list_any is_long (filter (λ n. not (is_empty n)) parts) ≡ list_any is_long parts
long_kept [] = refl
long_kept ([] ∷ parts) = long_kept parts
long_kept ((b ∷ bs) ∷ parts) = rw (eqb-suc-zero (length bs), long_kept parts) refl

pub returns : goal.returns
returns c = c.any_long.ensures
    ∙ rw (c.deref.ensures.value, c.in_ok-parts.ensures)
    (sym (long_kept (slice_split is_separator c.args.text.now)))
