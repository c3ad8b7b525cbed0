use Rattle.std.proofs.Common.{◌≡◌, ◌∙◌, ap, sym, Bool, true, cond, List, [], ◌∷◌, Some, None}
use Rattle.std.specs.Map.{lookup}
use Rattle.std.specs.Str.{bytes_eq}
use Rattle.cx_bind.proofs.PlaceLaws.{found_named}
use Rattle.cx_bind.proofs.name_places.NamePlaces.search.Goals as goal
use Rattle.cx_text.specs.Bytes.{folded}

module _ {V X : Type 0} (test : V → Bool) where
  found : (es rest all : List (V × X)) (k : V) (x : X) → es ≡ (k, x) ∷ rest
      → lookup test es ≡ lookup test all → true ≡ test k → Some x ≡ lookup test all
  found es rest all k x is same hit =
      ap (λ b. cond b (Some x) (lookup test rest)) hit ∙ ap (λ l. lookup test l) (sym is) ∙ same

  missing : (es all : List (V × X)) → es ≡ [] → lookup test es ≡ lookup test all
      → None ≡ lookup test all
  missing es all is same = ap (λ l. lookup test l) (sym is) ∙ same

pub returns-then-is_folded : goal.returns-then-is_folded
returns-then-is_folded c =
    found (λ v. bytes_eq (folded c.args.name.now) v.items)
    c.names.key-iterator c.next.new.self c.into_iter-key-iterator.result c.in-Some.key.now
    c.in-Some.place.now c.in-Some.ensures.steps c.names.invariant.2
    (sym c.if-is_folded.true ∙ c.is_folded.ensures
    ∙ ap (λ n. bytes_eq (folded c.args.name.now) n) c.deref.ensures.value)
    ∙ ap (λ es. lookup (λ v. bytes_eq (folded c.args.name.now) v.items) es)
    (c.into_iter-key-iterator.ensures.into_iter_gives ∙ c.iter-key-items.ensures.rest)
    ∙ found_named (λ v. v.items) (folded c.args.name.now) c.self.inside.places.entries
    ∙ ap (λ ns. lookup (bytes_eq (folded c.args.name.now)) ns) c.self.view_is

pub returns : goal.returns
returns c =
    missing (λ v. bytes_eq (folded c.args.name.now) v.items)
    c.names.key-iterator c.into_iter-key-iterator.result c.in-None.ensures.steps.0
    c.names.invariant.2
    ∙ ap (λ es. lookup (λ v. bytes_eq (folded c.args.name.now) v.items) es)
    (c.into_iter-key-iterator.ensures.into_iter_gives ∙ c.iter-key-items.ensures.rest)
    ∙ found_named (λ v. v.items) (folded c.args.name.now) c.self.inside.places.entries
    ∙ ap (λ ns. lookup (bytes_eq (folded c.args.name.now)) ns) c.self.view_is
