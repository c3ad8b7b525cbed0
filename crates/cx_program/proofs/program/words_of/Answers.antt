use Rattle.std.proofs.Common.{◌≡◌, List, [], ◌∷◌, map, refl, sym, ◌∙◌, ap}
use Rattle.std.proofs.lemmas.Iterator.Adapters.{YieldsList-from_skip, YieldsList-from_vec}
use Rattle.std.proofs.lemmas.Iterator.Consumers.{YieldsList-at, YieldsList-end}
use Rattle.std.specs.String.{string_bytes}
use Rattle.cx_program.proofs.program.words_of.Goals as goal

map_same : {A : Type 0} → (xs : List A) → map (λ x. x) xs ≡ xs
map_same [] = refl
map_same {A} (x ∷ xs) = ap (λ (l : List A). x ∷ l) (map_same xs)

pub returns : goal.returns
returns c =
    let all = YieldsList-end (YieldsList-from_skip {s = c.into_iter-word-iterator.result} 1
    (YieldsList-at (cc) (YieldsList-from_vec {s = c.args.args} _ refl c.args.args.rest.ok.0))
    (cc)) c.loop-word.yielded _ c.loop-word.yielded_by _ c.next.new.self c.in-None.is
    c.next.ensures.steps in
    c.loop-word.invariant
    ∙ ap (λ xs. map string_bytes xs) (sym (map_same c.loop-word.yielded) ∙ all.0)
