use Rattle.std.proofs.Common.{◌++◌, ◌∷◌, ◌∙◌, [], List, ℕ, ap}
use Rattle.cx_chunks.specs.Cutting.{chunk_text}
use Rattle.cx_chunks.proofs.StepLaws.{grown_map}
use Rattle.cx_chunks.proofs.cutting.empty_texts.Goals as goal

pub parts-preserved : goal.parts-preserved
parts-preserved c =
    grown_map (chunk_text c.args.cut.now []) c.parts.texts c.push.new.self c.parts.counter
    c.parts.invariant
    (c.in_ok-push.ensures.ok ∙ ap (λ (t : List ℕ). c.parts.texts ++ t ∷ [])
    (c.new-in-parts.ensures ∙ c.new.ensures.items))
