use Rattle.std.proofs.Common.{rules, ◌++◌, ◌<◌, ◌∙◌, ap, refl, length, List, ℕ}
use Rattle.std.proofs.lemmas.Result.{on_ok_weaker}
use Rattle.cx_chunks.specs.Pieces.{piece_text}
use Rattle.cx_chunks.specs.Cutting.{section_in}
use Rattle.cx_chunks.proofs.StepLaws.{section_text}
use Rattle.cx_chunks.proofs.cutting.push_pieces.Goals as goal

pub returns-in-len1-up : goal.returns-in-len1-up
returns-in-len1-up c =
    let some : 0 < length c.args.entry.now.size = search rules in
    let old = c.args.text.now in
    let section = piece_text (section_in c.args.cut.now c.args.part c.args.entry.now) in
    on_ok_weaker c.push_own_section.result
    (λ is. is ∙ ap (λ (t : List ℕ). old ++ t)
    (section_text c.args.cut.now c.args.part c.args.entry.now section some refl))
    c.push_own_section.ensures
