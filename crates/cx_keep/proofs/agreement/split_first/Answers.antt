use Rattle.std.proofs.Common.{◌==◌, ◌∙◌, sym, ℕ}
use Rattle.std.proofs.lemmas.List.{take_rest}
use Rattle.cx_keep.proofs.AgreementLaws.{part_before, one_part}
use Rattle.cx_keep.proofs.agreement.split_first.Goals as goal

pub returns-in-Some-clause-parts : goal.returns-in-Some-clause-parts
returns-in-Some-clause-parts c =
    rw take_rest (part_before (λ (b : ℕ). b == c.args.byte) c.args.text.now c.in-Some.at
    (sym c.place_of.ensures ∙ c.in-Some.is))

pub returns-in-None-clause-parts : goal.returns-in-None-clause-parts
returns-in-None-clause-parts c =
    one_part (λ (b : ℕ). b == c.args.byte) c.args.text.now (sym c.place_of.ensures ∙ c.in-None.is)
