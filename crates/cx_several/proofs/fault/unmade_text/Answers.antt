use Rattle.std.proofs.Common.{◌≡◌, ◌≤◌, ◌∙◌, ◌++◌, ◌∷◌, [], IfOk, ap, codes, drop, length, rules, sym, subst}
use Rattle.cx_run.specs.FaultWords.{fault_words, refused_text}
use Rattle.cx_several.proofs.RefusedLaws.{after_is, long_enough}
use Rattle.cx_several.proofs.fault.unmade_text.Goals as goal

pub after_refused-requires : goal.after_refused-requires
after_refused-requires c =
    let is : c.as_slice.result.now ≡ refused_text c.args.fault = search rules in
    subst (λ t. 9 ≤ length t) (sym is) (long_enough c.args.fault)

pub returns : goal.returns
returns c =
    let is : c.as_slice.result.now ≡ refused_text c.args.fault = search rules in
    let words : c.after_refused.result.now ≡ fault_words c.args.fault ++ 10 ∷ [] =
    c.after_refused.ensures ∙ ap (drop 9) is ∙ after_is c.args.fault in
    subst (λ w. IfOk c.refused_line.result
    (λ text. text ≡ codes "refused: " ++ c.args.file.now ++ codes " " ++ w)) words
    c.refused_line.ensures
