use Rattle.std.proofs.Common.{◌∙◌, ap, [], ◌∷◌, ◌++◌, codes}
use Rattle.cx_param.specs.declared.declarations.PType.TheVariants.{Keyword}
use Rattle.cx_bind.specs.BuiltIn.{parameter}
use Rattle.cx_bind.proofs.table.push_mode.Goals as goal

pub returns : goal.returns
returns c =
    c.in_ok-push_keyword.ensures
    ∙ ap (λ words. c.args.table.now
    ++ parameter c.args.n (codes "IO") Keyword (codes "recover") words (codes "no") ∷ [])
    c.in_ok-words.ensures
