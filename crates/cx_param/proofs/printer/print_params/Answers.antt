use Rattle.std.proofs.Common.{◌≡◌, List, ℕ, sym, ap, subst, ◌∙◌}
use Rattle.cx_text.specs.declared.token.Style.TheVariants.{Ccl}
use Rattle.cx_text.specs.Printing.{printed, TextSpells}
use Rattle.cx_param.specs.Params.{params}
use Rattle.cx_param.specs.Printed.{decls}
use Rattle.cx_param.proofs.TextLaws.{printed_text}
use Rattle.cx_param.proofs.printer.print_params.Goals as goal

pub returns-clause-again : goal.returns-clause-again
returns-clause-again c =
    let text : c.in_ok-text.text ≡ printed (decls c.args.decls.now) =
    c.in_ok-text.ensures ∙ ap printed (c.in_ok-tokens.ensures ∙ ap decls c.as_slice.ensures) in
    subst (λ (bytes : List ℕ). TextSpells Ccl params.derives bytes c.args.decls.now) (sym text)
    (printed_text c.args.decls.now c.requires)
