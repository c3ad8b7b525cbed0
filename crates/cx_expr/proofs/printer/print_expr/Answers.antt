use Rattle.std.proofs.Common.{◌≡◌, List, ℕ, sym, ap, subst, ◌∙◌}
use Rattle.cx_text.specs.declared.token.Style.TheVariants.{Ccl}
use Rattle.cx_text.specs.Printing.{printed, TextSpells}
use Rattle.cx_expr.specs.Exprs.{expression}
use Rattle.cx_expr.specs.Printed.{expr_line}
use Rattle.cx_expr.proofs.TextLaws.{printed_text}
use Rattle.cx_expr.proofs.printer.print_expr.Goals as goal

pub returns-clause-again : goal.returns-clause-again
returns-clause-again c =
    let text : c.in_ok-text.text ≡ printed (expr_line c.args.e.now) =
    c.in_ok-text.ensures ∙ ap printed c.in_ok-tokens.ensures in
    subst (λ (bytes : List ℕ). TextSpells Ccl expression.derives bytes c.args.e.now) (sym text)
    (printed_text c.args.e.now c.requires)
