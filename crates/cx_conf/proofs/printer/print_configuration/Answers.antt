use Rattle.std.proofs.Common.{◌≡◌, List, ℕ, sym, ap, subst, ◌∙◌}
use Rattle.cx_text.specs.declared.token.Style.TheVariants.{Ccl}
use Rattle.cx_text.specs.Printing.{printed, TextSpells}
use Rattle.cx_conf.specs.Conf.{configuration}
use Rattle.cx_conf.specs.Printed.{configuration_tokens}
use Rattle.cx_conf.proofs.TextLaws.{printed_text}
use Rattle.cx_conf.proofs.printer.print_configuration.Goals as goal

pub returns-clause-again : goal.returns-clause-again
returns-clause-again c =
    let text : c.in_ok-text.text ≡ printed (configuration_tokens c.args.tree.now) =
    c.in_ok-text.ensures ∙ ap printed c.in_ok-tokens.ensures in
    subst (λ (bytes : List ℕ). TextSpells Ccl configuration.derives bytes c.args.tree.now)
    (sym text) (printed_text c.args.tree.now c.requires)
