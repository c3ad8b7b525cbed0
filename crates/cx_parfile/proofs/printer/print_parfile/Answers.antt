use Rattle.std.proofs.Common.{◌≡◌, List, ℕ, sym, ap, subst, ◌∙◌}
use Rattle.cx_text.specs.Printing.{printed}
use Rattle.cx_parfile.specs.Printed.{settings_tokens, SpellsAgain}
use Rattle.cx_parfile.proofs.TextLaws.{printed_text}
use Rattle.cx_parfile.proofs.printer.print_parfile.Goals as goal

pub returns-clause-again : goal.returns-clause-again
returns-clause-again c =
    let text : c.in_ok-text.text ≡ printed (settings_tokens c.args.settings.now) =
    c.in_ok-text.ensures ∙ ap printed c.in_ok-tokens.ensures in
    subst (λ (bytes : List ℕ). SpellsAgain bytes c.args.settings.now) (sym text)
    (printed_text c.args.settings.now)
