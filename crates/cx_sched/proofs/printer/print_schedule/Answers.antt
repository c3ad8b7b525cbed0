use Rattle.std.proofs.Common.{◌≡◌, List, ℕ, sym, ap, subst, ◌∙◌}
use Rattle.cx_text.specs.declared.token.Style.TheVariants.{Ccl}
use Rattle.cx_text.specs.Printing.{printed, TextSpells}
use Rattle.cx_sched.specs.Nodes.{schedule}
use Rattle.cx_sched.specs.Printed.{file_tokens}
use Rattle.cx_sched.proofs.TextLaws.{printed_text}
use Rattle.cx_sched.proofs.printer.print_schedule.Goals as goal

pub returns-clause-again : goal.returns-clause-again
returns-clause-again c =
    let text : c.in_ok-text.text ≡ printed (file_tokens c.args.file.now) =
    c.in_ok-text.ensures ∙ ap printed c.in_ok-tokens.ensures in
    subst (λ (bytes : List ℕ). TextSpells Ccl schedule.derives bytes c.args.file.now) (sym text)
    (printed_text c.args.file.now c.requires)
