use Rattle.std.proofs.Common.{sym, subst, List, ℕ}
use Rattle.cx_text.specs.declared.token.Style.TheVariants.{Ccl}
use Rattle.cx_text.specs.Printing.{SpelledAgain}
use Rattle.cx_text.proofs.PrintLaws.{printed_again}
use Rattle.cx_text.proofs.printer.print_tokens.Goals as goal

pub returns-clause-again : goal.returns-clause-again
returns-clause-again c =
    let P : List ℕ → Type 0 = λ t. SpelledAgain Ccl t c.args.tokens.now in
    subst P (sym c.in_ok-text.ensures) (printed_again c.args.tokens.now c.requires)
