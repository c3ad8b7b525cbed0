use Rattle.cx_text.specs.declared.fault.TextFault.TheVariants as faults
use Rattle.cx_text.specs.Scanning.{quoted}
use Rattle.cx_text.proofs.StepLaws.{quoted_step}
use Rattle.cx_text.proofs.scanner.Scanner.quoted_token.Goals as goal

pub returns-in-Some : goal.returns-in-Some
returns-in-Some c =
    let told = rw c.in-Some.is at c.in_ok-text.ensures.text in
    quoted_step c.args.quote (quoted c.args.quote c.args.self.now.rest.now)
    c.in-Some.text c.quoted_text.new.self.fresh c.quoted_text.new.self.line
    c.quoted_text.new.self.rest.now c.args.self.now.fresh c.args.self.now.line
    (faults.OpenQuote c.args.self.now.line) c.requires.quote c.quoted_text.ensures.fresh told
