use Rattle.std.proofs.Common.{[]}
use Rattle.cx_text.specs.Rules.{loop, choice, nothing}
use Rattle.cx_text.specs.Lexemes.{is_quoted, quoted}
use Rattle.cx_sched.specs.Lines.{lines}
use Rattle.cx_sched.specs.Blocks.{is_clause, clause, no_clauses, block_of, behind_clauses, behind_lines}
use Rattle.cx_sched.proofs.Parts.{behind, halted}
use Rattle.cx_sched.proofs.block.behind_head.Goals as goal

pub returns-in_err-text : goal.returns-in_err-text
returns-in_err-text c =
    behind (loop is_clause clause no_clauses) (behind_clauses c.args.head c.args.left) (λ m. m)
    c.args.reader.now.rest.now c.all_clauses.new.reader.rest.now
    c.description.new.reader.rest.now c.in_ok-clauses.clauses c.from_residual-in_err-text.result
    c.in_ok-clauses.ensures
    (behind (lines c.args.left) (behind_lines c.args.head c.in_ok-clauses.clauses) (λ m. m)
    c.all_clauses.new.reader.rest.now c.all_lines.new.reader.rest.now
    c.description.new.reader.rest.now c.in_ok-lines.lines c.from_residual-in_err-text.result
    c.in_ok-lines.ensures
    (halted (choice is_quoted quoted (nothing []))
    (λ t.
    nothing
    (record {
      lines = c.in_ok-lines.lines.left;
      block = block_of c.args.head c.in_ok-clauses.clauses c.in_ok-lines.lines t;
    })) (λ m. m)
    c.all_lines.new.reader.rest.now c.description.new.reader.rest.now
    c.from_residual-in_err-text.result _ c.in_err-text.ensures
    c.from_residual-in_err-text.ensures.1))
