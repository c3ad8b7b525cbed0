use Rattle.cx_text.proofs.CutLaws.{one_reading}
use Rattle.cx_text.proofs.ReadLaws.{only_tokens, only_fault}
use Rattle.cx_text.proofs.lexer.tokens.Goals as goal

pub returns-then-bytes-gt-MAX_TEXT-clause-one : goal.returns-then-bytes-gt-MAX_TEXT-clause-one
returns-then-bytes-gt-MAX_TEXT-clause-one c = one_reading c.args.bytes.now c.args.style

pub returns-clause-only_tokens : goal.returns-clause-only_tokens
returns-clause-only_tokens c =
    only_tokens c.args.bytes.now c.args.style c.read.result c.read.ensures

pub returns-clause-only_fault : goal.returns-clause-only_fault
returns-clause-only_fault c = only_fault c.args.bytes.now c.args.style c.read.result c.read.ensures

pub returns-clause-one : goal.returns-clause-one
returns-clause-one c = one_reading c.args.bytes.now c.args.style
