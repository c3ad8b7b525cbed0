use Rattle.std.proofs.Common.{◌≡◌, ◌++◌, drop}
use Rattle.cx_text.proofs.written.List+Token.push_copies.Given as goal

abbrev pub invariant-loop-token : goal.invariant-loop-token
invariant-loop-token l = l.self ++ drop l.token-index l.tokens ≡ l.fn.self ++ l.tokens
