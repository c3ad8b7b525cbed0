use Rattle.std.proofs.Common.{◌≡◌, ◌++◌, take}
use Rattle.cx_text.specs.Written.{words}
use Rattle.cx_text.proofs.written.List+Token.push_words.Given as goal

abbrev pub invariant-loop-name : goal.invariant-loop-name
invariant-loop-name l = l.self ≡ l.fn.self ++ words (take l.name-index l.names)
