-- as many empty lists as turns
use Rattle.std.proofs.Common.{◌≡◌, [], map, replicate}
use Rattle.cx_order_least.proofs.links.Links.new.Given as goal

abbrev pub invariant-rows : goal.invariant-rows
invariant-rows l = map (λ numbers. numbers.items) l.rows.items ≡ replicate l.counter []
