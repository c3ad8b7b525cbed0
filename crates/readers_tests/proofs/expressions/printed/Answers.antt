use Rattle.readers_tests.proofs.expressions.printed.Goals as goal

pub print_expr-requires : goal.print_expr-requires
print_expr-requires c = c.in_ok-e.ensures
