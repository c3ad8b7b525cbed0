use Rattle.readers_tests.proofs.interfaces.assert_again.Goals as goal

pub print_interface-requires : goal.print_interface-requires
print_interface-requires c = c.in_ok-tree.ensures
