use Rattle.std.specs.Prelude.{◌≡◌, refl, length, codes, pos, [], ◌∷◌}
use Rattle.std.specs.Fmt.{digits}
use Rattle.cx_model.specs.declared.ends.End.TheVariants.{Done, Overflow, WhileLimit}
use Rattle.cx_model.specs.Runs.{outputs, old_output, output, end}
use Rattle.cx_plan.specs.declared.variable.VarId.{VarId}
use Rattle.cx_model.proofs.Samples.{ca, ca_rules, wave_setup, wave_rules, control, control_rules, filled}

abbrev first : VarId
first = record { 0 = 0 }

automaton : outputs (ca 2) ca_rules
    ≡ codes
    "# ca::cell iteration 0 size 8\n0 0 0 1 0 0 0 0\n\n# ca::cell iteration 1 size 8\n0 0 1 0 1 0 0 0\n\n# ca::cell iteration 2 size 8\n0 1 0 0 0 1 0 0\n\n" ∷ []
unfolding digits Rattle.cx_plan.specs.declared.tree.Tree.TheBlock.hidden-the_row-Tree-0
    denote.Hole.Carrier.hidden
automaton = refl

automaton_ends : end (ca 2) ca_rules ≡ Done
unfolding digits Rattle.cx_plan.specs.declared.tree.Tree.TheBlock.hidden-the_row-Tree-0
    denote.Hole.Carrier.hidden
automaton_ends = refl

one_section : length (output (ca 0) ca_rules first) ≡ 47
unfolding digits Rattle.cx_plan.specs.declared.tree.Tree.TheBlock.hidden-the_row-Tree-0
    denote.Hole.Carrier.hidden
one_section = refl

waves : outputs wave_setup wave_rules
    ≡ codes
    "# wave::phi iteration 0 size 6\n0 0 8 0 0 0\n\n# wave::phi iteration 1 size 6\n0 8 -8 8 0 0\n\n" ∷ []
unfolding digits Rattle.cx_plan.specs.declared.tree.Tree.TheBlock.hidden-the_row-Tree-0
    denote.Hole.Carrier.hidden
waves = refl

-- a scalar that stays 3 is not 0 after five turns
too_many_turns : end (control 3 (pos 0)) control_rules ≡ WhileLimit 1 (codes "EVOL/control_spin")
unfolding digits Rattle.cx_plan.specs.declared.tree.Tree.TheBlock.hidden-the_row-Tree-0
    Rattle.cx_plan.specs.declared.tree.Tree.TheBlock.hidden-the_row-Tree-1
    denote.Hole.Carrier.hidden
too_many_turns = refl

five_turns : end (control 5 (pos 1)) control_rules ≡ Done
unfolding digits Rattle.cx_plan.specs.declared.tree.Tree.TheBlock.hidden-the_row-Tree-0
    Rattle.cx_plan.specs.declared.tree.Tree.TheBlock.hidden-the_row-Tree-1
    denote.Hole.Carrier.hidden
five_turns = refl

scalars : outputs (control 5 (pos 1)) control_rules
    ≡ codes "# control::count iteration 0 value 5\n# control::count iteration 1 value 0\n" ∷ []
unfolding digits Rattle.cx_plan.specs.declared.tree.Tree.TheBlock.hidden-the_row-Tree-0
    Rattle.cx_plan.specs.declared.tree.Tree.TheBlock.hidden-the_row-Tree-1
    denote.Hole.Carrier.hidden
scalars = refl

-- an INT2 goes up to 32767
greatest_number : end (filled (pos 32767)) control_rules ≡ Done
unfolding digits Rattle.cx_plan.specs.declared.tree.Tree.TheBlock.hidden-the_row-Tree-0
    denote.Hole.Carrier.hidden
greatest_number = refl

overflow : end (filled (pos 32768)) control_rules ≡ Overflow 0 (codes "INITIAL/fill")
unfolding digits Rattle.cx_plan.specs.declared.tree.Tree.TheBlock.hidden-the_row-Tree-0
    denote.Hole.Carrier.hidden
overflow = refl

-- a former version wrote the same bytes to one file
one_file : old_output (control 5 (pos 1)) control_rules
    ≡ codes "# control::count iteration 0 value 5\n# control::count iteration 1 value 0\n"
unfolding digits Rattle.cx_plan.specs.declared.tree.Tree.TheBlock.hidden-the_row-Tree-0
    Rattle.cx_plan.specs.declared.tree.Tree.TheBlock.hidden-the_row-Tree-1
    denote.Hole.Carrier.hidden
one_file = refl
