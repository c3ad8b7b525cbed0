use Rattle.cx_run.proofs.fault_words.push_fault.Goals as goal

pub returns-in-RoutineMismatch : goal.returns-in-RoutineMismatch
returns-in-RoutineMismatch c = rw c.in-RoutineMismatch.is c.push_three.ensures

pub returns-in-TooLarge : goal.returns-in-TooLarge
returns-in-TooLarge c = rw c.in-TooLarge.is c.push_too_large.ensures
