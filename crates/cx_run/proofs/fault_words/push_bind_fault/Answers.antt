use Rattle.cx_run.proofs.fault_words.push_bind_fault.Goals as goal

pub returns-in-MissingImplementation : goal.returns-in-MissingImplementation
returns-in-MissingImplementation c = rw c.in-MissingImplementation.is c.push_two.ensures

pub returns-in-MissingThorn : goal.returns-in-MissingThorn
returns-in-MissingThorn c = rw c.in-MissingThorn.is c.push_two-in-MissingThorn.ensures

pub returns-in-TwoVariables : goal.returns-in-TwoVariables
returns-in-TwoVariables c = rw c.in-TwoVariables.is c.push_one-in-TwoVariables.ensures

pub returns-in-Unsupported : goal.returns-in-Unsupported
returns-in-Unsupported c = rw c.in-Unsupported.is c.push_two-in-Unsupported.ensures
