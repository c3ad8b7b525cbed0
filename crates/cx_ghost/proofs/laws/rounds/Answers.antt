use Rattle.cx_ghost.proofs.RoundLaws.{posts_are_needed, rounds_reach, all_agree}
use Rattle.cx_ghost.proofs.laws.rounds.Goals as goal

pub returns-clause-needed : goal.returns-clause-needed
returns-clause-needed c = posts_are_needed

pub returns-clause-below : goal.returns-clause-below
returns-clause-below c = rounds_reach

pub returns-clause-all : goal.returns-clause-all
returns-clause-all c = all_agree
