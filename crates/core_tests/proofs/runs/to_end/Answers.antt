use Rattle.std.proofs.Common.{◌<◌, ◌∙◌, subst, sym}
use Rattle.core_tests.proofs.RunLaws.{goes_on, less_left, some_event, section_there, piece_there}
use Rattle.core_tests.proofs.runs.to_end.Goals as goal

pub pick-k-requires : goal.pick-k-requires
pick-k-requires g c =
    subst (λ n. 0 < n) (sym c.enabled.ensures)
    (some_event g.W.Wire.tells c.args.job.now _ _ c.events.invariant.there
    (c.core_stands.ensures g.W.Wire.tells _) (c.is_going.ensures.0 c.events-test.true))

pub events-smaller-in-Part : goal.events-smaller-in-Part
events-smaller-in-Part g c =
    less_left _ _ _ _ _ _ _ c.events.invariant.there c.in_ok-step.ensures.does

pub events-preserved-in-Part : goal.events-preserved-in-Part
events-preserved-in-Part g c =
    record {
      there = goes_on _ _ _ _ _ _ _ c.events.invariant.there c.in_ok-step.ensures.does;
      parts = c.in_ok-step.ensures.parts ∙ c.events.invariant.parts;
    }

pub push_text-requires-clause-section : goal.push_text-requires-clause-section
push_text-requires-clause-section g c =
    section_there _ _ _ _ _ _ _ c.events.invariant.there c.in_ok-step.ensures.does c.in-Section.is

pub push_text-requires-clause-piece : goal.push_text-requires-clause-piece
push_text-requires-clause-piece g c =
    piece_there _ _ _ _ _ _ _ c.events.invariant.there c.in_ok-step.ensures.does c.in-Section.is

pub events-smaller-in_ok-push_text-in-Section : goal.events-smaller-in_ok-push_text-in-Section
events-smaller-in_ok-push_text-in-Section g c =
    less_left _ _ _ _ _ _ _ c.events.invariant.there c.in_ok-step.ensures.does

pub events-preserved-in_ok-push_text-in-Section : goal.events-preserved-in_ok-push_text-in-Section
events-preserved-in_ok-push_text-in-Section g c =
    record {
      there = goes_on _ _ _ _ _ _ _ c.events.invariant.there c.in_ok-step.ensures.does;
      parts = c.in_ok-step.ensures.parts ∙ c.events.invariant.parts;
    }

pub events-smaller-in_ok-push_saved-in-Save : goal.events-smaller-in_ok-push_saved-in-Save
events-smaller-in_ok-push_saved-in-Save g c =
    less_left _ _ _ _ _ _ _ c.events.invariant.there c.in_ok-step.ensures.does

pub events-preserved-in_ok-push_saved-in-Save : goal.events-preserved-in_ok-push_saved-in-Save
events-preserved-in_ok-push_saved-in-Save g c =
    record {
      there = goes_on _ _ _ _ _ _ _ c.events.invariant.there c.in_ok-step.ensures.does;
      parts = c.in_ok-step.ensures.parts ∙ c.events.invariant.parts;
    }

pub events-smaller : goal.events-smaller
events-smaller g c = less_left _ _ _ _ _ _ _ c.events.invariant.there c.in_ok-step.ensures.does

pub events-preserved : goal.events-preserved
events-preserved g c =
    record {
      there = goes_on _ _ _ _ _ _ _ c.events.invariant.there c.in_ok-step.ensures.does;
      parts = c.in_ok-step.ensures.parts ∙ c.events.invariant.parts;
    }
