-- Cores whose parts wait for each other at each checkpoint place: no event that lies ahead is done
-- while a checkpoint is to come.
use Rattle.std.specs.Prelude.{ℕ, ◌≡◌, Bool, true, false, List, [], Some}
use Rattle.cx_model.specs.Traces.{Trace}
use Rattle.law_network.specs.Together.{AreTogether}
use Rattle.cx_wire.specs.Messages.{Sent as SentMail}
use Rattle.cx_flat.specs.declared.op.Op.{Op}
use Rattle.cx_flat.specs.declared.op.Op.TheVariants.{Sweep, Apply, Give, Join, Post, Take, Test, Open, Turn, Again, Rotate, Due, Written, Skip, Next, Piece, Save, Halt}
use Rattle.law_parts.specs.Nets.{net, within_lead}
use Rattle.law_parts.specs.Runs.{Run, Oracle, next_op, guided}
use Rattle.cx_core.specs.declared.answers.Event.{Event}
use Rattle.cx_core.specs.declared.answers.Event.TheVariants as events
use Rattle.cx_core.specs.Cores.{Cores}
use Rattle.cx_core.specs.Hands.{StepsTo, LiesAhead}
use Rattle.cx_core.specs.Steps.{Counts, Standing, IsAt, Begins}

-- ---- checkpoint places

abbrev pub is_save : Op → Bool
is_save Save = true
is_save (Sweep k) = false
is_save (Apply k) = false
is_save (Give k) = false
is_save (Join k) = false
is_save (Post d vars) = false
is_save (Take d vars path) = false
is_save (Test v path skip) = false
is_save Open = false
is_save (Turn v path skip) = false
is_save (Again back) = false
is_save Rotate = false
is_save (Due skip) = false
is_save (Written skip) = false
is_save (Skip skip) = false
is_save (Next back) = false
is_save (Piece v) = false
is_save Halt = false

-- those of a way, by its places
abbrev pub saves : Run → Oracle → ℕ → Bool
saves r oracle n = is_save (next_op r (guided r oracle n).control)

-- ---- the law

-- Along events that don't lie ahead parts stay together, and after each checkpoint nothing is left
-- in a queue.
pub record CoresGather (tells : Type 0) (r : Run) (trace : Trace) : Type 0 where
  pub begins : (first : Counts) (core : Cores) (queue : ℕ → ℕ → List (SentMail tells))
      (b : Begins tells r first core queue)
      → AreTogether (net tells within_lead r b.at.oracle) (saves r b.at.oracle) b.at.world
  pub keeps : (first : Counts) (k : ℕ) (was is : Standing tells)
      (at : IsAt tells r first was.core was.queue was.now) (event : Event)
      (s : StepsTo tells r trace first k was is at event)
      → AreTogether (net tells within_lead r at.oracle) (saves r at.oracle) at.world
      → (LiesAhead r at.oracle at.world (Some s.does.which) → ⊥)
      → AreTogether (net tells within_lead r s.there.oracle) (saves r s.there.oracle) s.there.world
  pub none_left : (first : Counts) (k c : ℕ) (was is : Standing tells)
      (at : IsAt tells r first was.core was.queue was.now)
      → StepsTo tells r trace first k was is at (events.Save c)
      → AreTogether (net tells within_lead r at.oracle) (saves r at.oracle) at.world
      → (a b : ℕ) → is.queue a b ≡ []
