-- What the calls of each operation say, as what the operation does.
use Rattle.std.proofs.Common.{◌≡◌, ℕ, ◌+◌, ◌%◌, ◌^◌, List, [], Option, None, refl, sym, ap, ◌∙◌, subst}
use Rattle.cx_grid.specs.Boxes.{point_count}
use Rattle.cx_plan.specs.declared.job.Job.{Job}
use Rattle.cx_plan.specs.declared.variable.VarId.{VarId}
use Rattle.cx_plan.specs.Setups.{Setup, setup_of}
use Rattle.cx_plan.specs.Lookups.{item}
use Rattle.cx_reduce.specs.Partials.{Reduced}
use Rattle.cx_flat.specs.declared.op.Op.{Op}
use Rattle.cx_flat.specs.declared.op.Op.TheVariants as op
use Rattle.cx_flat.specs.Flats.{Control}
use Rattle.cx_wire.specs.Received.{counted}
use Rattle.cx_core_buffers.specs.Boards.{Gives}
use Rattle.law_parts.specs.Moves.{Message, Channel, number_by, held_values, Filled}
use Rattle.law_parts.specs.Nets.{values_of_op}
use Rattle.law_parts.specs.Runs.{Run, cut_of}
use Rattle.cx_core_part.specs.Exchanges.{Posts, Takes, ShowsTaken, sum_taken}
use Rattle.cx_cut.specs.Cuts.{Parts}
use Rattle.cx_cut.specs.Faults.{parts_of}
use Rattle.cx_core_part.specs.Frames.{KeepsFrame, IsPatchOf, IsInCut}
use Rattle.cx_core_part.specs.Jobs.{IsRunOf}
use Rattle.cx_core.specs.declared.answers.Outcome.{Outcome}
use Rattle.cx_core.specs.Moving.{Holdings, CanOperate, Operates, Turns, LoopTests, Joins}

-- a part's patch stands over a box of the job's cut
pub in_cut : {tells : Type 0} (job : Job) (cut : Parts) (k : ℕ) (o : Op) (was : Holdings tells)
    → CanOperate job cut k o was → IsInCut (parts_of job.shape job.cut) was.patch
in_cut job cut k o was can =
    subst (λ c. IsInCut c was.patch) can.cut_is.parts
    (record { part = k; below = can.part; local_is = can.patch.local_is })

module _ {tells : Type 0} (r : Run) (k count iteration i : ℕ) (c : Control) (o : Op)
    (was is : Holdings tells) (met : Option Outcome) where
  pub swept : o ≡ op.Sweep i → iteration ≡ c.iteration
      → Turns r k (op.Sweep i) iteration was.patch is.patch was.now.points is.now.points met
      → KeepsFrame was.patch is.patch
      → is ≡ record was { patch = is.patch; now = record was.now { points = is.now.points } }
      → Operates r k c count o was is met
  swept e q t f rest =
      subst (λ p. Operates r k c count p was is met) (sym e) (
        subst (λ n. Turns r k (op.Sweep i) n was.patch is.patch was.now.points is.now.points met)
            q t,
        record { frame = f; rest = rest },
      )

  pub applied : o ≡ op.Apply i → iteration ≡ c.iteration
      → Turns r k (op.Apply i) iteration was.patch is.patch was.now.points is.now.points met
      → KeepsFrame was.patch is.patch
      → is ≡ record was { patch = is.patch; now = record was.now { points = is.now.points } }
      → Operates r k c count o was is met
  applied e q t f rest =
      subst (λ p. Operates r k c count p was is met) (sym e) (
        subst (λ n. Turns r k (op.Apply i) n was.patch is.patch was.now.points is.now.points met)
            q t,
        record { frame = f; rest = rest },
      )

  pub joined_all : o ≡ op.Join i → iteration ≡ c.iteration
      → Joins r k i iteration was.given is.given was.patch is.patch met
      → is ≡ record was { patch = is.patch; given = is.given } → Operates r k c count o was is met
  joined_all e q t rest =
      subst (λ p. Operates r k c count p was is met) (sym e)
      (subst (λ n. Joins r k i n was.given is.given was.patch is.patch met) q t, rest)

  pub loop_tested : (v : VarId) (path : List ℕ) (skip : ℕ) → o ≡ op.Turn v path skip
      → LoopTests r (op.Turn v path skip) v c was.patch.numbers met → is ≡ was
      → Operates r k c count o was is met
  loop_tested v path skip e t rest =
      subst (λ p. Operates r k c count p was is met) (sym e) (t, rest)

module _ {tells : Type 0} (r : Run) (k count i : ℕ) (c : Control) (o : Op) (was is : Holdings tells)
  where
    pub offered : (job : Job) → IsRunOf job r → IsPatchOf r.setup (cut_of r) k was.patch
        → o ≡ op.Give i → (number : Reduced) → number.kind ≡ (item (setup_of job) i).kind
        → number.points ≡ point_count was.patch.owned
        → number.number ≡ number_by r k (held_values r k was.patch.numbers) i
        → Gives was.given k number is.given
        → is ≡ record was { given = is.given } → Operates r k c count o was is None
    offered job of frame e number kind points value gives rest =
        subst (λ p. Operates r k c count p was is None) (sym e) (
          refl,
          record {
            number = number;
            kind = kind ∙ ap (λ (x : Setup). (item x i).kind) (sym of.setup);
            points = points ∙ ap point_count frame.owned_is;
            number_is = value;
            gives = gives;
            rest = rest;
          },
        )

    pub sent : (d : ℕ) (vars : List VarId) → o ≡ op.Post d vars
        → ((n : ℕ) → count ≡ n % 2 ^ 64
        → Posts r k (op.Post d vars) n was.patch.numbers was.queue is.queue)
        → (tells → is.now.sum ≡ was.now.sum) → is.now.values ≡ was.now.values
        → is ≡ record was {
          queue = is.queue;
          now = record was.now { values = is.now.values; sum = is.now.sum };
        }
        → Operates r k c count o was is None
    sent d vars e posts sum values rest =
        subst (λ p. Operates r k c count p was is None) (sym e) (
          refl,
          record {
            posts = posts;
            sum = sum;
            rest =
                rest ∙ ap (λ n. record was
                { queue = is.queue; now = record was.now { values = n; sum = is.now.sum } }) values;
          },
        )

    pub took : (d : ℕ) (vars : List VarId) (path : List ℕ) → o ≡ op.Take d vars path
        → KeepsFrame was.patch is.patch
        → ((mails : Channel → List (Message tells)) → ShowsTaken r k d was.queue mails
        → Filled tells r k d vars mails was.patch.numbers is.patch.numbers)
        → Takes r k d was.queue is.queue
        → is.now.values ≡ counted was.now.values (values_of_op r k (op.Take d vars []))
        → ((t : tells) (mails : Channel → List (Message tells)) → ShowsTaken r k d was.queue mails
        → is.now.sum ≡ (was.now.sum + sum_taken t r k mails) % 2 ^ 64)
        → is ≡ record is {
          given = was.given;
          buffers = was.buffers;
          now = record is.now { points = was.now.points };
        } → Operates r k c count o was is None
    took d vars path e frame filled queues values sum rest =
        subst (λ p. Operates r k c count p was is None) (sym e) (
          refl,
          record {
            frame = frame;
            filled = filled;
            queues = queues;
            values = values;
            sum = sum;
            rest = rest;
          },
        )
