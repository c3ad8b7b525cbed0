-- A core from where it began to where it is.
use Rattle.std.proofs.Common.{◌≡◌, ℕ, Bool, true, false, refl, sym, ◌∙◌, ap}
use Rattle.std.specs.Prelude.{◌&&◌, nat_le, Option}
use Rattle.cx_plan.specs.declared.job.Job.{Job}
use Rattle.cx_disk.specs.Disk.{View}
use Rattle.cx_chk.specs.declared.checkpoint.Checkpoint.{Checkpoint}
use Rattle.cx_core.specs.Cores.{Cores}
use Rattle.cx_core.specs.Starts.{AreEmpty}
use Rattle.cx_core.specs.Steps.{Counts}
use Rattle.cx_run_loop.specs.Cores.{is_cut_anew, next_after}
use Rattle.cx_run_loop.specs.Going.{LeavesImages, MovesOn, Place, Setting}
use Rattle.cx_run_loop.specs.UnderWay.{HasCome}
use Rattle.cx_run_loop.specs.Waiting.{HasGathered, Waits, WaitsOn}
use Rattle.cx_run_loop.specs.declared.turn.Advance.{Advance}
use Rattle.cx_run_loop.specs.declared.turn.Advance.TheVariants.{More, Saved, Over}
use Rattle.cx_run_loop.proofs.CoreTurns.{Still, still_more, still_none}
use Rattle.cx_run_loop.proofs.UnderWayLaws.{comes_on, leaves_on}
use Rattle.cx_run_batch.specs.Stages.{ComesWaiting, HaveWaited}

clash : true ≡ false → ⊥
clash e = cc

-- a run is cut anew only after a checkpoint

never : (b : Bool) → (b && false) ≡ false
never true = refl
never false = refl

pub more_stays : (job : Job) (next : ℕ) (core : Cores) → is_cut_anew job next More core ≡ false
more_stays job next core =
    ap (λ (b : Bool). b && nat_le next core.buffers.state.iteration
    && nat_le core.buffers.state.iteration job.itlast) (never job.balance)

pub over_stays : (job : Job) (next : ℕ) (core : Cores) → is_cut_anew job next Over core ≡ false
over_stays job next core =
    ap (λ (b : Bool). b && nat_le next core.buffers.state.iteration
    && nat_le core.buffers.state.iteration job.itlast) (never job.balance)

-- ---- a call that moves it on

-- it holds a checkpoint, and no message is left
pub record IsGathered (s : Setting) (found : Option Checkpoint) (first : Counts) (old : View)
    (p : Place s) : Type 0 where
  pub come : HasCome s found first old p
  pub gathered : HasGathered s found first p come.there

module _ (s : Setting) (found : Option Checkpoint) (first : Counts) (old : View)
    (was is : Place s) (x : ComesWaiting s found first old was) (came : Advance)
    (moves : MovesOn s was is) (waits : s.job.balance ≡ true → WaitsOn s was is came)
    (leaves : LeavesImages s was is.view) where
  -- after which it isn't cut anew
  pub comes_more : (next : ℕ) → next ≡ next_after found
      → is_cut_anew s.job next came is.is.core ≡ false → ComesWaiting s found first old is
  comes_more next next_is stays = by s.job.balance refl
    where
      by : (b : Bool) → s.job.balance ≡ b → ComesWaiting s found first old is
      by true same =
          let still : Still next s found first was is x.come.there =
          still_more next s was was is came (still_none next s was) (waits same) same stays found
          first x.come.there in
          record {
            come = record {
              there = still.moves.there;
              driven = λ d t y. still.moves.driven d t (x.come.driven d t y);
              moments = leaves_on s found first old was x.come is.view leaves;
            };
            waits = λ balanced. still.waiting next_is (x.waits same);
          }
      by false plain = record {
        come = comes_on s found first old was x.come is moves leaves;
        waits = λ same. absurd (clash (sym same ∙ plain));
      }

  -- after which it is
  pub gathers : came ≡ Saved → s.job.balance ≡ true → IsGathered s found first old is
  gathers saved same =
      let after : Waits s found first was is x.come.there came = waits same found first x.come.there
      in
      record {
        come = record {
          there = after.moves.there;
          driven = λ d t y. after.moves.driven d t (x.come.driven d t y);
          moments = leaves_on s found first old was x.come is.view leaves;
        };
        gathered = after.gathers saved (x.waits same);
      }

-- ---- the same of parts that have waited, from wherever

module _ (s : Setting) (was is : Place s) (next : ℕ) (x : HaveWaited s next was) where
  pub waited_more : (came : Advance) → s.job.balance ≡ true → WaitsOn s was is came
      → is_cut_anew s.job next came is.is.core ≡ false → HaveWaited s next is
  waited_more came same waits stays =
      let still : Still next s x.found x.first was is x.there =
      still_more next s was was is came (still_none next s was) waits same stays x.found x.first
      x.there in
      record {
        found = x.found;
        first = x.first;
        next_is = x.next_is;
        there = still.moves.there;
        waiting = still.waiting x.next_is x.waiting;
      }

  pub none_left : WaitsOn s was is Saved → AreEmpty is.is.queue
  none_left waits = ((waits x.found x.first x.there).gathers refl x.waiting).none_left
