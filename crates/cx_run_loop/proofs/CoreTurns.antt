-- The turns of one core, up to where another one goes on.
use Rattle.std.proofs.Common.{◌≡◌, ◌≢◌, ◌≤◌, ◌<◌, ◌⊎◌, inl, inr, ℕ, Bool, true, false, arith, refl, ◌∙◌, ap}
use Rattle.std.proofs.lemmas.Bool.{both_ways, le-leb, leb-true}
use Rattle.std.specs.Prelude.{◌&&◌, nat_le, Option, Some, None, IfSome}
use Rattle.cx_plan.specs.declared.job.Job.{Job}
use Rattle.cx_chk.specs.declared.checkpoint.Checkpoint.{Checkpoint}
use Rattle.cx_core.specs.Cores.{Cores}
use Rattle.cx_core.specs.Steps.{Counts}
use Rattle.cx_run_loop.specs.Cores.{StaysBelowFrom, WaitsFor, is_cut_anew, is_saved, next_after}
use Rattle.cx_run_loop.specs.Going.{Setting, Place, IsDriving, Moves, handed}
use Rattle.cx_run_loop.specs.Sums.{AreUnsaved}
use Rattle.cx_run_loop.specs.Waiting.{IsWaiting, StaysBelow, Waits, WaitsOn}
use Rattle.cx_run_loop.specs.declared.turn.Advance.{Advance}
use Rattle.cx_run_loop.specs.declared.turn.Advance.TheVariants.{More, Saved, Over}

both_hold : (a b : Bool) → (a && b) ≡ true → (a ≡ true) × (b ≡ true)
both_hold true b e = (refl, e)
both_hold false b e = absurd cc

saved_is : (came : Advance) → is_saved came ≡ true → came ≡ Saved
saved_is More e = absurd cc
saved_is Saved e = refl
saved_is Over e = absurd cc

-- where a run is cut anew
pub record IsCut (job : Job) (next : ℕ) (came : Advance) (core : Cores) : Type 0 where
  pub balance : job.balance ≡ true
  pub saved : came ≡ Saved
  pub least : next ≤ core.buffers.state.iteration
  pub most : core.buffers.state.iteration ≤ job.itlast

pub cut_is : (job : Job) (next : ℕ) (came : Advance) (core : Cores)
    → is_cut_anew job next came core ≡ true → IsCut job next came core
cut_is job next came core e =
    let last = both_hold (job.balance && is_saved came && nat_le next core.buffers.state.iteration)
    (nat_le core.buffers.state.iteration job.itlast) e in
    let least = both_hold (job.balance && is_saved came)
    (nat_le next core.buffers.state.iteration) last.0 in
    let first = both_hold job.balance (is_saved came) least.0 in
    record {
      balance = first.0;
      saved = saved_is came first.1;
      least = leb-true next core.buffers.state.iteration least.1;
      most = leb-true core.buffers.state.iteration job.itlast last.1;
    }

cut_here : (job : Job) (next : ℕ) (came : Advance) (core : Cores) → IsCut job next came core
    → is_cut_anew job next came core ≡ true
cut_here job next came core c =
    ap (λ (b : Bool). b && is_saved came && nat_le next core.buffers.state.iteration
    && nat_le core.buffers.state.iteration job.itlast) c.balance
    ∙ ap (λ (a : Advance). is_saved a && nat_le next core.buffers.state.iteration
    && nat_le core.buffers.state.iteration job.itlast) c.saved
    ∙ ap (λ (b : Bool). b && nat_le core.buffers.state.iteration job.itlast)
    (le-leb next core.buffers.state.iteration c.least)
    ∙ le-leb core.buffers.state.iteration job.itlast c.most

next_within : (found : Option Checkpoint) (n : ℕ) → IfSome found (λ f. f.iteration < n)
    → next_after found ≤ n
next_within None n later = omega arith
next_within (Some f) n later = omega (arith, later)

-- ---- turn after turn of one core

-- it still waits
pub record Still (next : ℕ) (s : Setting) (found : Option Checkpoint) (first : Counts)
    (was is : Place s) (x : IsDriving s found first was) : Type 0 where
  pub moves : Moves s found first was is x
  pub waiting : next ≡ next_after found → IsWaiting s found first was x
      → IsWaiting s found first is moves.there

abbrev pub StillOn : (next : ℕ) → (s : Setting) → (was is : Place s) → Type 0
StillOn next s was is =
    (found : Option Checkpoint) (first : Counts) (x : IsDriving s found first was)
    → Still next s found first was is x

pub still_none : (next : ℕ) (s : Setting) (was : Place s) → StillOn next s was was
still_none next s was found first x = record {
  moves = record { there = x; driven = λ d t y. y };
  waiting = λ same w. w;
}

-- a call after which it isn't cut anew
module _ (next : ℕ) (s : Setting) (was mid is : Place s) (came : Advance)
    (one : StillOn next s was mid) (two : WaitsOn s mid is came) where
  abbrev after : (found : Option Checkpoint) (first : Counts) (x : IsDriving s found first was)
      → Waits s found first mid is (one found first x).moves.there came
  after found first x = two found first (one found first x).moves.there

  saved_or : (a : Advance) → (a ≡ Saved) ⊎ (a ≢ Saved)
  saved_or More = inr (λ e. absurd cc)
  saved_or Saved = inl refl
  saved_or Over = inr (λ e. absurd cc)

  pub still_more : s.job.balance ≡ true → is_cut_anew s.job next came is.is.core ≡ false
      → StillOn next s was is
  still_more balance fails found first x = record {
    moves = record {
      there = (after found first x).moves.there;
      driven = λ d t y.
          (after found first x).moves.driven d t ((one found first x).moves.driven d t y);
    };
    waiting = λ same w.
        let here = (one found first x).waiting same w in
        record {
          together = (after found first x).together here.together;
          unsaved = λ t. unsaved same here t (saved_or came);
        };
  }
    where
      unsaved : next ≡ next_after found
          → (here : IsWaiting s found first mid (one found first x).moves.there) → (t : s.wire)
          → (came ≡ Saved) ⊎ (came ≢ Saved)
          → AreUnsaved (handed (after found first x).moves.there)
      unsaved same here t (inr other) =
          (after found first x).unsaved other t (here.unsaved t)
      unsaved same here t (inl saved) =
          let comes = ((after found first x).gathers saved here).comes t in
          let least : next_after found ≤ is.is.core.buffers.state.iteration =
          next_within found is.is.core.buffers.state.iteration comes.later in
          let anew : is_cut_anew s.job next came is.is.core ≡ true =
          cut_here s.job next came is.is.core (record {
            balance = balance;
            saved = saved;
            least = omega (arith, same, least);
            most = comes.within;
          }) in
          absurd (both_ways (is_cut_anew s.job next came is.is.core) fails anew)

  -- one after which it is
  pub waits_for : came ≡ Saved → (found : Option Checkpoint) (first : Counts)
      (x : IsDriving s found first was) → WaitsFor s found first was is x next true
  waits_for saved found first x = record {
    moves = record {
      there = (after found first x).moves.there;
      driven = λ d t y.
          (after found first x).moves.driven d t ((one found first x).moves.driven d t y);
    };
    gathers = λ is_anew same w.
        (after found first x).gathers saved ((one found first x).waiting same w);
    unsaved = λ fails. absurd (let bad : true ≡ false = fails in cc);
  }

-- the end
pub still_over : (next : ℕ) (s : Setting) (was is : Place s) → StillOn next s was is
    → (found : Option Checkpoint) (first : Counts) (x : IsDriving s found first was)
    → WaitsFor s found first was is x next false
still_over next s was is one found first x = record {
  moves = (one found first x).moves;
  gathers = λ is_anew. absurd (let bad : false ≡ true = is_anew in cc);
  unsaved = λ fails same w. ((one found first x).waiting same w).unsaved;
}

pub still_below : (next : ℕ) (s : Setting) (was mid : Place s) (now : Counts)
    → StillOn next s was mid → StaysBelow s mid now → StaysBelowFrom next s was now
still_below next s was mid now one below t found first x same w last goes again =
    below t found first (one found first x).moves.there ((one found first x).waiting same w) last
    goes again
