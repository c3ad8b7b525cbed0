-- A core as it begins.
use Rattle.std.proofs.Common.{◌≡◌, ℕ, zero, suc, ◌+◌, ◌%◌, ◌^◌, ◌<◌, ℤ, pos, List, [], ◌∷◌, ◌++◌, map, length, get_or, take, drop, replicate, slice_get, Option, Some, None, arith, refl, sym, ap, ◌∙◌, subst}
use Rattle.std.specs.List.{AllZip}
use Rattle.std.proofs.lemmas.List.{length-replicate}
use Rattle.std.proofs.lemmas.List.FromFn.{length-map-range_with_len, get_or-map-range_with_len}
use Rattle.std.proofs.lemmas.List.Elements.{All-replicate}
use Rattle.cx_grid.specs.Boxes.{point_count}
use Rattle.cx_grid.specs.Grid.{whole}
use Rattle.cx_plan.specs.declared.job.Job.{Job}
use Rattle.cx_plan.specs.Lookups.{variable}
use Rattle.cx_plan.specs.Setups.{Setup, setup_of}
use Rattle.cx_chk.specs.declared.checkpoint.Checkpoint.{Checkpoint}
use Rattle.cx_rule.specs.Meter.{raised_none}
use Rattle.cx_rule.specs.Routine.{Rule}
use Rattle.cx_model.specs.States.{number_count}
use Rattle.cx_model.specs.Traces.{Trace}
use Rattle.cx_wire.specs.Messages.{Sent as SentMail}
use Rattle.cx_wire.specs.Received.{counted_none}
use Rattle.cx_field.specs.Patches.{PatchValue}
use Rattle.cx_cut.specs.Cuts.{Parts, part_count}
use Rattle.cx_cut.specs.Faults.{parts_of}
use Rattle.cx_flat.specs.declared.op.Op.{Op}
use Rattle.cx_flat.specs.Code.{code}
use Rattle.cx_reduce.specs.Partials.{Reduced}
use Rattle.law_network.specs.Machine.{begun, sum_below}
use Rattle.cx_outputs.specs.Names.{output_count, lengths_in}
use Rattle.cx_core_buffers.specs.Boards.{Given, none_given, queue as waiting}
use Rattle.cx_core_buffers.specs.Gathering.{fresh, fresh_piece, HasRoom}
use Rattle.cx_core_buffers.proofs.PieceLaws.{holds_is_state}
use Rattle.cx_core_events.specs.Paces.{Paces, part_of}
use Rattle.cx_core_events.specs.Shows.{ShowsPace, first_paces}
use Rattle.cx_core_events.specs.declared.standing.Work.{Work}
use Rattle.cx_core_part.specs.Exchanges.{ShowsQueue}
use Rattle.cx_core_events.specs.Steps.{first_place, all_at, standing_at}
use Rattle.cx_core_part.specs.Copies.{copies_at}
use Rattle.cx_core_part.specs.Frames.{IsPatchOf}
use Rattle.law_parts.proofs.CountLaws.{sum_none, sum_same}
use Rattle.law_parts.specs.Beginnings.{Beginning, Afresh, From, IsBeginning, run_of}
use Rattle.law_parts.specs.Moves.{Message}
use Rattle.law_parts.specs.Nets.{net, within_lead, held_first, taken_sum}
use Rattle.law_parts.specs.Runs.{Run, cut_of, parts_in}
use Rattle.law_parts.specs.Truths.{truth}
use Rattle.cx_core.specs.declared.answers.Outcome.TheVariants as out
use Rattle.cx_core.specs.Cores.{Cores, items_in, items_of}
use Rattle.cx_core.specs.Laws.{RunLaws}
use Rattle.cx_core.specs.Shows.{Shows, ShowsGiven, HoldsWork, kind_of}
use Rattle.cx_core.specs.Starts.{begins_in, first_iteration, iteration_in, lengths_first, CanBegin, AreEmpty, ArePatches}
use Rattle.cx_core.specs.Steps.{Counts, IsAt, Begins}
use Rattle.cx_core.proofs.LengthLaws.{Rise, none_again, lengths_again}

-- ---- nothing

take_none : {X : Type 0} (n : ℕ) → ◌≡◌ {A = List X} (take n []) []
take_none zero = refl
take_none (suc n) = refl

drop_none : {X : Type 0} (n : ℕ) → ◌≡◌ {A = List X} (drop n []) []
drop_none zero = refl
drop_none (suc n) = refl

all_none : (n a : ℕ) → ◌≡◌ {A = List Reduced} (get_or (replicate n []) a []) []
all_none zero a = refl
all_none (suc n) zero = refl
all_none (suc n) (suc a) = all_none n a

none_waits : (n a b : ℕ) → waiting (none_given n) a b ≡ []
none_waits n a b = ap (λ xs. drop (get_or (replicate n 0) b 0) xs) (all_none n a)
    ∙ drop_none (get_or (replicate n 0) b 0)

-- ---- buffers

pub fresh_room : (setup : Setup) (key : List ℕ) → HasRoom setup (fresh setup key)
fresh_room setup key = record {
  pieces = λ v l among. record {
    var = l;
    there = omega (arith, l, length-map-range_with_len (fresh_piece setup) 0 (length setup.vars));
    room =
        ap length (get_or-map-range_with_len (fresh_piece setup) 0 (length setup.vars) v.0 v.0 [] l
        (omega arith))
        ∙ (rw among (length-replicate (number_count setup (variable setup v)) (pos 0)));
  };
  version = refl;
  names = refl;
  lengths = length-replicate (output_count setup) 0;
  state = record {
    scalars = length-replicate _ (pos 0);
    levels = length-replicate _ (replicate (point_count (whole setup.shape)) (pos 0));
    points = All-replicate (λ (level : List ℤ). length level ≡ point_count (whole setup.shape)) _
        (replicate (point_count (whole setup.shape)) (pos 0))
        (length-replicate (point_count (whole setup.shape)) (pos 0));
  };
}

-- ---- items

each_part : {A B : Type 0} (f : A → B) (n : ℕ) (x : A) → map f (replicate n x) ≡ replicate n (f x)
each_part f zero x = refl
each_part f (suc n) x = ap (λ ys. f x ∷ ys) (each_part f n x)

-- ---- beginnings

pub can_begin : (setup : Setup) (state : Option Checkpoint) → CanBegin setup state
    → IsBeginning setup (begins_in setup state)
can_begin setup None h = tt
can_begin setup (Some c) h = (h.0, holds_is_state setup c h.1)

pub first_lengths : (job : Job) (rules : List Rule) (state : Option Checkpoint)
    → Rise job.out_vars → CanBegin (setup_of job) state
    → lengths_first (setup_of job) state
    ≡ lengths_in job.out_vars (run_of job rules (begins_in (setup_of job) state)).so_far
first_lengths job rules None rise can = none_again job.out_vars
first_lengths job rules (Some c) rise can = lengths_again job.out_vars c.lengths rise can.2

pub place_first : (job : Job) (rules : List Rule) (state : Option Checkpoint)
    → first_place (setup_of job) (iteration_in state)
    ≡ (run_of job rules (begins_in (setup_of job) state)).first.control
place_first job rules None = refl
place_first job rules (Some c) = refl

-- ---- the core

-- what a core has as it begins
pub record IsFresh (r : Run) (core : Cores) : Type 0 where
  pub pace : core.pace ≡ first_paces r
  pub count : length core.patches ≡ parts_in r
  pub patches : (k : ℕ) (p : PatchValue) → slice_get core.patches k ≡ Some p
      → IsPatchOf r.setup (cut_of r) k p × (p.numbers ≡ (held_first r k).numbers)
  pub items : core.items ≡ items_of r.setup core.pace
  pub given : core.given ≡ none_given (parts_in r)
  pub room : HasRoom r.setup core.buffers
  pub met : core.met ≡ out.Going
  pub outcome : core.outcome ≡ out.Going
  pub lengths : core.lengths ≡ lengths_in r.setup.out_vars r.so_far

module _ (tells : Type 0) (r : Run) (trace : Trace) (laws : RunLaws tells r trace) (core : Cores)
    (fresh_core : IsFresh r core)
    (queue : ℕ → ℕ → List (SentMail tells)) (none : AreEmpty queue) where
  no_works : core.pace.works ≡ []
  no_works = ap (λ (p : Paces). p.works) fresh_core.pace

  none_there : (a b : ℕ) → waiting core.given a b ≡ []
  none_there a b = ap (λ (g : Given). waiting g a b) fresh_core.given ∙ none_waits (parts_in r) a b

  shows_first : Shows tells r (truth r) core queue (begun (net tells within_lead r (truth r)))
  shows_first = record {
    pace = subst (ShowsPace tells r (truth r) (begun (net tells within_lead r (truth r))))
        (sym fresh_core.pace) laws.pace.begins;
    count = fresh_core.count;
    patches = λ k p e. let h = fresh_core.patches k p e in record { frame = h.0; numbers = h.1 };
    wires = λ a b l m. subst (λ (q : List (SentMail tells)). ShowsQueue {tells = tells} q [])
        (sym (none a b)) tt;
    others = λ a b n. none a b;
    senders = ap (λ (g : Given). length g.given) fresh_core.given
        ∙ length-replicate (parts_in r) [];
    boards = λ a b l m. subst
        (λ (q : List Reduced). AllZip {B = Message tells} (ShowsGiven {tells = tells} r a) q [])
        (sym (none_there a b)) tt;
    kinds = λ a b l m. sym (ap (λ (xs : List Reduced). [] ++ map kind_of xs) (none_there a b));
    pieces = λ k l.
        subst (λ (xs : List Work).
        AllZip {B = Message tells} (HoldsWork {tells = tells} r core.buffers k) xs [])
        (sym (ap (take (part_of core.pace k).handed) no_works
        ∙ take_none (part_of core.pace k).handed)) tt;
    room = fresh_core.room;
    book = fresh_core.lengths;
    met = (λ e. fresh_core.met, λ never. absurd (never refl));
    over = fresh_core.outcome;
  }

  none_taken : (t : tells) → taken_sum t r (truth r) (begun (net tells within_lead r (truth r))) ≡ 0
  none_taken t =
      sum_same (parts_in r) (λ a. sum_below (parts_in r) (λ b. 0)) (λ a. 0)
      (λ a l. sum_none (parts_in r)) ∙ sum_none (parts_in r)

  sum_is : (s n : ℕ) → s < 2 ^ 64 → n ≡ 0 → s ≡ (s + n) % 2 ^ 64
  sum_is s n l e = omega (arith, l, e)

  abbrev at_first : (first : Counts) → (tells → first.sum < 2 ^ 64)
      → IsAt tells r first core queue first
  at_first first small = record {
    world = begun (net tells within_lead r (truth r));
    oracle = truth r;
    reached = laws.steps.begins;
    shows = shows_first;
    points = raised_none first.points;
    values = counted_none first.values;
    sum = λ t. sum_is first.sum
        (taken_sum t r (truth r) (begun (net tells within_lead r (truth r)))) (small t)
        (none_taken t);
    items = fresh_core.items;
  }

  pub begins_at : (first : Counts) → (tells → first.sum < 2 ^ 64) → Begins tells r first core queue
  begins_at first small = record { at = at_first first small; nothing_done = refl }

-- ---- the core that is made

-- what its parts are made as
pub record IsMade (job : Job) (cut : Parts) (state : Option Checkpoint)
    (core : Cores) : Type 0 where
  pub cut_is : cut ≡ parts_of job.shape job.cut
  pub ops : List Op
  pub ops_are : ops ≡ code (setup_of job)
  pub from : Option ℕ
  pub from_is : from ≡ iteration_in state
  pub pace : core.pace ≡ all_at cut ops job.lead (first_place (setup_of job) from)
  pub count : length core.patches ≡ part_count cut
  pub patches : ArePatches job cut state core.patches
  pub parts : ℕ
  pub parts_are : parts ≡ part_count cut
  pub begins : ℕ
  pub begins_is : begins ≡ first_iteration state
  pub items : core.items ≡ replicate parts (copies_at (setup_of job) begins)
  pub given : core.given ≡ none_given parts
  pub key : List ℕ
  pub buffers : core.buffers ≡ fresh (setup_of job) key
  pub met : core.met ≡ out.Going
  pub outcome : core.outcome ≡ out.Going
  pub lengths_are : core.lengths ≡ lengths_first (setup_of job) state

module _ (job : Job) (rules : List Rule) (cut : Parts) (core : Cores) where
  pace_is : (state : Option Checkpoint) → (made : IsMade job cut state core)
      → core.pace ≡ all_at (parts_of job.shape job.cut) (code (setup_of job)) job.lead
      (first_place (setup_of job) (iteration_in state))
  pace_is state made =
      made.pace ∙ ap (λ c. all_at c made.ops job.lead (first_place (setup_of job) made.from))
      made.cut_is
      ∙ ap (λ os. all_at (parts_of job.shape job.cut) os job.lead
      (first_place (setup_of job) made.from)) made.ops_are
      ∙ ap (λ f. all_at (parts_of job.shape job.cut) (code (setup_of job)) job.lead
      (first_place (setup_of job) f)) made.from_is

  patch_is : (state : Option Checkpoint) → IsMade job cut state core → (k : ℕ) (p : PatchValue)
      → slice_get core.patches k ≡ Some p
      → IsPatchOf (setup_of job) (parts_of job.shape job.cut) k p
      × (p.numbers ≡ (held_first (run_of job rules (begins_in (setup_of job) state)) k).numbers)
  patch_is state made k p e =
      let h = made.patches k p e in
      (subst (λ c. IsPatchOf (setup_of job) c k p) made.cut_is h.frame, h.numbers rules)

  room_is : (state : Option Checkpoint) → IsMade job cut state core
      → HasRoom (setup_of job) core.buffers
  room_is state made = subst (HasRoom (setup_of job)) (sym made.buffers)
      (fresh_room (setup_of job) made.key)

  many : (state : Option Checkpoint) → IsMade job cut state core
      → length core.patches ≡ part_count (parts_of job.shape job.cut)
  many state made = made.count ∙ ap part_count made.cut_is

  given_is : (state : Option Checkpoint) → IsMade job cut state core
      → core.given ≡ none_given (part_count (parts_of job.shape job.cut))
  given_is state made = made.given ∙ ap none_given (made.parts_are ∙ ap part_count made.cut_is)

  items_are : (state : Option Checkpoint) → IsMade job cut state core
      → core.items ≡ items_of (setup_of job) core.pace
  items_are state made =
      made.items
      ∙ ap (λ n. replicate n (copies_at (setup_of job) made.begins))
      (made.parts_are ∙ ap part_count made.cut_is)
      ∙ ap (λ n. replicate (part_count (parts_of job.shape job.cut)) (copies_at (setup_of job) n))
      (made.begins_is ∙ sym (begins_there state))
      ∙ sym (each_part (items_in (setup_of job)) (part_count (parts_of job.shape job.cut))
      (standing_at (first_place (setup_of job) (iteration_in state))))
      ∙ ap (items_of (setup_of job)) (sym (pace_is state made))
    where
      begins_there : (c : Option Checkpoint)
          → (first_place (setup_of job) (iteration_in c)).iteration ≡ first_iteration c
      begins_there None = refl
      begins_there (Some c) = refl

  pub is_fresh : (state : Option Checkpoint) → Rise job.out_vars → CanBegin (setup_of job) state
      → IsMade job cut state core
      → IsFresh (run_of job rules (begins_in (setup_of job) state)) core
  is_fresh None rise can made = record {
    pace = pace_is None made;
    count = many None made;
    patches = patch_is None made;
    items = items_are None made;
    given = given_is None made;
    room = room_is None made;
    met = made.met;
    outcome = made.outcome;
    lengths = made.lengths_are ∙ first_lengths job rules None rise can;
  }
  is_fresh (Some c) rise can made = record {
    pace = pace_is (Some c) made;
    count = many (Some c) made;
    patches = patch_is (Some c) made;
    items = items_are (Some c) made;
    given = given_is (Some c) made;
    room = room_is (Some c) made;
    met = made.met;
    outcome = made.outcome;
    lengths = made.lengths_are ∙ first_lengths job rules (Some c) rise can;
  }

-- each run of a job is of its setup
pub setup_same : (job : Job) (rules : List Rule) (b : Beginning)
    → (run_of job rules b).setup ≡ setup_of job
setup_same job rules Afresh = refl
setup_same job rules (From c state so_far) = refl

pub cut_same : (job : Job) (rules : List Rule) (b : Beginning)
    → cut_of (run_of job rules b) ≡ parts_of job.shape job.cut
cut_same job rules Afresh = refl
cut_same job rules (From c state so_far) = refl
