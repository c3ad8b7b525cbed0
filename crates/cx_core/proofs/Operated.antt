-- What an operation does leads to a state that is shown.
use Rattle.std.proofs.Common.{◌≡◌, ℕ, ◌≤◌, ◌%◌, ◌^◌, true, List, set, Some, None, refl, sym, ap, ◌∙◌, subst, arith}
use Rattle.std.specs.Prelude.{slice_get}
use Rattle.std.proofs.lemmas.Bool.{both_ways}
use Rattle.cx_plan.specs.Lookups.{item}
use Rattle.cx_rule.specs.Meter.{raised, raised_none}
use Rattle.cx_rule.specs.States.{scalar_of, rotate}
use Rattle.cx_model.specs.declared.ends.End.{End}
use Rattle.cx_field.specs.Patches.{PatchValue}
use Rattle.cx_field.specs.Sweeps.{RoseWithin}
use Rattle.cx_flat.specs.declared.op.Op.{Op}
use Rattle.cx_flat.specs.declared.op.Op.TheVariants as op
use Rattle.cx_flat.specs.Flats.{is_halt}
use Rattle.law_network.specs.Machine.{taken_now}
use Rattle.cx_wire.specs.Messages.{Sent as SentMail}
use Rattle.law_parts.specs.Holding.{joined, join_turn}
use Rattle.law_parts.specs.Moves.{Filled}
use Rattle.law_parts.specs.Nets.{points_of}
use Rattle.law_parts.specs.Runs.{Run, parts_in, cut_of}
use Rattle.cx_core_part.specs.Frames.{IsPatchOf, KeepsFrame}
use Rattle.cx_core_part.specs.Items.{computed}
use Rattle.cx_core_part.proofs.FrameLaws.{still_of}
use Rattle.cx_core_events.specs.Steps.{moved_on, met_by}
use Rattle.law_reached.specs.Endings.{end_met_by}
use Rattle.cx_core.specs.declared.answers.Outcome.{Outcome}
use Rattle.cx_core.specs.Cores.{Cores, outcome_of}
use Rattle.cx_core.specs.Moving.{Holdings, Operates, all_fronts}
use Rattle.cx_core.specs.Steps.{Counts}
use Rattle.cx_core.proofs.MovedStates.{LedTo, Ready, world, its, next, network, can}
use Rattle.cx_core.proofs.QuietOperations.{Leaves, is_quiet, numbers_after, quiet_goes, quiet_meets}
use Rattle.cx_core.proofs.PostMoves.{LeavesPart, post_goes, set_there}
use Rattle.cx_core.proofs.GiveMoves.{give_goes}
use Rattle.cx_core.proofs.TakeMoves.{take_goes, shows_taken}
use Rattle.cx_core.proofs.JoinMoves.{join_goes, join_meets}
use Rattle.cx_core.proofs.PieceMoves.{piece_goes, save_goes}

set_again : {A : Type 0} (xs : List A) (k : ℕ) (x y : A) → slice_get xs k ≡ Some x → y ≡ x
    → set xs k y ≡ xs
set_again xs k x y e q = ap (set xs k) q ∙ set_there xs k x e

no_more : (a b n : ℕ) → a ≡ b → a ≤ raised b n
no_more a b n e = omega (arith, e)

no_less : (a b : ℕ) → a ≡ b → b ≤ a
no_less a b e = omega (arith, e)

none_some : {A : Type 0} (a : A) → Some a ≡ None → ⊥
none_some a e = absurd cc

module _ {tells : Type 0} {r : Run} {first : Counts} {old : Cores}
    {queue : ℕ → ℕ → List (SentMail tells)} {now : Counts} {k : ℕ}
    (s : Ready tells r first old queue now k)
    (was is : PatchValue) (here : slice_get old.patches k ≡ Some was) (count : ℕ)
    (count_is : count ≡ (its s).count % 2 ^ 64)
    (new : Cores) (after : ℕ → ℕ → List (SentMail tells)) (later : Counts)
    (there : new.patches ≡ set old.patches k is) (lengths_are : new.lengths ≡ old.lengths)
    (outcome_is : new.outcome ≡ old.outcome) where
  abbrev before : Holdings tells
  before = record {
    patch = was;
    given = old.given;
    buffers = old.buffers;
    queue = queue;
    now = now;
  }

  abbrev behind : Holdings tells
  behind = record {
    patch = is;
    given = new.given;
    buffers = new.buffers;
    queue = after;
    now = later;
  }

  was_frame : IsPatchOf r.setup (cut_of r) k was
  was_frame = (s.at.shows.patches k was here).frame

  was_numbers : was.numbers ≡ (its s).numbers
  was_numbers = (s.at.shows.patches k was here).numbers

  is_frame : KeepsFrame was is → IsPatchOf r.setup (cut_of r) k is
  is_frame frame = still_of r.setup (cut_of r) k was is frame was_frame

  -- what is left where the patch, and the points that were counted, may differ
  patch_alone : IsPatchOf r.setup (cut_of r) k is
      → behind ≡ record before { patch = is; now = record now { points = later.points } }
      → Leaves s new after later
  patch_alone frame rest = record {
    patch = is;
    patches_are = there;
    frame = frame;
    given_is = ap (λ h. h.given) rest;
    buffers_are = ap (λ h. h.buffers) rest;
    lengths_are = lengths_are;
    outcome_is = outcome_is;
    queue_is = λ a b. ap (λ h. h.queue a b) rest;
    values_are = ap (λ h. h.now.values) rest;
    sum_is = λ t. ap (λ h. h.now.sum) rest;
  }

  -- where the patch is as it was
  part_still : is ≡ was → later.points ≡ now.points → later.values ≡ now.values
      → ((t : tells) → later.sum ≡ now.sum)
      → new.pace ≡ moved_on r.setup old.pace k (scalar_of (its s).numbers) → new.met ≡ old.met
      → LeavesPart s new later
  part_still same points values sum pace met = record {
    patch = was;
    patch_is = here;
    patches_are = there ∙ set_again old.patches k was is here same;
    lengths_are = lengths_are;
    outcome_is = outcome_is;
    met_is = met;
    pace_is = pace;
    points_are = points;
    values_are = values;
    sum_is = sum;
  }

  abbrev Goes : Type 0
  Goes = LedTo s.at k new after later

  module _ (pace : new.pace ≡ moved_on r.setup old.pace k (scalar_of (its s).numbers))
      (met : new.met ≡ old.met) where
    -- a quiet operation
    quietly : (o : Op) → next s ≡ o → is_quiet o ≡ true → IsPatchOf r.setup (cut_of r) k is
        → behind ≡ record before { patch = is; now = record now { points = later.points } }
        → numbers_after r k o (its s) ≡ Some is.numbers
        → later.points ≡ raised now.points (points_of r k o) → Goes
    unfolding patch_alone
    quietly o e quiet frame rest numbers points =
        quiet_goes s new after later (patch_alone frame rest) (ap is_quiet e ∙ quiet) pace met
        (ap (λ q. numbers_after r k q (its s)) e ∙ numbers)
        (points ∙ ap (λ q. raised now.points (points_of r k q)) (sym e))

    -- and where nothing is touched
    untouched : (o : Op) → next s ≡ o → is_quiet o ≡ true → points_of r k o ≡ 0
        → numbers_after r k o (its s) ≡ Some (its s).numbers → behind ≡ before → Goes
    untouched o e quiet none numbers rest =
        let same : is ≡ was = ap (λ h. h.patch) rest in
        quietly o e quiet (subst (IsPatchOf r.setup (cut_of r) k) (sym same) was_frame) (still rest)
        (numbers ∙ ap Some (sym was_numbers ∙ ap (λ (p : PatchValue). p.numbers) (sym same)))
        (ap (λ h. h.now.points) rest ∙ raised_none now.points ∙ ap (raised now.points) (sym none))
      where
        still : behind ≡ before
            → behind ≡ record before { patch = is; now = record now { points = later.points } }
        still e =
            e ∙ ap (λ (h : Holdings tells).
            record before { patch = h.patch; now = record now { points = h.now.points } }) (sym e)

    pub operated_goes : (o : Op) → next s ≡ o
        → Operates r k (its s).control count o before behind None → Goes
    unfolding part_still
    operated_goes (op.Sweep i) e d =
        quietly (op.Sweep i) e refl (is_frame d.1.frame) d.1.rest
        (ap (λ ns. computed r k (op.Sweep i) ns (its s).control.iteration) (sym was_numbers)
        ∙ d.0.0) d.0.1
    operated_goes (op.Apply i) e d =
        quietly (op.Apply i) e refl (is_frame d.1.frame) d.1.rest
        (ap (λ ns. computed r k (op.Apply i) ns (its s).control.iteration) (sym was_numbers)
        ∙ d.0.0) d.0.1
    operated_goes (op.Give i) e d =
        let rest = d.1.rest in
        give_goes s i e new after later
        (part_still (ap (λ h. h.patch) rest) (ap (λ h. h.now.points) rest)
        (ap (λ h. h.now.values) rest) (λ t. ap (λ h. h.now.sum) rest) pace met)
        d.1.number d.1.kind d.1.points d.1.number_is d.1.gives (ap (λ h. h.buffers) rest)
        (λ a b. ap (λ h. h.queue a b) rest)
    operated_goes (op.Join i) e d =
        let rest = d.1 in
        join_goes s i e new after later is d.0.2 pace there (is_frame d.0.1)
        (ap (λ h. h.buffers) rest) lengths_are met outcome_is
        (joined (item r.setup i).kind (all_fronts old.given k (parts_in r))) refl
        (ap (λ ns. join_turn r.setup (item r.setup i) ns
        (joined (item r.setup i).kind (all_fronts old.given k (parts_in r)))) (sym was_numbers)
        ∙ d.0.0)
        (λ a b. ap (λ h. h.queue a b) rest) (ap (λ h. h.now.points) rest)
        (ap (λ h. h.now.values) rest) (λ t. ap (λ h. h.now.sum) rest)
    operated_goes (op.Post d vars) e h =
        let rest = h.1.rest in
        post_goes s d vars e new after later
        (part_still (ap (λ h. h.patch) rest) (ap (λ h. h.now.points) rest)
        (ap (λ h. h.now.values) rest) h.1.sum pace met)
        (h.1.posts (its s).count count_is) (ap (λ h. h.given) rest) (ap (λ h. h.buffers) rest)
    operated_goes (op.Take d vars path) e h =
        let rest = h.1.rest in
        take_goes s d vars path e new after later is h.1.queues pace there (is_frame h.1.frame)
        (ap (λ h. h.given) rest) (ap (λ h. h.buffers) rest) lengths_are met outcome_is
        (subst (λ ns. Filled tells r k d vars (taken_now (network s) (world s) k) ns is.numbers)
        was_numbers (h.1.filled (taken_now (network s) (world s) k)
        (shows_taken s d vars path e)))
        (ap (λ h. h.now.points) rest) h.1.values
        (λ t. h.1.sum t (taken_now (network s) (world s) k) (shows_taken s d vars path e))
    operated_goes (op.Test v path skip) e d = untouched (op.Test v path skip) e refl refl refl d.1
    operated_goes op.Open e d = untouched op.Open e refl refl refl d.1
    operated_goes (op.Turn v path skip) e d =
        untouched (op.Turn v path skip) e refl refl
        (ap (λ ns. numbers_after r k (op.Turn v path skip)
        (record { count = 0; control = (its s).control; numbers = ns })) (sym was_numbers) ∙ d.0
        ∙ ap Some was_numbers) d.1
    operated_goes (op.Again back) e d = untouched (op.Again back) e refl refl refl d.1
    operated_goes op.Rotate e d =
        let rest = d.1 in
        let same : is ≡ record was { numbers = rotate was.numbers } = ap (λ h. h.patch) rest in
        quietly op.Rotate e refl
        (is_frame (subst (KeepsFrame was) (sym same)
        (record { numbers = refl; buffers = refl }))) (turned rest)
        (ap (λ ns. Some (rotate ns)) (sym was_numbers)
        ∙ ap (λ (p : PatchValue). Some p.numbers) (sym same))
        (ap (λ h. h.now.points) rest ∙ raised_none now.points)
      where
        turned : behind ≡ record before { patch = record was { numbers = rotate was.numbers } }
            → behind ≡ record before { patch = is; now = record now { points = later.points } }
        turned q =
            q ∙ ap (λ (h : Holdings tells).
            record before { patch = h.patch; now = record now { points = h.now.points } }) (sym q)
    operated_goes (op.Due skip) e d = untouched (op.Due skip) e refl refl refl d.1
    operated_goes (op.Written skip) e d = untouched (op.Written skip) e refl refl refl d.1
    operated_goes (op.Skip skip) e d = untouched (op.Skip skip) e refl refl refl d.1
    operated_goes (op.Next back) e d = untouched (op.Next back) e refl refl refl d.1
    operated_goes (op.Piece v) e d =
        let rest = d.1 in
        piece_goes s new after later
        (part_still (ap (λ h. h.patch) rest) (ap (λ h. h.now.points) rest)
        (ap (λ h. h.now.values) rest) (λ t. ap (λ h. h.now.sum) rest) pace met)
        v e (ap (λ h. h.given) rest) (ap (λ h. h.buffers) rest) (λ a b. ap (λ h. h.queue a b) rest)
    operated_goes op.Save e d =
        let rest = d.1 in
        save_goes s new after later
        (part_still (ap (λ h. h.patch) rest) (ap (λ h. h.now.points) rest)
        (ap (λ h. h.now.values) rest) (λ t. ap (λ h. h.now.sum) rest) pace met)
        e (ap (λ h. h.given) rest) (ap (λ h. h.buffers) rest) (λ a b. ap (λ h. h.queue a b) rest)
    operated_goes op.Halt e d =
        absurd (both_ways (is_halt (next s)) (can s).left_over (ap is_halt e))

  -- where the part meets an end
  module _ (m : Outcome) (pace : new.pace ≡ met_by old.pace k) (met : new.met ≡ m) where
    quietly_met : (o : Op) → next s ≡ o → is_quiet o ≡ true → IsPatchOf r.setup (cut_of r) k is
        → behind ≡ record before { patch = is; now = record now { points = later.points } }
        → numbers_after r k o (its s) ≡ None → is.numbers ≡ was.numbers → (end : End)
        → end_met_by r o (its s).control.iteration ≡ Some end → m ≡ outcome_of (Some end)
        → RoseWithin (points_of r k o) now.points later.points → Goes
    unfolding patch_alone
    quietly_met o e quiet frame rest none numbers end is_end is_met rose =
        quiet_meets s new after later (patch_alone frame rest) (ap is_quiet e ∙ quiet) pace
        (ap (λ q. numbers_after r k q (its s)) e ∙ none) (numbers ∙ was_numbers)
        end (ap (λ q. end_met_by r q (its s).control.iteration) e ∙ is_end) (met ∙ is_met)
        (subst (λ q. RoseWithin (points_of r k q) now.points later.points) (sym e) rose)

    pub operated_meets : (o : Op) → next s ≡ o
        → Operates r k (its s).control count o before behind (Some m) → Goes
    unfolding patch_alone
    operated_meets (op.Sweep i) e d =
        quietly_met (op.Sweep i) e refl (is_frame d.1.frame) d.1.rest
        (ap (λ ns. computed r k (op.Sweep i) ns (its s).control.iteration) (sym was_numbers)
        ∙ d.0.0) d.0.1 _ refl d.0.3 d.0.2
    operated_meets (op.Apply i) e d =
        quietly_met (op.Apply i) e refl (is_frame d.1.frame) d.1.rest
        (ap (λ ns. computed r k (op.Apply i) ns (its s).control.iteration) (sym was_numbers)
        ∙ d.0.0) d.0.1 _ refl d.0.3 d.0.2
    operated_meets (op.Give i) e d = absurd (none_some m d.0)
    operated_meets (op.Join i) e d =
        let rest = d.1 ∙ ap (λ g. record before { patch = is; given = g }) d.0.3 in
        join_meets s i e new after later (patch_alone (is_frame d.0.1) (joined_rest rest)) pace
        (d.0.2 ∙ was_numbers)
        (joined (item r.setup i).kind (all_fronts old.given k (parts_in r))) refl
        (ap (λ ns. join_turn r.setup (item r.setup i) ns
        (joined (item r.setup i).kind (all_fronts old.given k (parts_in r)))) (sym was_numbers)
        ∙ d.0.0)
        _ refl (met ∙ d.0.4) (ap (λ h. h.now.points) rest)
      where
        joined_rest : behind ≡ record before { patch = is }
            → behind ≡ record before { patch = is; now = record now { points = later.points } }
        joined_rest q = q ∙ ap
            (λ (h : Holdings tells).
            record before { patch = is; now = record now { points = h.now.points } }) (sym q)
    operated_meets (op.Post d vars) e h = absurd (none_some m h.0)
    operated_meets (op.Take d vars path) e h = absurd (none_some m h.0)
    operated_meets (op.Test v path skip) e d = absurd (none_some m d.0)
    operated_meets op.Open e d = absurd (none_some m d.0)
    operated_meets (op.Turn v path skip) e d =
        let rest = d.1 in
        let same : is ≡ was = ap (λ h. h.patch) rest in
        let points : later.points ≡ now.points = ap (λ h. h.now.points) rest in
        quietly_met (op.Turn v path skip) e refl
        (subst (IsPatchOf r.setup (cut_of r) k) (sym same) was_frame) (still rest)
        (ap (λ ns. numbers_after r k (op.Turn v path skip)
        (record { count = 0; control = (its s).control; numbers = ns })) (sym was_numbers)
        ∙ d.0.0)
        (ap (λ (p : PatchValue). p.numbers) same) _ refl d.0.1
        (record {
          least = no_less later.points now.points points;
          most = no_more later.points now.points 0 points;
        })
      where
        still : behind ≡ before
            → behind ≡ record before { patch = is; now = record now { points = later.points } }
        still q =
            q ∙ ap (λ (h : Holdings tells).
            record before { patch = h.patch; now = record now { points = h.now.points } }) (sym q)
    operated_meets (op.Again back) e d = absurd (none_some m d.0)
    operated_meets op.Rotate e d = absurd (none_some m d.0)
    operated_meets (op.Due skip) e d = absurd (none_some m d.0)
    operated_meets (op.Written skip) e d = absurd (none_some m d.0)
    operated_meets (op.Skip skip) e d = absurd (none_some m d.0)
    operated_meets (op.Next back) e d = absurd (none_some m d.0)
    operated_meets (op.Piece v) e d = absurd (none_some m d.0)
    operated_meets op.Save e d = absurd (none_some m d.0)
    operated_meets op.Halt e d = absurd (none_some m d.0)
