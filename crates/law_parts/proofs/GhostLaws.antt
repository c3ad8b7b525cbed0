-- Each level that a sweep reads beyond its owned points has its ghost points, by the needs that the
-- region check found met.
use Rattle.std.proofs.Common.{ℕ, suc, ◌≡◌, Bool, true, false, ◌||◌, List, [], ◌∷◌, map, get_or, Option, Some, None, arith, refl, subst}
use Rattle.std.specs.Prelude.{All}
use Rattle.std.specs.List.{list_any}
use Rattle.cx_plan.specs.declared.flag.Flag.{Flag}
use Rattle.cx_plan.specs.declared.flag.Flag.TheVariants.{I, B, G, S}
use Rattle.cx_plan.specs.declared.item.Touch.{Touch}
use Rattle.cx_plan.specs.Setups.{Setup}
use Rattle.cx_plan.specs.Lookups.{item}
use Rattle.cx_plan.specs.Steering.{item_at}
use Rattle.cx_plan.specs.Regions.{Flags, Need, is_G, is_met, read_needs, flags_or_none, needs_of_read}
use Rattle.cx_rule.specs.States.{State}
use Rattle.cx_model.specs.Needs.{NotesMet}
use Rattle.cx_model.specs.Courses.{turn_note}
use Rattle.cx_model.specs.Turns.{turn}
use Rattle.cx_model.proofs.ListLaws.{all-of-one}
use Rattle.cx_flat.specs.Flats.{notes_at}
use Rattle.law_parts.specs.Ghosts.{GhostsAt, HasGhosts}
use Rattle.law_parts.specs.Runs.{Run, undivided, notes_of, flags_at}

module _ (setup : Setup) (flags : Flags) (place : List ℕ) (r : Touch) where
  -- the flag of ghost points is among those that are needed
  ghosts_met : (fs : List Flag) → list_any is_G fs ≡ true
      → All (λ (n : Need). is_met setup flags n ≡ true)
      (map (λ f. record { place = place; var = r.var; level = r.level; flag = f }) fs)
      → flags r.var r.level G ≡ true
  ghosts_met [] e all = absurd cc
  ghosts_met (G ∷ fs) e all =
      met_is (flags r.var r.level G)
      (all 0 (record { place = place; var = r.var; level = r.level; flag = G }) (omega arith))
    where
      met_is : (b : Bool) → (b || false) ≡ true → b ≡ true
      met_is true h = refl
      met_is false h = absurd cc
  ghosts_met (I ∷ fs) e all = ghosts_met fs e (λ k d l. all (suc k) d (omega arith))
  ghosts_met (B ∷ fs) e all = ghosts_met fs e (λ k d l. all (suc k) d (omega arith))
  ghosts_met (S ∷ fs) e all = ghosts_met fs e (λ k d l. all (suc k) d (omega arith))

turn_met : (setup : Setup) (flags : Flags) (k iteration : ℕ) (before : State) (o : Option State)
    → NotesMet setup flags (turn_note k (item_at setup k iteration) iteration before o ∷ [])
    → GhostsAt setup (item setup k) flags
turn_met setup flags k iteration before None met = λ i t l e.
    ghosts_met setup flags (item setup k).path (get_or (item setup k).reads i t)
    (flags_or_none (read_needs setup (item setup k) (get_or (item setup k).reads i t))) e
    (all-of-one (λ (n : Need). is_met setup flags n ≡ true) (needs_of_read setup (item setup k))
    (item setup k).reads i t l met.0)
turn_met setup flags k iteration before (Some state) met = λ i t l e.
    ghosts_met setup flags (item setup k).path (get_or (item setup k).reads i t)
    (flags_or_none (read_needs setup (item setup k) (get_or (item setup k).reads i t))) e
    (all-of-one (λ (n : Need). is_met setup flags n ≡ true) (needs_of_read setup (item setup k))
    (item setup k).reads i t l met.0)

pub has_ghosts : (r : Run) → ((n : ℕ) → NotesMet r.setup (flags_at r n) (notes_of r n))
    → HasGhosts r
has_ghosts r met n k e =
    turn_met r.setup (flags_at r n) k (undivided r n).control.iteration (undivided r n).state
    (turn r.setup r.rules (item_at r.setup k (undivided r n).control.iteration)
    (undivided r n).state (undivided r n).control.iteration)
    (subst (λ o. NotesMet r.setup (flags_at r n)
    (notes_at r.setup r.rules o (undivided r n).control (undivided r n).state)) e (met n))
