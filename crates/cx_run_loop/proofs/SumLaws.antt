-- What a run counts that is cut anew adds up from checkpoint place to checkpoint place.
use Rattle.std.proofs.Common.{◌≡◌, ◌≤◌, ℕ, ◌+◌, refl, sym, ap, ◌∙◌, List, [], ◌∷◌, ◌++◌, arith}
use Rattle.cx_plan.specs.Setups.{Setup}
use Rattle.cx_rule.specs.States.{State}
use Rattle.cx_cut.specs.Cuts.{Parts}
use Rattle.cx_model.specs.Traces.{Entry, Turned, Overflowed, Exchanged, Tested, Rotated, Wrote, Saved}
use Rattle.law_parts.specs.Work.{entry_work, entry_count, entry_sum, work, carried_count, total_sum}
use Rattle.cx_run_loop.specs.Sums.{AreUnsaved, IsUnsaved, SumsAdd, carried_in, counted_in, cut_after, sum_in, work_in}

same_cut : (cut : Parts) (e : Entry) → cut_after (λ state. cut) cut e ≡ cut
same_cut cut (Saved i state) = refl
same_cut cut (Turned k i state) = refl
same_cut cut (Overflowed k i state) = refl
same_cut cut (Exchanged vars path state) = refl
same_cut cut (Tested v path state) = refl
same_cut cut (Rotated state) = refl
same_cut cut (Wrote v i text state) = refl

unsaved_cut : (again : State → Parts) (cut : Parts) (e : Entry) → IsUnsaved e
    → cut_after again cut e ≡ cut
unsaved_cut again cut (Saved i state) u = absurd u
unsaved_cut again cut (Turned k i state) u = refl
unsaved_cut again cut (Overflowed k i state) u = refl
unsaved_cut again cut (Exchanged vars path state) u = refl
unsaved_cut again cut (Tested v path state) u = refl
unsaved_cut again cut (Rotated state) u = refl
unsaved_cut again cut (Wrote v i text state) u = refl

-- by a count of one entry, and the sum of it over entries of one cut
module _ (count : Parts → Entry → ℕ) (all : Parts → List Entry → ℕ)
    (none : (cut : Parts) → all cut [] ≡ 0)
    (more : (cut : Parts) (e : Entry) (es : List Entry)
    → all cut (e ∷ es) ≡ count cut e + all cut es) where
  one : (cut : Parts) (es : List Entry) → counted_in count (λ state. cut) cut es ≡ all cut es
  one cut [] = sym (none cut)
  one cut (e ∷ es) =
      ap (λ (c : Parts). count cut e + counted_in count (λ state. cut) c es) (same_cut cut e)
      ∙ ap (λ (n : ℕ). count cut e + n) (one cut es)
      ∙ sym (more cut e es)

  adds : (saved : (cut : Parts) (c : ℕ) (state : State) → count cut (Saved c state) ≡ 0)
      → (again : State → Parts) (cut : Parts) (earlier later : List Entry) (c : ℕ) (state : State)
      → AreUnsaved earlier
      → counted_in count again cut (earlier ++ Saved c state ∷ later)
      ≡ all cut earlier + counted_in count again (again state) later
  adds saved again cut [] later c state u =
      let s = saved cut c state in
      let n = none cut in
      omega (arith, s, n)
  adds saved again cut (e ∷ es) later c state u =
      let step = ap (λ (p : Parts). count cut e
      + counted_in count again p (es ++ Saved c state ∷ later)) (unsaved_cut again cut e u.0) in
      let rest = adds saved again cut es later c state u.1 in
      let m = more cut e es in
      step ∙ omega (arith, rest, m)

  -- entries without a checkpoint place count the same by whatever cuts are to come
  more_later : (again : State → Parts) (cut : Parts) (earlier later : List Entry)
      → AreUnsaved earlier
      → counted_in count again cut (earlier ++ later)
      ≡ all cut earlier + counted_in count again cut later
  more_later again cut [] later u = let n = none cut in omega (arith, n)
  more_later again cut (e ∷ es) later u =
      let step = ap (λ (p : Parts). count cut e + counted_in count again p (es ++ later))
      (unsaved_cut again cut e u.0) in
      let rest = more_later again cut es later u.1 in
      let m = more cut e es in
      step ∙ omega (arith, rest, m)

  all_later : (again : State → Parts) (cut : Parts) (earlier later : List Entry)
      → AreUnsaved earlier → all cut earlier ≤ counted_in count again cut (earlier ++ later)
  all_later again cut earlier later u =
      let both = more_later again cut earlier later u in omega (arith, both)

  -- without a checkpoint place it doesn't matter which cuts are to come
  alone : (again : State → Parts) (cut : Parts) (es : List Entry) → AreUnsaved es
      → counted_in count again cut es ≡ all cut es
  alone again cut [] u = sym (none cut)
  alone again cut (e ∷ es) u =
      ap (λ (p : Parts). count cut e + counted_in count again p es) (unsaved_cut again cut e u.0)
      ∙ ap (λ (n : ℕ). count cut e + n) (alone again cut es u.1)
      ∙ sym (more cut e es)

pub sums_add : (setup : Setup) → SumsAdd setup
sums_add setup = record {
  one_work = one (entry_work setup) (work setup) (λ cut. refl) (λ cut e es. refl);
  one_count = one (entry_count setup) (carried_count setup) (λ cut. refl) (λ cut e es. refl);
  one_sum = one (entry_sum setup) (total_sum setup) (λ cut. refl) (λ cut e es. refl);
  work_adds = adds (entry_work setup) (work setup) (λ cut. refl) (λ cut e es. refl)
      (λ cut c state. refl);
  count_adds = adds (entry_count setup) (carried_count setup) (λ cut. refl) (λ cut e es. refl)
      (λ cut c state. refl);
  sum_adds = adds (entry_sum setup) (total_sum setup) (λ cut. refl) (λ cut e es. refl)
      (λ cut c state. refl);
}

-- what entries count without a checkpoint place is within what they count with others after them
pub work_later : (setup : Setup) (again : State → Parts) (cut : Parts)
    (earlier later : List Entry) → AreUnsaved earlier
    → work setup cut earlier ≤ work_in setup again cut (earlier ++ later)
work_later setup = all_later (entry_work setup) (work setup) (λ cut. refl) (λ cut e es. refl)

pub count_later : (setup : Setup) (again : State → Parts) (cut : Parts)
    (earlier later : List Entry) → AreUnsaved earlier
    → carried_count setup cut earlier ≤ carried_in setup again cut (earlier ++ later)
count_later setup =
    all_later (entry_count setup) (carried_count setup) (λ cut. refl) (λ cut e es. refl)

-- entries without a checkpoint place count what they do by one cut
pub work_alone : (setup : Setup) (again : State → Parts) (cut : Parts) (es : List Entry)
    → AreUnsaved es → work_in setup again cut es ≡ work setup cut es
work_alone setup = alone (entry_work setup) (work setup) (λ cut. refl) (λ cut e es. refl)

pub count_alone : (setup : Setup) (again : State → Parts) (cut : Parts) (es : List Entry)
    → AreUnsaved es → carried_in setup again cut es ≡ carried_count setup cut es
count_alone setup =
    alone (entry_count setup) (carried_count setup) (λ cut. refl) (λ cut e es. refl)

pub sum_alone : (setup : Setup) (again : State → Parts) (cut : Parts) (es : List Entry)
    → AreUnsaved es → sum_in setup again cut es ≡ total_sum setup cut es
sum_alone setup = alone (entry_sum setup) (total_sum setup) (λ cut. refl) (λ cut e es. refl)
