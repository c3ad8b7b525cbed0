-- The places of parts in a state that is reached: comparing them compares how many operations were
-- done.
use Rattle.std.proofs.Common.{◌≡◌, ℕ, zero, suc, ◌<◌, ◌≤◌, ltb, List, [], ◌∷◌, length, Some, refl, sym, ap, ◌∙◌, arith, get_or}
use Rattle.std.specs.Prelude.{slice_get}
use Rattle.std.proofs.lemmas.Bool.{ltb-true, lt-ltb}
use Rattle.cx_flat.specs.Code.{op_at}
use Rattle.cx_flat.specs.Flats.{Control}
use Rattle.cx_flat.specs.Ways.{key, Less, WayEnds}
use Rattle.cx_flat.proofs.WayLaws.{less_trans, less_never}
use Rattle.law_network.proofs.Keys.{compares}
use Rattle.law_parts.specs.Laws.{IsReachedState}
use Rattle.law_parts.specs.Runs.{Run, Oracle, parts_in, next_op, guided, last_of}
use Rattle.law_parts.proofs.Ways.{scalars_at, key_rises}
use Rattle.law_parts.proofs.WholeRun.{IsRun}
use Rattle.cx_core_events.specs.declared.standing.Standing.{Standing}
use Rattle.cx_core_events.specs.Paces.{Paces, no_part, part_of, op_of, is_less, are_in_order, is_before}
use Rattle.cx_core_events.specs.Shows.{State, ShowsPace}
use Rattle.cx_core_events.proofs.OrderLaws.{less_is}

pub get_there : (ss : List Standing) (k : ℕ) → k < length ss
    → slice_get ss k ≡ Some (get_or ss k no_part)
get_there [] k l = absurd (omega (arith, l))
get_there (s ∷ ss) zero l = refl
get_there (s ∷ ss) (suc k) l = get_there ss k (omega (arith, l))

module _ (r : Run) (oracle : Oracle)
    (ends : WayEnds r.setup r.first.control r.most (scalars_at r oracle)) where
  abbrev pub way : ℕ → Control
  way n = (guided r oracle n).control

  pub keys_are : (m n : ℕ) → m ≤ last_of r oracle → n ≤ last_of r oracle
      → is_less (key (way m)) (key (way n)) ≡ ltb m n
  keys_are m n a b =
      let c = compares Less less_trans less_never (λ k. key (way k)) (last_of r oracle)
      (key_rises r oracle ends) m n a b in
      sym (less_is (ltb m n) (key (way m)) (key (way n))
      (λ e. c.1 (ltb-true m n e), λ h. lt-ltb m n (c.0 h)))

-- all that stands in order
module _ (tells : Type 0) (r : Run) (run : IsRun r) (oracle : Oracle) (w : State tells) (p : Paces)
    (st : IsReachedState tells r oracle w) (sh : ShowsPace tells r oracle w p) where
  abbrev pub ends : WayEnds r.setup r.first.control r.most (scalars_at r oracle)
  ends = run.ways (scalars_at r oracle)

  pub control_is : (k : ℕ) → k < parts_in r → (w.held k).control ≡ way r oracle ends (w.place k)
  control_is k l = (st.woven.agrees k l).stands.control

  pub place_is : (k : ℕ) → k < parts_in r → (part_of p k).place ≡ way r oracle ends (w.place k)
  place_is k l = (sh.parts k l).place ∙ control_is k l

  pub op_is : (k : ℕ) → k < parts_in r → op_of p k ≡ next_op r (w.held k).control
  op_is k l = ap (λ ops. op_at ops (part_of p k).place.pc) sh.ops
      ∙ ap (next_op r) (sh.parts k l).place

  pub before_is : (j k : ℕ) → j < parts_in r → k < parts_in r
      → is_before p.parts j k ≡ ltb (w.place j) (w.place k)
  before_is j k a b =
      ap (λ x. are_in_order x (slice_get p.parts k))
      (get_there p.parts j (omega (arith, sh.count, a)))
      ∙ ap (λ y. are_in_order (Some (part_of p j)) y)
      (get_there p.parts k (omega (arith, sh.count, b)))
      ∙ ap (λ c. is_less (key c) (key (part_of p k).place)) (place_is j a)
      ∙ ap (λ c. is_less (key (way r oracle ends (w.place j))) (key c)) (place_is k b)
      ∙ keys_are r oracle ends (w.place j) (w.place k) (st.woven.within j a) (st.woven.within k b)

  pub hind_part : p.hind < parts_in r
  hind_part = sh.hind_part

  pub hind_least : (j : ℕ) → j < parts_in r → w.place p.hind ≤ w.place j
  hind_least = sh.hind_least
