-- The sum of all values that were taken of wires, event by event.
use Rattle.std.proofs.Common.{◌≡◌, ℕ, zero, suc, ◌+◌, ◌<◌, ℤ, List, [], ◌∷◌, ◌++◌, refl, sym, ap, ◌∙◌, arith, cond}
use Rattle.cx_model.specs.Turns.{values_of}
use Rattle.cx_flat.specs.Flats.{Flat}
use Rattle.law_network.specs.Machine.{World, CanMove, put, taken_now, sum_below}
use Rattle.law_network.specs.Agreement.{Script, taken, takes}
use Rattle.law_network.proofs.Prefix.{taken_same}
use Rattle.law_network.proofs.Put.{put_same, put_other, sum_more}
use Rattle.law_network.proofs.Steps.{found}
use Rattle.cx_model.specs.Runs.{Lengths}
use Rattle.law_parts.specs.Holding.{Held}
use Rattle.law_parts.specs.Laws.{IsOracle, IsReachedState}
use Rattle.law_parts.specs.Moves.{Message, Sent, Given, Handed, Channel, Wire, sender, is_there, op_posts, faces_by}
use Rattle.law_parts.specs.Nets.{net, within_lead, values_sum, taken_sum}
use Rattle.law_parts.specs.Runs.{Run, Oracle, parts_in, next_op, undivided, guided}
use Rattle.law_parts.specs.Truths.{script, mail_at, Agrees, GivesAt, Books}
use Rattle.law_parts.proofs.CountLaws.{sum_same, sum_add}
use Rattle.law_parts.proofs.WholeRun.{IsRun}
use Rattle.law_reached.specs.Sums.{sum_taken_now, TakenAddsUp}
use Rattle.law_reached.proofs.TellLaws.{fits, way}
use Rattle.cx_text.specs.Numbers.{word_sum}

-- ---- sums

plus_first : (a b c : ℕ) → a + (b + c) ≡ a + b + c
plus_first a b c = omega arith

none_more : (a : ℕ) → a ≡ 0 + a
none_more a = omega arith

pub values_both : {tells : Type 0} (t : tells) (xs ys : List (Message tells))
    → values_sum t (xs ++ ys) ≡ values_sum t xs + values_sum t ys
values_both t [] ys = none_more (values_sum t ys)
values_both t (Sent h values ∷ ms) ys =
    ap (λ n. word_sum (values t) + n) (values_both t ms ys)
    ∙ plus_first (word_sum (values t)) (values_sum t ms) (values_sum t ys)
values_both t (Given number ∷ ms) ys = values_both t ms ys
values_both t (Handed n s ∷ ms) ys = values_both t ms ys

pub over_below : (n : ℕ) (f : ℕ → ℕ) → sum_below n f ≡ sum_below n f
over_below zero f = refl
over_below (suc n) f = ap (λ m. m + f n) (over_below n f)

-- what is taken before the next place
pub taken_next : {M C : Type 0} (S : Script M C) (c : C) (n : ℕ)
    → taken S c (suc n) ≡ taken S c n ++ takes S c n
taken_next S c zero = refl
taken_next S c (suc n) = refl

module _ (tells : Type 0) (r : Run) (run : IsRun r) (t : tells) where
  -- oracles that tell the truth have one mail
  mail_same : (o other : Oracle) → IsOracle tells r o → IsOracle tells r other
      → (c : Channel) (m : ℕ) → sender c < parts_in r
      → mail_at tells r other c m ≡ mail_at tells r o c m
  mail_same o other is others c m l =
      ap (λ (g : Flat). cond (is_there r c)
      (op_posts r (next_op r g.control) m
      (faces_by {tells = tells} r (sender c) (values_of r.setup (undivided r m).state))
      (λ i. other (sender c) m) c) [])
      (way tells r run other others t m ∙ sym (way tells r run o is t m))
      ∙ ap (λ (z : ℤ). cond (is_there r c)
      (op_posts r (next_op r (guided r o m).control) m
      (faces_by {tells = tells} r (sender c) (values_of r.setup (undivided r m).state)) (λ i. z)
      c) [])
      (others.told t (sender c) m l ∙ sym (is.told t (sender c) m l))

  module _ (o other : Oracle) (is : IsOracle tells r o) (others : IsOracle tells r other)
      (w : World Held (Message tells) Channel Lengths) where
    pub sum_stays : (v : World Held (Message tells) Channel Lengths)
        → ((k : ℕ) → k < parts_in r → v.place k ≡ w.place k)
        → taken_sum t r other v ≡ taken_sum t r o w
    sum_stays v h =
        sum_same (parts_in r) _ _ (λ a l. sum_same (parts_in r) _ _ (λ b k.
        ap (values_sum t) (ap (taken (script tells r other) (Wire a b)) (h b k)
        ∙ taken_same (script tells r o) (script tells r other) (Wire a b) (w.place b)
        (λ m i. mail_same o other is others (Wire a b) m l))))

  module _ (o : Oracle) (w : World Held (Message tells) Channel Lengths)
      (st : IsReachedState tells r o w) (k : ℕ) (can : CanMove (net tells within_lead r o) w k)
    where
      taken_here : (a : ℕ) → taken_now (net tells within_lead r o) w k (Wire a k)
          ≡ takes (script tells r o) (Wire a k) (w.place k)
      taken_here a =
          (found (net tells within_lead r o) (script tells r o) (Agrees tells r o) (GivesAt r o)
          (Books tells r) (fits tells r run o st.oracle_is t) w st.woven k can (Wire a k) refl).0

      -- of one sender
      one_more : (a : ℕ) → sum_below (parts_in r)
          (λ b. values_sum t (taken (script tells r o) (Wire a b)
          (put w.place k (suc (w.place k)) b)))
          ≡ sum_below (parts_in r)
          (λ b. values_sum t (taken (script tells r o) (Wire a b) (w.place b)))
          + values_sum t (taken_now (net tells within_lead r o) w k (Wire a k))
      one_more a =
          over_below (parts_in r)
          (λ b. values_sum t (taken (script tells r o) (Wire a b)
          (put w.place k (suc (w.place k)) b)))
          ∙ sum_more (parts_in r) k
          (values_sum t (taken_now (net tells within_lead r o) w k (Wire a k)))
          (λ b. values_sum t (taken (script tells r o) (Wire a b) (w.place b)))
          (λ b. values_sum t (taken (script tells r o) (Wire a b)
          (put w.place k (suc (w.place k)) b))) can.part
          (ap (λ m. values_sum t (taken (script tells r o) (Wire a k) m))
          (put_same w.place k (suc (w.place k)) k refl)
          ∙ ap (values_sum t) (taken_next (script tells r o) (Wire a k) (w.place k))
          ∙ values_both t (taken (script tells r o) (Wire a k) (w.place k))
          (takes (script tells r o) (Wire a k) (w.place k))
          ∙ ap (λ (ms : List (Message tells)).
          values_sum t (taken (script tells r o) (Wire a k) (w.place k)) + values_sum t ms)
          (sym (taken_here a)))
          (λ j e. ap (λ m. values_sum t (taken (script tells r o) (Wire a j) m))
          (put_other w.place k (suc (w.place k)) j e))
          ∙ ap (λ n. n + values_sum t (taken_now (net tells within_lead r o) w k (Wire a k)))
          (sym (over_below (parts_in r)
          (λ b. values_sum t (taken (script tells r o) (Wire a b) (w.place b)))))

      pub sum_grows : sum_below (parts_in r)
          (λ a. sum_below (parts_in r)
          (λ b. values_sum t (taken (script tells r o) (Wire a b)
          (put w.place k (suc (w.place k)) b)))) ≡ taken_sum t r o w + sum_taken_now t r o w k
      sum_grows =
          sum_same (parts_in r) _ _ (λ a l. one_more a)
          ∙ sum_add (parts_in r)
          (λ a. sum_below (parts_in r)
          (λ b. values_sum t (taken (script tells r o) (Wire a b) (w.place b))))
          (λ a. values_sum t (taken_now (net tells within_lead r o) w k (Wire a k)))

  pub other_sum : (o other : Oracle) → IsOracle tells r o → IsOracle tells r other → (place : ℕ → ℕ)
      → sum_below (parts_in r)
      (λ a. sum_below (parts_in r)
      (λ b. values_sum t (taken (script tells r other) (Wire a b) (place b))))
      ≡ sum_below (parts_in r)
      (λ a. sum_below (parts_in r)
      (λ b. values_sum t (taken (script tells r o) (Wire a b) (place b))))
  other_sum o other is others place =
      sum_same (parts_in r) _ _ (λ a l. sum_same (parts_in r) _ _ (λ b k.
      ap (values_sum t) (taken_same (script tells r o) (script tells r other) (Wire a b) (place b)
      (λ m i. mail_same o other is others (Wire a b) m l))))

pub taken_adds_up : (tells : Type 0) (r : Run) → IsRun r → TakenAddsUp tells r
taken_adds_up tells r run t o other w st others = record {
  goes_on = λ k y can. other_sum tells r run t o other st.oracle_is others
      (put w.place k (suc (w.place k))) ∙ sum_grows tells r run t o w st k can;
  stays = sum_stays tells r run t o other st.oracle_is others w;
}
