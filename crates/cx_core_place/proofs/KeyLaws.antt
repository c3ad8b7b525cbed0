-- Keys rise along a way.
use Rattle.std.proofs.Common.{◌≡◌, ℕ, zero, suc, ◌+◌, ◌-◌, ◌<◌, ◌≤◌, arith, subst, inl, inr}
use Rattle.std.proofs.lemmas.Bool.{cases_lt}
use Rattle.cx_plan.specs.Setups.{Setup}
use Rattle.cx_flat.specs.declared.op.Op.TheVariants as op
use Rattle.cx_flat.specs.Code.{code}
use Rattle.cx_flat.specs.Flats.{Control}
use Rattle.cx_flat.specs.Ways.{key, Less, Scalars, way_from, WayEnds}
use Rattle.cx_flat.proofs.WayLaws.{less_trans, less_never}
use Rattle.cx_flat.proofs.AtLaws.{rises_at}
use Rattle.cx_core_place.specs.Keys.{InOrder}

module _ (setup : Setup) (scalars : Scalars) (first : Control) (most : ℕ)
    (way : WayEnds setup first most scalars) where
  abbrev at : ℕ → Control
  at n = way_from setup (code setup) scalars n first

  rises : (n : ℕ) → n < way.count → Less (key (at n)) (key (at (suc n)))
  rises n l = (rises_at setup (code setup) way.count n scalars op.Halt first way.rises l).1

  climbs : (d m : ℕ) → suc d + m ≤ way.count → Less (key (at m)) (key (at (suc d + m)))
  climbs zero m l =
      let e : suc m ≡ suc 0 + m = omega arith in
      subst (λ n. Less (key (at m)) (key (at n))) e (rises m (omega arith))
  climbs (suc d) m l =
      let e : suc (suc d + m) ≡ suc (suc d) + m = omega arith in
      subst (λ n. Less (key (at m)) (key (at n))) e
      (less_trans (key (at m)) (key (at (suc d + m))) (key (at (suc (suc d + m))))
      (climbs d m (omega arith)) (rises (suc d + m) (omega arith)))

  above : (m n : ℕ) → n ≤ way.count → m < n → Less (key (at m)) (key (at n))
  above m n l h =
      let e : suc (n - suc m) + m ≡ n = omega arith in
      subst (λ k. Less (key (at m)) (key (at k))) e (climbs (n - suc m) m (omega arith))

  below : (m n : ℕ) → m ≤ way.count → Less (key (at m)) (key (at n)) → m < n
  below m n l h =
      elim (cases_lt m n) [
        | inl less ↦ less
        | inr past ↦ absurd (elim (cases_lt n m) [
          | inl more ↦ less_never (key (at m))
              (less_trans (key (at m)) (key (at n)) (key (at m)) h (above n m l more))
          | inr same ↦ less_never (key (at m))
              (let e : n ≡ m = omega (arith, past, same) in
              subst (λ k. Less (key (at m)) (key (at k))) e h)
        ])
      ]

  pub in_order : InOrder setup scalars first way.count
  in_order m n l k = (below m n l, above m n k)
