use Rattle.std.proofs.Common.{◌≡◌, ◌<◌, ◌++◌, ℕ, arith, refl}
use Rattle.cx_thorn_ca.specs.Lanes.{lane}
use Rattle.cx_thorn_ca.proofs.LaneLaws.{by_fifteen, in_front}
use Rattle.cx_thorn_ca.proofs.lanes.next_lane.Goals as goal

pub returns : goal.returns
returns c =
    let v = c.args.v in
    let at : (k : ℕ) → k < 16
    → lane (v ++ v) k ≡ lane v k = λ k l. in_front v v k (omega (arith, l, c.requires)) in
    record {
      long = refl;
      each = by_fifteen _ (at 1 (omega arith)) (at 2 (omega arith)) (at 3 (omega arith))
          (at 4 (omega arith)) (at 5 (omega arith))
          (at 6 (omega arith)) (at 7 (omega arith)) (at 8 (omega arith)) (at 9 (omega arith))
          (at 10 (omega arith))
          (at 11 (omega arith)) (at 12 (omega arith)) (at 13 (omega arith)) (at 14 (omega arith))
          (at 15 (omega arith));
    }
