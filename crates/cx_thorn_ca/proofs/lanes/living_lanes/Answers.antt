use Rattle.std.proofs.Common.{rules, ◌≡◌, ◌+◌, ◌∙◌, [], ◌∷◌, arith, ap, refl, SFits, w64}
use Rattle.cx_thorn_ca.specs.Automaton.{alive_of}
use Rattle.cx_thorn_ca.specs.Rows.{cell_at}
use Rattle.cx_thorn_ca.specs.Lanes.{lane}
use Rattle.cx_thorn_ca.proofs.LaneLaws.{by_fifteen, one_more_lane, marked, marked_is}
use Rattle.cx_thorn_ca.proofs.lanes.living_lanes.Goals as goal

pub returns : goal.returns
returns c =
    let s0 : SFits w64 (cell_at c.args.cells.now (c.args.i)) = search rules in
    let s1 : SFits w64 (cell_at c.args.cells.now (c.args.i + 1)) = search rules in
    let s2 : SFits w64 (cell_at c.args.cells.now (c.args.i + 2)) = search rules in
    let s3 : SFits w64 (cell_at c.args.cells.now (c.args.i + 3)) = search rules in
    let s4 : SFits w64 (cell_at c.args.cells.now (c.args.i + 4)) = search rules in
    let s5 : SFits w64 (cell_at c.args.cells.now (c.args.i + 5)) = search rules in
    let s6 : SFits w64 (cell_at c.args.cells.now (c.args.i + 6)) = search rules in
    let s7 : SFits w64 (cell_at c.args.cells.now (c.args.i + 7)) = search rules in
    let s8 : SFits w64 (cell_at c.args.cells.now (c.args.i + 8)) = search rules in
    let s9 : SFits w64 (cell_at c.args.cells.now (c.args.i + 9)) = search rules in
    let s10 : SFits w64 (cell_at c.args.cells.now (c.args.i + 10)) = search rules in
    let s11 : SFits w64 (cell_at c.args.cells.now (c.args.i + 11)) = search rules in
    let s12 : SFits w64 (cell_at c.args.cells.now (c.args.i + 12)) = search rules in
    let s13 : SFits w64 (cell_at c.args.cells.now (c.args.i + 13)) = search rules in
    let s14 : SFits w64 (cell_at c.args.cells.now (c.args.i + 14)) = search rules in
    let s15 : SFits w64 (cell_at c.args.cells.now (c.args.i + 15)) = search rules in
    let first : c.args.i ≡ c.args.i + 0 = omega arith in
    let v =
    marked (cell_at c.args.cells.now (c.args.i)) ∷ marked (cell_at c.args.cells.now (c.args.i + 1))
    ∷ marked (cell_at c.args.cells.now (c.args.i + 2))
    ∷ marked (cell_at c.args.cells.now (c.args.i + 3))
    ∷ marked (cell_at c.args.cells.now (c.args.i + 4))
    ∷ marked (cell_at c.args.cells.now (c.args.i + 5))
    ∷ marked (cell_at c.args.cells.now (c.args.i + 6))
    ∷ marked (cell_at c.args.cells.now (c.args.i + 7))
    ∷ marked (cell_at c.args.cells.now (c.args.i + 8))
    ∷ marked (cell_at c.args.cells.now (c.args.i + 9))
    ∷ marked (cell_at c.args.cells.now (c.args.i + 10))
    ∷ marked (cell_at c.args.cells.now (c.args.i + 11))
    ∷ marked (cell_at c.args.cells.now (c.args.i + 12))
    ∷ marked (cell_at c.args.cells.now (c.args.i + 13))
    ∷ marked (cell_at c.args.cells.now (c.args.i + 14))
    ∷ marked (cell_at c.args.cells.now (c.args.i + 15)) ∷ [] in
    record {
      long = refl;
      each = one_more_lane (λ k. lane v k ≡ alive_of (cell_at c.args.cells.now (c.args.i + k)))
          (marked_is _ s15)
          (by_fifteen (λ k. lane v k ≡ alive_of (cell_at c.args.cells.now (c.args.i + k)))
          (marked_is _ s0 ∙ ap (λ k. alive_of (cell_at c.args.cells.now k)) first)
          (marked_is _ s1) (marked_is _ s2) (marked_is _ s3) (marked_is _ s4) (marked_is _ s5)
          (marked_is _ s6) (marked_is _ s7) (marked_is _ s8) (marked_is _ s9) (marked_is _ s10)
          (marked_is _ s11) (marked_is _ s12) (marked_is _ s13) (marked_is _ s14));
    }
