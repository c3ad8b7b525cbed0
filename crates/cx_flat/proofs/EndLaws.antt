-- Each way of a run comes to its last operation.
use Rattle.std.proofs.Common.{◌≡◌, ℕ, suc, ◌+◌, ◌-◌, ◌≤◌, [], ◌∷◌, length, refl, ap, ◌∙◌, subst, arith}
use Rattle.cx_plan.specs.Setups.{Setup}
use Rattle.cx_plan.specs.Lookups.{STARTUP, WRAGH, PARAMCHECK, BASEGRID, INITIAL, POSTINITIAL, POSTSTEP, TERMINATE, SHUTDOWN}
use Rattle.cx_flat.specs.declared.op.Op.TheVariants as op
use Rattle.cx_flat.specs.Code.{op_at, start_code, before_code, from_code, code, analysis_place}
use Rattle.cx_flat.specs.Flats.{Control, to, is_halt}
use Rattle.cx_flat.specs.Ways.{Scalars, most_bins, most_from, most_rest, most_after, most_operations, WayEnds, at_place, WaysEnd}
use Rattle.cx_flat.proofs.RunLaws.{StandsAt, stands_first}
use Rattle.cx_flat.proofs.WayLaws.{Passes, Goes, pass_then, pass_to, jump_by, in_turn, pass_bins, pass_from, pass_rest, most_is}
use Rattle.cx_flat.proofs.WayLaws as ways
use Rattle.cx_flat.proofs.WholeLaws.{at_start, at_skip, at_loop, at_end, at_halt, end_bins, end_place}

module _ (setup : Setup) (dims : ℕ) (some_dims : setup.shape.dims ≡ suc dims) where
  abbrev stop : ℕ
  stop = end_place setup [] dims some_dims + length (end_bins setup [] dims some_dims)

  abbrev loop : ℕ
  loop = suc (length (start_code setup))

  ending : Goes setup (code setup)
      (to (in_turn setup (code setup) setup.itlast) (end_place setup [] dims some_dims))
      (to (in_turn setup (code setup) setup.itlast) stop)
      (most_bins setup (TERMINATE ∷ SHUTDOWN ∷ []))
  ending = pass_bins setup (code setup) (in_turn setup (code setup) setup.itlast)
      (end_place setup [] dims some_dims) (TERMINATE ∷ SHUTDOWN ∷ [])
      (stands_first (code setup) (end_place setup [] dims some_dims)
      (end_bins setup [] dims some_dims) (op.Halt ∷ []) (at_end setup [] dims some_dims))

  rest : (c : ℕ) → c ≤ setup.itlast
      → Goes setup (code setup)
      (to (in_turn setup (code setup) c)
      (loop + length (before_code setup) + length (from_code setup)))
      (to (in_turn setup (code setup) setup.itlast) stop) (most_rest setup (setup.itlast - c))
  rest c l =
      subst (Goes setup (code setup)
      (to (in_turn setup (code setup) c)
      (loop + length (before_code setup) + length (from_code setup)))
      (to (in_turn setup (code setup) setup.itlast) stop))
      (most_is setup (code setup) loop stop (most_bins setup (TERMINATE ∷ SHUTDOWN ∷ []))
      (at_loop setup [] dims some_dims) ending refl (setup.itlast - c))
      (pass_rest setup (code setup) loop stop (most_bins setup (TERMINATE ∷ SHUTDOWN ∷ []))
      (at_loop setup [] dims some_dims) ending (setup.itlast - c) c (omega arith))

  at_from : StandsAt (code setup) (loop + length (before_code setup)) (from_code setup)
  at_from = ways.at_from setup (code setup) loop stop (most_bins setup (TERMINATE ∷ SHUTDOWN ∷ []))
      (at_loop setup [] dims some_dims) ending

  behind : (c : ℕ) → c ≤ setup.itlast
      → Goes setup (code setup)
      (to (in_turn setup (code setup) c) (loop + length (before_code setup)))
      (to (in_turn setup (code setup) setup.itlast) stop) (most_after setup c)
  behind c l =
      pass_then setup (code setup)
      (to (in_turn setup (code setup) c) (loop + length (before_code setup)))
      (to (in_turn setup (code setup) c)
      (loop + length (before_code setup) + length (from_code setup)))
      (to (in_turn setup (code setup) setup.itlast) stop)
      (most_from setup) (most_rest setup (setup.itlast - c)) (most_after setup c) (omega arith)
      (pass_from setup (code setup) (in_turn setup (code setup) c)
      (loop + length (before_code setup)) at_from) (rest c l)

  whole : Goes setup (code setup) (to (in_turn setup (code setup) 0) 0)
      (to (in_turn setup (code setup) setup.itlast) stop) (most_operations setup)
  whole =
      let bs = STARTUP ∷ WRAGH ∷ PARAMCHECK ∷ BASEGRID ∷ INITIAL ∷ POSTINITIAL ∷ POSTSTEP ∷ [] in
      let e : 0 + length (start_code setup) ≡ length (start_code setup) = omega arith in
      let f : length (start_code setup) + suc (length (before_code setup))
      ≡ loop + length (before_code setup) = omega arith in
      let c = in_turn setup (code setup) 0 in
      pass_then setup (code setup) (to c 0) (to c (length (start_code setup)))
      (to (in_turn setup (code setup) setup.itlast) stop) (most_bins setup bs)
      (suc (most_after setup 0)) (most_operations setup) (omega arith)
      (pass_to setup (code setup) (to c 0) (to c (0 + length (start_code setup)))
      (to c (length (start_code setup))) (most_bins setup bs)
      (pass_bins setup (code setup) c 0 bs (at_start setup [] dims some_dims)) (ap (to c) e))
      (pass_then setup (code setup) (to c (length (start_code setup)))
      (to c (loop + length (before_code setup)))
      (to (in_turn setup (code setup) setup.itlast) stop) 1 (most_after setup 0)
      (suc (most_after setup 0)) (omega arith)
      (pass_to setup (code setup) (to c (length (start_code setup)))
      (to c (length (start_code setup) + suc (length (before_code setup))))
      (to c (loop + length (before_code setup))) 1
      (λ s. jump_by setup (code setup) c (length (start_code setup))
      (suc (length (before_code setup))) (op.Skip (suc (length (before_code setup)))) 1 s
      (omega arith) (omega arith) (at_skip setup [] dims some_dims).0 refl refl) (ap (to c) f))
      (behind 0 (omega arith)))

  way_ends : (first : Control) (most : ℕ)
      → Goes setup (code setup) first (to (in_turn setup (code setup) setup.itlast) stop) most
      → (scalars : Scalars) → WayEnds setup first most scalars
  way_ends first most g scalars =
      let p = g (record { numbers = scalars; before = op.Halt; quiet = refl }) in
      record {
        count = p.count;
        within = p.within;
        rises = p.rises;
        quiet = p.quiet;
        halts = ap (λ c. is_halt (op_at (code setup) c.pc)) p.arrives
            ∙ ap is_halt (at_halt setup [] dims some_dims);
      }

  pub all_ways : WaysEnd setup
  all_ways =
      record {
        whole = way_ends (at_place 0 0) (most_operations setup) whole;
        continued = λ c l.
            let e : loop + length (before_code setup) ≡ analysis_place setup = omega arith in
            way_ends (at_place (analysis_place setup) c) (most_after setup c)
            (subst (λ n. Goes setup (code setup) (at_place n c)
            (to (in_turn setup (code setup) setup.itlast) stop) (most_after setup c)) e
            (behind c l));
      }
