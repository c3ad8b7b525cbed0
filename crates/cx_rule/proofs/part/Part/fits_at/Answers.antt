use Rattle.std.proofs.Common.{rules, ◌≡◌, ◌∙◌, ◌<◌, ◌+◌, ◌&&◌, sym, ap, arith, length, drop, pos, get_or, SFits, w64}
use Rattle.std.proofs.lemmas.Int.{to_z-of_z}
use Rattle.cx_plan.specs.declared.item.Region.TheVariants.{Interior}
use Rattle.cx_plan.specs.declared.item.Touch.{Touch}
use Rattle.cx_plan.specs.Lookups.{variable}
use Rattle.cx_rule.specs.Sweeps.{fits, all_fit}
use Rattle.cx_rule.specs.Patches.{setup_in}
use Rattle.cx_rule.specs.Staging.{numbers_staged}
use Rattle.cx_rule.proofs.BufferLaws.{buffer_length}
use Rattle.cx_rule.proofs.CommitLaws.{staged_number}
use Rattle.cx_rule.proofs.CommitSteps.{fit_step, staged_length}
use Rattle.cx_rule.proofs.part.Part.fits_at.Goals as goal

pub number-requires-clause-at : goal.number-requires-clause-at
number-requires-clause-at c =
    let below : c.writes.k < length c.args.staged.now =
    omega (arith, c.writes-test.true, c.requires.writes) in
    rw (buffer_length c.args.self.now.local c.args.staged.now c.requires.buffers c.writes.k below)
    c.requires.place

pub returns-then-not-fits : goal.returns-then-not-fits
returns-then-not-fits c =
    let touch : Touch = record { var = record { 0 = 0 }; level = 0; region = Interior; reach = 0 }
    in
    let setup = setup_in c.args.self.now in
    let ws = c.args.writes.now in
    let ns = numbers_staged c.args.staged.now (length ws) c.args.at in
    let k = c.writes.k in
    let within : k < length ws = omega (arith, c.writes-test.true) in
    let long : k < length ns =
    omega (
      arith,
      within,
      staged_length c.args.staged.now (length ws)
          c.args.at c.requires.writes,
    ) in
    let step = fit_step setup ws ns k touch within long in
    let r : SFits w64 c.number.result = search rules in
    let n : get_or ns k (pos 0) ≡ c.number.result =
    staged_number c.args.staged.now (length ws) c.args.at k (pos 0) within c.requires.writes
    ∙ sym c.number.ensures in
    let f = rw (c.info.ensures.value, to_z-of_z w64 _ r) at c.fits.ensures in
    let one = ap (fits (variable setup (get_or ws k touch).var).ctype) n ∙ sym f in
    let rest = all_fit setup (drop (k + 1) ws) (drop (k + 1) ns) in
    sym (sym c.writes.invariant ∙ step ∙ ap (λ t. t && rest) (one ∙ c.if-not-fits.true))

pub writes-preserved : goal.writes-preserved
writes-preserved c =
    let touch : Touch = record { var = record { 0 = 0 }; level = 0; region = Interior; reach = 0 }
    in
    let setup = setup_in c.args.self.now in
    let ws = c.args.writes.now in
    let ns = numbers_staged c.args.staged.now (length ws) c.args.at in
    let k = c.writes.k in
    let within : k < length ws = omega (arith, c.writes-test.true) in
    let long : k < length ns =
    omega (
      arith,
      within,
      staged_length c.args.staged.now (length ws)
          c.args.at c.requires.writes,
    ) in
    let step = fit_step setup ws ns k touch within long in
    let r : SFits w64 c.number.result = search rules in
    let n : get_or ns k (pos 0) ≡ c.number.result =
    staged_number c.args.staged.now (length ws) c.args.at k (pos 0) within c.requires.writes
    ∙ sym c.number.ensures in
    let f = rw (c.info.ensures.value, to_z-of_z w64 _ r) at c.fits.ensures in
    let one = ap (fits (variable setup (get_or ws k touch).var).ctype) n ∙ sym f in
    let rest = all_fit setup (drop (k + 1) ws) (drop (k + 1) ns) in
    sym (ap (λ t. t && rest) (one ∙ c.if-not-fits.false)) ∙ sym step ∙ c.writes.invariant
