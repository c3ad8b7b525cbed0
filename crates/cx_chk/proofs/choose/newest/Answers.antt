use Rattle.std.proofs.Common.{◌≡◌, ◌<◌, ◌+◌, ℕ, Bool, sym, ◌∙◌, ap, subst, arith}
use Rattle.std.specs.Prelude.{Option, IfSome, option_map}
use Rattle.cx_disk.proofs.Moments.{quiet_more}
use Rattle.cx_disk.specs.Files.{slot_count}
use Rattle.cx_chk.specs.Slots.{mark_of, best_below, newer, place_of}
use Rattle.cx_chk.proofs.Choosing.{best_step, newer_known, place_known}
use Rattle.cx_chk.proofs.choose.newest.Goals as goal

pub look-preserved : goal.look-preserved
look-preserved g c =
    let inv = c.look.invariant in
    let h = c.mark.ensures in
    record {
      mounted = h.kept.mounted;
      folders = h.kept.folders ∙ inv.folders;
      count = h.kept.count ∙ inv.count;
      faults = let a = inv.faults in let b = h.kept.cause.later in omega arith;
      quiet = λ tells. quiet_more (inv.quiet tells) (h.quiet tells);
      known = subst (λ (b : Option (ℕ × ℕ × Bool)). IfSome b (λ f. f.0 < c.look.slot + 1))
          (sym c.newer_of-best.ensures)
          (newer_known c.look.slot c.look.best c.in_ok-found.found inv.known);
      newest = λ tells.
          let seen = (g.D.Disk.view c.args.disk.now).seen in
          let found : c.in_ok-found.found ≡ mark_of (seen c.look.slot) =
          c.in_ok-found.ensures.value tells ∙ ap mark_of ((inv.quiet tells).same c.look.slot) in
          c.newer_of-best.ensures
          ∙ ap (λ b. newer b c.look.slot c.in_ok-found.found) (inv.newest tells)
          ∙ ap (λ f. newer (best_below c.look.slot seen) c.look.slot f) found
          ∙ sym (best_step c.look.slot seen);
    }

pub returns-clause-newest : goal.returns-clause-newest
returns-clause-newest g c = λ tells.
    let eight : c.look.slot ≡ slot_count = omega arith in
    c.place_of.ensures ∙ ap (option_map place_of)
    (c.look.invariant.newest tells
    ∙ ap (λ (k : ℕ). best_below k (g.D.Disk.view c.args.disk.now).seen) eight)

pub returns-clause-known : goal.returns-clause-known
returns-clause-known g c =
    let eight : c.look.slot ≡ slot_count = omega arith in
    subst (λ (o : Option (ℕ × ℕ)). IfSome o (λ f. f.0 < slot_count)) (sym c.place_of.ensures)
    (place_known slot_count c.look.best
    (subst (λ (k : ℕ). IfSome c.look.best (λ f. f.0 < k)) eight c.look.invariant.known))
