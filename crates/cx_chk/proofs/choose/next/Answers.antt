use Rattle.std.proofs.Common.{◌≡◌, ◌<◌, ◌+◌, ℕ, sym, ◌∙◌, ap, subst, arith}
use Rattle.std.specs.Prelude.{Some, Option, IfSome}
use Rattle.cx_disk.proofs.Moments.{quiet_more}
use Rattle.cx_chk.specs.Slots.{header_of, OldestBelow}
use Rattle.cx_chk.proofs.Choosing.{oldest_more, older_known, next_closed, next_oldest}
use Rattle.cx_chk.proofs.choose.next.Goals as goal

pub look-preserved : goal.look-preserved
look-preserved g c =
    let inv = c.look.invariant in
    let h = c.header.ensures in
    record {
      mounted = h.kept.mounted;
      folders = h.kept.folders ∙ inv.folders;
      count = h.kept.count ∙ inv.count;
      faults = let a = inv.faults in let b = h.kept.cause.later in omega arith;
      quiet = λ tells. quiet_more (inv.quiet tells) (h.quiet tells);
      known = subst (λ (b : ℕ × ℕ). b.0 < c.look.slot + 1) (sym c.older_of.ensures)
          (older_known c.look.slot c.look.oldest c.in-Some.iteration inv.known);
      oldest = λ tells.
          subst (λ (b : ℕ × ℕ). OldestBelow (c.look.slot + 1) (g.D.Disk.view c.args.disk.now).seen
          (Some b)) (sym c.older_of.ensures)
          (oldest_more (g.D.Disk.view c.args.disk.now).seen c.look.slot c.look.oldest
          c.in-Some.iteration (inv.oldest tells)
          (sym c.in-Some.is ∙ c.in_ok-iteration.ensures.value tells
          ∙ ap header_of ((inv.quiet tells).same c.look.slot)));
    }

pub returns-in_default-clause-next : goal.returns-in_default-clause-next
returns-in_default-clause-next g c = λ tells.
    next_closed (g.D.Disk.view c.args.disk.now).seen c.args.keep c.look.slot c.look.oldest
    (let t = c.look-test.true in omega arith) (c.look.invariant.oldest tells)
    (sym c.in_default.is ∙ c.in_ok-iteration.ensures.value tells
    ∙ ap header_of ((c.look.invariant.quiet tells).same c.look.slot))

pub returns-in-Some-oldest-clause-next : goal.returns-in-Some-oldest-clause-next
returns-in-Some-oldest-clause-next g c = λ tells.
    let all : c.look.slot ≡ c.args.keep + 1 = omega arith in
    next_oldest (g.D.Disk.view c.args.disk.now).seen c.args.keep c.look.slot
    (c.in-Some-oldest.slot, c.in-Some-oldest.field-0-1) all
    (subst (λ b. OldestBelow c.look.slot (g.D.Disk.view c.args.disk.now).seen b) c.in-Some-oldest.is
    (c.look.invariant.oldest tells))

pub returns-in-Some-oldest-clause-known : goal.returns-in-Some-oldest-clause-known
returns-in-Some-oldest-clause-known g c =
    let all : c.look.slot ≡ c.args.keep + 1 = omega arith in
    let lt : c.in-Some-oldest.slot < c.look.slot =
    subst (λ (b : Option (ℕ × ℕ)). IfSome b (λ f. f.0 < c.look.slot))
    c.in-Some-oldest.is c.look.invariant.known in
    omega arith
