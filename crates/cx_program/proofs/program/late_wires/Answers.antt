use Rattle.std.proofs.Common.{◌≡◌, ◌≤◌, ◌+◌, ◌++◌, ◌∷◌, [], List, length, length-append, arith, ap, sym, subst}
use Rattle.std.specs.List.{AllByRecursion}
use Rattle.cx_core.specs.Starts.{AreEmpty}
use Rattle.cx_wire.specs.Memory.{Carried, told_queue}
use Rattle.cx_program.proofs.WireLaws.{all_push}
use Rattle.cx_program.proofs.program.late_wires.Goals as goal

pub wires-preserved : goal.wires-preserved
wires-preserved c =
    let old = c.wires.wires.items in
    let wire = c.new.result in
    let items = c.in_ok-push.ensures.items in
    let parts = ap (λ (w : Carried). w.parts) c.new.ensures.new in
    record {
      many =
          let many = c.wires.invariant.many in
          let size = ap (λ (ws : List Carried). length ws) items in
          let more = length-append old (wire ∷ []) in
          omega (arith, many, size, more);
      empty =
          subst (AllByRecursion (λ (w : Carried). (512 ≤ w.parts) × AreEmpty (told_queue w)))
          (sym items)
          (all_push (λ (w : Carried). (512 ≤ w.parts) × AreEmpty (told_queue w)) old wire
          c.wires.invariant.empty (omega (arith, parts), c.new.ensures.empty));
    }
