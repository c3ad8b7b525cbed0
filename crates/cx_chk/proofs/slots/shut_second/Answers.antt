use Rattle.std.proofs.Common.{rules, ◌≡◌, ℕ, Bool, true, sym, ◌∙◌, ap}
use Rattle.std.specs.Prelude.{Some, option_map}
use Rattle.cx_chk.specs.Slots.{header_of, is_second, mark_of}
use Rattle.cx_chk.proofs.Choosing.{mark_header, mark_second}
use Rattle.cx_chk.proofs.Shutting.{gate_down}
use Rattle.cx_chk.proofs.Seconds.{shut_one}
use Rattle.cx_chk.proofs.slots.shut_second.Goals as goal

pub returns-in-Some-default-true-clause-after : goal.returns-in-Some-default-true-clause-after
returns-in-Some-default-true-clause-after g c = λ tells.
    let old = g.D.Disk.view c.args.disk.now in
    let bytes = old.seen c.args.slot in
    let mark : ℕ × Bool = (c.in-Some-default-true.field-0-0, c.in-Some-default-true.field-0-1) in
    let is : Some mark ≡ mark_of bytes =
    sym c.in-Some-default-true.is ∙ c.in_ok-mark.ensures.value tells in
    let open_ : header_of bytes ≡ Some c.in-Some-default-true.field-0-0 =
    mark_header bytes ∙ ap (option_map (λ (m : ℕ × Bool). m.0)) (sym is) in
    let by_test : c.in-Some-default-true.field-0-1 ≡ true = search rules in
    let second : is_second bytes ≡ true = sym (mark_second bytes mark is) ∙ by_test in
    shut_one c.args.slot old (g.D.Disk.view c.put.new.disk) second
    (gate_down c.args.slot old (g.D.Disk.view c.mark.new.disk) (c.mark.ensures.quiet tells)
    (c.requires.settled tells) (g.D.Disk.view c.put.new.disk)
    c.in-Some-default-true.field-0-0 open_ (c.put.ensures.after tells))
