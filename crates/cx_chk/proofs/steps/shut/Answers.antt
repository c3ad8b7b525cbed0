use Rattle.std.proofs.Common.{◌≡◌, sym, ◌∙◌, drop}
use Rattle.std.proofs.lemmas.Result.{on_ok_weaker}
use Rattle.std.specs.Prelude.{Some, None}
use Rattle.cx_disk.proofs.Moments.{stepped_call}
use Rattle.cx_chk.specs.Slots.{header_of}
use Rattle.cx_chk.proofs.Bytes.{cut_shut}
use Rattle.cx_chk.proofs.Shutting.{gate_down, emptied, cut_behind, gate_first}
use Rattle.cx_chk.proofs.steps.shut.Goals as goal

pub returns-in_err-put-in-Some-clause-after : goal.returns-in_err-put-in-Some-clause-after
returns-in_err-put-in-Some-clause-after g c = λ tells.
    let is : header_of ((g.D.Disk.view c.args.disk.now).seen c.args.slot) ≡ Some c.in-Some.field-0 =
    sym (c.in_ok-header.ensures.value tells) ∙ c.in-Some.is in
    gate_down c.args.slot (g.D.Disk.view c.args.disk.now) (g.D.Disk.view c.header.new.disk)
    (c.header.ensures.quiet tells) (c.requires.settled tells) (g.D.Disk.view c.put.new.disk)
    c.in-Some.field-0 is (c.put.ensures.after tells)

pub returns-in_err-trim-in-None-clause-after : goal.returns-in_err-trim-in-None-clause-after
returns-in_err-trim-in-None-clause-after g c = λ tells.
    let is : header_of ((g.D.Disk.view c.args.disk.now).seen c.args.slot) ≡ None =
    sym (c.in_ok-header.ensures.value tells) ∙ c.in-None.is in
    emptied c.args.slot (g.D.Disk.view c.args.disk.now) (g.D.Disk.view c.header.new.disk)
    (c.header.ensures.quiet tells) (c.requires.settled tells) (g.D.Disk.view c.trim.new.disk) is
    (c.trim.ensures.after tells)

pub returns-in_ok-put-in-Some-clause-after : goal.returns-in_ok-put-in-Some-clause-after
returns-in_ok-put-in-Some-clause-after g c = λ tells.
    let is : header_of ((g.D.Disk.view c.args.disk.now).seen c.args.slot) ≡ Some c.in-Some.field-0 =
    sym (c.in_ok-header.ensures.value tells) ∙ c.in-Some.is in
    let first = gate_down c.args.slot (g.D.Disk.view c.args.disk.now)
    (g.D.Disk.view c.header.new.disk) (c.header.ensures.quiet tells) (c.requires.settled tells)
    (g.D.Disk.view c.put.new.disk) c.in-Some.field-0 is (c.put.ensures.after tells) in
    let done = c.in_ok-put-in-Some.ensures.done tells in
    cut_behind c.args.slot _ (g.D.Disk.view c.args.disk.now) (g.D.Disk.view c.put.new.disk)
    (g.D.Disk.view c.cut.new.self)
    (drop 1 ((g.D.Disk.view c.header.new.disk).seen c.args.slot)) first
    (λ d now. done.settled d now ∙ done.changed)
    (stepped_call (c.cut.ensures.others tells) (c.cut.ensures.after tells))

pub returns-in_ok-put-in-Some-clause-shut : goal.returns-in_ok-put-in-Some-clause-shut
returns-in_ok-put-in-Some-clause-shut g c = λ tells.
    let done = c.in_ok-put-in-Some.ensures.done tells in
    on_ok_weaker c.cut.result (λ _ d now.
    let from = (c.cut.ensures.after tells).crash d now in
    cut_shut (drop 1 ((g.D.Disk.view c.header.new.disk).seen c.args.slot)) (d c.args.slot)
    (rw (← done.changed, ← done.settled from.0 from.1) from.2.this)) (c.cut.ensures.cut tells)

pub returns-in_ok-trim-in-None-clause-after : goal.returns-in_ok-trim-in-None-clause-after
returns-in_ok-trim-in-None-clause-after g c = λ tells.
    let is : header_of ((g.D.Disk.view c.args.disk.now).seen c.args.slot) ≡ None =
    sym (c.in_ok-header.ensures.value tells) ∙ c.in-None.is in
    let first = emptied c.args.slot (g.D.Disk.view c.args.disk.now)
    (g.D.Disk.view c.header.new.disk) (c.header.ensures.quiet tells) (c.requires.settled tells)
    (g.D.Disk.view c.trim.new.disk) is (c.trim.ensures.after tells) in
    let done = c.in_ok-trim-in-None.ensures.done tells in
    gate_first c.args.slot _ (g.D.Disk.view c.args.disk.now) (g.D.Disk.view c.trim.new.disk)
    (g.D.Disk.view c.put-in-None.new.disk) first (λ d now. done.settled d now ∙ done.changed)
    (c.put-in-None.ensures.after tells)
