use Rattle.std.proofs.Common.{◌≡◌, ◌≤◌, Some, slice_get, refl, ap, subst, sym, ◌∙◌}
use Rattle.cx_core_events.specs.declared.standing.Next.TheVariants as next
use Rattle.cx_core_events.specs.Events.{events}
use Rattle.cx_core.specs.Cores.{Cores}
use Rattle.cx_core.specs.Steps.{RisesWithin, counts, event_costs}
use Rattle.cx_core.proofs.RiseLaws.{stays}
use Rattle.cx_core.proofs.RunningLaws.{part_goes, part_there, parts_same, writes_next, can_be_written, part_does, write_does, end_does}
use Rattle.cx_core.proofs.machine.Core.step.Goals as goal

pub returns-in_ok-go-in-Part-clause-does : goal.returns-in_ok-go-in-Part-clause-does
returns-in_ok-go-in-Part-clause-does g c = λ b begins first at.
    part_does _ c.args.job.now _ c.run_laws.ensures c.args.self.now _ _ c.args.k b begins first at
    c.in-Part.part
    (subst (λ (s : Cores). slice_get (events s.pace) c.args.k ≡ Some (next.Part c.in-Part.part))
    c.self.view_is (c.event.ensures ∙ ap Some c.in-Part.is))
    _ _ _ (c.in_ok-go-in-Part.ensures.goes b begins first)

pub returns-in-Write-clause-does : goal.returns-in-Write-clause-does
returns-in-Write-clause-does g c = λ b begins first at.
    write_does _ c.args.job.now _ c.run_laws.ensures c.args.self.now _ _ c.args.k b begins first at
    (subst (λ (s : Cores). slice_get (events s.pace) c.args.k ≡ Some next.Write) c.self.view_is
    (c.event.ensures ∙ ap Some c.in-Write.is))
    _ _ c.write.ensures

pub returns-in_ok-end-in-End-clause-does : goal.returns-in_ok-end-in-End-clause-does
returns-in_ok-end-in-End-clause-does g c = λ b begins first at.
    end_does _ c.args.job.now _ c.run_laws.ensures c.args.self.now _ _ c.args.k b begins first at
    (subst (λ (s : Cores). slice_get (events s.pace) c.args.k ≡ Some next.End) c.self.view_is
    (c.event.ensures ∙ ap Some c.in-End.is))
    _ c.in_ok-end-in-End.ensures

pub go-requires-clause-part : goal.go-requires-clause-part
go-requires-clause-part g c =
    part_there _ c.args.job.now _ c.run_laws.ensures c.args.self.now _ _ c.args.k c.requires.there
    c.in-Part.part
    (subst (λ (s : Cores). slice_get (events s.pace) c.args.k ≡ Some (next.Part c.in-Part.part))
    c.self.view_is (c.event.ensures ∙ ap Some c.in-Part.is))

pub go-requires-clause-going : goal.go-requires-clause-going
go-requires-clause-going g c =
    part_goes _ c.args.job.now _ c.run_laws.ensures c.args.self.now _ _ c.args.k c.requires.there
    c.in-Part.part
    (subst (λ (s : Cores). slice_get (events s.pace) c.args.k ≡ Some (next.Part c.in-Part.part))
    c.self.view_is (c.event.ensures ∙ ap Some c.in-Part.is))

pub write-requires-clause-going : goal.write-requires-clause-going
write-requires-clause-going g c =
    writes_next _ c.args.job.now _ c.run_laws.ensures c.args.self.now _ _ c.args.k c.requires.there
    (subst (λ (s : Cores). slice_get (events s.pace) c.args.k ≡ Some next.Write) c.self.view_is
    (c.event.ensures ∙ ap Some c.in-Write.is))

pub write-requires-clause-can : goal.write-requires-clause-can
write-requires-clause-can g c =
    can_be_written _ c.args.job.now _ c.run_laws.ensures c.args.self.now _ _ c.args.k
    c.requires.there
    (subst (λ (s : Cores). slice_get (events s.pace) c.args.k ≡ Some next.Write) c.self.view_is
    (c.event.ensures ∙ ap Some c.in-Write.is))

pub go-requires-clause-parts : goal.go-requires-clause-parts
go-requires-clause-parts g c =
    subst (λ n. n ≤ g.W.Wire.parts c.args.wire.now)
    (sym (parts_same _ c.args.job.now _ c.run_laws.ensures c.args.self.now _ _ c.args.k
    c.requires.there)) c.requires.parts

pub returns-in_ok-go-in-Part-clause-rises : goal.returns-in_ok-go-in-Part-clause-rises
returns-in_ok-go-in-Part-clause-rises g c = λ r of.
    subst (λ e. RisesWithin (event_costs r c.args.self.now.pace e)
    (counts c.args.meter.now (g.W.Wire.received c.args.wire.now) (g.W.Wire.sum c.args.wire.now))
    (counts c.go.new.meter (g.W.Wire.received c.go.new.wire) (g.W.Wire.sum c.go.new.wire)))
    (sym (subst (λ (s : Cores). slice_get (events s.pace) c.args.k
    ≡ Some (next.Part c.in-Part.part))
    c.self.view_is (c.event.ensures ∙ ap Some c.in-Part.is)))
    (c.in_ok-go-in-Part.ensures.rises r of)

pub returns-in_ok-end-in-End-clause-rises : goal.returns-in_ok-end-in-End-clause-rises
returns-in_ok-end-in-End-clause-rises g c = λ r of. stays _ _ _ refl refl

pub returns-in_err-go-in-Part-clause-rises : goal.returns-in_err-go-in-Part-clause-rises
returns-in_err-go-in-Part-clause-rises g c = λ r of.
    subst (λ e. RisesWithin (event_costs r c.args.self.now.pace e)
    (counts c.args.meter.now (g.W.Wire.received c.args.wire.now) (g.W.Wire.sum c.args.wire.now))
    (counts c.go.new.meter (g.W.Wire.received c.go.new.wire) (g.W.Wire.sum c.go.new.wire)))
    (sym (subst (λ (s : Cores). slice_get (events s.pace) c.args.k
    ≡ Some (next.Part c.in-Part.part))
    c.self.view_is (c.event.ensures ∙ ap Some c.in-Part.is)))
    (c.in_err-go-in-Part.ensures.rises r of)

pub returns-in_err-end-in-End-clause-rises : goal.returns-in_err-end-in-End-clause-rises
returns-in_err-end-in-End-clause-rises g c = λ r of. stays _ _ _ refl refl

pub returns-in-Write-clause-rises : goal.returns-in-Write-clause-rises
returns-in-Write-clause-rises g c = λ r of. stays _ _ _ refl refl
