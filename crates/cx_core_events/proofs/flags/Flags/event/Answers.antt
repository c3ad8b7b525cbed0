use Rattle.std.proofs.Common.{◌∙◌, ap, arith, sym}
use Rattle.std.specs.Prelude.{slice_get}
use Rattle.cx_core_events.specs.Events.{places_of}
use Rattle.cx_core_events.proofs.FlagLaws.{part_event, no_part_event, writer_event, past_event}
use Rattle.cx_core_events.proofs.flags.Flags.event.Goals as goal

pub nth_flag-requires : goal.nth_flag-requires
nth_flag-requires c = rw c.as_slice.ensures.value c.requires

pub returns-in-Some : goal.returns-in-Some
returns-in-Some c = λ p h.
    part_event p c.args.self.now h c.args.k c.in-Some.part c.if-k-self.true
    (sym c.in-Some.is ∙ c.nth_flag.ensures
    ∙ ap (λ xs. slice_get (places_of 0 xs) c.args.k) c.as_slice.ensures.value)

pub returns-in-None : goal.returns-in-None
returns-in-None c = λ p h.
    absurd (no_part_event p c.args.self.now h c.args.k c.if-k-self.true
    (sym c.in-None.is ∙ c.nth_flag.ensures
    ∙ ap (λ xs. slice_get (places_of 0 xs) c.args.k) c.as_slice.ensures.value))

pub returns-then-k-self-2 : goal.returns-then-k-self-2
returns-then-k-self-2 c = λ p h. writer_event p c.args.self.now h c.args.k c.if-k-self-2.true

pub returns-else-k-self-2 : goal.returns-else-k-self-2
returns-else-k-self-2 c = λ p h.
    let a = c.if-k-self.false in
    let b = c.if-k-self-2.false in
    past_event p c.args.self.now h c.args.k (omega (arith, a, b))
