-- The wire's faults as those of the exchange.
use Rattle.cx_wire.specs.declared.wire.WireFault.{WireFault}
use Rattle.cx_wire.specs.declared.wire.WireFault.TheVariants as wire
use Rattle.cx_ghost.specs.declared.faults.PostFault.{PostFault}
use Rattle.cx_ghost.specs.declared.faults.PostFault.TheVariants as post

abbrev pub post_fault : WireFault → PostFault
post_fault wire.Failed = post.Wire
post_fault wire.Memory = post.Memory
