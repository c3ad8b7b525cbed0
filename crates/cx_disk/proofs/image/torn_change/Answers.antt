use Rattle.cx_disk.proofs.image.torn_change.Goals as goal

pub returns-in-Cut : goal.returns-in-Cut
returns-in-Cut c = rw c.in-Cut.is c.torn_cut.ensures

pub returns-in-StoppedCut : goal.returns-in-StoppedCut
returns-in-StoppedCut c = rw c.in-StoppedCut.is c.torn_cut-in-StoppedCut.ensures

pub returns-in-Wrote : goal.returns-in-Wrote
returns-in-Wrote c = rw (c.in-Wrote.is, ← c.as_slice.ensures) c.torn_write.ensures

pub returns-in-StoppedWrite : goal.returns-in-StoppedWrite
returns-in-StoppedWrite c =
    rw (c.in-StoppedWrite.is, ← c.as_slice-in-StoppedWrite.ensures)
    c.torn_write-in-StoppedWrite.ensures
