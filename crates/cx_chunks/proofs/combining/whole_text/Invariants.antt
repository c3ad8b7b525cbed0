use Rattle.std.proofs.Common.{◌≡◌, take}
use Rattle.std.specs.List.{flat_map}
use Rattle.cx_plan.specs.Setups.{setup_of}
use Rattle.cx_chunks.specs.Combining.{text_at}
use Rattle.cx_chunks.proofs.combining.whole_text.Given as goal

abbrev pub invariant-iterations : goal.invariant-iterations
invariant-iterations l =
    l.text
    ≡ flat_map (text_at (setup_of l.job) l.cut l.chunks l.info)
    (take l.iteration-index l.iteration-items)
