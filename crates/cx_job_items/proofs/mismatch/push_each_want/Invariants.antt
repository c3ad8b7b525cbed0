use Rattle.std.proofs.Common.{◌≡◌, ◌++◌, take}
use Rattle.std.specs.List.{flat_map}
use Rattle.cx_job_items.specs.Matching.{touch_of, want_text}
use Rattle.cx_job_items.specs.Lookups.{world_of}
use Rattle.cx_job_items.proofs.mismatch.push_each_want.Given as goal

abbrev pub invariant-wants : goal.invariant-wants
invariant-wants l = l.text
    ≡ l.fn.text ++ flat_map
    (λ want. want_text (world_of l.lookup) want (touch_of (world_of l.lookup) l.lookup.thorn want))
    (take l.want-index l.wants)
