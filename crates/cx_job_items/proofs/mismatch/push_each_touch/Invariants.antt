use Rattle.std.proofs.Common.{◌≡◌, ◌++◌, take}
use Rattle.std.specs.List.{flat_map}
use Rattle.cx_order.specs.Texts.{touch_text}
use Rattle.cx_job_items.specs.Lookups.{world_of}
use Rattle.cx_job_items.proofs.mismatch.push_each_touch.Given as goal

abbrev pub invariant-touches : goal.invariant-touches
invariant-touches l = l.text
    ≡ l.fn.text ++ flat_map (touch_text (world_of l.lookup)) (take l.touch-index l.touches)
