use Rattle.std.proofs.Common.{◌≡◌, ◌++◌, take}
use Rattle.std.specs.List.{flat_map}
use Rattle.cx_order.specs.Texts.{touch_text}
use Rattle.cx_order.specs.Worlds.{world_of}
use Rattle.cx_order.proofs.entry_text.push_each_touch.Given as goal

abbrev pub invariant-touches : goal.invariant-touches
invariant-touches l = l.text
    ≡ l.fn.text ++ flat_map (touch_text (world_of l.context)) (take l.touch-index l.touches)
