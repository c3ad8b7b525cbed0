use Rattle.std.proofs.Common.{◌∙◌, sym}
use Rattle.cx_job_items.specs.Matching.{touch_of}
use Rattle.cx_job_items.specs.Lookups.{world_of}
use Rattle.cx_job_items.proofs.MatchLaws.{had_one}
use Rattle.cx_job_items.proofs.lookup.Lookup.touches_of.Goals as goal

pub wants-preserved : goal.wants-preserved
wants-preserved c =
    had_one (touch_of (world_of c.args.self.now) c.args.self.now.thorn)
    c.args.wants.now c.wants.want-index c.want-item.result c.in-Some.touch c.wants.touches
    c.push.new.self
    c.wants-test.true c.want-item.is (sym c.in_ok-touch.ensures ∙ c.in-Some.is)
    c.wants.invariant c.in_ok-push-in-Some.ensures.ok
