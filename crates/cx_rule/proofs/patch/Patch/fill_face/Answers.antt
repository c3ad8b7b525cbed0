use Rattle.cx_rule.proofs.FillLaws.{filled_buffered}
use Rattle.cx_rule.proofs.patch.Patch.fill_face.Goals as goal

pub returns : goal.returns
returns c =
    let f = rw (c.as_slice.ensures, c.as_slice-2.ensures, c.halo-layers.ensures.value)
    at c.fill.ensures in
    let are = rw (← c.self.view_is) at c.requires.vars in
    rw (← c.self.view_is) (filled_buffered c.self.inside.part c.fill.new.self c.self.inside.staged
    c.self.inside.window.room c.args.vars.now _ c.args.values.now are f)
