use Rattle.std.proofs.Common.{rules}
use Rattle.cx_disk.specs.Image.{IsChosenOf}
use Rattle.cx_disk.proofs.Tearing.{chosen_image}
use Rattle.cx_disk.proofs.memory_disk.MemoryDisk.image.Goals as goal

pub returns-clause-image : goal.returns-clause-image
returns-clause-image c =
    let chosen : IsChosenOf c.args.choice c.args.self.now c.new-2.result = search rules in
    chosen_image c.args.choice c.args.self.now c.new-2.result c.new.result c.new-2.ensures.unmounted
    chosen
