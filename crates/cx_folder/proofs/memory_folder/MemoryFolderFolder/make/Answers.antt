use Rattle.std.proofs.Common.{subst}
use Rattle.cx_folder.specs.Names.{Path}
use Rattle.cx_folder.specs.Memory.{IsMade}
use Rattle.cx_folder.proofs.MemoryLaws.{made_there, made_reads, made_passes, made_opened}
use Rattle.cx_folder.proofs.memory_folder.MemoryFolderFolder.make.Goals as goal

made_of : (c : goal.After-made_at) → IsMade c.args.path.now c.args.self.now c.made_at.new.self
    c.made_at.result
made_of c = subst (λ (p : Path). IsMade p c.args.self.now c.made_at.new.self c.made_at.result)
    c.as_bytes.ensures.value c.made_at.ensures.made

pub returns-clause-there : goal.returns-clause-there
returns-clause-there c = λ t. made_there c.args.path.now c.args.self.now c.made_at.new.self
    c.made_at.result (made_of c)

pub returns-clause-makes : goal.returns-clause-makes
returns-clause-makes c = λ t. made_reads c.args.path.now c.args.self.now c.made_at.new.self
    c.made_at.result (made_of c)

pub returns-clause-after : goal.returns-clause-after
returns-clause-after c = λ t. made_passes c.args.path.now c.args.self.now c.made_at.new.self
    c.made_at.result (made_of c)

pub returns-clause-opened : goal.returns-clause-opened
returns-clause-opened c = λ t. made_opened c.args.path.now c.args.self.now c.made_at.new.self
    c.made_at.result (made_of c)
