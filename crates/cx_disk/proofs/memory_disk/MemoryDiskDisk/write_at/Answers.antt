use Rattle.std.proofs.Common.{◌≡◌, ℕ, ◌+◌, ◌++◌, List, length, take, drop, subst, rules}
use Rattle.cx_disk.specs.Disk.{Files, Changes, Torn}
use Rattle.cx_disk.specs.Memory.{reading}
use Rattle.cx_disk.proofs.Memory.{reading_own, reading_others, passes_noted}
use Rattle.cx_disk.proofs.memory_disk.MemoryDiskDisk.write_at.Goals as goal

pub returns-clause-written : goal.returns-clause-written
returns-clause-written c =
    let same : c.new-bytes.result ≡ c.args.bytes.now = search rules in
    subst (λ (b : List ℕ). reading c.change.new.self c.args.file
    ≡ take c.args.at (reading c.args.self.now c.args.file) ++ b
    ++ drop (c.args.at + length b) (reading c.args.self.now c.args.file)) same
    (reading_own c.args.self.now c.change.new.self _ c.in_ok-change.ensures.ok)

pub returns-clause-others : goal.returns-clause-others
returns-clause-others c =
    λ other ne. reading_others c.args.self.now c.change.new.self _ other c.in_ok-change.ensures.ok
    ne

pub returns-clause-after : goal.returns-clause-after
returns-clause-after c =
    let same : c.new-bytes.result ≡ c.args.bytes.now = search rules in
    passes_noted (Changes (Torn c.args.at (length c.args.bytes.now)) c.args.file)
    c.args.self.now c.change.new.self _ c.in_ok-change.ensures.ok
    (λ seen images d left. subst
    (λ (b : List ℕ). (e : Files) × images e
    × Changes (Torn c.args.at (length b)) c.args.file e d) same left)
