use Rattle.std.specs.Prelude.{string_bytes}
use Rattle.std.proofs.Common.{◌≡◌, map, rules}
use Rattle.cx_folder.specs.Names.{chunk_path}
use Rattle.cx_folder.proofs.NamesLaws.{below_none, pushed_below}
use Rattle.cx_folder.proofs.names.add_chunks.Goals as goal

pub chunks-init : goal.chunks-init
chunks-init c = below_none (map string_bytes c.args.paths.now.items) (chunk_path c.args.folder.now)

pub chunks-preserved : goal.chunks-preserved
chunks-preserved c =
    let one : string_bytes c.in_ok-format.field-0
    ≡ chunk_path c.args.folder.now c.chunks.part-counter =
    search rules in
    pushed_below string_bytes (chunk_path c.args.folder.now) c.args.paths.now.items
    c.chunks.paths.items c.push.new.self.items c.in_ok-format.field-0 c.chunks.part-counter
    c.chunks.invariant c.in_ok-push.ensures.items one
