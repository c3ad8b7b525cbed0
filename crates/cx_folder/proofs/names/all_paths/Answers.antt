use Rattle.std.specs.Prelude.{string_bytes}
use Rattle.std.proofs.Common.{◌∙◌, ◌++◌, ◌∷◌, [], map, ap}
use Rattle.cx_folder.specs.Names.{Path, below, slot_path, old_output_path, named_path, chunk_path, recombined_path}
use Rattle.cx_folder.proofs.NamesLaws.{joined, pushed}
use Rattle.cx_folder.proofs.names.all_paths.Goals as goal

pub returns-clause-paths : goal.returns-clause-paths
returns-clause-paths c =
    let output = c.args.output.now in
    joined (map string_bytes c.new-paths.result.items)
    (map string_bytes c.add_slots.new.paths.items) (map string_bytes c.push.new.self.items)
    (map string_bytes c.add_names.new.paths.items) (map string_bytes c.add_chunks.new.paths.items)
    (map string_bytes c.push-2.new.self.items) (below (slot_path c.args.checkpoints.now) 8)
    (old_output_path output ∷ []) (map (named_path output) c.args.names.now)
    (below (chunk_path output) 512) (recombined_path output ∷ [])
    (ap (map string_bytes) c.new-paths.ensures.items) c.in_ok-add_slots.ensures
    (pushed string_bytes c.add_slots.new.paths.items c.push.new.self.items c.in_ok-in_folder.field-0
    c.in_ok-push.ensures.items
    ∙ ap (λ (p : Path). map string_bytes c.add_slots.new.paths.items ++ p ∷ [])
    c.in_ok-in_folder.ensures)
    c.in_ok-add_names.ensures.added c.in_ok-add_chunks.ensures
    (pushed string_bytes c.add_chunks.new.paths.items c.push-2.new.self.items
    c.in_ok-in_folder-2.field-0 c.in_ok-push-2.ensures.items
    ∙ ap (λ (p : Path). map string_bytes c.add_chunks.new.paths.items ++ p ∷ [])
    c.in_ok-in_folder-2.ensures)
