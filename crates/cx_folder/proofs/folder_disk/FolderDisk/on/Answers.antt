use Rattle.std.proofs.Common.{◌≡◌, length, rules}
use Rattle.cx_folder.proofs.PlacedLaws.{fresh_placed}
use Rattle.cx_folder.proofs.folder_disk.FolderDisk.on.Goals as goal

pub invariant_of-result : goal.invariant_of-result
invariant_of-result g c =
    let many : length c.in_ok-files.files.items ≡ c.count.result = search rules in
    fresh_placed c.args.folder c.in_ok-files.files.items c.in_ok-places.places c.count.result
    c.count.ensures.all many c.in_ok-files.ensures.shut c.requires.fresh
