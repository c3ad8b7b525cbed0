use Rattle.std.proofs.Common.{◌∙◌, sym, ap, List, ℕ}
use Rattle.std.specs.Option.{option_copied}
use Rattle.std.specs.List.{find}
use Rattle.cx_order_entries.specs.Entries.{is_group}
use Rattle.cx_order_entries.specs.Seen.{seen_entry}
use Rattle.cx_order_entries.proofs.NameLaws.{group-some, group-none}
use Rattle.cx_order_entries.proofs.names.group_text.Goals as goal

pub returns-in-Some : goal.returns-in-Some
returns-in-Some c =
    let xs = c.args.entries.now in
    group-some xs c.args.name.now c.as_slice-in-Some.result.now c.in-Some.entry.now
    (ap (λ (n : List ℕ). find (λ e. is_group n (seen_entry e)) xs) (sym c.as_slice.ensures)
    ∙ (sym c.first_block.ensures ∙ ap option_copied c.in-Some.is)) c.as_slice-in-Some.ensures

pub returns-in-None : goal.returns-in-None
returns-in-None c =
    let xs = c.args.entries.now in
    group-none xs c.args.name.now c.as_slice-in-None.result.now
    (ap (λ (n : List ℕ). find (λ e. is_group n (seen_entry e)) xs) (sym c.as_slice.ensures)
    ∙ (sym c.first_block.ensures ∙ ap option_copied c.in-None.is)) c.as_slice-in-None.ensures
