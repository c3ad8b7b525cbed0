use Rattle.std.proofs.Common.{◌∙◌, [], ap, map, arith}
use Rattle.std.specs.Str.{bytes_eq}
use Rattle.cx_order_entries.specs.Members.{entries_of, key_name}
use Rattle.cx_order_entries.specs.Seen.{seen_entry}
use Rattle.cx_order_entries.proofs.OnceLaws.{come}
use Rattle.cx_order_entries.proofs.PairLaws.{names-next, names-all, length-lent}
use Rattle.cx_order_entries.proofs.pairs.names_at.Goals as goal
use Rattle.cx_text.specs.Bytes.{folded}

pub members-preserved : goal.members-preserved
members-preserved c =
    let es = entries_of (map seen_entry c.args.entries.now) c.args.members.now in
    names-next es c.members.number (seen_entry c.entry_at-entry.result.now)
    c.entry_at-entry.ensures c.members.names c.insert.new.self
    (come bytes_eq [] (map key_name es)) (folded c.as_slice.result.now)
    (ap folded (c.as_slice.ensures ∙ c.entry_name.ensures))
    c.in_ok-insert.ensures.added c.members.invariant

pub returns : goal.returns
returns c =
    let es = entries_of (map seen_entry c.args.entries.now) c.args.members.now in
    let size = length-lent c.args.entries.now c.args.members.now c.requires in
    let past = c.members-test.false in
    names-all es c.members.number (omega (arith, size, past)) c.members.names
    (come bytes_eq [] (map key_name es)) c.members.invariant
