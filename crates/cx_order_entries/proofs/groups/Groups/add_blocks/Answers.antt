use Rattle.std.proofs.Common.{◌≡◌, ◌+◌, sym, subst, drop}
use Rattle.cx_order_entries.specs.declared.groups.Groups.{Groups}
use Rattle.cx_order_entries.specs.Members.{texts, IsTied}
use Rattle.cx_text.specs.Lexemes.{same_name}
use Rattle.cx_order_entries.proofs.OnceLaws.{come}
use Rattle.cx_order_entries.proofs.GroupLaws.{block_names, block-yes, block-no, come-next, come-same}
use Rattle.cx_order_entries.proofs.groups.Groups.add_blocks.Goals as goal
use Rattle.cx_order_entries.proofs.groups.Groups.add_blocks.Goals.{then-entry+in_ok-add, else-entry}

pub entries-preserved : goal.entries-preserved
entries-preserved c =
    let xs = c.args.entries.now in
    let i = c.entries.entry-index in
    let x = c.entry-item.result in
    let w = come same_name (texts c.args.self.now) (block_names xs) in
    let there = texts c.entries.self in
    elim c.if-entry.branch [
      | then-entry+in_ok-add b ↦ (
          let N : Groups → Type 0 =
          λ g. come same_name (texts g) (block_names (drop (i + 1) xs)) ≡ w in
          let T : Groups → Type 0 = λ g. IsTied g in
          record {
            tied = subst T (sym b.self-is) b.in_ok-add.ensures.tied;
            names = subst N (sym b.self-is)
                (come-next there (texts b.add.new.self) x.block.now.name (block_names (drop i xs))
                (block_names (drop (i + 1) xs)) w
                (block-yes xs i x c.entries-test.true c.entry-item.is b.if-entry.true)
                b.in_ok-add.ensures.names c.entries.invariant.names);
          })
      | else-entry b ↦ (
          let N : Groups → Type 0 =
          λ g. come same_name (texts g) (block_names (drop (i + 1) xs)) ≡ w in
          let T : Groups → Type 0 = λ g. IsTied g in
          record {
            tied = subst T (sym b.self-is) c.entries.invariant.tied;
            names = subst N (sym b.self-is)
                (come-same there (block_names (drop i xs)) (block_names (drop (i + 1) xs)) w
                (block-no xs i x c.entries-test.true c.entry-item.is b.if-entry.false)
                c.entries.invariant.names);
          })
    ]
