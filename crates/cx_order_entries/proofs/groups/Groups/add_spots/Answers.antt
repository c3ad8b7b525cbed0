use Rattle.std.proofs.Common.{◌≡◌, ◌+◌, sym, subst, drop}
use Rattle.cx_order_entries.specs.declared.groups.Groups.{Groups}
use Rattle.cx_order_entries.specs.Members.{texts, IsTied}
use Rattle.cx_text.specs.Lexemes.{same_name}
use Rattle.cx_order_entries.proofs.OnceLaws.{come}
use Rattle.cx_order_entries.proofs.GroupLaws.{spot_names, spot-inside, spot-at, come-next, come-same}
use Rattle.cx_order_entries.proofs.groups.Groups.add_spots.Goals as goal
use Rattle.cx_order_entries.proofs.groups.Groups.add_spots.Goals.{in-Inside+in_ok-add-in-Inside, in-At}

pub entries-preserved : goal.entries-preserved
entries-preserved c =
    let xs = c.args.entries.now in
    let i = c.entries.entry-index in
    let x = c.entry-item.result in
    let w = come same_name (texts c.args.self.now) (spot_names xs) in
    let there = texts c.entries.self in
    elim c.match-entry.branch [
      | in-Inside+in_ok-add-in-Inside b ↦ (
          let N : Groups → Type 0 =
          λ g. come same_name (texts g) (spot_names (drop (i + 1) xs)) ≡ w in
          let T : Groups → Type 0 = λ g. IsTied g in
          record {
            tied = subst T (sym b.self-is) b.in_ok-add-in-Inside.ensures.tied;
            names = subst N (sym b.self-is)
                (come-next there (texts b.add.new.self) b.in-Inside.name (spot_names (drop i xs))
                (spot_names (drop (i + 1) xs)) w
                (spot-inside xs i x c.entries-test.true c.entry-item.is b.in-Inside.name
                b.in-Inside.is) b.in_ok-add-in-Inside.ensures.names c.entries.invariant.names);
          })
      | in-At b ↦ (
          let N : Groups → Type 0 =
          λ g. come same_name (texts g) (spot_names (drop (i + 1) xs)) ≡ w in
          let T : Groups → Type 0 = λ g. IsTied g in
          record {
            tied = subst T (sym b.self-is) c.entries.invariant.tied;
            names = subst N (sym b.self-is)
                (come-same there (spot_names (drop i xs)) (spot_names (drop (i + 1) xs)) w
                (spot-at xs i x c.entries-test.true c.entry-item.is b.in-At.field-0 b.in-At.is)
                c.entries.invariant.names);
          })
    ]
