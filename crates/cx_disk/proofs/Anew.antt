-- A file that is cut to nothing and written.
use Rattle.std.specs.Prelude.{ℕ, ◌+◌, ◌≤◌, ◌≡◌, min, max, List, ◌++◌, length}
use Rattle.std.proofs.Common.{◌∙◌, ap, arith}
use Rattle.std.proofs.lemmas.List.{append-nil, drop_all, length-take}
use Rattle.cx_disk.specs.Disk.{OthersSame, Changes, Torn, CutShort, Front, Holds, Anew, NoLonger, View, Passes}
use Rattle.cx_disk.specs.Moments.{Stepped}
use Rattle.cx_disk.proofs.Moments.{stepped_at_start, stepped_more}

-- what is written to nothing is all that there is
pub written_alone : (bytes old mid new : List ℕ) → Front 0 old mid → Holds 0 bytes mid new
    → Anew bytes old new
written_alone bytes old mid new cut holds =
    let none : length mid ≡ min 0 (length old) = ap length cut ∙ length-take 0 old in
    holds ∙ ap (λ (l : List ℕ). bytes ++ l) (drop_all (0 + length bytes) mid (omega arith))
    ∙ append-nil bytes

cut_no_longer : (count : ℕ) (a b c : List ℕ) → NoLonger count a b → CutShort 0 b c
    → NoLonger count a c
cut_no_longer count a b c so_far cut =
    let front : length c ≡ min (length c) (length b) =
    ap length cut.front ∙ length-take (length c) b in
    omega (arith, so_far)

torn_no_longer : (count : ℕ) (a b c : List ℕ) → NoLonger count a b → Torn 0 count b c
    → NoLonger count a c
torn_no_longer count a b c so_far torn =
    let most : length c ≤ max (length b) (0 + count) = torn.no_longer in
    omega (arith, so_far)

-- once the file is cut, and once it is written too
pub emptied : (count file : ℕ) (old new : View) → OthersSame file old.seen new.seen
    → Passes (Changes (CutShort 0) file) old new → Stepped (NoLonger count) file old new
emptied count file old new others passes =
    stepped_more {step = NoLonger count} {more = CutShort 0} (cut_no_longer count)
    (stepped_at_start {step = NoLonger count} old (λ bytes. omega arith)) others passes

pub refilled : (count file : ℕ) (old mid new : View) → Stepped (NoLonger count) file old mid
    → OthersSame file mid.seen new.seen → Passes (Changes (Torn 0 count) file) mid new
    → Stepped (NoLonger count) file old new
refilled count file old mid new first others passes =
    stepped_more {step = NoLonger count} {more = Torn 0 count} (torn_no_longer count)
    first others passes
