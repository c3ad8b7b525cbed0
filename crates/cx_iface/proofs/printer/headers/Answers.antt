use Rattle.std.proofs.Common.{◌≡◌, List, ◌++◌, ◌∙◌, append_assoc}
use Rattle.cx_text.specs.declared.token.Token.{Token}
use Rattle.cx_iface.proofs.printer.headers.Goals as goal

joined : (old a b d x y z : List Token) → x ≡ old ++ a → y ≡ x ++ b → z ≡ y ++ d
    → z ≡ old ++ (a ++ (b ++ d))
joined old a b d x y z p q r = r ∙ rw (q, p) (simp append_assoc)

pub returns : goal.returns
returns c = rw (← c.as_slice.ensures, ← c.as_slice-2.ensures, ← c.as_slice-3.ensures)
    (joined _ _ _ _ _ _ _ c.in_ok-name_line.ensures c.in_ok-header.ensures c.in_ok-header-2.ensures)
