use Rattle.std.proofs.Common.{◌≡◌, refl, pos, negsuc, [], ◌∷◌, codes}
use Rattle.std.specs.Fmt.{digits}
use Rattle.cx_ascii_read.specs.Records.{record_text}

cube : record_text
    (record {
      full = codes "cube";
      iteration = 7;
      size = 1 ∷ 2 ∷ 2 ∷ [];
      values = pos 1 ∷ pos 2 ∷ pos 3 ∷ negsuc 3 ∷ [];
    })
    ≡ codes "# cube iteration 7 size 1 2 2\n1\n2\n3\n-4\n\n"
unfolding digits
cube = refl

row : record_text
    (record {
      full = codes "ca::cell";
      iteration = 0;
      size = 8 ∷ [];
      values = pos 0 ∷ pos 0 ∷ pos 0 ∷ pos 1 ∷ pos 0 ∷ pos 0 ∷ pos 0 ∷ pos 0 ∷ [];
    })
    ≡ codes "# ca::cell iteration 0 size 8\n0 0 0 1 0 0 0 0\n\n"
unfolding digits
row = refl

total : record_text
    (record { full = codes "wave::total"; iteration = 20; size = []; values = pos 200 ∷ [] })
    ≡ codes "# wave::total iteration 20 value 200\n"
unfolding digits
total = refl
