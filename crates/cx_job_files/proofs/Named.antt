-- Going along the files of a shelf.
use Rattle.std.proofs.Common.{◌≡◌, ℕ, ◌+◌, ◌<◌, ◌≤◌, List, [], ◌∷◌, length, drop, slice_index_or, nat_eq, Bool, true, false, Some, None, if◌then◌else◌, zero, suc, arith, refl, ap, add-one}
use Rattle.std.specs.Cmp.Lexicographic.{pointwise}
use Rattle.cx_job_files.specs.Shelf.{looked_up}

skipped_suc : (files : List (List ℕ × List ℕ)) (i : ℕ) (d : List ℕ × List ℕ) (name : List ℕ)
    → i < length files → pointwise nat_eq (slice_index_or files i d).0 name ≡ false
    → looked_up (drop i files) name ≡ looked_up (drop (suc i) files) name
skipped_suc [] i d name h e = absurd (omega arith)
skipped_suc (f ∷ files) zero d name h e =
    ap (λ (b : Bool). if b then Some f.1 else looked_up files name) e
skipped_suc (f ∷ files) (suc i) d name h e = skipped_suc files i d name (omega arith) e

pub skipped : (files : List (List ℕ × List ℕ)) (i : ℕ) (d : List ℕ × List ℕ) (name : List ℕ)
    → i < length files → pointwise nat_eq (slice_index_or files i d).0 name ≡ false
    → looked_up (drop (i + 1) files) name ≡ looked_up (drop i files) name
skipped files i d name h e = rw (add-one, skipped_suc files i d name h e)

pub met : (files : List (List ℕ × List ℕ)) (i : ℕ) (d : List ℕ × List ℕ) (name : List ℕ)
    → i < length files → pointwise nat_eq (slice_index_or files i d).0 name ≡ true
    → looked_up (drop i files) name ≡ Some (slice_index_or files i d).1
met [] i d name h e = absurd (omega arith)
met (f ∷ files) zero d name h e = ap (λ (b : Bool). if b then Some f.1 else looked_up files name) e
met (f ∷ files) (suc i) d name h e = met files i d name (omega arith) e

pub none_left : (files : List (List ℕ × List ℕ)) (i : ℕ) (name : List ℕ) → length files ≤ i
    → looked_up (drop i files) name ≡ None
none_left [] zero name h = refl
none_left [] (suc i) name h = refl
none_left (f ∷ files) zero name h = absurd (omega arith)
none_left (f ∷ files) (suc i) name h = none_left files i name (omega arith)
