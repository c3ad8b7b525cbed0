-- Reading items one after the other, as a loop does.
use Rattle.std.proofs.Common.{◌≡◌, ℕ, suc, ◌-◌, ◌+◌, ◌≤◌, ◌<◌, List, [], ◌∷◌, ◌++◌, Option, Some, None, refl, sym, ap, ◌∙◌, append_assoc, arith}
use Rattle.std.proofs.lemmas.List.{append-nil}
use Rattle.cx_chk.specs.declared.reading.Stop.{Stop}
use Rattle.cx_chk.specs.declared.reading.Stop.TheVariants as stops
use Rattle.cx_chk.specs.Reading.{◌>>=◌, Stops, some_at}

-- what was read before, and what is still read
abbrev pub with_front : {A : Type 0} → List A → Option (List A × List ℕ) → Option (List A × List ℕ)
with_front front read = read >>= λ x. Some (front ++ x.0, x.1)

module _ {A : Type 0} (read : List ℕ → Option (A × List ℕ)) where
  regroup : (front : List A) (n : A) (more : Option (List A × List ℕ))
      → with_front front (more >>= λ x. Some (n ∷ x.0, x.1)) ≡ with_front (front ++ n ∷ []) more
  regroup front n (Some x) = ap (λ (ns : List A). Some (ns, x.1)) (simp append_assoc)
  regroup front n None = refl

  pub goes_on : (front : List A) (count i : ℕ) (bytes : List ℕ) (n : A) (after : List ℕ)
      (total : Option (List A × List ℕ)) → i < count → read bytes ≡ Some (n, after)
      → with_front front (some_at read (count - i) bytes) ≡ total
      → with_front (front ++ n ∷ []) (some_at read (count - (i + 1)) after) ≡ total
  unfolding some_at
  goes_on front count i bytes n after total lt h so_far =
      let k : count - i ≡ suc (count - (i + 1)) = omega arith in
      let one : with_front front (some_at read (count - i) bytes)
      ≡ with_front (front ++ n ∷ []) (some_at read (count - (i + 1)) after) =
      rw (k, h) (regroup front n (some_at read (count - (i + 1)) after)) in
      sym one ∙ so_far

  pub ends : (e : Stop) (front : List A) (count i : ℕ) (bytes : List ℕ)
      (total : Option (List A × List ℕ)) → i < count → Stops e (read bytes)
      → with_front front (some_at read (count - i) bytes) ≡ total → Stops e total
  unfolding some_at
  ends stops.Memory front count i bytes total lt h so_far = tt
  ends stops.Other front count i bytes total lt h so_far =
      let k : count - i ≡ suc (count - (i + 1)) = omega arith in
      let one : with_front front (some_at read (count - i) bytes) ≡ None = rw (k, h) refl in
      sym so_far ∙ one

  pub is_done : (front : List A) (count i : ℕ) (bytes : List ℕ) (total : Option (List A × List ℕ))
      → count ≤ i → with_front front (some_at read (count - i) bytes) ≡ total
      → total ≡ Some (front, bytes)
  unfolding some_at
  is_done front count i bytes total le so_far =
      let k : count - i ≡ 0 = omega arith in
      let one : with_front front (some_at read (count - i) bytes) ≡ Some (front, bytes) =
      rw k (ap (λ (ns : List A). Some (ns, bytes)) (append-nil front)) in
      sym so_far ∙ one
