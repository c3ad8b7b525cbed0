-- What the network's theorem asks of the run's end, from what is owed of single operations and
-- works.
use Rattle.std.proofs.Common.{◌≡◌, ℕ, ◌+◌, ◌<◌, ◌⊎◌, inl, inr, true, false, List, Option, arith, MatchOption}
use Rattle.std.specs.List.{list_any, range_with_len}
use Rattle.std.proofs.lemmas.Bool.{or_parts}
use Rattle.law_network.specs.Machine.{IsWork}
use Rattle.law_network.specs.Agreement.{Ends, takes}
use Rattle.cx_model.specs.Runs.{Lengths}
use Rattle.law_parts.specs.Holding.{Held}
use Rattle.law_parts.specs.Runs.{Run, Oracle, next_op, undivided, op_of, last_of, first_from, parts_in}
use Rattle.law_parts.specs.Moves.{Message, Channel, receiver, Moves}
use Rattle.law_parts.specs.Truths.{script, piece_at, Agrees, Books, is_faulty, is_full, ends_at}
use Rattle.law_parts.specs.Nets.{Nearness, net}
use Rattle.law_parts.proofs.FirstLaws.{first_within, first_before, first_at, or_either, none_of, some_of}

-- of single operations and works, where wires tell
pub record OwedEnds (tells : Type 0) (Near : Nearness) (r : Run) (oracle : Oracle) : Type 0 where
  pub faults : (k n : ℕ) (x : Held) (mails : Channel → List (Message tells)) → k < parts_in r
      → n < last_of r oracle → Agrees tells r oracle k n x
      → ((c : Channel) → receiver c ≡ k → mails c ≡ takes (script tells r oracle) c n)
      → (o : Option Held) → Moves tells r k x mails (next_op r x.control) o
      → MatchOption o (is_faulty r k (op_of r n) (undivided r n) ≡ true)
      (λ y. is_faulty r k (op_of r n) (undivided r n) ≡ false)
  pub bursts : (n : ℕ) (b : Lengths) (pieces : ℕ → List (Message tells))
      → IsWork (net tells Near r oracle) n → n < last_of r oracle → Books tells r n b
      → ((k : ℕ) → k < parts_in r → pieces k ≡ piece_at tells r oracle k n)
      → (o : Option Lengths) → (net tells Near r oracle).Writes n pieces b o
      → MatchOption o (is_full r n ≡ true) (λ c. is_full r n ≡ false)
  -- the first place at which the output is too long is that of a work
  pub full_work : (n : ℕ) → is_full r n ≡ true → ((m : ℕ) → m < n → is_full r m ≡ false)
      → IsWork (net tells Near r oracle) n

module _ (tells : Type 0) (Near : Nearness) (r : Run) (oracle : Oracle)
    (owed : OwedEnds tells Near r oracle) where
  abbrev end_place : ℕ
  end_place = first_from (last_of r oracle) 0 (ends_at r)

  none_before : (n : ℕ) → n < end_place
      → (list_any (λ k. is_faulty r k (op_of r n) (undivided r n)) (range_with_len 0 (parts_in r))
      ≡ false) × (is_full r n ≡ false)
  none_before n l = or_parts
      (list_any (λ k. is_faulty r k (op_of r n) (undivided r n)) (range_with_len 0 (parts_in r)))
      (is_full r n) (first_before (last_of r oracle) 0 n (ends_at r) (omega arith) l)

  pub all_ends : Ends (net tells Near r oracle) (script tells r oracle) (Agrees tells r oracle)
      (Books tells r)
  all_ends = record {
    faults = owed.faults;
    bursts = owed.bursts;
    within = omega (arith, first_within (last_of r oracle) 0 (ends_at r));
    quiet = λ k n l h. none_of (λ j. is_faulty r j (op_of r n) (undivided r n)) 0 (parts_in r) k
        (none_before n h).0 (omega arith) (omega arith);
    fitting = λ n l w. (none_before n l).1;
    cause = cause (first_at (last_of r oracle) 0 (ends_at r));
  }
    where
      met_there : (list_any (λ k. is_faulty r k (op_of r end_place) (undivided r end_place))
          (range_with_len 0 (parts_in r)) ≡ true) ⊎ (is_full r end_place ≡ true)
          → ((k : ℕ) × (k < parts_in r)
          × (is_faulty r k (op_of r end_place) (undivided r end_place) ≡ true))
          ⊎ (IsWork (net tells Near r oracle) end_place × (is_full r end_place ≡ true))
      met_there (inl h) = let x =
          some_of (λ j. is_faulty r j (op_of r end_place) (undivided r end_place)) 0 (parts_in r)
          h in inl (x.0, omega (arith, x.1), x.2)
      met_there (inr h) = inr (owed.full_work end_place h (λ m l. (none_before m l).1), h)

      cause : (end_place ≡ 0 + last_of r oracle) ⊎ (ends_at r end_place ≡ true)
          → (end_place ≡ last_of r oracle)
          ⊎ (((k : ℕ) × (k < parts_in r)
          × (is_faulty r k (op_of r end_place) (undivided r end_place) ≡ true))
          ⊎ (IsWork (net tells Near r oracle) end_place × (is_full r end_place ≡ true)))
      cause (inl e) = inl (omega arith)
      cause (inr e) =
          inr (met_there (or_either
          (list_any (λ k. is_faulty r k (op_of r end_place) (undivided r end_place))
          (range_with_len 0 (parts_in r))) (is_full r end_place) e))
