-- An output file that is cut record by record.
use Rattle.std.proofs.Common.{◌≡◌, ℕ, suc, ◌+◌, ◌-◌, ◌^◌, ◌≤◌, ◌&&◌, min, Bool, true, false, eqb, List, [], ◌∷◌, ◌++◌, length, map, Option, Some, None, refl, sym, ap, subst, ◌∙◌, append_assoc, arith}
use Rattle.std.specs.Prelude.{nat_lt, if◌then◌else◌}
use Rattle.std.specs.List.{list_all}
use Rattle.std.proofs.lemmas.Bool.{eqb-false}
use Rattle.std.proofs.lemmas.List.{append-nil, length_push}
use Rattle.cx_plan.specs.declared.variable.VarInfo.{VarInfo}
use Rattle.cx_plan.specs.Setups.{Setup}
use Rattle.cx_cut.specs.Cuts.{Parts}
use Rattle.cx_ascii_read.specs.declared.record.Record.{Record}
use Rattle.cx_ascii_read.specs.declared.words.Stop.{Stop}
use Rattle.cx_ascii_read.specs.declared.words.Stop.TheVariants as stops
use Rattle.cx_ascii_read.specs.Records.{IsRecord, record_text}
use Rattle.cx_ascii_read.specs.Reading.{◌>>=◌, Stops, record_at}
use Rattle.cx_ascii_read.proofs.WordLaws.{bind_some, goes_where}
use Rattle.cx_ascii_read.proofs.RecordLaws.{record_field, no_record}
use Rattle.cx_chunks.specs.Cutting.{AddsRecord, AddsVariable, sizes_in}
use Rattle.cx_chunks.proofs.TextLaws.{none_yet}
use Rattle.cx_run_chunks.specs.Entries.{found, records_of}
use Rattle.cx_run_chunks.specs.Next.{is_next, next_record}
use Rattle.cx_run_chunks.specs.Commands.{if_output, is_output_of, is_record_of, is_rising_from, output_in}
use Rattle.cx_run_chunks.proofs.EntryLaws.{AreTaken, all_taken, gets_shorter, none_taken, not_entries, one_left, one_taken, with_taken}

-- ---- the test of an output, record by record

-- each of these records may be the next one
abbrev passes : List ℕ → List ℕ → Option ℕ → List Record → Bool
passes full size last [] = true
passes full size last (r ∷ rs) =
    is_next full size last r && passes full size (Some r.iteration) rs

pairs_swapped : (a b c d : Bool) → ((a && b) && (c && d)) ≡ ((a && c) && (b && d))
pairs_swapped false b c d = refl
pairs_swapped true b true d = refl
pairs_swapped true true false d = refl
pairs_swapped true false false d = refl

first_swapped : (a b d : Bool) → ((a && b) && d) ≡ ((a && true) && (b && d))
first_swapped false b d = refl
first_swapped true b d = refl

passes_after : (setup : Setup) (v : VarInfo) (n : ℕ) (rs : List Record)
    → (list_all (is_record_of setup v) rs
    && is_rising_from n (map (λ (r : Record). r.iteration) rs))
    ≡ passes v.full (sizes_in setup v) (Some n) rs
passes_after setup v n [] = refl
passes_after setup v n (r ∷ rs) =
    pairs_swapped (is_record_of setup v r) (list_all (is_record_of setup v) rs)
    (nat_lt n r.iteration) (is_rising_from r.iteration (map (λ (q : Record). q.iteration) rs))
    ∙ ap (λ (b : Bool). (is_record_of setup v r && nat_lt n r.iteration) && b)
    (passes_after setup v r.iteration rs)

passes_all : (setup : Setup) (v : VarInfo) (rs : List Record)
    → is_output_of setup v rs ≡ passes v.full (sizes_in setup v) None rs
passes_all setup v [] = refl
passes_all setup v (r ∷ rs) =
    first_swapped (is_record_of setup v r) (list_all (is_record_of setup v) rs)
    (is_rising_from r.iteration (map (λ (q : Record). q.iteration) rs))
    ∙ ap (λ (b : Bool). (is_record_of setup v r && true) && b)
    (passes_after setup v r.iteration rs)

-- ---- what is in front

pub some_left : (rest : List ℕ) (empty : Bool) → empty ≡ eqb (length rest) 0 → empty ≡ false
    → rest ≡ [] → ⊥
some_left rest empty is some none = eqb-false (length rest) 0 (sym is ∙ some) (ap length none)

record IsFront (full size : List ℕ) (last : Option ℕ) (rest : List ℕ) (r : Record)
    (after : List ℕ) : Type 0 where
  pub read : record_at rest ≡ Some (r, after)
  pub next : is_next full size last r ≡ true

front_is : (full size : List ℕ) (last : Option ℕ) (rest : List ℕ) (r : Record) (after : List ℕ)
    → next_record full size last rest ≡ Some (r, after) → IsFront full size last rest r after
unfolding next_record
front_is full size last rest r after h =
    let a = bind_some (record_at rest) _ (r, after) h in
    let g = goes_where (is_next full size last a.0.0) a.0 (r, after) a.2 in
    subst (λ (x : Record × List ℕ). IsFront full size last rest x.0 x.1) g.1
    (record { read = a.1; next = g.0 })

pub less_left : (full size : List ℕ) (last : Option ℕ) (rest : List ℕ) (r : Record)
    (after : List ℕ) → next_record full size last rest ≡ Some (r, after)
    → suc (length after) ≤ length rest
less_left full size last rest r after h =
    gets_shorter record_text record_at IsRecord record_field no_record rest r after
    (front_is full size last rest r after h).read

-- ---- the loop

-- Some records of an output file are cut into the texts of chunks, and the rest isn't read yet.
pub record IsTaken (setup : Setup) (v : VarInfo) (c : Parts) (bytes : List ℕ)
    (old now : List (List ℕ)) (rest : List ℕ) (last : Option ℕ) (count : ℕ) : Type 0 where
  pub taken : List Record
  pub read : AreTaken record_at bytes taken rest
  pub left : (more : List Record)
      → is_output_of setup v (taken ++ more) ≡ passes v.full (sizes_in setup v) last more
  pub many : count ≡ min (length taken) (2 ^ 64 - 1)
  pub texts : AddsVariable c taken old now

none_counted : (top : ℕ) → 0 ≡ min 0 top
none_counted top = omega arith

one_counted : (n m count next top : ℕ) → count ≡ min n top → m ≡ n + 1
    → next ≡ min (count + 1) top → next ≡ min m top
one_counted n m count next top before more is = omega arith

pub taken_none : (setup : Setup) (v : VarInfo) (c : Parts) (bytes : List ℕ)
    (texts : List (List ℕ)) → IsTaken setup v c bytes texts texts bytes None 0
taken_none setup v c bytes texts = record {
  taken = [];
  read = none_taken record_at bytes;
  left = λ more. passes_all setup v more;
  many = none_counted (2 ^ 64 - 1);
  texts = none_yet c texts;
}

module _ (setup : Setup) (v : VarInfo) (c : Parts) (bytes : List ℕ) (old now : List (List ℕ))
    (rest : List ℕ) (last : Option ℕ) (count : ℕ)
    (so_far : IsTaken setup v c bytes old now rest last count) where
  pub taken_more : (r : Record) (after : List ℕ) (new : List (List ℕ)) (next : ℕ)
      → (rest ≡ [] → ⊥) → next_record v.full (sizes_in setup v) last rest ≡ Some (r, after)
      → AddsRecord c r now new → next ≡ min (count + 1) (2 ^ 64 - 1)
      → IsTaken setup v c bytes old new after (Some r.iteration) next
  taken_more r after new next some h adds is =
      let front = front_is v.full (sizes_in setup v) last rest r after h in
      record {
        taken = so_far.taken ++ r ∷ [];
        read = one_taken record_at bytes so_far.taken rest so_far.read r after some front.read
            (less_left v.full (sizes_in setup v) last rest r after h);
        left = λ more. ap (is_output_of setup v) (append_assoc so_far.taken (r ∷ []) more)
            ∙ so_far.left (r ∷ more)
            ∙ ap (λ (b : Bool). b && passes v.full (sizes_in setup v) (Some r.iteration) more)
            front.next;
        many = one_counted (length so_far.taken) (length (so_far.taken ++ r ∷ [])) count next
            (2 ^ 64 - 1) so_far.many (length_push so_far.taken r) is;
        texts = λ done before. adds done so_far.taken (so_far.texts done before);
      }

  -- a record that isn't the next one of the output
  other_record : (r : Record) (others : Option (List Record))
      → is_next v.full (sizes_in setup v) last r ≡ false
      → records_of bytes ≡ with_taken so_far.taken (others >>= λ os. Some (r ∷ os))
      → output_in setup v bytes ≡ None
  other_record r None other read =
      ap (λ (o : Option (List Record)). o >>= if_output setup v) read
  other_record r (Some os) other read =
      let rs = so_far.taken ++ r ∷ os in
      let not : is_output_of setup v rs ≡ false =
      so_far.left (r ∷ os)
      ∙ ap (λ (b : Bool). b && passes v.full (sizes_in setup v) (Some r.iteration) os) other in
      ap (λ (o : Option (List Record)). o >>= if_output setup v) read
      ∙ ap (λ (b : Bool). if b then Some rs else None) not

  none_where : {X : Type 0} (b : Bool) (x : X) → (if b then Some x else None) ≡ None → b ≡ false
  none_where true x e = absurd cc
  none_where false x e = refl

  pub taken_stops : (e : Stop) → (rest ≡ [] → ⊥)
      → Stops e (next_record v.full (sizes_in setup v) last rest)
      → Stops e (output_in setup v bytes)
  unfolding next_record
  taken_stops stops.Memory some h = tt
  taken_stops stops.Other some h = by (record_at rest) refl h
    where
      by : (o : Option (Record × List ℕ)) → record_at rest ≡ o
          → (o >>= λ x. if is_next v.full (sizes_in setup v) last x.0 then Some x else None) ≡ None
          → output_in setup v bytes ≡ None
      by None read e =
          ap (λ (p : Option (List Record)). p >>= if_output setup v)
          (not_entries record_at bytes so_far.taken rest so_far.read some read)
      by (Some x) read e =
          let l = one_left record_at bytes so_far.taken rest so_far.read x.0 x.1 some read in
          other_record x.0 l.0
          (none_where (is_next v.full (sizes_in setup v) last x.0) x e) l.1

  module _ (none : rest ≡ []) where
    pub all_read : records_of bytes ≡ Some so_far.taken
    all_read = all_taken record_at bytes so_far.taken rest so_far.read none

    is_output : is_output_of setup v so_far.taken ≡ true
    is_output = ap (is_output_of setup v) (sym (append-nil so_far.taken)) ∙ so_far.left []

    -- the file is the output, and all of its records are counted and cut
    pub taken_output : output_in setup v bytes ≡ Some (found (records_of bytes))
    taken_output =
        ap (λ (o : Option (List Record)). o >>= if_output setup v) all_read
        ∙ ap (λ (b : Bool). if b then Some so_far.taken else None) is_output
        ∙ ap (λ (o : Option (List Record)). Some (found o)) (sym all_read)

    pub taken_count : count ≡ min (length (found (records_of bytes))) (2 ^ 64 - 1)
    taken_count = so_far.many
        ∙ ap (λ (o : Option (List Record)). min (length (found o)) (2 ^ 64 - 1)) (sym all_read)

    pub taken_texts : AddsVariable c (found (records_of bytes)) old now
    taken_texts = subst (λ (o : Option (List Record)). AddsVariable c (found o) old now)
        (sym all_read) so_far.texts
