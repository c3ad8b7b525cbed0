-- Events by flags.
use Rattle.std.proofs.Common.{◌≡◌, ℕ, zero, suc, ◌+◌, ◌<◌, ◌≤◌, ◌⊎◌, inl, inr, Bool, false, ltb, cond, List, [], ◌∷◌, ◌++◌, length, map, get_or, set, Option, Some, None, refl, sym, ap, ◌∙◌, arith, length-append}
use Rattle.std.specs.Prelude.{slice_get}
use Rattle.std.specs.List.{range_with_len}
use Rattle.std.specs.Option.{option_to_list, option_map}
use Rattle.std.proofs.lemmas.Bool.{cases_eq, le-ltb}
use Rattle.std.proofs.lemmas.List.{length-map, length-set, get_or-set_same, get_or-set_other}
use Rattle.std.proofs.lemmas.List.FromFn.{length-map-range_with_len}
use Rattle.cx_grid.specs.declared.shapes.Side.{Side}
use Rattle.cx_cut.specs.Neighbours.{partner}
use Rattle.cx_core_events.specs.declared.standing.Next.{Next}
use Rattle.cx_core_events.specs.declared.standing.Next.TheVariants as next
use Rattle.cx_core_events.specs.declared.flags.Flags.{Flags}
use Rattle.cx_core_events.specs.Paces.{Paces}
use Rattle.cx_core_events.specs.Events.{partner_at, can_go, places_of, parts_going, writer_going, events}
use Rattle.cx_core_events.specs.Flags.{HasFlags, IsRight, IsKept, IsAround}

pub event_count : (p : Paces) (f : Flags) → HasFlags p f
    → length (events p) ≡ f.going + length (option_to_list f.writer)
event_count p f h =
    length-append (map next.Part (parts_going p)) (option_to_list (writer_going p))
    ∙ ap (λ n. n + length (option_to_list (writer_going p)))
    (length-map (parts_going p) next.Part ∙ sym h.going)
    ∙ ap (λ o. f.going + length (option_to_list o)) (sym h.writer)

-- ---- flags one by one

pub one_flag : (xs : List Bool) (k : ℕ) (v : Bool) (f : ℕ → Bool) → k < length xs → v ≡ f k
    → ((j : ℕ) → j < k → get_or xs j false ≡ f j)
    → (j : ℕ) → j < k + 1 → get_or (set xs k v) j false ≡ f j
one_flag xs k v f l e h j m = go (cases_eq j k)
  where
    go : (j ≡ k) ⊎ (j ≡ k → ⊥) → get_or (set xs k v) j false ≡ f j
    go (inl i) = rw i (get_or-set_same xs k v false l ∙ e)
    go (inr i) = get_or-set_other xs k j v false i ∙ h j (omega (arith, m, i))

pub few_flags : (xs : List Bool) (f : ℕ → Bool) (n : ℕ) → xs ≡ map f (range_with_len 0 n) → n ≤ 512
    → length xs ≤ 512
few_flags xs f n e l = omega (arith, ap length e, length-map-range_with_len f 0 n, l)

pub same_count : (xs : List Bool) (f : ℕ → Bool) (n : ℕ) → xs ≡ map f (range_with_len 0 n)
    → length xs ≡ n
same_count xs f n e = ap length e ∙ length-map-range_with_len f 0 n

pub made : (p : Paces) (f : Flags)
    → f.parts.items ≡ map (can_go p) (range_with_len 0 (length p.parts)) → length p.parts ≤ 512
    → f.going ≡ length (places_of 0 f.parts.items) → f.going ≤ 512 → f.writer ≡ writer_going p
    → HasFlags p f
made p f parts few going going_few writer = record {
  few = few;
  parts = parts;
  going = going ∙ ap (λ xs. length (places_of 0 xs)) parts;
  going_few = going_few;
  writer = writer;
}

-- ---- the event of a number

pub get_append : {A : Type 0} (xs ys : List A) (k : ℕ) → k < length xs
    → slice_get (xs ++ ys) k ≡ slice_get xs k
get_append [] ys k l = absurd (omega (arith, l))
get_append (x ∷ xs) ys zero l = refl
get_append (x ∷ xs) ys (suc k) l = get_append xs ys k (omega (arith, l))

pub get_behind : {A : Type 0} (xs ys : List A) (k : ℕ)
    → slice_get (xs ++ ys) (length xs + k) ≡ slice_get ys k
get_behind [] ys k = let e : 0 + k ≡ k = omega arith in ap (slice_get ys) e
get_behind (x ∷ xs) ys k = let e : length (x ∷ xs) + k ≡ suc (length xs + k) = omega arith in
    ap (slice_get (x ∷ (xs ++ ys))) e ∙ get_behind xs ys k

get_past : {A : Type 0} (xs : List A) (k : ℕ) → length xs ≤ k → slice_get xs k ≡ None
get_past [] k l = refl
get_past (x ∷ xs) zero l = absurd (omega (arith, l))
get_past (x ∷ xs) (suc k) l = get_past xs k (omega (arith, l))

pub get_map : {A B : Type 0} (f : A → B) (xs : List A) (k : ℕ) (x : A) → slice_get xs k ≡ Some x
    → slice_get (map f xs) k ≡ Some (f x)
get_map f [] k x e = absurd cc
get_map f (y ∷ ys) zero x e = ap (λ o. option_map f o) e
get_map f (y ∷ ys) (suc k) x e = get_map f ys k x e

pub get_inside : {A : Type 0} (xs : List A) (k : ℕ) → k < length xs → slice_get xs k ≡ None → ⊥
get_inside [] k l e = absurd (omega (arith, l))
get_inside (x ∷ xs) zero l e = absurd cc
get_inside (x ∷ xs) (suc k) l e = get_inside xs k (omega (arith, l)) e

first_of : (o : Option Next) → slice_get (option_to_list o) 0 ≡ o
first_of None = refl
first_of (Some x) = refl

module _ (p : Paces) (f : Flags) (h : HasFlags p f) (k : ℕ) where
  going_length : length (map next.Part (parts_going p)) ≡ f.going
  going_length = length-map (parts_going p) next.Part ∙ sym h.going

  flags_going : parts_going p ≡ places_of 0 f.parts.items
  flags_going = ap (places_of 0) (sym h.parts)

  pub part_event : (part : ℕ) → k < f.going → Some part ≡ slice_get (places_of 0 f.parts.items) k
      → Some (next.Part part) ≡ slice_get (events p) k
  part_event part l e =
      sym (get_append (map next.Part (parts_going p)) (option_to_list (writer_going p)) k
      (omega (arith, going_length, l))
      ∙ get_map next.Part (parts_going p) k part (ap (λ xs. slice_get xs k) flags_going ∙ sym e))

  pub no_part_event : k < f.going → None ≡ slice_get (places_of 0 f.parts.items) k → ⊥
  no_part_event l e = get_inside (parts_going p) k (omega (arith, h.going, l))
      (ap (λ xs. slice_get xs k) flags_going ∙ sym e)

  pub writer_event : k ≡ f.going → f.writer ≡ slice_get (events p) k
  writer_event e =
      let at : k ≡ length (map next.Part (parts_going p)) + 0 = omega (arith, e, going_length) in
      sym (ap (slice_get (events p)) at
      ∙ get_behind (map next.Part (parts_going p)) (option_to_list (writer_going p)) 0
      ∙ first_of (writer_going p) ∙ sym h.writer)

  none_length : length (option_to_list (writer_going p)) ≤ 1
  none_length = go (writer_going p)
    where
      go : (o : Option Next) → length (option_to_list o) ≤ 1
      go None = omega arith
      go (Some x) = omega arith

  pub past_event : f.going < k → None ≡ slice_get (events p) k
  past_event l =
      sym (get_past (events p) k
      (omega (
        arith,
        length-append (map next.Part (parts_going p))
            (option_to_list (writer_going p)),
        going_length,
        none_length,
        l,
      )))

-- ---- flags set one after another

pub none_set : (p : Paces) (flags : List Bool) → IsKept p flags flags
none_set p flags = record { count = refl; kept = λ i h. h }

pub one_set : (p : Paces) (flags : List Bool) (k : ℕ) (v : Bool) → k < length flags → v ≡ can_go p k
    → IsKept p flags (set flags k v)
one_set p flags k v l e =
    record { count = length-set flags k v; kept = λ i h. go i h (cases_eq i k) }
  where
    go : (i : ℕ) → IsRight p flags i → (i ≡ k) ⊎ (i ≡ k → ⊥) → IsRight p (set flags k v) i
    go i h (inl at) = rw at (get_or-set_same flags k v false l ∙ e)
    go i h (inr off) = get_or-set_other flags k i v false off ∙ h

pub both_set : (p : Paces) (a b c : List Bool) → IsKept p a b → IsKept p b c → IsKept p a c
both_set p a b c x y = record { count = y.count ∙ x.count; kept = λ i h. y.kept i (x.kept i h) }

pub around_all : (q : Paces) (k : ℕ) (a b c d : List Bool) → IsKept q a b → IsKept q b c
    → IsKept q c d
    → ((side : Side) (j : ℕ) → partner_at q.cut k 0 side ≡ Some j → j < length a → IsRight q b j)
    → ((side : Side) (j : ℕ) → partner_at q.cut k 1 side ≡ Some j → j < length b → IsRight q c j)
    → ((side : Side) (j : ℕ) → partner_at q.cut k 2 side ≡ Some j → j < length c → IsRight q d j)
    → IsAround q k a d
around_all q k a b c d x y z f g h =
    record { keeps = both_set q a c d (both_set q a b c x y) z; around = at }
  where
    at : (n : ℕ) (side : Side) (j : ℕ) → partner_at q.cut k n side ≡ Some j → j < length a
        → IsRight q d j
    at zero side j e l = z.kept j (y.kept j (f side j e l))
    at (suc zero) side j e l = z.kept j (g side j e (let m = x.count in omega (arith, l, m)))
    at (suc (suc zero)) side j e l =
        h side j e (let m = x.count in let o = y.count in omega (arith, l, m, o))
    at (suc (suc (suc n))) side j e l = absurd (none (partner q.cut k (suc (suc (suc n))) side) e)
      where
        none : (o : Option ℕ) → cond (ltb (suc (suc (suc n))) 3) o None ≡ Some j → ⊥
        none o e = some (sym (ap (λ t. cond t o None) (le-ltb (suc (suc (suc n))) 3 (omega arith)))
            ∙ e)
          where
            some : None ≡ Some j → ⊥
            some e = cc
