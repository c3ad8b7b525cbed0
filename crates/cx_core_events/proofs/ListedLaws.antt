-- The list of events has each event that can happen, once.
use Rattle.std.proofs.Common.{◌≡◌, ℕ, zero, suc, ◌+◌, ◌-◌, ◌<◌, ◌≤◌, ◌⊎◌, inl, inr, Bool, true, false, List, [], ◌∷◌, length, map, get_or, Option, Some, None, refl, sym, ap, ◌∙◌, subst, arith}
use Rattle.std.specs.Prelude.{slice_get}
use Rattle.std.specs.List.{range_with_len}
use Rattle.std.specs.Option.{option_to_list}
use Rattle.std.proofs.lemmas.Bool.{cases_lt}
use Rattle.std.proofs.lemmas.List.{length-map}
use Rattle.std.proofs.lemmas.List.FromFn.{length-map-range_with_len, get_or-map-range_with_len}
use Rattle.law_parts.specs.Laws.{IsReachedState}
use Rattle.law_parts.specs.Runs.{Run, Oracle}
use Rattle.law_parts.proofs.WholeRun.{IsRun}
use Rattle.cx_core_events.specs.declared.standing.Next.{Next}
use Rattle.cx_core_events.specs.declared.standing.Next.TheVariants as next
use Rattle.cx_core_events.specs.Paces.{Paces}
use Rattle.cx_core_events.specs.Events.{can_go, places_of, parts_going, writer_by, all_in, all_stand, writer_going, events}
use Rattle.cx_core_events.specs.Shows.{State, ShowsPace, CanHappen, AreEvents}
use Rattle.cx_core_events.proofs.FlagLaws.{get_append, get_behind, get_map}
use Rattle.cx_core_events.proofs.EventLaws.{can_true, true_can, write_true, true_write, end_true, true_end}

same_some : {A : Type 0} (x y : A) → Some x ≡ Some y → x ≡ y
same_some x y e = cc

some_none : {A : Type 0} (x : A) → None ≡ Some x → ⊥
some_none x e = cc

-- ---- places of flags

-- a place in the list, as the number of a flag that is set
pub record IsSet (place : ℕ) (flags : List Bool) (a : ℕ) : Type 0 where
  pub from : place ≤ a
  pub inside : a < place + length flags
  pub set : get_or flags (a - place) false ≡ true

later : (place a : ℕ) (b : Bool) (flags : List Bool) → IsSet (suc place) flags a
    → IsSet place (b ∷ flags) a
later place a b flags h =
    let f = h.from in
    let i = h.inside in
    let e : a - place ≡ suc (a - suc place) = omega (arith, f) in
    record {
      from = omega (arith, f);
      inside = omega (arith, i);
      set = ap (λ n. get_or (b ∷ flags) n false) e ∙ h.set;
    }

pub place_set : (flags : List Bool) (place k a : ℕ) → slice_get (places_of place flags) k ≡ Some a
    → IsSet place flags a
place_set [] place k a e = absurd (some_none a e)
place_set (true ∷ flags) place zero a e =
    let s = same_some place a e in
    let z : a - place ≡ 0 = omega (arith, s) in
    record {
      from = omega (arith, s);
      inside = omega (arith, s);
      set = ap (λ n. get_or (true ∷ flags) n false) z;
    }
place_set (true ∷ flags) place (suc k) a e =
    later place a true flags (place_set flags (suc place) k a e)
place_set (false ∷ flags) place k a e =
    later place a false flags (place_set flags (suc place) k a e)

pub set_place : (flags : List Bool) (place i : ℕ) → i < length flags → get_or flags i false ≡ true
    → (k : ℕ) × (slice_get (places_of place flags) k ≡ Some (place + i))
set_place [] place i l e = absurd (omega (arith, l))
set_place (true ∷ flags) place zero l e = let z : place ≡ place + 0 = omega arith in (0, ap Some z)
set_place (false ∷ flags) place zero l e = absurd cc
set_place (true ∷ flags) place (suc i) l e =
    let more = set_place flags (suc place) i (omega (arith, l)) e in
    let z : suc place + i ≡ place + suc i = omega arith in
    (suc more.0, more.1 ∙ ap Some z)
set_place (false ∷ flags) place (suc i) l e =
    let more = set_place flags (suc place) i (omega (arith, l)) e in
    let z : suc place + i ≡ place + suc i = omega arith in
    (more.0, more.1 ∙ ap Some z)

pub place_once : (flags : List Bool) (place i k a : ℕ)
    → slice_get (places_of place flags) i ≡ Some a → slice_get (places_of place flags) k ≡ Some a
    → i ≡ k
place_once [] place i k a e f = absurd (some_none a e)
place_once (false ∷ flags) place i k a e f = place_once flags (suc place) i k a e f
place_once (true ∷ flags) place zero zero a e f = refl
place_once (true ∷ flags) place zero (suc k) a e f = let b =
    (place_set flags (suc place) k a f).from in let s = same_some place a e in
    absurd (omega (arith, b, s))
place_once (true ∷ flags) place (suc i) zero a e f = let b =
    (place_set flags (suc place) i a e).from in let s = same_some place a f in
    absurd (omega (arith, b, s))
place_once (true ∷ flags) place (suc i) (suc k) a e f =
    ap suc (place_once flags (suc place) i k a e f)

-- ---- a list of one kind, and one of another

get_below : {A : Type 0} (xs : List A) (k : ℕ) (x : A) → slice_get xs k ≡ Some x → k < length xs
get_below [] k x e = absurd (some_none x e)
get_below (y ∷ ys) zero x e = omega arith
get_below (y ∷ ys) (suc k) x e = omega (arith, get_below ys k x e)

mapped : {A B : Type 0} (f : A → B) (xs : List A) (k : ℕ) (y : B) → slice_get (map f xs) k ≡ Some y
    → (x : A) × (slice_get xs k ≡ Some x) × (f x ≡ y)
mapped f [] k y e = absurd (some_none y e)
mapped f (x ∷ xs) zero y e = (x, refl, same_some (f x) y e)
mapped f (x ∷ xs) (suc k) y e = mapped f xs k y e

only_one : (o : Option Next) (k : ℕ) (e : Next) → slice_get (option_to_list o) k ≡ Some e
    → (k ≡ 0) × (o ≡ Some e)
only_one None k e h = absurd (some_none e h)
only_one (Some x) zero e h = (refl, h)
only_one (Some x) (suc k) e h = absurd (some_none e h)

same_part : (a b : ℕ) → next.Part a ≡ next.Part b → a ≡ b
same_part a b e = cc

no_part_event : (a b c : Bool) (k : ℕ) → writer_by a b c ≡ Some (next.Part k) → ⊥
no_part_event true b c k e = cc
no_part_event false true c k e = cc
no_part_event false false true k e = cc
no_part_event false false false k e = cc

module _ (p : Paces) where
  abbrev flags : List Bool
  flags = map (can_go p) (range_with_len 0 (length p.parts))

  abbrev parts : List Next
  parts = map next.Part (parts_going p)

  -- of the parts, or of the writer
  pub listed : (k : ℕ) (e : Next) → slice_get (events p) k ≡ Some e
      → ((a : ℕ) × (e ≡ next.Part a) × (slice_get (parts_going p) k ≡ Some a))
      ⊎ ((k ≡ length parts) × (writer_going p ≡ Some e))
  listed k e h = go (cases_lt k (length parts))
    where
      go : (k < length parts) ⊎ (length parts ≤ k)
          → ((a : ℕ) × (e ≡ next.Part a) × (slice_get (parts_going p) k ≡ Some a))
          ⊎ ((k ≡ length parts) × (writer_going p ≡ Some e))
      go (inl l) =
          let x = mapped next.Part (parts_going p) k e
          (sym (get_append parts (option_to_list (writer_going p)) k l) ∙ h) in
          inl (x.0, sym x.2, x.1)
      go (inr l) =
          let at : length parts + (k - length parts) ≡ k = omega (arith, l) in
          let x = only_one (writer_going p) (k - length parts) e
          (sym (get_behind parts (option_to_list (writer_going p)) (k - length parts))
          ∙ ap (slice_get (events p)) at ∙ h) in
          inr ((let z = x.0 in omega (arith, at, z)), x.1)

  part_goes : (k a : ℕ) → slice_get (parts_going p) k ≡ Some a
      → (a < length p.parts) × (can_go p a ≡ true)
  part_goes k a e =
      let s = place_set flags 0 k a e in
      let l : a < length p.parts = let i = s.inside in
      omega (arith, i, length-map-range_with_len (can_go p) 0 (length p.parts)) in
      let z : a - 0 ≡ a = omega arith in (
        l,
        sym (get_or-map-range_with_len (can_go p) 0 (length p.parts) a a false l (omega arith))
            ∙ ap (λ n. get_or flags n false) (sym z) ∙ s.set,
      )

  goes_part : (a : ℕ) → a < length p.parts → can_go p a ≡ true
      → (k : ℕ) × (slice_get (events p) k ≡ Some (next.Part a))
  goes_part a l e =
      let s = set_place flags 0 a
      (omega (arith, l, length-map-range_with_len (can_go p) 0 (length p.parts)))
      (get_or-map-range_with_len (can_go p) 0 (length p.parts) a a false l (omega arith) ∙ e) in
      let z : 0 + a ≡ a = omega arith in
      let there : slice_get (parts_going p) s.0 ≡ Some a = s.1 ∙ ap Some z in
      let below : s.0 < length parts =
      omega (arith, get_below (parts_going p) s.0 a there, length-map (parts_going p) next.Part)
      in (
        s.0,
        get_append parts (option_to_list (writer_going p)) s.0 below
            ∙ get_map next.Part (parts_going p) s.0 a there,
      )

  writer_last : (e : Next) → writer_going p ≡ Some e → (k : ℕ) × (slice_get (events p) k ≡ Some e)
  writer_last e h = (
    length parts + 0,
    get_behind parts (option_to_list (writer_going p)) 0
        ∙ ap (λ o. slice_get (option_to_list o) 0) h,
  )

  pub once : (i k : ℕ) (e : Next) → slice_get (events p) i ≡ Some e
      → slice_get (events p) k ≡ Some e → i ≡ k
  once i k e g h = go (listed i e g) (listed k e h)
    where
      go : ((a : ℕ) × (e ≡ next.Part a) × (slice_get (parts_going p) i ≡ Some a))
          ⊎ ((i ≡ length parts) × (writer_going p ≡ Some e))
          → ((a : ℕ) × (e ≡ next.Part a) × (slice_get (parts_going p) k ≡ Some a))
          ⊎ ((k ≡ length parts) × (writer_going p ≡ Some e)) → i ≡ k
      go (inl x) (inl y) =
          let s = same_part x.0 y.0 (sym x.1 ∙ y.1) in
          place_once flags 0 i k y.0 (x.2 ∙ ap Some s) y.2
      go (inl x) (inr y) = absurd
          (no_part_event p.over (all_in p) (all_stand p) x.0 (y.1 ∙ ap Some x.1))
      go (inr x) (inl y) = absurd
          (no_part_event p.over (all_in p) (all_stand p) y.0 (x.1 ∙ ap Some y.1))
      go (inr x) (inr y) = x.0 ∙ sym y.0

module _ (tells : Type 0) (r : Run) (run : IsRun r) (oracle : Oracle) (w : State tells) (p : Paces)
    (st : IsReachedState tells r oracle w) (sh : ShowsPace tells r oracle w p) where
  by_writer : (e : Next) → writer_going p ≡ Some e → CanHappen tells r oracle w e
  by_writer (next.Part k) h = absurd (no_part_event p.over (all_in p) (all_stand p) k h)
  by_writer next.Write h = write_true tells r run oracle w p st sh h
  by_writer next.End h = end_true tells r run oracle w p st sh h

  happens : (k : ℕ) (e : Next) → slice_get (events p) k ≡ Some e → CanHappen tells r oracle w e
  happens k e h = go (listed p k e h)
    where
      go : ((a : ℕ) × (e ≡ next.Part a) × (slice_get (parts_going p) k ≡ Some a))
          ⊎ ((k ≡ length (parts p)) × (writer_going p ≡ Some e)) → CanHappen tells r oracle w e
      go (inl x) =
          let g = part_goes p k x.0 x.2 in
          subst (CanHappen tells r oracle w) (sym x.1)
          (can_true tells r run oracle w p st sh x.0 (let l = g.0 in omega (arith, l, sh.count))
          g.1)
      go (inr x) = by_writer e x.1

  is_listed : (e : Next) → CanHappen tells r oracle w e
      → (k : ℕ) × (slice_get (events p) k ≡ Some e)
  is_listed (next.Part a) can =
      goes_part p a (let l = can.part in omega (arith, l, sh.count))
      (true_can tells r run oracle w p st sh a can)
  is_listed next.Write can =
      writer_last p next.Write (true_write tells r run oracle w p st sh can.0 can.1)
  is_listed next.End can = writer_last p next.End (true_end tells r run oracle w p st sh can)

  pub are_events : AreEvents tells r oracle w (events p)
  are_events = record { each = happens; all = is_listed; once = once p }
