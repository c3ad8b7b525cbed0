-- Where the parts stand tells the events that can happen, each once and in order.
use Rattle.std.proofs.Common.{◌≡◌, ℕ, zero, suc, ◌+◌, ◌<◌, ◌≤◌, ◌⊎◌, inl, inr, Bool, true, false, List, [], ◌∷◌, ◌++◌, map, length, slice_get, Option, Some, None, Contains, option_to_list, refl, sym, ap, ◌∙◌, subst, arith}
use Rattle.std.specs.List.{AllByRecursion, range_with_len}
use Rattle.std.proofs.lemmas.List.{length-map}
use Rattle.std.proofs.lemmas.List.Elements.{All-from_recursion}
use Rattle.std.proofs.lemmas.Bool.{cases_eq}
use Rattle.cx_flat.specs.Flats.{Control}
use Rattle.cx_model.specs.Runs.{Lengths}
use Rattle.law_network.specs.Machine.{Net, World, Can, IsNext}
use Rattle.law_network.specs.Machine as network
use Rattle.law_parts.specs.Holding.{Held}
use Rattle.law_parts.specs.Moves.{Message, Channel}
use Rattle.law_parts.specs.Nets.{net, within_lead}
use Rattle.law_parts.specs.Runs.{Run, Oracle, parts_in}
use Rattle.cx_core_events.specs.declared.standing.Next.{Next}
use Rattle.cx_core_events.specs.declared.standing.Next.TheVariants.{Part, Write, End}
use Rattle.cx_core_events.specs.Paces.{Paces}
use Rattle.cx_core_events.specs.Events.{can_go, places_of, parts_going, writer_by, writer_going, events, all_in, all_stand}
use Rattle.cx_core_events.specs.Shows.{TellsEvents}
use Rattle.law_reached.specs.Going.{GoesOn}
use Rattle.cx_core.specs.Steps.{rank, Rises, AreEnabled}

-- ---- lists

weaker : {X : Type 0} (P Q : X → Type 0) → ((x : X) → P x → Q x) → (xs : List X)
    → AllByRecursion P xs → AllByRecursion Q xs
weaker P Q h [] a = tt
weaker P Q h (x ∷ xs) a = (h x a.0, weaker P Q h xs a.1)

first_there : {X : Type 0} (x : X) (xs : List X) → Contains (x ∷ xs) x
first_there x xs = (0, omega arith, refl)

later_there : {X : Type 0} (x y : X) (xs : List X) → Contains xs x → Contains (y ∷ xs) x
later_there x y xs h = (suc h.0, omega (arith, h.1), h.2)

-- ---- the places of flags that are set

abbrev set_places : (ℕ → Bool) → (s u c : ℕ) → List ℕ
set_places f s u c = places_of s (map f (range_with_len u c))

record IsSet (f : ℕ → Bool) (s c k : ℕ) : Type 0 where
  from : s ≤ k
  below : k < s + c
  flag : f k ≡ true

abbrev Sorted : List ℕ → Type 0
Sorted [] = Unit {0}
Sorted (k ∷ ks) = AllByRecursion (λ j. k < j) ks × Sorted ks

module _ (f : ℕ → Bool) where
  onward : (s c k : ℕ) → IsSet f (suc s) c k → IsSet f s (suc c) k
  onward s c k h = record {
    from = omega (arith, h.from);
    below = omega (arith, h.below);
    flag = h.flag;
  }

  next_is : (s u : ℕ) → u ≡ s → u + 1 ≡ suc s
  next_is s u e = omega (arith, e)

  all_set : (s u c : ℕ) → u ≡ s → AllByRecursion (IsSet f s c) (set_places f s u c)
  all_set s u zero e = tt
  all_set s u (suc c) e =
      go (weaker (IsSet f (suc s) c) (IsSet f s (suc c)) (onward s c)
      (set_places f (suc s) (u + 1) c) (all_set (suc s) (u + 1) c (next_is s u e)))
      (f u) refl
    where
      go : AllByRecursion (IsSet f s (suc c)) (set_places f (suc s) (u + 1) c) → (b : Bool)
          → f u ≡ b
          → AllByRecursion (IsSet f s (suc c)) (places_of s (b ∷ map f (range_with_len (u + 1) c)))
      go later true h =
          (record { from = omega arith; below = omega arith; flag = ap f (sym e) ∙ h }, later)
      go later false h = later

  all_sorted : (s u c : ℕ) → u ≡ s → Sorted (set_places f s u c)
  all_sorted s u zero e = tt
  all_sorted s u (suc c) e = go (all_sorted (suc s) (u + 1) c (next_is s u e)) (f u)
    where
      go : Sorted (set_places f (suc s) (u + 1) c) → (b : Bool)
          → Sorted (places_of s (b ∷ map f (range_with_len (u + 1) c)))
      go later true = (
        weaker (IsSet f (suc s) c) (λ j. s < j) (λ j h. omega (arith, h.from))
            (set_places f (suc s) (u + 1) c) (all_set (suc s) (u + 1) c (next_is s u e)),
        later,
      )
      go later false = later

  is_there : (s u c k : ℕ) → u ≡ s → IsSet f s c k → Contains (set_places f s u c) k
  is_there s u zero k e h = absurd (omega (arith, h.from, h.below))
  is_there s u (suc c) k e h =
      go (λ n. is_there (suc s) (u + 1) c k (next_is s u e)
      (record {
        from = omega (arith, h.from, n);
        below = omega (arith, h.below);
        flag = h.flag;
      }))
      (f u) refl (cases_eq k s)
    where
      clash : {x : Bool} → x ≡ false → x ≡ true → ⊥
      clash a b = cc

      go : ((k ≡ s → ⊥) → Contains (set_places f (suc s) (u + 1) c) k) → (b : Bool) → f u ≡ b
          → (k ≡ s) ⊎ (k ≡ s → ⊥)
          → Contains (places_of s (b ∷ map f (range_with_len (u + 1) c))) k
      go later true t (inl q) =
          subst (λ j. Contains (s ∷ set_places f (suc s) (u + 1) c) j) (sym q)
          (first_there s (set_places f (suc s) (u + 1) c))
      go later true t (inr n) = later_there k s (set_places f (suc s) (u + 1) c) (later n)
      go later false t (inl q) = absurd (clash t (ap f (e ∙ sym q) ∙ h.flag))
      go later false t (inr n) = later n

-- ---- events of a pace as those of the network; the writer's work is that at place n

abbrev pub event_of : ℕ → Next → network.Event
event_of n (Part k) = network.Part k
event_of n Write = network.Write n
event_of n End = network.End

abbrev listed : ℕ → List ℕ → List Next → List network.Event
listed n ks ns = map (event_of n) (map Part ks ++ ns)

none_some : {X : Type 0} (y : X) → None ≡ Some y → ⊥
none_some y e = cc

some_is : {X : Type 0} (x y : X) → Some x ≡ Some y → x ≡ y
some_is x y e = cc

pub get_map : {A B : Type 0} (f : A → B) (xs : List A) (k : ℕ) (x : A) → slice_get xs k ≡ Some x
    → slice_get (map f xs) k ≡ Some (f x)
get_map f [] k x e = absurd (none_some x e)
get_map f (y ∷ ys) zero x e = ap (λ z. Some (f z)) (some_is y x e)
get_map f (y ∷ ys) (suc k) x e = get_map f ys k x e

each_listed : (P : network.Event → Type 0) (n : ℕ) (ks : List ℕ) (ns : List Next)
    → AllByRecursion (λ k. P (network.Part k)) ks
    → AllByRecursion P (map (event_of n) ns) → AllByRecursion P (listed n ks ns)
each_listed P n [] ns a b = b
each_listed P n (k ∷ ks) ns a b = (a.0, each_listed P n ks ns a.1 b)

part_listed : (n : ℕ) (ks : List ℕ) (ns : List Next) (k : ℕ) → Contains ks k
    → Contains (listed n ks ns) (network.Part k)
part_listed n [] ns k h = absurd (omega (arith, h.1))
part_listed n (j ∷ ks) ns k (zero, l, e) =
    subst (λ i. Contains (listed n (j ∷ ks) ns) (network.Part i)) e
    (first_there (network.Part j) (listed n ks ns))
part_listed n (j ∷ ks) ns k (suc i, l, e) =
    later_there (network.Part k) (network.Part j) (listed n ks ns)
    (part_listed n ks ns k (i, omega (arith, l), e))

last_listed : (n : ℕ) (ks : List ℕ) (ns : List Next) (e : network.Event)
    → Contains (map (event_of n) ns) e → Contains (listed n ks ns) e
last_listed n [] ns e h = h
last_listed n (k ∷ ks) ns e h =
    later_there e (network.Part k) (listed n ks ns) (last_listed n ks ns e h)

all_rise : (f : network.Event → ℕ) (n : ℕ) (ks : List ℕ) (ns : List Next)
    → ((k : ℕ) → f (network.Part k) ≡ k) → Sorted ks
    → AllByRecursion (λ k. AllByRecursion (λ e. k < f e) (map (event_of n) ns)) ks
    → Rises f (map (event_of n) ns) → Rises f (listed n ks ns)
all_rise f n [] ns is s a b = b
all_rise f n (k ∷ ks) ns is s a b = (
  All-from_recursion (λ e. f (network.Part k) < f e) (listed n ks ns)
      (each_listed (λ e. f (network.Part k) < f e) n ks ns
      (weaker (λ j. k < j) (λ j. f (network.Part k) < f (network.Part j))
      (λ j l. omega (arith, l, is k, is j)) ks s.0)
      (weaker (λ e. k < f e) (λ e. f (network.Part k) < f e) (λ e l. omega (arith, l, is k))
      (map (event_of n) ns) a.0)),
  all_rise f n ks ns is s.1 a.1 b,
)

-- ---- the writer

no_part : (over in_front at_end : Bool) (k : ℕ) → writer_by over in_front at_end ≡ Some (Part k) → ⊥
no_part true i a k e = cc
no_part false true a k e = cc
no_part false false true k e = cc
no_part false false false k e = cc

module _ (tells : Type 0) (r : Run) (oracle : Oracle)
    (w : World Held (Message tells) Channel Lengths)
    (p : Paces)
    (count : length p.parts ≡ parts_in r) (told : TellsEvents tells r oracle w p)
    (goes : GoesOn tells r oracle w) where
  abbrev N : Net Held (Message tells) Channel Control Lengths
  N = net tells within_lead r oracle

  -- the place of the writer's next work
  pub work_place : (n : ℕ) × (writer_going p ≡ Some Write → IsNext N w n)
  work_place = go (writer_going p) refl
    where
      other : (o : Option Next) → (o ≡ Some Write → ⊥) → writer_going p ≡ o
          → (n : ℕ) × (writer_going p ≡ Some Write → IsNext N w n)
      other o never e = (0, λ h. absurd (never (sym e ∙ h)))

      go : (o : Option Next) → writer_going p ≡ o
          → (n : ℕ) × (writer_going p ≡ Some Write → IsNext N w n)
      go (Some Write) e = let h = (told.write).0 e in (h.0, λ x. h.1)
      go None e = other None (λ x. cc) e
      go (Some End) e = other (Some End) (λ x. cc) e
      go (Some (Part k)) e = other (Some (Part k)) (λ x. cc) e

  module _ (n : ℕ) (next : writer_going p ≡ Some Write → IsNext N w n) where
    abbrev es : List network.Event
    es = map (event_of n) (events p)

    set_is : AllByRecursion (IsSet (can_go p) 0 (length p.parts)) (parts_going p)
    set_is = all_set (can_go p) 0 0 (length p.parts) refl

    parts_can : AllByRecursion (λ k. Can N w (network.Part k)) (parts_going p)
    parts_can =
        weaker (IsSet (can_go p) 0 (length p.parts)) (λ k. Can N w (network.Part k))
        (λ k h. (told.part k (omega (arith, h.below, count))).0 h.flag)
        (parts_going p) set_is

    writer_can : (o : Option Next) → writer_going p ≡ o
        → AllByRecursion (Can N w) (map (event_of n) (option_to_list o))
    writer_can None e = tt
    writer_can (Some Write) e = (next e, tt)
    writer_can (Some End) e = ((told.end).0 e, tt)
    writer_can (Some (Part k)) e = absurd (no_part p.over (all_in p) (all_stand p) k e)

    ranked : network.Event → ℕ
    ranked = rank (parts_in r)

    writer_last : (k : ℕ) → k < parts_in r → (o : Option Next) → writer_going p ≡ o
        → AllByRecursion (λ e. k < rank (parts_in r) e) (map (event_of n) (option_to_list o))
    writer_last k l None e = tt
    writer_last k l (Some Write) e = (l, tt)
    writer_last k l (Some End) e = (l, tt)
    writer_last k l (Some (Part j)) e = absurd (no_part p.over (all_in p) (all_stand p) j e)

    writer_rises : (o : Option Next)
        → Rises (rank (parts_in r)) (map (event_of n) (option_to_list o))
    writer_rises None = tt
    writer_rises (Some x) =
        (All-from_recursion (λ e. rank (parts_in r) (event_of n x) < rank (parts_in r) e) [] tt, tt)

    part_in : (k : ℕ) → Can N w (network.Part k) → Contains es (network.Part k)
    part_in k can =
        part_listed n (parts_going p) (option_to_list (writer_going p)) k
        (is_there (can_go p) 0 0 (length p.parts) k refl
        (record {
          from = omega arith;
          below = omega (arith, can.part, count);
          flag = (told.part k can.part).1 can;
        }))

    last_in : (x : Next) → writer_going p ≡ Some x → Contains es (event_of n x)
    last_in x e =
        last_listed n (parts_going p) (option_to_list (writer_going p)) (event_of n x)
        (subst (λ o. Contains (map (event_of n) (option_to_list o)) (event_of n x)) (sym e)
        (first_there (event_of n x) []))

    all_in_list : (e : network.Event) → Can N w e → Contains es e
    all_in_list (network.Part k) can = part_in k can
    all_in_list (network.Write m) can =
        let h = (told.write).1 (m, can) in
        subst (λ i. Contains es (network.Write i)) (goes.one_work n m (next h) can)
        (last_in Write h)
    all_in_list network.End can = last_in End ((told.end).1 can)

    pub are_enabled : AreEnabled tells r oracle w es
    are_enabled = record {
      each = All-from_recursion (Can N w) es
          (each_listed (Can N w) n (parts_going p) (option_to_list (writer_going p)) parts_can
          (writer_can (writer_going p) refl));
      all = all_in_list;
      order = all_rise (rank (parts_in r)) n (parts_going p) (option_to_list (writer_going p))
          (λ k. refl) (all_sorted (can_go p) 0 0 (length p.parts) refl)
          (weaker (IsSet (can_go p) 0 (length p.parts))
          (λ k. AllByRecursion (λ e. k < rank (parts_in r) e)
          (map (event_of n) (option_to_list (writer_going p))))
          (λ k h. writer_last k (omega (arith, h.below, count)) (writer_going p) refl)
          (parts_going p) set_is)
          (writer_rises (writer_going p));
    }

    pub how_many : length es ≡ length (events p)
    how_many = length-map (events p) (event_of n)
