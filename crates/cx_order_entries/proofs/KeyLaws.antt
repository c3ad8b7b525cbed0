-- Entries that have the name of one before them, by their keys.
use Rattle.std.proofs.Common.{◌≡◌, ◌⊎◌, inl, inr, refl, sym, ◌∙◌, ap, ℕ, ◌+◌, ◌<◌, Bool, true, false, cond, ◌||◌, ◌&&◌, eqb, List, [], ◌∷◌, ◌++◌, map, length, take, drop, get_or, Option, Some, None, if◌then◌else◌, append-nil, append_assoc}
use Rattle.std.proofs.lemmas.List.{take_more, drop_more}
use Rattle.std.proofs.lemmas.List.Folds.{list_any-append}
use Rattle.std.specs.List.{list_any, find}
use Rattle.std.specs.Option.{option_map, option_to_list}
use Rattle.cx_text.specs.Lexemes.{same_name}
use Rattle.cx_plan.specs.Lists.{first_again_behind}
use Rattle.cx_sched.specs.declared.tree.Spot.{Spot}
use Rattle.cx_sched.specs.declared.tree.Spot.TheVariants.{At, Inside}
use Rattle.cx_order_entries.specs.Bins.{bin_of}
use Rattle.cx_order_entries.specs.Counted.{Entry}
use Rattle.cx_order_entries.specs.Entries.{entry_name, same_bin, same_spot, clash}
use Rattle.cx_order_entries.specs.Keys.{Key, bin_key, place_key, key_by, key_of, is_key, keys_of}
use Rattle.cx_text.specs.Bytes.{folded}

pub any_mapped : {X Y : Type 0} (test : Y → Bool) (f : X → Y) (xs : List X)
    → list_any test (map f xs) ≡ list_any (λ x. test (f x)) xs
any_mapped test f [] = refl
any_mapped test f (x ∷ xs) = ap (λ b. test (f x) || b) (any_mapped test f xs)

no-keys : (keys : List Key) → list_any (is_key None) keys ≡ false
no-keys [] = refl
no-keys (k ∷ ks) = no-keys ks

pub no-key : (name : List ℕ) (place : Option (List ℕ)) (keys : List Key) → place ≡ None
    → list_any (is_key (key_by name place)) keys ≡ false
no-key name place keys none = ap (λ p. list_any (is_key (key_by name p)) keys) none ∙ no-keys keys

-- ---- one key, one name in one place

or_false : (t : Bool) → (t || false) ≡ t
or_false true = refl
or_false false = refl

one_number : (t s : Bool) → (((t && true) && s) || false) ≡ (t && s)
one_number true s = or_false s
one_number false s = refl

bins-agree : (m n : List ℕ) (x y : Option ℕ)
    → list_any (is_key (key_by m (bin_key x))) (option_to_list (key_by n (bin_key y)))
    ≡ (same_bin x y && same_name m n)
bins-agree m n None None = refl
bins-agree m n None (Some j) = refl
bins-agree m n (Some i) None = refl
bins-agree m n (Some i) (Some j) = one_number (eqb i j) (same_name m n)

bin-group : (m n g : List ℕ) (x : Option ℕ)
    → list_any (is_key (key_by m (bin_key x))) (option_to_list (key_by n (Some (1 ∷ g)))) ≡ false
bin-group m n g None = refl
bin-group m n g (Some i) = refl

group-bin : (m n g : List ℕ) (y : Option ℕ)
    → list_any (is_key (key_by m (Some (1 ∷ g)))) (option_to_list (key_by n (bin_key y))) ≡ false
group-bin m n g None = refl
group-bin m n g (Some j) = refl

keys-agree : (m n : List ℕ) (s t : Spot)
    → list_any (is_key (key_by m (place_key s))) (option_to_list (key_by n (place_key t)))
    ≡ (same_spot s t && same_name m n)
keys-agree m n (At a) (At b) = bins-agree m n (bin_of a) (bin_of b)
keys-agree m n (Inside a) (Inside b) = or_false (same_name a b && same_name m n)
keys-agree m n (At a) (Inside b) = bin-group m n (folded b) (bin_of a)
keys-agree m n (Inside a) (At b) = group-bin m n (folded a) (bin_of b)

pub key-again : (e : Entry) (before : List Entry)
    → list_any (is_key (key_of e)) (keys_of before) ≡ list_any (clash e) before
key-again e [] = refl
key-again e (b ∷ bs) =
    list_any-append (is_key (key_of e)) (option_to_list (key_of b)) (keys_of bs)
    ∙ ap (λ t. t || list_any (is_key (key_of e)) (keys_of bs))
    (keys-agree (entry_name e) (entry_name b) e.block.spot b.block.spot)
    ∙ ap (λ t. clash e b || t) (key-again e bs)

keys_push : (es : List Entry) (e : Entry)
    → keys_of (es ++ e ∷ []) ≡ keys_of es ++ option_to_list (key_of e)
keys_push [] e = append-nil (option_to_list (key_of e))
keys_push (b ∷ bs) e = ap (λ ks. option_to_list (key_of b) ++ ks) (keys_push bs e)
    ∙ sym (append_assoc (option_to_list (key_of b)) (keys_of bs) (option_to_list (key_of e)))

-- ---- the first that is there again, one step on

module _ {X F : Type 0} (same : X → X → Bool) (told : X → F) where
  passed : (before : List X) (x : X) (xs : List X) (b : Bool) → list_any (same x) before ≡ b
      → (if b then Some (told x) else None) ≡ None
      → first_again_behind same before (x ∷ xs) ≡ first_again_behind same (before ++ x ∷ []) xs
  passed before x xs true e h = absurd (cc)
  passed before x xs false e h = rw e refl

  met : (before : List X) (x : X) (xs : List X) (fault : F) (b : Bool)
      → list_any (same x) before ≡ b → (if b then Some (told x) else None) ≡ Some fault
      → option_map told (first_again_behind same before (x ∷ xs)) ≡ Some fault
  met before x xs fault true e h = rw e h
  met before x xs fault false e h = absurd (cc)

-- the names before a place, and what is left
pub record Sofar {F : Type 0} (told : Entry → F) (w : Option F) (es : List Entry) (k : ℕ)
    (keys : List Key) : Type 0 where
  pub keys_are : keys ≡ keys_of (take k es)
  pub again : option_map told (first_again_behind clash (take k es) (drop k es)) ≡ w

module _ {F : Type 0} (told : Entry → F) (w : Option F) (es : List Entry) (k : ℕ) (keys : List Key)
    (x : Entry) (within : k < length es) (at : get_or es k x ≡ x) (s : Sofar told w es k keys)
    (b : Bool) (is : b ≡ list_any (is_key (key_of x)) keys) where
  found : list_any (clash x) (take k es) ≡ b
  found = sym (key-again x (take k es)) ∙ ap (list_any (is_key (key_of x))) (sym s.keys_are)
      ∙ sym is

  taken : take (k + 1) es ≡ take k es ++ x ∷ []
  taken = take_more es k x within ∙ ap (λ u. take k es ++ u ∷ []) at

  left_over : drop k es ≡ x ∷ drop (k + 1) es
  left_over = drop_more es k x within ∙ ap (λ u. u ∷ drop (k + 1) es) at

  pub sofar-on : (new : List Key) → (if b then Some (told x) else None) ≡ None
      → new ≡ keys ++ option_to_list (key_of x) → Sofar told w es (k + 1) new
  sofar-on new none grown =
      record {
        keys_are = grown ∙ ap (λ ks. ks ++ option_to_list (key_of x)) s.keys_are
            ∙ sym (keys_push (take k es) x) ∙ ap keys_of (sym taken);
        again = ap (λ part. option_map told (first_again_behind clash part (drop (k + 1) es))) taken
            ∙ ap (option_map told)
            (sym (passed clash told (take k es) x (drop (k + 1) es) b found none))
            ∙ ap (λ rest. option_map told (first_again_behind clash (take k es) rest))
            (sym left_over)
            ∙ s.again;
      }

  pub sofar-told : (none fault : F)
      → (fault ≡ none) ⊎ ((if b then Some (told x) else None) ≡ Some fault)
      → (fault ≡ none) ⊎ (w ≡ Some fault)
  sofar-told none fault (inl e) = inl e
  sofar-told none fault (inr some) =
      inr (sym s.again ∙ ap (λ rest. option_map told (first_again_behind clash (take k es) rest))
      left_over ∙ met clash told (take k es) x (drop (k + 1) es) fault b found some)

-- ---- the first entry of a kind, of lent ones

pub find-mapped : {X Y : Type 0} (p : Y → Bool) (f : X → Y) (xs : List X)
    → find p (map f xs) ≡ option_map f (find (λ x. p (f x)) xs)
find-mapped p f [] = refl
find-mapped p f (x ∷ xs) = by_test (find-mapped p f xs) (p (f x))
  where
    by_test : find p (map f xs) ≡ option_map f (find (λ x. p (f x)) xs) → (t : Bool)
        → cond t (Some (f x)) (find p (map f xs))
        ≡ option_map f (cond t (Some x) (find (λ x. p (f x)) xs))
    by_test rest true = refl
    by_test rest false = rest
