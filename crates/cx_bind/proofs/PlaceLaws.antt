-- What maps from names find.
use Rattle.std.proofs.Common.{◌≡◌, refl, sym, ◌∙◌, ap, ℕ, ◌+◌, ◌<◌, Bool, true, false, cond, ◌&&◌, List, [], ◌∷◌, map, find, length, drop, get_or, slice_get, Option, Some, true≢false, if◌then◌else◌}
use Rattle.std.proofs.lemmas.List.{drop_more}
use Rattle.std.proofs.lemmas.Option.{slice_get_read}
use Rattle.std.proofs.lemmas.Slice.Eq.{bytes_eq-Decides}
use Rattle.std.specs.Bool.{one_answer}
use Rattle.std.specs.Map.{lookup}
use Rattle.std.specs.Option.{option_and_then}
use Rattle.std.specs.Str.{bytes_eq}
use Rattle.indexmap.specs.IndexMap.{insert_entry}
use Rattle.cx_text.specs.Lexemes.{same_name}
use Rattle.cx_bind.specs.NamePlaces.{at_name, LeadToFirst}
use Rattle.cx_text.specs.Bytes.{folded}

-- ---- a map whose keys hold names

module _ {V X : Type 0} (items : V → List ℕ) where
  abbrev pub named : List (V × X) → List (List ℕ × X)
  named es = map (λ e. (items e.0, e.1)) es

  one_named : (e : V × X) (x : X) (es es2 : List (V × X)) (ns : List (List ℕ × X)) (b : Bool)
      → named es2 ≡ ns → named (cond b ((e.0, x) ∷ es) (e ∷ es2))
      ≡ cond b ((items e.0, x) ∷ named es) ((items e.0, e.1) ∷ ns)
  one_named e x es es2 ns true h = refl
  one_named e x es es2 ns false h = ap (λ rest. (items e.0, e.1) ∷ rest) h

  pub inserted_named : (k : V) (x : X) (es : List (V × X))
      → named (insert_entry (λ a b. bytes_eq (items a) (items b)) es k x)
      ≡ insert_entry bytes_eq (named es) (items k) x
  inserted_named k x [] = refl
  inserted_named k x (e ∷ es) =
      one_named e x es (insert_entry (λ a b. bytes_eq (items a) (items b)) es k x)
      (insert_entry bytes_eq (named es) (items k) x) (bytes_eq (items k) (items e.0))
      (inserted_named k x es)

  pub found_named : (name : List ℕ) (es : List (V × X))
      → lookup (λ v. bytes_eq name (items v)) es ≡ lookup (bytes_eq name) (named es)
  found_named name [] = refl
  found_named name (e ∷ es) =
      ap (λ rest. cond (bytes_eq name (items e.0)) (Some e.1) rest) (found_named name es)

  pub put_named : (k : V) (x : X) (es es2 : List (V × X)) (name : List ℕ)
      (names : List (List ℕ × X)) → items k ≡ name → named es ≡ names
      → es2 ≡ insert_entry (λ a b. bytes_eq (items a) (items b)) es k x
      → named es2 ≡ insert_entry bytes_eq names name x
  put_named k x es es2 name names key seen after =
      ap (λ es. named es) after
      ∙ inserted_named k x es
      ∙ ap (λ n. insert_entry bytes_eq (named es) n x) key
      ∙ ap (λ ns. insert_entry bytes_eq ns name x) seen

  pub got_named : (k : V) (es : List (V × X)) (name : List ℕ) (names : List (List ℕ × X))
      (o : Option X) → items k ≡ name → named es ≡ names
      → o ≡ lookup (λ v. bytes_eq (items k) (items v)) es → o ≡ lookup (bytes_eq name) names
  got_named k es name names o key seen found =
      found
      ∙ found_named (items k) es
      ∙ ap (λ n. lookup (bytes_eq n) (named es)) key
      ∙ ap (λ ns. lookup (bytes_eq name) ns) seen

-- ---- what is found where a name was put in

pub bytes_eq_sym : (a b : List ℕ) → bytes_eq a b ≡ bytes_eq b a
bytes_eq_sym a b = one_answer (bytes_eq a b) (bytes_eq b a) (bytes_eq-Decides a b)
    ((λ h. sym ((bytes_eq-Decides b a).0 h)), (λ e. (bytes_eq-Decides b a).1 (sym e)))

both : (n k m : List ℕ) → bytes_eq n m ≡ true → bytes_eq n k ≡ true → bytes_eq k m ≡ true
both n k m h i = (bytes_eq-Decides k m).1
    (sym ((bytes_eq-Decides n k).0 i) ∙ (bytes_eq-Decides n m).0 h)

module _ {X : Type 0} where
  merged : (a b : Bool) (o p q : Option X) → b ≡ a → cond a o q ≡ cond b o (cond a p q)
  merged true true o p q e = refl
  merged false false o p q e = refl
  merged true false o p q e = absurd (true≢false (sym e))
  merged false true o p q e = absurd (true≢false e)

  swapped : (a b c : Bool) (o p q : Option X) → c ≡ false → (a ≡ true → b ≡ true → c ≡ true)
      → cond a p (cond b o q) ≡ cond b o (cond a p q)
  swapped true true c o p q no_c h = absurd (true≢false (sym (h refl refl) ∙ no_c))
  swapped true false c o p q no_c h = refl
  swapped false true c o p q no_c h = refl
  swapped false false c o p q no_c h = refl

  put_in : (n k : List ℕ) (x : X) (e : List ℕ × X) (es es2 : List (List ℕ × X)) (b : Bool)
      → bytes_eq k e.0 ≡ b → lookup (bytes_eq n) es2
      ≡ cond (bytes_eq n k) (Some x) (lookup (bytes_eq n) es)
      → lookup (bytes_eq n) (cond b ((e.0, x) ∷ es) (e ∷ es2))
      ≡ cond (bytes_eq n k) (Some x) (lookup (bytes_eq n) (e ∷ es))
  put_in n k x e es es2 true h rest =
      merged (bytes_eq n e.0) (bytes_eq n k) (Some x) (Some e.1) (lookup (bytes_eq n) es)
      (ap (λ m. bytes_eq n m) ((bytes_eq-Decides k e.0).0 h))
  put_in n k x e es es2 false h rest =
      ap (λ o. cond (bytes_eq n e.0) (Some e.1) o) rest
      ∙ swapped (bytes_eq n e.0) (bytes_eq n k) (bytes_eq k e.0) (Some x) (Some e.1)
      (lookup (bytes_eq n) es) h (both n k e.0)

  pub lookup_inserted : (n k : List ℕ) (x : X) (es : List (List ℕ × X))
      → lookup (bytes_eq n) (insert_entry bytes_eq es k x)
      ≡ cond (bytes_eq n k) (Some x) (lookup (bytes_eq n) es)
  lookup_inserted n k x [] = refl
  lookup_inserted n k x (e ∷ es) =
      put_in n k x e es (insert_entry bytes_eq es k x) (bytes_eq k e.0) refl
      (lookup_inserted n k x es)

-- ---- places in a list

module _ {X : Type 0} (test : List ℕ → X → Bool) (all : List X) where
  picked : (i : ℕ) (x : X) (o : Option ℕ) (p : Option X) (b : Bool) → slice_get all i ≡ Some x
      → option_and_then (slice_get all) o ≡ p
      → option_and_then (slice_get all) (cond b (Some i) o) ≡ cond b (Some x) p
  picked i x o p true at before = at
  picked i x o p false at before = before

  one_noted : (places : List (List ℕ × ℕ)) (x : X) (i : ℕ) (part : List X) (n : List ℕ) (o : List ℕ)
      (r : Bool) → slice_get all i ≡ Some x → LeadToFirst test all places part
      → at_name all (if r then insert_entry bytes_eq places (folded n) i else places) o
      ≡ cond (r && same_name n o) (Some x) (find (test o) part)
  one_noted places x i part n o false at before = before o
  one_noted places x i part n o true at before =
      ap (λ found. option_and_then (slice_get all) found)
      (lookup_inserted (folded o) (folded n) i places)
      ∙ picked i x (lookup (bytes_eq (folded o)) places) (find (test o) part)
      (bytes_eq (folded o) (folded n)) at (before o)
      ∙ ap (λ b. cond b (Some x) (find (test o) part)) (bytes_eq_sym (folded o) (folded n))

  got : (i : ℕ) (x : X) → i < length all → x ≡ get_or all i x → slice_get all i ≡ Some x
  got i x within at = slice_get_read all (length all) i x refl within at

  -- the place of an element that may be noted by a name
  pub place_noted : (places places2 : List (List ℕ × ℕ)) (x : X) (i j : ℕ) (n : List ℕ) (r : Bool)
      → ((o : List ℕ) → test o x ≡ (r && same_name n o)) → i < length all → j ≡ i + 1
      → x ≡ get_or all i x → LeadToFirst test all places (drop j all)
      → places2 ≡ (if r then insert_entry bytes_eq places (folded n) i else places)
      → LeadToFirst test all places2 (drop i all)
  place_noted places places2 x i j n r is within next at before after o =
      ap (λ ps. at_name all ps o) after
      ∙ one_noted places x i (drop j all) n o r (got i x within at) before
      ∙ ap (λ b. cond b (Some x) (find (test o) (drop j all))) (sym (is o))
      ∙ ap (λ k. find (test o) (x ∷ drop k all)) next
      ∙ ap (λ xs. find (test o) xs)
      (sym (drop_more all i x within ∙ ap (λ u. u ∷ drop (i + 1) all) (sym at)))
