-- Which entries of a place must run before which, by their names' numbers.
use Rattle.std.proofs.Common.{◌≡◌, inl, inr, refl, sym, ◌∙◌, ap, subst, ℕ, zero, suc, ◌+◌, ◌<◌, ◌≤◌, Bool, true, false, ◌||◌, ◌&&◌, eqb, List, [], ◌∷◌, ◌++◌, map, length, get_or, take, drop, Option, Some, None, append-nil, arith}
use Rattle.std.specs.Prelude.{slice_get}
use Rattle.std.specs.List.{All, list_any, position}
use Rattle.std.specs.Str.{bytes_eq}
use Rattle.std.proofs.lemmas.Bool.{ne_eqb}
use Rattle.std.proofs.lemmas.List.{take_more, drop_more, take_all, drop_all, length-map, length-take-le}
use Rattle.std.proofs.lemmas.List.Elements.{All-head, All-tail}
use Rattle.std.proofs.lemmas.Option.{slice_get_cases, slice_get_past, slice_get_read, slice_get_within, get_or_from_slice_get}
use Rattle.cx_text.specs.Lexemes.{same_name, among}
use Rattle.cx_order_entries.specs.declared.counted.Entry.{Entry as LentEntry}
use Rattle.cx_order_entries.specs.Counted.{Entry}
use Rattle.cx_order_entries.specs.Entries.{is_bin, entry_name, both_before}
use Rattle.cx_order_entries.specs.Members.{entries_of, key_name, has_number, says_before, says_after}
use Rattle.cx_order_entries.specs.Seen.{seen_entry}
use Rattle.cx_order_entries.proofs.RowLaws.{eqb-same, in_all, at_seen}
use Rattle.cx_order_entries.proofs.OnceLaws.{come, come-one, Unique, bytes_same, name_same, at-position, has_at, any-agree}
use Rattle.cx_text.specs.Bytes.{folded}

-- ---- entries by their numbers

module _ (es : List Entry) where
  got : (i : ℕ) → i < length es → (x : Entry) × (slice_get es i ≡ Some x)
  got i h = elim (slice_get_cases es i).1 [
    | inl s ↦ (s.0, s.2)
    | inr past ↦ absurd (let p = past.0 in let no : ⊥ = omega (arith, h, p) in no)
  ]

  first_of : (m : ℕ) (ms : List ℕ) (h : m < length es)
      → entries_of es (m ∷ ms) ≡ (got m h).0 ∷ entries_of es ms
  first_of m ms h = let e = (got m h).1 in rw e refl

  pub length-of : (ms : List ℕ) → All (λ i. i < length es) ms
      → length (entries_of es ms) ≡ length ms
  length-of [] all = refl
  length-of (m ∷ ms) all =
      let h = All-head (λ i. i < length es) m ms all in
      let e = length-of ms (All-tail (λ i. i < length es) m ms all) in
      let f = ap length (first_of m ms h) in omega (arith, e, f)

  pub at-member : (ms : List ℕ) → All (λ i. i < length es) ms → (k : ℕ) → k < length ms
      → slice_get (entries_of es ms) k ≡ slice_get es (get_or ms k 0)
  at-member [] all k l = absurd (let no : ⊥ = omega (arith, l) in no)
  at-member (m ∷ ms) all zero l = let h = All-head (λ i. i < length es) m ms all in
      ap (λ r. slice_get r 0) (first_of m ms h) ∙ sym (got m h).1
  at-member (m ∷ ms) all (suc k) l =
      let h = All-head (λ i. i < length es) m ms all in
      ap (λ r. slice_get r (suc k)) (first_of m ms h)
      ∙ at-member ms (All-tail (λ i. i < length es) m ms all) k (omega (arith, l))

pub all-at : (P : ℕ → Type 0) (ms : List ℕ) → All P ms → (k : ℕ) → k < length ms → P (get_or ms k 0)
all-at P [] all k l = absurd (let no : ⊥ = omega (arith, l) in no)
all-at P (m ∷ ms) all zero l = All-head P m ms all
all-at P (m ∷ ms) all (suc k) l = all-at P ms (All-tail P m ms all) k (omega (arith, l))

pub all-seen : (xs : List LentEntry) (ms : List ℕ) → All (λ i. i < length xs) ms
    → All (λ i. i < length (map seen_entry xs)) ms
all-seen xs ms all = let A : ℕ → Type 0 = λ n. All (λ i. i < n) ms in
    subst A (sym (length-map xs seen_entry)) all

pub member-entry : (xs : List LentEntry) (ms : List ℕ) (k : ℕ) (item : LentEntry)
    → All (λ i. i < length xs) ms → k < length ms → item ≡ get_or xs (get_or ms k 0) item
    → slice_get (entries_of (map seen_entry xs) ms) k ≡ Some (seen_entry item)
member-entry xs ms k item all l is =
    let i = get_or ms k 0 in
    let below : i < length xs = all-at (λ i. i < length xs) ms all k l in
    at-member (map seen_entry xs) ms (all-seen xs ms all) k l
    ∙ slice_get_read (map seen_entry xs) (length (map seen_entry xs)) i (seen_entry item) refl
    (in_all xs i below) (at_seen xs i item below is)

pub length-lent : (xs : List LentEntry) (ms : List ℕ) → All (λ i. i < length xs) ms
    → length (entries_of (map seen_entry xs) ms) ≡ length ms
length-lent xs ms all = length-of (map seen_entry xs) ms (all-seen xs ms all)

-- ---- names

module _ (es : List Entry) (i : ℕ) where
  rest-of : (x : Entry) → slice_get es i ≡ Some x → drop i es ≡ x ∷ drop (i + 1) es
  rest-of x e = drop_more es i x (slice_get_within es i x e)
      ∙ ap (λ u. u ∷ drop (i + 1) es) (get_or_from_slice_get es i x x e)

  front-of : (x : Entry) → slice_get es i ≡ Some x → take (i + 1) es ≡ take i es ++ x ∷ []
  front-of x e = take_more es i x (slice_get_within es i x e)
      ∙ ap (λ u. take i es ++ u ∷ []) (get_or_from_slice_get es i x x e)

  pub names-next : (x : Entry) → slice_get es i ≡ Some x
      → (there new w : List (List ℕ)) (n : List ℕ) → n ≡ key_name x
      → new ≡ come bytes_eq there (n ∷ []) → come bytes_eq there (map key_name (drop i es)) ≡ w
      → come bytes_eq new (map key_name (drop (i + 1) es)) ≡ w
  names-next x e there new w n named is before =
      come-one bytes_eq there (key_name x) (map key_name (drop (i + 1) es)) new
      (is ∙ ap (λ m. come bytes_eq there (m ∷ [])) named)
      ∙ ap (λ r. come bytes_eq there (map key_name r)) (sym (rest-of x e))
      ∙ before

  pub names-all : length es ≤ i → (names w : List (List ℕ))
      → come bytes_eq names (map key_name (drop i es)) ≡ w → names ≡ w
  names-all h names w is =
      sym (append-nil names) ∙ ap (λ r. come bytes_eq names (map key_name r))
      (sym (drop_all i es h)) ∙ is

-- ---- what entries say, one after another

or_false : (t : Bool) → (t || false) ≡ t
or_false true = refl
or_false false = refl

pushed : (f : Option Entry → Bool) → f None ≡ false → (xs : List Entry) (e : Entry) (a : ℕ)
    → f (slice_get (xs ++ e ∷ []) a) ≡ (f (slice_get xs a) || (eqb a (length xs) && f (Some e)))
pushed f n [] e zero = ap (λ t. t || f (Some e)) (sym n)
pushed f n [] e (suc a) =
    let r1 : f (slice_get [] (suc a)) ≡ false =
    ap f (slice_get_past [] (suc a) (omega arith)) ∙ n in
    let r2 : eqb (suc a) 0 ≡ false = ne_eqb (suc a) 0 (λ same. omega (arith, same)) in
    ap f (slice_get_past (e ∷ []) (suc a) (omega arith)) ∙ n
    ∙ sym (ap (λ t. t || (eqb (suc a) 0 && f (Some e))) r1
    ∙ ap (λ t. false || (t && f (Some e))) r2)
pushed f n (x ∷ xs) e zero =
    let r : eqb 0 (length (x ∷ xs)) ≡ false =
    ne_eqb 0 (length (x ∷ xs)) (λ same. omega (arith, same)) in
    sym (ap (λ t. f (Some x) || (t && f (Some e))) r ∙ or_false (f (Some x)))
pushed f n (x ∷ xs) e (suc a) =
    pushed f n xs e a
    ∙ ap (λ t. f (slice_get xs a) || (t && f (Some e)))
    (eqb-same a (length xs) (suc a) (length (x ∷ xs)) (λ s. omega (arith, s))
    (λ s. omega (arith, s)))

shuffle : (s t p q r : Bool) → (((s || t) || p) || (q && r)) ≡ ((s || p) || (t || (r && q)))
shuffle true t p q r = refl
shuffle false true true q r = refl
shuffle false true false q r = refl
shuffle false false true q r = refl
shuffle false false false true true = refl
shuffle false false false true false = refl
shuffle false false false false true = refl
shuffle false false false false false = refl

abbrev pub said : List (List ℕ) → List Entry → ℕ → ℕ → Bool
said keys es a b = says_before keys (slice_get es a) b || says_after keys (slice_get es b) a

one-said : (es : List Entry) (i : ℕ) (x : Entry) → slice_get es i ≡ Some x
    → (f : Option Entry → Bool) → f None ≡ false → (k : ℕ)
    → f (slice_get (take (i + 1) es) k) ≡ (f (slice_get (take i es) k) || (eqb k i && f (Some x)))
one-said es i x at f n k =
    let h = slice_get_within es i x at in
    ap (λ l. f (slice_get l k)) (front-of es i x at)
    ∙ pushed f n (take i es) x k
    ∙ ap (λ m. f (slice_get (take i es) k) || (eqb k m && f (Some x)))
    (length-take-le i es (omega (arith, h)))

pub said-next : (keys : List (List ℕ)) (es : List Entry) (i : ℕ) (x : Entry) (a b : ℕ)
    (old new : Bool) → slice_get es i ≡ Some x → old ≡ said keys (take i es) a b
    → new ≡ ((old || (eqb a i && has_number keys x.block.before b))
    || (has_number keys x.block.after a && eqb b i)) → new ≡ said keys (take (i + 1) es) a b
said-next keys es i x a b old new at was is =
    let hb = has_number keys x.block.before b in
    let ha = has_number keys x.block.after a in
    let sb = says_before keys (slice_get (take i es) a) b in
    let sa = says_after keys (slice_get (take i es) b) a in
    is
    ∙ ap (λ o. (o || (eqb a i && hb)) || (ha && eqb b i)) was
    ∙ shuffle sb sa (eqb a i && hb) ha (eqb b i)
    ∙ ap (λ u. u || (sa || (eqb b i && ha)))
    (sym (one-said es i x at (λ o. says_before keys o b) refl a))
    ∙ ap (λ u. says_before keys (slice_get (take (i + 1) es) a) b || u)
    (sym (one-said es i x at (λ o. says_after keys o a) refl b))

pub said-all : (keys : List (List ℕ)) (es : List Entry) (i : ℕ) → length es ≤ i
    → (a b : ℕ) (t : Bool) → t ≡ said keys (take i es) a b → t ≡ said keys es a b
said-all keys es i h a b t is = is ∙ ap (λ l. said keys l a b) (take_all i es h)

-- ---- what is said by names

abbrev any_named : List (List ℕ) → Option Entry → Bool
any_named names None = false
any_named names (Some e) = among names (entry_name e)

abbrev opt_has : (List ℕ → Bool) → Option Entry → Bool
opt_has p None = false
opt_has p (Some e) = p (key_name e)

has_at-key : (p : List ℕ → Bool) (es : List Entry) (k : ℕ)
    → has_at p (map key_name es) k ≡ opt_has p (slice_get es k)
has_at-key p [] zero = refl
has_at-key p [] (suc k) = refl
has_at-key p (e ∷ es) zero = refl
has_at-key p (e ∷ es) (suc k) = has_at-key p es k

none-named : (names : List (List ℕ))
    → list_any (λ n. opt_has (bytes_eq (folded n)) None) names ≡ false
none-named [] = refl
none-named (n ∷ ns) = none-named ns

has-named : (es : List Entry) → Unique bytes_eq (map key_name es) → (names : List (List ℕ)) (k : ℕ)
    → has_number (map key_name es) names k ≡ any_named names (slice_get es k)
has-named es u names k =
    any-agree (λ n. is_bin k (position (bytes_eq (folded n)) (map key_name es)))
    (λ n. opt_has (bytes_eq (folded n)) (slice_get es k))
    (λ n. at-position bytes_eq bytes_same (folded n) (map key_name es) u k
    ∙ has_at-key (bytes_eq (folded n)) es k) names
    ∙ by (slice_get es k)
  where
    by : (o : Option Entry)
        → list_any (λ n. opt_has (bytes_eq (folded n)) o) names ≡ any_named names o
    by None = none-named names
    by (Some e) = any-agree (λ n. bytes_eq (folded n) (key_name e)) (same_name (entry_name e))
        (λ n. name_same.turn n (entry_name e)) names

pub said-before : (es : List Entry) → Unique bytes_eq (map key_name es) → (a b : ℕ)
    → said (map key_name es) es a b ≡ both_before (slice_get es a) (slice_get es b)
said-before es u a b = by (slice_get es a) (slice_get es b) refl refl
  where
    by : (o q : Option Entry) → slice_get es a ≡ o → slice_get es b ≡ q
        → (says_before (map key_name es) o b || says_after (map key_name es) q a) ≡ both_before o q
    by None None e f = refl
    by None (Some y) e f = has-named es u y.block.after a ∙ ap (any_named y.block.after) e
    by (Some x) None e f = or_false (has_number (map key_name es) x.block.before b)
        ∙ has-named es u x.block.before b ∙ ap (any_named x.block.before) f
    by (Some x) (Some y) e f =
        ap (λ t. t || has_number (map key_name es) y.block.after a)
        (has-named es u x.block.before b ∙ ap (any_named x.block.before) f)
        ∙ ap (λ t. among x.block.before (entry_name y) || t)
        (has-named es u y.block.after a ∙ ap (any_named y.block.after) e)
