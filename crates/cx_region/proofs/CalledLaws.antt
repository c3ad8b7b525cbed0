-- What a tree calls, and its marks.
use Rattle.std.proofs.Common.{◌≡◌, ℕ, zero, suc, ◌+◌, ◌<◌, Bool, true, false, ◌||◌, List, [], ◌∷◌, ◌++◌, length, refl, sym, ap, subst, ◌∙◌, take, get_or, eqb, ◌≤◌, add-one, arith}
use Rattle.std.specs.List.{flat_map, range_with_len}
use Rattle.std.proofs.lemmas.List.Folds.{list_any-append}
use Rattle.std.proofs.lemmas.List.{take_more, flat_map_more, get_or_past}
use Rattle.cx_plan.specs.declared.variable.VarId.{VarId}
use Rattle.cx_plan.specs.declared.tree.Tree.{Tree, Seq, If, While, Seq', Row_of-Tree, end_of-Tree, more_of-Tree, items-the_row-Tree, items_hidden-the_row-Tree-0}
use Rattle.cx_plan.specs.Setups.{Setup}
use Rattle.cx_plan.specs.Lookups.{called, called_in, bin}
use Rattle.cx_region.specs.Marks.{is_among_items, Marks}
use Rattle.cx_plan.specs.Lists.{is_marked}

row_called : (n : _) (row : Row_of-Tree n)
    → called_in row ≡ flat_map called (items-the_row-Tree n row)
row_called n end_of-Tree = refl
row_called n (more_of-Tree one rest) = ap (λ l. called one ++ l) (row_called _ rest)

abbrev row_of : Tree → (n : _) × Row_of-Tree n
row_of (Seq' shape row) = (_, row)
row_of _ = (_, end_of-Tree)

pub called-seq : (trees : List Tree) → called (Seq trees) ≡ flat_map called trees
called-seq trees =
    let r = row_of (Seq trees) in
    row_called r.0 r.1 ∙ ap (flat_map called) (items_hidden-the_row-Tree-0 trees)

pub called-if : (v : VarId) (path : List ℕ) (one : Tree) → called (If v path one) ≡ called one ++ []
unfolding Rattle.cx_plan.specs.declared.tree.Tree.TheBlock.hidden-the_row-Tree-1
    denote.Hole.Carrier.hidden
called-if v path one = refl

pub called-while : (v : VarId) (path : List ℕ) (one : Tree)
    → called (While v path one) ≡ called one ++ []
unfolding Rattle.cx_plan.specs.declared.tree.Tree.TheBlock.hidden-the_row-Tree-1
    denote.Hole.Carrier.hidden
called-while v path one = refl

-- ---- marks

or_none : (b : Bool) → (b || false) ≡ b
or_none true = refl
or_none false = refl

or_assoc : (a b c : Bool) → ((a || b) || c) ≡ (a || (b || c))
or_assoc true b c = refl
or_assoc false b c = refl

pub marks-none : (marks : List Bool) → Marks [] marks marks
marks-none marks = record {
  same_length = refl;
  marked = λ k below. sym (or_none (is_marked marks k));
}

pub marks-then : (a b : List ℕ) (old mid new : List Bool) → Marks a old mid → Marks b mid new
    → Marks (a ++ b) old new
marks-then a b old mid new first second =
    record {
      same_length = second.same_length ∙ first.same_length;
      marked = λ k below.
          let in_mid : k < length mid = subst (λ n. k < n) (sym first.same_length) below in
          second.marked k in_mid ∙ ap (λ t. t || is_among_items b k) (first.marked k below)
          ∙ or_assoc (is_marked old k) (is_among_items a k) (is_among_items b k)
          ∙ ap (λ t. is_marked old k || t) (sym (list_any-append (λ i. eqb i k) a b));
    }

pub marks-same : (a b : List ℕ) (old new : List Bool) → a ≡ b → Marks a old new → Marks b old new
marks-same a b old new same marks = subst (λ l. Marks l old new) same marks

pub flat_map-take : {A B : Type 0} (f : A → List B) (xs : List A) (i : ℕ) (d : A) → i < length xs
    → flat_map f (take i xs) ++ f (get_or xs i d) ≡ flat_map f (take (i + 1) xs)
flat_map-take f xs i d below =
    flat_map_more f [] (take i xs) (get_or xs i d) ∙ ap (flat_map f) (sym (take_more xs i d below))

pub marks-next : (trees : List Tree) (i : ℕ) (one : Tree) (old mid new : List Bool)
    → i < length trees → one ≡ get_or trees i one → Marks (flat_map called (take i trees)) old mid
    → Marks (called one) mid new → Marks (flat_map called (take (i + 1) trees)) old new
marks-next trees i one old mid new below is before here =
    marks-same (flat_map called (take i trees) ++ called one) (flat_map called (take (i + 1) trees))
    old new (ap (λ (t : Tree). flat_map called (take i trees) ++ called t) is
    ∙ flat_map-take called trees i one below)
    (marks-then (flat_map called (take i trees)) (called one) old mid new before here)

-- ---- bins

pub called-past : (setup : Setup) (b : ℕ) → length setup.bins ≤ b → called (bin setup b) ≡ []
called-past setup b past = ap called (get_or_past setup.bins b (Seq []) past) ∙ called-seq []

range_more : (a n : ℕ) → range_with_len a (suc n) ≡ range_with_len a n ++ (a + n) ∷ []
range_more a zero = ap (λ k. k ∷ []) (omega arith)
range_more a (suc n) =
    let same : a + 1 + n ≡ a + suc n = omega arith in
    ap (λ l. a ∷ l) (range_more (a + 1) n ∙ ap (λ k. range_with_len (a + 1) n ++ k ∷ []) same)

range_next : (n : ℕ) → range_with_len 0 (n + 1) ≡ range_with_len 0 n ++ n ∷ []
range_next n =
    let same : 0 + n ≡ n = omega arith in
    ap (range_with_len 0) (add-one n) ∙ range_more 0 n ∙ ap (λ k. range_with_len 0 n ++ k ∷ []) same

pub marks-bin : (f : ℕ → List ℕ) (n : ℕ) (old mid new : List Bool)
    → Marks (flat_map f (range_with_len 0 n)) old mid → Marks (f n) mid new
    → Marks (flat_map f (range_with_len 0 (n + 1))) old new
marks-bin f n old mid new before here =
    marks-same (flat_map f (range_with_len 0 n) ++ f n) (flat_map f (range_with_len 0 (n + 1)))
    old new
    (flat_map_more f [] (range_with_len 0 n) n ∙ ap (flat_map f) (sym (range_next n)))
    (marks-then (flat_map f (range_with_len 0 n)) (f n) old mid new before here)
