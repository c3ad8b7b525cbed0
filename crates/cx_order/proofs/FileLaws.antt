-- What counts of the files of thorns, one after another.
use Rattle.std.proofs.Common.{◌≡◌, ◌⊎◌, inl, inr, refl, sym, ◌∙◌, ap, subst, ℕ, ◌+◌, ◌<◌, ◌≤◌, ℤ, Bool, true, false, List, [], ◌∷◌, map, length, drop, get_or, Option, Result, Ok, Err, arith, if◌then◌else◌}
use Rattle.std.specs.List.{All}
use Rattle.std.proofs.Math.ListN.{drop_of_length-le}
use Rattle.std.proofs.lemmas.List.{drop_more}
use Rattle.std.proofs.lemmas.List.Elements.{All-nil, All-cons, All-append, All-map, All-head, All-tail}
use Rattle.cx_expr.specs.declared.tree.ExprFault.{ExprFault}
use Rattle.cx_expr.specs.Known.{Names}
use Rattle.cx_expr.specs.Evaluation.{eval}
use Rattle.cx_sched.specs.declared.tree.Ref.{Ref}
use Rattle.cx_sched.specs.declared.tree.Node.{Node, Storage, Cond', Row_of-Node, end_of-Node, more_of-Node}
use Rattle.cx_sched.specs.declared.tree.Node as node
use Rattle.cx_sched.specs.declared.tree.ScheduleFile.{ScheduleFile}
use Rattle.cx_bind.specs.declared.thorns.Thorn.{Thorn}
use Rattle.cx_order.specs.declared.fault.OrderFault.{OrderFault}
use Rattle.cx_order_entries.specs.declared.counted.Line.{Line as LentLine}
use Rattle.cx_order_entries.specs.declared.counted.Entry.{Entry as LentEntry}
use Rattle.cx_order_entries.specs.declared.counted.Counted.{Counted as LentCounted}
use Rattle.cx_order_entries.specs.Counted.{Line, Entry, Counted, line, nothing, joined, taken, one_counted, each, counted_of}
use Rattle.cx_order_entries.specs.Seen.{seen, seen_line, seen_entry}
use Rattle.cx_order.specs.Blocks.{by_thorn}
use Rattle.cx_order.specs.Files.{counted_from}
use Rattle.cx_order_entries.proofs.CountedLaws.{and_then-nothing, joined-assoc}
use Rattle.cx_text.specs.Numbers.{is_not_zero}

unmapped : {X Y : Type 0} (P : Y → Type 0) (f : X → Y) (xs : List X) → All P (map f xs)
    → All (λ x. P (f x)) xs
unmapped P f [] h = All-nil (λ x. P (f x))
unmapped P f (x ∷ xs) h =
    All-cons (λ x. P (f x)) x xs (All-head P (f x) (map f xs) h)
    (unmapped P f xs (All-tail P (f x) (map f xs) h))

-- ---- the state of the loop over thorns: what is there, with that of the rest, is what counts of
-- all

pub record Sofar (names : ℕ → Names) (thorns : List Thorn) (files : List ScheduleFile) (k : ℕ)
    (now : Counted) : Type 0 where
  pub same : joined (Ok now) (counted_from names k (drop k thorns) (drop k files))
      ≡ counted_from names 0 thorns files

nothing-first : (r : Result Counted OrderFault) → joined (Ok nothing) r ≡ r
nothing-first (Ok c) = refl
nothing-first (Err e) = refl

pub sofar-none : (names : ℕ → Names) (thorns : List Thorn) (files : List ScheduleFile)
    (now : Counted) → now ≡ nothing → Sofar names thorns files 0 now
sofar-none names thorns files now none =
    record {
      same = ap (λ c. joined (Ok c) (counted_from names 0 thorns files)) none
          ∙ nothing-first (counted_from names 0 thorns files);
    }

pub seen-nothing : (c : LentCounted) → c.lines.items ≡ [] → c.entries.items ≡ [] → seen c ≡ nothing
seen-nothing c lines entries =
    ap (λ ls. record { lines = map seen_line ls; entries = map seen_entry c.entries.items }) lines
    ∙ ap (λ es. record { lines = []; entries = map seen_entry es }) entries

module _ (names : ℕ → Names) (thorns : List Thorn) (files : List ScheduleFile) (k : ℕ)
    (now : Counted) (s : Sofar names thorns files k now) where
  pub sofar-all : length thorns ≤ k → counted_from names 0 thorns files ≡ Ok now
  sofar-all past =
      sym s.same
      ∙ ap (λ ts. joined (Ok now) (counted_from names k ts (drop k files)))
      (drop_of_length-le thorns past)
      ∙ ap (λ c. Ok c) (and_then-nothing now)

  module _ (t : Thorn) (f : ScheduleFile) (is : t ≡ get_or thorns k t) (its : f ≡ get_or files k f)
      (in_thorns : k < length thorns) (in_files : k < length files) where
    told : Result Counted OrderFault
    told = by_thorn t.name (counted_of k (names k) f.items)

    parts : joined (Ok now)
        (joined told (counted_from names (k + 1) (drop (k + 1) thorns) (drop (k + 1) files)))
        ≡ counted_from names 0 thorns files
    unfolding told
    parts =
        sym
        (ap (λ ts. joined (Ok now) (counted_from names k ts (drop k files)))
        (drop_more thorns k t in_thorns ∙ ap (λ u. u ∷ drop (k + 1) thorns) (sym is))
        ∙ ap (λ fs. joined (Ok now) (counted_from names k (t ∷ drop (k + 1) thorns) fs))
        (drop_more files k f in_files ∙ ap (λ g. g ∷ drop (k + 1) files) (sym its)))
        ∙ s.same

    pub sofar-next : (new : Counted)
        → joined (Ok now) (by_thorn t.name (counted_of k (names k) f.items)) ≡ Ok new
        → Sofar names thorns files (k + 1) new
    unfolding told
    sofar-next new added =
        let rest : Result Counted OrderFault =
        counted_from names (k + 1) (drop (k + 1) thorns) (drop (k + 1) files) in
        record {
          same = ap (λ r. joined r rest) (sym added)
              ∙ joined-assoc now (by_thorn t.name (counted_of k (names k) f.items)) rest ∙ parts;
        }

    sofar-err : (e : OrderFault) → by_thorn t.name (counted_of k (names k) f.items) ≡ Err e
        → counted_from names 0 thorns files ≡ Err e
    unfolding told
    sofar-err e is_fault =
        let rest : Result Counted OrderFault =
        counted_from names (k + 1) (drop (k + 1) thorns) (drop (k + 1) files) in
        sym parts ∙ ap (λ r. joined (Ok now) (joined r rest)) is_fault

    pub sofar-told : (none e : OrderFault)
        → (e ≡ none) ⊎ (by_thorn t.name (counted_of k (names k) f.items) ≡ Err e)
        → (e ≡ none) ⊎ (counted_from names 0 thorns files ≡ Err e)
    sofar-told none e (inl h) = inl h
    sofar-told none e (inr h) = inr (sofar-err e h)

-- ---- the numbers of thorns

-- all that counts is of thorns with these numbers
abbrev AreOf : (E : Type 0) → (ℕ → Type 0) → Result Counted E → Type 0
AreOf E P (Ok c) = All (λ l. P l.thorn) c.lines × All (λ e. P e.thorn) c.entries
AreOf E P (Err e) = Unit {0}

module _ (E : Type 0) (P : ℕ → Type 0) where
  both-are : (a b : Result Counted E) → AreOf E P a → AreOf E P b → AreOf E P (joined a b)
  both-are (Err e) b p q = tt
  both-are (Ok a) (Err e) p q = tt
  both-are (Ok a) (Ok b) p q = (
    All-append (λ l. P l.thorn) a.lines b.lines p.0 q.0,
    All-append (λ e. P e.thorn) a.entries b.entries p.1 q.1,
  )

  taken-are : (n : Result ℤ E) (a b : Result Counted E) → AreOf E P a → AreOf E P b
      → AreOf E P (taken n a b)
  taken-are (Err e) a b p q = tt
  taken-are (Ok n) a b p q = by (is_not_zero n)
    where
      by : (t : Bool) → AreOf E P (if t then a else b)
      by true = p
      by false = q

  nothing-is : AreOf E P (Ok nothing)
  nothing-is = (All-nil (λ l. P l.thorn), All-nil (λ e. P e.thorn))

module _ (P : ℕ → Type 0) (thorn : ℕ) (p : P thorn) (names : Names) where
  lines-are : (stores : List (Ref × Option ℕ)) → All (λ l. P l.thorn) (map (line thorn) stores)
  lines-are stores = All-map (λ l. P l.thorn) (line thorn) stores (λ k d within. p)

  mutual
    node-are : (n : Node) → AreOf ExprFault P (one_counted thorn names n)
    node-are (Storage stores) = (lines-are stores, All-nil (λ e. P e.thorn))
    node-are (node.Block b) = (
      lines-are b.storage,
      All-cons (λ e. P e.thorn) (record { thorn = thorn; block = b }) [] p
          (All-nil (λ e. P e.thorn)),
    )
    node-are (Cond' test shape first shape2 second) =
        taken-are ExprFault P (eval names test) (each thorn names first) (each thorn names second)
        (each-are first) (each-are second)

    each-are : {m : _} (row : Row_of-Node m) → AreOf ExprFault P (each thorn names row)
    each-are end_of-Node = nothing-is ExprFault P
    each-are (more_of-Node n rest) =
        both-are ExprFault P (one_counted thorn names n) (each thorn names rest) (node-are n)
        (each-are rest)

  nodes-are : (ns : List Node) → AreOf ExprFault P (counted_of thorn names ns)
  nodes-are [] = nothing-is ExprFault P
  nodes-are (n ∷ ns) = both-are ExprFault P (one_counted thorn names n) (counted_of thorn names ns)
      (node-are n) (nodes-are ns)

  by-thorn-are : (name : List ℕ) (r : Result Counted ExprFault) → AreOf ExprFault P r
      → AreOf OrderFault P (by_thorn name r)
  by-thorn-are name (Ok c) q = q
  by-thorn-are name (Err e) q = tt

below-are : (names : ℕ → Names) (most n : ℕ) (thorns : List Thorn) (files : List ScheduleFile)
    → n + length thorns ≤ most
    → AreOf OrderFault (λ k. k < most) (counted_from names n thorns files)
below-are names most n [] files h = nothing-is OrderFault (λ k. k < most)
below-are names most n (t ∷ ts) [] h = nothing-is OrderFault (λ k. k < most)
below-are names most n (t ∷ ts) (f ∷ fs) h =
    let here : n < most = omega (arith, h) in
    let later : (n + 1) + length ts ≤ most = omega (arith, h) in
    both-are OrderFault (λ k. k < most) (by_thorn t.name (counted_of n (names n) f.items))
    (counted_from names (n + 1) ts fs)
    (by-thorn-are (λ k. k < most) n here (names n) t.name (counted_of n (names n) f.items)
    (nodes-are (λ k. k < most) n here (names n) f.items))
    (below-are names most (n + 1) ts fs later)

pub counted-below : (names : ℕ → Names) (thorns : List Thorn) (files : List ScheduleFile)
    (c : Counted) → counted_from names 0 thorns files ≡ Ok c
    → All (λ (l : Line). l.thorn < length thorns) c.lines
    × All (λ (e : Entry). e.thorn < length thorns) c.entries
counted-below names thorns files c is =
    let A : Result Counted OrderFault → Type 0 = λ r. AreOf OrderFault (λ k. k < length thorns) r in
    subst A is (below-are names (length thorns) 0 thorns files (omega arith))

module _ (names : ℕ → Names) (thorns : List Thorn) (files : List ScheduleFile) (c : LentCounted)
    (is : counted_from names 0 thorns files ≡ Ok (seen c)) where
  all-below : AreOf OrderFault (λ k. k < length thorns) (Ok (seen c))
  all-below = counted-below names thorns files (seen c) is

  pub lines-below : All (λ (l : LentLine). l.thorn < length thorns) c.lines.items
  lines-below = unmapped (λ (l : Line). l.thorn < length thorns) seen_line c.lines.items all-below.0

  pub entries-below : All (λ (e : LentEntry). e.thorn < length thorns) c.entries.items
  entries-below = unmapped (λ (e : Entry). e.thorn < length thorns)
      seen_entry c.entries.items all-below.1
