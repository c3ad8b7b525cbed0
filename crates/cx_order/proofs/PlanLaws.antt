-- What a row of entries makes, entry by entry.
use Rattle.std.proofs.Common.{◌≡◌, refl, sym, ◌∙◌, ap, subst, ℕ, suc, ◌+◌, ◌-◌, ◌<◌, ◌≤◌, Bool, true, false, List, [], ◌∷◌, ◌++◌, length, drop, get_or, Option, Some, Result, Ok, Err, append_assoc, append-nil, length-append, if◌then◌else◌, map, arith}
use Rattle.std.specs.Prelude.{IfOk, codes, nat_lt}
use Rattle.std.specs.List.{slice_get, cons_option, flat_map, range_with_len}
use Rattle.std.proofs.lemmas.List.{drop_more}
use Rattle.cx_plan.specs.declared.tree.Tree.{Tree, Seq}
use Rattle.cx_plan.specs.declared.item.Item.{Item}
use Rattle.cx_order.specs.declared.meaning.Meaning.{Meaning}
use Rattle.cx_order.specs.declared.planning.Made.{Made}
use Rattle.cx_plan.specs.Lookups.{bin_name, run_bin_count}
use Rattle.cx_order_entries.specs.Counted.{Entry}
use Rattle.cx_order.specs.Meanings.{World, names_of}
use Rattle.cx_order.specs.Plans.{Forest, Done, Then, calls, trees, forest_items, sync_tree, call_tree, item_of, wrapped, path_of, bin_trees}
use Rattle.cx_order.specs.Texts.{blanks, entry_text, line_feed, forest_text, bin_text, bins_text, schedule_text}
use Rattle.cx_order_entries.specs.PlaceNumbers.{Orders}
use Rattle.cx_order_entries.specs.Members.{entries_of}
use Rattle.cx_order.specs.PlanSteps.{inside_of, row_with, Makes, Works, MakesBin, MakesBins, HasRoom, calls_of}

-- ---- how many items there are

one-count : (g : Bool) (a b : ℕ) (xs ys : List Item) (x : Item) → length xs ≡ a → length ys ≡ b
    → length ((if g then xs else x ∷ []) ++ ys) ≡ (if g then a else 1) + b
one-count true a b xs ys x h k =
    length-append xs ys ∙ (ap (λ n. n + length ys) h ∙ ap (λ n. a + n) k)
one-count false a b xs ys x h k = length-append (x ∷ []) ys ∙ ap (λ n. 1 + n) k

pub count-items : (w : World) (f : Forest) → length (forest_items w f) ≡ calls f
count-items w Done = refl
count-items w (Then e path inside rest) =
    one-count e.block.group (calls inside) (calls rest) (forest_items w inside)
    (forest_items w rest) (item_of w e path) (count-items w inside) (count-items w rest)

-- ---- a row of entries

-- The trees of some entries that were passed, and what was made beside them: with the rest it is
-- what all entries make.
pub record Passed (w : World) (depth : ℕ) (first now : Made) (made : List Tree)
    (all rest : Forest) : Type 0 where
  pub of_trees : made ++ trees w (length now.items) rest ≡ trees w (length first.items) all
  pub of_items : now.items ++ forest_items w rest ≡ first.items ++ forest_items w all
  pub of_text : now.text ++ forest_text w depth rest ≡ first.text ++ forest_text w depth all

pub passed-none : (w : World) (depth : ℕ) (first : Made) (all : Forest)
    → Passed w depth first first [] all all
passed-none w depth first all = record { of_trees = refl; of_items = refl; of_text = refl }

pub passed-all : (w : World) (depth : ℕ) (first now : Made) (made : List Tree) (all rest : Forest)
    → rest ≡ Done → Passed w depth first now made all rest → Makes w depth all first now made
passed-all w depth first now made all rest none p =
    record {
      of_trees = sym (append-nil made)
          ∙ (ap (λ r. made ++ trees w (length now.items) r) (sym none) ∙ p.of_trees);
      of_items = sym (append-nil now.items)
          ∙ (ap (λ r. now.items ++ forest_items w r) (sym none) ∙ p.of_items);
      of_text = sym (append-nil now.text)
          ∙ (ap (λ r. now.text ++ forest_text w depth r) (sym none) ∙ p.of_text);
    }

module _ (w : World) (depth : ℕ) (e : Entry) (path : List ℕ) (inside rest : Forest) where
  one : Forest
  one = Then e path inside Done

  some_items : List Item
  some_items = if e.block.group then forest_items w inside else item_of w e path ∷ []

  some_count : length some_items ≡ (if e.block.group then calls inside else 1)
  unfolding some_items
  some_count = by_group e.block.group
    where
      by_group : (g : Bool) → length (if g then forest_items w inside else item_of w e path ∷ [])
          ≡ (if g then calls inside else 1)
      by_group true = count-items w inside
      by_group false = refl

  pub passed-next : (first now new : Made) (made : List Tree) (tree : Tree) (all before : Forest)
      → before ≡ Then e path inside rest
      → Makes w depth (Then e path inside Done) now new (tree ∷ [])
      → Passed w depth first now made all before
      → Passed w depth first new (made ++ tree ∷ []) all rest
  unfolding some_items
  passed-next first now new made tree all before parts m p =
      let count : length new.items
      ≡ length now.items + (if e.block.group then calls inside else 1) =
      ap length m.of_items ∙ (ap (λ xs. length (now.items ++ xs)) (append-nil some_items)
      ∙ (length-append now.items some_items ∙ ap (λ n. length now.items + n) some_count)) in
      record {
        of_trees = append_assoc made (tree ∷ []) (trees w (length new.items) rest)
            ∙ (ap (λ n. made ++ (tree ∷ trees w n rest)) count
            ∙ (ap
            (λ ts. made
            ++ (ts ++ trees w (length now.items + (if e.block.group then calls inside else 1))
            rest)) m.of_trees
            ∙ (ap (λ f. made ++ trees w (length now.items) f) (sym parts) ∙ p.of_trees)));
        of_items = ap (λ xs. xs ++ forest_items w rest)
            (m.of_items ∙ ap (λ xs. now.items ++ xs) (append-nil some_items))
            ∙ (append_assoc now.items some_items (forest_items w rest)
            ∙ (ap (λ f. now.items ++ forest_items w f) (sym parts) ∙ p.of_items));
        of_text = ap (λ t. t ++ forest_text w depth rest)
            (m.of_text ∙ ap (λ t. now.text ++ t)
            (append-nil (blanks depth ++ entry_text w e ++ line_feed
            ++ forest_text w (suc depth) inside)))
            ∙ (append_assoc now.text
            (blanks depth ++ entry_text w e ++ line_feed ++ forest_text w (suc depth) inside)
            (forest_text w depth rest)
            ∙ (ap (λ f. now.text ++ forest_text w depth f) (sym parts) ∙ p.of_text));
      }

-- ---- room for the items of one entry

pub room-next : (w : World) (depth : ℕ) (e : Entry) (path : List ℕ) (inside rest : Forest)
    (first now : Made) (made : List Tree) (all before : Forest) → before ≡ Then e path inside rest
    → Passed w depth first now made all before → HasRoom first (calls all)
    → HasRoom now (calls (Then e path inside Done))
room-next w depth e path inside rest first now made all before parts p room =
    let sums : length now.items + calls before ≡ length first.items + calls all =
    ap (λ n. length now.items + n) (sym (count-items w before))
    ∙ (sym (length-append now.items (forest_items w before))
    ∙ (ap length p.of_items
    ∙ (length-append first.items (forest_items w all)
    ∙ ap (λ n. length first.items + n) (count-items w all)))) in
    enough (length now.items) (calls before) (length first.items) (calls all) (calls_of e inside)
    (calls rest) sums (ap calls parts) room
  where
    enough : (a b c d x y : ℕ) → a + b ≡ c + d → b ≡ x + y → c + d ≤ 4096 → a + (x + 0) ≤ 4096
    enough a b c d x y sums parts room = omega arith

pub room-inside : (made : Made) (e : Entry) (inside other : Forest) → e.block.group ≡ true
    → other ≡ inside → HasRoom made (calls_of e inside) → HasRoom made (calls other)
room-inside made e inside other group same room =
    let is : calls_of e inside ≡ calls other =
    ap (λ (g : Bool). if g then calls inside else 1) group ∙ ap calls (sym same) in
    subst (λ n. length made.items + n ≤ 4096) is room

-- ---- one entry

pub makes-member : (w : World) (line_depth depth deep : ℕ) (e : Entry) (m : Meaning) (path : List ℕ)
    (inside : Forest) (old mid new : Made) (work tree : Tree) → m ≡ names_of w e
    → line_depth ≡ depth → deep ≡ suc depth → mid.items ≡ old.items
    → mid.text ≡ old.text ++ (blanks line_depth ++ entry_text w e ++ line_feed)
    → Works w deep e path inside mid new work → tree ≡ wrapped m path work
    → Makes w depth (Then e path inside Done) old new (tree ∷ [])
makes-member w line_depth depth deep e m path inside old mid new work tree meant there deeper items
    line works is =
    record {
      of_trees = ap (λ t. t ∷ [])
          (is ∙ (ap (λ (n : Meaning). wrapped n path work) meant
          ∙ (ap (wrapped (names_of w e) path) works.of_work
          ∙ ap (λ n. wrapped (names_of w e) path
          (if e.block.group then Seq (trees w n inside ++ sync_tree path (names_of w e).sync)
          else call_tree path (names_of w e).sync n)) (ap length items))));
      of_items = works.of_items
          ∙ (ap
          (λ xs. xs ++ (if e.block.group then forest_items w inside else item_of w e path ∷ []))
          items ∙ ap (λ xs. old.items ++ xs)
          (sym (append-nil (if e.block.group then forest_items w inside
          else item_of w e path ∷ []))));
      of_text = works.of_text
          ∙ (ap (λ n. mid.text ++ forest_text w n inside) deeper
          ∙ (ap (λ t. t ++ forest_text w (suc depth) inside)
          (line ∙ ap (λ d. old.text ++ (blanks d ++ entry_text w e ++ line_feed)) there)
          ∙ (append_assoc old.text (blanks depth ++ entry_text w e ++ line_feed)
          (forest_text w (suc depth) inside)
          ∙ ap (λ t. old.text ++ t)
          (sym (append-nil (blanks depth ++ entry_text w e ++ line_feed
          ++ forest_text w (suc depth) inside))))));
    }

-- ---- a group or a call

pub works-group : (w : World) (depth : ℕ) (e : Entry) (path : List ℕ) (inside other : Forest)
    (old new : Made) (contents : List Tree) (m : Meaning) (work : Tree) → e.block.group ≡ true
    → m ≡ names_of w e → other ≡ inside → Makes w depth other old new contents
    → work ≡ Seq (contents ++ sync_tree path m.sync) → Works w depth e path inside old new work
works-group w depth e path inside other old new contents m work group meant same makes is =
    let made : Makes w depth inside old new contents = let A : Forest
    → Type 0 = λ f. Makes w depth f old new contents in subst A same makes in
    record {
      of_work = is ∙ (ap (λ (n : Meaning). Seq (contents ++ sync_tree path n.sync)) meant
          ∙ (ap (λ ts. Seq (ts ++ sync_tree path (names_of w e).sync)) made.of_trees
          ∙ ap (λ (g : Bool). if g
          then Seq (trees w (length old.items) inside ++ sync_tree path (names_of w e).sync)
          else call_tree path (names_of w e).sync (length old.items)) (sym group)));
      of_items = made.of_items
          ∙ ap (λ (g : Bool). old.items
          ++ (if g then forest_items w inside else item_of w e path ∷ [])) (sym group);
      of_text = made.of_text;
    }

pub works-call : (w : World) (depth : ℕ) (e : Entry) (path : List ℕ) (inside : Forest)
    (old new : Made) (m : Meaning) (work : Tree) → e.block.group ≡ false → m ≡ names_of w e
    → inside ≡ Done → work ≡ call_tree path m.sync (length old.items)
    → new.items ≡ old.items ++ item_of w e path ∷ [] → new.text ≡ old.text
    → Works w depth e path inside old new work
works-call w depth e path inside old new m work call meant none is items text =
    record {
      of_work = is ∙ (ap (λ (n : Meaning). call_tree path n.sync (length old.items)) meant
          ∙ ap (λ (g : Bool). if g
          then Seq (trees w (length old.items) inside ++ sync_tree path (names_of w e).sync)
          else call_tree path (names_of w e).sync (length old.items)) (sym call));
      of_items =
          items ∙ ap (λ (g : Bool). old.items
          ++ (if g then forest_items w inside else item_of w e path ∷ [])) (sym call);
      of_text = text ∙ (sym (append-nil old.text)
          ∙ ap (λ f. old.text ++ forest_text w depth f) (sym none));
    }

-- ---- what calls answer

pub if_ok : {T E : Type 0} (r : Result T E) (P Q : T → Type 0) → ((x : T) → P x → Q x) → IfOk r P
    → IfOk r Q
if_ok (Ok x) P Q f h = f x h
if_ok (Err e) P Q f h = tt

-- the row of the entries that are left, one entry on
pub row-next : (n : ℕ) (es : List Entry) (orders : Orders) (path : List ℕ) (members : List ℕ)
    (i d : ℕ) (e : Entry) → i < length members → slice_get es (get_or members i d) ≡ Some e
    → row_with n es orders path (entries_of es (drop i members))
    ≡ Then e (path_of path e) (inside_of n es orders e (path_of path e))
    (row_with n es orders path (entries_of es (drop (i + 1) members)))
row-next n es orders path members i d e h there =
    ap (λ ms. row_with n es orders path (entries_of es ms)) (drop_more members i d h)
    ∙ ap (λ (o : Option Entry).
    row_with n es orders path (cons_option o (entries_of es (drop (i + 1) members)))) there

-- ---- bins

pub bin-made : (w : World) (b : ℕ) (f other : Forest) (old mid new : Made) (contents : List Tree)
    (tree : Tree) → mid.items ≡ old.items
    → mid.text ≡ old.text ++ (codes "bin " ++ bin_name b
    ++ (if nat_lt b run_bin_count then [] else codes " not run") ++ line_feed) → other ≡ f
    → Makes w 1 other mid new contents → tree ≡ Seq contents → MakesBin w b f old new tree
bin-made w b f other old mid new contents tree items line same makes is =
    let made : Makes w 1 f mid new contents = let A : Forest
    → Type 0 = λ f. Makes w 1 f mid new contents in subst A same makes in
    record {
      of_tree = is ∙ (ap (λ ts. Seq ts) made.of_trees
          ∙ ap (λ n. Seq (trees w n f)) (ap length items));
      of_items = made.of_items ∙ ap (λ xs. xs ++ forest_items w f) items;
      of_text = made.of_text ∙ (ap (λ t. t ++ forest_text w 1 f) line
          ∙ append_assoc old.text
          (codes "bin " ++ bin_name b ++ (if nat_lt b run_bin_count then [] else codes " not run")
          ++ line_feed) (forest_text w 1 f));
    }

-- Some bins were passed: with the rest, what is there is what all bins make.
pub record BinsPassed (w : World) (b : ℕ) (first now : Made) (made : List Tree)
    (all rest : List Forest) : Type 0 where
  pub of_trees : made ++ bin_trees w (length now.items) rest ≡ bin_trees w (length first.items) all
  pub of_items : now.items ++ flat_map (forest_items w) rest
      ≡ first.items ++ flat_map (forest_items w) all
  pub of_text : now.text ++ bins_text w b rest ≡ first.text ++ schedule_text w all

pub bins-none : (w : World) (first : Made) (all : List Forest)
    → BinsPassed w 0 first first [] all all
bins-none w first all = record { of_trees = refl; of_items = refl; of_text = refl }

pub bins-next : (w : World) (b next : ℕ) (first now new : Made) (made : List Tree) (tree : Tree)
    (f : Forest) (all rest more : List Forest) → next ≡ suc b → rest ≡ f ∷ more
    → MakesBin w b f now new tree → BinsPassed w b first now made all rest
    → BinsPassed w next first new (made ++ tree ∷ []) all more
bins-next w b next first now new made tree f all rest more one_on parts m p =
    let count : length new.items ≡ length now.items + calls f =
    ap length m.of_items ∙ (length-append now.items (forest_items w f)
    ∙ ap (λ n. length now.items + n) (count-items w f)) in
    record {
      of_trees = append_assoc made (tree ∷ []) (bin_trees w (length new.items) more)
          ∙ (ap (λ n. made ++ (tree ∷ bin_trees w n more)) count
          ∙ (ap (λ t. made ++ (t ∷ bin_trees w (length now.items + calls f) more)) m.of_tree
          ∙ (ap (λ fs. made ++ bin_trees w (length now.items) fs) (sym parts) ∙ p.of_trees)));
      of_items = ap (λ xs. xs ++ flat_map (forest_items w) more) m.of_items
          ∙ (append_assoc now.items (forest_items w f) (flat_map (forest_items w) more)
          ∙ (ap (λ fs. now.items ++ flat_map (forest_items w) fs) (sym parts) ∙ p.of_items));
      of_text = ap (λ n. new.text ++ bins_text w n more) one_on
          ∙ (ap (λ t. t ++ bins_text w (suc b) more) m.of_text
          ∙ (append_assoc now.text (bin_text w b f) (bins_text w (suc b) more)
          ∙ (ap (λ fs. now.text ++ bins_text w b fs) (sym parts) ∙ p.of_text)));
    }

pub bins-room : (w : World) (b : ℕ) (first now : Made) (made : List Tree) (f : Forest)
    (all rest more : List Forest) → rest ≡ f ∷ more → BinsPassed w b first now made all rest
    → HasRoom first (length (flat_map (forest_items w) all)) → HasRoom now (calls f)
bins-room w b first now made f all rest more parts p room =
    let sums : length now.items + length (flat_map (forest_items w) rest)
    ≡ length first.items + length (flat_map (forest_items w) all) =
    sym (length-append now.items (flat_map (forest_items w) rest))
    ∙ (ap length p.of_items
    ∙ length-append first.items (flat_map (forest_items w) all)) in
    let counts : length (flat_map (forest_items w) rest)
    ≡ calls f + length (flat_map (forest_items w) more) =
    ap (λ fs. length (flat_map (forest_items w) fs)) parts
    ∙ (length-append (forest_items w f) (flat_map (forest_items w) more)
    ∙ ap (λ n. n + length (flat_map (forest_items w) more)) (count-items w f)) in
    enough (length now.items) (length (flat_map (forest_items w) rest)) (length first.items)
    (length (flat_map (forest_items w) all)) (calls f) (length (flat_map (forest_items w) more))
    sums counts room
  where
    enough : (a b c d x y : ℕ) → a + b ≡ c + d → b ≡ x + y → c + d ≤ 4096 → a + x ≤ 4096
    enough a b c d x y sums parts room = omega arith

pub bins-all : (w : World) (b : ℕ) (first now : Made) (made : List Tree) (all rest : List Forest)
    → rest ≡ [] → BinsPassed w b first now made all rest → MakesBins w all first now made
bins-all w b first now made all rest none p =
    record {
      of_trees = sym (append-nil made)
          ∙ (ap (λ fs. made ++ bin_trees w (length now.items) fs) (sym none) ∙ p.of_trees);
      of_items = sym (append-nil now.items)
          ∙ (ap (λ fs. now.items ++ flat_map (forest_items w) fs) (sym none) ∙ p.of_items);
      of_text = sym (append-nil now.text)
          ∙ (ap (λ fs. now.text ++ bins_text w b fs) (sym none) ∙ p.of_text);
    }

-- the bins from one on, of so many
abbrev pub bins_from : (ℕ → Forest) → ℕ → ℕ → List Forest
bins_from f n b = map f (range_with_len b (n - b))

pub bins_from-next : (f : ℕ → Forest) (n b : ℕ) → b < n
    → bins_from f n b ≡ f b ∷ bins_from f n (b + 1)
bins_from-next f n b h =
    let one : n - b ≡ suc (n - (b + 1)) = omega arith in
    ap (λ k. map f (range_with_len b k)) one

pub bins_from-none : (f : ℕ → Forest) (n b : ℕ) → n ≤ b → bins_from f n b ≡ []
bins_from-none f n b h =
    let none : n - b ≡ 0 = omega arith in
    ap (λ k. map f (range_with_len b k)) none
