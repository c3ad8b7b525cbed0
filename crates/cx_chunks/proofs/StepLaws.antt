-- One step of a loop more.
use Rattle.std.proofs.Common.{◌≡◌, ℕ, ℤ, pos, suc, ◌+◌, ◌-◌, ◌<◌, ◌⊎◌, inl, inr, Bool, arith, refl, sym, ap, ◌∙◌, List, [], ◌∷◌, ◌++◌, length, map, get_or, take, drop, Option, Some, None}
use Rattle.std.specs.Prelude.{slice_index_or, if◌then◌else◌}
use Rattle.std.specs.List.{flat_map, range_with_len}
use Rattle.std.proofs.lemmas.Bool.{eq-eqb}
use Rattle.std.proofs.lemmas.Grind.{flat_map-append}
use Rattle.std.proofs.lemmas.List.{append-nil, take_more, drop_more}
use Rattle.std.proofs.lemmas.List.Concat.{flat_map-cons}
use Rattle.std.proofs.lemmas.List.FromFn.{map-range_with_len_more}
use Rattle.cx_plan.specs.Lists.{or_else, first_of_each}
use Rattle.cx_cut.specs.Cuts.{Parts}
use Rattle.cx_ascii_read.specs.declared.record.Record.{Record}
use Rattle.cx_ascii.specs.Output.{line}
use Rattle.cx_ascii_read.specs.Records.{text_of}
use Rattle.cx_chunks.specs.declared.fault.ChunkFault.{ChunkFault}
use Rattle.cx_chunks.specs.declared.piece.Piece.{Piece}
use Rattle.cx_chunks.specs.declared.piece.Piece.TheVariants.{Line}
use Rattle.cx_chunks.specs.Pieces.{piece_text}
use Rattle.cx_chunks.specs.Cutting.{line_in, section_in, pieces_by, pieces_in, chunk_text}
use Rattle.cx_chunks.specs.Combining.{full_of, iteration_of, by_piece}

pub grown_map : {X : Type 0} (f : ℕ → X) (old new : List X) (k : ℕ)
    → old ≡ map f (range_with_len 0 k)
    → new ≡ old ++ f k ∷ [] → new ≡ map f (range_with_len 0 (k + 1))
grown_map f old new k before now =
    now ∙ ap (λ l. l ++ f k ∷ []) before ∙ sym (map-range_with_len_more f 0 k k (omega arith))

pub taken : {X : Type 0} (xs : List X) (k : ℕ) (x : X) → k < length xs → x ≡ get_or xs k x
    → take (k + 1) xs ≡ take k xs ++ x ∷ []
taken xs k x within at = take_more xs k x within ∙ ap (λ u. take k xs ++ u ∷ []) (sym at)

pub left_over : {X : Type 0} (xs : List X) (k : ℕ) (x : X) → k < length xs → x ≡ get_or xs k x
    → drop k xs ≡ x ∷ drop (k + 1) xs
left_over xs k x within at = drop_more xs k x within ∙ ap (λ u. u ∷ drop (k + 1) xs) (sym at)

-- what one element alone adds
pub one_text : {X A : Type 0} (f : X → List A) (x : X) → flat_map f (x ∷ []) ≡ f x
one_text f x = flat_map-cons f x [] ∙ append-nil (f x)

map_push : {X Y : Type 0} (f : X → Y) (xs : List X) (x : X)
    → map f (xs ++ x ∷ []) ≡ map f xs ++ f x ∷ []
map_push f [] x = refl
map_push f (y ∷ ys) x = ap (λ l. f y ∷ l) (map_push f ys x)

pub grown_list : {X Y : Type 0} (f : X → Y) (xs : List X) (k : ℕ) (x : X) (old new : List Y)
    → k < length xs → x ≡ get_or xs k x → old ≡ map f (take k xs) → new ≡ old ++ f x ∷ []
    → new ≡ map f (take (k + 1) xs)
grown_list f xs k x old new within at before now =
    now ∙ ap (λ l. l ++ f x ∷ []) before ∙ sym (map_push f (take k xs) x)
    ∙ ap (map f) (sym (taken xs k x within at))

-- the text of a chunk, variable by variable
pub chunk_is : (c : Parts) (k : ℕ) (outputs : List (List Record))
    → chunk_text c outputs k
    ≡ flat_map (λ (rs : List Record). flat_map piece_text (flat_map (pieces_in c k) rs)) outputs
chunk_is c k [] = refl
chunk_is c k (rs ∷ rss) =
    ap (flat_map piece_text) (flat_map-cons (flat_map (pieces_in c k)) rs rss)
    ∙ flat_map-append piece_text (flat_map (pieces_in c k) rs)
    (flat_map (flat_map (pieces_in c k)) rss)
    ∙ ap (λ l. flat_map piece_text (flat_map (pieces_in c k) rs) ++ l) (chunk_is c k rss)

-- one part after another
pub range_left : (a n : ℕ) → a < n
    → range_with_len a (n - a) ≡ a ∷ range_with_len (a + 1) (n - (a + 1))
range_left a n less =
    let e : n - a ≡ suc (n - (a + 1)) = omega (arith, less) in
    ap (range_with_len a) e

pub everywhere_more : {A : Type 0} (f : ℕ → Option A) (part count : ℕ) (w : Option A) → part < count
    → f part ≡ None → first_of_each f (range_with_len part (count - part)) ≡ w
    → first_of_each f (range_with_len (part + 1) (count - (part + 1))) ≡ w
everywhere_more f part count w less none all =
    ap (λ o. or_else o (first_of_each f (range_with_len (part + 1) (count - (part + 1)))))
    (sym none)
    ∙ ap (first_of_each f) (sym (range_left part count less)) ∙ all

-- the first fault of what is left
pub told_each : {F : Type 0} (f : ℕ → Option F) (items : List ℕ) (i : ℕ) (memory e : F)
    (w : Option F)
    → i < length items → first_of_each f (drop i items) ≡ w
    → (e ≡ memory) ⊎ (f (get_or items i 0) ≡ Some e) → (e ≡ memory) ⊎ (w ≡ Some e)
told_each f items i memory e w there left (inl is) = inl is
told_each f items i memory e w there left (inr fault) =
    inr (sym left ∙ ap (first_of_each f) (drop_more items i 0 there)
    ∙ ap (λ o. or_else o (first_of_each f (drop (i + 1) items))) fault)

-- ---- what a part has of a record, as text

pub line_text : (k : ℕ) (r : Record) (v : ℤ) (text : List ℕ) → k ≡ 0 → r.size ≡ []
    → v ≡ slice_index_or r.values 0 (pos 0) → text ≡ line r.full r.iteration v
    → text ≡ flat_map piece_text (line_in k r)
line_text k r v text first none value is =
    is ∙ ap (line r.full r.iteration) value
    ∙ ap (λ (ns : List ℕ). text_of r.full r.iteration ns r.values) (sym none)
    ∙ sym (one_text piece_text (Line r))
    ∙ ap (λ (b : Bool). flat_map piece_text (if b then Line r ∷ [] else []))
    (sym (eq-eqb k 0 first))

pub section_text : (c : Parts) (k : ℕ) (r : Record) (text : List ℕ) → 0 < length r.size
    → text ≡ piece_text (section_in c k r) → text ≡ flat_map piece_text (pieces_in c k r)
section_text c k r text some is = go r.size refl
  where
    go : (size : List ℕ) → r.size ≡ size → text ≡ flat_map piece_text (pieces_by c k size r)
    go [] e = let n = ap length e in absurd (omega (arith, some, n))
    go (n ∷ ns) e = is ∙ sym (one_text piece_text (section_in c k r))

-- ---- the fault of a piece

pub told_piece : (fault : ℕ → List ℕ → ℕ → ChunkFault) (k : ℕ) (o : Option Piece) (p : Piece)
    (full : List ℕ) (n : ℕ) → o ≡ Some p → full ≡ full_of p → n ≡ iteration_of p
    → by_piece fault k o ≡ Some (fault k full n)
told_piece fault k o p full n is name time =
    ap (by_piece fault k) is ∙ ap (λ (t : List ℕ). Some (fault k t (iteration_of p))) (sym name)
    ∙ ap (λ i. Some (fault k full i)) (sym time)
