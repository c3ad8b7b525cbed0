-- The texts of the chunks, one record after another.
use Rattle.std.proofs.Common.{◌≡◌, ℕ, zero, suc, ◌+◌, ◌≤◌, ◌<◌, arith, refl, sym, ap, ◌∙◌, List, [], ◌∷◌, ◌++◌, length, map, take, drop, append_assoc}
use Rattle.std.specs.Prelude.{slice_index_or, slice_set}
use Rattle.std.specs.List.{flat_map, range_with_len}
use Rattle.std.proofs.lemmas.Grind.{flat_map-append}
use Rattle.std.proofs.lemmas.List.{append-nil, drop-set-lt, drop_all, drop_more, take_all, take_more_set}
use Rattle.std.proofs.lemmas.List.FromFn.{length-map-range_with_len}
use Rattle.cx_cut.specs.Cuts.{Parts, part_count}
use Rattle.cx_ascii_read.specs.declared.record.Record.{Record}
use Rattle.cx_chunks.specs.Pieces.{piece_text}
use Rattle.cx_chunks.specs.Cutting.{pieces_in, chunk_text, chunk_texts, with_record, AddsRecord, AddsVariable}
use Rattle.cx_chunks.proofs.StepLaws.{chunk_is, one_text, taken}

-- ---- the text of one part

-- what a part has of a record, and of the records of a variable
abbrev own_text : Parts → ℕ → Record → List ℕ
own_text c k r = flat_map piece_text (pieces_in c k r)

abbrev text_of : Parts → ℕ → List Record → List ℕ
text_of c k rs = flat_map piece_text (flat_map (pieces_in c k) rs)

-- one record more of a variable
own_more : (c : Parts) (k : ℕ) (rs : List Record) (r : Record)
    → text_of c k (rs ++ r ∷ []) ≡ text_of c k rs ++ own_text c k r
own_more c k rs r =
    ap (flat_map piece_text) (flat_map-append (pieces_in c k) rs (r ∷ []))
    ∙ flat_map-append piece_text (flat_map (pieces_in c k) rs) (flat_map (pieces_in c k) (r ∷ []))
    ∙ ap (λ (ps : List _). text_of c k rs ++ flat_map piece_text ps) (one_text (pieces_in c k) r)

-- one variable more
variable_more : (c : Parts) (k : ℕ) (done : List (List Record)) (rs : List Record)
    → chunk_text c (done ++ rs ∷ []) k ≡ chunk_text c done k ++ text_of c k rs
variable_more c k done rs =
    chunk_is c k (done ++ rs ∷ []) ∙ flat_map-append (text_of c k) done (rs ∷ [])
    ∙ ap (λ (t : List ℕ). flat_map (text_of c k) done ++ t) (one_text (text_of c k) rs)
    ∙ ap (λ (t : List ℕ). t ++ text_of c k rs) (sym (chunk_is c k done))

record_more : (c : Parts) (k : ℕ) (done : List (List Record)) (rs : List Record) (r : Record)
    → chunk_text c (done ++ (rs ++ r ∷ []) ∷ []) k
    ≡ chunk_text c (done ++ rs ∷ []) k ++ own_text c k r
record_more c k done rs r =
    variable_more c k done (rs ++ r ∷ [])
    ∙ ap (λ (t : List ℕ). chunk_text c done k ++ t) (own_more c k rs r)
    ∙ sym (append_assoc (chunk_text c done k) (text_of c k rs) (own_text c k r))
    ∙ ap (λ (t : List ℕ). t ++ own_text c k r) (sym (variable_more c k done rs))

-- ---- the texts of all parts

map_same : {X : Type 0} (f g : ℕ → X) → ((k : ℕ) → f k ≡ g k) → (ks : List ℕ)
    → map f ks ≡ map g ks
map_same f g same [] = refl
map_same {X} f g same (k ∷ ks) =
    ap (λ (x : X). x ∷ map f ks) (same k)
    ∙ ap (λ (xs : List X). g k ∷ xs) (map_same f g same ks)

with_all : (c : Parts) (r : Record) (f : ℕ → List ℕ) (k n : ℕ)
    → with_record c r k (map f (range_with_len k n))
    ≡ map (λ j. f j ++ own_text c j r) (range_with_len k n)
with_all c r f k zero = refl
with_all c r f k (suc n) =
    ap (λ (ts : List (List ℕ)). (f k ++ own_text c k r) ∷ ts) (with_all c r f (k + 1) n)

pub record_added : (c : Parts) (r : Record) (old new : List (List ℕ))
    → new ≡ with_record c r 0 old → AddsRecord c r old new
record_added c r old new is = λ done rs before.
    is ∙ ap (with_record c r 0) before
    ∙ with_all c r (chunk_text c (done ++ rs ∷ [])) 0 (part_count c)
    ∙ map_same (λ k. chunk_text c (done ++ rs ∷ []) k ++ own_text c k r)
    (chunk_text c (done ++ (rs ++ r ∷ []) ∷ [])) (λ k. sym (record_more c k done rs r))
    (range_with_len 0 (part_count c))

-- an output without records adds nothing
pub none_added : (c : Parts) (done : List (List Record))
    → chunk_texts c (done ++ [] ∷ []) ≡ chunk_texts c done
none_added c done =
    map_same (chunk_text c (done ++ [] ∷ [])) (chunk_text c done)
    (λ k. variable_more c k done [] ∙ append-nil (chunk_text c done k))
    (range_with_len 0 (part_count c))

pub texts_many : (c : Parts) (outputs : List (List Record)) (texts : List (List ℕ))
    → texts ≡ chunk_texts c outputs → length texts ≡ part_count c
texts_many c outputs texts is =
    ap length is ∙ length-map-range_with_len (chunk_text c outputs) 0 (part_count c)

-- ---- one part after another

pub as_many : (c : Parts) (r : Record) (k : ℕ) (texts : List (List ℕ))
    → length (with_record c r k texts) ≡ length texts
as_many c r k [] = refl
as_many c r k (text ∷ texts) = ap suc (as_many c r (k + 1) texts)

pub part_more : (c : Parts) (r : Record) (k : ℕ) (old new w : List (List ℕ)) → k < length old
    → new ≡ slice_set old k (slice_index_or old k [] ++ own_text c k r)
    → take k old ++ with_record c r k (drop k old) ≡ w
    → take (k + 1) new ++ with_record c r (k + 1) (drop (k + 1) new) ≡ w
part_more c r k old new w lt is before =
    let text = slice_index_or old k [] ++ own_text c k r in
    let front : take (k + 1) new ≡ take k old ++ text ∷ [] =
    ap (take (k + 1)) is ∙ take_more_set old k text lt in
    let back : drop (k + 1) new ≡ drop (k + 1) old =
    ap (drop (k + 1)) is ∙ drop-set-lt (k + 1) old k text (omega arith) in
    ap (λ (ts : List (List ℕ)). ts ++ with_record c r (k + 1) (drop (k + 1) new)) front
    ∙ ap (λ (ts : List (List ℕ)). (take k old ++ text ∷ []) ++ with_record c r (k + 1) ts) back
    ∙ append_assoc (take k old) (text ∷ []) (with_record c r (k + 1) (drop (k + 1) old))
    ∙ ap (λ (ts : List (List ℕ)). take k old ++ with_record c r k ts)
    (sym (drop_more old k [] lt))
    ∙ before

pub all_parts : (c : Parts) (r : Record) (k : ℕ) (now w : List (List ℕ)) → length now ≤ k
    → take k now ++ with_record c r k (drop k now) ≡ w → now ≡ w
all_parts c r k now w le is =
    sym (ap (λ (ts : List (List ℕ)). ts ++ with_record c r k (drop k now)) (take_all k now le)
    ∙ ap (λ (ts : List (List ℕ)). now ++ with_record c r k ts) (drop_all k now le)
    ∙ append-nil now)
    ∙ is

-- ---- one record, and one variable, of a list after another

pub none_yet : (c : Parts) (texts : List (List ℕ)) → AddsVariable c [] texts texts
none_yet c texts = λ done is. is ∙ sym (none_added c done)

pub next_record : (c : Parts) (rs : List Record) (k : ℕ) (r : Record)
    (start old new : List (List ℕ)) → k < length rs → r ≡ slice_index_or rs k r
    → AddsVariable c (take k rs) start old → AddsRecord c r old new
    → AddsVariable c (take (k + 1) rs) start new
next_record c rs k r start old new lt at before more = λ done is.
    more done (take k rs) (before done is)
    ∙ ap (λ (xs : List Record). chunk_texts c (done ++ xs ∷ [])) (sym (taken rs k r lt at))

pub next_variable : (c : Parts) (outputs : List (List Record)) (k : ℕ) (rs : List Record)
    (old new : List (List ℕ)) → k < length outputs → rs ≡ slice_index_or outputs k rs
    → old ≡ chunk_texts c (take k outputs) → AddsVariable c rs old new
    → new ≡ chunk_texts c (take (k + 1) outputs)
next_variable c outputs k rs old new lt at is more =
    more (take k outputs) is ∙ ap (chunk_texts c) (sym (taken outputs k rs lt at))
