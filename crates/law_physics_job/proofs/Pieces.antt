-- The tokens of a text, and what they say, computed.
use Rattle.std.proofs.Common.{◌≡◌, refl, sym, ap, subst, ◌∙◌, ℕ, zero, suc, Bool, true, List, [], ◌∷◌, Option, Some, None, Ok, Err}
use Rattle.std.specs.Option.{option_map, option_and_then}
use Rattle.cx_text.specs.declared.token.Token.{Token}
use Rattle.cx_text.specs.declared.token.Style.{Style}
use Rattle.cx_text.specs.declared.token.Style.TheVariants.{Ccl}
use Rattle.cx_text.specs.Pieces.{Piece, fresh_after, tokens_of, Cut, Spelled}
use Rattle.cx_text.specs.Scanning.{take_piece, Taken}
use Rattle.cx_text.specs.Grammar.{Grammar, Spells}
use Rattle.cx_text.specs.Reading.{Answer, Read, read_whole}
use Rattle.cx_text.proofs.Laws.{Reads}
use Rattle.cx_text.proofs.Whole.{whole_only}
use Rattle.cx_text.proofs.ScanLaws.{taken_stands}
use Rattle.cx_text.proofs.CutLaws.{spelled_one}

-- ---- pieces

abbrev first_and : Piece → Option (List Piece) → Option (List Piece)
first_and p None = None
first_and p (Some ps) = Some (p ∷ ps)

abbrev with_first : (Bool → List ℕ → Option (List Piece)) → Bool → Taken → Option (List Piece)
with_first others fresh None = None
with_first others fresh (Some x) = first_and x.0 (others (fresh_after fresh x.0) x.1)

-- at most so many pieces
abbrev pub pieces : ℕ → Style → Bool → List ℕ → Option (List Piece)
pieces zero style fresh [] = Some []
pieces zero style fresh (b ∷ bs) = None
pieces (suc n) style fresh [] = Some []
pieces (suc n) style fresh (b ∷ bs) =
    with_first (pieces n style) fresh (take_piece style fresh (b ∷ bs))

module _ (style : Style) where
  cut_first : (n : ℕ) (fresh : Bool) (bytes : List ℕ) (p : Piece) (more : List ℕ)
      → ((ps : List Piece) → pieces n style (fresh_after fresh p) more ≡ Some ps
      → Cut style (fresh_after fresh p) ps more [])
      → take_piece style fresh bytes ≡ Some (p, more) → (o : Option (List Piece))
      → pieces n style (fresh_after fresh p) more ≡ o → (ps : List Piece)
      → first_and p o ≡ Some ps → Cut style fresh ps bytes []
  cut_first n fresh bytes p more rest taken None is ps e = absurd cc
  cut_first n fresh bytes p more rest taken (Some qs) is [] e = absurd cc
  cut_first n fresh bytes p more rest taken (Some qs) is (q ∷ ps) e =
      let same : (p ≡ q) × (qs ≡ ps) = (cc, cc) in
      let stands = taken_stands style fresh bytes (p, more) taken in
      subst (λ (z : List Piece). Cut style fresh z bytes []) (parts_same p q qs ps same.0 same.1)
      (more, stands.0, stands.1, rest qs is)
    where
      parts_same : (p q : Piece) (qs ps : List Piece) → p ≡ q → qs ≡ ps → (p ∷ qs) ≡ (q ∷ ps)
      parts_same p q qs ps a b = λ i. a i ∷ b i

  cut_taken : (n : ℕ) (fresh : Bool) (bytes : List ℕ)
      → ((f : Bool) (bs : List ℕ) (ps : List Piece) → pieces n style f bs ≡ Some ps
      → Cut style f ps bs []) → (t : Taken) → take_piece style fresh bytes ≡ t
      → (ps : List Piece) → with_first (pieces n style) fresh t ≡ Some ps
      → Cut style fresh ps bytes []
  cut_taken n fresh bytes rest None taken ps e = absurd cc
  cut_taken n fresh bytes rest (Some x) taken ps e =
      cut_first n fresh bytes x.0 x.1 (rest (fresh_after fresh x.0) x.1) taken
      (pieces n style (fresh_after fresh x.0) x.1) refl ps e

  cut_none : (fresh : Bool) (ps : List Piece) → Some [] ≡ Some ps → Cut style fresh ps [] []
  cut_none fresh [] e = refl
  cut_none fresh (p ∷ ps) e = absurd cc

  cut_of : (n : ℕ) (fresh : Bool) (bytes : List ℕ) (ps : List Piece)
      → pieces n style fresh bytes ≡ Some ps → Cut style fresh ps bytes []
  cut_of zero fresh [] ps e = cut_none fresh ps e
  cut_of zero fresh (b ∷ bs) ps e = absurd cc
  cut_of (suc n) fresh [] ps e = cut_none fresh ps e
  cut_of (suc n) fresh (b ∷ bs) ps e =
      cut_taken n fresh (b ∷ bs) (cut_of n) (take_piece style fresh (b ∷ bs)) refl ps e

-- ---- tokens

-- those of a text of at most so many pieces
abbrev pub all_tokens : List ℕ → Option (List Token)
all_tokens text = option_map tokens_of (pieces 1000 Ccl true text)

tokens_same : (text : List ℕ) (ts us : List Token) → Spelled text Ccl ts
    → all_tokens text ≡ Some us → us ≡ ts
tokens_same text ts us spelled e = by (pieces 1000 Ccl true text) refl e
  where
    by : (o : Option (List Piece)) → pieces 1000 Ccl true text ≡ o
        → option_map tokens_of o ≡ Some us → us ≡ ts
    by None is e = absurd cc
    by (Some ps) is e =
        let same : us ≡ tokens_of ps = cc in
        same ∙ sym (spelled_one text Ccl (tokens_of ps) ts
        (ps, cut_of Ccl 1000 true text ps is, refl) spelled)

-- ---- what tokens say

abbrev value_of : {A : Type 0} → Answer A → Option A
value_of (Ok x) = Some x.0
value_of (Err e) = None

abbrev pub tree_of : {A : Type 0} → Read A → List ℕ → Option A
tree_of p text = option_and_then (λ ts. value_of (read_whole p ts)) (all_tokens text)

-- what a text says by a rule is what is computed of it
module _ {A C : Type 0} (p : Read A) (S : Grammar A) (G : Option Token → Type 0) (r : Reads p S G)
    (g : G None) (F : A → C) (text : List ℕ) (c : C) where
  pub computed : option_map F (tree_of p text) ≡ Some c → (ts : List Token) (x : A)
      → Spelled text Ccl ts → Spells S ts x → F x ≡ c
  computed row ts x spelled says = by (all_tokens text) refl row
    where
      by : (o : Option (List Token)) → all_tokens text ≡ o
          → option_map F (option_and_then (λ us. value_of (read_whole p us)) o) ≡ Some c
          → F x ≡ c
      by None is e = absurd cc
      by (Some us) is e =
          let same = tokens_same text ts us spelled is in
          let read : read_whole p us ≡ Ok (x, []) =
          ap (read_whole p) same ∙ whole_only p S G r g ts x says in
          let told : option_map F (value_of (read_whole p us)) ≡ Some (F x) =
          ap (λ (a : Answer A). option_map F (value_of a)) read in
          let one : Some (F x) ≡ Some c = sym told ∙ e in cc
