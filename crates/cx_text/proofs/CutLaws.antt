-- A text is cut into pieces in one way, and as far as pieces stand.
use Rattle.std.proofs.Common.{◌≡◌, ℕ, zero, suc, ◌+◌, ◌<◌, ◌≤◌, Bool, true, false, ◌&&◌, cond, List, [], ◌∷◌, ◌++◌, length, Option, Some, None, refl, sym, ap, subst, ◌∙◌, inl, inr, arith}
use Rattle.std.proofs.lemmas.List.{append_assoc, append-nil, length-append}
use Rattle.cx_text.specs.declared.token.Token.{Token}
use Rattle.cx_text.specs.declared.token.Style.{Style}
use Rattle.cx_text.specs.declared.fault.TextFault.{TextFault}
use Rattle.cx_text.specs.Bytes.{role_of}
use Rattle.cx_text.specs.Tokens.{is_line_end}
use Rattle.cx_text.specs.Pieces.{Piece, Blank, LineFeed, Comment, IgnoredLine, Joint, Word, Number, Quoted, Sign, Pair, bytes_of, quoted_bytes, Stands, NoPiece, Cut, fresh_after, fresh_behind, line_behind, feeds, own_token, or_nothing, each_token, ended, merged, tokens_of, Spelled, Faulty, fault_at, OneReading}
use Rattle.cx_text.specs.Scanning.{take_piece}
use Rattle.cx_text.proofs.ScanLaws.{taken_stands, none_stands, same_piece}

-- ---- one way

pub nothing_left : (style : Style) (fresh : Bool) → NoPiece style fresh []
nothing_left style fresh p more e s = none_stands style fresh [] refl p more e s

pub record OneCut (ps qs : List Piece) (r s : List ℕ) : Type 0 where
  pub pieces : ps ≡ qs
  pub rest : r ≡ s

pub one_cut : (style : Style) (ps qs : List Piece) (fresh : Bool) (bytes r s : List ℕ)
    → Cut style fresh ps bytes r → NoPiece style (fresh_behind fresh ps) r
    → Cut style fresh qs bytes s → NoPiece style (fresh_behind fresh qs) s → OneCut ps qs r s
one_cut style [] [] fresh bytes r s c n d m = record { pieces = refl; rest = sym c ∙ d }
one_cut style [] (q ∷ qs) fresh bytes r s c n (more, parts, stands, d) m =
    absurd (n q more (sym c ∙ parts) stands)
one_cut style (p ∷ ps) [] fresh bytes r s (more, parts, stands, c) n d m =
    absurd (m p more (sym d ∙ parts) stands)
one_cut style (p ∷ ps) (q ∷ qs) fresh bytes r s (more, parts, stands, c) n
    (more', parts', stands', d) m =
    let same = same_piece style fresh bytes p q more more' parts stands parts' stands' in
    let P : Piece → Type 0 =
    λ x. Cut style (fresh_after fresh x) qs more' s
    × NoPiece style (fresh_behind (fresh_after fresh x) qs) s in
    let moved = subst P (sym same.0) (d, m) in
    let Q : List ℕ → Type 0 = λ x. Cut style (fresh_after fresh p) qs x s in
    let all = one_cut style ps qs (fresh_after fresh p) more r s c n (subst Q (sym same.1) moved.0)
    moved.1 in
    record { pieces = (λ i. same.0 i ∷ all.pieces i); rest = all.rest }

-- ---- as far as pieces stand

pub not_empty : (p : Piece) (more : List ℕ) → length more < length (bytes_of p ++ more)
not_empty (Blank b) more = omega arith
not_empty (LineFeed b) more = omega arith
not_empty (Comment b w) more = omega (arith, length-append w more)
not_empty (IgnoredLine b w) more = omega (arith, length-append w more)
not_empty (Joint b w) more = omega (arith, length-append (w ++ 10 ∷ []) more)
not_empty (Word b w) more = omega (arith, length-append w more)
not_empty (Number b w) more = omega (arith, length-append w more)
not_empty (Quoted b w) more = omega (arith, length-append (quoted_bytes b w) more)
not_empty (Sign b) more = omega arith
not_empty (Pair b c) more = omega arith

record Farthest (style : Style) (fresh : Bool) (bytes : List ℕ) : Type 0 where
  pub pieces : List Piece
  pub rest : List ℕ
  pub cut : Cut style fresh pieces bytes rest
  pub stops : NoPiece style (fresh_behind fresh pieces) rest

farthest_from : (style : Style) (n : ℕ) (fresh : Bool) (bytes : List ℕ)
    (o : Option (Piece × List ℕ)) → take_piece style fresh bytes ≡ o
    → ((f : Bool) (more : List ℕ) → length more < length bytes → Farthest style f more)
    → Farthest style fresh bytes
farthest_from style n fresh bytes None e far =
    record { pieces = []; rest = bytes; cut = refl; stops = none_stands style fresh bytes e }
farthest_from style n fresh bytes (Some x) e far =
    let at = taken_stands style fresh bytes x e in
    let shorter : length x.1 < length bytes = rw at.0 (not_empty x.0 x.1) in
    let more = far (fresh_after fresh x.0) x.1 shorter in
    record {
      pieces = x.0 ∷ more.pieces;
      rest = more.rest;
      cut = (x.1, at.0, at.1, more.cut);
      stops = more.stops;
    }

farthest : (style : Style) (n : ℕ) (fresh : Bool) (bytes : List ℕ) → length bytes ≤ n
    → Farthest style fresh bytes
farthest style zero fresh bytes h =
    farthest_from style zero fresh bytes (take_piece style fresh bytes) refl
    (λ f more k. absurd (omega arith))
farthest style (suc n) fresh bytes h =
    farthest_from style (suc n) fresh bytes (take_piece style fresh bytes) refl
    (λ f more k. farthest style n f more (omega arith))

-- ---- what is one reading

pub spelled_one : (bytes : List ℕ) (style : Style) (ts us : List Token) → Spelled bytes style ts
    → Spelled bytes style us → us ≡ ts
spelled_one bytes style ts us (ps, c, e) (qs, d, f) =
    let same = one_cut style ps qs true bytes [] [] c (nothing_left style (fresh_behind true ps)) d
    (nothing_left style (fresh_behind true qs)) in
    f ∙ ap tokens_of (sym same.pieces) ∙ sym e

pub not_both : (bytes : List ℕ) (style : Style) (ts : List Token) (fault : TextFault)
    → Spelled bytes style ts → Faulty bytes style fault → ⊥
not_both bytes style ts fault (ps, c, e) (qs, b, rest, d, n, f) =
    let same = one_cut style ps qs true bytes [] (b ∷ rest) c
    (nothing_left style (fresh_behind true ps)) d n in
    let empty : [] ≡ b ∷ rest = same.rest in
    absurd cc

pub faulty_one : (bytes : List ℕ) (style : Style) (fault other : TextFault)
    → Faulty bytes style fault → Faulty bytes style other → other ≡ fault
faulty_one bytes style fault other (ps, b, rest, c, n, e) (qs, b', rest', d, m, f) =
    let same = one_cut style ps qs true bytes (b ∷ rest) (b' ∷ rest') c n d m in
    let pieces : ps ≡ qs = same.pieces in
    let begins : b ∷ rest ≡ b' ∷ rest' = same.rest in
    let first : b ≡ b' = cc in
    f ∙ (λ i. fault_at (role_of style (fresh_behind true (sym pieces i)) (sym first i))
    (line_behind 1 (sym pieces i))) ∙ sym e

one_reading_from : (bytes : List ℕ) (style : Style) (ps : List Piece) (rest : List ℕ)
    → Cut style true ps bytes rest → NoPiece style (fresh_behind true ps) rest
    → OneReading bytes style
one_reading_from bytes style ps [] c n =
    let ts = tokens_of ps in
    let spelled : Spelled bytes style ts = (ps, c, refl) in
    inl (
      ts,
      spelled,
      (λ us other. spelled_one bytes style ts us spelled other),
      (λ fault other. not_both bytes style ts fault spelled other),
    )
one_reading_from bytes style ps (b ∷ rest) c n =
    let fault = fault_at (role_of style (fresh_behind true ps) b) (line_behind 1 ps) in
    let faulty : Faulty bytes style fault = (ps, b, rest, c, n, refl) in
    inr (
      fault,
      faulty,
      (λ other is. faulty_one bytes style fault other faulty is),
      (λ ts is. not_both bytes style ts fault is faulty),
    )

pub one_reading : (bytes : List ℕ) (style : Style) → OneReading bytes style
one_reading bytes style =
    let far = farthest style (length bytes) true bytes (omega arith) in
    one_reading_from bytes style far.pieces far.rest far.cut far.stops

-- ---- one piece more

pub cut_push : (style : Style) (ps : List Piece) (fresh : Bool) (bytes : List ℕ) (p : Piece)
    (mid rest : List ℕ) → Cut style fresh ps bytes mid → mid ≡ bytes_of p ++ rest
    → Stands style (fresh_behind fresh ps) p rest → Cut style fresh (ps ++ p ∷ []) bytes rest
cut_push style [] fresh bytes p mid rest c parts stands = (rest, c ∙ parts, stands, refl)
cut_push style (q ∷ ps) fresh bytes p mid rest (more, front, stands', c) parts stands =
    (more, front, stands', cut_push style ps (fresh_after fresh q) more p mid rest c parts stands)

pub fresh_push : (ps : List Piece) (fresh : Bool) (p : Piece)
    → fresh_behind fresh (ps ++ p ∷ []) ≡ fresh_after (fresh_behind fresh ps) p
fresh_push [] fresh p = refl
fresh_push (q ∷ ps) fresh p = fresh_push ps (fresh_after fresh q) p

pub line_push : (ps : List Piece) (line : ℕ) (p : Piece)
    → line_behind line (ps ++ p ∷ []) ≡ line_behind line ps + feeds (bytes_of p)
line_push [] line p = refl
line_push (q ∷ ps) line p = line_push ps (line + feeds (bytes_of q)) p

pub each_push : (ps : List Piece) (line : ℕ) (p : Piece)
    → each_token line (ps ++ p ∷ [])
    ≡ each_token line ps ++ or_nothing (own_token (line_behind line ps) p)
each_push [] line p = append-nil (or_nothing (own_token line p))
each_push (q ∷ ps) line p =
    rw (each_push ps (line + feeds (bytes_of q)) p)
    (sym (append_assoc (or_nothing (own_token line q)) (each_token (line + feeds (bytes_of q)) ps)
    (or_nothing (own_token (line_behind line (q ∷ ps)) p))))

pub ended-append : (ts us : List Token) (before : Bool)
    → ended before (ts ++ us) ≡ ended (ended before ts) us
ended-append [] us before = refl
ended-append (t ∷ ts) us before = ended-append ts us (is_line_end t)

pub merged-append : (ts us : List Token) (before : Bool)
    → merged before (ts ++ us) ≡ merged before ts ++ merged (ended before ts) us
merged-append [] us before = refl
merged-append (t ∷ ts) us before =
    rw (merged-append ts us (is_line_end t))
    (sym (append_assoc (cond (is_line_end t && before) [] (t ∷ [])) (merged (is_line_end t) ts)
    (merged (ended (is_line_end t) ts) us)))

-- what is left out is a LineEnd behind another
ended_cases : (t : Token) (before left : Bool) (ts : List Token) → is_line_end t ≡ left
    → ended before (cond (left && before) [] (t ∷ []) ++ ts) ≡ ended left ts
ended_cases t true true ts e = refl
ended_cases t false true ts e = ap (λ b. ended b ts) e
ended_cases t before false ts e = ap (λ b. ended b ts) e

pub ended_merged : (ts : List Token) (before : Bool)
    → ended before (merged before ts) ≡ ended before ts
ended_merged [] before = refl
ended_merged (t ∷ ts) before =
    ended_cases t before (is_line_end t) (merged (is_line_end t) ts) refl
    ∙ ended_merged ts (is_line_end t)
