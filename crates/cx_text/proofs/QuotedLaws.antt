-- Reading a quoted text byte by byte.
use Rattle.std.proofs.Common.{◌≡◌, ℕ, suc, ◌+◌, ◌<◌, ◌≤◌, Bool, true, false, ◌&&◌, cond, ◌-◌, List, [], ◌∷◌, ◌++◌, length, get_or, take, drop, Option, Some, None, Ok, refl, sym, ap, ◌∙◌, arith}
use Rattle.std.specs.Prelude.{◌==◌, map}
use Rattle.std.proofs.lemmas.List.{map-append, take_all}
use mir.Val.{bool_byte}
use Rattle.std.proofs.lemmas.Bool.{ne_eqb}
use Rattle.cx_text.specs.Bytes.{is_escapable}
use Rattle.cx_text.specs.Pieces.{QuotedByte, Plain, Escaped, meaning, feeds, quoted_bytes}
use Rattle.cx_text.specs.Scanning.{next_byte, onto, quoted, TakesText}
use Rattle.cx_text.proofs.ScanLaws.{quoted-cons}

pub first_and_rest : (xs : List ℕ) → 1 ≤ length xs
    → xs ≡ get_or xs 0 0 ∷ take (length xs - 1) (drop 1 xs)
first_and_rest [] h = absurd (omega arith)
first_and_rest (x ∷ xs) h = ap (λ l. x ∷ l) (sym (take_all (length (x ∷ xs) - 1) xs (omega arith)))

pub no_first : (xs : List ℕ) → length xs < 1 → xs ≡ []
no_first [] h = refl
no_first (x ∷ xs) h = absurd (omega arith)

abbrev pub Closed : Type 0
Closed = Option (List QuotedByte × List ℕ)

abbrev pub onto_all : List QuotedByte → Closed → Closed
onto_all [] r = r
onto_all (u ∷ us) r = onto u (onto_all us r)

onto_push : (us : List QuotedByte) (u : QuotedByte) (r : Closed)
    → onto_all (us ++ u ∷ []) r ≡ onto_all us (onto u r)
onto_push [] u r = refl
onto_push (v ∷ us) u r = ap (onto v) (onto_push us u r)

onto_end : (us : List QuotedByte) (rest : List ℕ) → onto_all us (Some ([], rest)) ≡ Some (us, rest)
onto_end [] rest = refl
onto_end (u ∷ us) rest = ap (onto u) (onto_end us rest)

onto_none : (us : List QuotedByte) → onto_all us None ≡ None
onto_none [] = refl
onto_none (u ∷ us) = ap (onto u) (onto_none us)

pub feeds-append : (xs ys : List ℕ) → feeds (xs ++ ys) ≡ feeds xs + feeds ys
feeds-append [] ys = omega arith
feeds-append (x ∷ xs) ys = rw (feeds-append xs ys) (omega arith)

map_push : (us : List QuotedByte) (u : QuotedByte)
    → map meaning (us ++ u ∷ []) ≡ map meaning us ++ meaning u ∷ []
map_push us u = map-append meaning us (u ∷ [])

next_short_if : (b c : ℕ) (cs : List ℕ) (t : Bool)
    → length (cond {A = QuotedByte × List ℕ} t (Escaped c, cs) (Plain b, c ∷ cs)).1
    ≤ suc (length cs)
next_short_if b c cs true = omega arith
next_short_if b c cs false = omega arith

next_short : (b : ℕ) (bs : List ℕ) → length (next_byte b bs).1 ≤ length bs
next_short b [] = omega arith
next_short b (c ∷ cs) = next_short_if b c cs ((b == 92) && is_escapable c)

pub feed_le : (t : Bool) → cond t 1 0 ≤ 1
feed_le true = omega arith
feed_le false = omega arith

-- part of a quoted text is read: its bytes, and the line that reading has come to
pub record Within (quote : ℕ) (bytes : List ℕ) (line : ℕ) (text rest : List ℕ)
    (now : ℕ) : Type 0 where
  pub done : List QuotedByte
  pub text_is : text ≡ map meaning done
  pub line_is : now ≡ line + feeds text
  pub reads : quoted quote bytes ≡ onto_all done (quoted quote rest)
  pub room : now + length rest ≤ line + length bytes

pub within_none : (quote : ℕ) (bytes : List ℕ) (line : ℕ) → Within quote bytes line [] bytes line
within_none quote bytes line =
    record { done = []; text_is = refl; line_is = omega arith; reads = refl; room = omega arith }

pub within_more : (quote : ℕ) (bytes : List ℕ) (line : ℕ) (text rest : List ℕ) (now b : ℕ)
    (bs : List ℕ) → Within quote bytes line text rest now → rest ≡ b ∷ bs → (b == quote) ≡ false
    → Within quote bytes line (text ++ meaning (next_byte b bs).0 ∷ []) (next_byte b bs).1
    (now + cond (meaning (next_byte b bs).0 == 10) 1 0)
within_more quote bytes line text rest now b bs w parts differs =
    let u = (next_byte b bs).0 in
    let more = (next_byte b bs).1 in
    let fed : feeds (text ++ meaning u ∷ []) ≡ feeds text + (cond (meaning u == 10) 1 0 + 0) =
    feeds-append text (meaning u ∷ []) in
    let one : quoted quote (b ∷ bs) ≡ onto u (quoted quote more) =
    quoted-cons quote b bs ∙ rw differs refl in
    let short : length more ≤ length bs = next_short b bs in
    let step : cond (meaning u == 10) 1 0 ≤ 1 = feed_le (meaning u == 10) in
    let long : length rest ≡ suc (length bs) = ap length parts in
    let line_is = w.line_is in
    let room = w.room in
    record {
      done = w.done ++ u ∷ [];
      text_is = rw w.text_is (sym (map_push w.done u));
      line_is = omega arith;
      reads = w.reads ∙ ap (λ r. onto_all w.done (quoted quote r)) parts ∙ ap (onto_all w.done) one
          ∙ sym (onto_push w.done u (quoted quote more));
      room = omega arith;
    }

pub within_end : (quote : ℕ) (bytes : List ℕ) (line : ℕ) (text rest : List ℕ) (now b : ℕ)
    (bs : List ℕ) → Within quote bytes line text rest now → rest ≡ b ∷ bs → (b == quote) ≡ true
    → TakesText (Ok (Some text)) now bs (quoted quote bytes) line
within_end quote bytes line text rest now b bs w parts same =
    let one : quoted quote (b ∷ bs) ≡ Some ([], bs) = quoted-cons quote b bs ∙ rw same refl in
    let all : quoted quote bytes ≡ Some (w.done, bs) =
    w.reads ∙ ap (λ r. onto_all w.done (quoted quote r)) parts ∙ ap (onto_all w.done) one
    ∙ onto_end w.done bs in
    rw all (w.text_is, w.line_is, refl)

pub within_open : (quote : ℕ) (bytes : List ℕ) (line : ℕ) (text rest : List ℕ) (now : ℕ)
    → Within quote bytes line text rest now → rest ≡ []
    → TakesText (Ok None) now rest (quoted quote bytes) line
unfolding quoted
within_open quote bytes line text rest now w parts =
    let all : quoted quote bytes ≡ None =
    w.reads ∙ ap (λ r. onto_all w.done (quoted quote r)) parts ∙ onto_none w.done in
    rw all tt

bool_number : (t : Bool) → bool_byte t ≡ cond t 1 0
bool_number true = refl
bool_number false = refl

-- the same, as the code has it
pub within_next : (quote : ℕ) (bytes : List ℕ) (line : ℕ) (text rest : List ℕ) (now b : ℕ)
    (bs : List ℕ) → Within quote bytes line text rest now → rest ≡ b ∷ bs → (b ≡ quote → ⊥)
    → (text' : List ℕ) (byte : ℕ) (more : List ℕ) (fed : ℕ) → text' ≡ text ++ byte ∷ []
    → byte ≡ meaning (next_byte b bs).0 → more ≡ (next_byte b bs).1
    → fed ≡ bool_byte (byte == 10)
    → Within quote bytes line text' more (now + fed)
within_next quote bytes line text rest now b bs w parts differs text' byte more fed text_is byte_is
    more_is fed_is =
    rw (fed_is ∙ bool_number (byte == 10))
    (rw (text_is, more_is, byte_is)
    (within_more quote bytes line text rest now b bs w parts (ne_eqb b quote differs)))

pub quoted_feeds : (quote : ℕ) (us : List QuotedByte) → (quote == 10) ≡ false
    → feeds (quoted_bytes quote us) ≡ feeds (map meaning us)
quoted_feeds quote [] q = rw q refl
quoted_feeds quote (Plain b ∷ us) q = ap (λ n. cond (b == 10) 1 0 + n) (quoted_feeds quote us q)
quoted_feeds quote (Escaped b ∷ us) q = rw (quoted_feeds quote us q) (omega arith)
