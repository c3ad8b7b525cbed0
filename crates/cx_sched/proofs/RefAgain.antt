-- Names with what may stand behind them are read again from the tokens that are printed.
use Rattle.std.proofs.Common.{◌≡◌, ◌≤◌, ◌-◌, ◌^◌, ℕ, ltb, false, List, [], ◌∷◌, ◌++◌, length, Option, Some, None, Ok, refl, sym, ap, ◌∙◌, append_assoc, arith}
use Rattle.std.specs.List.{AllByRecursion}
use Rattle.std.specs.Fmt.{decimal}
use Rattle.std.proofs.lemmas.Bool.{le-ltb}
use Rattle.std.proofs.lemmas.List.{append-nil}
use Rattle.cx_plan.specs.Names.{region_text}
use Rattle.cx_plan.specs.declared.item.Region.{Region}
use Rattle.cx_plan.specs.declared.item.Region.TheVariants.{Interior, Boundary, Everywhere}
use Rattle.cx_text.specs.declared.token.Token.{Token}
use Rattle.cx_text.specs.declared.token.Style.TheVariants.{Ccl}
use Rattle.cx_text.specs.Tokens.{is_word, is_line_end}
use Rattle.cx_text.specs.Grammar.{head, passes}
use Rattle.cx_text.specs.Rules.{is_sign, loop}
use Rattle.cx_text.specs.Lexemes.{is_sign_pair, comma}
use Rattle.cx_text.specs.Written.{word, sign, sign_pair, line_end}
use Rattle.cx_text.specs.Written as written
use Rattle.cx_text.proofs.PrintLaws.{Printable}
use Rattle.cx_text.proofs.Printing.{loop_step, loop_stop, no_skip, IsShortName}
use Rattle.cx_text.proofs.DecimalLaws.{number_again}
use Rattle.cx_sched.specs.declared.tree.Ref.{Ref}
use Rattle.cx_sched.specs.Refs.{behind_word, reference, bracketed, region, store, sync_name, access, behind_word_here, bracketed_here, more_stores, stores}
use Rattle.cx_sched.specs.Printed as printed
use Rattle.cx_sched.proofs.RefLaws.{more_stores_short}

-- ---- what stands behind

-- behind a name with all that belongs to it
pub record Next (rest : List Token) : Type 0 where
  pub ended : passes is_line_end (head rest) ≡ false
  pub pair : passes (is_sign_pair 58 58) (head rest) ≡ false
  pub bracket : passes (is_sign 91) (head rest) ≡ false
  pub paren : passes (is_sign 40) (head rest) ≡ false
  pub comma : passes (is_sign 44) (head rest) ≡ false
  pub colon : passes (is_sign 58) (head rest) ≡ false

pub next_word : (w : List ℕ) (ts : List Token) → Next (word w ∷ ts)
next_word w ts = record {
  ended = refl;
  pair = refl;
  bracket = refl;
  paren = refl;
  comma = refl;
  colon = refl;
}

pub next_open : (ts : List Token) → Next (sign 123 ∷ ts)
next_open ts = record {
  ended = refl;
  pair = refl;
  bracket = refl;
  paren = refl;
  comma = refl;
  colon = refl;
}

pub next_close : (ts : List Token) → Next (sign 125 ∷ ts)
next_close ts = record {
  ended = refl;
  pair = refl;
  bracket = refl;
  paren = refl;
  comma = refl;
  colon = refl;
}

-- ---- what fits

-- a name within its limit that can be printed
abbrev pub IsName : List ℕ → Type 0
IsName n = IsShortName n × Printable Ccl (word n)

abbrev pub IsMaybe : Option (List ℕ) → Type 0
IsMaybe None = Unit {0}
IsMaybe (Some n) = IsName n

-- a number of 32 bits, or none
abbrev pub IsPlace : Option ℕ → Type 0
IsPlace None = Unit {0}
IsPlace (Some k) = k ≤ 2 ^ 32 - 1

pub record RefFits (r : Ref) : Type 0 where
  pub owner : IsMaybe r.owner
  pub name : IsName r.name
  pub copy : IsPlace r.copy

-- one without a number in brackets
pub record PlainFits (r : Ref) : Type 0 where
  pub fits : RefFits r
  pub plain : r.copy ≡ None

pub record StoreFits (s : Ref × Option ℕ) : Type 0 where
  pub ref : PlainFits s.0
  pub place : IsPlace s.1

-- ---- where LineEnd is skipped

-- the first word of a name, and what stands behind it
abbrev pub first : Option (List ℕ) → List ℕ → List ℕ
first None name = name
first (Some owner) name = owner

abbrev pub more : Option (List ℕ) → List ℕ → List Token
more None name = []
more (Some owner) name = sign_pair 58 58 ∷ word name ∷ []

pub ref_parts : (o : Option (List ℕ)) (n : List ℕ)
    → printed.ref_from o n ≡ word (first o n) ∷ more o n
ref_parts None n = refl
ref_parts (Some o) n = refl

pub first_short : (o : Option (List ℕ)) (n : List ℕ) → IsMaybe o → IsName n
    → IsShortName (first o n)
first_short None n a b = b.0
first_short (Some o) n a b = a.0

abbrev pub made : Option (List ℕ) → List ℕ → Option ℕ → Ref
made o n k = record { owner = o; name = n; copy = k }

pub behind_again : (o : Option (List ℕ)) (n : List ℕ) (rest : List Token) → IsMaybe o → IsName n
    → passes is_line_end (head rest) ≡ false → passes (is_sign_pair 58 58) (head rest) ≡ false
    → (behind_word (first o n)).reads (more o n ++ rest) ≡ Ok (made o n None, rest)
behind_again None n rest a b ended pair = rw pair refl
behind_again (Some o) n rest a b ended pair =
    let short : ltb 64 (length n) ≡ false = le-ltb _ _ b.0 in
    rw (no_skip (word n ∷ rest) refl, short, no_skip rest ended) refl

pub bracketed_again : (k : Option ℕ) (rest : List Token) → IsPlace k
    → passes is_line_end (head rest) ≡ false → passes (is_sign 91) (head rest) ≡ false
    → bracketed.reads (printed.bracketed k ++ rest) ≡ Ok (k, rest)
bracketed_again None rest f ended bracket = rw bracket refl
bracketed_again (Some k) rest f ended bracket =
    let tail : List Token = sign 93 ∷ rest in
    let one = number_again 0 (2 ^ 32 - 1) k tail (omega arith) f (omega (arith, f)) refl in
    rw (no_skip (written.number (decimal k) ∷ tail) refl, one, no_skip rest ended) refl

pub region_again : (g : Region) (rest : List Token) → passes is_line_end (head rest) ≡ false
    → region.reads (sign 40 ∷ word (region_text g) ∷ sign 41 ∷ rest) ≡ Ok (g, rest)
region_again Interior rest ended =
    rw (
      no_skip (word (region_text Interior) ∷ sign 41 ∷ rest) refl,
      no_skip (sign 41 ∷ rest) refl,
      no_skip rest ended,
    ) refl
region_again Boundary rest ended =
    rw (
      no_skip (word (region_text Boundary) ∷ sign 41 ∷ rest) refl,
      no_skip (sign 41 ∷ rest) refl,
      no_skip rest ended,
    ) refl
region_again Everywhere rest ended =
    rw (
      no_skip (word (region_text Everywhere) ∷ sign 41 ∷ rest) refl,
      no_skip (sign 41 ∷ rest) refl,
      no_skip rest ended,
    ) refl

pub no_comma : (rest : List Token) → passes (is_sign 44) (head rest) ≡ false
    → comma.reads rest ≡ Ok (tt, rest)
no_comma rest e = rw e refl

-- before which there may be a number in brackets
abbrev Begun : List Token → Type 0
Begun ts = (passes is_line_end (head ts) ≡ false) × (passes (is_sign_pair 58 58) (head ts) ≡ false)

starts_bracket : (k : Option ℕ) (rest : List Token) → Begun rest
    → Begun (printed.bracketed k ++ rest)
starts_bracket None rest e = e
starts_bracket (Some k) rest e = (refl, refl)

pub store_read : (o : Option (List ℕ)) (n : List ℕ) (k : Option ℕ) (rest : List Token) → IsMaybe o
    → IsName n → IsPlace k → Next rest
    → (store (first o n)).reads (more o n ++ (printed.bracketed k ++ rest))
    ≡ Ok ((made o n None, k), rest)
store_read o n k rest a b f e =
    let starts = starts_bracket k rest (e.ended, e.pair) in
    let one = behind_again o n (printed.bracketed k ++ rest) a b starts.0 starts.1 in
    let two = bracketed_again k rest f e.ended e.bracket in
    rw (one, two, no_comma rest e.comma) refl

pub sync_name_read : (o : Option (List ℕ)) (n : List ℕ) (rest : List Token) → IsMaybe o → IsName n
    → Next rest → (sync_name (first o n)).reads (more o n ++ rest) ≡ Ok (made o n None, rest)
sync_name_read o n rest a b e =
    let one = behind_again o n rest a b e.ended e.pair in
    rw (one, no_comma rest e.comma) refl

abbrev pub with_region : Region → List Token → List Token
with_region g ts = sign 40 ∷ word (region_text g) ∷ sign 41 ∷ ts

pub access_read : (o : Option (List ℕ)) (n : List ℕ) (k : Option ℕ) (g : Region) (rest : List Token)
    → IsMaybe o → IsName n → IsPlace k → Next rest
    → (access (first o n)).reads (more o n ++ (printed.bracketed k ++ with_region g rest))
    ≡ Ok ((made o n k, g), rest)
access_read o n k g rest a b f e =
    let starts = starts_bracket k (with_region g rest) (refl, refl) in
    let one = behind_again o n (printed.bracketed k ++ with_region g rest) a b starts.0 starts.1 in
    let two = bracketed_again k (with_region g rest) f refl refl in
    let three = region_again g rest e.ended in
    rw (one, two, three, no_comma rest e.comma) refl

-- a scalar, behind which another clause or a block's lines stand
pub reference_again : (r : Ref) (rest : List Token) → PlainFits r → Next rest
    → reference.reads (printed.ref r ++ rest) ≡ Ok (r, rest)
reference_again r rest f e =
    let short : ltb 64 (length (first r.owner r.name)) ≡ false =
    le-ltb _ _ (first_short r.owner r.name f.fits.owner f.fits.name) in
    let behind = behind_again r.owner r.name rest f.fits.owner f.fits.name e.ended e.pair in
    let skip = starts_more r.owner r.name rest e.ended in
    let whole : reference.reads (word (first r.owner r.name) ∷ (more r.owner r.name ++ rest))
    ≡ Ok (made r.owner r.name None, rest) =
    rw (short, no_skip (more r.owner r.name ++ rest) skip, behind) refl in
    ap (λ (ts : List Token). reference.reads (ts ++ rest)) (ref_parts r.owner r.name)
    ∙ whole
    ∙ ap (λ (k : Option ℕ). Ok (made r.owner r.name k, rest)) (sym f.plain)
  where
    starts_more : (o : Option (List ℕ)) (n : List ℕ) (rest : List Token)
        → passes is_line_end (head rest) ≡ false
        → passes is_line_end (head (more o n ++ rest)) ≡ false
    starts_more None n rest h = h
    starts_more (Some o) n rest h = refl

-- ---- where LineEnd may come next

-- behind a group in a line of its own
record Here (rest : List Token) : Type 0 where
  pair : passes (is_sign_pair 58 58) (head rest) ≡ false
  bracket : passes (is_sign 91) (head rest) ≡ false
  comma : passes (is_sign 44) (head rest) ≡ false

here_again : (o : Option (List ℕ)) (n : List ℕ) (rest : List Token) → IsMaybe o → IsName n
    → passes (is_sign_pair 58 58) (head rest) ≡ false
    → (behind_word_here (first o n)).reads (more o n ++ rest) ≡ Ok (made o n None, rest)
here_again None n rest a b pair = rw pair refl
here_again (Some o) n rest a b pair =
    let short : ltb 64 (length n) ≡ false = le-ltb _ _ b.0 in
    rw (no_skip (word n ∷ rest) refl, short) refl

bracketed_here_again : (k : Option ℕ) (rest : List Token) → IsPlace k
    → passes (is_sign 91) (head rest) ≡ false
    → bracketed_here.reads (printed.bracketed k ++ rest) ≡ Ok (k, rest)
bracketed_here_again None rest f bracket = rw bracket refl
bracketed_here_again (Some k) rest f bracket =
    let tail : List Token = sign 93 ∷ rest in
    let one = number_again 0 (2 ^ 32 - 1) k tail (omega arith) f (omega (arith, f)) refl in
    rw (no_skip (written.number (decimal k) ∷ tail) refl, one) refl

starts_bracket_here : (k : Option ℕ) (rest : List Token)
    → passes (is_sign_pair 58 58) (head rest) ≡ false
    → passes (is_sign_pair 58 58) (head (printed.bracketed k ++ rest)) ≡ false
starts_bracket_here None rest e = e
starts_bracket_here (Some k) rest e = refl

more_read : (old : List (Ref × Option ℕ)) (o : Option (List ℕ)) (n : List ℕ) (k : Option ℕ)
    (rest : List Token) → IsMaybe o → IsName n → IsPlace k → Here rest
    → (more_stores old).reads (word (first o n) ∷ (more o n ++ (printed.bracketed k ++ rest)))
    ≡ Ok (old ++ (made o n None, k) ∷ [], rest)
more_read old o n k rest a b f e =
    let short : ltb 64 (length (first o n)) ≡ false = le-ltb _ _ (first_short o n a b) in
    let one = here_again o n (printed.bracketed k ++ rest) a b (starts_bracket_here k rest e.pair)
    in
    let two = bracketed_here_again k rest f e.bracket in
    let three = e.comma in
    rw (short, one, two, three) refl

store_parts : (s : Ref × Option ℕ) (rest : List Token)
    → printed.store s ++ rest
    ≡ word (first s.0.owner s.0.name) ∷ (more s.0.owner s.0.name ++ (printed.bracketed s.1 ++ rest))
store_parts s rest =
    append_assoc (printed.ref s.0) (printed.bracketed s.1) rest
    ∙ ap (λ (ts : List Token). ts ++ (printed.bracketed s.1 ++ rest)) (ref_parts s.0.owner s.0.name)

here_starts : (ss : List (Ref × Option ℕ)) (rest : List Token)
    → Here (printed.stores ss ++ line_end ∷ rest)
here_starts [] rest = record { pair = refl; bracket = refl; comma = refl }
here_starts (s ∷ ss) rest =
    let parts = append_assoc (printed.store s) (printed.stores ss) (line_end ∷ rest)
    ∙ store_parts s (printed.stores ss ++ line_end ∷ rest) in
    rw parts (record { pair = refl; bracket = refl; comma = refl })

pub some_stores_again : (ss old : List (Ref × Option ℕ)) (rest : List Token)
    → AllByRecursion StoreFits ss
    → (loop is_word more_stores old).reads (printed.stores ss ++ line_end ∷ rest)
    ≡ Ok (old ++ ss, line_end ∷ rest)
some_stores_again [] old rest h =
    loop_stop is_word more_stores more_stores_short old (line_end ∷ rest) refl
    ∙ ap (λ (xs : List (Ref × Option ℕ)). Ok (xs, line_end ∷ rest)) (sym (append-nil old))
some_stores_again (s ∷ ss) old rest h =
    let behind : List Token = printed.stores ss ++ line_end ∷ rest in
    let o = s.0.owner in
    let n = s.0.name in
    let fits = h.0.ref.fits in
    let parts : printed.stores (s ∷ ss) ++ line_end ∷ rest
    ≡ word (first o n) ∷ (more o n ++ (printed.bracketed s.1 ++ behind)) =
    append_assoc (printed.store s) (printed.stores ss) (line_end ∷ rest)
    ∙ store_parts s behind in
    let one : (more_stores old).reads
    (word (first o n) ∷ (more o n ++ (printed.bracketed s.1 ++ behind)))
    ≡ Ok (old ++ s ∷ [], behind) =
    more_read old o n s.1 behind fits.owner fits.name h.0.place (here_starts ss rest)
    ∙ ap (λ (k : Option ℕ). Ok (old ++ (made o n k, s.1) ∷ [], behind)) (sym h.0.ref.plain) in
    ap (loop is_word more_stores old).reads parts
    ∙ loop_step is_word more_stores more_stores_short old (old ++ s ∷ [])
    (word (first o n) ∷ (more o n ++ (printed.bracketed s.1 ++ behind))) behind refl one
    ∙ some_stores_again ss (old ++ s ∷ []) rest h.1
    ∙ ap (λ (xs : List (Ref × Option ℕ)). Ok (xs, line_end ∷ rest)) (append_assoc old (s ∷ []) ss)

pub stores_again : (ss : List (Ref × Option ℕ)) (rest : List Token) → AllByRecursion StoreFits ss
    → stores.reads (printed.stores ss ++ line_end ∷ rest) ≡ Ok (ss, line_end ∷ rest)
stores_again ss rest h = some_stores_again ss [] rest h
