-- The lines of a block are read again from the tokens that are printed.
use Rattle.std.proofs.Common.{◌≡◌, ◌<◌, ◌≤◌, ◌+◌, ◌-◌, ℕ, suc, ltb, nat_eq, Bool, true, false, cond, not, ◌&&◌, List, [], ◌∷◌, ◌++◌, length, codes, Option, Some, None, Ok, refl, sym, ap, ◌∙◌, append_assoc, arith}
use Rattle.std.specs.List.{AllByRecursion}
use Rattle.std.proofs.lemmas.Bool.{le-ltb, ne_eqb}
use Rattle.std.proofs.lemmas.List.{append-nil}
use Rattle.cx_plan.specs.Names.{region_text}
use Rattle.cx_plan.specs.declared.item.Region.{Region}
use Rattle.cx_text.specs.declared.token.Token.{Token}
use Rattle.cx_text.specs.Tokens.{is_word, is_line_end}
use Rattle.cx_text.specs.Grammar.{head, passes}
use Rattle.cx_text.specs.Reading.{read_many}
use Rattle.cx_text.specs.Rules.{Rule, nothing, is_sign, loop, one_line_end}
use Rattle.cx_text.specs.Lexemes.{kept, is_inside}
use Rattle.cx_text.specs.Written.{word, sign, line_end}
use Rattle.cx_text.proofs.Printing.{loop_step, loop_stop, no_skip, one_skip, IsShortName}
use Rattle.cx_sched.specs.declared.tree.Ref.{Ref}
use Rattle.cx_sched.specs.declared.lines.Kind.{Kind}
use Rattle.cx_sched.specs.declared.lines.Kind.TheVariants.{Storage, Sync, Reads, Writes}
use Rattle.cx_sched.specs.declared.lines.Line.{Line}
use Rattle.cx_sched.specs.declared.lines.Line.TheVariants.{Start, Tokens, Word, Names}
use Rattle.cx_sched.specs.declared.lines.Lines.{Lines}
use Rattle.cx_sched.specs.Words.{STORAGE, line_of}
use Rattle.cx_sched.specs.Lines.{no_lines, beginning, begin_or, begun_by, keep, kept_after, item, named, entry_in, entry, lines}
use Rattle.cx_sched.specs.Printed as printed
use Rattle.cx_sched.proofs.LineLaws.{entry_short}
use Rattle.cx_sched.proofs.RefAgain.{Next, next_word, next_close, RefFits, PlainFits, StoreFits, first, more, made, ref_parts, first_short, with_region, store_read, sync_name_read, access_read}

-- LineEnds are skipped from here up to there
pub record Skips (more rest : List Token) : Type 0 where
  pub us : List (Unit {0})
  pub reads : read_many is_line_end (λ u. (one_line_end u).reads) (λ d x. x) tt more ≡ Ok (us, rest)

pub none_skipped : (ts : List Token) → passes is_line_end (head ts) ≡ false → Skips ts ts
none_skipped ts h = record { us = []; reads = no_skip ts h }

pub one_skipped : (ts : List Token) → passes is_line_end (head ts) ≡ false
    → Skips (line_end ∷ ts) ts
one_skipped ts h = record { us = tt ∷ []; reads = one_skip ts h }

-- ---- how a line begins

abbrev pub state : ℕ → Line → List (Ref × Option ℕ) → List Ref → List (Ref × Region)
    → List (Ref × Region) → List Token → Lines
state left l st sy re wr rs =
    record { left = left; line = l; storage = st; sync = sy; reads = re; writes = wr; rest = rs }

not_begun : (l : Option Line) (w : List ℕ) (s : Lines) (r : Rule Lines) (ts : List Token)
    → passes (is_sign 58) (head ts) ≡ false → (begin_or l w s r).reads ts ≡ r.reads ts
not_begun None w s r ts e = refl
not_begun (Some l) w s r ts e = rw e refl

pub not_full : (left : ℕ) → 0 < left → nat_eq left 0 ≡ false
not_full left h = ne_eqb left 0 (λ e. absurd (omega (arith, h, e)))

-- a line without effect goes on, or none has begun
abbrev pub IsFree : Line → Type 0
IsFree Start = Unit {0}
IsFree Tokens = Unit {0}
IsFree Word = Unit {0}
IsFree (Names k) = ⊥

abbrev begun : Line → List ℕ → Lines → Lines
begun l w s = record s { left = s.left - 1; line = l; rest = s.rest ++ beginning l w }

begins : (at : Line) (w : List ℕ) (l : Line) (s : Lines) (ts : List Token) → IsFree at
    → line_of w ≡ Some l → 0 < s.left → passes is_line_end (head ts) ≡ false
    → (entry_in at s).reads (word w ∷ sign 58 ∷ ts) ≡ Ok (begun l w s, ts)
begins Start w l s ts free is some e = let full = not_full s.left some in
    rw (is, no_skip (sign 58 ∷ ts) refl, full, no_skip ts e) refl
begins Tokens w l s ts free is some e = let full = not_full s.left some in
    rw (no_skip (sign 58 ∷ ts) refl, is, full, no_skip ts e) refl
begins Word w l s ts free is some e = let full = not_full s.left some in
    rw (no_skip (sign 58 ∷ ts) refl, is, full, no_skip ts e) refl
begins (Names k) w l s ts free is some e = absurd free

begins_behind : (at : Line) (w : List ℕ) (l : Line) (s : Lines) (ts : List Token) → IsShortName w
    → line_of w ≡ Some l → 0 < s.left → passes is_line_end (head ts) ≡ false
    → (entry_in at s).reads (word w ∷ sign 58 ∷ ts) ≡ Ok (begun l w s, ts)
begins_behind Start w l s ts h is some e = begins Start w l s ts tt is some e
begins_behind Tokens w l s ts h is some e = begins Tokens w l s ts tt is some e
begins_behind Word w l s ts h is some e = begins Word w l s ts tt is some e
begins_behind (Names k) w l s ts h is some e =
    let full = not_full s.left some in
    let short : ltb 64 (length w) ≡ false = le-ltb _ _ h in
    rw (short, no_skip (sign 58 ∷ ts) refl, is, full, no_skip ts e) refl

-- ---- lines without effect

abbrev idle : ℕ → Line → List Token → Lines
idle left l rs = state left l [] [] [] [] rs

-- no ":" stands behind a word of such a line
abbrev pub Goes : Line → List Token → Type 0
Goes Word ts = passes (is_sign 58) (head ts) ≡ false
Goes Start ts = Unit {0}
Goes Tokens ts = Unit {0}
Goes (Names k) ts = Unit {0}

goes_word : (l : Line) (w : List ℕ) (ts : List Token) → Goes l (word w ∷ ts)
goes_word Word w ts = refl
goes_word Start w ts = tt
goes_word Tokens w ts = tt
goes_word (Names k) w ts = tt

goes_close : (l : Line) (ts : List Token) → Goes l (sign 125 ∷ ts)
goes_close Word ts = refl
goes_close Start ts = tt
goes_close Tokens ts = tt
goes_close (Names k) ts = tt

-- what is kept of such lines is read again, as so many lines
pub record Kept (rest : List Token) (used : ℕ) (line : Line) : Type 0 where
  pub free : IsFree line
  pub again : (left : ℕ) (ts : List Token) → used ≤ left → passes is_line_end (head ts) ≡ false
      → Goes line ts → (loop is_inside entry (no_lines left)).reads (rest ++ ts)
      ≡ (loop is_inside entry (idle (left - used) line rest)).reads ts

pub nothing_kept : Kept [] 0 Start
nothing_kept = record {
  free = tt;
  again = λ left ts h e g.
      ap (λ (k : ℕ). (loop is_inside entry (idle k Start [])).reads ts) (omega arith);
}

pub line_kept : (rest : List Token) (used : ℕ) (line : Line) (w : List ℕ) → Kept rest used line
    → line_of w ≡ Some Tokens → Kept (rest ++ word w ∷ sign 58 ∷ []) (suc used) Tokens
line_kept rest used line w k is = record {
  free = tt;
  again = λ left ts h e g.
      let us : List Token = word w ∷ sign 58 ∷ ts in
      let some : 0 < left - used = omega (arith, h) in
      let one = begins line w Tokens (idle (left - used) line rest) ts k.free is some e in
      ap (loop is_inside entry (no_lines left)).reads (append_assoc rest (word w ∷ sign 58 ∷ []) ts)
      ∙ k.again left us (omega (arith, h)) refl (goes_word line w (sign 58 ∷ ts))
      ∙ loop_step is_inside entry entry_short (idle (left - used) line rest)
      (idle (left - used - 1) Tokens (rest ++ word w ∷ sign 58 ∷ [])) us ts refl one
      ∙ ap (λ (n : ℕ). (loop is_inside entry (idle n Tokens (rest ++ word w ∷ sign 58 ∷ []))).reads
      ts) (omega (arith, h));
}

-- behind a word of such a line, or not
abbrev pub line_at : Bool → Line
line_at true = Word
line_at false = Tokens

abbrev pub line_behind : Token → Line
line_behind t = cond (is_word t) Word Tokens

kept_step : (b : Bool) (s : Lines) (t : Token) (ts : List Token) → kept_after b t ≡ true
    → passes is_line_end (head ts) ≡ false
    → (entry_in (line_at b) s).reads (t ∷ ts)
    ≡ (begin_or (begun_by (kept t)) (kept t).text s (nothing (keep (kept t) s))).reads ts
kept_step true s t ts k e = rw (k, no_skip ts e) refl
kept_step false s t ts k e = rw (k, no_skip ts e) refl

keeps_it : (s : Lines) (t : Token) (ts : List Token) → Goes (line_behind t) ts
    → (begin_or (begun_by t) t.text s (nothing (keep t s))).reads ts ≡ Ok (keep t s, ts)
keeps_it s t ts g =
    let P : Bool → Type 0 = λ b. is_word t ≡ b → Goes (cond b Word Tokens) ts
    → (begin_or (cond b (line_of t.text) None) t.text s (nothing (keep t s))).reads ts
    ≡ Ok (keep t s, ts) in
    let at : (b : Bool) → P b = λ b. elim b as P [
      | true ↦ λ e h. not_begun (line_of t.text) t.text s (nothing (keep t s)) ts h
      | false ↦ λ e h. refl
    ] in
    at (is_word t) refl g

inside_of : (a b : Bool) → a && b ≡ true → a ≡ true
inside_of true b e = refl
inside_of false b e = absurd cc

no_colon : (a b : Bool) → a && not b ≡ true → b ≡ false
no_colon true true e = absurd cc
no_colon true false e = refl
no_colon false b e = absurd cc

goes_token : (b : Bool) (t : Token) (ts : List Token) → kept_after b t ≡ true
    → Goes (line_at b) (t ∷ ts)
goes_token true t ts k = no_colon (is_inside t) (is_sign 58 t) k
goes_token false t ts k = tt

pub token_kept : (rest : List Token) (used : ℕ) (b : Bool) (t : Token) → Kept rest used (line_at b)
    → is_line_end t ≡ false → kept t ≡ t → kept_after b t ≡ true → IsFree (line_behind t)
    → Kept (rest ++ t ∷ []) used (line_behind t)
token_kept rest used b t k stays same go free = record {
  free = free;
  again = λ left ts h e g.
      let s : Lines = idle (left - used) (line_at b) rest in
      let one : (entry_in (line_at b) s).reads (t ∷ ts) ≡ Ok (keep t s, ts) =
      kept_step b s t ts go e
      ∙ ap (λ (u : Token). (begin_or (begun_by u) u.text s (nothing (keep u s))).reads ts) same
      ∙ keeps_it s t ts g in
      ap (loop is_inside entry (no_lines left)).reads (append_assoc rest (t ∷ []) ts)
      ∙ k.again left (t ∷ ts) h stays (goes_token b t ts go)
      ∙ loop_step is_inside entry entry_short s (keep t s) (t ∷ ts) ts
      (inside_of (is_inside t) _ go) one;
}

-- ---- lists of names

named_read : (k : Kind) (w : List ℕ) (s : Lines) (ts : List Token) → IsShortName w
    → passes is_line_end (head ts) ≡ false → passes (is_sign 58) (head ts) ≡ false
    → (named k s).reads (word w ∷ ts) ≡ (item k w s).reads ts
named_read k w s ts h e colon =
    let short : ltb 64 (length w) ≡ false = le-ltb _ _ h in
    rw (short, no_skip ts e) (not_begun (line_of w) w s (item k w s) ts colon)

-- it goes on with no LineEnd and no colon
abbrev Behind : List Token → Type 0
Behind ts = (passes is_line_end (head ts) ≡ false) × (passes (is_sign 58) (head ts) ≡ false)

more_behind : (o : Option (List ℕ)) (n : List ℕ) (ts : List Token) → Behind ts
    → Behind (more o n ++ ts)
more_behind None n ts h = h
more_behind (Some o) n ts h = (refl, refl)

bracket_behind : (k : Option ℕ) (ts : List Token) → Behind ts → Behind (printed.bracketed k ++ ts)
bracket_behind None ts h = h
bracket_behind (Some k) ts h = (refl, refl)

-- groups with storage

store_parts : (s : Ref × Option ℕ) (rest : List Token)
    → printed.store s ++ rest
    ≡ word (first s.0.owner s.0.name) ∷ (more s.0.owner s.0.name ++ (printed.bracketed s.1 ++ rest))
store_parts s rest =
    append_assoc (printed.ref s.0) (printed.bracketed s.1) rest
    ∙ ap (λ (ts : List Token). ts ++ (printed.bracketed s.1 ++ rest)) (ref_parts s.0.owner s.0.name)

stores_parts : (s : Ref × Option ℕ) (ss : List (Ref × Option ℕ)) (rest : List Token)
    → printed.stores (s ∷ ss) ++ rest
    ≡ word (first s.0.owner s.0.name)
    ∷ (more s.0.owner s.0.name ++ (printed.bracketed s.1 ++ (printed.stores ss ++ rest)))
stores_parts s ss rest =
    append_assoc (printed.store s) (printed.stores ss) rest
    ∙ store_parts s (printed.stores ss ++ rest)

next_stores : (ss : List (Ref × Option ℕ)) (rest : List Token) → Next rest
    → Next (printed.stores ss ++ rest)
next_stores [] rest e = e
next_stores (s ∷ ss) rest e = rw (stores_parts s ss rest) (next_word _ _)

storage_again : (ss : List (Ref × Option ℕ)) (left : ℕ) (st : List (Ref × Option ℕ))
    (rs rest : List Token) → AllByRecursion StoreFits ss → Next rest
    → (loop is_inside entry (state left (Names Storage) st [] [] [] rs)).reads
    (printed.stores ss ++ rest)
    ≡ (loop is_inside entry (state left (Names Storage) (st ++ ss) [] [] [] rs)).reads rest
storage_again [] left st rs rest h e =
    ap (λ (xs : List (Ref × Option ℕ)).
    (loop is_inside entry (state left (Names Storage) xs [] [] [] rs)).reads rest)
    (sym (append-nil st))
storage_again (x ∷ ss) left st rs rest h e =
    let s : Lines = state left (Names Storage) st [] [] [] rs in
    let o = x.0.owner in
    let n = x.0.name in
    let fits = h.0.ref.fits in
    let more_ : List Token = printed.stores ss ++ rest in
    let next = next_stores ss rest e in
    let ts : List Token = more o n ++ (printed.bracketed x.1 ++ more_) in
    let behind = more_behind o n (printed.bracketed x.1 ++ more_)
    (bracket_behind x.1 more_ (next.ended, next.colon)) in
    let read = store_read o n x.1 more_ fits.owner fits.name h.0.place next in
    let inner : (item Storage (first o n) s).reads ts
    ≡ Ok (state left (Names Storage) (st ++ (made o n None, x.1) ∷ []) [] [] [] rs, more_) =
    rw read refl in
    let one : (entry s).reads (word (first o n) ∷ ts)
    ≡ Ok (state left (Names Storage) (st ++ x ∷ []) [] [] [] rs, more_) =
    named_read Storage (first o n) s ts (first_short o n fits.owner fits.name) behind.0 behind.1
    ∙ inner
    ∙ ap (λ (k : Option ℕ).
    Ok (state left (Names Storage) (st ++ (made o n k, x.1) ∷ []) [] [] [] rs, more_))
    (sym h.0.ref.plain) in
    ap (loop is_inside entry s).reads (stores_parts x ss rest)
    ∙ loop_step is_inside entry entry_short s
    (state left (Names Storage) (st ++ x ∷ []) [] [] [] rs) (word (first o n) ∷ ts)
    more_ refl one
    ∙ storage_again ss left (st ++ x ∷ []) rs rest h.1 e
    ∙ ap (λ (xs : List (Ref × Option ℕ)).
    (loop is_inside entry (state left (Names Storage) xs [] [] [] rs)).reads rest)
    (append_assoc st (x ∷ []) ss)

-- what is synchronised

refs_parts : (r : Ref) (rs : List Ref) (rest : List Token)
    → printed.refs (r ∷ rs) ++ rest
    ≡ word (first r.owner r.name) ∷ (more r.owner r.name ++ (printed.refs rs ++ rest))
refs_parts r rs rest = append_assoc (printed.ref r) (printed.refs rs) rest
    ∙ ap (λ (ts : List Token). ts ++ (printed.refs rs ++ rest)) (ref_parts r.owner r.name)

next_refs : (rs : List Ref) (rest : List Token) → Next rest → Next (printed.refs rs ++ rest)
next_refs [] rest e = e
next_refs (r ∷ rs) rest e = rw (refs_parts r rs rest) (next_word _ _)

sync_again : (xs : List Ref) (left : ℕ) (st : List (Ref × Option ℕ)) (sy : List Ref)
    (rs rest : List Token) → AllByRecursion PlainFits xs → Next rest
    → (loop is_inside entry (state left (Names Sync) st sy [] [] rs)).reads
    (printed.refs xs ++ rest)
    ≡ (loop is_inside entry (state left (Names Sync) st (sy ++ xs) [] [] rs)).reads rest
sync_again [] left st sy rs rest h e =
    ap (λ (ys : List Ref). (loop is_inside entry (state left (Names Sync) st ys [] [] rs)).reads
    rest) (sym (append-nil sy))
sync_again (x ∷ xs) left st sy rs rest h e =
    let s : Lines = state left (Names Sync) st sy [] [] rs in
    let o = x.owner in
    let n = x.name in
    let fits = h.0.fits in
    let more_ : List Token = printed.refs xs ++ rest in
    let next = next_refs xs rest e in
    let ts : List Token = more o n ++ more_ in
    let behind = more_behind o n more_ (next.ended, next.colon) in
    let read = sync_name_read o n more_ fits.owner fits.name next in
    let inner : (item Sync (first o n) s).reads ts
    ≡ Ok (state left (Names Sync) st (sy ++ made o n None ∷ []) [] [] rs, more_) =
    rw read refl in
    let one : (entry s).reads (word (first o n) ∷ ts)
    ≡ Ok (state left (Names Sync) st (sy ++ x ∷ []) [] [] rs, more_) =
    named_read Sync (first o n) s ts (first_short o n fits.owner fits.name) behind.0 behind.1
    ∙ inner
    ∙ ap (λ (k : Option ℕ). Ok (state left (Names Sync) st (sy ++ made o n k ∷ []) [] [] rs, more_))
    (sym h.0.plain) in
    ap (loop is_inside entry s).reads (refs_parts x xs rest)
    ∙ loop_step is_inside entry entry_short s (state left (Names Sync) st (sy ++ x ∷ []) [] [] rs)
    (word (first o n) ∷ ts) more_ refl one
    ∙ sync_again xs left st (sy ++ x ∷ []) rs rest h.1 e
    ∙ ap (λ (ys : List Ref).
    (loop is_inside entry (state left (Names Sync) st ys [] [] rs)).reads rest)
    (append_assoc sy (x ∷ []) xs)

-- what is read and written

abbrev pub TouchedFits : Ref × Region → Type 0
TouchedFits t = RefFits t.0

access_parts : (t : Ref × Region) (ts : List (Ref × Region)) (rest : List Token)
    → printed.accesses (t ∷ ts) ++ rest
    ≡ word (first t.0.owner t.0.name)
    ∷ (more t.0.owner t.0.name
    ++ (printed.bracketed t.0.copy ++ with_region t.1 (printed.accesses ts ++ rest)))
access_parts t ts rest =
    append_assoc (printed.access t) (printed.accesses ts) rest
    ∙ parts (printed.ref t.0) (printed.bracketed t.0.copy)
    (sign 40 ∷ word (region_text t.1) ∷ sign 41 ∷ []) (printed.accesses ts ++ rest)
    ∙ ap (λ (us : List Token). us
    ++ (printed.bracketed t.0.copy ++ with_region t.1 (printed.accesses ts ++ rest)))
    (ref_parts t.0.owner t.0.name)
  where
    parts : (a b c d : List Token) → ((a ++ b) ++ c) ++ d ≡ a ++ (b ++ (c ++ d))
    parts a b c d = simp append_assoc

next_access : (ts : List (Ref × Region)) (rest : List Token) → Next rest
    → Next (printed.accesses ts ++ rest)
next_access [] rest e = e
next_access (t ∷ ts) rest e = rw (access_parts t ts rest) (next_word _ _)

reads_again : (xs : List (Ref × Region)) (left : ℕ) (st : List (Ref × Option ℕ)) (sy : List Ref)
    (re : List (Ref × Region)) (rs rest : List Token) → AllByRecursion TouchedFits xs → Next rest
    → (loop is_inside entry (state left (Names Reads) st sy re [] rs)).reads
    (printed.accesses xs ++ rest)
    ≡ (loop is_inside entry (state left (Names Reads) st sy (re ++ xs) [] rs)).reads rest
reads_again [] left st sy re rs rest h e =
    ap (λ (ys : List (Ref × Region)).
    (loop is_inside entry (state left (Names Reads) st sy ys [] rs)).reads rest)
    (sym (append-nil re))
reads_again (x ∷ xs) left st sy re rs rest h e =
    let s : Lines = state left (Names Reads) st sy re [] rs in
    let o = x.0.owner in
    let n = x.0.name in
    let more_ : List Token = printed.accesses xs ++ rest in
    let next = next_access xs rest e in
    let ts : List Token = more o n ++ (printed.bracketed x.0.copy ++ with_region x.1 more_) in
    let behind = more_behind o n (printed.bracketed x.0.copy ++ with_region x.1 more_)
    (bracket_behind x.0.copy (with_region x.1 more_) (refl, refl)) in
    let read = access_read o n x.0.copy x.1 more_ h.0.owner h.0.name h.0.copy next in
    let inner : (item Reads (first o n) s).reads ts
    ≡ Ok (state left (Names Reads) st sy (re ++ x ∷ []) [] rs, more_) = rw read refl in
    let one : (entry s).reads (word (first o n) ∷ ts)
    ≡ Ok (state left (Names Reads) st sy (re ++ x ∷ []) [] rs, more_) =
    named_read Reads (first o n) s ts (first_short o n h.0.owner h.0.name) behind.0 behind.1
    ∙ inner in
    ap (loop is_inside entry s).reads (access_parts x xs rest)
    ∙ loop_step is_inside entry entry_short s (state left (Names Reads) st sy (re ++ x ∷ []) [] rs)
    (word (first o n) ∷ ts) more_ refl one
    ∙ reads_again xs left st sy (re ++ x ∷ []) rs rest h.1 e
    ∙ ap (λ (ys : List (Ref × Region)).
    (loop is_inside entry (state left (Names Reads) st sy ys [] rs)).reads rest)
    (append_assoc re (x ∷ []) xs)

writes_again : (xs : List (Ref × Region)) (left : ℕ) (st : List (Ref × Option ℕ)) (sy : List Ref)
    (re wr : List (Ref × Region)) (rs rest : List Token) → AllByRecursion TouchedFits xs → Next rest
    → (loop is_inside entry (state left (Names Writes) st sy re wr rs)).reads
    (printed.accesses xs ++ rest)
    ≡ (loop is_inside entry (state left (Names Writes) st sy re (wr ++ xs) rs)).reads rest
writes_again [] left st sy re wr rs rest h e =
    ap (λ (ys : List (Ref × Region)).
    (loop is_inside entry (state left (Names Writes) st sy re ys rs)).reads rest)
    (sym (append-nil wr))
writes_again (x ∷ xs) left st sy re wr rs rest h e =
    let s : Lines = state left (Names Writes) st sy re wr rs in
    let o = x.0.owner in
    let n = x.0.name in
    let more_ : List Token = printed.accesses xs ++ rest in
    let next = next_access xs rest e in
    let ts : List Token = more o n ++ (printed.bracketed x.0.copy ++ with_region x.1 more_) in
    let behind = more_behind o n (printed.bracketed x.0.copy ++ with_region x.1 more_)
    (bracket_behind x.0.copy (with_region x.1 more_) (refl, refl)) in
    let read = access_read o n x.0.copy x.1 more_ h.0.owner h.0.name h.0.copy next in
    let inner : (item Writes (first o n) s).reads ts
    ≡ Ok (state left (Names Writes) st sy re (wr ++ x ∷ []) rs, more_) = rw read refl in
    let one : (entry s).reads (word (first o n) ∷ ts)
    ≡ Ok (state left (Names Writes) st sy re (wr ++ x ∷ []) rs, more_) =
    named_read Writes (first o n) s ts (first_short o n h.0.owner h.0.name) behind.0 behind.1
    ∙ inner in
    ap (loop is_inside entry s).reads (access_parts x xs rest)
    ∙ loop_step is_inside entry entry_short s (state left (Names Writes) st sy re (wr ++ x ∷ []) rs)
    (word (first o n) ∷ ts) more_ refl one
    ∙ writes_again xs left st sy re (wr ++ x ∷ []) rs rest h.1 e
    ∙ ap (λ (ys : List (Ref × Region)).
    (loop is_inside entry (state left (Names Writes) st sy re ys rs)).reads rest)
    (append_assoc wr (x ∷ []) xs)

-- ---- whole lines

-- how many lines are printed of a list
abbrev pub count : {A : Type 0} → List A → ℕ
count [] = 0
count (x ∷ xs) = 1

abbrev then_at : {A : Type 0} → Line → Kind → List A → Line
then_at l k [] = l
then_at l k (x ∷ xs) = Names k

line_step : (w : List ℕ) (k : Kind) (left : ℕ) (l : Line) (st : List (Ref × Option ℕ))
    (sy : List Ref) (re wr : List (Ref × Region)) (rs ts : List Token) → IsShortName w
    → line_of w ≡ Some (Names k) → 1 ≤ left → passes is_line_end (head ts) ≡ false
    → (loop is_inside entry (state left l st sy re wr rs)).reads (word w ∷ sign 58 ∷ ts)
    ≡ (loop is_inside entry (state (left - 1) (Names k) st sy re wr rs)).reads ts
line_step w k left l st sy re wr rs ts h is some e =
    let s : Lines = state left l st sy re wr rs in
    loop_step is_inside entry entry_short s (state (left - 1) (Names k) st sy re wr (rs ++ []))
    (word w ∷ sign 58 ∷ ts) ts refl
    (begins_behind l w (Names k) s ts h is (omega (arith, some)) e)
    ∙ ap (λ (us : List Token).
    (loop is_inside entry (state (left - 1) (Names k) st sy re wr us)).reads ts) (append-nil rs)

storage_line_again : (ss : List (Ref × Option ℕ)) (left : ℕ) (l : Line) (rs rest : List Token)
    → AllByRecursion StoreFits ss → Next rest → count ss ≤ left
    → (loop is_inside entry (idle left l rs)).reads (printed.storage_line ss ++ rest)
    ≡ (loop is_inside entry (state (left - count ss) (then_at l Storage ss) ss [] [] [] rs)).reads
    rest
storage_line_again [] left l rs rest h e c =
    ap (λ (k : ℕ). (loop is_inside entry (idle k l rs)).reads rest) (omega arith)
storage_line_again (x ∷ ss) left l rs rest h e c =
    line_step STORAGE Storage left l [] [] [] [] rs (printed.stores (x ∷ ss) ++ rest) (omega arith)
    refl c (next_stores (x ∷ ss) rest e).ended
    ∙ storage_again (x ∷ ss) (left - 1) [] rs rest h e

sync_line_again : (xs : List Ref) (left : ℕ) (l : Line) (st : List (Ref × Option ℕ))
    (rs rest : List Token) → AllByRecursion PlainFits xs → Next rest → count xs ≤ left
    → (loop is_inside entry (state left l st [] [] [] rs)).reads (printed.sync_line xs ++ rest)
    ≡ (loop is_inside entry (state (left - count xs) (then_at l Sync xs) st xs [] [] rs)).reads rest
sync_line_again [] left l st rs rest h e c =
    ap (λ (k : ℕ). (loop is_inside entry (state k l st [] [] [] rs)).reads rest) (omega arith)
sync_line_again (x ∷ xs) left l st rs rest h e c =
    line_step (codes "SYNC") Sync left l st [] [] [] rs (printed.refs (x ∷ xs) ++ rest)
    (omega arith) refl c (next_refs (x ∷ xs) rest e).ended
    ∙ sync_again (x ∷ xs) (left - 1) st [] rs rest h e

reads_line_again : (xs : List (Ref × Region)) (left : ℕ) (l : Line) (st : List (Ref × Option ℕ))
    (sy : List Ref) (rs rest : List Token) → AllByRecursion TouchedFits xs → Next rest
    → count xs ≤ left → (loop is_inside entry (state left l st sy [] [] rs)).reads
    (printed.access_line (codes "READS") xs ++ rest)
    ≡ (loop is_inside entry (state (left - count xs) (then_at l Reads xs) st sy xs [] rs)).reads
    rest
reads_line_again [] left l st sy rs rest h e c =
    ap (λ (k : ℕ). (loop is_inside entry (state k l st sy [] [] rs)).reads rest) (omega arith)
reads_line_again (x ∷ xs) left l st sy rs rest h e c =
    line_step (codes "READS") Reads left l st sy [] [] rs (printed.accesses (x ∷ xs) ++ rest)
    (omega arith) refl c (next_access (x ∷ xs) rest e).ended
    ∙ reads_again (x ∷ xs) (left - 1) st sy [] rs rest h e

writes_line_again : (xs : List (Ref × Region)) (left : ℕ) (l : Line) (st : List (Ref × Option ℕ))
    (sy : List Ref) (re : List (Ref × Region)) (rs rest : List Token)
    → AllByRecursion TouchedFits xs → Next rest → count xs ≤ left
    → (loop is_inside entry (state left l st sy re [] rs)).reads
    (printed.access_line (codes "WRITES") xs ++ rest)
    ≡ (loop is_inside entry (state (left - count xs) (then_at l Writes xs) st sy re xs rs)).reads
    rest
writes_line_again [] left l st sy re rs rest h e c =
    ap (λ (k : ℕ). (loop is_inside entry (state k l st sy re [] rs)).reads rest) (omega arith)
writes_line_again (x ∷ xs) left l st sy re rs rest h e c =
    line_step (codes "WRITES") Writes left l st sy re [] rs (printed.accesses (x ∷ xs) ++ rest)
    (omega arith) refl c (next_access (x ∷ xs) rest e).ended
    ∙ writes_again (x ∷ xs) (left - 1) st sy re [] rs rest h e

next_storage_line : (ss : List (Ref × Option ℕ)) (rest : List Token) → Next rest
    → Next (printed.storage_line ss ++ rest)
next_storage_line [] rest e = e
next_storage_line (s ∷ ss) rest e = next_word _ _

next_sync_line : (rs : List Ref) (rest : List Token) → Next rest
    → Next (printed.sync_line rs ++ rest)
next_sync_line [] rest e = e
next_sync_line (r ∷ rs) rest e = next_word _ _

next_access_line : (w : List ℕ) (ts : List (Ref × Region)) (rest : List Token) → Next rest
    → Next (printed.access_line w ts ++ rest)
next_access_line w [] rest e = e
next_access_line w (t ∷ ts) rest e = next_word _ _

goes_next : (l : Line) (ts : List Token) → Next ts → Goes l ts
goes_next Word ts e = e.colon
goes_next Start ts e = tt
goes_next Tokens ts e = tt
goes_next (Names k) ts e = tt

-- ---- the lines of a block

-- what is printed of the lists of names, and then
abbrev pub listed : List (Ref × Option ℕ) → List Ref → List (Ref × Region) → List (Ref × Region)
    → List Token → List Token
listed ss sy re wr ts = printed.storage_line ss
    ++ (printed.sync_line sy
    ++ (printed.access_line (codes "READS") re ++ (printed.access_line (codes "WRITES") wr ++ ts)))

pub record ListsFit (ss : List (Ref × Option ℕ)) (sy : List Ref)
    (re wr : List (Ref × Region)) : Type 0 where
  pub storage : AllByRecursion StoreFits ss
  pub sync : AllByRecursion PlainFits sy
  pub reads : AllByRecursion TouchedFits re
  pub writes : AllByRecursion TouchedFits wr

-- how many lines are printed
abbrev pub total : ℕ → List (Ref × Option ℕ) → List Ref → List (Ref × Region) → List (Ref × Region)
    → ℕ
total used ss sy re wr = used + (count ss + (count sy + (count re + count wr)))

pub next_listed : (ss : List (Ref × Option ℕ)) (sy : List Ref) (re wr : List (Ref × Region))
    (ts : List Token) → Next ts → Next (listed ss sy re wr ts)
next_listed ss sy re wr ts e =
    next_storage_line ss _ (next_sync_line sy _
    (next_access_line (codes "READS") re _ (next_access_line (codes "WRITES") wr _ e)))

entries_again : (used : ℕ) (l : Line) (rs : List Token) (ss : List (Ref × Option ℕ)) (sy : List Ref)
    (re wr : List (Ref × Region)) (left : ℕ) (more_ : List Token) → Kept rs used l
    → ListsFit ss sy re wr → total used ss sy re wr ≤ left
    → (at : Line)
    × ((loop is_inside entry (no_lines left)).reads
    (rs ++ listed ss sy re wr (sign 125 ∷ more_))
    ≡ Ok (state (left - total used ss sy re wr) at ss sy re wr rs, sign 125 ∷ more_))
entries_again used l rs ss sy re wr left more_ k f h =
    let d : List Token = sign 125 ∷ more_ in
    let c : List Token = printed.access_line (codes "WRITES") wr ++ d in
    let b : List Token = printed.access_line (codes "READS") re ++ c in
    let a : List Token = printed.sync_line sy ++ b in
    let next_c = next_access_line (codes "WRITES") wr d (next_close more_) in
    let next_b = next_access_line (codes "READS") re c next_c in
    let next_a = next_sync_line sy b next_b in
    let next = next_storage_line ss a next_a in
    let l1 = then_at l Storage ss in
    let l2 = then_at l1 Sync sy in
    let l3 = then_at l2 Reads re in
    let l4 = then_at l3 Writes wr in
    let n1 = left - used in
    let n2 = n1 - count ss in
    let n3 = n2 - count sy in
    let n4 = n3 - count re in (
      l4,
      k.again left (printed.storage_line ss ++ a) (omega (arith, h)) next.ended
          (goes_next l (printed.storage_line ss ++ a) next)
          ∙ storage_line_again ss n1 l rs a f.storage next_a (omega (arith, h))
          ∙ sync_line_again sy n2 l1 ss rs b f.sync next_b (omega (arith, h))
          ∙ reads_line_again re n3 l2 ss sy rs c f.reads next_c (omega (arith, h))
          ∙ writes_line_again wr n4 l3 ss sy re rs d f.writes (next_close more_) (omega (arith, h))
          ∙ loop_stop is_inside entry entry_short (state (n4 - count wr) l4 ss sy re wr rs) d refl
          ∙ ap (λ (n : ℕ). Ok (state n l4 ss sy re wr rs, d)) (omega (arith, h)),
    )

pub lines_again : (used : ℕ) (l : Line) (rs : List Token) (ss : List (Ref × Option ℕ))
    (sy : List Ref) (re wr : List (Ref × Region)) (left : ℕ) (more_ rest : List Token)
    → Kept rs used l → ListsFit ss sy re wr → total used ss sy re wr ≤ left
    → passes is_line_end (head (rs ++ listed ss sy re wr (sign 125 ∷ more_))) ≡ false
    → Skips more_ rest
    → (at : Line) × ((lines left).reads (sign 123 ∷ (rs ++ listed ss sy re wr (sign 125 ∷ more_)))
    ≡ Ok (state (left - total used ss sy re wr) at ss sy re wr rs, rest))
lines_again used l rs ss sy re wr left more_ rest k f h starts s =
    let all = entries_again used l rs ss sy re wr left more_ k f h in
    let read = all.1 in
    let skip = s.reads in
    (all.0, rw (no_skip (rs ++ listed ss sy re wr (sign 125 ∷ more_)) starts, read, skip) refl)
