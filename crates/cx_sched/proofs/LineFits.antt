-- What the names and the lines of a block are like that some tokens spell.
use Rattle.std.proofs.Common.{◌≡◌, ◌≤◌, ◌<◌, ◌+◌, ◌-◌, ◌^◌, ℕ, zero, suc, nat_eq, ltb, Bool, true, false, cond, ◌||◌, List, [], ◌∷◌, ◌++◌, Option, Some, None, refl, sym, ap, subst, ◌∙◌, arith}
use Rattle.std.specs.List.{AllByRecursion}
use Rattle.std.proofs.lemmas.Bool.{eqb-false, ltb-false, or_parts}
use Rattle.std.proofs.lemmas.List.{append-nil}
use Rattle.cx_text.specs.declared.token.Token.{Token}
use Rattle.cx_text.specs.declared.token.Style.TheVariants.{Ccl}
use Rattle.cx_text.specs.declared.stop.Mark.{Mark}
use Rattle.cx_text.specs.declared.stop.Mark.TheVariants.{Limit, BadNumber}
use Rattle.cx_text.specs.Tokens.{is_word, is_line_end}
use Rattle.cx_text.specs.Rules.{Rule, sign_here, name, name_here}
use Rattle.cx_text.specs.Lexemes.{first_mark, decimal_from, is_number, number_of, number_in, comma, kept, kept_if, is_inside}
use Rattle.cx_text.specs.Written.{word, sign}
use Rattle.cx_text.proofs.PrintLaws.{printable_kept}
use Rattle.cx_text.proofs.WrittenLaws.{printable_name}
use Rattle.cx_text.proofs.Holds.{each-append, name_is_short}
use Rattle.cx_text.proofs.LexemeLaws.{Ended}
use Rattle.cx_expr.proofs.TextLaws.{IsWritten}
use Rattle.cx_sched.specs.declared.tree.Ref.{Ref}
use Rattle.cx_sched.specs.declared.lines.Kind.{Kind}
use Rattle.cx_sched.specs.declared.lines.Kind.TheVariants.{Storage, Sync, Reads, Writes}
use Rattle.cx_sched.specs.declared.lines.Line.{Line}
use Rattle.cx_sched.specs.declared.lines.Line.TheVariants.{Start, Tokens, Word, Names}
use Rattle.cx_sched.specs.declared.lines.Lines.{Lines}
use Rattle.cx_sched.specs.Words.{line_of}
use Rattle.cx_sched.specs.Refs.{behind_word, reference, bracketed, region, store, sync_name, access, behind_word_here, bracketed_here, comma_here, more_stores, stores}
use Rattle.cx_sched.specs.Lines.{no_lines, beginning, begin, begin_or, with_word, first, begun_by, keep, kept_after, kept as kept_entry, item, named, entry_in, lines}
use Rattle.cx_sched.proofs.RefAgain.{IsName, IsPlace, PlainFits, StoreFits}
use Rattle.cx_sched.proofs.LinesAgain.{IsFree, Kept, nothing_kept, line_kept, line_at, line_behind, token_kept, TouchedFits, ListsFit, count}
use Rattle.cx_sched.proofs.TokenLaws.{Written, a_name, a_sign}
use Rattle.cx_sched.proofs.Sees.{Fine, Sees, sees_nothing, sees_token, sees_also, sees_choice, sees_loop, sees_from, weaker_sees, sees_given, sees_any, sees_lexeme, sees_skipped}

-- ---- tokens

some_at : {A : Type 0} (b : Bool) (v x : A) → cond b (Some v) None ≡ Some x → (b ≡ true) × (v ≡ x)
some_at true v x e = (refl, cc)
some_at false v x e = absurd cc

pub no_mark : (b : Bool) (m : Mark) (other : Option Mark) → first_mark b m other ≡ None
    → (b ≡ false) × (other ≡ None)
no_mark true m other e = absurd cc
no_mark false m other e = (refl, e)

pub open_left : (left : ℕ) → nat_eq left 0 ≡ false → 0 < left
open_left zero h = absurd (eqb-false zero zero h refl)
open_left (suc n) h = omega arith

number_is : (high : ℕ) (t : Token) (x : ℕ) → number_of t ≡ Some x
    → first_mark (ltb (decimal_from 0 t.text) 0 || ltb high (decimal_from 0 t.text)) BadNumber None
    ≡ None → x ≤ high
number_is high t x v m =
    let k = or_parts (ltb (decimal_from 0 t.text) 0) (ltb high (decimal_from 0 t.text))
    (no_mark _ BadNumber None m).0 in
    let same = (some_at (is_number t) (decimal_from 0 t.text) x v).1 in
    subst (λ (n : ℕ). n ≤ high) same (ltb-false high (decimal_from 0 t.text) k.1)

number_sees : {F : Option Token → Type 0} (high : ℕ)
    → Sees F (number_in 0 high) (λ n k. (n ≤ high) × Ended k)
number_sees high = sees_lexeme (λ n. n ≤ high) (λ t x h v m f. number_is high t x v m)

pub name_sees : {F : Option Token → Type 0} → Sees F name (λ n k. IsName n × Ended k)
name_sees = sees_lexeme IsName (λ t x h v m f. (name_is_short t x v m, printable_name Ccl t x h v))

name_here_sees : {F : Option Token → Type 0} → Sees F name_here (λ n k. IsName n × Unit {0})
name_here_sees = sees_token
    (λ t x h v m f n. ((name_is_short t x v m, printable_name Ccl t x h v), tt))

-- ---- names of variables and groups

plain_fits : (w : List ℕ) → IsName w → PlainFits (record { owner = None; name = w; copy = None })
plain_fits w h = record { fits = record { owner = tt; name = h; copy = tt }; plain = refl }

owned_fits : (w n : List ℕ) → IsName w → IsName n
    → PlainFits (record { owner = Some w; name = n; copy = None })
owned_fits w n h k = record { fits = record { owner = h; name = k; copy = tt }; plain = refl }

behind_word_sees : (w : List ℕ) → IsName w
    → Sees Ended (behind_word w) (λ r n. PlainFits r × Ended n)
behind_word_sees w h =
    sees_choice (sees_also sees_skipped
    (λ u p. sees_also name_sees (λ n k. sees_nothing (λ m e. (owned_fits w n h k, e)))))
    (sees_nothing (λ m e. (plain_fits w h, e.0)))

pub reference_sees : {F : Option Token → Type 0} → Sees F reference (λ r n. PlainFits r × Ended n)
reference_sees = sees_also name_sees behind_word_sees

bracketed_sees : Sees Ended bracketed (λ k n. IsPlace k × Ended n)
bracketed_sees =
    sees_choice (sees_also sees_skipped
    (λ u p. sees_also (number_sees (2 ^ 32 - 1))
    (λ n k. sees_also sees_skipped (λ v q. sees_nothing (λ m e. (k, e))))))
    (sees_nothing (λ m e. (tt, e.0)))

region_sees : Sees Ended region (λ g n. Unit {0} × Ended n)
region_sees =
    sees_choice (sees_also sees_skipped
    (λ u p. sees_also sees_skipped
    (λ g k. sees_also sees_skipped (λ v q. sees_nothing (λ m e. (tt, e))))))
    (sees_nothing (λ m e. (tt, e.0)))

comma_sees : Sees Ended comma (λ u n. Unit {0} × Ended n)
comma_sees = sees_choice sees_skipped (sees_nothing (λ m e. (tt, e.0)))

store_sees : (w : List ℕ) → IsName w → Sees Ended (store w) (λ s n. StoreFits s × Ended n)
store_sees w h =
    sees_also (behind_word_sees w h) (λ r f.
    sees_also bracketed_sees (λ k g.
    sees_also comma_sees (λ u p. sees_nothing (λ m e. (record { ref = f; place = g }, e)))))

sync_name_sees : (w : List ℕ) → IsName w → Sees Ended (sync_name w) (λ r n. PlainFits r × Ended n)
sync_name_sees w h = sees_also (behind_word_sees w h)
    (λ r f. sees_also comma_sees (λ u p. sees_nothing (λ m e. (f, e))))

access_sees : (w : List ℕ) → IsName w → Sees Ended (access w) (λ t n. TouchedFits t × Ended n)
access_sees w h =
    sees_also (behind_word_sees w h) (λ r f.
    sees_also bracketed_sees (λ k g.
    sees_also region_sees (λ i p.
    sees_also comma_sees (λ u q.
    sees_nothing (λ m e. (record { owner = f.fits.owner; name = f.fits.name; copy = g }, e))))))

-- groups in a line of their own

here_sees : {F : Option Token → Type 0} (w : List ℕ) → IsName w
    → Sees F (behind_word_here w) (λ r n. PlainFits r × Unit {0})
here_sees w h =
    sees_choice (sees_also sees_skipped
    (λ u p. sees_also name_here_sees (λ n k. sees_nothing (λ m e. (owned_fits w n h k, tt)))))
    (sees_nothing (λ m e. (plain_fits w h, tt)))

bracketed_here_sees : {F : Option Token → Type 0}
    → Sees F bracketed_here (λ k n. IsPlace k × Unit {0})
bracketed_here_sees =
    sees_choice (sees_also sees_skipped
    (λ u p. sees_also (number_sees (2 ^ 32 - 1))
    (λ n k. sees_also (sees_any (sign_here 93)) (λ v q. sees_nothing (λ m e. (k, tt))))))
    (sees_nothing (λ m e. (tt, tt)))

more_stores_see : {F : Option Token → Type 0} (rs : List (Ref × Option ℕ))
    → AllByRecursion StoreFits rs → Sees F (more_stores rs) (λ ss n. AllByRecursion StoreFits ss)
more_stores_see rs h =
    sees_also name_here_sees (λ w k.
    sees_also (here_sees w k) (λ r f.
    sees_also bracketed_here_sees (λ p g.
    sees_also (sees_any comma_here)
    (λ u q. sees_nothing (λ m e.
    each-append StoreFits rs ((r, p) ∷ []) h (record { ref = f; place = g }, tt))))))

pub stores_see : {F : Option Token → Type 0}
    → Sees F stores (λ ss n. AllByRecursion StoreFits ss × Unit {0})
stores_see =
    sees_from
    (weaker_sees (sees_loop {test = is_word} (λ ss n. AllByRecursion StoreFits ss)
    (λ rs. sees_given (AllByRecursion StoreFits rs) (λ n f. f.0) (more_stores_see rs)))
    (λ ss n h. (h.0, tt))) (λ n f. tt)

-- ---- the lines of a block

-- in a line without effect that is the line in which what is kept ends
abbrev IsAt : Line → Line → Type 0
IsAt Start m = Unit {0}
IsAt Tokens m = m ≡ Tokens
IsAt Word m = m ≡ Word
IsAt (Names k) m = Unit {0}

-- in a list of names that list has a line
abbrev Counts : Line → ℕ → ℕ → ℕ → ℕ → Type 0
Counts Start a b c d = Unit {0}
Counts Tokens a b c d = Unit {0}
Counts Word a b c d = Unit {0}
Counts (Names Storage) a b c d = 1 ≤ a
Counts (Names Sync) a b c d = 1 ≤ b
Counts (Names Reads) a b c d = 1 ≤ c
Counts (Names Writes) a b c d = 1 ≤ d

pub record LinesFit (limit : ℕ) (s : Lines) : Type 0 where
  pub idle : ℕ
  pub at : Line
  pub kept : Kept s.rest idle at
  pub same : IsAt s.line at
  pub rest : Written s.rest
  pub lists : ListsFit s.storage s.sync s.reads s.writes
  -- so many lines of each list
  pub a : ℕ
  pub b : ℕ
  pub c : ℕ
  pub d : ℕ
  pub named : Counts s.line a b c d
  pub storage : count s.storage ≤ a
  pub sync : count s.sync ≤ b
  pub reads : count s.reads ≤ c
  pub writes : count s.writes ≤ d
  pub size : s.left + (idle + (a + (b + (c + d)))) ≤ limit

no_lines_fit : (left : ℕ) → LinesFit left (no_lines left)
no_lines_fit left = record {
  idle = 0;
  at = Start;
  kept = nothing_kept;
  same = tt;
  rest = tt;
  lists = record { storage = tt; sync = tt; reads = tt; writes = tt };
  a = 0;
  b = 0;
  c = 0;
  d = 0;
  named = tt;
  storage = omega arith;
  sync = omega arith;
  reads = omega arith;
  writes = omega arith;
  size = omega arith;
}

-- how a line begins

never_start : (i s y r w : Bool)
    → cond i (Some Tokens) (cond s (Some (Names Storage))
    (cond y (Some (Names Sync)) (cond r (Some (Names Reads)) (cond w (Some (Names Writes)) None))))
    ≡ Some Start → ⊥
never_start true s y r w e = absurd cc
never_start false true y r w e = absurd cc
never_start false false true r w e = absurd cc
never_start false false false true w e = absurd cc
never_start false false false false true e = absurd cc
never_start false false false false false e = absurd cc

never_word : (i s y r w : Bool)
    → cond i (Some Tokens) (cond s (Some (Names Storage))
    (cond y (Some (Names Sync)) (cond r (Some (Names Reads)) (cond w (Some (Names Writes)) None))))
    ≡ Some Word → ⊥
never_word true s y r w e = absurd cc
never_word false true y r w e = absurd cc
never_word false false true r w e = absurd cc
never_word false false false true w e = absurd cc
never_word false false false false true e = absurd cc
never_word false false false false false e = absurd cc

same_rest : (s : Lines) (idle : ℕ) (at : Line) → Kept s.rest idle at → Kept (s.rest ++ []) idle at
same_rest s idle at k = subst (λ (ts : List Token). Kept ts idle at) (sym (append-nil s.rest)) k

same_written : (s : Lines) → Written s.rest → Written (s.rest ++ [])
same_written s k = subst Written (sym (append-nil s.rest)) k

abbrev begun : Line → List ℕ → Lines → Lines
begun l w s = record s { left = s.left - 1; line = l; rest = s.rest ++ beginning l w }

begun_fits : (limit : ℕ) (l : Line) (w : List ℕ) (s : Lines) → line_of w ≡ Some l
    → IsWritten (word w) → nat_eq s.left 0 ≡ false → LinesFit limit s → LinesFit limit (begun l w s)
begun_fits limit Start w s is p o f = absurd (never_start _ _ _ _ _ is)
begun_fits limit Word w s is p o f = absurd (never_word _ _ _ _ _ is)
begun_fits limit Tokens w s is p o f =
    let some = open_left s.left o in
    let z = f.size in
    record {
      idle = suc f.idle;
      at = Tokens;
      kept = line_kept s.rest f.idle f.at w f.kept is;
      same = refl;
      rest = each-append IsWritten s.rest (word w ∷ sign 58 ∷ []) f.rest
          (p, (a_sign 58 (λ g. refl), tt));
      lists = f.lists;
      a = f.a;
      b = f.b;
      c = f.c;
      d = f.d;
      named = tt;
      storage = f.storage;
      sync = f.sync;
      reads = f.reads;
      writes = f.writes;
      size = omega (arith, some, z);
    }
begun_fits limit (Names Storage) w s is p o f =
    let some = open_left s.left o in
    let z = f.size in
    let q = f.storage in
    record {
      idle = f.idle;
      at = f.at;
      kept = same_rest s f.idle f.at f.kept;
      same = tt;
      rest = same_written s f.rest;
      lists = f.lists;
      a = suc f.a;
      b = f.b;
      c = f.c;
      d = f.d;
      named = omega arith;
      storage = omega (arith, q);
      sync = f.sync;
      reads = f.reads;
      writes = f.writes;
      size = omega (arith, some, z);
    }
begun_fits limit (Names Sync) w s is p o f =
    let some = open_left s.left o in
    let z = f.size in
    let q = f.sync in
    record {
      idle = f.idle;
      at = f.at;
      kept = same_rest s f.idle f.at f.kept;
      same = tt;
      rest = same_written s f.rest;
      lists = f.lists;
      a = f.a;
      b = suc f.b;
      c = f.c;
      d = f.d;
      named = omega arith;
      storage = f.storage;
      sync = omega (arith, q);
      reads = f.reads;
      writes = f.writes;
      size = omega (arith, some, z);
    }
begun_fits limit (Names Reads) w s is p o f =
    let some = open_left s.left o in
    let z = f.size in
    let q = f.reads in
    record {
      idle = f.idle;
      at = f.at;
      kept = same_rest s f.idle f.at f.kept;
      same = tt;
      rest = same_written s f.rest;
      lists = f.lists;
      a = f.a;
      b = f.b;
      c = suc f.c;
      d = f.d;
      named = omega arith;
      storage = f.storage;
      sync = f.sync;
      reads = omega (arith, q);
      writes = f.writes;
      size = omega (arith, some, z);
    }
begun_fits limit (Names Writes) w s is p o f =
    let some = open_left s.left o in
    let z = f.size in
    let q = f.writes in
    record {
      idle = f.idle;
      at = f.at;
      kept = same_rest s f.idle f.at f.kept;
      same = tt;
      rest = same_written s f.rest;
      lists = f.lists;
      a = f.a;
      b = f.b;
      c = f.c;
      d = suc f.d;
      named = omega arith;
      storage = f.storage;
      sync = f.sync;
      reads = f.reads;
      writes = omega (arith, q);
      size = omega (arith, some, z);
    }

abbrev Still : ℕ → Lines → Option Token → Type 0
Still limit s n = LinesFit limit s × Ended n

begin_sees : {F : Option Token → Type 0} (limit : ℕ) (l : Line) (w : List ℕ) (s : Lines)
    → line_of w ≡ Some l → IsWritten (word w) → LinesFit limit s
    → Sees F (begin l w s) (Still limit)
begin_sees limit l w s is p f =
    sees_also (sees_lexeme (λ u. nat_eq s.left 0 ≡ false)
    (λ t x h v m g. (no_mark (nat_eq s.left 0) Limit None m).0)) (λ u o.
    sees_nothing (λ n e. (begun_fits limit l w s is p o f, e)))

begin_or_sees : {F : Option Token → Type 0} (limit : ℕ) (o : Option Line) (w : List ℕ) (s : Lines)
    {r : Rule Lines} → ((l : Line) → o ≡ Some l → (line_of w ≡ Some l) × IsWritten (word w))
    → LinesFit limit s → Sees F r (Still limit) → Sees F (begin_or o w s r) (Still limit)
begin_or_sees limit None w s h f rest = rest
begin_or_sees limit (Some l) w s h f rest = let k = h l refl in
    sees_choice (begin_sees limit l w s k.0 k.1 f) (sees_from rest (λ n g. g.0))

-- a word, as it is printed
word_written : (t : Token) → Fine t → is_word t ≡ true → IsWritten (word t.text)
word_written t h e = (printable_name Ccl t t.text h (rw e refl), refl, refl)

begins_as : (b : Bool) (w : List ℕ) (o : Option Line) (l : Line × List ℕ) → line_of w ≡ o
    → cond b (with_word w o) None ≡ Some l → (b ≡ true) × (line_of l.1 ≡ Some l.0) × (w ≡ l.1)
begins_as true w None l is e = absurd cc
begins_as true w (Some k) l is e =
    let same : (k, w) ≡ l = cc in
    let first : k ≡ l.0 = ap (λ (p : Line × List ℕ). p.0) same in
    let second : w ≡ l.1 = ap (λ (p : Line × List ℕ). p.1) same in (
      refl,
      subst (λ (x : List ℕ). line_of x ≡ Some l.0) second
          (is ∙ ap (λ (x : Line). Some x) first),
      second,
    )
begins_as false w o l is e = absurd cc

first_sees : {F : Option Token → Type 0} (limit : ℕ) (s : Lines) → LinesFit limit s
    → Sees F (first s) (Still limit)
first_sees limit s f =
    sees_also (sees_lexeme (λ (l : Line × List ℕ). (line_of l.1 ≡ Some l.0) × IsWritten (word l.1))
    (λ t x h v m g.
    let k = begins_as (is_word t) t.text (line_of t.text) x refl v in
    (k.1, subst (λ (w : List ℕ). IsWritten (word w)) k.2 (word_written t h k.0)))) (λ l k.
    begin_sees limit l.0 l.1 s k.0 k.1 f)

-- ---- lines without effect

free_behind : (b : Bool) → IsFree (cond b Word Tokens)
free_behind true = tt
free_behind false = tt

at_behind : (b : Bool) → IsAt (cond b Word Tokens) (cond b Word Tokens)
at_behind true = refl
at_behind false = refl

none_counts : (b : Bool) (i j k l : ℕ) → Counts (cond b Word Tokens) i j k l
none_counts true i j k l = tt
none_counts false i j k l = tt

-- a token that such a line may have
record MayStand (b : Bool) (t : Token) : Type 0 where
  written : IsWritten t
  stands : kept_after b t ≡ true

keep_fits : (limit : ℕ) (b : Bool) (t : Token) (s : Lines) → MayStand b t → LinesFit limit s
    → ((f : LinesFit limit s) → f.at ≡ line_at b) → LinesFit limit (keep t s)
keep_fits limit b t s k f at =
    let same : f.at ≡ line_at b = at f in
    record {
      idle = f.idle;
      at = line_behind t;
      kept = token_kept s.rest f.idle b t (subst (λ (l : Line). Kept s.rest f.idle l) same f.kept)
          k.written.1 k.written.2 k.stands (free_behind (is_word t));
      same = at_behind (is_word t);
      rest = each-append IsWritten s.rest (t ∷ []) f.rest (k.written, tt);
      lists = f.lists;
      a = f.a;
      b = f.b;
      c = f.c;
      d = f.d;
      named = none_counts (is_word t) f.a f.b f.c f.d;
      storage = f.storage;
      sync = f.sync;
      reads = f.reads;
      writes = f.writes;
      size = f.size;
    }

may_stand : (b : Bool) (t x : Token) → Fine t → kept_if (kept_after b) t ≡ Some x
    → is_line_end t ≡ false → MayStand b x
may_stand b t x h v e =
    let k = some_at (kept_after b t) (kept t) x v in
    subst (MayStand b) k.1 (record { written = (printable_kept h, e, refl); stands = still b k.0 })
  where
    still : (b : Bool) → kept_after b t ≡ true → kept_after b (kept t) ≡ true
    still true e = e
    still false e = e

begun_as : (b : Bool) (o : Option Line) (l : Line) → cond b o None ≡ Some l
    → (b ≡ true) × (o ≡ Some l)
begun_as true o l e = (refl, e)
begun_as false o l e = absurd cc

kept_sees : (limit : ℕ) (b : Bool) (s : Lines) → LinesFit limit s
    → ((f : LinesFit limit s) → f.at ≡ line_at b) → Sees Ended (kept_entry b s) (Still limit)
kept_sees limit b s f at =
    sees_also (sees_lexeme (MayStand b) (λ t x h v m e. may_stand b t x h v e)) (λ t k.
    begin_or_sees limit (begun_by t) t.text s
    (λ l is. let q = begun_as (is_word t) (line_of t.text) l is in
    (q.1, word_written t k.written.0 q.0)) f
    (sees_nothing (λ n e. (keep_fits limit b t s k f at, e))))

-- ---- lists of names

count_most : {A : Type 0} (xs : List A) → count xs ≤ 1
count_most [] = omega arith
count_most (x ∷ xs) = omega arith

item_sees : (limit : ℕ) (k : Kind) (w : List ℕ) (s : Lines) → s.line ≡ Names k → IsName w
    → LinesFit limit s → Sees Ended (item k w s) (Still limit)
item_sees limit Storage w s is h f =
    sees_also (store_sees w h) (λ r g. sees_nothing (λ n e. (
      let some : 1 ≤ f.a = subst (λ (l : Line). Counts l f.a f.b f.c f.d) is f.named in
          let most = count_most (s.storage ++ r ∷ []) in
          record {
            idle = f.idle;
            at = f.at;
            kept = f.kept;
            same = f.same;
            rest = f.rest;
            lists = record {
              storage =
                  each-append StoreFits s.storage (r ∷ []) f.lists.storage (g, tt);
              sync = f.lists.sync;
              reads = f.lists.reads;
              writes = f.lists.writes;
            };
            a = f.a;
            b = f.b;
            c = f.c;
            d = f.d;
            named = f.named;
            storage = omega (arith, some, most);
            sync = f.sync;
            reads = f.reads;
            writes = f.writes;
            size = f.size;
          },
      e,
    )))
item_sees limit Sync w s is h f =
    sees_also (sync_name_sees w h) (λ r g. sees_nothing (λ n e. (
      let some : 1 ≤ f.b = subst (λ (l : Line). Counts l f.a f.b f.c f.d) is f.named in
          let most = count_most (s.sync ++ r ∷ []) in
          record {
            idle = f.idle;
            at = f.at;
            kept = f.kept;
            same = f.same;
            rest = f.rest;
            lists = record {
              storage = f.lists.storage;
              sync = each-append PlainFits s.sync (r ∷ []) f.lists.sync (g, tt);
              reads = f.lists.reads;
              writes = f.lists.writes;
            };
            a = f.a;
            b = f.b;
            c = f.c;
            d = f.d;
            named = f.named;
            storage = f.storage;
            sync = omega (arith, some, most);
            reads = f.reads;
            writes = f.writes;
            size = f.size;
          },
      e,
    )))
item_sees limit Reads w s is h f =
    sees_also (access_sees w h) (λ r g. sees_nothing (λ n e. (
      let some : 1 ≤ f.c = subst (λ (l : Line). Counts l f.a f.b f.c f.d) is f.named in
          let most = count_most (s.reads ++ r ∷ []) in
          record {
            idle = f.idle;
            at = f.at;
            kept = f.kept;
            same = f.same;
            rest = f.rest;
            lists = record {
              storage = f.lists.storage;
              sync = f.lists.sync;
              reads = each-append TouchedFits s.reads (r ∷ []) f.lists.reads (g, tt);
              writes = f.lists.writes;
            };
            a = f.a;
            b = f.b;
            c = f.c;
            d = f.d;
            named = f.named;
            storage = f.storage;
            sync = f.sync;
            reads = omega (arith, some, most);
            writes = f.writes;
            size = f.size;
          },
      e,
    )))
item_sees limit Writes w s is h f =
    sees_also (access_sees w h) (λ r g. sees_nothing (λ n e. (
      let some : 1 ≤ f.d = subst (λ (l : Line). Counts l f.a f.b f.c f.d) is f.named in
          let most = count_most (s.writes ++ r ∷ []) in
          record {
            idle = f.idle;
            at = f.at;
            kept = f.kept;
            same = f.same;
            rest = f.rest;
            lists = record {
              storage = f.lists.storage;
              sync = f.lists.sync;
              reads = f.lists.reads;
              writes = each-append TouchedFits s.writes (r ∷ []) f.lists.writes (g, tt);
            };
            a = f.a;
            b = f.b;
            c = f.c;
            d = f.d;
            named = f.named;
            storage = f.storage;
            sync = f.sync;
            reads = f.reads;
            writes = omega (arith, some, most);
            size = f.size;
          },
      e,
    )))

named_sees : {F : Option Token → Type 0} (limit : ℕ) (k : Kind) (s : Lines) → s.line ≡ Names k
    → LinesFit limit s → Sees F (named k s) (Still limit)
named_sees limit k s is f =
    sees_also name_sees (λ w h.
    begin_or_sees limit (line_of w) w s (λ l e. (e, a_name w h)) f (item_sees limit k w s is h f))

in_sees : (limit : ℕ) (l : Line) (s : Lines) → s.line ≡ l → LinesFit limit s
    → Sees Ended (entry_in l s) (Still limit)
in_sees limit Start s is f = first_sees limit s f
in_sees limit Tokens s is f =
    kept_sees limit false s f (λ g. subst (λ (l : Line). IsAt l g.at) is g.same)
in_sees limit Word s is f =
    kept_sees limit true s f (λ g. subst (λ (l : Line). IsAt l g.at) is g.same)
in_sees limit (Names k) s is f = named_sees limit k s is f

pub lines_see : {F : Option Token → Type 0} (left : ℕ)
    → Sees F (lines left) (λ s n. LinesFit left s × Ended n)
lines_see left =
    sees_also sees_skipped (λ u p.
    sees_also {Q = λ s. LinesFit left s} {G = λ s n. Unit {0}}
    (sees_from {G = Still left (no_lines left)}
    (weaker_sees (sees_loop {test = is_inside} (Still left)
    (λ s. sees_given (LinesFit left s) (λ n f. f.0.0)
    (λ f. sees_from (in_sees left s.line s refl f) (λ n g. g.0.1)))) (λ s n h. (h.0.0, tt)))
    (λ n e. (no_lines_fit left, e))) (λ s f.
    sees_also sees_skipped (λ v q. sees_nothing (λ n e. (f, e)))))
