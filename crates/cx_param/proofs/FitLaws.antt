-- What holds of all declarations that the tokens of a text spell.
use Rattle.std.proofs.Common.{inl, inr, ◌≡◌, ◌≤◌, ◌<◌, ◌+◌, ◌-◌, ◌^◌, ℕ, zero, suc, nat_eq, ltb, Bool, true, false, cond, not, ◌||◌, List, [], ◌∷◌, ◌++◌, length, map, codes, ℤ, pos, neg_ℤ, Option, Some, None, is_some, refl, sym, ap, subst, ◌∙◌, append_assoc, arith}
use Rattle.std.specs.List.{AllByRecursion}
use Rattle.std.specs.Str.{bytes_eq}
use Rattle.std.proofs.lemmas.Bool.{eqb-false, ltb-false, or_parts}
use Rattle.std.proofs.lemmas.List.{append-nil, length-append}
use Rattle.cx_text.specs.declared.token.Token.{Token}
use Rattle.cx_text.specs.declared.token.Style.TheVariants.{Ccl}
use Rattle.cx_text.specs.declared.stop.Mark.{Mark}
use Rattle.cx_text.specs.declared.stop.Mark.TheVariants.{Limit, BadNumber}
use Rattle.cx_text.specs.Tokens.{is_line_end}
use Rattle.cx_text.specs.Grammar.{Item, tokens}
use Rattle.cx_text.specs.Grammar as grammar
use Rattle.cx_text.specs.Printing.{spelling}
use Rattle.cx_text.specs.Rules.{last, sign, sign_here, line_ends, line_end, keyword}
use Rattle.cx_text.specs.Lexemes.{first_mark, decimal_from, number_of, number_in, is_number, quoted, is_inside, kept, more_kept, kept_while, in_line}
use Rattle.cx_text.proofs.PrintLaws.{Printable, AllPrintable, printable_kept}
use Rattle.cx_text.proofs.WrittenLaws.{printable_name}
use Rattle.cx_text.proofs.Holds.{Holds, Unmarked, NamesAre, holds_any, holds_token, holds_lexeme, holds_also, holds_nothing, holds_choice, holds_loop, weaker_holds, name_holds, counted_holds, name_is_short, each-append}
use Rattle.cx_param.specs.declared.declarations.PType.{PType}
use Rattle.cx_param.specs.declared.declarations.PType.TheVariants.{Boolean, Int, Keyword, String, Real}
use Rattle.cx_param.specs.declared.declarations.Scope.{Scope}
use Rattle.cx_param.specs.declared.declarations.Scope.TheVariants as scopes
use Rattle.cx_param.specs.declared.declarations.ParamDecl.{ParamDecl}
use Rattle.cx_param.specs.declared.ranges.Range.{Range}
use Rattle.cx_param.specs.declared.ranges.Range.TheVariants.{Word, AnyText, SomeText}
use Rattle.cx_param.specs.declared.blocks.Span.{Span}
use Rattle.cx_param.specs.declared.params.Access.{Access}
use Rattle.cx_param.specs.declared.params.Access.TheVariants.{Private, Restricted, Global, Shares}
use Rattle.cx_param.specs.declared.params.Read.{Read}
use Rattle.cx_param.specs.Numbers.{number, step}
use Rattle.cx_param.specs.Blocks.{description, Open, opened, begun, one_or, range_of, bracket, close_bracket, end, bound, closing, closed, ended, upper, stepped, next_span, further, uppers, behind_low, ints, number_range, text_range, one_text, texts, number_block, or_any, text_block, kept_block, block}
use Rattle.cx_param.specs.Headings.{ptype, counted_ptype, length_of, comment, alias_of, steering, heading}
use Rattle.cx_param.specs.Defaults.{plain_default, printed_of, printed, more_printed, real_default, default_of, unused_default}
use Rattle.cx_param.specs.Params.{decl, shared_scope, shared_ranges, shared, declared, section, access_line, opening, declaring, entry, params}
use Rattle.cx_param.proofs.NumberAgain.{IntFits, negative_fits}
use Rattle.cx_param.proofs.TokenLaws.{InLine, Calm}
use Rattle.cx_param.proofs.RangeAgain.{BoundFits, RangeFits, NumbersFit}
use Rattle.cx_param.proofs.BlockAgain.{TextFits, InsideFits, TextsFit, KeptFits, BlockFits}
use Rattle.cx_param.proofs.HeadingAgain.{LengthFits}
use Rattle.cx_param.proofs.DefaultAgain.{joined, joined-push, RealFits, DefaultFits}
use Rattle.cx_param.proofs.DeclAgain.{IsName, IsAlias, HeadFits, IsOwn, IsForeign, SharedFits, DeclFits}
use Rattle.cx_param.proofs.Fair.{fair_front, Keeps, of_each, keeps_any, keeps_nothing, keeps_also, keeps_choice, keeps_loop}

-- what a printable token is, and nothing more
abbrev Fine : Token → Type 0
Fine = Printable Ccl

-- ---- tokens

some_at : {A : Type 0} (b : Bool) (v x : A) → cond b (Some v) None ≡ Some x → (b ≡ true) × (v ≡ x)
some_at true v x e = (refl, cc)
some_at false v x e = absurd cc

no_mark : (b : Bool) (m : Mark) (other : Option Mark) → first_mark b m other ≡ None
    → (b ≡ false) × (other ≡ None)
no_mark true m other e = absurd cc
no_mark false m other e = (refl, e)

number_is : (low high : ℕ) (t : Token) (x : ℕ) → number_of t ≡ Some x
    → first_mark (ltb (decimal_from 0 t.text) low || ltb high (decimal_from 0 t.text))
    BadNumber None ≡ None → (low ≤ x) × (x ≤ high)
number_is low high t x v m =
    let k = or_parts (ltb (decimal_from 0 t.text) low) (ltb high (decimal_from 0 t.text))
    (no_mark _ BadNumber None m).0 in
    let same = (some_at (is_number t) (decimal_from 0 t.text) x v).1 in
    subst (λ (n : ℕ). (low ≤ n) × (n ≤ high)) same
    (ltb-false (decimal_from 0 t.text) low k.0, ltb-false high (decimal_from 0 t.text) k.1)

number_in_holds : {T : Token → Type 0} (low high : ℕ)
    → Holds T (number_in low high) (λ n x. (low ≤ x) × (x ≤ high))
number_in_holds low high = holds_lexeme (λ t x h v m. number_is low high t x v m)

positive_is : (t : Token) (x : ℤ)
    → cond (is_number t) (Some (pos (decimal_from 0 t.text))) None ≡ Some x
    → first_mark (ltb (2 ^ 63 - 1) (decimal_from 0 t.text)) BadNumber None ≡ None → IntFits x
positive_is t x v m = subst IntFits (some_at (is_number t) (pos (decimal_from 0 t.text)) x v).1
    (ltb-false (2 ^ 63 - 1) (decimal_from 0 t.text) (no_mark _ BadNumber None m).0)

negative_is : (t : Token) (x : ℤ)
    → cond (is_number t) (Some (neg_ℤ (pos (decimal_from 0 t.text)))) None ≡ Some x
    → first_mark (ltb (2 ^ 63) (decimal_from 0 t.text)) BadNumber None ≡ None → IntFits x
negative_is t x v m = subst IntFits
    (some_at (is_number t) (neg_ℤ (pos (decimal_from 0 t.text))) x v).1
    (negative_fits (decimal_from 0 t.text)
    (ltb-false (2 ^ 63) (decimal_from 0 t.text) (no_mark _ BadNumber None m).0))

number_holds : {T : Token → Type 0} → Holds T number (λ n z. IntFits z)
number_holds =
    holds_choice (holds_also (holds_any (sign 45))
    (λ n u p. holds_lexeme (λ t x h v m e. negative_is t x v m)))
    (holds_lexeme (λ t x h v m e. positive_is t x v m))

-- a step, which counts from a low end
abbrev StepFits : Option ℤ → Option ℕ → Type 0
StepFits low None = Unit {0}
StepFits low (Some n) = (is_some low ≡ true) × ((1 ≤ n) × (n ≤ 2 ^ 64 - 1))

is_there : (b : Bool) → not b ≡ false → b ≡ true
is_there true e = refl
is_there false e = absurd cc

step_holds : {T : Token → Type 0} (low : Option ℤ)
    → Holds T (step low) (λ n x. (is_some low ≡ true) × ((1 ≤ x) × (x ≤ 2 ^ 64 - 1)))
step_holds low = holds_lexeme
    (λ t x h v m. let k = no_mark (not (is_some low)) BadNumber _ m in
    (is_there (is_some low) k.0, number_is 1 (2 ^ 64 - 1) t x v k.1))

-- ---- ranges of numbers

end_holds : {T : Token → Type 0} → Holds T end (λ n b. BoundFits b)
end_holds =
    holds_choice (holds_also (holds_any (sign 42)) (λ n u p. holds_nothing (λ m e. tt)))
    (holds_also number_holds (λ n z f. holds_nothing (λ m e. f)))

bound_holds : {T : Token → Type 0} → Holds T bound (λ n b. BoundFits b)
bound_holds = holds_choice (weaker_holds end_holds (λ n b f e. f)) (holds_nothing (λ n e. tt))

record SpanFits (s : Span) : Type 0 where
  low : BoundFits s.low
  high : BoundFits s.high
  step : StepFits s.low s.step

record OpenFits (o : Open) : Type 0 where
  ranges : AllByRecursion NumbersFit o.ranges
  span : SpanFits o.span

span_range : (low high : Option ℤ) (s : Option ℕ) → BoundFits low → BoundFits high → StepFits low s
    → RangeFits low high (one_or s)
span_range low high None f g k =
    record { low = f; high = g; least = omega arith; most = omega arith; counts = λ e. absurd cc }
span_range low high (Some n) f g k =
    record { low = f; high = g; least = k.1.0; most = k.1.1; counts = λ e. k.0 }

ended_fits : (o : Open) (high_in : Bool) → OpenFits o → AllByRecursion NumbersFit (ended o high_in)
ended_fits o high_in f =
    each-append NumbersFit o.ranges (range_of (record o.span { high_in = high_in }) ∷ []) f.ranges
    (span_range o.span.low o.span.high o.span.step f.span.low f.span.high f.span.step, tt)

closed_holds : {T : Token → Type 0} (o : Open) → OpenFits o
    → Holds T (closed o) (λ n rs. AllByRecursion NumbersFit rs)
closed_holds o f = holds_also (holds_any closing) (λ n i p. holds_nothing (λ m. ended_fits o i f))

upper_holds : {T : Token → Type 0} (o : Open) → OpenFits o → Holds T (upper o) (λ n p. OpenFits p)
upper_holds o f =
    holds_also (holds_any (sign 58)) (λ n u p.
    holds_also bound_holds (λ m b g.
    holds_nothing
    (λ k. record {
      ranges = f.ranges;
      span = record { low = f.span.low; high = g; step = f.span.step };
    })))

stepped_holds : {T : Token → Type 0} (o : Open) → OpenFits o
    → Holds T (stepped o) (λ n p. OpenFits p)
stepped_holds o f = holds_also (step_holds o.span.low)
    (λ n x g. holds_nothing
    (λ k. record {
      ranges = f.ranges;
      span = record { low = f.span.low; high = f.span.high; step = g };
    }))

next_holds : {T : Token → Type 0} (o : Open) → OpenFits o
    → Holds T (next_span o) (λ n p. OpenFits p)
next_holds o f = holds_also bound_holds
    (λ n b g. holds_nothing
    (λ k. record {
      ranges = ended_fits o o.span.high_in f;
      span = record { low = tt; high = g; step = tt };
    }))

further_holds : {T : Token → Type 0} (o : Open) → OpenFits o
    → Holds T (further o) (λ n p. OpenFits p)
further_holds o f = holds_also (holds_any (sign 58))
    (λ n u p. weaker_holds (holds_choice (weaker_holds (stepped_holds o f) (λ m q g e. g))
    (weaker_holds (next_holds o f) (λ m q g e. g))) (λ m q g. g))

uppers_holds : {T : Token → Type 0} (o : Open) → OpenFits o → Holds T (uppers o) (λ n p. OpenFits p)
uppers_holds o f = holds_also (upper_holds o f)
    (λ n p g. weaker_holds (holds_loop OpenFits further_holds g) (λ m q k. k))

behind_low_holds : {T : Token → Type 0} (o : Open) → OpenFits o
    → Holds T (behind_low o) (λ n rs. AllByRecursion NumbersFit rs)
behind_low_holds o f = holds_also
    (holds_choice (weaker_holds (uppers_holds o f) (λ n p g e. g)) (holds_nothing (λ n e. f)))
    (λ n p g. closed_holds p g)

begun_fits : (rs : List Range) (low : Option ℤ) (low_in : Bool) → AllByRecursion NumbersFit rs
    → BoundFits low → OpenFits (opened rs (begun low low_in))
begun_fits rs low low_in h f = record { ranges = h; span = record { low = f; high = f; step = tt } }

ints_holds : {T : Token → Type 0} (rs : List Range) → AllByRecursion NumbersFit rs
    → Holds T (ints rs) (λ n qs. AllByRecursion NumbersFit qs)
ints_holds rs h =
    holds_choice (holds_also (holds_any bracket)
    (λ n i p. holds_also bound_holds
    (λ m b f. weaker_holds (behind_low_holds (opened rs (begun b i)) (begun_fits rs b i h f))
    (λ k qs g e. g))))
    (weaker_holds (holds_choice
    (holds_also (uppers_holds (opened rs (begun None true)) (begun_fits rs None true h tt))
    (λ n p f. weaker_holds (closed_holds p f) (λ m qs g e. g)))
    (weaker_holds (holds_choice
    (holds_also (holds_any close_bracket)
    (λ n i p. holds_nothing
    (λ m e. ended_fits (opened rs (begun None true)) i (begun_fits rs None true h tt))))
    (holds_also end_holds (λ n b f.
    weaker_holds (behind_low_holds (opened rs (begun b true)) (begun_fits rs b true h f))
    (λ m qs g e. g)))) (λ n qs g e. g))) (λ n qs g e. g))

number_range_holds : {T : Token → Type 0} (rs : List Range) → AllByRecursion NumbersFit rs
    → Holds T (number_range rs) (λ n qs. AllByRecursion NumbersFit qs)
number_range_holds rs h =
    holds_also (ints_holds rs h)
    (λ n qs f. holds_also (holds_any description) (λ m u p. holds_nothing (λ k. f)))

number_block_holds : {T : Token → Type 0}
    → Holds T number_block (λ n rs. AllByRecursion NumbersFit rs)
number_block_holds =
    holds_also (holds_any (sign 123)) (λ n u p.
    holds_also (holds_loop (AllByRecursion NumbersFit) number_range_holds tt) (λ m rs f.
    holds_also (holds_any (sign 125)) (λ k v q.
    holds_nothing (λ j. f))))

-- ---- ranges of texts

string_fits : (a b : Bool) (t : List ℕ) → (bytes_eq t [] || bytes_eq t (codes ".*")) ≡ a
    → bytes_eq t (codes ".+") ≡ b → TextFits String (cond a AnyText (cond b SomeText (Word t)))
string_fits true b t e f = (codes ".*", refl, refl)
string_fits false true t e f = (codes ".+", refl, refl)
string_fits false false t e f = (t, refl, rw (e, f) refl)

text_fits : (p : PType) (t : List ℕ) → TextFits p (text_range p t)
text_fits String t = string_fits _ _ t refl refl
text_fits Boolean t = (t, refl, refl)
text_fits Int t = (t, refl, refl)
text_fits Keyword t = (t, refl, refl)
text_fits Real t = (t, refl, refl)

one_text_holds : {T : Token → Type 0} (p : PType) (rs : List Range) → AllByRecursion (TextFits p) rs
    → Holds T (one_text p rs) (λ n qs. AllByRecursion (TextFits p) qs)
one_text_holds p rs h = holds_also (holds_any quoted)
    (λ n t q. holds_nothing
    (λ m. each-append (TextFits p) rs (text_range p t ∷ []) h (text_fits p t, tt)))

texts_holds : {T : Token → Type 0} (p : PType) (rs : List Range) → AllByRecursion (TextFits p) rs
    → Holds T (texts p rs) (λ n qs. AllByRecursion (TextFits p) qs)
texts_holds p rs h =
    holds_also (one_text_holds p rs h) (λ n ss f.
    holds_also (holds_loop (AllByRecursion (TextFits p))
    (λ qs g. holds_also (holds_any (sign 44))
    (λ m u q. weaker_holds (one_text_holds p qs g) (λ k xs w. w))) f) (λ m qs g.
    holds_also (holds_any description) (λ k u q.
    holds_nothing (λ j. g))))

texts_fit : (p : PType) (rs : List Range) → AllByRecursion (TextFits p) rs
    → TextsFit p (or_any p rs)
texts_fit String [] h = record { each = ((codes ".*", refl, refl), tt); whole = refl }
texts_fit String (r ∷ rs) h = record { each = h; whole = refl }
texts_fit Boolean rs h = record { each = h; whole = refl }
texts_fit Int rs h = record { each = h; whole = refl }
texts_fit Keyword rs h = record { each = h; whole = refl }
texts_fit Real rs h = record { each = h; whole = refl }

text_block_holds : {T : Token → Type 0} (p : PType) → Holds T (text_block p) (λ n rs. TextsFit p rs)
text_block_holds p =
    holds_also (holds_any (sign 123)) (λ n u q.
    holds_also (holds_loop (AllByRecursion (TextFits p)) (texts_holds p) tt) (λ m rs f.
    holds_also (holds_any (sign 125)) (λ k v w.
    holds_nothing (λ j. texts_fit p rs f))))

-- ---- tokens that are kept

abbrev IsInside : Token → Type 0
IsInside t = is_inside t ≡ true

record KeptAs (old new : List Token) (ms : List Item) : Type 0 where
  is : new ≡ old ++ map kept (tokens ms)
  each : AllByRecursion IsInside (tokens ms)

kept_many : (c : List Token) (cs : List (List Token)) (ms : List Item) (next : Option Token)
    → grammar.many is_inside (λ d. (more_kept is_inside d).derives) (λ d x. x) c cs ms next
    → KeptAs c (last c cs) ms
kept_many c [] ms next d =
    subst (KeptAs c c) (sym d.1) (record { is = sym (append-nil c); each = tt })
kept_many c (x ∷ cs) ms next d =
    let one = d.4 in
    let tok = one.4.0 in
    let k = some_at (is_inside tok) (kept tok) one.0 one.4.1 in
    let front : d.1 ≡ (tok, None) ∷ [] = one.3 ∙ rw (one.4.2, one.5.1) refl in
    let parts : ms ≡ (tok, None) ∷ d.2 = d.3 ∙ ap (λ (is : List Item). is ++ d.2) front in
    let added : x ≡ c ++ kept tok ∷ [] = one.5.0 ∙ ap (λ (t : Token). c ++ t ∷ []) (sym k.1) in
    let more = kept_many x cs d.2 next d.5 in
    subst (KeptAs c (last x cs)) (sym parts) (record {
      is = more.is ∙ ap (λ (ts : List Token). ts ++ map kept (tokens d.2)) added
          ∙ append_assoc c (kept tok ∷ []) (map kept (tokens d.2));
      each = (k.0, more.each);
    })

record KeptTokens (ts : List Token) : Type 0 where
  each : AllByRecursion InsideFits ts
  printable : AllPrintable Ccl ts
  calm : Calm false ts

inside_kept : (ts : List Token) → AllByRecursion IsInside ts
    → AllByRecursion InsideFits (map kept ts)
inside_kept [] h = tt
inside_kept (t ∷ ts) h = ((h.0, refl), inside_kept ts h.1)

printable_items : (ms : List Item) → Unmarked Fine ms → AllPrintable Ccl (map kept (tokens ms))
printable_items [] h = tt
printable_items (m ∷ ms) h = (printable_kept h.1, printable_items ms h.2)

calm_kept : (ts : List Token) (before : Bool) → Calm before ts → Calm before (map kept ts)
calm_kept [] before h = tt
calm_kept (t ∷ ts) before h = (h.0, calm_kept ts (is_line_end t) h.1)

kept_while_keeps : Keeps (kept_while is_inside) KeptTokens
kept_while_keeps = record {
  law = λ x ms next d f.
      let k = kept_many [] d.0 d.1 _ d.4 in
      let fair = fair_front ms d.1 d.2 d.3 f in
      let is : map kept (tokens d.1) ≡ x = sym k.is ∙ sym d.5.0 in
      subst KeptTokens is
      (record {
        each = inside_kept (tokens d.1) k.each;
        printable = printable_items d.1 fair.each;
        calm = calm_kept (tokens d.1) false fair.calm;
      });
}

kept_block_keeps : Keeps kept_block KeptFits
kept_block_keeps =
    keeps_also (keeps_any (sign_here 123)) (λ u p.
    keeps_also kept_while_keeps (λ ts f.
    keeps_also (keeps_any (sign 125)) (λ v q.
    keeps_nothing
    (record {
      tokens = ts;
      is = refl;
      each = f.each;
      printable = f.printable;
      calm = f.calm;
    }))))

block_keeps : (p : PType) → Keeps (block p) (BlockFits p)
block_keeps Int = of_each number_block_holds
block_keeps Real = kept_block_keeps
block_keeps Boolean = of_each (text_block_holds Boolean)
block_keeps Keyword = of_each (text_block_holds Keyword)
block_keeps String = of_each (text_block_holds String)

-- ---- defaults

line_stays : (b : Bool) → not b ≡ true → b ≡ false
line_stays true e = absurd cc
line_stays false e = refl

-- a token, as it is written
abbrev Written : Token → List ℕ → Type 0
Written t text = (text ≡ spelling t.kind t.text) × InLine t

written_as : (t : Token) (x : List ℕ) → Fine t → printed_of t ≡ Some x → Written (kept t) x
written_as t x h v =
    let k = some_at (in_line t) (spelling t.kind t.text) x v in (
      sym k.1,
      record {
        stays = line_stays (is_line_end t) k.0;
        same = refl;
        printable = printable_kept h;
      },
    )

printed_holds : Holds Fine printed (λ n x. (t : Token) × Written t x)
printed_holds = holds_token (λ t x h v m. (kept t, written_as t x h v))

record More (first : Token) (text : List ℕ) : Type 0 where
  more : List Token
  is : text ≡ joined (spelling first.kind first.text) more
  each : AllByRecursion InLine more

more_holds : (first : Token) (text : List ℕ) → More first text
    → Holds Fine (more_printed text) (λ n x. More first x)
more_holds first text g =
    holds_also printed_holds (λ n x q.
    holds_nothing (λ k. record {
      more = g.more ++ q.0 ∷ [];
      is = ap (λ (y : List ℕ). y ++ 32 ∷ x) g.is
          ∙ ap (λ (y : List ℕ). joined (spelling first.kind first.text) g.more ++ 32 ∷ y) q.1.0
          ∙ sym (joined-push (spelling first.kind first.text) g.more q.0);
      each = each-append InLine g.more (q.0 ∷ []) g.each (q.1.1, tt);
    }))

real_holds : Holds Fine real_default (λ n text. RealFits text)
real_holds =
    holds_also printed_holds (λ n x q.
    holds_also (holds_loop (More q.0) (more_holds q.0)
    (record { more = []; is = q.1.0; each = tt })) (λ m text g.
    holds_also (holds_any line_end) (λ k u p.
    holds_nothing (λ j. record {
      first = q.0;
      more = g.more;
      is = g.is;
      fits = q.1.1;
      each = g.each;
    }))))

default_holds : (p : PType) → Holds Fine (default_of p) (λ n text. DefaultFits p text)
default_holds Real = real_holds
default_holds Boolean = holds_any plain_default
default_holds Int = holds_any plain_default
default_holds Keyword = holds_any plain_default
default_holds String = holds_any plain_default

-- ---- heads

names : NamesAre Fine IsName
names t n p v m = (name_is_short t n v m, printable_name Ccl t n p v)

length_holds : Holds Fine length_of (λ n l. LengthFits l)
length_holds =
    holds_choice (holds_also (holds_any (sign 91))
    (λ n u p. holds_also (number_in_holds 1 1024)
    (λ m x f. holds_also (holds_any (sign 93)) (λ k v q. holds_nothing (λ j e. f)))))
    (holds_nothing (λ n e. tt))

alias_holds : Holds Fine alias_of (λ n a. IsAlias a)
alias_holds =
    holds_choice (holds_also (holds_any (keyword (codes "AS")))
    (λ n u p. holds_also (name_holds IsName names) (λ m x f. holds_nothing (λ j e. f))))
    (holds_nothing (λ n e. tt))

heading_holds : Holds Fine heading (λ n h. HeadFits h.name h.length h.alias)
heading_holds =
    holds_also (name_holds IsName names) (λ n x f.
    holds_also length_holds (λ m l g.
    holds_also (holds_any comment) (λ k u p.
    holds_also alias_holds (λ j a h.
    holds_also (holds_any steering) (λ i s q.
    holds_nothing (λ r. record { named = f; counted = g; other = h }))))))

-- ---- declarations

counted_ptype_holds : {T : Token → Type 0} (full : Bool)
    → Holds T (counted_ptype full) (λ n p. full ≡ false)
counted_ptype_holds full = holds_lexeme (λ t x h v m. (no_mark full Limit None m).0)

abbrev Declares : Bool → ParamDecl → Type 0
Declares full d = DeclFits d × (full ≡ false)

decl_keeps : (s : Scope) (full : Bool) → IsOwn s → Keeps (decl s full) (Declares full)
decl_keeps s full own =
    keeps_also (of_each (counted_ptype_holds full)) (λ p open_.
    keeps_also (of_each heading_holds) (λ h f.
    keeps_also (block_keeps p) (λ rs g.
    keeps_also (of_each (default_holds p)) (λ t k.
    keeps_nothing (
      inl (record { scope = own; head = f; block = g; text = t; is = refl; fits = k }),
      open_,
    )))))

shared_scope_holds : (n : List ℕ) (full : Bool) → IsName n
    → Holds Fine (shared_scope n full) (λ m s. IsForeign s × (full ≡ false))
shared_scope_holds n full h =
    holds_choice (holds_also (counted_holds (codes "USES") full)
    (λ m u f. holds_nothing (λ k e. (h, f))))
    (holds_also (counted_holds (codes "EXTENDS") full) (λ m u f. holds_nothing (λ k e. (h, f))))

block_shared : (p : PType) (rs : List Range) → BlockFits p rs → SharedFits p rs
block_shared p [] f = tt
block_shared p (r ∷ rs) f = f

shared_ranges_keeps : (p : PType) → Keeps (shared_ranges p) (SharedFits p)
shared_ranges_keeps p = keeps_choice
    (keeps_also (block_keeps p)
    (λ rs f. keeps_also (keeps_any unused_default) (λ u q. keeps_nothing (block_shared p rs f))))
    (keeps_nothing tt)

shared_keeps : (n : List ℕ) (full : Bool) → IsName n → Keeps (shared n full) (Declares full)
shared_keeps n full name =
    keeps_also (of_each (shared_scope_holds n full name)) (λ s open_.
    keeps_also (keeps_any ptype) (λ p q.
    keeps_also (of_each heading_holds) (λ h f.
    keeps_also (shared_ranges_keeps p) (λ rs g.
    keeps_nothing (inr (record { scope = open_.0; head = f; ranges = g; is = refl }), open_.1)))))

abbrev AccessFits : Access → Type 0
AccessFits (Shares n) = IsName n
AccessFits Private = Unit {0}
AccessFits Restricted = Unit {0}
AccessFits Global = Unit {0}

declared_keeps : (a : Access) (full : Bool) → AccessFits a → Keeps (declared a full) (Declares full)
declared_keeps (Shares n) full h = shared_keeps n full h
declared_keeps Private full h = decl_keeps scopes.Private full tt
declared_keeps Restricted full h = decl_keeps scopes.Restricted full tt
declared_keeps Global full h = decl_keeps scopes.Global full tt

section_keeps : (n : List ℕ) (a : Access) → AccessFits a → Keeps (section n a) AccessFits
section_keeps n a h = keeps_also (keeps_any (keyword n))
    (λ u p. keeps_also (keeps_any (sign 58)) (λ v q. keeps_nothing h))

access_keeps : Keeps access_line AccessFits
access_keeps =
    keeps_choice (section_keeps (codes "PRIVATE") Private tt)
    (keeps_choice (section_keeps (codes "RESTRICTED") Restricted tt)
    (keeps_choice (section_keeps (codes "GLOBAL") Global tt)
    (keeps_also (keeps_any (keyword (codes "SHARES")))
    (λ u p. keeps_also (keeps_any (sign 58))
    (λ v q. keeps_also (of_each (name_holds IsName names)) (λ n f. keeps_nothing f))))))

-- ---- the file

-- of the declarations so far, and of how many may still stand
record Kept (s : Read) : Type 0 where
  access : AccessFits s.access
  decls : AllByRecursion DeclFits s.decls
  lines : s.left + length s.decls ≤ 4096

open_left : (left : ℕ) → nat_eq left 0 ≡ false → 0 < left
open_left zero h = absurd (eqb-false zero zero h refl)
open_left (suc n) h = omega arith

opening_keeps : (s : Read) → Kept s → Keeps (opening s) Kept
opening_keeps s k = keeps_also access_keeps
    (λ a f. keeps_nothing (record { access = f; decls = k.decls; lines = k.lines }))

declaring_keeps : (s : Read) → Kept s → Keeps (declaring s) Kept
declaring_keeps s k =
    keeps_also (declared_keeps s.access (nat_eq s.left 0) k.access) (λ d f.
    keeps_nothing (record {
      access = k.access;
      decls = each-append DeclFits s.decls (d ∷ []) k.decls (f.0, tt);
      lines = let l = k.lines in let o = open_left s.left f.1 in
          let e = length-append s.decls (d ∷ []) in omega (arith, l, o, e);
    }))

entry_keeps : (s : Read) → Kept s → Keeps (entry s) Kept
entry_keeps s k = keeps_choice (opening_keeps s k) (declaring_keeps s k)

pub params_keeps : Keeps params (λ ds. AllByRecursion DeclFits ds × (length ds ≤ 4096))
params_keeps =
    keeps_also (keeps_any line_ends) (λ u p.
    keeps_also (keeps_loop Kept entry_keeps
    (record { access = tt; decls = tt; lines = omega arith })) (λ s k.
    keeps_nothing (k.decls, let l = k.lines in omega (arith, l))))
