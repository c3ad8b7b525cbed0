-- The attributes that some tokens spell are read again from the tokens that are kept of them.
use Rattle.std.proofs.Common.{◌≡◌, ◌≤◌, ℕ, ltb, Bool, true, false, cond, ◌||◌, ◌&&◌, List, [], ◌∷◌, ◌++◌, map, Option, Some, None, Ok, refl, sym, ap, subst, ◌∙◌, append_assoc}
use Rattle.std.specs.Prelude.{codes, is_some}
use Rattle.std.specs.Str.{bytes_eq}
use Rattle.std.specs.Char.{to_ascii_lowercase}
use Rattle.std.proofs.lemmas.List.{append-nil, map-append}
use Rattle.std.proofs.lemmas.Bool.{ltb-false}
use Rattle.std.proofs.lemmas.Slice.Eq.{bytes_eq-Decides}
use Rattle.cx_text.specs.declared.token.Kind.{Kind}
use Rattle.cx_text.specs.declared.token.Kind.TheVariants as kinds
use Rattle.cx_text.specs.declared.stop.Mark.{Mark}
use Rattle.cx_text.specs.declared.stop.Mark.TheVariants.{Repeated, BadNumber}
use Rattle.cx_text.specs.declared.token.Token.{Token}
use Rattle.cx_text.specs.Tokens.{is_word, is_line_end, is_word_kind, is_line_end_kind}
use Rattle.cx_text.specs.Grammar.{head, passes}
use Rattle.cx_text.specs.Reading.{go_on}
use Rattle.cx_text.specs.Rules.{Rule, loop, choice, unmarked, lexeme, sign, is_named, is_sign, is_sign_kind}
use Rattle.cx_text.specs.Lexemes.{first_mark, is_quoted, is_quoted_kind, is_number_kind, kept, kept_if, once, number_in, number_of, number_mark, decimal_from, is_number}
use Rattle.cx_text.proofs.Printing.{loop_step, loop_stop, no_skip}
use Rattle.cx_text.proofs.LexemeLaws.{or_left, or_right}
use Rattle.cx_text.proofs.Holds.{Holds, holds_any, holds_also, holds_nothing, holds_choice, holds_loop, holds_lexeme, weaker_holds}
use Rattle.cx_iface.specs.declared.tree.GType.{GType}
use Rattle.cx_iface.specs.declared.attributes.Attributes.{Attributes}
use Rattle.cx_iface.specs.Words.{TYPE, DIM, TIMELEVELS, DISTRIB, SIZE, GHOSTSIZE, TAGS, gtype_of}
use Rattle.cx_iface.specs.Attributes.{no_attributes, type_, dim, levels, keep, keep_once, is_distribution, is_size, more_sizes, sizes, distrib, size, ghostsize, tags, has_effect, has_none, is_attribute, effective, idle, attribute}
use Rattle.cx_iface.proofs.AttributeLaws.{more_sizes_short, attribute_short}
use Rattle.cx_iface.proofs.PrintLaws.{Follows, given, idle_of, RestAgain}

abbrev pub Every : Token → Type 0
Every t = Unit {0}

-- ---- words

pub both : (a b : Bool) → (a && b) ≡ true → (a ≡ true) × (b ≡ true)
both true b h = (refl, h)
both false b h = absurd cc

pub named_is : (name : List ℕ) (t : Token) → is_named name t ≡ true
    → (is_word t ≡ true) × (map to_ascii_lowercase t.text ≡ map to_ascii_lowercase name)
named_is name t h =
    let p = both (is_word t)
    (bytes_eq (map to_ascii_lowercase t.text) (map to_ascii_lowercase name)) h in
    (p.0, (bytes_eq-Decides (map to_ascii_lowercase t.text) (map to_ascii_lowercase name)).0 p.1)

other_name : (a b : List ℕ) (t : Token) → is_named a t ≡ true
    → bytes_eq (map to_ascii_lowercase a) (map to_ascii_lowercase b) ≡ false → is_named b t ≡ false
other_name a b t h e =
    let n = named_is a t h in
    ap (λ (w : Bool). w && bytes_eq (map to_ascii_lowercase t.text) (map to_ascii_lowercase b)) n.0
    ∙ ap (λ (text : List ℕ). bytes_eq text (map to_ascii_lowercase b)) n.1
    ∙ e

pub ends_no_line : (k : Kind) → is_word_kind k ≡ true → is_line_end_kind k ≡ false
ends_no_line kinds.Word h = refl
ends_no_line kinds.Number h = refl
ends_no_line kinds.Quoted h = refl
ends_no_line kinds.Sign h = refl
ends_no_line kinds.LineEnd h = absurd cc

no_sign : (k : Kind) → is_word_kind k ≡ true → is_sign_kind k ≡ false
no_sign kinds.Word h = refl
no_sign kinds.Number h = refl
no_sign kinds.Quoted h = refl
no_sign kinds.Sign h = absurd cc
no_sign kinds.LineEnd h = refl

sign_stays : (k : Kind) → is_sign_kind k ≡ true → is_line_end_kind k ≡ false
sign_stays kinds.Word h = refl
sign_stays kinds.Number h = refl
sign_stays kinds.Quoted h = refl
sign_stays kinds.Sign h = refl
sign_stays kinds.LineEnd h = absurd cc

pub sign_ended : (b : ℕ) (t : Token) → is_sign b t ≡ true → is_line_end t ≡ false
sign_ended b t h = sign_stays t.kind (both (is_sign_kind t.kind) (bytes_eq t.text (b ∷ [])) h).0

named_follows : (name : List ℕ) (t : Token) (us : List Token) → is_named name t ≡ true
    → Follows (kept t ∷ us)
named_follows name t us h =
    let n = named_is name t h in (
      ends_no_line t.kind n.0,
      ap (λ (s : Bool). s && bytes_eq t.text (44 ∷ [])) (no_sign t.kind n.0),
    )

or3 : (a b c : Bool) → a ≡ false → b ≡ false → c ≡ false → (a || b || c) ≡ false
or3 a b c p q r = rw (p, q, r) refl

or_lt : (a b : Bool) → a ≡ true → (a || b) ≡ true
or_lt a b p = rw p refl

or_rt : (a b : Bool) → b ≡ true → (a || b) ≡ true
or_rt true b p = refl
or_rt false b p = p

no_effect : (name : List ℕ) (t : Token) → is_named name t ≡ true
    → bytes_eq (map to_ascii_lowercase name) (map to_ascii_lowercase TYPE) ≡ false
    → bytes_eq (map to_ascii_lowercase name) (map to_ascii_lowercase DIM) ≡ false
    → bytes_eq (map to_ascii_lowercase name) (map to_ascii_lowercase TIMELEVELS) ≡ false
    → has_effect t ≡ false
no_effect name t h p q r =
    or3 (is_named TYPE t) (is_named DIM t) (is_named TIMELEVELS t) (other_name name TYPE t h p)
    (other_name name DIM t h q) (other_name name TIMELEVELS t h r)

-- ---- tokens that are kept

pub record KeptToken (test : Token → Bool) (mark : Token → Option Mark) (n : Option Token)
    (x : Token) : Type 0 where
  pub tok : Token
  pub begins : n ≡ Some tok
  pub is : x ≡ kept tok
  pub passes : test tok ≡ true
  pub unmarked : mark tok ≡ None

pub kept_at : (b : Bool) (t x : Token) → cond b (Some t) None ≡ Some x → (b ≡ true) × (t ≡ x)
kept_at true t x e = (refl, cc)
kept_at false t x e = absurd cc

pub is_kept : (test : Token → Bool) (mark : Token → Option Mark) (t x : Token)
    → kept_if test t ≡ Some x → mark t ≡ None → KeptToken test mark (Some t) x
is_kept test mark t x v m = let k = kept_at (test t) (kept t) x v in
    record { tok = t; begins = refl; is = sym k.1; passes = k.0; unmarked = m }

-- a token behind others
record Added (test : Token → Bool) (mark : Token → Option Mark) (ts us : List Token) : Type 0 where
  tok : Token
  is : us ≡ ts ++ kept tok ∷ []
  passes : test tok ≡ true
  unmarked : mark tok ≡ None

keep_holds : (test : Token → Bool) (mark : Token → Option Mark) (ts : List Token)
    → Holds Every (keep test mark ts) (λ n us. Added test mark ts us)
keep_holds test mark ts =
    holds_also (holds_lexeme {P = KeptToken test mark} (λ t x h v m. is_kept test mark t x v m))
    (λ n x k.
    holds_nothing
    (λ m. record {
      tok = k.tok;
      is = ap (λ (t : Token). ts ++ t ∷ []) k.is;
      passes = k.passes;
      unmarked = k.unmarked;
    }))

keep_again : (test : Token → Bool) (mark : Token → Option Mark) (ts : List Token) (t : Token)
    (us : List Token) → test (kept t) ≡ true → mark (kept t) ≡ None
    → passes is_line_end (head us) ≡ false
    → (keep test mark ts).reads (kept t ∷ us) ≡ Ok (ts ++ kept t ∷ [], us)
keep_again test mark ts t us p m e = rw (p, m, no_skip us e) refl

choice_true : {A : Type 0} (test : Token → Bool) (r s : Rule A) (t : Token) (us : List Token)
    → test t ≡ true → (choice test r s).reads (t ∷ us) ≡ r.reads (t ∷ us)
choice_true test r s t us e = ap (λ b. cond b (r.reads (t ∷ us)) (s.reads (t ∷ us))) e

choice_false : {A : Type 0} (test : Token → Bool) (r s : Rule A) (t : Token) (us : List Token)
    → test t ≡ false → (choice test r s).reads (t ∷ us) ≡ s.reads (t ∷ us)
choice_false test r s t us e = ap (λ b. cond b (r.reads (t ∷ us)) (s.reads (t ∷ us))) e

-- ---- sizes

-- sizes behind the first, each with a comma
record MoreSizes (base us : List Token) : Type 0 where
  more : List Token
  is : us ≡ base ++ more
  same : map kept more ≡ more
  again : (old rest : List Token) → passes is_line_end (head rest) ≡ false
      → (passes is_line_end (head (more ++ rest)) ≡ false)
      × ((loop (is_sign 44) more_sizes old).reads (more ++ rest)
      ≡ (loop (is_sign 44) more_sizes (old ++ more)).reads rest)

no_more : (base : List Token) → MoreSizes base base
no_more base = record {
  more = [];
  is = sym (append-nil base);
  same = refl;
  again = λ old rest e. (
    e,
    ap (λ (ts : List Token). (loop (is_sign 44) more_sizes ts).reads rest) (sym (append-nil old)),
  );
}

size_stays : (k : Kind) → (is_word_kind k || is_number_kind k) ≡ true → is_line_end_kind k ≡ false
size_stays kinds.Word h = refl
size_stays kinds.Number h = refl
size_stays kinds.Quoted h = refl
size_stays kinds.Sign h = refl
size_stays kinds.LineEnd h = absurd cc

pub size_ended : (t : Token) → is_size t ≡ true → is_line_end t ≡ false
size_ended t h = size_stays t.kind h

one_more : (base us : List Token) (c s : Token) → MoreSizes base us → is_sign 44 c ≡ true
    → is_size s ≡ true → MoreSizes base ((us ++ kept c ∷ []) ++ kept s ∷ [])
one_more base us c s m p q = record {
  more = m.more ++ kept c ∷ kept s ∷ [];
  is = ap (λ (ts : List Token). (ts ++ kept c ∷ []) ++ kept s ∷ []) m.is ∙ simp append_assoc;
  same = map-append kept m.more (kept c ∷ kept s ∷ [])
      ∙ ap (λ (ts : List Token). ts ++ kept c ∷ kept s ∷ []) m.same;
  again = λ old rest e.
      let us : List Token = kept c ∷ kept s ∷ rest in
      let parts : (m.more ++ kept c ∷ kept s ∷ []) ++ rest ≡ m.more ++ us =
      append_assoc m.more (kept c ∷ kept s ∷ []) rest in
      let h = m.again old us (sign_ended 44 c p) in
      let k = keep_again (is_sign 44) unmarked (old ++ m.more) c (kept s ∷ rest) p refl
      (size_ended s q) in
      let l = keep_again is_size unmarked ((old ++ m.more) ++ kept c ∷ []) s rest q refl e in
      let turn : (more_sizes (old ++ m.more)).reads us
      ≡ Ok (((old ++ m.more) ++ kept c ∷ []) ++ kept s ∷ [], rest) = rw (k, l) refl in
      let joined : ((old ++ m.more) ++ kept c ∷ []) ++ kept s ∷ []
      ≡ old ++ (m.more ++ kept c ∷ kept s ∷ []) = simp append_assoc in (
        ap (λ (ts : List Token). passes is_line_end (head ts)) parts ∙ h.0,
        ap (loop (is_sign 44) more_sizes old).reads parts
            ∙ h.1
            ∙ loop_step (is_sign 44) more_sizes more_sizes_short (old ++ m.more)
            (((old ++ m.more) ++ kept c ∷ []) ++ kept s ∷ []) us rest p turn
            ∙ ap (λ (ts : List Token). (loop (is_sign 44) more_sizes ts).reads rest) joined,
      );
}

-- the sizes that were read
record Sizes (ts us : List Token) : Type 0 where
  new : List Token
  is : us ≡ ts ++ new
  same : map kept new ≡ new
  again : (old rest : List Token) → Follows rest
      → (passes is_line_end (head (new ++ rest)) ≡ false)
      × ((sizes old).reads (new ++ rest) ≡ Ok (old ++ new, rest))

sizes_read : (ts us vs : List Token) (t : Token) → us ≡ ts ++ kept t ∷ [] → is_size t ≡ true
    → MoreSizes us vs → Sizes ts vs
sizes_read ts us vs t is p m = record {
  new = kept t ∷ m.more;
  is = m.is ∙ ap (λ (xs : List Token). xs ++ m.more) is ∙ append_assoc ts (kept t ∷ []) m.more;
  same = ap (λ (xs : List Token). kept t ∷ xs) m.same;
  again = λ old rest f.
      let h = m.again (old ++ kept t ∷ []) rest f.0 in
      let k = keep_again is_size unmarked old t (m.more ++ rest) p refl h.0 in
      let l = loop_stop (is_sign 44) more_sizes more_sizes_short ((old ++ kept t ∷ []) ++ m.more)
      rest f.1 in (
        size_ended t p,
        ap (λ a. go_on a (λ xs. (loop (is_sign 44) more_sizes xs).reads)) k
            ∙ h.1
            ∙ l
            ∙ ap (λ (xs : List Token). Ok (xs, rest)) (append_assoc old (kept t ∷ []) m.more),
      );
}

sizes_hold : (ts : List Token) → Holds Every (sizes ts) (λ n us. Sizes ts us)
sizes_hold ts =
    holds_also (keep_holds is_size unmarked ts) (λ n us a.
    weaker_holds (holds_loop (MoreSizes us)
    (λ c m.
    holds_also (keep_holds (is_sign 44) unmarked c) (λ k ds b.
    weaker_holds (keep_holds is_size unmarked ds) (λ j es d.
    subst (MoreSizes us) (sym (d.is ∙ ap (λ (xs : List Token). xs ++ kept d.tok ∷ []) b.is))
    (one_more us c b.tok d.tok m b.passes d.passes))))
    (no_more us)) (λ k vs m. sizes_read ts us vs a.tok a.is a.passes m))

-- ---- attributes

-- one attribute without effect more
idle_step : (a b : Attributes) (new : List Token) → RestAgain a → b.rest ≡ a.rest ++ new
    → map kept new ≡ new
    → ((us : List Token) → Follows us
    → Follows (new ++ us) × (passes is_attribute (head (new ++ us)) ≡ true))
    → ((g : GType) (d l : ℕ) (us : List Token) → Follows us
    → (attribute (idle_of a g d l)).reads (new ++ us) ≡ Ok (idle_of b g d l, us))
    → RestAgain b
idle_step a b new again is same opens reads g d l us f =
    let parts : map kept b.rest ++ us ≡ map kept a.rest ++ (new ++ us) =
    ap (λ (ts : List Token). map kept ts ++ us) is
    ∙ ap (λ (ts : List Token). ts ++ us) (map-append kept a.rest new)
    ∙ append_assoc (map kept a.rest) (map kept new) us
    ∙ ap (λ (ts : List Token). map kept a.rest ++ (ts ++ us)) same in
    let o = opens us f in
    let h = again g d l (new ++ us) o.0 in (
      subst Follows (sym parts) h.0,
      ap (loop is_attribute attribute (given g d l)).reads parts
          ∙ h.1
          ∙ loop_step is_attribute attribute attribute_short (idle_of a g d l) (idle_of b g d l)
          (new ++ us) us o.1 (reads g d l us f),
    )

first_none : (b : Bool) → first_mark b Repeated None ≡ None → b ≡ false
first_none true e = absurd cc
first_none false e = refl

once_is : (name : List ℕ) (seen : Bool) (t : Token) → seen ≡ false → is_named name t ≡ true
    → (ts us : List Token) → passes is_line_end (head us) ≡ false
    → (keep_once name seen ts).reads (kept t ∷ us) ≡ Ok (ts ++ kept t ∷ [], us)
once_is name seen t s n ts us e =
    keep_again (is_named name) (λ u. first_mark seen Repeated None) ts t us n (rw s refl) e

of_distribution : (w a b : Bool) → ((w && a) || (w && b)) ≡ true → w ≡ true
of_distribution true a b h = refl
of_distribution false a b h = absurd cc

three_joined : (ts : List Token) (k e : Token) (vs : List Token)
    → ((ts ++ k ∷ []) ++ e ∷ []) ++ vs ≡ ts ++ k ∷ e ∷ vs
three_joined ts k e vs = simp append_assoc

-- three tokens behind others
three : (ts us vs ws : List Token) (k e v : Token) → us ≡ ts ++ k ∷ [] → vs ≡ us ++ e ∷ []
    → ws ≡ vs ++ v ∷ [] → ws ≡ ts ++ k ∷ e ∷ v ∷ []
three ts us vs ws k e v p q r = r ∙ rw (q, p) (simp append_assoc)

-- two tokens, and then sizes
two_and : (ts us vs ws new : List Token) (k e : Token) → us ≡ ts ++ k ∷ [] → vs ≡ us ++ e ∷ []
    → ws ≡ vs ++ new → ws ≡ ts ++ k ∷ e ∷ new
two_and ts us vs ws new k e p q r = r ∙ rw (q, p) (simp append_assoc)

pub distribution_ended : (t : Token) → is_distribution t ≡ true → is_line_end t ≡ false
distribution_ended t h =
    ends_no_line t.kind (of_distribution (is_word t)
    (bytes_eq (map to_ascii_lowercase t.text) (map to_ascii_lowercase (codes "DEFAULT")))
    (bytes_eq (map to_ascii_lowercase t.text) (map to_ascii_lowercase (codes "CONSTANT"))) h)

quoted_stays : (k : Kind) → is_quoted_kind k ≡ true → is_line_end_kind k ≡ false
quoted_stays kinds.Word h = refl
quoted_stays kinds.Number h = refl
quoted_stays kinds.Quoted h = refl
quoted_stays kinds.Sign h = refl
quoted_stays kinds.LineEnd h = absurd cc

pub quoted_ended : (t : Token) → is_quoted t ≡ true → is_line_end t ≡ false
quoted_ended t h = quoted_stays t.kind h

abbrev pub InRange : ℕ → ℕ → Option ℕ → Type 0
InRange low high None = Unit {0}
InRange low high (Some n) = (low ≤ n) × (n ≤ high)

pub record FitsAttributes (a : Attributes) : Type 0 where
  pub dim : InRange 1 3 a.dim
  pub levels : InRange 1 8 a.levels
  pub again : RestAgain a

distrib_fits : (a : Attributes) → FitsAttributes a
    → Holds Every (distrib a) (λ n b. FitsAttributes b)
distrib_fits a fit =
    holds_also (keep_holds (is_named DISTRIB) (λ t. first_mark a.distrib Repeated None) a.rest)
    (λ n us k.
    holds_also (keep_holds (is_sign 61) unmarked us) (λ m vs e.
    holds_also (keep_holds is_distribution unmarked vs) (λ j ws v.
    holds_nothing (λ i.
    let new : List Token = kept k.tok ∷ kept e.tok ∷ kept v.tok ∷ [] in
    let whole = three a.rest us vs ws (kept k.tok) (kept e.tok) (kept v.tok) k.is e.is v.is in
    let none = no_effect DISTRIB k.tok k.passes refl refl refl in
    record {
      dim = fit.dim;
      levels = fit.levels;
      again = idle_step a (record a { distrib = true; rest = ws }) new fit.again whole refl
          (λ xs f. (
            named_follows DISTRIB k.tok (kept e.tok ∷ kept v.tok ∷ xs) k.passes,
            or_rt (has_effect k.tok) (has_none k.tok)
                (or_lt (is_named DISTRIB k.tok || is_named SIZE k.tok || is_named GHOSTSIZE k.tok)
                (is_named TAGS k.tok)
                (or_lt (is_named DISTRIB k.tok || is_named SIZE k.tok) (is_named GHOSTSIZE k.tok)
                (or_lt (is_named DISTRIB k.tok) (is_named SIZE k.tok) k.passes))),
          ))
          (λ g d l xs f.
          let b : Attributes = idle_of a g d l in
          let one = once_is DISTRIB a.distrib k.tok (first_none a.distrib k.unmarked)
          k.passes a.rest (kept e.tok ∷ kept v.tok ∷ xs) (sign_ended 61 e.tok e.passes) in
          let two = keep_again (is_sign 61) unmarked (a.rest ++ kept k.tok ∷ []) e.tok
          (kept v.tok ∷ xs) e.passes refl (distribution_ended v.tok v.passes) in
          let last = keep_again is_distribution unmarked
          ((a.rest ++ kept k.tok ∷ []) ++ kept e.tok ∷ []) v.tok xs v.passes refl f.0 in
          let read : (distrib b).reads (new ++ xs)
          ≡ Ok (
            record b {
              distrib = true;
              rest = ((a.rest ++ kept k.tok ∷ []) ++ kept e.tok ∷ []) ++ kept v.tok ∷ [];
            },
            xs,
          ) =
          rw (one, two, last) refl in
          let rest_is : ((a.rest ++ kept k.tok ∷ []) ++ kept e.tok ∷ []) ++ kept v.tok ∷ [] ≡ ws =
          three_joined a.rest (kept k.tok) (kept e.tok) (kept v.tok ∷ []) ∙ sym whole in
          choice_false has_effect (effective b) (idle b) (kept k.tok) (kept e.tok ∷ kept v.tok ∷ xs)
          none
          ∙ choice_true (is_named DISTRIB) (distrib b)
          (choice (is_named SIZE) (size b) (choice (is_named GHOSTSIZE) (ghostsize b) (tags b)))
          (kept k.tok) (kept e.tok ∷ kept v.tok ∷ xs) k.passes
          ∙ read
          ∙ ap (λ (ts : List Token). Ok (record b { distrib = true; rest = ts }, xs)) rest_is);
    }))))

tags_fits : (a : Attributes) → FitsAttributes a → Holds Every (tags a) (λ n b. FitsAttributes b)
tags_fits a fit =
    holds_also (keep_holds (is_named TAGS) (λ t. first_mark a.tags Repeated None) a.rest) (λ n us k.
    holds_also (keep_holds (is_sign 61) unmarked us) (λ m vs e.
    holds_also (keep_holds is_quoted unmarked vs) (λ j ws v.
    holds_nothing (λ i.
    let new : List Token = kept k.tok ∷ kept e.tok ∷ kept v.tok ∷ [] in
    let whole = three a.rest us vs ws (kept k.tok) (kept e.tok) (kept v.tok) k.is e.is v.is in
    let none = no_effect TAGS k.tok k.passes refl refl refl in
    record {
      dim = fit.dim;
      levels = fit.levels;
      again = idle_step a (record a { tags = true; rest = ws }) new fit.again whole refl
          (λ xs f. (
            named_follows TAGS k.tok (kept e.tok ∷ kept v.tok ∷ xs) k.passes,
            or_rt (has_effect k.tok) (has_none k.tok)
                (or_rt (is_named DISTRIB k.tok || is_named SIZE k.tok || is_named GHOSTSIZE k.tok)
                (is_named TAGS k.tok) k.passes),
          ))
          (λ g d l xs f.
          let b : Attributes = idle_of a g d l in
          let one = once_is TAGS a.tags k.tok (first_none a.tags k.unmarked) k.passes a.rest
          (kept e.tok ∷ kept v.tok ∷ xs) (sign_ended 61 e.tok e.passes) in
          let two = keep_again (is_sign 61) unmarked (a.rest ++ kept k.tok ∷ []) e.tok
          (kept v.tok ∷ xs) e.passes refl (quoted_ended v.tok v.passes) in
          let last = keep_again is_quoted unmarked ((a.rest ++ kept k.tok ∷ []) ++ kept e.tok ∷ [])
          v.tok xs v.passes refl f.0 in
          let read : (tags b).reads (new ++ xs)
          ≡ Ok (
            record b {
              tags = true;
              rest = ((a.rest ++ kept k.tok ∷ []) ++ kept e.tok ∷ []) ++ kept v.tok ∷ [];
            },
            xs,
          ) =
          rw (one, two, last) refl in
          let rest_is : ((a.rest ++ kept k.tok ∷ []) ++ kept e.tok ∷ []) ++ kept v.tok ∷ [] ≡ ws =
          three_joined a.rest (kept k.tok) (kept e.tok) (kept v.tok ∷ []) ∙ sym whole in
          choice_false has_effect (effective b) (idle b) (kept k.tok) (kept e.tok ∷ kept v.tok ∷ xs)
          none
          ∙ choice_false (is_named DISTRIB) (distrib b)
          (choice (is_named SIZE) (size b) (choice (is_named GHOSTSIZE) (ghostsize b) (tags b)))
          (kept k.tok) (kept e.tok ∷ kept v.tok ∷ xs)
          (other_name TAGS DISTRIB k.tok k.passes refl)
          ∙ choice_false (is_named SIZE) (size b)
          (choice (is_named GHOSTSIZE) (ghostsize b) (tags b)) (kept k.tok)
          (kept e.tok ∷ kept v.tok ∷ xs) (other_name TAGS SIZE k.tok k.passes refl)
          ∙ choice_false (is_named GHOSTSIZE) (ghostsize b) (tags b) (kept k.tok)
          (kept e.tok ∷ kept v.tok ∷ xs) (other_name TAGS GHOSTSIZE k.tok k.passes refl)
          ∙ read
          ∙ ap (λ (ts : List Token). Ok (record b { tags = true; rest = ts }, xs)) rest_is);
    }))))

size_fits : (a : Attributes) → FitsAttributes a → Holds Every (size a) (λ n b. FitsAttributes b)
size_fits a fit =
    holds_also (keep_holds (is_named SIZE) (λ t. first_mark a.size Repeated None) a.rest) (λ n us k.
    holds_also (keep_holds (is_sign 61) unmarked us) (λ m vs e.
    holds_also (sizes_hold vs) (λ j ws z.
    holds_nothing (λ i.
    let new : List Token = kept k.tok ∷ kept e.tok ∷ z.new in
    let whole = two_and a.rest us vs ws z.new (kept k.tok) (kept e.tok) k.is e.is z.is in
    let none = no_effect SIZE k.tok k.passes refl refl refl in
    record {
      dim = fit.dim;
      levels = fit.levels;
      again = idle_step a (record a { size = true; rest = ws }) new fit.again whole
          (ap (λ (ts : List Token). kept k.tok ∷ kept e.tok ∷ ts) z.same)
          (λ xs f. (
            named_follows SIZE k.tok (kept e.tok ∷ (z.new ++ xs)) k.passes,
            or_rt (has_effect k.tok) (has_none k.tok)
                (or_lt (is_named DISTRIB k.tok || is_named SIZE k.tok || is_named GHOSTSIZE k.tok)
                (is_named TAGS k.tok)
                (or_lt (is_named DISTRIB k.tok || is_named SIZE k.tok) (is_named GHOSTSIZE k.tok)
                (or_rt (is_named DISTRIB k.tok) (is_named SIZE k.tok) k.passes))),
          ))
          (λ g d l xs f.
          let b : Attributes = idle_of a g d l in
          let h = z.again ((a.rest ++ kept k.tok ∷ []) ++ kept e.tok ∷ []) xs f in
          let one = once_is SIZE a.size k.tok (first_none a.size k.unmarked) k.passes a.rest
          (kept e.tok ∷ (z.new ++ xs)) (sign_ended 61 e.tok e.passes) in
          let two = keep_again (is_sign 61) unmarked (a.rest ++ kept k.tok ∷ []) e.tok (z.new ++ xs)
          e.passes refl h.0 in
          let last = h.1 in
          let read : (size b).reads (new ++ xs)
          ≡ Ok (
            record b {
              size = true;
              rest = ((a.rest ++ kept k.tok ∷ []) ++ kept e.tok ∷ []) ++ z.new;
            },
            xs,
          ) =
          rw (one, two, last) refl in
          let rest_is : ((a.rest ++ kept k.tok ∷ []) ++ kept e.tok ∷ []) ++ z.new ≡ ws =
          three_joined a.rest (kept k.tok) (kept e.tok) z.new ∙ sym whole in
          choice_false has_effect (effective b) (idle b) (kept k.tok) (kept e.tok ∷ (z.new ++ xs))
          none
          ∙ choice_false (is_named DISTRIB) (distrib b)
          (choice (is_named SIZE) (size b) (choice (is_named GHOSTSIZE) (ghostsize b) (tags b)))
          (kept k.tok) (kept e.tok ∷ (z.new ++ xs))
          (other_name SIZE DISTRIB k.tok k.passes refl)
          ∙ choice_true (is_named SIZE) (size b)
          (choice (is_named GHOSTSIZE) (ghostsize b) (tags b)) (kept k.tok)
          (kept e.tok ∷ (z.new ++ xs)) k.passes
          ∙ read
          ∙ ap (λ (ts : List Token). Ok (record b { size = true; rest = ts }, xs)) rest_is);
    }))))

ghostsize_fits : (a : Attributes) → FitsAttributes a
    → Holds Every (ghostsize a) (λ n b. FitsAttributes b)
ghostsize_fits a fit =
    holds_also (keep_holds (is_named GHOSTSIZE) (λ t. first_mark a.ghostsize Repeated None) a.rest)
    (λ n us k.
    holds_also (keep_holds (is_sign 61) unmarked us) (λ m vs e.
    holds_also (sizes_hold vs) (λ j ws z.
    holds_nothing (λ i.
    let new : List Token = kept k.tok ∷ kept e.tok ∷ z.new in
    let whole = two_and a.rest us vs ws z.new (kept k.tok) (kept e.tok) k.is e.is z.is in
    let none = no_effect GHOSTSIZE k.tok k.passes refl refl refl in
    record {
      dim = fit.dim;
      levels = fit.levels;
      again = idle_step a (record a { ghostsize = true; rest = ws }) new fit.again whole
          (ap (λ (ts : List Token). kept k.tok ∷ kept e.tok ∷ ts) z.same)
          (λ xs f. (
            named_follows GHOSTSIZE k.tok (kept e.tok ∷ (z.new ++ xs)) k.passes,
            or_rt (has_effect k.tok) (has_none k.tok)
                (or_lt (is_named DISTRIB k.tok || is_named SIZE k.tok || is_named GHOSTSIZE k.tok)
                (is_named TAGS k.tok)
                (or_rt (is_named DISTRIB k.tok || is_named SIZE k.tok) (is_named GHOSTSIZE k.tok)
                k.passes)),
          ))
          (λ g d l xs f.
          let b : Attributes = idle_of a g d l in
          let h = z.again ((a.rest ++ kept k.tok ∷ []) ++ kept e.tok ∷ []) xs f in
          let one = once_is GHOSTSIZE a.ghostsize k.tok (first_none a.ghostsize k.unmarked)
          k.passes a.rest (kept e.tok ∷ (z.new ++ xs)) (sign_ended 61 e.tok e.passes) in
          let two = keep_again (is_sign 61) unmarked (a.rest ++ kept k.tok ∷ []) e.tok (z.new ++ xs)
          e.passes refl h.0 in
          let last = h.1 in
          let read : (ghostsize b).reads (new ++ xs)
          ≡ Ok (
            record b {
              ghostsize = true;
              rest = ((a.rest ++ kept k.tok ∷ []) ++ kept e.tok ∷ []) ++ z.new;
            },
            xs,
          ) =
          rw (one, two, last) refl in
          let rest_is : ((a.rest ++ kept k.tok ∷ []) ++ kept e.tok ∷ []) ++ z.new ≡ ws =
          three_joined a.rest (kept k.tok) (kept e.tok) z.new ∙ sym whole in
          choice_false has_effect (effective b) (idle b) (kept k.tok) (kept e.tok ∷ (z.new ++ xs))
          none
          ∙ choice_false (is_named DISTRIB) (distrib b)
          (choice (is_named SIZE) (size b) (choice (is_named GHOSTSIZE) (ghostsize b) (tags b)))
          (kept k.tok) (kept e.tok ∷ (z.new ++ xs))
          (other_name GHOSTSIZE DISTRIB k.tok k.passes refl)
          ∙ choice_false (is_named SIZE) (size b)
          (choice (is_named GHOSTSIZE) (ghostsize b) (tags b)) (kept k.tok)
          (kept e.tok ∷ (z.new ++ xs)) (other_name GHOSTSIZE SIZE k.tok k.passes refl)
          ∙ choice_true (is_named GHOSTSIZE) (ghostsize b) (tags b) (kept k.tok)
          (kept e.tok ∷ (z.new ++ xs)) k.passes
          ∙ read
          ∙ ap (λ (ts : List Token). Ok (record b { ghostsize = true; rest = ts }, xs)) rest_is);
    }))))

number_at : (b : Bool) (n x : ℕ) → cond b (Some n) None ≡ Some x → n ≡ x
number_at true n x e = cc
number_at false n x e = absurd cc

marked_none : (b : Bool) → first_mark b BadNumber None ≡ None → b ≡ false
marked_none true e = absurd cc
marked_none false e = refl

number_range : (low high : ℕ) (t : Token) (x : ℕ) → number_of t ≡ Some x
    → number_mark low high t ≡ None → (low ≤ x) × (x ≤ high)
number_range low high t x v m =
    let n : ℕ = decimal_from 0 t.text in
    let none = marked_none (ltb n low || ltb high n) m in
    let value : n ≡ x = number_at (is_number t) n x v in
    let P : ℕ → Type 0 = λ k. (low ≤ k) × (k ≤ high) in
    subst P value (
      ltb-false n low (or_left (ltb n low) (ltb high n) none),
      ltb-false high n (or_right (ltb n low) (ltb high n) none),
    )

pub number_fits : (low high : ℕ) → Holds Every (number_in low high) (λ n x. (low ≤ x) × (x ≤ high))
number_fits low high = holds_lexeme (λ t x h v m. number_range low high t x v m)

type_fits : (a : Attributes) → FitsAttributes a → Holds Every (type_ a) (λ n b. FitsAttributes b)
type_fits a fit =
    holds_also (holds_any (once TYPE (is_some a.gtype))) (λ n u p.
    holds_also (holds_any (sign 61)) (λ m v q.
    holds_also (holds_any (lexeme gtype_of unmarked)) (λ j g r.
    holds_nothing (λ i. record { dim = fit.dim; levels = fit.levels; again = fit.again }))))

dim_fits : (a : Attributes) → FitsAttributes a → Holds Every (dim a) (λ n b. FitsAttributes b)
dim_fits a fit =
    holds_also (holds_any (once DIM (is_some a.dim))) (λ n u p.
    holds_also (holds_any (sign 61)) (λ m v q.
    holds_also (number_fits 1 3) (λ j x r.
    holds_nothing (λ i. record { dim = r; levels = fit.levels; again = fit.again }))))

levels_fits : (a : Attributes) → FitsAttributes a → Holds Every (levels a) (λ n b. FitsAttributes b)
levels_fits a fit =
    holds_also (holds_any (once TIMELEVELS (is_some a.levels))) (λ n u p.
    holds_also (holds_any (sign 61)) (λ m v q.
    holds_also (number_fits 1 8) (λ j x r.
    holds_nothing (λ i. record { dim = fit.dim; levels = r; again = fit.again }))))

-- of two ways
either : {test : Token → Bool} {r s : Rule Attributes} → Holds Every r (λ n b. FitsAttributes b)
    → Holds Every s (λ n b. FitsAttributes b)
    → Holds Every (choice test r s) (λ n b. FitsAttributes b)
either one other = holds_choice (weaker_holds one (λ n b q e. q))
    (weaker_holds other (λ n b q e. q))

pub attribute_fits : (a : Attributes) → FitsAttributes a
    → Holds Every (attribute a) (λ n b. FitsAttributes b)
attribute_fits a fit = either
    (either (type_fits a fit) (either (dim_fits a fit) (levels_fits a fit)))
    (either (distrib_fits a fit)
    (either (size_fits a fit) (either (ghostsize_fits a fit) (tags_fits a fit))))

pub none_fit : FitsAttributes no_attributes
none_fit = record { dim = tt; levels = tt; again = λ g d l us f. (f, refl) }
