-- A rule of which at most so many tokens may be taken keeps what the rule keeps.
use Rattle.std.proofs.Common.{◌≡◌, ℕ, suc, ◌<◌, ◌≤◌, Bool, true, false, cond, List, [], ◌∷◌, ◌++◌, length, Option, Some, None, Ok, Err, refl, sym, ap, subst, ◌∙◌, inl, inr, append_assoc, arith}
use Rattle.std.specs.Prelude.{nat_lt, ◌⊎◌}
use Rattle.std.proofs.lemmas.List.{append-nil, length-append}
use Rattle.cx_text.specs.declared.stop.Mark.{Mark}
use Rattle.cx_text.specs.declared.stop.Mark.TheVariants.{Limit, Repeated}
use Rattle.cx_text.specs.declared.stop.Why.{Why}
use Rattle.cx_text.specs.declared.stop.Why.TheVariants.{Unexpected, Marked}
use Rattle.cx_text.specs.declared.token.Token.{Token}
use Rattle.cx_text.specs.Grammar.{Item, Grammar, tokens, clean, head, next_of}
use Rattle.cx_text.specs.Reading.{Answer, Read}
use Rattle.cx_text.specs.Rules.{Rule}
use Rattle.cx_text.proofs.Laws.{told, tail, Beyond, Shows, Taken, Stopped, Reads, err_is, clean-append, taken_same}
use Rattle.cx_text.proofs.RuleLaws.{Good, Part}
use Rattle.cx_text.proofs.Never.{Never}
use Rattle.cx_expr.specs.AtMost.{left_behind, is_over, limit_mark, limited, derives_at_most, past, until, read_at_most, at_most}

-- where an answer stands
abbrev pub left_of : {A : Type 0} → Answer A → List Token
left_of (Ok x) = x.1
left_of (Err e) = e.1

-- the same answer, standing elsewhere
abbrev pub moved : {A : Type 0} → Answer A → List Token → Answer A
moved (Ok x) rest = Ok (x.0, rest)
moved (Err e) rest = Err (e.0, rest)

-- ---- whether an answer is cut

lt_false : (a b : ℕ) → b ≤ a → nat_lt a b ≡ false
lt_false a b h = grind (arith, h)

lt_true : (a b : ℕ) → a < b → nat_lt a b ≡ true
lt_true a b h = grind (arith, h)

lt_cases : (a b : ℕ) → (a < b) ⊎ (b ≤ a)
lt_cases a b = search (arith)

pub until_kept : {A : Type 0} (place : List Token) (a : Answer A)
    → length place ≤ length (left_of a) → until place a ≡ a
until_kept place (Ok x) h = rw (lt_false (length x.1) (length place) h) refl
until_kept place (Err e) h = rw (lt_false (length e.1) (length place) h) refl

pub until_cut : {A : Type 0} (place : List Token) (a : Answer A) → length (left_of a) < length place
    → until place a ≡ Err (Marked Limit, place)
until_cut place (Ok x) h = rw (lt_true (length x.1) (length place) h) refl
until_cut place (Err e) h = rw (lt_true (length e.1) (length place) h) refl

-- ---- where the limit is passed

pub past_short : (n : ℕ) (ts : List Token) → length (past n ts) ≤ length ts
past_short n [] = omega arith
past_short n (t ∷ ts) =
    let h = past_short (left_behind n t) ts in
    let P : Bool → Type 0 =
    λ b. length (cond b (t ∷ ts) (past (left_behind n t) ts)) ≤ length (t ∷ ts) in
    let at : (b : Bool) → P b =
    λ b. elim b as P [ true ↦ omega arith | false ↦ omega (arith, h) ] in
    at (is_over n t)

tokens-limited : (n : ℕ) (ms : List Item) → tokens (limited n ms) ≡ tokens ms
tokens-limited n [] = refl
tokens-limited n ((t, m) ∷ ms) =
    ap (λ (ts : List Token). t ∷ ts) (tokens-limited (left_behind n t) ms)

-- the tokens before pass no limit: k may still stand behind them
record Within (n : ℕ) (before : List Token) : Type 0 where
  k : ℕ
  places : (other : List Token) → past n (before ++ other) ≡ past k other
  marks : (more : List Item) → limited n (clean before ++ more) ≡ clean before ++ limited k more

within_next : (n : ℕ) (t : Token) (before : List Token) → is_over n t ≡ false
    → Within (left_behind n t) before → Within n (t ∷ before)
within_next n t before free w = record {
  k = w.k;
  places = λ other. rw free (w.places other);
  marks = λ more. rw free (ap (λ (ms : List Item). (t, None) ∷ ms) (w.marks more));
}

within : (n : ℕ) (before rest : List Token) → length (past n (before ++ rest)) ≤ length rest
    → Within n before
within n [] rest h = record { k = n; places = λ other. refl; marks = λ more. refl }
within n (t ∷ before) rest h =
    let P : Bool → Type 0 = λ b. is_over n t ≡ b
    → length (cond b (t ∷ (before ++ rest)) (past (left_behind n t) (before ++ rest)))
    ≤ length rest → Within n (t ∷ before) in
    let at : (b : Bool) → P b = λ b. elim b as P [
      | true ↦ λ e g. absurd (let l = length-append before rest in omega (arith, g, l))
      | false ↦ λ e g. within_next n t before e (within (left_behind n t) before rest g)
    ] in
    at (is_over n t) refl h

-- the first token that is one too many
pub record Passed (n : ℕ) (ts : List Token) : Type 0 where
  pub front : List Token
  pub t : Token
  pub rest : List Token
  pub parts : ts ≡ front ++ t ∷ rest
  pub place : past n ts ≡ t ∷ rest
  pub k : ℕ
  pub over : is_over k t ≡ true
  pub places : (other : List Token) → past n (front ++ other) ≡ past k other
  pub marks : (more : List Item) → limited n (clean front ++ more) ≡ clean front ++ limited k more

pub passed : (n : ℕ) (ts : List Token) → 0 < length (past n ts) → Passed n ts
passed n [] h = absurd (omega (arith, h))
passed n (t ∷ ts) h =
    let P : Bool → Type 0 = λ b. is_over n t ≡ b
    → 0 < length (cond b (t ∷ ts) (past (left_behind n t) ts)) → Passed n (t ∷ ts) in
    let at : (b : Bool) → P b = λ b. elim b as P [
      | true ↦ λ e g. record {
        front = [];
        t = t;
        rest = ts;
        parts = refl;
        place = rw e refl;
        k = n;
        over = e;
        places = λ other. refl;
        marks = λ more. refl;
      }
      | false ↦ λ e g.
          let w = passed (left_behind n t) ts g in
          record {
            front = t ∷ w.front;
            t = w.t;
            rest = w.rest;
            parts = ap (λ (us : List Token). t ∷ us) w.parts;
            place = rw e w.place;
            k = w.k;
            over = w.over;
            places = λ other. rw e (w.places other);
            marks = λ more. rw e (ap (λ (ms : List Item). (t, None) ∷ ms) (w.marks more));
          }
    ] in
    at (is_over n t) refl h

-- ---- a derived list

told_short : {A : Type 0} (x : A) (ms : List Item) (rest : List Token)
    → length (left_of (told x ms rest)) ≤ length (tokens ms ++ rest)
told_short x [] rest = omega arith
told_short x ((t, None) ∷ ms) rest = let h = told_short x ms rest in omega (arith, h)
told_short x ((t, Some m) ∷ ms) rest = omega arith

marked_told : {A : Type 0} (n : ℕ) (x : A) (t : Token) (m : Mark) (ms : List Item)
    (rest : List Token) (b : Bool)
    → told x ((t, limit_mark b (Some m)) ∷ limited n ms) rest
    ≡ Err (Marked m, t ∷ (tokens ms ++ rest))
marked_told n x t m ms rest true =
    ap (λ (us : List Token). Err (Marked m, t ∷ (us ++ rest))) (tokens-limited n ms)
marked_told n x t m ms rest false =
    ap (λ (us : List Token). Err (Marked m, t ∷ (us ++ rest))) (tokens-limited n ms)

until_told : {A : Type 0} (n : ℕ) (x : A) (ms : List Item) (rest : List Token)
    → until (past n (tokens ms ++ rest)) (told x ms rest) ≡ told x (limited n ms) rest
until_told n x [] rest = until_kept (past n rest) (Ok (x, rest)) (past_short n rest)
until_told n x ((t, Some m) ∷ ms) rest =
    until_kept (past n (t ∷ (tokens ms ++ rest))) (Err (Marked m, t ∷ (tokens ms ++ rest)))
    (past_short n (t ∷ (tokens ms ++ rest)))
    ∙ sym (marked_told (left_behind n t) x t m ms rest (is_over n t))
until_told {A} n x ((t, None) ∷ ms) rest =
    let k = left_behind n t in
    let us = tokens ms ++ rest in
    let P : Bool → Type 0 =
    λ b. until (cond b (t ∷ us) (past k us)) (told x ms rest)
    ≡ told x ((t, limit_mark b None) ∷ limited k ms) rest in
    let at : (b : Bool) → P b = λ b. elim b as P [
      | true ↦
          let short = told_short x ms rest in
          until_cut (t ∷ us) (told x ms rest) (omega (arith, short))
          ∙ ap (λ (vs : List Token). Err (Marked Limit, t ∷ (vs ++ rest)))
          (sym (tokens-limited k ms))
      | false ↦ until_told k x ms rest
    ] in
    at (is_over n t)

at_most_again : {A : Type 0} (n : ℕ) (p : Read A) (S : Grammar A) (G : Option Token → Type 0)
    → Reads p S G → (x : A) (ms : List Item) (rest : List Token)
    → derives_at_most n S x ms (head rest) → read_at_most n p (tokens ms ++ rest) ≡ told x ms rest
at_most_again n p S G r x ms rest (free, e, s) =
    rw e (ap (λ (us : List Token). read_at_most n p (us ++ rest)) (tokens-limited n free)
    ∙ ap (until (past n (tokens free ++ rest))) (r.again x free rest s)
    ∙ until_told n x free rest)

-- ---- what is read

-- whether an answer is cut
cut_cases : {A : Type 0} (place : List Token) (a : Answer A)
    → (length place ≤ length (left_of a)) ⊎ (length (left_of a) < length place)
cut_cases place a = elim (lt_cases (length (left_of a)) (length place))
    [ inl h ↦ inr h | inr h ↦ inl h ]

failed_ok : {A : Type 0} (w : Why) (us : List Token) (x : A) (rest : List Token) → (a : Answer A)
    → a ≡ Err (w, us) → a ≡ Ok (x, rest) → ⊥
failed_ok w us x rest a e f = absurd (let h = sym e ∙ f in cc)

at_most_takes : {A : Type 0} (n : ℕ) (p : Read A) (S : Grammar A) (G : Option Token → Type 0)
    → Reads p S G → (ts : List Token) (x : A) (rest : List Token)
    → read_at_most n p ts ≡ Ok (x, rest) → Taken (derives_at_most n S) ts x rest
at_most_takes n p S G r ts x rest e =
    elim (cut_cases (past n ts) (p ts)) [
      | inr h
          ↦ absurd (failed_ok (Marked Limit) (past n ts) x rest (read_at_most n p ts)
          (until_cut (past n ts) (p ts) h) e)
      | inl h ↦
          let q : p ts ≡ Ok (x, rest) = sym (until_kept (past n ts) (p ts) h) ∙ e in
          let t = r.takes ts x rest q in
          let w = within n t.front rest
          (subst (λ (us : List Token). length (past n us) ≤ length rest) t.parts
          (subst (λ (a : Answer _). length (past n ts) ≤ length (left_of a)) q h)) in
          record {
            front = t.front;
            parts = t.parts;
            spelled = (
              clean t.front,
              sym (ap (limited n) (sym (append-nil (clean t.front))) ∙ w.marks []
                  ∙ append-nil (clean t.front)),
              t.spelled,
            );
          }
    ]

-- ---- the answer doesn't depend on what stands behind the token where it stands

record Longer (front : List Token) (us : List Token) (other : List Token)
    (rest : List Token) : Type 0 where
  mid : List Token
  start : front ≡ other ++ mid
  end : rest ≡ mid ++ us

-- of two ways to part a list
longer : (front us other rest : List Token) → front ++ us ≡ other ++ rest → length us ≤ length rest
    → Longer front us other rest
longer front us [] rest e h = record { mid = front; start = refl; end = sym e }
longer [] us (o ∷ other) rest e h =
    absurd (let l = length-append other rest in
    let m : length us ≡ suc (length (other ++ rest)) = ap length e in omega (arith, l, m, h))
longer (f ∷ front) us (o ∷ other) rest e h =
    let tail : front ++ us ≡ other ++ rest = cc in
    let same : f ≡ o = cc in
    let l = longer front us other rest tail h in
    record { mid = l.mid; start = rw same (ap (λ (vs : List Token). o ∷ vs) l.start); end = l.end }

-- reading never stops at a repeated word
abbrev pub Unrepeated : {A : Type 0} → Read A → Type 0
Unrepeated p = (ts rest : List Token) → p ts ≡ Err (Marked Repeated, rest) → ⊥

head-behind : (mid : List Token) (t : Token) (us vs : List Token)
    → head (mid ++ t ∷ us) ≡ head (mid ++ t ∷ vs)
head-behind [] t us vs = refl
head-behind (m ∷ mid) t us vs = refl

record Local {A : Type 0} (p : Read A) (front : List Token) (t : Token) (us : List Token)
    (a : Answer A) : Type 0 where
  mid : List Token
  place : left_of a ≡ mid ++ t ∷ us
  same : (vs : List Token) → p (front ++ t ∷ vs) ≡ moved a (mid ++ t ∷ vs)

local : {A : Type 0} (p : Read A) (S : Grammar A) (G : Option Token → Type 0) → Reads p S G
    → Unrepeated p → (front : List Token) (t : Token) (us : List Token) (a : Answer A)
    → p (front ++ t ∷ us) ≡ a → length (t ∷ us) ≤ length (left_of a) → Local p front t us a
local p S G r never front t us (Ok x) e h =
    let k = r.takes (front ++ t ∷ us) x.0 x.1 e in
    let l = longer front (t ∷ us) k.front x.1 k.parts h in
    record {
      mid = l.mid;
      place = l.end;
      same = λ vs.
          ap p (ap (λ (ws : List Token). ws ++ t ∷ vs) l.start
          ∙ append_assoc k.front l.mid (t ∷ vs))
          ∙ taken_same p S G r (front ++ t ∷ us) x.0 x.1 k (l.mid ++ t ∷ vs)
          (head-behind l.mid t vs us ∙ sym (ap head l.end));
    }
local p S G r never front t us (Err d) e h =
    let k = r.stops (front ++ t ∷ us) d.0 d.1 e in
    let l = longer front (t ∷ us) k.before d.1 k.parts h in
    record {
      mid = l.mid;
      place = l.end;
      same = λ vs.
          ap p (ap (λ (ws : List Token). ws ++ t ∷ vs) l.start
          ∙ append_assoc k.before l.mid (t ∷ vs))
          ∙ k.same (l.mid ++ t ∷ vs) (head-behind l.mid t vs us ∙ sym (ap head l.end))
          (λ q. absurd (never (front ++ t ∷ us) d.1 (e ∙ ap (λ (w : Why). Err (w, d.1)) q)));
    }

-- ---- where reading is stopped

-- a list that goes on behind the last token that may stand
over_begins : {A : Type 0} (n k : ℕ) (S : Grammar A) (front : List Token) (t : Token)
    (rest : List Token) (more : List Item) (x : A) (next : Option Token) → is_over k t ≡ true
    → ((ms : List Item) → limited n (clean front ++ ms) ≡ clean front ++ limited k ms)
    → S x (clean front ++ (t, None) ∷ more) next
    → (y : A) × (ms : List Item) × derives_at_most n S y (clean front ++ ms) next
    × Shows (Marked Limit) (t ∷ rest) ms
over_begins n k S front t rest more x next over marks s = (
  x,
  (t, Some Limit) ∷ limited (left_behind k t) more,
  (clean front ++ (t, None) ∷ more, sym (marks ((t, None) ∷ more) ∙ rw over refl), s),
  refl,
)

-- a list that is read as far as behind a token
goes_past : {A : Type 0} (p : Read A) (S : Grammar A) (G : Option Token → Type 0) → Reads p S G
    → (front : List Token) (t : Token) (rest : List Token) (a : Answer A)
    → p (front ++ t ∷ rest) ≡ a → length (left_of a) < length (t ∷ rest) → (next : Option Token)
    → G next → (x : A) × (more : List Item) × S x (clean front ++ (t, None) ∷ more) next
goes_past {A} p S G r front t rest (Ok x) e h next g =
    let k = r.takes (front ++ t ∷ rest) x.0 x.1 e in
    let l = longer k.front x.1 front (t ∷ rest) (sym k.parts) (omega (arith, h)) in
    let P : List Token → Type 0 = λ mid. k.front ≡ front ++ mid → t ∷ rest ≡ mid ++ x.1
    → (y : A) × (more : List Item) × S y (clean front ++ (t, None) ∷ more) next in
    let at : (mid : List Token) → P mid = λ mid. elim mid as P [
      | [] ↦ λ start end. absurd
          (let m : length (t ∷ rest) ≡ length x.1 = ap length end in omega (arith, m, h))
      | (m ∷ mid) ↦ λ start end.
          let same : m ≡ t = cc in (
            x.0,
            clean mid,
            subst (λ (ms : List Item). S x.0 ms next)
                (ap clean start ∙ clean-append front (m ∷ mid) ∙ rw same refl)
                (r.moves x.0 (clean k.front) (head x.1) next k.spelled g),
          )
    ] in
    at l.mid l.start l.end
goes_past {A} p S G r front t rest (Err d) e h next g =
    let k = r.stops (front ++ t ∷ rest) d.0 d.1 e in
    let l = longer k.before d.1 front (t ∷ rest) (sym k.parts) (omega (arith, h)) in
    let b = k.begins next g in
    let P : List Token → Type 0 = λ mid. k.before ≡ front ++ mid → t ∷ rest ≡ mid ++ d.1
    → (y : A) × (more : List Item) × S y (clean front ++ (t, None) ∷ more) next in
    let at : (mid : List Token) → P mid = λ mid. elim mid as P [
      | [] ↦ λ start end. absurd
          (let m : length (t ∷ rest) ≡ length d.1 = ap length end in omega (arith, m, h))
      | (m ∷ mid) ↦ λ start end.
          let same : m ≡ t = cc in
          let parted : clean k.before ++ b.1 ≡ clean front ++ (t, None) ∷ (clean mid ++ b.1) =
          ap (λ (us : List Token). clean us ++ b.1) start
          ∙ ap (λ (ms : List Item). ms ++ b.1) (clean-append front (m ∷ mid))
          ∙ append_assoc (clean front) (clean (m ∷ mid)) b.1 ∙ rw same refl in
          (b.0, clean mid ++ b.1, subst (λ (ms : List Item). S b.0 ms next) parted b.2)
    ] in
    at l.mid l.start l.end

left_of_moved : {A : Type 0} (a : Answer A) (rest : List Token) → left_of (moved a rest) ≡ rest
left_of_moved (Ok x) rest = refl
left_of_moved (Err e) rest = refl

-- reading goes past a token whatever follows it
past_same : {A : Type 0} (p : Read A) (S : Grammar A) (G : Option Token → Type 0) → Reads p S G
    → Unrepeated p → (front : List Token) (t : Token) (rest us : List Token)
    → length (left_of (p (front ++ t ∷ rest))) < length (t ∷ rest)
    → length (left_of (p (front ++ t ∷ us))) < length (t ∷ us)
past_same p S G r never front t rest us h =
    elim (cut_cases (t ∷ us) (p (front ++ t ∷ us))) [
      | inr g ↦ g
      | inl g ↦ absurd (
          let l = local p S G r never front t us (p (front ++ t ∷ us)) refl g in
          let e : left_of (p (front ++ t ∷ rest)) ≡ l.mid ++ t ∷ rest =
          ap left_of (l.same rest) ∙ left_of_moved (p (front ++ t ∷ us)) (l.mid ++ t ∷ rest) in
          let m : length (left_of (p (front ++ t ∷ rest))) ≡ length (l.mid ++ t ∷ rest) =
          ap length e in
          let n = length-append l.mid (t ∷ rest) in
          omega (arith, m, n, h))
    ]

over_same : {A : Type 0} (n k : ℕ) (p : Read A) (S : Grammar A) (G : Option Token → Type 0)
    → Reads p S G → Unrepeated p → (front : List Token) (t : Token) (rest : List Token)
    → is_over k t ≡ true → ((other : List Token) → past n (front ++ other) ≡ past k other)
    → length (left_of (p (front ++ t ∷ rest))) < length (t ∷ rest)
    → (other : List Token) → head other ≡ Some t
    → read_at_most n p (front ++ other) ≡ Err (Marked Limit, other)
over_same n k p S G r never front t rest over places h [] e = absurd cc
over_same n k p S G r never front t rest over places h (u ∷ us) e =
    let same : u ≡ t = cc in
    let place : past n (front ++ t ∷ us) ≡ t ∷ us = places (t ∷ us) ∙ rw over refl in
    rw same (ap (λ (vs : List Token). until vs (p (front ++ t ∷ us))) place
    ∙ until_cut (t ∷ us) (p (front ++ t ∷ us)) (past_same p S G r never front t rest us h))

-- the limit is passed
over_stops : {A : Type 0} (n : ℕ) (p : Read A) (S : Grammar A) (G : Option Token → Type 0)
    → Reads p S G → Unrepeated p → (ts : List Token) → length (left_of (p ts)) < length (past n ts)
    → Stopped (read_at_most n p) (derives_at_most n S) G ts (Marked Limit) (past n ts)
over_stops n p S G r never ts h =
    let f = passed n ts (omega (arith, h)) in
    let less : length (left_of (p (f.front ++ f.t ∷ f.rest))) < length (f.t ∷ f.rest) =
    subst (λ (us : List Token). length (left_of (p (f.front ++ f.t ∷ f.rest))) < length us)
    f.place (subst (λ (us : List Token). length (left_of (p us)) < length (past n ts))
    f.parts h) in
    subst (λ (us : List Token).
    Stopped (read_at_most n p) (derives_at_most n S) G ts (Marked Limit) us) (sym f.place)
    (record {
      before = f.front;
      parts = f.parts;
      begins = λ next g. let b =
          goes_past p S G r f.front f.t f.rest (p (f.front ++ f.t ∷ f.rest)) refl less next g in
          over_begins n f.k S f.front f.t f.rest b.1 b.0 next f.over f.marks b.2;
      same = λ other o q. over_same n f.k p S G r never f.front f.t f.rest f.over f.places less
          other o;
      past =
          λ other o.
          inl (over_same n f.k p S G r never f.front f.t f.rest f.over f.places less other o);
    })

-- a fault that comes before
limit_kept : (b : Bool) (m : Mark) → limit_mark b (Some m) ≡ Some m
limit_kept true m = refl
limit_kept false m = refl

shows_limited : (k : ℕ) (w : Why) (rest : List Token) (more : List Item) → Shows w rest more
    → Shows w rest (limited k more)
shows_limited k Unexpected rest more h = tt
shows_limited k (Marked m) [] more h = absurd h
shows_limited k (Marked m) (t ∷ ts) [] h = absurd h
shows_limited k (Marked m) (t ∷ ts) ((u, v) ∷ is) h =
    let same : u ≡ t = ap (λ (i : Item). i.0) h in
    let mark : v ≡ Some m = ap (λ (i : Item). i.1) h in
    rw (same, mark, limit_kept (is_over k t) m) refl

-- what goes beyond some tokens does so too where a limit stops it
beyond_until : {A : Type 0} (place : List Token) (a : Answer A) (us : List Token) → Beyond a us
    → Beyond (until place a) us
beyond_until {A} place a us beyond =
    elim (cut_cases place a) [
      | inl h ↦ subst (λ (r : Answer A). Beyond r us) (sym (until_kept place a h)) beyond
      | inr h ↦ subst (λ (r : Answer A). Beyond r us) (sym (until_cut place a h)) tt
    ]

before_stops : {A : Type 0} (n : ℕ) (p : Read A) (S : Grammar A) (G : Option Token → Type 0)
    → Reads p S G → (ts : List Token) (w : Why) (rest : List Token) → p ts ≡ Err (w, rest)
    → length (past n ts) ≤ length rest
    → Stopped (read_at_most n p) (derives_at_most n S) G ts w rest
before_stops n p S G r ts w rest e h =
    let k = r.stops ts w rest e in
    let i = within n k.before rest
    (subst (λ (us : List Token). length (past n us) ≤ length rest) k.parts h) in
    record {
      before = k.before;
      parts = k.parts;
      begins = λ next g. let b = k.begins next g in (
        b.0,
        limited i.k b.1,
        (clean k.before ++ b.1, sym (i.marks b.1), b.2),
        shows_limited i.k w rest b.1 b.3,
      );
      same = λ other o q.
          let short : length (past n (k.before ++ other)) ≤ length other =
          subst (λ (us : List Token). length us ≤ length other) (sym (i.places other))
          (past_short i.k other) in
          ap (until (past n (k.before ++ other))) (k.same other o q)
          ∙ until_kept (past n (k.before ++ other)) (Err (w, other)) short;
      past = λ other o. elim (k.past other o) [
        | inl e ↦
            let short : length (past n (k.before ++ other)) ≤ length other =
            subst (λ (us : List Token). length us ≤ length other) (sym (i.places other))
            (past_short i.k other) in
            inl (ap (until (past n (k.before ++ other))) e
            ∙ until_kept (past n (k.before ++ other)) (Err (w, other)) short)
        | inr b
            ↦ inr (beyond_until (past n (k.before ++ other)) (p (k.before ++ other)) (tail other) b)
      ];
    }

at_most_stops : {A : Type 0} (n : ℕ) (p : Read A) (S : Grammar A) (G : Option Token → Type 0)
    → Reads p S G → Unrepeated p → (ts : List Token) (w : Why) (rest : List Token)
    → read_at_most n p ts ≡ Err (w, rest)
    → Stopped (read_at_most n p) (derives_at_most n S) G ts w rest
at_most_stops {A} n p S G r never ts w rest e =
    elim (cut_cases (past n ts) (p ts)) [
      | inr h ↦
          let q = err_is {A = A} (Marked Limit) w (past n ts) rest
          (sym (until_cut (past n ts) (p ts) h) ∙ e) in
          subst (λ (us : List Token). Stopped (read_at_most n p) (derives_at_most n S) G ts w us)
          q.1 (subst (λ (v : Why).
          Stopped (read_at_most n p) (derives_at_most n S) G ts v (past n ts)) q.0
          (over_stops n p S G r never ts h))
      | inl h ↦
          let q : p ts ≡ Err (w, rest) = sym (until_kept (past n ts) (p ts) h) ∙ e in
          before_stops n p S G r ts w rest q
          (subst (λ (a : Answer A). length (past n ts) ≤ length (left_of a)) q h)
    ]

pub reads_at_most : {A : Type 0} (n : ℕ) (p : Read A) (S : Grammar A) (G : Option Token → Type 0)
    → Reads p S G → Unrepeated p → Reads (read_at_most n p) (derives_at_most n S) G
reads_at_most n p S G r never = record {
  again = at_most_again n p S G r;
  takes = at_most_takes n p S G r;
  stops = at_most_stops n p S G r never;
  moves = λ x ms next other s g. (s.0, s.1, r.moves x s.0 next other s.2 g);
}

-- ---- as a part

next_limited : (n : ℕ) (ms : List Item) (next : Option Token)
    → next_of (limited n ms) next ≡ next_of ms next
next_limited n [] next = refl
next_limited n ((t, m) ∷ ms) next = refl

limited_empty : (n : ℕ) (ms : List Item) → [] ≡ limited n ms → ms ≡ []
limited_empty n [] e = refl
limited_empty n ((t, m) ∷ ms) e = absurd cc

pub at_most_part : {A : Type 0} (n : ℕ) {r : Rule A} {F H : Option Token → Type 0} → Part r F H
    → Never r → Part (at_most n r) F H
at_most_part {A} n {r} {F} {H} part never = record {
  good = record { law = reads_at_most n r.reads r.derives H part.good.law never.law };
  full =
      record {
        law = λ x next s.
            part.full.law x next (subst (λ (ms : List Item). r.derives x ms next)
            (limited_empty n s.0 s.1) s.2);
      };
  ends = λ next h.
      let e = (part.ends next h).law in
      record {
        law = (
          e.0,
          limited n e.1,
          (e.1, refl, e.2),
          subst (λ (m : Option Token). F m) (sym (next_limited n e.1 next)) e.3,
        );
      };
  one = part.one;
  allowed = part.allowed;
}

-- ---- a window on the tokens up to the first that is one too many

pub window_kept : {A : Type 0} (n : ℕ) (r : Rule A) (G : Option Token → Type 0) → Good r G → Never r
    → (ts front : List Token) (t : Token) (us : List Token) (a : Answer A) → ts ≡ front ++ t ∷ us
    → past n ts ≡ t ∷ us → r.reads (front ++ t ∷ []) ≡ a → 0 < length (left_of a)
    → (at_most n r).reads ts ≡ moved a (left_of a ++ us)
window_kept n r G good never ts front t us a parts place e h =
    let l = local r.reads r.derives G good.law never.law front t [] a e (omega (arith, h)) in
    let whole : l.mid ++ t ∷ us ≡ left_of a ++ us =
    sym (ap (λ (vs : List Token). vs ++ us) l.place ∙ append_assoc l.mid (t ∷ []) us) in
    let long = length-append l.mid (t ∷ us) in
    let stands : left_of (moved a (l.mid ++ t ∷ us)) ≡ l.mid ++ t ∷ us =
    left_of_moved a (l.mid ++ t ∷ us) in
    rw (parts) (ap (until (past n (front ++ t ∷ us))) (l.same us)
    ∙ ap (λ (vs : List Token). until vs (moved a (l.mid ++ t ∷ us)))
    (ap (past n) (sym parts) ∙ place)
    ∙ until_kept (t ∷ us) (moved a (l.mid ++ t ∷ us))
    (let m : length (left_of (moved a (l.mid ++ t ∷ us))) ≡ length (l.mid ++ t ∷ us) =
    ap length stands in omega (arith, m, long))
    ∙ ap (moved a) whole)

pub window_passed : {A : Type 0} (n : ℕ) (r : Rule A) (G : Option Token → Type 0) → Good r G
    → Never r → (ts front : List Token) (t : Token) (us : List Token) (a : Answer A)
    → ts ≡ front ++ t ∷ us → past n ts ≡ t ∷ us → r.reads (front ++ t ∷ []) ≡ a → left_of a ≡ []
    → (at_most n r).reads ts ≡ Err (Marked Limit, t ∷ us)
window_passed n r G good never ts front t us a parts place e h =
    let less : length (left_of (r.reads (front ++ t ∷ []))) < length (t ∷ []) =
    rw (e, h) (omega arith) in
    let more = past_same r.reads r.derives G good.law never.law front t [] us less in
    rw (parts) (ap (λ (vs : List Token). until vs (r.reads (front ++ t ∷ us)))
    (ap (past n) (sym parts) ∙ place) ∙ until_cut (t ∷ us) (r.reads (front ++ t ∷ us)) more)

-- ---- looking for the first token that is one too many

pub past_over : (n : ℕ) (ts us : List Token) (t : Token) → ts ≡ t ∷ us → is_over n t ≡ true
    → past n ts ≡ ts
past_over n ts us t e over = rw (e, over) refl

pub past_next : (n : ℕ) (ts us : List Token) (t : Token) → ts ≡ t ∷ us → is_over n t ≡ false
    → past n ts ≡ past (left_behind n t) us
past_next n ts us t e over = rw (e, over) refl
