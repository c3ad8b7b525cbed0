-- One step through a text: the line that it comes to.
use Rattle.std.proofs.Common.{◌≡◌, ℕ, ◌+◌, Bool, true, false, ◌⊎◌, inl, inr, List, [], ◌∷◌, ◌++◌, Option, Some, None, Result, Ok, Err, refl, sym, ap, subst, ◌∙◌, arith}
use Rattle.std.specs.Prelude.{◌==◌, MatchResult}
use Rattle.std.specs.List.{list_all}
use Rattle.std.proofs.lemmas.Bool.{and_parts, eqb-true}
use Rattle.cx_text.specs.declared.token.Kind.TheVariants as kinds
use Rattle.cx_text.specs.declared.token.Token.{Token}
use Rattle.cx_text.specs.declared.token.Style.{Style}
use Rattle.cx_text.specs.declared.token.Style.TheVariants.{Ccl, Par, Thorns}
use Rattle.cx_text.specs.declared.fault.TextFault.{TextFault}
use Rattle.cx_text.specs.declared.fault.TextFault.TheVariants as faults
use Rattle.cx_text.specs.declared.byte.Role.{Role}
use Rattle.cx_text.specs.declared.byte.Role.TheVariants as roles
use Rattle.cx_text.specs.declared.byte.Class.{Class}
use Rattle.cx_text.specs.declared.byte.Class.TheVariants as classes
use Rattle.cx_text.specs.Bytes.{role_of, has}
use Rattle.cx_text.specs.Pieces.{Piece, Word, Number, Joint, QuotedByte, bytes_of, quoted_bytes, feeds, own_token, fresh_after}
use Rattle.cx_text.specs.Scanning.{front, behind, take_quoted, take_joint, take_as, Takes, TakesByte, TakesText}
use Rattle.cx_text.proofs.ScanLaws.{is_front}
use Rattle.cx_text.proofs.QuotedLaws.{feeds-append, quoted_feeds}

-- ---- which pieces hold no line feed

class_line : (class : Class) → has class 10 ≡ false
class_line classes.Line = refl
class_line classes.Blank = refl
class_line classes.Digit = refl
class_line (classes.Word Ccl) = refl
class_line (classes.Word Par) = refl
class_line (classes.Word Thorns) = refl

differs : (test : ℕ → Bool) (b : ℕ) → test 10 ≡ false → test b ≡ true → (t : Bool) → (b == 10) ≡ t
    → (b == 10) ≡ false
differs test b e h true t =
    let same : test b ≡ test 10 = ap test (eqb-true b 10 t) in
    absurd cc
differs test b e h false t = t

no_feeds : (test : ℕ → Bool) (w : List ℕ) → test 10 ≡ false → list_all test w ≡ true → feeds w ≡ 0
no_feeds test [] e h = refl
no_feeds test (b ∷ w) e h =
    let two = and_parts (test b) (list_all test w) h in
    rw (differs test b e two.0 (b == 10) refl, no_feeds test w e two.1) refl

pub class_feeds : (class : Class) (w : List ℕ) → list_all (has class) w ≡ true → feeds w ≡ 0
class_feeds class w h = no_feeds (has class) w (class_line class) h

abbrev pub is_feed : Role → Bool
is_feed roles.LineFeed = true
is_feed roles.Blank = false
is_feed roles.Comment = false
is_feed roles.IgnoredLine = false
is_feed roles.Quote = false
is_feed roles.Word = false
is_feed roles.Number = false
is_feed roles.Joint = false
is_feed roles.Sign = false
is_feed roles.Bad = false

role_line_if : (style : Style) (fresh : Bool) (b : ℕ) (t : Bool) → (b == 10) ≡ t
    → is_feed (role_of style fresh b) ≡ false → (b == 10) ≡ false
role_line_if style fresh b false t h = t
role_line_if style fresh b true t h =
    let same : is_feed (role_of style fresh b) ≡ true =
    ap (λ (x : ℕ). is_feed (role_of style fresh x)) (eqb-true b 10 t) in
    absurd cc

pub role_line : (style : Style) (fresh : Bool) (b : ℕ) (r : Role) → r ≡ role_of style fresh b
    → is_feed r ≡ false → (b == 10) ≡ false
role_line style fresh b r e h = role_line_if style fresh b (b == 10) refl (ap is_feed (sym e) ∙ h)

first_feeds : (b : ℕ) (more : List ℕ) → (b == 10) ≡ false → feeds more ≡ 0 → feeds (b ∷ more) ≡ 0
first_feeds b more e h = rw (e, h) refl

pub run_feeds : (class : Class) (b : ℕ) (bs : List ℕ) → (b == 10) ≡ false
    → feeds (b ∷ front class bs) ≡ 0
run_feeds class b bs e =
    first_feeds b (front class bs) e (class_feeds class (front class bs) (is_front class bs).0)

-- ---- the steps

pub long_step : (result : Result (Option Token) TextFault) (p : Piece) (rest : List ℕ)
    (fresh : Bool) (line : ℕ) (fault : TextFault) → feeds (bytes_of p) ≡ 0
    → fresh_after fresh p ≡ false
    → MatchResult result (λ token. token ≡ own_token line p) (λ e. e ≡ faults.Memory)
    → Takes result false line rest (Some (p, rest)) fresh line fault
long_step (Ok token) p rest fresh line fault fed stale h =
    (h, sym stale, rw fed (omega arith), refl)
long_step (Err e) p rest fresh line fault fed stale h = h

pub comment_step : (style : Style) (fresh : Bool) (line : ℕ) (fault : TextFault) (b : ℕ)
    (bs : List ℕ) (r : Role) → r ≡ role_of style fresh b
    → (r ≡ roles.Comment) ⊎ (r ≡ roles.IgnoredLine)
    → Takes (Ok None) false line (behind classes.Line bs)
    (take_as style (role_of style fresh b) b bs) fresh line fault
comment_step style fresh line fault b bs r e (inl is) =
    let here : role_of style fresh b ≡ roles.Comment = sym e ∙ is in
    let fed = run_feeds classes.Line b bs (role_line style fresh b roles.Comment (sym here) refl) in
    subst (λ (x : Role). Takes (Ok None) false line (behind classes.Line bs) (take_as style x b bs)
    fresh line fault) (sym here) (refl, refl, rw fed (omega arith), refl)
comment_step style fresh line fault b bs r e (inr is) =
    let here : role_of style fresh b ≡ roles.IgnoredLine = sym e ∙ is in
    let fed = run_feeds classes.Line b bs
    (role_line style fresh b roles.IgnoredLine (sym here) refl) in
    subst (λ (x : Role). Takes (Ok None) false line (behind classes.Line bs) (take_as style x b bs)
    fresh line fault) (sym here) (refl, refl, rw fed (omega arith), refl)

pub word_step : (style : Style) (fresh : Bool) (line : ℕ) (fault : TextFault) (b : ℕ) (bs : List ℕ)
    (result : Result (Option Token) TextFault) → roles.Word ≡ role_of style fresh b
    → MatchResult result (λ token. token ≡ own_token line (Word b (front (classes.Word style) bs)))
    (λ e. e ≡ faults.Memory)
    → Takes result false line (behind (classes.Word style) bs)
    (take_as style (role_of style fresh b) b bs) fresh line fault
word_step style fresh line fault b bs result e h =
    let fed = run_feeds (classes.Word style) b bs (role_line style fresh b roles.Word e refl) in
    subst (λ (x : Role). Takes result false line (behind (classes.Word style) bs)
    (take_as style x b bs) fresh line fault) e
    (long_step result (Word b (front (classes.Word style) bs)) (behind (classes.Word style) bs)
    fresh line fault fed refl h)

pub number_step : (style : Style) (fresh : Bool) (line : ℕ) (fault : TextFault) (b : ℕ)
    (bs : List ℕ) (result : Result (Option Token) TextFault) → roles.Number ≡ role_of style fresh b
    → MatchResult result (λ token. token ≡ own_token line (Number b (front classes.Digit bs)))
    (λ e. e ≡ faults.Memory)
    → Takes result false line (behind classes.Digit bs) (take_as style (role_of style fresh b) b bs)
    fresh line fault
number_step style fresh line fault b bs result e h =
    let fed = run_feeds classes.Digit b bs (role_line style fresh b roles.Number e refl) in
    subst (λ (x : Role). Takes result false line (behind classes.Digit bs) (take_as style x b bs)
    fresh line fault) e
    (long_step result (Number b (front classes.Digit bs)) (behind classes.Digit bs)
    fresh line fault fed refl h)

joint_feeds : (b : ℕ) (blanks : List ℕ) → (b == 10) ≡ false → feeds blanks ≡ 0
    → feeds (b ∷ (blanks ++ 10 ∷ [])) ≡ 1
joint_feeds b blanks e h = rw (e, feeds-append blanks (10 ∷ []), h) refl

pub joint_step : (style : Style) (fresh : Bool) (line : ℕ) (fault : TextFault) (b : ℕ)
    (bs rest : List ℕ) → roles.Joint ≡ role_of style fresh b
    → TakesByte true rest 10 (behind classes.Blank bs)
    → Takes (Ok None) false (line + 1) rest (take_as style (role_of style fresh b) b bs)
    fresh line fault
joint_step style fresh line fault b bs rest e taken =
    let fed : feeds (b ∷ (front classes.Blank bs ++ 10 ∷ [])) ≡ 1 =
    joint_feeds b (front classes.Blank bs) (role_line style fresh b roles.Joint e refl)
    (class_feeds classes.Blank (front classes.Blank bs) (is_front classes.Blank bs).0) in
    let at : Takes (Ok None) false (line + 1) rest (Some (Joint b (front classes.Blank bs), rest))
    fresh line fault = (refl, refl, ap (λ n. line + n) (sym fed), refl) in
    let P : List ℕ → Type 0 =
    λ x. Takes (Ok None) false (line + 1) rest (take_joint b (front classes.Blank bs) x)
    fresh line fault in
    subst (λ (x : Role). Takes (Ok None) false (line + 1) rest (take_as style x b bs)
    fresh line fault) e (subst P (sym taken) at)

pub quoted_step : (quote : ℕ) (o : Option (List QuotedByte × List ℕ)) (text : List ℕ)
    (fresh' : Bool) (line' : ℕ) (rest' : List ℕ) (fresh : Bool) (line : ℕ) (fault : TextFault)
    → (quote == 10) ≡ false → fresh' ≡ false → TakesText (Ok (Some text)) line' rest' o line
    → Takes (Ok (Some (record { kind = kinds.Quoted; text = text; line = line })))
    fresh' line' rest' (take_quoted quote o) fresh line fault
quoted_step quote None text fresh' line' rest' fresh line fault e stale h = absurd h
quoted_step quote (Some x) text fresh' line' rest' fresh line fault e stale h =
    let fed : feeds (quoted_bytes quote x.0) ≡ feeds text =
    quoted_feeds quote x.0 e ∙ ap feeds (sym h.0) in (
      ap (λ t. Some (record { kind = kinds.Quoted; text = t; line = line })) h.0,
      stale,
      h.1 ∙ rw (e, fed) (omega arith),
      h.2,
    )
