-- Ranges of numbers that are printed are read again.
use Rattle.std.proofs.Common.{◌≡◌, ◌≤◌, ◌-◌, ◌^◌, ℕ, Bool, true, false, cond, ◌==◌, List, [], ◌∷◌, ◌++◌, ℤ, pos, negsuc, Option, Some, None, is_some, Ok, refl, sym, ap, ◌∙◌, append_assoc}
use Rattle.std.specs.List.{AllByRecursion}
use Rattle.std.proofs.lemmas.List.{append-nil}
use Rattle.std.proofs.lemmas.Bool.{eqb-true}
use Rattle.cx_text.specs.declared.token.Token.{Token}
use Rattle.cx_text.specs.Tokens.{is_line_end}
use Rattle.cx_text.specs.Grammar.{head, passes}
use Rattle.cx_text.specs.Reading.{go_on}
use Rattle.cx_text.specs.Rules.{loop}
use Rattle.cx_text.specs.Lexemes.{is_sign_pair}
use Rattle.cx_text.specs.Written.{sign}
use Rattle.cx_text.proofs.Printing.{loop_step, loop_stop, no_skip}
use Rattle.cx_param.specs.declared.ranges.Range.{Range}
use Rattle.cx_param.specs.declared.ranges.Range.TheVariants.{Ints, Word, AnyText, SomeText, Other}
use Rattle.cx_param.specs.Numbers as read
use Rattle.cx_param.specs.Blocks.{description, Open, opened, begun, one_or, is_colon, bracket, bound, closed, ended, upper, further, behind_low, bracketed, ints, is_ints, number_range}
use Rattle.cx_param.specs.Printed as printed
use Rattle.cx_param.proofs.BlockLaws.{further_short, number_range_short}
use Rattle.cx_param.proofs.NumberAgain.{Skips, none_skipped, IntFits, signed_plain, signed_again, step_again}

-- ---- ends

abbrev pub BoundFits : Option ℤ → Type 0
BoundFits None = Unit {0}
BoundFits (Some z) = IntFits z

starts_signed : (z : ℤ) (ts : List Token)
    → passes is_line_end (head (printed.signed z ++ ts)) ≡ false
starts_signed (pos k) ts =
    ap (λ (us : List Token). passes is_line_end (head (us ++ ts))) (signed_plain k)
starts_signed (negsuc k) ts = refl

starts_bound : (b : Option ℤ) (ts : List Token)
    → passes is_line_end (head (printed.bound b ++ ts)) ≡ false
starts_bound None ts = refl
starts_bound (Some z) ts = starts_signed z ts

finite_again : (z : ℤ) (more rest : List Token) → IntFits z → Skips more rest
    → bound.reads (printed.signed z ++ more) ≡ Ok (Some z, rest)
finite_again (pos k) more rest f s =
    let plain = signed_plain k in
    let one = sym (ap (λ (ts : List Token). read.number.reads (ts ++ more)) plain)
    ∙ signed_again (pos k) more rest f s in
    ap (λ (ts : List Token). bound.reads (ts ++ more)) plain
    ∙ ap (λ a. go_on a (λ x us. Ok (Some x, us))) one
finite_again (negsuc k) more rest f s =
    ap (λ a. go_on a (λ x us. Ok (Some x, us))) (signed_again (negsuc k) more rest f s)

bound_again : (b : Option ℤ) (more rest : List Token) → BoundFits b → Skips more rest
    → bound.reads (printed.bound b ++ more) ≡ Ok (b, rest)
bound_again None more rest f s = let skip = s.reads in rw skip refl
bound_again (Some z) more rest f s = finite_again z more rest f s

-- ---- what stands behind the low end

bracket_again : (b : Bool) (more rest : List Token) → Skips more rest
    → bracket.reads (printed.opening b ∷ more) ≡ Ok (b, rest)
bracket_again true more rest s = let skip = s.reads in rw skip refl
bracket_again false more rest s = let skip = s.reads in rw skip refl

closed_again : (o : Open) (b : Bool) (more rest : List Token) → Skips more rest
    → (closed o).reads (printed.closing b ∷ more) ≡ Ok (ended o b, rest)
closed_again o true more rest s = let skip = s.reads in rw skip refl
closed_again o false more rest s = let skip = s.reads in rw skip refl

no_colon : (b : Bool) (more : List Token)
    → passes is_colon (head (printed.closing b ∷ more)) ≡ false
no_colon true more = refl
no_colon false more = refl

upper_again : (o : Open) (high : Option ℤ) (rest : List Token) → BoundFits high
    → passes is_line_end (head rest) ≡ false
    → (upper o).reads (sign 58 ∷ (printed.bound high ++ rest))
    ≡ Ok (opened o.ranges (record o.span { high = high }), rest)
upper_again o high rest f e =
    let skip = no_skip (printed.bound high ++ rest) (starts_bound high rest) in
    let one = bound_again high rest rest f (none_skipped rest e) in
    rw (skip, one) refl

-- a step, where one stands
abbrev step_of : Bool → ℕ → Option ℕ
step_of true n = None
step_of false n = Some n

step_is : (b : Bool) (n : ℕ) → (n == 1) ≡ b → one_or (step_of b n) ≡ n
step_is true n e = sym (eqb-true n 1 e)
step_is false n e = refl

abbrev step_tokens : Bool → ℕ → List Token
step_tokens b n = cond b [] (sign 58 ∷ printed.number n ∷ [])

abbrev with_step : Open → Option ℕ → Open
with_step o s = opened o.ranges (record o.span { step = s })

starts_step : (b h : Bool) (n : ℕ) (more : List Token)
    → passes is_line_end (head (step_tokens b n ++ (printed.closing h ∷ more))) ≡ false
starts_step true h n more = refl
starts_step false h n more = refl

-- a low end from which a step counts, where there is one
abbrev Counts : Bool → Option ℤ → Type 0
Counts true low = Unit {0}
Counts false low = is_some low ≡ true

steps_again : (b h : Bool) (n : ℕ) (rs : List Range) (low high : Option ℤ) (low_in : Bool)
    (more : List Token) → Counts b low → 1 ≤ n → n ≤ 2 ^ 64 - 1
    → (loop is_colon further
    (opened rs (record {
      low = low;
      low_in = low_in;
      high = high;
      high_in = true;
      step = None;
    }))).reads (step_tokens b n ++ (printed.closing h ∷ more))
    ≡ Ok (
      opened rs
          (record { low = low; low_in = low_in; high = high; high_in = true; step = step_of b n }),
      printed.closing h ∷ more,
    )
steps_again true h n rs low high low_in more c l m =
    loop_stop is_colon further further_short
    (opened rs (record { low = low; low_in = low_in; high = high; high_in = true; step = None }))
    (printed.closing h ∷ more) (no_colon h more)
steps_again false h n rs low high low_in more c l m =
    let o : Open = opened rs
    (record { low = low; low_in = low_in; high = high; high_in = true; step = None }) in
    let p : Open = opened rs
    (record { low = low; low_in = low_in; high = high; high_in = true; step = Some n }) in
    let tail : List Token = printed.closing h ∷ more in
    let one = step_again low n tail tail c l m (none_skipped tail refl) in
    let turn : (further o).reads (sign 58 ∷ printed.number n ∷ tail) ≡ Ok (p, tail) =
    rw (no_skip (printed.number n ∷ tail) refl, one) refl in
    loop_step is_colon further further_short o p (sign 58 ∷ printed.number n ∷ tail) tail refl turn
    ∙ loop_stop is_colon further further_short p tail (no_colon h more)

-- ---- a range

-- its ends and its step
pub record RangeFits (from to : Option ℤ) (n : ℕ) : Type 0 where
  pub low : BoundFits from
  pub high : BoundFits to
  pub least : 1 ≤ n
  pub most : n ≤ 2 ^ 64 - 1
  pub counts : (n == 1) ≡ false → is_some from ≡ true

counts_from : (b : Bool) (n : ℕ) (low high : Option ℤ) → (n == 1) ≡ b → RangeFits low high n
    → Counts b low
counts_from true n low high e f = tt
counts_from false n low high e f = f.counts e

-- what stands between the brackets, and then
abbrev inside : Option ℤ → Option ℤ → Bool → ℕ → List Token → List Token
inside low high b n tail =
    printed.bound low ++ (sign 58 ∷ (printed.bound high ++ (step_tokens b n ++ tail)))

ints_again : (b low_in high_in : Bool) (rs : List Range) (low high : Option ℤ) (n : ℕ)
    (more rest : List Token) → (n == 1) ≡ b → RangeFits low high n → Skips more rest
    → (bracketed rs).reads (printed.opening low_in
    ∷ inside low high b n (printed.closing high_in ∷ more))
    ≡ Ok (rs ++ Ints low low_in high high_in n ∷ [], rest)
ints_again b low_in high_in rs low high n more rest e f s =
    let tail : List Token = printed.closing high_in ∷ more in
    let behind_high : List Token = step_tokens b n ++ tail in
    let behind_low_end : List Token = sign 58 ∷ (printed.bound high ++ behind_high) in
    let o : Open = opened rs (begun low low_in) in
    let p : Open = opened rs
    (record { low = low; low_in = low_in; high = high; high_in = true; step = None }) in
    let q : Open = opened rs
    (record { low = low; low_in = low_in; high = high; high_in = true; step = step_of b n }) in
    let first = bracket_again low_in (printed.bound low ++ behind_low_end)
    (printed.bound low ++ behind_low_end)
    (none_skipped (printed.bound low ++ behind_low_end) (starts_bound low behind_low_end)) in
    let second = bound_again low behind_low_end behind_low_end f.low
    (none_skipped behind_low_end refl) in
    let third : (upper o).reads behind_low_end ≡ Ok (p, behind_high) =
    upper_again o high behind_high f.high (starts_step b high_in n more) in
    let fourth = steps_again b high_in n rs low high low_in more (counts_from b n low high e f)
    f.least f.most in
    let fifth : (closed q).reads tail ≡ Ok (ended q high_in, rest) =
    closed_again q high_in more rest s in
    let behind : (behind_low o).reads behind_low_end ≡ Ok (ended q high_in, rest) =
    ap (λ a. go_on (go_on a (λ x. (loop is_colon further x).reads)) (λ x. (closed x).reads))
    third ∙ ap (λ a. go_on a (λ x. (closed x).reads)) fourth ∙ fifth in
    ap (λ a. go_on a (λ i us.
    go_on (bound.reads us) (λ l. (behind_low (opened rs (begun l i))).reads))) first
    ∙ ap (λ a. go_on a (λ l. (behind_low (opened rs (begun l low_in))).reads)) second
    ∙ behind
    ∙ ap (λ (k : ℕ). Ok (rs ++ Ints low low_in high high_in k ∷ [], rest)) (step_is b n e)

-- ---- ranges in a row

abbrev pub NumbersFit : Range → Type 0
NumbersFit (Ints low low_in high high_in n) = RangeFits low high n
NumbersFit (Word text) = ⊥
NumbersFit AnyText = ⊥
NumbersFit SomeText = ⊥
NumbersFit (Other ts) = ⊥

-- what may follow a range
abbrev pub Follows : List Token → Type 0
Follows rest = (passes is_line_end (head rest) ≡ false)
    × (passes (is_sign_pair 58 58) (head rest) ≡ false)

range_tokens : (low high : Option ℤ) (low_in high_in : Bool) (n : ℕ) (rest : List Token)
    → printed.range (Ints low low_in high high_in n) ++ rest
    ≡ printed.opening low_in ∷ inside low high (n == 1) n (printed.closing high_in ∷ rest)
range_tokens low high low_in high_in n rest = simp append_assoc

opens : (b : Bool) (ts : List Token) → passes is_ints (head (printed.opening b ∷ ts)) ≡ true
opens true ts = refl
opens false ts = refl

ints_bracketed : (b : Bool) (rs : List Range) (ts : List Token)
    → (ints rs).reads (printed.opening b ∷ ts) ≡ (bracketed rs).reads (printed.opening b ∷ ts)
ints_bracketed true rs ts = refl
ints_bracketed false rs ts = refl

not_described : (b : Bool) (ts : List Token)
    → passes (is_sign_pair 58 58) (head (printed.opening b ∷ ts)) ≡ false
not_described true ts = refl
not_described false ts = refl

undescribed : (rest : List Token) → passes (is_sign_pair 58 58) (head rest) ≡ false
    → description.reads rest ≡ Ok (tt, rest)
undescribed rest e = rw e refl

range_again : (low high : Option ℤ) (low_in high_in : Bool) (n : ℕ) (rs : List Range)
    (rest : List Token) → RangeFits low high n → Follows rest
    → (number_range rs).reads (printed.range (Ints low low_in high high_in n) ++ rest)
    ≡ Ok (rs ++ Ints low low_in high high_in n ∷ [], rest)
range_again low high low_in high_in n rs rest f e =
    let ts : List Token = inside low high (n == 1) n (printed.closing high_in ∷ rest) in
    let one = ints_bracketed low_in rs ts
    ∙ ints_again (n == 1) low_in high_in rs low high n rest rest refl f (none_skipped rest e.0)
    in
    ap (number_range rs).reads (range_tokens low high low_in high_in n rest)
    ∙ ap (λ a. go_on a (λ ss us. go_on (description.reads us) (λ u vs. Ok (ss, vs)))) one
    ∙ ap (λ a. go_on a (λ u vs. Ok (rs ++ Ints low low_in high high_in n ∷ [], vs)))
    (undescribed rest e.1)

pub starts_ranges : (rs : List Range) (rest : List Token) → AllByRecursion NumbersFit rs
    → Follows (printed.each_range rs ++ sign 125 ∷ rest)
starts_ranges [] rest h = (refl, refl)
starts_ranges (Ints low low_in high high_in n ∷ rs) rest h = (refl, not_described low_in [])
starts_ranges (Word text ∷ rs) rest h = absurd h.0
starts_ranges (AnyText ∷ rs) rest h = absurd h.0
starts_ranges (SomeText ∷ rs) rest h = absurd h.0
starts_ranges (Other ts ∷ rs) rest h = absurd h.0

pub ranges_again : (rs old : List Range) (rest : List Token) → AllByRecursion NumbersFit rs
    → (loop is_ints number_range old).reads (printed.each_range rs ++ sign 125 ∷ rest)
    ≡ Ok (old ++ rs, sign 125 ∷ rest)
ranges_again [] old rest h =
    loop_stop is_ints number_range number_range_short old (sign 125 ∷ rest) refl
    ∙ rw (append-nil old) refl
ranges_again (Ints low low_in high high_in n ∷ rs) old rest h =
    let r : Range = Ints low low_in high high_in n in
    let more : List Token = printed.each_range rs ++ sign 125 ∷ rest in
    ap (loop is_ints number_range old).reads
    (append_assoc (printed.range r) (printed.each_range rs) (sign 125 ∷ rest))
    ∙ loop_step is_ints number_range number_range_short old (old ++ r ∷ [])
    (printed.range r ++ more) more (opens low_in [])
    (range_again low high low_in high_in n old more h.0 (starts_ranges rs rest h.1))
    ∙ ranges_again rs (old ++ r ∷ []) rest h.1
    ∙ ap (λ xs. Ok (xs, sign 125 ∷ rest)) (append_assoc old (r ∷ []) rs)
ranges_again (Word text ∷ rs) old rest h = absurd h.0
ranges_again (AnyText ∷ rs) old rest h = absurd h.0
ranges_again (SomeText ∷ rs) old rest h = absurd h.0
ranges_again (Other ts ∷ rs) old rest h = absurd h.0
