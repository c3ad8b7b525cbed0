-- Rules that don't look at lines: they read tokens without their lines as they read the tokens.
use Rattle.std.proofs.Common.{◌≡◌, ℕ, zero, suc, Bool, true, false, cond, List, [], ◌∷◌, ◌++◌, length, map, Option, Some, None, Ok, Err, refl, sym, ap, ◌∙◌}
use Rattle.cx_text.specs.declared.stop.Mark.{Mark}
use Rattle.cx_text.specs.declared.token.Token.{Token}
use Rattle.cx_text.specs.Grammar.{head, passes, Spells}
use Rattle.cx_text.specs.Reading.{Answer, Read, unless_marked, found, read_marked, go_on, read_up_to, read_many}
use Rattle.cx_text.specs.Rules.{Rule, token, nothing, ◌>>=◌, lookahead, choice, turns, last, loop, line_ends, lexeme}
use Rattle.cx_text.specs.Lexemes.{kept, comma, some_names, names, braces}
use Rattle.cx_text.proofs.Laws.{ok_is}
use Rattle.cx_text.proofs.RuleLaws.{Good}
use Rattle.cx_text.proofs.Printing.{spelled}

-- tokens without their lines
abbrev pub unlined : List Token → List Token
unlined ts = map kept ts

-- an answer without lines
abbrev pub seen : {A B : Type 0} → (A → B) → Answer A → Answer B
seen e (Ok r) = Ok (e r.0, unlined r.1)
seen e (Err r) = Err (r.0, unlined r.1)

abbrev pub option_seen : {A B : Type 0} → (A → B) → Option A → Option B
option_seen e None = None
option_seen e (Some x) = Some (e x)

pub option_same : {A : Type 0} (o : Option A) → option_seen (λ x. x) o ≡ o
option_same None = refl
option_same (Some x) = refl

-- q reads tokens without their lines as r reads the tokens, each value without its lines
pub record Blind {A B : Type 0} (e : A → B) (r : Rule A) (q : Rule B) : Type 0 where
  pub law : (ts : List Token) → q.reads (unlined ts) ≡ seen e (r.reads ts)

pub blind_nothing : {A B : Type 0} {e : A → B} {x : A} {y : B} → y ≡ e x
    → Blind e (nothing x) (nothing y)
blind_nothing h = record { law = λ ts. ap (λ z. Ok (z, unlined ts)) h }

unless_seen : {A B : Type 0} (e : A → B) (m : Option Mark) (x : A) (t : Token) (ts : List Token)
    → unless_marked m (e x) (kept t) (unlined ts) ≡ seen e (unless_marked m x t ts)
unless_seen e None x t ts = refl
unless_seen e (Some m) x t ts = refl

found_seen : {A B : Type 0} (e : A → B) (o : Option A) (m : Option Mark) (t : Token)
    (ts : List Token) → found (option_seen e o) m (kept t) (unlined ts) ≡ seen e (found o m t ts)
found_seen e None m t ts = refl
found_seen e (Some x) m t ts = unless_seen e m x t ts

token_seen : {A B : Type 0} (e : A → B) (value : Token → Option A) (mark : Token → Option Mark)
    (other : Token → Option B) (mark_ : Token → Option Mark)
    → ((t : Token) → other (kept t) ≡ option_seen e (value t))
    → ((t : Token) → mark_ (kept t) ≡ mark t) → (ts : List Token)
    → (token other mark_).reads (unlined ts) ≡ seen e ((token value mark).reads ts)
token_seen e value mark other mark_ v m [] = refl
token_seen e value mark other mark_ v m (t ∷ ts) =
    rw (v t, m t) (found_seen e (value t) (mark t) t ts)

pub blind_token : {A B : Type 0} {e : A → B} {value : Token → Option A} {mark : Token → Option Mark}
    {other : Token → Option B} {mark_ : Token → Option Mark}
    → ((t : Token) → other (kept t) ≡ option_seen e (value t))
    → ((t : Token) → mark_ (kept t) ≡ mark t) → Blind e (token value mark) (token other mark_)
blind_token {A} {B} {e} {value} {mark} {other} {mark_} v m =
    record { law = token_seen e value mark other mark_ v m }

go_seen : {A B C D : Type 0} (e : A → B) (d : C → D) (a : Answer A) (p : A → Read C)
    (q : B → Read D) → ((x : A) (us : List Token) → q (e x) (unlined us) ≡ seen d (p x us))
    → go_on (seen e a) q ≡ seen d (go_on a p)
go_seen e d (Ok r) p q h = h r.0 r.1
go_seen e d (Err r) p q h = refl

pub blind_also : {A B C D : Type 0} {e : A → B} {d : C → D} {r : Rule A} {q : Rule B}
    {f : A → Rule C} {g : B → Rule D} → Blind e r q
    → ((x : A) (y : B) → y ≡ e x → Blind d (f x) (g y)) → Blind d (r >>= f) (q >>= g)
blind_also {A} {B} {C} {D} {e} {d} {r} {q} {f} {g} first second =
    record {
      law = λ ts. ap (λ a. go_on a (λ y. (g y).reads)) (first.law ts)
          ∙ go_seen e d (r.reads ts) (λ x. (f x).reads) (λ y. (g y).reads)
          (λ x us. (second x (e x) refl).law us);
    }

passes_seen : (test other : Token → Bool) → ((t : Token) → other (kept t) ≡ test t)
    → (ts : List Token) → passes other (head (unlined ts)) ≡ passes test (head ts)
passes_seen test other h [] = refl
passes_seen test other h (t ∷ ts) = h t

way_seen : {A B : Type 0} (e : A → B) (b : Bool) (x y : Answer A) (u v : Answer B) → u ≡ seen e x
    → v ≡ seen e y → cond b u v ≡ seen e (cond b x y)
way_seen e true x y u v h k = h
way_seen e false x y u v h k = k

pub blind_choice : {A B : Type 0} {e : A → B} {test other : Token → Bool} {r s : Rule A}
    {q p : Rule B} → ((t : Token) → other (kept t) ≡ test t) → Blind e r q → Blind e s p
    → Blind e (choice test r s) (choice other q p)
blind_choice {A} {B} {e} {test} {other} {r} {s} {q} {p} h first second = record {
  law = λ ts. ap (λ b. cond b (q.reads (unlined ts)) (p.reads (unlined ts)))
      (passes_seen test other h ts)
      ∙ way_seen e (passes test (head ts)) (r.reads ts) (s.reads ts) (q.reads (unlined ts))
      (p.reads (unlined ts)) (first.law ts) (second.law ts);
}

cons_seen : {A B : Type 0} (e : A → B) (x : A) (a : Answer (List A))
    → go_on (seen (map e) a) (λ ys us. Ok (e x ∷ ys, us))
    ≡ seen (map e) (go_on a (λ xs us. Ok (x ∷ xs, us)))
cons_seen e x (Ok r) = refl
cons_seen e x (Err r) = refl

up_to_seen : {C D : Type 0} (e : C → D) (test other : Token → Bool)
    (h : (t : Token) → other (kept t) ≡ test t) (p : C → Read C) (q : D → Read D)
    → ((c : C) (ts : List Token) → q (e c) (unlined ts) ≡ seen e (p c ts))
    → (n : ℕ) (c : C) (ts : List Token)
    → read_up_to other q (λ d x. x) n (e c) (unlined ts)
    ≡ seen (map e) (read_up_to test p (λ d x. x) n c ts)
unfolding read_up_to
up_to_seen e test other h p q each zero c ts = refl
up_to_seen {C} {D} e test other h p q each (suc n) c ts =
    let more : (x : C) (us : List Token)
    → go_on (read_up_to other q (λ d y. y) n (e x) (unlined us)) (λ ys vs. Ok (e x ∷ ys, vs))
    ≡ seen (map e) (go_on (read_up_to test p (λ d y. y) n x us) (λ xs vs. Ok (x ∷ xs, vs))) =
    λ x us.
    ap (λ a. go_on a (λ ys vs. Ok (e x ∷ ys, vs))) (up_to_seen e test other h p q each n x us)
    ∙ cons_seen e x (read_up_to test p (λ d y. y) n x us)
    in
    let turn =
    ap (λ a. go_on a (λ y us.
    go_on (read_up_to other q (λ d z. z) n y us) (λ ys vs. Ok (y ∷ ys, vs)))) (each c ts)
    ∙ go_seen e (map e) (p c ts)
    (λ x us. go_on (read_up_to test p (λ d z. z) n x us) (λ xs vs. Ok (x ∷ xs, vs)))
    (λ y us. go_on (read_up_to other q (λ d z. z) n y us) (λ ys vs. Ok (y ∷ ys, vs))) more in
    rw (passes_seen test other h ts) (way_seen (map e) (passes test (head ts)) _ _ _ _ turn refl)

marked_seen : {A B : Type 0} (e : A → B) (value : Token → Option A) (test : Token → Bool)
    (mark : Bool → Token → Option Mark) (value_ : Token → Option B) (test_ : Token → Bool)
    (mark_ : Bool → Token → Option Mark) → ((t : Token) → value_ (kept t) ≡ option_seen e (value t))
    → ((t : Token) → test_ (kept t) ≡ test t)
    → ((b : Bool) (t : Token) → mark_ b (kept t) ≡ mark b t) → (ts : List Token)
    → read_marked value_ test_ mark_ (unlined ts) ≡ seen e (read_marked value test mark ts)
marked_seen e value test mark value_ test_ mark_ v h m [] = refl
marked_seen e value test mark value_ test_ mark_ v h m (t ∷ ts) =
    rw (v t, passes_seen test test_ h ts, m (passes test (head ts)) t)
    (found_seen e (value t) (mark (passes test (head ts)) t) t ts)

length_seen : (ts : List Token) → length (unlined ts) ≡ length ts
length_seen [] = refl
length_seen (t ∷ ts) = ap suc (length_seen ts)

many_seen : {C D : Type 0} (e : C → D) (test other : Token → Bool)
    (h : (t : Token) → other (kept t) ≡ test t) (p : C → Read C) (q : D → Read D)
    → ((c : C) (ts : List Token) → q (e c) (unlined ts) ≡ seen e (p c ts))
    → (c : C) (ts : List Token)
    → read_many other q (λ d x. x) (e c) (unlined ts)
    ≡ seen (map e) (read_many test p (λ d x. x) c ts)
unfolding read_many
many_seen e test other h p q each c ts =
    rw (length_seen ts) (up_to_seen e test other h p q each (length ts) c ts)

last_seen : {C D : Type 0} (e : C → D) (c : C) (cs : List C) → last (e c) (map e cs) ≡ e (last c cs)
last_seen e c [] = refl
last_seen e c (x ∷ xs) = last_seen e x xs

pub blind_loop : {C D : Type 0} {e : C → D} {test other : Token → Bool} {r : C → Rule C}
    {q : D → Rule D} (c : C) (d : D) → d ≡ e c → ((t : Token) → other (kept t) ≡ test t)
    → ((x : C) (y : D) → y ≡ e x → Blind e (r x) (q y)) → Blind e (loop test r c) (loop other q d)
blind_loop {C} {D} {e} {test} {other} {r} {q} c d same h each =
    rw same (blind_also {e = map e} {r = turns test r c} {q = turns other q (e c)}
    (record {
      law = many_seen e test other h (λ x. (r x).reads) (λ y. (q y).reads)
          (λ x. (each x (e x) refl).law) c;
    })
    (λ cs ds eq. blind_nothing (ap (last (e c)) eq ∙ last_seen e c cs)))

line_ends_blind : Blind (λ u. u) line_ends line_ends
line_ends_blind = blind_loop tt tt refl (λ t. refl)
    (λ u v eq. blind_token (λ t. sym (option_same _)) (λ t. refl))

pub blind_lexeme : {A B : Type 0} {e : A → B} {value : Token → Option A}
    {mark : Token → Option Mark} {other : Token → Option B} {mark_ : Token → Option Mark}
    → ((t : Token) → other (kept t) ≡ option_seen e (value t))
    → ((t : Token) → mark_ (kept t) ≡ mark t) → Blind e (lexeme value mark) (lexeme other mark_)
blind_lexeme v m = blind_also (blind_token v m)
    (λ x y eq. blind_also line_ends_blind (λ u w k. blind_nothing eq))

ended_seen : {A B : Type 0} (e : A → B) (a : Answer A) (y : B) → seen e a ≡ Ok (y, [])
    → (x : A) × (a ≡ Ok (x, [])) × (e x ≡ y)
ended_seen e (Ok (x, [])) y h = (x, refl, (ok_is (e x) y [] [] h).0)
ended_seen e (Ok (x, t ∷ ts)) y h = absurd (let k = (ok_is (e x) y (unlined (t ∷ ts)) [] h).1 in cc)
ended_seen e (Err r) y h = absurd cc

-- what is spelled without lines is spelled, but for lines
pub spelled_blind : {A B : Type 0} {e : A → B} {r : Rule A} {q : Rule B} {G : Option Token → Type 0}
    → Good r G → Blind e r q → (ts : List Token) (y : B) → q.reads (unlined ts) ≡ Ok (y, [])
    → (x : A) × Spells r.derives ts x × (e x ≡ y)
spelled_blind {A} {B} {e} {r} {q} good blind ts y h =
    let k = ended_seen e (r.reads ts) y (sym (blind.law ts) ∙ h) in
    (k.0, spelled good ts k.0 k.1, k.2)

-- ---- rules whose values have no lines

pub same_nothing : {A : Type 0} {x : A} → Blind (λ y. y) (nothing x) (nothing x)
same_nothing = blind_nothing refl

pub same_token : {A : Type 0} {value : Token → Option A} {mark : Token → Option Mark}
    → ((t : Token) → value (kept t) ≡ value t) → ((t : Token) → mark (kept t) ≡ mark t)
    → Blind (λ x. x) (token value mark) (token value mark)
same_token v m = blind_token (λ t. v t ∙ sym (option_same _)) m

pub same_lexeme : {A : Type 0} {value : Token → Option A} {mark : Token → Option Mark}
    → ((t : Token) → value (kept t) ≡ value t) → ((t : Token) → mark (kept t) ≡ mark t)
    → Blind (λ x. x) (lexeme value mark) (lexeme value mark)
same_lexeme v m = blind_lexeme (λ t. v t ∙ sym (option_same _)) m

pub same_also : {A B : Type 0} {r : Rule A} {f : A → Rule B} → Blind (λ x. x) r r
    → ((x : A) → Blind (λ y. y) (f x) (f x)) → Blind (λ y. y) (r >>= f) (r >>= f)
same_also first second = blind_also first (λ x y eq. rw eq (second x))

pub same_lookahead : {A B : Type 0} {value : Token → Option A} {test : Token → Bool}
    {mark : Bool → Token → Option Mark} {f : A → Rule B} → ((t : Token) → value (kept t) ≡ value t)
    → ((t : Token) → test (kept t) ≡ test t) → ((b : Bool) (t : Token) → mark b (kept t) ≡ mark b t)
    → ((x : A) → Blind (λ y. y) (f x) (f x))
    → Blind (λ y. y) (lookahead value test mark f) (lookahead value test mark f)
same_lookahead {A} {B} {value} {test} {mark} {f} v h m second = record {
  law = λ ts.
      ap (λ a. go_on a (λ y. (f y).reads))
      (marked_seen (λ x. x) value test mark value test mark (λ t. v t ∙ sym (option_same _))
      h m ts)
      ∙ go_seen (λ x. x) (λ x. x) (read_marked value test mark ts) (λ x. (f x).reads)
      (λ x. (f x).reads) (λ x us. (second x).law us);
}

pub same_choice : {A : Type 0} {test : Token → Bool} {r s : Rule A}
    → ((t : Token) → test (kept t) ≡ test t) → Blind (λ x. x) r r → Blind (λ x. x) s s
    → Blind (λ x. x) (choice test r s) (choice test r s)
same_choice h first second = blind_choice h first second

pub same_loop : {C : Type 0} {test : Token → Bool} {r : C → Rule C} (c : C)
    → ((t : Token) → test (kept t) ≡ test t) → ((x : C) → Blind (λ y. y) (r x) (r x))
    → Blind (λ y. y) (loop test r c) (loop test r c)
same_loop {C} {test} {r} c h each = blind_loop {r = r} {q = r} c c refl h (λ x y eq. rw eq (each x))

pub line_ends_same : Blind (λ u. u) line_ends line_ends
line_ends_same = line_ends_blind

comma_same : Blind (λ u. u) comma comma
comma_same = same_choice (λ t. refl) (same_lexeme (λ t. refl) (λ t. refl)) same_nothing

pub some_names_same : (ns : List (List ℕ)) → Blind (λ x. x) (some_names ns) (some_names ns)
some_names_same ns = same_also (same_token (λ t. refl) (λ t. refl))
    (λ n. same_loop (ns ++ n ∷ []) (λ t. refl)
    (λ ms. same_also comma_same
    (λ u. same_also (same_token (λ t. refl) (λ t. refl)) (λ m. same_nothing))))

pub names_same : (ns : List (List ℕ)) → Blind (λ x. x) (names ns) (names ns)
names_same ns = same_choice (λ t. refl) (some_names_same ns) same_nothing

pub braces_same : Blind (λ u. u) braces braces
braces_same = same_also (same_lexeme (λ t. refl) (λ t. refl))
    (λ u. same_also (same_loop tt (λ t. refl) (λ v. same_token (λ t. refl) (λ t. refl)))
    (λ v. same_lexeme (λ t. refl) (λ t. refl)))
