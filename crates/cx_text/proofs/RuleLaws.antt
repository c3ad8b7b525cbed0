-- Every way to make a rule keeps what a rule owes.
use Rattle.std.proofs.Common.{◌≡◌, Bool, true, false, List, [], ◌∷◌, ◌++◌, Option, Some, None, refl, sym, subst}
use Rattle.std.specs.Prelude.{MatchBool}
use Rattle.std.proofs.lemmas.List.{append-nil}
use Rattle.cx_text.specs.declared.token.Kind.TheVariants.{LineEnd}
use Rattle.cx_text.specs.declared.stop.Mark.{Mark}
use Rattle.cx_text.specs.declared.token.Token.{Token}
use Rattle.cx_text.specs.Tokens.{is_line_end}
use Rattle.cx_text.specs.Grammar.{Item, Grammar, next_of, passes}
use Rattle.cx_text.specs.Grammar as grammar
use Rattle.cx_text.specs.Rules.{Rule, token, nothing, ◌>>=◌, choice, turns, loop, if_is, one_line_end, line_ends, lexeme}
use Rattle.cx_text.proofs.Laws.{Means, Reads, Joins, Completes, reads_token, reads_nothing, reads_also}
use Rattle.cx_text.proofs.Choice.{reads_choice, at_other}
use Rattle.cx_text.proofs.Many.{IsFull, token_full, also_full, reads_many, short_of}
use Rattle.cx_text.proofs.Loops.{Short}

-- a rule is read as it derives, where what G allows may follow
pub record Good {A : Type 0} (r : Rule A) (G : Option Token → Type 0) : Type 0 where
  pub law : Reads r.reads r.derives G

-- a rule takes a token
pub record Full {A : Type 0} (r : Rule A) : Type 0 where
  pub law : IsFull r.derives

-- a rule has a list, whose first token G allows
pub record Ends {A : Type 0} (r : Rule A) (next : Option Token)
    (G : Option Token → Type 0) : Type 0 where
  pub law : Completes r.derives next G

abbrev pub Any : Option Token → Type 0
Any next = Unit {0}

abbrev pub Not : (Token → Bool) → Option Token → Type 0
Not test next = passes test next ≡ false

-- ---- no token

pub nothing_good : {A : Type 0} {x : A} {G : Option Token → Type 0} → Good (nothing x) G
nothing_good {A} {x} {G} = record { law = reads_nothing x G }

pub nothing_ends : {A : Type 0} {x : A} {next : Option Token} {G : Option Token → Type 0} → G next
    → Ends (nothing x) next G
nothing_ends {A} {x} h = record { law = (x, [], (refl, refl), h) }

-- ---- one token

pub token_good : {A : Type 0} {value : Token → Option A} {mark : Token → Option Mark}
    {G : Option Token → Type 0} → Means value → Good (token value mark) G
token_good {A} {value} {mark} {G} one = record { law = reads_token value mark one G }

pub token_is_full : {A : Type 0} {value : Token → Option A} {mark : Token → Option Mark}
    → Full (token value mark)
token_is_full {A} {value} {mark} = record { law = token_full value mark }

pub token_ends : {A : Type 0} {value : Token → Option A} {mark : Token → Option Mark}
    {next : Option Token} {G : Option Token → Type 0} (one : Means value) → G (Some one.tok)
    → Ends (token value mark) next G
token_ends {A} {value} {mark} one g =
    record { law = (one.x, (one.tok, mark one.tok) ∷ [], (one.tok, one.is, refl), g) }

-- ---- one rule, and then another

-- what two rules owe each other
pub record Fits {A B : Type 0} (r : Rule A) (G : Option Token → Type 0) (f : A → Rule B)
    (H : Option Token → Type 0) : Type 0 where
  pub law : Joins r.derives G (λ x. (f x).derives) H

pub also_good : {A B : Type 0} {r : Rule A} {f : A → Rule B} {G H : Option Token → Type 0}
    → Good r G → ((x : A) → Good (f x) H) → Fits r G f H → Good (r >>= f) H
also_good {A} {B} {r} {f} {G} {H} first second fits =
    record {
      law = reads_also r.reads r.derives G (λ x. (f x).reads) (λ x. (f x).derives)
          H first.law (λ x. (second x).law) fits.law;
    }

-- after a rule that anything may follow
pub fits_any : {A B : Type 0} {r : Rule A} {f : A → Rule B} {H : Option Token → Type 0}
    → ((x : A) (next : Option Token) → H next → Ends (f x) next Any) → Fits r Any f H
fits_any ends = record {
  law =
      record {
        one = None;
        allowed = tt;
        ends = λ x next h. (ends x next h).law;
        through = λ x y next other s h. tt;
      };
}

-- before one that takes a token
pub fits_full : {A B : Type 0} {r : Rule A} {f : A → Rule B} {G H : Option Token → Type 0}
    (one : Option Token) → G one → ((x : A) → Full (f x))
    → ((x : A) (next : Option Token) → H next → Ends (f x) next G) → Fits r G f H
fits_full one g full ends =
    record {
      law = record {
        one = one;
        allowed = g;
        ends = λ x next h. (ends x next h).law;
        through = λ x y next other s h. absurd ((full x).law y next s);
      };
    }

-- before one that is allowed whatever the first is
pub fits_same : {A B : Type 0} {r : Rule A} {f : A → Rule B} {G : Option Token → Type 0}
    (one : Option Token) → G one → ((x : A) (next : Option Token) → G next → Ends (f x) next G)
    → Fits r G f G
fits_same one g ends = record {
  law =
      record {
        one = one;
        allowed = g;
        ends = λ x next h. (ends x next h).law;
        through = λ x y next other s h. h;
      };
}

pub also_is_full : {A B : Type 0} {r : Rule A} (f : A → Rule B) → Full r → Full (r >>= f)
also_is_full {A} {B} {r} f full = record { law = also_full r.derives (λ x. (f x).derives) full.law }

-- a token, and then a rule
pub token_also_ends : {A B : Type 0} {value : Token → Option A} {mark : Token → Option Mark}
    {f : A → Rule B} {next : Option Token} {G : Option Token → Type 0} (one : Means value)
    → G (Some one.tok) → ((x : A) → Ends (f x) next Any) → Ends (token value mark >>= f) next G
token_also_ends {A} {B} {value} {mark} one g ends =
    let e = (ends one.x).law in
    record {
      law = (
        e.0,
        (one.tok, mark one.tok) ∷ e.1,
        (one.x, (one.tok, mark one.tok) ∷ [], e.1, refl, (one.tok, one.is, refl), e.2),
        g,
      );
    }

-- a rule may have no token, before what F allows
pub record Empty {A : Type 0} (r : Rule A) (F : Option Token → Type 0) : Type 0 where
  pub x : A
  pub law : (n : Option Token) → F n → r.derives x [] n

pub empty_also_ends : {A B : Type 0} {r : Rule A} {f : A → Rule B} {next : Option Token}
    {F G : Option Token → Type 0} → Empty r F → ((n : Option Token) → F n → G n)
    → ((x : A) → Ends (f x) next F) → Ends (r >>= f) next G
empty_also_ends empty weaker ends =
    let e = (ends empty.x).law in
    record { law = (e.0, e.1, (empty.x, [], e.1, refl, empty.law _ e.3, e.2), weaker _ e.3) }

-- ---- what may follow

pub weaker_good : {A : Type 0} {r : Rule A} {G H : Option Token → Type 0} → Good r G
    → ((n : Option Token) → H n → G n) → Good r H
weaker_good {A} {r} {G} {H} good weaker = record {
  law = record {
    again = good.law.again;
    takes = good.law.takes;
    stops = λ ts w rest e. let s = good.law.stops ts w rest e in
        record {
          before = s.before;
          parts = s.parts;
          begins = λ next h. s.begins next (weaker next h);
          same = s.same;
          past = s.past;
        };
    moves = λ x ms next other s h. good.law.moves x ms next other s (weaker other h);
  };
}

pub weaker_ends : {A : Type 0} {r : Rule A} {next : Option Token} {F G : Option Token → Type 0}
    → Ends r next F → ((n : Option Token) → F n → G n) → Ends r next G
weaker_ends ends weaker = let e = ends.law in record { law = (e.0, e.1, e.2, weaker _ e.3) }

-- ---- again and again

pub turns_good : {C : Type 0} {test : Token → Bool} {r : C → Rule C} {c : C}
    {G H : Option Token → Type 0} → ((d : C) → Good (r d) G) → ((d : C) → Full (r d))
    → ((n : Option Token) → H n → Not test n) → ((n : Option Token) → H n → G n)
    → Good (turns test r c) H
turns_good {C} {test} {r} {c} {G} {H} good full stays allows =
    record {
      law = reads_many test (λ d. (r d).reads) (λ d x. x) (λ d. (r d).derives) G H
          (λ d. (good d).law) (record { full = λ d. (full d).law; stays = stays; allows = allows })
          c;
    }

pub loop_good : {C : Type 0} {test : Token → Bool} {r : C → Rule C} {c : C}
    {G H : Option Token → Type 0} → ((d : C) → Good (r d) G) → ((d : C) → Full (r d))
    → ((n : Option Token) → H n → Not test n) → ((n : Option Token) → H n → G n)
    → (one : Option Token) → H one → Good (loop test r c) H
loop_good good full stays allows one h =
    also_good (turns_good good full stays allows) (λ cs. nothing_good)
    (fits_same one h (λ cs next n. nothing_ends n))

abbrev pub loop_empty : {C : Type 0} {test : Token → Bool} (r : C → Rule C) (c : C)
    → Empty (loop test r c) (Not test)
loop_empty r c = record { x = c; law = λ n h. ([], [], [], refl, (h, refl), (refl, refl)) }

-- ---- a choice

pub choice_good : {A : Type 0} {test : Token → Bool} {r s : Rule A} {H : Option Token → Type 0}
    → Good r H → Good s H → Full r
    → ((x : A) (next other : Option Token) → s.derives x [] next → H other → Not test other)
    → ((next : Option Token) → H next → Ends s next (Not test)) → Good (choice test r s) H
choice_good {A} {test} {r} {s} {H} first second full stays ends = record {
  law = reads_choice test r.reads s.reads r.derives s.derives H first.law second.law (record {
    full = full.law;
    stays = stays;
    some = λ next h. let e = (ends next h).law in (e.0, e.1, at_other _ _ _ e.3 e.2);
  });
}

pub option_good : {A : Type 0} {test : Token → Bool} {r : Rule A} {x : A}
    {H : Option Token → Type 0} → Good r H → Full r → ((n : Option Token) → H n → Not test n)
    → Good (choice test r (nothing x)) H
option_good good full stays =
    choice_good good nothing_good full (λ y next other s h. stays other h)
    (λ next h. nothing_ends (stays next h))

pub ways_good : {A : Type 0} {test : Token → Bool} {r s : Rule A} {H : Option Token → Type 0}
    → Good r H → Good s H → Full r → Full s
    → ((next : Option Token) → H next → Ends s next (Not test)) → Good (choice test r s) H
ways_good first second full other ends =
    choice_good first second full (λ x next o e h. absurd (other.law x next e)) ends

full_at : (b : Bool) (P Q : Type 0) → (P → ⊥) → (Q → ⊥) → MatchBool b P Q → ⊥
full_at true P Q p q h = p h
full_at false P Q p q h = q h

pub ways_full : {A : Type 0} {test : Token → Bool} {r s : Rule A} → Full r → Full s
    → Full (choice test r s)
ways_full {A} {test} {r} {s} first second =
    record {
      law = λ x next h.
          full_at _ (r.derives x [] next) (s.derives x [] next) (first.law x next)
          (second.law x next) h;
    }

-- ---- tokens with LineEnds behind them

abbrev pub a_line_end : Means (if_is is_line_end)
a_line_end = record { tok = record { kind = LineEnd; text = []; line = 0 }; x = tt; is = refl }

pub line_ends_good : Good line_ends (Not is_line_end)
line_ends_good = loop_good (λ u. token_good a_line_end) (λ u. token_is_full) (λ n h. h) (λ n h. h)
    None refl

abbrev pub line_ends_empty : Empty line_ends (Not is_line_end)
line_ends_empty = record { x = tt; law = λ n h. ([], [], [], refl, (h, refl), (refl, refl)) }

pub lexeme_good : {A : Type 0} {value : Token → Option A} {mark : Token → Option Mark} → Means value
    → Good (lexeme value mark) (Not is_line_end)
lexeme_good one = also_good (token_good one)
    (λ x. also_good line_ends_good (λ u. nothing_good)
    (fits_same None refl (λ u next h. nothing_ends h)))
    (fits_any (λ x next h. empty_also_ends line_ends_empty (λ n g. tt) (λ u. nothing_ends h)))

pub lexeme_full : {A : Type 0} {value : Token → Option A} {mark : Token → Option Mark}
    → Full (lexeme value mark)
lexeme_full = also_is_full _ token_is_full

-- ---- parts: rules that are good, take a token, and have a list, whose first token F allows

pub record Part {A : Type 0} (r : Rule A) (F H : Option Token → Type 0) : Type 0 where
  pub good : Good r H
  pub full : Full r
  pub ends : (next : Option Token) → H next → Ends r next F
  pub one : Option Token
  pub allowed : F one

lexeme_derives : {A : Type 0} (value : Token → Option A) (mark : Token → Option Mark)
    (one : Means value) (n : Option Token) → Not is_line_end n
    → (lexeme value mark).derives one.x ((one.tok, mark one.tok) ∷ []) n
lexeme_derives value mark one n h = (
  one.x,
  (one.tok, mark one.tok) ∷ [],
  [],
  refl,
  (one.tok, one.is, refl),
  (tt, [], [], refl, line_ends_empty.law n h, (refl, refl)),
)

-- a token, and then a part
pub lexeme_then : {A B : Type 0} {value : Token → Option A} {mark : Token → Option Mark}
    {f : A → Rule B} {F H : Option Token → Type 0} (one : Means value) → F (Some one.tok)
    → ((x : A) → Part (f x) (Not is_line_end) H) → Part (lexeme value mark >>= f) F H
lexeme_then {A} {B} {value} {mark} {f} one g part = record {
  good = also_good (lexeme_good one) (λ x. (part x).good)
      (fits_full (part one.x).one (part one.x).allowed (λ x. (part x).full)
      (λ x next h. (part x).ends next h));
  full = also_is_full f lexeme_full;
  ends = λ next h. let e = ((part one.x).ends next h).law in
      record {
        law = (
          e.0,
          (one.tok, mark one.tok) ∷ e.1,
          (
            one.x,
            (one.tok, mark one.tok) ∷ [],
            e.1,
            refl,
            lexeme_derives value mark one _ e.3,
            e.2,
          ),
          g,
        );
      };
  one = Some one.tok;
  allowed = g;
}

-- the last token
pub lexeme_last : {A B : Type 0} {value : Token → Option A} {mark : Token → Option Mark} {g : A → B}
    {F : Option Token → Type 0} (one : Means value) → F (Some one.tok)
    → Part (lexeme value mark >>= λ x. nothing (g x)) F (Not is_line_end)
lexeme_last {A} {B} {value} {mark} {g} one f = record {
  good = also_good (lexeme_good one) (λ x. nothing_good)
      (fits_same None refl (λ x next h. nothing_ends h));
  full = also_is_full _ lexeme_full;
  ends = λ next h. record {
    law = (
      g one.x,
      (one.tok, mark one.tok) ∷ [],
      (
        one.x,
        (one.tok, mark one.tok) ∷ [],
        [],
        refl,
        lexeme_derives value mark one next h,
        (refl, refl),
      ),
      f,
    );
  };
  one = Some one.tok;
  allowed = f;
}

pub lexeme_alone : {A : Type 0} {value : Token → Option A} {mark : Token → Option Mark}
    {F : Option Token → Type 0} (one : Means value) → F (Some one.tok)
    → Part (lexeme value mark) F (Not is_line_end)
lexeme_alone {A} {value} {mark} one f = record {
  good = lexeme_good one;
  full = lexeme_full;
  ends = λ next h. record {
    law =
        (one.x, (one.tok, mark one.tok) ∷ [], lexeme_derives value mark one next h, f);
  };
  one = Some one.tok;
  allowed = f;
}

pub token_then : {A B : Type 0} {value : Token → Option A} {mark : Token → Option Mark}
    {f : A → Rule B} {F G H : Option Token → Type 0} (one : Means value) → F (Some one.tok)
    → ((x : A) → Part (f x) G H) → Part (token value mark >>= f) F H
token_then {A} {B} {value} {mark} {f} one g part = record {
  good = also_good (token_good one) (λ x. (part x).good)
      (fits_any (λ x next h. weaker_ends ((part x).ends next h) (λ n o. tt)));
  full = also_is_full f token_is_full;
  ends = λ next h. token_also_ends one g (λ x. weaker_ends ((part x).ends next h) (λ n o. tt));
  one = Some one.tok;
  allowed = g;
}

pub weaker_part : {A : Type 0} {r : Rule A} {F G H : Option Token → Type 0} → Part r F H
    → ((n : Option Token) → F n → G n) → Part r G H
weaker_part part weaker =
    record {
      good = part.good;
      full = part.full;
      ends = λ next h. weaker_ends (part.ends next h) weaker;
      one = part.one;
      allowed = weaker part.one part.allowed;
    }

second_full : {A B : Type 0} (S : Grammar A) (R : A → Grammar B) → ((x : A) → IsFull (R x))
    → IsFull (grammar.also S R)
second_full S R full y next (x, [], back, e, s, r) =
    full x y next (subst (λ (ms : List Item). R x y ms next) (sym e) r)
second_full S R full y next (x, f ∷ front, back, e, s, r) = absurd cc

pub second_is_full : {A B : Type 0} (r : Rule A) {f : A → Rule B} → ((x : A) → Full (f x))
    → Full (r >>= f)
second_is_full r {f} full =
    record { law = second_full r.derives (λ x. (f x).derives) (λ x. (full x).law) }

-- what may be empty, and then a part
pub empty_then : {A B : Type 0} {r : Rule A} {f : A → Rule B} {F G H K : Option Token → Type 0}
    → Good r G → Empty r F → ((n : Option Token) → K n → G n × F n) → ((x : A) → Part (f x) K H)
    → Part (r >>= f) K H
empty_then {A} {B} {r} {f} {F} {G} {H} {K} good empty weaker part = record {
  good = also_good good (λ x. (part x).good)
      (fits_full (part empty.x).one (weaker _ (part empty.x).allowed).0 (λ x. (part x).full)
      (λ x next h. weaker_ends ((part x).ends next h) (λ n k. (weaker n k).0)));
  full = second_is_full r (λ x. (part x).full);
  ends = λ next h.
      let e = ((part empty.x).ends next h).law in
      record { law = (e.0, e.1, (empty.x, [], e.1, refl, empty.law _ (weaker _ e.3).1, e.2), e.3) };
  one = (part empty.x).one;
  allowed = (part empty.x).allowed;
}

pub empty_ends : {A : Type 0} {r : Rule A} {next : Option Token} {F G : Option Token → Type 0}
    → Empty r F → F next → G next → Ends r next G
empty_ends empty f g = record { law = (empty.x, [], empty.law _ f, g) }

-- a part, and then a part
pub part_then : {A B : Type 0} {r : Rule A} {f : A → Rule B} {F G H : Option Token → Type 0}
    (one : Option Token) → G one → Part r F G → ((x : A) → Part (f x) G H) → Part (r >>= f) F H
part_then {A} {B} {r} {f} {F} {G} {H} one g first part =
    record {
      good = also_good first.good (λ x. (part x).good)
          (fits_full one g (λ x. (part x).full) (λ x next h. (part x).ends next h));
      full = also_is_full f first.full;
      ends = λ next h.
          let a = (first.ends one g).law in
          let e = ((part a.0).ends next h).law in
          let moved = first.good.law.moves a.0 a.1 one (next_of e.1 next) a.2 e.3 in
          let P : List Item → Type 0 = λ ms. r.derives a.0 ms (next_of e.1 next)
          → F (next_of ms one) → F (next_of (ms ++ e.1) next) in
          let at : (ms : List Item)
          → P ms = λ ms. elim ms as P
          [ [] ↦ λ s q. absurd (first.full.law a.0 _ s) | (i ∷ is) ↦ λ s q. q ] in
          record { law = (e.0, a.1 ++ e.1, (a.0, a.1, e.1, refl, moved, e.2), at a.1 moved a.3) };
      one = first.one;
      allowed = first.allowed;
    }

-- one part or another
pub part_choice : {A : Type 0} {test : Token → Bool} {r s : Rule A} {E F H : Option Token → Type 0}
    → Part r E H → Part s F H → ((n : Option Token) → F n → Not test n) → Part (choice test r s) F H
part_choice {A} {test} {r} {s} {E} {F} {H} first second other = record {
  good = ways_good first.good second.good first.full second.full
      (λ next h. weaker_ends (second.ends next h) other);
  full = ways_full first.full second.full;
  ends = λ next h. let e = (second.ends next h).law in
      record { law = (e.0, e.1, at_other _ _ _ (other _ e.3) e.2, e.3) };
  one = second.one;
  allowed = second.allowed;
}

pub part_end : {A B : Type 0} {r : Rule A} {g : A → B} {F H : Option Token → Type 0}
    (one : Option Token) → H one → Part r F H → Part (r >>= λ x. nothing (g x)) F H
part_end {A} {B} {r} {g} {F} {H} one h part = record {
  good = also_good part.good (λ x. nothing_good) (fits_same one h (λ x next n. nothing_ends n));
  full = also_is_full _ part.full;
  ends = λ next n. let e = (part.ends next n).law in
      record { law = (g e.0, e.1, (e.0, e.1, [], sym (append-nil e.1), e.2, (refl, refl)), e.3) };
  one = part.one;
  allowed = part.allowed;
}

pub short_part : {A : Type 0} {r : Rule A} {G : Option Token → Type 0} → Good r G → Full r → Short r
short_part {A} {r} {G} good full = record { law = short_of r.reads r.derives G good.law full.law }

pub line_end_short : (u : Unit {0}) → Short (one_line_end u)
line_end_short u = short_part {G = Any} (token_good a_line_end) token_is_full

-- a part, and then turns that begin with it
pub part_loop : {A : Type 0} {test : Token → Bool} {r : Rule A} {q : A → Rule A}
    {F G H : Option Token → Type 0} → Part r F G → ((d : A) → Good (q d) G) → ((d : A) → Full (q d))
    → ((n : Option Token) → H n → Not test n) → ((n : Option Token) → H n → G n)
    → (one : Option Token) → H one → Part (r >>= λ x. loop test q x) F H
part_loop {A} {test} {r} {q} {F} {G} {H} part good full stays allows one h = record {
  good = also_good part.good (λ x. loop_good good full stays allows one h) (record {
    law = record {
      one = one;
      allowed = allows one h;
      ends = λ x next o. (empty_ends {G = G} (loop_empty q x) (stays next o) (allows next o)).law;
      through = λ x y next other s o. allows other o;
    };
  });
  full = also_is_full _ part.full;
  ends = λ next o.
      let e = (part.ends next (allows next o)).law in
      record {
        law = (
          e.0,
          e.1,
          (e.0, e.1, [], sym (append-nil e.1), e.2, (loop_empty q e.0).law next (stays next o)),
          e.3,
        );
      };
  one = part.one;
  allowed = part.allowed;
}

-- ---- what may be empty, after what may be empty

pub empty_chain : {A B : Type 0} {r : Rule A} {f : A → Rule B} {F G H : Option Token → Type 0}
    → Empty r F → ((x : A) → Empty (f x) G) → ((n : Option Token) → H n → F n × G n)
    → Empty (r >>= f) H
empty_chain first second each =
    record {
      x = (second first.x).x;
      law = λ n h. (
        first.x,
        [],
        [],
        refl,
        first.law n (each n h).0,
        (second first.x).law n (each n h).1,
      );
    }

pub nothing_empty : {A : Type 0} {x : A} {F : Option Token → Type 0} → Empty (nothing x) F
nothing_empty {A} {x} = record { x = x; law = λ n h. (refl, refl) }

pub option_empty : {A : Type 0} {test : Token → Bool} (r : Rule A) (x : A)
    → Empty (choice test r (nothing x)) (Not test)
option_empty r x = record { x = x; law = λ n h. at_other _ _ _ h (refl, refl) }

-- a rule, and then one that may be empty
pub then_empty : {A B : Type 0} {r : Rule A} {f : A → Rule B} {G H : Option Token → Type 0}
    (one : Option Token) → H one → Good r G → ((x : A) → Good (f x) H) → ((x : A) → Empty (f x) H)
    → ((n : Option Token) → H n → G n) → Good (r >>= f) H
then_empty {A} {B} {r} {f} {G} {H} one h first second empty weaker =
    also_good first second (record {
      law = record {
        one = one;
        allowed = weaker one h;
        ends = λ x next o. (empty_ends {G = G} (empty x) o (weaker next o)).law;
        through = λ x y next other s o. weaker other o;
      };
    })

-- a part, and then a rule that may be empty
pub part_then_empty : {A B : Type 0} {r : Rule A} {f : A → Rule B} {F G H : Option Token → Type 0}
    (one : Option Token) → H one → Part r F G → ((x : A) → Good (f x) H) → ((x : A) → Empty (f x) H)
    → ((n : Option Token) → H n → G n) → Part (r >>= f) F H
part_then_empty one h part second empty weaker = record {
  good = then_empty one h part.good second empty weaker;
  full = also_is_full _ part.full;
  ends = λ next o.
      let e = (part.ends next (weaker next o)).law in
      record {
        law = (
          (empty e.0).x,
          e.1,
          (e.0, e.1, [], sym (append-nil e.1), e.2, (empty e.0).law next o),
          e.3,
        );
      };
  one = part.one;
  allowed = part.allowed;
}

pub weaker_empty : {A : Type 0} {r : Rule A} {F G : Option Token → Type 0} → Empty r F
    → ((n : Option Token) → G n → F n) → Empty r G
weaker_empty empty weaker = record { x = empty.x; law = λ n g. empty.law n (weaker n g) }

-- ---- tails: rules that are good, and may have no token

pub record Tail {A : Type 0} (r : Rule A) (H : Option Token → Type 0) : Type 0 where
  pub good : Good r H
  pub empty : Empty r H
  pub one : Option Token
  pub allowed : H one

pub tail_end : {A : Type 0} {x : A} {H : Option Token → Type 0} (one : Option Token) → H one
    → Tail (nothing x) H
tail_end one h = record { good = nothing_good; empty = nothing_empty; one = one; allowed = h }

-- [ part ]
pub tail_option : {A : Type 0} {test : Token → Bool} {r : Rule A} {x : A}
    {F G H : Option Token → Type 0} (one : Option Token) → H one → Part r F G
    → ((n : Option Token) → H n → G n) → ((n : Option Token) → H n → Not test n)
    → Tail (choice test r (nothing x)) H
tail_option {A} {test} {r} {x} one h part weaker stays =
    record {
      good = option_good (weaker_good part.good weaker) part.full stays;
      empty = weaker_empty (option_empty r x) stays;
      one = one;
      allowed = h;
    }

-- { part }
pub tail_loop : {C : Type 0} {test : Token → Bool} {r : C → Rule C} {c : C}
    {F G H : Option Token → Type 0} (one : Option Token) → H one → ((d : C) → Part (r d) F G)
    → ((n : Option Token) → H n → G n) → ((n : Option Token) → H n → Not test n)
    → Tail (loop test r c) H
tail_loop {C} {test} {r} {c} one h part weaker stays =
    record {
      good = loop_good (λ d. (part d).good) (λ d. (part d).full) stays weaker one h;
      empty = weaker_empty (loop_empty r c) stays;
      one = one;
      allowed = h;
    }

pub tail_then : {A B : Type 0} {r : Rule A} {f : A → Rule B} {H : Option Token → Type 0} → Tail r H
    → ((x : A) → Tail (f x) H) → Tail (r >>= f) H
tail_then first second = record {
  good = then_empty first.one first.allowed first.good (λ x. (second x).good)
      (λ x. (second x).empty) (λ n h. h);
  empty = empty_chain first.empty (λ x. (second x).empty) (λ n h. (h, h));
  one = first.one;
  allowed = first.allowed;
}

pub part_then_tail : {A B : Type 0} {r : Rule A} {f : A → Rule B} {F G H : Option Token → Type 0}
    → Part r F G → ((n : Option Token) → H n → G n) → (one : Option Token) → H one
    → ((x : A) → Tail (f x) H) → Part (r >>= f) F H
part_then_tail part weaker one h tail =
    part_then_empty one h part (λ x. (tail x).good) (λ x. (tail x).empty) weaker

pub before_part : {A : Type 0} {r : Rule A} {F G H : Option Token → Type 0} → Part r F G
    → ((n : Option Token) → H n → G n) → Part r F H
before_part part weaker =
    record {
      good = weaker_good part.good weaker;
      full = part.full;
      ends = λ next h. part.ends next (weaker next h);
      one = part.one;
      allowed = part.allowed;
    }

-- a part, or else what may be empty
pub tail_choice : {A : Type 0} {test : Token → Bool} {r s : Rule A} {F H : Option Token → Type 0}
    → Part r F H → Tail s H → ((n : Option Token) → H n → Not test n) → Tail (choice test r s) H
tail_choice {A} {test} {r} {s} part tail stays = record {
  good = choice_good part.good tail.good part.full (λ x next other e h. stays other h)
      (λ next h. empty_ends tail.empty h (stays next h));
  empty = record { x = tail.empty.x; law = λ n h. at_other _ _ _ (stays n h) (tail.empty.law n h) };
  one = tail.one;
  allowed = tail.allowed;
}

-- the last token, where LineEnd isn't skipped
pub token_last : {A B : Type 0} {value : Token → Option A} {mark : Token → Option Mark} {g : A → B}
    {F H : Option Token → Type 0} (one : Means value) → F (Some one.tok)
    → Part (token value mark >>= λ x. nothing (g x)) F H
token_last {A} {B} {value} {mark} {g} {F} {H} one f = record {
  good = also_good {G = Any} (token_good one) (λ x. nothing_good)
      (fits_any (λ x next k. nothing_ends tt));
  full = also_is_full _ token_is_full;
  ends = λ next k. token_also_ends one f (λ x. nothing_ends tt);
  one = Some one.tok;
  allowed = f;
}
