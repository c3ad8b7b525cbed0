-- The piece that is taken at the front of a text is the one that stands there.
use Rattle.std.proofs.Common.{◌≡◌, ℕ, suc, ◌+◌, Bool, true, false, ◌&&◌, cond, List, [], ◌∷◌, ◌++◌, length, take, drop, Option, Some, None, refl, sym, ap, subst, ◌∙◌, arith}
use Rattle.std.specs.Prelude.{◌==◌}
use Rattle.std.specs.List.{list_all, prefix_len}
use Rattle.std.proofs.lemmas.Bool.{and_parts, eq-eqb, eqb-true}
use Rattle.std.proofs.lemmas.List.{take_at, drop_at, take-append-drop, append_assoc}
use Rattle.cx_text.specs.declared.token.Style.{Style}
use Rattle.cx_text.specs.declared.token.Style.TheVariants.{Ccl, Par, Thorns}
use Rattle.cx_text.specs.declared.byte.Role.{Role}
use Rattle.cx_text.specs.declared.byte.Role.TheVariants as roles
use Rattle.cx_text.specs.declared.byte.Class.{Class}
use Rattle.cx_text.specs.declared.byte.Class.TheVariants as classes
use Rattle.cx_text.specs.Bytes.{role_of, has, is_escapable, is_pair}
use Rattle.cx_text.specs.Pieces.{Piece, Blank, LineFeed, Comment, IgnoredLine, Joint, Word, Number, Quoted, Sign, Pair, QuotedByte, Plain, Escaped, is_ccl, bytes_of, quoted_bytes, starts, Longest, Closes, begins_pair, Stands, NoPiece}
use Rattle.cx_text.specs.Scanning.{front, behind, next_byte, onto, quoted, take_quoted, take_joint, take_sign, take_as, take_piece}

-- ---- as many bytes as stand there

at_front : (p : ℕ → Bool) (b : ℕ) (bs : List ℕ) (t : Bool) → p b ≡ t
    → (list_all p (take (prefix_len p bs) bs) ≡ true)
    × (starts p (drop (prefix_len p bs) bs) ≡ false)
    → (list_all p (take (cond t (1 + prefix_len p bs) 0) (b ∷ bs)) ≡ true)
    × (starts p (drop (cond t (1 + prefix_len p bs) 0) (b ∷ bs)) ≡ false)
at_front p b bs true e more =
    let one : 1 + prefix_len p bs ≡ suc (prefix_len p bs) = omega arith in
    rw one (rw e more.0, more.1)
at_front p b bs false e more = (refl, e)

longest_front : (p : ℕ → Bool) (bs : List ℕ)
    → (list_all p (take (prefix_len p bs) bs) ≡ true)
    × (starts p (drop (prefix_len p bs) bs) ≡ false)
longest_front p [] = (refl, refl)
longest_front p (b ∷ bs) = at_front p b bs (p b) refl (longest_front p bs)

longest_len : (p : ℕ → Bool) (w rest : List ℕ) → list_all p w ≡ true → starts p rest ≡ false
    → prefix_len p (w ++ rest) ≡ length w
longest_len p [] [] a s = refl
longest_len p [] (r ∷ rest) a s = rw s refl
longest_len p (b ∷ w) rest a s =
    let x = and_parts (p b) (list_all p w) a in
    let more : prefix_len p (w ++ rest) ≡ length w = longest_len p w rest x.1 s in
    rw (x.0, more) (omega arith)

pub is_front : (class : Class) (bs : List ℕ) → Longest class (front class bs) (behind class bs)
is_front class bs = longest_front (has class) bs

pub front_is : (class : Class) (w rest : List ℕ) → Longest class w rest
    → front class (w ++ rest) ≡ w
front_is class w rest l =
    take_at w rest (prefix_len (has class) (w ++ rest))
    (sym (longest_len (has class) w rest l.0 l.1))

pub behind_is : (class : Class) (w rest : List ℕ) → Longest class w rest
    → behind class (w ++ rest) ≡ rest
behind_is class w rest l =
    drop_at w rest (prefix_len (has class) (w ++ rest))
    (sym (longest_len (has class) w rest l.0 l.1))

pub front-behind : (class : Class) (bs : List ℕ) → front class bs ++ behind class bs ≡ bs
front-behind class bs = take-append-drop (prefix_len (has class) bs) bs

-- ---- quoted texts

onto_next : (quote b c : ℕ) (cs : List ℕ) (t : Bool)
    → cond t (onto (Escaped c) (quoted quote cs)) (onto (Plain b) (quoted quote (c ∷ cs)))
    ≡ onto (cond {A = QuotedByte × List ℕ} t (Escaped c, cs) (Plain b, c ∷ cs)).0
    (quoted quote (cond {A = QuotedByte × List ℕ} t (Escaped c, cs) (Plain b, c ∷ cs)).1)
onto_next quote b c cs true = refl
onto_next quote b c cs false = refl

pub quoted-cons : (quote b : ℕ) (bs : List ℕ)
    → quoted quote (b ∷ bs)
    ≡ cond (b == quote) (Some ([], bs)) (onto (next_byte b bs).0 (quoted quote (next_byte b bs).1))
unfolding quoted
quoted-cons quote b [] = refl
quoted-cons quote b (c ∷ cs) =
    ap (cond (b == quote) (Some ([], c ∷ cs)))
    (onto_next quote b c cs ((b == 92) && is_escapable c))

next_plain : (b : ℕ) (bs : List ℕ) → (b == 92) && starts is_escapable bs ≡ false
    → next_byte b bs ≡ (Plain b, bs)
next_plain b [] e = refl
next_plain b (c ∷ cs) e = rw e refl

starts_quoted : (test : ℕ → Bool) (quote : ℕ) (us : List QuotedByte) (rest : List ℕ)
    → starts test (quoted_bytes quote us ++ rest) ≡ starts test (quoted_bytes quote us)
starts_quoted test quote [] rest = refl
starts_quoted test quote (Plain b ∷ us) rest = refl
starts_quoted test quote (Escaped b ∷ us) rest = refl

quoted_is : (quote : ℕ) (us : List QuotedByte) (rest : List ℕ) → (92 == quote) ≡ false
    → Closes quote us → quoted quote (quoted_bytes quote us ++ rest) ≡ Some (us, rest)
quoted_is quote [] rest q c = quoted-cons quote quote rest ∙ rw (eq-eqb quote quote refl) refl
quoted_is quote (Plain b ∷ us) rest q (differs, alone, c) =
    let next : next_byte b (quoted_bytes quote us ++ rest)
    ≡ (Plain b, quoted_bytes quote us ++ rest) =
    next_plain b (quoted_bytes quote us ++ rest)
    (rw (starts_quoted is_escapable quote us rest) alone) in
    quoted-cons quote b (quoted_bytes quote us ++ rest)
    ∙ rw (differs, next, quoted_is quote us rest q c) refl
quoted_is quote (Escaped b ∷ us) rest q (escapable, c) =
    quoted-cons quote 92 (b ∷ quoted_bytes quote us ++ rest)
    ∙ rw (q, escapable, quoted_is quote us rest q c) refl

record QuotedFrom (quote : ℕ) (bs : List ℕ) (x : List QuotedByte × List ℕ) : Type 0 where
  pub parts : bs ≡ quoted_bytes quote x.0 ++ x.1
  pub closes : Closes quote x.0

onto_parts : (u : QuotedByte) (r : Option (List QuotedByte × List ℕ)) (x : List QuotedByte × List ℕ)
    → onto u r ≡ Some x → (y : List QuotedByte × List ℕ) × (r ≡ Some y) × ((u ∷ y.0, y.1) ≡ x)
onto_parts u None x e = absurd cc
onto_parts u (Some y) x e = (y, refl, cc)

closed_here : (quote b : ℕ) (bs : List ℕ) (x : List QuotedByte × List ℕ) → (b == quote) ≡ true
    → Some ([], bs) ≡ Some x → QuotedFrom quote (b ∷ bs) x
closed_here quote b bs x t e =
    let same : ([], bs) ≡ x = cc in
    let from : QuotedFrom quote (b ∷ bs) ([], bs) =
    record { parts = ap (λ c. c ∷ bs) (eqb-true b quote t); closes = tt } in
    subst (QuotedFrom quote (b ∷ bs)) same from

escaped_from : (quote b c : ℕ) (cs : List ℕ) (y x : List QuotedByte × List ℕ)
    → (b == 92) && is_escapable c ≡ true → QuotedFrom quote cs y → (Escaped c ∷ y.0, y.1) ≡ x
    → QuotedFrom quote (b ∷ c ∷ cs) x
escaped_from quote b c cs y x t from same =
    let two = and_parts (b == 92) (is_escapable c) t in
    let at : QuotedFrom quote (b ∷ c ∷ cs) (Escaped c ∷ y.0, y.1) =
    record {
      parts = rw (eqb-true b 92 two.0) (ap (λ l. 92 ∷ c ∷ l) from.parts);
      closes = (two.1, from.closes);
    } in
    subst (QuotedFrom quote (b ∷ c ∷ cs)) same at

plain_from : (quote b : ℕ) (bs : List ℕ) (y x : List QuotedByte × List ℕ) → (b == quote) ≡ false
    → (b == 92) && starts is_escapable bs ≡ false → QuotedFrom quote bs y → (Plain b ∷ y.0, y.1) ≡ x
    → QuotedFrom quote (b ∷ bs) x
plain_from quote b bs y x differs alone from same =
    let alone' : (b == 92) && starts is_escapable (quoted_bytes quote y.0) ≡ false =
    rw (← starts_quoted is_escapable quote y.0 y.1, ← from.parts) alone in
    let at : QuotedFrom quote (b ∷ bs) (Plain b ∷ y.0, y.1) =
    record { parts = ap (λ l. b ∷ l) from.parts; closes = (differs, alone', from.closes) } in
    subst (QuotedFrom quote (b ∷ bs)) same at

abbrev Whole : ℕ → List ℕ → Type 0
Whole quote bs = (x : List QuotedByte × List ℕ) → quoted quote bs ≡ Some x → QuotedFrom quote bs x

more_from : (quote b c : ℕ) (cs : List ℕ) (t : Bool) → (b == quote) ≡ false
    → (b == 92) && is_escapable c ≡ t → Whole quote cs → Whole quote (c ∷ cs)
    → (x : List QuotedByte × List ℕ)
    → cond t (onto (Escaped c) (quoted quote cs)) (onto (Plain b) (quoted quote (c ∷ cs))) ≡ Some x
    → QuotedFrom quote (b ∷ c ∷ cs) x
more_from quote b c cs true differs t shorter longer x e =
    let y = onto_parts (Escaped c) (quoted quote cs) x e in
    escaped_from quote b c cs y.0 x t (shorter y.0 y.1) y.2
more_from quote b c cs false differs t shorter longer x e =
    let y = onto_parts (Plain b) (quoted quote (c ∷ cs)) x e in
    plain_from quote b (c ∷ cs) y.0 x differs t (longer y.0 y.1) y.2

quote_from : (quote b c : ℕ) (cs : List ℕ) (t : Bool) → (b == quote) ≡ t → Whole quote cs
    → Whole quote (c ∷ cs) → (x : List QuotedByte × List ℕ)
    → cond t (Some ([], c ∷ cs))
    (cond ((b == 92) && is_escapable c) (onto (Escaped c) (quoted quote cs))
    (onto (Plain b) (quoted quote (c ∷ cs)))) ≡ Some x → QuotedFrom quote (b ∷ c ∷ cs) x
quote_from quote b c cs true t shorter longer x e = closed_here quote b (c ∷ cs) x t e
quote_from quote b c cs false t shorter longer x e =
    more_from quote b c cs ((b == 92) && is_escapable c) t refl shorter longer x e

last_from : (quote b : ℕ) (t : Bool) → (b == quote) ≡ t → (x : List QuotedByte × List ℕ)
    → cond t (Some ([], [])) None ≡ Some x → QuotedFrom quote (b ∷ []) x
last_from quote b true t x e = closed_here quote b [] x t e
last_from quote b false t x e = absurd cc

quoted_from : (quote : ℕ) (bs : List ℕ) → Whole quote bs
unfolding quoted
quoted_from quote [] x e = absurd cc
quoted_from quote (b ∷ []) x e = last_from quote b (b == quote) refl x e
quoted_from quote (b ∷ c ∷ cs) x e =
    quote_from quote b c cs (b == quote) refl (quoted_from quote cs) (quoted_from quote (c ∷ cs))
    x e

-- ---- what is taken stands

abbrev At : Style → Bool → List ℕ → Piece × List ℕ → Type 0
At style fresh bs x = (bs ≡ bytes_of x.0 ++ x.1) × Stands style fresh x.0 x.1

given_at : (style : Style) (fresh : Bool) (bs : List ℕ) (y x : Piece × List ℕ) → Some y ≡ Some x
    → At style fresh bs y → At style fresh bs x
given_at style fresh bs y x e at =
    let same : y ≡ x = cc in
    subst (At style fresh bs) same at

is_line_feed : (c : ℕ) → (c == 10) ≡ true → c ≡ 10
is_line_feed c e = eqb-true c 10 e

joint_end : (style : Style) (fresh : Bool) (b c : ℕ) (blanks cs bs : List ℕ) (t : Bool)
    → role_of style fresh b ≡ roles.Joint → list_all (has classes.Blank) blanks ≡ true
    → bs ≡ blanks ++ (c ∷ cs) → (c == 10) ≡ t → (x : Piece × List ℕ)
    → cond t (Some (Joint b blanks, cs)) None ≡ Some x → At style fresh (b ∷ bs) x
joint_end style fresh b c blanks cs bs true r all parts t x e =
    let same : blanks ++ (c ∷ cs) ≡ (blanks ++ 10 ∷ []) ++ cs =
    rw (is_line_feed c t) (sym (append_assoc blanks (10 ∷ []) cs)) in
    given_at style fresh (b ∷ bs) (Joint b blanks, cs) x e
    (ap (λ l. b ∷ l) (parts ∙ same), (r, all))
joint_end style fresh b c blanks cs bs false r all parts t x e = absurd cc

joint_at : (style : Style) (fresh : Bool) (b : ℕ) (blanks rest bs : List ℕ)
    → role_of style fresh b ≡ roles.Joint → list_all (has classes.Blank) blanks ≡ true
    → bs ≡ blanks ++ rest → (x : Piece × List ℕ) → take_joint b blanks rest ≡ Some x
    → At style fresh (b ∷ bs) x
joint_at style fresh b blanks [] bs r all parts x e = absurd cc
joint_at style fresh b blanks (c ∷ cs) bs r all parts x e =
    joint_end style fresh b c blanks cs bs (c == 10) r all parts refl x e

quoted_at : (style : Style) (fresh : Bool) (b : ℕ) (bs : List ℕ)
    (o : Option (List QuotedByte × List ℕ)) → role_of style fresh b ≡ roles.Quote → quoted b bs ≡ o
    → (x : Piece × List ℕ) → take_quoted b o ≡ Some x → At style fresh (b ∷ bs) x
quoted_at style fresh b bs None r q x e = absurd cc
quoted_at style fresh b bs (Some y) r q x e =
    let from = quoted_from b bs y q in
    given_at style fresh (b ∷ bs) (Quoted b y.0, y.1) x e
    (ap (λ l. b ∷ l) from.parts, (r, from.closes))

pair_at : (style : Style) (fresh : Bool) (b c : ℕ) (cs : List ℕ) (t : Bool)
    → role_of style fresh b ≡ roles.Sign → (is_ccl style && is_pair b c) ≡ t → (x : Piece × List ℕ)
    → cond t (Some (Pair b c, cs)) (Some (Sign b, c ∷ cs)) ≡ Some x → At style fresh (b ∷ c ∷ cs) x
pair_at style fresh b c cs true r t x e =
    given_at style fresh (b ∷ c ∷ cs) (Pair b c, cs) x e (refl, (r, t))
pair_at style fresh b c cs false r t x e =
    given_at style fresh (b ∷ c ∷ cs) (Sign b, c ∷ cs) x e (refl, (r, t))

and_never : (t : Bool) → (t && false) ≡ false
and_never true = refl
and_never false = refl

sign_at : (style : Style) (fresh : Bool) (b : ℕ) (bs : List ℕ) → role_of style fresh b ≡ roles.Sign
    → (x : Piece × List ℕ) → take_sign style b bs ≡ Some x → At style fresh (b ∷ bs) x
sign_at style fresh b [] r x e =
    given_at style fresh (b ∷ []) (Sign b, []) x e (refl, (r, and_never (is_ccl style)))
sign_at style fresh b (c ∷ cs) r x e =
    pair_at style fresh b c cs (is_ccl style && is_pair b c) r refl x e

run_parts : (class : Class) (b : ℕ) (bs : List ℕ) → b ∷ bs ≡ b ∷ (front class bs ++ behind class bs)
run_parts class b bs = ap (λ l. b ∷ l) (sym (front-behind class bs))

role_at : (style : Style) (fresh : Bool) (b : ℕ) (bs : List ℕ) (r : Role)
    → role_of style fresh b ≡ r → (x : Piece × List ℕ) → take_as style r b bs ≡ Some x
    → At style fresh (b ∷ bs) x
role_at style fresh b bs roles.Blank r x e =
    given_at style fresh (b ∷ bs) (Blank b, bs) x e (refl, r)
role_at style fresh b bs roles.LineFeed r x e =
    given_at style fresh (b ∷ bs) (LineFeed b, bs) x e (refl, r)
role_at style fresh b bs roles.Comment r x e =
    given_at style fresh (b ∷ bs) (Comment b (front classes.Line bs), behind classes.Line bs) x e
    (run_parts classes.Line b bs, (r, is_front classes.Line bs))
role_at style fresh b bs roles.IgnoredLine r x e =
    given_at style fresh (b ∷ bs) (IgnoredLine b (front classes.Line bs), behind classes.Line bs)
    x e (run_parts classes.Line b bs, (r, is_front classes.Line bs))
role_at style fresh b bs roles.Quote r x e = quoted_at style fresh b bs (quoted b bs) r refl x e
role_at style fresh b bs roles.Word r x e =
    given_at style fresh (b ∷ bs)
    (Word b (front (classes.Word style) bs), behind (classes.Word style) bs) x e
    (run_parts (classes.Word style) b bs, (r, is_front (classes.Word style) bs))
role_at style fresh b bs roles.Number r x e =
    given_at style fresh (b ∷ bs) (Number b (front classes.Digit bs), behind classes.Digit bs) x e
    (run_parts classes.Digit b bs, (r, is_front classes.Digit bs))
role_at style fresh b bs roles.Joint r x e =
    joint_at style fresh b (front classes.Blank bs) (behind classes.Blank bs) bs r
    (is_front classes.Blank bs).0 (sym (front-behind classes.Blank bs)) x e
role_at style fresh b bs roles.Sign r x e = sign_at style fresh b bs r x e
role_at style fresh b bs roles.Bad r x e = absurd cc

pub taken_stands : (style : Style) (fresh : Bool) (bs : List ℕ) (x : Piece × List ℕ)
    → take_piece style fresh bs ≡ Some x → At style fresh bs x
taken_stands style fresh [] x e = absurd cc
taken_stands style fresh (b ∷ bs) x e = role_at style fresh b bs (role_of style fresh b) refl x e

-- ---- what stands is taken

-- no style has a backslash for a quote
quote_at : (style : Style) (fresh : Bool) (quote : ℕ) → role_of style fresh quote ≡ roles.Quote
    → (t : Bool) → (92 == quote) ≡ t → (92 == quote) ≡ false
quote_at style fresh quote r false t = t
quote_at style fresh quote r true t =
    absurd (never style fresh
    (subst (λ (b : ℕ). role_of style fresh b ≡ roles.Quote) (sym (eqb-true 92 quote t)) r)) where
      never : (style : Style) (fresh : Bool) → role_of style fresh 92 ≡ roles.Quote → ⊥
      never Ccl fresh e = absurd cc
      never Par fresh e = absurd cc
      never Thorns fresh e = absurd cc

take_by : (style : Style) (fresh : Bool) (b : ℕ) (bs : List ℕ) (r : Role)
    → role_of style fresh b ≡ r → take_piece style fresh (b ∷ bs) ≡ take_as style r b bs
take_by style fresh b bs r e = ap (λ s. take_as style s b bs) e

joint_blanks : (blanks rest : List ℕ) → list_all (has classes.Blank) blanks ≡ true
    → Longest classes.Blank blanks (10 ∷ rest)
joint_blanks blanks rest all = (all, refl)

sign_alone : (style : Style) (b : ℕ) (rest : List ℕ) → begins_pair style b rest ≡ false
    → take_sign style b rest ≡ Some (Sign b, rest)
sign_alone style b [] e = refl
sign_alone style b (c ∷ cs) e = rw e refl

pub standing_taken : (style : Style) (fresh : Bool) (p : Piece) (rest : List ℕ)
    → Stands style fresh p rest → take_piece style fresh (bytes_of p ++ rest) ≡ Some (p, rest)
standing_taken style fresh (Blank b) rest s = take_by style fresh b rest roles.Blank s
standing_taken style fresh (LineFeed b) rest s = take_by style fresh b rest roles.LineFeed s
standing_taken style fresh (Comment b more) rest (r, l) =
    take_by style fresh b (more ++ rest) roles.Comment r
    ∙ rw (front_is classes.Line more rest l, behind_is classes.Line more rest l) refl
standing_taken style fresh (IgnoredLine b more) rest (r, l) =
    take_by style fresh b (more ++ rest) roles.IgnoredLine r
    ∙ rw (front_is classes.Line more rest l, behind_is classes.Line more rest l) refl
standing_taken style fresh (Joint b blanks) rest (r, all) =
    let l : Longest classes.Blank blanks (10 ∷ rest) = joint_blanks blanks rest all in
    let same : (blanks ++ 10 ∷ []) ++ rest ≡ blanks ++ (10 ∷ rest) =
    append_assoc blanks (10 ∷ []) rest in
    take_by style fresh b ((blanks ++ 10 ∷ []) ++ rest) roles.Joint r
    ∙ rw same
    (rw (
      front_is classes.Blank blanks (10 ∷ rest) l,
      behind_is classes.Blank blanks (10 ∷ rest) l,
    ) refl)
standing_taken style fresh (Word b more) rest (r, l) =
    take_by style fresh b (more ++ rest) roles.Word r
    ∙ rw (front_is (classes.Word style) more rest l, behind_is (classes.Word style) more rest l)
    refl
standing_taken style fresh (Number b more) rest (r, l) =
    take_by style fresh b (more ++ rest) roles.Number r
    ∙ rw (front_is classes.Digit more rest l, behind_is classes.Digit more rest l) refl
standing_taken style fresh (Quoted quote more) rest (r, c) =
    take_by style fresh quote (quoted_bytes quote more ++ rest) roles.Quote r
    ∙ rw (quoted_is quote more rest (quote_at style fresh quote r (92 == quote) refl) c) refl
standing_taken style fresh (Sign b) rest (r, alone) =
    take_by style fresh b rest roles.Sign r ∙ sign_alone style b rest alone
standing_taken style fresh (Pair b c) rest (r, both) =
    take_by style fresh b (c ∷ rest) roles.Sign r ∙ rw both refl

pub none_stands : (style : Style) (fresh : Bool) (bs : List ℕ) → take_piece style fresh bs ≡ None
    → NoPiece style fresh bs
none_stands style fresh bs e p more parts s =
    let taken : take_piece style fresh (bytes_of p ++ more) ≡ Some (p, more) =
    standing_taken style fresh p more s in
    let here : take_piece style fresh bs ≡ Some (p, more) =
    ap (take_piece style fresh) parts ∙ taken in
    absurd cc

same_parts : (x y : Piece × List ℕ) → Some x ≡ Some y → (x.0 ≡ y.0) × (x.1 ≡ y.1)
same_parts x y e =
    let same : x ≡ y = cc in
    ((λ i. (same i).0), (λ i. (same i).1))

-- two pieces that stand at one place are one
pub same_piece : (style : Style) (fresh : Bool) (bs : List ℕ) (p q : Piece) (more rest : List ℕ)
    → bs ≡ bytes_of p ++ more → Stands style fresh p more → bs ≡ bytes_of q ++ rest
    → Stands style fresh q rest → (p ≡ q) × (more ≡ rest)
same_piece style fresh bs p q more rest parts s parts' s' =
    let one : take_piece style fresh bs ≡ Some (p, more) =
    ap (take_piece style fresh) parts ∙ standing_taken style fresh p more s in
    let other : take_piece style fresh bs ≡ Some (q, rest) =
    ap (take_piece style fresh) parts' ∙ standing_taken style fresh q rest s' in
    same_parts (p, more) (q, rest) (sym one ∙ other)
