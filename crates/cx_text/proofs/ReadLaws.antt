-- Reading a text piece by piece.
use Rattle.std.proofs.Common.{◌≡◌, ℕ, ◌+◌, ◌<◌, ◌≤◌, Bool, true, cond, inl, inr, List, [], ◌∷◌, ◌++◌, length, Option, Some, None, Result, Ok, Err, refl, sym, ap, subst, ◌∙◌, arith}
use Rattle.std.specs.Prelude.{◌==◌}
use Rattle.std.proofs.lemmas.List.{length-append}
use Rattle.cx_text.specs.declared.token.Token.{Token}
use Rattle.cx_text.specs.declared.token.Style.{Style}
use Rattle.cx_text.specs.declared.fault.TextFault.{TextFault}
use Rattle.cx_text.specs.declared.fault.TextFault.TheVariants as faults
use Rattle.cx_text.specs.declared.byte.Role.{Role}
use Rattle.cx_text.specs.declared.byte.Role.TheVariants as roles
use Rattle.cx_text.specs.Bytes.{role_of}
use Rattle.cx_text.specs.Pieces.{Piece, bytes_of, Stands, NoPiece, Cut, fresh_after, fresh_behind, line_behind, feeds, own_token, or_nothing, each_token, ended, merged, line_end, Spelled, Faulty, fault_at, IsCause, Reads, OnlyTokens, OnlyFault, max_text}
use Rattle.cx_text.specs.Scanning.{take_piece, take_as, Takes}
use Rattle.cx_text.proofs.ScanLaws.{taken_stands, none_stands}
use Rattle.cx_text.proofs.QuotedLaws.{feed_le}
use Rattle.cx_text.proofs.CutLaws.{not_empty, cut_push, fresh_push, line_push, each_push, ended-append, merged-append, ended_merged, spelled_one, not_both, faulty_one}

feeds_le : (bytes : List ℕ) → feeds bytes ≤ length bytes
feeds_le [] = omega arith
feeds_le (b ∷ bs) =
    let one : cond (b == 10) 1 0 ≤ 1 = feed_le (b == 10) in
    let more : feeds bs ≤ length bs = feeds_le bs in
    omega arith

-- a text is read up to its rest
pub record Going (style : Style) (bytes : List ℕ) (ts : List Token) (last : Bool) (fresh : Bool)
    (line : ℕ) (rest : List ℕ) : Type 0 where
  pub pieces : List Piece
  pub cut : Cut style true pieces bytes rest
  pub fresh_is : fresh ≡ fresh_behind true pieces
  pub line_is : line ≡ line_behind 1 pieces
  pub tokens_are : ts ≡ merged true (each_token 1 pieces)
  pub last_is : last ≡ ended true (each_token 1 pieces)
  pub room : line + length rest ≤ 1 + length bytes

pub going_none : (style : Style) (bytes : List ℕ) → Going style bytes [] true true 1 bytes
going_none style bytes =
    record {
      pieces = [];
      cut = refl;
      fresh_is = refl;
      line_is = refl;
      tokens_are = refl;
      last_is = refl;
      room = omega arith;
    }

going_on : (style : Style) (bytes : List ℕ) (ts : List Token) (last fresh : Bool) (line : ℕ)
    (rest : List ℕ) → Going style bytes ts last fresh line rest
    → (p : Piece) (rest' : List ℕ) → rest ≡ bytes_of p ++ rest' → Stands style fresh p rest'
    → Going style bytes (ts ++ merged last (or_nothing (own_token line p)))
    (ended last (or_nothing (own_token line p))) (fresh_after fresh p)
    (line + feeds (bytes_of p)) rest'
going_on style bytes ts last fresh line rest g p rest' parts stands =
    let ps = g.pieces in
    let each : each_token 1 (ps ++ p ∷ []) ≡ each_token 1 ps ++ or_nothing (own_token line p) =
    each_push ps 1 p ∙ ap (λ (n : ℕ). each_token 1 ps ++ or_nothing (own_token n p))
    (sym g.line_is) in
    let fed : feeds (bytes_of p) ≤ length (bytes_of p) = feeds_le (bytes_of p) in
    let long : length rest ≡ length (bytes_of p) + length rest' =
    ap length parts ∙ length-append (bytes_of p) rest' in
    let room = g.room in
    let merging : merged true (each_token 1 (ps ++ p ∷ []))
    ≡ merged true (each_token 1 ps)
    ++ merged (ended true (each_token 1 ps)) (or_nothing (own_token line p)) =
    ap (merged true) each ∙ merged-append (each_token 1 ps) (or_nothing (own_token line p))
    true in
    let ending : ended true (each_token 1 (ps ++ p ∷ []))
    ≡ ended (ended true (each_token 1 ps)) (or_nothing (own_token line p)) =
    ap (ended true) each ∙ ended-append (each_token 1 ps) (or_nothing (own_token line p))
    true in
    record {
      pieces = ps ++ p ∷ [];
      cut = cut_push style ps true bytes p rest rest' g.cut parts
          (subst (λ (f : Bool). Stands style f p rest') g.fresh_is stands);
      fresh_is = ap (λ f. fresh_after f p) g.fresh_is ∙ sym (fresh_push ps true p);
      line_is = ap (λ n. n + feeds (bytes_of p)) g.line_is ∙ sym (line_push ps 1 p);
      tokens_are = (λ i. g.tokens_are i ++ merged (g.last_is i) (or_nothing (own_token line p)))
          ∙ sym merging;
      last_is = ap (λ l. ended l (or_nothing (own_token line p))) g.last_is ∙ sym ending;
      room = omega arith;
    }

going_by : (style : Style) (bytes : List ℕ) (ts : List Token) (last fresh : Bool) (line : ℕ)
    (rest : List ℕ) (fault : TextFault) → Going style bytes ts last fresh line rest
    → (o : Option (Piece × List ℕ)) → take_piece style fresh rest ≡ o
    → (token : Option Token) (fresh' : Bool) (line' : ℕ) (rest' : List ℕ)
    → Takes (Ok token) fresh' line' rest' o fresh line fault
    → Going style bytes (ts ++ merged last (or_nothing token)) (ended last (or_nothing token))
    fresh' line' rest'
going_by style bytes ts last fresh line rest fault g None e token fresh' line' rest' h = absurd h
going_by style bytes ts last fresh line rest fault g (Some x) e token fresh' line' rest' h =
    let at = taken_stands style fresh rest x e in
    rw (h.0, h.1, h.2, h.3) (going_on style bytes ts last fresh line rest g x.0 x.1 at.0 at.1)

pub going_more : (style : Style) (bytes : List ℕ) (ts : List Token) (last fresh : Bool) (line : ℕ)
    (rest : List ℕ) (fault : TextFault) → Going style bytes ts last fresh line rest
    → (b : ℕ) (bs : List ℕ) → rest ≡ b ∷ bs
    → (token : Option Token) (fresh' : Bool) (line' : ℕ) (rest' : List ℕ)
    → Takes (Ok token) fresh' line' rest' (take_as style (role_of style fresh b) b bs)
    fresh line fault
    → (ts' : List Token) (last' : Bool) → ts' ≡ ts ++ merged last (or_nothing token)
    → last' ≡ ended last (or_nothing token)
    → Going style bytes ts' last' fresh' line' rest'
going_more style bytes ts last fresh line rest fault g b bs parts token fresh' line' rest' h ts'
    last' e f =
    rw (e, f) (going_by style bytes ts last fresh line rest fault g
    (take_as style (role_of style fresh b) b bs) (ap (take_piece style fresh) parts)
    token fresh' line' rest' h)

shorter_by : (style : Style) (fresh : Bool) (line : ℕ) (rest : List ℕ) (fault : TextFault)
    (o : Option (Piece × List ℕ)) → take_piece style fresh rest ≡ o
    → (token : Option Token) (fresh' : Bool) (line' : ℕ) (rest' : List ℕ)
    → Takes (Ok token) fresh' line' rest' o fresh line fault
    → length rest' < length rest
shorter_by style fresh line rest fault None e token fresh' line' rest' h = absurd h
shorter_by style fresh line rest fault (Some x) e token fresh' line' rest' h =
    let at = taken_stands style fresh rest x e in
    rw (h.3, at.0) (not_empty x.0 x.1)

pub shorter : (style : Style) (fresh : Bool) (line : ℕ) (rest : List ℕ) (fault : TextFault) (b : ℕ)
    (bs : List ℕ) → rest ≡ b ∷ bs
    → (token : Option Token) (fresh' : Bool) (line' : ℕ) (rest' : List ℕ)
    → Takes (Ok token) fresh' line' rest' (take_as style (role_of style fresh b) b bs)
    fresh line fault
    → length rest' < length rest
shorter style fresh line rest fault b bs parts token fresh' line' rest' h =
    shorter_by style fresh line rest fault (take_as style (role_of style fresh b) b bs)
    (ap (take_piece style fresh) parts) token fresh' line' rest' h

cause_at : (bytes : List ℕ) (style : Style) (r : Role) (line : ℕ) → length bytes ≤ max_text
    → Faulty bytes style (fault_at r line) → IsCause bytes style (fault_at r line)
cause_at bytes style roles.Quote line h f = (h, f)
cause_at bytes style roles.Blank line h f = (h, f)
cause_at bytes style roles.LineFeed line h f = (h, f)
cause_at bytes style roles.Comment line h f = (h, f)
cause_at bytes style roles.IgnoredLine line h f = (h, f)
cause_at bytes style roles.Word line h f = (h, f)
cause_at bytes style roles.Number line h f = (h, f)
cause_at bytes style roles.Joint line h f = (h, f)
cause_at bytes style roles.Sign line h f = (h, f)
cause_at bytes style roles.Bad line h f = (h, f)

stops_by : (style : Style) (bytes : List ℕ) (ts : List Token) (last fresh : Bool) (line : ℕ) (b : ℕ)
    (bs : List ℕ) → length bytes ≤ max_text → Going style bytes ts last fresh line (b ∷ bs)
    → (o : Option (Piece × List ℕ)) → take_piece style fresh (b ∷ bs) ≡ o
    → (e : TextFault) (fresh' : Bool) (line' : ℕ) (rest' : List ℕ)
    → Takes (Err e) fresh' line' rest' o fresh line (fault_at (role_of style fresh b) line)
    → IsCause bytes style e
stops_by style bytes ts last fresh line b bs short g (Some x) t e fresh' line' rest' h = rw h tt
stops_by style bytes ts last fresh line b bs short g None t e fresh' line' rest' (inl h) = rw h tt
stops_by style bytes ts last fresh line b bs short g None t e fresh' line' rest' (inr h) =
    let none = none_stands style fresh (b ∷ bs) t in
    let faulty : Faulty bytes style (fault_at (role_of style fresh b) line) = (
      g.pieces,
      b,
      bs,
      g.cut,
      subst (λ (f : Bool). NoPiece style f (b ∷ bs)) g.fresh_is none,
      (λ i. fault_at (role_of style (g.fresh_is i) b) (g.line_is i)),
    ) in
    subst (IsCause bytes style) (sym h)
    (cause_at bytes style (role_of style fresh b) line short faulty)

pub going_stops : (style : Style) (bytes : List ℕ) (ts : List Token) (last fresh : Bool) (line : ℕ)
    (rest : List ℕ) → length bytes ≤ max_text → Going style bytes ts last fresh line rest
    → (b : ℕ) (bs : List ℕ) → rest ≡ b ∷ bs
    → (e : TextFault) (fresh' : Bool) (line' : ℕ) (rest' : List ℕ)
    → Takes (Err e) fresh' line' rest' (take_as style (role_of style fresh b) b bs) fresh line
    (fault_at (role_of style fresh b) line)
    → IsCause bytes style e
going_stops style bytes ts last fresh line rest short g b bs parts e fresh' line' rest' h =
    stops_by style bytes ts last fresh line b bs short
    (subst (Going style bytes ts last fresh line) parts g)
    (take_as style (role_of style fresh b) b bs) refl e fresh' line' rest' h

pub going_ends : (style : Style) (bytes : List ℕ) (ts : List Token) (last fresh : Bool) (line : ℕ)
    (rest : List ℕ) → Going style bytes ts last fresh line rest → rest ≡ [] → (us : List Token)
    → us ≡ ts ++ cond last [] (line_end line ∷ []) → Spelled bytes style us
going_ends style bytes ts last fresh line rest g none us e =
    let ps = g.pieces in
    let all = each_token 1 ps in
    let last_is : last ≡ ended true (merged true all) = g.last_is ∙ sym (ended_merged all true) in (
      ps,
      subst (Cut style true ps bytes) none g.cut,
      e ∙ (λ i. g.tokens_are i ++ cond (last_is i) [] (line_end (g.line_is i) ∷ [])),
    )

-- ---- what reading answers

pub only_tokens : (bytes : List ℕ) (style : Style) (result : Result (List Token) TextFault)
    → Reads bytes style result → OnlyTokens bytes style result
only_tokens bytes style (Ok list) h ts short s = spelled_one bytes style ts list s h.1
only_tokens bytes style (Err faults.TooLong) h ts short s = absurd (omega arith)
only_tokens bytes style (Err (faults.BadByte line)) h ts short s =
    absurd (not_both bytes style ts (faults.BadByte line) s h.1)
only_tokens bytes style (Err (faults.OpenQuote line)) h ts short s =
    absurd (not_both bytes style ts (faults.OpenQuote line) s h.1)
only_tokens bytes style (Err faults.Memory) h ts short s = refl

pub only_fault : (bytes : List ℕ) (style : Style) (result : Result (List Token) TextFault)
    → Reads bytes style result → OnlyFault bytes style result
only_fault bytes style (Ok list) h fault short f = not_both bytes style list fault h.1 f
only_fault bytes style (Err faults.TooLong) h fault short f = absurd (omega arith)
only_fault bytes style (Err (faults.BadByte line)) h fault short f =
    inl (sym (faulty_one bytes style (faults.BadByte line) fault h.1 f))
only_fault bytes style (Err (faults.OpenQuote line)) h fault short f =
    inl (sym (faulty_one bytes style (faults.OpenQuote line) fault h.1 f))
only_fault bytes style (Err faults.Memory) h fault short f = inr refl
