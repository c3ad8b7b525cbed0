-- The lines of a block are read as their grammar derives them.
use Rattle.std.proofs.Common.{ℕ, Bool, true, false, List, [], ◌∷◌, Option, Some, None, refl}
use Rattle.cx_text.specs.declared.token.Token.{Token}
use Rattle.cx_text.specs.Rules.{Rule, is_sign}
use Rattle.cx_text.specs.Lexemes.{kept_if, is_inside}
use Rattle.cx_sched.specs.declared.lines.Kind.{Kind}
use Rattle.cx_sched.specs.declared.lines.Kind.TheVariants.{Storage, Sync, Reads, Writes}
use Rattle.cx_sched.specs.declared.lines.Line.{Line}
use Rattle.cx_sched.specs.declared.lines.Line.TheVariants.{Start, Tokens, Word, Names}
use Rattle.cx_sched.specs.declared.lines.Lines.{Lines}
use Rattle.cx_sched.specs.Words.{line_of}
use Rattle.cx_sched.specs.Lines.{no_lines, begin, begin_or, line_word, first, begun_by, kept_after, kept, item, named, entry_in, entry, lines}
use Rattle.cx_text.proofs.Laws.{Means}
use Rattle.cx_text.proofs.Loops.{Short}
use Rattle.cx_text.proofs.RuleLaws.{Part, Tail, Any, Not, before_part, weaker_part, weaker_good, weaker_empty, short_part, lexeme_then, lexeme_last, lexeme_alone, loop_good, loop_empty, empty_then, part_then_tail, tail_then, tail_choice, tail_end}
use Rattle.cx_text.proofs.LexemeLaws.{a_word, a_sign, a_name, sign_is, Ended}
use Rattle.cx_sched.proofs.RefLaws.{AfterRef, ref_end, store_tail, sync_name_tail, access_tail}

-- what follows an entry
pub record AfterEntry (n : Option Token) : Type 0 where
  pub colon : Not (is_sign 58) n
  pub name : AfterRef n

entry_end : AfterEntry None
entry_end = record { colon = refl; name = ref_end }

begin_part : (l : Line) (w : List ℕ) (s : Lines) {F : Option Token → Type 0} → F (Some (a_sign 58))
    → Part (begin l w s) F AfterEntry
begin_part l w s f = before_part (lexeme_last (sign_is 58 refl) f) (λ n h. h.name.name.ended)

begin_or_tail : (l : Option Line) (w : List ℕ) (s : Lines) {r : Rule Lines} → Tail r AfterEntry
    → Tail (begin_or l w s r) AfterEntry
begin_or_tail None w s tail = tail
begin_or_tail (Some l) w s tail = tail_choice (begin_part l w s {F = Any} tt) tail (λ n h. h.colon)

abbrev a_line : Means line_word
a_line = record {
  tok = a_word (83 ∷ 89 ∷ 78 ∷ 67 ∷ []);
  x = (Names Sync, 83 ∷ 89 ∷ 78 ∷ 67 ∷ []);
  is = refl;
}

first_part : (s : Lines) → Part (first s) Ended AfterEntry
first_part s = lexeme_then a_line refl (λ l. begin_part l.0 l.1 s refl)

abbrev a_kept : (behind : Bool) → Means (kept_if (kept_after behind))
a_kept true = record { tok = a_word (97 ∷ []); x = a_word (97 ∷ []); is = refl }
a_kept false = record { tok = a_word (97 ∷ []); x = a_word (97 ∷ []); is = refl }

kept_part : (behind : Bool) (s : Lines) → Part (kept behind s) Ended AfterEntry
kept_part true s = part_then_tail (lexeme_alone (a_kept true) refl) (λ n h. h.name.name.ended)
    None entry_end (λ t. begin_or_tail (begun_by t) t.text s (tail_end None entry_end))
kept_part false s = part_then_tail (lexeme_alone (a_kept false) refl) (λ n h. h.name.name.ended)
    None entry_end (λ t. begin_or_tail (begun_by t) t.text s (tail_end None entry_end))

weaker_tail : {A : Type 0} {r : Rule A} {G H : Option Token → Type 0} (one : Option Token) → H one
    → Tail r G → ((n : Option Token) → H n → G n) → Tail r H
weaker_tail one h tail weaker =
    record {
      good = weaker_good tail.good weaker;
      empty = weaker_empty tail.empty weaker;
      one = one;
      allowed = h;
    }

item_tail : (k : Kind) (w : List ℕ) (s : Lines) → Tail (item k w s) AfterEntry
item_tail Storage w s = tail_then (weaker_tail None entry_end (store_tail w) (λ n h. h.name))
    (λ r. tail_end None entry_end)
item_tail Sync w s = tail_then (weaker_tail None entry_end (sync_name_tail w) (λ n h. h.name))
    (λ r. tail_end None entry_end)
item_tail Reads w s = tail_then (weaker_tail None entry_end (access_tail w) (λ n h. h.name))
    (λ r. tail_end None entry_end)
item_tail Writes w s = tail_then (weaker_tail None entry_end (access_tail w) (λ n h. h.name))
    (λ r. tail_end None entry_end)

named_part : (k : Kind) (s : Lines) → Part (named k s) Ended AfterEntry
named_part k s = part_then_tail (lexeme_alone a_name refl) (λ n h. h.name.name.ended) None entry_end
    (λ w. begin_or_tail (line_of w) w s (item_tail k w s))

in_part : (l : Line) (s : Lines) → Part (entry_in l s) Ended AfterEntry
in_part Start s = first_part s
in_part Tokens s = kept_part false s
in_part Word s = kept_part true s
in_part (Names k) s = named_part k s

pub entry_part : (s : Lines) → Part (entry s) Ended AfterEntry
entry_part s = in_part s.line s

pub entry_short : (s : Lines) → Short (entry s)
entry_short s = short_part (entry_part s).good (entry_part s).full

-- what follows the lines of a block
record AfterLines (n : Option Token) : Type 0 where
  stays : Not is_inside n
  entry : AfterEntry n

a_close : AfterLines (Some (a_sign 125))
a_close = record {
  stays = refl;
  entry = record {
    colon = refl;
    name = record {
      bracket = refl;
      paren = refl;
      comma = refl;
      name = record { pair = refl; ended = refl };
    };
  };
}

pub lines_part : (left : ℕ) {F : Option Token → Type 0} → F (Some (a_sign 123))
    → Part (lines left) F Ended
lines_part left f = lexeme_then (sign_is 123 refl) f
    (λ u. weaker_part {F = AfterLines}
    (empty_then {G = AfterLines}
    (loop_good (λ s. (entry_part s).good) (λ s. (entry_part s).full) (λ n h. h.stays)
    (λ n h. h.entry) (Some (a_sign 125)) a_close) (loop_empty entry (no_lines left))
    (λ n h. (h, h.stays)) (λ s. lexeme_last (sign_is 125 refl) a_close))
    (λ n h. h.entry.name.name.ended))
