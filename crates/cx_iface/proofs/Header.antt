-- A file must name its implementation: each list goes on to one that does, so a missing header is
-- unexpected at the end.
use Rattle.std.proofs.Common.{◌≡◌, ℕ, Bool, true, false, cond, List, [], ◌∷◌, ◌++◌, Option, Some, None, Result, Ok, Err, refl, sym, ap, ◌∙◌, append_assoc}
use Rattle.std.specs.Prelude.{MatchResult}
use Rattle.std.proofs.lemmas.List.{append-nil}
use Rattle.cx_text.specs.declared.stop.Mark.{Mark}
use Rattle.cx_text.specs.declared.stop.Mark.TheVariants as marks
use Rattle.cx_text.specs.declared.stop.Why.{Why}
use Rattle.cx_text.specs.declared.stop.Why.TheVariants.{Unexpected, Marked}
use Rattle.cx_text.specs.declared.stop.Stop.{Stop}
use Rattle.cx_text.specs.declared.stop.Stop.TheVariants as stops
use Rattle.cx_text.specs.declared.fault.CclFault.{CclFault}
use Rattle.cx_text.specs.declared.fault.CclFault.TheVariants as faults
use Rattle.cx_text.specs.declared.token.Token.{Token}
use Rattle.cx_text.specs.Tokens.{is_word}
use Rattle.cx_text.specs.Grammar.{Item, next_of, passes, many, Spells, IsWrong, IsFirstFault, IsFault, ReadsBy, AnswersOnly, line_at}
use Rattle.cx_text.specs.Reading.{Answer, go_on, read_end, Fails, Gives, fault_of}
use Rattle.cx_text.specs.Rules.{last, line_ends, is_named}
use Rattle.cx_text.specs.Lexemes.{finished}
use Rattle.cx_text.proofs.Laws.{ok_is}
use Rattle.cx_text.proofs.Choice.{at_other}
use Rattle.cx_text.proofs.FirstFault.{Judges, judges_seen, read_seen, first_from}
use Rattle.cx_text.proofs.Checked.{judges_checked, checked, read_checked, or_unexpected, Extends, checked_found, checked_only, checked_fault, many_append, after}
use Rattle.cx_text.proofs.RuleLaws.{line_ends_good}
use Rattle.cx_text.proofs.LexemeLaws.{Ended, a_word}
use Rattle.cx_iface.specs.declared.tree.Interface.{Interface}
use Rattle.cx_iface.specs.declared.interface.Read.{Read}
use Rattle.cx_iface.specs.Words.{IMPLEMENTS, FUNCTION}
use Rattle.cx_iface.specs.File.{nobody, implements, function, item, file, interface, implemented, again_mark}
use Rattle.cx_iface.proofs.GroupLaws.{AfterGroup, at_end}
use Rattle.cx_iface.proofs.FileLaws.{implements_part, item_part, file_good}

-- ---- each list goes on to a header

abbrev a_header : Token
a_header = a_word IMPLEMENTS

header_says : (s y : Read) (ms : List Item) (next : Option Token) → (implements s).derives y ms next
    → y.implements ≡ true
header_says s y ms next (
  u,
  f,
  b,
  e,
  k,
  (v, g, c, d, l, (n, h, o, p, q, (w, i, r, t, z, (same, none)))),
) =
    ap (λ (x : Read). x.implements) same

record Heads (s : Read) : Type 0 where
  y : Read
  more : List Item
  derived : (item s).derives y more None
  says : y.implements ≡ true
  first : next_of more None ≡ Some a_header

heads : (s : Read) → Heads s
heads s =
    let e = ((implements_part s).ends None refl).law in
    let mark : Option Mark =
    again_mark s (passes (is_named FUNCTION) (next_of e.1 None)) a_header in
    let at_colon : passes (is_named FUNCTION) (next_of e.1 None) ≡ false = rw e.3 refl in
    record {
      y = e.0;
      more = (a_header, mark) ∷ e.1;
      derived = (
        a_header,
        a_header,
        e.1,
        refl,
        refl,
        at_other (passes (is_named FUNCTION) (next_of e.1 None))
            ((function a_header s).derives e.0 e.1 None) ((implements s).derives e.0 e.1 None)
            at_colon e.2,
      );
      says = header_says s e.0 e.1 None e.2;
      first = refl;
    }

last-push : (c : Read) (cs : List Read) (y : Read) → last c (cs ++ y ∷ []) ≡ y
last-push c [] y = refl
last-push c (d ∷ cs) y = last-push d cs y

skipped : (u : Unit {0}) (front back more : List Item)
    → line_ends.derives u front (next_of back None) → Ended (next_of more None)
    → line_ends.derives u front (next_of (back ++ more) None)
skipped u front [] more s h = line_ends_good.law.moves u front None (next_of more None) s h
skipped u front (b ∷ back) more s h = s

header_follows : AfterGroup (Some a_header)
header_follows = record {
  copies = refl;
  attribute = refl;
  comma = refl;
  quoted = refl;
  block = refl;
  ended = refl;
}

-- where these items end, a header may stand
headed : (cs : List Read) (ms : List Item)
    → many is_word (λ s. (item s).derives) (λ s x. x) nobody cs ms None
    → (h : Heads (after (λ s x. x) nobody cs))
    → many is_word (λ s. (item s).derives) (λ s x. x) nobody (cs ++ h.y ∷ []) (ms ++ h.more)
    None
headed cs ms m h =
    many_append is_word (λ s. (item s).derives) (λ s x. x) AfterGroup (λ s. (item_part s).full.law)
    (λ s x is next other d g. (item_part s).good.law.moves x is next other d g)
    cs (h.y ∷ []) nobody ms h.more None None m
    (rw h.first refl, h.more, [], sym (append-nil h.more), h.derived, (refl, refl))
    (rw h.first header_follows)

pub file_extends : Extends file.derives (λ s. s.implements)
file_extends s ms (u, front, back, e, k, (cs, f, b, d, m, (same, none))) =
    let h = heads (after (λ (x y : Read). y) nobody cs) in
    let back_is : back ≡ f = d ∙ rw none (append-nil f) in
    let turned : many is_word (λ x. (item x).derives) (λ x y. y) nobody cs f None = rw none at m in
    let whole : ms ++ h.more ≡ front ++ (f ++ h.more) =
    rw (e, back_is) (append_assoc front f h.more) in
    let before : line_ends.derives u front (next_of (f ++ h.more) None) =
    skipped u front f h.more (rw back_is at k) (rw h.first refl) in (
      h.y,
      h.more,
      (
        u,
        front,
        f ++ h.more,
        whole,
        before,
        (
          cs ++ h.y ∷ [],
          f ++ h.more,
          [],
          sym (append-nil (f ++ h.more)),
          headed cs f turned h,
          (sym (last-push nobody cs h.y), refl),
        ),
      ),
      h.says,
    )

-- ---- what is answered

wrong_is : (before : List Token) (w : Why) (rest : List Token)
    → IsWrong (checked file.derives (λ s. s.implements)) before w rest
    → IsWrong interface before w rest
wrong_is before Unexpected rest ((s, more, d), none) =
    ((s.tree, more, (s, d.0, d.1, refl)), λ tree ms us (x, y, h, e) q n. none x ms us (y, h) q n)
wrong_is before (Marked m) [] f = absurd f
wrong_is before (Marked m) (t ∷ rest) ((s, more, d), none) =
    ((s.tree, more, (s, d.0, d.1, refl)), λ tree us (x, y, h, e) n. none x us (y, h) n)

abbrev pub read_tree : List Token → Answer Interface
read_tree = read_seen (λ (s : Read). s.tree) (read_checked file.reads (λ s. s.implements))

-- reading a file whole, with its header, judges it
pub judges_interface : Judges read_tree interface
judges_interface = judges_seen (λ (s : Read). s.tree) (read_checked file.reads (λ s. s.implements))
    (checked file.derives (λ s. s.implements)) interface
    (judges_checked file.reads file.derives _ file_good.law (refl, at_end) (λ s. s.implements))
    (λ tree ms (s, d, h, e). (s, (d, h), e))

first_fault : (w : Why) (ts rest : List Token)
    → read_checked file.reads (λ s. s.implements) ts ≡ Err (w, rest)
    → (before : List Token) × (ts ≡ before ++ rest) × IsFirstFault interface before w rest
first_fault w ts rest e =
    let f = checked_fault file.reads file.derives _ file_good.law (refl, at_end) (λ s. s.implements)
    file_extends w ts rest e in
    first_from read_tree interface judges_interface w ts rest (rw e refl)
    (f.0, f.1, wrong_is f.0 w rest f.2.0)

fault_answer : (ts rest : List Token) (stop : Stop)
    → Fails stop rest (read_checked file.reads (λ s. s.implements) ts)
    → IsFault interface ts (fault_of stop (line_at ts rest))
fault_answer ts rest stops.Memory h = tt
fault_answer ts rest (stops.Fault Unexpected) h = let f = first_fault Unexpected ts rest h in
    (f.0, rest, f.1, f.2, refl)
fault_answer ts rest (stops.Fault (Marked marks.Repeated)) h = let f =
    first_fault (Marked marks.Repeated) ts rest h in (f.0, rest, f.1, f.2, refl)
fault_answer ts rest (stops.Fault (Marked marks.BadNumber)) h = let f =
    first_fault (Marked marks.BadNumber) ts rest h in (f.0, rest, f.1, f.2, refl)
fault_answer ts rest (stops.Fault (Marked marks.Limit)) h = let f =
    first_fault (Marked marks.Limit) ts rest h in (f.0, rest, f.1, f.2, refl)

still_fails : (e : Stop) (rest : List Token) (read : Answer Read) → Fails e rest read
    → Fails e rest (go_on (go_on read read_end) (or_unexpected (λ (s : Read). s.implements)))
still_fails stops.Memory rest read h = tt
still_fails (stops.Fault w) rest read h = rw h refl

answered : (ts : List Token) (s : Read) (b : Bool) → s.implements ≡ b → file.reads ts ≡ Ok (s, [])
    → ReadsBy interface (λ x. x) ts (cond b (Ok s.tree) (Err (faults.Unexpected (line_at ts []))))
answered ts s true h e =
    let f = checked_found file.reads file.derives _ file_good.law (refl, at_end) (λ x. x.implements)
    ts s [] (rw (e, h) refl) in
    (s, f.0, f.1, refl)
answered ts s false h e = fault_answer ts [] (stops.Fault Unexpected) (rw (e, h) refl)

pub answers : (ts rest : List Token) (answer : Result Read Stop)
    → Gives (λ s. s) answer rest (file.reads ts)
    → ReadsBy interface (λ x. x) ts (implemented (line_at ts rest) (finished ts rest answer))
answers ts [] (Ok s) h = answered ts s s.implements refl h
answers ts (t ∷ rest) (Ok s) h = fault_answer ts (t ∷ rest) (stops.Fault Unexpected) (rw h refl)
answers ts [] (Err e) h = fault_answer ts [] e (still_fails e [] (file.reads ts) h)
answers ts (t ∷ rest) (Err e) h =
    fault_answer ts (t ∷ rest) e (still_fails e (t ∷ rest) (file.reads ts) h)

only_read : (ts : List Token) (tree : Interface) → Spells interface ts tree
    → (s : Read) × (read_checked file.reads (λ x. x.implements) ts ≡ Ok (s, []))
    × (s.implements ≡ true) × (tree ≡ s.tree)
only_read ts tree (s, d, h, e) = (
  s,
  checked_only file.reads file.derives _ file_good.law (refl, at_end) (λ x. x.implements) ts s
      (d, h),
  h,
  e,
)

memory_alone : (ts rest : List Token) (stop : Stop) (line : ℕ) (s : Read)
    → Fails stop rest (read_checked file.reads (λ x. x.implements) ts)
    → read_checked file.reads (λ x. x.implements) ts ≡ Ok (s, [])
    → fault_of stop line ≡ faults.Memory
memory_alone ts rest stops.Memory line s h e = refl
memory_alone ts rest (stops.Fault w) line s h e = absurd (let k = sym h ∙ e in cc)

found_alone : (ts : List Token) (s x : Read) (tree : Interface) (line : ℕ) (b : Bool)
    → s.implements ≡ b → file.reads ts ≡ Ok (s, [])
    → read_checked file.reads (λ y. y.implements) ts ≡ Ok (x, []) → tree ≡ x.tree
    → MatchResult (cond {A = Result Interface CclFault} b (Ok s.tree)
    (Err (faults.Unexpected line))) (λ v. v ≡ tree) (λ e. e ≡ faults.Memory)
found_alone ts s x tree line true h e k same =
    let checked_is : read_checked file.reads (λ y. y.implements) ts ≡ Ok (s, []) = rw (e, h) refl in
    ap (λ (y : Read). y.tree) (ok_is s x [] [] (sym checked_is ∙ k)).0 ∙ sym same
found_alone ts s x tree line false h e k same =
    let checked_is : read_checked file.reads (λ y. y.implements) ts ≡ Err (Unexpected, []) =
    rw (e, h) refl in
    absurd (let both = sym checked_is ∙ k in cc)

pub answers_only : (ts rest : List Token) (answer : Result Read Stop)
    → Gives (λ s. s) answer rest (file.reads ts)
    → AnswersOnly interface (λ x. x) ts (implemented (line_at ts rest) (finished ts rest answer))
answers_only ts [] (Ok s) h tree spelled = let o = only_read ts tree spelled in
    found_alone ts s o.0 tree (line_at ts []) s.implements refl h o.1 o.3
answers_only ts (t ∷ rest) (Ok s) h tree spelled = let o = only_read ts tree spelled in
    memory_alone ts (t ∷ rest) (stops.Fault Unexpected) t.line o.0 (rw h refl) o.1
answers_only ts [] (Err e) h tree spelled = let o = only_read ts tree spelled in
    memory_alone ts [] e (line_at ts []) o.0 (still_fails e [] (file.reads ts) h) o.1
answers_only ts (t ∷ rest) (Err e) h tree spelled = let o = only_read ts tree spelled in
    memory_alone ts (t ∷ rest) e (line_at ts (t ∷ rest)) o.0
    (still_fails e (t ∷ rest) (file.reads ts) h) o.1
