-- The lines of a batch, one after another.
use Rattle.std.proofs.Common.{◌≡◌, ◌∙◌, ℕ, List, [], ◌∷◌, ◌++◌, length, sym, ap, subst, refl, arith}
use Rattle.std.proofs.lemmas.List.{append-nil, append_assoc}
use Rattle.std.specs.Prelude.{nat_eq, if◌then◌else◌}
use Rattle.cx_run.specs.Answers.{status_of, text_of}
use Rattle.cx_run.specs.declared.reply.Answer.{Answer}
use Rattle.cx_run_batch.specs.declared.member.Member.{Member}
use Rattle.cx_several.specs.Members.{AddsLines, AnswersStage, HasAdded, HasLine}
use Rattle.cx_several.specs.Texts.{line, lines}

-- ---- what was added to a text

pub none_added : (files : List (List ℕ)) (ms : List Member) (text : List ℕ)
    → length files ≡ length ms → length files ≡ 0 → HasAdded files ms text text 0
none_added [] [] text same none = record {
  added = [];
  new_is = sym (append-nil text);
  lines = record { answers = []; are = tt; lines_are = refl; status_is = refl };
}
none_added [] (m ∷ ms) text same none = absurd (omega (arith, same))
none_added (file ∷ files) ms text same none = absurd (omega (arith, none))

-- a line, and those of the others after it
line_first : (file : List ℕ) (files : List (List ℕ)) (m : Member) (ms : List Member)
    (x : Answer) (old one new : List ℕ) (others status : ℕ)
    → AnswersStage m.job m.stage x → one ≡ old ++ line file (text_of x)
    → HasAdded files ms one new others
    → status ≡ (if nat_eq (status_of x) 0 then others else status_of x)
    → HasAdded (file ∷ files) (m ∷ ms) old new status
line_first file files m ms x old one new others status answers first more is = record {
  added = line file (text_of x) ++ more.added;
  new_is = more.new_is ∙ ap (λ (t : List ℕ). t ++ more.added) first
      ∙ append_assoc old (line file (text_of x)) more.added;
  lines = record {
    answers = x ∷ more.lines.answers;
    are = (answers, more.lines.are);
    lines_are = ap (λ (t : List ℕ). line file (text_of x) ++ t) more.lines.lines_are;
    status_is = is ∙ ap (λ (n : ℕ). if nat_eq (status_of x) 0 then n else status_of x)
        more.lines.status_is;
  };
}

-- of files and members of which these are the first
pub lines_first : (all files : List (List ℕ)) (file : List ℕ) (both ms : List Member) (m : Member)
    (old one new : List ℕ) (others status first : ℕ)
    → all ≡ file ∷ files → both ≡ m ∷ ms
    → HasLine file m old one first → HasAdded files ms one new others
    → status ≡ (if nat_eq first 0 then others else first)
    → HasAdded all both old new status
lines_first all files file both ms m old one new others status first all_is both_is here more is =
    subst (λ (fs : List (List ℕ)). HasAdded fs both old new status) (sym all_is)
    (subst (λ (l : List Member). HasAdded (file ∷ files) l old new status) (sym both_is)
    (line_first file files m ms here.answer old one new others status here.is here.text_is more
    (is ∙ ap (λ (n : ℕ). if nat_eq n 0 then others else n) here.status_is)))

-- the whole text
pub replies_with : (files : List (List ℕ)) (ms : List Member) (empty new : List ℕ) (status : ℕ)
    → empty ≡ [] → HasAdded files ms empty new status → AddsLines files ms new status
replies_with files ms empty new status none x = record {
  answers = x.lines.answers;
  are = x.lines.are;
  lines_are = x.new_is ∙ ap (λ (t : List ℕ). t ++ x.added) none ∙ x.lines.lines_are;
  status_is = x.lines.status_is;
}
