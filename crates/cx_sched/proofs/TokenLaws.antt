-- Tokens that are printed within a line: each can be printed, is no LineEnd, and is on no line.
use Rattle.std.proofs.Common.{◌≡◌, ℕ, Bool, true, false, List, [], ◌∷◌, ◌++◌, codes, Option, Some, None, refl, arith}
use Rattle.std.specs.List.{AllByRecursion, list_all}
use Rattle.cx_plan.specs.Names.{region_text}
use Rattle.cx_plan.specs.declared.item.Region.{Region}
use Rattle.cx_plan.specs.declared.item.Region.TheVariants.{Interior, Boundary, Everywhere}
use Rattle.cx_text.specs.declared.token.Token.{Token}
use Rattle.cx_text.specs.declared.token.Style.TheVariants.{Ccl}
use Rattle.cx_text.specs.declared.byte.Role.TheVariants as roles
use Rattle.cx_text.specs.declared.byte.Class.TheVariants as classes
use Rattle.cx_text.specs.Bytes.{role_of, has}
use Rattle.cx_text.specs.Pieces.{Pair}
use Rattle.cx_text.specs.Tokens.{is_line_end}
use Rattle.cx_text.specs.Grammar.{head, passes}
use Rattle.cx_text.specs.Written.{word, words, quoted, sign, sign_pair}
use Rattle.cx_text.proofs.DecimalLaws.{decimal_printable}
use Rattle.cx_text.proofs.PrintLaws.{printable_word, printable_sign, printable_quoted}
use Rattle.cx_text.proofs.Holds.{each-append}
use Rattle.cx_expr.proofs.TextLaws.{IsWritten}
use Rattle.cx_sched.specs.declared.tree.Ref.{Ref}
use Rattle.cx_sched.specs.declared.tree.Spot.{Spot}
use Rattle.cx_sched.specs.declared.tree.Spot.TheVariants.{At, Inside}
use Rattle.cx_sched.specs.Words.{STORAGE, IF, WHILE, BEFORE, AFTER}
use Rattle.cx_sched.specs.Printed as printed
use Rattle.cx_sched.proofs.RefAgain.{IsMaybe, IsName, IsPlace, RefFits, PlainFits, StoreFits}
use Rattle.cx_sched.proofs.LinesAgain.{TouchedFits}
use Rattle.cx_sched.proofs.HeadAgain.{MaybePlain, place_of}

abbrev pub Written : List Token → Type 0
Written ts = AllByRecursion IsWritten ts

pub a_name : (n : List ℕ) → IsName n → IsWritten (word n)
a_name n h = (h.1, refl, refl)

pub a_word : (b : ℕ) (w : List ℕ) → ((f : Bool) → role_of Ccl f b ≡ roles.Word)
    → list_all (has (classes.Word Ccl)) w ≡ true → IsWritten (word (b ∷ w))
a_word b w role all = (printable_word Ccl b w 0 role all, refl, refl)

pub a_sign : (b : ℕ) → ((f : Bool) → role_of Ccl f b ≡ roles.Sign) → IsWritten (sign b)
a_sign b role = (printable_sign Ccl b 0 role, refl, refl)

a_pair : IsWritten (sign_pair 58 58)
a_pair = (
  record {
    piece = Pair 58 58;
    bytes = refl;
    token = λ l. refl;
    stands = λ f more apart. (refl, refl);
  },
  refl,
  refl,
)

a_quoted : (t : List ℕ) → IsWritten (quoted t)
a_quoted t = (printable_quoted Ccl (λ f. refl) t 0, refl, refl)

-- before what goes on with no LineEnd
pub written_starts : (ts rest : List Token) → Written ts → passes is_line_end (head rest) ≡ false
    → passes is_line_end (head (ts ++ rest)) ≡ false
written_starts [] rest h e = e
written_starts (t ∷ ts) rest h e = h.0.1

-- ---- names of variables and groups

from_written : (o : Option (List ℕ)) (n : List ℕ) → IsMaybe o → IsName n
    → Written (printed.ref_from o n)
from_written None n a b = (a_name n b, tt)
from_written (Some o) n a b = (a_name o a, (a_pair, (a_name n b, tt)))

ref_written : (r : Ref) → RefFits r → Written (printed.ref r)
ref_written r f = from_written r.owner r.name f.owner f.name

bracketed_written : (k : Option ℕ) → IsPlace k → Written (printed.bracketed k)
bracketed_written None f = tt
bracketed_written (Some k) f = (
  a_sign 91 (λ g. refl),
  ((decimal_printable k (omega (arith, f)), refl, refl), (a_sign 93 (λ g. refl), tt)),
)

region_written : (g : Region) → IsWritten (word (region_text g))
region_written Interior = a_word 105 (codes "nterior") (λ f. refl) refl
region_written Boundary = a_word 98 (codes "oundary") (λ f. refl) refl
region_written Everywhere = a_word 101 (codes "verywhere") (λ f. refl) refl

pub stores_written : (ss : List (Ref × Option ℕ)) → AllByRecursion StoreFits ss
    → Written (printed.stores ss)
stores_written [] h = tt
stores_written (s ∷ ss) h =
    each-append IsWritten (printed.store s) (printed.stores ss)
    (each-append IsWritten (printed.ref s.0) (printed.bracketed s.1) (ref_written s.0 h.0.ref.fits)
    (bracketed_written s.1 h.0.place))
    (stores_written ss h.1)

refs_written : (rs : List Ref) → AllByRecursion PlainFits rs → Written (printed.refs rs)
refs_written [] h = tt
refs_written (r ∷ rs) h =
    each-append IsWritten (printed.ref r) (printed.refs rs) (ref_written r h.0.fits)
    (refs_written rs h.1)

access_written : (ts : List (Ref × Region)) → AllByRecursion TouchedFits ts
    → Written (printed.accesses ts)
access_written [] h = tt
access_written (t ∷ ts) h =
    each-append IsWritten (printed.access t) (printed.accesses ts)
    (each-append IsWritten (printed.ref t.0 ++ printed.bracketed t.0.copy)
    (sign 40 ∷ word (region_text t.1) ∷ sign 41 ∷ [])
    (each-append IsWritten (printed.ref t.0) (printed.bracketed t.0.copy) (ref_written t.0 h.0)
    (bracketed_written t.0.copy h.0.copy))
    (a_sign 40 (λ f. refl), (region_written t.1, (a_sign 41 (λ f. refl), tt))))
    (access_written ts h.1)

-- ---- lines

a_colon : IsWritten (sign 58)
a_colon = a_sign 58 (λ f. refl)

pub a_storage : IsWritten (word STORAGE)
a_storage = a_word 83 (codes "TORAGE") (λ f. refl) refl

pub storage_written : (ss : List (Ref × Option ℕ)) → AllByRecursion StoreFits ss
    → Written (printed.storage_line ss)
storage_written [] h = tt
storage_written (s ∷ ss) h = (a_storage, (a_colon, stores_written (s ∷ ss) h))

pub sync_written : (rs : List Ref) → AllByRecursion PlainFits rs → Written (printed.sync_line rs)
sync_written [] h = tt
sync_written (r ∷ rs) h =
    (a_word 83 (codes "YNC") (λ f. refl) refl, (a_colon, refs_written (r ∷ rs) h))

pub line_written : (w : List ℕ) (ts : List (Ref × Region)) → IsWritten (word w)
    → AllByRecursion TouchedFits ts → Written (printed.access_line w ts)
line_written w [] a h = tt
line_written w (t ∷ ts) a h = (a, (a_colon, access_written (t ∷ ts) h))

pub a_reads : IsWritten (word (codes "READS"))
a_reads = a_word 82 (codes "EADS") (λ f. refl) refl

pub a_writes : IsWritten (word (codes "WRITES"))
a_writes = a_word 87 (codes "RITES") (λ f. refl) refl

-- ---- what stands before lines

pub group_written : (g : Bool) → Written (printed.group_word g)
group_written true = (a_word 71 (codes "ROUP") (λ f. refl) refl, tt)
group_written false = tt

pub spot_written : (s : Spot) → IsName (place_of s) → Written (printed.spot s)
spot_written (At p) h = (a_word 65 (codes "T") (λ f. refl) refl, (a_name p h, tt))
spot_written (Inside p) h = (a_word 73 (codes "N") (λ f. refl) refl, (a_name p h, tt))

pub alias_written : (a : Option (List ℕ)) → IsMaybe a → Written (printed.alias a)
alias_written None h = tt
alias_written (Some n) h = (a_word 65 (codes "S") (λ f. refl) refl, (a_name n h, tt))

pub scalar_written : (w : List ℕ) (t : Option Ref) → IsWritten (word w) → MaybePlain t
    → Written (printed.scalar w t)
scalar_written w None a h = tt
scalar_written w (Some r) a h = (a, ref_written r h.fits)

words_written : (ns : List (List ℕ)) → AllByRecursion IsName ns → Written (words ns)
words_written [] h = tt
words_written (n ∷ ns) h = (a_name n h.0, words_written ns h.1)

pub others_written : (w : List ℕ) (ns : List (List ℕ)) → IsWritten (word w)
    → AllByRecursion IsName ns → Written (printed.others w ns)
others_written w [] a h = tt
others_written w (n ∷ ns) a h = (
  a,
  (
    a_sign 40 (λ f. refl),
    each-append IsWritten (words (n ∷ ns)) (sign 41 ∷ []) (words_written (n ∷ ns) h)
        (a_sign 41 (λ f. refl), tt),
  ),
)

pub description_written : (text : List ℕ) → Written (printed.description text)
description_written [] = tt
description_written (c ∷ cs) = (a_quoted (c ∷ cs), tt)

pub an_if : IsWritten (word IF)
an_if = a_word 73 (codes "F") (λ f. refl) refl

pub a_while : IsWritten (word WHILE)
a_while = a_word 87 (codes "HILE") (λ f. refl) refl

pub a_before : IsWritten (word BEFORE)
a_before = a_word 66 (codes "EFORE") (λ f. refl) refl

pub an_after : IsWritten (word AFTER)
an_after = a_word 65 (codes "FTER") (λ f. refl) refl

pub a_schedule : IsWritten (word (codes "schedule"))
a_schedule = a_word 115 (codes "chedule") (λ f. refl) refl

pub a_condition : IsWritten (word (codes "if"))
a_condition = a_word 105 (codes "f") (λ f. refl) refl

pub an_else : IsWritten (word (codes "else"))
an_else = a_word 101 (codes "lse") (λ f. refl) refl
