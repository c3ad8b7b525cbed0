-- A path that a run follows: where no need on the path is unmet, each need of the run's entries is
-- met, and where the run goes on, it leaves the flags that the path leaves.
use Rattle.std.proofs.Common.{◌≡◌, ℕ, refl, sym, ap, subst, ◌∙◌, Bool, true, false, not, cond, List, [], ◌∷◌, ◌++◌, Option, Some, None, append-nil}
use Rattle.std.specs.List.{find}
use Rattle.std.proofs.lemmas.List.{append_assoc}
use Rattle.std.proofs.lemmas.List.Elements.{All-nil, All-cons}
use Rattle.cx_plan.specs.Setups.{Setup}
use Rattle.cx_plan.specs.Regions.{Flags, Need, needs, leaves, is_met}
use Rattle.cx_plan.specs.Paths.{Mark, Letter, Meets, Then, Just, or_go_on, first_unmet}
use Rattle.cx_rule.specs.States.{State}
use Rattle.cx_model.specs.declared.ends.End.{End}
use Rattle.cx_model.specs.Traces.{Entry, Outcome, Goes, Ends, Trace, stays, ends, after, follow, then_go}
use Rattle.cx_model.specs.Agreement.{Met}
use Rattle.cx_model.specs.Uses.{entry_needs, entry_leaves, entries_leave}

-- ---- needs that are met

-- each need on a path is met, from these flags on
abbrev pub PathMet : Setup → Flags → List Mark → Type 0
PathMet setup flags [] = Unit {0}
PathMet setup flags (Letter c ∷ marks) = PathMet setup flags marks
PathMet setup flags (Meets act ∷ marks) =
    Met setup flags (needs setup act) × PathMet setup (leaves setup act flags) marks

-- the flags that a path leaves
abbrev pub path_leaves : Setup → List Mark → Flags → Flags
path_leaves setup [] flags = flags
path_leaves setup (Letter c ∷ marks) flags = path_leaves setup marks flags
path_leaves setup (Meets act ∷ marks) flags = path_leaves setup marks (leaves setup act flags)

-- each need of some entries is met, from these flags on
abbrev pub EntriesMet : Setup → Flags → List Entry → Type 0
EntriesMet setup flags [] = Unit {0}
EntriesMet setup flags (e ∷ es) =
    Met setup flags (entry_needs setup e) × EntriesMet setup (entry_leaves setup e flags) es

pub path-split : (setup : Setup) (a b : List Mark) (flags : Flags) → PathMet setup flags (a ++ b)
    → PathMet setup flags a × PathMet setup (path_leaves setup a flags) b
path-split setup [] b flags met = (tt, met)
path-split setup (Letter c ∷ a) b flags met = path-split setup a b flags met
path-split setup (Meets act ∷ a) b flags met = let r =
    path-split setup a b (leaves setup act flags) met.1 in ((met.0, r.0), r.1)

pub path-leaves-both : (setup : Setup) (a b : List Mark) (flags : Flags)
    → path_leaves setup (a ++ b) flags ≡ path_leaves setup b (path_leaves setup a flags)
path-leaves-both setup [] b flags = refl
path-leaves-both setup (Letter c ∷ a) b flags = path-leaves-both setup a b flags
path-leaves-both setup (Meets act ∷ a) b flags = path-leaves-both setup a b (leaves setup act flags)

pub entries-leave-both : (setup : Setup) (a b : List Entry) (flags : Flags)
    → entries_leave setup (a ++ b) flags ≡ entries_leave setup b (entries_leave setup a flags)
entries-leave-both setup [] b flags = refl
entries-leave-both setup (e ∷ a) b flags = entries-leave-both setup a b (entry_leaves setup e flags)

pub entries-join : (setup : Setup) (a b : List Entry) (flags : Flags) → EntriesMet setup flags a
    → EntriesMet setup (entries_leave setup a flags) b → EntriesMet setup flags (a ++ b)
entries-join setup [] b flags one two = two
entries-join setup (e ∷ a) b flags one two =
    (one.0, entries-join setup a b (entry_leaves setup e flags) one.1 two)

pub entry-met : (setup : Setup) (earlier : List Entry) (e : Entry) (later : List Entry)
    (flags : Flags) → EntriesMet setup flags (earlier ++ e ∷ later)
    → Met setup (entries_leave setup earlier flags) (entry_needs setup e)
entry-met setup [] e later flags met = met.0
entry-met setup (first ∷ earlier) e later flags met =
    entry-met setup earlier e later (entry_leaves setup first flags) met.1

-- ---- a path on which the first unmet need is none

met-by : (setup : Setup) (flags : Flags) (ns : List Need)
    → find (λ n. not (is_met setup flags n)) ns ≡ None → Met setup flags ns
met-by setup flags [] none = All-nil (λ need. is_met setup flags need ≡ true)
met-by setup flags (n ∷ ns) none = by (is_met setup flags n) refl none (met-by setup flags ns)
  where
    by : (b : Bool) → is_met setup flags n ≡ b
        → cond (not b) (Some n) (find (λ n. not (is_met setup flags n)) ns) ≡ None
        → (find (λ n. not (is_met setup flags n)) ns ≡ None → Met setup flags ns)
        → Met setup flags (n ∷ ns)
    by true is none others = All-cons (λ need. is_met setup flags need ≡ true) n ns is (others none)
    by false is none others = absurd cc

both-none : (letters : List ℕ) (o : Option Need) (rest : Option (List ℕ × Need))
    → or_go_on letters o rest ≡ None → (o ≡ None) × (rest ≡ None)
both-none letters None rest none = (refl, none)
both-none letters (Some n) rest none = absurd cc

pub path-met : (setup : Setup) (letters : List ℕ) (flags : Flags) (marks : List Mark)
    → first_unmet setup letters flags marks ≡ None → PathMet setup flags marks
path-met setup letters flags [] none = tt
path-met setup letters flags (Letter c ∷ marks) none =
    path-met setup (letters ++ c ∷ []) flags marks none
path-met setup letters flags (Meets act ∷ marks) none =
    let r = both-none letters (find (λ n. not (is_met setup flags n)) (needs setup act))
    (first_unmet setup letters (leaves setup act flags) marks) none in (
      met-by setup flags (needs setup act) r.0,
      path-met setup letters (leaves setup act flags) marks r.1,
    )

-- ---- the path of a trace

-- where a run goes on, its entries leave what the path leaves
abbrev pub SameLeft : Setup → List Mark → List Entry → Outcome → Type 0
SameLeft setup marks es (Goes state) = (flags : Flags)
    → entries_leave setup es flags ≡ path_leaves setup marks flags
SameLeft setup marks es (Ends end) = Unit {0}

pub record Guided (setup : Setup) (P : List Mark → Type 0) (t : Trace) : Type 0 where
  pub marks : List Mark
  pub path : P marks
  pub met : (flags : Flags) → PathMet setup flags marks → EntriesMet setup flags t.entries
  pub left : SameLeft setup marks t.entries t.outcome

pub guided-map : (setup : Setup) (P Q : List Mark → Type 0) (t : Trace)
    → ((marks : List Mark) → P marks → Q marks) → Guided setup P t → Guided setup Q t
guided-map setup P Q t to g =
    record { marks = g.marks; path = to g.marks g.path; met = g.met; left = g.left }

pub guided-stays : (setup : Setup) (state : State) → Guided setup (Just []) (stays state)
guided-stays setup state =
    record { marks = []; path = refl; met = λ flags met. tt; left = λ flags. refl }

pub guided-ends : (setup : Setup) (end : End) → Guided setup (Just []) (ends end)
guided-ends setup end = record { marks = []; path = refl; met = λ flags met. tt; left = tt }

-- one trace after another
same-both : (setup : Setup) (a b : List Mark) (xs ys : List Entry) (o : Outcome)
    → ((flags : Flags) → entries_leave setup xs flags ≡ path_leaves setup a flags)
    → SameLeft setup b ys o → SameLeft setup (a ++ b) (xs ++ ys) o
same-both setup a b xs ys (Ends end) one two = tt
same-both setup a b xs ys (Goes state) one two = λ flags.
    entries-leave-both setup xs ys flags ∙ ap (λ f. entries_leave setup ys f) (one flags)
    ∙ two (path_leaves setup a flags)
    ∙ sym (path-leaves-both setup a b flags)

followed : (setup : Setup) (P Q : List Mark → Type 0) (es : List Entry) (o : Outcome)
    (next : State → Trace) → Guided setup P (record { entries = es; outcome = o })
    → ((state : State) → Guided setup Q (next state))
    → Guided setup (Then P Q) (after es (follow o next))
followed setup P Q es (Goes state) next one two =
    let other = two state in
    record {
      marks = one.marks ++ other.marks;
      path = (one.marks, other.marks, one.path, other.path, refl);
      met = λ flags met. let parts = path-split setup one.marks other.marks flags met in
          entries-join setup es (next state).entries flags (one.met flags parts.0)
          (subst (λ f. EntriesMet setup f (next state).entries) (sym (one.left flags))
          (other.met (path_leaves setup one.marks flags) parts.1));
      left = same-both setup one.marks other.marks es (next state).entries
          (next state).outcome one.left other.left;
    }
followed setup P Q es (Ends end) next one two =
    let other = two [] in
    record {
      marks = one.marks ++ other.marks;
      path = (one.marks, other.marks, one.path, other.path, refl);
      met = λ flags met. subst (EntriesMet setup flags) (sym (append-nil es))
          (one.met flags (path-split setup one.marks other.marks flags met).0);
      left = tt;
    }

pub guided-then : (setup : Setup) (P Q : List Mark → Type 0) (t : Trace) (next : State → Trace)
    → Guided setup P t → ((state : State) → Guided setup Q (next state))
    → Guided setup (Then P Q) (then_go t next)
guided-then setup P Q t next one two = followed setup P Q t.entries t.outcome next one two

-- ---- paths, one after another

pub then-nothing : (P : List Mark → Type 0) (marks : List Mark) → Then P (Just []) marks → P marks
then-nothing P marks way =
    subst P (sym (way.4 ∙ ap (λ b. way.0 ++ b) way.3 ∙ append-nil way.0)) way.2

pub then-right : (P Q R : List Mark → Type 0) (marks : List Mark) → Then (Then P Q) R marks
    → Then P (Then Q R) marks
then-right P Q R marks way =
    let one = way.2 in (
      one.0,
      one.1 ++ way.1,
      one.2,
      (one.1, way.1, one.3, way.3, refl),
      way.4 ∙ ap (λ a. a ++ way.1) one.4 ∙ append_assoc one.0 one.1 way.1,
    )

pub then-left : (P Q R : List Mark → Type 0) (marks : List Mark) → Then P (Then Q R) marks
    → Then (Then P Q) R marks
then-left P Q R marks way =
    let two = way.3 in (
      way.0 ++ two.0,
      two.1,
      (way.0, two.0, way.2, two.2, refl),
      two.3,
      way.4 ∙ ap (λ b. way.0 ++ b) two.4 ∙ sym (append_assoc way.0 two.0 two.1),
    )

pub then-map : (P Q R : List Mark → Type 0) → ((marks : List Mark) → Q marks → R marks)
    → (marks : List Mark) → Then P Q marks → Then P R marks
then-map P Q R to marks way = (way.0, way.1, way.2, to way.1 way.3, way.4)
