-- What single operations note, and how a run of these notes ends.
use Rattle.std.proofs.Common.{◌≡◌, ℕ, suc, ◌+◌, Bool, true, false, ltb, leb, List, [], ◌∷◌, ◌++◌, length, Option, Some, None, is_some, arith, refl, ap, ◌∙◌}
use Rattle.std.specs.Prelude.{if◌then◌else◌, ◌==◌, slice_index_or}
use Rattle.std.proofs.lemmas.Bool.{eq-eqb, ltb-true, ltb-false, le-leb, leb-true, false_from_ne_true}
use Rattle.cx_plan.specs.declared.variable.VarId.{VarId}
use Rattle.cx_plan.specs.Steering.{item_at}
use Rattle.cx_rule.specs.States.{State}
use Rattle.cx_model.specs.declared.ends.End.{End}
use Rattle.cx_model.specs.declared.ends.End.TheVariants.{WhileLimit, OutputLimit}
use Rattle.cx_model.specs.Traces.{Exchanged, Tested, Outcome, Ends, Trace, after}
use Rattle.cx_model.specs.Turns.{turn}
use Rattle.cx_model.specs.Courses.{Note, note, turn_note, limit_note, cut, stop_at}
use Rattle.cx_model.specs.Runs.{Lengths, grown_by, lengths_after, lengths_behind, within_limit, text_of, passing, stop_or, greatest_output}
use Rattle.cx_flat.specs.declared.op.Op.{Op}
use Rattle.cx_flat.specs.declared.op.Op.TheVariants.{Sweep, Apply, Give, Join, Post, Take, Test, Open, Turn, Again, Rotate, Due, Written, Skip, Next, Piece, Save, Halt}
use Rattle.cx_flat.specs.Flats.{Control, last_turns, notes_at}
use Rattle.law_parts.specs.Ends.{or_end, met_of}
use Rattle.law_parts.specs.Runs.{Run, notes_of}
use Rattle.law_parts.specs.Truths.{entries_of, lengths_before, passes_limit}
use Rattle.law_parts.proofs.TraceTotals.{AllQuiet}

-- ---- outcomes

-- how a run of these notes ends, with an output of this length before them
abbrev pub outcome_from : Lengths → List Note → State → Outcome
outcome_from so_far ns state =
    (within_limit so_far (cut ns state).entries (cut ns state).outcome).outcome

-- no text passes the limit
abbrev pub AllFit : Lengths → List Note → Type 0
AllFit so_far [] = Unit {0}
AllFit so_far (n ∷ ns) = (passing so_far n.entry ≡ None) × AllFit (lengths_after so_far n.entry) ns

first_outcome : (so_far : Lengths) (n : Note) (ns : List Note) (state : State) → n.met ≡ None
    → passing so_far n.entry ≡ None
    → outcome_from so_far (n ∷ ns) state ≡ outcome_from (lengths_after so_far n.entry) ns state
first_outcome so_far n ns state quiet fit =
    ap (λ (p : Option ℕ). (stop_or p
    (after (n.entry ∷ []) (within_limit (lengths_after so_far n.entry)
    (stop_at n.met (cut ns state)).entries (stop_at n.met (cut ns state)).outcome))).outcome)
    fit
    ∙ ap (λ (o : Option End).
    (within_limit (lengths_after so_far n.entry) (stop_at o (cut ns state)).entries
    (stop_at o (cut ns state)).outcome).outcome) quiet

-- notes that meet no end and pass no limit
pub goes_through : (so_far : Lengths) (ns more : List Note) (state : State) → AllQuiet ns
    → AllFit so_far ns
    → outcome_from so_far (ns ++ more) state
    ≡ outcome_from (lengths_behind so_far (entries_of ns)) more state
goes_through so_far [] more state quiet fit = refl
goes_through so_far (n ∷ ns) more state quiet fit =
    first_outcome so_far n (ns ++ more) state quiet.0 fit.0
    ∙ goes_through (lengths_after so_far n.entry) ns more state quiet.1 fit.1

-- and the trace of that run
abbrev pub trace_from : Lengths → List Note → State → Trace
trace_from so_far ns state = within_limit so_far (cut ns state).entries (cut ns state).outcome

first_trace : (so_far : Lengths) (n : Note) (ns : List Note) (state : State) → n.met ≡ None
    → passing so_far n.entry ≡ None
    → trace_from so_far (n ∷ ns) state
    ≡ after (n.entry ∷ []) (trace_from (lengths_after so_far n.entry) ns state)
first_trace so_far n ns state quiet fit =
    ap (λ (p : Option ℕ). stop_or p
    (after (n.entry ∷ []) (within_limit (lengths_after so_far n.entry)
    (stop_at n.met (cut ns state)).entries (stop_at n.met (cut ns state)).outcome))) fit
    ∙ ap (λ (o : Option End).
    after (n.entry ∷ []) (within_limit (lengths_after so_far n.entry)
    (stop_at o (cut ns state)).entries (stop_at o (cut ns state)).outcome)) quiet

pub trace_through : (so_far : Lengths) (ns more : List Note) (state : State) → AllQuiet ns
    → AllFit so_far ns
    → trace_from so_far (ns ++ more) state
    ≡ after (entries_of ns) (trace_from (lengths_behind so_far (entries_of ns)) more state)
trace_through so_far [] more state quiet fit = refl
trace_through so_far (n ∷ ns) more state quiet fit =
    first_trace so_far n (ns ++ more) state quiet.0 fit.0
    ∙ ap (after (n.entry ∷ []))
    (trace_through (lengths_after so_far n.entry) ns more state quiet.1 fit.1)

-- an end that is met
stops_there : (so_far : Lengths) (n : Note) (ns : List Note) (state : State) (end : End)
    → n.met ≡ Some end → passing so_far n.entry ≡ None
    → outcome_from so_far (n ∷ ns) state ≡ Ends end
stops_there so_far n ns state end met fit =
    ap (λ (p : Option ℕ). (stop_or p
    (after (n.entry ∷ []) (within_limit (lengths_after so_far n.entry)
    (stop_at n.met (cut ns state)).entries (stop_at n.met (cut ns state)).outcome))).outcome)
    fit
    ∙ ap (λ (o : Option End).
    (within_limit (lengths_after so_far n.entry) (stop_at o (cut ns state)).entries
    (stop_at o (cut ns state)).outcome).outcome) met

-- a text that passes the limit
passes_there : (so_far : Lengths) (n : Note) (ns : List Note) (state : State) (iteration : ℕ)
    → passing so_far n.entry ≡ Some iteration
    → outcome_from so_far (n ∷ ns) state ≡ Ends (OutputLimit iteration)
passes_there so_far n ns state iteration pass =
    ap (λ (p : Option ℕ). (stop_or p
    (after (n.entry ∷ []) (within_limit (lengths_after so_far n.entry)
    (stop_at n.met (cut ns state)).entries (stop_at n.met (cut ns state)).outcome))).outcome)
    pass

-- ---- numbers and limits

-- the variable's own length behind its text
pub grown_there : (so_far : Lengths) (v : VarId) (count : ℕ)
    → grown_by so_far v count v.0 ≡ so_far v.0 + count
grown_there so_far v count =
    ap (λ (b : Bool). if b then so_far v.0 + count else so_far v.0) (eq-eqb v.0 v.0 refl)

not_passed : false ≡ true → ⊥
not_passed e = absurd cc

within : (limit a b : ℕ) → ltb limit b ≡ false → b ≡ a → leb a limit ≡ true
within limit a b e same = le-leb a limit (let h = ltb-false limit b e in omega (arith, h, same))

beyond : (limit a b : ℕ) → ltb limit b ≡ true → b ≡ a → leb a limit ≡ false
beyond limit a b e same =
    false_from_ne_true (leb a limit)
    (λ t. let h = ltb-true limit b e in let k = leb-true a limit t in omega (arith, h, k, same))

pub met_some : (o : Option End) → is_some o ≡ true → (end : End) × (o ≡ Some end)
met_some (Some end) e = (end, refl)
met_some None e = absurd cc

pub met_none : (o : Option End) → is_some o ≡ false → o ≡ None
met_none None e = refl
met_none (Some end) e = absurd cc

or_none : (o : Option End) → or_end o None ≡ None → o ≡ None
or_none None e = refl
or_none (Some end) e = absurd cc

or_some : (o : Option End) (end : End) → or_end o None ≡ Some end → o ≡ Some end
or_some (Some a) end e = e
or_some None end e = absurd cc

-- ---- single operations

module _ (r : Run) where
  -- a note whose entry is no text: it passes no limit
  abbrev pub OneNote : Lengths → List Note → Type 0
  OneNote so_far [] = Unit {0}
  OneNote so_far (n ∷ []) = passing so_far n.entry ≡ None
  OneNote so_far (n ∷ m ∷ ns) = ⊥

  pub fits_one : (so_far : Lengths) (ns : List Note) → OneNote so_far ns → met_of ns ≡ None
      → AllQuiet ns × AllFit so_far ns
  fits_one so_far [] h e = (tt, tt)
  fits_one so_far (n ∷ []) h e = ((or_none n.met e, tt), (h, tt))
  fits_one so_far (n ∷ m ∷ ns) h e = absurd h

  pub ends_one : (so_far : Lengths) (ns more : List Note) (state : State) (end : End)
      → OneNote so_far ns → met_of ns ≡ Some end → outcome_from so_far (ns ++ more) state ≡ Ends end
  ends_one so_far [] more state end h e = absurd cc
  ends_one so_far (n ∷ []) more state end h e =
      stops_there so_far n more state end (or_some n.met end e) h
  ends_one so_far (n ∷ m ∷ ns) more state end h e = absurd h

  turn_one : (so_far : Lengths) (k iteration : ℕ) (before : State) (o : Option State)
      → OneNote so_far (turn_note k (item_at r.setup k iteration) iteration before o ∷ [])
  turn_one so_far k iteration before None = refl
  turn_one so_far k iteration before (Some s) = refl

  -- whether a text passes the limit by its length
  abbrev pub passes_by : Lengths → Op → List Note → Bool
  passes_by so_far (Piece v) ns = ltb greatest_output (lengths_behind so_far (entries_of ns) v.0)
  passes_by so_far _ ns = false

  text_fits : (a b : ℕ) (iteration : ℕ) → leb a b ≡ true
      → ◌≡◌ {A = Option ℕ} (if leb a b then None else Some iteration) None
  text_fits a b iteration e = ap (λ (t : Bool). if t then None else Some iteration) e

  text_passes : (a b : ℕ) (iteration : ℕ) → leb a b ≡ false
      → ◌≡◌ {A = Option ℕ} (if leb a b then None else Some iteration) (Some iteration)
  text_passes a b iteration e = ap (λ (t : Bool). if t then None else Some iteration) e

  text_length : (so_far : Lengths) (v : VarId) (count : ℕ)
      → grown_by so_far v count v.0 ≡ so_far v.0 + count
  text_length so_far v count = grown_there so_far v count

  -- an operation that passes no limit notes nothing that does
  pub op_one : (o : Op) (c : Control) (s : State) (so_far : Lengths)
      → passes_by so_far o (notes_at r.setup r.rules o c s) ≡ false
      → OneNote so_far (notes_at r.setup r.rules o c s)
  op_one (Sweep i) c s so_far h =
      turn_one so_far i c.iteration s
      (turn r.setup r.rules (item_at r.setup i c.iteration) s c.iteration)
  op_one (Apply i) c s so_far h =
      turn_one so_far i c.iteration s
      (turn r.setup r.rules (item_at r.setup i c.iteration) s c.iteration)
  op_one (Give i) c s so_far h = tt
  op_one (Join i) c s so_far h =
      turn_one so_far i c.iteration s
      (turn r.setup r.rules (item_at r.setup i c.iteration) s c.iteration)
  op_one (Post d vars) c s so_far h = tt
  op_one (Take d vars path) c s so_far h = go (suc d == r.setup.shape.dims)
    where
      go : (b : Bool) → OneNote so_far (if b then note (Exchanged vars path s) ∷ [] else [])
      go true = refl
      go false = tt
  op_one (Test v path skip) c s so_far h = refl
  op_one Open c s so_far h = tt
  op_one (Turn v path skip) c s so_far h = go (last_turns c.opened == r.setup.while_limit)
    where
      go : (b : Bool) → OneNote so_far
          ((if b then limit_note v path (WhileLimit c.iteration path) s else note (Tested v path s))
          ∷ [])
      go true = refl
      go false = refl
  op_one (Again back) c s so_far h = tt
  op_one Rotate c s so_far h = refl
  op_one (Due skip) c s so_far h = tt
  op_one (Written skip) c s so_far h = tt
  op_one (Skip skip) c s so_far h = tt
  op_one (Next back) c s so_far h = tt
  op_one (Piece v) c s so_far h =
      let text = text_of r.setup c.iteration s v in
      text_fits (so_far v.0 + length text) greatest_output c.iteration
      (within greatest_output (so_far v.0 + length text) (grown_by so_far v (length text) v.0) h
      (text_length so_far v (length text)))
  op_one Save c s so_far h = refl
  op_one Halt c s so_far h = tt

  -- one that passes it ends the run there
  pub op_full : (o : Op) (c : Control) (s : State) (so_far : Lengths) (more : List Note)
      (state : State) → passes_by so_far o (notes_at r.setup r.rules o c s) ≡ true
      → outcome_from so_far (notes_at r.setup r.rules o c s ++ more) state
      ≡ Ends (OutputLimit c.iteration)
  op_full (Piece v) c s so_far more state h =
      let text = text_of r.setup c.iteration s v in
      passes_there so_far (slice_index_or (notes_at r.setup r.rules (Piece v) c s) 0
      (note (Tested v [] s))) more state c.iteration
      (text_passes (so_far v.0 + length text) greatest_output c.iteration
      (beyond greatest_output (so_far v.0 + length text) (grown_by so_far v (length text) v.0) h
      (text_length so_far v (length text))))
  op_full (Sweep i) c s so_far more state h = absurd (not_passed h)
  op_full (Apply i) c s so_far more state h = absurd (not_passed h)
  op_full (Give i) c s so_far more state h = absurd (not_passed h)
  op_full (Join i) c s so_far more state h = absurd (not_passed h)
  op_full (Post d vars) c s so_far more state h = absurd (not_passed h)
  op_full (Take d vars path) c s so_far more state h = absurd (not_passed h)
  op_full (Test v path skip) c s so_far more state h = absurd (not_passed h)
  op_full Open c s so_far more state h = absurd (not_passed h)
  op_full (Turn v path skip) c s so_far more state h = absurd (not_passed h)
  op_full (Again back) c s so_far more state h = absurd (not_passed h)
  op_full Rotate c s so_far more state h = absurd (not_passed h)
  op_full (Due skip) c s so_far more state h = absurd (not_passed h)
  op_full (Written skip) c s so_far more state h = absurd (not_passed h)
  op_full (Skip skip) c s so_far more state h = absurd (not_passed h)
  op_full (Next back) c s so_far more state h = absurd (not_passed h)
  op_full Save c s so_far more state h = absurd (not_passed h)
  op_full Halt c s so_far more state h = absurd (not_passed h)

  pub by_length : (n : ℕ) (o : Op)
      → passes_limit r n o ≡ passes_by (lengths_before r n) o (notes_of r n)
  by_length n (Piece v) = refl
  by_length n (Sweep i) = refl
  by_length n (Apply i) = refl
  by_length n (Give i) = refl
  by_length n (Join i) = refl
  by_length n (Post d vars) = refl
  by_length n (Take d vars path) = refl
  by_length n (Test v path skip) = refl
  by_length n Open = refl
  by_length n (Turn v path skip) = refl
  by_length n (Again back) = refl
  by_length n Rotate = refl
  by_length n (Due skip) = refl
  by_length n (Written skip) = refl
  by_length n (Skip skip) = refl
  by_length n (Next back) = refl
  by_length n Save = refl
  by_length n Halt = refl
