-- What single operations note where they meet an end, and what a run has behind it.
use Rattle.std.proofs.Common.{◌≡◌, ℕ, suc, ◌+◌, Bool, true, false, leb, ltb, List, [], ◌∷◌, ◌++◌, length, Option, Some, None, refl, ap, ◌∙◌, ℤ, pos, negsuc, zero, arith}
use Rattle.std.specs.Prelude.{if◌then◌else◌, ◌==◌}
use Rattle.std.proofs.lemmas.Bool.{ltb-true, leb-true, false_from_ne_true}
use Rattle.cx_plan.specs.Lookups.{item}
use Rattle.cx_plan.specs.Steering.{item_at}
use Rattle.cx_rule.specs.States.{State, scalar_of}
use Rattle.cx_model.specs.declared.ends.End.{End}
use Rattle.cx_model.specs.declared.ends.End.TheVariants.{Overflow, WhileLimit, OutputLimit}
use Rattle.cx_model.specs.Courses.{Note, note, turn_note, limit_note, cut, stop_at, by_zero}
use Rattle.cx_model.specs.Runs.{Lengths, grown_by, lengths_after, within_limit, text_of, passing, stop_or, greatest_output}
use Rattle.cx_model.specs.Traces.{Entry, Exchanged, Tested, Wrote, after}
use Rattle.cx_model.specs.Turns.{turn}
use Rattle.cx_flat.specs.declared.op.Op.{Op}
use Rattle.cx_flat.specs.declared.op.Op.TheVariants.{Sweep, Apply, Give, Join, Post, Take, Test, Open, Turn, Again, Rotate, Due, Written, Skip, Next, Piece, Save, Halt}
use Rattle.cx_flat.specs.Flats.{Control, last_turns, notes_at}
use Rattle.law_parts.specs.Ends.{or_end, met_of}
use Rattle.law_parts.specs.Moves.{buffer_of}
use Rattle.law_parts.specs.Runs.{Run}
use Rattle.law_parts.specs.Truths.{entries_of}
use Rattle.law_parts.proofs.EndNotes.{grown_there, OneNote, passes_by, trace_from}
use Rattle.law_reached.specs.Endings.{end_met_by}
use Rattle.law_reached.specs.Works.{works_of}
use Rattle.law_reached.proofs.SilentWorks.{silent}

not_some : {A : Type 0} {a : A} → ◌≡◌ {A = Option A} None (Some a) → ⊥
not_some e = cc

not_full : false ≡ true → ⊥
not_full e = cc

or_some : (o : Option End) (end : End) → or_end o None ≡ Some end → o ≡ Some end
or_some (Some a) end e = e
or_some None end e = absurd (not_some e)

beyond : (limit a b : ℕ) → ltb limit b ≡ true → b ≡ a → leb a limit ≡ false
beyond limit a b e same =
    false_from_ne_true (leb a limit)
    (λ t. let h = ltb-true limit b e in let k = leb-true a limit t in omega (arith, h, k, same))

module _ (r : Run) where
  -- ---- the end that is met

  turn_end : (k iteration : ℕ) (s : State) (o : Option State) (end : End)
      → met_of (turn_note k (item_at r.setup k iteration) iteration s o ∷ []) ≡ Some end
      → Some (Overflow iteration (item r.setup k).path) ≡ Some end
  turn_end k iteration s None end e = e
  turn_end k iteration s (Some t) end e = absurd (not_some e)

  limit_end : (z : ℤ) (limit end : End) → or_end (by_zero z None (Some limit)) None ≡ Some end
      → Some limit ≡ Some end
  limit_end (pos zero) limit end e = absurd (not_some e)
  limit_end (pos (suc n)) limit end e = e
  limit_end (negsuc n) limit end e = e

  -- by what an operation notes
  pub met_is : (o : Op) (c : Control) (s : State) (end : End)
      → met_of (notes_at r.setup r.rules o c s) ≡ Some end → end_met_by r o c.iteration ≡ Some end
  met_is (Sweep i) c s end e =
      turn_end i c.iteration s (turn r.setup r.rules (item_at r.setup i c.iteration) s c.iteration)
      end e
  met_is (Apply i) c s end e =
      turn_end i c.iteration s (turn r.setup r.rules (item_at r.setup i c.iteration) s c.iteration)
      end e
  met_is (Join i) c s end e =
      turn_end i c.iteration s (turn r.setup r.rules (item_at r.setup i c.iteration) s c.iteration)
      end e
  met_is (Take d vars path) c s end e = absurd (go (suc d == r.setup.shape.dims) e)
    where
      go : (b : Bool) → met_of (if b then note (Exchanged vars path s) ∷ [] else []) ≡ Some end → ⊥
      go true h = not_some h
      go false h = not_some h
  met_is (Turn v path skip) c s end e = go (last_turns c.opened == r.setup.while_limit) e
    where
      go : (b : Bool) → met_of
          ((if b then limit_note v path (WhileLimit c.iteration path) s else note (Tested v path s))
          ∷ []) ≡ Some end → Some (WhileLimit c.iteration path) ≡ Some end
      go true h = limit_end (scalar_of s v) (WhileLimit c.iteration path) end h
      go false h = absurd (not_some h)
  met_is (Give i) c s end e = absurd (not_some e)
  met_is (Post d vars) c s end e = absurd (not_some e)
  met_is (Test v path skip) c s end e = absurd (not_some e)
  met_is Open c s end e = absurd (not_some e)
  met_is (Again back) c s end e = absurd (not_some e)
  met_is Rotate c s end e = absurd (not_some e)
  met_is (Due skip) c s end e = absurd (not_some e)
  met_is (Written skip) c s end e = absurd (not_some e)
  met_is (Skip skip) c s end e = absurd (not_some e)
  met_is (Next back) c s end e = absurd (not_some e)
  met_is (Piece v) c s end e = absurd (not_some e)
  met_is Save c s end e = absurd (not_some e)
  met_is Halt c s end e = absurd (not_some e)

  -- by the limit of the output
  pub full_is : (o : Op) (so_far : Lengths) (iteration : ℕ) (ns : List Note)
      → passes_by r so_far o ns ≡ true → end_met_by r o iteration ≡ Some (OutputLimit iteration)
  full_is (Piece v) so_far iteration ns e = refl
  full_is (Sweep i) so_far iteration ns e = absurd (not_full e)
  full_is (Apply i) so_far iteration ns e = absurd (not_full e)
  full_is (Give i) so_far iteration ns e = absurd (not_full e)
  full_is (Join i) so_far iteration ns e = absurd (not_full e)
  full_is (Post d vars) so_far iteration ns e = absurd (not_full e)
  full_is (Take d vars path) so_far iteration ns e = absurd (not_full e)
  full_is (Test v path skip) so_far iteration ns e = absurd (not_full e)
  full_is Open so_far iteration ns e = absurd (not_full e)
  full_is (Turn v path skip) so_far iteration ns e = absurd (not_full e)
  full_is (Again back) so_far iteration ns e = absurd (not_full e)
  full_is Rotate so_far iteration ns e = absurd (not_full e)
  full_is (Due skip) so_far iteration ns e = absurd (not_full e)
  full_is (Written skip) so_far iteration ns e = absurd (not_full e)
  full_is (Skip skip) so_far iteration ns e = absurd (not_full e)
  full_is (Next back) so_far iteration ns e = absurd (not_full e)
  full_is Save so_far iteration ns e = absurd (not_full e)
  full_is Halt so_far iteration ns e = absurd (not_full e)

  -- ---- what a run has behind an end that is met

  -- a text that passes the limit isn't among the entries
  pub full_rest : (o : Op) (c : Control) (s : State) (so_far : Lengths) (more : List Note)
      (state : State) → passes_by r so_far o (notes_at r.setup r.rules o c s) ≡ true
      → works_of (trace_from so_far (notes_at r.setup r.rules o c s ++ more) state).entries ≡ []
  full_rest (Piece v) c s so_far more state h =
      ap (λ (p : Option ℕ). works_of
      (stop_or p (after (entry_there ∷ [])
      (within_limit (grown_by so_far v (length text)) (cut more state).entries
      (cut more state).outcome))).entries) passes
    where
      text : List ℕ
      text = text_of r.setup c.iteration s v

      entry_there : Entry
      entry_there = Wrote v c.iteration text s

      passes : passing so_far entry_there ≡ Some c.iteration
      passes = ap (λ (b : Bool). if b then None else Some c.iteration)
          (beyond greatest_output (so_far v.0 + length text) (grown_by so_far v (length text) v.0) h
          (grown_there so_far v (length text)))
  full_rest (Sweep i) c s so_far more state h = absurd (not_full h)
  full_rest (Apply i) c s so_far more state h = absurd (not_full h)
  full_rest (Give i) c s so_far more state h = absurd (not_full h)
  full_rest (Join i) c s so_far more state h = absurd (not_full h)
  full_rest (Post d vars) c s so_far more state h = absurd (not_full h)
  full_rest (Take d vars path) c s so_far more state h = absurd (not_full h)
  full_rest (Test v path skip) c s so_far more state h = absurd (not_full h)
  full_rest Open c s so_far more state h = absurd (not_full h)
  full_rest (Turn v path skip) c s so_far more state h = absurd (not_full h)
  full_rest (Again back) c s so_far more state h = absurd (not_full h)
  full_rest Rotate c s so_far more state h = absurd (not_full h)
  full_rest (Due skip) c s so_far more state h = absurd (not_full h)
  full_rest (Written skip) c s so_far more state h = absurd (not_full h)
  full_rest (Skip skip) c s so_far more state h = absurd (not_full h)
  full_rest (Next back) c s so_far more state h = absurd (not_full h)
  full_rest Save c s so_far more state h = absurd (not_full h)
  full_rest Halt c s so_far more state h = absurd (not_full h)

  -- behind an entry where an end is met there is none
  pub met_entries : (so_far : Lengths) (ns more : List Note) (state : State) (end : End)
      → OneNote r so_far ns → met_of ns ≡ Some end
      → (trace_from so_far (ns ++ more) state).entries ≡ entries_of ns
  met_entries so_far [] more state end h e = absurd (not_some e)
  met_entries so_far (n ∷ []) more state end h e =
      ap (λ (p : Option ℕ). (stop_or p
      (after (n.entry ∷ []) (within_limit (lengths_after so_far n.entry)
      (stop_at n.met (cut more state)).entries
      (stop_at n.met (cut more state)).outcome))).entries) h
      ∙ ap (λ (o : Option End). n.entry
      ∷ (within_limit (lengths_after so_far n.entry) (stop_at o (cut more state)).entries
      (stop_at o (cut more state)).outcome).entries) (or_some n.met end e)
  met_entries so_far (n ∷ m ∷ ns) more state end h e = absurd h

  -- a work meets no end but that of the limit
  pub met_no_work : (o : Op) (c : Control) (s : State) (end : End)
      → met_of (notes_at r.setup r.rules o c s) ≡ Some end → buffer_of r o ≡ None
  met_no_work (Piece v) c s end e = absurd (not_some e)
  met_no_work Save c s end e = absurd (not_some e)
  met_no_work (Sweep i) c s end e = refl
  met_no_work (Apply i) c s end e = refl
  met_no_work (Give i) c s end e = refl
  met_no_work (Join i) c s end e = refl
  met_no_work (Post d vars) c s end e = refl
  met_no_work (Take d vars path) c s end e = refl
  met_no_work (Test v path skip) c s end e = refl
  met_no_work Open c s end e = refl
  met_no_work (Turn v path skip) c s end e = refl
  met_no_work (Again back) c s end e = refl
  met_no_work Rotate c s end e = refl
  met_no_work (Due skip) c s end e = refl
  met_no_work (Written skip) c s end e = refl
  met_no_work (Skip skip) c s end e = refl
  met_no_work (Next back) c s end e = refl
  met_no_work Halt c s end e = refl

  pub met_rest : (o : Op) (c : Control) (s : State) (so_far : Lengths) (more : List Note)
      (state : State) (end : End) → OneNote r so_far (notes_at r.setup r.rules o c s)
      → met_of (notes_at r.setup r.rules o c s) ≡ Some end
      → works_of (trace_from so_far (notes_at r.setup r.rules o c s ++ more) state).entries ≡ []
  met_rest o c s so_far more state end one e =
      ap works_of (met_entries so_far (notes_at r.setup r.rules o c s) more state end one e)
      ∙ silent r o c s (met_no_work o c s end e)
