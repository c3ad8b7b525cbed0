-- The pieces that the writer hasn't taken are as many as the works that a part has handed in.
use Rattle.std.proofs.Common.{◌≡◌, ℕ, zero, suc, ◌<◌, length, Option, Some, None, refl, sym, ap, ◌∙◌, arith, length-append}
use Rattle.std.specs.Option.{option_to_list}
use Rattle.cx_flat.specs.Ways.{WayEnds}
use Rattle.law_network.specs.Agreement.{handed}
use Rattle.law_parts.specs.Laws.{IsReachedState}
use Rattle.law_parts.specs.Moves.{buffer_of}
use Rattle.law_parts.specs.Nets.{within_lead}
use Rattle.law_parts.specs.Runs.{Run, Oracle, parts_in, next_op, guided}
use Rattle.law_parts.specs.Truths.{script, piece_at}
use Rattle.law_parts.proofs.NetWays.{fits_piece, fits_no_piece}
use Rattle.law_parts.proofs.Ways.{scalars_at}
use Rattle.law_parts.proofs.WholeRun.{IsRun, names_at}
use Rattle.cx_core_events.specs.declared.standing.Work.{Work}
use Rattle.cx_core_events.specs.Paces.{Paces, part_of}
use Rattle.cx_core_events.specs.Shows.{State, ShowsPace, work_there, works_before}
use Rattle.cx_core_events.proofs.RoomLaws.{has_work, has_buffer}

none_some : {A : Type 0} (x : A) → None ≡ Some x → ⊥
none_some x e = cc

module _ (tells : Type 0) (r : Run) (run : IsRun r) (oracle : Oracle) where
  ways : WayEnds r.setup r.first.control r.most (scalars_at r oracle)
  ways = run.ways (scalars_at r oracle)

  abbrev buffer : ℕ → Option ℕ
  buffer n = buffer_of r (next_op r (guided r oracle n).control)

  one_piece : (k n : ℕ) → length (piece_at tells r oracle k n)
      ≡ length (option_to_list (work_there r oracle n))
  one_piece k n = go (buffer n) refl
    where
      none : buffer n ≡ None → (o : Option Work) → work_there r oracle n ≡ o → o ≡ None
      none e None f = refl
      none e (Some x) f =
          absurd
          (none_some _ (sym e ∙ has_buffer r (next_op r (guided r oracle n).control)
          (guided r oracle n).control.iteration x f))

      go : (o : Option ℕ) → buffer n ≡ o
          → length (piece_at tells r oracle k n) ≡ length (option_to_list (work_there r oracle n))
      go None e =
          ap length (fits_no_piece tells within_lead r oracle ways k n e)
          ∙ sym (ap (λ o. length (option_to_list o)) (none e (work_there r oracle n) refl))
      go (Some b) e =
          fits_piece tells within_lead r oracle ways k n b e
          ∙ sym (ap (λ o. length (option_to_list o))
          (has_work r (next_op r (guided r oracle n).control)
          (guided r oracle n).control.iteration b
          (names_at r run (guided r oracle n).control.pc) e).is)

  all_pieces : (k n : ℕ) → length (handed (script tells r oracle) k n)
      ≡ length (works_before r oracle n)
  all_pieces k zero = refl
  all_pieces k (suc n) =
      omega (
        arith,
        all_pieces k n,
        one_piece k n,
        length-append (handed (script tells r oracle) k n) (piece_at tells r oracle k n),
        length-append (works_before r oracle n) (option_to_list (work_there r oracle n)),
      )

module _ (tells : Type 0) (r : Run) (run : IsRun r) (oracle : Oracle) (w : State tells) (p : Paces)
    (st : IsReachedState tells r oracle w) (sh : ShowsPace tells r oracle w p) where
  pub pieces_are : (k : ℕ) → k < parts_in r → length (w.pieces k) ≡ (part_of p k).handed
  pieces_are k l =
      omega (
        arith,
        sh.handed k l,
        all_pieces tells r run oracle k (w.place k),
        all_pieces tells r run oracle k w.wrote,
        ap length (st.woven.pieces k l),
        length-append (handed (script tells r oracle) k w.wrote) (w.pieces k),
      )
