-- The operations that hand in a piece: of a variable's output, and of a checkpoint.
use Rattle.std.proofs.Common.{◌≡◌, ℕ, ◌<◌, ◌≤◌, ◌⊎◌, inl, inr, Bool, true, false, ℤ, pos, get_or, List, [], ◌∷◌, length, eqb, Option, Some, None, refl, sym, ap, ◌∙◌, subst, get_or-set_other, eq-eqb}
use Rattle.std.proofs.lemmas.Bool.{cases_eq}
use Rattle.std.proofs.lemmas.List.Elements.{All-get_or}
use Rattle.cx_grid.specs.Grid.{whole}
use Rattle.cx_plan.specs.declared.variable.VarId.{VarId}
use Rattle.cx_plan.specs.declared.variable.VarInfo.{VarInfo}
use Rattle.cx_plan.specs.Setups.{Setup, setup_of}
use Rattle.cx_plan.specs.Lookups.{is_scalar, no_variable}
use Rattle.cx_plan.specs.Regions.{is_among}
use Rattle.cx_rule.specs.States.{State, level_of, scalar_of}
use Rattle.cx_cut.specs.Cuts.{Parts, local}
use Rattle.cx_cut.specs.Tiling.{Tiles}
use Rattle.cx_cut.proofs.Tiled.{tiles}
use Rattle.cx_field.specs.Patches.{PatchValue, unstaged}
use Rattle.cx_flat.specs.declared.op.Op.TheVariants as op
use Rattle.cx_flat.specs.Code.{op_at, code}
use Rattle.cx_flat.specs.Flats.{control_after}
use Rattle.law_network.specs.Machine.{taken_now}
use Rattle.cx_wire.specs.Messages.{Sent as SentMail}
use Rattle.law_parts.specs.Holding.{IsHeld, number_at}
use Rattle.law_parts.specs.Operations.{NamesWell}
use Rattle.law_parts.specs.Moves.{Message, Given, Sent, Handed, Wire, Board, op_wants, op_posts, op_hands, piece_by, state_by, held_values, Moves}
use Rattle.law_parts.specs.Nets.{points_of, values_of_op}
use Rattle.law_parts.specs.Runs.{Run, parts_in, cut_of}
use Rattle.law_parts.proofs.WholeRun.{names_at}
use Rattle.cx_core_buffers.specs.Gathering.{Buffers, HasRoom, HasPiece, piece_of, piece_put, with_piece, with_state}
use Rattle.cx_core_buffers.specs.Pieces.{HoldsPiece, HoldsPart}
use Rattle.cx_core_buffers.proofs.CheckpointLaws.{info}
use Rattle.cx_core_buffers.proofs.PieceLaws.{IsPartOf, piece_holds, piece_stays, state_holds, state_stays, state_room}
use Rattle.cx_core_buffers.proofs.PieceOps.{piece_among}
use Rattle.cx_core_buffers.proofs.RoomLaws.{piece_room, state_kept}
use Rattle.cx_core_events.specs.declared.standing.Work.{Work}
use Rattle.cx_core_events.specs.Events.{work_of, same_buffer}
use Rattle.cx_core.specs.Cores.{Cores}
use Rattle.cx_core.specs.Shows.{HoldsFor, HoldsWork, kinds_by}
use Rattle.cx_core.specs.Steps.{Counts}
use Rattle.cx_core.proofs.MovedStates.{LedTo, Ready, world, its, next, network, moved_at}
use Rattle.cx_core.proofs.QuietMoves.{wires_kept, others_kept, boards_kept, kinds_kept, values_none, sum_none}
use Rattle.cx_core.proofs.QuietOperations.{held_with}
use Rattle.cx_core.proofs.CutPatches.{part_of_cut}
use Rattle.cx_core.proofs.PostMoves.{LeavesPart, still_shown, shown_with, patches_set, points_none}
use Rattle.cx_core.proofs.HandedMoves.{pieces_put}

-- a variable of a work is another one's, or none
other_var : (u v : VarId) → same_buffer (Some u) (Some v) ≡ false → u.0 ≡ v.0 → ⊥
other_var u v e q = both (eqb u.0 v.0) (eq-eqb u.0 v.0 q) e
  where
    both : (b : Bool) → b ≡ true → b ≡ false → ⊥
    both true e f = absurd cc
    both false e f = absurd cc

same_id : (u v : VarId) → u.0 ≡ v.0 → u ≡ v
same_id u v e = ap (λ (n : ℕ). record { 0 = n }) e

-- a piece of another variable isn't touched
other_piece : (setup : Setup) (c : Parts) (k j : ℕ) (p : PatchValue) (b : Buffers) (u v : VarId)
    (piece : List ℤ) → (u.0 ≡ v.0 → ⊥)
    → HoldsPiece setup c b u j piece → HoldsPiece setup c (with_piece setup k p v b) u j piece
other_piece setup c k j p b u v piece n h =
    let same : piece_of (with_piece setup k p v b) u ≡ piece_of b u =
    get_or-set_other b.pieces v.0 u.0 (piece_put (is_scalar setup v) k p v (piece_of b v)) []
    n in
    record {
      scalar = λ e z. ap (λ ns. get_or ns 0 (pos 0)) same ∙ h.scalar e z;
      grid = λ e y i. ap (λ ns. number_at (whole setup.shape) ns y) same ∙ h.grid e y i;
    }

module _ {tells : Type 0} {r : Run} {first : Counts} {old : Cores}
    {queue : ℕ → ℕ → List (SentMail tells)} {now : Counts} {k : ℕ}
    (s : Ready tells r first old queue now k) where
  held_is : IsHeld r.setup (local (cut_of r) k) (its s).numbers
  held_is = (s.at.reached.woven.agrees k s.part).stands.sized

  pub has_piece : (v : VarId) → next s ≡ op.Piece v → HasPiece r.setup old.buffers v
  has_piece v is = s.at.shows.room.pieces v
      (names_there (subst (NamesWell r.setup) is (names_at r s.run (its s).control.pc))) among
    where
      names_there : NamesWell r.setup (op.Piece v) → v.0 < length r.setup.vars
      names_there h = h.0

      among : is_among v r.setup.out_vars ≡ true
      among = subst (λ (x : Setup). op_at (code x) (its s).control.pc ≡ op.Piece v
          → is_among v x.out_vars ≡ true) (sym s.run.is)
          (λ e. piece_among (setup_of s.run.job) (its s).control.pc v e) is

  module _ (new : Cores) (after : ℕ → ℕ → List (SentMail tells)) (later : Counts)
      (l : LeavesPart s new later) where
    its_part : IsPartOf r.setup (cut_of r) k (unstaged l.patch)
    its_part = part_of_cut r s.run k s.part l.patch (still_shown s new later l).frame
        (subst (IsHeld r.setup (local (cut_of r) k)) (sym (still_shown s new later l).numbers)
        held_is)

    grid_tiles : Tiles (cut_of r)
    grid_tiles = tiles (cut_of r) s.run.cut

    -- ---- output

    module _ (v : VarId) (is : next s ≡ op.Piece v) (given : new.given ≡ old.given)
        (buffers : new.buffers ≡ with_piece r.setup k l.patch v old.buffers)
        (same : (a b : ℕ) → after a b ≡ queue a b) where
      piece_has : HasPiece r.setup old.buffers v
      piece_has = has_piece v is

      abbrev work : Work
      work = record { var = Some v; iteration = (its s).control.iteration }

      its_hands : (network s).hands k (its s)
          ≡ Handed (its s).count
          (λ t. (piece_by r k (held_values r k (its s).numbers) v t ∷ []) ∷ []) ∷ []
      its_hands =
          ap (λ p. op_hands r p (its s).count (piece_by r k (held_values r k (its s).numbers))
          (state_by r k (held_values r k (its s).numbers) (its s).numbers)) is

      holds : HoldsWork r new.buffers k work
          (Handed (its s).count (λ (t : tells).
          (piece_by r k (held_values r k (its s).numbers) v t ∷ []) ∷ []))
      holds t =
          subst (λ b. HoldsPiece r.setup (cut_of r) b v k
          (piece_by r k (held_values r k (its s).numbers) v t)) (sym buffers)
          (subst (λ ns. HoldsPiece r.setup (cut_of r) (with_piece r.setup k l.patch v old.buffers)
          v k (piece_by r k (held_values r k ns) v t)) (still_shown s new later l).numbers
          (piece_holds r.setup (cut_of r) refl grid_tiles k (unstaged l.patch)
          its_part old.buffers v piece_has))

      kept : (j : ℕ) (u : Option VarId) (state : State)
          → ((j ≡ k → ⊥) × (j < parts_in r)) ⊎ (same_buffer u (Some v) ≡ false)
          → HoldsFor r old.buffers j u state → HoldsFor r new.buffers j u state
      kept j None state why h =
          subst (λ b. HoldsPart r.setup (cut_of r) b.state j state) (sym buffers) h
      kept j (Some u) state (inr n) h =
          subst (λ b. HoldsPiece r.setup (cut_of r) b u j (level_of state (record { 0 = 0 }) 0))
          (sym buffers)
          (other_piece r.setup (cut_of r) k j l.patch old.buffers u v
          (level_of state (record { 0 = 0 }) 0) (other_var u v n) h)
      kept j (Some u) state (inl n) h =
          subst (λ b. HoldsPiece r.setup (cut_of r) b u j (level_of state (record { 0 = 0 }) 0))
          (sym buffers) (go (cases_eq u.0 v.0))
        where
          go : (u.0 ≡ v.0) ⊎ (u.0 ≡ v.0 → ⊥)
              → HoldsPiece r.setup (cut_of r) (with_piece r.setup k l.patch v old.buffers) u j
              (level_of state (record { 0 = 0 }) 0)
          go (inl e) =
              let q = same_id u v e in
              subst (λ x. HoldsPiece r.setup (cut_of r) (with_piece r.setup k l.patch v old.buffers)
              x j (level_of state (record { 0 = 0 }) 0)) (sym q)
              (piece_stays r.setup (cut_of r) refl grid_tiles k (unstaged l.patch)
              its_part old.buffers v piece_has j (level_of state (record { 0 = 0 }) 0) n.1 n.0
              (subst (λ x. HoldsPiece r.setup (cut_of r) old.buffers x j
              (level_of state (record { 0 = 0 }) 0)) q h))
          go (inr m) = other_piece r.setup (cut_of r) k j l.patch old.buffers u v
              (level_of state (record { 0 = 0 }) 0) m h

      kept_work : (j : ℕ) (other : Work) (m : Message tells)
          → ((j ≡ k → ⊥) × (j < parts_in r)) ⊎ (same_buffer other.var (Some v) ≡ false)
          → HoldsWork r old.buffers j other m → HoldsWork r new.buffers j other m
      kept_work j other (Sent h values) why g = g
      kept_work j other (Given number) why g = g
      kept_work j other (Handed n state) why g = λ t. kept j other.var (state t) why (g t)

      no_join : (i : ℕ) → op.Piece v ≡ op.Join i → ⊥
      no_join i e = absurd cc

      pub piece_goes : LedTo s.at k new after later
      piece_goes = moved_at s new after later (held_with s (its s).numbers) (record {
        move =
            subst (λ p. Moves tells r k (its s) (taken_now (network s) (world s) k) p
            (Some (held_with s (its s).numbers))) (sym is) (
              record {
                count = refl;
                control =
                    ap (λ p. control_after r.setup p (scalar_of (its s).numbers) (its s).control)
                    is;
              },
              refl,
            );
        pace_is = l.pace_is;
        patch = l.patch;
        patches_are = patches_set s new later l;
        shown = shown_with s new later l;
        wires = wires_kept s after same (λ a b. ap (λ o. op_wants r o (Wire a b)) is)
            (λ a b n faces number. ap (λ o. op_posts r o n faces number (Wire a b)) is);
        others = others_kept s after same;
        senders = ap (λ g. length g.given) given;
        boards = boards_kept s new.given given (λ a b. ap (λ o. op_wants r o (Board a b)) is)
            (λ a b n faces number. ap (λ o. op_posts r o n faces number (Board a b)) is);
        kinds = kinds_kept s new.given given (ap (kinds_by r) is) (λ i e. no_join i (sym is ∙ e));
        pieces = pieces_put s work (ap (λ o. work_of o (its s).control.iteration) is) new l.pace_is
            (Handed (its s).count
            (λ t. (piece_by r k (held_values r k (its s).numbers) v t ∷ []) ∷ []))
            its_hands holds
            (λ j other m i n. kept_work j other m (inl (n, i)))
            (λ other m n. kept_work k other m (inr n));
        room = subst (HasRoom r.setup) (sym buffers)
            (piece_room r.setup old.buffers s.at.shows.room k (unstaged l.patch)
            its_part.of v piece_has);
        lengths_are = l.lengths_are;
        met_is = l.met_is;
        outcome_is = l.outcome_is;
        points = points_none s new later l (ap (points_of r k) is);
        values = values_none s later l.values_are (ap (values_of_op r k) is);
        sum = sum_none s later l.sum_is (λ a. ap (λ o. op_wants r o (Wire a k)) is);
      })

    -- ---- checkpoints

    module _ (is : next s ≡ op.Save) (given : new.given ≡ old.given)
        (buffers : new.buffers ≡ with_state r.setup k l.patch old.buffers)
        (same : (a b : ℕ) → after a b ≡ queue a b) where
      one_level : (v : ℕ) → v < length r.setup.vars → (info r.setup.vars v).scalar ≡ true
          → (info r.setup.vars v).levels ≤ 1
      one_level = subst (λ (x : Setup). (v : ℕ) → v < length x.vars → (info x.vars v).scalar ≡ true
          → (info x.vars v).levels ≤ 1) (sym s.run.is)
          (λ v i. All-get_or (λ (x : VarInfo). x.scalar ≡ true → x.levels ≤ 1)
          s.run.job.vars v no_variable i s.run.whole.one_level)

      abbrev saving : Work
      saving = record { var = None; iteration = (its s).control.iteration }

      state_hands : (network s).hands k (its s)
          ≡ Handed (its s).count (state_by r k (held_values r k (its s).numbers) (its s).numbers)
          ∷ []
      state_hands =
          ap (λ p. op_hands r p (its s).count (piece_by r k (held_values r k (its s).numbers))
          (state_by r k (held_values r k (its s).numbers) (its s).numbers)) is

      holds_state : HoldsWork {tells = tells} r new.buffers k saving
          (Handed (its s).count (state_by r k (held_values r k (its s).numbers) (its s).numbers))
      holds_state t =
          subst (λ b. HoldsPart r.setup (cut_of r) b.state k
          (state_by r k (held_values r k (its s).numbers) (its s).numbers t)) (sym buffers)
          (subst (λ ns. HoldsPart r.setup (cut_of r)
          (with_state r.setup k l.patch old.buffers).state k
          (state_by r k (held_values r k ns) ns t)) (still_shown s new later l).numbers
          (state_holds r.setup (cut_of r) refl grid_tiles k (unstaged l.patch)
          its_part old.buffers.state s.at.shows.room.state one_level))

      kept_state : (j : ℕ) (u : Option VarId) (state : State)
          → ((j ≡ k → ⊥) × (j < parts_in r)) ⊎ (same_buffer u None ≡ false)
          → HoldsFor r old.buffers j u state → HoldsFor r new.buffers j u state
      kept_state j (Some u) state why h =
          subst (λ b. HoldsPiece r.setup (cut_of r) b u j (level_of state (record { 0 = 0 }) 0))
          (sym buffers) (still h)
        where
          still : HoldsPiece r.setup (cut_of r) old.buffers u j
              (level_of state (record { 0 = 0 }) 0)
              → HoldsPiece r.setup (cut_of r) (with_state r.setup k l.patch old.buffers) u j
              (level_of state (record { 0 = 0 }) 0)
          still g = record { scalar = g.scalar; grid = g.grid }
      kept_state j None state (inr n) h = absurd cc
      kept_state j None state (inl n) h =
          subst (λ b. HoldsPart r.setup (cut_of r) b.state j state) (sym buffers)
          (state_stays r.setup (cut_of r) refl grid_tiles k (unstaged l.patch)
          its_part old.buffers.state s.at.shows.room.state one_level j state n.1 n.0 h)

      kept_in : (j : ℕ) (other : Work) (m : Message tells)
          → ((j ≡ k → ⊥) × (j < parts_in r)) ⊎ (same_buffer other.var None ≡ false)
          → HoldsWork r old.buffers j other m → HoldsWork r new.buffers j other m
      kept_in j other (Sent h values) why g = g
      kept_in j other (Given number) why g = g
      kept_in j other (Handed n state) why g = λ t. kept_state j other.var (state t) why (g t)

      never_join : (i : ℕ) → op.Save ≡ op.Join i → ⊥
      never_join i e = absurd cc

      pub save_goes : LedTo s.at k new after later
      save_goes = moved_at s new after later (held_with s (its s).numbers) (record {
        move =
            subst (λ p. Moves tells r k (its s) (taken_now (network s) (world s) k) p
            (Some (held_with s (its s).numbers))) (sym is) (
              record {
                count = refl;
                control =
                    ap (λ p. control_after r.setup p (scalar_of (its s).numbers) (its s).control)
                    is;
              },
              refl,
            );
        pace_is = l.pace_is;
        patch = l.patch;
        patches_are = patches_set s new later l;
        shown = shown_with s new later l;
        wires = wires_kept s after same (λ a b. ap (λ o. op_wants r o (Wire a b)) is)
            (λ a b n faces number. ap (λ o. op_posts r o n faces number (Wire a b)) is);
        others = others_kept s after same;
        senders = ap (λ g. length g.given) given;
        boards = boards_kept s new.given given (λ a b. ap (λ o. op_wants r o (Board a b)) is)
            (λ a b n faces number. ap (λ o. op_posts r o n faces number (Board a b)) is);
        kinds = kinds_kept s new.given given (ap (kinds_by r) is)
            (λ i e. never_join i (sym is ∙ e));
        pieces = pieces_put s saving (ap (λ o. work_of o (its s).control.iteration) is)
            new l.pace_is
            (Handed (its s).count (state_by r k (held_values r k (its s).numbers) (its s).numbers))
            state_hands holds_state
            (λ j other m i n. kept_in j other m (inl (n, i)))
            (λ other m n. kept_in k other m (inr n));
        room = subst (HasRoom r.setup) (sym buffers)
            (state_kept r.setup old.buffers s.at.shows.room k l.patch
            (state_room r.setup (cut_of r) refl grid_tiles k (unstaged l.patch)
            its_part old.buffers.state s.at.shows.room.state one_level));
        lengths_are = l.lengths_are;
        met_is = l.met_is;
        outcome_is = l.outcome_is;
        points = points_none s new later l (ap (points_of r k) is);
        values = values_none s later l.values_are (ap (values_of_op r k) is);
        sum = sum_none s later l.sum_is (λ a. ap (λ o. op_wants r o (Wire a k)) is);
      })
