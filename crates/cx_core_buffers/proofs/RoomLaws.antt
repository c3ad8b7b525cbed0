-- The buffers have their room from the first on, and keep it.
use Rattle.std.proofs.Common.{◌≡◌, ℕ, ◌<◌, ◌⊎◌, inl, inr, Bool, true, false, arith, refl, sym, ap, ◌∙◌, ℤ, pos, List, [], ◌∷◌, length, replicate, ◌==◌, length-set}
use Rattle.std.specs.Prelude.{if◌then◌else◌}
use Rattle.std.proofs.lemmas.Bool.{cases_eq}
use Rattle.std.proofs.lemmas.List.{get_or-set_same, get_or-set_other, get_or-replicate, length-replicate}
use Rattle.std.proofs.lemmas.List.FromFn.{length-map-range_with_len, get_or-map-range_with_len}
use Rattle.cx_grid.specs.Boxes.{point_count}
use Rattle.cx_grid.specs.Grid.{whole}
use Rattle.cx_plan.specs.declared.variable.VarId.{VarId}
use Rattle.cx_plan.specs.Setups.{Setup}
use Rattle.cx_plan.specs.Lookups.{variable, is_scalar}
use Rattle.cx_plan.specs.Regions.{is_among}
use Rattle.cx_rule.specs.States.{level_of, scalar_of}
use Rattle.cx_model.specs.States.{number_count}
use Rattle.cx_outputs.specs.Names.{output_count}
use Rattle.cx_field.specs.Patches.{PatchValue}
use Rattle.cx_core_buffers.specs.Checkpoints.{HoldsState, total}
use Rattle.cx_core_buffers.specs.Gathering.{Buffers, piece_of, fresh_piece, fresh_state, fresh, HasPiece, HasRoom, IsPatchOf, piece_put, with_piece, state_put, with_state, with_name}
use Rattle.cx_core_buffers.proofs.PutLaws.{put_length}
use Rattle.cx_plan.specs.Whole.{scalar_count, level_count}

pub fresh_room : (setup : Setup) (key : List ℕ) → HasRoom setup (fresh setup key)
fresh_room setup key = record {
  pieces = pieces;
  version = refl;
  names = refl;
  lengths = length-replicate (output_count setup) 0;
  state = state;
}
  where
    many : length (fresh setup key).pieces ≡ length setup.vars
    many = length-map-range_with_len (fresh_piece setup) 0 (length setup.vars)

    pieces : (v : VarId) → v.0 < length setup.vars → is_among v setup.out_vars ≡ true
        → HasPiece setup (fresh setup key) v
    pieces v l e = record {
      var = l;
      there = omega (arith, many, l);
      room =
          ap length (get_or-map-range_with_len (fresh_piece setup) 0 (length setup.vars) v.0 v.0 []
          l (omega arith))
          ∙ ap (λ (b : Bool). length
          (if b then replicate (number_count setup (variable setup v)) (pos 0) else [])) e
          ∙ length-replicate (number_count setup (variable setup v)) (pos 0);
    }

    state : HoldsState setup (fresh_state setup key)
    state = record {
      scalars = length-replicate (total scalar_count setup.vars) (pos 0);
      levels = length-replicate (total level_count setup.vars)
          (replicate (point_count (whole setup.shape)) (pos 0));
      points = λ k d l.
          let n = length-replicate (total level_count setup.vars)
          (replicate (point_count (whole setup.shape)) (pos 0)) in
          ap length (get_or-replicate (total level_count setup.vars) k
          (replicate (point_count (whole setup.shape)) (pos 0)) d (omega (arith, n, l)))
          ∙ length-replicate (point_count (whole setup.shape)) (pos 0);
    }

module _ (setup : Setup) (b : Buffers) (room : HasRoom setup b) where
  -- while a piece of output is put
  module _ (k : ℕ) (p : PatchValue) (of : IsPatchOf setup p) (v : VarId) (has : HasPiece setup b v)
    where
      abbrev new : Buffers
      new = with_piece setup k p v b

      abbrev level : List ℤ
      level = piece_put (is_scalar setup v) k p v (piece_of b v)

      level_size : length level ≡ number_count setup (variable setup v)
      level_size = go (is_scalar setup v) refl
        where
          go : (s : Bool) → is_scalar setup v ≡ s
              → length (piece_put (is_scalar setup v) k p v (piece_of b v))
              ≡ (if is_scalar setup v then 1 else point_count (whole setup.shape))
          go true e =
              ap (λ t. length (piece_put t k p v (piece_of b v))) e
              ∙ first (k == 0) (has.room
              ∙ ap (λ (t : Bool). if t then 1 else point_count (whole setup.shape)) e)
              ∙ sym (ap (λ (t : Bool). if t then 1 else point_count (whole setup.shape)) e)
            where
              first : (t : Bool) → length (piece_of b v) ≡ 1
                  → length (if t then scalar_of p.numbers v ∷ [] else piece_of b v) ≡ 1
              first true h = refl
              first false h = h
          go false e =
              ap (λ t. length (piece_put t k p v (piece_of b v))) e
              ∙ put_length p (level_of p.numbers v 0) (piece_of b v)
              ∙ ap (λ s. point_count (whole s)) of.shape
              ∙ sym (ap (λ (t : Bool). if t then 1 else point_count (whole setup.shape)) e)

      pub piece_room : HasRoom setup new
      piece_room = record {
        pieces = pieces;
        version = room.version;
        names = room.names;
        lengths = room.lengths;
        state = room.state;
      }
        where
          many : length new.pieces ≡ length b.pieces
          many = length-set b.pieces v.0 level

          pieces : (w : VarId) → w.0 < length setup.vars → is_among w setup.out_vars ≡ true
              → HasPiece setup new w
          pieces w l e =
              let old = room.pieces w l e in
              let t = old.there in
              record { var = l; there = omega (arith, many, t); room = go (cases_eq w.0 v.0) }
            where
              go : (w.0 ≡ v.0) ⊎ (w.0 ≡ v.0 → ⊥)
                  → length (piece_of new w) ≡ number_count setup (variable setup w)
              go (inl q) =
                  let same : w ≡ v = ap (λ (n : ℕ). record { 0 = n }) q in
                  ap (λ (u : VarId). length (piece_of new u)) same
                  ∙ ap length (get_or-set_same b.pieces v.0 level [] has.there)
                  ∙ level_size
                  ∙ sym (ap (λ (u : VarId). number_count setup (variable setup u)) same)
              go (inr n) = ap length (get_or-set_other b.pieces v.0 w.0 level [] n)
                  ∙ (room.pieces w l e).room

  -- a checkpoint that holds a whole state still
  pub state_kept : (k : ℕ) (p : PatchValue) → HoldsState setup (state_put setup k p b.state)
      → HasRoom setup (with_state setup k p b)
  state_kept k p holds = record {
    pieces = λ w l e. let old = room.pieces w l e in
        record { var = l; there = old.there; room = old.room };
    version = room.version;
    names = room.names;
    lengths = room.lengths;
    state = holds;
  }

  pub name_room : (iteration : ℕ) (lengths : List ℕ) → length lengths ≡ output_count setup
      → HasRoom setup (with_name iteration lengths b)
  name_room iteration lengths many = record {
    pieces = λ w l e. let old = room.pieces w l e in
        record { var = l; there = old.there; room = old.room };
    version = room.version;
    names = room.names;
    lengths = many;
    state = record {
      scalars = room.state.scalars;
      levels = room.state.levels;
      points = room.state.points;
    };
  }
