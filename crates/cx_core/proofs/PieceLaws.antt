-- Buffers that hold the piece of each part hold the whole work.
use Rattle.std.proofs.Common.{◌≡◌, ℕ, ◌+◌, ◌<◌, ◌≤◌, Bool, true, false, List, length, get_or, Some, None, arith, refl, sym, ap, ◌∙◌, ℤ, pos}
use Rattle.std.specs.Prelude.{if◌then◌else◌}
use Rattle.cx_grid.specs.Boxes.{index_in, point_count}
use Rattle.cx_grid.specs.Grid.{whole}
use Rattle.cx_plan.specs.declared.variable.VarId.{VarId}
use Rattle.cx_plan.specs.Lookups.{is_scalar, variable}
use Rattle.cx_model.specs.Runs.{Lengths, grown_by, greatest_output}
use Rattle.cx_model.proofs.PointLaws.{wrap-own, same-numbers}
use Rattle.cx_ascii.specs.Output.{section, line}
use Rattle.cx_cut.specs.Cuts.{IsCut}
use Rattle.cx_cut.proofs.Tiled.{tiles}
use Rattle.cx_flat.specs.declared.op.Op.TheVariants.{Piece}
use Rattle.cx_core_buffers.specs.Gathering.{Buffers, piece_of, HasPiece}
use Rattle.cx_core_buffers.specs.Pieces.{HoldsPiece}
use Rattle.law_parts.specs.Moves.{Message}
use Rattle.law_parts.specs.Nets.{only_level, IsGathered, IsTextOf, WritesAt}
use Rattle.law_parts.specs.Runs.{Run, cut_of, parts_in}
use Rattle.cx_core.specs.Texts.{text_of_piece}

module _ (tells : Type 0) (t : tells) (r : Run) (cut : IsCut (cut_of r))
    (pieces : ℕ → List (Message tells)) where
  -- pieces make one level
  pub one_level : (a b : List ℤ) → IsGathered t r pieces a → IsGathered t r pieces b → a ≡ b
  one_level a b g h = same-numbers r.setup.shape a b g.count h.count (λ p inside.
      let owner = (tiles (cut_of r) cut).each p inside in
      ap (λ q. get_or a (index_in (whole r.setup.shape) q) (pos 0))
      (wrap-own r.setup.shape p inside)
      ∙ g.each owner.0 p owner.1 owner.2 ∙ sym (h.each owner.0 p owner.1 owner.2)
      ∙ sym (ap (λ q. get_or b (index_in (whole r.setup.shape) q) (pos 0))
      (wrap-own r.setup.shape p inside)))

  module _ (b : Buffers) (v : VarId) (room : HasPiece r.setup b v)
      (held : (k : ℕ) → k < parts_in r
      → HoldsPiece r.setup (cut_of r) b v k (only_level t (pieces k)))
      (some_part : 0 < parts_in r) where
    pub gathered : is_scalar r.setup v ≡ false → IsGathered t r pieces (piece_of b v)
    gathered e = record {
      count = room.room ∙ ap (λ (c : Bool). if c then 1 else point_count (whole r.setup.shape)) e;
      each = λ k p l inside. (held k l).grid e p inside;
    }

    pub text_is : (iteration : ℕ) (text : List ℕ)
        → IsTextOf (is_scalar r.setup v) t r v iteration pieces text
        → text ≡ text_of_piece r.setup iteration v (piece_of b v)
    text_is iteration text = go (is_scalar r.setup v) refl
      where
        go : (c : Bool) → is_scalar r.setup v ≡ c → IsTextOf c t r v iteration pieces text
            → text
            ≡ (if c then line (variable r.setup v).full iteration
            (get_or (piece_of b v) 0 (pos 0))
            else section (variable r.setup v).full iteration r.setup.shape (piece_of b v))
        go true e h = h ∙ ap (line (variable r.setup v).full iteration)
            (sym ((held 0 some_part).scalar e refl))
        go false e h = h.2 ∙ ap (section (variable r.setup v).full iteration r.setup.shape)
            (one_level h.0 (piece_of b v) h.1 (gathered e))

    pub text_made : (iteration : ℕ)
        → IsTextOf (is_scalar r.setup v) t r v iteration pieces
        (text_of_piece r.setup iteration v (piece_of b v))
    text_made iteration = go (is_scalar r.setup v) refl
      where
        go : (c : Bool) → is_scalar r.setup v ≡ c → IsTextOf c t r v iteration pieces
            (if c then line (variable r.setup v).full iteration (get_or (piece_of b v) 0 (pos 0))
            else section (variable r.setup v).full iteration r.setup.shape (piece_of b v))
        go true e = ap (line (variable r.setup v).full iteration) ((held 0 some_part).scalar e refl)
        go false e = (piece_of b v, gathered e, refl)

-- what the writer keeps after a text, by what its buffer holds
module _ (tells : Type 0) (r : Run) (cut : IsCut (cut_of r)) (pieces : ℕ → List (Message tells))
    (b : Buffers) (v : VarId) (room : HasPiece r.setup b v)
    (held : (t : tells) (k : ℕ) → k < parts_in r
    → HoldsPiece r.setup (cut_of r) b v k (only_level t (pieces k)))
    (some_part : 0 < parts_in r) (iteration : ℕ) (so_far : Lengths) where
  abbrev text_there : List ℕ
  text_there = text_of_piece r.setup iteration v (piece_of b v)

  pub writes_on : so_far v.0 + length text_there ≤ greatest_output
      → WritesAt tells r (Piece v) iteration pieces so_far
      (Some (grown_by so_far v (length text_there)))
  writes_on l t text h =
      let same : length text ≡ length text_there =
      ap length (text_is tells t r cut pieces b v room (held t) some_part iteration text h) in
      (omega (arith, same, l), ap (grown_by so_far v) (sym same))

  pub writes_full : greatest_output < so_far v.0 + length text_there
      → WritesAt tells r (Piece v) iteration pieces so_far None
  writes_full l t text h =
      let same : length text ≡ length text_there =
      ap length (text_is tells t r cut pieces b v room (held t) some_part iteration text h) in
      omega (arith, same, l)
