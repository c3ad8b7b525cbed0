use Rattle.std.proofs.Common.{◌-◌, length, get_or, take, drop}
use Rattle.std.proofs.lemmas.Result.{err_from_is_err_and}
use Rattle.cx_text.specs.Bytes.{role_of}
use Rattle.cx_text.specs.Pieces.{fault_at}
use Rattle.cx_text.proofs.QuotedLaws.{first_and_rest, no_first}
use Rattle.cx_text.proofs.ReadLaws.{going_more, going_stops, going_ends, shorter}
use Rattle.cx_text.proofs.lexer.read.Goals as goal

pub returns-in_err-token : goal.returns-in_err-token
returns-in_err-token c =
    let s = c.pieces.scanner in
    let rest = s.rest.now in
    let p = err_from_is_err_and c.from_residual.result c.from_residual.ensures.1 in
    rw (p.1, p.2)
    (going_stops c.args.style c.args.bytes.now c.pieces.gathered.tokens.items
    c.pieces.gathered.ended s.fresh s.line rest c.requires c.pieces.invariant (get_or rest 0 0)
    (take (length rest - 1) (drop 1 rest)) (first_and_rest rest c.in-len1-up.len_at_least)
    c.in_err-token.field-0.0 c.piece.new.self.fresh c.piece.new.self.line
    c.piece.new.self.rest.now c.in_err-token.ensures)

pub pieces-smaller : goal.pieces-smaller
pieces-smaller c =
    let s = c.pieces.scanner in
    let rest = s.rest.now in
    shorter c.args.style s.fresh s.line rest
    (fault_at (role_of c.args.style s.fresh (get_or rest 0 0)) s.line) (get_or rest 0 0)
    (take (length rest - 1) (drop 1 rest)) (first_and_rest rest c.in-len1-up.len_at_least)
    c.in_ok-token.token c.piece.new.self.fresh c.piece.new.self.line c.piece.new.self.rest.now
    c.in_ok-token.ensures

pub pieces-preserved : goal.pieces-preserved
pieces-preserved c =
    let s = c.pieces.scanner in
    let rest = s.rest.now in
    going_more c.args.style c.args.bytes.now c.pieces.gathered.tokens.items c.pieces.gathered.ended
    s.fresh s.line rest (fault_at (role_of c.args.style s.fresh (get_or rest 0 0)) s.line)
    c.pieces.invariant (get_or rest 0 0) (take (length rest - 1) (drop 1 rest))
    (first_and_rest rest c.in-len1-up.len_at_least)
    c.in_ok-token.token c.piece.new.self.fresh c.piece.new.self.line c.piece.new.self.rest.now
    c.in_ok-token.ensures c.add.new.self.tokens.items c.add.new.self.ended
    c.in_ok-add.ensures.tokens c.in_ok-add.ensures.ended

pub returns : goal.returns
returns c =
    let s = c.pieces.scanner in
    let rest = s.rest.now in (
      c.requires,
      going_ends c.args.style c.args.bytes.now c.pieces.gathered.tokens.items
          c.pieces.gathered.ended s.fresh s.line rest c.pieces.invariant
          (no_first rest c.in_default.len_below) c.in_ok-tokens.tokens c.in_ok-tokens.ensures,
    )
