use Rattle.std.proofs.Common.{◌∙◌, ap, sym, length}
use Rattle.thorns_tests.proofs.points.number.Goals as goal

pub point-requires : goal.point-requires
point-requires g c = record {
  shape = c.requires.shape;
  point = c.requires.point;
  dims = c.requires.dims;
  reads = c.requires.reads;
  values = c.requires.values;
  params = c.requires.params;
  writes = ap (λ out. length out) c.in_ok-out.ensures ∙ sym c.requires.writes;
}
