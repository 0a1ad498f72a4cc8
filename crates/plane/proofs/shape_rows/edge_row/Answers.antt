use Rattle.plane.proofs.ShapeRows.{IsEdge, edge_is, edge_is_small}
use Rattle.plane.proofs.shape_rows.edge_row.Goals as goal

numbers : (c : goal.After-from-5) → IsEdge c.args.from c.args.to c.difference-dx.result c.difference-dy.result c.from.result c.from-2.result c.cross-c.result c.from-3.result c.from-4.result c.from-5.result
numbers c = record {
  dx_is = c.difference-dx.ensures.value;
  dx_size = c.difference-dx.ensures.size;
  dy_is = c.difference-dy.ensures.value;
  dy_size = c.difference-dy.ensures.size;
  x_is = c.from.ensures;
  y_is = c.from-2.ensures;
  c_is = c.cross-c.ensures;
  wide_dy_is = c.from-3.ensures;
  wide_dx_is = c.from-4.ensures;
  wide_c_is = c.from-5.ensures;
}

pub returns-clause-value : goal.returns-clause-value
returns-clause-value c = edge_is _ _ _ _ _ _ _ _ _ _ c.requires.from c.requires.to (numbers c)

pub returns-clause-small : goal.returns-clause-small
returns-clause-small c = edge_is_small _ _ _ _ _ _ _ _ _ _ c.requires.from c.requires.to (numbers c)
