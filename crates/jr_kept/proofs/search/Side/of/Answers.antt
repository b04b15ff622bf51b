use Rattle.std.proofs.Common.{refl, subst, arith}
use Rattle.jr_flow.specs.Reached.{steps_of}
use Rattle.jr_kept.specs.Searched.{AreByName}
use Rattle.jr_kept.proofs.Searching.{side_made}
use Rattle.jr_kept.proofs.search.Side.of.Goals as goal

pub returns : goal.returns
returns c = λ size few within. record {
  of_rows = refl;
  of_points = c.as_slice.ensures.value;
  of_names = refl;
  is_side = side_made (record { rows = c.args.rows; points = c.as_slice.result; names = c.args.names; ways = c.in_ok-ways.ways; named = c.in_ok-named.named }) c.args.graph.now.points.items c.args.count (steps_of c.args.graph.now)
      c.as_slice.ensures.value size few (let fits = c.ranges.count.fits in omega (arith, fits)) c.in_ok-ways.ensures (subst (λ ns. AreByName c.in_ok-named.named c.args.count ns) c.deref.ensures.value c.in_ok-named.ensures) within;
}
