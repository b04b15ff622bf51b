-- The rows of shaped units stand as they may, and the tables are counted from those rows.
use Rattle.std.proofs.Common.{◌≡◌, length, map, sym, subst, rules}
use Rattle.jr_tree.specs.Rows.{Rows, program_rows}
use Rattle.jr_tree.specs.Local.{IsLocal}
use Rattle.jr_tree.proofs.Locals.{each_program_is_local}
use Rattle.jr_index.specs.NodeRows.{counts, unit_rows}
use Rattle.jr_index.proofs.index.Index.build.Goals as goal

pub invariant_of-result : goal.invariant_of-result
invariant_of-result c =
    let units = map (λ u. u.unit) c.args.program.now.units in
    let rows : c.in_ok-marked.marked.rows.items ≡ program_rows units = c.in_ok-marked.ensures.rows in
    let nodes : c.in_ok-nodes.nodes.items ≡ counts c.deref.result.now (length c.deref.result.now) = c.in_ok-nodes.ensures in
    let starts : c.in_ok-units.units.items ≡ unit_rows c.deref-2.result.now (length c.deref-2.result.now) = c.in_ok-units.ensures in (
      record {
        local = subst IsLocal (sym rows) (each_program_is_local units c.requires);
        few = search rules;
        counted = subst (λ (p : Rows). c.in_ok-nodes.nodes.items ≡ counts p (length p)) c.deref.ensures.value nodes;
        starts = subst (λ (p : Rows). c.in_ok-units.units.items ≡ unit_rows p (length p)) c.deref-2.ensures.value starts;
      },
      c.in_ok-marked.ensures.within,
    )
