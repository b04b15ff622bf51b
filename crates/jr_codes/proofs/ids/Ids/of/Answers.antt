use Rattle.std.proofs.Common.{rules, ◌≡◌, length, sym, subst}
use Rattle.jr_codes.specs.Numbered.{counted_nodes, NumbersDeclarations}
use Rattle.jr_codes.proofs.Numbering.{numbers_declarations}
use Rattle.jr_codes.proofs.ids.Ids.of.Goals as goal

-- src/ids.rt:138:5
pub returns : goal.returns
returns c =
    let counted : c.in_ok-nodes.nodes.items ≡ counted_nodes c.args.rows.now (length c.args.rows.now) = search rules in
    subst (NumbersDeclarations c.args.rows.now) (sym counted) (numbers_declarations c.args.rows.now)
