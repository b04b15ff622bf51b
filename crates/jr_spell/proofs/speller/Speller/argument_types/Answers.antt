use Rattle.std.proofs.Common.{◌≡◌, ◌+◌, arith, sym, subst, length, option_map, IfOk}
use Rattle.jr_defs.specs.Lookup.{arguments_by}
use Rattle.jr_plain.specs.Overloads.{argument_types}
use Rattle.jr_tree.specs.Rows.{label}
use Rattle.jr_lookup.proofs.Arguing.{begins_after}
use Rattle.jr_spell.specs.Spellers.{rows_of, types_of}
use Rattle.jr_spell.proofs.speller.Speller.argument_types.Goals as goal

pub returns : goal.returns
returns c = λ whole sought. let s = c.args.self.now in let p = rows_of s in let r = c.args.reference.now in let few = whole.few in let inside = sought.there in
    let first = c.first_argument-first.ensures (omega (arith, few, inside)) sought.at_row.sought_is in let after = begins_after p whole.sight_is.world.seen.placed.local.tree (label p r.row) r.row in
    subst (λ n. IfOk c.types_from.result (λ found. option_map (λ all. all.items) found ≡ argument_types p (types_of s) r.row (length p) n)) first (c.types_from.ensures whole (omega (arith, first, after)))
