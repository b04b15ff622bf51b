use Rattle.std.proofs.Common.{◌≡◌, ◌∙◌, ap, arith, length}
use Rattle.jr_defs.specs.Referents.{entries}
use Rattle.jr_members.specs.Keys.{entries_of}
use Rattle.jr_lookup.specs.Imports.{brought}
use Rattle.jr_lookup.proofs.Importing.{singles_more}
use Rattle.jr_lookup.proofs.imports.Imports.add_imports.Goals as goal

pub loop-at-preserved : goal.loop-at-preserved
loop-at-preserved c = λ placed none. singles_more c.args.under.rows.now (entries c.args.under.table.now) c.loop-at.at _ _ (c.loop-at.invariant placed none) (c.in_ok-add_import.ensures placed (omega arith))

pub returns : goal.returns
returns c = λ placed none. let last : c.loop-at.at ≡ length c.args.under.rows.now = omega arith in c.loop-at.invariant placed none ∙ ap (entries_of (brought c.args.under.rows.now (entries c.args.under.table.now))) last
