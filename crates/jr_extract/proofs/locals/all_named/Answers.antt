use Rattle.std.proofs.Common.{◌∙◌, arith, ap, ◌++◌}
use Rattle.jr_defs.specs.Referents.{entries}
use Rattle.jr_extract.specs.Handing.{listed, outer_local}
use Rattle.jr_extract.proofs.Found.{given_all, given_more, given_start}
use Rattle.jr_extract.proofs.locals.all_named.Goals as goal

pub loop-at-init : goal.loop-at-init
loop-at-init c = record {
  none = λ lt. c.new-all.ensures.items;
  found = given_start (outer_local c.args.under.now.rows.now (entries c.args.under.now.table.now) c.args.run) c.args.run.rows.first _ c.new-all.ensures.items;
}

pub loop-at-preserved : goal.loop-at-preserved
loop-at-preserved c = record {
  none = λ lt. absurd (omega arith);
  found = given_more (outer_local c.args.under.now.rows.now (entries c.args.under.now.table.now) c.args.run) c.args.run.rows.first c.loop-at.at _ _ (omega arith) c.loop-at.invariant.found
      (c.in_ok-push_found.ensures ∙ ap (λ found. c.loop-at.all.items ++ listed found) c.outer_local.ensures);
}

pub returns : goal.returns
returns c = given_all (outer_local c.args.under.now.rows.now (entries c.args.under.now.table.now) c.args.run) c.args.run.rows.first c.args.run.rows.end c.loop-at.at _ c.loop-at.invariant.none c.loop-at.invariant.found (omega arith) (λ le. omega arith)
