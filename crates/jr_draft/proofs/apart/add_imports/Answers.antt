use Rattle.std.proofs.Common.{arith, refl}
use Rattle.jr_marks.proofs.Firsts.{gathered_more}
use Rattle.jr_draft.specs.Parting.{import_line}
use Rattle.jr_draft.proofs.Building.{lines_start, lines_all}
use Rattle.jr_draft.proofs.apart.add_imports.Goals as goal

pub loop-at-init : goal.loop-at-init
loop-at-init c = record {
  none = λ lt. refl;
  lines = λ ordered. lines_start c.args.marks.now c.args.head c.args.out.now.items;
}

pub loop-at-preserved : goal.loop-at-preserved
loop-at-preserved c = record {
  none = λ lt. absurd (omega arith);
  lines = λ ordered. gathered_more (import_line c.args.marks.now c.args.head) c.loop-at.at c.args.out.now.items _ _ _ (c.loop-at.invariant.lines ordered) (c.in_ok-add_import.ensures ordered (omega arith)) refl;
}

pub returns : goal.returns
returns c = λ ordered. lines_all c.args.marks.now c.args.head c.loop-at.at c.args.out.now.items _ c.loop-at.invariant.none (c.loop-at.invariant.lines ordered) (omega arith) (λ le. omega arith)
