use Rattle.std.proofs.Common.{sym, ◌∙◌}
use Rattle.std.proofs.lemmas.Bool.{false≢true}
use Rattle.jr_member_faults.specs.Views.{rows_of, table_of}
use Rattle.jr_member_faults.proofs.Nearing.{throws_told}
use Rattle.jr_member_faults.proofs.redefining.Redefining.keeps_near.Goals as goal

pub returns-then-not-is_plain : goal.returns-then-not-is_plain
returns-then-not-is_plain c = λ h th d m e. absurd (false≢true e)

pub returns-then-not-goes_down : goal.returns-then-not-goes_down
returns-then-not-goes_down c = λ h th d m e. absurd (false≢true e)

pub returns-then-throws_others : goal.returns-then-throws_others
returns-then-throws_others c = λ h th d m e. absurd (false≢true e)

pub returns : goal.returns
returns c = λ h th d m e. let w = c.args.self.now.world.now in record {
  interfaces = d.interfaces (c.is_plain.ensures c.if-not-is_plain.false);
  down = c.goes_down.ensures h d c.if-not-goes_down.false;
  throws = throws_told (rows_of w) (table_of w) h.whole.world_is.seen.above.well.headed c.args.method (sym (c.in_ok-throws_others.ensures h th m) ∙ c.if-throws_others.false);
  above = c.in_ok-keeps.ensures h th m e;
}
