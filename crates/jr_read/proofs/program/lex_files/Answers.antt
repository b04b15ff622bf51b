use Rattle.std.proofs.Common.{ap}
use Rattle.jr_base.specs.Files.{plain}
use Rattle.jr_read.proofs.Readings.{counted, lexed_on}
use Rattle.jr_read.proofs.program.lex_files.Goals as goal

pub loop-file-preserved : goal.loop-file-preserved
loop-file-preserved c = record {
  count = counted c.loop-file.all.items c.push.new.self.items c.in-Ok.one (plain c.loop-file.rest.now) (plain c.in-Some.after.now) _ c.in_ok-push-in-Ok.ensures.items (ap plain c.in-Some.ensures.cases.0) c.loop-file.invariant.count;
  lexed = λ front are. lexed_on front (plain c.args.files.now) c.loop-file.all.items c.push.new.self.items c.in-Ok.one c.in_ok-push-in-Ok.ensures.items _ _ (plain c.loop-file.rest.now) (plain c.in-Some.after.now) (ap plain c.in-Some.ensures.cases.0)
      (c.loop-file.invariant.lexed front are) (rw c.deref.ensures.value at (rw c.in_ok-copy.ensures at c.in-Ok.ensures.ok));
}
