use Rattle.std.proofs.Common.{rules, ◌≡◌, arith}
use Rattle.std.proofs.lemmas.Grind.{common_steps}
use Rattle.jr_engine.proofs.Rising.{all_filed, one_filed}
use Rattle.jr_engine.proofs.filing.files_of.Goals as goal

pub loop-path-init : goal.loop-path-init
loop-path-init c = record { split = search rules; files = c.new-files.ensures }

pub loop-path-preserved : goal.loop-path-preserved
loop-path-preserved c = record {
  split = grind (arith, common_steps);
  files = one_filed c.loop-path.files c.insert.new.self c.loop-path.yielded c.in-Some.path c.in-Some.bytes c.loop-path.invariant.files c.in_ok-insert.ensures.ok;
}

pub returns : goal.returns
returns c =
    let whole : c.args.texts.items ≡ c.loop-path.yielded = grind (arith, common_steps) in
    all_filed c.loop-path.files c.args.texts.items c.loop-path.yielded whole c.loop-path.invariant.files
