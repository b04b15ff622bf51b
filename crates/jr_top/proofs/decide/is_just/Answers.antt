use Rattle.std.proofs.Common.{ap, ◌∙◌, arith}
use Rattle.std.specs.Prelude.{bytes_eq}
use Rattle.jr_top.proofs.Held.{just}
use Rattle.jr_top.proofs.decide.is_just.Goals as goal

pub returns-in-len1 : goal.returns-in-len1
returns-in-len1 c = just c.args.paths.now c.args.file.now c.path-item.result c.eq.result (omega arith) (omega arith) c.path-item.is (c.eq.ensures ∙ ap (λ b. bytes_eq b c.args.file.now) c.bytes.ensures)
