use Rattle.std.proofs.Common.{sym, ◌∙◌, ap}
use Rattle.std.proofs.lemmas.Result.{on_ok_weaker}
use Rattle.jr_codes.specs.Reads.{facts}
use Rattle.jr_supers.specs.Signatures.{nth_of}
use Rattle.jr_expressions.proofs.Passed.{adds_argument}
use Rattle.jr_expressions.proofs.calls.add_argument.Goals as goal

pub returns : goal.returns
returns c = on_ok_weaker c.add_item.result (adds_argument (λ signed. ap (nth_of ((facts c.args.source.now).parameters c.args.method)) (sym (c.in_ok-nth.ensures ∙ c.len.ensures)) ∙ c.in_ok-wanted.ensures signed) c.in_ok-argument.ensures) c.add_item.ensures
