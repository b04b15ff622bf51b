use Rattle.std.proofs.Common.{◌≡◌, ◌∙◌, sym, ap, arith, length}
use Rattle.std.specs.List.{slice_get}
use Rattle.std.specs.Prelude.{unwrap_or}
use Rattle.jr_marks.proofs.Firsts.{first_none, first_some}
use Rattle.jr_extract.specs.Running.{ends_behind}
use Rattle.jr_extract.proofs.run.count_before.Goals as goal

pub returns-then-ends_behind : goal.returns-then-ends_behind
returns-then-ends_behind c = λ few. let count = c.count_tokens-count.ensures few in
    sym (ap (λ found. unwrap_or found (length c.args.tokens.now)) (first_some (λ k. ends_behind c.args.offset (slice_get c.args.tokens.now k)) (length c.args.tokens.now) c.loop-at.at (omega arith)
    (sym c.ends_behind.ensures ∙ c.if-ends_behind.true) c.loop-at.invariant))

pub returns : goal.returns
returns c = λ few. let count = c.count_tokens-count.ensures few in
    count ∙ sym (ap (λ found. unwrap_or found (length c.args.tokens.now)) (first_none (λ k. ends_behind c.args.offset (slice_get c.args.tokens.now k)) (length c.args.tokens.now) (λ k lt. c.loop-at.invariant k (omega arith))))
