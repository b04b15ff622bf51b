use Rattle.std.proofs.Common.{rules, ◌∙◌, nat_lt}
use borrow.Author.Tests.{tests}
use Rattle.std.proofs.lemmas.Iterator.Consumers.{count_from_yields_List}
use Rattle.std.proofs.lemmas.Iterator.Adapters.{YieldsList-from_rev_slice}
use Rattle.std.proofs.lemmas.Iterator.Search.{YieldsList-from_take_while}
use Rattle.std.proofs.lemmas.List.Folds.{length-prefix_len}
use Rattle.jr_codes.specs.Waiting.{waiting}
use Rattle.jr_codes.proofs.Fronts.{front_count}
use Rattle.jr_codes.proofs.parts.Parts.count_before.Goals as goal

pub returns : goal.returns
returns g c = count_from_yields_List _ c.count.result c.count.ensures.ran (YieldsList-from_take_while _ (λ part. nat_lt part.0 c.args.end) (YieldsList-from_rev_slice c.args.self.now.entries.items (cc (c.rev-parts.ensures.source, c.take_while.ensures.source, c.iter.ensures.rest, c.deref.ensures.value))) (c.take_while.ensures.closure) (c.take_while.ensures.done) (λ x b q k. search (rules, tests)))
    ∙ length-prefix_len (λ part. nat_lt part.0 c.args.end) (waiting c.args.self.now) ∙ front_count c.args.end (waiting c.args.self.now)
