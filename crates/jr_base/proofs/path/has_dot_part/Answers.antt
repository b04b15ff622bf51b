use Rattle.std.proofs.Common.{rules, ◌≡◌, sym, ◌∙◌}
use Rattle.std.proofs.lemmas.Iterator.Search.{any_from_yields_List}
use Rattle.std.proofs.lemmas.Iterator.Splits.{YieldsList-from_slice_split}
use borrow.Author.Tests.{tests}
use Rattle.jr_base.specs.Paths.{is_dot_part, parts}
use Rattle.std.specs.List.{list_any}
use Rattle.jr_base.proofs.path.has_dot_part.Goals as goal

pub returns : goal.returns
returns c =
    let same : c.any.result ≡ list_any is_dot_part (parts c.args.bytes.now) =
    any_from_yields_List is_dot_part _ _ c.any.result c.any.ensures.ran
    (YieldsList-from_slice_split _ _ c.args.bytes.now c.split.ensures.rest c.split.ensures.done c.split.ensures.closure (λ x r q k. search (rules, tests)))
    (λ x b q k. search (rules, tests)) in
    ((λ t. sym same ∙ t), (λ t. same ∙ t))
