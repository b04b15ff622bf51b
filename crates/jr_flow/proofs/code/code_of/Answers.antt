use Rattle.std.proofs.Common.{sym, ap, ◌∙◌, subst, length, ◌<◌}
use Rattle.jr_flow.specs.Views.{rows_in}
use Rattle.jr_flow.specs.Coded.{IsBegun, IsCodeOf}
use Rattle.jr_flow.proofs.code.code_of.Goals as goal

pub returns : goal.returns
returns c = λ m view tree lt. let p = rows_in c.args.view.now in let begun = c.new.ensures in let code = c.fill.new.self in
    let none = c.deref_mut.ensures.value ∙ c.in_ok-code.ensures.ok in
    let place = ap (λ x. x.body) none ∙ begun.is_of in
    let empty = subst (λ x. IsBegun x.body x) (sym none) (subst (λ b. IsBegun b c.new.result) (sym begun.is_of) begun) in
    let table = c.in_ok-fill.ensures m view tree empty (subst (λ b. b < length p) (sym place) lt) in (
      table.is_of ∙ place,
      record {
        tree = tree;
        few = view.few;
        inside = subst (λ b. b < length p) (sym (table.is_of ∙ place)) lt;
        table = subst (λ b. IsCodeOf p m b code) (sym table.is_of) table;
      },
    )
