use Rattle.std.proofs.Common.{◌≡◌, sym, ◌∙◌, ap, arith, true, false, ◌||◌, ℕ, drop, ◌+◌}
use Rattle.std.specs.List.{list_any}
use Rattle.std.proofs.lemmas.List.{drop_more, drop_all}
use Rattle.jr_plain.specs.Types.{is_same_signature}
use Rattle.jr_supers.specs.Tabled.{is_callable}
use Rattle.jr_members.proofs.Each.{any_more, item_in}
use Rattle.jr_members.proofs.inheriting.are_any_same.Goals as goal

pub returns-then-are_same : goal.returns-then-are_same
returns-then-are_same c = λ p t signed rows method. let all = c.args.all.now in let i = c.loop-other.other-index in let test = λ (e : ℕ). is_same_signature p t e c.args.at in
    let is = drop_more all i 0 (omega arith) in
    let same = sym (c.are_same.ensures p t signed (ap is_callable (rows.each _ (item_in all i 0 (omega arith)))) (ap is_callable method)) ∙ c.if-are_same.true in
    ap (λ b. b || list_any test (drop (i + 1) all)) (sym same) ∙ sym (any_more test _ _ _ is) ∙ c.loop-other.invariant p t signed rows method

pub loop-other-preserved : goal.loop-other-preserved
loop-other-preserved c = λ p t signed rows method. let all = c.args.all.now in let i = c.loop-other.other-index in let test = λ (e : ℕ). is_same_signature p t e c.args.at in
    let is = drop_more all i 0 (omega arith) in
    let same = sym (c.are_same.ensures p t signed (ap is_callable (rows.each _ (item_in all i 0 (omega arith)))) (ap is_callable method)) ∙ c.if-are_same.false in
    ap (λ b. b || list_any test (drop (i + 1) all)) (sym same) ∙ sym (any_more test _ _ _ is) ∙ c.loop-other.invariant p t signed rows method

pub returns : goal.returns
returns c = λ p t signed rows method. ap (list_any (λ e. is_same_signature p t e c.args.at)) (sym (drop_all c.loop-other.other-index c.args.all.now (omega arith))) ∙ c.loop-other.invariant p t signed rows method
