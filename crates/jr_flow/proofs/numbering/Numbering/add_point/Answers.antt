use Rattle.std.proofs.Common.{◌≡◌, ◌+◌, ◌<◌, ◌++◌, ◌∷◌, [], Some, ◌∙◌, refl, sym, ap, subst, arith}
use Rattle.std.proofs.lemmas.Result.{err_from_is_err_and}
use Rattle.jr_flow.specs.Numbered.{count_points, OnlyWhere}
use Rattle.jr_flow.proofs.Limiting.{only_where}
use Rattle.jr_flow.proofs.Counted.{pointed_same, point_added, count_some}
use Rattle.jr_flow.proofs.numbering.Numbering.add_point.Goals as goal

pub returns-clause-added : goal.returns-clause-added
returns-clause-added c = λ body all h at. let old = c.args.self.now in let counted = c.count_one.new.self in let mid = c.number.new.self in
    let before = pointed_same body old counted all c.count_one.ensures.points c.count_one.ensures.taken c.count_one.ensures.numbers h.are in
    let count = c.number.ensures.count ∙ c.in_ok-count_one.ensures.counted.0 in let most = c.in_ok-count_one.ensures.counted.1 in let same = c.number.ensures.count in record {
      are = point_added body counted mid (record { points = mid.points; taken = mid.taken; numbers = c.push.new.self; count = mid.count }) all before c.args.point c.in_ok-number.number (c.in_ok-number.ensures.taken body before.own at) refl refl c.in_ok-push.ensures.items;
      counted = count ∙ ap (λ k. k + 1) h.counted ∙ sym (count_some all c.args.point);
      most = omega (arith, most, same);
    }

pub returns-in_err-count_one-clause-large : goal.returns-in_err-count_one-clause-large
returns-in_err-count_one-clause-large c = λ body all h. let p = err_from_is_err_and c.from_residual.result c.from_residual.ensures.1 in rw (p.1, p.2)
    (only_where (65536 < c.args.self.now.count + 1) (65536 < count_points (all ++ Some c.args.point ∷ [])) c.in_err-count_one.field-0.0 (λ more. let same = h.counted in let count = count_some all c.args.point in omega (arith, more, same, count)) c.in_err-count_one.ensures.large)
