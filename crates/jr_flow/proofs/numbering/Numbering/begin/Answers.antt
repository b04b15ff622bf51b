use Rattle.std.proofs.Common.{◌≡◌, ◌≤◌, ◌∙◌, arith}
use Rattle.jr_flow.proofs.Counted.{begun}
use Rattle.jr_flow.proofs.numbering.Numbering.begin.Goals as goal

pub returns : goal.returns
returns c = let one = c.in_ok-begin_one.ensures in let two = c.in_ok-begin_one-2.ensures in let three = c.in_ok-begin_one-3.ensures in
    let count : c.begin_one-3.new.self.count ≡ 0 = three.count ∙ two.count ∙ one.count ∙ c.new-numbering.ensures.count in record {
      are = begun c.args.row c.new-numbering.result c.begin_one.new.self c.begin_one-2.new.self c.begin_one-3.new.self c.new-numbering.ensures.points c.new-numbering.ensures.taken c.new-numbering.ensures.numbers
          one.points one.taken one.numbers two.points two.taken two.numbers three.points three.taken three.numbers;
      counted = count;
      most = omega (arith, count);
    }
