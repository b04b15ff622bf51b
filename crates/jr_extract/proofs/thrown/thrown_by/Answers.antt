use Rattle.jr_extract.proofs.thrown.thrown_by.Goals as goal

pub returns : goal.returns
returns c = λ right around. c.all_thrown.ensures (record {
  traced = record { view = right; around = around; catches = c.in_ok-catches.ensures.all right.sized };
  roots = c.of-roots.ensures right.sized.few right.roots;
})
