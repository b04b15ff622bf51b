use Rattle.std.proofs.Common.{◌∙◌, refl, sym}
use Rattle.jr_flow.proofs.Counted.{none_added, count_none}
use Rattle.jr_flow.proofs.numbering.Numbering.add_none.Goals as goal

pub returns : goal.returns
returns c = λ body all h. let old = c.args.self.now in record {
  are = none_added body old old (record { points = old.points; taken = old.taken; numbers = c.push.new.self; count = old.count }) all h.are refl refl c.in_ok-push.ensures.items;
  counted = h.counted ∙ sym (count_none all);
  most = h.most;
}
