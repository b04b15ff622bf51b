use Rattle.std.proofs.Common.{◌∙◌, ap}
use Rattle.std.proofs.lemmas.Result.{on_ok_weaker}
use Rattle.jr_extract.specs.Throwing.{is_told, with_classes}
use Rattle.jr_extract.proofs.thrown.Reading.add_thrown_at.Goals as goal

pub returns : goal.returns
returns c = λ reading inside. on_ok_weaker c.add_classes.result
    (λ h. h ∙ ap (λ classes. with_classes (is_told c.args.self.now c.args.at) classes c.args.all.now.items) (c.deref.ensures.value ∙ c.in_ok-classes.ensures reading.traced.view.sized.few reading.traced.view.local.tree))
    (c.add_classes.ensures reading inside)
