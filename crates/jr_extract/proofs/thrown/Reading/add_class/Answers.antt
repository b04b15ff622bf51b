use Rattle.std.proofs.Common.{◌∙◌, ap}
use Rattle.std.proofs.lemmas.Result.{on_ok_weaker}
use Rattle.jr_plain.specs.Search.{has}
use Rattle.jr_extract.specs.Throwing.{is_told}
use Rattle.jr_extract.proofs.Throws.{class_new, class_there}
use Rattle.jr_extract.proofs.thrown.Reading.add_class.Goals as goal

pub returns-then-has : goal.returns-then-has
returns-then-has c = λ reading inside. class_there (is_told c.args.self.now c.args.at c.args.class) c.args.class c.args.all.now.items c.has.result (c.has.ensures ∙ ap (λ xs. has xs c.args.class) c.deref.ensures.value) c.if-has.true

pub returns : goal.returns
returns c = λ reading inside. on_ok_weaker c.push_told.result
    (λ h. class_new (is_told c.args.self.now c.args.at c.args.class) c.args.class c.args.all.now.items _ c.has.result c.in_ok-is_thrown.is_thrown (c.has.ensures ∙ ap (λ xs. has xs c.args.class) c.deref.ensures.value) c.if-has.false
    (c.in_ok-is_thrown.ensures reading inside) h) c.push_told.ensures
