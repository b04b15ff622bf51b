use Rattle.std.proofs.Common.{sym, ◌∙◌}
use Rattle.jr_plain.proofs.Declared.{class_tells}
use Rattle.jr_dispatch.proofs.Climbing.{found_no_class, found_not_held, found_fixed, found_open}
use Rattle.jr_dispatch.proofs.dispatch.Methods.dispatch.Goals as goal

pub returns-then-not-is_class : goal.returns-then-not-is_class
returns-then-not-is_class c = λ t h. found_no_class c.args.self.under.rows.now t c.args.class c.args.method (sym c.is_class.ensures ∙ c.if-not-is_class.true)

pub returns-then-not-has_method : goal.returns-then-not-has_method
returns-then-not-has_method c = λ t h. found_not_held c.args.self.under.rows.now t c.args.class c.args.method _ c.if-not-has_method.true (c.has_method.ensures t h.supers h.bare)

pub returns-then-is_fixed : goal.returns-then-is_fixed
returns-then-is_fixed c = λ t h. found_fixed c.args.self.under.rows.now t c.args.class c.args.method _ (sym c.is_class.ensures ∙ c.if-not-is_class.false) c.if-not-has_method.false (c.has_method.ensures t h.supers h.bare)
    (sym c.is_fixed.ensures ∙ c.if-is_fixed.true)

pub returns : goal.returns
returns c = λ t h. let p = c.args.self.under.rows.now in let class = sym c.is_class.ensures ∙ c.if-not-is_class.false in let has = c.has_method.ensures t h.supers h.bare in
    found_open p t c.args.class c.args.method _ _ class c.if-not-has_method.false has (sym c.is_fixed.ensures ∙ c.if-is_fixed.false)
    (c.in_ok-found.ensures t h ((class_tells p c.args.class).0 class) (has.0 c.if-not-has_method.false).method)
