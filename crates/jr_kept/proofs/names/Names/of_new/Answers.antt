use Rattle.std.proofs.Common.{◌≡◌, ◌∷◌, ◌++◌, [], sym, ◌∙◌, ap, option_and_then, subst, arith, take, get_or}
use Rattle.std.proofs.lemmas.Grind.{take_at_read}
use Rattle.std.proofs.lemmas.List.{take_all}
use Rattle.jr_flow_defs.specs.declared.point.Point.{Point}
use Rattle.jr_flow_defs.specs.declared.point.PointKind.TheVariants as kind
use Rattle.jr_kept.specs.Named.{AreNames, old_naming, new_naming}
use Rattle.jr_kept.proofs.Naming.{none_named, more_named}
use Rattle.jr_kept.proofs.names.Names.of_new.Goals as goal

abbrev nowhere : Point
nowhere = record { row = 0; kind = kind.Entry }

pub loop-point-init : goal.loop-point-init
loop-point-init c = λ le. let names = c.args.self.now in let none : c.new-all.result.items ≡ [] = search in
    subst (λ ns. AreNames names.body c.args.count (new_naming c.args.self.now c.args.origin.now) c.args.graph.now.body [] ns) (sym none) (none_named names.body c.args.count (new_naming c.args.self.now c.args.origin.now) c.args.graph.now.body)

pub loop-point-preserved : goal.loop-point-preserved
loop-point-preserved c = λ le. let names = c.args.self.now in let points = c.deref-point-items.result.now in let i = c.loop-point.point-index in let lt = c.loop-point-test.true in let at = c.args.graph.now.body in
    subst (λ xs. AreNames names.body c.args.count (new_naming c.args.self.now c.args.origin.now) at xs c.push.new.self.items) (sym ((take_at_read points i nowhere (omega (arith, lt))).1))
    (subst (λ ns. AreNames names.body c.args.count (new_naming c.args.self.now c.args.origin.now) at (take i points ++ get_or points i nowhere ∷ []) ns) (sym c.in_ok-push.ensures.items)
    (more_named names.body c.args.count (new_naming c.args.self.now c.args.origin.now) at (take i points) c.loop-point.all.items (get_or points i nowhere) c.in_ok-of_point.field-0 (c.loop-point.invariant le) (c.in_ok-of_point.ensures (new_naming c.args.self.now c.args.origin.now) (ap (λ o. option_and_then (old_naming names) o) (sym c.row_for.ensures)) le)))

pub returns : goal.returns
returns c = λ le. let names = c.args.self.now in let points = c.deref-point-items.result.now in let past = c.loop-point-test.false in
    subst (λ xs. AreNames names.body c.args.count (new_naming c.args.self.now c.args.origin.now) c.args.graph.now.body xs c.loop-point.all.items) (take_all c.loop-point.point-index points (omega (arith, past)) ∙ c.deref-point-items.ensures.value) (c.loop-point.invariant le)
