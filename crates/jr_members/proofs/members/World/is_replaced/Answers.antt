use Rattle.std.proofs.Common.{◌≡◌, sym, ◌∙◌, ap, arith, length, nat_eq}
use Rattle.jr_supers.specs.Tabled.{is_callable}
use Rattle.jr_members.proofs.Objects.{apart_tells, replaced_tells}
use Rattle.jr_members.proofs.members.World.is_replaced.Goals as goal

pub returns-then-not-is_interface : goal.returns-then-not-is_interface
returns-then-not-is_interface c = λ t h method. apart_tells c.args.self.under.rows.now t c.args.at method c.args.over (sym c.is_interface.ensures ∙ c.if-not-is_interface.true)

pub returns : goal.returns
returns c = λ t h method. replaced_tells c.args.self.under.rows.now t c.args.at method h.seen.above.well.headed c.args.over c.in_ok-like.like.items c.is_empty.result (sym c.is_interface.ensures ∙ c.if-not-is_interface.false)
    (c.in_ok-like.ensures c.args.self.under.rows.now t h.members_are.callables_are h.members_are.signatures_are (ap is_callable method))
    (let same : c.in_ok-like.like.len ≡ length c.in_ok-like.like.items = omega (arith, c.in_ok-like.like.ok.0) in c.is_empty.ensures ∙ ap (λ n. nat_eq n 0) same)
