use Rattle.std.proofs.Common.{◌≡◌, ◌∙◌, refl, ap, length, length-append, arith, ◌++◌, ◌∷◌, []}
use Rattle.jr_flow.specs.Linked.{firsts_in, items_in, HaveBegun}
use Rattle.jr_flow.proofs.Linking.{none_begun, one_begun}
use Rattle.jr_flow.proofs.links.Links.begin.Goals as goal

pub loop-list-init : goal.loop-list-init
loop-list-init c = let old = c.args.self.now in let size : length (firsts_in old) ≡ c.len-list.result = omega (arith, c.len-list.ensures, old.firsts.ok.0) in
    (refl, size, none_begun (firsts_in old) c.args.number (length (items_in old)))

pub loop-list-preserved : goal.loop-list-preserved
loop-list-preserved c = let old = c.args.self.now in let mid = c.loop-list.self in let size = c.loop-list.invariant.1 in
    let next : c.in-Ok.next ≡ length (items_in old) = omega (arith, c.in-Ok.ensures.1, c.len.ensures, old.items.ok.0) in
    let pushed = c.in_ok-push.ensures.items ∙ ap (λ k. firsts_in mid ++ k ∷ []) next in
    let l = ap length pushed ∙ length-append (firsts_in mid) (length (items_in old) ∷ []) in (
      c.loop-list.invariant.0,
      omega (arith, l, size),
      one_begun (firsts_in old) (firsts_in mid) c.push.new.self.items c.args.number (length (items_in old)) c.loop-list.invariant.2 (omega (arith, size, c.loop-list-test.true, c.saturating_add-list-end.ensures)) pushed,
    )

pub returns-clause-begun : goal.returns-clause-begun
returns-clause-begun c = c.loop-list.invariant.2

pub returns-clause-longer : goal.returns-clause-longer
returns-clause-longer c = let size = c.loop-list.invariant.1 in omega (arith, size, c.loop-list-test.false, c.saturating_add-list-end.ensures)
