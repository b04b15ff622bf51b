use Rattle.std.proofs.Common.{◌≡◌, ◌∙◌, ap, length, arith, take, rules}
use Rattle.jr_base.specs.Files.{plain}
use Rattle.jr_base.proofs.Entries.{IsMap, plain_push, all_copied, IsTrue-from_T}
use Rattle.jr_base.proofs.files.Files.copy.Goals as goal
use Rattle.jr_base.proofs.files.Files.copy.Goals.{After-loop-path}

pub loop-path-init : goal.loop-path-init
loop-path-init c = ap plain c.new-entries.ensures.items

pub loop-path-preserved : goal.loop-path-preserved
loop-path-preserved c =
    let copied : c.in_ok-to_vec.field-0.items ≡ c.loop-path-item.result.1.items = search rules in
    ap plain c.in_ok-push.ensures.items
    ∙ plain_push c.loop-path.entries.items c.deref-path-items.result.now c.loop-path.path-index (c.in_ok-copy.field-0, c.in_ok-to_vec.field-0) c.loop-path-item.result c.loop-path-test.true c.loop-path-item.is c.in_ok-copy.ensures copied c.loop-path.invariant

-- the copies, in order, are the files
whole : (c : After-loop-path) → IsMap (plain c.loop-path.entries.items) c.args.self.now
whole c =
    let items = c.deref-path-items.ensures.value in
    all_copied c.loop-path.entries.items c.self.inside.entries.items c.args.self.now c.loop-path.path-index c.self.invariant c.self.view_is
    (omega (arith, c.loop-path.auto.path-index-end, ap length items))
    (c.loop-path.invariant ∙ ap (λ es. plain (take c.loop-path.path-index es)) items)

pub invariant_of-result : goal.invariant_of-result
invariant_of-result c = IsTrue-from_T _ (whole c).0

pub returns : goal.returns
returns c = (whole c).1
