use Rattle.std.proofs.Common.{sym, subst, arith}
use Rattle.jr_places.specs.Packages.{ArePackagesTo}
use Rattle.jr_places.proofs.Packing.{packages_start, packages_more, packages_end}
use Rattle.jr_places.proofs.units.Packages.of.Goals as goal

pub loop-at-init : goal.loop-at-init
loop-at-init c = λ names local named. packages_start c.args.rows.now _ _ c.new-paths.ensures c.new-of_rows.ensures.items

pub loop-at-preserved : goal.loop-at-preserved
loop-at-preserved c = λ names local named. let h = c.loop-at.invariant names local named in
    packages_more c.args.rows.now _ _ _ _ c.loop-at.at _ h (c.in_ok-number.ensures names (omega arith) local named (omega arith) (subst (λ xs. ArePackagesTo c.args.rows.now c.loop-at.paths xs c.loop-at.at) (sym c.deref.ensures.value) h)) c.in_ok-push.ensures.items

pub returns : goal.returns
returns c = λ names local named. packages_end c.args.rows.now local _ c.loop-at.at (c.loop-at.invariant names local named) (omega arith)
