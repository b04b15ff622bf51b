use Rattle.std.proofs.Common.{◌≡◌, arith, length, ◌<◌}
use Rattle.jr_name_faults.proofs.Told.{faults_start, faults_more, access_start, access_more, imports_start, imports_more, statics_start, statics_more, names_start, names_more, told_names, told_labels, told_access, told_imports, told_types, told_statics}
use Rattle.jr_name_faults.proofs.faults.put_faults.Goals as goal

pub loop-at-init : goal.loop-at-init
loop-at-init c = (
  (λ h. faults_start c.args.view.now c.args.out.now.items _ h),
  ((λ seen. access_start c.args.view.now c.args.out.now.items), ((λ known. imports_start c.args.view.now c.args.out.now.items _ known), ((λ statics. statics_start c.args.view.now c.args.out.now.items), names_start c.args.out.now.items))),
)

pub loop-at-preserved : goal.loop-at-preserved
loop-at-preserved c = let lt : c.loop-at.at < length c.args.view.now.sight.world.under.rows.now = (let whole = c.in_ok-count.ensures in omega arith) in let row = c.in_ok-row_faults.ensures in let inv = c.loop-at.invariant in (
  (λ h. let locals = inv.0 h in faults_more locals (row.open _ lt locals.before) (row.local_names _ lt locals.before) (row.labels _ lt locals.before)),
  (
    (λ seen. access_more (inv.1.0 seen) (row.access seen)),
    ((λ known. let imports = inv.1.1.0 known in imports_more imports (row.passed _ _ lt imports.passed) (row.import_names _ _ lt imports.passed) (row.imported_types _ _ lt imports.passed)), ((λ statics. statics_more (inv.1.1.1.0 statics) (row.static_imports statics)), names_more inv.1.1.1.1 row.others)),
  ),
)

pub returns-clause-local_names : goal.returns-clause-local_names
returns-clause-local_names c = λ h. let whole : c.loop-at.at ≡ length c.args.view.now.sight.world.under.rows.now = (let whole = c.in_ok-count.ensures in omega arith) in told_names whole (c.loop-at.invariant.0 h)

pub returns-clause-labels : goal.returns-clause-labels
returns-clause-labels c = λ h. let whole : c.loop-at.at ≡ length c.args.view.now.sight.world.under.rows.now = (let whole = c.in_ok-count.ensures in omega arith) in told_labels whole (c.loop-at.invariant.0 h)

pub returns-clause-access : goal.returns-clause-access
returns-clause-access c = λ seen. let whole : c.loop-at.at ≡ length c.args.view.now.sight.world.under.rows.now = (let whole = c.in_ok-count.ensures in omega arith) in told_access whole (c.loop-at.invariant.1.0 seen)

pub returns-clause-import_names : goal.returns-clause-import_names
returns-clause-import_names c = λ known. let whole : c.loop-at.at ≡ length c.args.view.now.sight.world.under.rows.now = (let whole = c.in_ok-count.ensures in omega arith) in told_imports whole (c.loop-at.invariant.1.1.0 known)

pub returns-clause-imported_types : goal.returns-clause-imported_types
returns-clause-imported_types c = λ known. let whole : c.loop-at.at ≡ length c.args.view.now.sight.world.under.rows.now = (let whole = c.in_ok-count.ensures in omega arith) in told_types whole (c.loop-at.invariant.1.1.0 known)

pub returns-clause-static_imports : goal.returns-clause-static_imports
returns-clause-static_imports c = λ statics. let whole : c.loop-at.at ≡ length c.args.view.now.sight.world.under.rows.now = (let whole = c.in_ok-count.ensures in omega arith) in told_statics whole (c.loop-at.invariant.1.1.1.0 statics)

pub returns-clause-others : goal.returns-clause-others
returns-clause-others c = c.loop-at.invariant.1.1.1.1
