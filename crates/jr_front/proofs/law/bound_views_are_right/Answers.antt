use Rattle.jr_front.proofs.Testable.{tables_view, testable_view}
use Rattle.jr_front.proofs.Viewed.{seen_view, whole_view}
use Rattle.jr_front.proofs.law.bound_views_are_right.Goals as goal

pub returns-clause-seen : goal.returns-clause-seen
returns-clause-seen c = seen_view

pub returns-clause-whole : goal.returns-clause-whole
returns-clause-whole c = whole_view

pub returns-clause-tables : goal.returns-clause-tables
returns-clause-tables c = tables_view

pub returns-clause-testable : goal.returns-clause-testable
returns-clause-testable c = λ w view bound begins of. testable_view w view bound of begins
