use Rattle.jr_faults.specs.Added.{AreOnly}
use Rattle.jr_member_faults.specs.Faults.{is_on_members}
use Rattle.jr_member_faults.specs.Headers.{AreHeadersTo}
use Rattle.jr_member_faults.specs.Methods.{AreMethodsIn}
use Rattle.jr_member_faults.specs.Twice.{AreDeclaredTo}
use Rattle.jr_member_faults.specs.Views.{rows_in, table_in}
use Rattle.jr_member_faults.proofs.Told.{AreFaultsTo}
use Rattle.jr_member_faults.proofs.faults.put_faults.Given as goal

abbrev pub invariant-loop-at : goal.invariant-loop-at
invariant-loop-at l = (AreMethodsIn l.view l.methods → AreDeclaredTo l.view.sight.world 0 l.fn.declared → AreHeadersTo (rows_in l.view) (table_in l.view) 0 l.fn.headers.superinterfaces → AreFaultsTo l.view l.at l.fn.out.items l.out.items l.declared l.headers) × AreOnly is_on_members l.fn.out.items l.out.items
