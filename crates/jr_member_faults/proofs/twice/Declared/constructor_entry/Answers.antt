use Rattle.std.proofs.Common.{sym, ◌∙◌, ap, subst}
use Rattle.jr_tree.specs.Rows.{role_at}
use Rattle.jr_supers.specs.Signatures.{AreSignatures}
use Rattle.jr_members.specs.Keys.{entry_of}
use Rattle.jr_member_faults.specs.Views.{rows_of, table_of}
use Rattle.jr_member_faults.proofs.Constructed.{constructor_callable}
use Rattle.jr_member_faults.proofs.twice.Declared.constructor_entry.Goals as goal

pub returns-clause-numbered : goal.returns-clause-numbered
returns-clause-numbered c = λ signed constructor counted. record {
  number = c.in_ok-number.number;
  numbers = c.in_ok-number.ensures (rows_of c.args.world.now) (table_of c.args.world.now) (subst (AreSignatures (rows_of c.args.world.now) (table_of c.args.world.now)) (sym c.signatures.ensures) signed)
      (constructor_callable (role_at (rows_of c.args.world.now) c.args.at) constructor) counted;
  entry_is = c.entry_under.ensures ∙ ap (λ o. entry_of c.args.at o c.in_ok-number.number) c.constructed_class-class.ensures;
}
