use Rattle.std.proofs.Common.{sym, ◌∙◌}
use Rattle.jr_defs.specs.Enclosing.{DeclaredIn}
use Rattle.jr_plain.proofs.Enclosed.{declared_in_tells}
use Rattle.jr_supers.proofs.Subtyped.{one_test}
use Rattle.jr_members.proofs.Objects.{declarer_some, declarer_none}
use Rattle.jr_member_faults.specs.Views.{rows_of}
use Rattle.jr_member_faults.proofs.beside.is_declared_in.Goals as goal

pub returns-in-Some : goal.returns-in-Some
returns-in-Some c = let p = rows_of c.args.world.now in one_test _ _ (DeclaredIn p c.args.over c.args.method) (declarer_some p c.args.over c.args.method c.in-Some.found (sym c.declaring_type.ensures ∙ c.in-Some.is)) (declared_in_tells p c.args.over c.args.method)

pub returns-in-None : goal.returns-in-None
returns-in-None c = let p = rows_of c.args.world.now in one_test _ _ (DeclaredIn p c.args.over c.args.method) (declarer_none p c.args.over c.args.method (sym c.declaring_type.ensures ∙ c.in-None.is)) (declared_in_tells p c.args.over c.args.method)
