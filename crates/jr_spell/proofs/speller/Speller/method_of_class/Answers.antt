use Rattle.std.proofs.Common.{subst, IfOk, Some}
use Rattle.jr_tree.specs.Rows.{name}
use Rattle.jr_defs.specs.declared.referent.Referent.TheVariants.{Unbound}
use Rattle.jr_defs.specs.declared.referent.Space.TheVariants as space
use Rattle.jr_defs.specs.Members.{MemberNamed}
use Rattle.jr_defs.specs.Overloads.{Choice}
use Rattle.jr_lookup.specs.Answers.{IsAnswerOr, IsFree}
use Rattle.jr_spell.specs.Spellers.{rows_of, table_of}
use Rattle.jr_spell.proofs.speller.Speller.method_of_class.Goals as goal

pub returns : goal.returns
returns c = λ whole sought. let s = c.args.self.now in let p = rows_of s in let t = table_of s in let r = c.args.reference.now in
    subst (λ a. IfOk c.method_of.result (λ b. IsAnswerOr (IsFree (Choice p t c.args.class r.row (Some a) c.args.arguments.now (MemberNamed p t space.Method (name p r.name) c.args.class))) Unbound b))
    c.class_type-ty.ensures (c.method_of.ensures whole sought)
