use Rattle.std.proofs.Common.{sym, ◌∙◌, ap, ℕ, not, codes}
use Rattle.std.specs.List.{list_any}
use Rattle.jr_plain.specs.Supertypes.{is_at_or_above}
use Rattle.jr_member_rules.specs.Throwing.{is_below}
use Rattle.jr_member_faults.specs.Views.{rows_of, table_of}
use Rattle.jr_member_faults.proofs.Checked.{below_by, no_declaration, one_declaration}
use Rattle.jr_member_faults.proofs.throwing.Thrown.is_other_class.Goals as goal

pub returns-in-Some : goal.returns-in-Some
returns-in-Some c = λ h th. let w = c.args.world.now in one_declaration (table_of w c.args.name) c.in-Some.class _ (λ (k : ℕ). not (is_below (rows_of w) (table_of w) (codes "Throwable") k)) (sym c.declared.ensures ∙ c.in-Some.is)
    (ap not (c.is_below.ensures h ∙ ap (list_any (λ s. is_at_or_above (rows_of w) (table_of w) c.in-Some.class s)) c.deref.ensures.value
    ∙ below_by (rows_of w) (table_of w) c.args.self.now th (codes "Throwable") c.in-Some.class c.args.self.now.throwables.items th.throwables_are))

pub returns-in-None : goal.returns-in-None
returns-in-None c = λ h th. no_declaration (table_of c.args.world.now c.args.name) _ (sym c.declared.ensures ∙ c.in-None.is)
