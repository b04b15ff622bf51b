use Rattle.std.proofs.Common.{refl, sym, ◌∙◌, ap, subst, arith}
use Rattle.std.proofs.lemmas.Bool.{false≢true}
use Rattle.std.proofs.lemmas.Grind.{get_or-set_at}
use Rattle.jr_defs.specs.declared.referent.Referent.TheVariants.{Unbound}
use Rattle.jr_defs.specs.Referents.{entries}
use Rattle.jr_bind.specs.Filled.{table_of}
use Rattle.jr_bind.specs.Looked.{IsLookedUp}
use Rattle.jr_bind.proofs.Keeping.{row_passed, row_filled}
use Rattle.jr_bind.proofs.filling.Filling.fill_row.Goals as goal

pub returns-then-not-is_of-clause-fills : goal.returns-then-not-is_of-clause-fills
returns-then-not-is_of-clause-fills c = row_passed c.args.stages.now c.args.stage c.args.at c.args.self.now

pub returns-then-not-is_of-clause-looked : goal.returns-then-not-is_of-clause-looked
returns-then-not-is_of-clause-looked c = λ of known inside size typed. absurd (false≢true (sym c.if-not-is_of.true ∙ c.is_of.ensures.1 of))

pub returns-clause-fills : goal.returns-clause-fills
returns-clause-fills c = row_filled c.args.stages.now c.args.stage c.args.at c.args.self.now _ c.in_ok-found.found (c.is_of.ensures.0 c.if-not-is_of.false) c.put_referent.ensures refl refl refl

pub returns-clause-looked : goal.returns-clause-looked
returns-clause-looked c = λ of known inside size typed.
    subst (IsLookedUp c.args.known.setting.rows.now (table_of c.args.self.now) c.args.at)
    (sym (ap (λ all. entries all c.args.at) c.put_referent.ensures ∙ get_or-set_at c.args.self.now.table.items c.args.at c.args.at _ Unbound refl (omega (arith, inside, size))))
    (c.in_ok-found.ensures known inside typed)
