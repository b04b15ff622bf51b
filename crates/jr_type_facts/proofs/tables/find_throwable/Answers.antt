use Rattle.std.proofs.Common.{◌≡◌, ◌∙◌, sym, ap, arith, length, codes}
use Rattle.jr_plain.specs.Search.{first_below}
use Rattle.jr_plain.specs.Declarations.{is_prelude}
use Rattle.jr_type_facts.proofs.Tabling.{throwable_found}
use Rattle.jr_type_facts.proofs.tables.find_throwable.Goals as goal

pub returns-then-is_prelude_throwable : goal.returns-then-is_prelude_throwable
returns-then-is_prelude_throwable c = λ whole. throwable_found c.args.rows.now c.loop-at.at c.loop-at.invariant (sym c.if-is_prelude_throwable.true ∙ c.is_prelude_throwable.ensures) (omega (arith, whole))

pub returns : goal.returns
returns c = λ whole. let e : c.loop-at.at ≡ length c.args.rows.now = omega (arith, whole) in sym c.loop-at.invariant ∙ ap (λ n. first_below n (λ k. is_prelude c.args.rows.now (codes "Throwable") k)) e
