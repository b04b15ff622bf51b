use Rattle.std.proofs.Common.{◌≡◌, ◌∙◌, sym, ap, subst}
use Rattle.std.specs.Prelude.{IfSome, OnOk, is_some}
use Rattle.std.proofs.lemmas.Bool.{false≢true}
use Rattle.jr_spell.specs.Shaping.{IsTold}
use Rattle.jr_spell.specs.Spellers.{IsSought}
use Rattle.jr_spell.proofs.speller.Speller.spell_row.Goals as goal

pub returns-in-Some-clause-spelled : goal.returns-in-Some-clause-spelled
returns-in-Some-clause-spelled c = λ whole all. let known = c.is_known.ensures in let yes = c.if-not-is_known.false in c.spell_reference.ensures.spelled whole
    (subst (λ o. IfSome o (λ r. IsSought c.args.self.now r)) c.in-Some.is (c.reference.ensures.whole whole (known.there yes) (record { target = known.target yes; level = known.level yes }))) all

pub returns-in-Some-clause-fault : goal.returns-in-Some-clause-fault
returns-in-Some-clause-fault c = λ whole. let known = c.is_known.ensures in let yes = c.if-not-is_known.false in c.spell_reference.ensures.fault whole
    (subst (λ o. IfSome o (λ r. IsSought c.args.self.now r)) c.in-Some.is (c.reference.ensures.whole whole (known.there yes) (record { target = known.target yes; level = known.level yes })))

pub returns-in-Some-clause-told : goal.returns-in-Some-clause-told
returns-in-Some-clause-told c = λ whole. let known = c.is_known.ensures in let yes = c.if-not-is_known.false in
    subst (λ n. OnOk c.spell_reference.result (IsTold c.args.self.now c.spell_reference.new.all.items n)) (subst (λ o. IfSome o (λ r. r.row ≡ c.args.row)) c.in-Some.is c.reference.ensures.row) (c.spell_reference.ensures.told whole
    (subst (λ o. IfSome o (λ r. IsSought c.args.self.now r)) c.in-Some.is (c.reference.ensures.whole whole (known.there yes) (record { target = known.target yes; level = known.level yes }))))

pub returns-in-None-clause-keeps : goal.returns-in-None-clause-keeps
returns-in-None-clause-keeps c = λ a h. h

pub returns-in-None-clause-told : goal.returns-in-None-clause-told
returns-in-None-clause-told c = λ whole lock. absurd (false≢true (sym (ap is_some c.in-None.is) ∙ c.reference.ensures.there lock))
