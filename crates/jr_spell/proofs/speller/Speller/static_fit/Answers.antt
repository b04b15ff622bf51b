use Rattle.std.proofs.Common.{subst}
use Rattle.std.proofs.lemmas.Result.{IfOk-weaker}
use Rattle.jr_spelling_rules.specs.Candidates as candidate
use Rattle.jr_spell.specs.Shaping.{IsFirstOf}
use Rattle.jr_spell.specs.Spellers.{rows_of, table_of}
use Rattle.jr_spell.proofs.Shaped.{fit_front, fit_behind}
use Rattle.jr_spell.proofs.speller.Speller.static_fit.Goals as goal

pub returns-in-Some : goal.returns-in-Some
returns-in-Some c = λ given whole sought gives. let s = c.args.self.now in let p = rows_of s in let t = table_of s in let r = c.args.reference.now in
    fit_front s r.row (candidate.bare p t given r.row) (candidate.on_type p t given r.row) c.in-Some.found (subst (IsFirstOf s r.row (candidate.bare p t given r.row)) c.in-Some.is (c.in_ok-fit.ensures given whole sought gives))

pub returns-in-None : goal.returns-in-None
returns-in-None c = λ given whole sought gives. let s = c.args.self.now in let p = rows_of s in let t = table_of s in let r = c.args.reference.now in
    IfOk-weaker c.on_type.result _ _ (λ o h. fit_behind s r.row (candidate.bare p t given r.row) (candidate.on_type p t given r.row) o (c.in_ok-fit.ensures given whole sought gives) c.in-None.is h) (c.on_type.ensures given whole sought gives)
