use Rattle.std.proofs.Common.{subst}
use Rattle.std.proofs.lemmas.Result.{IfOk-weaker}
use Rattle.jr_spelling_rules.specs.Candidates as candidate
use Rattle.jr_spell.specs.Shaping.{IsFirstOf, others_from}
use Rattle.jr_spell.specs.Spellers.{rows_of, table_of, types_of}
use Rattle.jr_spell.proofs.Shaped.{fit_front, fit_behind}
use Rattle.jr_spell.proofs.speller.Speller.first_fit.Goals as goal

pub returns-in-Some : goal.returns-in-Some
returns-in-Some c = λ given whole sought gives exact. let s = c.args.self.now in let p = rows_of s in let t = table_of s in let r = c.args.reference.now in
    fit_front s r.row (candidate.old p t (types_of s) given r.row) (others_from p t given r.row s.written) c.in-Some.fit
    (subst (IsFirstOf s r.row (candidate.old p t (types_of s) given r.row)) c.in-Some.is (c.in_ok-kept.ensures given whole sought gives exact))

pub returns-in-None : goal.returns-in-None
returns-in-None c = λ given whole sought gives exact. let s = c.args.self.now in let p = rows_of s in let t = table_of s in let r = c.args.reference.now in
    IfOk-weaker c.reshaped_here.result _ _ (λ o h. fit_behind s r.row (candidate.old p t (types_of s) given r.row) (others_from p t given r.row s.written) o (c.in_ok-kept.ensures given whole sought gives exact) c.in-None.is h)
    (c.reshaped_here.ensures given whole sought gives)
