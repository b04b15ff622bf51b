use Rattle.std.proofs.Common.{◌≡◌, ◌-◌, ap, arith, subst, suc, IfOk}
use Rattle.jr_spelling_rules.specs.Candidates as candidate
use Rattle.jr_spell.specs.Shaping.{IsFirstOf}
use Rattle.jr_spell.specs.Spellers.{rows_of, table_of}
use Rattle.jr_spell.proofs.Shaped.{name_positive}
use Rattle.jr_spell.proofs.speller.Speller.whole_name.Goals as goal

pub returns : goal.returns
returns c = λ given whole sought uncalled lt. let s = c.args.self.now in let r = c.args.reference.now in let count = c.in_ok-count.count in let size = c.in_ok-count.ensures in
    let some = name_positive (rows_of s) c.args.class lt in let one : count ≡ suc (count - 1) = omega arith in
    subst (λ k. IfOk c.named.result (λ o. IsFirstOf s r.row (candidate.named (rows_of s) (table_of s) given r.row c.args.class k) o)) (ap (λ k. k - 1) size) (c.named.ensures given (count - 1) one whole sought uncalled lt)
