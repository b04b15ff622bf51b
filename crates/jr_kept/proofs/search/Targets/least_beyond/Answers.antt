use Rattle.std.proofs.Common.{◌++◌, ◌∷◌, [], sym, ◌∙◌, ap, subst, arith, take, get_or}
use Rattle.std.proofs.lemmas.Grind.{take_at_read}
use Rattle.std.proofs.lemmas.List.{take_all}
use Rattle.std.proofs.lemmas.List.Elements.{Contains-get_or}
use Rattle.jr_kept.specs.Searched.{least_with, IsLeast}
use Rattle.jr_kept.proofs.Searching.{least_none, least_more}
use Rattle.jr_kept.proofs.search.Targets.least_beyond.Goals as goal

pub loop-name-init : goal.loop-name-init
loop-name-init c = least_none c.args.other.now.met c.deref-name-items.result.now

pub loop-name-preserved : goal.loop-name-preserved
loop-name-preserved c = let all = c.deref-name-items.result.now in let i = c.loop-name.name-index in let lt = c.loop-name-test.true in let there = c.args.other.now.met in
    subst (λ xs. IsLeast there all xs c.least_with-least.result) (sym ((take_at_read all i 0 (omega (arith, lt))).1))
    (subst (IsLeast there all (take i all ++ get_or all i 0 ∷ [])) (sym (c.least_with-least.ensures ∙ ap (λ b. least_with c.loop-name.least (get_or all i 0) b) c.has.ensures))
    (least_more there all (take i all) (get_or all i 0) c.loop-name.least (Contains-get_or all i 0 (omega (arith, lt))) c.loop-name.invariant))

abbrev whole : goal.After-loop-name → Type 0
whole c = IsLeast c.args.other.now.met c.args.self.now.all.items c.args.self.now.all.items c.loop-name.least

all_done : (c : goal.After-loop-name) → whole c
all_done c = let past = c.loop-name-test.false in
    subst (λ xs. IsLeast c.args.other.now.met xs xs c.loop-name.least) c.deref-name-items.ensures.value
    (subst (λ xs. IsLeast c.args.other.now.met c.deref-name-items.result.now xs c.loop-name.least) (take_all c.loop-name.name-index c.deref-name-items.result.now (omega (arith, past))) c.loop-name.invariant)

pub returns-clause-none : goal.returns-clause-none
returns-clause-none c = (all_done c).none

pub returns-clause-some : goal.returns-clause-some
returns-clause-some c = (all_done c).some
