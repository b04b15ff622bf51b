use Rattle.std.proofs.Common.{◌≡◌, sym, ◌∙◌, ap, subst, length}
use Rattle.jr_defs.specs.Referents.{entries}
use Rattle.jr_type_facts.specs.Rounds.{AreRounds}
use Rattle.jr_type_facts.proofs.Walking.{length_called, rounds_start, rounds_end}
use Rattle.jr_type_facts.proofs.rounds.rounds_of.Goals as goal

pub returns : goal.returns
returns c = λ whole. let p = c.args.under.rows.now in let t = entries c.args.under.table.now in
    let called = c.deref.ensures.value ∙ c.put_calls.ensures c.in_ok-called.ensures in
    let size : length p ≡ length c.deref.result.now = sym (ap length called ∙ length_called p t c.args.count) in
    subst (λ l. AreRounds l c.walk_all.new.rounds.items) called
    (rounds_end c.deref.result.now (whole ∙ size) (c.walk_all.ensures (rounds_start c.deref.result.now _ _ (length p) size c.in_ok-met.ensures c.in_ok-rounds.ensures)))
