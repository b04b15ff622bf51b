use Rattle.jr_defs.specs.declared.referent.Referent.TheVariants.{Unbound}
use Rattle.jr_plain.proofs.Headed.{headed_from_local}
use Rattle.jr_lookup.specs.Answers.{IsLabelAt}
use Rattle.jr_lookup.proofs.Referring.{answer_all, all_labels}
use Rattle.jr_lookup.proofs.simple.Sight.label.Goals as goal

pub returns : goal.returns
returns c = λ t x world lt number. let p = c.args.self.now.world.under.rows.now in answer_all (λ d l. IsLabelAt p t x c.args.place d l) c.in_ok-found.found.rows.items c.in_ok-found.found.level Unbound _
    (all_labels p t x c.args.place (headed_from_local p world.seen.placed.local) c.in_ok-found.found.rows.items c.in_ok-found.found.level (c.in_ok-found.ensures.rows t x world lt number) c.in_ok-found.ensures.level) c.answer.ensures
