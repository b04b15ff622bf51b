use Rattle.std.proofs.Common.{◌∙◌, ap, None}
use Rattle.std.proofs.lemmas.Result.{IfOk-weaker}
use Rattle.jr_plain.specs.Overloads.{is_applicable, most_specific_or_all}
use Rattle.jr_lookup.specs.Choices.{IsAmong}
use Rattle.jr_lookup.proofs.Within.{further}
use Rattle.jr_lookup.proofs.Choosing.{among, candidates_filter, imported_listed}
use Rattle.jr_lookup.proofs.choice.choose_imported.Goals as goal

pub returns : goal.returns
returns c = let p = c.args.world.under.rows.now in record {
  within = IfOk-weaker c.most_or_all.result _ _ (λ left k. further _ _ _ c.in_ok-all.ensures.within k) c.most_or_all.ensures.within;
  plain = λ t h. let some = c.in_ok-all.ensures.plain t h in
      IfOk-weaker c.most_or_all.result _ _ (λ left is. is ∙ ap (most_specific_or_all p t) some)
      (c.most_or_all.ensures.plain t (candidates_filter t c.args.world (is_applicable p t c.args.place None c.args.arguments.now) c.args.methods.now _ some h));
  listed = λ t h once. let some = c.in_ok-all.ensures.plain t h in
      IfOk-weaker c.most_or_all.result _ _ (λ left is. imported_listed p t h.world_is.seen.above.well.headed c.args.place c.args.arguments.now (IsAmong c.args.methods.now) c.args.methods.now left.items (is ∙ ap (most_specific_or_all p t) some) (among c.args.methods.now once))
      (c.most_or_all.ensures.plain t (candidates_filter t c.args.world (is_applicable p t c.args.place None c.args.arguments.now) c.args.methods.now _ some h));
}
