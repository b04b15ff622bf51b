use Rattle.std.proofs.Common.{◌≡◌}
use Rattle.std.proofs.lemmas.Result.{IfOk-weaker}
use Rattle.jr_defs.specs.Overloads.{Choice}
use Rattle.jr_plain.specs.Overloads.{is_applicable, left_of, choice}
use Rattle.jr_members.specs.Each.{ListsEach}
use Rattle.jr_lookup.specs.Choices.{IsAmong}
use Rattle.jr_lookup.proofs.Within.{further}
use Rattle.jr_lookup.proofs.Choosing.{among, candidates_filter, choice_is, choice_listed}
use Rattle.jr_lookup.proofs.choice.choose.Goals as goal

pub returns : goal.returns
returns c = let p = c.args.world.under.rows.now in let ms = c.args.methods.now in let given = c.args.arguments.now in let all = c.in_ok-all.all.items in record {
  within = IfOk-weaker c.left_of.result _ _ (λ left k. further _ _ _ c.in_ok-all.ensures.within k) c.left_of.ensures.within;
  plain = λ t h r. let some = c.in_ok-all.ensures.plain t h in
      IfOk-weaker c.left_of.result (λ left. left.items ≡ left_of p t c.args.over all) (λ left. left.items ≡ choice p t c.args.over c.args.place c.args.receiver given ms)
      (λ left is. choice_is p t c.args.over c.args.place c.args.receiver given ms all left.items some is)
      (c.left_of.ensures.plain t (candidates_filter t c.args.world (is_applicable p t c.args.place c.args.receiver given) ms all some h) r);
  listed = λ t h r once. let some = c.in_ok-all.ensures.plain t h in
      IfOk-weaker c.left_of.result (λ left. left.items ≡ left_of p t c.args.over all) (λ left. ListsEach left.items (Choice p t c.args.over c.args.place c.args.receiver given (IsAmong ms)))
      (λ left is. choice_listed p t c.args.over h.world_is.seen.above.well.headed c.args.place c.args.receiver given (IsAmong ms) ms left.items
      (choice_is p t c.args.over c.args.place c.args.receiver given ms all left.items some is) (among ms once))
      (c.left_of.ensures.plain t (candidates_filter t c.args.world (is_applicable p t c.args.place c.args.receiver given) ms all some h) r);
}
