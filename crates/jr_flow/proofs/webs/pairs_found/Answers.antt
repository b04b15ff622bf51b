use Rattle.std.proofs.Common.{◌≡◌, ◌∙◌, sym, subst, ap, slice_get}
use Rattle.jr_flow.specs.Woven.{IsWovenOf, AreListed, definitions_of, uses_of, rows_of}
use Rattle.jr_flow.proofs.Weaving.{numbered_once}
use Rattle.jr_flow.proofs.webs.pairs_found.Goals as goal

pub returns : goal.returns
returns c = λ locals. let points = c.args.points.now in let steps = c.args.steps.now in let old = c.args.locals.now in let same = c.rows.ensures ∙ c.web_of.ensures.rows in
    c.pairs_of.ensures (subst (λ rows. IsWovenOf points steps rows c.deref.result.now) (sym same) (subst (IsWovenOf points steps (rows_of old)) (sym c.deref.ensures) (record {
      definitions = definitions_of old;
      uses = uses_of old;
      definitions_are = locals.definitions;
      uses_are = locals.uses;
      once = numbered_once old locals.numbered;
      web_is = c.in_ok-web.ensures.lists;
    })))
