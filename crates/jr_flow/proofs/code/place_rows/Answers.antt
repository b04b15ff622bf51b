use Rattle.std.proofs.Common.{◌≡◌, ◌∙◌, ap, sym, subst, arith, ◌+◌, ◌-◌, ◌<◌, length, unwrap_or, slice_get}
use Rattle.jr_flow_defs.specs.Acts.{acts}
use Rattle.jr_flow.specs.Seen.{seen}
use Rattle.jr_flow.specs.Coded.{item}
use Rattle.jr_flow.proofs.Coding.{told_at, rows_next, rows_end}
use Rattle.jr_flow.proofs.code.place_rows.Goals as goal

pub loop-at-preserved : goal.loop-at-preserved
loop-at-preserved c = λ m fits told. let p = c.args.rows.now in
    let here = told_at p m c.args.body (c.args.end - c.args.body) c.loop-at.at (seen c.args.acts.now) c.args.firsts.now told (omega arith) (omega arith) in
    let count = c.count_at.ensures (omega (arith, fits)) ∙ here.count in
    let first : c.unwrap_or-first.result ≡ unwrap_or (item c.args.firsts.now c.args.body c.loop-at.at) 0 = c.unwrap_or-first.ensures ∙ ap (λ o. unwrap_or o 0) c.item.ensures in
    rows_next p m c.args.body c.loop-at.at c.args.end c.loop-at.behinds.items c.place_parts.new.behinds.items _ (omega arith)
    (c.place_parts.ensures (acts p m c.loop-at.at) count (λ i lt. ap (λ f. slice_get (seen c.args.acts.now) (f + i)) first ∙ here.own i (omega (arith, lt, count)))) (c.loop-at.invariant m fits told)

pub returns : goal.returns
returns c = λ m fits told. rows_end c.args.rows.now m c.args.body c.loop-at.at c.args.end c.loop-at.behinds.items _ (omega arith) (c.loop-at.invariant m fits told)
