use Rattle.std.proofs.Common.{◌≡◌, sym, ◌∙◌, arith, ◌+◌, ◌<◌, ◌^◌}
use Rattle.jr_plain.proofs.Bounds.{type_below}
use Rattle.jr_name_faults.proofs.Scoped.{names_same, rows_same}
use Rattle.jr_name_faults.proofs.Spelled.{type_name_below, read_start, read_below, read_stop, read_more, read_other, read_end, read_top}
use Rattle.jr_name_faults.proofs.canonical.is_canonical_name.Goals as goal

pub loop-place-init : goal.loop-place-init
loop-place-init c = λ placed few type named. let lt = type_name_below c.args.rows.now c.args.at named in let small : c.args.at + 1 < 2 ^ 32 = omega arith in
    read_start c.args.rows.now placed.local type named (c.end_at-end.ensures small)

pub returns-then-name : goal.returns-then-name
returns-then-name c = λ placed few type named. let p = c.args.rows.now in let h = c.loop-place.invariant placed few type named in let lt = c.loop-place-test.true in
    read_other p placed.local c.loop-place.here c.loop-place.place h lt (λ same. c.if-name.true (c.name.ensures p placed.are (type_below p c.loop-place.here h.type)
    ∙ rows_same p c.loop-place.here c.loop-place.place same ∙ sym (c.name-in-loop-place.ensures p placed.are (read_below p placed.local h lt))))

pub returns-in-None : goal.returns-in-None
returns-in-None c = λ placed few type named. let p = c.args.rows.now in let h = c.loop-place.invariant placed few type named in let lt = c.loop-place-test.true in let inside = read_below p placed.local h lt in
    let next : c.saturating_add.result ≡ c.loop-place.place + 1 = omega arith in
    let same = names_same p c.loop-place.here c.loop-place.place (sym (c.name.ensures p placed.are (type_below p c.loop-place.here h.type)) ∙ c.if-name.false ∙ c.name-in-loop-place.ensures p placed.are inside) in
    read_top p placed.local c.loop-place.here c.loop-place.place h c.saturating_add.result c.is_top_of.result lt same (sym c.declaring_type.ensures ∙ c.in-None.is) next
    (c.is_top_of.ensures placed few (read_stop p placed.local h lt))

pub loop-place-preserved : goal.loop-place-preserved
loop-place-preserved c = λ placed few type named. let p = c.args.rows.now in let h = c.loop-place.invariant placed few type named in let lt = c.loop-place-test.true in let inside = read_below p placed.local h lt in
    let same = names_same p c.loop-place.here c.loop-place.place (sym (c.name.ensures p placed.are (type_below p c.loop-place.here h.type)) ∙ c.if-name.false ∙ c.name-in-loop-place.ensures p placed.are inside) in
    read_more p placed.local c.loop-place.here c.loop-place.place h c.in-Some.over lt same (sym c.declaring_type.ensures ∙ c.in-Some.is)

pub returns : goal.returns
returns c = λ placed few type named. let h = c.loop-place.invariant placed few type named in let le = h.le in let last : c.loop-place.place ≡ c.end_at-end.result = (let over = c.loop-place-test.false in omega arith) in
    read_end c.args.rows.now placed.local c.loop-place.here c.loop-place.place h last
