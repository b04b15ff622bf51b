use Rattle.std.proofs.Common.{◌≡◌, ◌+◌, ◌-◌, ◌<◌, ◌^◌, sym, ◌∙◌, ap, subst}
use Rattle.jr_kept.specs.Named.{origin_in}
use Rattle.jr_kept.proofs.Moved.{all_moved, only_moved}
use Rattle.jr_kept.proofs.returning.moved_returns.Goals as goal

pub returns-clause-every : goal.returns-clause-every
returns-clause-every c = λ few_body few_method. let flows = c.args.flows.now in let whole = c.rows_of-whole.result in let range = c.rows_of-range.result in let body = flows.names.body in
    let size : c.count_rows.result ≡ whole.end - body = c.count_rows.ensures ∙ ap (λ n. whole.end - n) c.rows_of-whole.ensures.first in
    all_moved flows.names.rows.now flows.rows.now body c.args.method c.row_behind-first.result range.end whole.end c.count_rows.result (origin_in flows.origin.now) c.note_all.new.moved
    (c.row_behind-first.ensures (subst (λ n. n + 1 < 2 ^ 32) (sym c.rows_of-range.ensures.first) few_method) ∙ ap (λ n. n + 1) c.rows_of-range.ensures.first) (c.rows_of-range.ensures.end few_method)
    (c.rows_of-whole.ensures.end few_body) size (c.note_all.ensures c.count_rows.result c.in_ok-moved.ensures)

pub returns-clause-only : goal.returns-clause-only
returns-clause-only c = λ few_body few_method. let flows = c.args.flows.now in let whole = c.rows_of-whole.result in let range = c.rows_of-range.result in let body = flows.names.body in
    let size : c.count_rows.result ≡ whole.end - body = c.count_rows.ensures ∙ ap (λ n. whole.end - n) c.rows_of-whole.ensures.first in
    only_moved flows.names.rows.now flows.rows.now body c.args.method c.row_behind-first.result range.end whole.end c.count_rows.result (origin_in flows.origin.now) c.note_all.new.moved
    (c.row_behind-first.ensures (subst (λ n. n + 1 < 2 ^ 32) (sym c.rows_of-range.ensures.first) few_method) ∙ ap (λ n. n + 1) c.rows_of-range.ensures.first) (c.rows_of-range.ensures.end few_method)
    (c.rows_of-whole.ensures.end few_body) size (c.note_all.ensures c.count_rows.result c.in_ok-moved.ensures)
