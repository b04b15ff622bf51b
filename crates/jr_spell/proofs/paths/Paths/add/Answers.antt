use Rattle.std.proofs.Common.{◌≡◌, ◌-◌, ◌+◌, ◌∙◌, ap, arith}
use Rattle.jr_spell.specs.declared.paths.Chain.{Chain}
use Rattle.jr_spell.specs.Packaging.{chain_of}
use Rattle.jr_spell.proofs.Packed.{chain_row, entering_start, entering_next, entering_end}
use Rattle.jr_spell.proofs.paths.Paths.add.Goals as goal

pub loop-nth-init : goal.loop-nth-init
loop-nth-init c = λ placed hold few entries. entering_start c.args.rows.now c.args.self.now (chain_of c.args.rows.now c.args.unit) entries

pub loop-nth-preserved : goal.loop-nth-preserved
loop-nth-preserved c = λ placed hold few entries. let p = c.args.rows.now in let chain = c.package_name-chain.ensures few in
    let stop : c.package_name-chain.result.end ≡ (chain_of c.args.rows.now c.args.unit).end = ap (λ (x : Chain). x.end) chain in
    let begin : c.package_name-chain.result.first ≡ c.args.unit + 2 = ap (λ (x : Chain). x.first) chain in
    let row : c.row-row.result ≡ (chain_of c.args.rows.now c.args.unit).end - c.loop-nth.nth - 1 = c.row-row.ensures ∙ ap (λ e. e - c.loop-nth.nth - 1) stop in
    let size : c.len-nth-end.result ≡ (chain_of c.args.rows.now c.args.unit).end - (c.args.unit + 2) = omega arith in
    let there = chain_row p placed.local placed.packages c.args.unit hold c.loop-nth.nth c.row-row.result (omega arith) row in
    entering_next p placed.local placed.packages c.args.unit hold c.args.self.now c.loop-nth.self c.enter.new.self c.loop-nth.nth c.loop-nth.over c.row-row.result c.name.result c.in_ok-over.over
    (c.loop-nth.invariant placed hold few entries) (omega arith) row (c.name.ensures p placed.are there) c.in_ok-over.ensures

pub returns : goal.returns
returns c = λ placed hold few entries. let chain = c.package_name-chain.ensures few in
    let stop : c.package_name-chain.result.end ≡ (chain_of c.args.rows.now c.args.unit).end = ap (λ (x : Chain). x.end) chain in
    let begin : c.package_name-chain.result.first ≡ c.args.unit + 2 = ap (λ (x : Chain). x.first) chain in
    let size : c.len-nth-end.result ≡ (chain_of c.args.rows.now c.args.unit).end - (c.args.unit + 2) = omega arith in
    entering_end c.args.rows.now placed.local.tree c.args.unit c.args.self.now c.loop-nth.self c.loop-nth.nth c.loop-nth.over (omega arith) (c.loop-nth.invariant placed hold few entries)
