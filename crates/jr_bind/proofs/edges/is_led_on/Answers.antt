use Rattle.std.proofs.Common.{◌≡◌, sym, ◌∙◌, arith, ℕ, true}
use Rattle.std.proofs.lemmas.Bool.{false≢true}
use Rattle.std.proofs.lemmas.Result.{IfOk-weaker}
use Rattle.jr_plain.proofs.Declared.{type_tells}
use Rattle.jr_defs.specs.Declarations.{IsType}
use Rattle.jr_bind.specs.Ranked.{rank_in}
use Rattle.jr_bind.specs.Rounds.{IsEdgeIn}
use Rattle.jr_bind.proofs.edges.is_led_on.Goals as goal

pub returns-then-not-is_type : goal.returns-then-not-is_type
returns-then-not-is_type c = λ yes type zero. absurd (false≢true (sym c.if-not-is_type.true ∙ c.is_type.ensures ∙ (type_tells c.args.ranked.now.sight.world.under.rows.now c.args.at).1 type))

pub returns-then-rank-gt0 : goal.returns-then-rank-gt0
returns-then-rank-gt0 c = λ yes type zero. let same = c.rank_of-rank.ensures in let lt = c.if-rank-gt0.true in absurd (omega arith)

pub returns : goal.returns
returns c = IfOk-weaker c.has_edge.result (λ is. is ≡ true → (s : ℕ) × IsEdgeIn c.args.edges.now c.args.at s)
    (λ is. is ≡ true → IsType c.args.ranked.now.sight.world.under.rows.now c.args.at → (rank_in c.args.ranked.now.ranks.now) c.args.at ≡ 0 → (s : ℕ) × IsEdgeIn c.args.edges.now c.args.at s) (λ is led yes type zero. led yes) c.has_edge.ensures
