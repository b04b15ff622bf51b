use Rattle.std.proofs.Common.{◌≡◌, refl, sym, ◌∙◌, subst, length, arith}
use Rattle.std.proofs.lemmas.Bool.{false≢true}
use Rattle.jr_places.specs.Stamps.{IsStamping}
use Rattle.jr_bind.proofs.LeftOut.{AreNone, none_start, none_next, first_found, none_found}
use Rattle.jr_bind.proofs.rounds.first_in.Goals as goal

pub loop-place-init : goal.loop-place-init
loop-place-init c = (c.requires, λ bound size edges_are counts_are. none_start c.args.edges.now)

pub loop-place-preserved : goal.loop-place-preserved
loop-place-preserved c = (
  subst (IsStamping _) c.loop-place.invariant.0.size c.in_ok-is_on_round.ensures.counted,
  λ bound size edges_are counts_are. none_next c.args.edges.now c.loop-place.place c.first_at-at.result c.first_at-at.ensures
      (λ on. false≢true (sym c.if-is_on_round.false ∙ (c.in_ok-is_on_round.ensures.told bound (c.loop-place.invariant.0.size ∙ size) edges_are counts_are).1 on)) (c.loop-place.invariant.1 bound size edges_are counts_are),
)

pub returns-then-is_on_round : goal.returns-then-is_on_round
returns-then-is_on_round c = λ bound size edges_are counts_are. first_found c.args.edges.now bound c.loop-place.place c.first_at-at.result _ refl c.first_at-at.ensures edges_are (c.loop-place.invariant.1 bound size edges_are counts_are)
    ((c.in_ok-is_on_round.ensures.told bound (c.loop-place.invariant.0.size ∙ size) edges_are counts_are).0 c.if-is_on_round.true) (omega arith)

pub returns : goal.returns
returns c = λ bound size edges_are counts_are. let all : c.loop-place.place ≡ length c.args.edges.now = omega arith in
    none_found c.args.edges.now _ refl (subst (AreNone c.args.edges.now) all (c.loop-place.invariant.1 bound size edges_are counts_are))
