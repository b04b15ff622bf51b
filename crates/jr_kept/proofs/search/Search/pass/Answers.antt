use Rattle.std.proofs.Common.{◌≡◌, ◌++◌, sym, ◌∙◌, ap, subst, inl, inr, ⊎_elim, Some, slice_get}
use Rattle.std.proofs.lemmas.Bool.{false≢true}
use Rattle.std.proofs.lemmas.Result.{on_ok_weaker}
use Rattle.jr_kept.specs.Listed.{under_in}
use Rattle.jr_kept.specs.Named.{no_name}
use Rattle.jr_kept.specs.Searched.{IsSearching}
use Rattle.jr_kept.proofs.Searching.{unnamed, or_got, to_inside, search_unnamed, search_named}
use Rattle.jr_kept.proofs.search.Search.pass.Goals as goal

pub returns-then-name : goal.returns-then-name
returns-then-name c = λ count steps old met side targets h adds. let rows = c.args.side.now.rows.now in let points = c.args.side.now.points.now in let names = c.args.side.now.names.items in let from = c.args.from in let to = c.args.to in let waiting = c.args.self.now.waiting.items in let found = c.args.self.now.targets.all.items in
    let inside = to_inside rows points names steps from old side.within met c.args.self.now.met waiting to found h in (
      targets,
      subst (λ ws. IsSearching rows points names steps from old c.args.self.now.met ws found) (sym (c.in_ok-extend_from_slice.ensures.items ∙ ap (λ ys. waiting ++ ys) c.under.ensures))
          (search_unnamed rows points names steps from old side.within met c.args.self.now.met waiting to found h (under_in c.args.side.now.ways to) adds (unnamed names to (sym c.name-name.ensures ∙ c.if-name.true)) (λ r s. (side.ways to r inside).1 s) (λ r m. (side.ways to r inside).0 m)),
    )

pub returns-then-is_one_node : goal.returns-then-is_one_node
returns-then-is_one_node c = λ count steps old met side targets h adds. let rows = c.args.side.now.rows.now in let points = c.args.side.now.points.now in let names = c.args.side.now.names.items in let from = c.args.from in let to = c.args.to in let waiting = c.args.self.now.waiting.items in let found = c.args.self.now.targets.all.items in
    let known : c.name-name.result ≡ no_name → ⊥ = c.if-name.false in
    let has : slice_get names to ≡ Some c.name-name.result = or_got names to no_name (λ e. known (c.name-name.ensures ∙ e)) ∙ ap Some (sym c.name-name.ensures) in
    (targets, search_named rows points names steps from old side.within met c.args.self.now.met waiting to found h found c.name-name.result adds has known (λ y m. inl m) (λ y m. m) (λ apart. absurd (false≢true (sym apart ∙ (sym c.is_one_node.ensures ∙ c.if-is_one_node.true)))))

pub returns : goal.returns
returns c = λ count steps old met side targets h adds. let rows = c.args.side.now.rows.now in let points = c.args.side.now.points.now in let names = c.args.side.now.names.items in let from = c.args.from in let to = c.args.to in let waiting = c.args.self.now.waiting.items in let found = c.args.self.now.targets.all.items in
    let known : c.name-name.result ≡ no_name → ⊥ = c.if-name.false in
    let has : slice_get names to ≡ Some c.name-name.result = or_got names to no_name (λ e. known (c.name-name.ensures ∙ e)) ∙ ap Some (sym c.name-name.ensures) in
    on_ok_weaker c.add.result
    (λ ok. (
      ok.0,
      search_named rows points names steps from old side.within met c.args.self.now.met waiting to found h c.add.new.self.all.items c.name-name.result adds has known
          (λ y m. ⊎_elim (λ early. inl early) (λ same. inr (same, sym c.is_one_node.ensures ∙ c.if-is_one_node.false)) (ok.1.out y m)) (λ y m. ok.1.kept y m) (λ apart. ok.1.here),
    ))
    (c.add.ensures count targets (side.few to c.name-name.result has known))
