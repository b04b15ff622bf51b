use Rattle.std.proofs.Common.{◌++◌, refl, sym, ◌∙◌, ap₂, length, subst}
use Rattle.std.proofs.lemmas.Result.{on_ok_weaker}
use Rattle.jr_kept.specs.Listed.{under_in}
use Rattle.jr_kept.specs.Searched.{IsSearching}
use Rattle.jr_kept.proofs.Searching.{search_begun, search_ends}
use Rattle.jr_kept.proofs.search.Search.run_from.Goals as goal

pub returns : goal.returns
returns c = λ count steps side ready inside. let rows = c.args.side.now.rows.now in let points = c.args.side.now.points.now in let names = c.args.side.now.names.items in let from = c.args.from in let found = c.args.self.now.targets.all.items in
    let empty = c.in_ok-empty.ensures (length points) ready.counted in
    on_ok_weaker c.finish.result
    (λ ok. (record { counted = ok.1.counted; targets = ok.0 }, record { every = λ y e. search_ends rows points names steps from found c.finish.new.self.met c.finish.new.self.targets.all.items ok.1 y e; sound = ok.1.sound; kept = ok.1.kept }))
    (c.finish.ensures count steps found side ready.targets
    (subst (λ ws. IsSearching rows points names steps from found c.empty.new.self ws found) (sym (c.in_ok-extend_from_slice.ensures.items ∙ ap₂ (λ xs ys. xs ++ ys) c.clear.ensures.items c.under.ensures))
    (search_begun rows points names steps from found c.empty.new.self (under_in c.args.side.now.ways from) found empty (λ r s. (side.ways from r inside).1 s) (λ r m. (side.ways from r inside).0 m) refl)))
