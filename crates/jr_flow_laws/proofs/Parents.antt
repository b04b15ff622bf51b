-- In trees the ends of rows tell what each stands below.
use Rattle.std.proofs.Common.{◌≡◌, subst, arith, ℕ, ◌+◌, ◌-◌, ◌<◌, ◌≤◌, length}
use Rattle.jr_tree.specs.Rows.{Rows, parent, end}
use Rattle.jr_tree.specs.Tree.{IsTree}
use Rattle.jr_flow_laws.specs.Shifted.{IsIn}

module _ (p q : Rows) (body s : ℕ) (here : IsTree p) (there : IsTree q) (few : body < length p) (long : end p body + s ≤ length q) (ends : (n : ℕ) → IsIn p body n → end q (n + s) ≡ end p n + s) where
  -- the parent in q, by the number in p
  by_number : (n j : ℕ) → IsIn p body n → body < n → parent q (n + s) ≡ j + s → parent p n ≤ j → parent q (n + s) ≡ parent p n + s
  by_number n j i less e low =
      let from = here.inner body n less i.to in
      let to = i.to in
      let up = there.up (n + s) (omega (arith, to, long)) (omega (arith, less)) in
      let inside : IsIn p body j = record { from = omega (arith, from, low); to = omega (arith, to, up, e) } in
      let held = subst (λ k. n + s < end q k) e (there.held (n + s) (omega (arith, to, long)) (omega (arith, less))) in
      let same = ends j inside in
      let high = here.inner j n (omega (arith, up, e)) (omega (arith, held, same)) in
      omega (arith, e, low, high)

  pub parents_follow : (n : ℕ) → IsIn p body n → body < n → parent q (n + s) ≡ parent p n + s
  parents_follow n i less =
      let to = i.to in
      let all = here.last body few in
      let up = here.up n (omega (arith, to, all)) (omega (arith, less)) in
      let from = here.inner body n less i.to in
      let held = here.held n (omega (arith, to, all)) (omega (arith, less)) in
      let same = ends (parent p n) (record { from = from; to = omega (arith, up, to) }) in
      let low = there.inner (parent p n + s) (n + s) (omega (arith, up)) (omega (arith, held, same)) in
      by_number n (parent q (n + s) - s) i less (omega (arith, low)) (omega (arith, low))
