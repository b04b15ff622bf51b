use Rattle.std.proofs.Common.{◌≡◌, ◌≤◌, ◌-◌, inl, inr, ℕ, List, length, take, ◌∙◌, subst, arith}
use Rattle.std.specs.Prelude.{nat_le}
use Rattle.std.proofs.lemmas.List.Sums.{prefix_len-le-length}
use Rattle.std.proofs.lemmas.Result.{IfOk-weaker}
use Rattle.jr_store.specs.Calls.{Call, calls_until}
use Rattle.jr_store.specs.Memory.{IsNew, LeftByCrashIn}
use Rattle.jr_store.specs.Replay.{IsLeft, image_of, state_of}
use Rattle.jr_store.proofs.memory.MemStore.image.Goals as goal
use Rattle.jr_store.proofs.memory.MemStore.image.Goals.{then-pick-eq0, else-pick-eq0}

pub returns : goal.returns
returns c =
    let m = c.args.self.now in
    let left = c.in_ok-replayed.replayed.left in
    let count = c.count_until-count.result in
    let last = c.if-pick-eq0.last in
    let until : IsLeft (state_of m.files (calls_until last m.kept)) (image_of left) =
    subst (λ (k : ℕ). IsLeft (state_of m.files (take k m.kept)) (image_of left)) c.count_until-count.ensures c.in_ok-replayed.ensures.left in
    let by = λ (n : ℕ). IsLeft (state_of m.files (calls_until n m.kept)) (image_of left) in
    let in_call : LeftByCrashIn m c.args.call (image_of left) = elim c.if-pick-eq0.branch [
      | then-pick-eq0 w ↦ inr (subst by w.last-is until)
      | else-pick-eq0 w ↦ let is : last ≡ c.args.call - 1 = w.last-is ∙ w.saturating_sub-last.ensures in inl (subst by is until)
    ] in
    let within : count ≤ length m.kept = omega (arith, c.count_until-count.ensures, prefix_len-le-length (λ (call : Call). nat_le call.number last) m.kept) in
    IfOk-weaker c.new-2.result _ _
    (λ store new. (left, subst (λ (l : List ℕ). IsNew store left l) c.new.ensures.items new, in_call, (count, omega arith, within, c.in_ok-replayed.ensures.left)))
    c.new-2.ensures
