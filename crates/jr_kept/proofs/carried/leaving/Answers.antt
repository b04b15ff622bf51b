use Rattle.std.proofs.Common.{◌≡◌, ◌⊎◌, ◌≤◌, Bool, sym, ◌∙◌, ap, subst, arith, ℕ, true, length, map}
use Rattle.std.specs.List.{Contains}
use Rattle.std.proofs.lemmas.Result.{IfOk-weaker}
use Rattle.jr_flow.specs.Reached.{step_seen, steps_of}
use Rattle.jr_kept.specs.Spliced.{exit_number}
use Rattle.jr_kept.specs.Carried.{HasLocals, Includes, IsUsedAfter, values_by, AreLeaving, OnlyLeaving}
use Rattle.jr_kept.proofs.Carrying.{are_leaving}
use Rattle.jr_kept.proofs.Leaving.{only_leaving}
use Rattle.jr_kept.proofs.carried.leaving.Goals as goal

pub returns-clause-every : goal.returns-clause-every
returns-clause-every c = λ within exits. let method = c.args.method.now in let handing = c.args.handing.now in let t = c.args.is_throw in let points = method.points.items in let mid = c.in_ok-made.made in let made = c.put_uses.new.made in
    let locals = c.in_ok-locals.locals.all.items in let pairs = c.in_ok-pairs.pairs.items in let count = c.in_ok-count.count in
    let len = c.len.ensures in let ok = method.points.ok.0 in let same = c.in_ok-count.ensures in let size : count ≡ length points = omega (arith, len, ok, same) in
    let inc : Includes points (steps_of method) made.points.items (steps_of made) =
    subst (λ ps. Includes ps (steps_of method) made.points.items (steps_of made)) c.in_ok-made.ensures.points
    (subst (λ ss. Includes mid.points.items (map step_seen ss) made.points.items (steps_of made)) c.in_ok-made.ensures.steps c.in_ok-put_uses.ensures.every.0) in
    let has : HasLocals points true (length points) locals = subst (λ ps. HasLocals ps true (length ps) locals) c.as_slice.ensures.value c.in_ok-locals.ensures in
    let used : (d : ℕ) → Contains locals d → IsUsedAfter made (length points) (exit_number t) d =
    subst (λ n. (d : ℕ) → Contains locals d → IsUsedAfter made (length points) n d) c.exit_number.ensures
    (subst (λ ps. (d : ℕ) → Contains locals d → IsUsedAfter made (length ps) c.exit_number.result d) c.in_ok-made.ensures.points
    (subst (λ xs. (d : ℕ) → Contains xs d → IsUsedAfter made (length mid.points.items) c.exit_number.result d) c.rows.ensures c.in_ok-put_uses.ensures.every.1)) in
    IfOk-weaker c.values_of.result _ _ (λ values is. subst (λ vs. AreLeaving points (steps_of method) handing (exit_number t) vs)
    (sym (is ∙ ap (λ ps. values_by ps handing count c.deref.result.now) c.as_slice-2.ensures.value ∙ ap (λ n. values_by made.points.items handing n c.deref.result.now) size
    ∙ ap (values_by made.points.items handing (length points)) c.deref.ensures.value))
    (are_leaving points (steps_of method) made handing method.body t locals pairs within exits inc has used c.in_ok-pairs.ensures.pairs)) c.values_of.ensures

pub returns-clause-only : goal.returns-clause-only
returns-clause-only c = λ within exits. let method = c.args.method.now in let handing = c.args.handing.now in let t = c.args.is_throw in let points = method.points.items in let mid = c.in_ok-made.made in let made = c.put_uses.new.made in
    let count = c.in_ok-count.count in let len = c.len.ensures in let ok = method.points.ok.0 in let same = c.in_ok-count.ensures in let size : count ≡ length points = omega (arith, len, ok, same) in
    let inc : Includes points (steps_of method) made.points.items (steps_of made) =
    subst (λ ps. Includes ps (steps_of method) made.points.items (steps_of made)) c.in_ok-made.ensures.points
    (subst (λ ss. Includes mid.points.items (map step_seen ss) made.points.items (steps_of made)) c.in_ok-made.ensures.steps c.in_ok-put_uses.ensures.every.0) in
    let only : (i j : ℕ) (u : Bool) → Contains (steps_of made) (i, j, u) → Contains (steps_of method) (i, j, u) ⊎ ((i ≡ exit_number t) × (length points ≤ j)) =
    subst (λ n. (i j : ℕ) (u : Bool) → Contains (steps_of made) (i, j, u) → Contains (steps_of method) (i, j, u) ⊎ ((i ≡ n) × (length points ≤ j))) c.exit_number.ensures
    (subst (λ ps. (i j : ℕ) (u : Bool) → Contains (steps_of made) (i, j, u) → Contains (steps_of method) (i, j, u) ⊎ ((i ≡ c.exit_number.result) × (length ps ≤ j))) c.in_ok-made.ensures.points
    (subst (λ ss. (i j : ℕ) (u : Bool) → Contains (steps_of made) (i, j, u) → Contains (map step_seen ss) (i, j, u) ⊎ ((i ≡ c.exit_number.result) × (length mid.points.items ≤ j))) c.in_ok-made.ensures.steps c.in_ok-put_uses.ensures.only)) in
    IfOk-weaker c.values_of.result _ _ (λ values is. subst (λ vs. OnlyLeaving points (steps_of method) handing (exit_number t) vs)
    (sym (is ∙ ap (λ ps. values_by ps handing count c.deref.result.now) c.as_slice-2.ensures.value ∙ ap (λ n. values_by made.points.items handing n c.deref.result.now) size
    ∙ ap (values_by made.points.items handing (length points)) c.deref.ensures.value))
    (only_leaving points (steps_of method) made handing method.body t c.in_ok-pairs.pairs.items within exits inc only c.in_ok-pairs.ensures.pairs)) c.values_of.ensures
