use Rattle.std.proofs.Common.{◌≡◌, ℕ, ◌∙◌, sym, subst, ap, ap₂, refl, arith, ◌++◌, ◌-◌, [], ◌<◌, ◌≤◌, ◌^◌, ◌+◌, length, List}
use Rattle.jr_tree.specs.Rows.{end, parent}
use Rattle.jr_flow.specs.Seen.{seen}
use Rattle.jr_flow.specs.Views.{rows_in}
use Rattle.jr_flow.specs.Coded.{AreTold, lasts_from, counts_from, placed_rows}
use Rattle.jr_flow.proofs.Coding.{code_is, all_told, parent_few, written_begun}
use Rattle.jr_flow.proofs.code.Code.fill.Goals as goal

pub returns : goal.returns
returns c = λ m view tree begun lt.
    let p = rows_in c.args.view.now in
    let body = c.args.self.now.body in
    let le = tree.last body lt in
    let stop = c.end_at-end.ensures (omega (arith, lt, view.few)) in
    let count : c.end_at-end.result - body ≡ end p body - body = ap (λ e. e - body) stop in
    let written = written_begun p m body (c.end_at-end.result - body) (end p body - body) (seen c.args.self.now.acts) (seen c.write_all.new.acts) c.args.self.now.firsts.items c.write_all.new.firsts.items
    (c.in_ok-write_all.ensures m view tree (omega (arith, stop, le))) count begun.acts_are begun.firsts_are in
    let told : AreTold p m body (end p body - body) (seen c.write_all.new.acts) c.write_all.new.firsts.items = all_told p m body (end p body - body) (seen c.write_all.new.acts) c.write_all.new.firsts.items written in
    let counts = c.in_ok-push_counts.ensures (λ n inside. parent_few p c.end_at-end.result n tree view.few (omega (arith, stop, le)) inside) in
    let placed = c.place_rows.ensures m (omega (arith, stop, le, view.few)) (subst (λ k. AreTold p m body k (seen c.write_all.new.acts) c.deref-2.result.now) (sym count) (subst (λ fs. AreTold p m body (end p body - body) (seen c.write_all.new.acts) fs) (sym c.deref-2.ensures.value) told)) in
    code_is p m body _ tree le refl written
    (c.in_ok-push_lasts.ensures ∙ ap₂ (λ xs k. xs ++ lasts_from p body k) begun.lasts_are count)
    (placed ∙ ap₂ (λ k xs. placed_rows p m body body k xs) count
    (counts ∙ ap₂ (λ xs k. xs ++ counts_from p c.deref.result.now body body k) begun.behinds_are count ∙ ap (λ fs. counts_from p fs body body (end p body - body)) c.deref.ensures.value))
