use Rattle.std.proofs.Common.{◌≡◌, sym, ◌∙◌, subst, true}
use Rattle.jr_tree.specs.declared.label.Role.TheVariants as role
use Rattle.jr_plain.proofs.Same.{role_tells}
use Rattle.jr_plain.specs.Search.{has}
use Rattle.jr_tree.specs.Rows.{role_at}
use Rattle.jr_member_faults.specs.Views.{rows_of, table_of}
use Rattle.jr_member_faults.proofs.Nearing.{listed_telling, kept_telling}
use Rattle.jr_member_faults.proofs.Overridden.{like_redefined, none_redefined}
use Rattle.jr_member_faults.proofs.redefining.Uppers.redefined.Goals as goal

pub returns-then-not-is_method : goal.returns-then-not-is_method
returns-then-not-is_method c = λ h up kept. listed_telling (rows_of c.args.world.now) (table_of c.args.world.now) c.args.method _ (none_redefined (rows_of c.args.world.now) (table_of c.args.world.now) h.whole.world_is.seen.above.well.headed c.args.method _ (sym c.is_method.ensures ∙ c.if-not-is_method.true) c.new.ensures.items)

pub returns-then-is_kept : goal.returns-then-is_kept
returns-then-is_kept c = λ h up kept. kept_telling c.args.world.now h c.args.self.now.apart kept c.args.method _ (c.is_kept.ensures c.if-is_kept.true) c.new-then-is_kept.ensures.items

pub returns : goal.returns
returns c = λ h up kept. let w = c.args.world.now in let m = (role_tells (role_at (rows_of w) c.args.method) role.Method).0 (sym c.is_method.ensures ∙ c.if-not-is_method.false) in let like = c.in_ok-like.ensures h up m in
    listed_telling (rows_of w) (table_of w) c.args.method _ (like_redefined (rows_of w) (table_of w) h.whole.world_is.seen.above.well.headed c.args.method _ _ _ like c.deref.ensures.value (c.in_ok-all.ensures h (λ k at. like.same k (subst (λ xs. has xs k ≡ true) c.deref.ensures.value at))))
