use Rattle.std.proofs.Common.{◌≡◌, ap, subst, sym, true}
use Rattle.jr_tree.specs.declared.label.Role.TheVariants as role
use Rattle.jr_tree.specs.Rows.{role_at}
use Rattle.jr_plain.specs.Search.{has}
use Rattle.jr_dispatch.specs.Methods.{AreMethods}
use Rattle.jr_dispatch.proofs.Linking.{links_told}
use Rattle.jr_dispatch.proofs.families.links_of.Goals as goal

pub returns : goal.returns
returns c = λ t h m. let seen = h.world_is.seen in let same = ap (λ u. u.rows.now) c.of-methods.ensures.under in
    links_told c.args.world.now.under.rows.now t seen.above.well.headed c.args.method _ _ _ _ _ same (λ x type. subst (λ xs. has xs x ≡ true) (sym c.order.ensures) (seen.above.order.all x type)) c.new-links.ensures
    (c.in_ok-add_of_signature.ensures t (subst (λ p. AreMethods p t c.of-methods.result) (sym same) (c.of-methods.ensures.methods t h)) (subst (λ p. role_at p c.args.method ≡ role.Method) (sym same) m)) (c.in_ok-add_all_members.ensures t h m)
