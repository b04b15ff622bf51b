use Rattle.std.proofs.Common.{◌∙◌, ap, subst, sym, length}
use Rattle.jr_members.specs.declared.declared.MemberKind.TheVariants as kind
use Rattle.jr_members.specs.Keys.{falling, is_named}
use Rattle.jr_dispatch.specs.Dispatching.{AreMethodRows}
use Rattle.jr_dispatch.proofs.Linking.{like_rows, signature_told}
use Rattle.jr_dispatch.proofs.Searching.{row_below, named_methods}
use Rattle.jr_dispatch.proofs.families.add_of_signature.Goals as goal

pub returns : goal.returns
returns c = λ t h m. let p = c.args.methods.under.rows.now in let headed = h.supers.well.headed in
    let found = c.in_ok-named.ensures p kind.Method h.declared ∙ ap (λ x. falling (length p) (is_named p kind.Method x)) (c.name-name.ensures p h.places (row_below p c.args.method m)) in
    let named = named_methods p t headed c.args.method c.args.method _ found in
    let like = c.in_ok-like.ensures p t h.signatures m (subst (λ xs. AreMethodRows p xs) (sym c.deref.ensures.value) named) in
    signature_told p t headed c.args.method _ _ _ _ _ _ found c.deref.ensures.value like c.deref-2.ensures.value
    (c.in_ok-add_all.ensures t h (like_rows p t headed c.args.method _ _ _ _ named c.deref.ensures.value like c.deref-2.ensures.value))
