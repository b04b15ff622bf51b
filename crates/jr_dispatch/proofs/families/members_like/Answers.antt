use Rattle.std.proofs.Common.{subst, sym}
use Rattle.jr_supers.specs.Signatures.{AreSignatures}
use Rattle.jr_dispatch.proofs.Linking.{members_rows, members_listed}
use Rattle.jr_dispatch.proofs.Searching.{row_below}
use Rattle.jr_dispatch.proofs.families.members_like.Goals as goal

pub returns : goal.returns
returns c = λ t h m. let w = c.args.world.now in let p = w.under.rows.now in let seen = h.world_is.seen in let headed = seen.above.well.headed in
    let row = c.name-name.ensures p seen.placed.are (row_below p c.args.method m) in
    let each = c.in_ok-named.ensures t h.world_is in
    let signed = subst (λ s. AreSignatures p t s) (sym c.signatures.ensures) h.world_is.members_are.signatures_are in
    members_listed p t headed c.args.over c.args.method c.name-name.result _ _ _ m row c.deref.ensures.value each
    (c.in_ok-all.ensures p t signed m (members_rows p t headed c.args.over c.name-name.result _ _ c.deref.ensures.value each))
