use Rattle.std.proofs.Common.{◌≡◌, refl, length}
use Rattle.jr_supers.proofs.Signing.{adds_to}
use Rattle.jr_supers.proofs.signatures.add_signature.Goals as goal

pub returns : goal.returns
returns c = λ h. let named = c.in_ok-named.ensures h in let first : c.len-first.result ≡ length c.args.types.now.items = search in
    adds_to {types = c.args.types.now.items} {own = c.args.own.now} _ named (c.in_ok-number.ensures named.counted) c.in_ok-push_all.ensures c.in_ok-added.ensures first refl
