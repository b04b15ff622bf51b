use Rattle.std.proofs.Common.{refl}
use Rattle.jr_spell.specs.Spellers.{table_of}
use Rattle.jr_spell.proofs.speller.Speller.receiver_at.Goals as goal

pub returns : goal.returns
returns c = λ whole inside types. let t = table_of c.args.self.now in c.receiver.ensures t c.args.place whole.sight_is.world (c.left_of-left.ensures.before t whole.sight_is refl)
    (c.left_of-left.ensures.value t (record {
      sight_is = whole.sight_is;
      placed = whole.placed;
      can = whole.can;
      refers = types.refers;
      few = types.few;
      inside = inside;
      seen = λ n lt. refl;
      typed = λ n lt. types.typed n;
    }))
