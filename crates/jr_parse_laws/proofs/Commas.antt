-- One item or more, with commas between them.
use Rattle.std.proofs.Common.{◌≡◌, ◌≤◌, true, List, ◌∷◌, length, Option, refl, ap, arith}
use Rattle.jr_base.specs.declared.kind.Symbol.TheVariants as y
use Rattle.jr_base.specs.declared.kind.Kind.{Kind}
use Rattle.jr_base.specs.declared.kind.Kind.TheVariants.{Sym}
use Rattle.jr_parse_laws.specs.Parsers.{begins_with}
use Rattle.jr_parse_laws.proofs.Outcomes.{symbol_is}
use Rattle.jr_parse_laws.proofs.Exact.{Rule, the}
use Rattle.jr_parse_laws.proofs.Sequence.{and_so, and_maybe}
use Rattle.jr_parse_laws.proofs.Lists.{list_of}
use Rattle.jr_parse_laws.proofs.Choice.{made_of}

module _ {A : Type 0} (p : Rule A) (comma_ends : (a : A) (o : Option Kind) → begins_with y.Comma o ≡ true → p.ends a o)
    (longer : (a : A) (rest : List Kind) → length rest ≤ length (p.write a rest)) where
  -- an item behind a comma
  abbrev pub comma_and : Rule (Unit {0} × A)
  comma_and = and_so (the y.Comma) p (λ u a rest h. tt)

  abbrev pub behind : Rule A
  behind = made_of comma_and (λ c. c.1) p.Is (λ a rest. Sym y.Comma ∷ p.write a rest) p.ends (record {
    back = λ room a is. record { part = (tt, a); made = refl; is = (tt, is); written = λ rest. refl; ended = λ o h. h };
    is_made = λ room c is. is.1;
    written_made = λ c rest. refl;
    ends_made = λ c o h. h;
    front = λ a front rest. ap (λ ts. Sym y.Comma ∷ ts) (p.exact.front a front rest);
  })

  abbrev pub others : Rule (List A)
  others = list_of behind (begins_with y.Comma) refl (λ room a rest is. symbol_is y.Comma) (λ room a rest is. let l = longer a rest in omega arith) comma_ends

  -- the first item and the others
  abbrev pub in_commas : Rule (A × List A)
  in_commas = and_maybe p others
