-- Where reading stops, as it is stated.
use Rattle.std.proofs.Common.{◌≡◌, ℕ, zero, suc, ◌≤◌, List, ◌∷◌, ◌++◌, refl, sym, ap, ◌∙◌, arith}
use Rattle.jr_base.specs.declared.kind.Kind.{Kind}
use Rattle.jr_base.specs.declared.kind.Kind.TheVariants as kind
use Rattle.jr_base.specs.declared.kind.Symbol.TheVariants as y
use Rattle.jr_parse_laws.specs.Parsers.{first}
use Rattle.jr_parse_expr.specs.Names.{name_of, Plain}
use Rattle.jr_parse_expr.specs.Exprs.{Lead, Nothing, Named, Indexed, This, Super, expr, init, list}
use Rattle.jr_parse_expr.specs.Writing.{write_all, write_lead}
use Rattle.jr_parse_expr.specs.Follow.{IsLed}
use Rattle.jr_parse_expr.specs.Laws.{HasRoom, IsExprStuck, IsInitStuck}
use Rattle.jr_parse_expr.proofs.ExprReads.{all_read, level_bracket, last_of, named_same, this_same, super_same}
use Rattle.jr_parse_expr.proofs.AllLocals.{all_local, wider_le, alone_by, init_local}
use Rattle.jr_parse_expr.proofs.AllGrowths.{all_grow, init_grows}

has_level : (lead : Lead) (room : ℕ) → HasRoom lead room → 1 ≤ room
has_level Nothing room h = h
has_level (Named d) room h = h
has_level (Indexed n) room h = omega arith
has_level This room h = h
has_level Super room h = h

-- what was read before may as well be read now
pub lead_same : (room least : ℕ) (lead : Lead) (ts : List Kind) → HasRoom lead room → IsLed lead (first ts) → expr room Nothing least (write_lead lead ts) ≡ expr room lead least ts
lead_same room least Nothing ts some led = refl
lead_same room least (Named d) ts some led = named_same room least d ts some led
lead_same zero least (Indexed n) ts some led = absurd (omega arith)
lead_same (suc room) least (Indexed n) ts some led =
    let l = last_of n.parts led in
    ap (λ all. expr (suc room) Nothing least (write_all all (kind.Sym y.OpenBracket ∷ ts))) l.2
    ∙ named_same (suc room) least (Plain l.0 l.1) (kind.Sym y.OpenBracket ∷ ts) (omega arith) refl
    ∙ level_bracket room least l.0 l.1 ts (omega arith)
    ∙ ap (λ n. expr (suc room) (Indexed n) least ts) (ap name_of (sym l.2))
lead_same zero least This ts some led = absurd (omega arith)
lead_same (suc room) least This ts some led = this_same room least ts
lead_same zero least Super ts some led = absurd (omega arith)
lead_same (suc room) least Super ts some led = super_same room least ts

pub exprs_stuck : IsExprStuck
exprs_stuck room least lead ts f rest some le led h =
    let level = has_level lead room some in
    let g = (all_grow room).exprs.grow level least (write_lead lead ts) (f, rest) le (lead_same room least lead ts some led ∙ h) in
    record {
      viable = g.viable;
      deeper = g.deeper;
      alone = λ other w wider e.
          let up = wider_le f room other wider in
          let a = alone_by room other up (expr other lead least) ts (expr room lead least ts) f rest h ((all_local room other up).exprs.led level lead least ts) wider in
          (a.front ++ w, record { front = a.front; one = a.split; two = refl }, a.again w e);
    }

pub inits_stuck : IsInitStuck
inits_stuck room ts f rest some h =
    let read = all_read room in
    let growths = all_grow room in
    let g = init_grows room (expr room) (list room) read.exprs read.lists growths.exprs growths.lists some ts (f, rest) h in
    record {
      viable = g.viable;
      deeper = g.deeper;
      alone = λ other w wider e.
          let up = wider_le f room other wider in
          let local = all_local room other up in
          let more = all_read other in
          let a = alone_by room other up (init other) ts (init room ts) f rest h (init_local room other up (expr room) (expr other) (list room) (list other) read.exprs more.exprs read.lists more.lists local.exprs local.lists ts) wider in
          (a.front ++ w, record { front = a.front; one = a.split; two = refl }, a.again w e);
    }
