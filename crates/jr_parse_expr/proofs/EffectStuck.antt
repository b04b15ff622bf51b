-- Where reading an expression that stands as a statement stops, as it is stated.
use Rattle.std.proofs.Common.{◌≡◌, ℕ, zero, suc, ◌≤◌, Bool, true, false, not, ltb, List, [], ◌∷◌, ◌++◌, Option, Some, None, Ok, Err, refl, sym, ap, ◌∙◌, subst, arith}
use Rattle.std.proofs.lemmas.Bool.{ltb-true, le-ltb}
use Rattle.jr_base.specs.declared.text.Text.{Text}
use Rattle.jr_base.specs.declared.kind.Kind.{Kind}
use Rattle.jr_base.specs.declared.kind.Kind.TheVariants as kind
use Rattle.jr_base.specs.declared.kind.Symbol.TheVariants as y
use Rattle.jr_base.specs.declared.kind.Keyword.TheVariants as k
use Rattle.jr_tree.specs.Mirror.Exprs as x
use Rattle.jr_parse_laws.specs.declared.fault.Fault.{Fault}
use Rattle.jr_parse_laws.specs.Parsers.{and_then, first}
use Rattle.jr_parse_laws.specs.Viable.{Alike, Wider}
use Rattle.jr_parse_starts.specs.Starts.{within}
use Rattle.jr_parse_expr.specs.Names.{name_of, Dotted, Plain, Enclosing, dotted}
use Rattle.jr_parse_expr.specs.Exprs as reader
use Rattle.jr_parse_expr.specs.Exprs.{Lead, Nothing, Named, Indexed, This, Super, below, expr, list, effect}
use Rattle.jr_parse_expr.specs.Writing.{write_all, write_dotted, write_lead, write_expr}
use Rattle.jr_parse_expr.specs.Follow.{IsEffect, IsLed}
use Rattle.jr_parse_expr.specs.Laws.{HasEffectRoom, IsEffectStuck}
use Rattle.jr_parse_expr.proofs.ExprReads.{all_read, dotted_whole, last_of}
use Rattle.jr_parse_expr.proofs.Locals.{Local}
use Rattle.jr_parse_expr.proofs.AllLocals.{all_local, wider_le, alone_by, raised}
use Rattle.jr_parse_expr.proofs.Growths.{Growing}
use Rattle.jr_parse_expr.proofs.AllGrowths.{all_grow}
use Rattle.jr_parse_expr.proofs.EffectReads.{plain_dotted, effect_flagged}
use Rattle.jr_parse_expr.proofs.EffectChains.{effects_go, effects_grow}
use Rattle.jr_parse_expr.proofs.EffectLocals.{below_both, effects_local}

effect_grows : (room : ℕ) (ts : List Kind) (stop : Fault × List Kind) → effect (suc room) Nothing ts ≡ Err stop → Growing IsEffect write_expr (suc room) ts stop
unfolding effect
effect_grows room ts stop h =
    let reads = all_read room in
    let grow = all_grow room in
    let low_reads = all_read (below room) in
    let low_grow = all_grow (below room) in
    effects_grow room (expr room) (list room) reads.exprs reads.lists grow.exprs grow.lists (expr (below room)) (list (below room)) low_reads.exprs low_reads.lists low_grow.exprs low_grow.lists ts stop h

pub effect_local : (room other : ℕ) (le : room ≤ other) (le' : suc room ≤ suc other) (lead : Lead) → Local (suc room) (suc other) le' (effect (suc room) lead) (effect (suc other) lead)
unfolding effect
effect_local room other le le' lead ts =
    let down = below_both room other le in
    let one = all_read room in
    let two = all_read other in
    let one_low = all_read (below room) in
    let two_low = all_read (below other) in
    let near = all_local room other le in
    let low_near = all_local (below room) (below other) down in
    raised room other le le' (effect (suc other) lead) ts (effect (suc room) lead ts)
    (effects_local room other le down (expr room) (expr other) (list room) (list other) one.exprs two.exprs near.exprs near.lists (expr (below room)) (expr (below other)) (list (below room)) (list (below other))
    one_low.exprs two_low.exprs low_near.exprs low_near.lists two.lists two_low.lists lead ts)

-- ---- what was read before may as well be read now

flagged : (room : ℕ) (head : Text) (us : List Kind) (d : Dotted) (ts : List Kind) (b : Bool) → ltb room 1 ≡ b → HasEffectRoom (Named d) (suc room) → dotted true [] head us ≡ Ok (d, ts) → dotted (not b) [] head us ≡ Ok (d, ts)
flagged room head us d ts false e some h = h
flagged room head us (Plain before last) ts true e some h = plain_dotted [] head us (Plain before last, ts) refl h
flagged room head us (Enclosing before last) ts true e some h = absurd (let s = ltb-true room 1 e in omega arith)

named_same : (room : ℕ) (d : Dotted) (ts : List Kind) → HasEffectRoom (Named d) (suc room) → IsLed (Named d) (first ts) → effect (suc room) Nothing (write_dotted d ts) ≡ effect (suc room) (Named d) ts
named_same room d ts some led =
    let w = dotted_whole d ts led in
    ap (effect (suc room) Nothing) w.2 ∙ effect_flagged room w.0 w.1 ∙ ap (λ o. and_then o (λ d. effect (suc room) (Named d))) (flagged room w.0 w.1 d ts (ltb room 1) refl some w.3)

effect_bracket : (room : ℕ) (before : List Text) (last : Text) (ts : List Kind) → 2 ≤ room
    → effect (suc room) (Named (Plain before last)) (kind.Sym y.OpenBracket ∷ ts) ≡ effect (suc room) (Indexed (name_of (before ++ last ∷ []))) ts
unfolding effect reader.effects reader.after_dotted reader.after_bracket
effect_bracket room before last ts some =
    let n = x.NameExpr (name_of (before ++ last ∷ [])) in
    let reads = all_read room in
    let low = all_read (below room) in
    ap (λ o. and_then o (reader.effect_end room (expr room) (list room)))
    (effects_go room (expr room) (list room) (expr (below room)) (list (below room)) reads.exprs reads.lists low.exprs low.lists n (kind.Sym y.OpenBracket) ts
    (within 2 room (kind.Sym y.OpenBracket) (reader.indexed (below room) (expr (below room)) (list (below room)) n)) refl (omega arith) ∙ rw (le-ltb room 2 some) refl)

this_same : (room : ℕ) (ts : List Kind) → 1 ≤ room → effect (suc room) Nothing (kind.Word k.This ∷ ts) ≡ effect (suc room) This ts
unfolding effect reader.effects
this_same room ts some = rw (le-ltb room 1 some) refl

super_same : (room : ℕ) (ts : List Kind) → effect (suc room) Nothing (kind.Word k.Super ∷ ts) ≡ effect (suc room) Super ts
unfolding effect reader.effects
super_same room ts = refl

lead_same : (room : ℕ) (lead : Lead) (ts : List Kind) → HasEffectRoom lead (suc room) → IsLed lead (first ts) → effect (suc room) Nothing (write_lead lead ts) ≡ effect (suc room) lead ts
lead_same room Nothing ts some led = refl
lead_same room (Named d) ts some led = named_same room d ts some led
lead_same room (Indexed n) ts some led =
    let l = last_of n.parts led in
    ap (λ all. effect (suc room) Nothing (write_all all (kind.Sym y.OpenBracket ∷ ts))) l.2
    ∙ named_same room (Plain l.0 l.1) (kind.Sym y.OpenBracket ∷ ts) (omega arith) refl
    ∙ effect_bracket room l.0 l.1 ts (omega arith)
    ∙ ap (λ n. effect (suc room) (Indexed n) ts) (ap name_of (sym l.2))
lead_same room This ts some led = this_same room ts (omega arith)
lead_same room Super ts some led = super_same room ts

no_room : (lead : Lead) → HasEffectRoom lead zero → ⊥
no_room Nothing h = omega arith
no_room (Named (Plain before last)) h = omega arith
no_room (Named (Enclosing before last)) h = omega arith
no_room (Indexed n) h = omega arith
no_room This h = omega arith
no_room Super h = omega arith

pub effects_stuck : IsEffectStuck
effects_stuck zero lead ts f rest some led h = absurd (no_room lead some)
effects_stuck (suc room) lead ts f rest some led h =
    let g = effect_grows room (write_lead lead ts) (f, rest) (lead_same room lead ts some led ∙ h) in
    record {
      viable = g.viable;
      deeper = g.deeper;
      alone = λ other w wider e.
          let up = wider_le f (suc room) other wider in
          alone_at other w wider e up;
    } where
      again : (other : ℕ) (le : suc room ≤ suc other) (w : List Kind) → Wider f (suc room) (suc other) → first rest ≡ first w → (us : List Kind) × Alike rest w ts us × (effect (suc other) lead us ≡ Err (f, w))
      again other le w wider e =
          let low : room ≤ other = omega arith in
          let a = alone_by (suc room) (suc other) le (effect (suc other) lead) ts (effect (suc room) lead ts) f rest h (effect_local room other low le lead ts) wider in
          (a.front ++ w, record { front = a.front; one = a.split; two = refl }, a.again w e)

      alone_at : (other : ℕ) (w : List Kind) → Wider f (suc room) other → first rest ≡ first w → suc room ≤ other → (us : List Kind) × Alike rest w ts us × (effect other lead us ≡ Err (f, w))
      alone_at zero w wider e up = absurd (omega arith)
      alone_at (suc other) w wider e up = again other up w wider e
