-- Where reading a name or a type stops, what stands before begins one.
use Rattle.std.proofs.Common.{◌≡◌, ℕ, zero, suc, true, List, [], ◌∷◌, ◌++◌, length, Option, Some, None, Ok, Err, refl, sym, ap, ◌∙◌, subst}
use Rattle.jr_base.specs.declared.text.Text.{Text}
use Rattle.jr_base.specs.declared.kind.Kind.{Kind}
use Rattle.jr_base.specs.declared.kind.Kind.TheVariants as kind
use Rattle.jr_base.specs.declared.kind.Symbol.{Symbol}
use Rattle.jr_base.specs.declared.kind.Symbol.TheVariants as y
use Rattle.jr_base.specs.declared.kind.Keyword.TheVariants as k
use Rattle.jr_tree.specs.declared.tree.Name.{Name}
use Rattle.jr_tree.specs.declared.tree.Primitive.{Primitive}
use Rattle.jr_tree.specs.declared.tree.Base.{Base}
use Rattle.jr_tree.specs.declared.tree.Base.TheVariants as base
use Rattle.jr_tree.specs.declared.tree.TypeUse.{TypeUse}
use Rattle.jr_tree.specs.Words.{brackets, base_tokens, name_tokens}
use Rattle.jr_tree.specs.Shape.{IsName, IsBase, IsTypeUse}
use Rattle.jr_parse_laws.specs.declared.fault.Fault.{Fault}
use Rattle.jr_parse_laws.specs.declared.fault.Fault.TheVariants.{NoTree}
use Rattle.jr_parse_laws.specs.Parsers.{Parser, first, begins_with, expect, identifier, with_front, ◌>>◌}
use Rattle.jr_parse_laws.proofs.Outcomes.{ok_err, err_is, is_symbol_is, Before, After, stops}
use Rattle.jr_parse_laws.proofs.Stops.{Leading, leading_nothing}
use Rattle.jr_parse_laws.proofs.Exact.{identifier_token, symbol_token}
use Rattle.jr_parse_laws.proofs.Turns.{behind_shortens, expect_keeps, identifier_keeps}
use Rattle.jr_parse_expr.specs.Names.{name_of, type_of, pairs, dims, parts, name_after, name, primitive_at, base_by, element, type_use, dotted_from, dotted}
use Rattle.jr_parse_expr.specs.Writing.{write_parts, write_all, write_name, write_brackets, write_base, write_type}
use Rattle.jr_parse_expr.proofs.Written.{name_written, brackets_written, base_written}
use Rattle.jr_parse_expr.proofs.NameReads.{behind_sound, parts_append, all_append, element_sound}
use Rattle.jr_parse_expr.proofs.Growths as g
use Rattle.jr_parse_expr.proofs.Growths.{Growing, leading_tokens, leading_then, leading_one, grows, none_grows}

pub leading_name : (n : Name) → Leading (write_name n)
leading_name n = leading_tokens (write_name n) (name_tokens n) (name_written n)

pub leading_brackets : (n : ℕ) → Leading (write_brackets n)
leading_brackets n = leading_tokens (write_brackets n) (brackets n) (brackets_written n)

pub leading_base : (b : Base) → Leading (write_base b)
leading_base b = leading_tokens (write_base b) (base_tokens b) (base_written b)

expect_stop : (s : Symbol) (ts : List Kind) (stop : Fault × List Kind) → expect s ts ≡ Err stop → (NoTree, ts) ≡ stop
expect_stop s ts stop h = (symbol_token s).stops ts stop h

-- a symbol that is there, and then what stops
pub behind_stop : {A : Type 0} (s : Symbol) (p : Parser A) (ts : List Kind) (stop : Fault × List Kind) → begins_with s (first ts) ≡ true → (expect s >> p) ts ≡ Err stop → (us : List Kind) × (ts ≡ kind.Sym s ∷ us) × (p us ≡ Err stop)
behind_stop s p [] stop b h = absurd (cc)
behind_stop s p (token ∷ us) stop b h = (us, ap (λ token. token ∷ us) (is_symbol_is s token b), sym (rw b refl) ∙ h)

-- ---- names

part_sound : (ts : List Kind) (r : Text × List Kind) → (expect y.Dot >> identifier) ts ≡ Ok r → Unit {0} × (ts ≡ kind.Sym y.Dot ∷ kind.Ident r.0 ∷ r.1)
part_sound ts r h =
    let b = behind_sound y.Dot identifier ts r h in
    (tt, b.1 ∙ ap (λ us. kind.Sym y.Dot ∷ us) (identifier_token.took b.0 r b.2))

abbrev write_part : Text → List Kind → List Kind
write_part part rest = kind.Sym y.Dot ∷ kind.Ident part ∷ rest

parts_all : (all : List Text) (rest : List Kind)
    → g.write_all (begins_with y.Dot) (expect y.Dot >> identifier) (behind_shortens y.Dot identifier identifier_keeps) (λ t. Unit {0}) write_part part_sound all rest ≡ write_parts all rest
parts_all [] rest = refl
parts_all (part ∷ all) rest = ap (λ ts. kind.Sym y.Dot ∷ kind.Ident part ∷ ts) (parts_all all rest)

-- behind a dot
pub record NameStop (ts : List Kind) (stop : Fault × List Kind) : Type 0 where
  pub all : List Text
  pub rest : List Kind
  pub split : ts ≡ write_parts all (kind.Sym y.Dot ∷ rest)
  pub here : (NoTree, rest) ≡ stop

parts_stop : (ts : List Kind) (stop : Fault × List Kind) → parts ts ≡ Err stop → NameStop ts stop
parts_stop ts stop h =
    let s = g.many_stopped (begins_with y.Dot) (expect y.Dot >> identifier) (behind_shortens y.Dot identifier identifier_keeps) (λ t. Unit {0}) write_part part_sound ts stop h in
    let b = behind_stop y.Dot identifier s.rest stop s.begun s.stopped in
    record { all = s.all; rest = b.0; split = s.split ∙ parts_all s.all s.rest ∙ ap (write_parts s.all) b.1; here = identifier_token.stops b.0 stop b.2 }

abbrev pub IsNameIn : ℕ → Name → Type 0
IsNameIn r n = IsName n

pub name_after_grows : (room : ℕ) (head : Text) (ts : List Kind) (stop : Fault × List Kind) → name_after head ts ≡ Err stop → Growing IsNameIn write_name room (kind.Ident head ∷ ts) stop
unfolding name_after
name_after_grows room head ts stop h =
    elim (stops (with_front (head ∷ []) (parts ts)) _ stop h) [
      | After all rest e d ↦ absurd (ok_err d)
      | Before e ↦
          (elim (stops (parts ts) _ stop e) [
            | After all rest e d ↦ absurd (ok_err d)
            | Before i ↦
                (let s = parts_stop ts stop i in
                let n = name_of (head ∷ s.all) in
                subst (λ ts. Growing IsNameIn write_name room (kind.Ident head ∷ ts) stop) (sym s.split)
                (subst (Growing IsNameIn write_name room (kind.Ident head ∷ write_parts s.all (kind.Sym y.Dot ∷ s.rest))) s.here
                (none_grows room s.rest (λ z. write_name n (kind.Sym y.Dot ∷ z)) (leading_then (leading_name n) (leading_one (kind.Sym y.Dot))) (name_of (head ∷ (s.all ++ [] ∷ []))) (λ z. kind.Ident [] ∷ z)
                (λ z. ap (λ ts. kind.Ident head ∷ ts) (parts_append s.all ([] ∷ []) z)) refl)))
          ])
    ]

pub name_grows : (room : ℕ) (ts : List Kind) (stop : Fault × List Kind) → name ts ≡ Err stop → Growing IsNameIn write_name room ts stop
name_grows room ts stop h =
    elim (stops (identifier ts) name_after stop h) [
      | Before e ↦
          subst (Growing IsNameIn write_name room ts) (identifier_token.stops ts stop e)
          (none_grows room ts (λ z. z) leading_nothing (name_of ([] ∷ [])) (λ z. kind.Ident [] ∷ z) (λ z. refl) refl)
      | After head rest e d ↦ subst (λ ts. Growing IsNameIn write_name room ts stop) (sym (identifier_token.took ts (head, rest) e)) (name_after_grows room head rest stop d)
    ]

-- ---- pairs of brackets

abbrev write_pair : Unit {0} → List Kind → List Kind
write_pair u rest = kind.Sym y.OpenBracket ∷ kind.Sym y.CloseBracket ∷ rest

pair_sound : (ts : List Kind) (r : Unit {0} × List Kind) → (expect y.OpenBracket >> expect y.CloseBracket) ts ≡ Ok r → Unit {0} × (ts ≡ write_pair r.0 r.1)
pair_sound ts r h =
    let b = behind_sound y.OpenBracket (expect y.CloseBracket) ts r h in
    (tt, b.1 ∙ ap (λ us. kind.Sym y.OpenBracket ∷ us) ((symbol_token y.CloseBracket).took b.0 r b.2))

pairs_all : (all : List (Unit {0})) (rest : List Kind)
    → g.write_all (begins_with y.OpenBracket) (expect y.OpenBracket >> expect y.CloseBracket) (behind_shortens y.OpenBracket (expect y.CloseBracket) (expect_keeps y.CloseBracket)) (λ t. Unit {0}) write_pair pair_sound all rest
    ≡ write_brackets (length all) rest
pairs_all [] rest = refl
pairs_all (u ∷ all) rest = ap (λ ts. kind.Sym y.OpenBracket ∷ kind.Sym y.CloseBracket ∷ ts) (pairs_all all rest)

-- behind an open bracket
pub record DimsStop (ts : List Kind) (stop : Fault × List Kind) : Type 0 where
  pub count : ℕ
  pub rest : List Kind
  pub split : ts ≡ write_brackets count (kind.Sym y.OpenBracket ∷ rest)
  pub here : (NoTree, rest) ≡ stop

pub dims_stop : (ts : List Kind) (stop : Fault × List Kind) → dims ts ≡ Err stop → DimsStop ts stop
unfolding dims
dims_stop ts stop h =
    elim (stops (pairs ts) _ stop h) [
      | After all rest e d ↦ absurd (ok_err d)
      | Before e ↦
          (let s = g.many_stopped (begins_with y.OpenBracket) (expect y.OpenBracket >> expect y.CloseBracket) (behind_shortens y.OpenBracket (expect y.CloseBracket) (expect_keeps y.CloseBracket)) (λ t. Unit {0}) write_pair pair_sound ts stop e in
          let b = behind_stop y.OpenBracket (expect y.CloseBracket) s.rest stop s.begun s.stopped in
          record { count = length s.all; rest = b.0; split = s.split ∙ pairs_all s.all s.rest ∙ ap (write_brackets (length s.all)) b.1; here = expect_stop y.CloseBracket b.0 stop b.2 })
    ]

-- one pair more
pub brackets_more : (n : ℕ) (z : List Kind) → write_brackets (suc n) z ≡ write_brackets n (kind.Sym y.OpenBracket ∷ kind.Sym y.CloseBracket ∷ z)
brackets_more zero z = refl
brackets_more (suc n) z = ap (λ ts. kind.Sym y.OpenBracket ∷ kind.Sym y.CloseBracket ∷ ts) (brackets_more n z)

-- ---- types

abbrev pub IsBaseIn : ℕ → Base → Type 0
IsBaseIn r b = IsBase b

base_grows : (room : ℕ) (o : Option Primitive) (ts : List Kind) (stop : Fault × List Kind) → primitive_at ts ≡ o → base_by o ts ≡ Err stop → Growing IsBaseIn write_base room ts stop
base_grows room None ts stop p h =
    elim (stops (name ts) _ stop h) [
      | Before e ↦ grows room room ts stop (λ z. z) leading_nothing base.Named (λ z. z) (λ a z. refl) (λ r a is. (r, is)) (λ a is. is) (name_grows room ts stop e)
      | After n rest e d ↦ absurd (ok_err d)
    ]
base_grows room (Some q) [] stop p h = absurd (cc)
base_grows room (Some q) (token ∷ ts) stop p h = absurd (ok_err h)

pub element_grows : (room : ℕ) (ts : List Kind) (stop : Fault × List Kind) → element ts ≡ Err stop → Growing IsBaseIn write_base room ts stop
unfolding element
element_grows room ts stop h = base_grows room (primitive_at ts) ts stop refl h

abbrev pub IsTypeIn : ℕ → TypeUse → Type 0
IsTypeIn r t = IsTypeUse t

pub type_grows : (room : ℕ) (ts : List Kind) (stop : Fault × List Kind) → type_use ts ≡ Err stop → Growing IsTypeIn write_type room ts stop
unfolding type_use
type_grows room ts stop h =
    elim (stops (element ts) _ stop h) [
      | Before e ↦ grows room room ts stop (λ z. z) leading_nothing (λ b. type_of b 0) (λ z. z) (λ a z. refl) (λ r a is. (r, is)) (λ a is. is) (element_grows room ts stop e)
      | After b rest e d ↦
          (let found = element_sound ts (b, rest) e in
          elim (stops (dims rest) _ stop d) [
            | After n left i d ↦ absurd (ok_err d)
            | Before i ↦
                (let s = dims_stop rest stop i in
                subst (λ ts. Growing IsTypeIn write_type room ts stop) (sym (found.written ∙ ap (write_base b) s.split))
                (subst (Growing IsTypeIn write_type room (write_base b (write_brackets s.count (kind.Sym y.OpenBracket ∷ s.rest)))) s.here
                (none_grows room s.rest (λ z. write_base b (write_brackets s.count (kind.Sym y.OpenBracket ∷ z))) (leading_then (leading_base b) (leading_then (leading_brackets s.count) (leading_one (kind.Sym y.OpenBracket))))
                (type_of b (suc s.count)) (λ z. kind.Sym y.CloseBracket ∷ z) (λ z. ap (write_base b) (brackets_more s.count z)) found.is)))
          ])
    ]

-- ---- a name at the head of an expression

-- behind a dot
pub record DottedStop (before : List Text) (last : Text) (ts : List Kind) (stop : Fault × List Kind) : Type 0 where
  pub front : List Text
  pub final : Text
  pub rest : List Kind
  pub split : write_all (before ++ last ∷ []) ts ≡ write_all (front ++ final ∷ []) (kind.Sym y.Dot ∷ rest)
  pub here : (NoTree, rest) ≡ stop

dotted_from_stop : (turns : ℕ) (before : List Text) (last : Text) (ts : List Kind) (stop : Fault × List Kind) → dotted_from true turns before last ts ≡ Err stop → DottedStop before last ts stop
dotted_from_stop zero before last ts stop h = absurd (ok_err h)
dotted_from_stop (suc turns) before last [] stop h = absurd (ok_err h)
dotted_from_stop (suc turns) before last (kind.Sym y.Dot ∷ []) stop h = record { front = before; final = last; rest = []; split = refl; here = err_is h }
dotted_from_stop (suc turns) before last (kind.Sym y.Dot ∷ kind.Ident part ∷ ts) stop h =
    let more = dotted_from_stop turns (before ++ last ∷ []) part ts stop h in
    record { front = more.front; final = more.final; rest = more.rest; split = sym (all_append before last (part ∷ []) ts) ∙ more.split; here = more.here }
dotted_from_stop (suc turns) before last (kind.Sym y.Dot ∷ kind.Word k.This ∷ ts) stop h = absurd (ok_err h)
dotted_from_stop (suc turns) before last (kind.Sym y.Dot ∷ token ∷ ts) stop h = record { front = before; final = last; rest = token ∷ ts; split = refl; here = err_is h }
dotted_from_stop (suc turns) before last (token ∷ ts) stop h = absurd (ok_err h)

pub dotted_stop : (before : List Text) (last : Text) (ts : List Kind) (stop : Fault × List Kind) → dotted true before last ts ≡ Err stop → DottedStop before last ts stop
unfolding dotted
dotted_stop before last ts stop h = dotted_from_stop (length ts) before last ts stop h
