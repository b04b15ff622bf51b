-- Expressions, variables and parameters in statements are read the same whatever stands behind, and with more levels.
use Rattle.std.proofs.Common.{◌≡◌, ℕ, zero, suc, ◌≤◌, Bool, true, false, cond, ltb, List, [], ◌∷◌, ◌++◌, Some, None, Err, refl, sym, ap, ◌∙◌, subst, arith}
use Rattle.std.proofs.lemmas.Bool.{or_parts}
use Rattle.jr_base.specs.declared.text.Text.{Text}
use Rattle.jr_base.specs.declared.kind.Kind.{Kind}
use Rattle.jr_base.specs.declared.kind.Kind.TheVariants as kind
use Rattle.jr_base.specs.declared.kind.Symbol.{Symbol}
use Rattle.jr_base.specs.declared.kind.Symbol.TheVariants as y
use Rattle.jr_base.specs.declared.kind.Keyword.TheVariants as k
use Rattle.jr_tree.specs.declared.tree.Name.{Name}
use Rattle.jr_tree.specs.Levels.{is_assignment, is_step}
use Rattle.jr_tree.specs.Mirror.Exprs as x
use Rattle.jr_tree.specs.Mirror.Stmts as s
use Rattle.jr_parse_laws.specs.declared.fault.Fault.TheVariants.{NoTree, TooDeep}
use Rattle.jr_parse_laws.specs.Parsers.{Outcome, Parser, and_then, first, pure, begins_with, many, after_comma, ◌>>=◌}
use Rattle.std.specs.Prelude.{⊤}
use Rattle.jr_parse_laws.proofs.Lists.{Shortens}
use Rattle.jr_parse_starts.specs.Starts.{begins_effect, begins_primary, is_plain_literal, starts_expr, starts_effect, next_is, no_level, within}
use Rattle.jr_parse_expr.specs.Names.{name_of, dims, name, name_after, type_use, Plain, dotted}
use Rattle.jr_parse_expr.specs.Exprs as reader
use Rattle.jr_parse_expr.specs.Exprs.{Lead, Nothing, Named, Indexed, This, Super, goes_on, goes_on_name, goes_on_primary, goes_on_super, below, next_token, any_commas, expr, list, effect, init}
use Rattle.jr_parse_expr.proofs.Locals.{Kept, here}
use Rattle.jr_parse_expr.proofs.NameLocals.{after_local, name_local, dims_local, type_local}
use Rattle.jr_parse_expr.proofs.ExprReads.{all_read}
use Rattle.jr_parse_expr.proofs.AllLocals.{all_local, none_kept_by, expr_refused, init_local}
use Rattle.jr_parse_expr.proofs.EffectLocals.{flag_local}
use Rattle.jr_parse_expr.proofs.EffectStuck.{effect_local}
use Rattle.jr_parse_defs.specs.Stmts as defs
use Rattle.jr_parse_defs.proofs.Nears.{Near, by_next, then, gives, symbol, ident, skips, if_at, if_word, several, behind_comma, with_commas, any_with_commas, forced}
use Rattle.jr_parse_defs.proofs.Lists.{shortens_by}
use Rattle.jr_parse_defs.specs.Writing.{write_after, write_declarator}
use Rattle.jr_parse_expr.specs.Writing.{write_expr}
use Rattle.jr_parse_defs.proofs.Variables as variables
use Rattle.jr_parse_defs.proofs.Expressions as expressions

-- ---- what goes on with no expression that stands as a statement, at any level

plain_refused : (token : Kind) (ts : List Kind) (o : List Kind → Outcome x.Expr) → is_plain_literal token ≡ false → cond (is_plain_literal token) (o ts) (Err (NoTree, token ∷ ts)) ≡ Err (NoTree, token ∷ ts)
plain_refused token ts o h = rw h refl

not_plain : (token : Kind) → begins_effect token ≡ false → is_plain_literal token ≡ false
not_plain (kind.Word w) h = (or_parts (begins_primary w) (is_plain_literal (kind.Word w)) h).1
not_plain (kind.Ident n) h = absurd (cc)
not_plain (kind.Sym s) h = refl
not_plain token h = h

-- whatever has been read, but for a name
abbrev pub Unnamed : Lead → Type 0
Unnamed (Named d) = ⊥
Unnamed lead = ⊤

module _ (room : ℕ) where
  abbrev once : Lead → Parser x.Expr
  once lead = reader.effects room (expr room) (list room) (expr (below room)) (list (below room)) lead

  step_refused : (s : Symbol) (ts : List Kind) → is_step s ≡ false
      → cond (is_step s) (reader.prefix room (expr room) (list room) s ts) (Err (NoTree, kind.Sym s ∷ ts)) ≡ Err (NoTree, kind.Sym s ∷ ts)
  step_refused s ts h = rw h refl

  by_refused : (token : Kind) (ts : List Kind) → begins_effect token ≡ false → reader.effect_by room (expr room) (list room) (expr (below room)) (list (below room)) token ts ≡ Err (NoTree, token ∷ ts)
  by_refused (kind.Ident n) ts h = absurd (cc)
  by_refused (kind.Word k.This) ts h = absurd (cc)
  by_refused (kind.Word k.Super) ts h = absurd (cc)
  by_refused (kind.Word k.New) ts h = absurd (cc)
  by_refused (kind.Sym y.OpenParen) ts h = absurd (cc)
  by_refused (kind.Sym s) ts h = step_refused s ts h
  by_refused token ts h = plain_refused token ts (within 1 room token (pure (x.Lit token))) (not_plain token h)

  begin_refused : (ts : List Kind) → starts_effect (first ts) ≡ false → once Nothing ts ≡ Err (NoTree, ts)
  unfolding reader.effects
  begin_refused [] h = refl
  begin_refused (token ∷ ts) h =
      ap (λ o. and_then (and_then o (reader.effect_suffixes room (expr room) (list room) (expr (below room)) (list (below room)))) (reader.effect_end room (expr room) (list room))) (by_refused token ts h)

  bracket_refused : (n : Name) (ts : List Kind) → starts_expr (first ts) ≡ false → once (Indexed n) ts ≡ Err (NoTree, ts)
  unfolding reader.effects reader.after_bracket
  bracket_refused n ts h = rw (expr_refused (below room) 0 ts h) refl

  this_refused : (ts : List Kind) → next_is goes_on_primary (first ts) ≡ false → once This ts ≡ Err (NoTree, ts)
  unfolding reader.effects reader.effect_suffixes reader.effect_end
  this_refused [] h = refl
  this_refused (kind.Sym y.Dot ∷ ts) h = absurd (cc)
  this_refused (kind.Sym y.OpenBracket ∷ ts) h = absurd (cc)
  this_refused (kind.Sym y.PlusPlus ∷ ts) h = absurd (cc)
  this_refused (kind.Sym y.MinusMinus ∷ ts) h = absurd (cc)
  this_refused (kind.Sym s ∷ ts) h = refl
  this_refused (token ∷ ts) h = refl

  super_refused : (ts : List Kind) → next_is goes_on_super (first ts) ≡ false → once Super ts ≡ Err (NoTree, ts)
  unfolding reader.effects reader.super_member
  super_refused [] h = refl
  super_refused (kind.Sym y.Dot ∷ ts) h = absurd (cc)
  super_refused (token ∷ ts) h = refl

  name_ends : (before : List Text) (last : Text) (op : Symbol) (ts : List Kind) → is_assignment op ≡ false
      → reader.effect_end_by room (expr room) (list room) (x.NameExpr (name_of (before ++ last ∷ []))) (Some op) (kind.Sym op ∷ ts) ≡ Err (NoTree, kind.Sym op ∷ ts)
  name_ends before last op ts h = rw h refl

  name_refused : (before : List Text) (last : Text) (ts : List Kind) → next_is goes_on_name (first ts) ≡ false → begins_with y.Dot (first ts) ≡ false → begins_with y.OpenBracket (first ts) ≡ false
      → once (Named (Plain before last)) ts ≡ Err (NoTree, ts)
  unfolding reader.effects reader.after_dotted reader.effect_suffixes reader.effect_end
  name_refused before last [] h dot bracket = refl
  name_refused before last (kind.Sym y.Dot ∷ ts) h dot bracket = absurd (cc)
  name_refused before last (kind.Sym y.OpenBracket ∷ ts) h dot bracket = absurd (cc)
  name_refused before last (kind.Sym y.OpenParen ∷ ts) h dot bracket = absurd (cc)
  name_refused before last (kind.Sym y.PlusPlus ∷ ts) h dot bracket = absurd (cc)
  name_refused before last (kind.Sym y.MinusMinus ∷ ts) h dot bracket = absurd (cc)
  name_refused before last (kind.Sym s ∷ ts) h dot bracket = name_ends before last s ts (or_parts (is_step s) (is_assignment s) h).1
  name_refused before last (token ∷ ts) h dot bracket = refl

effect_refused : (room : ℕ) (lead : Lead) (ts : List Kind) → Unnamed lead → goes_on lead (first ts) ≡ false → effect room lead ts ≡ Err (NoTree, ts)
unfolding effect
effect_refused zero lead ts is h = rw h refl
effect_refused (suc room) Nothing ts is h = begin_refused room ts h
effect_refused (suc room) (Named d) ts is h = absurd is
effect_refused (suc room) (Indexed n) ts is h = bracket_refused room n ts h
effect_refused (suc room) This ts is h = this_refused room ts h
effect_refused (suc room) Super ts is h = super_refused room ts h

named_refused : (room : ℕ) (before : List Text) (last : Text) (ts : List Kind) → next_is goes_on_name (first ts) ≡ false → begins_with y.Dot (first ts) ≡ false → begins_with y.OpenBracket (first ts) ≡ false
    → effect room (Named (Plain before last)) ts ≡ Err (NoTree, ts)
unfolding effect
named_refused zero before last ts h dot bracket = rw h refl
named_refused (suc room) before last ts h dot bracket = name_refused room before last ts h dot bracket

effect_zero : (lead : Lead) (ts : List Kind) → effect zero lead ts ≡ no_level (goes_on lead) ts
unfolding effect
effect_zero lead ts = refl

-- ---- where an expression that stands as a statement is read

module _ (room other : ℕ) (le : room ≤ other) where
  abbrev pub N : {A : Type 0} → Parser A → Parser A → Type 0
  N p q = Near room other le p q

pub effect_up : (room other : ℕ) (le : room ≤ other) → 1 ≤ room → (lead : Lead) → Near room other le (effect room lead) (effect other lead)
effect_up zero other le some lead = absurd (omega arith)
effect_up (suc room) zero le some lead = absurd (omega arith)
effect_up (suc room) (suc other) le some lead = record { kept = effect_local room other (omega arith) le lead }

pub effect_near : (room other : ℕ) (le : room ≤ other) (lead : Lead) → Unnamed lead → Near room other le (effect room lead) (effect other lead)
effect_near zero other le lead is = record {
  kept = λ ts. subst (Kept zero other le (effect other lead) ts) (sym (effect_zero lead ts))
      (none_kept_by other le (goes_on lead) (λ n. effect n lead) ts (goes_on lead (first ts)) refl (effect_zero lead) (λ w h. effect_refused other lead w is h));
}
effect_near (suc room) other le lead is = effect_up (suc room) other le (omega arith) lead

pub named_kept : (room other : ℕ) (le : room ≤ other) (before : List Text) (last : Text) (ts : List Kind) → begins_with y.Dot (first ts) ≡ false → begins_with y.OpenBracket (first ts) ≡ false
    → Kept room other le (effect other (Named (Plain before last))) ts (effect room (Named (Plain before last)) ts)
named_kept zero other le before last ts dot bracket =
    subst (Kept zero other le (effect other (Named (Plain before last))) ts) (sym (effect_zero (Named (Plain before last)) ts)) (go (next_is goes_on_name (first ts)) refl) where
      go : (b : Bool) → next_is goes_on_name (first ts) ≡ b → Kept zero other le (effect other (Named (Plain before last))) ts (cond b (Err (TooDeep, ts)) (Err (NoTree, ts)))
      go true h = λ wider. here zero other le (effect other (Named (Plain before last))) (λ w. Err (TooDeep, w)) ts
          (λ w e. let n : other ≡ zero = wider in ap (λ n. effect n (Named (Plain before last)) w) n ∙ effect_zero (Named (Plain before last)) w ∙ rw (sym (ap (next_is goes_on_name) e) ∙ h) refl)
      go false h = λ wider. here zero other le (effect other (Named (Plain before last))) (λ w. Err (NoTree, w)) ts
          (λ w e. named_refused other before last w (sym (ap (next_is goes_on_name) e) ∙ h) (sym (ap (begins_with y.Dot) e) ∙ dot) (sym (ap (begins_with y.OpenBracket) e) ∙ bracket))
named_kept (suc room) other le before last ts dot bracket = (effect_up (suc room) other le (omega arith) (Named (Plain before last))).kept ts

-- ---- parts of statements

effects_shorten : (room : ℕ) → Shortens (after_comma (effect room Nothing))
effects_shorten room = shortens_by (expressions.Fits room) (write_after write_expr) (after_comma (effect room Nothing)) (expressions.later_sound room) (expressions.later_longer room)

variables_shorten : (room : ℕ) → Shortens (after_comma (defs.declarator room))
variables_shorten room = shortens_by (variables.Fits room) (write_after write_declarator) (after_comma (defs.declarator room)) (variables.later_sound room) (variables.later_longer room)

module _ (room other : ℕ) (le : room ≤ other) where
  pub whole_near : (least : ℕ) → Near room other le (expr room Nothing least) (expr other Nothing least)
  whole_near least = record { kept = (all_local room other le).exprs.plain least }

  init_near : Near room other le (init room) (init other)
  init_near =
      let one = all_read room in
      let two = all_read other in
      let near = all_local room other le in
      record { kept = init_local room other le (expr room) (expr other) (list room) (list other) one.exprs two.exprs one.lists two.lists near.exprs near.lists }

  pub name_near : Near room other le name name
  name_near = record { kept = name_local room other le }

  pub name_after_near : (head : Text) → Near room other le (name_after head) (name_after head)
  name_after_near head = record { kept = after_local room other le head }

  pub dims_near : Near room other le dims dims
  dims_near = record { kept = dims_local room other le }

  pub type_near : Near room other le type_use type_use
  type_near = record { kept = type_local room other le }

  -- a name, and whether there are levels for `this`
  pub dotted_near : (head : Text) → Near room other le (dotted (defs.has_this room) [] head) (dotted (defs.has_this other) [] head)
  dotted_near head = record { kept = flag_local room other le 2 [] head (ltb room 2) (ltb other 2) refl refl }

  assigned_near : Near room other le (next_token (λ token. within 1 room token (init room >>= (λ i. pure (Some i))))) (next_token (λ token. within 1 other token (init other >>= (λ i. pure (Some i)))))
  assigned_near =
      by_next (λ token. within 1 room token (init room >>= (λ i. pure (Some i)))) (λ token. within 1 other token (init other >>= (λ i. pure (Some i))))
      (λ token ts. forced (init room >>= (λ i. pure (Some i))) (init other >>= (λ i. pure (Some i))) (next_token (λ token. within 1 other token (init other >>= (λ i. pure (Some i))))) 1 token ts (λ us. refl) (then init_near (λ i. gives (Some i))))

  initializer_near : Near room other le (defs.initializer room) (defs.initializer other)
  initializer_near = if_at y.Assign assigned_near (gives None)

  declarator_after_near : (v : Text) → Near room other le (defs.declarator_after room v) (defs.declarator_after other v)
  unfolding defs.declarator_after
  declarator_after_near v = then dims_near (λ pairs. then initializer_near (λ i. gives (s.DeclaratorOf v pairs i)))

  declarator_near : Near room other le (defs.declarator room) (defs.declarator other)
  declarator_near = then ident declarator_after_near

  pub declarators_near : Near room other le (defs.declarators room) (defs.declarators other)
  declarators_near = with_commas (variables_shorten room) (variables_shorten other) declarator_near

  pub declarators_after_near : (v : Text) → Near room other le (defs.declarators_after room v) (defs.declarators_after other v)
  unfolding defs.declarators_after
  declarators_after_near v =
      then (declarator_after_near v) (λ d. then (several (begins_with y.Comma) refl (variables_shorten room) (variables_shorten other) (behind_comma declarator_near)) (λ others. gives (d ∷ others)))

  pub finality_near : Near room other le defs.finality defs.finality
  finality_near = if_word k.Final (skips (gives true)) (gives false)

  pub param_near : Near room other le defs.param defs.param
  unfolding defs.param
  param_near = then finality_near (λ b. then type_near (λ ty. then ident (λ v. then dims_near (λ pairs. gives (defs.param_of b ty v pairs)))))

  pub condition_near : Near room other le (defs.condition room) (defs.condition other)
  condition_near = then (symbol y.OpenParen) (λ u. then (whole_near 0) (λ c. then (symbol y.CloseParen) (λ v. gives c)))

  pub others_near : Near room other le (many (begins_with y.Comma) (after_comma (effect room Nothing))) (many (begins_with y.Comma) (after_comma (effect other Nothing)))
  others_near = several (begins_with y.Comma) refl (effects_shorten room) (effects_shorten other) (behind_comma (effect_near room other le Nothing tt))

  pub updates_near : Near room other le (any_commas starts_effect (effect room Nothing)) (any_commas starts_effect (effect other Nothing))
  updates_near = any_with_commas starts_effect (effects_shorten room) (effects_shorten other) (effect_near room other le Nothing tt)
